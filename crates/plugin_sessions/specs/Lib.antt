-- Sessions of plug-ins, as definitions.
pub mod PluginSession
pub mod TwoPluginSession
