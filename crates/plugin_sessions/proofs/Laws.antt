-- What is proved of sessions of plug-ins.
pub use Rattle.plugin_sessions.proofs.Sessions.{session_state_back, plugin_session, plugin_meaning}
pub use Rattle.plugin_sessions.proofs.TwoSessions.{two_state_back, session_two_accepted, two_plugin_session, two_plugin_meaning}
pub use Rattle.plugin_sessions.proofs.Jobs.{read_opens, sled_read_opens}
pub use Rattle.plugin_sessions.proofs.Saved.{sled_written_reads, sled_read_again}
