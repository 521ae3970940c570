-- One step: which line applies. Fit: what was found to fit, for the functions' proofs.
mod Fit
