pub mod Lines
pub mod Runs
pub mod Signals
pub mod Start
pub mod Traces
