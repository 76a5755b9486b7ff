pub mod Runs
pub mod HookSeen
