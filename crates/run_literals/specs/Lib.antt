pub mod Proper
pub mod Run
