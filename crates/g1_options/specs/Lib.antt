pub mod Settings
pub mod CommandLine
