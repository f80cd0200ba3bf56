pub mod SmallCommands
