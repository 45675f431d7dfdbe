pub mod Options
pub mod ServeCommand
