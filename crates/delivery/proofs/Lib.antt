mod Finding
mod InTurn
mod Nesting
