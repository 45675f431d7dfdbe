mod Calls
mod Owners
