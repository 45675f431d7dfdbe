mod Once
mod Answered
mod Served
