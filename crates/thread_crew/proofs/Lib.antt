mod Crews
mod Rooms
