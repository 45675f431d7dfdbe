mod Ends
mod Grids
