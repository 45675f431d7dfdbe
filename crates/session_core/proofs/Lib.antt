pub mod CallItems
pub mod CallsAt
pub mod CallsRead
pub mod Clients
pub mod Counts
pub mod ItemLists
pub mod Standing
