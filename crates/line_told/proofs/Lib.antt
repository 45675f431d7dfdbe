pub mod ToldHappenings
