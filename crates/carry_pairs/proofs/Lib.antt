pub mod LastPosition
