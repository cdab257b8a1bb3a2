pub mod Rating
