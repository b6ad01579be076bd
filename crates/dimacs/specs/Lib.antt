pub mod Text
pub mod Numbers
pub mod Reading
pub mod ReadAgain
