pub mod Pieces
pub mod Numbers
pub mod ReadAgain
pub mod ClausesText
pub mod NumbersText
pub mod Examples
