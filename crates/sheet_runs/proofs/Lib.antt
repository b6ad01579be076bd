pub mod Least
pub mod Disagreement
pub mod MadeWords
