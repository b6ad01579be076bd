pub mod FilledBits
pub mod SheetCounts
