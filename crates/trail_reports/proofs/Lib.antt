pub mod ProperLines
pub mod SmallReports
pub mod Matched
pub mod Demand2
pub mod RangeTotals
pub mod Example
