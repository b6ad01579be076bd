pub mod JoinedCounts
