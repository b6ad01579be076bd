pub mod SameRun
pub mod ListParts
