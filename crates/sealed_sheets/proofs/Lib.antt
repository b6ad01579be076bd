pub mod OnlyChecks
pub mod WrittenChecks
pub mod Checked
pub mod SelfXor
pub mod Demand2
