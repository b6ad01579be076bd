pub mod SelfXor
