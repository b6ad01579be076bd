pub mod Differentials
