pub mod Charged
