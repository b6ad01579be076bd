pub mod StartTest
