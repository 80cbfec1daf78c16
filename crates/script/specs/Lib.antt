pub mod Numbers
pub mod Onward
pub mod Script
