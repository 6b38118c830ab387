pub mod Measured
