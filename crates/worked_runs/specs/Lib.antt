pub mod Butterfly
