pub mod Match
