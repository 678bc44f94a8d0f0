pub mod Lies
pub mod Laying
pub mod Only
