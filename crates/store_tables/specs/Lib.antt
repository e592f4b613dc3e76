pub mod Rowids
pub mod Schema
pub mod Shape
pub mod Steps
pub mod Tables
pub mod Uses
