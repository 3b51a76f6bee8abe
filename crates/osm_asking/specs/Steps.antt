-- Definitions that only clauses of private functions cite.
pub mod Reading
pub mod Passing
pub mod Sides
pub mod Searching
pub mod Scanning
pub mod Opening
pub mod Words
pub mod Answering
pub mod Printing
pub mod Referring
pub mod Counting
pub mod Going
pub mod Laying
pub mod SavedObjects
pub mod Summing
