-- Definitions that only clauses of private functions cite.
pub mod Blocks
pub mod Extents
pub mod Keys
pub mod O5mCounting
pub mod O5mObjects
pub mod O5mPassing
pub mod O5mReading
pub mod OplCounting
pub mod OplObjects
pub mod OplPassing
pub mod Strings
