pub mod Findings
pub mod Whole
pub mod Audit
pub mod Stops
pub mod Laws
pub mod Texts
pub mod Reports
pub mod Steps
