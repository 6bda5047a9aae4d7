-- Request #101 as definitions, in its order; then the worked checks, tables of rows.
pub mod Forms
pub mod Resolvent
pub mod Lines
pub mod Verdict
pub mod Rows
