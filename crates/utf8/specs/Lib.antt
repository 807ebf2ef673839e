pub mod Utf8
pub mod Rfc3629
pub mod Points
pub mod Examples
