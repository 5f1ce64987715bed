pub mod Places
pub mod OneCode
pub mod AllCodes
pub mod LiteralBytes
pub mod Answered
