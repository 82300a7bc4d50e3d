pub mod Limits
pub mod Front
pub mod Framing
pub mod Requests
pub mod Framers
pub mod Fed
pub mod Looks
pub mod Responses
