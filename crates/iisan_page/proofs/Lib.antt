pub mod Statuses
pub mod Refused
pub mod Accepted
pub mod Ended
