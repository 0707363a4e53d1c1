pub mod Returning
mod Running
mod Answering
