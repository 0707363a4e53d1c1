pub mod Confirming
pub mod Numbers
pub mod Marks
pub mod Answering
pub mod Weighings
pub mod Witnessing
pub mod Further
