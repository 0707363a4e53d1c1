mod Apart
mod Alike
mod Once
mod Wider
mod Running
mod Narrow
