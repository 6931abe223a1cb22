mod Answering
mod Visiting
mod Writing
mod Offsets
