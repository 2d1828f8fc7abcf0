mod Passes
mod Faults
mod Joined
mod Ended
mod Watched
