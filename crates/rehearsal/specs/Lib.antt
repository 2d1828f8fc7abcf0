-- What contracts of this crate see: that a pass has replayed its replica's stream, and that all passes have;
-- what the watcher judged; and which fault a rehearsal is ended with.
pub mod Replays
pub mod Opened
pub mod Faults
pub mod Foremost
pub mod Joined
pub mod Watched
pub mod Ends
