pub mod Kept
pub mod Steps
pub mod Schedules
pub mod Searches
pub mod Replies
pub mod Committed
pub mod Exact
