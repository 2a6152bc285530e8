pub mod Places
pub mod NotedLists
pub mod FreeAddress
