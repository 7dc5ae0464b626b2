-- What libraries ask, are told and send, over turns.
pub mod Feeds
pub mod Going
pub mod Replies
pub mod Sends
pub mod Spans
