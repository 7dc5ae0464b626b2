-- What libraries ask, are told and send, over turns.
pub mod Quiet
pub mod Stays
pub mod Steps
pub mod Told
pub mod Ends
pub mod Orders
pub mod Served
pub mod Going
pub mod Fed
pub mod Turns
pub mod Sent
pub mod Lanes
pub mod Taken
pub mod First
pub mod Settled
pub mod Holdings
pub mod Within
