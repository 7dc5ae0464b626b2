-- What the contracts speak of.
pub mod Admins
pub mod Answers
pub mod Batches
pub mod Disk
pub mod FileDisk
pub mod Files
pub mod Journal
pub mod Memory
pub mod Numbers
pub mod RecordText
pub mod Records
pub mod Recovered
