pub mod Outgoing
pub mod Items
pub mod Connection
pub mod Record
