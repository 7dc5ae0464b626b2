pub mod NetWire
