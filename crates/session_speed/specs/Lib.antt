pub mod Market
