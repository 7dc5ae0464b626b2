mod Digits
mod Shapes
mod Walks
