mod Adjoining
mod Ending
mod Served
mod TooLong
