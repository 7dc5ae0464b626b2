mod Drives
mod Places
mod Plans
mod Stopping
mod Working
