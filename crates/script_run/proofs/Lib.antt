mod Asked
mod Fit
mod Made
mod Moments
mod Places
mod Seated
