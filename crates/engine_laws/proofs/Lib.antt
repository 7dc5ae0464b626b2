pub mod library_lemmas
mod text_lemmas
mod Accounting
mod Changed
mod Connections
mod Endings
mod Happened
mod LibrarySteps
mod Lines
mod Sessions
mod Standing
mod Stopped
mod Stopping
mod Turns
mod Walking
