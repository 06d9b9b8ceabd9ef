mod Admitting
mod Known
mod Places
