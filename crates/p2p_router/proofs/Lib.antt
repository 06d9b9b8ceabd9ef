mod Connected
mod Indexed
mod Telling
