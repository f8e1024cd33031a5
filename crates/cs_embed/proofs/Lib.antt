mod Declared
mod Filed
mod Refused
mod Telling
