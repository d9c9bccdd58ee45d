mod command
mod verified
