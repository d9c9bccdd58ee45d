mod Arguments
mod Groups
