pub mod TestViews
pub mod ItemViews
pub mod StackViews
pub mod Scans
pub mod Jumps
