mod Loop
mod Calls
mod Entry
mod CalledEntry
