pub mod ByteTokens
