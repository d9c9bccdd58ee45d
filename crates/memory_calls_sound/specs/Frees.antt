pub mod FreeCalls
