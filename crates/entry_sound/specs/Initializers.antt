pub mod CheckedInitializers
