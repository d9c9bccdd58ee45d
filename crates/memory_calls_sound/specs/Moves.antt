pub mod CopyCalls
