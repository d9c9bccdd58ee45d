pub mod Values
pub mod Instructions
pub use Rattle.store_structs.specs.LaidApart
pub use Rattle.transfer_library.specs.Effects
pub use Rattle.transfer_library.specs.Planning
