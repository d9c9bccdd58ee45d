pub mod CharacterStores
