pub mod LaidStructs
