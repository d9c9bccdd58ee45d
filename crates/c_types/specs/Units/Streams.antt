-- The struct that a stream points to, which a header completes (7.21.1p2).
use Rattle.std.specs.Prelude.{ℕ, List, [], ◌∷◌, length}
use Rattle.c_types_scopes.specs.Names.{number_in}
use Rattle.c_types_scopes.specs.States.{State, with_name}
use Rattle.c_types_scopes.specs.declared.meanings.Tag.TheVariants as tag
use Rattle.c_types_declarations.specs.ContextSteps.{with_struct, with_tag}

-- `__file`
abbrev pub stream_tag : List ℕ
stream_tag = 95 ∷ 95 ∷ 102 ∷ 105 ∷ 108 ∷ 101 ∷ []

abbrev pub with_declared : State → State
with_declared s = with_tag (with_struct (with_name s stream_tag)) (number_in s.scopes.names stream_tag) (tag.Struct (length s.types.structs))

-- the struct of a stream is declared before all else
abbrev pub with_stream : State → State
with_stream s = record (with_declared s) { stream = length s.types.structs }
