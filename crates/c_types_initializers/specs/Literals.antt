-- String literals as initializers of arrays of characters (6.7.9p14).
use Rattle.std.specs.Prelude.{ℕ, ◌+◌, ◌==◌, cond, List, length, Option, Some, None}
use Rattle.c_layout.specs.Types.{Ty, Int, Array}
use Rattle.c_layout.specs.SyntaxTrees.{Tree}
use Rattle.c_layout.specs.SyntaxTrees as syntax
use Rattle.c_layout.specs.DeclarationTrees.{InitializerTree, InitializerTrees, Single, Braces, NoInitializer, MoreInitializers}

abbrev pub room_of : Ty → ℕ → Option ℕ
room_of (Int k) count = cond (k.bytes == 1) (Some count) None
room_of _ count = None

-- the size of an array of characters; 0 where it has no length yet
abbrev pub character_room : Ty → Option ℕ
character_room (Array element count) = room_of element count
character_room _ = None

-- the bytes of a literal that stands without parentheses
abbrev pub bare_literal : Tree → Option (List ℕ)
bare_literal (syntax.Literal at bytes) = Some bytes
bare_literal _ = None

abbrev pub literal_item : InitializerTree → Option (List ℕ)
literal_item (Single e) = bare_literal e
literal_item (Braces at items) = None

-- the literal of a list with one literal
abbrev pub only_literal : InitializerTrees → Option (List ℕ)
only_literal NoInitializer = None
only_literal (MoreInitializers i NoInitializer) = literal_item i
only_literal (MoreInitializers i (MoreInitializers j items)) = None

-- the length of an array, if it has none that of its initializer
abbrev pub length_or : ℕ → ℕ → ℕ
length_or had count = cond (had == 0) count had

abbrev pub with_length : Ty → ℕ → Ty
with_length (Array t had) count = Array t (length_or had count)
with_length t count = t

-- a literal's characters and its closing zero
abbrev pub literal_length : List ℕ → ℕ
literal_length bytes = length bytes + 1
