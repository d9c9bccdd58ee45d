-- The offsets and the ends of the members of structs.
use Rattle.std.specs.Prelude.{ℕ, ℤ, pos, negsuc, ◌+◌, cond, List, [], ◌∷◌, ◌++◌}
use Rattle.c_layout.specs.Layout.{size_of_type}
use Rattle.c_layout.specs.StructViews.{FieldView, StructView, structs_view}
use Rattle.cfg.specs.declared.programs.Flow.{Flow}
use Rattle.cfg.specs.FlowNumbers.{blocks_numbers, edges_numbers, bases_numbers}

-- the offset and the end of a member
abbrev pub field_numbers : List StructView → ℕ → FieldView → List ℤ
field_numbers structs pointer f = pos f.offset ∷ (pos (f.offset + size_of_type structs pointer f.ctype) ∷ [])

abbrev pub fields_numbers : List StructView → ℕ → List FieldView → List ℤ
fields_numbers structs pointer [] = []
fields_numbers structs pointer (f ∷ fs) = field_numbers structs pointer f ++ fields_numbers structs pointer fs

-- those of the members of a struct, where it is complete
abbrev pub struct_numbers : List StructView → ℕ → StructView → List ℤ
struct_numbers structs pointer s = cond s.complete (fields_numbers structs pointer s.fields) []

abbrev pub structs_numbers : List StructView → ℕ → List StructView → List ℤ
structs_numbers structs pointer [] = []
structs_numbers structs pointer (s ∷ ss) = struct_numbers structs pointer s ++ structs_numbers structs pointer ss

-- every number that a control-flow program speaks of, besides the limits of types
abbrev pub flow_numbers : Flow → List ℤ
flow_numbers f = ((blocks_numbers f.blocks.items ++ edges_numbers f.edges.items) ++ bases_numbers f.bases.items) ++ structs_numbers (structs_view f.structs) f.model.pointer (structs_view f.structs) ++ (negsuc 0 ∷ (pos 0 ∷ (pos 1 ∷ [])))
