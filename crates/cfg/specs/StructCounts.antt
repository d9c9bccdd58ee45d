-- The leaves that are recorded of a struct are those of its members.
use Rattle.std.specs.Prelude.{ℕ, ◌+◌, Bool, ◌&&◌, ◌==◌, List, [], ◌∷◌}
use Rattle.std.specs.List.{list_all}
use Rattle.c_layout.specs.StructViews.{FieldView, StructView}
use Rattle.c_layout.specs.StructLayouts.{plain_count, leaf_count}

abbrev pub leaves_of_fields : List StructView → List FieldView → ℕ
leaves_of_fields structs [] = 0
leaves_of_fields structs (f ∷ fs) = leaf_count structs f.ctype + leaves_of_fields structs fs

abbrev pub plain_leaves_of_fields : List StructView → List FieldView → ℕ
plain_leaves_of_fields structs [] = 0
plain_leaves_of_fields structs (f ∷ fs) = plain_count structs f.ctype + plain_leaves_of_fields structs fs

abbrev pub is_counted : List StructView → StructView → Bool
is_counted structs s = (s.leaves == leaves_of_fields structs s.fields) && (s.plain_leaves == plain_leaves_of_fields structs s.fields)

abbrev pub are_counted : List StructView → Bool
are_counted structs = list_all (is_counted structs) structs
