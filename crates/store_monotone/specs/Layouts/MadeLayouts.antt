-- Layouts that are made member by member.
use Rattle.std.specs.Prelude.{ℕ, Bool, ◌&&◌, Option, List, [], ◌∷◌}
use Rattle.std.specs.List.{list_all}
use Rattle.c_layout.specs.declared.data_model.Model.{Model}
use Rattle.c_layout.specs.Layout.{is_complete}
use Rattle.c_layout.specs.StructLayouts.{Partial, no_members, added, finished}
use Rattle.c_layout.specs.StructViews.{StructView}
use Rattle.c_layout.specs.Types.{Ty}
use Rattle.store_structs.specs.LaidApart.{has_class_bytes}

-- a member that is declared: its name and its type
abbrev pub Declared : Type 0
Declared = List ℕ × Ty

-- further members, in order
abbrev pub all_added : List StructView → ℕ → Partial → List Declared → Partial
all_added structs pointer p [] = p
all_added structs pointer p (d ∷ ds) = all_added structs pointer (added structs pointer p d.0 d.1) ds

-- the layout of a struct, where it is not too large
abbrev pub layout_of : List StructView → ℕ → List Declared → Option StructView
layout_of structs pointer members = finished (all_added structs pointer no_members members)

-- complete types, of which those of integers are the model's
abbrev pub is_declarable : Model → List StructView → Declared → Bool
is_declarable m structs d = is_complete structs m.pointer d.1 && has_class_bytes m d.1

abbrev pub are_declarable : Model → List StructView → List Declared → Bool
are_declarable m structs members = list_all (is_declarable m structs) members
