-- The layout of a struct, member by member (6.7.2.1).
use Rattle.std.specs.Prelude.{ℕ, true, ◌+◌, ◌*◌, max, nat_le, List, [], ◌∷◌, ◌++◌, Option, Some, None, map, if◌then◌else◌}
use Rattle.c_layout.specs.Types.{Ty, Array, Struct}
use Rattle.c_layout.specs.StructViews.{FieldView, StructView, struct_at, field_view}
use Rattle.c_layout.specs.Layout.{most_bytes, round_up, size_of_type, align_of_type}
use Rattle.c_layout.specs.Leaves.{short_count, behind_short, behind_long, full_count, behind_all}
use Rattle.c_layout.specs.declared.struct_layouts.StructLayout.{StructLayout}

-- how many leaves a type that is no array has, with no array folded
abbrev pub plain_unit_count : List StructView → Ty → ℕ
plain_unit_count structs (Struct i) = (struct_at structs i).plain_leaves
plain_unit_count structs _ = 1

abbrev pub plain_count : List StructView → Ty → ℕ
plain_count structs t = full_count t * plain_unit_count structs (behind_all t)

-- how many leaves a type that is no short array has; a long array has those of one element
abbrev pub folded_unit_count : List StructView → Ty → ℕ
folded_unit_count structs (Struct i) = (struct_at structs i).leaves
folded_unit_count structs (Array t n) = plain_count structs (behind_long t)
folded_unit_count structs _ = 1

abbrev pub leaf_count : List StructView → Ty → ℕ
leaf_count structs t = short_count t * folded_unit_count structs (behind_short t)

-- the members so far, the end of the last one, the largest alignment and the numbers of leaves
pub record Partial : Type 0 where
  pub fields : List FieldView
  pub end : ℕ
  pub align : ℕ
  pub leaves : ℕ
  pub plain_leaves : ℕ

abbrev pub partial_view : StructLayout → Partial
partial_view p = record { fields = map field_view p.fields.items; end = p.end; align = p.align; leaves = p.leaves; plain_leaves = p.plain_leaves }

abbrev pub no_members : Partial
no_members = record { fields = []; end = 0; align = 1; leaves = 0; plain_leaves = 0 }

-- a further member stands at the next multiple of its alignment
abbrev pub added : List StructView → ℕ → Partial → List ℕ → Ty → Partial
added structs pointer p name t =
    let offset = round_up p.end (align_of_type structs pointer t) in
    record {
      fields = p.fields ++ (record { name = name; ctype = t; offset = offset }) ∷ [];
      end = offset + size_of_type structs pointer t;
      align = max p.align (align_of_type structs pointer t);
      leaves = p.leaves + leaf_count structs t;
      plain_leaves = p.plain_leaves + plain_count structs t;
    }

-- the size is rounded up to the largest alignment; a struct that is too large has no layout
abbrev pub finished : Partial → Option StructView
finished p =
    if nat_le (round_up p.end p.align) most_bytes
    then Some (record { fields = p.fields; complete = true; size = round_up p.end p.align; align = p.align; leaves = p.leaves; plain_leaves = p.plain_leaves })
    else None
