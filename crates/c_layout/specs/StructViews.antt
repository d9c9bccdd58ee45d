-- The structs of a unit, as contracts see them.
use Rattle.std.specs.Prelude.{ℕ, Bool, false, List, [], map, get_or}
use Rattle.c_layout.specs.Types.{Ty, view}
use Rattle.c_layout.specs.declared.struct_table.Field.{Field}
use Rattle.c_layout.specs.declared.struct_table.StructType.{StructType}
use Rattle.c_layout.specs.declared.struct_table.Structs.{Structs}

-- a member with its type and its offset
pub record FieldView : Type 0 where
  pub name : List ℕ
  pub ctype : Ty
  pub offset : ℕ

-- a struct: its members and, where it is complete, its layout
pub record StructView : Type 0 where
  pub fields : List FieldView
  pub complete : Bool
  pub size : ℕ
  pub align : ℕ
  pub leaves : ℕ
  pub plain_leaves : ℕ

abbrev pub field_view : Field → FieldView
field_view f = record { name = f.name; ctype = view f.ctype; offset = f.offset }

abbrev pub struct_view : StructType → StructView
struct_view s = record { fields = map field_view s.fields.items; complete = s.complete; size = s.size; align = s.align; leaves = s.leaves; plain_leaves = s.plain_leaves }

abbrev pub structs_view : Structs → List StructView
structs_view s = map struct_view s.items.items

-- a struct of no members that is not complete, which stands where there is none
abbrev pub no_struct : StructView
no_struct = record { fields = []; complete = false; size = 0; align = 1; leaves = 0; plain_leaves = 0 }

abbrev pub struct_at : List StructView → ℕ → StructView
struct_at structs i = get_or structs i no_struct
