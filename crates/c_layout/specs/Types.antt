-- C types, as they are compared.
use Rattle.std.specs.Prelude.{ℕ, Bool, true, false, ◌==◌, ◌&&◌, not}
use Rattle.cc_base.specs.declared.int_types.IntType.{IntType}
use Rattle.c_layout.specs.declared.type_terms.CType.{CType, fold-CType}
use Rattle.c_layout.specs.declared.type_terms.CType.TheOpen.{CType-F}

pub data Ty : Type 0 where
  Int : (kind : IntType) → Ty
  Pointer : (target : Ty) → Ty
  Array : (element : Ty) (count : ℕ) → Ty
  Struct : (index : ℕ) → Ty
  Void : Ty

abbrev pub view_step : CType-F Ty → Ty
view_step (CType-F.Int k) = Int k
view_step (CType-F.Pointer t) = Pointer t.value
view_step (CType-F.Array t n) = Array t.value n
view_step (CType-F.Struct i) = Struct i
view_step CType-F.Void = Void

-- the type that a value of `CType` stands for
abbrev pub view : CType → Ty
view = fold-CType Ty view_step

abbrev same_bool : Bool → Bool → Bool
same_bool true b = b
same_bool false b = not b

abbrev pub same_kind : IntType → IntType → Bool
same_kind a b = a.bytes == b.bytes && (same_bool a.signed b.signed && a.rank == b.rank)

abbrev pub same_type : Ty → Ty → Bool
same_type (Int a) (Int b) = same_kind a b
same_type (Pointer a) (Pointer b) = same_type a b
same_type (Array a m) (Array b n) = m == n && same_type a b
same_type (Struct a) (Struct b) = a == b
same_type Void Void = true
same_type _ _ = false
