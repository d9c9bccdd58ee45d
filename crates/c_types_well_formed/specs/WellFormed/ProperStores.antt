-- Literals that memory has room for, and what objects of static storage begin with: texts of bytes, and addresses of
-- literals with offsets and bounds of at most 2^30.
use Rattle.std.specs.Prelude.{◌≡◌, ◌≤◌, ◌+◌, ◌^◌, ℕ, true, List, [], ◌∷◌, length}
use Rattle.c_layout.specs.CheckedUnits.{StaticStoreView, SetValue, SetText, LiteralView}
use Rattle.c_layout.specs.declared.checked_tree.checked_units.StaticBase.{StaticBase}
use Rattle.c_layout.specs.declared.checked_tree.checked_units.StaticBase.TheVariants as base
use Rattle.c_layout.specs.declared.checked_tree.checked_units.StaticValue.{StaticValue}
use Rattle.c_layout.specs.declared.checked_tree.checked_units.StaticValue.TheVariants as value
use Rattle.c_layout.specs.ByteTexts.{are_bytes}

-- a literal of bytes, whose array has a size
pub record IsShortLiteral (l : LiteralView) : Type 0 where
  pub bytes : are_bytes l.bytes ≡ true
  pub short : length l.bytes + 1 ≤ 2 ^ 30

-- an address of a literal; those of objects are bounded at the end of a unit
abbrev pub IsNearBase : StaticBase → ℕ → ℕ → Type 0
IsNearBase (base.Object n) offset high = Unit {0}
IsNearBase (base.Literal n) offset high = (offset ≤ 2 ^ 30) × (high ≤ 2 ^ 30)

abbrev pub IsNearValue : StaticValue → Type 0
IsNearValue (value.Number n kind) = Unit {0}
IsNearValue value.Null = Unit {0}
IsNearValue (value.Address b offset low high) = IsNearBase b offset high

abbrev pub IsProperStore : StaticStoreView → Type 0
IsProperStore (SetValue offset v) = IsNearValue v
IsProperStore (SetText offset room text) = are_bytes text ≡ true

abbrev pub AreProperStores : List StaticStoreView → Type 0
AreProperStores [] = Unit {0}
AreProperStores (x ∷ xs) = IsProperStore x × AreProperStores xs
