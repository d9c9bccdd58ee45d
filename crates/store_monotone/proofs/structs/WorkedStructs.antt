-- A worked struct, of an int, a long array of characters and a pointer: its leaves stand apart, so the law of copies
-- speaks of it.
use Rattle.std.specs.Prelude.{◌≡◌, ℕ, true, [], ◌∷◌, refl}
use Rattle.c_layout.specs.Types.{Ty, Int, Pointer, Array, Void}
use Rattle.c_layout.specs.Models.{lp64}
use Rattle.c_layout.specs.StructViews.{FieldView, StructView}
use Rattle.store_structs.specs.LeafNumbers.{member_at, long_leaf, plain_leaf, struct_leaf}
use Rattle.store_monotone.specs.Structs.SpreadStructs.{IsSpread, is_apart}
use Rattle.store_monotone.proofs.structs.SpreadStructs.{apart_spread}

abbrev member : Ty → ℕ → FieldView
member t offset = record { name = []; ctype = t; offset = offset }

abbrev named : StructView
named = record {
  fields = member (Int (record { bytes = 4; signed = true; rank = 3 })) 0
      ∷ (member (Array (Int (record { bytes = 1; signed = true; rank = 1 })) 1000) 4
      ∷ (member (Pointer Void) 1008 ∷ []));
  complete = true;
  size = 1016;
  align = 8;
  leaves = 3;
  plain_leaves = 1002;
}

named_apart : is_apart lp64 (named ∷ []) 0 named ≡ true
unfolding struct_leaf member_at long_leaf plain_leaf
named_apart = refl

pub named_spread : IsSpread lp64 (named ∷ []) 0 named
named_spread = apart_spread lp64 refl (named ∷ []) 0 named named_apart
