-- Worked bases: a struct of an int, an array of four characters (two of which are leaves here) and a pointer, and an
-- allocation of one int. They are a layout, so the laws of the store speak of them.
use Rattle.std.specs.Prelude.{◌≡◌, true, false, Some, None, [], ◌∷◌, refl}
use Rattle.c_layout.specs.Models.{lp64}
use Rattle.c_layout.specs.declared.leaf_lists.Class.TheVariants as class
use Rattle.c_layout.specs.declared.shapes.BaseInfo.{BaseInfo}
use Rattle.c_layout.specs.declared.shapes.BaseKind.TheVariants as kind
use Rattle.cfg.specs.WellFormed.{are_placed}
use Rattle.store_monotone.specs.Operations.PlainShapes.{is_plain}
use Rattle.store_monotone.specs.Operations.StoreLaws.{IsLayout}
use Rattle.store_monotone.proofs.operations.PlainShapes.{plain_room}
use Rattle.store_monotone.proofs.operations.Regular.{regular}

abbrev object : BaseInfo
object = record {
  kind = kind.Static;
  size = 16;
  first = 0;
  shape = record {
    cells = record { offset = 0; class = class.Int; signed = true; stride = 4; count = 1 }
        ∷ (record { offset = 4; class = class.Char; signed = true; stride = 1; count = 1 }
        ∷ (record { offset = 5; class = class.Char; signed = true; stride = 1; count = 1 }
        ∷ (record { offset = 8; class = class.Pointer; signed = false; stride = 8; count = 1 } ∷ [])));
    zeros = record { offset = 4; size = Some 4 } ∷ [];
    heap = false;
  };
}

abbrev heap : BaseInfo
heap = record {
  kind = kind.Newest;
  size = 0;
  first = 5;
  shape = record {
    cells = record { offset = 0; class = class.Int; signed = true; stride = 4; count = 1 } ∷ [];
    zeros = record { offset = 0; size = None } ∷ [];
    heap = true;
  };
}

object_plain : is_plain lp64 object ≡ true
object_plain = refl

heap_plain : is_plain lp64 heap ≡ true
heap_plain = refl

both_placed : are_placed 0 (object ∷ (heap ∷ [])) ≡ true
both_placed = refl

-- a layout of two bases
pub both_lie : IsLayout lp64 (object ∷ (heap ∷ []))
both_lie = record { placed = both_placed; regular = (regular lp64 object (plain_room lp64 object object_plain), (regular lp64 heap (plain_room lp64 heap heap_plain), tt)) }
