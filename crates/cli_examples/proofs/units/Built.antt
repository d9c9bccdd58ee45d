-- Values in memory: given one block of it, lists and boxes of anything.
use Rattle.std.specs.Prelude.{◌<◌, ◌^◌, List, [], length, refl}
use Rattle.std.specs.Global.{Vec, Box}
use Rattle.std.proofs.Common.{arith}

module _ {Y : Type 0} (some : Vec Y) where
  abbrev pub made : {X : Type 0} (xs : List X) → length xs < 2 ^ 63 → Vec X
  made xs h = record { ptr = some.ptr; len = length xs; cap = length xs; alloc = some.alloc; items = xs; ok = (refl, omega arith); small = h }

  abbrev pub none : {X : Type 0} → Vec X
  none = made [] (omega arith)

  abbrev pub boxed : {X : Type 0} → X → Box X
  boxed x = record { ptr = some.ptr; alloc = some.alloc; value = x }
