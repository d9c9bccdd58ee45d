-- Types of which memory has room for an object at the end of a unit.
use Rattle.std.specs.Prelude.{◌≡◌, ◌⊎◌, true, is_some}
use Rattle.c_layout.specs.Types.{Ty, Int, Pointer, Array, Struct, Void}
use Rattle.c_types_scopes.specs.Known.{Known, size_of}

-- the elements of an array are complete
abbrev pub HasElements : Known → Ty → Type 0
HasElements k (Int kind) = Unit {0}
HasElements k (Pointer t) = Unit {0}
HasElements k (Array t n) = is_some (size_of k t) ≡ true
HasElements k (Struct i) = Unit {0}
HasElements k Void = Unit {0}

-- an array is complete, but for its length
abbrev pub IsFit : Known → Ty → Type 0
IsFit k (Int kind) = Unit {0}
IsFit k (Pointer t) = Unit {0}
IsFit k (Array t n) = (is_some (size_of k t) ≡ true) × ((n ≡ 0) ⊎ (is_some (size_of k (Array t n)) ≡ true))
IsFit k (Struct i) = Unit {0}
IsFit k Void = Unit {0}
