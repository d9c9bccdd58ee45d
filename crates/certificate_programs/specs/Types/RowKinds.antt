-- The positions of a row that hold values, with the types of what they hold: of objects those of their leaves, then
-- of the six class cells of a heap base; of temporaries, at the end of the row, those at the start of the block.
use Rattle.std.specs.Prelude.{ℕ, ◌+◌, ◌-◌, true, cond, List, [], ◌∷◌, ◌++◌, length, map}
use Rattle.std.specs.List.{range_with_len}
use Rattle.c_layout.specs.declared.data_model.Model.{Model}
use Rattle.c_layout.specs.declared.leaf_lists.Class.{Class}
use Rattle.c_layout.specs.declared.leaf_lists.Class.TheVariants.{Char, Short, Int, Long, LongLong, Pointer}
use Rattle.c_layout.specs.declared.leaf_lists.Leaf.{Leaf}
use Rattle.c_layout.specs.declared.shapes.BaseInfo.{BaseInfo}
use Rattle.cfg.specs.declared.programs.Flow.{Flow}
use Rattle.certificate_programs.specs.Types.KindSets.{leaves}
use Rattle.certificate_programs.specs.Types.TypedTemps.{capped, kinds_at, place}

-- the position behind so many cells
abbrev pub position : ℕ → ℕ → ℕ
position first count = capped (first + count)

-- ---- objects

abbrev pub leaves_kinds : Model → ℕ → ℕ → List Leaf → List (ℕ × ℕ)
leaves_kinds m first at [] = []
leaves_kinds m first at (leaf ∷ rest) = (position first at, leaves m leaf.class leaf.signed) ∷ leaves_kinds m first (at + 1) rest

-- a class cell holds what is signed
abbrev pub class_kinds : Model → Class → ℕ
class_kinds m class = leaves m class true

abbrev pub classes_kinds : Model → ℕ → List (ℕ × ℕ)
classes_kinds m first =
    (position first 0, class_kinds m Char) ∷ ((position first 1, class_kinds m Short) ∷ ((position first 2, class_kinds m Int)
    ∷ ((position first 3, class_kinds m Long) ∷ ((position first 4, class_kinds m LongLong) ∷ ((position first 5, class_kinds m Pointer) ∷ [])))))

unfoldable pub base_kinds : Model → BaseInfo → List (ℕ × ℕ)
base_kinds m base = leaves_kinds m base.first 0 base.shape.cells ++ cond base.shape.heap (classes_kinds m (position base.first (length base.shape.cells))) []

abbrev pub objects_kinds : Model → List BaseInfo → List (ℕ × ℕ)
objects_kinds m [] = []
objects_kinds m (base ∷ bases) = base_kinds m base ++ objects_kinds m bases

-- ---- temporaries

abbrev pub temp_kinds : ℕ → List ℕ → ℕ → ℕ → ℕ → ℕ × ℕ
temp_kinds temps all block first temp = (position first temp, kinds_at all (place temps block temp))

abbrev pub temps_kinds : ℕ → List ℕ → ℕ → ℕ → List (ℕ × ℕ)
temps_kinds temps all block width = map (temp_kinds temps all block (width - temps)) (range_with_len 0 temps)

-- ---- rows

abbrev pub row_kinds : Flow → List ℕ → ℕ → ℕ → List (ℕ × ℕ)
row_kinds flow all block width = objects_kinds flow.model flow.bases.items ++ temps_kinds flow.temps all block width
