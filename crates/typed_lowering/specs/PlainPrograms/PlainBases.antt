-- Bases that are plain: each scalar has a cell of its own, and nothing is allocated.
use Rattle.std.specs.Prelude.{◌≡◌, false, List, [], ◌∷◌}
use Rattle.c_layout.specs.declared.leaf_lists.Leaf.{Leaf}
use Rattle.c_layout.specs.declared.shapes.BaseInfo.{BaseInfo}

abbrev pub AreAlone : List Leaf → Type 0
AreAlone [] = Unit {0}
AreAlone (l ∷ ls) = (l.count ≡ 1) × AreAlone ls

pub record IsPlainBase (b : BaseInfo) : Type 0 where
  pub cells : AreAlone b.shape.cells
  pub no_heap : b.shape.heap ≡ false

abbrev pub ArePlainBases : List BaseInfo → Type 0
ArePlainBases [] = Unit {0}
ArePlainBases (b ∷ bs) = IsPlainBase b × ArePlainBases bs
