-- Own rows of consistent pointer parts below larger ones.
use Rattle.std.specs.Prelude.{◌≡◌, true, Option, Some, None, List}
use Rattle.cc_base.specs.Lattices.{LatticeOf}
use Rattle.cc_base.specs.IntegerDomains.{IntegersOf}
use Rattle.pointer_domain.specs.declared.base_sets.Bases.{Bases}
use Rattle.pointer_domain.specs.declared.pointer_sets.Pointers.{Pointers}
use Rattle.pointer_domain.specs.PointerLattice.{pointers_leq}
use Rattle.value_domain.specs.declared.values.values.Value.{Value}
use Rattle.value_domain.specs.declared.values.row_cells.Cell.{Cell}
use Rattle.value_domain.specs.Values.Values.{value_lattice}
use Rattle.domain_theorems.specs.Values.Consistency.{is_consistent}
use Rattle.store_monotone.specs.Operations.TopCells.{top_value}
use Rattle.store_monotone.specs.Operations.RowsBelow.{RowsBelow}
use Rattle.store_monotone.specs.Operations.ConsistentRows.{AreConsistent}

module _ {I : Type 0} (l : LatticeOf I) (n : IntegersOf I) where
  -- a row of consistent pointer parts below a larger one, and that below the greatest
  pub record RowsRise (top r s : List (Cell I)) : Type 0 where
    pub below : RowsBelow l top r s
    pub even : AreConsistent n r

  -- no row that is left is below all
  abbrev pub LeftRise : List (Cell I) → Option (List (Cell I)) → Option (List (Cell I)) → Type 0
  LeftRise top None y = Unit {0}
  LeftRise top (Some x) None = ⊥
  LeftRise top (Some x) (Some y) = RowsRise top x y

  -- a consistent pointer part below a larger one, and that below the greatest with these bases
  pub record PointersRise (all : Bases) (p q : Pointers I) : Type 0 where
    pub below : pointers_leq l p q ≡ true
    pub own : pointers_leq l q (top_value n all).pointer ≡ true
    pub even : is_consistent n p ≡ true

  -- a value with a consistent pointer part below a larger one, and that below the greatest
  pub record ValuesRise (all : Bases) (v w : Value I) : Type 0 where
    pub below : (value_lattice l).leq v w ≡ true
    pub own : (value_lattice l).leq w (top_value n all) ≡ true
    pub even : is_consistent n v.pointer ≡ true
