-- What the bytes of a fresh instance are: larger for a larger row and larger old pointers.
use Rattle.std.specs.Prelude.{◌≡◌, ◌<◌, ℤ, pos, ◌≤ℤ◌, Bool, true, false, cond, int_le, List, length, refl}
use Rattle.std.proofs.Common.{arith}
use Rattle.std.proofs.lemmas.Int.{ints}
use Rattle.cc_base.specs.Lattices.{LatticeOf, OrderLaws}
use Rattle.cc_base.specs.IntegerDomains.{IntegersOf, BoundLaws, RangeLaws}
use Rattle.cc_base.specs.IntegerLaws.{MonotoneLaws}
use Rattle.c_layout.specs.declared.data_model.Model.{Model}
use Rattle.c_layout.specs.declared.shapes.BaseInfo.{BaseInfo}
use Rattle.pointer_domain.specs.BaseSets.{bases_within}
use Rattle.pointer_domain.specs.declared.base_sets.Bases.{Bases}
use Rattle.value_domain.specs.declared.values.values.Value as values
use Rattle.value_domain.specs.declared.values.row_cells.Cell.{Cell}
use Rattle.value_domain.specs.Values.Values.{value_lattice, value_order}
use Rattle.value_domain.specs.Values.ValueTables.{blank_value}
use Rattle.store_objects.specs.declared.allocation.Fresh.{Fresh}
use Rattle.store_objects.specs.declared.allocation.Fresh.TheVariants.{Blank, Zero, Old}
use Rattle.c_layout.specs.declared.leaf_lists.Class.{Class}
use Rattle.store_cells.specs.ClassNumbers.{class_number, same_class}
use Rattle.store_objects.specs.LiveBases.{has_base}
use Rattle.store_cells.specs.RowPositions.{leaf_position, class_position, value_at}
use Rattle.store_cells.specs.FirstZeroWrites.{any_zero, no_zero, zero_first}
use Rattle.store_objects.specs.ObjectLives.{zero_value}
use Rattle.store_objects.specs.Allocations.{in_target, class_cell, joined_if, class_leaf, class_values, old_more, old_value, fresh_value, fresh_zero}
use Rattle.domain_theorems.proofs.values.Parts.{pointer_parts}
use Rattle.store_monotone.specs.Operations.TopCells.{top_value, top_zero}
use Rattle.store_monotone.specs.Operations.Placements.{EachFrom, IsPlaced}
use Rattle.store_monotone.specs.Operations.RowsBelow.{RowsBelow}
use Rattle.store_monotone.specs.Operations.StoreLaws.{FreshBelow}
use Rattle.store_monotone.proofs.operations.PairedSteps.{walk_pair, same_pair, numbers_below}
use Rattle.store_monotone.proofs.operations.NearCells.{value_at_monotone, value_at_top}
use Rattle.store_monotone.proofs.operations.LiveSets.{has_monotone}
use Rattle.store_monotone.proofs.operations.CellReads.{stored_in_monotone, stored_in_top}
use Rattle.store_monotone.proofs.operations.Loads.{class_small}
use Rattle.store_monotone.proofs.operations.OwnValues.{blank_top, zero_value_top, no_zero_top, zero_first_top}

-- a value below an own one
pub record OwnBelow {I : Type 0} (l : LatticeOf I) (n : IntegersOf I) (all : Bases) (v w : values.Value I) : Type 0 where
  pub small : (value_lattice l).leq v w ≡ true
  pub large : (value_lattice l).leq w (top_value n all) ≡ true

module _ {I : Type 0} {l : LatticeOf I} {n : IntegersOf I} {stands : I → ℤ → Type 0} (o : OrderLaws l) (b : BoundLaws l n stands) (all : Bases) where
  own_join : (v w x y : values.Value I) → OwnBelow l n all v w → OwnBelow l n all x y → OwnBelow l n all ((value_lattice l).join v x) ((value_lattice l).join w y)
  own_join v w x y h k = record {
    small = (value_order o).join_least v x ((value_lattice l).join w y) ((value_order o).transitive v w ((value_lattice l).join w y) h.small ((value_order o).join_left w y)) ((value_order o).transitive x y ((value_lattice l).join w y) k.small ((value_order o).join_right w y));
    large = (value_order o).join_least w y (top_value n all) h.large k.large;
  }

  own_above : (v w y : values.Value I) → OwnBelow l n all v w → (value_lattice l).leq y (top_value n all) ≡ true → OwnBelow l n all v ((value_lattice l).join w y)
  own_above v w y h k = record {
    small = (value_order o).transitive v w ((value_lattice l).join w y) h.small ((value_order o).join_left w y);
    large = (value_order o).join_least w y (top_value n all) h.large k;
  }

  own_if : (p q : Bool) (v w x y : values.Value I) → (p ≡ true → q ≡ true) → OwnBelow l n all v w → OwnBelow l n all x y → OwnBelow l n all (joined_if l p v x) (joined_if l q w y)
  own_if false false v w x y m h k = h
  own_if false true v w x y m h k = own_above v w y h k.large
  own_if true false v w x y m h k = absurd (let t : false ≡ true = m refl in cc)
  own_if true true v w x y m h k = own_join v w x y h k

  own_least : OwnBelow l n all ((value_lattice l).least) ((value_lattice l).least)
  own_least = record { small = (value_order o).reflexive ((value_lattice l).least); large = (value_order o).least_below (top_value n all) }

  module _ (f : RangeLaws l n) (g : MonotoneLaws l n) (m : Model) (top r s : List (Cell I)) (j : RowsBelow l top r s) (class : Class) (signed : Bool) where
    own_in : (v w : values.Value I) → OwnBelow l n all v w → OwnBelow l n all (in_target n m v (record { class = class; signed = signed })) (in_target n m w (record { class = class; signed = signed }))
    own_in v w h = record { small = stored_in_monotone o b g m class signed v w h.small; large = stored_in_top o b f all m class signed w h.large }

    module _ (base : BaseInfo) (p : IsPlaced n all top base) where
      cell_own : OwnBelow l n all (class_cell l n m r (record { class = class; signed = signed }) base) (class_cell l n m s (record { class = class; signed = signed }) base)
      unfolding class_cell
      cell_own = same_pair (OwnBelow l n all) base.shape.heap _ _ _ _
          (λ e. let i = class_position base (class_number class) in
          let t = p.class (class_number class) e (class_small class) in
          own_in (value_at l n r i) (value_at l n s i) (record { small = value_at_monotone o b all top r s i j.small j.large t; large = value_at_top o b all top r s i j.small j.large t }))
          (λ e. own_least)

      values_own : OwnBelow l n all (class_values l n m r (record { class = class; signed = signed }) base) (class_values l n m s (record { class = class; signed = signed }) base)
      unfolding class_values
      values_own = walk_pair (λ leaf at. at < length base.shape.cells) (OwnBelow l n all) (class_leaf l n m r (record { class = class; signed = signed }) base) (class_leaf l n m s (record { class = class; signed = signed }) base)
          (λ leaf at v w e h. let i = leaf_position base at in
          let t = p.leaf at e in
          own_if (same_class leaf.class class) (same_class leaf.class class) v w (in_target n m (value_at l n r i) (record { class = class; signed = signed })) (in_target n m (value_at l n s i) (record { class = class; signed = signed })) (λ z. z) h
          (own_in (value_at l n r i) (value_at l n s i) (record { small = value_at_monotone o b all top r s i j.small j.large t; large = value_at_top o b all top r s i j.small j.large t })))
          0 base.shape.cells (class_cell l n m r (record { class = class; signed = signed }) base) (class_cell l n m s (record { class = class; signed = signed }) base) (numbers_below (length base.shape.cells) 0 base.shape.cells (omega arith)) cell_own

    module _ (bases : List BaseInfo) (each : EachFrom (λ base number. IsPlaced n all top base) 0 bases) where
      old_own : (set more : Bases) → bases_within set more ≡ true → OwnBelow l n all (old_value l n m bases r set (record { class = class; signed = signed })) (old_value l n m bases s more (record { class = class; signed = signed }))
      unfolding old_value
      old_own set more h = walk_pair (λ base number. IsPlaced n all top base) (OwnBelow l n all) (old_more l n m r set (record { class = class; signed = signed })) (old_more l n m s more (record { class = class; signed = signed }))
          (λ base number v w p i. own_if (has_base set number) (has_base more number) v w (class_values l n m r (record { class = class; signed = signed }) base) (class_values l n m s (record { class = class; signed = signed }) base) (has_monotone set more number h) i (values_own base p))
          0 bases ((value_lattice l).least) ((value_lattice l).least) each own_least

      pub fresh_own : (fresh more : Fresh I) → FreshBelow l fresh more → OwnBelow l n all (fresh_value l n m bases fresh (record { class = class; signed = signed }) r) (fresh_value l n m bases more (record { class = class; signed = signed }) s)
      unfolding fresh_value
      fresh_own Blank Blank h = record { small = (value_order o).reflexive (blank_value l); large = blank_top o b all }
      fresh_own Blank Zero h = absurd h
      fresh_own Blank (Old q) h = absurd h
      fresh_own Zero Blank h = absurd h
      fresh_own Zero Zero h = record { small = (value_order o).reflexive (zero_value l n class); large = zero_value_top o b all class }
      fresh_own Zero (Old q) h = absurd h
      fresh_own (Old p) Blank h = absurd h
      fresh_own (Old p) Zero h = absurd h
      fresh_own (Old p) (Old q) h = own_join (blank_value l) (blank_value l) (old_value l n m bases r p.bases (record { class = class; signed = signed })) (old_value l n m bases s q.bases (record { class = class; signed = signed }))
          (record { small = (value_order o).reflexive (blank_value l); large = blank_top o b all }) (old_own p.bases q.bases (pointer_parts l p q h).bases)

-- ---- first zeros of a fresh instance

module _ {I : Type 0} {l : LatticeOf I} {n : IntegersOf I} {stands : I → ℤ → Type 0} (o : OrderLaws l) (b : BoundLaws l n stands) where
  any_zero_top : l.leq (any_zero l n).at (top_zero n).at ≡ true
  any_zero_top = o.reflexive (any_zero l n).at

  if_any : (p q : Bool) → (q ≡ true → p ≡ true) → l.leq (cond p (zero_first n) (any_zero l n)).at (cond q (zero_first n) (any_zero l n)).at ≡ true
  if_any true true h = o.reflexive (zero_first n).at
  if_any true false h = zero_first_top o b
  if_any false true h = absurd (let t : false ≡ true = h refl in cc)
  if_any false false h = o.reflexive (any_zero l n).at

  if_top : (q : Bool) → l.leq (cond q (zero_first n) (any_zero l n)).at (top_zero n).at ≡ true
  if_top true = zero_first_top o b
  if_top false = any_zero_top

  reaches_one : (a c : ℤ) → c ≤ℤ a → int_le (pos 1) c ≡ true → int_le (pos 1) a ≡ true
  reaches_one a c h e = grind (arith, ints)

  pub fresh_zero_monotone : (fresh more : Fresh I) → FreshBelow l fresh more → (a c : ℤ) → c ≤ℤ a → l.leq (fresh_zero l n fresh a).at (fresh_zero l n more c).at ≡ true
  fresh_zero_monotone Blank Blank h a c k = o.reflexive (no_zero n).at
  fresh_zero_monotone Blank Zero h a c k = absurd h
  fresh_zero_monotone Blank (Old q) h a c k = absurd h
  fresh_zero_monotone Zero Blank h a c k = absurd h
  fresh_zero_monotone Zero Zero h a c k = if_any (int_le (pos 1) a) (int_le (pos 1) c) (reaches_one a c k)
  fresh_zero_monotone Zero (Old q) h a c k = absurd h
  fresh_zero_monotone (Old p) Blank h a c k = absurd h
  fresh_zero_monotone (Old p) Zero h a c k = absurd h
  fresh_zero_monotone (Old p) (Old q) h a c k = o.reflexive (any_zero l n).at

  pub fresh_zero_top : (more : Fresh I) (c : ℤ) → l.leq (fresh_zero l n more c).at (top_zero n).at ≡ true
  fresh_zero_top Blank c = no_zero_top o b
  fresh_zero_top Zero c = if_top (int_le (pos 1) c)
  fresh_zero_top (Old p) c = any_zero_top
