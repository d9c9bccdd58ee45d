-- What the cells of a class of a set of bases give, and that its bounds are near.
use Rattle.std.proofs.Common.{◌≡◌, ℕ, Bool, true, false, cond, Some, None, List, arith, refl}
use Rattle.std.specs.Prelude.{slice_get, ℤ}
use Rattle.cc_base.specs.Lattices.{LatticeOf, OrderLaws}
use Rattle.cc_base.specs.IntegerDomains.{IntegersOf, BoundLaws, RangeLaws}
use Rattle.cc_base.specs.NumberRanges.{Range}
use Rattle.cc_base.specs.declared.int_types.IntType.{IntType}
use Rattle.cc_base.specs.IntegerTypes.{is_size}
use Rattle.c_layout.specs.declared.data_model.Model.{Model}
use Rattle.c_layout.specs.declared.leaf_lists.Class.{Class}
use Rattle.c_layout.specs.declared.leaf_lists.Leaf.{Leaf}
use Rattle.c_layout.specs.declared.shapes.BaseInfo.{BaseInfo}
use Rattle.pointer_domain.specs.declared.base_sets.Bases.{Bases}
use Rattle.value_domain.specs.Values.Values.{value_lattice, value_order}
use Rattle.value_domain.specs.Values.ValueTables.{blank_value}
use Rattle.value_domain.specs.declared.values.values.Value as values
use Rattle.value_domain.specs.declared.values.row_cells.Cell.{Cell}
use Rattle.store_objects.specs.Allocations.{class_cell, joined_if, class_leaf, class_values, old_more, old_value}
use Rattle.store_cells.specs.CellReads.{as_stored}
use Rattle.store_cells.specs.ClassNumbers.{class_number, is_pointer, same_class}
use Rattle.store_objects.specs.LiveBases.{has_base}
use Rattle.store_cells.specs.NearValues.{near_number}
use Rattle.store_cells.specs.RowPositions.{leaf_position, class_position, value_at}
use Rattle.store_cells.specs.ScalarTypes.{kind_of}
use Rattle.store_sound.proofs.operations.Classes.{is_same_class, class_size}
use Rattle.store_sound.proofs.operations.FreshValues.{type_near}
use Rattle.store_sound.proofs.operations.Near.{IsNearValue, value_at_near, join_near, near_number_from, near_number_none}
use Rattle.store_sound.proofs.operations.Walks.{walk_keeps, walk_meets}

module _ {I : Type 0} {l : LatticeOf I} (o : OrderLaws l) (n : IntegersOf I) (m : Model) (row : List (Cell I)) (class : Class) (signed : Bool) (P : values.Value I → Type 0) (up : (x y : values.Value I) → (value_lattice l).leq x y ≡ true → P x → P y) where
  if_keeps : (wanted : Bool) (found v : values.Value I) → P found → P (joined_if l wanted found v)
  if_keeps true found v h = up found _ ((value_order o).join_left found v) h
  if_keeps false found v h = h

  if_gives : (wanted : Bool) (found v : values.Value I) → wanted ≡ true → P v → P (joined_if l wanted found v)
  if_gives true found v e h = up v _ ((value_order o).join_right found v) h
  if_gives false found v e h = cc

  -- a leaf of the class
  pub leaf_gives : (base : BaseInfo) (j : ℕ) (leaf : Leaf) → slice_get base.shape.cells j ≡ Some leaf → leaf.class ≡ class → P (as_stored n m (value_at l n row (leaf_position base j)) class signed) → P (class_values l n m row (record { class = class; signed = signed }) base)
  unfolding class_values
  leaf_gives base j leaf e same h = walk_meets P (class_leaf l n m row (record { class = class; signed = signed }) base)
      (λ other at found g. if_keeps (same_class other.class class) found _ g)
      0 base.shape.cells (class_cell l n m row (record { class = class; signed = signed }) base) j j leaf e (omega arith)
      (λ found. if_gives (same_class leaf.class class) found (as_stored n m (value_at l n row (leaf_position base j)) class signed) (is_same_class leaf.class class same) h)

  cond_gives : (b : Bool) (x y : values.Value I) → b ≡ true → P x → P (cond b x y)
  cond_gives true x y e h = h
  cond_gives false x y e h = cc

  -- the class cell
  pub cell_gives : (base : BaseInfo) → base.shape.heap ≡ true → P (as_stored n m (value_at l n row (class_position base (class_number class))) class signed) → P (class_values l n m row (record { class = class; signed = signed }) base)
  unfolding class_values class_cell
  cell_gives base heap h = walk_keeps P (class_leaf l n m row (record { class = class; signed = signed }) base)
      (λ other at found g. if_keeps (same_class other.class class) found _ g)
      0 base.shape.cells _ (cond_gives base.shape.heap (as_stored n m (value_at l n row (class_position base (class_number class))) class signed) (value_lattice l).least heap h)

  -- one base of the set
  pub base_gives : (bases : List BaseInfo) (set : Bases) (b : ℕ) (base : BaseInfo) → slice_get bases b ≡ Some base → has_base set b ≡ true → P (class_values l n m row (record { class = class; signed = signed }) base) → P (old_value l n m bases row set (record { class = class; signed = signed }))
  unfolding old_value
  base_gives bases set b base e has h = walk_meets P (old_more l n m row set (record { class = class; signed = signed }))
      (λ other at found g. if_keeps (has_base set at) found _ g)
      0 bases (value_lattice l).least b b base e (omega arith)
      (λ found. if_gives (has_base set b) found (class_values l n m row (record { class = class; signed = signed }) base) has h)

-- ---- bounds

module _ {I : Type 0} {l : LatticeOf I} {n : IntegersOf I} {gamma : I → ℤ → Type 0} (o : OrderLaws l) (q : BoundLaws l n gamma) (r : RangeLaws l n) (m : Model) (row : List (Cell I)) (class : Class) (signed : Bool) where
  convert_near : (x : I) (k : IntType) (b : Range) → is_size k.bytes ≡ true → n.bounds (n.convert x k) ≡ b → near_number l n (n.convert x k) ≡ n.convert x k
  convert_near x k None h e = near_number_none o q (n.convert x k) e
  convert_near x k (Some p) h e = let f = r.convert_fits x k p.0 p.1 h e in let g = type_near k p.0 p.1 h f.0 f.1 in near_number_from o q (n.convert x k) p.0 p.1 e g.0 g.1

  stored_near : (v : values.Value I) → IsNearValue l n v → IsNearValue l n (as_stored n m v class signed)
  stored_near v h = by_class (is_pointer class)
    where
      by_class : (p : Bool) → IsNearValue l n (cond p v (record v { num = n.convert v.num (kind_of m class signed) }))
      by_class true = h
      by_class false = record { num = convert_near v.num (kind_of m class signed) _ (class_size m class) refl; lo = h.lo; rel = h.rel; len = h.len }

  least_near : IsNearValue l n (value_lattice l).least
  least_near = let none = near_number_none o q l.least q.least_bounds in record { num = none; lo = none; rel = none; len = none }

  pub blank_near : IsNearValue l n (blank_value l)
  blank_near = let none = near_number_none o q l.least q.least_bounds in record { num = none; lo = none; rel = none; len = none }

  if_near : (wanted : Bool) (found v : values.Value I) → IsNearValue l n found → IsNearValue l n v → IsNearValue l n (joined_if l wanted found v)
  if_near true found v h g = join_near o q found v h g
  if_near false found v h g = h

  cond_near : (b : Bool) (x y : values.Value I) → IsNearValue l n x → IsNearValue l n y → IsNearValue l n (cond b x y)
  cond_near true x y h g = h
  cond_near false x y h g = g

  class_near : (base : BaseInfo) → IsNearValue l n (class_values l n m row (record { class = class; signed = signed }) base)
  unfolding class_values class_cell
  class_near base = walk_keeps (IsNearValue l n) (class_leaf l n m row (record { class = class; signed = signed }) base)
      (λ leaf at found g. if_near (same_class leaf.class class) found _ g (stored_near (value_at l n row (leaf_position base at)) (value_at_near o q row (leaf_position base at))))
      0 base.shape.cells _ (cond_near base.shape.heap _ _ (stored_near (value_at l n row (class_position base (class_number class))) (value_at_near o q row (class_position base (class_number class)))) least_near)

  pub old_near : (bases : List BaseInfo) (set : Bases) → IsNearValue l n (old_value l n m bases row set (record { class = class; signed = signed }))
  unfolding old_value
  old_near bases set = walk_keeps (IsNearValue l n) (old_more l n m row set (record { class = class; signed = signed }))
      (λ base at found g. if_near (has_base set at) found _ g (class_near base))
      0 bases (value_lattice l).least least_near
