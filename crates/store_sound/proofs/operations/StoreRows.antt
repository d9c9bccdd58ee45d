-- What a store of a class other than char makes of each position of a row.
use Rattle.std.proofs.Common.{◌≡◌, ℕ, ◌+◌, ◌-◌, ◌^◌, ◌<◌, ◌≤◌, Bool, true, false, cond, Option, Some, List, length, arith, sym, refl, ap, ◌∙◌, inl, inr}
use Rattle.std.specs.Prelude.{slice_get, is_some}
use Rattle.std.proofs.lemmas.Bool.{cases_Bool, and_parts, true≢false}
use Rattle.std.proofs.lemmas.Option.{slice_get_within}
use Rattle.cc_base.specs.Lattices.{LatticeOf}
use Rattle.cc_base.specs.IntegerDomains.{IntegersOf}
use Rattle.c_layout.specs.declared.data_model.Model.{Model}
use Rattle.c_layout.specs.declared.leaf_lists.Class.TheVariants.{Char}
use Rattle.c_layout.specs.declared.leaf_lists.Leaf.{Leaf}
use Rattle.c_layout.specs.declared.shapes.BaseInfo.{BaseInfo}
use Rattle.c_layout.specs.declared.shapes.ZeroPart.{ZeroPart}
use Rattle.cfg.specs.WellFormed.{base_values, base_cells}
use Rattle.pointer_domain.specs.declared.base_sets.Bases.{Bases}
use Rattle.value_domain.specs.Values.Values.{value_lattice}
use Rattle.value_domain.specs.declared.values.values.Value as values
use Rattle.value_domain.specs.declared.values.row_cells.Cell.{Cell}
use Rattle.value_domain.specs.declared.values.row_cells.Cell.TheVariants.{Value, First}
use Rattle.store_cells.specs.declared.access_windows.Window.{Window}
use Rattle.store_cells.specs.declared.cell_reads.Access.{Access}
use Rattle.store.specs.declared.stores.Write.{Write}
use Rattle.store_cells.specs.ClassNumbers.{same_class, class_number}
use Rattle.store_cells.specs.RowPositions.{leaf_position, class_position, zero_position, state_position, cell_at, value_at, join_value, write_value}
use Rattle.store.specs.LeafSelection.{is_selected}
use Rattle.store_objects.specs.LiveBases.{has_base}
use Rattle.store_cells.specs.FirstZeroWrites.{zero_target, forget_target, forget_part, forget_zeros, any_zero}
use Rattle.store.specs.Loads.{reaches_class}
use Rattle.store.specs.Stores.{cell_value, is_strong, store_leaf_at, store_leaf, store_leaves, store_class_cell, store_own, store_wider, store_base, store_if, store_to, store_all}
use Rattle.store_sound.specs.Operations.Shapes.{AreLaid}
use Rattle.store_sound.proofs.operations.Only.{Leaves, Only, only_leaves, only_more, only_same, only_put, only_cond, only_if, only_then, only_walk, Turned, walk_turn}

-- ---- positions

abbrev pub Fits : BaseInfo → Type 0
Fits base = base.first + base_values base ≤ 2 ^ 64 - 1

pub leaf_is : (base : BaseInfo) (j : ℕ) → Fits base → j < length base.shape.cells → leaf_position base j ≡ base.first + j
leaf_is base j f h = omega arith

pub class_is : (base : BaseInfo) (c : ℕ) → Fits base → c ≤ cond base.shape.heap 6 0 → class_position base c ≡ (base.first + length base.shape.cells) + c
class_is base c f h = omega arith

pub zero_is : (base : BaseInfo) (p : ℕ) → Fits base → p ≤ length base.shape.zeros → zero_position base p ≡ (base.first + base_cells base) + p
zero_is base p f h = let e = class_is base (cond base.shape.heap 6 0) f (omega arith) in omega arith

module _ {I : Type 0} where
  turned_if : (p : ℕ) (wanted : Bool) (f g : List (Cell I) → List (Cell I)) → ((row : List (Cell I)) → Turned p g row (f row)) → (row after : List (Cell I)) → Turned p (λ r. cond wanted (f r) r) row after → Turned p (λ r. cond wanted (g r) r) row after
  turned_if p true f g h row after t = let u = h t.before in record { before = u.before; long = u.long ∙ t.long; same = u.same ∙ t.same; turn = t.turn ∙ u.turn }
  turned_if p false f g h row after t = record { before = t.before; long = t.long; same = t.same; turn = t.turn }

module _ {I : Type 0} (l : LatticeOf I) (n : IntegersOf I) (m : Model) where
  -- ---- where each part writes

  pub leaf_only : (write : Write I) (leaf : Leaf) (p : ℕ) → Only p (p + 1) (store_leaf_at l n m write leaf p)
  unfolding store_leaf_at write_value join_value
  leaf_only write leaf p =
      only_cond p (p + 1) (is_selected leaf write.access.class write.access.window) _ (λ row. row)
      (only_cond p (p + 1) (is_strong leaf write) _ _
      (only_put p (p + 1) p (λ row. Value (cell_value n m write leaf.signed)) (omega arith) (omega arith))
      (only_put p (p + 1) p (λ row. Value ((value_lattice l).join (value_at l n row p) (cell_value n m write leaf.signed))) (omega arith) (omega arith)))
      (only_same p (p + 1))

  pub leaves_only : (base : BaseInfo) (write : Write I) → Fits base → Only base.first (base.first + length base.shape.cells) (store_leaves l n m base write)
  unfolding store_leaves
  leaves_only base write f = only_walk (store_leaf l n m base write) _ _ 0 base.shape.cells (λ j a leaf e d.
      let s = slice_get_within base.shape.cells j leaf e in
      let p = leaf_is base a f (omega arith) in
      only_more _ _ _ (omega arith) (omega arith) (leaf_only write leaf (leaf_position base a)))

  pub join_only : (p : ℕ) (v : values.Value I) → Only p (p + 1) (λ row. join_value l n row p v)
  unfolding join_value
  join_only p v = only_put p (p + 1) p (λ row. Value ((value_lattice l).join (value_at l n row p) v)) (omega arith) (omega arith)

  heap_if_reached : (base : BaseInfo) (access : Access) → reaches_class base access ≡ true → base.shape.heap ≡ true
  heap_if_reached base access h = (and_parts _ _ h).0

  pub class_only : (base : BaseInfo) (write : Write I) → Fits base → class_number write.access.class < 6 → Only (base.first + length base.shape.cells) (base.first + base_cells base) (store_class_cell l n m base write)
  unfolding store_class_cell
  class_only base write f small = only_if _ _ (reaches_class base write.access) _ (λ row. row)
      (λ r. let e = heap_if_reached base write.access r in
      let k : cond {A = ℕ} base.shape.heap 6 0 ≡ 6 = rw e in
      let p = class_is base (class_number write.access.class) f (omega arith) in
      only_more _ _ (λ row. join_value l n row (class_position base (class_number write.access.class)) (cell_value n m write true)) (omega arith) (omega arith) (join_only (class_position base (class_number write.access.class)) (cell_value n m write true)))
      (λ r. only_same _ _)

  forget_only : (p : ℕ) (b : Option _) → Only p (p + 1) (λ row. forget_target l n row p b)
  unfolding forget_target
  forget_only p b = only_cond p (p + 1) (is_some b) _ (λ row. row) (only_put p (p + 1) p (λ row. First (any_zero l n)) (omega arith) (omega arith)) (only_same p (p + 1))

  pub zeros_only : (base : BaseInfo) (w : Window) → Fits base → Only (base.first + base_cells base) ((base.first + base_cells base) + length base.shape.zeros) (forget_zeros l n base w)
  unfolding forget_zeros
  zeros_only base w f = only_walk (forget_part l n base w) _ _ 0 base.shape.zeros (λ j a part e d.
      let s = slice_get_within base.shape.zeros j part e in
      let p = zero_is base a f (omega arith) in
      only_more _ _ (λ row. forget_target l n row (zero_position base a) (zero_target part w)) (omega arith) (omega arith) (forget_only (zero_position base a) (zero_target part w)))

  pub wider_only : (base : BaseInfo) (w : Window) → Fits base → Only (base.first + base_cells base) ((base.first + base_cells base) + length base.shape.zeros) (store_wider l n base w)
  unfolding store_wider
  wider_only base w f = only_cond _ _ base.shape.heap _ (λ row. row) (zeros_only base w f) (only_same _ _)

  pub own_only : (base : BaseInfo) (write : Write I) → Fits base → class_number write.access.class < 6 → Only base.first (base.first + base_cells base) (store_own l n m base write)
  unfolding store_own
  own_only base write f small = only_then _ _ (store_leaves l n m base write) (store_class_cell l n m base write)
      (only_more _ _ _ (omega arith) (omega arith) (leaves_only base write f)) (only_more _ _ _ (omega arith) (omega arith) (class_only base write f small))

  pub base_only : (base : BaseInfo) (write : Write I) → Fits base → class_number write.access.class < 6 → same_class write.access.class Char ≡ false → Only base.first (base.first + base_values base) (store_base l n m base write)
  unfolding store_base
  base_only base write f small wide = only_if _ _ (same_class write.access.class Char) _ (λ row. store_wider l n base write.access.window (store_own l n m base write row))
      (λ e. absurd (true≢false (sym e ∙ wide)))
      (λ e. only_then _ _ (store_own l n m base write) (store_wider l n base write.access.window)
      (only_more _ _ _ (omega arith) (omega arith) (own_only base write f small)) (only_more _ _ _ (omega arith) (omega arith) (wider_only base write.access.window f)))

  pub if_only : (lo hi : ℕ) (wanted : Bool) (base : BaseInfo) (write : Write I) → Only lo hi (store_base l n m base write) → Only lo hi (store_if l n m wanted write base)
  unfolding store_if
  if_only lo hi wanted base write o = only_cond lo hi wanted _ (λ row. row) o (only_same lo hi)

  -- ---- what becomes of a position of a base

  module _ (bases : List BaseInfo) (behind : ℕ) (laid : AreLaid bases behind) (set : Bases) (write : Write I) (small : class_number write.access.class < 6) (wide : same_class write.access.class Char ≡ false) where
    fits_at : (b : ℕ) (base : BaseInfo) → slice_get bases b ≡ Some base → Fits base
    fits_at b base e = let a = laid.small in let c = laid.close b base e in omega arith

    pub others_keep : (p b : ℕ) (base : BaseInfo) → slice_get bases b ≡ Some base → base.first ≤ p → p < base.first + base_values base → (row : List (Cell I)) → Turned p (store_to l n m set write base b) row (store_all l n m bases set write row)
    unfolding store_all
    others_keep p b base e h k row = walk_turn (store_to l n m set write) p 0 bases b b base e (omega arith) (λ i c other f d ne.
        only_leaves p _ (if_only other.first (other.first + base_values other) (has_base set c) other write (base_only other write (fits_at i other f) small wide))
        (λ u v. elim (laid.apart i b other base f e ne) [ inl x ↦ absurd (omega arith) | inr x ↦ absurd (omega arith) ])) row

    -- a position behind all bases stays
    pub behind_keeps : (p : ℕ) → behind ≤ p → Leaves p (store_all l n m bases set write)
    unfolding store_all
    behind_keeps p h = only_leaves p _ (only_walk (store_to l n m set write) 0 behind 0 bases (λ i c other f d.
        let k = laid.close i other f in
        only_more 0 behind _ (omega arith) (omega arith) (if_only other.first (other.first + base_values other) (has_base set c) other write (base_only other write (fits_at i other f) small wide)))) (λ u v. omega arith)

    base_is : (base : BaseInfo) (row : List (Cell I)) → store_base l n m base write row ≡ store_wider l n base write.access.window (store_own l n m base write row)
    unfolding store_base
    base_is base row = rw wide

    -- a leaf
    in_leaves : (base : BaseInfo) (f : Fits base) (j : ℕ) (leaf : Leaf) → slice_get base.shape.cells j ≡ Some leaf → (row : List (Cell I)) → Turned (leaf_position base j) (store_leaf l n m base write leaf j) row (store_leaves l n m base write row)
    unfolding store_leaves
    in_leaves base f j leaf e row = walk_turn (store_leaf l n m base write) (leaf_position base j) 0 base.shape.cells j j leaf e (omega arith) (λ i c other g d ne.
        let s = slice_get_within base.shape.cells i other g in
        let t = slice_get_within base.shape.cells j leaf e in
        let p = leaf_is base c f (omega arith) in
        let r = leaf_is base j f t in
        only_leaves (leaf_position base j) _ (leaf_only write other (leaf_position base c)) (λ u v. ne (omega arith))) row

    leaf_in_base : (base : BaseInfo) (f : Fits base) (j : ℕ) (leaf : Leaf) → slice_get base.shape.cells j ≡ Some leaf → (row : List (Cell I)) → Turned (leaf_position base j) (store_leaf l n m base write leaf j) row (store_base l n m base write row)
    unfolding store_own
    leaf_in_base base f j leaf e row =
        let t = slice_get_within base.shape.cells j leaf e in
        let r = leaf_is base j f t in
        let u = in_leaves base f j leaf e row in
        record {
          before = u.before;
          long = u.long;
          same = u.same;
          turn = ap (λ z. cell_at z (leaf_position base j)) (base_is base row)
              ∙ ((wider_only base write.access.window f).keeps (store_own l n m base write row) (leaf_position base j) (λ a b. omega arith)
              ∙ ((class_only base write f small).keeps (store_leaves l n m base write row) (leaf_position base j) (λ a b. omega arith) ∙ u.turn));
        }

    pub leaf_after : (b : ℕ) (base : BaseInfo) (j : ℕ) (leaf : Leaf) → slice_get bases b ≡ Some base → slice_get base.shape.cells j ≡ Some leaf → (row : List (Cell I)) → Turned (leaf_position base j) (λ r. cond (has_base set b) (store_leaf l n m base write leaf j r) r) row (store_all l n m bases set write row)
    unfolding store_if
    leaf_after b base j leaf e g row =
        let f = fits_at b base e in
        let t = slice_get_within base.shape.cells j leaf g in
        let r = leaf_is base j f t in
        turned_if (leaf_position base j) (has_base set b) (store_base l n m base write) (store_leaf l n m base write leaf j) (leaf_in_base base f j leaf g) row _ (others_keep (leaf_position base j) b base e (omega arith) (omega arith) row)

    -- the class cell of the store's class
    class_in_base : (base : BaseInfo) (f : Fits base) → base.shape.heap ≡ true → (row : List (Cell I)) → Turned (class_position base (class_number write.access.class)) (store_class_cell l n m base write) row (store_base l n m base write row)
    unfolding store_own
    class_in_base base f heap row =
        let k : cond {A = ℕ} base.shape.heap 6 0 ≡ 6 = rw heap in
        let r = class_is base (class_number write.access.class) f (omega arith) in
        record {
          before = store_leaves l n m base write row;
          long = (leaves_only base write f).long row;
          same = (leaves_only base write f).keeps row (class_position base (class_number write.access.class)) (λ a b. omega arith);
          turn = ap (λ z. cell_at z (class_position base (class_number write.access.class))) (base_is base row)
              ∙ (wider_only base write.access.window f).keeps (store_own l n m base write row) (class_position base (class_number write.access.class)) (λ a b. omega arith);
        }

    pub class_after : (b : ℕ) (base : BaseInfo) → slice_get bases b ≡ Some base → base.shape.heap ≡ true → (row : List (Cell I)) → Turned (class_position base (class_number write.access.class)) (λ r. cond (has_base set b) (store_class_cell l n m base write r) r) row (store_all l n m bases set write row)
    unfolding store_if
    class_after b base e heap row =
        let f = fits_at b base e in
        let k : cond {A = ℕ} base.shape.heap 6 0 ≡ 6 = rw heap in
        let r = class_is base (class_number write.access.class) f (omega arith) in
        turned_if (class_position base (class_number write.access.class)) (has_base set b) (store_base l n m base write) (store_class_cell l n m base write) (class_in_base base f heap) row _ (others_keep (class_position base (class_number write.access.class)) b base e (omega arith) (omega arith) row)

    -- a position of the base that none of its parts writes
    pub stays_after : (p b : ℕ) (base : BaseInfo) → slice_get bases b ≡ Some base → base.first ≤ p → p < base.first + base_values base → Leaves p (store_base l n m base write) → (row : List (Cell I)) → cell_at (store_all l n m bases set write row) p ≡ cell_at row p
    unfolding store_if
    stays_after p b base e h k o row =
        let t = others_keep p b base e h k row in
        elim (cases_Bool (has_base set b)) [
          | inl g ↦ t.turn ∙ (rw g (o.keeps t.before) ∙ t.same)
          | inr g ↦ t.turn ∙ (rw g refl ∙ t.same)
        ]

    pub base_leaves : (p : ℕ) (base : BaseInfo) → Leaves p (store_leaves l n m base write) → Leaves p (store_class_cell l n m base write) → Leaves p (store_wider l n base write.access.window) → Leaves p (store_base l n m base write)
    unfolding store_own
    base_leaves p base a b c = record {
      long = λ row. ap length (base_is base row) ∙ (c.long (store_own l n m base write row) ∙ (b.long (store_leaves l n m base write row) ∙ a.long row));
      keeps = λ row. ap (λ z. cell_at z p) (base_is base row) ∙ (c.keeps (store_own l n m base write row) ∙ (b.keeps (store_leaves l n m base write row) ∙ a.keeps row));
    }

    -- a class cell of another class
    class_leaves : (base : BaseInfo) (f : Fits base) (p : ℕ) → (p ≡ class_position base (class_number write.access.class) → ⊥) → Leaves p (store_class_cell l n m base write)
    unfolding store_class_cell
    class_leaves base f p ne = only_leaves {lo = class_position base (class_number write.access.class)} {hi = class_position base (class_number write.access.class) + 1} p (store_class_cell l n m base write)
        (only_cond _ _ (reaches_class base write.access) _ (λ row. row) (join_only (class_position base (class_number write.access.class)) (cell_value n m write true)) (only_same _ _)) (λ a b. ne (omega arith))

    pub other_class_after : (b : ℕ) (base : BaseInfo) (cn : ℕ) → slice_get bases b ≡ Some base → base.shape.heap ≡ true → cn < 6 → (cn ≡ class_number write.access.class → ⊥) → (row : List (Cell I)) → cell_at (store_all l n m bases set write row) (class_position base cn) ≡ cell_at row (class_position base cn)
    other_class_after b base cn e heap h ne row =
        let f = fits_at b base e in
        let k : cond {A = ℕ} base.shape.heap 6 0 ≡ 6 = rw heap in
        let r = class_is base cn f (omega arith) in
        let t = class_is base (class_number write.access.class) f (omega arith) in
        stays_after (class_position base cn) b base e (omega arith) (omega arith)
        (base_leaves (class_position base cn) base (only_leaves _ _ (leaves_only base write f) (λ a b. omega arith)) (class_leaves base f (class_position base cn) (λ d. ne (omega arith))) (only_leaves _ _ (wider_only base write.access.window f) (λ a b. omega arith))) row

    pub state_after : (b : ℕ) (base : BaseInfo) → slice_get bases b ≡ Some base → base.shape.heap ≡ true → (row : List (Cell I)) → cell_at (store_all l n m bases set write row) (state_position base) ≡ cell_at row (state_position base)
    state_after b base e heap row =
        let f = fits_at b base e in
        let k : cond {A = ℕ} base.shape.heap 6 0 ≡ 6 = rw heap in
        let j : cond {A = ℕ} base.shape.heap 1 0 ≡ 1 = rw heap in
        let r = zero_is base (length base.shape.zeros) f (omega arith) in
        stays_after (state_position base) b base e (omega arith) (omega arith)
        (base_leaves (state_position base) base (only_leaves _ _ (leaves_only base write f) (λ a b. omega arith)) (only_leaves _ _ (class_only base write f small) (λ a b. omega arith)) (only_leaves _ _ (wider_only base write.access.window f) (λ a b. omega arith))) row

    object_wider : (base : BaseInfo) (p : ℕ) → base.shape.heap ≡ false → Leaves p (store_wider l n base write.access.window)
    unfolding store_wider
    object_wider base p h = record { long = λ row. rw h refl; keeps = λ row. rw h refl }

    pub object_zero_after : (b : ℕ) (base : BaseInfo) (z : ℕ) → slice_get bases b ≡ Some base → base.shape.heap ≡ false → z < length base.shape.zeros → (row : List (Cell I)) → cell_at (store_all l n m bases set write row) (zero_position base z) ≡ cell_at row (zero_position base z)
    object_zero_after b base z e heap h row =
        let f = fits_at b base e in
        let r = zero_is base z f (omega arith) in
        stays_after (zero_position base z) b base e (omega arith) (omega arith)
        (base_leaves (zero_position base z) base (only_leaves _ _ (leaves_only base write f) (λ a b. omega arith)) (only_leaves _ _ (class_only base write f small) (λ a b. omega arith)) (object_wider base (zero_position base z) heap)) row

    in_zeros : (base : BaseInfo) (f : Fits base) (z : ℕ) (part : ZeroPart) → slice_get base.shape.zeros z ≡ Some part → (row : List (Cell I)) → Turned (zero_position base z) (λ r. forget_target l n r (zero_position base z) (zero_target part write.access.window)) row (forget_zeros l n base write.access.window row)
    unfolding forget_zeros
    in_zeros base f z part e row = walk_turn (forget_part l n base write.access.window) (zero_position base z) 0 base.shape.zeros z z part e (omega arith) (λ i c other g d ne.
        let s = slice_get_within base.shape.zeros i other g in
        let t = slice_get_within base.shape.zeros z part e in
        let p = zero_is base c f (omega arith) in
        let r = zero_is base z f (omega arith) in
        only_leaves (zero_position base z) (λ r. forget_target l n r (zero_position base c) (zero_target other write.access.window)) (forget_only (zero_position base c) (zero_target other write.access.window)) (λ u v. ne (omega arith))) row

    zero_in_base : (base : BaseInfo) (f : Fits base) (z : ℕ) (part : ZeroPart) → base.shape.heap ≡ true → slice_get base.shape.zeros z ≡ Some part → (row : List (Cell I)) → Turned (zero_position base z) (λ r. forget_target l n r (zero_position base z) (zero_target part write.access.window)) row (store_base l n m base write row)
    unfolding store_own store_wider
    zero_in_base base f z part heap e row =
        let t = slice_get_within base.shape.zeros z part e in
        let r = zero_is base z f (omega arith) in
        let own : List (Cell I) = store_own l n m base write row in
        let u = in_zeros base f z part e own in
        let w : store_wider l n base write.access.window own ≡ forget_zeros l n base write.access.window own = rw heap refl in
        let o = own_only base write f small in
        record {
          before = u.before;
          long = u.long ∙ o.long row;
          same = u.same ∙ o.keeps row (zero_position base z) (λ a b. omega arith);
          turn = ap (λ y. cell_at y (zero_position base z)) (base_is base row ∙ w) ∙ u.turn;
        }

    pub heap_zero_after : (b : ℕ) (base : BaseInfo) (z : ℕ) (part : ZeroPart) → slice_get bases b ≡ Some base → base.shape.heap ≡ true → slice_get base.shape.zeros z ≡ Some part → (row : List (Cell I)) → Turned (zero_position base z) (λ r. cond (has_base set b) (forget_target l n r (zero_position base z) (zero_target part write.access.window)) r) row (store_all l n m bases set write row)
    unfolding store_if
    heap_zero_after b base z part e heap g row =
        let f = fits_at b base e in
        let t = slice_get_within base.shape.zeros z part g in
        let r = zero_is base z f (omega arith) in
        turned_if (zero_position base z) (has_base set b) (store_base l n m base write) (λ r. forget_target l n r (zero_position base z) (zero_target part write.access.window)) (zero_in_base base f z part heap g) row _ (others_keep (zero_position base z) b base e (omega arith) (omega arith) row)
