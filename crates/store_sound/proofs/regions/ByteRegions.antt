-- Cells that a window of bytes does not meet, and values that are written.
use Rattle.std.proofs.Common.{◌≡◌, ℕ, ◌+◌, ◌-◌, ◌<◌, ◌≤◌, Bool, true, false, List, length, arith, sym, refl, ap, ◌∙◌}
use Rattle.std.specs.Prelude.{set, ℤ, max, count_by}
use Rattle.std.proofs.lemmas.Bool.{true≢false}
use Rattle.cc_base.specs.Lattices.{LatticeOf, OrderLaws}
use Rattle.cc_base.specs.IntegerDomains.{IntegersOf, BoundLaws}
use Rattle.c_layout.specs.declared.data_model.Model.{Model}
use Rattle.c_layout.specs.declared.leaf_lists.Class.TheVariants.{Char}
use Rattle.c_layout.specs.declared.leaf_lists.Leaf.{Leaf}
use Rattle.c_layout.specs.declared.shapes.BaseInfo.{BaseInfo}
use Rattle.cfg.specs.declared.programs.Flow.{Flow}
use Rattle.value_domain.specs.Values.Values.{value_lattice}
use Rattle.value_domain.specs.declared.values.values.Value as values
use Rattle.value_domain.specs.declared.values.row_cells.Cell.{Cell}
use Rattle.value_domain.specs.declared.values.row_cells.Cell.TheVariants.{Value}
use Rattle.store_cells.specs.declared.access_windows.Window.{Window}
use Rattle.store_cells.specs.AccessWindows.{window_between}
use Rattle.store.specs.LeafSelection.{is_overlapped, has_stray}
use Rattle.store_cells.specs.NearValues.{near_value}
use Rattle.store_cells.specs.RowPositions.{value_at, value_in, join_value, write_value}
use Rattle.memory_model.specs.Memory.ScalarSizes.{class_bytes}
use Rattle.memory_model.specs.Memory.Instances.{Memory}
use Rattle.store_sound.specs.Concretization.Places.{IsPlaceOf, OwnedByLeaf, OwnedByClass, IsClassPlace, IsLeafPlace}
use Rattle.store_sound.specs.Concretization.ValueMeaning.{Naming}
use Rattle.store_sound.specs.Concretization.RowMeaning.{InGammaLeaf, InGammaClass}
use Rattle.store_sound.specs.Operations.Shapes.{IsShaped, at_offset}
use Rattle.store_sound.proofs.operations.Classes.{class_above}
use Rattle.store_sound.proofs.operations.Only.{Only, only_put, cell_put}
use Rattle.store_sound.proofs.operations.Selected.{place_selected, is_stray, counted_place}
use Rattle.store_sound.proofs.operations.StoreLeaves.{zero_count}
use Rattle.store_sound.proofs.operations.StoreValues.{written}
use Rattle.store_sound.specs.Regions.RegionWrites.{IsRegion}
use Rattle.store_sound.proofs.regions.Regions.{cell_apart}

module _ {I : Type 0} (l : LatticeOf I) (n : IntegersOf I) (m : Model) where
  put_value_is : (row : List (Cell I)) (p : ℕ) (v : values.Value I) → p < length row → value_at l n (set row p (Value v)) p ≡ near_value l n v
  unfolding value_at
  put_value_is row p v h = ap (λ c. near_value l n (value_in l c)) (cell_put row p (Value v) h)

  pub write_is : (row : List (Cell I)) (p : ℕ) (v : values.Value I) (strong : Bool) → p < length row → value_at l n (write_value l n row p v strong) p ≡ written l n m (value_at l n row p) v strong
  unfolding write_value join_value
  write_is row p v true h = put_value_is row p v h
  write_is row p v false h = put_value_is row p ((value_lattice l).join (value_at l n row p) v) h

  pub write_only : (p : ℕ) (v : values.Value I) (strong : Bool) → Only p (p + 1) (λ row. write_value l n row p v strong)
  unfolding write_value join_value
  write_only p v true = only_put p (p + 1) p (λ row. Value v) (omega arith) (omega arith)
  write_only p v false = only_put p (p + 1) p (λ row. Value ((value_lattice l).join (value_at l n row p) v)) (omega arith) (omega arith)

module _ {I : Type 0} {l : LatticeOf I} {n : IntegersOf I} {gamma : I → ℤ → Type 0} (o : OrderLaws l) (q : BoundLaws l n gamma) (flow : Flow) (naming : Naming) {old new : Memory} {i offset size : ℕ} (s : IsRegion old new i offset size) where
  -- a leaf that a window with the region does not overlap
  pub leaf_missed : (b : ℕ) (leaf : Leaf) (window : Window) → 0 < leaf.stride → ((x : ℕ) → offset ≤ x → x < offset + size → (window.lo ≤ x) × (x ≤ window.hi)) → is_overlapped flow.model leaf window ≡ false
      → (v : values.Value I) → InGammaLeaf gamma flow naming old b leaf v → InGammaLeaf gamma flow naming new b leaf v
  leaf_missed b leaf window stride has miss v cell =
      let some = class_above flow.model leaf.class in
      let met : (a x : ℕ) → IsPlaceOf leaf a → a ≤ x → x < a + class_bytes flow.model leaf.class → offset ≤ x → x < offset + size → ⊥ = λ a x place from to first last.
      let r = has x first last in
      let r0 = r.0 in
      let r1 = r.1 in
      true≢false (sym (place_selected leaf (window_between (window.lo - (class_bytes flow.model leaf.class - 1)) window.hi) a place stride (omega (arith, r0, to)) (omega (arith, r1, from))) ∙ miss) in
      cell_apart o q flow naming s b leaf.class leaf.signed (λ size a. IsPlaceOf leaf a) (OwnedByLeaf flow.model leaf) v cell
      (λ u a place z from to. met a (max a offset) place (omega arith) (omega (arith, to, z, some)) (omega arith) (omega (arith, from, z)))
      (λ u a k owns from to. let there = owns.there in let small = owns.small in met owns.start a owns.place (omega (arith, there)) (omega (arith, there, small)) from to)

  -- the class cell of characters, where each byte of the window is a leaf's
  pub char_missed : (b : ℕ) (base : BaseInfo) (window : Window) → IsShaped base → base.shape.heap ≡ true → ((x : ℕ) → offset ≤ x → x < offset + size → (window.lo ≤ x) × (x ≤ window.hi)) → has_stray base.shape.cells Char window ≡ false
      → (v : values.Value I) → InGammaClass gamma flow naming old b base Char v → InGammaClass gamma flow naming new b base Char v
  char_missed b base window shape heap has miss v cell =
      let met : (x : ℕ) → offset ≤ x → x < offset + size → (IsLeafPlace base.shape.cells Char x → ⊥) → ⊥ = λ x first last none.
      let r = has x first last in
      let w : count_by (at_offset Char x) base.shape.cells ≡ 0 = zero_count (count_by (at_offset Char x) base.shape.cells) (count_by (at_offset Char x) base.shape.cells) refl (λ k f. none (counted_place base.shape.cells Char x k (shape.single heap) f)) in
      true≢false (sym (is_stray base.shape.cells Char (shape.apart heap Char) window x (shape.single heap) r.0 r.1 w) ∙ miss) in
      cell_apart o q flow naming s b Char true (IsClassPlace flow.model base.shape.cells Char) (OwnedByClass flow.model base.shape.cells Char) v cell
      (λ u a place z from to. met a (omega (arith, to)) from place.no_leaf)
      (λ u a k owns from to. let small = owns.small in met a from to (owns.no_leaf a (omega (arith, small))))
