-- The row behind `memset` stands for the bytes that it sets.
use Rattle.std.proofs.Common.{◌≡◌, ℕ, zero, suc, ◌+◌, ◌-◌, ◌^◌, ◌<◌, ◌≤◌, Bool, true, false, cond, Some, List, length, arith, subst, sym, refl}
use Rattle.std.specs.Prelude.{slice_get, ℤ, is_some}
use Rattle.std.proofs.lemmas.Option.{slice_get_within}
use Rattle.cc_base.specs.Lattices.{LatticeOf, OrderLaws}
use Rattle.cc_base.specs.IntegerDomains.{IntegersOf, BoundLaws}
use Rattle.c_layout.specs.declared.data_model.Model.{Model}
use Rattle.c_layout.specs.declared.leaf_lists.Class.TheVariants.{Char}
use Rattle.c_layout.specs.declared.leaf_lists.Leaf.{Leaf}
use Rattle.c_layout.specs.declared.shapes.BaseInfo.{BaseInfo}
use Rattle.c_layout.specs.declared.shapes.ZeroPart.{ZeroPart}
use Rattle.cfg.specs.WellFormed.{base_values, base_cells}
use Rattle.cfg.specs.declared.programs.Flow.{Flow}
use Rattle.value_domain.specs.declared.values.row_cells.Cell.{Cell}
use Rattle.value_domain.specs.declared.values.row_cells.Cell.TheVariants.{First}
use Rattle.store_cells.specs.ClassNumbers.{class_at}
use Rattle.store_cells.specs.FirstZeroWrites.{zero_target}
use Rattle.store.specs.LeafSelection.{is_overlapped, has_stray}
use Rattle.store_objects.specs.LiveBases.{has_base, is_one_instance}
use Rattle.store_cells.specs.RowPositions.{leaf_position, class_position, zero_position, state_position, value_at, zero_at, state_at}
use Rattle.store_cells.specs.Walks.{walk, turns}
use Rattle.transfer_library_writes.specs.FillWrites.{is_covered, covered_value, fill_leaf, fill_leaf_of, fill_leaves, clears_instance, class_value, fill_stray, fill_class, fill_classes, fill_class_cells, fill_heap_part, zero_met, fill_zero, fill_zeros, fill_base, fill_base_if, write_fill}
use Rattle.transfer_library_writes.specs.declared.fill_writes.FillWrite.{FillWrite}
use Rattle.memory_model.specs.Memory.Instances.{Memory, bytes_at, life_at}
use Rattle.store_cells.specs.ByteWrites.{byte_written}
use Rattle.store_sound.specs.Concretization.SoundMemory.{IsMemoryOf}
use Rattle.store_sound.specs.Concretization.ValueMeaning.{Naming, InGammaZero, InGammaState}
use Rattle.store_sound.specs.Concretization.RowMeaning.{MachineState, array_bytes, IsLiveOf, InGammaLeaf, InGammaClass, InGamma}
use Rattle.store_sound.specs.Operations.Shapes.{IsShaped, IsLaidOut}
use Rattle.store_sound.proofs.operations.Only.{Only, only_more, only_same, only_put, only_cond, only_if, only_then}
use Rattle.store_sound.proofs.operations.StoreRows.{Fits, leaf_is, class_is, zero_is, join_only}
use Rattle.store_sound.proofs.operations.StoreValues.{same_value}
use Rattle.store_sound.specs.Regions.RegionWrites.{IsRegion, WritesWithin, InGammaBase}
use Rattle.store_sound.proofs.regions.BaseRows.{writes_stand, writes_long}
use Rattle.store_sound.proofs.regions.ByteRegions.{write_only}
use Rattle.store_sound.proofs.regions.Layers.{value_turn, zero_turn, leaves_within, leaf_turn, zeros_within, part_turn, classes_within, class_turn, class_spared, layers_within, layers_stand}
use Rattle.library_sound.proofs.fills.FillCells.{IsFill, leaf_filled, class_joined, char_filled}
use Rattle.library_sound.proofs.fills.FillZeros.{zero_filled}

cond_hit : {A : Type 0} (b : Bool) (x y : A) → b ≡ true → cond b x y ≡ x
cond_hit true x y e = refl
cond_hit false x y e = cc

-- ---- where each part writes

module _ {I : Type 0} (l : LatticeOf I) (n : IntegersOf I) (m : Model) (base : BaseInfo) (fits : Fits base) (write : FillWrite) (alone : Bool) where
  leaf_only : (j : ℕ) (leaf : Leaf) → Only (leaf_position base j) (leaf_position base j + 1) (fill_leaf_of l n m base write alone leaf j)
  unfolding fill_leaf_of fill_leaf
  leaf_only j leaf =
      let p : ℕ = leaf_position base j in
      only_cond p (p + 1) (is_overlapped m leaf write.window) _ (λ row. row)
      (only_cond p (p + 1) (is_covered m leaf write alone) _ _ (write_only l n m p (covered_value l n m leaf.class leaf.signed write) true) (write_only l n m p (byte_written l n m leaf.class leaf.signed write.labels) false))
      (only_same p (p + 1))

  leaves_only : Only base.first (base.first + length base.shape.cells) (fill_leaves l n m base write alone)
  unfolding fill_leaves
  leaves_only = leaves_within base fits (fill_leaf_of l n m base write alone) leaf_only

  stray_only : (cleared : Bool) → Only (class_position base 0) (class_position base 0 + 1) (fill_stray l n m base write cleared)
  stray_only cleared = only_cond _ _ (has_stray base.shape.cells Char write.window) _ (λ row. row) (join_only l n m (class_position base 0) (class_value l n m Char write cleared)) (only_same _ _)

  class_only : (cleared : Bool) (c : ℕ) → Only (class_position base (c + 1)) (class_position base (c + 1) + 1) (fill_class l n m base write cleared c)
  class_only cleared c = join_only l n m (class_position base (c + 1)) (class_value l n m (class_at (c + 1)) write cleared)

  all_classes_only : base.shape.heap ≡ true → (cleared : Bool) → Only (base.first + length base.shape.cells) (base.first + base_cells base) (fill_classes l n m base write cleared)
  all_classes_only heap cleared =
      let k : cond {A = ℕ} base.shape.heap 6 0 ≡ 6 = rw heap refl in
      let x = class_is base 0 fits (omega arith) in
      only_then _ _ (fill_stray l n m base write cleared) (turns (fill_class l n m base write cleared) 5)
      (only_more _ _ _ (omega (arith, x)) (omega (arith, x, k)) (stray_only cleared))
      (classes_within base fits heap 1 5 (omega arith) (fill_class l n m base write cleared) (class_only cleared))

  heap_only : Only (base.first + length base.shape.cells) (base.first + base_cells base) (fill_heap_part l n m base write)
  unfolding fill_class_cells
  heap_only = only_if _ _ base.shape.heap (fill_class_cells l n m base write) (λ row. row)
      (λ heap. record {
        long = λ row. (all_classes_only heap (clears_instance l n base row write)).long row;
        keeps = λ row at none. (all_classes_only heap (clears_instance l n base row write)).keeps row at none;
      })
      (λ none. only_same _ _)

  zero_only : (z : ℕ) (part : ZeroPart) → Only (zero_position base z) (zero_position base z + 1) (fill_zero l n base write alone part z)
  unfolding fill_zero
  zero_only z part =
      let p : ℕ = zero_position base z in
      only_cond p (p + 1) (is_some (zero_target part write.window)) _ (λ row. row) (only_put p (p + 1) p (λ row. First (zero_met l n part (zero_at l n row p) write alone)) (omega arith) (omega arith)) (only_same p (p + 1))

  all_zeros_only : Only (base.first + base_cells base) ((base.first + base_cells base) + length base.shape.zeros) (fill_zeros l n base write alone)
  unfolding fill_zeros
  all_zeros_only = zeros_within base fits (fill_zero l n base write alone) zero_only

  base_within : WritesWithin base.first (base.first + base_values base) (fill_base l n m base write alone)
  unfolding fill_base
  base_within = layers_within base (fill_leaves l n m base write alone) (fill_heap_part l n m base write) (fill_zeros l n base write alone) leaves_only heap_only all_zeros_only

-- ---- a base, and all

module _ {I : Type 0} {l : LatticeOf I} {n : IntegersOf I} {gamma : I → ℤ → Type 0} (o : OrderLaws l) (q : BoundLaws l n gamma) (flow : Flow) (naming : Naming) {old new : Memory} {i offset size : ℕ} (s : IsRegion old new i offset size) (sane : IsMemoryOf flow.model flow.bases.items naming new) (write : FillWrite) (k : IsFill write new i offset size)
    (alone : Bool) (b : ℕ) (base : BaseInfo) (fits : Fits base) (shape : IsShaped base) (single : alone ≡ true → 0 < size → (j : ℕ) → IsLiveOf naming old b j → j ≡ i) (row : List (Cell I)) (long : base.first + base_values base ≤ length row) (t : InGammaBase l n gamma flow naming old b base row) where
  leaf_new : (j : ℕ) (leaf : Leaf) → slice_get base.shape.cells j ≡ Some leaf → InGammaLeaf gamma flow naming new b leaf (value_at l n (fill_leaves l n flow.model base write alone row) (leaf_position base j))
  unfolding fill_leaves
  leaf_new j leaf e =
      let x = leaf_is base j fits (slice_get_within base.shape.cells j leaf e) in
      let u = slice_get_within base.shape.cells j leaf e in
      value_turn l n (InGammaLeaf gamma flow naming old b leaf) (InGammaLeaf gamma flow naming new b leaf) (leaf_position base j) (fill_leaf_of l n flow.model base write alone leaf j) row (walk (fill_leaf_of l n flow.model base write alone) 0 base.shape.cells row)
      (leaf_turn base fits (fill_leaf_of l n flow.model base write alone) (leaf_only l n flow.model base fits write alone) j leaf e row)
      (λ r same cell. leaf_filled o q flow naming s sane write k alone b base shape single j leaf e r (omega (arith, x, u, same, long)) cell)
      (t.leaves j leaf e)

  module _ (r : List (Cell I)) (same : length r ≡ length row) (states : (j : ℕ) → base.shape.heap ≡ true → naming j ≡ Some b → InGammaState gamma naming old (state_at l n r (state_position base)) (life_at old j) (length (bytes_at old j))) (heap : base.shape.heap ≡ true) where
    six : cond {A = ℕ} base.shape.heap 6 0 ≡ 6
    six = rw heap refl

    class_there : (c : ℕ) → c < 6 → class_position base c < length r
    class_there c small = let d = six in let x = class_is base c fits (omega (arith, d, small)) in omega (arith, x, d, small, same, long)

    module _ (cleared : Bool) (is : clears_instance l n base r write ≡ cleared) where
      after_stray : List (Cell I)
      after_stray = fill_stray l n flow.model base write cleared r

      class_by : (c : ℕ) → c < 6 → InGammaClass gamma flow naming old b base (class_at c) (value_at l n r (class_position base c)) → InGammaClass gamma flow naming new b base (class_at c) (value_at l n (turns (fill_class l n flow.model base write cleared) 5 (fill_stray l n flow.model base write cleared r)) (class_position base c))
      class_by zero small cell =
          let spared = class_spared base fits heap 1 5 (omega arith) (fill_class l n flow.model base write cleared) (class_only l n flow.model base fits write alone cleared) 0 (omega arith) in
          subst (InGammaClass gamma flow naming new b base Char) (sym (same_value l n (fill_stray l n flow.model base write cleared r) _ (class_position base 0) (spared.keeps (fill_stray l n flow.model base write cleared r))))
          (char_filled o q flow naming s sane write k alone b base shape single r r cleared is heap states (class_there 0 (omega arith)) cell)
      class_by (suc c) small cell =
          let next : c + 1 ≡ suc c = omega arith in
          let x = class_is base 0 fits (omega arith) in
          let d = six in
          let y = class_is base (suc c) fits (omega (arith, d, small)) in
          let stray = stray_only l n flow.model base fits write alone cleared in
          subst (λ z. InGammaClass gamma flow naming new b base (class_at z) (value_at l n (turns (fill_class l n flow.model base write cleared) 5 (fill_stray l n flow.model base write cleared r)) (class_position base z))) next
          (value_turn l n (InGammaClass gamma flow naming old b base (class_at (c + 1))) (InGammaClass gamma flow naming new b base (class_at (c + 1))) (class_position base (c + 1)) (fill_class l n flow.model base write cleared c) (fill_stray l n flow.model base write cleared r) _
          (class_turn base fits heap 1 5 (omega arith) (fill_class l n flow.model base write cleared) (class_only l n flow.model base fits write alone cleared) c (omega (arith, small)) (fill_stray l n flow.model base write cleared r))
          (λ r2 equal cell2. class_joined o q flow naming s sane write k alone b base shape single (class_at (c + 1)) (c + 1) r r2 cleared is heap states (let there = class_there (c + 1) (omega (arith, small)) in let stray_long = stray.long r in omega (arith, there, stray_long, equal)) cell2)
          (subst (λ z. InGammaClass gamma flow naming old b base (class_at z) (value_at l n (fill_stray l n flow.model base write cleared r) (class_position base z))) (sym next)
          (subst (InGammaClass gamma flow naming old b base (class_at (suc c))) (sym (same_value l n r _ (class_position base (suc c)) (stray.keeps r (class_position base (suc c)) (λ v w. omega (arith, x, y, v, w))))) cell)))

    heap_is : fill_heap_part l n flow.model base write r ≡ fill_classes l n flow.model base write (clears_instance l n base r write) r
    unfolding fill_class_cells
    heap_is = cond_hit base.shape.heap (fill_classes l n flow.model base write (clears_instance l n base r write) r) r heap

    class_new : (c : ℕ) → c < 6 → InGammaClass gamma flow naming old b base (class_at c) (value_at l n r (class_position base c)) → InGammaClass gamma flow naming new b base (class_at c) (value_at l n (fill_heap_part l n flow.model base write r) (class_position base c))
    class_new c small cell = subst (λ z. InGammaClass gamma flow naming new b base (class_at c) (value_at l n z (class_position base c))) (sym heap_is) (class_by (clears_instance l n base r write) refl c small cell)

  zero_new : (r : List (Cell I)) → length r ≡ length row → (z : ℕ) (part : ZeroPart) → slice_get base.shape.zeros z ≡ Some part → ((j : ℕ) → IsLiveOf naming old b j → InGammaZero gamma naming old (zero_at l n r (zero_position base z)) (array_bytes part (bytes_at old j))) → (j : ℕ) → IsLiveOf naming old b j → InGammaZero gamma naming new (zero_at l n (fill_zeros l n base write alone r) (zero_position base z)) (array_bytes part (bytes_at new j))
  unfolding fill_zeros
  zero_new r same z part e zeros j alive =
      let u = slice_get_within base.shape.zeros z part e in
      let x = zero_is base z fits (omega (arith, u)) in
      zero_turn l n (λ f. (h : ℕ) → IsLiveOf naming old b h → InGammaZero gamma naming old f (array_bytes part (bytes_at old h))) (λ f. InGammaZero gamma naming new f (array_bytes part (bytes_at new j))) (zero_position base z) (fill_zero l n base write alone part z) r _
      (part_turn base fits (fill_zero l n base write alone) (zero_only l n flow.model base fits write alone) z part e r)
      (λ r2 equal zeros2. zero_filled o q flow naming s sane write k alone b single base z part r2 (omega (arith, x, u, equal, same, long)) zeros2 j alive)
      zeros

  pub base_filled : InGammaBase l n gamma flow naming new b base (fill_base l n flow.model base write alone row)
  unfolding fill_base
  base_filled = layers_stand o q flow naming s b base fits (fill_leaves l n flow.model base write alone) (fill_heap_part l n flow.model base write) (fill_zeros l n base write alone)
      (leaves_only l n flow.model base fits write alone) (heap_only l n flow.model base fits write alone) (all_zeros_only l n flow.model base fits write alone) row t
      leaf_new (λ r same states c heap small cell. class_new r same states heap c small cell) zero_new

module _ {I : Type 0} {l : LatticeOf I} {n : IntegersOf I} {gamma : I → ℤ → Type 0} (o : OrderLaws l) (q : BoundLaws l n gamma) (flow : Flow) (naming : Naming) (row : List (Cell I)) (state : MachineState) (laid : IsLaidOut flow (length row)) (s : InGamma l n gamma flow naming row state)
    (new : Memory) (i offset size : ℕ) (region : IsRegion state.memory new i offset size) (sane : IsMemoryOf flow.model flow.bases.items naming new) (write : FillWrite) (k : IsFill write new i offset size)
    (here : (b : ℕ) → naming i ≡ Some b → 0 < size → has_base write.bases b ≡ true)
    (single : is_one_instance flow.bases.items write.bases ≡ true → 0 < size → (b j : ℕ) → has_base write.bases b ≡ true → IsLiveOf naming state.memory b j → j ≡ i) where
  base_long : (b : ℕ) (base : BaseInfo) → slice_get flow.bases.items b ≡ Some base → (base.first + base_values base ≤ 2 ^ 64 - 1) × (base.first + base_values base ≤ length row)
  base_long b base e = let c = laid.laid.close b base e in let d = laid.laid.small in let f = laid.long in (omega (arith, c, d), omega (arith, c, f))

  pub fill_stands : InGamma l n gamma flow naming (write_fill l n flow write row) (record { memory = new; temps = state.temps; entered = state.entered })
  unfolding write_fill fill_base_if
  fill_stands = writes_stand o q flow naming row state laid s new i offset size region sane write.bases (λ base number r. fill_base l n flow.model base write (is_one_instance flow.bases.items write.bases) r)
      (λ b base e. base_within l n flow.model base (base_long b base e).0 write (is_one_instance flow.bases.items write.bases))
      here
      (λ b base r e has same t. base_filled o q flow naming region sane write k (is_one_instance flow.bases.items write.bases) b base (base_long b base e).0 (laid.shaped.each b base e) (λ alone some j alive. single alone some b j has alive) r (let h = (base_long b base e).1 in omega (arith, h, same)) t)

  pub fill_long : length (write_fill l n flow write row) ≡ length row
  unfolding write_fill fill_base_if
  fill_long = writes_long o q flow naming row state laid s new i offset size region sane write.bases (λ base number r. fill_base l n flow.model base write (is_one_instance flow.bases.items write.bases) r)
      (λ b base e. base_within l n flow.model base (base_long b base e).0 write (is_one_instance flow.bases.items write.bases))
