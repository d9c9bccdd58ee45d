-- The row behind a copy of bytes stands for the bytes that came.
use Rattle.std.proofs.Common.{◌≡◌, ℕ, ◌+◌, ◌-◌, ◌^◌, ◌<◌, ◌≤◌, Bool, true, false, cond, Option, Some, None, List, length, arith, subst, sym, refl}
use Rattle.std.specs.Prelude.{slice_get, ℤ, is_some}
use Rattle.std.proofs.lemmas.Option.{slice_get_within}
use Rattle.cc_base.specs.Lattices.{LatticeOf, OrderLaws}
use Rattle.cc_base.specs.IntegerDomains.{IntegersOf, BoundLaws}
use Rattle.c_layout.specs.declared.data_model.Model.{Model}
use Rattle.c_layout.specs.declared.leaf_lists.Class.TheVariants.{Char}
use Rattle.c_layout.specs.declared.leaf_lists.Leaf.{Leaf}
use Rattle.c_layout.specs.declared.shapes.BaseInfo.{BaseInfo}
use Rattle.c_layout.specs.declared.shapes.ZeroPart.{ZeroPart}
use Rattle.cfg.specs.WellFormed.{base_values, base_cells}
use Rattle.cfg.specs.declared.programs.Flow.{Flow}
use Rattle.value_domain.specs.declared.values.row_cells.Cell.{Cell}
use Rattle.value_domain.specs.declared.values.row_cells.Cell.TheVariants.{First}
use Rattle.store_cells.specs.declared.first_zero_writes.ZeroTarget.{ZeroTarget}
use Rattle.store_cells.specs.ClassNumbers.{class_at}
use Rattle.store_cells.specs.FirstZeroWrites.{zero_target, any_zero, forget_target, forget_part, forget_zeros}
use Rattle.store.specs.LeafSelection.{is_overlapped, has_stray}
use Rattle.store_objects.specs.LiveBases.{has_base}
use Rattle.store_cells.specs.RowPositions.{leaf_position, class_position, zero_position, value_at, zero_at, put_zero}
use Rattle.store_cells.specs.Walks.{walk, turns}
use Rattle.transfer_library_writes.specs.CopyWrites.{is_read_class, copied_value, copy_leaf, copy_leaf_of, copy_leaves, copy_class_of, copy_class_cells, copy_heap_part, copy_base, copy_base_if, write_copy}
use Rattle.transfer_library_writes.specs.declared.copied_bytes.CopyWrite.{CopyWrite}
use Rattle.memory_model.specs.Memory.Instances.{Memory, bytes_at}
use Rattle.store_sound.specs.Concretization.SoundMemory.{IsMemoryOf}
use Rattle.store_sound.specs.Concretization.ValueMeaning.{Naming, InGammaZero}
use Rattle.store_sound.specs.Concretization.RowMeaning.{MachineState, array_bytes, IsLiveOf, InGammaLeaf, InGammaClass, InGamma}
use Rattle.store_sound.specs.Operations.Shapes.{IsShaped, IsLaidOut}
use Rattle.store_sound.proofs.operations.Only.{Only, Turned, only_put, only_cond, only_if, only_same}
use Rattle.store_sound.proofs.operations.StoreRows.{Fits, leaf_is, class_is, zero_is, join_only, zeros_only}
use Rattle.store_sound.proofs.chars.ByteArrays.{target_there}
use Rattle.store_sound.specs.Regions.RegionWrites.{IsRegion, WritesWithin, InGammaBase}
use Rattle.store_sound.proofs.regions.BaseRows.{writes_stand, writes_long}
use Rattle.store_sound.proofs.regions.Layers.{value_turn, zero_turn, leaves_within, leaf_turn, part_turn, classes_within, class_turn, layers_within, layers_stand}
use Rattle.store_sound.proofs.regions.RegionArrays.{array_short, array_apart, put_zero_stands, any_zero_stands}
use Rattle.memory_calls_sound.proofs.moves.CopiedCells.{IsCopy, leaf_copied, class_copied}

cond_hit : {A : Type 0} (b : Bool) (x y : A) → b ≡ true → cond b x y ≡ x
cond_hit true x y e = refl
cond_hit false x y e = cc

-- ---- where each part writes

module _ {I : Type 0} (l : LatticeOf I) (n : IntegersOf I) (m : Model) (base : BaseInfo) (fits : Fits base) (write : CopyWrite I) where
  leaf_only : (j : ℕ) (leaf : Leaf) → Only (leaf_position base j) (leaf_position base j + 1) (copy_leaf_of l n m base write leaf j)
  unfolding copy_leaf
  leaf_only j leaf =
      let p : ℕ = leaf_position base j in
      only_cond p (p + 1) (is_overlapped m leaf write.window) _ (λ row. row) (join_only l n m p (copied_value l n m leaf.class leaf.signed write.bytes)) (only_same p (p + 1))

  leaves_only : Only base.first (base.first + length base.shape.cells) (copy_leaves l n m base write)
  unfolding copy_leaves
  leaves_only = leaves_within base fits (copy_leaf_of l n m base write) leaf_only

  class_only : (stray : Bool) (c : ℕ) → Only (class_position base c) (class_position base c + 1) (copy_class_of l n m base write stray c)
  class_only stray c = only_cond _ _ (is_read_class stray c) _ (λ row. row) (join_only l n m (class_position base c) (copied_value l n m (class_at c) true write.bytes)) (only_same _ _)

  numbered_only : (stray : Bool) (c : ℕ) → Only (class_position base (c + 0)) (class_position base (c + 0) + 1) (copy_class_of l n m base write stray c)
  numbered_only stray c = let e : c ≡ c + 0 = omega arith in subst (λ z. Only (class_position base z) (class_position base z + 1) (copy_class_of l n m base write stray c)) e (class_only stray c)

  all_classes_only : base.shape.heap ≡ true → Only (base.first + length base.shape.cells) (base.first + base_cells base) (copy_class_cells l n m base write)
  unfolding copy_class_cells
  all_classes_only heap = classes_within base fits heap 0 6 (omega arith) (copy_class_of l n m base write (has_stray base.shape.cells Char write.window)) (numbered_only (has_stray base.shape.cells Char write.window))

  heap_only : Only (base.first + length base.shape.cells) (base.first + base_cells base) (copy_heap_part l n m base write)
  heap_only = only_if _ _ base.shape.heap (copy_class_cells l n m base write) (λ row. row) all_classes_only (λ none. only_same _ _)

  zero_only : (z : ℕ) (part : ZeroPart) → Only (zero_position base z) (zero_position base z + 1) (forget_part l n base write.window part z)
  unfolding forget_target
  zero_only z part =
      let x : ℕ = zero_position base z in
      only_cond x (x + 1) (is_some (zero_target part write.window)) _ (λ row. row) (only_put x (x + 1) x (λ row. First (any_zero l n)) (omega arith) (omega arith)) (only_same x (x + 1))

  base_within : WritesWithin base.first (base.first + base_values base) (copy_base l n m base write)
  unfolding copy_base
  base_within = layers_within base (copy_leaves l n m base write) (copy_heap_part l n m base write) (forget_zeros l n base write.window) leaves_only heap_only (zeros_only l n m base write.window fits)

-- ---- a base, and all

module _ {I : Type 0} {l : LatticeOf I} {n : IntegersOf I} {gamma : I → ℤ → Type 0} (o : OrderLaws l) (q : BoundLaws l n gamma) (flow : Flow) (naming : Naming) {old new : Memory} {i offset size : ℕ} (s : IsRegion old new i offset size) (sane : IsMemoryOf flow.model flow.bases.items naming new) (write : CopyWrite I) (k : IsCopy o q naming write new i offset size)
    (b : ℕ) (base : BaseInfo) (fits : Fits base) (shape : IsShaped base) (row : List (Cell I)) (long : base.first + base_values base ≤ length row) (t : InGammaBase l n gamma flow naming old b base row) where
  leaf_new : (j : ℕ) (leaf : Leaf) → slice_get base.shape.cells j ≡ Some leaf → InGammaLeaf gamma flow naming new b leaf (value_at l n (copy_leaves l n flow.model base write row) (leaf_position base j))
  unfolding copy_leaves
  leaf_new j leaf e =
      let u = slice_get_within base.shape.cells j leaf e in
      let x = leaf_is base j fits u in
      value_turn l n (InGammaLeaf gamma flow naming old b leaf) (InGammaLeaf gamma flow naming new b leaf) (leaf_position base j) (copy_leaf_of l n flow.model base write leaf j) row (walk (copy_leaf_of l n flow.model base write) 0 base.shape.cells row)
      (leaf_turn base fits (copy_leaf_of l n flow.model base write) (leaf_only l n flow.model base fits write) j leaf e row)
      (λ r same cell. leaf_copied o q flow naming s sane write k b base shape j leaf e r (omega (arith, x, u, same, long)) cell)
      (t.leaves j leaf e)

  module _ (r : List (Cell I)) (same : length r ≡ length row) (heap : base.shape.heap ≡ true) where
    class_there : (c : ℕ) → c < 6 → (r2 : List (Cell I)) → length r2 ≡ length r → class_position base c < length r2
    class_there c small r2 equal = let six : cond {A = ℕ} base.shape.heap 6 0 ≡ 6 = rw heap refl in let x = class_is base c fits (omega (arith, six, small)) in omega (arith, x, six, small, same, long, equal)

    class_by : (c : ℕ) → c < 6 → InGammaClass gamma flow naming old b base (class_at c) (value_at l n r (class_position base c)) → InGammaClass gamma flow naming new b base (class_at c) (value_at l n (copy_class_cells l n flow.model base write r) (class_position base c))
    unfolding copy_class_cells
    class_by c small cell =
        let e : c + 0 ≡ c = omega arith in
        let stray : Bool = has_stray base.shape.cells Char write.window in
        value_turn l n (InGammaClass gamma flow naming old b base (class_at c)) (InGammaClass gamma flow naming new b base (class_at c)) (class_position base c) (copy_class_of l n flow.model base write stray c) r (turns (copy_class_of l n flow.model base write stray) 6 r)
        (subst (λ z. Turned (class_position base z) (copy_class_of l n flow.model base write stray c) r (turns (copy_class_of l n flow.model base write stray) 6 r)) e
        (class_turn base fits heap 0 6 (omega arith) (copy_class_of l n flow.model base write stray) (numbered_only l n flow.model base fits write stray) c small r))
        (λ r2 equal cell2. class_copied o q flow naming s sane write k b base shape heap c r2 (class_there c small r2 equal) cell2)
        cell

    class_new : (c : ℕ) → c < 6 → InGammaClass gamma flow naming old b base (class_at c) (value_at l n r (class_position base c)) → InGammaClass gamma flow naming new b base (class_at c) (value_at l n (copy_heap_part l n flow.model base write r) (class_position base c))
    class_new c small cell = subst (λ z. InGammaClass gamma flow naming new b base (class_at c) (value_at l n z (class_position base c))) (sym (cond_hit base.shape.heap (copy_class_cells l n flow.model base write r) r heap)) (class_by c small cell)

  small_array : (part : ZeroPart) (j : ℕ) → length (array_bytes part (bytes_at new j)) ≤ 2 ^ 64 - 1
  small_array part j = let a = array_short part (bytes_at new j) in let c = sane.small j in omega (arith, a, c)

  -- nothing is known of the arrays that the window meets
  zero_forgotten : (z : ℕ) (part : ZeroPart) (r : List (Cell I)) → zero_position base z < length r → ((j : ℕ) → IsLiveOf naming old b j → InGammaZero gamma naming old (zero_at l n r (zero_position base z)) (array_bytes part (bytes_at old j))) → (j : ℕ) → IsLiveOf naming old b j → InGammaZero gamma naming new (zero_at l n (forget_part l n base write.window part z r) (zero_position base z)) (array_bytes part (bytes_at new j))
  unfolding forget_target
  zero_forgotten z part r there zeros j alive = by_target (zero_target part write.window) refl
    where
      by_target : (target : Option ZeroTarget) → zero_target part write.window ≡ target → InGammaZero gamma naming new (zero_at l n (cond (is_some target) (put_zero r (zero_position base z) (any_zero l n)) r) (zero_position base z)) (array_bytes part (bytes_at new j))
      by_target None e = subst (InGammaZero gamma naming new (zero_at l n r (zero_position base z)))
          (sym (array_apart s part j (λ d x inside from to. let w = k.window x from to in
          let fits = s.fits in
          let same = s.lengths i in
          let small = sane.small i in
          target_there part write.window x inside w.0 w.1 (omega (arith, to, fits, same, small)) e)))
          (zeros j alive)
      by_target (Some target) e = put_zero_stands o q naming new r (zero_position base z) (any_zero l n) (array_bytes part (bytes_at new j)) there (small_array part j) (any_zero_stands o q naming new (array_bytes part (bytes_at new j)) (small_array part j))

  zero_new : (r : List (Cell I)) → length r ≡ length row → (z : ℕ) (part : ZeroPart) → slice_get base.shape.zeros z ≡ Some part → ((j : ℕ) → IsLiveOf naming old b j → InGammaZero gamma naming old (zero_at l n r (zero_position base z)) (array_bytes part (bytes_at old j))) → (j : ℕ) → IsLiveOf naming old b j → InGammaZero gamma naming new (zero_at l n (forget_zeros l n base write.window r) (zero_position base z)) (array_bytes part (bytes_at new j))
  unfolding forget_zeros
  zero_new r same z part e zeros j alive =
      let u = slice_get_within base.shape.zeros z part e in
      let x = zero_is base z fits (omega (arith, u)) in
      zero_turn l n (λ f. (h : ℕ) → IsLiveOf naming old b h → InGammaZero gamma naming old f (array_bytes part (bytes_at old h))) (λ f. InGammaZero gamma naming new f (array_bytes part (bytes_at new j))) (zero_position base z) (forget_part l n base write.window part z) r _
      (part_turn base fits (forget_part l n base write.window) (zero_only l n flow.model base fits write) z part e r)
      (λ r2 equal zeros2. zero_forgotten z part r2 (omega (arith, x, u, equal, same, long)) zeros2 j alive)
      zeros

  pub base_copied : InGammaBase l n gamma flow naming new b base (copy_base l n flow.model base write row)
  unfolding copy_base
  base_copied = layers_stand o q flow naming s b base fits (copy_leaves l n flow.model base write) (copy_heap_part l n flow.model base write) (forget_zeros l n base write.window)
      (leaves_only l n flow.model base fits write) (heap_only l n flow.model base fits write) (zeros_only l n flow.model base write.window fits) row t
      leaf_new (λ r same states c heap small cell. class_new r same heap c small cell) zero_new

module _ {I : Type 0} {l : LatticeOf I} {n : IntegersOf I} {gamma : I → ℤ → Type 0} (o : OrderLaws l) (q : BoundLaws l n gamma) (flow : Flow) (naming : Naming) (row : List (Cell I)) (state : MachineState) (laid : IsLaidOut flow (length row)) (s : InGamma l n gamma flow naming row state)
    (new : Memory) (i offset size : ℕ) (region : IsRegion state.memory new i offset size) (sane : IsMemoryOf flow.model flow.bases.items naming new) (write : CopyWrite I) (k : IsCopy o q naming write new i offset size) (here : (b : ℕ) → naming i ≡ Some b → 0 < size → has_base write.bases b ≡ true) where
  base_long : (b : ℕ) (base : BaseInfo) → slice_get flow.bases.items b ≡ Some base → (base.first + base_values base ≤ 2 ^ 64 - 1) × (base.first + base_values base ≤ length row)
  base_long b base e = let c = laid.laid.close b base e in let d = laid.laid.small in let f = laid.long in (omega (arith, c, d), omega (arith, c, f))

  pub copy_stands : InGamma l n gamma flow naming (write_copy l n flow write row) (record { memory = new; temps = state.temps; entered = state.entered })
  unfolding write_copy copy_base_if
  copy_stands = writes_stand o q flow naming row state laid s new i offset size region sane write.bases (λ base number r. copy_base l n flow.model base write r)
      (λ b base e. base_within l n flow.model base (base_long b base e).0 write)
      here
      (λ b base r e has same t. base_copied o q flow naming region sane write k b base (base_long b base e).0 (laid.shaped.each b base e) r (let h = (base_long b base e).1 in omega (arith, h, same)) t)

  pub copy_long : length (write_copy l n flow write row) ≡ length row
  unfolding write_copy copy_base_if
  copy_long = writes_long o q flow naming row state laid s new i offset size region sane write.bases (λ base number r. copy_base l n flow.model base write r)
      (λ b base e. base_within l n flow.model base (base_long b base e).0 write)
