-- The row behind a text that is written stands for its bytes, where the rule holds of each array of each base.
use Rattle.std.proofs.Common.{◌≡◌, ℕ, zero, suc, ◌+◌, ◌-◌, ◌^◌, ◌<◌, ◌≤◌, Bool, true, false, cond, Some, List, length, arith, subst, sym, refl}
use Rattle.std.specs.Prelude.{slice_get, ℤ, is_some}
use Rattle.std.proofs.lemmas.Option.{slice_get_within}
use Rattle.cc_base.specs.Lattices.{LatticeOf, OrderLaws}
use Rattle.cc_base.specs.IntegerDomains.{IntegersOf, BoundLaws}
use Rattle.c_layout.specs.declared.data_model.Model.{Model}
use Rattle.c_layout.specs.declared.leaf_lists.Class.TheVariants.{Char}
use Rattle.c_layout.specs.declared.leaf_lists.Leaf.{Leaf}
use Rattle.c_layout.specs.declared.shapes.BaseInfo.{BaseInfo}
use Rattle.c_layout.specs.declared.shapes.ZeroPart.{ZeroPart}
use Rattle.cfg.specs.WellFormed.{base_values, base_cells}
use Rattle.cfg.specs.declared.programs.Flow.{Flow}
use Rattle.value_domain.specs.declared.values.row_cells.Cell.{Cell}
use Rattle.value_domain.specs.declared.values.row_cells.Cell.TheVariants.{First}
use Rattle.store_cells.specs.ByteWrites.{byte_written}
use Rattle.store_cells.specs.ClassNumbers.{class_at}
use Rattle.store_cells.specs.FirstZeroWrites.{zero_target}
use Rattle.store.specs.LeafSelection.{is_overlapped, has_stray}
use Rattle.store_objects.specs.LiveBases.{has_base, is_one_instance}
use Rattle.store_cells.specs.RowPositions.{leaf_position, class_position, zero_position, value_at, zero_at}
use Rattle.store_cells.specs.Walks.{walk, turns}
use Rattle.transfer_library_writes.specs.TextWrites.{character_value, leaf_value, write_leaf, write_leaf_of, write_leaves, write_stray, write_class, write_class_cells, write_heap_part, zero_met, write_zero, write_zeros, write_base, write_base_if, write_into, write_text}
use Rattle.transfer_library_writes.specs.declared.text_writes.TextWrite.{TextWrite}
use Rattle.memory_model.specs.Memory.Instances.{Memory, bytes_at}
use Rattle.store_sound.specs.Concretization.SoundMemory.{IsMemoryOf}
use Rattle.store_sound.specs.Concretization.ValueMeaning.{Naming, InGammaZero}
use Rattle.store_sound.specs.Concretization.RowMeaning.{MachineState, array_bytes, IsLiveOf, InGammaLeaf, InGammaClass, InGamma}
use Rattle.store_sound.specs.Operations.Shapes.{IsShaped, IsLaidOut}
use Rattle.store_sound.proofs.operations.Only.{Only, only_more, only_same, only_put, only_cond, only_if, only_then}
use Rattle.store_sound.proofs.operations.StoreRows.{Fits, leaf_is, class_is, zero_is, join_only}
use Rattle.store_sound.proofs.operations.StoreValues.{same_value}
use Rattle.store_sound.specs.Regions.RegionWrites.{IsRegion, WritesWithin, InGammaBase}
use Rattle.store_sound.proofs.regions.BaseRows.{writes_stand, writes_long}
use Rattle.store_sound.proofs.regions.Layers.{value_turn, zero_turn, leaves_within, leaf_turn, zeros_within, part_turn, classes_within, class_turn, class_spared, layers_within, layers_stand}
use Rattle.library_sound.specs.Texts.TextWrites.{IsTextWrite}
use Rattle.library_sound.proofs.texts.TextCells.{leaf_written, char_written, class_written}
use Rattle.library_sound.proofs.texts.TextZeros.{IsRuled, zero_written}

cond_hit : {A : Type 0} (b : Bool) (x y : A) → b ≡ true → cond b x y ≡ x
cond_hit true x y e = refl
cond_hit false x y e = cc

-- ---- where each part writes

module _ {I : Type 0} (l : LatticeOf I) (n : IntegersOf I) (m : Model) (base : BaseInfo) (fits : Fits base) (write : TextWrite I) (alone : Bool) where
  leaf_only : (j : ℕ) (leaf : Leaf) → Only (leaf_position base j) (leaf_position base j + 1) (write_leaf_of l n m base write leaf j)
  unfolding write_leaf
  leaf_only j leaf =
      let p : ℕ = leaf_position base j in
      only_cond p (p + 1) (is_overlapped m leaf write.window) _ (λ row. row) (join_only l n m p (leaf_value l n m leaf write.characters)) (only_same p (p + 1))

  leaves_only : Only base.first (base.first + length base.shape.cells) (write_leaves l n m base write)
  unfolding write_leaves
  leaves_only = leaves_within base fits (write_leaf_of l n m base write) leaf_only

  stray_only : Only (class_position base 0) (class_position base 0 + 1) (write_stray l n base write)
  stray_only = only_cond _ _ (has_stray base.shape.cells Char write.window) _ (λ row. row) (join_only l n m (class_position base 0) (character_value l n write.characters true)) (only_same _ _)

  class_only : (c : ℕ) → Only (class_position base (c + 1)) (class_position base (c + 1) + 1) (write_class l n m base write c)
  class_only c = join_only l n m (class_position base (c + 1)) (byte_written l n m (class_at (c + 1)) true write.characters.labels)

  all_classes_only : base.shape.heap ≡ true → Only (base.first + length base.shape.cells) (base.first + base_cells base) (write_class_cells l n m base write)
  unfolding write_class_cells
  all_classes_only heap =
      let k : cond {A = ℕ} base.shape.heap 6 0 ≡ 6 = rw heap refl in
      let x = class_is base 0 fits (omega arith) in
      only_then _ _ (write_stray l n base write) (turns (write_class l n m base write) 5)
      (only_more _ _ _ (omega (arith, x)) (omega (arith, x, k)) stray_only)
      (classes_within base fits heap 1 5 (omega arith) (write_class l n m base write) class_only)

  heap_only : Only (base.first + length base.shape.cells) (base.first + base_cells base) (write_heap_part l n m base write)
  heap_only = only_if _ _ base.shape.heap (write_class_cells l n m base write) (λ row. row) all_classes_only (λ none. only_same _ _)

  zero_only : (z : ℕ) (part : ZeroPart) → Only (zero_position base z) (zero_position base z + 1) (write_zero l n base write alone part z)
  unfolding write_zero
  zero_only z part =
      let p : ℕ = zero_position base z in
      only_cond p (p + 1) (is_some (zero_target part write.window)) _ (λ row. row) (only_put p (p + 1) p (λ row. First (zero_met l n part (zero_at l n row p) write alone)) (omega arith) (omega arith)) (only_same p (p + 1))

  all_zeros_only : Only (base.first + base_cells base) ((base.first + base_cells base) + length base.shape.zeros) (write_zeros l n base write alone)
  unfolding write_zeros
  all_zeros_only = zeros_within base fits (write_zero l n base write alone) zero_only

  base_within : WritesWithin base.first (base.first + base_values base) (write_base l n m base write alone)
  unfolding write_base
  base_within = layers_within base (write_leaves l n m base write) (write_heap_part l n m base write) (write_zeros l n base write alone) leaves_only heap_only all_zeros_only

-- ---- a base, and all

module _ {I : Type 0} {l : LatticeOf I} {n : IntegersOf I} {gamma : I → ℤ → Type 0} (o : OrderLaws l) (q : BoundLaws l n gamma) (flow : Flow) (naming : Naming) {old new : Memory} {i offset size : ℕ} (s : IsRegion old new i offset size) (sane : IsMemoryOf flow.model flow.bases.items naming new) (write : TextWrite I) (k : IsTextWrite l n gamma write new i offset size)
    (alone : Bool) (b : ℕ) (base : BaseInfo) (fits : Fits base) (shape : IsShaped base) (single : alone ≡ true → 0 < size → (j : ℕ) → IsLiveOf naming old b j → j ≡ i) (ruled : IsRuled o q flow naming s sane write k alone b base single) (row : List (Cell I)) (long : base.first + base_values base ≤ length row) (t : InGammaBase l n gamma flow naming old b base row) where
  leaf_new : (j : ℕ) (leaf : Leaf) → slice_get base.shape.cells j ≡ Some leaf → InGammaLeaf gamma flow naming new b leaf (value_at l n (write_leaves l n flow.model base write row) (leaf_position base j))
  unfolding write_leaves
  leaf_new j leaf e =
      let u = slice_get_within base.shape.cells j leaf e in
      let x = leaf_is base j fits u in
      value_turn l n (InGammaLeaf gamma flow naming old b leaf) (InGammaLeaf gamma flow naming new b leaf) (leaf_position base j) (write_leaf_of l n flow.model base write leaf j) row (walk (write_leaf_of l n flow.model base write) 0 base.shape.cells row)
      (leaf_turn base fits (write_leaf_of l n flow.model base write) (leaf_only l n flow.model base fits write alone) j leaf e row)
      (λ r same cell. leaf_written o q flow naming s sane write k b base shape j leaf e r (omega (arith, x, u, same, long)) cell)
      (t.leaves j leaf e)

  module _ (r : List (Cell I)) (same : length r ≡ length row) (heap : base.shape.heap ≡ true) where
    six : cond {A = ℕ} base.shape.heap 6 0 ≡ 6
    six = rw heap refl

    class_there : (c : ℕ) → c < 6 → class_position base c < length r
    class_there c small = let d = six in let x = class_is base c fits (omega (arith, d, small)) in omega (arith, x, d, small, same, long)

    class_by : (c : ℕ) → c < 6 → InGammaClass gamma flow naming old b base (class_at c) (value_at l n r (class_position base c)) → InGammaClass gamma flow naming new b base (class_at c) (value_at l n (write_class_cells l n flow.model base write r) (class_position base c))
    unfolding write_class_cells
    class_by zero small cell =
        let spared = class_spared base fits heap 1 5 (omega arith) (write_class l n flow.model base write) (class_only l n flow.model base fits write alone) 0 (omega arith) in
        subst (InGammaClass gamma flow naming new b base Char) (sym (same_value l n (write_stray l n base write r) _ (class_position base 0) (spared.keeps (write_stray l n base write r))))
        (char_written o q flow naming s sane write k b base shape r heap (class_there 0 (omega arith)) cell)
    class_by (suc c) small cell =
        let next : c + 1 ≡ suc c = omega arith in
        let x = class_is base 0 fits (omega arith) in
        let d = six in
        let y = class_is base (suc c) fits (omega (arith, d, small)) in
        let stray = stray_only l n flow.model base fits write alone in
        subst (λ z. InGammaClass gamma flow naming new b base (class_at z) (value_at l n (turns (write_class l n flow.model base write) 5 (write_stray l n base write r)) (class_position base z))) next
        (value_turn l n (InGammaClass gamma flow naming old b base (class_at (c + 1))) (InGammaClass gamma flow naming new b base (class_at (c + 1))) (class_position base (c + 1)) (write_class l n flow.model base write c) (write_stray l n base write r) _
        (class_turn base fits heap 1 5 (omega arith) (write_class l n flow.model base write) (class_only l n flow.model base fits write alone) c (omega (arith, small)) (write_stray l n base write r))
        (λ r2 equal cell2. class_written o q flow naming s sane write k b base shape c r2 (let there = class_there (c + 1) (omega (arith, small)) in let stray_long = stray.long r in omega (arith, there, stray_long, equal)) cell2)
        (subst (λ z. InGammaClass gamma flow naming old b base (class_at z) (value_at l n (write_stray l n base write r) (class_position base z))) (sym next)
        (subst (InGammaClass gamma flow naming old b base (class_at (suc c))) (sym (same_value l n r _ (class_position base (suc c)) (stray.keeps r (class_position base (suc c)) (λ v w. omega (arith, x, y, v, w))))) cell)))

    heap_is : write_heap_part l n flow.model base write r ≡ write_class_cells l n flow.model base write r
    heap_is = cond_hit base.shape.heap (write_class_cells l n flow.model base write r) r heap

    class_new : (c : ℕ) → c < 6 → InGammaClass gamma flow naming old b base (class_at c) (value_at l n r (class_position base c)) → InGammaClass gamma flow naming new b base (class_at c) (value_at l n (write_heap_part l n flow.model base write r) (class_position base c))
    class_new c small cell = subst (λ z. InGammaClass gamma flow naming new b base (class_at c) (value_at l n z (class_position base c))) (sym heap_is) (class_by c small cell)

  zero_new : (r : List (Cell I)) → length r ≡ length row → (z : ℕ) (part : ZeroPart) → slice_get base.shape.zeros z ≡ Some part → ((j : ℕ) → IsLiveOf naming old b j → InGammaZero gamma naming old (zero_at l n r (zero_position base z)) (array_bytes part (bytes_at old j))) → (j : ℕ) → IsLiveOf naming old b j → InGammaZero gamma naming new (zero_at l n (write_zeros l n base write alone r) (zero_position base z)) (array_bytes part (bytes_at new j))
  unfolding write_zeros
  zero_new r same z part e zeros j alive =
      let u = slice_get_within base.shape.zeros z part e in
      let x = zero_is base z fits (omega (arith, u)) in
      zero_turn l n (λ f. (h : ℕ) → IsLiveOf naming old b h → InGammaZero gamma naming old f (array_bytes part (bytes_at old h))) (λ f. InGammaZero gamma naming new f (array_bytes part (bytes_at new j))) (zero_position base z) (write_zero l n base write alone part z) r _
      (part_turn base fits (write_zero l n base write alone) (zero_only l n flow.model base fits write alone) z part e r)
      (λ r2 equal zeros2. zero_written o q flow naming s sane write k alone b base single ruled z part e r2 (omega (arith, x, u, equal, same, long)) zeros2 j alive)
      zeros

  pub base_written : InGammaBase l n gamma flow naming new b base (write_base l n flow.model base write alone row)
  unfolding write_base
  base_written = layers_stand o q flow naming s b base fits (write_leaves l n flow.model base write) (write_heap_part l n flow.model base write) (write_zeros l n base write alone)
      (leaves_only l n flow.model base fits write alone) (heap_only l n flow.model base fits write alone) (all_zeros_only l n flow.model base fits write alone) row t
      leaf_new (λ r same states c heap small cell. class_new r same heap c small cell) zero_new

module _ {I : Type 0} {l : LatticeOf I} {n : IntegersOf I} {gamma : I → ℤ → Type 0} (o : OrderLaws l) (q : BoundLaws l n gamma) (flow : Flow) (naming : Naming) (row : List (Cell I)) (state : MachineState) (laid : IsLaidOut flow (length row)) (s : InGamma l n gamma flow naming row state)
    (new : Memory) (i offset size : ℕ) (region : IsRegion state.memory new i offset size) (sane : IsMemoryOf flow.model flow.bases.items naming new) (write : TextWrite I)
    (here : (b : ℕ) → naming i ≡ Some b → 0 < size → has_base write.bases b ≡ true)
    (single : is_one_instance flow.bases.items write.bases ≡ true → 0 < size → (b j : ℕ) → has_base write.bases b ≡ true → IsLiveOf naming state.memory b j → j ≡ i)
    (k : (b : ℕ) → IsTextWrite l n gamma (write_into write b) new i offset size)
    (ruled : (b : ℕ) (base : BaseInfo) → slice_get flow.bases.items b ≡ Some base → (has : has_base write.bases b ≡ true) → IsRuled o q flow naming region sane (write_into write b) (k b) (is_one_instance flow.bases.items write.bases) b base (λ alone some j alive. single alone some b j has alive)) where
  base_long : (b : ℕ) (base : BaseInfo) → slice_get flow.bases.items b ≡ Some base → (base.first + base_values base ≤ 2 ^ 64 - 1) × (base.first + base_values base ≤ length row)
  base_long b base e = let c = laid.laid.close b base e in let d = laid.laid.small in let f = laid.long in (omega (arith, c, d), omega (arith, c, f))

  pub text_stands : InGamma l n gamma flow naming (write_text l n flow write row) (record { memory = new; temps = state.temps; entered = state.entered })
  unfolding write_text write_base_if
  text_stands = writes_stand o q flow naming row state laid s new i offset size region sane write.bases (λ base number r. write_base l n flow.model base (write_into write number) (is_one_instance flow.bases.items write.bases) r)
      (λ b base e. base_within l n flow.model base (base_long b base e).0 (write_into write b) (is_one_instance flow.bases.items write.bases))
      here
      (λ b base r e has same t. base_written o q flow naming region sane (write_into write b) (k b) (is_one_instance flow.bases.items write.bases) b base (base_long b base e).0 (laid.shaped.each b base e) (λ alone some j alive. single alone some b j has alive) (ruled b base e has) r (let h = (base_long b base e).1 in omega (arith, h, same)) t)

  pub text_long : length (write_text l n flow write row) ≡ length row
  unfolding write_text write_base_if
  text_long = writes_long o q flow naming row state laid s new i offset size region sane write.bases (λ base number r. write_base l n flow.model base (write_into write number) (is_one_instance flow.bases.items write.bases) r)
      (λ b base e. base_within l n flow.model base (base_long b base e).0 (write_into write b) (is_one_instance flow.bases.items write.bases))
