-- What first zeros and padding leave of a cell, and what padding makes of it.
use Rattle.std.proofs.Common.{◌≡◌, ℕ, zero, suc, ◌+◌, ◌<◌, Bool, true, false, cond, Option, Some, List, length, arith, subst, sym, refl, ap, ◌∙◌, inl, inr}
use Rattle.std.specs.Prelude.{slice_get, ℤ, is_some}
use Rattle.std.proofs.lemmas.Bool.{cases_Bool, cases_eq, true≢false}
use Rattle.std.proofs.lemmas.List.{length-set}
use Rattle.cc_base.specs.Lattices.{LatticeOf, OrderLaws}
use Rattle.cc_base.specs.IntegerDomains.{IntegersOf, BoundLaws}
use Rattle.c_layout.specs.declared.data_model.Model.{Model}
use Rattle.c_layout.specs.declared.leaf_lists.Class.{Class}
use Rattle.c_layout.specs.declared.leaf_lists.Leaf.{Leaf}
use Rattle.c_layout.specs.declared.shapes.BaseInfo.{BaseInfo}
use Rattle.c_layout.specs.declared.shapes.ZeroPart.{ZeroPart}
use Rattle.value_domain.specs.declared.strings.first_zeros.FirstZero.{FirstZero}
use Rattle.value_domain.specs.Values.LabelSets.{all_labels, labels_leq}
use Rattle.value_domain.specs.declared.values.values.Value as values
use Rattle.value_domain.specs.declared.values.row_cells.Cell.{Cell}
use Rattle.value_domain.specs.declared.values.row_cells.Cell.TheVariants.{First}
use Rattle.store_cells.specs.declared.access_windows.Window.{Window}
use Rattle.store_cells.specs.ByteWrites.{byte_written}
use Rattle.store_cells.specs.ClassNumbers.{class_at, is_pointer}
use Rattle.store_cells.specs.FirstZeroWrites.{any_zero, zero_target, last_of}
use Rattle.store_objects.specs.LiveBases.{has_base}
use Rattle.store_cells.specs.NearValues.{near_number}
use Rattle.store_cells.specs.RowLengths.{join_value_keeps}
use Rattle.store_cells.specs.RowPositions.{leaf_position, class_position, zero_position, join_value, put_zero}
use Rattle.store_cells.specs.Walks.{turns}
use Rattle.memory_model.specs.Memory.ScalarSizes.{class_bytes}
use Rattle.memory_model.specs.Memory.Bytes.{Content, indeterminate, number, part}
use Rattle.memory_model.specs.Memory.Instances.{Memory}
use Rattle.memory_model.specs.Memory.Labels.{Labels}
use Rattle.memory_model.specs.Memory.Numbers.{Labelled, number_of}
use Rattle.store_sound.specs.Concretization.SeenLabels.{as_set}
use Rattle.store_sound.specs.Concretization.ValueMeaning.{Naming, InGammaContent}
use Rattle.store_sound.proofs.operations.Near.{IsNearValue, near_number_none}
use Rattle.store_sound.proofs.operations.Only.{only_put}
use Rattle.store_sound.proofs.operations.StoreRows.{Fits}
use Rattle.store_sound.proofs.operations.StoreValues.{same_value}
use Rattle.store_sound.proofs.operations.Walks.{turns_keep}
use Rattle.store_sound.proofs.chars.ByteValues.{written_near, written_number}
use Rattle.store_structs.specs.CopyZeros.{Exact, copied_window, zero_copied, copy_part_at, copy_part, copy_zeros}
use Rattle.store_structs.specs.PaddingWrites.{Padded, has_padding, padding_meets, meets_leaf, unknown_value, pad_leaf_at, pad_leaf, pad_leaves, pad_class, pad_classes, pad_part_at, pad_part, pad_zeros, pad_cells, write_padding}
use Rattle.store_structs.specs.StructCopies.{Route, exact_copy, finish_base, finish_if, finish_at, finish_all, finish}
use Rattle.struct_copies_sound.specs.Cells.LeafWrites.{Fact, IsTold}
use Rattle.struct_copies_sound.proofs.cells.KeptValues.{each_keeps, one_makes, Has, join_keeps, join_makes}
use Rattle.struct_copies_sound.proofs.cells.LeafWrites.{told_up}
use Rattle.struct_copies_sound.proofs.leaves.ReadValues.{IsNoPart, AreBytes}
use Rattle.struct_copies_sound.proofs.batches.FinishWrites.{zeros_only, base_only}

-- ---- a value of which nothing is known

above : (labels : Labels) → labels_leq (as_set labels) all_labels ≡ true
above labels = grind arith

module _ {I : Type 0} {l : LatticeOf I} {n : IntegersOf I} {gamma : I → ℤ → Type 0} (o : OrderLaws l) (q : BoundLaws l n gamma) (m : Model) (class : Class) (signed : Bool) where
  pub unknown_near : IsNearValue l n (unknown_value l n m class signed)
  unknown_near =
      let none : near_number l n l.least ≡ l.least = near_number_none o q l.least q.least_bounds in
      let w : IsNearValue l n (byte_written l n m class signed all_labels) = written_near o q m class signed all_labels in
      elim (cases_Bool (is_pointer class)) [
        | inl e ↦ rw e (record { num = none; lo = none; rel = none; len = none })
        | inr e ↦ (let u = rw e at w in rw e (record { num = u.num; lo = u.lo; rel = u.rel; len = u.len }))
      ]

  pub unknown_number : (ns : List Labelled) → is_pointer class ≡ false → length ns ≡ class_bytes m class → AreBytes ns → gamma (unknown_value l n m class signed).num (number_of signed ns)
  unknown_number ns e size bytes =
      let w : gamma (byte_written l n m class signed all_labels).num (number_of signed ns) = written_number o q m class signed all_labels ns e size bytes in
      let u = rw e at w in
      rw e u

  pub unknown_content : (naming : Naming) (memory : Memory) (c : Content) → IsNoPart c → InGammaContent gamma naming memory (unknown_value l n m class signed) class c
  unknown_content naming memory indeterminate none = elim (cases_Bool (is_pointer class)) [ inl e ↦ rw e refl | inr e ↦ rw e refl ]
  unknown_content naming memory (number k labels) none = elim (cases_Bool (is_pointer class)) [
    | inl e ↦ rw e (above labels, λ f. refl)
    | inr e ↦ rw e (above labels, λ (f : false ≡ true). absurd (true≢false (sym f)))
  ]
  unknown_content naming memory (part p k) none = absurd none

-- ---- a position

module _ {I : Type 0} {l : LatticeOf I} {n : IntegersOf I} {gamma : I → ℤ → Type 0} (o : OrderLaws l) (q : BoundLaws l n gamma) (f : Fact) (p size : ℕ) (there : p < size) where
  abbrev pub Good : List (Cell I) → Type 0
  Good row = Has o q (told_up o q f) p size there row

  abbrev pub Long : List (Cell I) → Type 0
  Long row = length row ≡ size

  zero_keeps : (row : List (Cell I)) (at : ℕ) (z : FirstZero I) → (at ≡ p → ⊥) → Good row → Good (put_zero row at z)
  zero_keeps row at z other h = record {
    long = length-set row at (First z) ∙ h.long;
    good = subst (IsTold l n gamma f) (sym (same_value l n row (put_zero row at z) p ((only_put at (at + 1) at (λ r. First z) (omega arith) (omega arith)).keeps row p (λ a b. other (omega (arith, a, b)))))) h.good;
  }

  -- free first zero of the base stands there
  abbrev pub NoZero : BaseInfo → Type 0
  NoZero base = (z : ℕ) (piece : ZeroPart) → slice_get base.shape.zeros z ≡ Some piece → zero_position base z ≡ p → ⊥

  module _ (m : Model) (pad : Padded) (base : BaseInfo) where
    abbrev unknown : Class → Bool → values.Value I
    unknown = unknown_value l n m

    pub zeros_keep : NoZero base → (w : Window) (exact : Option Exact) (row : List (Cell I)) → Good row → Good (copy_zeros l n base w exact row)
    unfolding copy_zeros copy_part_at
    zeros_keep none w exact row h = each_keeps Good (copy_part l n base w exact) 0 base.shape.zeros
        (λ z a piece e d s g. let same : z ≡ a = omega (arith, d) in by_test piece a (λ t. none z piece e (ap (zero_position base) same ∙ t)) (is_some (zero_target piece w)) s g) row h
      where
        by_test : (piece : ZeroPart) (a : ℕ) → (zero_position base a ≡ p → ⊥) → (t : Bool) (s : List (Cell I)) → Good s → Good (cond t (put_zero s (zero_position base a) (zero_copied l n exact piece s)) s)
        by_test piece a other true s g = zero_keeps s (zero_position base a) (zero_copied l n exact piece s) other g
        by_test piece a other false s g = g

    leaf_keeps : (leaf : Leaf) (a : ℕ) (s : List (Cell I)) → Good s → Good (pad_leaf l n m base pad leaf a s)
    unfolding pad_leaf_at
    leaf_keeps leaf a s g = by_test (meets_leaf m pad leaf)
      where
        by_test : (t : Bool) → Good (cond t (join_value l n s (leaf_position base a) (unknown leaf.class leaf.signed)) s)
        by_test true = join_keeps o q (told_up o q f) p size there s (leaf_position base a) (unknown leaf.class leaf.signed) (unknown_near o q m leaf.class leaf.signed) g
        by_test false = g

    pub leaves_keep : (row : List (Cell I)) → Good row → Good (pad_leaves l n m base pad row)
    unfolding pad_leaves
    leaves_keep row h = each_keeps Good (pad_leaf l n m base pad) 0 base.shape.cells (λ j a leaf e d s g. leaf_keeps leaf a s g) row h

    class_keeps : (a : ℕ) (s : List (Cell I)) → Good s → Good (pad_class l n m base a s)
    unfolding pad_class
    class_keeps a s g = join_keeps o q (told_up o q f) p size there s (class_position base a) (unknown (class_at a) true) (unknown_near o q m (class_at a) true) g

    pub classes_keep : (row : List (Cell I)) → Good row → Good (pad_classes l n m base row)
    unfolding pad_classes
    classes_keep row h = turns_keep Good (pad_class l n m base) (λ a s g. class_keeps a s g) 6 row h

    cells_keep : (row : List (Cell I)) → Good row → Good (pad_cells l n m base pad row)
    unfolding pad_cells
    cells_keep row h = by_heap base.shape.heap
      where
        by_heap : (t : Bool) → Good (cond t (pad_classes l n m base (pad_leaves l n m base pad row)) (pad_leaves l n m base pad row))
        by_heap true = classes_keep (pad_leaves l n m base pad row) (leaves_keep row h)
        by_heap false = leaves_keep row h

    pad_zeros_keep : NoZero base → (row : List (Cell I)) → Good row → Good (pad_zeros l n m base pad row)
    unfolding pad_zeros pad_part_at
    pad_zeros_keep none row h = each_keeps Good (pad_part l n m base pad) 0 base.shape.zeros
        (λ z a piece e d s g. let same : z ≡ a = omega (arith, d) in by_test a (λ t. none z piece e (ap (zero_position base) same ∙ t)) (padding_meets m pad piece.offset (last_of piece.offset piece.size)) s g) row h
      where
        by_test : (a : ℕ) → (zero_position base a ≡ p → ⊥) → (t : Bool) (s : List (Cell I)) → Good s → Good (cond t (put_zero s (zero_position base a) (any_zero l n)) s)
        by_test a other true s g = zero_keeps s (zero_position base a) (any_zero l n) other g
        by_test a other false s g = g

    padding_keeps : NoZero base → (row : List (Cell I)) → Good row → Good (write_padding l n m base pad row)
    unfolding write_padding
    padding_keeps none row h = pad_zeros_keep none (pad_cells l n m base pad row) (cells_keep row h)

    -- ---- cells that the padding meets

    leaves_long : (row : List (Cell I)) → Long row → Long (pad_leaves l n m base pad row)
    unfolding pad_leaves pad_leaf_at
    leaves_long row h = each_keeps Long (pad_leaf l n m base pad) 0 base.shape.cells (λ j a leaf e d s g. by_test leaf a (meets_leaf m pad leaf) s g) row h
      where
        by_test : (y : Leaf) (a : ℕ) (t : Bool) (s : List (Cell I)) → Long s → Long (cond t (join_value l n s (leaf_position base a) (unknown y.class y.signed)) s)
        by_test y a true s g = join_value_keeps l n s (leaf_position base a) (unknown y.class y.signed) ∙ g
        by_test y a false s g = g

    leaf_makes : (j : ℕ) (leaf : Leaf) → slice_get base.shape.cells j ≡ Some leaf → leaf_position base j ≡ p → meets_leaf m pad leaf ≡ true → IsTold l n gamma f (unknown leaf.class leaf.signed) → (row : List (Cell I)) → Long row → Good (pad_leaves l n m base pad row)
    unfolding pad_leaves pad_leaf_at
    leaf_makes j leaf e here met good row long = one_makes Long Good (pad_leaf l n m base pad) 0 base.shape.cells j leaf e
        (λ i a y g d s t. by_test y a (meets_leaf m pad y) s t)
        (λ i a y g d ne s t. leaf_keeps y a s t)
        (λ a d s t.
        let same : j ≡ a = omega (arith, d) in
        let at : leaf_position base a ≡ p = ap (leaf_position base) (sym same) ∙ here in
        subst (λ z. Good (cond z (join_value l n s (leaf_position base a) (unknown leaf.class leaf.signed)) s)) (sym met)
        (subst (λ z. Good (join_value l n s z (unknown leaf.class leaf.signed))) (sym at) (join_makes o q (told_up o q f) p size there s (unknown leaf.class leaf.signed) (unknown_near o q m leaf.class leaf.signed) good t)))
        row long
      where
        by_test : (y : Leaf) (a : ℕ) (t : Bool) (s : List (Cell I)) → Long s → Long (cond t (join_value l n s (leaf_position base a) (unknown y.class y.signed)) s)
        by_test y a true s h = join_value_keeps l n s (leaf_position base a) (unknown y.class y.signed) ∙ h
        by_test y a false s h = h

    class_makes : (d : ℕ) → d < 6 → class_position base d ≡ p → IsTold l n gamma f (unknown (class_at d) true) → (row : List (Cell I)) → Long row → Good (pad_classes l n m base row)
    unfolding pad_classes pad_class
    class_makes d small here good row long = all 6 small
      where
        sized : (count : ℕ) → Long (turns (pad_class l n m base) count row)
        sized zero = long
        sized (suc count) = join_value_keeps l n (turns (pad_class l n m base) count row) (class_position base count) (unknown (class_at count) true) ∙ sized count

        all : (count : ℕ) → d < count → Good (turns (pad_class l n m base) count row)
        all zero h = absurd (omega (arith, h))
        all (suc count) h = elim (cases_eq d count) [
          | inr e ↦ class_keeps count (turns (pad_class l n m base) count row) (all count (omega (arith, h, e)))
          | inl e ↦ (let at : class_position base count ≡ p = ap (class_position base) (sym e) ∙ here in
              let told : IsTold l n gamma f (unknown (class_at count) true) = subst (λ z. IsTold l n gamma f (unknown (class_at z) true)) e good in
              subst (λ z. Good (join_value l n (turns (pad_class l n m base) count row) z (unknown (class_at count) true))) (sym at)
              (join_makes o q (told_up o q f) p size there (turns (pad_class l n m base) count row) (unknown (class_at count) true) (unknown_near o q m (class_at count) true) told (sized count)))
        ]

    pub padded_leaf : NoZero base → (j : ℕ) (leaf : Leaf) → slice_get base.shape.cells j ≡ Some leaf → leaf_position base j ≡ p → meets_leaf m pad leaf ≡ true → IsTold l n gamma f (unknown leaf.class leaf.signed) → (row : List (Cell I)) → Long row → Good (write_padding l n m base pad row)
    unfolding write_padding pad_cells
    padded_leaf none j leaf e here met good row long = pad_zeros_keep none _ (by_heap base.shape.heap)
      where
        by_heap : (t : Bool) → Good (cond t (pad_classes l n m base (pad_leaves l n m base pad row)) (pad_leaves l n m base pad row))
        by_heap true = classes_keep (pad_leaves l n m base pad row) (leaf_makes j leaf e here met good row long)
        by_heap false = leaf_makes j leaf e here met good row long

    pub padded_class : NoZero base → base.shape.heap ≡ true → (d : ℕ) → d < 6 → class_position base d ≡ p → IsTold l n gamma f (unknown (class_at d) true) → (row : List (Cell I)) → Long row → Good (write_padding l n m base pad row)
    unfolding write_padding pad_cells
    padded_class none heap d small here good row long = pad_zeros_keep none _
        (subst (λ z. Good (cond z (pad_classes l n m base (pad_leaves l n m base pad row)) (pad_leaves l n m base pad row))) (sym heap)
        (class_makes d small here good (pad_leaves l n m base pad row) (leaves_long row long)))

  -- ---- all bases

  module _ (r : Route) (pad : Padded) (fits : (b : ℕ) (base : BaseInfo) → slice_get r.bases b ≡ Some base → Fits base) (none : (b : ℕ) (base : BaseInfo) → slice_get r.bases b ≡ Some base → NoZero base) where
    base_keeps : (base : BaseInfo) → NoZero base → (exact : Option Exact) (padding : Bool) (s : List (Cell I)) → Good s → Good (finish_base l n r pad exact padding base s)
    unfolding finish_base
    base_keeps base free exact padding s h = by_test padding
      where
        zeros : Good (copy_zeros l n base (copied_window r.to pad.size) exact s)
        zeros = zeros_keep r.model pad base free (copied_window r.to pad.size) exact s h

        by_test : (t : Bool) → Good (cond t (write_padding l n r.model base pad (copy_zeros l n base (copied_window r.to pad.size) exact s)) (copy_zeros l n base (copied_window r.to pad.size) exact s))
        by_test true = padding_keeps r.model pad base free (copy_zeros l n base (copied_window r.to pad.size) exact s) zeros
        by_test false = zeros

    if_keeps : (wanted : Bool) (base : BaseInfo) → NoZero base → (exact : Option Exact) (padding : Bool) (s : List (Cell I)) → Good s → Good (finish_if l n r pad exact padding wanted base s)
    unfolding finish_if
    if_keeps true base free exact padding s h = base_keeps base free exact padding s h
    if_keeps false base free exact padding s h = h

    pub finish_keeps : (row : List (Cell I)) → Good row → Good (finish l n r pad row)
    unfolding finish finish_all
    finish_keeps row h = each_keeps Good (finish_at l n r pad (exact_copy r pad.size) (has_padding r.model pad)) 0 r.bases
        (λ b a base e d s g. if_keeps (has_base r.target a) base (none b base e) (exact_copy r pad.size) (has_padding r.model pad) s g) row h

    padded_base : (base : BaseInfo) (exact : Option Exact) (s : List (Cell I)) → has_padding r.model pad ≡ true → finish_base l n r pad exact (has_padding r.model pad) base s ≡ write_padding l n r.model base pad (copy_zeros l n base (copied_window r.to pad.size) exact s)
    unfolding finish_base
    padded_base base exact s e = λ i. cond (e i) (write_padding l n r.model base pad (copy_zeros l n base (copied_window r.to pad.size) exact s)) (copy_zeros l n base (copied_window r.to pad.size) exact s)

    -- what the padding of a base of the target makes
    pub finish_makes : (b : ℕ) (base : BaseInfo) → slice_get r.bases b ≡ Some base → has_base r.target b ≡ true → has_padding r.model pad ≡ true → ((s : List (Cell I)) → Long s → Good (write_padding l n r.model base pad s)) → (row : List (Cell I)) → Long row → Good (finish l n r pad row)
    unfolding finish finish_all finish_if
    finish_makes b base at has padding makes row long = one_makes Long Good (finish_at l n r pad (exact_copy r pad.size) (has_padding r.model pad)) 0 r.bases b base at
        (λ c a other e d s h. if_long (has_base r.target a) c other e s h)
        (λ c a other e d ne s g. if_keeps (has_base r.target a) other (none c other e) (exact_copy r pad.size) (has_padding r.model pad) s g)
        (λ a d s h.
        let same : b ≡ a = omega (arith, d) in
        let zeros : List (Cell I) = copy_zeros l n base (copied_window r.to pad.size) (exact_copy r pad.size) s in
        subst (λ z. Good (cond z (finish_base l n r pad (exact_copy r pad.size) (has_padding r.model pad) base s) s)) (sym (ap (has_base r.target) (sym same) ∙ has))
        (subst Good (sym (padded_base base (exact_copy r pad.size) s padding)) (makes zeros ((zeros_only l n base (fits b base at) (copied_window r.to pad.size) (exact_copy r pad.size)).long s ∙ h))))
        row long
      where
        if_long : (wanted : Bool) (c : ℕ) (other : BaseInfo) → slice_get r.bases c ≡ Some other → (s : List (Cell I)) → Long s → Long (cond wanted (finish_base l n r pad (exact_copy r pad.size) (has_padding r.model pad) other s) s)
        if_long true c other e s h = (base_only l n other (fits c other e) r pad (exact_copy r pad.size) (has_padding r.model pad)).long s ∙ h
        if_long false c other e s h = h
