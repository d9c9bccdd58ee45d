-- The cells behind a store of a character stand for the new memory.
use Rattle.std.proofs.Common.{◌≡◌, ℕ, ◌+◌, ◌%◌, ◌<◌, ◌≤◌, Bool, true, false, cond, List, length, arith, subst, sym, refl, ap, ◌∙◌, Some}
use Rattle.std.specs.Prelude.{slice_get, ℤ}
use Rattle.std.proofs.lemmas.Option.{slice_get_within}
use Rattle.cc_base.specs.Lattices.{LatticeOf, OrderLaws}
use Rattle.cc_base.specs.IntegerDomains.{IntegersOf, BoundLaws, RangeLaws}
use Rattle.cc_base.specs.IntegerLaws.{SoundLaws}
use Rattle.cc_base.specs.declared.int_types.IntType.{IntType}
use Rattle.c_layout.specs.declared.leaf_lists.Class.{Class}
use Rattle.c_layout.specs.declared.leaf_lists.Class.TheVariants.{Char}
use Rattle.c_layout.specs.Leaves.{class_of}
use Rattle.cfg.specs.declared.machine_instructions.Scalar.TheVariants as of
use Rattle.cfg.specs.declared.programs.Flow.{Flow}
use Rattle.value_domain.specs.Values.LabelSets.{labels_leq}
use Rattle.value_domain.specs.declared.values.label_sets.Labels as sets
use Rattle.value_domain.specs.Values.Values.{value_lattice, value_order}
use Rattle.value_domain.specs.declared.values.values.Value.{Value}
use Rattle.value_domain.specs.declared.values.row_cells.Cell.{Cell}
use Rattle.store_cells.specs.ByteWrites.{byte_written}
use Rattle.store_cells.specs.ClassNumbers.{is_pointer}
use Rattle.store_cells.specs.NearValues.{near_value}
use Rattle.store_cells.specs.RowPositions.{value_at}
use Rattle.memory_model.specs.Effects.ScalarBytes.{bits_in}
use Rattle.memory_model.specs.Memory.Labels.{Labels}
use Rattle.memory_model.specs.Memory.ScalarSizes.{class_bytes}
use Rattle.memory_model.specs.Memory.Instances.{Memory, bytes_at}
use Rattle.memory_model.specs.Memory.Numbers.{Labelled, number_of}
use Rattle.store_sound.specs.Concretization.Matching.{Fits, number_in, Holds}
use Rattle.store_sound.specs.Concretization.SeenLabels.{as_set}
use Rattle.store_sound.specs.Concretization.SoundMemory.{IsMemoryOf}
use Rattle.store_sound.specs.Concretization.ValueMeaning.{Naming}
use Rattle.store_sound.specs.Concretization.RowMeaning.{IsLiveOf, InGammaCell}
use Rattle.store_sound.proofs.operations.Larger.{ValueBelow, value_below, content_larger}
use Rattle.store_sound.proofs.operations.Near.{IsNearValue, near_is, value_at_near, join_near}
use Rattle.store_sound.proofs.operations.FreshValues.{cell_of, cell_near}
use Rattle.store_sound.proofs.operations.StoreValues.{written}
use Rattle.store_sound.proofs.chars.ByteStores.{IsByteStore, byte_of}
use Rattle.store_sound.proofs.chars.ByteCells.{cell_put}
use Rattle.store_sound.proofs.chars.ByteValues.{held_number, byte_content, written_number, written_content, written_near}

module _ {I : Type 0} {l : LatticeOf I} {n : IntegersOf I} {gamma : I → ℤ → Type 0} (o : OrderLaws l) (q : BoundLaws l n gamma) (c : SoundLaws l n gamma) (flow : Flow) (naming : Naming) {old new : Memory} {i offset : ℕ} (z : ℤ) (labels : Labels) (s : IsByteStore old new i offset (byte_of z labels)) where
  -- a cell that the store does not reach
  pub cell_apart : (b : ℕ) (d : Class) (signed : Bool) (Place Owns : ℕ → ℕ → Type 0) (y : Value I) → InGammaCell gamma flow naming old b d signed Place Owns y
      → (IsLiveOf naming old b i → (a : ℕ) → Place (length (bytes_at old i)) a → a ≤ offset → offset < a + class_bytes flow.model d → ⊥)
      → (IsLiveOf naming old b i → (k : ℕ) → Owns offset k → ⊥)
      → InGammaCell gamma flow naming new b d signed Place Owns y
  cell_apart b d signed Place Owns y cell no_place no_byte = cell_put q flow naming s b d signed Place Owns y y cell
      (λ j a u p e. value_below l y y ((value_order o).reflexive y))
      (λ j a k u p e. value_below l y y ((value_order o).reflexive y))
      (λ a u p from to e ns h. absurd (no_place u a p from to))
      (λ k u w f. absurd (no_byte u k w))

  -- ---- cells of other classes

  module _ (sane : IsMemoryOf flow.model flow.bases.items naming new) (bound : sets.Labels) (labelled : labels_leq (as_set labels) bound ≡ true) (d : Class) (t : Bool) where
    held_bytes : (a : ℕ) (ns : List Labelled) → Holds flow.model new i a d ns → (k : ℕ) (y : Labelled) → slice_get ns k ≡ Some y → k < length ns → y.number < 256
    held_bytes a ns h k y e small = let m = h.each k y small e in sane.bytes i (a + k) _ m.here

    abbrev bytes_value : Value I
    bytes_value = byte_written l n flow.model d t bound

    cell_joined : (b : ℕ) (Place Owns : ℕ → ℕ → Type 0) (y : Value I) → InGammaCell gamma flow naming old b d t Place Owns y → InGammaCell gamma flow naming new b d t Place Owns ((value_lattice l).join y bytes_value)
    cell_joined b Place Owns y cell =
        let x : Value I = (value_lattice l).join y bytes_value in
        let left = value_below l y x ((value_order o).join_left y bytes_value) in
        let right = value_below l bytes_value x ((value_order o).join_right y bytes_value) in
        cell_put q flow naming s b d t Place Owns y x cell
        (λ j a u p e. left)
        (λ j a k u p e. left)
        (λ a u p from to e ns h. q.larger bytes_value.num x.num (number_of t ns) right.num (written_number o q flow.model d t bound ns e h.size (λ k w f. held_bytes a ns h k w f (slice_get_within ns k w f))))
        (λ k u w f. content_larger q naming new bytes_value x d (byte_of z labels) right (written_content o q flow.model d t bound naming new (bits_in 1 z % 256) labels labelled))

    pub cell_other : (b p : ℕ) (row : List (Cell I)) (Place Owns : ℕ → ℕ → Type 0) → InGammaCell gamma flow naming old b d t Place Owns (value_at l n row p)
        → InGammaCell gamma flow naming new b d t Place Owns (written l n flow.model (value_at l n row p) (byte_written l n flow.model d t bound) false)
    cell_other b p row Place Owns cell = subst (InGammaCell gamma flow naming new b d t Place Owns)
        (sym (near_is o q ((value_lattice l).join (value_at l n row p) bytes_value) (join_near o q (value_at l n row p) bytes_value (value_at_near o q row p) (written_near o q flow.model d t bound))))
        (cell_joined b Place Owns (value_at l n row p) cell)

  -- ---- cells of characters

  module _ (kind : IntType) (char : class_of kind ≡ Char) (x : Value I) (st : gamma x.num z) (labelled : labels_leq (as_set labels) x.labels ≡ true) where
    at_byte : (a : ℕ) → a ≤ offset → offset < a + class_bytes flow.model (class_of kind) → a ≡ offset
    at_byte a h k = let e : class_bytes flow.model (class_of kind) ≡ 1 = ap (class_bytes flow.model) char in omega arith

    cell_reached : (b : ℕ) (t : Bool) (Place Owns : ℕ → ℕ → Type 0) (y v : Value I) → InGammaCell gamma flow naming old b (class_of kind) t Place Owns y
        → ((j a : ℕ) → IsLiveOf naming old b j → Place (length (bytes_at old j)) a → (j ≡ i → a ≤ offset → offset < a + class_bytes flow.model (class_of kind) → ⊥) → ValueBelow l y v)
        → ((j a k : ℕ) → IsLiveOf naming old b j → Owns a k → (j ≡ i → a ≡ offset → ⊥) → ValueBelow l y v)
        → ValueBelow l (cell_of n flow.model (of.Int kind) x t) v
        → InGammaCell gamma flow naming new b (class_of kind) t Place Owns v
    cell_reached b t Place Owns y v cell place byte below = cell_put q flow naming s b (class_of kind) t Place Owns y v cell place byte
        (λ a u p from to e ns h. q.larger (cell_of n flow.model (of.Int kind) x t).num v.num (number_of t ns) below.num (held_number c flow.model kind char z labels x st s t ns (subst (λ w. Holds flow.model new i w (class_of kind) ns) (at_byte a from to) h)))
        (λ k u w f. content_larger q naming new (cell_of n flow.model (of.Int kind) x t) v (class_of kind) (byte_of z labels) below (byte_content c flow.model kind char z labels x st naming new t labelled))

    char_joined : (b : ℕ) (t : Bool) (Place Owns : ℕ → ℕ → Type 0) (y : Value I) → InGammaCell gamma flow naming old b (class_of kind) t Place Owns y → InGammaCell gamma flow naming new b (class_of kind) t Place Owns ((value_lattice l).join y (cell_of n flow.model (of.Int kind) x t))
    char_joined b t Place Owns y cell =
        let v : Value I = cell_of n flow.model (of.Int kind) x t in
        let a = value_below l y ((value_lattice l).join y v) ((value_order o).join_left y v) in
        cell_reached b t Place Owns y ((value_lattice l).join y v) cell (λ j e u p f. a) (λ j e k u p f. a) (value_below l v ((value_lattice l).join y v) ((value_order o).join_right y v))

    -- the one place of a cell
    char_strong : (b : ℕ) (t : Bool) (Place Owns : ℕ → ℕ → Type 0) (y : Value I) → InGammaCell gamma flow naming old b (class_of kind) t Place Owns y
        → ((j a : ℕ) → IsLiveOf naming old b j → Place (length (bytes_at old j)) a → (j ≡ i) × (a ≡ offset))
        → ((j a k : ℕ) → IsLiveOf naming old b j → Owns a k → (j ≡ i) × (a ≡ offset))
        → InGammaCell gamma flow naming new b (class_of kind) t Place Owns (cell_of n flow.model (of.Int kind) x t)
    char_strong b t Place Owns y cell place byte =
        let v : Value I = cell_of n flow.model (of.Int kind) x t in
        let one : class_bytes flow.model (class_of kind) ≡ 1 = ap (class_bytes flow.model) char in
        cell_reached b t Place Owns y v cell (λ j a u p e. let r = place j a u p in let f = r.1 in absurd (e r.0 (omega arith) (omega arith))) (λ j a k u p e. let r = byte j a k u p in absurd (e r.0 r.1)) (value_below l v v ((value_order o).reflexive v))

    module _ (r : RangeLaws l n) (near : IsNearValue l n x) (row : List (Cell I)) where
      char_near : (p : ℕ) (t strong : Bool) → near_value l n (cond strong (cell_of n flow.model (of.Int kind) x t) ((value_lattice l).join (value_at l n row p) (cell_of n flow.model (of.Int kind) x t))) ≡ cond strong (cell_of n flow.model (of.Int kind) x t) ((value_lattice l).join (value_at l n row p) (cell_of n flow.model (of.Int kind) x t))
      char_near p t true = near_is o q (cell_of n flow.model (of.Int kind) x t) (cell_near o q r flow.model (of.Int kind) x t near)
      char_near p t false = near_is o q ((value_lattice l).join (value_at l n row p) (cell_of n flow.model (of.Int kind) x t)) (join_near o q (value_at l n row p) (cell_of n flow.model (of.Int kind) x t) (value_at_near o q row p) (cell_near o q r flow.model (of.Int kind) x t near))

      pub cell_char : (b p : ℕ) (t strong : Bool) (Place Owns : ℕ → ℕ → Type 0) → InGammaCell gamma flow naming old b (class_of kind) t Place Owns (value_at l n row p)
          → (strong ≡ true → (j a : ℕ) → IsLiveOf naming old b j → Place (length (bytes_at old j)) a → (j ≡ i) × (a ≡ offset))
          → (strong ≡ true → (j a k : ℕ) → IsLiveOf naming old b j → Owns a k → (j ≡ i) × (a ≡ offset))
          → InGammaCell gamma flow naming new b (class_of kind) t Place Owns (written l n flow.model (value_at l n row p) (cell_of n flow.model (of.Int kind) x t) strong)
      cell_char b p t true Place Owns cell place byte = subst (InGammaCell gamma flow naming new b (class_of kind) t Place Owns) (sym (char_near p t true)) (char_strong b t Place Owns (value_at l n row p) cell (place refl) (byte refl))
      cell_char b p t false Place Owns cell place byte = subst (InGammaCell gamma flow naming new b (class_of kind) t Place Owns) (sym (char_near p t false)) (char_joined b t Place Owns (value_at l n row p) cell)
