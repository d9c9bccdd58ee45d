-- What cells get from a store of a character stands for the byte that is stored.
use Rattle.std.proofs.Common.{◌≡◌, ℕ, ◌+◌, ◌-◌, ◌*◌, ◌%◌, ◌^◌, ◌<◌, ◌≤◌, Bool, true, false, cond, Some, List, length, arith, subst, sym, refl, ap, ◌∙◌, inl, inr}
use Rattle.std.specs.Prelude.{slice_get, ℤ, pos, negsuc, ◌≤ℤ◌, ◌-ℤ◌, nat_lt}
use Rattle.std.proofs.lemmas.Int.{ints}
use Rattle.std.proofs.lemmas.Nat.{pow_pos}
use Rattle.std.proofs.lemmas.Bool.{cases_Bool, true≢false, ltb-true, ltb-false}
use Rattle.std.proofs.lemmas.Option.{slice_get_within}
use Rattle.cc_base.specs.Lattices.{LatticeOf, OrderLaws}
use Rattle.cc_base.specs.IntegerDomains.{IntegersOf, BoundLaws, between_or_least}
use Rattle.cc_base.specs.IntegerLaws.{SoundLaws}
use Rattle.cc_base.specs.IntegerTypes.{least_of, greatest_of}
use Rattle.cc_base.specs.declared.int_types.IntType.{IntType}
use Rattle.c_layout.specs.declared.data_model.Model.{Model}
use Rattle.c_layout.specs.declared.leaf_lists.Class.{Class}
use Rattle.c_layout.specs.declared.leaf_lists.Class.TheVariants.{Char}
use Rattle.c_layout.specs.Leaves.{class_of}
use Rattle.cfg.specs.declared.machine_instructions.Scalar.TheVariants as of
use Rattle.value_domain.specs.declared.values.label_sets.Labels as sets
use Rattle.value_domain.specs.Values.LabelSets.{labels_leq, no_labels}
use Rattle.value_domain.specs.declared.values.values.Value.{Value}
use Rattle.store_cells.specs.ByteWrites.{byte_written}
use Rattle.store_cells.specs.ClassNumbers.{is_pointer}
use Rattle.store_cells.specs.ScalarTypes.{kind_of}
use Rattle.store_cells.specs.NearValues.{near_number}
use Rattle.store.specs.Stores.{stored_value}
use Rattle.memory_model.specs.Memory.Labels.{Labels}
use Rattle.memory_model.specs.Memory.ScalarSizes.{class_bytes}
use Rattle.memory_model.specs.Memory.Bytes.{Content, number}
use Rattle.memory_model.specs.Memory.Instances.{Memory}
use Rattle.memory_model.specs.Memory.Numbers.{Labelled, unsigned_of, signed_of, number_of}
use Rattle.memory_model.specs.Memory.Scalars.{integer}
use Rattle.memory_model.specs.Effects.ScalarBytes.{number_bytes, bits_in, scalar_bytes}
use Rattle.store_sound.specs.Concretization.Matching.{Matched, number_in, Holds}
use Rattle.store_sound.specs.Concretization.SeenLabels.{as_set}
use Rattle.store_sound.specs.Concretization.ValueMeaning.{Naming, InGammaContent}
use Rattle.store_sound.proofs.operations.Classes.{integer_class, class_above, class_size}
use Rattle.store_sound.proofs.operations.Rereading.{halves, unsigned_below}
use Rattle.store_sound.proofs.operations.FreshValues.{cell_of, as_labels, number_stands, type_near}
use Rattle.store_sound.proofs.operations.Near.{IsNearValue, near_number_from, near_number_none}
use Rattle.store_sound.proofs.operations.StoreZeros.{between_stands, some_between}
use Rattle.store_sound.proofs.chars.ByteStores.{IsByteStore, byte_of, matched_in}

-- ---- the numbers of so many bytes lie in their type

signed_within : (bits u : ℕ) → 0 < bits → u < 2 ^ bits → (negsuc (2 ^ (bits - 1) - 1) ≤ℤ signed_of bits u) × (signed_of bits u ≤ℤ pos (2 ^ (bits - 1) - 1))
signed_within bits u h g =
    let e = halves bits h in
    let p = pow_pos (bits - 1) in
    elim (cases_Bool (nat_lt (2 * u) (2 ^ bits))) [
      | inl f ↦ (let k = ltb-true _ _ f in (rw f (omega (arith, ints)), rw f (omega (arith, ints))))
      | inr f ↦ (let k = ltb-false _ _ f in (rw f (omega (arith, ints)), rw f (omega (arith, ints))))
    ]

abbrev LiesIn : IntType → ℤ → Type 0
LiesIn kind z = (least_of kind ≤ℤ z) × (z ≤ℤ greatest_of kind)

by_sign : (t : Bool) (ns : List Labelled) (kind : IntType) → kind.signed ≡ t → kind.bytes ≡ length ns → 0 < length ns → unsigned_of ns < 2 ^ (8 * length ns) → LiesIn kind (number_of t ns)
by_sign true ns kind e f p h = rw (e, f) (signed_within (8 * length ns) (unsigned_of ns) (omega arith) h)
by_sign false ns kind e f p h = rw (e, f) (omega (arith, ints), omega (arith, ints))

pub number_within : (m : Model) (class : Class) (t : Bool) (ns : List Labelled) → length ns ≡ class_bytes m class → ((k : ℕ) (y : Labelled) → slice_get ns k ≡ Some y → y.number < 256) → LiesIn (kind_of m class t) (number_of t ns)
number_within m class t ns e h = let a = class_above m class in by_sign t ns (kind_of m class t) refl (sym e) (omega arith) (unsigned_below ns h)

-- ---- the cell of a character

module _ {I : Type 0} {l : LatticeOf I} {n : IntegersOf I} {gamma : I → ℤ → Type 0} (c : SoundLaws l n gamma) (m : Model) (kind : IntType) (char : class_of kind ≡ Char) (z : ℤ) (labels : Labels) (x : Value I) (st : gamma x.num z) where
  size_one : class_bytes m (class_of kind) ≡ 1
  size_one = ap (class_bytes m) char

  first_byte : slice_get (number_bytes (class_bytes m (class_of kind)) (bits_in (class_bytes m (class_of kind)) z) labels) 0 ≡ Some (byte_of z labels)
  first_byte = ap (λ a. slice_get (scalar_bytes a (integer z labels)) 0) size_one

  -- the byte that is stored, read as a number
  pub byte_number : (t : Bool) (ns : List Labelled) → length ns ≡ class_bytes m (class_of kind) → ((y : Labelled) → slice_get ns 0 ≡ Some y → number_in y ≡ byte_of z labels) → gamma (cell_of n m (of.Int kind) x t).num (number_of t ns)
  byte_number t ns e h = number_stands c m kind z labels x t ns st e (λ k y f.
      let w = slice_get_within ns k y f in
      let one = size_one in
      let g : k ≡ 0 = omega arith in
      subst (λ a. slice_get (number_bytes (class_bytes m (class_of kind)) (bits_in (class_bytes m (class_of kind)) z) labels) a ≡ Some (number_in y)) (sym g)
      (first_byte ∙ sym (ap Some (h y (subst (λ a. slice_get ns a ≡ Some y) g f)))))

  pub held_number : {old new : Memory} {i offset : ℕ} (s : IsByteStore old new i offset (byte_of z labels)) (t : Bool) (ns : List Labelled) → Holds m new i offset (class_of kind) ns → gamma (cell_of n m (of.Int kind) x t).num (number_of t ns)
  held_number {old} {new} {i} {offset} s t ns h = byte_number t ns h.size (λ y e.
      let w = slice_get_within ns 0 y e in
      let f : offset + 0 ≡ offset = omega arith in
      (matched_in s 0 (class_of kind) (number_in y) (subst (λ a. Matched new i a (class_of kind) 0 (number_in y)) f (h.each 0 y w e))).0)

  pub byte_content : (naming : Naming) (new : Memory) (t : Bool) → labels_leq (as_set labels) x.labels ≡ true → InGammaContent gamma naming new (cell_of n m (of.Int kind) x t) (class_of kind) (byte_of z labels)
  byte_content naming new t h =
      let p = integer_class kind in
      let b : (cell_of n m (of.Int kind) x t).labels ≡ x.labels = as_labels n m (stored_value (class_of kind) x) (class_of kind) t ∙ ap (λ u. cond u no_labels x.labels) p in
      (subst (λ u. labels_leq (as_set labels) u ≡ true) (sym b) h, λ (f : is_pointer (class_of kind) ≡ true). absurd (true≢false (sym f ∙ p)))

-- ---- the cells of other classes

module _ {I : Type 0} {l : LatticeOf I} {n : IntegersOf I} {gamma : I → ℤ → Type 0} (o : OrderLaws l) (q : BoundLaws l n gamma) (m : Model) (class : Class) (t : Bool) (bound : sets.Labels) where
  pub written_number : (ns : List Labelled) → is_pointer class ≡ false → length ns ≡ class_bytes m class → ((k : ℕ) (y : Labelled) → slice_get ns k ≡ Some y → y.number < 256) → gamma (byte_written l n m class t bound).num (number_of t ns)
  written_number ns p e h =
      let r = number_within m class t ns e h in
      let r0 = r.0 in
      let r1 = r.1 in
      rw p (subst (λ z. gamma z (number_of t ns)) (sym (some_between o q (least_of (kind_of m class t)) (greatest_of (kind_of m class t)) (omega (arith, ints)))) (between_stands o q (least_of (kind_of m class t)) (greatest_of (kind_of m class t)) (number_of t ns) r0 r1))

  pub written_content : (naming : Naming) (memory : Memory) (d : ℕ) (labels : Labels) → labels_leq (as_set labels) bound ≡ true → InGammaContent gamma naming memory (byte_written l n m class t bound) class (number d labels)
  written_content naming memory d labels h = elim (cases_Bool (is_pointer class)) [
    | inl e ↦ rw e (h, λ f. refl)
    | inr e ↦ rw e (h, λ (f : false ≡ true). cc)
  ]

  ends_between : least_of (kind_of m class t) ≤ℤ greatest_of (kind_of m class t)
  ends_between = let r = pow_pos (8 * class_bytes m class - 1) in let s = pow_pos (8 * class_bytes m class) in by_flag t
    where
      by_flag : (b : Bool) → cond b (negsuc (2 ^ (8 * class_bytes m class - 1) - 1)) (pos 0) ≤ℤ cond b (pos (2 ^ (8 * class_bytes m class - 1) - 1)) (pos (2 ^ (8 * class_bytes m class) - 1))
      by_flag true = omega (arith, ints)
      by_flag false = omega (arith, ints)

  pub written_near : IsNearValue l n (byte_written l n m class t bound)
  written_near =
      let none = near_number_none o q l.least q.least_bounds in
      let b = ends_between in
      let least : ℤ = least_of (kind_of m class t) in
      let greatest : ℤ = greatest_of (kind_of m class t) in
      let r = type_near (kind_of m class t) least greatest (class_size m class) (omega (arith, ints)) (omega (arith, ints)) in
      elim (cases_Bool (is_pointer class)) [
        | inl e ↦ rw e (record { num = none; lo = none; rel = none; len = none })
        | inr e ↦ rw e (record { num = subst (λ z. near_number l n z ≡ z) (sym (some_between o q least greatest b)) (near_number_from o q (n.between least greatest) least greatest (q.between_bounds least greatest b) r.0 r.1); lo = none; rel = none; len = none })
      ]
