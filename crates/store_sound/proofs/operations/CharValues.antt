-- A load of a character gives a value that stands for it.
use Rattle.std.proofs.Common.{◌≡◌, ℕ, ◌+◌, ◌<◌, Bool, true, false, cond, not, ◌||◌, [], ◌∷◌, arith, subst, sym, refl, inl, inr}
use Rattle.std.specs.Prelude.{ℤ, pos, ◌-ℤ◌, nat_lt, negsuc, ◌≤ℤ◌, ◌*◌}
use Rattle.std.proofs.lemmas.Bool.{cases_Bool, and_from, ltb-true, ltb-false}
use Rattle.cc_base.specs.Lattices.{LatticeOf, OrderLaws}
use Rattle.cc_base.specs.IntegerDomains.{IntegersOf, BoundLaws}
use Rattle.c_layout.specs.declared.data_model.Model.{Model}
use Rattle.c_layout.specs.declared.leaf_lists.Class.{Class}
use Rattle.c_layout.specs.declared.leaf_lists.Class.TheVariants.{Char}
use Rattle.value_domain.specs.Values.LabelSets.{labels_leq, no_labels, labels_order, all_labels}
use Rattle.value_domain.specs.declared.values.values.Value.{Value}
use Rattle.store_cells.specs.CellReads.{whole_range, byte_read}
use Rattle.store_cells.specs.ClassNumbers.{is_pointer}
use Rattle.memory_model.specs.Memory.Instances.{Memory}
use Rattle.store_sound.specs.Concretization.SeenLabels.{as_set}
use Rattle.store_sound.specs.Concretization.Matching.{number_in}
use Rattle.memory_model.specs.Memory.Scalars.{integer}
use Rattle.store_sound.specs.Concretization.ValueMeaning.{Naming, InGammaScalar, InGammaContent}
use Rattle.memory_model.specs.Effects.Accesses.{joined_labels}
-- ---- the instance at hand

use Rattle.cc_base.specs.LatticeParts.{flag_leq}
use Rattle.std.proofs.lemmas.Int.{ints}
use Rattle.value_domain.specs.declared.values.label_sets.Labels.{Labels}
use Rattle.store_cells.specs.ScalarTypes.{kind_of}
use Rattle.memory_model.specs.Memory.Numbers.{Labelled, number_of}
use Rattle.store_sound.proofs.operations.StoreZeros.{between_stands, some_between}

signed_near : (n : ℕ) → n < 256 → (negsuc 127 ≤ℤ cond (nat_lt (2 * n) 256) (pos n) (pos n -ℤ pos 256)) × (cond (nat_lt (2 * n) 256) (pos n) (pos n -ℤ pos 256) ≤ℤ pos 127)
signed_near n h = elim (cases_Bool (nat_lt (2 * n) 256)) [
  | inl e ↦ (let k = ltb-true _ _ e in (rw e (omega (arith, ints)), rw e (omega (arith, ints))))
  | inr e ↦ (let k = ltb-false _ _ e in (rw e (omega (arith, ints)), rw e (omega (arith, ints))))
]

char_near : (signed : Bool) (x : Labelled) → x.number < 256 → (cond signed (negsuc 127) (pos 0) ≤ℤ number_of signed (x ∷ [])) × (number_of signed (x ∷ []) ≤ℤ cond signed (pos 127) (pos 255))
char_near true x h = let e : x.number + 256 * 0 ≡ x.number = omega arith in subst (λ k. (negsuc 127 ≤ℤ cond (nat_lt (2 * k) 256) (pos k) (pos k -ℤ pos 256)) × (cond (nat_lt (2 * k) 256) (pos k) (pos k -ℤ pos 256) ≤ℤ pos 127)) (sym e) (signed_near x.number h)
char_near false x h = (omega (arith, ints), omega (arith, ints))

flag_top : (a : Bool) → flag_leq a true ≡ true
flag_top true = refl
flag_top false = refl

all_above : (s : Labels) → labels_leq s all_labels ≡ true
all_above s = and_from _ _ (flag_top s.lo) (and_from _ _ (flag_top s.hi) (flag_top s.mutated))

not_or : (p q : Bool) → (p ≡ true → q ≡ true) → (not p || q) ≡ true
not_or true q h = h refl
not_or false q h = refl

module _ {I : Type 0} {l : LatticeOf I} {n : IntegersOf I} {gamma : I → ℤ → Type 0} (o : OrderLaws l) (q : BoundLaws l n gamma) (m : Model) (naming : Naming) (memory : Memory) where
  range_stands : (signed : Bool) (x : Labelled) (bound : Labels) (blank : Bool) → x.number < 256 → labels_leq (as_set x.labels) bound ≡ true → InGammaScalar gamma naming memory (whole_range l n (kind_of m Char signed) bound blank) (integer (number_of signed (x ∷ [])) (joined_labels (x ∷ [])))
  range_stands true x bound blank h e =
      let r = char_near true x h in
      (subst (λ z. gamma z (number_of true (x ∷ []))) (sym (some_between o q (negsuc 127) (pos 127) (omega (arith, ints)))) (between_stands o q (negsuc 127) (pos 127) (number_of true (x ∷ [])) r.0 r.1), labels_order.join_least (as_set x.labels) no_labels bound e (labels_order.least_below bound))
  range_stands false x bound blank h e =
      let r = char_near false x h in
      (subst (λ z. gamma z (number_of false (x ∷ []))) (sym (some_between o q (pos 0) (pos 255) (omega (arith, ints)))) (between_stands o q (pos 0) (pos 255) (number_of false (x ∷ [])) r.0 r.1), labels_order.join_least (as_set x.labels) no_labels bound e (labels_order.least_below bound))

  -- a byte of a cell of another class
  pub byte_stands : (v : Value I) (d : Class) (signed : Bool) (x : Labelled) → x.number < 256 → InGammaContent gamma naming memory v d (number_in x) → InGammaScalar gamma naming memory (byte_read l n m v d signed) (integer (number_of signed (x ∷ [])) (joined_labels (x ∷ [])))
  byte_stands v d signed x h s =
      let e : (not (is_pointer d) || v.pointer.null) ≡ true = not_or (is_pointer d) v.pointer.null s.1 in
      rw e (range_stands signed x v.labels v.indeterminate h s.0)

  pub padding_stands : (signed : Bool) (x : Labelled) → x.number < 256 → InGammaScalar gamma naming memory (whole_range l n (kind_of m Char signed) all_labels true) (integer (number_of signed (x ∷ [])) (joined_labels (x ∷ [])))
  padding_stands signed x h = range_stands signed x all_labels true h (all_above (as_set x.labels))
