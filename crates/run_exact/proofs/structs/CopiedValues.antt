-- The value of a leaf and its bytes tell the same scalar behind a copy.
use Rattle.std.proofs.Common.{◌≡◌, ℕ, ◌+◌, ◌<◌, Bool, true, false, cond, Option, Some, None, arith, subst, sym, refl, ap, ◌∙◌}
use Rattle.std.specs.Prelude.{ℤ}
use Rattle.std.proofs.lemmas.Int.{ints}
use Rattle.std.proofs.lemmas.Bool.{true≢false}
use Rattle.std.proofs.lemmas.Option.{slice_get_within}
use Rattle.cc_base.specs.Lattices.{LatticeOf, OrderLaws}
use Rattle.cc_base.specs.IntegerDomains.{IntegersOf, BoundLaws, RangeLaws}
use Rattle.cc_base.specs.IntegerTypes.{is_size, wrap_into}
use Rattle.cc_base.specs.declared.int_types.IntType.{IntType}
use Rattle.c_layout.specs.declared.leaf_lists.Leaf.{Leaf}
use Rattle.cfg.specs.declared.programs.Flow.{Flow}
use Rattle.value_domain.specs.declared.values.values.Value as values
use Rattle.store_cells.specs.CellReads.{as_stored}
use Rattle.store_cells.specs.NearValues.{near_value}
use Rattle.store_cells.specs.ScalarTypes.{kind_of}
use Rattle.memory_model.specs.Memory.Bytes.{null, into, Content, indeterminate, number, part, Byte}
use Rattle.memory_model.specs.Memory.Instances.{Memory, byte_at}
use Rattle.memory_model.specs.Memory.Labels.{Labels, no_labels}
use Rattle.memory_model.specs.Memory.Numbers.{number_of}
use Rattle.memory_model.specs.Memory.ScalarSizes.{class_bytes, is_pointer}
use Rattle.memory_model.specs.Memory.Scalars.{Scalar, integer, pointer}
use Rattle.store_sound.specs.Concretization.Matching.{Matched, number_in}
use Rattle.store_sound.specs.Concretization.SoundMemory.{IsContentIn}
use Rattle.store_sound.proofs.operations.Classes.{class_above, class_size}
use Rattle.store_sound.proofs.operations.Near.{IsNearValue, near_is}
use Rattle.store_sound.proofs.operations.Rereading.{reread}
use Rattle.transfer_sound.proofs.values.NearScalars.{IsNearNumber}
use Rattle.transfer_sound.proofs.values.TypeRanges.{type_near}
use Rattle.transfer_exact.specs.Values.ExactNumbers.{ExactLaws}
use Rattle.transfer_exact.specs.Values.SingleNumbers.{IsOne}
use Rattle.transfer_exact.specs.Values.SingleValues.{ExactHeld}
use Rattle.transfer_exact.specs.Values.SingleRows.{HoldsNumber, HoldsScalar}
use Rattle.transfer_exact.proofs.values.NearExact.{near_one, near_none}
use Rattle.transfer_exact.proofs.places.OneLeaf.{same_size}

-- ---- bytes

module _ (flow : Flow) (old new : Memory) (j from i to : ℕ) (x y : Leaf) (class : x.class ≡ y.class) (signed : x.signed ≡ y.signed)
    (moves : (k : ℕ) (c : Content) → k < class_bytes flow.model y.class → Matched old j (from + k) x.class k c → Matched new i (to + k) y.class k c) where
  wider : (k : ℕ) → k < class_bytes flow.model y.class → k < class_bytes flow.model x.class
  wider k h = subst (λ z. k < class_bytes flow.model z) (sym class) h

  -- the bytes of one leaf are those of another one of its type
  pub copied_holds : (held : Option Scalar) → HoldsScalar flow old j from x held → HoldsScalar flow new i to y held
  copied_holds None h = λ k small. moves k indeterminate small (h k (wider k small))
  copied_holds (Some (integer z la)) h = record {
    integral = ap is_pointer (sym class) ∙ h.integral;
    numbers = h.numbers;
    bytes = record {
      size = h.bytes.size ∙ ap (class_bytes flow.model) class;
      each = λ k m small e. moves k (number_in m) (let size = h.bytes.size in let same : class_bytes flow.model x.class ≡ class_bytes flow.model y.class = ap (class_bytes flow.model) class in omega (arith, small, size, same)) (h.bytes.each k m small e);
    };
    is = ap (λ w. number_of w h.numbers) (sym signed) ∙ h.is;
    same = h.same;
  }
  copied_holds (Some (pointer null)) h = record { pointing = ap is_pointer (sym class) ∙ h.pointing; bytes = λ k small. moves k (number 0 no_labels) small (h.bytes k (wider k small)) }
  copied_holds (Some (pointer (into n o lo hi))) h = record { pointing = ap is_pointer (sym class) ∙ h.pointing; bytes = λ k small. moves k (part (into n o lo hi) k) small (h.bytes k (wider k small)) }

-- ---- values

module _ {I : Type 0} {l : LatticeOf I} {n : IntegersOf I} {gamma : I → ℤ → Type 0} (o : OrderLaws l) (q : BoundLaws l n gamma) (ranges : RangeLaws l n) (x : ExactLaws n) (flow : Flow) (entered : ℕ → Option ℕ) (memory : Memory) (sane : (i offset : ℕ) (byte : Byte) → byte_at memory i offset ≡ Some byte → IsContentIn memory byte.content byte.tag)
    (i offset : ℕ) (leaf : Leaf) (v : values.Value I) (near : IsNearValue l n v) where
  abbrev kind : IntType
  kind = kind_of flow.model leaf.class leaf.signed

  sized : is_size (kind_of flow.model leaf.class leaf.signed).bytes ≡ true
  sized = subst (λ k. is_size k ≡ true) (sym (same_size flow.model leaf.class)) (class_size flow.model leaf.class)

  -- a number that the leaf holds is of its type
  own_number : (z : ℤ) (la : Labels) → HoldsNumber flow memory i offset leaf z la → wrap_into (kind_of flow.model leaf.class leaf.signed) z ≡ z
  own_number z la h =
      let size = h.bytes.size in
      let above = class_above flow.model leaf.class in
      let same = same_size flow.model leaf.class in
      subst (λ w. wrap_into (kind_of flow.model leaf.class leaf.signed) w ≡ w) h.is
      (reread leaf.signed leaf.signed h.numbers (kind_of flow.model leaf.class leaf.signed) refl (omega (arith, size, same)) (omega (arith, size, above))
      (λ k m e. let at = h.bytes.each k m (slice_get_within h.numbers k m e) e in sane i (offset + k) (record { content = number_in m; tag = at.tag }) at.here))

  converted : (z : ℤ) (la : Labels) → HoldsNumber flow memory i offset leaf z la → IsOne n v.num z → IsOne n (n.convert v.num (kind_of flow.model leaf.class leaf.signed)) z
  converted z la h one = subst (IsOne n (n.convert v.num (kind_of flow.model leaf.class leaf.signed))) (own_number z la h) (x.convert (kind_of flow.model leaf.class leaf.signed) v.num z sized one)

  number_near : (z : ℤ) → IsOne n (n.convert v.num (kind_of flow.model leaf.class leaf.signed)) z → IsNearNumber z
  number_near z one =
      let f = ranges.convert_fits v.num (kind_of flow.model leaf.class leaf.signed) z z sized one in
      type_near (kind_of flow.model leaf.class leaf.signed) z z z sized f.0 f.1 (omega (arith, ints)) (omega (arith, ints))

  by_class : (held : Option Scalar) → HoldsScalar flow memory i offset leaf held → ExactHeld n entered memory v held → (c : Bool) → is_pointer leaf.class ≡ c → ExactHeld n entered memory (near_value l n (cond c v (record v { num = n.convert v.num (kind_of flow.model leaf.class leaf.signed) }))) held
  by_class held h t true e = subst (λ z. ExactHeld n entered memory z held) (sym (near_is o q v near)) t
  by_class None h t false e = record { number = near_none q (n.convert v.num (kind_of flow.model leaf.class leaf.signed)) (x.no_convert (kind_of flow.model leaf.class leaf.signed) v.num t.number); apart = record { bases = t.apart.bases; null = t.apart.null; ended = t.apart.ended }; indeterminate = t.indeterminate }
  by_class (Some (integer z la)) h t false e =
      let one = converted z la h t.number in
      record {
        number = near_one q (n.convert v.num (kind_of flow.model leaf.class leaf.signed)) z (number_near z one) one;
        labels_are = t.labels_are;
        apart = record { bases = t.apart.bases; null = t.apart.null; ended = t.apart.ended };
        determinate = t.determinate;
      }
  by_class (Some (pointer p)) h t false e = absurd (true≢false (sym h.pointing ∙ e))

  pub copied_tells : (held : Option Scalar) → HoldsScalar flow memory i offset leaf held → ExactHeld n entered memory v held → ExactHeld n entered memory (near_value l n (as_stored n flow.model (near_value l n v) leaf.class leaf.signed)) held
  copied_tells held h t = subst (λ z. ExactHeld n entered memory (near_value l n (as_stored n flow.model z leaf.class leaf.signed)) held) (sym (near_is o q v near)) (by_class held h t (is_pointer leaf.class) refl)
