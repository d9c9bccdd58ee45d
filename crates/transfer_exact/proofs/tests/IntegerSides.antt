-- Sides of tests on integers: what a row tells of them, and what it tells where one is refined.
use Rattle.std.proofs.Common.{◌≡◌, ℕ, zero, suc, ◌<◌, Bool, true, false, ◌&&◌, ◌||◌, Option, Some, List, [], ◌∷◌, length, take, arith, subst, sym, refl, ap, ◌∙◌, inl, inr}
use Rattle.std.specs.Prelude.{slice_get, ℤ, int_le}
use Rattle.std.proofs.lemmas.Bool.{cases_Bool, and_parts}
use Rattle.std.proofs.lemmas.Option.{slice_get_within}
use Rattle.cc_base.specs.Lattices.{LatticeOf}
use Rattle.cc_base.specs.IntegerDomains.{IntegersOf, BoundLaws}
use Rattle.cc_base.specs.IntegerLaws.{SoundLaws}
use Rattle.cc_base.specs.IntegerTypes.{is_size, in_type, wrap_into, least_of, greatest_of}
use Rattle.cc_base.specs.MachineArithmetic.{holds}
use Rattle.cc_base.specs.declared.int_types.IntType.{IntType}
use Rattle.cc_base.specs.declared.integer_operators.Rel.{Rel}
use Rattle.cc_base.specs.declared.integer_operators.Rel.TheVariants.{Lt, Le, Gt, Ge, Eq, Ne}
use Rattle.cfg.specs.declared.flow_edges.Side.TheVariants as side
use Rattle.cfg.specs.declared.programs.Flow.{Flow}
use Rattle.domain_theorems.specs.Intervals.Bits.{wrap_own}
use Rattle.value_domain.specs.Values.LabelSets as set
use Rattle.value_domain.specs.Values.ValueTables.{range_fits}
use Rattle.value_domain.specs.declared.values.values.Value as values
use Rattle.value_domain.specs.declared.values.row_cells.Cell.{Cell}
use Rattle.value_domain.specs.declared.values.row_cells.Cell.TheVariants.{Value}
use Rattle.domain_theorems.proofs.values.ValueStands.{value_meaning}
use Rattle.store_cells.specs.RowPositions.{leaf_position, value_at}
use Rattle.transfer_edges.specs.Refinements.{position_of, value_of_object, side_value, fits, refined_labels, refined}
use Rattle.memory_model.specs.Memory.Bytes.{Byte}
use Rattle.memory_model.specs.Memory.Instances.{Memory, bytes_at, byte_at}
use Rattle.memory_model.specs.Memory.Labels.{Labels, no_labels, labels_join, is_unlabelled, dropped_labels}
use Rattle.memory_model.specs.Memory.ScalarSizes.{class_bytes}
use Rattle.memory_model.specs.Memory.Scalars.{Scalar}
use Rattle.memory_model.specs.Effects.Tests.{TestedSide, object, scalar_size, object_bytes, labels_of, joined, side_labels}
use Rattle.store_sound.specs.Concretization.Matching.{number_in}
use Rattle.store_sound.specs.Concretization.RowMeaning.{MachineState}
use Rattle.store_sound.specs.Concretization.SeenLabels.{as_set}
use Rattle.store_sound.specs.Concretization.ValueMeaning.{Naming}
use Rattle.store_sound.proofs.operations.Classes.{class_size, size_above}
use Rattle.store_sound.proofs.operations.Slices.{get_there, get_take}
use Rattle.store_sound.specs.Programs.Premises.{HasPremises}
use Rattle.transfer_sound.proofs.values.TypeRanges.{le_from}
use Rattle.transfer_sound.specs.Tests.ScalarObjects.{IsScalarObject}
use Rattle.transfer_sound.proofs.tests.Relabelling.{side_change}
use Rattle.transfer_exact.specs.Values.ExactNumbers.{ExactLaws}
use Rattle.transfer_exact.specs.Values.SingleNumbers.{IsOne}
use Rattle.transfer_exact.specs.Values.SingleRows.{HoldsNumber, ExactState}
use Rattle.transfer_exact.proofs.edges.RelabelledObjects.{IsNumberHeld, number_held}

-- ---- labels

same_dropped : (rel : Rel) (s : Labels) (k : IntType) → set.dropped_labels rel (as_set s) k ≡ as_set (dropped_labels rel s k)
same_dropped Lt s k = refl
same_dropped Le s k = refl
same_dropped Gt s k = refl
same_dropped Ge s k = refl
same_dropped Eq s k = refl
same_dropped Ne s k = refl

-- the labels that the analysis leaves are those that the machine does
pub labels_exact : (rel : Rel) (k : IntType) (la other : Labels) → refined_labels (as_set la) rel (as_set other) k ≡ as_set (side_change (is_unlabelled other) rel k la)
labels_exact rel k la other = elim (cases_Bool (is_unlabelled other)) [
  | inl e ↦ rw e (same_dropped rel la k)
  | inr e ↦ rw e refl
]

own_flag : (a : Bool) → (a || a) ≡ a
own_flag true = refl
own_flag false = refl

no_flag : (a : Bool) → (a || false) ≡ a
no_flag true = refl
no_flag false = refl

join_own : (la : Labels) → labels_join la la ≡ la
join_own la = rw (own_flag la.low, own_flag la.high, own_flag la.changed) refl

join_none : (la : Labels) → labels_join la no_labels ≡ la
join_none la = rw (no_flag la.low, no_flag la.high, no_flag la.changed) refl

joined_all : (la : Labels) (b : Byte) (bytes : List Byte) → ((k : ℕ) (x : Byte) → slice_get (b ∷ bytes) k ≡ Some x → labels_of x.content ≡ la) → joined (b ∷ bytes) ≡ la
joined_all la b [] h = ap (λ z. labels_join z no_labels) (h 0 b refl) ∙ join_none la
joined_all la b (c ∷ bytes) h = ap (λ z. labels_join z (joined (c ∷ bytes))) (h 0 b refl) ∙ (ap (labels_join la) (joined_all la c bytes (λ k x e. h (suc k) x e)) ∙ join_own la)

joined_some : (la : Labels) (bytes : List Byte) → 0 < length bytes → ((k : ℕ) (x : Byte) → slice_get bytes k ≡ Some x → labels_of x.content ≡ la) → joined bytes ≡ la
joined_some la [] some h = absurd (omega (arith, some))
joined_some la (b ∷ bytes) some h = joined_all la b bytes h

-- ---- numbers

module _ {I : Type 0} {l : LatticeOf I} {n : IntegersOf I} {gamma : I → ℤ → Type 0} (q : BoundLaws l n gamma) (c : SoundLaws l n gamma) (e : ExactLaws n) (rel : Rel) (k : IntType) (size : is_size k.bytes ≡ true) where
  own_number : (z : ℤ) → in_type k z ≡ true → wrap_into k z ≡ z
  own_number z h =
      let t = and_parts (int_le (least_of k) z) (int_le z (greatest_of k)) h in
      wrap_own k z size (le_from (least_of k) z t.0) (le_from z (greatest_of k) t.1)

  -- what is known of a side is its number, where the relation holds
  pub refined_one : (x y : values.Value I) (a b : ℤ) → gamma x.num a → gamma y.num b → IsOne n x.num a → IsOne n y.num b → holds rel (wrap_into k a) (wrap_into k b) ≡ true → IsOne n (refined n x rel y k).num a
  refined_one x y a b f g u w h = elim (cases_Bool (fits n k x.num && fits n k y.num)) [
    | inr d ↦ rw d u
    | inl d ↦ (let p = and_parts (fits n k x.num) (fits n k y.num) d in
        let i = (value_meaning q c).fits k x a f (and_parts (is_size k.bytes) (range_fits k (n.bounds x.num)) p.0).1 in
        let j = (value_meaning q c).fits k y b g (and_parts (is_size k.bytes) (range_fits k (n.bounds y.num)) p.1).1 in
        let same : holds rel a b ≡ true = sym (ap (λ z. holds rel z (wrap_into k b)) (own_number a i) ∙ ap (holds rel a) (own_number b j)) ∙ h in
        rw d (e.refine rel x.num y.num a b u w same))
  ]

-- ---- sides

module _ {I : Type 0} {l : LatticeOf I} {n : IntegersOf I} {gamma : I → ℤ → Type 0} (q : BoundLaws l n gamma) (flow : Flow) (p : HasPremises flow) (naming : Naming) (temps : ℕ → Option Scalar) (entered : ℕ → Option ℕ) (names : (d j : ℕ) → entered d ≡ Some j → naming j ≡ Some d) where
  -- a value is the number of a side, and has its labels alone
  pub record ExactSide (memory : Memory) (v : values.Value I) (ts : TestedSide) (a : ℤ) : Type 0 where
    pub number : IsOne n v.num a
    pub labels : v.labels ≡ as_set (side_labels flow.model memory ts)

  module _ (row : List (Cell I)) (long : length row ≡ flow.width) (memory : Memory) (st : ExactState l n flow row (record { memory = memory; temps = temps; entered = entered })) where
    abbrev state : MachineState
    state = record { memory = memory; temps = temps; entered = entered }

    module _ (b i : ℕ) (kind : _) (t : IsScalarObject flow b kind) (en : entered b ≡ Some i) (whole : length (bytes_at memory i) ≡ class_bytes flow.model t.leaf.class) where
      value_is : side_value l n flow row (side.Object b kind) ≡ value_at l n row (leaf_position t.info 0)
      value_is = ap (λ z. value_of_object l n row (position_of z)) t.is

      held : (a : ℤ) → gamma (side_value l n flow row (side.Object b kind)).num a → IsNumberHeld q flow p naming row long state names st b i kind t en a
      held a h = number_held q flow p naming row long state names st b i kind t en a (subst (λ z. gamma z.num a) value_is h)

      labels_all : (z : ℤ) (la : Labels) → HoldsNumber flow memory i 0 t.leaf z la → side_labels flow.model memory (object i kind) ≡ la
      unfolding byte_at
      labels_all z la h =
          let same : scalar_size flow.model kind ≡ class_bytes flow.model t.leaf.class = t.bytes ∙ ap (class_bytes flow.model) (sym t.class) in
          joined_some la (object_bytes flow.model memory i kind) (some same) (λ k x e. by_byte k x (get_take (scalar_size flow.model kind) (bytes_at memory i) k x e).1)
        where
          some : scalar_size flow.model kind ≡ class_bytes flow.model t.leaf.class → 0 < length (object_bytes flow.model memory i kind)
          some same = let above = size_above (class_bytes flow.model t.leaf.class) (class_size flow.model t.leaf.class) in
              head_there (scalar_size flow.model kind) (bytes_at memory i) (omega (arith, above, same)) (omega (arith, above, whole))
            where
              head_there : (m : ℕ) (bytes : List Byte) → 0 < m → 0 < length bytes → 0 < length (take m bytes)
              head_there zero bytes h g = absurd (omega (arith, h))
              head_there (suc m) [] h g = absurd (omega (arith, g))
              head_there (suc m) (x ∷ xs) h g = omega arith

          by_byte : (k : ℕ) (x : Byte) → slice_get (bytes_at memory i) k ≡ Some x → labels_of x.content ≡ la
          by_byte k x e =
              let size = h.bytes.size in
              let small = slice_get_within (bytes_at memory i) k x e in
              let m = get_there h.numbers k (omega (arith, size, small, whole)) in
              let at = h.bytes.each k m.0 (slice_get_within h.numbers k m.0 m.1) m.1 in
              let one : Byte = record { content = number_in m.0; tag = at.tag } in
              let same : one ≡ x = same_byte one x (sym (subst (λ z. slice_get (bytes_at memory i) z ≡ Some one) (omega arith) at.here) ∙ e) in
              ap (λ z. labels_of z.content) (sym same) ∙ h.same k m.0 m.1
            where
              same_byte : (x y : Byte) → Some x ≡ Some y → x ≡ y
              same_byte x y e = cc

      pub object_tells : (a : ℤ) → gamma (side_value l n flow row (side.Object b kind)).num a → ExactSide memory (side_value l n flow row (side.Object b kind)) (object i kind) a
      object_tells a h =
          let k = held a h in
          subst (λ z. ExactSide memory z (object i kind) a) (sym value_is) (record { number = k.tells.number; labels = k.tells.labels_are ∙ ap as_set (sym (labels_all a k.la k.holds)) })
