-- Tests on integers refine the row as they change memory.
use Rattle.std.proofs.Common.{◌≡◌, ℕ, zero, suc, ◌+◌, ◌-◌, ◌*◌, ◌<◌, ◌^◌, true, false, not, ◌&&◌, Option, Some, None, List, length, arith, subst, sym, refl, ap, ◌∙◌, inl, inr}
use Rattle.std.specs.Prelude.{ℤ, pos, negsuc, int_le, ◌+ℤ◌, ◌-ℤ◌, ◌≤ℤ◌, ◌<ℤ◌}
use Rattle.std.specs.Ordering.{int_eq}
use Rattle.std.specs.Option.{unwrap_or}
use Rattle.std.proofs.lemmas.Int.{ints}
use Rattle.std.proofs.lemmas.Bool.{cases_Bool, and_parts, true≢false}
use Rattle.std.proofs.lemmas.Bool.Decides.{Decides-int_eq}
use Rattle.std.proofs.lemmas.Option.{same_Some}
use Rattle.std.proofs.Math.Nat.{mod-eq_of_lt}
use Rattle.cc_base.specs.Lattices.{LatticeOf, OrderLaws}
use Rattle.cc_base.specs.IntegerDomains.{IntegersOf, BoundLaws}
use Rattle.cc_base.specs.IntegerLaws.{SoundLaws}
use Rattle.cc_base.specs.IntegerTypes.{is_size, in_type, wrap_into, least_of, greatest_of, modulus}
use Rattle.cc_base.specs.MachineArithmetic.{holds}
use Rattle.cc_base.specs.declared.int_types.IntType.{IntType}
use Rattle.cc_base.specs.declared.integer_operators.Rel.{Rel}
use Rattle.cc_base.specs.declared.integer_operators.Rel.TheVariants.{Lt, Le, Gt, Ge, Eq, Ne}
use Rattle.cfg.specs.declared.flow_edges.Side.TheVariants as side
use Rattle.cfg.specs.declared.machine_instructions.Scalar.TheVariants as of
use Rattle.cfg.specs.declared.machine_instructions.Scalar as declared
use Rattle.cfg.specs.declared.programs.Flow.{Flow}
use Rattle.value_domain.specs.Values.LabelSets.{labels_leq}
use Rattle.value_domain.specs.Values.ValueTables.{range_fits}
use Rattle.value_domain.specs.declared.values.values.Value as values
use Rattle.value_domain.specs.declared.values.row_cells.Cell.{Cell}
use Rattle.domain_theorems.proofs.values.ValueStands.{value_meaning}
use Rattle.store_cells.specs.NearValues.{near_value}
use Rattle.store_cells.specs.RowPositions.{leaf_position, value_in, value_at, put_value}
use Rattle.transfer_system.specs.Refinements.{position_of, mirrored, value_of_object, side_value, fits, refined}
use Rattle.memory_model.specs.Memory.Labels.{Labels, is_unlabelled}
use Rattle.memory_model.specs.Memory.Instances.{Memory, live, life_at, bytes_of, bytes_at, byte_at}
use Rattle.memory_model.specs.Memory.Scalars.{Scalar, integer, pointer}
use Rattle.memory_model.specs.Effects.Accesses.{class_in, scalar_in, numbers_in, pointer_in}
use Rattle.memory_model.specs.Effects.Tests as machine
use Rattle.memory_model.specs.Effects.Tests.{TestedSide, SideTest, object, constant, nothing, scalar_size, object_bytes, labels_of, joined, side_scalar, scalars_hold, sides_hold, test_holds, side_labels, bounded, both_bounded, after_test, pass_test}
use Rattle.store_sound.specs.Concretization.ValueMeaning.{Naming}
use Rattle.store_sound.specs.Concretization.RowMeaning.{MachineState, InGamma}
use Rattle.store_sound.specs.Concretization.SeenLabels.{as_set}
use Rattle.store_sound.specs.Programs.Premises.{HasPremises}
use Rattle.std.specs.Int.{int_rem_euclid}
use Rattle.std.proofs.lemmas.Nat.{pow-add}
use Rattle.std.proofs.lemmas.List.{length-set}
use Rattle.c_layout.specs.declared.leaf_lists.Class.{Class}
use Rattle.value_domain.specs.declared.values.row_cells.Cell.TheVariants.{Nothing, Value}
use Rattle.store_cells.specs.ClassNumbers.{is_pointer}
use Rattle.memory_model.specs.Memory.ScalarSizes.{class_bytes}
use Rattle.memory_model.specs.Memory.Bytes.{Content, indeterminate, number, part}
use Rattle.memory_model.specs.Memory.Numbers.{Labelled, number_of}
use Rattle.memory_model.specs.Effects.ScalarBytes.{contents}
use Rattle.store_sound.specs.Concretization.ValueMeaning.{InGammaContent}
use Rattle.store_sound.specs.Operations.Scalars.{signed_in}
use Rattle.store_sound.proofs.operations.CellReads.{integer_is, scalar_pointer_is}
use Rattle.store_sound.proofs.operations.Classes.{integer_class, size_above}
use Rattle.store_sound.proofs.operations.LoadSound.{instance_there}
use Rattle.store_sound.proofs.operations.Rereading.{halves}
use Rattle.store_sound.proofs.operations.Slices.{get_take, get_set_other}
use Rattle.store_sound.proofs.operations.StoreRows.{leaf_is}
use Rattle.store_sound.proofs.operations.StoreZeros.{same_slices}
use Rattle.transfer_sound.proofs.values.MoveSteps.{near_has}
use Rattle.transfer_sound.proofs.values.NearScalars.{IsNearNumber}
use Rattle.transfer_sound.proofs.values.TypeRanges.{le_from}
use Rattle.transfer_sound.proofs.tests.Relabelling.{IsRelabelling, side_change, change_below, joined_below, bounded_relabels}
use Rattle.transfer_sound.proofs.tests.ScalarCells.{ObjectNumbers, object_numbers, byte_stands, size_is, relabelled_stands}
use Rattle.transfer_sound.specs.Tests.ScalarObjects.{IsScalarObject}

-- ---- numbers of a type

rem_own : (z : ℤ) (m : ℕ) → pos 0 ≤ℤ z → z <ℤ pos m → int_rem_euclid z (pos m) ≡ z
rem_own (pos n) m p q = let r : n < m = omega (arith, ints, q) in ap pos (mod-eq_of_lt r)
rem_own (negsuc n) m p q = absurd (omega (arith, ints, p))

pow_above : (n : ℕ) → 0 < 2 ^ n
pow_above zero = omega arith
pow_above (suc n) = let h = pow_above n in let e = pow-add 2 1 n in let f : 1 + n ≡ suc n = omega arith in subst (λ x. 0 < 2 ^ x) f (omega (arith, h, e))

range_width : (k : IntType) → is_size k.bytes ≡ true → (least_of k +ℤ pos (modulus k)) ≡ (greatest_of k +ℤ pos 1)
range_width k h =
    let some = size_above k.bytes h in
    let e : 2 ^ (8 * k.bytes) ≡ 2 * 2 ^ (8 * k.bytes - 1) = halves (8 * k.bytes) (omega (arith, some)) in
    let a = pow_above (8 * k.bytes - 1) in
    let b = pow_above (8 * k.bytes) in
    elim (cases_Bool k.signed) [
      | inl d ↦ rw d (omega (arith, ints, e, a))
      | inr d ↦ rw d (omega (arith, ints, b))
    ]

wrap_own : (k : IntType) (z : ℤ) → is_size k.bytes ≡ true → in_type k z ≡ true → wrap_into k z ≡ z
wrap_own k z h i =
    let t = and_parts (int_le (least_of k) z) (int_le z (greatest_of k)) i in
    let lo = le_from (least_of k) z t.0 in
    let hi = le_from z (greatest_of k) t.1 in
    let e = range_width k h in
    let r : int_rem_euclid (z -ℤ least_of k) (pos (modulus k)) ≡ (z -ℤ least_of k) = rem_own (z -ℤ least_of k) (modulus k) (omega (arith, ints, lo)) (omega (arith, ints, hi, e)) in
    omega (arith, ints, r)

int_turned : (a b : ℤ) → int_eq a b ≡ int_eq b a
int_turned a b = elim (cases_Bool (int_eq a b)) [
  | inl e ↦ e ∙ sym ((Decides-int_eq b a).1 (sym ((Decides-int_eq a b).0 e)))
  | inr e ↦ elim (cases_Bool (int_eq b a)) [
    | inl f ↦ absurd (true≢false (sym ((Decides-int_eq a b).1 (sym ((Decides-int_eq b a).0 f))) ∙ e))
    | inr f ↦ e ∙ sym f
  ]
]

pub mirrored_holds : (rel : Rel) (a b : ℤ) → holds (mirrored rel) b a ≡ holds rel a b
mirrored_holds Lt a b = refl
mirrored_holds Le a b = refl
mirrored_holds Gt a b = refl
mirrored_holds Ge a b = refl
mirrored_holds Eq a b = int_turned b a
mirrored_holds Ne a b = ap not (int_turned b a)

pub turned_is : (rel : Rel) → machine.turned rel ≡ mirrored rel
turned_is Lt = refl
turned_is Le = refl
turned_is Gt = refl
turned_is Ge = refl
turned_is Eq = refl
turned_is Ne = refl

-- ---- integers on both sides

pub record BothIntegers (rel : Rel) (k : IntType) (x y : Option Scalar) : Type 0 where
  pub a : ℤ
  pub la : Labels
  pub b : ℤ
  pub lb : Labels
  pub left : x ≡ Some (integer a la)
  pub right : y ≡ Some (integer b lb)
  pub hold : holds rel (wrap_into k a) (wrap_into k b) ≡ true

pub both_integers : (rel : Rel) (k : IntType) (x y : Option Scalar) → sides_hold rel (Some k) x y ≡ true → BothIntegers rel k x y
both_integers rel k None y h = absurd (true≢false (sym h))
both_integers rel k (Some v) None h = absurd (true≢false (sym h))
both_integers rel k (Some (integer a la)) (Some (integer b lb)) h = record { a = a; la = la; b = b; lb = lb; left = refl; right = refl; hold = h }
both_integers rel k (Some (integer a la)) (Some (pointer q)) h = absurd (true≢false (sym h))
both_integers rel k (Some (pointer p)) (Some (integer b lb)) h = absurd (true≢false (sym h))
both_integers rel k (Some (pointer p)) (Some (pointer q)) h = absurd (true≢false (sym h))

module _ {I : Type 0} {l : LatticeOf I} {n : IntegersOf I} {gamma : I → ℤ → Type 0} (q : BoundLaws l n gamma) (c : SoundLaws l n gamma) (rel : Rel) (k : IntType) (size : is_size k.bytes ≡ true) where
  -- what is known of a side stands for its number where the relation holds
  pub refined_stands : (x y : values.Value I) (a b : ℤ) → gamma x.num a → gamma y.num b → holds rel (wrap_into k a) (wrap_into k b) ≡ true → gamma (refined n x rel y k).num a
  refined_stands x y a b f g h = elim (cases_Bool (fits n k x.num && fits n k y.num)) [
    | inr e ↦ rw e f
    | inl e ↦ (let p = and_parts (fits n k x.num) (fits n k y.num) e in
        let i = (value_meaning q c).fits k x a f (and_parts (is_size k.bytes) (range_fits k (n.bounds x.num)) p.0).1 in
        let j = (value_meaning q c).fits k y b g (and_parts (is_size k.bytes) (range_fits k (n.bounds y.num)) p.1).1 in
        let same : holds rel a b ≡ true = sym (ap (λ z. holds rel z (wrap_into k b)) (wrap_own k a size i) ∙ ap (holds rel a) (wrap_own k b size j)) ∙ h in
        rw e (c.refine_stands rel x.num y.num a b f g same))
  ]

-- an object of a scalar that has been read as an integer
pub record IsRead (kind : declared.Scalar) (cs : List Content) (a : ℤ) : Type 0 where
  pub ns : List Labelled
  pub are : numbers_in cs ≡ Some ns
  pub is : a ≡ number_of (signed_in kind) ns
  pub plain : is_pointer (class_in kind) ≡ false

pub is_read : (kind : declared.Scalar) (cs : List Content) (a : ℤ) (la : Labels) → scalar_in kind cs ≡ Some (integer a la) → IsRead kind cs a
is_read (of.Int j) cs a la h =
    let r = integer_is (numbers_in cs) j (integer a la) h in
    record { ns = r.0; are = r.1; is = integers r.2; plain = integer_class j }
  where
    integers : {x y : ℤ} {lx ly : Labels} → integer x lx ≡ integer y ly → x ≡ y
    integers e = cc
is_read of.Pointer cs a la h = let r = scalar_pointer_is (pointer_in cs) (integer a la) h in let e = r.2 in cc

-- ---- sides

-- a value stands for the number of a side, and has its labels
pub record HasSide {I : Type 0} (gamma : I → ℤ → Type 0) (flow : Flow) (memory : Memory) (v : values.Value I) (ts : TestedSide) (a : ℤ) : Type 0 where
  pub number : gamma v.num a
  pub labels : labels_leq (as_set (side_labels flow.model memory ts)) v.labels ≡ true

module _ {I : Type 0} {l : LatticeOf I} {n : IntegersOf I} {gamma : I → ℤ → Type 0} (o : OrderLaws l) (q : BoundLaws l n gamma) (flow : Flow) (p : HasPremises flow) (naming : Naming) (temps : ℕ → Option Scalar) (entered : ℕ → Option ℕ) where
  module _ (row : List (Cell I)) (long : length row ≡ flow.width) (memory : Memory) (s : InGamma l n gamma flow naming row (record { memory = memory; temps = temps; entered = entered })) where
    abbrev state_is : MachineState
    state_is = record { memory = memory; temps = temps; entered = entered }

    content_labels : (v : values.Value I) (class : Class) (ct : Content) → InGammaContent gamma naming memory v class ct → labels_leq (as_set (labels_of ct)) v.labels ≡ true
    content_labels v class indeterminate h = refl
    content_labels v class (number z la) h = h.0
    content_labels v class (part x j) h = refl

    module _ (b i : ℕ) (kind : declared.Scalar) (t : IsScalarObject flow b kind) (en : entered b ≡ Some i) where
      abbrev here : ℕ
      here = leaf_position t.info 0

      named_is : naming i ≡ Some b
      named_is = s.lives.named b i en

      alive : life_at memory i ≡ live
      alive = s.lives.alive b i en

      value_is : side_value l n flow row (side.Object b kind) ≡ value_at l n row here
      value_is = ap (λ z. value_of_object l n row (position_of z)) t.is

      near_of : (a : ℤ) → gamma (value_at l n row here).num a → IsNearNumber a
      unfolding value_at
      near_of a h = near_has q _ a h

      pub object_has : (a : ℤ) (la : Labels) → side_scalar flow.model memory (object i kind) ≡ Some (integer a la) → HasSide gamma flow memory (side_value l n flow row (side.Object b kind)) (object i kind) a
      unfolding byte_at
      object_has a la h =
          let r = is_read kind (contents (object_bytes flow.model memory i kind)) a la h in
          let on = object_numbers q flow p naming row long state_is s b i kind t named_is alive r.ns r.are in
          let plain : is_pointer t.leaf.class ≡ false = ap is_pointer t.class ∙ r.plain in
          let num : gamma (value_at l n row here).num a = subst (gamma (value_at l n row here).num) (ap (λ z. number_of z r.ns) t.signed ∙ sym r.is) (on.number plain) in
          subst (λ v. HasSide gamma flow memory v (object i kind) a) (sym value_is) (record {
            number = num;
            labels = joined_below (object_bytes flow.model memory i kind) (value_at l n row here).labels (λ j x e.
                let y = get_take (scalar_size flow.model kind) (bytes_at memory i) j x e in
                content_labels (value_at l n row here) t.leaf.class x.content (byte_stands q flow p naming row long state_is s b i kind t named_is alive j x y.1));
          })

      -- ---- the object behind the test

      module _ (rel : Rel) (k : IntType) (other : Labels) (y : values.Value I) (below : labels_leq (as_set other) y.labels ≡ true) (a : ℤ) (la : Labels) (scalar : side_scalar flow.model memory (object i kind) ≡ Some (integer a la)) (kept : gamma (refined n (side_value l n flow row (side.Object b kind)) rel y k).num a) where
        abbrev v : values.Value I
        v = value_at l n row here

        abbrev changed : values.Value I
        changed = refined n v rel y k

        abbrev new : Memory
        new = bounded flow.model rel k (object i kind) other memory

        read : IsRead kind (contents (object_bytes flow.model memory i kind)) a
        read = is_read kind (contents (object_bytes flow.model memory i kind)) a la scalar

        numbers : ObjectNumbers q flow p naming row long state_is s b i kind t named_is alive read.ns
        numbers = object_numbers q flow p naming row long state_is s b i kind t named_is alive read.ns read.are

        relabelling : IsRelabelling memory new i (side_change (is_unlabelled other) rel k)
        relabelling =
            let it = instance_there memory i alive in
            let total = size_is q flow p naming row long state_is s b i kind t named_is alive in
            let same : length (bytes_at memory i) ≡ length it.0.bytes = ap (λ z. length (bytes_of z)) it.1 in
            let bytes = t.bytes in
            let class : class_bytes flow.model t.leaf.class ≡ class_bytes flow.model (class_in kind) = ap (class_bytes flow.model) t.class in
            bounded_relabels flow.model rel k i kind other memory it.0 it.1 (omega (arith, total, same, bytes, class)) (is_unlabelled other) refl

        plain_class : is_pointer t.leaf.class ≡ false
        plain_class = ap is_pointer t.class ∙ read.plain

        number_is : a ≡ number_of t.leaf.signed read.ns
        number_is = read.is ∙ sym (ap (λ z. number_of z read.ns) t.signed)

        kept_here : gamma changed.num a
        kept_here = subst (λ z. gamma (refined n z rel y k).num a) value_is kept

        is_near_number : IsNearNumber a
        is_near_number = near_of a (subst (λ z. gamma z.num a) value_is (object_has a la scalar).number)

        pub object_changed : InGamma l n gamma flow naming (put_value row here changed) (record { memory = new; temps = temps; entered = entered })
        object_changed = relabelled_stands q flow p naming row long state_is s b i kind t named_is alive relabelling.rewrite (side_change (is_unlabelled other) rel k) relabelling.each plain_class changed.num changed.labels a read.ns numbers.few number_is numbers.at_bytes is_near_number kept_here
            (λ lb h. change_below rel k v.labels y.labels other below (is_unlabelled other) refl lb h)

        -- another object is as it was
        pub others_stay : (d j : ℕ) (kind2 : declared.Scalar) → (b ≡ d → ⊥) → entered d ≡ Some j → bytes_at new j ≡ bytes_at memory j
        unfolding byte_at
        others_stay d j kind2 ne e = same_slices _ _ (λ x. relabelling.rewrite.others j x (λ f. ne (same_Some b d (sym named_is ∙ (ap naming (sym f) ∙ s.lives.named d j e)))))

        pub values_stay : (d : ℕ) (kind2 : declared.Scalar) (u : IsScalarObject flow d kind2) → (b ≡ d → ⊥) → side_value l n flow (put_value row here changed) (side.Object d kind2) ≡ side_value l n flow row (side.Object d kind2)
        unfolding value_at
        values_stay d kind2 u ne =
            let one : length t.info.shape.cells ≡ 1 = ap length t.cells in
            let two : length u.info.shape.cells ≡ 1 = ap length u.cells in
            let c1 = p.laid.laid.close b t.info t.is in
            let c2 = p.laid.laid.close d u.info u.is in
            let small = p.laid.laid.small in
            let x1 = leaf_is t.info 0 (omega (arith, c1, small)) (omega (arith, one)) in
            let x2 = leaf_is u.info 0 (omega (arith, c2, small)) (omega (arith, two)) in
            let apart : leaf_position u.info 0 ≡ here → ⊥ = λ e. elim (p.laid.laid.apart b d t.info u.info t.is u.is ne) [ inl h ↦ omega (arith, h, e, x1, x2, one) | inr h ↦ omega (arith, h, e, x1, x2, two) ] in
            let same : value_at l n (put_value row here changed) (leaf_position u.info 0) ≡ value_at l n row (leaf_position u.info 0) = ap (λ z. near_value l n (value_in l (unwrap_or z Nothing))) (get_set_other row here (leaf_position u.info 0) (Value changed) apart) in
            ap (λ z. value_of_object l n (put_value row here changed) (position_of z)) u.is ∙ (same ∙ sym (ap (λ z. value_of_object l n row (position_of z)) u.is))

        pub object_long : length (put_value row here changed) ≡ flow.width
        object_long = length-set row here (Value changed) ∙ long

        pub object_lengths : (j : ℕ) → length (bytes_at new j) ≡ length (bytes_at memory j)
        object_lengths = relabelling.rewrite.alike.lengths
