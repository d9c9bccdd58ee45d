-- The truth values of comparisons, and values alone, agree with tests.
use Rattle.std.proofs.Common.{◌≡◌, ◌⊎◌, ℕ, Bool, true, false, not, ◌||◌, Option, Some, subst, sym, refl, ap, ◌∙◌, inl, inr}
use Rattle.std.specs.Prelude.{ℤ, pos}
use Rattle.std.specs.Ordering.{int_eq}
use Rattle.std.proofs.lemmas.Bool.{cases_Bool}
use Rattle.cc_base.specs.IntegerTypes.{in_type, wrap_into}
use Rattle.cc_base.specs.MachineArithmetic.{holds}
use Rattle.cc_base.specs.declared.int_types.IntType.{IntType}
use Rattle.cc_base.specs.declared.integer_operators.Rel.{Rel}
use Rattle.cc_base.specs.declared.integer_operators.Rel.TheVariants.{Eq, Ne}
use Rattle.cc_base.specs.declared.diagnostics.Rule.TheVariants as rule
use Rattle.c_layout.specs.declared.data_model.Model.{Model}
use Rattle.lower_conditions.specs.declared.branch_tests.NamedObject.{NamedObject}
use Rattle.cfg.specs.declared.machine_instructions.Scalar.TheVariants as of
use Rattle.memory_model.specs.Memory.Labels.{Labels, no_labels}
use Rattle.memory_model.specs.Memory.Bytes.{MachinePointer, null, into}
use Rattle.memory_model.specs.Memory.Instances.{Memory}
use Rattle.memory_model.specs.Memory.Scalars.{Scalar, integer, pointer, is_false, is_null}
use Rattle.memory_model.specs.Effects.Worlds.{World, Reply, goes, stopped_by}
use Rattle.memory_model.specs.Effects.IntegerEffects.{truth}
use Rattle.memory_model.specs.Effects.PointerEffects.{are_equal, is_ended, share_instance, equality, compared, pointers_compared}
use Rattle.memory_model.specs.Effects.Tests.{TestedSide, object, constant, nothing, side_scalar, pointers_hold}
use Rattle.semantics.specs.SourceMachine.BranchSteps.{relation_on}
use Rattle.semantics.specs.SourceMachine.Items as side
use Rattle.semantics.specs.SourceMachine.Items.{NamedSide, NamedTest}
use Rattle.source_preservation.specs.ValueTyping.Marks.{Mark, Exactly, Loaded, Converted, IsNumber, IsPointer, IsConverted, IsSide, Agrees, Has}
use Rattle.source_preservation.specs.ValueTyping.ProperMemory.{IsProperMemory}
use Rattle.source_preservation.specs.ValueTyping.MarkOperations.{IsKind, IsWider, IsSideOf, ComparesAs, AreWithNull, null_test_of}
use Rattle.source_preservation.proofs.ranges.TypeRanges.{wrapped_own, of_wider, zero_in}
use Rattle.source_preservation.proofs.ranges.ObjectValues.{integer_object, pointer_object, object_in}
use Rattle.source_preservation.proofs.ranges.Relations.{on_way, turned_holds, truth_is, equal_null, equal_way, differ_way}

module _ (m : Model) (names : ℕ → Option ℕ) (memory : Memory) where
  -- ---- sides

  -- a side of a test that is, in the common type, a number
  record IsSideNumber (common : IntType) (s : NamedSide) (n : ℤ) : Type 0 where
    pub side : TestedSide
    pub number : ℤ
    pub labels : Labels
    pub is_side : IsSide m names memory s side
    pub is : side_scalar m memory side ≡ Some (integer number labels)
    pub wraps : wrap_into common number ≡ n

  named_side : (common : IntType) (p o : NamedObject) (n from : ℤ) → p ≡ o → IsNumber m names memory o from → wrap_into common from ≡ n → IsSideNumber common (side.named p) n
  named_side common p o n from e value wraps = subst (λ p. IsSideNumber common (side.named p) n) (sym e) (record {
    side = object value.instance o.kind;
    number = from;
    labels = value.labels;
    is_side = (value.instance, value.named, refl);
    is = value.is;
    wraps = wraps;
  })

  side_number : (common : IntType) (mark : Mark) (s : NamedSide) (n : ℤ) (labels : Labels) → IsProperMemory m memory → IsKind m common → IsSideOf common mark s → Has m names memory mark (integer n labels) → IsSideNumber common s n
  side_number common (Loaded o) (side.named p) n labels proper kind of has = named_side common p o n n of.0 has (wrapped_own common n kind.size (object_in m names memory o common n proper kind of.1 has))
  side_number common (Converted o wide) (side.named p) n labels proper kind of has = named_side common p o n has.from of.0 has.value (ap (λ k. wrap_into k has.from) (sym of.1) ∙ sym has.is)
  side_number common (Exactly k) (side.number z) n labels proper kind of has = record { side = constant z; number = z; labels = no_labels; is_side = refl; is = refl; wraps = sym (has ∙ of) }
  side_number common mark s n labels proper kind of has = absurd of

  -- a side of a test of integers is a number
  pub side_integer : (common : IntType) (mark : Mark) (s : NamedSide) (p : MachinePointer) → IsSideOf common mark s → Has m names memory mark (pointer p) → ⊥
  side_integer common (Loaded o) (side.named q) p of has = integer_object m names memory o common p of.1 has
  side_integer common (Converted o wide) (side.named q) p of has = has
  side_integer common (Exactly k) (side.number z) p of has = has
  side_integer common mark s p of has = of

  -- ---- tests of integers

  agreed : (test : NamedTest) (common : IntType) (v : Scalar) (a b : ℤ) → test.common ≡ Some common → IsSideNumber common test.left a → IsSideNumber common test.right b → holds (relation_on (not (is_false v)) test.rel) a b ≡ true → Agrees m names memory test v
  agreed test common v a b e x y h = record {
    left = x.side;
    right = y.side;
    is_left = x.is_side;
    is_right = y.is_side;
    holds = rw (e, x.is, y.is, x.wraps, y.wraps) h;
  }

  -- the truth value of a comparison of integers
  pub compared_numbers : (rel : Rel) (left right : Mark) (test : NamedTest) (a b : ℤ) (s t : Labels) → IsProperMemory m memory → ComparesAs m rel left right test → Has m names memory left (integer a s) → Has m names memory right (integer b t) → Agrees m names memory test (truth (holds rel a b))
  compared_numbers rel left right test a b s t proper c one two = elim c.sides [
    | inl d ↦ agreed test c.common (truth (holds rel a b)) a b c.is (side_number c.common left test.left a s proper c.kind d.0 one) (side_number c.common right test.right b t proper c.kind d.1 two)
        (on_way test.rel (not (is_false (truth (holds rel a b)))) a b (ap (λ r. holds r a b) d.2 ∙ sym (truth_is (holds rel a b))))
    | inr d ↦ agreed test c.common (truth (holds rel a b)) b a c.is (side_number c.common right test.left b t proper c.kind d.1 two) (side_number c.common left test.right a s proper c.kind d.0 one)
        (on_way test.rel (not (is_false (truth (holds rel a b)))) b a (ap (λ r. holds r b a) d.2 ∙ (turned_holds rel a b ∙ sym (truth_is (holds rel a b)))))
  ]

  -- a number that is not 0 is true
  number_agrees : (o : NamedObject) (kind common : IntType) (n : ℤ) (labels : Labels) → IsProperMemory m memory → IsKind m kind → IsKind m common → IsWider kind common → o.kind ≡ of.Int kind → IsNumber m names memory o n → Agrees m names memory (record { left = side.named o; rel = Ne; right = side.number (pos 0); common = Some common }) (integer n labels)
  number_agrees o kind common n labels proper own wide wider is value =
      let own_n : in_type kind n ≡ true = object_in m names memory o kind n proper own is value in
      let x : IsSideNumber common (side.named o) n = named_side common o o n n refl value (wrapped_own common n wide.size (of_wider kind common n wider own_n)) in
      let y : IsSideNumber common (side.number (pos 0)) (pos 0) = record { side = constant (pos 0); number = pos 0; labels = no_labels; is_side = refl; is = refl; wraps = wrapped_own common (pos 0) wide.size (zero_in common wide.size) } in
      agreed (record { left = side.named o; rel = Ne; right = side.number (pos 0); common = Some common }) common (integer n labels) n (pos 0) refl x y (on_way Ne (not (int_eq n (pos 0))) n (pos 0) refl)

  -- the value of an integer object alone
  pub loaded_agrees : (o : NamedObject) (kind common : IntType) (v : Scalar) → IsProperMemory m memory → IsKind m kind → IsKind m common → IsWider kind common → o.kind ≡ of.Int kind → Has m names memory (Loaded o) v → Agrees m names memory (record { left = side.named o; rel = Ne; right = side.number (pos 0); common = Some common }) v
  loaded_agrees o kind common (integer n labels) proper own wide wider is has = number_agrees o kind common n labels proper own wide wider is has
  loaded_agrees o kind common (pointer p) proper own wide wider is has = absurd (integer_object m names memory o kind p is has)

  -- a number that is converted to a type that has all numbers of its own stays as it is
  pub converted_is : (o : NamedObject) (kind to : IntType) (n : ℤ) → IsProperMemory m memory → IsKind m kind → IsKind m to → IsWider kind to → o.kind ≡ of.Int kind → IsConverted m names memory o to n → IsNumber m names memory o n
  converted_is o kind to n proper own wide wider is has =
      let inside : in_type kind has.from ≡ true = object_in m names memory o kind has.from proper own is has.value in
      let same : n ≡ has.from = has.is ∙ wrapped_own to has.from wide.size (of_wider kind to has.from wider inside) in
      subst (IsNumber m names memory o) (sym same) has.value

  -- converted so, it is as true as before
  pub converted_agrees : (o : NamedObject) (kind to common : IntType) (v : Scalar) → IsProperMemory m memory → IsKind m kind → IsKind m to → IsWider kind to → IsKind m common → IsWider kind common → o.kind ≡ of.Int kind → Has m names memory (Converted o to) v → Agrees m names memory (record { left = side.named o; rel = Ne; right = side.number (pos 0); common = Some common }) v
  converted_agrees o kind to common (integer n labels) proper own other wider wide through is has = number_agrees o kind common n labels proper own wide through is (converted_is o kind to n proper own other wider is has)
  converted_agrees o kind to common (pointer p) proper own other wider wide through is has = absurd has

  -- ---- tests of pointers

  null_agrees : (o : NamedObject) (rel : Rel) (p : MachinePointer) (v : Scalar) → IsPointer m names memory o p → pointers_hold (relation_on (not (is_false v)) rel) p null ≡ true → Agrees m names memory (null_test_of o rel) v
  null_agrees o rel p v value h = record {
    left = object value.instance o.kind;
    right = nothing;
    is_left = (value.instance, value.named, refl);
    is_right = refl;
    holds = rw value.is h;
  }

  -- the value of a pointer object alone
  pub pointer_agrees : (o : NamedObject) (v : Scalar) → o.kind ≡ of.Pointer → Has m names memory (Loaded o) v → Agrees m names memory (null_test_of o Ne) v
  pointer_agrees o (integer n labels) is has = absurd (pointer_object m names memory o n is has)
  pointer_agrees o (pointer p) is has = null_agrees o Ne p (pointer p) has (differ_way p null (not (is_null p)) (ap not (equal_null p)))

  -- where one of two pointers is null and the other one the value of an object
  abbrev pub AreNullAnd : NamedObject → MachinePointer → MachinePointer → Type 0
  AreNullAnd o p q = (IsPointer m names memory o p × (q ≡ null)) ⊎ ((p ≡ null) × IsPointer m names memory o q)

  equal_given : (w after : World) (p q : MachinePointer) (result : Bool) (v : Scalar) → equality w p q result ≡ goes v after → v ≡ truth result
  equal_given w after p q result v e = elim (cases_Bool (is_ended w.memory p || is_ended w.memory q)) [
    | inl f ↦ (let g : ◌≡◌ {A = Reply Scalar} (stopped_by w rule.Nullref) (goes v after) = rw f at e in cc)
    | inr f ↦ (let g : goes (truth result) w ≡ goes v after = rw f at e in cc)
  ]

  null_equal : (q : MachinePointer) → are_equal null q ≡ are_equal q null
  null_equal null = refl
  null_equal (into i offset lo hi) = refl

  equality_agrees : (o : NamedObject) (p q : MachinePointer) → AreNullAnd o p q → Agrees m names memory (null_test_of o Eq) (truth (are_equal p q))
  equality_agrees o p q (inl d) = null_agrees o Eq p (truth (are_equal p q)) d.0 (equal_way p null (not (is_false (truth (are_equal p q)))) (ap (are_equal p) (sym d.1) ∙ sym (truth_is (are_equal p q))))
  equality_agrees o p q (inr d) = null_agrees o Eq q (truth (are_equal p q)) d.1 (equal_way q null (not (is_false (truth (are_equal p q)))) (sym (null_equal q) ∙ (ap (λ z. are_equal z q) (sym d.0) ∙ sym (truth_is (are_equal p q)))))

  difference_agrees : (o : NamedObject) (p q : MachinePointer) → AreNullAnd o p q → Agrees m names memory (null_test_of o Ne) (truth (not (are_equal p q)))
  difference_agrees o p q (inl d) = null_agrees o Ne p (truth (not (are_equal p q))) d.0 (differ_way p null (not (is_false (truth (not (are_equal p q))))) (ap (λ z. not (are_equal p z)) (sym d.1) ∙ sym (truth_is (not (are_equal p q)))))
  difference_agrees o p q (inr d) = null_agrees o Ne q (truth (not (are_equal p q))) d.1 (differ_way q null (not (is_false (truth (not (are_equal p q))))) (ap not (sym (null_equal q)) ∙ (ap (λ z. not (are_equal z q)) (sym d.0) ∙ sym (truth_is (not (are_equal p q))))))

  -- null shares no instance, so no order of it goes on
  not_shared : (o : NamedObject) (p q : MachinePointer) → AreNullAnd o p q → share_instance p q ≡ false
  not_shared o p q (inl d) = rw d.1 (with_null p)
    where
      with_null : (p : MachinePointer) → share_instance p null ≡ false
      with_null null = refl
      with_null (into i offset lo hi) = refl
  not_shared o p q (inr d) = rw d.0 refl

  never_compared : (w after : World) (p q : MachinePointer) (reply : Reply Scalar) (v : Scalar) → share_instance p q ≡ false → compared w p q reply ≡ goes v after → ⊥
  never_compared w after p q reply v apart e = elim (cases_Bool (is_ended w.memory p || is_ended w.memory q)) [
    | inl f ↦ (let g : ◌≡◌ {A = Reply Scalar} (stopped_by w rule.Nullref) (goes v after) = rw f at e in cc)
    | inr f ↦ (let g : ◌≡◌ {A = Reply Scalar} (stopped_by w rule.Ptrobj) (goes v after) = rw (f, apart) at e in cc)
  ]

  -- the truth value of a comparison of a pointer object and null
  pub compared_null : (o : NamedObject) (rel : Rel) (p q : MachinePointer) (w after : World) (v : Scalar) → AreNullAnd o p q → pointers_compared rel p q w ≡ goes v after → Agrees m names memory (null_test_of o rel) v
  compared_null o Eq p q w after v are e = subst (Agrees m names memory (null_test_of o Eq)) (sym (equal_given w after p q (are_equal p q) v e)) (equality_agrees o p q are)
  compared_null o Ne p q w after v are e = subst (Agrees m names memory (null_test_of o Ne)) (sym (equal_given w after p q (not (are_equal p q)) v e)) (difference_agrees o p q are)
  compared_null o other p q w after v are e = absurd (never_compared w after p q _ v (not_shared o p q are) e)

  -- so where their marks say so
  pub are_null_and : (o : NamedObject) (left right : Mark) (p q : MachinePointer) → AreWithNull o left right → Has m names memory left (pointer p) → Has m names memory right (pointer q) → AreNullAnd o p q
  are_null_and o left right p q (inl d) one two = inl (subst (λ k. Has m names memory k (pointer p)) d.0 one, subst (λ k. Has m names memory k (pointer q)) d.1 two)
  are_null_and o left right p q (inr d) one two = inr (subst (λ k. Has m names memory k (pointer p)) d.0 one, subst (λ k. Has m names memory k (pointer q)) d.1 two)

  -- and both are pointers
  pub null_integer : (o : NamedObject) (left right : Mark) (n : ℤ) (labels : Labels) → o.kind ≡ of.Pointer → AreWithNull o left right → (Has m names memory left (integer n labels) → ⊥) × (Has m names memory right (integer n labels) → ⊥)
  null_integer o left right n labels is (inl d) = (λ h. pointer_object m names memory o n is (subst (λ k. Has m names memory k (integer n labels)) d.0 h), λ h. subst (λ k. Has m names memory k (integer n labels)) d.1 h)
  null_integer o left right n labels is (inr d) = (λ h. subst (λ k. Has m names memory k (integer n labels)) d.0 h, λ h. pointer_object m names memory o n is (subst (λ k. Has m names memory k (integer n labels)) d.1 h))
