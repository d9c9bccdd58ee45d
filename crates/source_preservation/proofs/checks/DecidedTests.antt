-- What looks at tests say.
use Rattle.std.proofs.Common.{◌≡◌, inl, inr, ℤ, Bool, true, ◌&&◌, ◌||◌, Option, Some, None, refl, ap, sym, ◌∙◌}
use Rattle.std.specs.Ordering.{int_eq}
use Rattle.std.proofs.lemmas.Bool.{eqb-true}
use Rattle.std.proofs.lemmas.Bool.Decides.{Decides-int_eq}
use Rattle.cc_base.specs.IntegerTypes.{wrap_into}
use Rattle.cc_base.specs.declared.int_types.IntType.{IntType}
use Rattle.cc_base.specs.declared.integer_operators.Rel.{Rel}
use Rattle.cc_base.specs.declared.integer_operators.Rel.TheVariants.{Lt, Le, Gt, Ge, Eq, Ne}
use Rattle.c_layout.specs.Types.{same_kind}
use Rattle.c_layout.specs.CheckedUnits.{UnitView}
use Rattle.c_layout.specs.declared.data_model.Model.{Model}
use Rattle.c_layout.specs.declared.checked_tree.checked_terms.ObjectRef.{ObjectRef}
use Rattle.c_layout.specs.declared.checked_tree.checked_terms.ObjectRef.TheVariants as ref
use Rattle.lower_conditions.specs.declared.branch_tests.NamedObject.{NamedObject}
use Rattle.cfg.specs.declared.machine_instructions.Scalar.{Scalar}
use Rattle.cfg.specs.declared.machine_instructions.Scalar.TheVariants as of
use Rattle.memory_model.specs.Effects.Tests.{turned}
use Rattle.semantics.specs.SourceMachine.Items as side
use Rattle.semantics.specs.SourceMachine.Items.{NamedSide, NamedTest}
use Rattle.source_preservation.specs.ValueTyping.Marks.{Mark, Ranged, Exactly, Pointing, Naming, Null, Loaded, Converted, Tested}
use Rattle.source_preservation.specs.ValueTyping.MarkOperations.{IsSideOf, ComparesAs, AreWithNull, null_test_of, ConvertsTo}
use Rattle.source_preservation.specs.WellTyped.WellTypedTerms.{DecidesAlone, Decides}
use Rattle.source_preservation.specs.Checks.LookedTypes.{is_kind, is_wider, is_pointer, same_scalar}
use Rattle.source_preservation.specs.Checks.LookedTests.{same_reference, same_object, same_side, same_relation, same_common, same_test, converted_number, converted_pointer, converted_mark, is_side_of, compares_in, is_null_test, with_loaded, are_with_null, zero_test_in, decides_number, decides_alone, decides_converted, decides}
use Rattle.source_preservation.proofs.checks.Truths.{never, no_some, some_is, both_true, both, three, four, one_of}
use Rattle.c_types_rules.proofs.SameTypes.{kind_is}
use Rattle.source_preservation.proofs.checks.SameTypes.{kind_there, wider, scalar_is, pointer_is}

-- ---- the same tests

reference_is : (o p : ObjectRef) → same_reference o p ≡ true → o ≡ p
reference_is (ref.Static m) (ref.Static n) h = ap ref.Static (eqb-true m n h)
reference_is (ref.Static m) (ref.Local n) h = never h
reference_is (ref.Local m) (ref.Static n) h = never h
reference_is (ref.Local m) (ref.Local n) h = ap ref.Local (eqb-true m n h)

pub object_is : (o p : NamedObject) → same_object o p ≡ true → o ≡ p
object_is o p h =
    let x = both_true (same_reference o.object p.object) (same_scalar o.kind p.kind) h in
    let made : ObjectRef → Scalar → NamedObject = λ r k. record { object = r; kind = k } in
    ap (λ r. made r o.kind) (reference_is o.object p.object x.0) ∙ ap (λ k. made p.object k) (scalar_is o.kind p.kind x.1)

pub number_is : (m n : ℤ) → int_eq m n ≡ true → m ≡ n
number_is m n h = (Decides-int_eq m n).0 h

side_is : (x y : NamedSide) → same_side x y ≡ true → x ≡ y
side_is (side.named o) (side.named p) h = ap side.named (object_is o p h)
side_is (side.named o) (side.number n) h = never h
side_is (side.named o) side.nothing h = never h
side_is (side.number m) (side.named p) h = never h
side_is (side.number m) (side.number n) h = ap side.number (number_is m n h)
side_is (side.number m) side.nothing h = never h
side_is side.nothing (side.named p) h = never h
side_is side.nothing (side.number n) h = never h
side_is side.nothing side.nothing h = refl

relation_is : (r s : Rel) → same_relation r s ≡ true → r ≡ s
relation_is Lt Lt h = refl
relation_is Le Le h = refl
relation_is Gt Gt h = refl
relation_is Ge Ge h = refl
relation_is Eq Eq h = refl
relation_is Ne Ne h = refl
relation_is Lt _ h = never h
relation_is Le _ h = never h
relation_is Gt _ h = never h
relation_is Ge _ h = never h
relation_is Eq _ h = never h
relation_is Ne _ h = never h

common_is : (a b : Option IntType) → same_common a b ≡ true → a ≡ b
common_is None None h = refl
common_is None (Some b) h = never h
common_is (Some a) None h = never h
common_is (Some a) (Some b) h = ap Some (kind_is a b h)

test_is : (s t : NamedTest) → same_test s t ≡ true → s ≡ t
test_is s t h =
    let x = four (same_side s.left t.left) (same_relation s.rel t.rel) (same_side s.right t.right) (same_common s.common t.common) (side_is s.left t.left) (relation_is s.rel t.rel) (side_is s.right t.right) (common_is s.common t.common) h in
    let made : NamedSide → Rel → NamedSide → Option IntType → NamedTest = λ l r k c. record { left = l; rel = r; right = k; common = c } in
    ap (λ l. made l s.rel s.right s.common) x.0 ∙ (ap (λ r. made t.left r s.right s.common) x.1 ∙ (ap (λ k. made t.left t.rel k s.common) x.2 ∙ ap (λ c. made t.left t.rel t.right c) x.3))

-- ---- conversions

pub mark_converts : (m : Model) (to : Scalar) (old new : Mark) → converted_mark to old ≡ Some new → ConvertsTo m to old new
mark_converts m to (Ranged kind) new h = no_some new h
mark_converts m to (Exactly n) new h = no_some new h
mark_converts m to Pointing new h = no_some new h
mark_converts m to (Naming o) new h = no_some new h
mark_converts m to Null new h = no_some new h
mark_converts m (of.Int kind) (Loaded o) new h = by o.kind refl h
  where
    by : (k : Scalar) → o.kind ≡ k → converted_number o kind k ≡ Some new → (old : IntType) × (o.kind ≡ of.Int old) × (new ≡ Converted o kind)
    by (of.Int old) is h = (old, is, sym (some_is (Converted o kind) new h))
    by of.Pointer is h = no_some new h
mark_converts m of.Pointer (Loaded o) new h = by o.kind refl h
  where
    by : (k : Scalar) → o.kind ≡ k → converted_pointer o k ≡ Some new → (o.kind ≡ of.Pointer) × (new ≡ Loaded o)
    by (of.Int old) is h = no_some new h
    by of.Pointer is h = (is, sym (some_is (Loaded o) new h))
mark_converts m to (Converted o kind) new h = no_some new h
mark_converts m to (Tested test) new h = no_some new h

-- ---- comparisons

side_of : (common : IntType) (mark : Mark) (s : NamedSide) → is_side_of common mark s ≡ true → IsSideOf common mark s
side_of common (Loaded o) (side.named p) h = both (same_object p o) (same_scalar o.kind (of.Int common)) (object_is p o) (scalar_is o.kind (of.Int common)) h
side_of common (Loaded o) (side.number k) h = never h
side_of common (Loaded o) side.nothing h = never h
side_of common (Converted o kind) (side.named p) h = both (same_object p o) (same_kind kind common) (object_is p o) (kind_is kind common) h
side_of common (Converted o kind) (side.number k) h = never h
side_of common (Converted o kind) side.nothing h = never h
side_of common (Exactly n) (side.named p) h = never h
side_of common (Exactly n) (side.number k) h = number_is n (wrap_into common k) h
side_of common (Exactly n) side.nothing h = never h
side_of common (Ranged kind) s h = never h
side_of common Pointing s h = never h
side_of common (Naming o) s h = never h
side_of common Null s h = never h
side_of common (Tested test) s h = never h

pub compared : (m : Model) (rel : Rel) (left right : Mark) (test : NamedTest) → compares_in m rel left right test test.common ≡ true → ComparesAs m rel left right test
compared m rel left right test h = by test.common refl h
  where
    by : (c : Option IntType) → test.common ≡ c → compares_in m rel left right test c ≡ true → ComparesAs m rel left right test
    by None is h = never h
    by (Some common) is h =
        let straight : Bool = is_side_of common left test.left && (is_side_of common right test.right && same_relation test.rel rel) in
        let crossed : Bool = is_side_of common left test.right && (is_side_of common right test.left && same_relation test.rel (turned rel)) in
        let x = both_true (is_kind m common) (straight || crossed) h in
        record {
          common = common;
          kind = kind_there m common x.0;
          is = is;
          sides = one_of straight crossed
              (three (is_side_of common left test.left) (is_side_of common right test.right) (same_relation test.rel rel) (side_of common left test.left) (side_of common right test.right) (relation_is test.rel rel))
              (three (is_side_of common left test.right) (is_side_of common right test.left) (same_relation test.rel (turned rel)) (side_of common left test.right) (side_of common right test.left) (relation_is test.rel (turned rel)))
              x.1;
        }

-- a pointer object is compared with null
pub record NullCompared (rel : Rel) (left right : Mark) (test : NamedTest) : Type 0 where
  pub o : NamedObject
  pub pointer : o.kind ≡ of.Pointer
  pub are : AreWithNull o left right
  pub is : test ≡ null_test_of o rel

null_test : (o : NamedObject) (rel : Rel) (test : NamedTest) → is_null_test o rel test ≡ true → (o.kind ≡ of.Pointer) × (test ≡ null_test_of o rel)
null_test o rel test h = both (is_pointer o.kind) (same_test test (null_test_of o rel)) (pointer_is o.kind) (test_is test (null_test_of o rel)) h

module _ (rel : Rel) (test : NamedTest) where
  on_left : (left : Mark) → with_loaded rel left test ≡ true → NullCompared rel left Null test
  on_left (Loaded o) h = let x = null_test o rel test h in record { o = o; pointer = x.0; are = inl (refl, refl); is = x.1 }
  on_left other h = never h

  on_right : (right : Mark) → with_loaded rel right test ≡ true → NullCompared rel Null right test
  on_right (Loaded o) h = let x = null_test o rel test h in record { o = o; pointer = x.0; are = inr (refl, refl); is = x.1 }
  on_right other h = never h

  pub null_compared : (left right : Mark) → are_with_null rel left right test ≡ true → NullCompared rel left right test
  null_compared (Loaded o) Null h = on_left (Loaded o) h
  null_compared (Ranged kind) Null h = on_left (Ranged kind) h
  null_compared (Exactly n) Null h = on_left (Exactly n) h
  null_compared Pointing Null h = on_left Pointing h
  null_compared (Naming o) Null h = on_left (Naming o) h
  null_compared Null Null h = on_left Null h
  null_compared (Converted o kind) Null h = on_left (Converted o kind) h
  null_compared (Tested t) Null h = on_left (Tested t) h
  null_compared Null (Loaded o) h = on_right (Loaded o) h
  null_compared Null (Ranged kind) h = on_right (Ranged kind) h
  null_compared Null (Exactly n) h = on_right (Exactly n) h
  null_compared Null Pointing h = on_right Pointing h
  null_compared Null (Naming o) h = on_right (Naming o) h
  null_compared Null (Converted o kind) h = on_right (Converted o kind) h
  null_compared Null (Tested t) h = on_right (Tested t) h
  null_compared left right h = never h

-- ---- values alone

module _ (u : UnitView) (o : NamedObject) where
  number_decides : (kind : IntType) (t : NamedTest) → decides_number u o kind t t.common ≡ true → DecidesAlone u o (of.Int kind) t
  number_decides kind t h = by t.common h
    where
      by : (c : Option IntType) → decides_number u o kind t c ≡ true → DecidesAlone u o (of.Int kind) t
      by None h = never h
      by (Some common) h =
          let x = four (is_kind u.model kind) (is_kind u.model common) (is_wider kind common) (same_test t (zero_test_in o common)) (kind_there u.model kind) (kind_there u.model common) (wider kind common) (test_is t (zero_test_in o common)) h in
          (common, x.0, x.1, x.2, x.3)

  alone_decides : (k : Scalar) (t : NamedTest) → decides_alone u o k t ≡ true → DecidesAlone u o k t
  alone_decides (of.Int kind) t h = number_decides kind t h
  alone_decides of.Pointer t h = test_is t (null_test_of o Ne) h

  converted_decides : (wide : IntType) (t : NamedTest) → decides_converted u o wide o.kind t ≡ true → Decides u (Converted o wide) t
  converted_decides wide t h = by o.kind refl h
    where
      by : (k : Scalar) → o.kind ≡ k → decides_converted u o wide k t ≡ true → Decides u (Converted o wide) t
      by (of.Int kind) is h =
          let x = three (is_kind u.model wide) (is_wider kind wide) (decides_number u o kind t t.common) (kind_there u.model wide) (wider kind wide) (number_decides kind t) h in
          (kind, is, x.0, x.1, x.2)
      by of.Pointer is h = never h

pub decided : (u : UnitView) (mark : Mark) (t : NamedTest) → decides u (Some mark) t ≡ true → Decides u mark t
decided u (Loaded o) t h = alone_decides u o o.kind t h
decided u (Converted o wide) t h = converted_decides u o wide t h
decided u other t h = never h
