-- Values that are stored as scalars, and structures that are copied.
use Rattle.std.proofs.Common.{◌≡◌, ◌≤◌, ◌<◌, ℕ, zero, suc, Bool, true, false, ◌&&◌, cond, nat_lt, List, [], ◌∷◌, take, Option, Some, None, length, slice_get, refl, arith, sym, subst}
use Rattle.std.specs.List.{list_all}
use Rattle.std.proofs.lemmas.Bool.{ltb-true}
use Rattle.c_layout.specs.CheckedTrees.{TermTree, Typed, LvalueTree}
use Rattle.c_layout.specs.CheckedUnits.{LocalView, FunctionView, UnitView}
use Rattle.c_layout.specs.Layout.{size_of_type}
use Rattle.c_layout.specs.Types.{Ty, Int, Pointer, Array, Struct, Void, same_type}
use Rattle.c_layout.specs.declared.checked_tree.checked_terms.ObjectRef.TheVariants as ref
use Rattle.lower_functions.specs.Functions.Functions.{type_or, local_type}
use Rattle.lower_templates.specs.Worklist.TermKinds.{scalar_of, term_type, lvalue_type}
use Rattle.lower_preconditions.specs.Units.RegularStatements.{object_type}
use Rattle.lower_preconditions.specs.Units.RegularStatements.{local_type as type_of_local}
use Rattle.lower_preconditions.specs.Units.RegularTerms.{has_local}
use Rattle.typed_programs.specs.Types.PointedTypes.{Element, Known, Zero, Null, Pointing, is_same, IsOfKind, number_kind, pointer_kind, IsStorable}
use Rattle.c_types_rules.proofs.SameTypes.{type_is}
use Rattle.simulation_layout.proofs.function_checks.CountedLabels.{both_true}
use Rattle.typed_lowering.specs.Conversions.KnownValues.{type_known, term_known}
use Rattle.typed_lowering.specs.Conversions.TypedStatements.{is_copied_as}
use Rattle.typed_lowering.specs.Conversions.TypedTerms.{is_struct, is_scalar, is_zero_form, is_null_form, is_stored_as, local_types, is_typed_place, size}

pub never : {A : Type 0} → false ≡ true → A
never e = absurd (cc)

-- ---- scalars

-- a value of a term is stored as the type
pub record IsStoredIn (t : Ty) (e : TermTree) : Type 0 where
  pub known : Option Known
  pub kind : IsOfKind t (scalar_of (term_type e)) known
  pub storable : IsStorable known (term_known e)

-- the value of a pointer is null, or points to its type
pointer_storable : (t : Ty) (e : TermTree) → term_type e ≡ Pointer t → IsStorable (Some (Pointing (Element t))) (term_known e)
pointer_storable t (Typed at s parens constant form) e = subst (λ x. IsStorable (Some (Pointing (Element t))) (cond (is_zero_form x form) (Some Zero) (cond (is_null_form x form) (Some Null) (type_known x)))) (sym e) (by (is_null_form (Pointer t) form))
  where
    by : (b : Bool) → IsStorable (Some (Pointing (Element t))) (cond b (Some Null) (Some (Pointing (Element t))))
    by true = (Null, refl, tt)
    by false = (Pointing (Element t), refl, is_same (Element t))

pub stored_in : (t : Ty) (e : TermTree) → is_stored_as t e ≡ true → IsStoredIn t e
stored_in (Int k) e is =
    let x = both_true (nat_lt 0 k.bytes) (same_type (term_type e) (Int k)) is in
    record { known = None; kind = subst (λ s. IsOfKind (Int k) (scalar_of s) None) (sym (type_is (term_type e) (Int k) x.1)) (number_kind k (ltb-true 0 k.bytes x.0)); storable = tt }
stored_in (Pointer t) e is =
    let same = type_is (term_type e) (Pointer t) is in
    record { known = Some (Pointing (Element t)); kind = subst (λ s. IsOfKind (Pointer t) (scalar_of s) (Some (Pointing (Element t)))) (sym same) (pointer_kind t); storable = pointer_storable t e same }
stored_in (Array t n) e is = never is
stored_in (Struct i) e is = never is
stored_in Void e is = never is

-- a value of a scalar type is stored as the type, and so it is loaded
pub record IsScalarOf (t : Ty) : Type 0 where
  pub kind : IsOfKind t (scalar_of t) (type_known t)
  pub storable : IsStorable (type_known t) (type_known t)

pub scalar_of_type : (t : Ty) → is_scalar t ≡ true → IsScalarOf t
scalar_of_type (Int k) is = record { kind = number_kind k (ltb-true 0 k.bytes is); storable = tt }
scalar_of_type (Pointer t) is = record { kind = pointer_kind t; storable = (Pointing (Element t), refl, is_same (Element t)) }
scalar_of_type (Array t n) is = never is
scalar_of_type (Struct i) is = never is
scalar_of_type Void is = never is

-- ---- structures

-- an lvalue whose structure is copied to the type
pub record IsCopiedTo (u : UnitView) (t : Ty) (l : LvalueTree) : Type 0 where
  pub index : ℕ
  pub target : t ≡ Struct index
  pub source : lvalue_type l ≡ Struct index
  pub some : 0 < size_of_type u.structs u.model.pointer (Struct index)

module _ (u : UnitView) (f : FunctionView) where
  copied_struct : (t : Ty) (l : LvalueTree) → is_struct t ≡ true → 0 < size_of_type u.structs u.model.pointer t → lvalue_type l ≡ t → IsCopiedTo u t l
  copied_struct (Struct i) l is some same = record { index = i; target = refl; source = same; some = some }
  copied_struct (Int k) l is some same = never is
  copied_struct (Pointer t) l is some same = never is
  copied_struct (Array t n) l is some same = never is
  copied_struct Void l is some same = never is

  pub copied_to : (t : Ty) (l : LvalueTree) → is_copied_as u f t l ≡ true → IsCopiedTo u t l
  copied_to t l is =
      let x = both_true (is_typed_place u f l) ((is_struct t && nat_lt 0 (size u f t)) && same_type (lvalue_type l) t) is in
      let y = both_true (is_struct t && nat_lt 0 (size u f t)) (same_type (lvalue_type l) t) x.1 in
      let z = both_true (is_struct t) (nat_lt 0 (size u f t)) y.0 in
      copied_struct t l z.0 (ltb-true 0 (size u f t) z.1) (type_is (lvalue_type l) t y.1)

  pub copied_place : (t : Ty) (l : LvalueTree) → is_copied_as u f t l ≡ true → is_typed_place u f l ≡ true
  copied_place t l is = (both_true (is_typed_place u f l) ((is_struct t && nat_lt 0 (size u f t)) && same_type (lvalue_type l) t) is).0

  -- ---- objects of the function

  typed_local : (ls : List LocalView) (n : ℕ) (t : Ty) → n < length ls → type_of_local (slice_get ls n) ≡ Some (type_or (slice_get ls n) t)
  typed_local ls n t less = by (slice_get ls n) refl
    where
      none_there : (ls : List LocalView) (n : ℕ) → n < length ls → slice_get ls n ≡ None → ⊥
      none_there [] n less e = absurd (none n less)
        where
          none : (n : ℕ) → n < 0 → ⊥
          none n less = omega (arith, less)
      none_there (l ∷ ls) zero less e = cc
      none_there (l ∷ ls) (suc n) less e = none_there ls n (pred less) e
        where
          pred : suc n < suc (length ls) → n < length ls
          pred less = omega (arith, less)

      by : (o : Option LocalView) → slice_get ls n ≡ o → type_of_local o ≡ Some (type_or o t)
      by (Some l) e = refl
      by None e = absurd (none_there ls n less e)

  pub type_of_object : (n : ℕ) → n < length f.locals → object_type u f (ref.Local n) ≡ Some (local_type f n)
  type_of_object n less = typed_local f.locals n f.returns less

  pub type_of_own : (n : ℕ) → has_local f n ≡ true → object_type u f (ref.Local n) ≡ Some (local_type f n)
  type_of_own n is = type_of_object n (ltb-true n (length f.locals) is)

-- the types of the first objects are scalars
pub scalar_local : (ls : List LocalView) (n i : ℕ) (t : Ty) → list_all is_scalar (local_types (take n ls)) ≡ true → i < n → n ≤ length ls → is_scalar (type_or (slice_get ls i) t) ≡ true
scalar_local ls zero i t all less le = absurd (none i less)
  where
    none : (i : ℕ) → i < 0 → ⊥
    none i less = omega (arith, less)
scalar_local [] (suc n) i t all less le = absurd (none n le)
  where
    none : (n : ℕ) → suc n ≤ 0 → ⊥
    none n le = omega (arith, le)
scalar_local (l ∷ ls) (suc n) zero t all less le = (both_true (is_scalar l.ctype) (list_all is_scalar (local_types (take n ls))) all).0
scalar_local (l ∷ ls) (suc n) (suc i) t all less le = scalar_local ls n i t (both_true (is_scalar l.ctype) (list_all is_scalar (local_types (take n ls))) all).1 (first less) (second le)
  where
    first : suc i < suc n → i < n
    first less = omega (arith, less)

    second : suc n ≤ suc (length ls) → n ≤ length ls
    second le = omega (arith, le)
