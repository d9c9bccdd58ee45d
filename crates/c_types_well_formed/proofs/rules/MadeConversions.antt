-- Conversions of made terms: they are marked, they have the type that they convert to, and they keep null pointer constants.
use Rattle.std.proofs.Common.{◌≡◌, ◌⊎◌, inl, inr, ℤ, Bool, true, false, not, ◌&&◌, ◌||◌, cond, Option, Some, None, refl, sym, subst, ap, ◌∙◌}
use Rattle.std.proofs.lemmas.Bool.{and_from, or_left, or_right}
use Rattle.cc_base.specs.declared.diagnostics.Place.{Place}
use Rattle.cc_base.specs.declared.int_types.IntType.{IntType}
use Rattle.c_layout.specs.Models.{is_model}
use Rattle.c_layout.specs.CheckedTrees as tree
use Rattle.c_layout.specs.CheckedTrees.{TermTree, FormTree, Typed}
use Rattle.c_layout.specs.CheckedUnits.{UnitView}
use Rattle.c_layout.specs.Types.{Ty, Int, Pointer, Array, Struct, Void, same_kind, same_type}
use Rattle.c_layout.specs.declared.checked_tree.checked_terms.ConversionKind.{ConversionKind}
use Rattle.c_layout.specs.declared.checked_tree.checked_terms.ConversionKind.TheVariants as kind
use Rattle.c_types_rules.specs.Rules.TypeConversions as types
use Rattle.c_types_rules.specs.declared.rules.type_conversions.Conversion.{Conversion}
use Rattle.c_types_rules.specs.declared.rules.type_conversions.Conversion.TheVariants as conversion
use Rattle.c_types_scopes.specs.Known.{Known}
use Rattle.c_types_operands.specs.Operands.{term_place, term_type, term_constant, is_scalar, is_integer, is_void, is_0, is_zero, is_null_cast, is_null_form, is_null}
use Rattle.c_types_operands.specs.Conversions.{noted, converted_term, implicit, in_type, integer_as, assigned_by, assigned}
use Rattle.lower_templates.specs.Worklist.TermKinds as lowered
use Rattle.lower_templates.specs.Worklist.TermKinds.{scalar_of}
use Rattle.source_preservation.specs.Checks.LookedTypes.{is_scalar_type, is_address, converts}
use Rattle.source_preservation.specs.Checks.LookedTerms as look
use Rattle.source_preservation.specs.Checks.LookedTerms.{is_exact_zero, is_well_typed_term}
use Rattle.source_preservation.proofs.checks.Truths.{never, both_true}
use Rattle.c_types_rules.proofs.SameTypes.{type_is}
use Rattle.c_types_well_formed.specs.WellFormed.ModelTypes.{IsKindOf, IsTypeOf, IsGround}
use Rattle.c_types_well_formed.specs.WellFormed.MadeTerms.{IsExactly, IsMade, IsGiven, Gives}
use Rattle.c_types_well_formed.proofs.decided_tests.ModelKinds.{scalar_there}
use Rattle.c_types_well_formed.proofs.decided_tests.Rewrapped.{noted_type, noted_exact, noted_well_typed}

-- ---- types

pub not_void : (t : Ty) → is_scalar t ≡ true → is_void t ≡ false
not_void (Int k) h = refl
not_void (Pointer t) h = refl
not_void (Array t n) h = refl
not_void (Struct i) h = refl
not_void Void h = never h

-- ---- null pointer constants of integer types

no_number_cast : (k : IntType) (f : FormTree) → is_null_cast (Int k) f ≡ false
no_number_cast k (tree.Convert kind.Cast e) = refl
no_number_cast k (tree.Convert kind.Implicit e) = refl
no_number_cast k f = refl

number_zero : (e : TermTree) (k : IntType) (b : Bool) → term_type e ≡ Int k → (b || is_null_form e) ≡ true → b ≡ true
number_zero e k true typed h = refl
number_zero (Typed at t parens constant f) k false typed h = never (sym (subst (λ s. is_null_cast s f ≡ false) (sym typed) (no_number_cast k f)) ∙ h)

is_number_zero : (e : TermTree) (k : IntType) → term_type e ≡ Int k → is_null e ≡ true → is_zero e ≡ true
is_number_zero e k typed h = number_zero e k (is_zero e) typed h

-- ---- made terms

module _ (u : UnitView) where
  -- a value that is used
  pub used_well_typed : (e : TermTree) → IsMade u e → is_void (term_type e) ≡ false → is_well_typed_term u true e ≡ true
  used_well_typed e made value = subst (λ b. is_well_typed_term u (not b) e ≡ true) value made.well_typed

  pub scalar_well_typed : (e : TermTree) → IsMade u e → is_scalar (term_type e) ≡ true → is_well_typed_term u true e ≡ true
  scalar_well_typed e made scalar = used_well_typed e made (not_void (term_type e) scalar)

  -- the constant 0
  pub zero_exact : (e : TermTree) → IsMade u e → is_zero e ≡ true → is_exact_zero u.model e ≡ true
  zero_exact e made h = by (term_constant e) refl (both_true (is_integer (term_type e)) (is_0 (term_constant e)) h).1
    where
      by : (o : Option ℤ) → term_constant e ≡ o → is_0 o ≡ true → is_exact_zero u.model e ≡ true
      by None is z = never z
      by (Some n) is z = subst (λ x. lowered.is_zero x ≡ true) (sym (IsExactly.number (made.constant n is))) z

  -- ---- a conversion of what is marked

  -- from a number to a number, from a pointer to a pointer, or from 0
  abbrev pub IsConverted : TermTree → Ty → Type 0
  IsConverted e to = (converts (scalar_of to) (scalar_of (term_type e)) ≡ true) ⊎ ((is_address to ≡ true) × (is_exact_zero u.model e ≡ true))

  abbrev direct : TermTree → Ty → Bool
  direct e to = is_well_typed_term u true e && converts (scalar_of to) (scalar_of (term_type e))

  abbrev from_zero : TermTree → Ty → Bool
  from_zero e to = is_address to && is_exact_zero u.model e

  module _ (k : Known) where
    noted_converted : (e : TermTree) (to : Ty) → is_well_typed_term u true e ≡ true → IsConverted e to → (direct (noted k to e) to || from_zero (noted k to e) to) ≡ true
    noted_converted e to well_typed (inl c) =
        or_left (direct (noted k to e) to) (from_zero (noted k to e) to)
        (and_from (is_well_typed_term u true (noted k to e)) (converts (scalar_of to) (scalar_of (term_type (noted k to e)))) (noted_well_typed k to u true e ∙ well_typed) (ap (λ t. converts (scalar_of to) (scalar_of t)) (noted_type k to e) ∙ c))
    noted_converted e to well_typed (inr z) =
        or_right (direct (noted k to e) to) (from_zero (noted k to e) to)
        (and_from (is_address to) (is_exact_zero u.model (noted k to e)) z.0 (ap lowered.is_zero (noted_exact k to u.model e) ∙ z.1))

    pub converted_well_typed : (how : ConversionKind) (at : Place) (e : TermTree) (to : Ty) (used : Bool) → is_well_typed_term u true e ≡ true → is_scalar_type u to ≡ true → IsConverted e to → is_well_typed_term u used (converted_term k how at e to) ≡ true
    converted_well_typed how at e to used well_typed scalar by = and_from (is_scalar_type u to) (direct (noted k to e) to || from_zero (noted k to e) to) scalar (noted_converted e to well_typed by)

    module _ (proper : is_model u.model ≡ true) where
      pub implicit_given : (e : TermTree) (to : Ty) → IsMade u e → is_scalar (term_type e) ≡ true → IsTypeOf u.model to → IsConverted e to → IsGiven u (implicit k e to) to
      implicit_given e to made scalar known by = record { well_typed = converted_well_typed kind.Implicit (term_place e) e to true (scalar_well_typed e made scalar) (scalar_there u to proper known) by; same = refl }

      pub same_given : (e : TermTree) (to : Ty) → IsMade u e → is_scalar (term_type e) ≡ true → term_type e ≡ to → IsGiven u e to
      same_given e to made scalar same = record { well_typed = scalar_well_typed e made scalar; same = same }

      pub type_given : (e : TermTree) (to : Ty) → IsMade u e → is_scalar (term_type e) ≡ true → IsTypeOf u.model to → IsConverted e to → IsGiven u (in_type k e to) to
      type_given e to made scalar known how = by (same_type (term_type e) to) refl
        where
          by : (b : Bool) → same_type (term_type e) to ≡ b → IsGiven u (cond b e (implicit k e to)) to
          by true is = same_given e to made scalar (type_is (term_type e) to is)
          by false is = implicit_given e to made scalar known how

      -- ---- numbers, pointers and null pointer constants

      pub number_converted : (e : TermTree) (from to : IntType) → term_type e ≡ Int from → IsConverted e (Int to)
      number_converted e from to typed = inl (subst (λ t. converts (scalar_of (Int to)) (scalar_of t) ≡ true) (sym typed) refl)

      pub pointer_converted : (e : TermTree) (from to : Ty) → term_type e ≡ Pointer from → IsConverted e (Pointer to)
      pointer_converted e from to typed = inl (subst (λ t. converts (scalar_of (Pointer to)) (scalar_of t) ≡ true) (sym typed) refl)

      pub zero_converted : (e : TermTree) (from : IntType) (to : Ty) → IsMade u e → term_type e ≡ Int from → is_null e ≡ true → IsConverted e (Pointer to)
      zero_converted e from to made typed null = inr (refl, zero_exact e made (is_number_zero e from typed null))

      pub integer_given : (e : TermTree) (from to : IntType) → IsMade u e → term_type e ≡ Int from → IsKindOf u.model to → IsGiven u (integer_as k e to) (Int to)
      integer_given e from to made typed known = type_given e (Int to) made (subst (λ t. is_scalar t ≡ true) (sym typed) refl) known (number_converted e from to typed)

-- ---- assignments

-- what is converted and what not
pub record IsConverting (from : Ty) (null : Bool) (to : Ty) : Type 0 where
  pub scalar : is_scalar from ≡ true
  pub how : (converts (scalar_of to) (scalar_of from) ≡ true) ⊎ ((is_address to ≡ true) × (null ≡ true) × ((kind : IntType) × (from ≡ Int kind)))

abbrev pub ConvertsAs : Ty → Bool → Ty → Conversion → Type 0
ConvertsAs from null to conversion.Same = (is_scalar from ≡ true) × (from ≡ to)
ConvertsAs from null to conversion.Converted = IsConverting from null to
ConvertsAs from null to conversion.Crossing = Unit {0}
ConvertsAs from null to conversion.Nothing = Unit {0}

kinds_converted : (a b : IntType) (null c : Bool) → same_kind a b ≡ c → ConvertsAs (Int a) null (Int b) (cond c conversion.Same conversion.Converted)
kinds_converted a b null true is = (refl, type_is (Int a) (Int b) is)
kinds_converted a b null false is = record { scalar = refl; how = inl refl }

pub zero_crosses : (a : IntType) (null : Bool) (t : Ty) → ConvertsAs (Int a) null (Pointer t) (cond null conversion.Converted conversion.Crossing)
zero_crosses a true t = record { scalar = refl; how = inr (refl, refl, (a, refl)) }
zero_crosses a false t = tt

pointers_converted : (t s : Ty) (null b c d : Bool) → same_type t s ≡ b → ConvertsAs (Pointer t) null (Pointer s) (cond b conversion.Same (cond c conversion.Converted (cond d conversion.Converted conversion.Nothing)))
pointers_converted t s null true c d is = (refl, ap Pointer (type_is t s is))
pointers_converted t s null false true d is = record { scalar = refl; how = inl refl }
pointers_converted t s null false false true is = record { scalar = refl; how = inl refl }
pointers_converted t s null false false false is = tt

assigned_as : (from : Ty) (null : Bool) (to : Ty) → ConvertsAs from null to (types.assigned from null to)
assigned_as (Int a) null (Int b) = kinds_converted a b null (same_kind a b) refl
assigned_as (Int a) null (Pointer t) = zero_crosses a null t
assigned_as (Pointer t) null (Int b) = tt
assigned_as (Pointer t) null (Pointer s) = pointers_converted t s null (same_type t s) (types.is_void t) (types.is_void s) refl
assigned_as from null to = tt

-- what is cast
pub cast_as : (from : Ty) (null : Bool) (to : Ty) → ConvertsAs from null to (types.cast from null to)
cast_as (Int a) null (Int b) = record { scalar = refl; how = inl refl }
cast_as (Int a) null (Pointer t) = zero_crosses a null t
cast_as (Pointer t) null (Int b) = tt
cast_as (Pointer t) null (Pointer s) = record { scalar = refl; how = inl refl }
cast_as from null to = tt

module _ (u : UnitView) (k : Known) where
  pub converting : (e : TermTree) (to : Ty) → IsMade u e → IsConverting (term_type e) (is_null e) to → IsConverted u e to
  converting e to made how = by how.how
    where
      by : (converts (scalar_of to) (scalar_of (term_type e)) ≡ true) ⊎ ((is_address to ≡ true) × (is_null e ≡ true) × ((kind : IntType) × (term_type e ≡ Int kind))) → IsConverted u e to
      by (inl c) = inl c
      by (inr z) = inr (z.0, zero_exact u e made (is_number_zero e (z.2).0 (z.2).1 z.1))

  pub conversions_give : (ground : IsGround u k) (at : Place) (e : TermTree) (to : Ty) → IsMade u e → IsTypeOf u.model to → Gives u to (assigned k at e to)
  conversions_give ground at e to made known = by (types.assigned (term_type e) (is_null e) to) (assigned_as (term_type e) (is_null e) to)
    where
      by : (c : Conversion) → ConvertsAs (term_type e) (is_null e) to c → Gives u to (assigned_by k at e to c)
      by conversion.Same h = same_given u k ground.proper e to made h.0 h.1
      by conversion.Converted h = implicit_given u k ground.proper e to made h.scalar known (converting e to made h)
      by conversion.Crossing h = tt
      by conversion.Nothing h = tt
