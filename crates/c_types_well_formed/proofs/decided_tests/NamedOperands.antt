-- What looks know of a term: the object that it names or assigns to, the number that it is, or null.
use Rattle.std.proofs.Common.{◌≡◌, ◌⊎◌, inl, inr, ℤ, pos, Bool, true, false, ◌&&◌, ◌||◌, cond, Option, Some, None, option_map, refl, ap, ap₂, sym, ◌∙◌}
use Rattle.std.proofs.lemmas.Bool.{cond-true, and_from}
use Rattle.c_layout.specs.Types.{Ty, Int, Pointer, Array, Struct, Void}
use Rattle.c_layout.specs.CheckedTrees as tree
use Rattle.c_layout.specs.CheckedTrees.{TermTree, Typed, Designates}
use Rattle.c_layout.specs.CheckedUnits.{UnitView}
use Rattle.c_layout.specs.declared.data_model.Model.{Model}
use Rattle.c_layout.specs.declared.checked_tree.checked_terms.ConversionKind.TheVariants.{Implicit, Cast}
use Rattle.lower_conditions.specs.declared.branch_tests.NamedObject.{NamedObject}
use Rattle.lower_conditions.specs.Tests.{named, named_by, or_else, named_or_assigned}
use Rattle.lower_templates.specs.Worklist.TermKinds.{is_zero, scalar_of, term_type, term_form, peeled, assigned}
use Rattle.source_preservation.specs.ValueTyping.Marks.{Mark, Exactly, Null, Loaded}
use Rattle.source_preservation.specs.Checks.LookedTypes.{is_scalar_type, is_address, same_mark}
use Rattle.source_preservation.specs.Checks.LookedTerms.{exact, is_exact_zero, is_null, has_object, loaded_from, side, stored, converted_in, converted_to, first_of, quiet, operand, is_well_typed_term}
use Rattle.source_preservation.proofs.checks.DecidedTests.{number_is}
use Rattle.source_preservation.proofs.checks.SameTypes.{scalar_is}
use Rattle.source_preservation.proofs.checks.Truths.{never, no_some, some_is, both_true, either_true, three, five}
use Rattle.c_types_well_formed.specs.WellFormed.MadeTerms.{is_implicit}

-- ---- conversions

converted_from : (m : Model) (t : Ty) (o : Option ℤ) (n : ℤ) → converted_in m t o ≡ Some n → (k : ℤ) × (o ≡ Some k)
converted_from m (Int kind) (Some k) n h = (k, refl)
converted_from m (Int kind) None n h = no_some n h
converted_from m (Pointer t) o n h = no_some n h
converted_from m (Array t count) o n h = no_some n h
converted_from m (Struct i) o n h = no_some n h
converted_from m Void o n h = no_some n h

pub address_no_number : (m : Model) (t : Ty) (o : Option ℤ) → is_address t ≡ true → converted_in m t o ≡ None
address_no_number m (Int kind) o h = never h
address_no_number m (Pointer t) o h = refl
address_no_number m (Array t count) o h = refl
address_no_number m (Struct i) o h = refl
address_no_number m Void o h = refl

pub zero_is : (o : Option ℤ) → is_zero o ≡ true → o ≡ Some (pos 0)
zero_is None h = never h
zero_is (Some n) h = ap Some (number_is n (pos 0) h)

module _ (u : UnitView) where
  -- ---- numbers and null are no objects

  pub number_side : (e : TermTree) (n : ℤ) → exact u.model e ≡ Some n → side u e ≡ None
  number_side (Typed at t p c (tree.Load l)) n h = no_some n h
  number_side (Typed at t p c (tree.Convert sort a)) n h = let x = converted_from u.model t (exact u.model a) n h in ap (converted_to u t) (number_side a x.0 x.1)
  number_side (Typed at t p c f) n h = refl

  either_side : (e : TermTree) → (is_null u.model e ≡ true → side u e ≡ None) → (is_null u.model e || is_exact_zero u.model e) ≡ true → side u e ≡ None
  either_side e f h = by (either_true (is_null u.model e) (is_exact_zero u.model e) h)
    where
      by : (is_null u.model e ≡ true) ⊎ (is_exact_zero u.model e ≡ true) → side u e ≡ None
      by (inl g) = f g
      by (inr g) = number_side e (pos 0) (zero_is (exact u.model e) g)

  pub null_side : (e : TermTree) → is_null u.model e ≡ true → side u e ≡ None
  null_side (Typed at t p c (tree.Convert sort a)) h = ap (converted_to u t) (either_side a (λ g. null_side a g) (both_true (is_address t) (is_null u.model a || is_exact_zero u.model a) h).1)
  null_side (Typed at t p c f) h = never h

  null_number : (e : TermTree) → is_null u.model e ≡ true → exact u.model e ≡ None
  null_number (Typed at t p c (tree.Convert sort a)) h = address_no_number u.model t (exact u.model a) (both_true (is_address t) (is_null u.model a || is_exact_zero u.model a) h).0
  null_number (Typed at t p c f) h = never h

  -- ---- what is known

  pub quiet_side : (e : TermTree) (mark : Mark) → side u e ≡ Some mark → quiet u e ≡ Some mark
  quiet_side e mark h = ap (λ o. first_of o (first_of (option_map Exactly (exact u.model e)) (cond (is_null u.model e) (Some Null) None))) h

  pub quiet_number : (e : TermTree) (n : ℤ) → exact u.model e ≡ Some n → quiet u e ≡ Some (Exactly n)
  quiet_number e n h = ap₂ (λ o p. first_of o (first_of (option_map Exactly p) (cond (is_null u.model e) (Some Null) None))) (number_side e n h) h

  pub quiet_null : (e : TermTree) → is_null u.model e ≡ true → quiet u e ≡ Some Null
  quiet_null e h = ap₂ (λ o p. first_of o (first_of (option_map Exactly p) (cond (is_null u.model e) (Some Null) None))) (null_side e h) (null_number e h) ∙ cond-true (is_null u.model e) (Some Null) None h

  quiet_none : (e : TermTree) → side u e ≡ None → exact u.model e ≡ None → is_null u.model e ≡ false → quiet u e ≡ None
  quiet_none e h g f = ap₂ (λ o p. first_of o (first_of (option_map Exactly p) (cond (is_null u.model e) (Some Null) None))) h g ∙ ap (λ b. cond b (Some Null) None) f

  pub operand_quiet : (e : TermTree) (mark : Mark) → quiet u e ≡ Some mark → operand u e ≡ Some mark
  operand_quiet e mark h = ap (λ o. first_of o (stored u e)) h

  pub operand_stored : (e : TermTree) (mark : Mark) → side u e ≡ None → exact u.model e ≡ None → is_null u.model e ≡ false → stored u e ≡ Some mark → operand u e ≡ Some mark
  operand_stored e mark h g f s = ap₂ first_of (quiet_none e h g f) s

  -- ---- objects

  -- the value of an object
  pub record IsLoaded (e : TermTree) (o : NamedObject) : Type 0 where
    pub side : side u e ≡ Some (Loaded o)
    pub kind : o.kind ≡ scalar_of (term_type e)

  -- a value that is assigned to an object
  pub record IsAssigned (e : TermTree) (o : NamedObject) : Type 0 where
    pub side : side u e ≡ None
    pub number : exact u.model e ≡ None
    pub null : is_null u.model e ≡ false
    pub stored : stored u e ≡ Some (Loaded o)
    pub kind : o.kind ≡ scalar_of (term_type e)

  pub loads : (used : Bool) (e : TermTree) (o : NamedObject) → is_implicit e ≡ false → is_well_typed_term u used e ≡ true → named e ≡ Some o → IsLoaded e o
  loads used (Typed at t p c (tree.Load (Designates place s q (tree.Object r)))) o bare well_typed h =
      let x = three (has_object u r) (is_scalar_type u s) (same_mark s t) (λ e. e) (λ e. e) (scalar_is (scalar_of s) (scalar_of t)) well_typed in
      let is : record { object = r; kind = scalar_of s } ≡ o = some_is (record { object = r; kind = scalar_of s }) o h in
      record {
        side = cond-true (has_object u r && is_scalar_type u s) (Some (loaded_from r s)) None (and_from (has_object u r) (is_scalar_type u s) x.0 x.1) ∙ ap (λ o. Some (Loaded o)) is;
        kind = sym (ap (λ (o : NamedObject). o.kind) is) ∙ x.2;
      }
  loads used (Typed at t p c (tree.Load (Designates place s q l))) o bare well_typed h = no_some o h
  loads used (Typed at t p c (tree.Convert Implicit a)) o bare well_typed h = never (sym bare)
  loads used (Typed at t p c (tree.Convert Cast a)) o bare well_typed h = no_some o h
  loads used (Typed at t p c f) o bare well_typed h = no_some o h

  pub assigns : (used : Bool) (e : TermTree) (o : NamedObject) → is_implicit e ≡ false → is_well_typed_term u used e ≡ true → named_by (assigned (term_form (peeled e))) ≡ Some o → IsAssigned e o
  assigns used (Typed at t p c (tree.Assign (Designates place s q (tree.Object r)) a)) o bare well_typed h =
      let x = five (has_object u r) (is_well_typed_term u true a) (is_scalar_type u s) (same_mark (term_type a) s) (same_mark s t) (λ e. e) (λ e. e) (λ e. e) (λ e. e) (scalar_is (scalar_of s) (scalar_of t)) well_typed in
      let is : record { object = r; kind = scalar_of s } ≡ o = some_is (record { object = r; kind = scalar_of s }) o h in
      record { side = refl; number = refl; null = refl; stored = ap (λ o. Some (Loaded o)) is; kind = sym (ap (λ (o : NamedObject). o.kind) is) ∙ x.4 }
  assigns used (Typed at t p c (tree.Assign (Designates place s q l) a)) o bare well_typed h = no_some o h
  assigns used (Typed at t p c (tree.Convert Implicit a)) o bare well_typed h = never (sym bare)
  assigns used (Typed at t p c (tree.Convert Cast a)) o bare well_typed h = no_some o h
  assigns used (Typed at t p c f) o bare well_typed h = no_some o h

  pub names : (used : Bool) (e : TermTree) (o : NamedObject) → is_implicit e ≡ false → is_well_typed_term u used e ≡ true → named_or_assigned e ≡ Some o → IsLoaded e o ⊎ IsAssigned e o
  names used e o bare well_typed h = by (named e) refl h
    where
      by : (p : Option NamedObject) → named e ≡ p → or_else p (named_by (assigned (term_form (peeled e)))) ≡ Some o → IsLoaded e o ⊎ IsAssigned e o
      by (Some q) is h = inl (loads used e o bare well_typed (is ∙ h))
      by None is h = inr (assigns used e o bare well_typed h)
