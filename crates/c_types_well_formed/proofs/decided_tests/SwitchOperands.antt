-- What a switch selects by is an object, converted or not, or a number.
use Rattle.std.proofs.Common.{◌≡◌, true, not, ◌&&◌, Option, Some, None, refl, ap, sym, subst, ◌∙◌}
use Rattle.std.proofs.lemmas.Bool.{and_from, or_left, cond-true}
use Rattle.cc_base.specs.declared.int_types.IntType.{IntType}
use Rattle.c_layout.specs.Types.{Int}
use Rattle.c_layout.specs.CheckedTrees.{TermTree}
use Rattle.c_layout.specs.CheckedUnits.{UnitView}
use Rattle.c_types_rules.specs.Rules.IntegerKinds.{promoted}
use Rattle.c_types_scopes.specs.Known.{Known}
use Rattle.c_types_operands.specs.Operands.{is_void}
use Rattle.c_types_operands.specs.Conversions.{noted, implicit, integer_as}
use Rattle.lower_conditions.specs.declared.branch_tests.NamedObject.{NamedObject}
use Rattle.lower_conditions.specs.Tests.{named}
use Rattle.lower_templates.specs.Worklist.TermKinds.{scalar_of, term_type}
use Rattle.cfg.specs.declared.machine_instructions.Scalar.TheVariants as of
use Rattle.source_preservation.specs.ValueTyping.Marks.{Converted}
use Rattle.source_preservation.specs.Checks.LookedTypes.{is_kind, is_wider, is_integer, converts}
use Rattle.source_preservation.specs.Checks.LookedTests.{same_object, converted_number}
use Rattle.source_preservation.specs.Checks.LookedTerms.{is_well_typed_term, side, converted_to}
use Rattle.source_preservation.specs.UnitChecks.LookedStatements.{is_of_kind, is_within, matches, selects_by}
use Rattle.c_types_well_formed.specs.WellFormed.ModelTypes.{IsKindOf, IsTypeOf, IsGround}
use Rattle.c_types_well_formed.specs.WellFormed.MadeTerms.{IsMade}
use Rattle.c_types_well_formed.specs.WellFormed.MadeLaws.{SwitchesSelect}
use Rattle.c_types_well_formed.proofs.decided_tests.ModelKinds.{kind_there, promoted_kind, promoted_wider}
use Rattle.c_types_well_formed.proofs.decided_tests.Rewrapped.{noted_type, noted_well_typed}
use Rattle.c_types_well_formed.proofs.decided_tests.ConvertedOperands.{in_type_by, in_type_named, in_type_typed, converted_side}
use Rattle.c_types_well_formed.proofs.decided_tests.NamedOperands.{IsLoaded, loads}
use Rattle.c_types_well_formed.proofs.decided_tests.IntegerSides.{same_object_self}

module _ (u : UnitView) (k : Known) (ground : IsGround u k) (e : TermTree) (a wide : IntType) (x : IsMade u e) (t : term_type e ≡ Int a) (h : IsKindOf u.model a) (g : IsKindOf u.model wide) (wider : is_wider a wide ≡ true) where
  used_well_typed : is_well_typed_term u true e ≡ true
  used_well_typed = subst (λ s. is_well_typed_term u (not (is_void s)) e ≡ true) t x.well_typed

  well_typed_in : is_well_typed_term u true (integer_as k e wide) ≡ true
  well_typed_in = in_type_by k e (Int wide) (λ l. is_well_typed_term u true l ≡ true) (λ same. used_well_typed)
      (and_from (is_kind u.model wide) _ (kind_there u.model ground.proper wide g)
      (or_left _ _ (and_from (is_well_typed_term u true (noted k (Int wide) e)) (converts (of.Int wide) (scalar_of (term_type (noted k (Int wide) e)))) (noted_well_typed k (Int wide) u true e ∙ used_well_typed) (ap (λ s. converts (of.Int wide) (scalar_of s)) (noted_type k (Int wide) e ∙ t)))))

  object_matches : (o : NamedObject) → IsLoaded u e o → matches u o (side u (integer_as k e wide)) ≡ true
  object_matches o y = in_type_by k e (Int wide) (λ l. matches u o (side u l) ≡ true)
      (λ same. subst (λ mark. matches u o mark ≡ true) (sym y.side) (and_from (same_object o o) (is_of_kind u o.kind) (same_object_self o) (subst (λ s. is_of_kind u s ≡ true) (sym kind) (kind_there u.model ground.proper a h))))
      (subst (λ mark. matches u o mark ≡ true) (sym found) (and_from (same_object o o) (is_within u wide o.kind) (same_object_self o)
      (subst (λ s. is_within u wide s ≡ true) (sym kind) (and_from (is_kind u.model a) (is_kind u.model wide && is_wider a wide) (kind_there u.model ground.proper a h) (and_from (is_kind u.model wide) (is_wider a wide) (kind_there u.model ground.proper wide g) wider)))))
    where
      kind : o.kind ≡ of.Int a
      kind = y.kind ∙ ap scalar_of t

      found : side u (implicit k e (Int wide)) ≡ Some (Converted o wide)
      found = converted_side k e (Int wide) u ∙ (ap (converted_to u (Int wide)) y.side ∙ (cond-true (is_kind u.model wide) (converted_number o wide o.kind) None (kind_there u.model ground.proper wide g) ∙ ap (converted_number o wide) kind))

  selects_in : selects_by u (integer_as k e wide) (named (integer_as k e wide)) ≡ true
  selects_in = by (named (integer_as k e wide)) refl
    where
      by : (p : Option NamedObject) → named (integer_as k e wide) ≡ p → selects_by u (integer_as k e wide) p ≡ true
      by None is = and_from (is_well_typed_term u true (integer_as k e wide)) (is_integer (term_type (integer_as k e wide))) well_typed_in (ap is_integer (in_type_typed k e (Int wide)))
      by (Some o) is = object_matches o (loads u _ e o x.bare x.well_typed (sym (in_type_named k e (Int wide)) ∙ is))

pub selects : SwitchesSelect
selects u k ground e kind x t =
    let h : IsKindOf u.model kind = subst (IsTypeOf u.model) t x.typed in
    let g : IsKindOf u.model (promoted k.numbers kind) = subst (λ m. IsKindOf u.model (promoted m kind)) ground.same (promoted_kind u.model ground.proper kind h) in
    let w : is_wider kind (promoted k.numbers kind) ≡ true = subst (λ m. is_wider kind (promoted m kind) ≡ true) ground.same (promoted_wider u.model ground.proper kind h) in
    selects_in u k ground e kind (promoted k.numbers kind) x t h g w
