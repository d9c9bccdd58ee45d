-- Terms that are computed one after the other, and terms whose values are not used.
use Rattle.std.proofs.Common.{◌≡◌, ℕ, ℤ, Bool, true, false, not, ◌&&◌, Option, Some, refl, sym, subst}
use Rattle.std.proofs.lemmas.Bool.{and_parts, not-true}
use Rattle.cc_base.specs.declared.diagnostics.Place.{Place}
use Rattle.c_layout.specs.CheckedTrees as tree
use Rattle.c_layout.specs.CheckedTrees.{TermTree, FormTree, Typed}
use Rattle.c_layout.specs.Types.{Ty}
use Rattle.lower_expressions.specs.Values.{of_form}
use Rattle.typed_programs.specs.PlainUnits.PlainTerms.{is_plain_term}
use Rattle.lower_templates.specs.Worklist.Plans.{Plan}
use Rattle.lower_templates.specs.Worklist.Settings.{SettingView}
use Rattle.lower_preconditions.specs.Units.RegularTerms.{is_regular_term}
use Rattle.typed_programs.specs.Types.PointedTypes.{IsStorable}
use Rattle.typed_programs.specs.Types.TypedPrograms.{IsKept}
use Rattle.typed_programs.specs.Types.TypedStates.{Temporaries}
use Rattle.typed_lowering.specs.Conversions.KnownValues.{term_known, below}
use Rattle.typed_lowering.specs.Conversions.TypedPieces.{State}
use Rattle.typed_lowering.specs.Conversions.TypedTerms.{fits, is_typed_term}
use Rattle.typed_lowering.proofs.conversions.KeptKnowledge.{kept_same}
use Rattle.typed_lowering.proofs.worklists.KnownTables.{at_most, agrees_same, agrees_below}
use Rattle.typed_lowering.proofs.worklists.PlannedWorks.{Site, Labels, Planned, Comes, plan_unused}
use Rattle.typed_lowering.proofs.worklists.FormGoals.{term_goal, arm_goal, comes_to, plan_arm, known_by_type, fitting}
use Rattle.typed_lowering.proofs.worklists.Numbers.{IsLookedForm}

module _ {c : Site} {L : Labels → Type 0} {start : State} {count : ℕ} (s : SettingView) (at : Place) (t : Ty) (parens : ℕ) (constant : Option ℤ) (depth : ℕ) (used : Bool) (before : Temporaries) (p : Plan) (k : Planned c L start count (Some before) p) where
  abbrev Goal : FormTree → Type 0
  Goal form = Comes c L start count (Some (term_goal used depth (Typed at t parens constant form) before)) (of_form s (Typed at t parens constant form) form depth used p)

  abbrev Looked : FormTree → Type 0
  Looked form = IsLookedForm c used depth at t parens constant form

  -- the value is not used where it is thrown away
  unused_goal : (e : TermTree) → not used ≡ true → IsKept (below depth before) (term_goal used depth e before)
  unused_goal e none = subst (λ b. IsKept (below depth before) (term_goal b depth e before)) (sym (not-true used none)) (kept_same (below depth before))

  pub discard_comes : (a : TermTree) → Looked (tree.Discard a) → Goal (tree.Discard a)
  discard_comes a looked =
      let x = and_parts (not used) (is_regular_term c.u c.f false depth a) looked.2 in
      comes_to (plan_unused a depth p (looked.0, looked.1, x.1) k) (unused_goal (Typed at t parens constant (tree.Discard a)) x.0)

  pub comma_comes : (a b : TermTree) → Looked (tree.Comma a b) → Goal (tree.Comma a b)
  comma_comes a b looked =
      let x = and_parts (is_typed_term c.u c.f a) (is_typed_term c.u c.f b && fits t b) looked.0 in
      let y = and_parts (is_typed_term c.u c.f b) (fits t b) x.1 in
      let plain = and_parts (is_plain_term c.calls a) (is_plain_term c.calls b) looked.1 in
      let deep = and_parts (is_regular_term c.u c.f false depth a) (is_regular_term c.u c.f used depth b) looked.2 in
      comes_to (plan_arm used b depth _ (y.0, plain.1, deep.1) (plan_unused a depth p (x.0, plain.0, deep.0) k))
      (arm_goal used depth (Typed at t parens constant (tree.Comma a b)) b (below depth before) before (agrees_below depth depth before before (at_most depth) (agrees_same depth before)) (subst (λ z. IsStorable z (term_known b)) (sym (known_by_type at parens constant t (tree.Comma a b) refl)) (fitting t b y.1)))
