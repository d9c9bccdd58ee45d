-- All works that pass the looks keep to what is known.
use Rattle.std.proofs.Common.{◌≡◌, ℕ, Bool, true, false, [], Some}
use Rattle.c_layout.specs.CheckedTrees as tree
use Rattle.c_layout.specs.CheckedTrees.{TermTree, Typed, LvalueTree, Designates}
use Rattle.lower_expressions.specs.LvaluePointers.{address}
use Rattle.lower_expressions.specs.Values.{term}
use Rattle.typed_programs.specs.PlainUnits.PlainTerms.{is_plain_term}
use Rattle.lower_templates.specs.Worklist.Works as jobs
use Rattle.lower_templates.specs.Worklist.Plans.{Plan}
use Rattle.lower_templates.specs.Worklist.Settings.{SettingView}
use Rattle.lower_preconditions.specs.Units.RegularTerms.{is_regular_term}
use Rattle.typed_programs.specs.Types.TypedStates.{Temporaries}
use Rattle.typed_lowering.specs.Conversions.KnownValues.{place_known, with_value}
use Rattle.typed_lowering.specs.Conversions.TypedTerms.{is_typed_term}
use Rattle.typed_lowering.specs.Conversions.WorkLaws.{Extends, IsSettingOf, IsLookedAt, WorksAreTyped}
use Rattle.typed_lowering.proofs.worklists.Assignments.{assign_comes, compound_comes, step_comes, compound_shift_comes, step_pointer_comes}
use Rattle.typed_lowering.proofs.worklists.Calls.{own_call_comes, library_comes}
use Rattle.typed_lowering.proofs.worklists.FormGoals.{term_goal}
use Rattle.typed_lowering.proofs.worklists.Numbers.{number_comes, size_comes, operand_size_comes, plus_comes, minus_comes, complement_comes, not_comes, integer_comes, difference_comes, compare_comes}
use Rattle.typed_lowering.proofs.worklists.Places.{object_comes, literal_comes, target_comes, member_comes, copied_comes, then_comes}
use Rattle.typed_lowering.proofs.worklists.PlannedWorks.{Site, Labels, Owns, Planned, plan_none, Made, no_labels, straight}
use Rattle.typed_lowering.proofs.worklists.Pointers.{load_comes, address_comes, struct_comes, decay_comes, shift_comes, convert_comes}
use Rattle.typed_lowering.proofs.worklists.Sequences.{discard_comes, comma_comes}
use Rattle.typed_lowering.proofs.worklists.TypedBranches.{logical_made, conditional_made}
use Rattle.typed_lowering.proofs.worklists.TypedConditions.{condition_made}
use Rattle.typed_lowering.proofs.worklists.TypedDerivations.{AreMade, work_typed}

module _ (c : Site) (s : SettingView) (setting : IsSettingOf c.u s) where
  -- ---- terms

  module _ (waits : Labels → Type 0) (depth : ℕ) (before : Temporaries) (p : Plan) (none : p.jobs ≡ []) where
    -- nothing is planned, and no label is given away
    begun : Planned c (Owns p.labels p.labels no_labels waits) (Some before) p.labels (Some before) p
    begun = plan_none c (Owns p.labels p.labels no_labels waits) (Some before) p none

    abbrev IsLookedTerm : Bool → TermTree → Type 0
    IsLookedTerm used e = (is_typed_term c.u c.f e ≡ true) × (is_plain_term c.calls e ≡ true) × (is_regular_term c.u c.f used depth e ≡ true)

    abbrev IsMadeTerm : Bool → TermTree → Type 0
    IsMadeTerm used e = Made c p.labels waits (Some before) (Some (term_goal used depth e before)) (term s e depth used p)

    term_made : (used : Bool) (e : TermTree) → IsLookedTerm used e → IsMadeTerm used e
    term_made used (Typed at t parens constant (tree.Number n)) looked = straight (number_comes s at t parens constant depth used before p begun n looked)
    term_made used (Typed at t parens constant (tree.SizeofType n is_pointer)) looked = straight (size_comes s at t parens constant depth used before p begun n is_pointer looked)
    term_made used (Typed at t parens constant (tree.Sizeof n operand is_pointer)) looked = straight (operand_size_comes s at t parens constant depth used before p begun n operand is_pointer looked)
    term_made used (Typed at t parens constant (tree.Load l)) looked = straight (load_comes s at t parens constant depth used before p begun l looked)
    term_made used (Typed at t parens constant (tree.AddressOf l)) looked = straight (address_comes s at t parens constant depth used before p begun l looked)
    term_made used (Typed at t parens constant (tree.Decay l)) looked = straight (decay_comes s at t parens constant depth used before p begun setting l looked)
    term_made used (Typed at t parens constant (tree.Convert kind a)) looked = straight (convert_comes s at parens constant depth used before p begun kind a t looked)
    term_made used (Typed at t parens constant (tree.Discard a)) looked = straight (discard_comes s at t parens constant depth used before p begun a looked)
    term_made used (Typed at t parens constant (tree.Plus a)) looked = straight (plus_comes s at t parens constant depth used before p begun a looked)
    term_made used (Typed at t parens constant (tree.Minus a)) looked = straight (minus_comes s at t parens constant depth used before p begun a looked)
    term_made used (Typed at t parens constant (tree.Complement a)) looked = straight (complement_comes s at t parens constant depth used before p begun a looked)
    term_made used (Typed at t parens constant (tree.Not a)) looked = straight (not_comes s at t parens constant depth used before p begun a looked)
    term_made used (Typed at t parens constant (tree.Integer sign a b)) looked = straight (integer_comes s at t parens constant depth used before p begun sign a b looked)
    term_made used (Typed at t parens constant (tree.Shift backward n a b)) looked = straight (shift_comes s at t parens constant depth used before p begun backward n a b looked)
    term_made used (Typed at t parens constant (tree.Difference n a b)) looked = straight (difference_comes s at t parens constant depth used before p begun n a b looked)
    term_made used (Typed at t parens constant (tree.Compare sign a b)) looked = straight (compare_comes s at t parens constant depth used before p begun sign a b looked)
    term_made used (Typed at t parens constant (tree.Logical sign a b)) looked = logical_made c waits s at t parens constant depth used before p none sign a b looked
    term_made used (Typed at t parens constant (tree.Conditional test a b)) looked = conditional_made c waits s at t parens constant depth used before p none test a b looked
    term_made used (Typed at t parens constant (tree.Comma a b)) looked = straight (comma_comes s at t parens constant depth used before p begun a b looked)
    term_made used (Typed at t parens constant (tree.Assign l a)) looked = straight (assign_comes s at t parens constant depth used before p begun l a looked)
    term_made used (Typed at t parens constant (tree.Compound sign kind l a)) looked = straight (compound_comes s at t parens constant depth used before p begun sign kind l a looked)
    term_made used (Typed at t parens constant (tree.CompoundShift backward n l a)) looked = straight (compound_shift_comes s at t parens constant depth used before p begun backward n l a looked)
    term_made used (Typed at t parens constant (tree.Step sign time kind l)) looked = straight (step_comes s at t parens constant depth used before p begun sign time kind l looked)
    term_made used (Typed at t parens constant (tree.StepPointer sign time n l)) looked = straight (step_pointer_comes s at t parens constant depth used before p begun sign time n l looked)
    term_made used (Typed at t parens constant (tree.Struct l)) looked = straight (struct_comes s at t parens constant depth used before p begun l looked)
    term_made used (Typed at t parens constant (tree.Call function es is_used)) looked = straight (own_call_comes s at t parens constant depth used before p begun function es is_used looked)
    term_made used (Typed at t parens constant (tree.Library function es target)) looked = straight (library_comes s at t parens constant depth used before p begun function es target looked)

    -- ---- lvalues

    place_made : (l : LvalueTree) → IsLookedAt c.u c.f c.calls (jobs.Address l depth) → Extends (address s l depth p).names c.names → Made c p.labels waits (Some before) (Some (with_value depth (place_known l) before)) (address s l depth p)
    place_made (Designates at t parens (tree.Object o)) looked extends = straight (object_comes s at t parens depth before p begun o looked extends)
    place_made (Designates at t parens (tree.Literal n)) looked extends = straight (literal_comes s at t parens depth before p begun n looked extends)
    place_made (Designates at t parens (tree.Target e)) looked extends = straight (target_comes s at t parens depth before p begun e looked)
    place_made (Designates at t parens (tree.Member outer offset)) looked extends = straight (member_comes s at t parens depth before p begun setting outer offset looked)
    place_made (Designates at t parens (tree.Copied to from)) looked extends = straight (copied_comes s at t parens depth before p begun to from looked)
    place_made (Designates at t parens (tree.Then left right)) looked extends = straight (then_comes s at t parens depth before p begun left right looked)

  -- ---- works

  all_made : AreMade c s
  all_made (jobs.Value e depth) p before none looked extends = term_made _ depth before p none true e looked
  all_made (jobs.Unused e depth) p before none looked extends = term_made _ depth before p none false e looked
  all_made (jobs.Address l depth) p before none looked extends = place_made _ depth before p none l looked extends
  all_made (jobs.Condition e decision) p before none looked extends = condition_made c s e decision p before none looked
  all_made (jobs.Statement i around) p before none looked extends = absurd looked
  all_made (jobs.Ready q) p before none looked extends = absurd looked

pub works_typed : WorksAreTyped
works_typed u f calls s setting p j ps q makes none looked used names extends before =
    let c : Site = record { u = u; f = f; calls = calls; used = used; names = names } in
    work_typed c s (all_made c s setting) p j ps q makes none looked extends before
