-- A switch leads to a label that is there, and a case agrees with the object that is switched on.
use Rattle.std.proofs.Common.{◌≡◌, ℕ, ◌+◌, ℤ, Bool, List, [], ◌∷◌, ◌++◌, length, Option, Some, None, refl, ap, sym, subst, ◌∙◌, arith}
use Rattle.cc_base.specs.declared.diagnostics.Place.{Place}
use Rattle.cc_base.specs.declared.int_types.IntType.{IntType}
use Rattle.c_layout.specs.CheckedTrees.{StatementTree}
use Rattle.c_layout.specs.CheckedUnits.{FunctionView, UnitView}
use Rattle.c_layout.specs.declared.checked_tree.checked_statements.CaseLabel.{CaseLabel}
use Rattle.lower_conditions.specs.declared.branch_tests.NamedObject.{NamedObject}
use Rattle.cfg.specs.declared.machine_instructions.Scalar.TheVariants as of
use Rattle.memory_model.specs.Memory.Labels.{no_labels}
use Rattle.memory_model.specs.Memory.Scalars.{Scalar, integer, pointer}
use Rattle.memory_model.specs.Effects.Worlds.{World, behind, with_memory}
use Rattle.memory_model.specs.Effects.Tests.{object_relabelled, passing, pass_case}
use Rattle.semantics.specs.SourceMachine.Items as item
use Rattle.semantics.specs.SourceMachine.Items.{Item}
use Rattle.semantics.specs.SourceMachine.Scopes.{leap_in}
use Rattle.semantics.specs.SourceMachine.LabelSearch as sought
use Rattle.semantics.specs.SourceMachine.LabelSearch.{Sought, found, case_of}
use Rattle.semantics.specs.SourceMachine.SourceStates.{State, with_world, if_some}
use Rattle.semantics.specs.SourceMachine.ObjectSteps.{on}
use Rattle.semantics.specs.SourceMachine.BranchSteps.{in_world, matching, landing, land, select_label, select}
use Rattle.source_items.specs.StackKinds.KindedTerms.{IsThere}
use Rattle.source_items.specs.StackKinds.KindedItems.{called_by}
use Rattle.source_preservation.specs.ValueTyping.Marks.{Mark, Ranged, Has, AreWellTyped}
use Rattle.source_preservation.specs.ValueTyping.MarkLaws.{Comes}
use Rattle.source_preservation.specs.ValueTyping.ProperMemory.{Evolves}
use Rattle.source_preservation.specs.WellTyped.WellTypedItems.{Selects, Does}
use Rattle.source_preservation.specs.SmallSteps.KeptMarks.{RunsOn}
use Rattle.source_preservation.proofs.memory.Evolving.{evolves_same}
use Rattle.source_preservation.proofs.memory.Objects.{relabelled_evolves}
use Rattle.source_items.proofs.stack_kinds.FoundItems.{IfSome}
use Rattle.source_items.proofs.stack_kinds.SwitchLandings.{IsCase, is_case, lands}
use Rattle.source_items.proofs.stack_kinds.ItemWalks.{does_from}
use Rattle.source_preservation.proofs.items.Leading.{marks}
use Rattle.source_preservation.proofs.items.Loops.{does_behind_loop}
use Rattle.source_preservation.proofs.items.Labels.{found_does}
use Rattle.source_preservation.proofs.tests.MatchedCases.{IsMatched, matched}
use Rattle.source_preservation.proofs.small_steps.Replies.{comes_at}
use Rattle.source_preservation.proofs.small_steps.Keeping.{room_kept, Newest, newest}
use Rattle.source_preservation.proofs.small_steps.Changes.{RunsAt, renewed, leapt}

-- ---- labels

-- wherever a label leads, items lead to what is left
landed : (u : UnitView) (f : FunctionView) (called : Option Bool) (labels : List CaseLabel) (statement : StatementTree) (l : Sought) (rest : List Item) (left : List Mark) → Selects u f labels statement rest → Does u f called rest [] left → IfSome (λ to. Does u f called to [] left) (landing l (found u l statement rest) rest)
landed u f called labels statement l rest left selects does = by l (found u l statement rest) (found_does u l f called left statement rest selects.stands.breaks selects.stands.continues selects.stands.well_typed selects.stands.jumps selects.stands.enclosed does)
  where
    Lands : Option (List Item) → Type 0
    Lands = IfSome (λ to. Does u f called to [] left)

    by : (l : Sought) (o : Option (List Item)) → Lands o → Lands (landing l o rest)
    by l (Some to) h = h
    by sought.other None h = does_behind_loop u f called rest [] left selects.ends does
    by (sought.label n) None h = tt
    by (sought.case n) None h = tt

pub such_some : {A : Type 0} (P : A → Type 0) (o : Option A) (x : A) → o ≡ Some x → IfSome P o → P x
such_some P o x is h = let family : Option _ → Type 0 = IfSome P in subst family is h

-- ---- switches

module _ (u : UnitView) (at : Place) (o : Option NamedObject) (labels : List CaseLabel) (statement : StatementTree) (s : State) (r : RunsAt u (item.Select at o labels statement) s) where
  -- no value of the function is pending any more
  module _ (others : List Scalar) (are : AreWellTyped u.model s.names s.world.memory [] others) (w : World) (evolves : Evolves u.model s.world.memory w.memory) where
    no_values : (vs : List Scalar) → AreWellTyped u.model s.names s.world.memory [] vs → AreWellTyped u.model s.names w.memory [] vs
    no_values [] are = tt
    no_values (v ∷ vs) are = absurd are

    landing_runs : (l : Sought) → IsCase (length labels) l → Comes (RunsOn u) (land u statement l (record s { values = others ++ r.rest; world = w }))
    landing_runs l is =
        let f : FunctionView = r.goes.function in
        let called : Option Bool = called_by s.frames in
        let selects : Selects u f labels statement s.control = r.goes.does.1.0 in
        let to : IsThere (landing l (found u l statement s.control) s.control) = lands u labels statement selects.cases l s.control is in
        let rest : Does u f called s.control [] r.left = does_from (marks u f called) s.control [] r.goes.does.0 r.left (sym r.goes.does.1.2) r.goes.does.2 in
        let reached : Does u f called to.0 [] r.left = such_some (λ to. Does u f called to [] r.left) (landing l (found u l statement s.control) s.control) to.0 to.1 (landed u f called labels statement l s.control r.left selects rest) in
        comes_at (RunsOn u) (record s { values = others ++ r.rest; world = w }) (landing l (found u l statement s.control) s.control) to.0 _ to.1 (renewed u (item.Select at o labels statement ∷ s.control) s r s.names (leap_in s.control to.0) (others ++ r.rest) w evolves (room_kept u s.world.memory w.memory evolves.grows f s.names r.goes.room) (record {
          marks = [];
          own = others;
          is = refl;
          are = no_values others are;
          does = leapt u f called s.control to.0 r.left reached;
        }))

  valued_case : (value : ℤ) → IsCase (length labels) (case_of labels 0 value)
  valued_case value = is_case labels (length labels) 0 value (omega arith)

module _ (u : UnitView) (at : Place) (labels : List CaseLabel) (statement : StatementTree) (s : State) where
  -- ---- without an object

  pub selected : RunsAt u (item.Select at None labels statement) s → Comes (RunsOn u) (select u None labels statement s s.values)
  selected r =
      let n : Newest u.model s.names s.world.memory (Ranged r.goes.does.1.1.0) [] r.own = newest u.model s.names s.world.memory (Ranged r.goes.does.1.1.0) [] r.marks r.own r.goes.does.1.1.1 r.are in
      subst (λ vs. Comes (RunsOn u) (select u None labels statement s vs)) (sym (r.values ∙ ap (λ vs. vs ++ r.rest) n.is)) (by n.value n.others n.has n.are)
    where
      by : (v : Scalar) (others : List Scalar) → Has u.model s.names s.world.memory (Ranged r.goes.does.1.1.0) v → AreWellTyped u.model s.names s.world.memory [] others → Comes (RunsOn u) (select u None labels statement s (v ∷ (others ++ r.rest)))
      by (pointer p) others has are = absurd has
      by (integer n l) others has are = landing_runs u at None labels statement s r others are s.world (evolves_same u.model s.world.memory) (case_of labels 0 n) (valued_case u at None labels statement s r n)

  -- ---- on an object

  module _ (o : NamedObject) (r : RunsAt u (item.Select at (Some o) labels statement) s) (others : List Scalar) (are : AreWellTyped u.model s.names s.world.memory [] others) where
    abbrev rest_state : State
    rest_state = record s { values = others ++ r.rest }

    abbrev unlabelled : ℕ → IntType → World
    unlabelled i kind = with_memory s.world (object_relabelled u.model (λ s. no_labels) i (of.Int kind) s.world.memory)

    passes_case : (v : Scalar) (m : IsMatched u.model s.names s.world.memory o v) → matching u rest_state o o.kind m.number ≡ on (with_world rest_state (unlabelled m.instance m.kind))
    passes_case v m =
        ap (λ kind. matching u rest_state o kind m.number) m.is_kind
        ∙ ap (λ found. if_some rest_state found (λ i. in_world rest_state (pass_case u.model i m.kind m.number s.world))) m.named
        ∙ ap (λ b. in_world rest_state (passing b (unlabelled m.instance m.kind))) m.same

    selected_by : (v : Scalar) (m : IsMatched u.model s.names s.world.memory o v) (l : Sought) → IsCase (length labels) l → Comes (RunsOn u) (select_label u (Some o) statement l m.number rest_state)
    selected_by v m (sought.label n) is = absurd is
    selected_by v m sought.other is = landing_runs u at (Some o) labels statement s r others are s.world (evolves_same u.model s.world.memory) sought.other is
    selected_by v m (sought.case n) is = subst (λ reply. Comes (RunsOn u) (behind reply (λ s w. land u statement (sought.case n) s))) (sym (passes_case v m)) (landing_runs u at (Some o) labels statement s r others are (unlabelled m.instance m.kind) (relabelled_evolves u.model (λ s. no_labels) m.instance (of.Int m.kind) s.world.memory) (sought.case n) is)

    selected_value : (v : Scalar) → IsMatched u.model s.names s.world.memory o v → Comes (RunsOn u) (select u (Some o) labels statement s (v ∷ (others ++ r.rest)))
    selected_value v m = subst (λ v. Comes (RunsOn u) (select u (Some o) labels statement s (v ∷ (others ++ r.rest)))) (sym m.is) (selected_by v m (case_of labels 0 m.number) (valued_case u at (Some o) labels statement s r m.number))

  pub selected_on : (o : NamedObject) → RunsAt u (item.Select at (Some o) labels statement) s → Comes (RunsOn u) (select u (Some o) labels statement s s.values)
  selected_on o r =
      let mark : Mark = r.goes.does.1.1.0 in
      let n : Newest u.model s.names s.world.memory mark [] r.own = newest u.model s.names s.world.memory mark [] r.marks r.own r.goes.does.1.1.1 r.are in
      subst (λ vs. Comes (RunsOn u) (select u (Some o) labels statement s vs)) (sym (r.values ∙ ap (λ vs. vs ++ r.rest) n.is)) (selected_value o r n.others n.are n.value (matched u s.names s.world.memory o mark n.value r.proper r.goes.does.1.1.2 n.has))
