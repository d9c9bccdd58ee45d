-- The laws on single instructions hold of intervals; so an analysis of a plain program finds just what its run violates.
use Rattle.std.specs.Prelude.{◌≡◌, ◌&&◌, ℕ, ℤ, true, Option, Some, None, List, [], ◌∷◌, map, replicate, slice_get}
use Rattle.std.specs.List.{Contains}
use Rattle.std.proofs.Common.{arith, refl, ap, ◌∙◌, inl, inr}
use Rattle.std.proofs.lemmas.List.{length-replicate}
use Rattle.std.proofs.lemmas.Bool.{and_parts}
use Rattle.cc_base.specs.Standard.{standard_limits}
use Rattle.cc_base.specs.declared.diagnostics.Diag.{Diag}
use Rattle.c_layout.specs.CheckedUnits.{LocalView, UnitView}
use Rattle.c_layout.specs.Types.{Int}
use Rattle.cfg.specs.FlowSystems.{well_formed_system}
use Rattle.cfg.specs.WellFormed.{is_well_formed}
use Rattle.cfg.specs.declared.flow_edges.Edge.{Edge}
use Rattle.cfg.specs.declared.flow_edges.EdgeKind.{EdgeKind}
use Rattle.cfg.specs.declared.flow_edges.EdgeKind.TheVariants as kind
use Rattle.cfg.specs.declared.flow_edges.Test.{Test}
use Rattle.cfg.specs.declared.programs.Flow.{Flow}
use Rattle.cfg.specs.declared.programs.ParameterInput.{ParameterInput}
use Rattle.value_domain.specs.declared.values.row_cells.Cell.TheVariants.{Nothing}
use Rattle.memory_model.specs.Effects.UnitStarts.{with_parameters, entry_parameters, world_before}
use Rattle.analysis_preconditions.specs.Objects.Sites.{has_sites, ends_with_lines}
use Rattle.analysis_preconditions.specs.Objects.SpelledTexts.{spells_over_characters}
use Rattle.analysis_preconditions.specs.Objects.ScalarTests.{all_follow_scalars}
use Rattle.interval_domain.specs.Intervals.Spans.{Stands}
use Rattle.interval_domain.specs.Intervals.IntervalLattice.{interval_lattice, interval_order, interval_rounding, interval_heights}
use Rattle.interval_domain.specs.Intervals.IntervalNumbers.{interval_numbers, interval_bounding, interval_ranges}
use Rattle.domain_theorems.specs.Intervals.Operations.{interval_monotone, interval_sound}
use Rattle.lower_templates.specs.Views.ProgramViews.{flow_view}
use Rattle.semantics.specs.CfgMachine.FlowStates.{ProgramState, running}
use Rattle.semantics.specs.CfgMachine.FlowStarts.{first_standing, begun_by, flow_begin}
use Rattle.store_sound.specs.Concretization.Coverage.{state_of}
use Rattle.store_sound.specs.Programs.Premises.{HasPremises}
use Rattle.store_sound.proofs.programs.WellFormedPremises.{meets_premises}
use Rattle.transfer_system.specs.BoundedRows.IntervalEnds.{interval_ends}
use Rattle.transfer_system.specs.BoundedRows.OwnRows.{program_bases}
use Rattle.transfer_system.specs.System.FlowLaws.{flow-laws}
use Rattle.transfer_system.specs.System.FlowMachines.{start_of}
use Rattle.transfer_system.specs.System.RegularPrograms.{has_scalars, has_initial_bytes, has_apart_members, is_near_list, is_regular}
use Rattle.analysis_determined.proofs.WellFormed.{laid_out, all_named}
use Rattle.analysis_determined.proofs.RegularPrograms.{Regular, regular_of}
use Rattle.analysis_determined.proofs.RegularSystems.{regular_rising}
use Rattle.analysis_determined.proofs.least_maps.ExactAnalyses.{exact_analysis}
use Rattle.row_bounds.proofs.edges.OwnEdges.{fit_nothing, leaves_own}
use Rattle.struct_copies_sound.specs.Structs.StructTables.{HasStructs}
use Rattle.struct_copies_sound.proofs.ordered_structs.OrderedStructs.{has_structs}
use Rattle.transfer_sound.specs.Values.SoundSteps.{InGammaAfter}
use Rattle.run_exact.specs.OpenSteps.{TestIsProved, CaseIsProved, KindIsProved}
use Rattle.run_exact.proofs.AllSteps.{tests_sound}
use Rattle.run_exact.specs.SoundAnalyses.{Suffices}
use Rattle.run_exact.proofs.SoundAnalyses.{standard_held, steps, ends, typed_runs, covered}
use Rattle.run_exact.proofs.FoundRuns.{suffices, finds_each_pair}
use Rattle.run_exact.proofs.ScalarTests.{kinds_proved}
use Rattle.transfer_sound.specs.InvariantMaps.CarriedMaps.{EntryInGamma}
use Rattle.analysis_determined.specs.Analyses.{IsAnalysis}
use Rattle.analysis_determined.specs.CheckedPrograms.{IsChecked}
use Rattle.entry_sound.specs.Tables.UnitStarts.{StartsAs}
use Rattle.entry_sound.proofs.tables.Beginnings.{runs_begin}
use Rattle.entry_sound.proofs.entries.EntryRows.{entry_stands}
use Rattle.entry_sound.proofs.checked.CheckedStarts.{sound_structs, unit_starts}
use Rattle.row_bounds.proofs.entries.RegularStarts.{regular_fits}
use Rattle.transfer_exact.specs.Values.SingleRows.{IsPlainProgram, ExactState}
use Rattle.transfer_exact.specs.Accesses.TypedAccesses.{HasObjects}
use Rattle.transfer_exact.proofs.values.ExactIntervals.{intervals_exact}
use Rattle.transfer_exact.proofs.values.ValueSteps.{value_step_told}
use Rattle.transfer_exact.proofs.pointers.PointerSteps.{pointer_step_told}
use Rattle.transfer_exact.proofs.calls.PlainCalls.{call_told}
use Rattle.transfer_exact.proofs.accesses.ExactLoads.{load_step_told}
use Rattle.transfer_exact.proofs.accesses.ExactStores.{store_step_told}
use Rattle.transfer_exact.proofs.accesses.ExactForgets.{forget_step_told}
use Rattle.transfer_exact.proofs.accesses.ExactClears.{clear_step_told}
use Rattle.transfer_exact.proofs.objects.ExactEnters.{enter_step_told}
use Rattle.transfer_exact.proofs.objects.ExactLeaves.{leave_step_told}
use Rattle.transfer_exact.proofs.spelling.ExactSpells.{spell_step_told}
use Rattle.transfer_exact.specs.Edges.WayLaws.{TestIsExact, CaseIsExact, KindIsExact, TestsAreExact}
use Rattle.transfer_exact.proofs.edges.EdgesExact.{way_told}
use Rattle.transfer_exact.proofs.edges.PointerTests.{pointer_test_told}
use Rattle.transfer_exact.proofs.edges.NullTests.{null_test_told}
use Rattle.transfer_exact.proofs.edges.CaseTests.{case_test_told}
use Rattle.run_exact.proofs.struct_copies.ExactCopies.{copy_step_told}
use Rattle.transfer_exact.proofs.tests.IntegerTests.{integer_test_told}
use Rattle.run_exact.proofs.entries.ExactStarts.{start_is_exact}
use Rattle.run_exact.specs.Runs.SingleRuns.{SingleLaws, SwitchesAreApart, IsNeverStuckAlone, IsSingleRun, IsViolatedAlone}
use Rattle.unit_exact.specs.Analyses.SingleAnalyses.{FindsJustRunOf, FindsJustRunsOfChecked}
use Rattle.run_exact.proofs.runs.PassedBlocks.{both}
use Rattle.unit_exact.proofs.analyses.PlainObjects.{has_objects}
use Rattle.unit_exact.proofs.analyses.RightOperands.{rights_of}
use Rattle.run_exact.proofs.runs.SingleRuns.{admits_only_run}

module _ (flow : Flow) where
  laws : SingleLaws interval_lattice interval_numbers Stands flow standard_limits
  laws = record {
    values = λ p naming row s o is fits typed right r t d. value_step_told interval_bounding interval_sound interval_ranges intervals_exact flow p naming row s r t o is fits typed right d;
    pointers = λ p plain naming row s o is fits typed right r t d. pointer_step_told interval_bounding intervals_exact flow p plain naming row s r t o is fits d;
    calls = λ p naming row s o is fits typed right r t d. call_told interval_bounding intervals_exact flow p naming row s r t o is fits d;
    loads = λ p objects plain naming row s o is fits typed r t d. load_step_told interval_bounding flow p objects plain naming row s r t o is fits d;
    stores = λ p objects plain naming row s o is fits typed r t d. store_step_told interval_order interval_bounding interval_sound interval_ranges intervals_exact flow p objects plain naming row s r t o is fits d;
    copies = λ structs p objects plain naming row s o is fits typed r t d. copy_step_told interval_order interval_bounding interval_ranges intervals_exact flow p objects plain structs naming row s r t o is fits d;
    spells = λ p objects plain naming row s o is fits typed r t d. spell_step_told interval_bounding flow p objects plain naming row s r t o is fits d;
    enters = λ p objects plain naming row s o is fits typed r t d. enter_step_told interval_bounding flow p objects plain naming row s r t o is fits d;
    leaves = λ p objects plain naming row s o is fits typed r t d. leave_step_told flow p plain naming row s r t o is fits d;
    forgets = λ p objects plain naming row s o is fits typed r t d. forget_step_told interval_bounding flow p objects plain naming row s r t o is fits d;
    clears = λ p objects plain naming row s o is fits typed r t d. clear_step_told interval_bounding flow p objects plain naming row s r t o is fits d;
    ways = λ p apart tests told good naming row s i last is r t d. way_told interval_bounding interval_sound intervals_exact flow p naming row s r t standard_limits good apart tests told i last is d;
  }

  module _ (p : HasPremises flow) where
    test_told : (test : Option Test) → TestIsProved flow test → TestIsExact interval_lattice interval_numbers Stands flow test
    test_told None h = tt
    test_told (Some test) h = elim h [
      | inl k ↦ (λ naming row s r t d. integer_test_told interval_order interval_bounding interval_sound intervals_exact flow p naming row s r t test k d)
      | inr other ↦ elim other [
        | inl k ↦ (λ naming row s r t d. pointer_test_told _ _ flow row s t test k d)
        | inr k ↦ (λ naming row s r t d. null_test_told interval_bounding flow p naming row s r t test k d)
      ]
    ]

    case_told : (value : ℤ) (base : Option ℕ) → CaseIsProved flow base → CaseIsExact interval_lattice interval_numbers Stands flow value base
    case_told value None h = tt
    case_told value (Some b) h = λ naming row s r t d. case_test_told interval_order interval_bounding flow p naming row s r t value b h d

    kind_told : (k : EdgeKind) → KindIsProved flow k → KindIsExact interval_lattice interval_numbers Stands flow k
    kind_told (kind.When truth test kept) h = test_told test h
    kind_told (kind.Case test) h = case_told test.value test.object h
    kind_told kind.Jump h = tt
    kind_told (kind.Other values) h = tt
    kind_told kind.NoLine h = tt
    kind_told kind.Line h = tt

module _ (flow : Flow) (list : List ℤ) (found : List Diag) (a : IsAnalysis flow list found) where
  enough : Suffices flow list
  enough = suffices flow list a.regular a.checked

  regular : Regular flow list
  regular = regular_of flow list a.regular

  p : HasPremises flow
  p = meets_premises standard_limits flow standard_held regular.well_formed

  structs : HasStructs flow
  structs =
      let w = and_parts (is_well_formed standard_limits flow) (has_scalars flow && (has_initial_bytes flow && (has_apart_members flow && is_near_list list))) a.regular in
      let b = and_parts (has_scalars flow) (has_initial_bytes flow && (has_apart_members flow && is_near_list list)) w.1 in
      let i = and_parts (has_initial_bytes flow) (has_apart_members flow && is_near_list list) b.1 in
      let m = and_parts (has_apart_members flow) (is_near_list list) i.1 in
      has_structs standard_limits flow regular.well_formed m.0 a.checked.structs

  kinds : (number : ℕ) (e : Edge) → slice_get flow.edges.items number ≡ Some e → KindIsProved flow e.kind
  kinds =
      let s = and_parts (has_sites flow) (ends_with_lines flow && (spells_over_characters flow && all_follow_scalars flow)) a.checked.parts in
      let e = and_parts (ends_with_lines flow) (spells_over_characters flow && all_follow_scalars flow) s.1 in
      let t = and_parts (spells_over_characters flow) (all_follow_scalars flow) e.1 in
      kinds_proved flow t.1

  objects : IsPlainProgram flow → HasObjects flow
  objects plain = has_objects standard_limits flow regular.well_formed plain

  module _ (u : UnitView) (starts : StartsAs u flow) where
    stand : EntryInGamma interval_lattice interval_numbers Stands flow list u
    stand = entry_stands flow list a.regular enough.reaches a.started u starts

    -- a unit whose program takes no numbers begins
    none_taken : {X Y : Type 0} (f : X → Y) (xs : List X) → map f xs ≡ [] → xs ≡ []
    none_taken f [] e = refl
    none_taken f (x ∷ xs) e = cc

    begin : ProgramState
    begin = first_standing u (flow_view flow) (world_before u [])

    begins : flow.parameters.items ≡ [] → flow_begin u (flow_view flow) [] ≡ running begin []
    unfolding begin
    begins none =
        let own : entry_parameters u ≡ [] = none_taken (λ (x : LocalView). x.ctype) (entry_parameters u) (starts.inputs.types ∙ ap (map (λ (x : ParameterInput). Int x.kind)) none) in
        ap (λ z. begun_by u (flow_view flow) (with_parameters u z (world_before u []))) own

    tells : (single : IsSingleRun flow u) → ExactState interval_lattice interval_numbers flow (start_of interval_lattice interval_numbers flow list) (state_of begin)
    tells single =
        start_is_exact interval_order interval_bounding interval_sound interval_ranges intervals_exact flow standard_limits regular.well_formed p (objects single.plain) single.plain single.parameters u starts.model
        (runs_begin flow standard_limits regular.well_formed regular.initial p u starts)
        (replicate flow.width Nothing) (start_of interval_lattice interval_numbers flow list) (length-replicate flow.width Nothing) (regular_fits flow list a.regular enough.reaches a.started) [] begin (begins single.parameters)

    only_run : SwitchesAreApart flow → IsNeverStuckAlone flow u → IsSingleRun flow u → (d : Diag) → Contains found d → IsViolatedAlone flow u d.place d.rule
    only_run apart unstuck single d there =
        let laid = laid_out standard_limits flow regular.well_formed (omega (arith)) in
        let named = all_named standard_limits flow regular.well_formed regular.scalars in
        let rising = regular_rising flow list a.regular in
        let near = regular.near in
        let behind = stand [] begin (begins single.parameters) in
        let typed = typed_runs flow list a.regular enough u stand a.rows a.inductive a.typed in
        let rights = rights_of flow u a.rows a.typed (covered flow list a.regular enough u stand typed a.rows a.inductive) in
        admits_only_run interval_order flow list standard_limits regular.well_formed p (steps flow list a.regular enough) (ends flow list a.regular enough)
        (tests_sound interval_order interval_bounding interval_sound interval_ranges flow p enough.tests)
        (laws flow) (λ number e is. kind_told flow p e.kind (kinds number e is))
        (λ number row own. fit_nothing interval_order interval_rounding interval_heights interval_bounding interval_monotone interval_ranges interval_ends flow list near enough.reaches laid named rising number row own)
        (λ block number row x own e. leaves_own interval_order interval_rounding interval_heights interval_bounding interval_monotone interval_ranges interval_ends flow list near enough.reaches laid named rising block number row x own e)
        ((flow-laws interval_order interval_rounding interval_heights interval_bounding interval_ends flow list (well_formed_system standard_limits flow regular.well_formed)).start_attained)
        structs enough.texts (objects single.plain) apart u typed rights unstuck single begin (begins single.parameters)
        (both interval_lattice interval_numbers flow Stands (Some (start_of interval_lattice interval_numbers flow list)) begin behind (record { row = start_of interval_lattice interval_numbers flow list; is = refl; tells = tells single }))
        d.place d.rule (λ rows closed. (exact_analysis flow list found a).made d there rows closed)

    pub finds_run : FindsJustRunOf flow found u
    finds_run apart unstuck single d = (λ there. only_run apart unstuck single d there, λ v. finds_each_pair flow list found a u stand (record { at = d.place; rule = d.rule }) (record { draws = []; steps = v.count; there = v.there }))

  pub finds_checked_run : FindsJustRunsOfChecked flow found
  finds_checked_run u is = finds_run u (unit_starts u flow (sound_structs flow list a.regular a.checked.structs) is)
