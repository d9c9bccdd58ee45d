-- The one run of a plain program passes its blocks once at most, to its end; so the rows along it are an inductive
-- map that admits what the run violates, and no more.
use Rattle.std.proofs.Common.{◌≡◌, ℕ, zero, suc, ◌+◌, ◌-◌, ◌<◌, ◌≤◌, Bool, true, false, ◌||◌, Option, Some, None, List, [], ◌∷◌, ◌++◌, length, take, arith, subst, sym, refl, ap, ◌∙◌, inl, inr, ◌⊎◌}
use Rattle.std.specs.Prelude.{slice_get, ℤ, nat_lt}
use Rattle.std.specs.List.{Contains, list_all}
use Rattle.std.proofs.lemmas.Bool.{and_parts, cases_eq, eqb-true, ltb-true, true≢false}
use Rattle.std.proofs.lemmas.Option.{same_Some}
use Rattle.std.proofs.lemmas.List.Elements.{Contains-append_right}
use Rattle.cc_base.specs.InductiveMap.{IsInductive, IsOwn, IsRoundedOrNone, row_at, step}
use Rattle.cc_base.specs.Lattices.{LatticeOf, OrderLaws}
use Rattle.cc_base.specs.IntegerDomains.{IntegersOf}
use Rattle.cc_base.specs.Rows.{reached_leq}
use Rattle.cc_base.specs.declared.diagnostics.Place.{Place}
use Rattle.cc_base.specs.declared.diagnostics.Rule.{Rule}
use Rattle.cc_base.specs.declared.limit_table.Limits.{Limits}
use Rattle.c_layout.specs.CheckedUnits.{UnitView}
use Rattle.cfg.specs.FlowSystems.{well_formed_system}
use Rattle.cfg.specs.WellFormed.{names_of, On, leads, fits_operation, is_well_formed}
use Rattle.cfg.specs.declared.flow_edges.Edge.{Edge}
use Rattle.cfg.specs.declared.machine_instructions.Instruction.{Instruction}
use Rattle.cfg.specs.declared.machine_instructions.Operation.{Operation}
use Rattle.cfg.specs.declared.machine_instructions.Operation.TheVariants as op
use Rattle.cfg.specs.declared.programs.Flow.{Flow}
use Rattle.value_domain.specs.declared.values.row_cells.Cell.{Cell}
use Rattle.value_domain.specs.Values.Cells.{cell_lattice}
use Rattle.transfer_edges.specs.Edges.{last_of, last_instruction, edge}
use Rattle.transfer_checks.specs.ViolationSets.{violates}
use Rattle.transfer_instructions.specs.Instructions.Steps.{operate}
use Rattle.transfer_instructions.specs.Instructions.StepViolations.{operation_violations}
use Rattle.transfer_system.specs.BoundedRows.OwnRows.{is_own_row}
use Rattle.transfer_system.specs.System.BlockPasses.{edge_end}
use Rattle.transfer_system.specs.System.FlowMachines.{edge_at, is_head_at, start_of, through, flow_machine}
use Rattle.transfer_system.specs.System.SystemChecks.{is_sound_edge, is_few, is_in_order}
use Rattle.diagnose.specs.Diagnostics.AdmittedRules.{instructions_in, instructions_of}
use Rattle.memory_model.specs.Effects.Worlds.{World, Why, Stuck, Reply, goes, stops, world_of, Violation}
use Rattle.memory_model.specs.Effects.UnitStarts.{start_world}
use Rattle.memory_model.specs.Effects.NumberedTables.{put_at, empty_table}
use Rattle.lower_templates.specs.Worklist.Acts.{act, Step}
use Rattle.lower_templates.specs.Views.ProgramViews.{FlowView, flow_view}
use Rattle.semantics.specs.CfgMachine.FlowStates.{ProgramState, FlowRun, running, stopped, found_in}
use Rattle.semantics.specs.CfgMachine.FlowSteps.{block_of, begun, act_step, violations_at, run_by, instruction_step, flow_step, flow_steps}
use Rattle.semantics.specs.CfgMachine.FlowStarts.{first_standing, begun_by, flow_begin}
use Rattle.store_sound.specs.Concretization.Coverage.{state_of}
use Rattle.store_sound.specs.Programs.Premises.{HasPremises}
use Rattle.store_sound.proofs.programs.ShapedBases.{all_at}
use Rattle.transfer_sound.specs.Values.OperandTypes.{HasOperands}
use Rattle.transfer_sound.specs.Values.SoundSteps.{IsReached, InGammaAfter}
use Rattle.transfer_sound.specs.Induction.SoundEnds.{IsDoneIn, StepsGoOnSoundly, EndsGoOnSoundly}
use Rattle.transfer_sound.specs.Induction.Covering.{HasTypedRuns, rows_behind, Admits}
use Rattle.transfer_sound.proofs.induction.Blocks.{IsAt, is_at, block_facts, goes_or_ends, last_is, get_last}
use Rattle.transfer_sound.proofs.induction.GoingOn.{go_on}
use Rattle.struct_copies_sound.specs.Structs.StructTables.{HasStructs}
use Rattle.analysis_sound.specs.Programs.OpenSteps.{SpellsOverCharacters}
use Rattle.transfer_sound.specs.Edges.EdgeSteps.{TestsAreSound}
use Rattle.transfer_exact.specs.Values.SingleSteps.{IsDefined}
use Rattle.transfer_exact.specs.Accesses.TypedAccesses.{HasObjects}
use Rattle.transfer_exact.specs.Edges.WayLaws.{FitsWay, IsWay, TestsAreExact}
use Rattle.transfer_exact.specs.Values.SingleLaws.{HasRight}
use Rattle.run_exact.specs.Runs.SingleRuns.{SwitchesAreApart, IsTypedStep, HasRightOperands, IsNeverStuckAlone, IsSingleProgram, IsSingleRun, IsViolatedAlone, SingleLaws, AdmitOnlyRun, MapsAdmitOnlyRun}
use Rattle.run_exact.proofs.runs.ApartWays.{ways_apart}
use Rattle.run_exact.proofs.runs.BlockEdges.{edge_leads}
use Rattle.transfer_sound.proofs.induction.MapPairs.{admitted_in}
use Rattle.run_exact.proofs.runs.Tables.{listed, listed_length, listed_at, left_from, left_in, left_less}
use Rattle.run_exact.proofs.runs.PassedBlocks.{Table, IsBoth, both, IsClosed, IsPassed, first_at, begun_passed, on_passed, stopped_closed, next, next_else, next_passed}
use Rattle.run_exact.proofs.runs.SingleSteps.{step_told, way_or_stop}
use Rattle.run_exact.proofs.runs.Ways.{way_violates, stop_violates, to_way, way_stuck}

-- ---- violations at a place

push_first : {X : Type 0} (x : X) (xs : List X) → Contains (x ∷ xs) x
push_first x xs = (0, omega arith, refl)

push_later : {X : Type 0} (x y : X) (xs : List X) → Contains xs y → Contains (x ∷ xs) y
push_later x y xs h = Contains-append_right (x ∷ []) xs y h

placed : (place : Place) (rules : List Rule) (r : Rule) → Contains rules r → Contains (violations_at place rules) (record { at = place; rule = r })
placed place [] r h = let a = h.1 in absurd (omega (arith, a))
placed place (x ∷ xs) r (zero, lt, e) = let d : x ≡ r = e in subst (λ z. Contains (violations_at place (x ∷ xs)) (record { at = place; rule = z })) d (push_first (record { at = place; rule = x }) (violations_at place xs))
placed place (x ∷ xs) r (suc k, lt, e) = push_later (record { at = place; rule = x }) (record { at = place; rule = r }) (violations_at place xs) (placed place xs r (k, omega (arith, lt), e))

module _ {I : Type 0} {l : LatticeOf I} {n : IntegersOf I} {gamma : I → ℤ → Type 0} (o : OrderLaws l) (flow : Flow) (list : List ℤ) (limits : Limits) (good : is_well_formed limits flow ≡ true) (p : HasPremises flow)
    (steps_sound : StepsGoOnSoundly l n gamma flow) (ends_sound : EndsGoOnSoundly l n gamma flow limits) (tests_sound : TestsAreSound l n gamma flow)
    (laws : SingleLaws l n gamma flow limits) (tests_told : TestsAreExact l n gamma flow)
    (leaves : (number : ℕ) (row : List (Cell I)) → is_own_row l n list flow.bases.items flow.width row ≡ true → through l n flow list number row ≡ edge_end l n flow (edge_at flow.edges.items number).from number row)
    (owns : (block number : ℕ) (row x : List (Cell I)) → is_own_row l n list flow.bases.items flow.width row ≡ true → edge_end l n flow block number row ≡ Some x → is_own_row l n list flow.bases.items flow.width x ≡ true)
    (start_own : is_own_row l n list flow.bases.items flow.width (start_of l n flow list) ≡ true)
    (structs : HasStructs flow) (texts : SpellsOverCharacters flow) (objects : HasObjects flow) (switches : SwitchesAreApart flow) (u : UnitView) (typed : HasTypedRuns flow u) (rights : HasRightOperands flow u) (unstuck : IsNeverStuckAlone flow u) (single : IsSingleRun flow u) where
  abbrev f : FlowView
  f = flow_view flow

  abbrev run : ℕ → FlowRun
  run count = flow_steps f count (flow_begin u f [])

  -- ---- edges to blocks that are no heads go forward

  no_or : (a b : Bool) → (a || b) ≡ true → b ≡ false → a ≡ true
  no_or true b h e = refl
  no_or false b h e = absurd (true≢false (sym h ∙ e))

  forward : (number : ℕ) (e : Edge) → slice_get flow.edges.items number ≡ Some e → is_head_at flow.blocks.items e.to ≡ false → e.from < e.to
  forward number e is headless =
      let system = well_formed_system limits flow good in
      let a = and_parts (nat_lt 0 (length flow.blocks.items)) _ system in
      let b = and_parts (is_few (length flow.blocks.items)) _ a.1 in
      let c = and_parts (is_few (length flow.edges.items)) _ b.1 in
      let d = and_parts (list_all (is_sound_edge flow.blocks.items) flow.edges.items) (is_in_order 0 flow.edges.items) c.1 in
      let g = all_at (is_sound_edge flow.blocks.items) flow.edges.items number e d.0 is in
      let h = and_parts (nat_lt e.from (length flow.blocks.items)) _ g in
      let k = and_parts (nat_lt e.to (length flow.blocks.items)) (nat_lt e.from e.to || is_head_at flow.blocks.items e.to) h.1 in
      ltb-true e.from e.to (no_or (nat_lt e.from e.to) (is_head_at flow.blocks.items e.to) k.1 headless)

  -- ---- what holds where the run stands, with so many instructions left, and where it has stopped

  -- there are no rows of heads
  abbrev HasNoHeads : Table I → Type 0
  HasNoHeads rows = (c : ℕ) → is_head_at flow.blocks.items c ≡ true → rows c ≡ None

  record GoesOn (r : FlowRun) (left : ℕ) : Type 0 where
    rows : Table I
    b : ℕ
    at : ℕ
    s : ProgramState
    found : List Violation
    is : r ≡ running s found
    block : s.block ≡ b
    stands_at : s.at ≡ at
    passed : IsPassed l n flow gamma list rows b at s found
    heads : HasNoHeads rows
    few : left_from flow.blocks.items b ≤ left + at

  record HasStopped (r : FlowRun) : Type 0 where
    rows : Table I
    closed : IsClosed l n flow gamma list rows (found_in r)
    heads : HasNoHeads rows

  -- ---- one instruction

  module _ (count left : ℕ) (g : GoesOn (run count) (suc left)) where
    stepped_by : (x : Option Step) → slice_get (block_of f g.s.block).steps g.s.at ≡ x → run (suc count) ≡ instruction_step f g.found g.s x
    stepped_by x e = ap (flow_step f) g.is ∙ ap (instruction_step f g.found g.s) e

    module _ (i : Step) (k : IsAt flow g.s.block g.s.at i) (there : slice_get (block_of f g.s.block).steps g.s.at ≡ Some i) where
      abbrev it : Instruction
      it = k.instruction

      abbrev reply : Reply ProgramState
      reply = act_step f (act it.operation) (begun g.s)

      stepped : run (suc count) ≡ run_by g.found it.place reply
      stepped = stepped_by (Some i) there ∙ ap (λ (z : Step). run_by g.found z.at (act_step f z.does (begun g.s))) (sym k.same)

      in_list : slice_get (instructions_of flow g.s.block) g.s.at ≡ Some it
      in_list = ap (λ z. slice_get (instructions_in z) g.s.at) k.block_is ∙ k.is

      here_list : slice_get (instructions_of flow g.b) g.at ≡ Some it
      here_list = subst (λ z. slice_get (instructions_of flow z) g.at ≡ Some it) g.block (subst (λ z. slice_get (instructions_of flow g.s.block) z ≡ Some it) g.stands_at in_list)

      here_block : slice_get flow.blocks.items g.b ≡ Some k.holder
      here_block = subst (λ z. slice_get flow.blocks.items z ≡ Some k.holder) g.block k.block_is

      here_length : length (instructions_of flow g.b) ≡ length k.holder.instructions.items
      here_length = ap (λ z. length (instructions_in z)) here_block

      fits : fits_operation (names_of flow) it.operation ≡ true
      fits = all_at (λ j. fits_operation (names_of flow) j.operation) k.holder.instructions.items g.s.at it (block_facts flow limits good g.s.block k.holder k.block_is).fits k.is

      is_typed : IsTypedStep flow it.operation g.s
      is_typed = single.steps count g.s g.found it g.is in_list

      has_right : HasRight it.operation g.s.temps
      has_right = rights count g.s g.found it g.is in_list

      operands : HasOperands it.operation g.s.temps
      operands = typed [] count g.s g.found it g.is in_list

      done : IsDoneIn flow it.operation
      done = record { block = g.s.block; at = g.s.at; instruction = it; is = in_list; does = refl }

      defined : IsDefined reply
      defined w e = unstuck (suc count) w (g.found ++ violations_at it.place w.violated) (stepped ∙ ap (run_by g.found it.place) e)

      abbrev row : List (Cell I)
      row = g.passed.before.row

      reached : IsReached l n gamma flow g.passed.before.naming row (begun g.s)
      reached = record { long = g.passed.before.long; stands_for = g.passed.before.stands_for; short = g.passed.before.short; begun = refl }

      small : g.b < length flow.blocks.items
      small = below flow.blocks.items g.b k.holder here_block
        where
          below : {X : Type 0} (xs : List X) (j : ℕ) (x : X) → slice_get xs j ≡ Some x → j < length xs
          below [] j x e = cc
          below (y ∷ ys) zero x e = omega arith
          below (y ∷ ys) (suc j) x e = let r = below ys j x e in omega (arith, r)

      abbrev Outcome : Reply ProgramState → Type 0
      Outcome y = GoesOn (run_by g.found it.place y) left ⊎ HasStopped (run_by g.found it.place y)

      goes_out : (on : leads it.operation ≡ On) (y : Reply ProgramState) → reply ≡ y → Outcome y
      goes_out on y e =
          let told = step_told l n gamma flow limits laws p objects structs texts single.plain g.passed.before.naming row g.s reached g.passed.before.tells it.operation on done (single.calls it.operation done) is_typed fits operands has_right defined in
          let sound = steps_sound g.passed.before.naming row (begun g.s) it.operation (on, done) fits operands reached in
          by_reply y e (λ t w d. both l n flow gamma (operate l n flow row it.operation) (record t { world = w }) (sound.goes_on t w d) (told.goes_on t w d)) told.ends (λ r c. subst (λ z. Contains (world_of z).violated r) e (told.violated r c))
        where
          by_reply : (y : Reply ProgramState) → reply ≡ y → ((t : ProgramState) (w : World) → reply ≡ goes t w → IsBoth l n flow gamma (operate l n flow row it.operation) (record t { world = w })) → ((why : Why) (w : World) → reply ≡ stops why w → operate l n flow row it.operation ≡ None) → ((r : Rule) → violates (operation_violations l n flow row it.operation) r ≡ true → Contains (world_of y).violated r) → Outcome y
          by_reply (goes t w) e goes_on ends violated =
              let x = go_on f it.operation (begun g.s) t w on e in
              let few = g.few in
              inl (record {
                rows = g.rows;
                b = g.b;
                at = suc g.at;
                s = record t { world = w };
                found = g.found ++ violations_at it.place w.violated;
                is = refl;
                block = x.block ∙ g.block;
                stands_at = x.at ∙ ap suc g.stands_at;
                passed = on_passed l n flow gamma list g.rows g.b g.at g.s g.found g.passed it here_list (violations_at it.place w.violated) (λ r c. placed it.place w.violated r (violated r c)) (record t { world = w }) (goes_on t w e);
                heads = g.heads;
                few = omega (arith, few);
              })
          by_reply (stops why w) e goes_on ends violated = inr (record {
            rows = g.rows;
            closed = stopped_closed l n flow gamma list g.rows g.b g.at g.s g.found g.passed it here_list (violations_at it.place w.violated) (λ r c. placed it.place w.violated r (violated r c)) leaves small (ends why w e);
            heads = g.heads;
          })

      -- ---- instructions that end their block

      module _ (off : leads it.operation ≡ On → ⊥) where
        last_at : g.s.at + 1 ≡ length k.holder.instructions.items
        last_at = last_is k.holder.instructions.items _ g.s.at it (block_facts flow limits good g.s.block k.holder k.block_is).body k.is off

        last_here : last_instruction flow g.s.block ≡ Some it
        last_here = ap last_of k.block_is ∙ get_last k.holder.instructions.items g.s.at it k.is last_at

        end_here : suc g.at ≡ length (instructions_of flow g.b)
        end_here =
            let a = last_at in
            let b = g.stands_at in
            let c = here_length in
            omega (arith, a, b, c)

        stop_out : it.operation ≡ op.Stop → Outcome reply
        unfolding operate
        stop_out e = by_reply reply refl
          where
            none : operate l n flow row it.operation ≡ None
            none = ap (operate l n flow row) e

            by_reply : (y : Reply ProgramState) → reply ≡ y → Outcome y
            by_reply (goes t w) r = let z : act_step f (act op.Stop) (begun g.s) ≡ goes t w = sym (ap (λ x. act_step f (act x) (begun g.s)) e) ∙ r in cc
            by_reply (stops why w) r = inr (record {
              rows = g.rows;
              closed = stopped_closed l n flow gamma list g.rows g.b g.at g.s g.found g.passed it here_list (violations_at it.place w.violated)
                  (λ r c. placed it.place w.violated r (stop_violates l n flow row w.violated r (subst (λ x. violates (operation_violations l n flow row x) r ≡ true) e c))) leaves small none;
              heads = g.heads;
            })

        way_out : IsWay it.operation → Outcome reply
        way_out is = by_reply reply refl
          where
            by_reply : (y : Reply ProgramState) → reply ≡ y → Outcome y
            by_reply (stops why w) r = absurd (defined w (r ∙ ap (λ z. stops z w) (way_stuck f (begun g.s) it.operation is why w r)))
            by_reply (goes t w) r =
                let told = (laws.ways p (ways_apart flow limits good switches) tests_sound tests_told good g.passed.before.naming row (begun g.s) it last_here is reached g.passed.before.tells defined).goes_on t w r in
                let sound = (ends_sound good g.passed.before.naming row (begun g.s) it last_here off reached).goes_on t w r in
                let way_of : (number : ℕ) (e : Edge) → slice_get flow.edges.items number ≡ Some e → e.from ≡ g.s.block → FitsWay it.operation e.kind = λ number e is_edge from. to_way it.operation is e.kind (edge_leads flow limits good number g.s.block g.s.at e it is_edge from in_list off) in
                let one : sound.number ≡ told.number = elim (cases_eq sound.number told.number) [
                  | inl same ↦ same
                  | inr ne ↦ (let none = told.others sound.number sound.taken sound.is sound.leaves (way_of sound.number sound.taken sound.is sound.leaves) ne in let some = sound.behind.is in let z = sym none ∙ some in absurd (no_some z))
                ] in
                let e : Edge = told.taken in
                let from : e.from ≡ g.b = told.leaves ∙ g.block in
                let taken : sound.taken ≡ e = same_Some sound.taken e (sym sound.is ∙ (ap (slice_get flow.edges.items) one ∙ told.is)) in
                let h = both l n flow gamma (edge l n flow row told.number) (record t { world = w }) (subst (λ z. InGammaAfter l n gamma flow (edge l n flow row z) (record t { world = w })) one sound.behind) told.behind in
                let apart : (other : ℕ) (d : Edge) → slice_get flow.edges.items other ≡ Some d → d.from ≡ g.b → (other ≡ told.number → ⊥) → edge l n flow row other ≡ None = λ other d is_edge leaving ne. told.others other d is_edge (leaving ∙ sym g.block) (way_of other d is_edge (leaving ∙ sym g.block)) ne in
                let head : is_head_at flow.blocks.items e.to ≡ false = ap (is_head_at flow.blocks.items) (sym told.enters) ∙ single.headless (suc count) (record t { world = w }) (g.found ++ violations_at it.place w.violated) (stepped ∙ ap (run_by g.found it.place) r) in
                let ahead = forward told.number e told.is head in
                let all = left_in flow.blocks.items g.b k.holder here_block in
                let less = left_less flow.blocks.items (suc g.b) e.to (omega (arith, from, ahead)) in
                let few = g.few in
                let end = end_here in
                let long = here_length in
                inl (record {
                  rows = next l n flow gamma list g.rows g.b g.at g.s g.found g.passed it here_list (violations_at it.place w.violated) (λ r c. placed it.place w.violated r (way_violates l n flow row it.operation is w.violated r c)) leaves o end_here sound.stays told.number e told.is from ahead (record t { world = w }) h apart owns;
                  b = e.to;
                  at = 0;
                  s = record t { world = w };
                  found = g.found ++ violations_at it.place w.violated;
                  is = refl;
                  block = told.enters;
                  stands_at = sound.starts;
                  heads = λ c is_head. next_else l n flow gamma list g.rows g.b g.at g.s g.found g.passed it here_list (violations_at it.place w.violated) (λ r c. placed it.place w.violated r (way_violates l n flow row it.operation is w.violated r c)) leaves o end_here sound.stays told.number e told.is from ahead (record t { world = w }) h apart owns c
                      (λ same. true≢false (sym is_head ∙ (ap (is_head_at flow.blocks.items) same ∙ head))) ∙ g.heads c is_head;
                  passed = next_passed l n flow gamma list g.rows g.b g.at g.s g.found g.passed it here_list (violations_at it.place w.violated) (λ r c. placed it.place w.violated r (way_violates l n flow row it.operation is w.violated r c)) leaves o end_here sound.stays told.number e told.is from ahead (record t { world = w }) h apart owns;
                  few = omega (arith, all, less, few, end, long);
                })
              where
                no_some : {A : Type 0} {x : A} → None ≡ Some x → ⊥
                no_some e = cc

        ends_out : Outcome reply
        ends_out = elim (way_or_stop it.operation (single.calls it.operation done) off) [ inl is ↦ way_out is | inr e ↦ stop_out e ]

      out : Outcome reply
      out = elim (goes_or_ends it) [ inl on ↦ goes_out on reply refl | inr off ↦ ends_out off ]

      step_out : GoesOn (run (suc count)) left ⊎ HasStopped (run (suc count))
      step_out = subst (λ z. GoesOn z left ⊎ HasStopped z) (sym stepped) out

    one_step : GoesOn (run (suc count)) left ⊎ HasStopped (run (suc count))
    one_step = by_step (slice_get (block_of f g.s.block).steps g.s.at) refl
      where
        by_step : (x : Option Step) → slice_get (block_of f g.s.block).steps g.s.at ≡ x → GoesOn (run (suc count)) left ⊎ HasStopped (run (suc count))
        by_step None e = absurd (unstuck (suc count) g.s.world g.found (stepped_by None e))
        by_step (Some i) e = step_out i (is_at flow g.s.block g.s.at i e) e

  -- ---- all instructions

  record HasEnd : Type 0 where
    count : ℕ
    ended : HasStopped (run count)

  to_end : (left count : ℕ) → GoesOn (run count) left → HasEnd
  to_end zero count g = absurd (by_step (slice_get (block_of f g.s.block).steps g.s.at) refl)
    where
      by_step : (x : Option Step) → slice_get (block_of f g.s.block).steps g.s.at ≡ x → ⊥
      by_step None e = unstuck (suc count) g.s.world g.found (ap (flow_step f) g.is ∙ ap (instruction_step f g.found g.s) e)
      by_step (Some i) e =
          let k = is_at flow g.s.block g.s.at i e in
          let all = left_in flow.blocks.items g.s.block k.holder k.block_is in
          let few = g.few in
          let b = g.block in
          let at = g.stands_at in
          let same : left_from flow.blocks.items g.b ≡ left_from flow.blocks.items g.s.block = ap (left_from flow.blocks.items) (sym b) in
          let small = below k.holder.instructions.items g.s.at k.instruction k.is in
          absurd (omega (arith, all, few, at, same, small))
        where
          below : {X : Type 0} (xs : List X) (j : ℕ) (x : X) → slice_get xs j ≡ Some x → j < length xs
          below [] j x e = cc
          below (y ∷ ys) zero x e = omega arith
          below (y ∷ ys) (suc j) x e = let r = below ys j x e in omega (arith, r)
  to_end (suc left) count g = elim (one_step count left g) [ inl on ↦ to_end left (suc count) on | inr h ↦ record { count = suc count; ended = h } ]

  record IsFirst (s : ProgramState) : Type 0 where
    block : s.block ≡ 0
    at : s.at ≡ 0

  first_is : (reply : Reply (Unit {0})) (s : ProgramState) → begun_by u f reply ≡ running s [] → IsFirst s
  first_is (goes v w) s e = let a : first_standing u f w ≡ s = cc in record { block = ap (λ z. z.block) (sym a); at = ap (λ z. z.at) (sym a) }
  first_is (stops why w) s e = cc

  module _ (begin : ProgramState) (begins : flow_begin u f [] ≡ running begin []) (start : IsBoth l n flow gamma (Some (start_of l n flow list)) begin) where
    first : GoesOn (run 0) (left_from flow.blocks.items 0)
    first =
        let a = first_is (start_world u []) begin begins in
        record {
          rows = put_at empty_table 0 (start_of l n flow list);
          b = 0;
          at = 0;
          s = begin;
          found = [];
          is = begins;
          block = a.block;
          stands_at = a.at;
          passed = begun_passed l n flow gamma list o start_own begin start;
          heads = λ c is_head. first_at l n flow gamma list (start_of l n flow list) c (λ same. true≢false (sym is_head ∙ (ap (is_head_at flow.blocks.items) (same ∙ sym a.block) ∙ single.headless 0 begin [] begins)));
          few = omega arith;
        }

    end : HasEnd
    end = to_end (left_from flow.blocks.items 0) 0 first

    module _ (rows : Table I) (c : IsClosed l n flow gamma list rows (found_in (run end.count))) (heads : HasNoHeads rows) where
      map : List (Option (List (Cell I)))
      map = listed rows (length flow.blocks.items)

      map_at : (b : ℕ) → row_at map b ≡ rows b
      unfolding map
      map_at b = listed_at rows (length flow.blocks.items) c.beyond b

      inductive : IsInductive (cell_lattice l) (flow_machine l n flow list) map
      unfolding map
      inductive = record {
        size = listed_length rows (length flow.blocks.items);
        own = λ b. subst (λ z. IsOwn (flow_machine l n flow list) z) (sym (map_at b)) (c.own b);
        entry = subst (λ z. reached_leq (cell_lattice l) (Some (start_of l n flow list)) z ≡ true) (sym (map_at 0)) c.entry;
        edge = λ e lt. subst (λ z. reached_leq (cell_lattice l) (step (flow_machine l n flow list) e z) (row_at map (edge_at flow.edges.items e).to) ≡ true) (sym (map_at (edge_at flow.edges.items e).from))
            (subst (λ z. reached_leq (cell_lattice l) (step (flow_machine l n flow list) e (rows (edge_at flow.edges.items e).from)) z ≡ true) (sym (map_at (edge_at flow.edges.items e).to)) (c.edges e lt));
        rounded = λ b head. subst (λ z. IsRoundedOrNone (cell_lattice l) (flow_machine l n flow list) z) (sym (map_at b ∙ heads b head)) (tt {0});
      }

      admitted_alone : (place : Place) (rule : Rule) → Admits l n flow map place rule → IsViolatedAlone flow u place rule
      admitted_alone place rule h =
          let a = admitted_in l n flow map place rule h in
          record { count = end.count; there = subst (λ z. Contains (found_in (run end.count)) (record { at = z; rule = rule })) a.place (c.all a.block a.at a.instruction a.row rule a.there (ap (λ z. rows_behind l n flow z (take a.at (instructions_of flow a.block))) (sym (map_at a.block)) ∙ a.before) a.breaks) }

    pub admits_only_run : AdmitOnlyRun l n flow list u
    admits_only_run place rule h = admitted_alone end.ended.rows end.ended.closed end.ended.heads place rule (h (map end.ended.rows end.ended.closed end.ended.heads) (inductive end.ended.rows end.ended.closed end.ended.heads))

-- where there are no heads, the run enters none
pub run_of : {flow : Flow} {u : UnitView} → IsSingleProgram flow u → IsSingleRun flow u
run_of single = record { plain = single.plain; parameters = single.parameters; calls = single.calls; headless = λ count s found e. single.headless s.block; steps = single.steps }

pub maps_admit : {I : Type 0} {l : LatticeOf I} {n : IntegersOf I} {gamma : I → ℤ → Type 0} → OrderLaws l → (flow : Flow) (list : List ℤ) (limits : Limits) → MapsAdmitOnlyRun l n gamma flow list limits
maps_admit {l = l} {n = n} {gamma = gamma} o flow list limits s switches u typed rights unstuck single first begins behind tells =
    admits_only_run o flow list limits s.good s.premises s.steps s.ends s.sound s.laws s.told s.leaves s.owns s.start s.structs s.texts s.objects switches u typed rights unstuck single first begins
    (both l n flow gamma (Some (start_of l n flow list)) first behind (record { row = start_of l n flow list; is = refl; tells = tells }))
