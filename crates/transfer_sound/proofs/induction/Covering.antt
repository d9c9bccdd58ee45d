-- Each run is covered, by induction over its steps.
use Rattle.std.proofs.Common.{◌≡◌, ℕ, zero, suc, ◌+◌, Option, Some, None, List, [], ◌∷◌, length, take, arith, subst, sym, refl, ap, ◌∙◌, inl, inr}
use Rattle.std.specs.Prelude.{slice_get, ℤ, true}
use Rattle.std.specs.List.{Contains}
use Rattle.std.proofs.lemmas.List.Elements.{Contains-append_cases, Contains-append_left, Contains-append_right, Contains-push, at_from_Contains}
use Rattle.cc_base.specs.InductiveMap.{row_at}
use Rattle.cc_base.specs.Lattices.{LatticeOf}
use Rattle.cc_base.specs.IntegerDomains.{IntegersOf}
use Rattle.cc_base.specs.declared.diagnostics.Place.{Place}
use Rattle.cc_base.specs.declared.diagnostics.Rule.{Rule}
use Rattle.cc_base.specs.declared.limit_table.Limits.{Limits}
use Rattle.c_layout.specs.CheckedUnits.{UnitView}
use Rattle.cfg.specs.WellFormed.{names_of, On, leads, fits_operation, is_well_formed}
use Rattle.cfg.specs.declared.machine_instructions.Instruction.{Instruction}
use Rattle.cfg.specs.declared.programs.Flow.{Flow}
use Rattle.value_domain.specs.declared.values.row_cells.Cell.{Cell}
use Rattle.transfer_system.specs.Edges.{last_of, last_instruction}
use Rattle.transfer_system.specs.Steps.{operate}
use Rattle.row_bounds.specs.AdmittedRules.{instructions_in, instructions_of, row_behind}
use Rattle.memory_model.specs.Effects.Worlds.{World, Reply, goes, stops, world_of, Violation}
use Rattle.lower_templates.specs.Worklist.Acts.{act, Step}
use Rattle.lower_templates.specs.Views.ProgramViews.{FlowView, flow_view}
use Rattle.semantics.specs.CfgMachine.FlowStates.{ProgramState, FlowRun, running, stopped, found_in}
use Rattle.semantics.specs.CfgMachine.FlowSteps.{block_of, begun, act_step, violations_at, run_by, instruction_step, flow_step, flow_steps}
use Rattle.semantics.specs.CfgMachine.FlowStarts.{first_standing, begun_by, flow_begin}
use Rattle.memory_model.specs.Effects.UnitStarts.{start_world}
use Rattle.store_sound.specs.Concretization.ValueMeaning.{Naming}
use Rattle.store_sound.specs.Concretization.RowMeaning.{InGamma}
use Rattle.store_sound.specs.Concretization.Coverage.{state_of, EachRunIsCovered}
use Rattle.store_sound.proofs.programs.ShapedBases.{all_at}
use Rattle.transfer_sound.specs.Values.OperandTypes.{HasOperands}
use Rattle.transfer_sound.specs.Values.SoundSteps.{AreShort, IsReached, InGammaAfter}
use Rattle.transfer_sound.specs.Induction.SoundEnds.{StepsGoOnSoundly, EndsGoOnSoundly}
use Rattle.transfer_sound.specs.Induction.Covering.{rows_behind, row_before, Admits, Begins, Carries, HasTypedRuns, TypesOperands}
use Rattle.transfer_sound.proofs.induction.AdmittedPairs.{cons_cases, map_admits}
use Rattle.transfer_sound.proofs.induction.Blocks.{IsAt, is_at, block_facts, goes_or_ends, last_is, get_last}
use Rattle.transfer_sound.proofs.induction.GoingOn.{go_on}

-- ---- violations at a place

-- one of the rules, at the place
record IsOneOf (place : Place) (rules : List Rule) (v : Violation) : Type 0 where
  rule : Rule
  among : Contains rules rule
  same : record { at = place; rule = rule } ≡ v

one_of : (place : Place) (rules : List Rule) (v : Violation) → Contains (violations_at place rules) v → IsOneOf place rules v
one_of place [] v h = let a = at_from_Contains [] v h in let b = a.1 in absurd (omega (arith, b))
one_of place (r ∷ rules) v h = elim (cons_cases (record { at = place; rule = r }) v (violations_at place rules) h) [
  | inl e ↦ record { rule = r; among = Contains-append_left (r ∷ []) rules r (Contains-push [] r); same = e }
  | inr k ↦ (let x = one_of place rules v k in record { rule = x.rule; among = Contains-append_right (r ∷ []) rules x.rule x.among; same = x.same })
]

module _ {I : Type 0} (l : LatticeOf I) (n : IntegersOf I) (gamma : I → ℤ → Type 0) (flow : Flow) where
  abbrev f : FlowView
  f = flow_view flow

  -- the row behind one instruction more
  one_behind : (reached : Option (List (Cell I))) (is : List Instruction) (k : ℕ) (i : Instruction) (row : List (Cell I)) → slice_get is k ≡ Some i → rows_behind l n flow reached (take k is) ≡ Some row → rows_behind l n flow reached (take (suc k) is) ≡ operate l n flow row i.operation
  one_behind reached [] k i row e h = cc
  one_behind reached (x ∷ xs) zero i row e h = let d : x ≡ i = cc in ap (λ z. row_behind l n flow z reached) d ∙ ap (row_behind l n flow i) h
  one_behind reached (x ∷ xs) (suc k) i row e h = one_behind (row_behind l n flow x reached) xs k i row e h

  -- operands are such as their instructions suppose where a run stands for which the row there does
  abbrev OperandsAt : UnitView → List (Option (List (Cell I))) → Type 0
  OperandsAt u rows = (draws : List ℤ) (count : ℕ) (s : ProgramState) (found : List Violation) → flow_steps f count (flow_begin u f draws) ≡ running s found → (naming : Naming) (row : List (Cell I)) (i : Instruction) → slice_get (instructions_of flow s.block) s.at ≡ Some i → row_before l n flow rows s.block s.at ≡ Some row → InGamma l n gamma flow naming row (state_of s) → HasOperands i.operation s.temps

  module _ (limits : Limits) (good : is_well_formed limits flow ≡ true) (steps_sound : StepsGoOnSoundly l n gamma flow) (ends_sound : EndsGoOnSoundly l n gamma flow limits) (u : UnitView) (rows : List (Option (List (Cell I)))) (begins : Begins l n gamma flow u rows) (carries : Carries l n gamma flow rows) (operands_at : OperandsAt u rows) where
    -- what holds where a run stands
    record IsHere (s : ProgramState) : Type 0 where
      row : List (Cell I)
      naming : Naming
      before : row_before l n flow rows s.block s.at ≡ Some row
      long : length row ≡ flow.width
      stands_for : InGamma l n gamma flow naming row (state_of s)
      short : AreShort flow.model s.world.memory

    record IsGood (r : FlowRun) : Type 0 where
      here : (s : ProgramState) (found : List Violation) → r ≡ running s found → IsHere s
      all : (v : Violation) → Contains (found_in r) v → Admits l n flow rows v.at v.rule

    -- ---- at the start of a block

    at_start : (s : ProgramState) (b : ℕ) → s.block ≡ b → s.at ≡ 0 → InGammaAfter l n gamma flow (row_at rows b) s → IsHere s
    at_start s b block at h = record {
      row = h.row;
      naming = h.naming;
      before = ap (λ z. row_before l n flow rows z s.at) block ∙ (ap (row_before l n flow rows b) at ∙ h.is);
      long = h.long;
      stands_for = h.stands_for;
      short = h.short;
    }

    record IsFirst (s : ProgramState) (found : List Violation) : Type 0 where
      block : s.block ≡ 0
      at : s.at ≡ 0
      none : found ≡ []

    first_is : (reply : Reply (Unit {0})) (s : ProgramState) (found : List Violation) → begun_by u f reply ≡ running s found → IsFirst s found
    first_is (goes v w) s found e = let a : first_standing u f w ≡ s = cc in record { block = ap (λ z. z.block) (sym a); at = ap (λ z. z.at) (sym a); none = cc }
    first_is (stops why w) s found e = cc

    none_found : (reply : Reply (Unit {0})) → found_in (begun_by u f reply) ≡ []
    none_found (goes v w) = refl
    none_found (stops why w) = refl

    start_good : (draws : List ℤ) → IsGood (flow_begin u f draws)
    start_good draws = record {
      here = λ s found e. let k = first_is (start_world u draws) s found e in at_start s 0 k.block k.at (begins draws s (e ∙ ap (running s) k.none));
      all = λ v h. let c : Contains {X = Violation} [] v = subst (λ z. Contains z v) (none_found (start_world u draws)) h in let a = at_from_Contains [] v c in let b = a.1 in absurd (omega (arith, b));
    }

    -- ---- behind a step

    replied : (found : List Violation) (place : Place) (reply : Reply ProgramState) → ((t : ProgramState) (w : World) → reply ≡ goes t w → IsHere (record t { world = w })) → ((r : Rule) → Contains (world_of reply).violated r → Admits l n flow rows place r) → ((v : Violation) → Contains found v → Admits l n flow rows v.at v.rule) → IsGood (run_by found place reply)
    replied found place (goes t w) h told all = record {
      here = λ s more e. let a : record t { world = w } ≡ s = cc in subst IsHere a (h t w refl);
      all = λ v c. elim (Contains-append_cases found (violations_at place w.violated) v c) [
        | inl k ↦ all v k
        | inr k ↦ (let x = one_of place w.violated v k in subst (λ z. Admits l n flow rows z.at z.rule) x.same (told x.rule x.among))
      ];
    }
    replied found place (stops why w) h told all = record {
      here = λ s more e. cc;
      all = λ v c. elim (Contains-append_cases found (violations_at place w.violated) v c) [
        | inl k ↦ all v k
        | inr k ↦ (let x = one_of place w.violated v k in subst (λ z. Admits l n flow rows z.at z.rule) x.same (told x.rule x.among))
      ];
    }

    module _ (s : ProgramState) (found : List Violation) (run : IsGood (running s found)) (operands : (i : Instruction) → slice_get (instructions_of flow s.block) s.at ≡ Some i → HasOperands i.operation s.temps) (i : Step) (k : IsAt flow s.block s.at i) where
      abbrev it : Instruction
      it = k.instruction

      here : IsHere s
      here = run.here s found refl

      reached : IsReached l n gamma flow here.naming here.row (begun s)
      reached = record { long = here.long; stands_for = here.stands_for; short = here.short; begun = refl }

      in_list : slice_get (instructions_of flow s.block) s.at ≡ Some it
      in_list = ap (λ z. slice_get (instructions_in z) s.at) k.block_is ∙ k.is

      fits : fits_operation (names_of flow) it.operation ≡ true
      fits = all_at (λ j. fits_operation (names_of flow) j.operation) k.holder.instructions.items s.at it (block_facts flow limits good s.block k.holder k.block_is).fits k.is

      one_more : row_before l n flow rows s.block (suc s.at) ≡ operate l n flow here.row it.operation
      one_more = one_behind (row_at rows s.block) (instructions_of flow s.block) s.at it here.row in_list here.before

      goes_good : (leads_on : leads it.operation ≡ On) → IsGood (run_by found it.place (act_step f (act it.operation) (begun s)))
      goes_good on =
          let law = steps_sound here.naming here.row (begun s) it.operation (on, record { block = s.block; at = s.at; instruction = it; is = in_list; does = refl }) fits (operands it in_list) reached in
          replied found it.place (act_step f (act it.operation) (begun s))
          (λ t w e.
          let b = law.goes_on t w e in
          let x = go_on f it.operation (begun s) t w on e in
          record {
            row = b.row;
            naming = b.naming;
            before = ap (λ z. row_before l n flow rows z t.at) x.block ∙ (ap (row_before l n flow rows s.block) x.at ∙ (one_more ∙ b.is));
            long = b.long;
            stands_for = b.stands_for;
            short = b.short;
          })
          (λ r c. map_admits l n flow rows s.block s.at it here.row r in_list here.before (law.admits r c))
          run.all

      is_last : (leads it.operation ≡ On → ⊥) → s.at + 1 ≡ length (instructions_of flow s.block)
      is_last off =
          let body = (block_facts flow limits good s.block k.holder k.block_is).body in
          let h = last_is k.holder.instructions.items _ s.at it body k.is off in
          let same : length (instructions_of flow s.block) ≡ length k.holder.instructions.items = ap (λ z. length (instructions_in z)) k.block_is in
          omega (arith, h, same)

      last_here : (leads it.operation ≡ On → ⊥) → last_instruction flow s.block ≡ Some it
      last_here off =
          let body = (block_facts flow limits good s.block k.holder k.block_is).body in
          ap last_of k.block_is ∙ get_last k.holder.instructions.items s.at it k.is (last_is k.holder.instructions.items _ s.at it body k.is off)

      ends_good : (leads it.operation ≡ On → ⊥) → IsGood (run_by found it.place (act_step f (act it.operation) (begun s)))
      ends_good off =
          let law = ends_sound good here.naming here.row (begun s) it (last_here off) off reached in
          replied found it.place (act_step f (act it.operation) (begun s))
          (λ t w e.
          let b = law.goes_on t w e in
          let last = is_last off in
          let end : length (instructions_of flow s.block) ≡ suc s.at = omega (arith, last) in
          let before : row_before l n flow rows b.taken.from (length (instructions_of flow b.taken.from)) ≡ Some here.row =
          ap (λ z. row_before l n flow rows z (length (instructions_of flow z))) b.leaves ∙ (ap (row_before l n flow rows s.block) end ∙ (one_more ∙ b.stays)) in
          at_start (record t { world = w }) b.taken.to b.enters b.starts (carries b.number b.taken here.row (record t { world = w }) b.is before b.behind))
          (λ r c. map_admits l n flow rows s.block s.at it here.row r in_list here.before (law.admits r c))
          run.all

      instruction_good : IsGood (run_by found it.place (act_step f (act it.operation) (begun s)))
      instruction_good = elim (goes_or_ends it) [ inl on ↦ goes_good on | inr off ↦ ends_good off ]

      step_is_good : IsGood (instruction_step f found s (Some i))
      step_is_good = subst (λ z. IsGood (run_by found z.at (act_step f z.does (begun s)))) k.same instruction_good

    step_at : (s : ProgramState) (found : List Violation) → IsGood (running s found) → ((i : Instruction) → slice_get (instructions_of flow s.block) s.at ≡ Some i → HasOperands i.operation s.temps) → (o : Option Step) → slice_get (block_of f s.block).steps s.at ≡ o → IsGood (instruction_step f found s o)
    step_at s found run operands None e = record { here = λ t more h. cc; all = run.all }
    step_at s found run operands (Some i) e = step_is_good s found run operands i (is_at flow s.block s.at i e)

    step_run : (draws : List ℤ) (count : ℕ) (r : FlowRun) → flow_steps f count (flow_begin u f draws) ≡ r → IsGood r → IsGood (flow_step f r)
    step_run draws count (running s found) e run = step_at s found run (λ i h. let k = run.here s found refl in operands_at draws count s found e k.naming k.row i h k.before k.stands_for) (slice_get (block_of f s.block).steps s.at) refl
    step_run draws count (stopped why w found) e run = run

    steps_good : (draws : List ℤ) (count : ℕ) → IsGood (flow_steps f count (flow_begin u f draws))
    steps_good draws zero = start_good draws
    steps_good draws (suc count) = step_run draws count (flow_steps f count (flow_begin u f draws)) refl (steps_good draws count)

    good_covered : EachRunIsCovered l n gamma flow (row_before l n flow rows) (Admits l n flow rows) u
    good_covered draws count =
        let r = steps_good draws count in
        record { here = λ s found e. let h = r.here s found e in record { row = h.row; naming = h.naming; before = h.before; stands_for = h.stands_for }; all = r.all }

  module _ (limits : Limits) (good : is_well_formed limits flow ≡ true) (steps_sound : StepsGoOnSoundly l n gamma flow) (ends_sound : EndsGoOnSoundly l n gamma flow limits) (u : UnitView) (rows : List (Option (List (Cell I)))) (begins : Begins l n gamma flow u rows) (carries : Carries l n gamma flow rows) where
    pub runs_covered : HasTypedRuns flow u → EachRunIsCovered l n gamma flow (row_before l n flow rows) (Admits l n flow rows) u
    runs_covered typed = good_covered limits good steps_sound ends_sound u rows begins carries (λ draws count s found e naming row i h before there. typed draws count s found i e h)

    pub runs_covered_by_rows : TypesOperands l n gamma flow rows → EachRunIsCovered l n gamma flow (row_before l n flow rows) (Admits l n flow rows) u
    runs_covered_by_rows types = good_covered limits good steps_sound ends_sound u rows begins carries (λ draws count s found e naming row i h before there. types naming row s i h before there)

    pub runs_typed_by_rows : TypesOperands l n gamma flow rows → HasTypedRuns flow u
    runs_typed_by_rows types draws count s found i e h =
        let there = (runs_covered_by_rows types draws count).here s found e in
        types there.naming there.row s i h there.before there.stands_for
