-- A step of templates is one of the program in which they are laid out, or none, or a jump to a label.
use Rattle.std.proofs.Common.{◌≡◌, ◌<◌, ◌≤◌, ◌⊎◌, inl, inr, ℕ, zero, suc, ◌+◌, ◌-◌, ℤ, pos, Bool, true, false, cond, nat_lt, List, [], ◌∷◌, ◌++◌, Option, Some, None, refl, arith, ap, sym, subst, ◌∙◌}
use Rattle.std.proofs.lemmas.Bool.{ltb-true, ltb-false}
use Rattle.std.proofs.lemmas.List.{append-nil}
use Rattle.cc_base.specs.declared.diagnostics.Place.{Place}
use Rattle.cc_base.specs.declared.diagnostics.Rule.{Rule}
use Rattle.memory_model.specs.Memory.Instances.{Memory}
use Rattle.memory_model.specs.Memory.Labels.{no_labels}
use Rattle.memory_model.specs.Memory.Scalars.{Scalar, integer}
use Rattle.memory_model.specs.Effects.NumberedTables.{empty_table}
use Rattle.memory_model.specs.Effects.UnitStarts.{entry_parameters, start_world}
use Rattle.memory_model.specs.Effects.Worlds.{World, Reply, goes, stops, Violation}
use Rattle.lower_templates.specs.Worklist.Acts as acts
use Rattle.lower_templates.specs.Worklist.Acts.{Act, Step}
use Rattle.lower_templates.specs.Worklist.Pieces.{PieceView, DoIfUsed, Call, Always}
use Rattle.lower_templates.specs.declared.worklist.template_pieces.OwnCall.{OwnCall}
use Rattle.lower_templates.specs.Views.ProgramViews.{FlowView}
use Rattle.semantics.specs.CfgMachine.FlowStates as flow
use Rattle.semantics.specs.CfgMachine.FlowStates.{FlowRun}
use Rattle.semantics.specs.CfgMachine.FlowEdges.{edge_taken}
use Rattle.semantics.specs.CfgMachine.FlowEdges as edges
use Rattle.semantics.specs.CfgMachine.FlowSteps as flow_runs
use Rattle.semantics.specs.CfgMachine.FlowSteps.{act_step, flow_step, flow_steps}
use Rattle.semantics.specs.CfgMachine.FlowStarts as starts
use Rattle.semantics.specs.CfgMachine.FlowStarts.{flow_begin}
use Rattle.semantics.specs.SourceMachine.SourceRuns as source
use Rattle.semantics.specs.TemplateMachine.TemplateStates as template
use Rattle.semantics.specs.TemplateMachine.TemplateStates.{Templates, Frame, TemplateRun}
use Rattle.semantics.specs.TemplateMachine.TemplateActs as template_acts
use Rattle.semantics.specs.TemplateMachine.TemplateSteps as runs
use Rattle.semantics.specs.TemplateMachine.TemplateSteps.{from_temp, up_to, next, steps_from, template_begin}
use Rattle.simulation_layout.specs.InlinedLayout.Shifts.{shifted}
use Rattle.simulation_layout.specs.InlinedLayout.Copies.{Inlined, Copy, IsCopy, AllApart}
use Rattle.simulation_layout.specs.InlinedLayout.Layouts as laid
use Rattle.simulation_layout.specs.InlinedLayout.Layouts.{Laid, IsPut, Stands, IsAutomatic, IsLaidOut, edges_at}
use Rattle.simulation_layout.specs.InlinedLayout.LaidRuns.{templates, of_unit, HasLeft, LeavesAll, AgreeUnlessStuck}
use Rattle.simulation_layout.proofs.inlined_layout.ShiftedValues.{Held}
use Rattle.simulation_layout.proofs.inlined_layout.Standings.{Names, Waiting, none, one, IsActive, Tables, Around, Related, related, Both, both_run, both_stopped, stuck, world, std, prog}
use Rattle.simulation_layout.proofs.inlined_layout.LaidObjects.{acted}
use Rattle.simulation_layout.proofs.inlined_layout.LaidEdges.{ended}

module _ (o : Inlined) (entry : Copy) (out : IsLaidOut o entry) where
  abbrev first : Templates
  first = templates o

  abbrev second : FlowView
  second = of_unit o.unit o.program

  record Next (a : TemplateRun) (b : FlowRun) : Type 0 where
    steps : ℕ
    both : Both o a (flow_steps second steps b)

  -- ---- calls

  not_active : (b slot : ℕ) (d : Copy) (cs : List Copy) → AllApart d cs → d.locals slot ≡ Some b → IsActive o b cs → ⊥
  not_active b slot d [] apart is active = active
  not_active b slot d (c ∷ cs) (here, apart) is (inl there) = here slot there.0 b is there.1
  not_active b slot d (c ∷ cs) (here, apart) is (inr active) = not_active b slot d cs apart is active

  -- the objects of a copy that begins name nothing
  none_named : (d : Copy) (cs : List Copy) (bases : ℕ → Option ℕ) → IsCopy o d → AllApart d cs → Tables o bases cs → Names o d empty_table bases
  none_named d cs bases is_copy apart tables slot b is =
      let x = is_copy.are_locals slot b is in
      by (tables.others b (record { info = x.info; there = x.there; is_automatic = x.is_automatic }))
    where
      by : (bases b ≡ None) ⊎ IsActive o b cs → bases b ≡ None
      by (inl nothing_there) = nothing_there
      by (inr active) = absurd (not_active b slot d cs apart is active)

  more_tables : (d : Copy) (cs : List Copy) (bases : ℕ → Option ℕ) → Tables o bases cs → Tables o bases (d ∷ cs)
  more_tables d cs bases t = record { objects = t.objects; literals = t.literals; others = λ b automatic. by b (t.others b automatic) }
    where
      by : (b : ℕ) → (bases b ≡ None) ⊎ IsActive o b cs → (bases b ≡ None) ⊎ IsActive o b (d ∷ cs)
      by b (inl nothing_there) = inl nothing_there
      by b (inr active) = inr (inr active)

  -- what a copy that is left named has ended
  less_tables : (c : Copy) (cs : List Copy) (names bases : ℕ → Option ℕ) → Names o c names bases → ((slot : ℕ) → names slot ≡ None) → Tables o bases (c ∷ cs) → Tables o bases cs
  less_tables c cs names bases named left t = record { objects = t.objects; literals = t.literals; others = λ b automatic. by b (t.others b automatic) }
    where
      by : (b : ℕ) → (bases b ≡ None) ⊎ IsActive o b (c ∷ cs) → (bases b ≡ None) ⊎ IsActive o b cs
      by b (inl nothing_there) = inl nothing_there
      by b (inr (inl here)) = inl (named here.0 b here.1 ∙ left here.0)
      by b (inr (inr active)) = inr active

  held_inside : (deep c_depth d_depth : ℕ) (temps all : ℕ → Option Scalar) → d_depth ≡ deep + c_depth → Held c_depth temps all → Held d_depth (from_temp deep temps) all
  held_inside deep c_depth d_depth temps all e held k = held (deep + k) ∙ ap all (is deep k c_depth d_depth e)
    where
      is : (deep k n m : ℕ) → m ≡ deep + n → deep + k + n ≡ k + m
      is deep k n m e = omega (arith, e)

  held_outside : (deep c_depth d_depth : ℕ) (own temps all : ℕ → Option Scalar) → c_depth ≡ deep + d_depth → ((k : ℕ) → k < deep → own k ≡ all (k + d_depth)) → Held c_depth temps all → Held d_depth (up_to deep own temps) all
  held_outside deep c_depth d_depth own temps all e before held k = by (nat_lt k deep) refl
    where
      is : (deep k n m : ℕ) → n ≡ deep + m → deep ≤ k → k - deep + n ≡ k + m
      is deep k n m e le = omega (arith, e, le)

      by : (b : Bool) → nat_lt k deep ≡ b → elim b as (λ _. Option Scalar) [ true ↦ own k | false ↦ temps (k - deep) ] ≡ all (k + d_depth)
      by true less = before k (ltb-true k deep less)
      by false le = held (k - deep) ∙ ap all (is deep k c_depth d_depth e (ltb-false k deep le))

  -- ---- one step

  module _ (memory : Memory) (draws : List ℤ) (old new : List Rule) (found also : List Violation) (equal : found ≡ also) where
    abbrev calmed : World
    calmed = world o memory draws []

    abbrev of_program : ℕ → ℕ → (ℕ → Option Scalar) → (ℕ → Option ℕ) → FlowRun
    of_program block at all bases = flow.running (prog o block at all bases (world o memory draws new)) also

    -- an instruction that stands there is the step of the program
    one_step : (a : TemplateRun) (block at : ℕ) (all : ℕ → Option Scalar) (bases : ℕ → Option ℕ) (i : Step) → Stands o block at i → Both o a (flow_runs.run_by also i.at (act_step second i.does (prog o block at all bases calmed))) → Next a (of_program block at all bases)
    one_step a block at all bases i stands both = record { steps = 1; both = subst (λ x. Both o a (flow_runs.instruction_step second also (prog o block at all bases (world o memory draws new)) x)) (sym stands) both }

    still : found ++ [] ≡ also
    still = append-nil found ∙ equal

    no_step : (s : template.TemplateState) (block at : ℕ) (all : ℕ → Option Scalar) (bases : ℕ → Option ℕ) → Related o s (prog o block at all bases (world o memory draws new)) → Next (template.running s (found ++ [])) (of_program block at all bases)
    no_step s block at all bases r = record { steps = 0; both = both_run _ _ _ _ r still }

    -- a jump to the next block
    jumped : (s : template.TemplateState) (block at from : ℕ) (place : Place) (all : ℕ → Option Scalar) (bases : ℕ → Option ℕ) → Stands o block at (record { at = place; does = acts.Jump }) → edges_at o block ≡ record { from = from; to = block + 1; taken = Always } ∷ []
        → Related o s (prog o (block + 1) 0 all bases calmed) → Next (template.running s (found ++ [])) (of_program block at all bases)
    jumped s block at from place all bases stands leads r =
        one_step _ block at all bases (record { at = place; does = acts.Jump }) stands
        (subst (λ es. Both o (template.running s (found ++ [])) (flow_runs.run_by also place (edges.along second (prog o block at all bases calmed) (edge_taken (integer (pos 0) no_labels) es)))) (sym leads)
        (both_run _ _ _ _ r (ap (λ vs. vs ++ []) equal)))

    abbrev of_templates : ℕ → List PieceView → (ℕ → Option Scalar) → (ℕ → Option ℕ) → List Frame → TemplateRun
    of_templates n rest temps names frames = runs.stepped_on found (runs.step_by first (std o n rest temps names frames calmed) rest)

    -- a function returns
    returned : (c : Copy) (around : List Copy) (temps : ℕ → Option Scalar) (names : ℕ → Option ℕ) (frames : List Frame) (block at : ℕ) (all : ℕ → Option Scalar) (bases : ℕ → Option ℕ) → Held c.depth temps all → Names o c names bases → Tables o bases (c ∷ around) → HasLeft frames names → Waiting o all bases c around block at frames
        → Next (runs.stepped_on found (runs.return_to (std o c.function [] temps names frames calmed) frames)) (of_program block at all bases)
    returned c _ temps names _ block at all bases held named tables left (none _ _ _) = record { steps = 0; both = stuck _ _ _ }
    returned c _ temps names _ block at all bases held named tables left (one _ d around _ _ end last rest own olds depth fs stands whole is_copy apart named_there before deep waits) =
        no_step _ block at all bases
        (related d around rest (up_to depth own temps) olds fs block at end last all bases memory draws [] new stands (record {
          whole = whole;
          is_copy = is_copy;
          apart = apart;
          held = held_outside depth c.depth d.depth own temps all deep before held;
          named = named_there;
          waits = waits;
          tables = less_tables c (d ∷ around) names bases named left tables;
        }))

    module _ (c : Copy) (around : List Copy) (temps : ℕ → Option Scalar) (names : ℕ → Option ℕ) (frames : List Frame) (end last : ℕ) (all : ℕ → Option Scalar) (bases : ℕ → Option ℕ) (is : Around o c around temps names frames all bases end last) where
      -- what stands only for calls whose value is used
      used_or : (a : Act) (ps : List PieceView) (block at : ℕ) → c.used ≡ true → IsPut o c c.at a block at → Laid o c around ps block (suc at) end last → Next (of_templates c.function (DoIfUsed (record { at = c.at; does = a }) ∷ ps) temps names frames) (of_program block at all bases)
      used_or a ps block at used put left = by (acted o out.are_objects out.are_literals c around ps temps names frames block at end last all bases left is calmed found also equal c.at put.base a put.is_base put.points) is.waits
        where
          by : {cs : List Copy} {n m : ℕ} {fs : List Frame} → Both o (runs.run_by found (Some c.at) (template_acts.perform first a (std o c.function ps temps names fs calmed))) (flow_runs.run_by also c.at (act_step second (shifted c.depth put.base a) (prog o block at all bases calmed)))
              → Waiting o all bases c cs n m fs → Next (runs.stepped_on found (runs.if_used first a (std o c.function ps temps names fs calmed) fs)) (of_program block at all bases)
          by both (none _ _ _) = record { steps = 0; both = stuck _ _ _ }
          by both (one _ d cs n m _ _ rest own olds depth fs stands whole is_copy apart named_there before deep waits) =
              subst (λ b. Next (runs.stepped_on found (cond b (runs.instruction c.at (template_acts.perform first a (std o c.function ps temps names (record { function = d.function; rest = rest; temps = own; names = olds; depth = depth; at = c.at; used = c.used } ∷ fs) calmed))) (runs.quiet (std o c.function ps temps names (record { function = d.function; rest = rest; temps = own; names = olds; depth = depth; at = c.at; used = c.used } ∷ fs) calmed)))) (of_program block at all bases)) (sym used)
              (one_step _ block at all bases _ put.stands both)

      unused_or : (a : Act) (ps : List PieceView) (block at : ℕ) → c.used ≡ false → Laid o c around ps block at end last → Next (runs.stepped_on found (runs.if_used first a (std o c.function ps temps names frames calmed) frames)) (of_program block at all bases)
      unused_or a ps block at unused left = by is.waits (no_step _ block at all bases (related c around ps temps names frames block at end last all bases memory draws [] new left is))
        where
          by : {cs : List Copy} {n m : ℕ} {fs : List Frame} → Waiting o all bases c cs n m fs → Next (template.running (std o c.function ps temps names fs calmed) (found ++ [])) (of_program block at all bases) → Next (runs.stepped_on found (runs.if_used first a (std o c.function ps temps names fs calmed) fs)) (of_program block at all bases)
          by (none _ _ _) go = record { steps = 0; both = stuck _ _ _ }
          by (one _ d cs n m _ _ rest own olds depth fs stands whole is_copy apart named_there before deep waits) go =
              subst (λ b. Next (runs.stepped_on found (cond b (runs.instruction c.at (template_acts.perform first a (std o c.function ps temps names (record { function = d.function; rest = rest; temps = own; names = olds; depth = depth; at = c.at; used = c.used } ∷ fs) calmed))) (runs.quiet (std o c.function ps temps names (record { function = d.function; rest = rest; temps = own; names = olds; depth = depth; at = c.at; used = c.used } ∷ fs) calmed)))) (of_program block at all bases)) (sym unused) go

      -- a call begins
      called : (k : OwnCall) (d : Copy) (ps : List PieceView) (block at between inner : ℕ) → d.function ≡ k.function → d.depth ≡ k.depth + c.depth → d.at ≡ k.place → d.used ≡ k.used → IsCopy o d → AllApart d (c ∷ around) → Laid o d (c ∷ around) (o.of d.function).pieces block at between inner → Laid o c around ps between inner end last
          → Next (of_templates c.function (Call k ∷ ps) temps names frames) (of_program block at all bases)
      called k d ps block at between inner is_function deep place used is_copy apart inside behind =
          subst (λ n. Next (template.running (std o n (o.of n).pieces (from_temp k.depth temps) empty_table (record { function = c.function; rest = ps; temps = temps; names = names; depth = k.depth; at = k.place; used = k.used } ∷ frames) calmed) (found ++ [])) (of_program block at all bases)) is_function
          (subst (λ p. Next (template.running (std o d.function (o.of d.function).pieces (from_temp k.depth temps) empty_table (record { function = c.function; rest = ps; temps = temps; names = names; depth = k.depth; at = p; used = k.used } ∷ frames) calmed) (found ++ [])) (of_program block at all bases)) place
          (subst (λ b. Next (template.running (std o d.function (o.of d.function).pieces (from_temp k.depth temps) empty_table (record { function = c.function; rest = ps; temps = temps; names = names; depth = k.depth; at = d.at; used = b } ∷ frames) calmed) (found ++ [])) (of_program block at all bases)) used
          (no_step _ block at all bases
          (related d (c ∷ around) (o.of d.function).pieces (from_temp k.depth temps) empty_table _ block at between inner all bases memory draws [] new inside (record {
            whole = record { block = block; at = at; stands = inside };
            is_copy = is_copy;
            apart = apart;
            held = held_inside k.depth c.depth d.depth temps all deep is.held;
            named = none_named d (c ∷ around) bases is_copy apart is.tables;
            waits = one d c around between inner end last ps temps names k.depth frames behind is.whole is.is_copy is.apart is.named (λ j less. is.held j) deep is.waits;
            tables = more_tables d (c ∷ around) bases is.tables;
          })))))

    turn : (c : Copy) (around : List Copy) (rest : List PieceView) (temps : ℕ → Option Scalar) (names : ℕ → Option ℕ) (frames : List Frame) (block at end last : ℕ) (all : ℕ → Option Scalar) (bases : ℕ → Option ℕ) → (rest ≡ [] → HasLeft frames names) → Laid o c around rest block at end last → Around o c around temps names frames all bases end last
        → Next (of_templates c.function rest temps names frames) (of_program block at all bases)
    turn c around _ temps names frames _ _ _ _ all bases left (laid.nothing _ _ block at) is = returned c around temps names frames block at all bases is.held is.named is.tables (left refl) is.waits
    turn c around _ temps names frames _ _ _ _ all bases left (laid.does _ _ i ps block at end last put behind) is =
        one_step _ block at all bases _ put.stands (acted o out.are_objects out.are_literals c around ps temps names frames block at end last all bases behind is calmed found also equal i.at put.base i.does put.is_base put.points)
    turn c around _ temps names frames _ _ _ _ all bases left (laid.used _ _ i ps block at end last used put behind) is = used_or c around temps names frames end last all bases is i.does ps block at used put behind
    turn c around _ temps names frames _ _ _ _ all bases left (laid.unused _ _ i ps block at end last unused behind) is = unused_or c around temps names frames end last all bases is i.does ps block at unused behind
    turn c around _ temps names frames _ _ _ _ all bases left (laid.ends _ _ i exits ps block at end last put led behind) is =
        one_step _ block at all bases _ put.stands (ended o out.are_objects out.are_literals c around names frames block at end last bases ps found also equal i.at exits led put.base i.does temps all is calmed)
    turn c around _ temps names frames _ _ _ _ all bases left (laid.begins _ _ l ps block end last is_label behind) is = no_step _ block 0 all bases (related c around ps temps names frames block 0 end last all bases memory draws [] new behind is)
    turn c around _ temps names frames _ _ _ _ all bases left (laid.jumps _ _ l from place ps block at end last is_label stands leads behind) is =
        jumped _ block at from place all bases stands leads (related c around ps temps names frames (block + 1) 0 end last all bases memory draws [] [] behind is)
    turn c around _ temps names frames _ _ _ _ all bases left (laid.calls _ _ k d ps block at between inner end last is_function deep place used is_copy apart inside behind) is =
        called c around temps names frames end last all bases is k d ps block at between inner is_function deep place used is_copy apart inside behind

  step_both : (a : TemplateRun) (b : FlowRun) → LeavesAll a → Both o a b → Next (next first a) b
  step_both _ _ left (both_run _ _ found also (related c around rest temps names frames block at end last all bases memory draws old new stands is) equal) = turn memory draws old new found also equal c around rest temps names frames block at end last all bases left stands is
  step_both _ _ left (both_stopped why w violated found also equal) = record { steps = 0; both = both_stopped why w violated found also equal }
  step_both _ _ left (stuck w found r) = record { steps = 0; both = stuck w found r }

  -- ---- runs

  steps_on : (m k : ℕ) (r : FlowRun) → flow_steps second m (flow_steps second k r) ≡ flow_steps second (m + k) r
  steps_on zero k r = ap (λ j. flow_steps second j r) (is k)
    where
      is : (k : ℕ) → k ≡ 0 + k
      is k = omega arith
  steps_on (suc m) k r = ap (flow_step second) (steps_on m k r) ∙ ap (λ j. flow_steps second j r) (is m k)
    where
      is : (m k : ℕ) → suc (m + k) ≡ suc m + k
      is m k = omega arith

  all_steps : (n : ℕ) (a : TemplateRun) (b : FlowRun) → ((j : ℕ) → j < n → LeavesAll (steps_from first j a)) → Both o a b → (m : ℕ) × Both o (steps_from first n a) (flow_steps second m b)
  all_steps zero a b left both = (0, both)
  all_steps (suc n) a b left both =
      let x = step_both a b (left 0 (omega arith)) both in
      let (m, rest) = all_steps n (next first a) (flow_steps second x.steps b) (λ j less. left (suc j) (later j less)) x.both in
      (m + x.steps, subst (λ r. Both o (steps_from first n (next first a)) r) (steps_on m x.steps b) rest)
    where
      later : (j : ℕ) → j < n → suc j < suc n
      later j less = omega (arith, less)

  agreed : (a : TemplateRun) (b : FlowRun) → Both o a b → AgreeUnlessStuck a b
  agreed _ _ (both_run _ _ found also (related c around rest temps names frames block at end last all bases memory draws old new stands is) equal) = inr (record { memory = refl; draws = refl; found = equal; why = refl })
  agreed _ _ (both_stopped why w violated found also equal) = inr (record { memory = refl; draws = refl; found = equal; why = refl })
  agreed _ _ (stuck w found r) = inl refl

  first_both : (draws : List ℤ) → Both o (template_begin first draws) (flow_begin o.unit second draws)
  first_both draws = by (start_world o.unit draws)
    where
      around : (w : World) → Around o entry [] empty_table (source.name_parameters o.unit 0 (entry_parameters o.unit)) [] empty_table (starts.start_names o.unit o.program) out.end out.last
      around w = record {
        whole = record { block = 0; at = 0; stands = out.laid };
        is_copy = out.is_copy;
        apart = tt;
        held = λ k. refl;
        named = out.parameters;
        waits = none entry out.end out.last;
        tables = record { objects = out.objects; literals = out.literals; others = λ b automatic. active b (out.others b automatic) };
      }
        where
          active : (b : ℕ) → (starts.start_names o.unit o.program b ≡ None) ⊎ ((n : ℕ) × (entry.locals n ≡ Some b)) → (starts.start_names o.unit o.program b ≡ None) ⊎ IsActive o b (entry ∷ [])
          active b (inl nothing_there) = inl nothing_there
          active b (inr there) = inr (inl there)

      by : (x : Reply (Unit {0})) → Both o (runs.begun_by first x) (starts.begun_by o.unit second x)
      by (goes t w) =
          subst (λ n. Both o (template.running (std o n (o.of n).pieces empty_table (source.name_parameters o.unit 0 (entry_parameters o.unit)) [] w) []) (flow.running (starts.first_standing o.unit second w) [])) out.function
          (both_run _ _ _ _ (related entry [] (o.of entry.function).pieces empty_table _ [] 0 0 out.end out.last empty_table _ w.memory w.draws w.violated w.violated out.laid (around w)) refl)
      by (stops why w) = both_stopped why w w.violated [] [] refl

  pub runs_agree : (draws : List ℤ) (n : ℕ) → ((j : ℕ) → j < n → LeavesAll (steps_from first j (template_begin first draws))) → (m : ℕ) × AgreeUnlessStuck (steps_from first n (template_begin first draws)) (flow_steps second m (flow_begin o.unit second draws))
  runs_agree draws n left = let (m, both) = all_steps n (template_begin first draws) (flow_begin o.unit second draws) left (first_both draws) in (m, agreed _ _ both)
