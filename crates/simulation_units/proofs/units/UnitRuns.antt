-- Each run of a checked unit is one of its program.
use Rattle.std.proofs.Common.{◌≡◌, inl, inr, ℕ, ◌==◌, ℤ, Bool, true, false, ◌&&◌, List, [], ◌∷◌, Option, Some, slice_get, refl, ap, subst, ◌∙◌}
use Rattle.std.proofs.lemmas.Bool.{and_parts, eq-eqb, eqb-true}
use Rattle.cc_base.specs.declared.limit_table.Limits.{Limits}
use Rattle.c_layout.specs.CheckedTrees.{statement_trees}
use Rattle.c_layout.specs.CheckedUnits.{FunctionView, UnitView}
use Rattle.cfg.specs.declared.programs.Flow.{Flow}
use Rattle.lower_templates.specs.Views.ProgramViews.{flow_view}
use Rattle.semantics.specs.CfgMachine.FlowStates.{FlowRun}
use Rattle.semantics.specs.CfgMachine.FlowSteps.{flow_steps}
use Rattle.semantics.specs.CfgMachine.FlowStarts.{flow_begin}
use Rattle.lower_templates.specs.Worklist.Pieces.{TemplateView, Call}
use Rattle.lower_functions.specs.Functions.Functions.{IsTemplate, setting_of}
use Rattle.lower_tables.specs.Counts.Preparations.{Reaches, begun, further}
use Rattle.simulation_units.specs.Calls.ReachedCalls.{EntriesAreNotCalled}
use Rattle.lower_preconditions.specs.Units.LabelNumbers.{is_numbered}
use Rattle.lower_preconditions.specs.Units.ScopeObjects.{has_own_objects}
use Rattle.lower_preconditions.specs.Units.RegularStatements.{are_regular_statements}
use Rattle.lower_preconditions.specs.Units.RegularUnits.{is_regular_function}
use Rattle.simulation_layout.specs.FunctionChecks.LabelsOnce.{FunctionsAreLabelled}
use Rattle.simulation_layout.specs.FunctionChecks.NewObjects.{ScopesAreApart}
use Rattle.simulation_layout.specs.FunctionChecks.NamesThere.{NamesAreThere, SwitchesAreOnIntegers}
use Rattle.simulation_layout.specs.FunctionChecks.UnitParts.{FunctionsAreRegular}
use Rattle.simulation_layout.specs.JumpChecks.RegularJumps.{RegularJumpsStand}
use Rattle.semantics.specs.SourceMachine.SourceStates.{Frame, function_at}
use Rattle.semantics.specs.SourceMachine.SourceSteps.{is_entry}
use Rattle.semantics.specs.SourceMachine.SourceRuns as source
use Rattle.semantics.specs.SourceMachine.SourceRuns.{SourceRun, Run, body_of}
use Rattle.source_items.specs.Returns.StandingJumps.{UnitJumpsStand}
use Rattle.source_items.specs.Returns.ReturnedFunctions.{CalledFunctionsLeaveAll}
use Rattle.semantics.specs.TemplateMachine.TemplateStates.{Templates, TemplateRun}
use Rattle.semantics.specs.TemplateMachine.TemplateSteps.{template_begin, steps_from}
use Rattle.simulation_layout.specs.Normalized.NormalizedRuns.{templates, ReturnsWith, NamesNothing}
use Rattle.simulation_layout.specs.InlinedLayout.LaidRuns as laid
use Rattle.simulation_terms.specs.SimulationRelation.Activations.{entry_of}
use Rattle.simulation_terms.specs.SimulationRelation.Simulates.{Simulates, AllSimulate, Reached, entry, called, pieces}
use Rattle.simulation_terms.specs.SmallSteps.Alike as followed
use Rattle.simulation_units.specs.Preconditions.RegularFunctions.{RegularFunctionsSuit}
use Rattle.simulation_statements.specs.Entry.Entries.{IsMade, IsEntry, AreMade, EntryIsNotCalled, FunctionsAreSimulated, EntriesAreSimulated}
use Rattle.simulation_units.specs.Returns.Returns.{AtEnd, EndsWith, ReturnsAreSimulated}
use Rattle.simulation_layout.specs.Units.CheckedRuns as fit
use Rattle.simulation_layout.specs.Units.CheckedRuns.{IsPlainlyMade, CheckedRunsAreTheSame}
use Rattle.simulation_units.specs.Units.UnitRuns.{IsProgramOf, AgreeUnlessStuck}
use Rattle.simulation_units.proofs.units.MadeTemplates.{IsFresh, made, fresh}

-- the body of an entry follows in its template
abbrev pub EntriesSimulate : Type 0
EntriesSimulate = (t : Templates) (f : FunctionView) → IsEntry t f → (n : ℕ) → Simulates (entry_of t) n 0 (body_of (function_at t.unit t.unit.entry)) (pieces (entry_of t))

-- all that is composed
pub record Laws : Type 0 where
  pub suit : RegularFunctionsSuit
  pub regular : FunctionsAreRegular
  pub labelled : FunctionsAreLabelled
  pub named : NamesAreThere
  pub switches : SwitchesAreOnIntegers
  pub apart : ScopesAreApart
  pub jumps : RegularJumpsStand
  pub not_called : EntriesAreNotCalled
  pub leave : CalledFunctionsLeaveAll
  pub start : EntriesSimulate
  pub functions : FunctionsAreSimulated
  pub entries : EntriesAreSimulated
  pub returns : ReturnsAreSimulated
  pub same : CheckedRunsAreTheSame

-- ---- runs that agree with runs that agree

joins : (s : SourceRun) (a : TemplateRun) (r : FlowRun) → followed.Agree s a → laid.AgreeUnlessStuck a r → AgreeUnlessStuck s r
joins s a r one (inl stuck) = inl (one.why ∙ stuck)
joins s a r one (inr two) = inr (record { memory = one.memory ∙ two.memory; draws = one.draws ∙ two.draws; found = one.found ∙ two.found; why = one.why ∙ two.why })

-- ---- called functions have left all

at_end : (frames : List Frame) (names : ℕ → Option ℕ) → ((f : Frame) (fs : List Frame) → frames ≡ f ∷ fs → NamesNothing names) → AtEnd NamesNothing frames names
at_end [] names all = tt
at_end (f ∷ fs) names all = all f fs refl

ends_by : CalledFunctionsLeaveAll → (u : UnitView) → UnitJumpsStand u → (draws : List ℤ) (n : ℕ) (r : SourceRun) → Run u draws n ≡ r → EndsWith NamesNothing r
ends_by leave u stand draws n (source.running s found steps) e = λ done. at_end s.frames s.names (λ f fs is. leave u stand draws n s found steps e done (ap (λ xs. is_entry xs) is))
ends_by leave u stand draws n (source.stopped why w found steps) e = tt

-- ---- functions

not_same : (a b : ℕ) → (a ≡ b → ⊥) → (a == b) ≡ false
not_same a b other = by (a == b) refl
  where
    by : (c : Bool) → (a == b) ≡ c → (a == b) ≡ false
    by true e = absurd (other (eqb-true a b e))
    by false e = e

itself : (a : ℕ) → (a == a) ≡ true
itself a = eq-eqb a a refl

one_function : (x y : FunctionView) (o : Option FunctionView) → o ≡ Some x → o ≡ Some y → x ≡ y
one_function x y o a b = cc

numbered : (u : UnitView) (f : FunctionView) → is_regular_function u f ≡ true → is_numbered f ≡ true
numbered u f e = (and_parts (is_numbered f) (has_own_objects f && are_regular_statements u f false false (statement_trees f.body)) e).0

owned : (u : UnitView) (f : FunctionView) → is_regular_function u f ≡ true → has_own_objects f ≡ true
owned u f e =
    let rest = and_parts (is_numbered f) (has_own_objects f && are_regular_statements u f false false (statement_trees f.body)) e in
    (and_parts (has_own_objects f) (are_regular_statements u f false false (statement_trees f.body)) rest.1).0

-- ---- the templates of a unit

module _ (laws : Laws) (u : UnitView) (limits : Limits) (program : Flow) (o : IsProgramOf u limits program) where
  abbrev pub of : ℕ → TemplateView
  of = made o.is.is_counted.is_prepared

  abbrev pub t : Templates
  t = templates u of

  is_fresh : (n : ℕ) → Reaches u n → IsFresh u n (of n)
  is_fresh n r = fresh o.is.is_counted.is_prepared n r

  is_regular : (n : ℕ) (f : FunctionView) → function_at u n ≡ Some f → is_regular_function u f ≡ true
  is_regular n f is = laws.regular u n f o.regular is

  pub plainly : (n : ℕ) → Reaches u n → IsPlainlyMade u n (of n)
  plainly n r =
      let x = is_fresh n r in
      let e = is_regular n x.function x.is_template.stands in
      record { function = x.function; is_template = x.is_template; labelled = laws.labelled x.function (numbered u x.function e); few = x.few; named = laws.named u x.function e; switches = laws.switches u x.function e }

  abbrev is_fit : fit.IsProgramOf u limits program
  is_fit = record { is = o.is; model = o.model; name = o.name; tree = o.tree; checked = o.checked; good = o.good; room = o.room; made = of; are_made = plainly }

  reaches : (g : ℕ) → Reached t g → Reaches u g
  reaches _ entry = begun
  reaches _ (called h g r c) = let x = is_fresh h (reaches h r) in further h g x.function (of h) (reaches h r) x.is_template (c.at, Call c.call, c.there, ap Some c.is)

  never : EntryIsNotCalled t
  never h r c = let x = is_fresh h (reaches h r) in laws.not_called u o.is.templates o.is.is_counted.table o.is.is_counted.is_prepared h u.entry x.function (of h) (reaches h r) x.is_template (c.at, Call c.call, c.there, ap Some c.is) refl

  is_made : (g : ℕ) (f : FunctionView) (b : Bool) → (g == u.entry) ≡ b → Reaches u g → function_at u g ≡ Some f → IsMade t g b f
  is_made g f b same r is =
      let x = is_fresh g r in
      let e = is_regular g f is in
      record {
        is = is;
        template = subst (λ c. IsTemplate u.structs u.model.pointer u.model.int f c (of g)) same
            (subst (λ h. IsTemplate u.structs u.model.pointer u.model.int h (g == u.entry) (of g)) (one_function x.function f (slice_get u.functions g) x.is_template.stands is) x.is_template.is_template);
        labelled = laws.labelled f (numbered u f e);
        few_labels = x.few;
        apart = laws.apart f (owned u f e) (setting_of u.structs u.model.pointer u.model.int f b) refl;
        suits = laws.suit u f e;
      }

  are_made : AreMade t
  are_made g f r is other = is_made g f false (not_same g u.entry other) (reaches g r) is

  first_made : IsEntry t o.is.entry
  first_made = is_made u.entry o.is.entry true (itself u.entry) begun o.is.is_counted.is_entry

  pub all_simulate : AllSimulate t
  all_simulate = laws.functions t never are_made

  pub entry_simulates : (n : ℕ) → Simulates (entry_of t) n 0 (body_of (function_at t.unit t.unit.entry)) (pieces (entry_of t))
  entry_simulates n = laws.start t o.is.entry first_made n

  -- ---- runs

  stand : UnitJumpsStand u
  stand g f is = laws.jumps u f (is_regular g f is)

  quiet : (draws : List ℤ) (j : ℕ) → ReturnsWith NamesNothing (steps_from t j (template_begin t draws))
  quiet draws j = laws.returns t (laws.functions t never are_made) (λ n. laws.start t o.is.entry first_made n) draws (λ n. ends_by laws.leave u stand draws n (Run u draws n) refl) j

  pub unit_runs : (draws : List ℤ) (turns : ℕ) → (steps : ℕ) × AgreeUnlessStuck (Run u draws turns) (flow_steps (flow_view program) steps (flow_begin u (flow_view program) draws))
  unit_runs draws turns =
      let x = laws.entries t o.is.entry first_made never are_made draws turns in
      let y = laws.same u limits program is_fit draws (quiet draws) x.0 in
      (y.0, joins (Run u draws turns) (steps_from t x.0 (template_begin t draws)) (flow_steps (flow_view program) y.0 (flow_begin u (flow_view program) draws)) x.1 y.1)
