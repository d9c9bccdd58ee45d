-- Runs of the program that a unit is lowered to.
use Rattle.std.proofs.Common.{◌≡◌, ◌==◌, ◌≤◌, ◌<◌, inl, inr, ℕ, ℤ, Bool, true, List, [], ◌∷◌, length, Option, Some, None, refl, ap, sym, subst, ◌∙◌}
use Rattle.std.specs.List.{slice_get}
use Rattle.std.proofs.lemmas.Bool.{eq-eqb}
use Rattle.cc_base.specs.declared.limit_table.Limits.{Limits}
use Rattle.c_layout.specs.CheckedUnits.{FunctionView, UnitView}
use Rattle.lower_templates.specs.Worklist.Pieces.{TemplateView}
use Rattle.lower_functions.specs.Functions.Functions.{IsTemplate}
use Rattle.lower_tables.specs.Counts.Preparations.{IsTemplateOf, Reaches, begun, are_counted, IsNormalized, IsPrepared}
use Rattle.lower_tables.specs.Counts.NormalizedTemplates.{normalized}
use Rattle.lower_tables.proofs.counts.Preparing.{one_template}
use Rattle.lower.specs.TemplateLaws.PieceOrder.{ends_block}
use Rattle.lower.proofs.template_laws.TemplateOrder.{entry_ends}
use Rattle.lower.proofs.template_laws.NormalizedOrder.{normalized_ends}
use Rattle.lower_templates.specs.Views.ProgramViews.{FlowView}
use Rattle.semantics.specs.CfgMachine.FlowSteps.{flow_steps}
use Rattle.semantics.specs.CfgMachine.FlowStarts.{flow_begin}
use Rattle.lower.specs.Inlining.Lowerings.{lowered, IsLowering}
use Rattle.lower.specs.Inlining.Inlinings.{joined, template_at, finished, program, unfinished}
use Rattle.lower.specs.Inlining.Inlinings as inlining
use Rattle.lower.proofs.inlining.CountedCalls.{AllCalled, IsKnown, known}
use Rattle.semantics.specs.CfgMachine.FlowStates.{FlowRun}
use Rattle.semantics.specs.TemplateMachine.TemplateStates.{Frame, TemplateRun, running, stopped}
use Rattle.semantics.specs.TemplateMachine.TemplateSteps.{template_begin, steps_from}
use Rattle.simulation_layout.specs.Normalized.NormalizedRuns.{Settles, templates, NamesNothing, AtReturn, ReturnsWith}
use Rattle.simulation_layout.specs.Normalized.NormalizedRuns as normalized_runs
use Rattle.simulation_layout.proofs.normalized.NormalizedReturns.{runs_return}
use Rattle.simulation_layout.specs.InlinedLayout.Copies as copies
use Rattle.simulation_layout.specs.InlinedLayout.Layouts.{IsLaidOut}
use Rattle.simulation_layout.specs.InlinedLayout.LaidRuns.{HasLeft, LeavesAll, AgreeUnlessStuck}
use Rattle.simulation_layout.proofs.inlined_layout.LaidSteps as laid_runs
use Rattle.simulation_layout.specs.Copies.LowTemporaries.{HasLowTemps}
use Rattle.simulation_layout.specs.Copies.FitTemplates.{IsFit}
use Rattle.simulation_layout.specs.InlinedRuns.InlinedRuns.{IsMade, template_or, normalized_of, IsInlined, normalized_templates, made_templates, InlinedRunsAreTheSame}
use Rattle.simulation_layout.proofs.inlining.ListPlaces.{some_same}
use Rattle.simulation_layout.proofs.inlined_runs.FitNormalized.{normalized_once, normalized_fit}
use Rattle.simulation_layout.proofs.copies.LaidCopies.{MarkedOnce, Fits}
use Rattle.simulation_layout.proofs.inlined_runs.LaidPrograms as laid
use Rattle.simulation_layout.proofs.inlined_runs.LaidPrograms.{last, none_ready, is_laid_out}

module _ (u : UnitView) (limits : Limits) (f : FlowView) (o : IsInlined u limits f) where
  abbrev ts : List (Option TemplateView)
  ts = o.is.templates

  abbrev entry : FunctionView
  entry = o.is.entry

  prepared : IsPrepared u ts o.is.is_counted.table
  prepared = o.is.is_counted.is_prepared

  -- ---- functions that are reached

  known_at : (n : ℕ) → Reaches u n → IsKnown u ts o.is.is_counted.table n
  known_at n r = known u ts o.is.is_counted.table n prepared r

  there : (m : ℕ) → Reaches u m → (g : FunctionView) × (t : TemplateView) × (slice_get u.functions m ≡ Some g) × (template_at ts m ≡ Some t) × AllCalled (Reaches u) t.pieces
  there m r = let k = known_at m r in (k.function, k.template, k.is_template.stands, k.is_there, k.calls)

  -- the settled template of a function, by how it is made
  pub record Normalized (n : ℕ) : Type 0 where
    pub template : TemplateView
    pub function : FunctionView
    pub stands : slice_get u.functions n ≡ Some function
    pub is_there : template_at ts n ≡ Some template
    pub once : MarkedOnce template.labels template.pieces
    pub fit : IsFit u function template

  normalized_at : (n : ℕ) → Reaches u n → Normalized n
  normalized_at n r =
      let k = known_at n r in
      let m = o.are_made n r in
      let same : k.plain ≡ o.made n = one_template u n k.function m.function k.plain (o.made n) k.is_template m.is_template in
      let is : k.template ≡ normalized o.is.is_counted.table (o.made n) = k.settles ∙ ap (λ t. normalized o.is.is_counted.table t) same in
      record {
        template = k.template;
        function = m.function;
        stands = m.is_template.stands;
        is_there = k.is_there;
        once = subst (λ (t : TemplateView). MarkedOnce t.labels t.pieces) (sym is) (normalized_once o.is.is_counted.table (o.made n) m.once);
        fit = subst (λ t. IsFit u m.function t) (sym is) (normalized_fit u m.function o.is.is_counted.table (o.made n) m.once m.fit);
      }

  -- ---- the entry

  first_known : IsKnown u ts o.is.is_counted.table u.entry
  first_known = known_at u.entry begun

  ends : ends_block first_known.template.pieces ≡ true
  ends =
      let k = first_known in
      let is_entry : (u.entry == u.entry) ≡ true = eq-eqb u.entry u.entry refl in
      subst (λ (t : TemplateView). ends_block t.pieces ≡ true) (sym k.settles)
      (normalized_ends o.is.is_counted.table k.plain (entry_ends u.structs u.model.pointer u.model.int k.function k.plain (subst (λ b. IsTemplate u.structs u.model.pointer u.model.int k.function b k.plain) is_entry k.is_template.is_template)))

  -- ---- the layout

  abbrev made_last : inlining.Made
  made_last = (inlining.whole u ts entry.at).program

  low : HasLowTemps (lowered u entry (finished made_last) o.is.counts.temps)
  low = subst HasLowTemps o.is.opens o.low

  abbrev of : ℕ → TemplateView
  of = normalized_of ts

  abbrev none_left : made_last.ready ≡ []
  none_left = none_ready u ts entry o.is.is_counted.is_entry o.few first_known.template first_known.is_there ends o.is.ends (Reaches u) there first_known.calls

  fits : (m : ℕ) → Reaches u m → (g : FunctionView) (t : TemplateView) → slice_get u.functions m ≡ Some g → template_at ts m ≡ Some t → Fits u ts of entry o.is.counts.temps made_last none_left low (Reaches u) m g t
  fits m r g t is_function is_template =
      let s = normalized_at m r in
      let k = known_at m r in
      let same_t : s.template ≡ t = some_same s.template t (sym s.is_there ∙ is_template) in
      let known_t : k.template ≡ t = some_same k.template t (sym k.is_there ∙ is_template) in
      let same_g : s.function ≡ g = some_same s.function g (sym s.stands ∙ is_function) in
      record {
        is = ap template_or is_template;
        calls = subst (λ (x : TemplateView). AllCalled (Reaches u) x.pieces) known_t k.calls;
        once = subst (λ (x : TemplateView). MarkedOnce x.labels x.pieces) same_t s.once;
        fit = subst (λ h. IsFit u h t) same_g (subst (λ x. IsFit u s.function x) same_t s.fit);
      }

  entry_fits : Fits u ts of entry o.is.counts.temps made_last none_left low (Reaches u) u.entry entry first_known.template
  entry_fits = fits u.entry begun entry first_known.template o.is.is_counted.is_entry first_known.is_there

  pub runs_agree : (draws : List ℤ) (n : ℕ) → ((j : ℕ) → j < n → LeavesAll (steps_from (normalized_templates u limits f o) j (template_begin (normalized_templates u limits f o) draws)))
      → (m : ℕ) × AgreeUnlessStuck (steps_from (normalized_templates u limits f o) n (template_begin (normalized_templates u limits f o) draws)) (flow_steps f m (flow_begin u f draws))
  runs_agree draws n left =
      subst (λ g. (m : ℕ) × AgreeUnlessStuck (steps_from (normalized_templates u limits f o) n (template_begin (normalized_templates u limits f o) draws)) (flow_steps g m (flow_begin u g draws))) (sym o.is.opens)
      (laid_runs.runs_agree
      (laid.program u ts entry o.is.is_counted.is_entry o.few first_known.template first_known.is_there ends o.is.ends (Reaches u) there first_known.calls of o.is.counts.temps low entry_fits.is entry_fits.fit entry_fits.once fits)
      (laid.first u ts entry o.is.is_counted.is_entry o.few first_known.template first_known.is_there ends o.is.ends (Reaches u) there first_known.calls of o.is.counts.temps low entry_fits.is entry_fits.fit entry_fits.once fits)
      (is_laid_out u ts entry o.is.is_counted.is_entry o.few first_known.template first_known.is_there ends o.is.ends (Reaches u) there first_known.calls of o.is.counts.temps low entry_fits.is entry_fits.fit entry_fits.once fits)
      draws n left)

  -- the settled templates are laid out in the program
  pub record AreLaidOut : Type 0 where
    pub inlined : copies.Inlined
    pub first : copies.Copy
    pub is : IsLaidOut inlined first
    pub of : inlined.of ≡ normalized_of o.is.templates
    pub unit : inlined.unit ≡ u
    pub program : inlined.program ≡ f

  pub are_laid_out : AreLaidOut
  are_laid_out = record {
    inlined = laid.program u ts entry o.is.is_counted.is_entry o.few first_known.template first_known.is_there ends o.is.ends (Reaches u) there first_known.calls of o.is.counts.temps low entry_fits.is entry_fits.fit entry_fits.once fits;
    first = laid.first u ts entry o.is.is_counted.is_entry o.few first_known.template first_known.is_there ends o.is.ends (Reaches u) there first_known.calls of o.is.counts.temps low entry_fits.is entry_fits.fit entry_fits.once fits;
    is = is_laid_out u ts entry o.is.is_counted.is_entry o.few first_known.template first_known.is_there ends o.is.ends (Reaches u) there first_known.calls of o.is.counts.temps low entry_fits.is entry_fits.fit entry_fits.once fits;
    of = refl;
    unit = refl;
    program = sym o.is.opens;
  }

  -- ---- templates as they are made

  pub settles_at : (n : ℕ) → Reaches u n → Settles u n (o.made n) (normalized_of ts n)
  settles_at n r =
      let (s, c, there_s, is) = prepared.all n r in
      let x = prepared.are_normalized n s there_s in
      let m = o.are_made n r in
      let same : x.template ≡ o.made n = one_template u n x.function m.function x.template (o.made n) x.is_template m.is_template in
      record {
        function = m.function;
        table = x.table;
        is_template = m.is_template;
        all_counted = subst (λ (t : TemplateView). are_counted x.table t.pieces ≡ true) same x.all_counted;
        are_counts = x.are_counts;
        is_normalized = ap (λ t. template_or (joined t)) there_s ∙ x.settles ∙ ap (λ t. normalized x.table t) same;
        once = m.once;
      }

  leaves_all : (r : TemplateRun) → ReturnsWith NamesNothing r → LeavesAll r
  leaves_all (running s found) holds = λ ends. by s.frames (holds ends)
    where
      by : (fs : List Frame) → AtReturn NamesNothing fs s.names → HasLeft fs s.names
      by [] holds = tt
      by (f ∷ fs) holds = holds
  leaves_all (stopped why w found) holds = tt

  both_agree : (a b : TemplateRun) (c : FlowRun) → normalized_runs.AgreeUnlessStuck a b → AgreeUnlessStuck b c → AgreeUnlessStuck a c
  both_agree a b c (inl stuck) y = inl stuck
  both_agree a b c (inr x) (inl stuck) = inl (x.why ∙ stuck)
  both_agree a b c (inr x) (inr y) = inr (record { memory = x.memory ∙ y.memory; draws = x.draws ∙ y.draws; found = x.found ∙ y.found; why = x.why ∙ y.why })

  pub made_runs_agree : (draws : List ℤ) → ((n : ℕ) → ReturnsWith NamesNothing (steps_from (made_templates u limits f o) n (template_begin (made_templates u limits f o) draws)))
      → (n : ℕ) → (m : ℕ) × AgreeUnlessStuck (steps_from (made_templates u limits f o) n (template_begin (made_templates u limits f o) draws)) (flow_steps f m (flow_begin u f draws))
  made_runs_agree draws holds n =
      let x = runs_return u o.made (normalized_of ts) settles_at NamesNothing draws holds n in
      let (m, y) = runs_agree draws x.steps (λ j less. leaves_all _ (x.returns j less)) in
      (m, both_agree _ _ _ x.agree y)
