use Rattle.std.proofs.Common.{ap, sym, subst, ◌∙◌}
use Rattle.c_layout.specs.declared.checked_tree.checked_units.Function.{Function}
use Rattle.c_layout.specs.CheckedUnits.{function_view, unit_view}
use Rattle.lower_tables.specs.Counts.Preparations.{templates_view}
use Rattle.cfg.specs.declared.programs.Flow.{Flow}
use Rattle.lower_templates.specs.Views.ProgramViews.{flow_view}
use Rattle.lower.specs.Inlining.AsCounted.{HasJust}
use Rattle.lower.specs.Inlining.Lowerings.{IsCounted}
use Rattle.lower.proofs.inlining.OneLowering.{just_counted}
use Rattle.lower.proofs.inlining.unit_lowering.lower.Goals as goal

pub returns-clause-counted : goal.returns-clause-counted
returns-clause-counted c =
    let is_counted : IsCounted (unit_view c.args.unit.now) (function_view c.in_ok-entry.entry.now) (templates_view c.in_ok-found.found.templates.items) c.in_ok-counts.counts =
    record {
      table = c.in_ok-found.found.counts.items;
      is_entry = c.in_ok-entry.ensures.found;
      is_prepared = c.in_ok-found.ensures;
      are_counts = c.in_ok-counts.ensures;
    } in
    let just = subst (λ f. HasJust c.in_ok-counts.counts (flow_view f)) (sym c.in_ok-well_formed.ensures.same) c.in_ok-made-3.ensures.counted in
    just_counted (unit_view c.args.unit.now) c.args.limits.now (flow_view c.in_ok-well_formed.field-0) (function_view c.in_ok-entry.entry.now) (templates_view c.in_ok-found.found.templates.items) c.in_ok-counts.counts is_counted just

pub returns-clause-entry : goal.returns-clause-entry
returns-clause-entry c = λ e there.
    ap (λ (f : Flow). f.entry) c.in_ok-well_formed.ensures.same
    ∙ (ap (λ (f : Flow). f.entry) c.in_ok-made-3.ensures.same
    ∙ (c.in_ok-made-2.ensures.entry
    ∙ ap (λ (g : Function). g.place) (c.in_ok-entry.ensures.only e there)))
