use Rattle.std.proofs.Common.{◌≡◌, Some, subst}
use Rattle.std.specs.List.{slice_get}
use Rattle.c_layout.specs.CheckedUnits.{unit_view}
use Rattle.lower_tables.specs.Counts.Preparations.{templates_view}
use Rattle.lower_tables.proofs.counts.Preparing.{all_prepared}
use Rattle.lower_tables.proofs.counts.prepared_functions.prepared.Goals as goal

pub returns : goal.returns
returns c =
    let there = subst (λ table. slice_get table c.args.unit.now.entry ≡ Some (Some c.in_ok-counts_at.field-0)) c.as_slice.ensures.value c.in_ok-counts_at.ensures.there in
    all_prepared (unit_view c.args.unit.now) (templates_view c.in_ok-found.found.templates.items) c.in_ok-found.found.counts.items c.in_ok-counts_at.field-0 (c.in_ok-found.ensures c.in_ok-templates.ensures) there
