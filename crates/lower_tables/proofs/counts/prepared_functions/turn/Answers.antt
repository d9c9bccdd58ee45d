use Rattle.std.proofs.Common.{subst}
use Rattle.c_layout.specs.CheckedUnits.{unit_view}
use Rattle.lower_tables.specs.Counts.Preparations.{templates_view}
use Rattle.lower_tables.specs.Counts.PreparingSteps.{CallsOf}
use Rattle.lower_tables.proofs.counts.Preparing.{still_made, reaches_called}
use Rattle.lower_tables.proofs.counts.prepared_functions.turn.Goals as goal

pub returns-in_ok-push-in-Some-2 : goal.returns-in_ok-push-in-Some-2
returns-in_ok-push-in-Some-2 c = λ made.
    let u = unit_view c.args.unit.now in
    let calls = subst (λ ts. CallsOf (templates_view ts) c.args.pending.function c.in-Some.number) c.as_slice.ensures.value c.in-Some.ensures in
    still_made u c.in-Some.number _ _ c.in_ok-make-in-Some.ensures (reaches_called u (templates_view c.args.found.now.templates.items) c.args.pending.function c.in-Some.number made calls) made
