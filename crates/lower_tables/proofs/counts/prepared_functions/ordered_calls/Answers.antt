use Rattle.c_layout.specs.CheckedUnits.{unit_view}
use Rattle.lower_templates.specs.Worklist.Pieces.{template_view}
use Rattle.lower_tables.specs.Counts.Preparations.{templates_view, begun}
use Rattle.lower_tables.proofs.counts.Tables.{seen_empty}
use Rattle.lower_tables.proofs.counts.Preparing.{still_made, none_made}
use Rattle.lower_tables.proofs.counts.prepared_functions.ordered_calls.Goals as goal

pub returns : goal.returns
returns c =
    let u = unit_view c.args.unit.now in
    let none = none_made u (templates_view c.in_ok-all_none.field-0.items) c.len.result (seen_empty template_view c.in_ok-all_none.field-0.items c.len.result c.in_ok-all_none.ensures) in
    c.in_ok-turn_all.ensures (still_made u u.entry _ _ c.in_ok-make.ensures begun none)
