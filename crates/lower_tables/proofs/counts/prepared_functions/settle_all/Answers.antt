use Rattle.std.proofs.Common.{◌≡◌, length, sym, ◌∙◌, arith}
use Rattle.std.proofs.lemmas.Grind.{common_steps}
use Rattle.std.proofs.lemmas.List.{length-map}
use Rattle.c_layout.specs.CheckedUnits.{function_view, unit_view}
use Rattle.lower_templates.specs.Worklist.Pieces.{template_view}
use Rattle.lower_tables.specs.Counts.Preparations.{templates_view}
use Rattle.lower_tables.proofs.counts.Tables.{seen_empty}
use Rattle.lower_tables.proofs.counts.Preparing.{none_normalized, still_holds}
use Rattle.lower_tables.proofs.counts.prepared_functions.settle_all.Goals as goal

pub loop-number-init : goal.loop-number-init
loop-number-init c =
    let long : c.len-count.result ≡ length c.args.unit.now.functions.items = grind (arith, common_steps) in
    λ made. record {
      made = made;
      normalized = none_normalized (unit_view c.args.unit.now) (templates_view c.in_ok-all_none.field-0.items) c.in_ok-all_none-2.field-0.items c.len-count.result (long ∙ sym (length-map c.args.unit.now.functions.items function_view)) (seen_empty template_view c.in_ok-all_none.field-0.items c.len-count.result c.in_ok-all_none.ensures) c.in_ok-all_none-2.ensures;
    }

pub loop-number-preserved : goal.loop-number-preserved
loop-number-preserved c = λ made. still_holds (unit_view c.args.unit.now) c.in-Some.number _ _ c.in_ok-settle.ensures (c.loop-number.invariant made)
