use Rattle.std.proofs.Common.{map, ap, ◌∙◌, Some, arith, rules, Fits, w32}
use Rattle.std.proofs.lemmas.List.{map-set}
use Rattle.std.specs.Option.{option_map}
use Rattle.c_layout.specs.CheckedUnits.{function_view}
use Rattle.lower_templates.specs.Worklist.Pieces.{template_view}
use Rattle.lower_tables.proofs.counts.prepared_functions.make.Goals as goal

pub returns : goal.returns
returns c = record {
  function = function_view c.in_ok-function.function.now;
  template = template_view c.in_ok-made.made;
  is_template = record { stands = c.in_ok-function.ensures; is_template = c.in_ok-made.ensures };
  few = (let fits : Fits w32 c.in_ok-made.made.labels = search rules in omega (arith, fits));
  comes = ap (λ ts. map (option_map template_view) ts) c.in_ok-put.ensures.items ∙ map-set (option_map template_view) c.args.templates.now.items c.args.number (Some c.in_ok-made.made);
}
