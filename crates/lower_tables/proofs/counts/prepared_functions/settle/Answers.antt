use Rattle.std.proofs.Common.{map, ap, sym, subst, ◌∙◌, ◌<◌, Some, None}
use Rattle.std.proofs.lemmas.List.{map-set, length-map}
use Rattle.std.specs.Option.{option_map}
use Rattle.c_layout.specs.CheckedUnits.{unit_view}
use Rattle.lower_templates.specs.Worklist.Pieces.{template_view}
use Rattle.lower_tables.specs.Counts.PreparingSteps.{IsCounting}
use Rattle.lower_tables.proofs.counts.Tables.{seen_at}
use Rattle.lower_tables.proofs.counts.prepared_functions.settle.Goals as goal

pub returns : goal.returns
returns c = record {
  template = template_view c.in_ok-made.made;
  settles = template_view c.in_ok-made-2.made;
  counts = c.in_ok-made-2.counts;
  was = seen_at (option_map template_view) c.args.plain.now.items c.args.number (Some c.in_ok-made.made) c.in_ok-made.ensures.value;
  counting = subst (λ table. IsCounting (unit_view c.args.unit.now) c.args.number (template_view c.in_ok-made.made) table (template_view c.in_ok-made-2.made) c.in_ok-made-2.counts) c.as_slice.ensures.value c.in_ok-made-2.ensures;
  within = subst (λ n. c.args.number < n) (sym (length-map c.args.prepared.now.templates.items (option_map template_view))) c.in_ok-put.ensures.within;
  plain = ap (λ ts. map (option_map template_view) ts) c.in_ok-made.ensures.items ∙ map-set (option_map template_view) c.args.plain.now.items c.args.number None;
  templates = ap (λ ts. map (option_map template_view) ts) c.in_ok-put.ensures.items ∙ map-set (option_map template_view) c.args.prepared.now.templates.items c.args.number (Some c.in_ok-made-2.made);
  table = c.in_ok-put-2.ensures.items;
}
