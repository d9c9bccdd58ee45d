use Rattle.std.proofs.lemmas.Option.{IfSome_then, slice_get_read}
use Rattle.std.proofs.Common.{◌≡◌, map, length, refl, subst, Some}
use Rattle.std.specs.List.{slice_get}
use Rattle.std.specs.Option.{option_map}
use Rattle.lower_templates.specs.Worklist.Pieces.{piece_view, template_view}
use Rattle.lower_tables.specs.Counts.Preparations.{Calls}
use Rattle.lower_tables.proofs.counts.Tables.{seen_at}
use Rattle.lower_tables.proofs.counts.prepared_functions.next_call.Goals as goal

pub returns-in-Some-found : goal.returns-in-Some-found
returns-in-Some-found c =
    let (a, same, k, (within, e), f) = c.in-Some.ensures.lookup in
    let found = slice_get_read c.args.templates.now (length c.args.templates.now) c.args.pending.function c.in-Some.found.now refl within same in
    let is = subst (λ o. slice_get c.args.templates.now c.args.pending.function ≡ Some o) c.in-Some-found.is found in
    IfSome_then c.next_in.result c.next_in.ensures (λ n calls. (template_view c.in-Some-found.template, seen_at (option_map template_view) c.args.templates.now c.args.pending.function (Some c.in-Some-found.template) is, subst (λ ps. Calls (map piece_view ps) n.0) c.as_slice.ensures.value calls))
