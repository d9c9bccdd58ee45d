use Rattle.std.proofs.Common.{◌≡◌, ◌∙◌, map, length, ap, arith}
use Rattle.c_layout.specs.CheckedUnits.{static_store_view}
use Rattle.c_types_statement_rules.specs.Objects.Changes.{changed}
use Rattle.c_types_statement_rules.specs.Objects.UnitObjects.{bounded_store}
use Rattle.c_types_statement_rules.proofs.objects.InPlace.{next_done, all_seen}
use Rattle.c_types_statement_rules.proofs.objects.unit_objects.bound_stores.Goals as goal

pub loop-at-preserved : goal.loop-at-preserved
loop-at-preserved c =
    c.bound_at.ensures
    ∙ ap (changed (bounded_store c.args.sizes.now) c.loop-at.at) c.loop-at.invariant
    ∙ next_done (bounded_store c.args.sizes.now) c.loop-at.at (map static_store_view c.args.stores.now.items)

pub returns : goal.returns
returns c =
    let len : c.args.stores.now.len ≡ length c.args.stores.now.items = c.args.stores.now.ok.0 in
    let all : c.loop-at.at ≡ length c.args.stores.now.items = omega (arith, len) in
    c.loop-at.invariant ∙ all_seen static_store_view (bounded_store c.args.sizes.now) c.args.stores.now.items c.loop-at.at all
