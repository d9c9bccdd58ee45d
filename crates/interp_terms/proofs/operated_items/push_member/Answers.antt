use Rattle.std.proofs.Common.{refl}
use Rattle.c_layout.specs.CheckedUnits.{unit_view}
use Rattle.interp_terms.proofs.operated_items.push_member.Goals as goal

pub returns : goal.returns
returns c =
    let u = unit_view c.args.unit.now in
    rw (c.in_ok-push_item.ensures u, c.in_ok-push_on_lvalue.ensures u, c.in_ok-size.ensures) refl
