use Rattle.std.proofs.Common.{◌≡◌, true, sym}
use Rattle.store_struct_leaves.specs.CopyPlaces.{window_meets, each_meets}
use Rattle.store_struct_leaves.proofs.Somewhere.{somewhere}
use Rattle.store_struct_leaves.proofs.copy_places.each_meets.Goals as goal

pub returns-then-has_place_in : goal.returns-then-has_place_in
unfolding each_meets
returns-then-has_place_in c =
    let k : window_meets c.args.leaf c.args.span c.loop-number.number ≡ true = cc in
    sym (somewhere (window_meets c.args.leaf c.args.span) c.args.span.count c.loop-number.number c.loop-number-test.true k)
