use Rattle.std.proofs.Common.{◌≡◌, true, sym}
use Rattle.store_structs.specs.PaddingWrites.{padded_view, place_padded, meets_leaf}
use Rattle.store_struct_leaves.proofs.Somewhere.{somewhere}
use Rattle.store_structs.proofs.padding_writes.meets_leaf.Goals as goal

pub returns-then-place_padded : goal.returns-then-place_padded
unfolding meets_leaf
returns-then-place_padded c =
    let k : place_padded c.args.model.now (padded_view c.args.padded) c.args.leaf c.loop-place.place ≡ true = cc in
    sym (somewhere (place_padded c.args.model.now (padded_view c.args.padded) c.args.leaf) c.args.leaf.count c.loop-place.place c.loop-place-test.true k)
