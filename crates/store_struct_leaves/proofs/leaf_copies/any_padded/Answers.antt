use Rattle.std.proofs.Common.{◌≡◌, true, sym}
use Rattle.store_struct_leaves.specs.LeafCopies.{window_padded, any_padded}
use Rattle.store_struct_leaves.proofs.Somewhere.{somewhere}
use Rattle.store_struct_leaves.proofs.leaf_copies.any_padded.Goals as goal

pub returns-then-meets_padding : goal.returns-then-meets_padding
unfolding any_padded
returns-then-meets_padding c =
    let k : window_padded c.args.model.now c.args.base.now c.args.span c.loop-number.number ≡ true = cc in
    sym (somewhere (window_padded c.args.model.now c.args.base.now c.args.span) c.args.span.count c.loop-number.number c.loop-number-test.true k)
