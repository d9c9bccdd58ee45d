use Rattle.std.proofs.Common.{◌≡◌, ◌++◌, slice_index_or, None, rules}
use Rattle.fixpoint.specs.Solver.RowMap.{slot_row}
use Rattle.certificate_text.specs.Maps.MapTexts.{block_text}
use Rattle.certificate_text.proofs.maps.MapSteps.{next_block}
use Rattle.certificate_text.proofs.maps.map_texts.blocks_text.Goals as goal

pub loop-block-preserved : goal.loop-block-preserved
loop-block-preserved c =
    let added : c.extend_from_slice.new.self.items ≡ c.loop-block.text.items ++ block_text (slot_row c.args.pool.now (slice_index_or c.args.map.now c.loop-block.block None)) = search rules in
    next_block c.args.pool.now c.args.map.now c.loop-block.block None c.loop-block.text.items c.extend_from_slice.new.self.items _ c.loop-block-test.true added c.loop-block.invariant
