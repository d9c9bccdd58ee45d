use Rattle.std.proofs.Common.{◌≡◌, ◌∙◌, ◌+◌, ◌-◌, ◌<◌, ◌≤◌, ◌++◌, length, set, take, ap, sym, arith, rules, length-set}
use Rattle.std.proofs.lemmas.List.{append-nil, take_all}
use Rattle.fixpoint.specs.Solver.RowMap.{slot_row, rows_in}
use Rattle.certificate_check.specs.Reading.BlockReading.{block_read}
use Rattle.certificate_check.specs.Reading.MapReading.{rows_read, blocks_behind}
use Rattle.certificate_check.proofs.reading.FillLaws.{filled_none, filled_wider, filled_more, rows_more, length-rows}
use Rattle.certificate_check.proofs.reading.ReadingSteps.{behind_next, rows_joined}
use Rattle.certificate_check.proofs.reading.map_reading.read_slots.Goals as goal

pub loop-block-init : goal.loop-block-init
loop-block-init c = record {
  filled = filled_none c.args.pool.now c.args.map.now (length c.args.map.now) 0 c.requires.vacant c.requires.whole;
  reading = search rules;
  rows = search rules;
}

pub read_slot-requires-clause-whole : goal.read_slot-requires-clause-whole
read_slot-requires-clause-whole c = c.loop-block.invariant.filled.whole

pub read_slot-requires-clause-room : goal.read_slot-requires-clause-room
read_slot-requires-clause-room c = omega (arith, c.loop-block.invariant.filled.room, c.loop-block.invariant.filled.few, c.requires.room, c.loop-block-test.true, c.loop-block.auto.map)

pub read_slot-requires-clause-width : goal.read_slot-requires-clause-width
read_slot-requires-clause-width c = c.requires.width ∙ sym c.loop-block.invariant.filled.width

pub read_slot-requires-clause-vacant : goal.read_slot-requires-clause-vacant
read_slot-requires-clause-vacant c = c.loop-block.invariant.filled.rest c.loop-block.block (omega arith)

pub returns-in_err-read-clause-filled : goal.returns-in_err-read-clause-filled
returns-in_err-read-clause-filled c =
    let lt : c.loop-block.block < length c.loop-block.map = omega (arith, c.loop-block-test.true, c.loop-block.auto.map) in
    filled_wider c.args.pool.now c.read_slot.new.pool (set c.loop-block.map c.loop-block.block c.read_slot.new.slot) (c.loop-block.block + 1) (length c.args.map.now) (omega (arith, c.loop-block.auto.map))
    (filled_more c.args.pool.now c.loop-block.pool c.read_slot.new.pool c.loop-block.map c.loop-block.block c.read_slot.new.slot lt c.loop-block.invariant.filled c.read_slot.ensures.changed)

pub loop-block-preserved : goal.loop-block-preserved
loop-block-preserved c =
    let greatest = c.args.greatest.now in
    let text = c.args.text.now in
    let block = c.loop-block.block in
    let slots = c.loop-block.map in
    let slot = c.read_slot.new.slot in
    let read = block_read greatest text c.loop-block.read in
    let lt : block < length slots = omega (arith, c.loop-block-test.true, c.loop-block.auto.map) in
    let size : length (set slots block slot) ≡ length slots = length-set slots block slot in
    let left : length (set slots block slot) - (block + 1) ≡ length slots - (block + 1) = ap (λ n. n - (block + 1)) size in
    let one : length slots - block ≡ length slots - (block + 1) + 1 = omega arith in
    let more = take (block + 1) (rows_in c.read_slot.new.pool (set slots block slot)) in
    record {
      filled = filled_more c.args.pool.now c.loop-block.pool c.read_slot.new.pool slots block slot lt c.loop-block.invariant.filled c.read_slot.ensures.changed;
      reading =
          ap (λ r. blocks_behind greatest text r (length (set slots block slot) - (block + 1))) c.in_ok-read.ensures.reading
          ∙ ap (blocks_behind greatest text read.reading) left
          ∙ sym (behind_next greatest text c.loop-block.read (length slots - block) (length slots - (block + 1)) one)
          ∙ c.loop-block.invariant.reading
          ∙ ap (blocks_behind greatest text c.args.reading) (sym size);
      rows =
          ap (λ r. more ++ rows_read greatest text r (length (set slots block slot) - (block + 1))) c.in_ok-read.ensures.reading
          ∙ ap (λ n. more ++ rows_read greatest text read.reading n) left
          ∙ rows_joined greatest text c.loop-block.read (take block (rows_in c.loop-block.pool slots)) more (slot_row c.read_slot.new.pool slot) (length slots - block) (length slots - (block + 1)) one c.in_ok-read.ensures.row
          (rows_more c.args.pool.now c.loop-block.pool c.read_slot.new.pool slots block slot lt c.loop-block.invariant.filled c.read_slot.ensures.changed)
          ∙ c.loop-block.invariant.rows
          ∙ ap (rows_read greatest text c.args.reading) (sym size);
    }

pub returns-clause-filled : goal.returns-clause-filled
returns-clause-filled c =
    filled_wider c.args.pool.now c.loop-block.pool c.loop-block.map c.loop-block.block (length c.args.map.now) (omega (arith, c.loop-block.auto.block-end, c.loop-block.auto.map)) c.loop-block.invariant.filled

pub returns-clause-reading : goal.returns-clause-reading
returns-clause-reading c =
    let none : length c.loop-block.map - c.loop-block.block ≡ 0 = omega (arith, c.loop-block-test.false, c.loop-block.auto.map) in
    ap (λ n. blocks_behind c.args.greatest.now c.args.text.now c.loop-block.read n) (sym none)
    ∙ c.loop-block.invariant.reading
    ∙ ap (blocks_behind c.args.greatest.now c.args.text.now c.args.reading) c.loop-block.auto.map

pub returns-clause-rows : goal.returns-clause-rows
returns-clause-rows c =
    let rows = rows_in c.loop-block.pool c.loop-block.map in
    let none : length c.loop-block.map - c.loop-block.block ≡ 0 = omega (arith, c.loop-block-test.false, c.loop-block.auto.map) in
    let few : length rows ≤ c.loop-block.block = omega (arith, length-rows c.loop-block.pool c.loop-block.map, c.loop-block-test.false, c.loop-block.auto.map) in
    sym (take_all c.loop-block.block rows few)
    ∙ sym (append-nil (take c.loop-block.block rows))
    ∙ ap (λ n. take c.loop-block.block rows ++ rows_read c.args.greatest.now c.args.text.now c.loop-block.read n) (sym none)
    ∙ c.loop-block.invariant.rows
    ∙ ap (rows_read c.args.greatest.now c.args.text.now c.args.reading) c.loop-block.auto.map
