use Rattle.std.proofs.Common.{◌∙◌, length, ap}
use Rattle.std.proofs.lemmas.Result.{IfOk-weaker}
use Rattle.certificate_check.specs.Reading.GreatestRows.{greatest_row}
use Rattle.certificate_check.specs.Reading.MapReading.{head_read, rows_read, blocks_behind, map_rows, map_reading}
use Rattle.certificate_check.proofs.reading.FillLaws.{filled_none}
use Rattle.certificate_check.proofs.reading.map_reading.read_map.Goals as goal

pub returns-in_err-head-clause-filled : goal.returns-in_err-head-clause-filled
returns-in_err-head-clause-filled c = filled_none c.args.pool.now c.args.map.now (length c.args.map.now) (length c.args.map.now) c.requires.vacant c.width-width.ensures.whole

pub returns-clause-reading : goal.returns-clause-reading
unfolding map_reading
returns-clause-reading c =
    let size = length c.args.map.now in
    IfOk-weaker c.read_slots.result _ _
    (λ r h.
    h
    ∙ ap (λ g. blocks_behind g c.args.text.now c.in_ok-head.head size) c.requires.greatest
    ∙ ap (λ r. blocks_behind (greatest_row c.args.flow.now) c.args.text.now r size) c.in_ok-head.ensures
    ∙ ap (blocks_behind (greatest_row c.args.flow.now) c.args.text.now (head_read c.args.flow.now c.args.text.now)) c.requires.size)
    c.read_slots.ensures.reading

pub returns-clause-rows : goal.returns-clause-rows
unfolding map_rows
returns-clause-rows c =
    let size = length c.args.map.now in
    IfOk-weaker c.read_slots.result _ _
    (λ r h.
    h
    ∙ ap (λ g. rows_read g c.args.text.now c.in_ok-head.head size) c.requires.greatest
    ∙ ap (λ r. rows_read (greatest_row c.args.flow.now) c.args.text.now r size) c.in_ok-head.ensures
    ∙ ap (rows_read (greatest_row c.args.flow.now) c.args.text.now (head_read c.args.flow.now c.args.text.now)) c.requires.size)
    c.read_slots.ensures.rows
