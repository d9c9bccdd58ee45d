use Rattle.std.proofs.Common.{◌≡◌, ◌∙◌, length, replicate, None, Some, ap, sym, subst, arith}
use Rattle.std.proofs.lemmas.List.{length-replicate}
use Rattle.fixpoint.specs.Solver.RowMap.{rows_in}
use Rattle.certificate_check.specs.ClosedMaps.MapFaults.{IsFirstFault}
use Rattle.certificate_check.specs.Reading.TextPlaces.{line_number}
use Rattle.certificate_check.specs.Reading.MapReading.{is_whole}
use Rattle.certificate_check.proofs.reading.FillLaws.{filled_none}
use Rattle.certificate_check.specs.Verdicts.Verdicts.{cert_cells, cert_machine, IsRefusedFor}
use Rattle.certificate_check.proofs.verdicts.KeptMaps.{filled_kept, kept_map, read_own, refused_as}
use Rattle.certificate_check.proofs.verdicts.verification.judge.Goals as goal

pub returns-in_err-list-clause-filled : goal.returns-in_err-list-clause-filled
returns-in_err-list-clause-filled g c = filled_none c.args.pool.now c.args.map.now (length c.args.flow.now.blocks.items) (length c.args.map.now) c.requires.vacant c.requires.whole

pub returns-in_err-greatest-clause-filled : goal.returns-in_err-greatest-clause-filled
returns-in_err-greatest-clause-filled g c = filled_none c.args.pool.now c.args.map.now (length c.args.flow.now.blocks.items) (length c.args.map.now) c.requires.vacant c.requires.whole

pub returns-in_err-row-clause-filled : goal.returns-in_err-row-clause-filled
returns-in_err-row-clause-filled g c = filled_none c.args.pool.now c.args.map.now (length c.args.flow.now.blocks.items) (length c.args.map.now) c.requires.vacant c.requires.whole

pub read_map-requires-clause-size : goal.read_map-requires-clause-size
read_map-requires-clause-size g c = ap length c.requires.vacant ∙ length-replicate (length c.args.flow.now.blocks.items) None

pub read_map-requires-clause-vacant : goal.read_map-requires-clause-vacant
read_map-requires-clause-vacant g c =
    let size : length c.args.map.now ≡ length c.args.flow.now.blocks.items = ap length c.requires.vacant ∙ length-replicate (length c.args.flow.now.blocks.items) None in
    c.requires.vacant ∙ ap (λ n. replicate n None) (sym size)

pub read_map-requires-clause-room : goal.read_map-requires-clause-room
read_map-requires-clause-room g c =
    let size : length c.args.map.now ≡ length c.args.flow.now.blocks.items = ap length c.requires.vacant ∙ length-replicate (length c.args.flow.now.blocks.items) None in
    omega (arith, c.requires.room)

pub returns-then-not-is_whole-clause-verdict : goal.returns-then-not-is_whole-clause-verdict
returns-then-not-is_whole-clause-verdict g c =
    let read = c.in_ok-reading.ensures.reading in
    (ap (is_whole c.args.cert.now) (sym read) ∙ sym c.is_whole.ensures ∙ c.if-not-is_whole.true, c.line_number.ensures ∙ ap (λ r. line_number c.args.cert.now r.at) read)

pub fault_in-requires-clause-width : goal.fault_in-requires-clause-width
fault_in-requires-clause-width g c = c.read_map.ensures.filled.width ∙ c.requires.width

pub fault_in-requires-clause-size : goal.fault_in-requires-clause-size
fault_in-requires-clause-size g c = c.read_map.auto.map ∙ ap length c.requires.vacant ∙ length-replicate (length c.args.flow.now.blocks.items) None

pub fault_in-requires-clause-held : goal.fault_in-requires-clause-held
fault_in-requires-clause-held g c = c.read_map.ensures.filled.held

pub fault_in-requires-clause-room : goal.fault_in-requires-clause-room
fault_in-requires-clause-room g c =
    let size : length c.args.map.now ≡ length c.args.flow.now.blocks.items = ap length c.requires.vacant ∙ length-replicate (length c.args.flow.now.blocks.items) None in
    omega (arith, c.requires.room, c.read_map.ensures.filled.room, c.read_map.ensures.filled.few)

pub fault_in-requires-clause-own : goal.fault_in-requires-clause-own
fault_in-requires-clause-own g c = read_own c.args.flow.now c.args.cert.now (rows_in c.read_map.new.pool c.read_map.new.map) c.in_ok-reading.ensures.rows

pub returns-in-None-clause-filled : goal.returns-in-None-clause-filled
returns-in-None-clause-filled g c = filled_kept c.args.pool.now c.read_map.new.pool c.fault_in.new.pool c.read_map.new.map (length c.args.map.now) c.read_map.ensures.filled c.fault_in.ensures.kept

pub returns-in-None-clause-verdict : goal.returns-in-None-clause-verdict
returns-in-None-clause-verdict g c =
    let read = c.in_ok-reading.ensures.reading in (
      ap (is_whole c.args.cert.now) (sym read) ∙ sym c.is_whole.ensures ∙ c.if-not-is_whole.false,
      subst (λ rows. IsFirstFault cert_cells (cert_machine c.args.flow.now) rows None) c.in_ok-reading.ensures.rows c.in-None.ensures.fault,
    )

pub returns-in-None-clause-rows : goal.returns-in-None-clause-rows
returns-in-None-clause-rows g c = λ yes.
    kept_map c.args.pool.now c.read_map.new.pool c.fault_in.new.pool c.read_map.new.map (length c.args.map.now) c.read_map.ensures.filled c.fault_in.ensures.kept ∙ c.in_ok-reading.ensures.rows

pub returns-clause-filled : goal.returns-clause-filled
returns-clause-filled g c = filled_kept c.args.pool.now c.read_map.new.pool c.fault_in.new.pool c.read_map.new.map (length c.args.map.now) c.read_map.ensures.filled c.fault_in.ensures.kept

pub returns-clause-verdict : goal.returns-clause-verdict
returns-clause-verdict g c =
    let read = c.in_ok-reading.ensures.reading in
    subst (IsRefusedFor c.args.flow.now c.args.cert.now) (sym c.fault_of.ensures)
    (refused_as c.args.flow.now c.args.cert.now c.in-Some.fault (
      ap (is_whole c.args.cert.now) (sym read) ∙ sym c.is_whole.ensures ∙ c.if-not-is_whole.false,
      subst (λ rows. IsFirstFault cert_cells (cert_machine c.args.flow.now) rows (Some c.in-Some.fault)) c.in_ok-reading.ensures.rows c.in-Some.ensures.fault,
    ))
