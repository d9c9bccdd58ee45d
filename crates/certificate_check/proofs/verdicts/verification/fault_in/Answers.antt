use Rattle.std.proofs.Common.{◌≡◌, ◌∙◌, refl, sym}
use Rattle.fixpoint.specs.Pool.Pool.{row_of}
use Rattle.fixpoint.specs.Solver.RowMap.{rows_in}
use Rattle.certificate_check.specs.Reading.GreatestRows.{cert_numbers}
use Rattle.certificate_check.proofs.verdicts.KeptMaps.{rows_kept, held_beside, borrowed, own_under, fault_under}
use Rattle.certificate_check.proofs.verdicts.verification.fault_in.Goals as goal

pub first_fault-fault-requires-clause-held : goal.first_fault-fault-requires-clause-held
first_fault-fault-requires-clause-held g c =
    let took = c.take_row-spare in
    held_beside c.args.pool.now took.new.pool c.args.map.now took.result.index c.requires.held took.ensures.free took.ensures.whole took.ensures.in_use took.ensures.others

pub first_fault-fault-requires-clause-own : goal.first_fault-fault-requires-clause-own
first_fault-fault-requires-clause-own g c =
    let took = c.take_row-spare in
    own_under c.system-equations.result.flow.now c.args.flow.now c.system-equations.result.list.now cert_numbers (rows_in took.new.pool c.args.map.now) (rows_in c.args.pool.now c.args.map.now)
    c.system-equations.ensures.flow (c.system-equations.ensures.list ∙ c.requires.list)
    (rows_kept c.args.pool.now took.new.pool c.args.map.now (λ b i e. took.ensures.kept i (c.requires.held.taken b i e)))
    c.requires.own

pub returns-clause-kept : goal.returns-clause-kept
returns-clause-kept g c =
    let took = c.take_row-spare in
    borrowed c.args.pool.now took.new.pool c.first_fault-fault.new.pool c.give.new.self took.result.index took.ensures.free took.ensures.taken took.ensures.others took.ensures.kept took.ensures.count
    c.first_fault-fault.ensures.same_but c.give.ensures.free c.give.ensures.others c.give.ensures.count c.width-width.ensures.whole

pub returns-clause-fault : goal.returns-clause-fault
returns-clause-fault g c =
    let took = c.take_row-spare in
    fault_under c.system-equations.result.flow.now c.args.flow.now c.system-equations.result.list.now cert_numbers (rows_in took.new.pool c.args.map.now) (rows_in c.args.pool.now c.args.map.now) c.first_fault-fault.result
    c.system-equations.ensures.flow (c.system-equations.ensures.list ∙ c.requires.list)
    (rows_kept c.args.pool.now took.new.pool c.args.map.now (λ b i e. took.ensures.kept i (c.requires.held.taken b i e)))
    c.first_fault-fault.ensures.fault
