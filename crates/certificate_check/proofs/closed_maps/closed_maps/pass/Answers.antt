use Rattle.std.proofs.Common.{◌≡◌, ◌∙◌, ap, sym, subst, arith, true, Some, None}
use Rattle.fixpoint.proofs.solver.SpareLaws.{copied-row, rewritten-same_but, rewritten-row}
use Rattle.certificate_check.proofs.closed_maps.closed_maps.pass.Goals as goal

pub flow-requires-clause-own : goal.flow-requires-clause-own
flow-requires-clause-own g c =
    subst (λ r. (g.S.System.machine c.args.system.now).own r ≡ true)
    (sym (c.row_mut.ensures.value
    ∙ copied-row c.args.pool.now c.copy.new.self c.args.row.now.index c.args.spare.now.index c.requires.whole c.requires.taken c.requires.spare c.copy.ensures))
    c.requires.own

pub returns-clause-same_but : goal.returns-clause-same_but
returns-clause-same_but g c =
    rewritten-same_but c.args.pool.now c.copy.new.self c.args.row.now.index c.args.spare.now.index c.requires.whole c.requires.taken c.requires.spare c.copy.ensures
    c.flow.new.row (omega (arith, c.flow.auto.row, c.row_mut.ensures.len))

pub returns-clause-reached : goal.returns-clause-reached
returns-clause-reached g c = λ t.
    subst (λ r. (g.S.System.machine c.args.system.now).through c.args.edge r ≡ Some c.flow.new.row)
    (c.row_mut.ensures.value
    ∙ copied-row c.args.pool.now c.copy.new.self c.args.row.now.index c.args.spare.now.index c.requires.whole c.requires.taken c.requires.spare c.copy.ensures)
    (c.flow.ensures.reached t)
    ∙ ap Some (sym (rewritten-row c.args.pool.now c.copy.new.self c.args.row.now.index c.args.spare.now.index c.requires.whole c.requires.taken c.requires.spare c.copy.ensures
    c.flow.new.row (omega (arith, c.flow.auto.row, c.row_mut.ensures.len))))

pub returns-clause-unreached : goal.returns-clause-unreached
returns-clause-unreached g c = λ t.
    subst (λ r. (g.S.System.machine c.args.system.now).through c.args.edge r ≡ None)
    (c.row_mut.ensures.value
    ∙ copied-row c.args.pool.now c.copy.new.self c.args.row.now.index c.args.spare.now.index c.requires.whole c.requires.taken c.requires.spare c.copy.ensures)
    (c.flow.ensures.unreached t)
