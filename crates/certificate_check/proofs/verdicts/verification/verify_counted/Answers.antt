use Rattle.std.proofs.Common.{◌≡◌, ◌∙◌, true, IfOk, ap, sym, subst, arith}
use Rattle.fixpoint.specs.Solver.RowMap.{rows_in}
use Rattle.certificate_check.specs.Verdicts.Verdicts.{is_yes, IsVerdictOn}
use Rattle.certificate_check.proofs.verdicts.verification.verify_counted.Goals as goal

pub returns-clause-verdict : goal.returns-clause-verdict
returns-clause-verdict g c = subst (λ r. IfOk r (IsVerdictOn c.args.flow.now c.args.cert.now)) (sym c.settle.ensures.answer) c.judge-answer.ensures.verdict

pub returns-clause-rows : goal.returns-clause-rows
returns-clause-rows g c = λ yes.
    let was : is_yes c.judge-answer.result ≡ true = ap is_yes (sym c.settle.ensures.answer) ∙ yes in
    let same = c.settle.ensures.yes was in
    ap (λ p. rows_in p c.settle.new.map) same.0 ∙ ap (rows_in c.judge-answer.new.pool) same.1 ∙ c.judge-answer.ensures.rows was

pub returns-clause-others : goal.returns-clause-others
returns-clause-others g c = λ s t.
    let was = c.judge-answer.ensures.filled.others s t in
    let now = c.settle.ensures.others s was.0 was.2 in
    (now.0, now.1 ∙ was.1, now.2)
