use Rattle.std.proofs.Common.{sym, subst}
use Rattle.std.proofs.lemmas.Result.{IfOk-weaker}
use Rattle.cc_base.specs.Outside.{Holds}
use Rattle.c_preproc.specs.Causes.{seen_of}
use Rattle.cli_answers.proofs.Running.{held_draws, no_further_draws}
use Rattle.cli_answers.specs.Gates.{IsFurther}
use Rattle.cli_answers.proofs.draws_files.draws_of_file.Goals as goal

pub returns-in-Held-clause-draws : goal.returns-in-Held-clause-draws
returns-in-Held-clause-draws g c =
    let seen = seen_of (g.T.Tree.files c.args.tree.now) (g.T.Tree.faults c.args.tree.now) (g.T.Tree.faults c.read_further.new.tree) (g.T.Tree.taken c.args.tree.now) (g.T.Tree.taken c.read_further.new.tree) in
    let held = subst (λ f. IsFurther seen c.args.name.now f) c.in-Held.is c.in_ok-bytes.ensures.further in
    IfOk-weaker c.draws_of.result _ _ (λ b h. held_draws seen c.args.name.now c.as_slice.result.now b (subst (λ x. Holds seen.files c.args.name.now x) (sym c.as_slice.ensures.value) held.0) h) c.draws_of.ensures.draws

pub returns-in-Refused-clause-draws : goal.returns-in-Refused-clause-draws
returns-in-Refused-clause-draws g c =
    let seen = seen_of (g.T.Tree.files c.args.tree.now) (g.T.Tree.faults c.args.tree.now) (g.T.Tree.faults c.read_further.new.tree) (g.T.Tree.taken c.args.tree.now) (g.T.Tree.taken c.read_further.new.tree) in
    no_further_draws seen c.args.name.now c.in-Refused.answer.status c.in-Refused.answer.text.items (subst (λ f. IsFurther seen c.args.name.now f) c.in-Refused.is c.in_ok-bytes.ensures.further)
