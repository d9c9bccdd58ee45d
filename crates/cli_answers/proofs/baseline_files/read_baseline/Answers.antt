use Rattle.std.proofs.Common.{sym, subst}
use Rattle.std.proofs.lemmas.Result.{IfOk-weaker}
use Rattle.cc_base.specs.Outside.{Holds}
use Rattle.c_preproc.specs.Causes.{seen_of}
use Rattle.cli_answers.proofs.Gating.{held_baseline, no_further}
use Rattle.cli_answers.specs.Gates.{IsFurther}
use Rattle.cli_answers.proofs.baseline_files.read_baseline.Goals as goal

pub returns-in-Held-clause-baseline : goal.returns-in-Held-clause-baseline
returns-in-Held-clause-baseline g c =
    let seen = seen_of (g.T.Tree.files c.args.tree.now) (g.T.Tree.faults c.args.tree.now) (g.T.Tree.faults c.read_further.new.tree) (g.T.Tree.taken c.args.tree.now) (g.T.Tree.taken c.read_further.new.tree) in
    let held = subst (λ f. IsFurther seen c.args.name.now f) c.in-Held.is c.in_ok-bytes.ensures.further in
    IfOk-weaker c.baseline_of.result _ _ (λ b h. held_baseline seen c.args.name.now c.as_slice.result.now b (subst (λ x. Holds seen.files c.args.name.now x) (sym c.as_slice.ensures.value) held.0) h) c.baseline_of.ensures.baseline

pub returns-in-Refused-clause-baseline : goal.returns-in-Refused-clause-baseline
returns-in-Refused-clause-baseline g c =
    let seen = seen_of (g.T.Tree.files c.args.tree.now) (g.T.Tree.faults c.args.tree.now) (g.T.Tree.faults c.read_further.new.tree) (g.T.Tree.taken c.args.tree.now) (g.T.Tree.taken c.read_further.new.tree) in
    no_further seen c.args.name.now c.in-Refused.answer.status c.in-Refused.answer.text.items (subst (λ f. IsFurther seen c.args.name.now f) c.in-Refused.is c.in_ok-bytes.ensures.further)
