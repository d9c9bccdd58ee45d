use Rattle.std.proofs.Common.{◌∙◌, ap, sym, subst, Err}
use Rattle.std.proofs.lemmas.Result.{IfOk-weaker}
use Rattle.cc_base.specs.Outside.{Holds}
use Rattle.c_preproc.specs.Causes.{seen_of}
use Rattle.cli_answers.proofs.Choosing.{read_choice, absent_choice, long_choice}
use Rattle.cli_answers.proofs.model_choice.choice_of_file.Goals as goal

pub returns-in-Ok-clause-choice : goal.returns-in-Ok-clause-choice
returns-in-Ok-clause-choice g c =
    let seen = seen_of (g.T.Tree.files c.args.tree.now) (g.T.Tree.faults c.args.tree.now) (g.T.Tree.faults c.read.new.self) (g.T.Tree.taken c.args.tree.now) (g.T.Tree.taken c.read.new.self) in
    let held = subst (λ b. Holds (g.T.Tree.files c.args.tree.now) c.args.name.now b) (sym c.as_slice.ensures.value) c.in-Ok.ensures.ok in
    IfOk-weaker c.choice_of_bytes.result _ _ (λ choice h. read_choice seen c.args.name.now c.as_slice.result.now choice c.requires held h) c.choice_of_bytes.ensures.choice

pub returns-in-Err-Missing-clause-choice : goal.returns-in-Err-Missing-clause-choice
returns-in-Err-Missing-clause-choice g c =
    let seen = seen_of (g.T.Tree.files c.args.tree.now) (g.T.Tree.faults c.args.tree.now) (g.T.Tree.faults c.read.new.self) (g.T.Tree.taken c.args.tree.now) (g.T.Tree.taken c.read.new.self) in
    let lacks = c.read.ensures.missing (c.in-Err-Missing.is ∙ ap Err c.in-Err-Missing.field-0-is) in
    absent_choice seen c.args.name.now c.in_ok-no_file-in-Err-Missing.field-0 c.requires lacks c.in_ok-no_file-in-Err-Missing.ensures.status c.in_ok-no_file-in-Err-Missing.ensures.text

pub returns-in-Err-TooLong-clause-choice : goal.returns-in-Err-TooLong-clause-choice
returns-in-Err-TooLong-clause-choice g c =
    let seen = seen_of (g.T.Tree.files c.args.tree.now) (g.T.Tree.faults c.args.tree.now) (g.T.Tree.faults c.read.new.self) (g.T.Tree.taken c.args.tree.now) (g.T.Tree.taken c.read.new.self) in
    let long = c.read.ensures.too_long (c.in-Err-TooLong.is ∙ ap Err c.in-Err-TooLong.field-0-is) in
    long_choice seen c.args.name.now c.in_ok-file_too_long-in-Err-TooLong.field-0 c.requires long c.in_ok-file_too_long-in-Err-TooLong.ensures.status c.in_ok-file_too_long-in-Err-TooLong.ensures.text
