use Rattle.std.proofs.Common.{◌∙◌, ap, Err}
use Rattle.c_preproc.specs.Causes.{seen_of}
use Rattle.cli_answers.proofs.Gating.{absent_further, long_further}
use Rattle.cli_answers.proofs.further_files.read_further.Goals as goal

pub returns-in-Err-Missing-clause-further : goal.returns-in-Err-Missing-clause-further
returns-in-Err-Missing-clause-further g c =
    let seen = seen_of (g.T.Tree.files c.args.tree.now) (g.T.Tree.faults c.args.tree.now) (g.T.Tree.faults c.read.new.self) (g.T.Tree.taken c.args.tree.now) (g.T.Tree.taken c.read.new.self) in
    let lacks = c.read.ensures.missing (c.in-Err-Missing.is ∙ ap Err c.in-Err-Missing.field-0-is) in
    absent_further seen c.args.name.now c.in_ok-no_file-in-Err-Missing.field-0 lacks c.in_ok-no_file-in-Err-Missing.ensures.status c.in_ok-no_file-in-Err-Missing.ensures.text

pub returns-in-Err-TooLong-clause-further : goal.returns-in-Err-TooLong-clause-further
returns-in-Err-TooLong-clause-further g c =
    let seen = seen_of (g.T.Tree.files c.args.tree.now) (g.T.Tree.faults c.args.tree.now) (g.T.Tree.faults c.read.new.self) (g.T.Tree.taken c.args.tree.now) (g.T.Tree.taken c.read.new.self) in
    let long = c.read.ensures.too_long (c.in-Err-TooLong.is ∙ ap Err c.in-Err-TooLong.field-0-is) in
    long_further seen c.args.name.now c.in_ok-file_too_long-in-Err-TooLong.field-0 long c.in_ok-file_too_long-in-Err-TooLong.ensures.status c.in_ok-file_too_long-in-Err-TooLong.ensures.text
