use Rattle.std.proofs.Common.{inl, inr, map, string_bytes}
use Rattle.std.proofs.lemmas.Result.{IfOk-weaker}
use Rattle.c_preproc.specs.Causes.{seen_of}
use Rattle.cli_words.specs.Words.Requests.{command_view}
use Rattle.cli_answers.specs.Verdicts.{cert_setting}
use Rattle.cli_answers.specs.declared.further_files.Further.TheVariants as further
use Rattle.cli_answers.proofs.Certified.{further_read_in, with_cert}
use Rattle.cli_answers.proofs.certificate_decision.checked_by_file.Goals as goal

pub returns-in-Held-clause-called : goal.returns-in-Held-clause-called
returns-in-Held-clause-called g c =
    let seen = seen_of (g.T.Tree.files c.args.tree.now) (g.T.Tree.faults c.args.tree.now) (g.T.Tree.faults c.read_further.new.tree) (g.T.Tree.taken c.args.tree.now) (g.T.Tree.taken c.read_further.new.tree) in
    let held = further_read_in seen c.as_str.result.now (string_bytes c.args.asked.now.cert) c.in_ok-bytes.field-0 (further.Held c.in-Held.bytes) c.as_str.ensures.value c.in-Held.is c.in_ok-bytes.ensures.further in
    IfOk-weaker c.verified.result _ _
    (λ a h. inr (with_cert (g.T.Tree.files c.args.tree.now) (string_bytes c.args.asked.now.cert) (cert_setting (command_view c.args.asked.now.command) c.args.model.now) c.args.unit.now c.in-Held.bytes.items c.as_slice.result.now (map string_bytes c.args.files.now) (string_bytes c.args.asked.now.command.unit) a.status a.text.items held c.as_slice.ensures.value h))
    c.verified.ensures.called

pub returns-in-Refused-clause-called : goal.returns-in-Refused-clause-called
returns-in-Refused-clause-called g c =
    let seen = seen_of (g.T.Tree.files c.args.tree.now) (g.T.Tree.faults c.args.tree.now) (g.T.Tree.faults c.read_further.new.tree) (g.T.Tree.taken c.args.tree.now) (g.T.Tree.taken c.read_further.new.tree) in
    inl (further_read_in seen c.as_str.result.now (string_bytes c.args.asked.now.cert) c.in_ok-bytes.field-0 (further.Refused c.in-Refused.answer) c.as_str.ensures.value c.in-Refused.is c.in_ok-bytes.ensures.further)
