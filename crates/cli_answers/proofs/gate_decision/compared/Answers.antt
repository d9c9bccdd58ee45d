use Rattle.std.proofs.Common.{inl, inr, map, string_bytes}
use Rattle.std.proofs.lemmas.Result.{IfOk-weaker}
use Rattle.c_preproc.specs.Causes.{seen_of}
use Rattle.cli_words.specs.Words.Requests.{command_view}
use Rattle.cli_answers.specs.Verdicts.{gate_setting}
use Rattle.cli_answers.specs.declared.baseline_files.Baseline.TheVariants as baseline
use Rattle.cli_answers.proofs.Gating.{baseline_read_in, against}
use Rattle.cli_answers.proofs.gate_decision.compared.Goals as goal

pub returns-in-Read-clause-called : goal.returns-in-Read-clause-called
returns-in-Read-clause-called g c =
    let seen = seen_of (g.T.Tree.files c.args.tree.now) (g.T.Tree.faults c.args.tree.now) (g.T.Tree.faults c.read_baseline.new.tree) (g.T.Tree.taken c.args.tree.now) (g.T.Tree.taken c.read_baseline.new.tree) in
    let is = baseline_read_in seen c.as_str.result.now (string_bytes c.args.gate.now.base) c.in_ok-known.field-0 (baseline.Read c.in-Read.known) c.as_str.ensures.value c.in-Read.is c.in_ok-known.ensures.baseline in
    IfOk-weaker c.gated.result _ _
    (λ a h. inr (against (g.T.Tree.files c.args.tree.now) (string_bytes c.args.gate.now.base) (gate_setting (command_view c.args.gate.now.command) c.args.model.now) c.args.unit.now c.in-Read.known.items c.as_slice.result.now (map string_bytes c.args.files.now) (string_bytes c.args.gate.now.command.unit) a.status a.text.items is c.as_slice.ensures.value h))
    c.gated.ensures.called

pub returns-in-Refused-clause-called : goal.returns-in-Refused-clause-called
returns-in-Refused-clause-called g c =
    let seen = seen_of (g.T.Tree.files c.args.tree.now) (g.T.Tree.faults c.args.tree.now) (g.T.Tree.faults c.read_baseline.new.tree) (g.T.Tree.taken c.args.tree.now) (g.T.Tree.taken c.read_baseline.new.tree) in
    inl (baseline_read_in seen c.as_str.result.now (string_bytes c.args.gate.now.base) c.in_ok-known.field-0 (baseline.Refused c.in-Refused.answer) c.as_str.ensures.value c.in-Refused.is c.in_ok-known.ensures.baseline)
