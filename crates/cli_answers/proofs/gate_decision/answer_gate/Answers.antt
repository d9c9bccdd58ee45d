use Rattle.std.proofs.Common.{string_bytes}
use Rattle.std.proofs.lemmas.Result.{IfOk-weaker}
use Rattle.cli_words.specs.Words.Requests.{command_view}
use Rattle.cli_answers.proofs.Gating.{gate_chosen}
use Rattle.cli_answers.proofs.gate_decision.answer_gate.Goals as goal

pub returns-in-Chosen-clause-called : goal.returns-in-Chosen-clause-called
returns-in-Chosen-clause-called g c =
    IfOk-weaker c.gate_under.result _ _
    (λ a h. gate_chosen (g.T.Tree.files c.args.tree.now) (g.T.Tree.files c.choose_model.new.tree) (g.T.Tree.faults c.args.tree.now) (g.T.Tree.faults c.choose_model.new.tree) (g.T.Tree.faults c.gate_under.new.tree) (g.T.Tree.taken c.args.tree.now) (g.T.Tree.taken c.choose_model.new.tree) (g.T.Tree.taken c.gate_under.new.tree)
    (command_view c.args.gate.now.command) (string_bytes c.args.gate.now.base) c.in-Chosen.model c.as_str.result.now c.in_ok-model.field-0 a.status a.text.items
    c.as_str.ensures.value c.in-Chosen.is c.in_ok-model.ensures.choice c.in_ok-model.ensures.files c.in_ok-model.ensures.faults c.in_ok-model.ensures.taken h)
    c.gate_under.ensures.called
