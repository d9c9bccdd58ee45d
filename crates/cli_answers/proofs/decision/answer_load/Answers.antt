use Rattle.std.proofs.lemmas.Result.{IfOk-weaker}
use Rattle.cli_words.specs.Words.Requests.{command_view}
use Rattle.cli_answers.proofs.Called.{load_chosen}
use Rattle.cli_answers.proofs.decision.answer_load.Goals as goal

pub returns-in-Chosen-clause-called : goal.returns-in-Chosen-clause-called
returns-in-Chosen-clause-called g c =
    IfOk-weaker c.load_under.result _ _
    (λ a h. load_chosen (g.T.Tree.files c.args.tree.now) (g.T.Tree.files c.choose_model.new.tree) (g.T.Tree.faults c.args.tree.now) (g.T.Tree.faults c.choose_model.new.tree) (g.T.Tree.faults c.load_under.new.tree) (g.T.Tree.taken c.args.tree.now) (g.T.Tree.taken c.choose_model.new.tree) (g.T.Tree.taken c.load_under.new.tree)
    (command_view c.args.command.now) c.in-Chosen.model c.as_str.result.now c.in_ok-model.field-0 a.status a.text.items
    c.as_str.ensures.value c.in-Chosen.is c.in_ok-model.ensures.choice c.in_ok-model.ensures.files c.in_ok-model.ensures.faults c.in_ok-model.ensures.taken h)
    c.load_under.ensures.called
