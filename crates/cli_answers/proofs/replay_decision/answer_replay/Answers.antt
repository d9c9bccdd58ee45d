use Rattle.std.proofs.Common.{string_bytes}
use Rattle.std.proofs.lemmas.Result.{IfOk-weaker}
use Rattle.std.specs.Option.{option_map}
use Rattle.cli_words.specs.Words.Requests.{command_view}
use Rattle.cli_answers.proofs.Running.{replay_chosen}
use Rattle.cli_answers.proofs.replay_decision.answer_replay.Goals as goal

pub returns-in-Chosen-clause-called : goal.returns-in-Chosen-clause-called
returns-in-Chosen-clause-called g c =
    IfOk-weaker c.replay_under.result _ _
    (λ a h. replay_chosen (g.T.Tree.files c.args.tree.now) (g.T.Tree.files c.choose_model.new.tree) (g.T.Tree.faults c.args.tree.now) (g.T.Tree.faults c.choose_model.new.tree) (g.T.Tree.faults c.replay_under.new.tree) (g.T.Tree.taken c.args.tree.now) (g.T.Tree.taken c.choose_model.new.tree) (g.T.Tree.taken c.replay_under.new.tree)
    (command_view c.args.asked.now.command) (option_map string_bytes c.args.asked.now.draws) c.in-Chosen.model c.as_str.result.now c.in_ok-model.field-0 a.status a.text.items
    c.as_str.ensures.value c.in-Chosen.is c.in_ok-model.ensures.choice c.in_ok-model.ensures.files c.in_ok-model.ensures.faults c.in_ok-model.ensures.taken h)
    c.replay_under.ensures.called
