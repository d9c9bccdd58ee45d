use Rattle.std.proofs.Common.{string_bytes}
use Rattle.std.proofs.lemmas.Result.{IfOk-weaker}
use Rattle.cli_words.specs.Words.Requests.{command_view}
use Rattle.cli_answers.proofs.Certified.{verify_chosen}
use Rattle.cli_answers.proofs.certificate_decision.answer_verify.Goals as goal

pub returns-in-Chosen-clause-called : goal.returns-in-Chosen-clause-called
returns-in-Chosen-clause-called g c =
    IfOk-weaker c.verify_under.result _ _
    (λ a h. verify_chosen (g.T.Tree.files c.args.tree.now) (g.T.Tree.files c.choose_model.new.tree) (g.T.Tree.faults c.args.tree.now) (g.T.Tree.faults c.choose_model.new.tree) (g.T.Tree.faults c.verify_under.new.tree) (g.T.Tree.taken c.args.tree.now) (g.T.Tree.taken c.choose_model.new.tree) (g.T.Tree.taken c.verify_under.new.tree)
    (command_view c.args.asked.now.command) (string_bytes c.args.asked.now.cert) c.in-Chosen.model c.as_str.result.now c.in_ok-model.field-0 a.status a.text.items
    c.as_str.ensures.value c.in-Chosen.is c.in_ok-model.ensures.choice c.in_ok-model.ensures.files c.in_ok-model.ensures.faults c.in_ok-model.ensures.taken h)
    c.verify_under.ensures.called
