use Rattle.std.proofs.Common.{inl, inr, map, string_bytes}
use Rattle.std.proofs.lemmas.Result.{IfOk-weaker}
use Rattle.std.specs.Option.{option_map}
use Rattle.c_preproc.specs.Causes.{seen_of}
use Rattle.cli_words.specs.Words.Requests.{command_view}
use Rattle.cli_answers.specs.Verdicts.{replay_setting}
use Rattle.cli_answers.specs.declared.draws_files.Draws.TheVariants as chosen
use Rattle.cli_answers.proofs.Running.{chosen_draws, over}
use Rattle.cli_answers.proofs.replay_decision.run_over_draws.Goals as goal

pub returns-in-Read-clause-called : goal.returns-in-Read-clause-called
returns-in-Read-clause-called g c =
    let seen = seen_of (g.T.Tree.files c.args.tree.now) (g.T.Tree.faults c.args.tree.now) (g.T.Tree.faults c.choose_draws.new.tree) (g.T.Tree.taken c.args.tree.now) (g.T.Tree.taken c.choose_draws.new.tree) in
    let file = option_map string_bytes c.args.asked.now.draws in
    let are = chosen_draws seen file c.in_ok-draws.field-0 (chosen.Read c.in-Read.draws) c.in-Read.is c.in_ok-draws.ensures.draws in
    IfOk-weaker c.replayed.result _ _
    (λ a h. inr (over (g.T.Tree.files c.args.tree.now) file (replay_setting (command_view c.args.asked.now.command) c.args.model.now) c.args.unit.now c.in-Read.draws.items c.as_slice.result.now c.args.asked.now.command.steps (map string_bytes c.args.files.now) (string_bytes c.args.asked.now.command.unit) a.status a.text.items are c.as_slice.ensures.value h))
    c.replayed.ensures.called

pub returns-in-Refused-clause-called : goal.returns-in-Refused-clause-called
returns-in-Refused-clause-called g c =
    let seen = seen_of (g.T.Tree.files c.args.tree.now) (g.T.Tree.faults c.args.tree.now) (g.T.Tree.faults c.choose_draws.new.tree) (g.T.Tree.taken c.args.tree.now) (g.T.Tree.taken c.choose_draws.new.tree) in
    inl (chosen_draws seen (option_map string_bytes c.args.asked.now.draws) c.in_ok-draws.field-0 (chosen.Refused c.in-Refused.answer) c.in-Refused.is c.in_ok-draws.ensures.draws)
