use Rattle.std.proofs.lemmas.Result.{IfOk-weaker}
use Rattle.cli_answers.proofs.Choosing.{given_by}
use Rattle.cli_answers.proofs.model_choice.choice_of_bytes.Goals as goal

pub returns-clause-choice : goal.returns-clause-choice
returns-clause-choice c = IfOk-weaker c.choice_by.result _ _ (λ choice h. given_by c.args.name.now c.args.bytes.now c.from_toml.result choice c.from_toml.ensures.text c.from_toml.ensures.binary h) c.choice_by.ensures.choice
