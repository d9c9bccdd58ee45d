use Rattle.std.proofs.Common.{string_bytes, map}
use Rattle.cli_units.specs.Judging.{judgement}
use Rattle.cli_answers.specs.Verdicts.{load_setting}
use Rattle.cli_answers.proofs.Judged.{summary_told}
use Rattle.cli_answers.proofs.decision.loaded.Goals as goal

pub returns-in-Ok-clause-called : goal.returns-in-Ok-clause-called
returns-in-Ok-clause-called c = summary_told (load_setting c.args.model.now) c.args.unit.now (map string_bytes c.args.files.now) c.args.name.now (judgement c.in-Ok.judged) c.in-Ok.ensures.judged c.summarised.result c.summarised.ensures.called
