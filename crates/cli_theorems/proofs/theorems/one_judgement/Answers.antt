use Rattle.cli_theorems.proofs.reports.OneJudgement.{one_judgement}
use Rattle.cli_theorems.proofs.theorems.one_judgement.Goals as goal

pub returns : goal.returns
returns c = λ unit s j k a b. one_judgement unit s j k a b
