use Rattle.cli.proofs.verified.ShownRuns.{proved_shown}
use Rattle.cli.proofs.theorems.proved_texts_show_just_runs.Goals as goal

pub returns : goal.returns
returns c = λ unit s text p shown v plain d. proved_shown c.typed_units_pass_looks.ensures c.plain_units_are_exact.ensures c.plain_units_have_plain_programs.ensures c.typed_units_have_typed_accesses.ensures.plain unit s text p shown v plain d
