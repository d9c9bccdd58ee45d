use Rattle.cli.proofs.command.PlainRuns.{judged_pairs}
use Rattle.cli.proofs.theorems.judged_pairs_are_violated.Goals as goal

pub returns : goal.returns
returns c = λ unit s j judged one d there. judged_pairs (record {
  pass = c.typed_units_pass_looks.ensures;
  told = c.plain_units_are_exact.ensures;
  turned = c.unrolled_units_are_exact.ensures;
  looped = c.looped_units_are_exact.ensures;
  lowered = c.plain_units_have_plain_programs.ensures;
  typed = c.typed_units_have_typed_accesses.ensures.plain;
  looped_typed = c.typed_units_have_typed_accesses.ensures.looped;
}) unit s j judged one d there
