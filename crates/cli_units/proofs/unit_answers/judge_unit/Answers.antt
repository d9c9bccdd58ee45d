use Rattle.std.proofs.Common.{refl, sym, subst}
use Rattle.cli_units.specs.Judging.{IsUnrolled}
use Rattle.cli_units.proofs.unit_answers.judge_unit.Goals as goal

pub returns-in-None-clause-judged : goal.returns-in-None-clause-judged
returns-in-None-clause-judged c = record {
  tree = c.in_ok-tree.tree;
  parsed = c.in_ok-tree.ensures.parsed;
  checked = c.in_ok-checked.checked;
  typed = c.in_ok-checked.ensures.typed;
  looked = c.in_ok-looked.ensures.looked;
  plain = c.in_ok-flow.ensures.plain;
  regular = c.in_ok-flow.ensures.regular;
  flow = c.in_ok-flow.flow;
  lowered = c.in_ok-flow.ensures.lowered;
  made = c.in_ok-flow.ensures.well_formed;
  analysed = c.in_ok-flow.flow;
  turned = subst (λ t. IsUnrolled t c.in_ok-flow.flow c.in_ok-flow.flow) (sym c.in-None.is) refl;
  well_formed = c.in_ok-flow.ensures.well_formed;
  found = c.in_ok-judge_program-in-None.ensures.found;
  bases = c.in_ok-judge_program-in-None.ensures.bases;
  cells = c.in_ok-judge_program-in-None.ensures.cells;
}

pub returns-clause-judged : goal.returns-clause-judged
returns-clause-judged c = record {
  tree = c.in_ok-tree.tree;
  parsed = c.in_ok-tree.ensures.parsed;
  checked = c.in_ok-checked.checked;
  typed = c.in_ok-checked.ensures.typed;
  looked = c.in_ok-looked.ensures.looked;
  plain = c.in_ok-flow.ensures.plain;
  regular = c.in_ok-flow.ensures.regular;
  flow = c.in_ok-flow.flow;
  lowered = c.in_ok-flow.ensures.lowered;
  made = c.in_ok-flow.ensures.well_formed;
  analysed = c.in_ok-analysed-in-Some.analysed;
  turned = c.in_ok-analysed-in-Some.ensures.turned;
  well_formed = c.in_ok-analysed-in-Some.ensures.well_formed;
  found = c.in_ok-judge_program-in-Some.ensures.found;
  bases = c.in_ok-judge_program-in-Some.ensures.bases;
  cells = c.in_ok-judge_program-in-Some.ensures.cells;
}
