use Rattle.cli_examples.proofs.outcomes.FileChoices.{one_model, one_expansion, one_refusal, refused_or_expanded, one_baseline, one_fresh_list, one_list_of_draws}
use Rattle.cli_examples.proofs.theorems.held_files_give_one_unit.Goals as goal

pub returns : goal.returns
returns c = record {
  model = one_model;
  expansion = one_expansion;
  refusal = one_refusal;
  apart = refused_or_expanded;
  baseline = one_baseline;
  fresh = one_fresh_list;
  draws = one_list_of_draws;
}
