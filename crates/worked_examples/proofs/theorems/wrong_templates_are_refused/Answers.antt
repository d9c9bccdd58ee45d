use Rattle.worked_examples.proofs.wrong_templates.WrongBranches.{else_on_true_is_wrong, both_operands_are_wrong}
use Rattle.worked_examples.proofs.wrong_templates.WrongCalls.{left_out_call_is_wrong, early_store_is_wrong}
use Rattle.worked_examples.proofs.wrong_templates.WrongJumps.{skipped_step_is_wrong, kept_object_is_wrong}
use Rattle.worked_examples.proofs.theorems.wrong_templates_are_refused.Goals as goal

pub returns : goal.returns
returns c = record {
  call = left_out_call_is_wrong;
  continued = skipped_step_is_wrong;
  parameter = early_store_is_wrong;
  goto = kept_object_is_wrong;
  selection = else_on_true_is_wrong;
  conjunction = both_operands_are_wrong;
}
