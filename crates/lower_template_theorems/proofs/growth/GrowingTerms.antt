-- Terms, lvalues and conditions only add to what was given away.
use Rattle.std.proofs.Common.{ℕ}
use Rattle.c_layout.specs.CheckedTrees.{TermTrees}
use Rattle.lower_expressions.specs.Calls.{argued}
use Rattle.lower_templates.specs.Worklist.Pieces.{Do, End}
use Rattle.lower_templates.specs.Worklist.Works as jobs
use Rattle.lower_templates.specs.Worklist.Plans.{Plan, with_name, name_of_object}
use Rattle.lower_functions.proofs.PlanClosures.{ConditionClosed}
use Rattle.lower_functions.proofs.TermPlans.{kept_argued}
use Rattle.lower_template_theorems.specs.Growth.Growth.{Grows}
use Rattle.lower_template_theorems.proofs.growth.Growth.{grows_work, grows_name, grows_labels}

pub growing : (start : Plan) → ConditionClosed (Grows start)
growing start = record {
  terms = record {
    work = λ j p is g. grows_work j p g;
    fresh = λ x s p is g. grows_work (jobs.Ready (Do s)) (with_name x p) (grows_name x p g);
    labels = λ count p g. grows_labels count p g;
  };
  name = λ o p g. grows_name (name_of_object o) p g;
  branch = λ s exits p is on g. grows_work (jobs.Ready (End s exits)) p g;
}

pub grows_argued : {start : Plan} (args : TermTrees) (depth : ℕ) (p : Plan) → Grows start p → Grows start (argued args depth p)
grows_argued {start = start} args depth p g = kept_argued (growing start).terms args depth p g
