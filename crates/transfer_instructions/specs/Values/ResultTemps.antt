-- Results of instructions in temporaries: the row after it, None where there is no result.
use Rattle.std.specs.Prelude.{ℕ, cond, ◌||◌, Option, Some, None, is_none, List}
use Rattle.cc_base.specs.Lattices.{LatticeOf}
use Rattle.cc_base.specs.IntegerDomains.{IntegersOf}
use Rattle.cc_base.specs.declared.integer_operators.Tri.{Tri}
use Rattle.cc_base.specs.declared.integer_operators.Tri.TheVariants.{Yes, No, Both, Never}
use Rattle.cfg.specs.declared.programs.Flow.{Flow}
use Rattle.pointer_domain.specs.declared.pointer_sets.Pointers.{Pointers}
use Rattle.pointer_domain.specs.PointerTables.{is_any}
use Rattle.value_domain.specs.declared.values.values.Value.{Value}
use Rattle.value_domain.specs.declared.values.row_cells.Cell.{Cell}
use Rattle.value_domain.specs.Values.ValueTables.{pointer_value, truth_value}
use Rattle.transfer_checks.specs.Temporaries.{put_temp}

-- the truth values that are not these
abbrev pub negated : Tri → Tri
negated Yes = No
negated No = Yes
negated Both = Both
negated Never = Never

module _ {I : Type 0} where
  -- an integer
  unfoldable pub put_number : IntegersOf I → Flow → List (Cell I) → ℕ → Value I → Option (List (Cell I))
  put_number n flow row to v = cond (is_none (n.bounds v.num)) None (Some (put_temp flow row to v))

  -- a truth value
  unfoldable pub put_truth : LatticeOf I → IntegersOf I → Flow → List (Cell I) → ℕ → Tri → Option (List (Cell I))
  put_truth l n flow row to Yes = Some (put_temp flow row to (truth_value l n Yes))
  put_truth l n flow row to No = Some (put_temp flow row to (truth_value l n No))
  put_truth l n flow row to Both = Some (put_temp flow row to (truth_value l n Both))
  put_truth l n flow row to Never = None

  -- a pointer
  unfoldable pub put_pointer : LatticeOf I → Flow → List (Cell I) → ℕ → Pointers I → Option (List (Cell I))
  put_pointer l flow row to p = cond (is_any p || p.ended) (Some (put_temp flow row to (pointer_value l p))) None
