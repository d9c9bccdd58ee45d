-- The marks of labels in pieces.
use Rattle.std.specs.Prelude.{◌<◌, ℕ, length}
use Rattle.lower_functions.specs.Statements.Switches.{dispatch_at}
use Rattle.lower_templates.specs.Worklist.Plans.{Plan}
use Rattle.lower_templates.specs.Worklist.Works.{behind}
use Rattle.semantics.specs.SourceMachine.LabelSearch.{Sought, label, case, other}

-- a label of the function is marked with its number, and those of a switch with the numbers that it was given
pub data IsMark (p : Plan) (choice : ℕ) : Sought → ℕ → Type 0 where
  of_label : (n : ℕ) → n < p.labels → IsMark p choice (label n) n
  of_case : (n : ℕ) → choice < length p.dispatches → behind (dispatch_at p choice).cases n < p.labels → IsMark p choice (case n) (behind (dispatch_at p choice).cases n)
  of_other : choice < length p.dispatches → (dispatch_at p choice).fallback < p.labels → IsMark p choice other (dispatch_at p choice).fallback
