-- What is still to be done of a function, as contracts see it.
use Rattle.std.specs.Prelude.{ℕ, ◌+◌, ◌-◌, ◌^◌, min, List, map}
use Rattle.c_layout.specs.CheckedTrees.{TermTree, term_tree, LvalueTree, lvalue_tree, StatementTree, statement_tree}
use Rattle.lower_templates.specs.declared.worklist.pending_works.Decision.{Decision}
use Rattle.lower_templates.specs.declared.worklist.pending_works.Surroundings.{Surroundings}
use Rattle.lower_templates.specs.declared.worklist.pending_works.Work.{Work}
use Rattle.lower_templates.specs.declared.worklist.pending_works.Work.TheVariants as work
use Rattle.lower_templates.specs.Worklist.Pieces.{PieceView, piece_view}

-- a work; the number is the temporary that takes the result
pub data Job : Type 0 where
  Value : (term : TermTree) (depth : ℕ) → Job
  Unused : (term : TermTree) (depth : ℕ) → Job
  Address : (lvalue : LvalueTree) (depth : ℕ) → Job
  Condition : (term : TermTree) (decision : Decision) → Job
  Statement : (statement : StatementTree) (around : Surroundings) → Job
  Ready : (piece : PieceView) → Job

abbrev pub job : Work → Job
job (work.Value e depth) = Value (term_tree e.now) depth
job (work.Unused e depth) = Unused (term_tree e.now) depth
job (work.Address l depth) = Address (lvalue_tree l.now) depth
job (work.Condition e decision) = Condition (term_tree e.now) decision
job (work.Statement s around) = Statement (statement_tree s.now) around
job (work.Ready p) = Ready (piece_view p)

-- the temporary that stands so many behind another one
abbrev pub behind : ℕ → ℕ → ℕ
behind temp count = min (temp + count) (2 ^ 32 - 1)
