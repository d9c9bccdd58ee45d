use Rattle.std.proofs.Common.{◌≡◌, map, drop}
use Rattle.c_layout.specs.CheckedTrees.{statement_tree}
use Rattle.c_layout.specs.CheckedUnits.{UnitView}
use Rattle.semantics.specs.SourceMachine.LabelSearch as search
use Rattle.interp_stack.specs.StackViews.{standing}
use Rattle.interp_statements.specs.LabelViews.{sought_view}
use Rattle.interp_statements.proofs.label_search.+descent.Given as goal

abbrev pub invariant-find_in-loop-statement : goal.invariant-find_in-loop-statement
invariant-find_in-loop-statement l = (l.at ≡ l.statement-index) × (l.control.items ≡ l.initial.control.items) × ((u : UnitView) → search.found_among u (sought_view l.sought) (map statement_tree (drop l.statement-index l.statements)) (standing u l.control.items).items ≡ search.found_among u (sought_view l.sought) (map statement_tree l.statements) (standing u l.control.items).items)
