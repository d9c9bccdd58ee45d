use Rattle.std.proofs.Common.{◌≡◌, List, map, drop, is_some}
use Rattle.c_layout.specs.CheckedTrees.{statement_tree}
use Rattle.c_layout.specs.CheckedUnits.{UnitView}
use Rattle.semantics.specs.SourceMachine.Items.{Item}
use Rattle.semantics.specs.SourceMachine.LabelSearch as search
use Rattle.interp_statements.specs.LabelViews.{sought_view}
use Rattle.interp_statements.proofs.label_search.+search.Given as goal

abbrev pub invariant-is_in_any-loop-statement : goal.invariant-is_in_any-loop-statement
invariant-is_in_any-loop-statement l = (u : UnitView) (after : List Item) → is_some (search.found_among u (sought_view l.sought) (map statement_tree (drop l.statement-index l.statements)) after) ≡ is_some (search.found_among u (sought_view l.sought) (map statement_tree l.statements) after)
