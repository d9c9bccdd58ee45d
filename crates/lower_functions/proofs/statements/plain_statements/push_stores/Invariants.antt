use Rattle.std.proofs.Common.{◌≡◌, map, drop}
use Rattle.c_layout.specs.CheckedTrees.{store_tree}
use Rattle.lower_templates.specs.Worklist.Plans.{plan}
use Rattle.lower_functions.specs.Statements.PlainStatements.{all_stored}
use Rattle.lower_functions.proofs.statements.plain_statements.push_stores.Given as goal

abbrev pub invariant-loop-store : goal.invariant-loop-store
invariant-loop-store l = all_stored l.place l.local (map store_tree (drop l.store-index l.stores)) (plan l.builder) ≡ all_stored l.place l.local (map store_tree l.stores) (plan l.initial.builder)
