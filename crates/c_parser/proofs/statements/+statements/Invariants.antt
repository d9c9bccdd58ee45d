use Rattle.std.proofs.Common.{◌+◌, ◌*◌, map, length}
use Rattle.c_layout.specs.DeclarationTrees.{statement_tree}
use Rattle.c_parser.specs.Findings.{FoundItems}
use Rattle.c_parser.specs.StatementReaders.{item_within, block_items}
use Rattle.c_parser.proofs.Turns.{ItemsLeft}
use Rattle.c_parser.proofs.statements.+statements.Given as goal

abbrev pub decreases-body : goal.decreases-body
decreases-body l = 8 * l.budget + 4

abbrev pub decreases-label_statement : goal.decreases-label_statement
decreases-label_statement l = 8 * l.budget + 1

abbrev pub decreases-case_statement : goal.decreases-case_statement
decreases-case_statement l = 8 * l.budget + 1

abbrev pub decreases-default_statement : goal.decreases-default_statement
decreases-default_statement l = 8 * l.budget + 1

abbrev pub decreases-if_statement : goal.decreases-if_statement
decreases-if_statement l = 8 * l.budget + 1

abbrev pub decreases-switch_statement : goal.decreases-switch_statement
decreases-switch_statement l = 8 * l.budget + 1

abbrev pub decreases-while_statement : goal.decreases-while_statement
decreases-while_statement l = 8 * l.budget + 1

abbrev pub decreases-do_statement : goal.decreases-do_statement
decreases-do_statement l = 8 * l.budget + 1

abbrev pub decreases-for_statement : goal.decreases-for_statement
decreases-for_statement l = 8 * l.budget + 1

abbrev pub decreases-block : goal.decreases-block
decreases-block l = 8 * l.budget + 0

abbrev pub decreases-block_statement : goal.decreases-block_statement
decreases-block_statement l = 8 * l.budget + 1

abbrev pub decreases-keyword_statement : goal.decreases-keyword_statement
decreases-keyword_statement l = 8 * l.budget + 2

abbrev pub decreases-statement : goal.decreases-statement
decreases-statement l = 8 * l.budget + 3

abbrev pub decreases-item : goal.decreases-item
decreases-item l = 8 * l.budget + 4

abbrev pub decreases-items : goal.decreases-items
decreases-items l = 8 * l.budget + 5

abbrev pub invariant-items-loop-turn : goal.invariant-items-loop-turn
invariant-items-loop-turn l = record {
  found : FoundItems l.scope.typedefs.now l.budget (map statement_tree l.found.items) l.height l.fn.reader l.reader;
  read :
      ItemsLeft (item_within l.scope.typedefs.now l.budget) (length l.fn.reader) l._turn (map statement_tree l.found.items) l.height l.reader
      (block_items (item_within l.scope.typedefs.now l.budget) (length l.fn.reader) l.fn.reader);
}
