use Rattle.std.proofs.Common.{◌+◌, ◌*◌}
use Rattle.parser_tests.proofs.grammar.outlines.+statement_outline.Given as goal

abbrev pub decreases-add_statement : goal.decreases-add_statement
decreases-add_statement l = 2 * l.fuel + 1

abbrev pub decreases-add_inner : goal.decreases-add_inner
decreases-add_inner l = 2 * l.fuel + 0
