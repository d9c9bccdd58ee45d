use Rattle.std.proofs.Common.{◌+◌, ◌*◌}
use Rattle.parser_tests.proofs.grammar.outlines.+expression_outline.Given as goal

abbrev pub decreases-add_expression : goal.decreases-add_expression
decreases-add_expression l = 2 * l.fuel + 1

abbrev pub decreases-add_part : goal.decreases-add_part
decreases-add_part l = 2 * l.fuel + 0
