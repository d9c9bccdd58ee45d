use Rattle.std.proofs.Common.{◌+◌, ◌*◌}
use Rattle.c_parser_declarations.proofs.grammar.declarators.+declarators.Given as goal

abbrev pub decreases-any_declarator : goal.decreases-any_declarator
decreases-any_declarator l = 4 * l.budget + 3

abbrev pub decreases-behind_stars : goal.decreases-behind_stars
decreases-behind_stars l = 4 * l.budget + 2

abbrev pub decreases-core : goal.decreases-core
decreases-core l = 4 * l.budget + 1

abbrev pub decreases-enclosed : goal.decreases-enclosed
decreases-enclosed l = 4 * l.budget + 0
