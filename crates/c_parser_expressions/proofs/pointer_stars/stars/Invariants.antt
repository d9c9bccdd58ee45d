use Rattle.std.proofs.Common.{◌≡◌, ◌-◌, length}
use Rattle.c_parser_expression_grammar.specs.TypeNames.{Stars}
use Rattle.c_parser_expression_grammar.specs.TypeNameReaders.{stars}
use Rattle.c_parser_expressions.proofs.Prefixes.{stars_before}
use Rattle.c_parser_expressions.proofs.pointer_stars.stars.Given as goal

abbrev pub invariant-loop-turn : goal.invariant-loop-turn
invariant-loop-turn l = record {
  found : Stars l.found.items l.fn.reader l.reader;
  read : stars (length l.fn.reader) l.fn.reader ≡ stars_before l.found.items (stars (length l.fn.reader - l._turn) l.reader);
}
