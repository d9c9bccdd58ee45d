use Rattle.std.proofs.Common.{◌≡◌, ◌-◌, length}
use Rattle.c_parser_expression_grammar.specs.TypeNames.{Qualifiers}
use Rattle.c_parser_expression_grammar.specs.TypeNameReaders.{qualifiers}
use Rattle.c_parser_expressions.proofs.Prefixes.{count_before}
use Rattle.c_parser_expressions.proofs.pointer_stars.qualifiers.Given as goal

abbrev pub invariant-loop-turn : goal.invariant-loop-turn
invariant-loop-turn l = record {
  found : Qualifiers l.count l.fn.reader l.reader;
  read : qualifiers (length l.fn.reader) l.fn.reader ≡ count_before l.count (qualifiers (length l.fn.reader - l._turn) l.reader);
}
