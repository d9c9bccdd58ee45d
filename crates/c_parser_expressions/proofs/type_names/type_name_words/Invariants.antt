use Rattle.std.proofs.Common.{◌≡◌, ◌-◌, length}
use Rattle.c_parser_expression_grammar.specs.Spans.{Chain}
use Rattle.c_parser_expression_grammar.specs.TypeNames.{IsTypeNameWord, counts_of}
use Rattle.c_parser_expression_grammar.specs.TypeNameReaders.{words}
use Rattle.c_parser_expressions.proofs.Prefixes.{words_before}
use Rattle.c_parser_expressions.proofs.type_names.type_name_words.Given as goal

abbrev pub invariant-loop-turn : goal.invariant-loop-turn
invariant-loop-turn l = record {
  found : Chain (IsTypeNameWord l.scope.typedefs.now) l.words.items l.fn.reader l.reader;
  counts : l.counts ≡ counts_of l.words.items;
  read :
      words l.scope.typedefs.now (length l.fn.reader) l.fn.reader
      ≡ words_before l.words.items (words l.scope.typedefs.now (length l.fn.reader - l._turn) l.reader);
}
