use Rattle.std.proofs.Common.{map, length}
use Rattle.c_layout.specs.DeclarationTrees.{suffix_view}
use Rattle.c_parser_declarations.specs.Grammar.Findings.{FoundSuffixes}
use Rattle.c_parser_expression_grammar.specs.TypeNameReaders.{readers_inside}
use Rattle.c_parser_declarations.specs.Grammar.DeclaratorReaders.{suffixes}
use Rattle.c_parser_declarations.proofs.grammar.Turns.{SuffixesLeft}
use Rattle.c_parser_declarations.proofs.grammar.declarators.suffixes.Given as goal

abbrev pub invariant-loop-turn : goal.invariant-loop-turn
invariant-loop-turn l = record {
  found : FoundSuffixes l.scope.typedefs.now l.inside (map suffix_view l.arrays.items) l.flat l.climbed l.fn.reader l.reader;
  read :
      SuffixesLeft (readers_inside l.scope.typedefs.now l.budget) (length l.fn.reader) l._turn (map suffix_view l.arrays.items) l.flat l.climbed l.reader
      (suffixes (readers_inside l.scope.typedefs.now l.budget) (length l.fn.reader) l.inside l.inside l.fn.reader);
}
