use Rattle.std.proofs.Common.{◌+◌, ◌*◌, map, length}
use Rattle.c_layout.specs.DeclarationTrees.{spec_tree, member_tree}
use Rattle.c_parser_declarations.specs.Grammar.Findings.{FoundWords, FoundChain}
use Rattle.c_parser_declarations.specs.Grammar.SpecifierReaders.{word, words, specifiers_inside, specifier_readers}
use Rattle.c_parser_declarations.specs.Grammar.Items.{chained}
use Rattle.c_parser_declarations.proofs.grammar.Turns.{ChainedLeft, WordsLeft}
use Rattle.c_parser_declarations.proofs.readers.specifier_lists.+specifiers.Given as goal

abbrev pub decreases-specifiers : goal.decreases-specifiers
decreases-specifiers l = 4 * l.budget + 2

abbrev pub decreases-specifier : goal.decreases-specifier
decreases-specifier l = 4 * l.budget + 1

abbrev pub decreases-structure : goal.decreases-structure
decreases-structure l = 4 * l.budget + 0

abbrev pub decreases-members : goal.decreases-members
decreases-members l = 4 * l.budget + 3

abbrev pub decreases-member : goal.decreases-member
decreases-member l = 4 * l.budget + 0

abbrev pub invariant-specifiers-loop-turn : goal.invariant-specifiers-loop-turn
invariant-specifiers-loop-turn l = record {
  found : FoundWords l.scope.typedefs.now l.budget (map spec_tree l.words.items) l.counts l.height l.fn.reader l.reader;
  read :
      WordsLeft l.scope.typedefs.now (word l.scope.typedefs.now l.budget (specifiers_inside l.scope.typedefs.now l.budget).member) (length l.fn.reader) l._turn (map spec_tree l.words.items) l.height l.reader
      (words l.scope.typedefs.now (word l.scope.typedefs.now l.budget (specifiers_inside l.scope.typedefs.now l.budget).member) (length l.fn.reader) l.fn.reader);
}

abbrev pub invariant-members-loop-turn : goal.invariant-members-loop-turn
invariant-members-loop-turn l = record {
  found : FoundChain l.scope.typedefs.now l.budget (map member_tree l.found.items) l.height l.fn.reader l.reader;
  read :
      ChainedLeft (specifier_readers l.scope.typedefs.now l.budget).member (length l.fn.reader) l._turn (map member_tree l.found.items) l.height l.reader
      (chained (specifier_readers l.scope.typedefs.now l.budget).member (length l.fn.reader) l.fn.reader);
}
