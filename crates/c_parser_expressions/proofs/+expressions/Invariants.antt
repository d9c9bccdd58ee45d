use Rattle.std.proofs.Common.{◌≡◌, ◌+◌, ◌-◌, ◌*◌, map, length}
use Rattle.c_layout.specs.SyntaxTrees.{tree_of}
use Rattle.c_parser_expression_grammar.specs.Findings.{Found, FoundSome, FoundArrays, Climbs}
use Rattle.c_parser_expression_grammar.specs.Readings.{got}
use Rattle.c_parser_expression_grammar.specs.ExpressionReaders.{some_arguments, suffixes, climb, commas}
use Rattle.c_parser_expression_grammar.specs.TypeNameReaders.{pairs, all_readers, readers_inside}
use Rattle.c_parser_expressions.proofs.Prefixes.{arguments_before, pairs_before}
use Rattle.c_parser_expressions.proofs.+expressions.Given as goal

abbrev pub decreases-expressions::expression : goal.decreases-expressions::expression
decreases-expressions::expression l = 32 * l.budget + 21

abbrev pub decreases-expressions::assignment : goal.decreases-expressions::assignment
decreases-expressions::assignment l = 32 * l.budget + 20

abbrev pub decreases-expressions::conditional : goal.decreases-expressions::conditional
decreases-expressions::conditional l = 32 * l.budget + 19

abbrev pub decreases-unary_expressions::cast : goal.decreases-unary_expressions::cast
decreases-unary_expressions::cast l = 32 * l.budget + 7

abbrev pub decreases-unary_expressions::cast_expression : goal.decreases-unary_expressions::cast_expression
decreases-unary_expressions::cast_expression l = 32 * l.budget + 0

abbrev pub decreases-unary_expressions::unary : goal.decreases-unary_expressions::unary
decreases-unary_expressions::unary l = 32 * l.budget + 6

abbrev pub decreases-unary_expressions::step_expression : goal.decreases-unary_expressions::step_expression
decreases-unary_expressions::step_expression l = 32 * l.budget + 0

abbrev pub decreases-unary_expressions::operator_expression : goal.decreases-unary_expressions::operator_expression
decreases-unary_expressions::operator_expression l = 32 * l.budget + 0

abbrev pub decreases-postfix_expressions::postfix : goal.decreases-postfix_expressions::postfix
decreases-postfix_expressions::postfix l = 32 * l.budget + 4

abbrev pub decreases-postfix_expressions::primary : goal.decreases-postfix_expressions::primary
decreases-postfix_expressions::primary l = 32 * l.budget + 3

abbrev pub decreases-postfix_expressions::name_or_call : goal.decreases-postfix_expressions::name_or_call
decreases-postfix_expressions::name_or_call l = 32 * l.budget + 2

abbrev pub decreases-postfix_expressions::parenthesized : goal.decreases-postfix_expressions::parenthesized
decreases-postfix_expressions::parenthesized l = 32 * l.budget + 0

abbrev pub decreases-postfix_expressions::arguments : goal.decreases-postfix_expressions::arguments
decreases-postfix_expressions::arguments l = 32 * l.budget + 23

abbrev pub decreases-postfix_expressions::some_arguments : goal.decreases-postfix_expressions::some_arguments
decreases-postfix_expressions::some_arguments l = 32 * l.budget + 22

abbrev pub decreases-type_names::type_name : goal.decreases-type_names::type_name
decreases-type_names::type_name l = 32 * l.budget + 0

abbrev pub decreases-type_names::abstract_declarator : goal.decreases-type_names::abstract_declarator
decreases-type_names::abstract_declarator l = 32 * l.budget + 2

abbrev pub decreases-type_names::nested_abstract : goal.decreases-type_names::nested_abstract
decreases-type_names::nested_abstract l = 32 * l.budget + 0

abbrev pub decreases-type_names::brackets : goal.decreases-type_names::brackets
decreases-type_names::brackets l = 32 * l.budget + 1

abbrev pub decreases-type_names::bracket_pair : goal.decreases-type_names::bracket_pair
decreases-type_names::bracket_pair l = 32 * l.budget + 0

abbrev pub decreases-expressions::binary : goal.decreases-expressions::binary
decreases-expressions::binary l = 32 * l.budget + 8

abbrev pub decreases-postfix_expressions::suffix : goal.decreases-postfix_expressions::suffix
decreases-postfix_expressions::suffix l = 32 * l.budget + 1

abbrev pub decreases-postfix_expressions::subscript : goal.decreases-postfix_expressions::subscript
decreases-postfix_expressions::subscript l = 32 * l.budget + 0

abbrev pub decreases-unary_expressions::sizeof_type : goal.decreases-unary_expressions::sizeof_type
decreases-unary_expressions::sizeof_type l = 32 * l.budget + 0

abbrev pub decreases-unary_expressions::sizeof_expression : goal.decreases-unary_expressions::sizeof_expression
decreases-unary_expressions::sizeof_expression l = 32 * l.budget + 0

abbrev pub invariant-expressions::binary-loop-turn : goal.invariant-expressions::binary-loop-turn
invariant-expressions::binary-loop-turn l = record {
  found : Climbs l.scope.typedefs.now l.level l.budget (tree_of l.left.tree.value) l.left.height l.fn.reader l.reader;
  read :
      (all_readers l.scope.typedefs.now l.budget).binary l.level l.fn.reader
      ≡ climb l.budget (readers_inside l.scope.typedefs.now l.budget) l.level (l.budget - l._turn) (got (tree_of l.left.tree.value) l.left.height l.reader);
}

abbrev pub invariant-expressions::expression-loop-turn : goal.invariant-expressions::expression-loop-turn
invariant-expressions::expression-loop-turn l = record {
  found : Found l.scope.typedefs.now 0 l.budget (tree_of l.found.tree.value) l.found.height l.fn.reader l.reader;
  read :
      (all_readers l.scope.typedefs.now l.budget).expression l.fn.reader
      ≡ commas l.budget (readers_inside l.scope.typedefs.now l.budget) (l.budget - l._turn) (got (tree_of l.found.tree.value) l.found.height l.reader);
}

abbrev pub invariant-postfix_expressions::postfix-loop-turn : goal.invariant-postfix_expressions::postfix-loop-turn
invariant-postfix_expressions::postfix-loop-turn l = record {
  found : Found l.scope.typedefs.now 15 l.budget (tree_of l.found.tree.value) l.found.height l.fn.reader l.reader;
  read :
      (all_readers l.scope.typedefs.now l.budget).postfix l.fn.reader
      ≡ suffixes l.budget (readers_inside l.scope.typedefs.now l.budget) l.scope.typedefs.now (l.budget - l._turn) (got (tree_of l.found.tree.value) l.found.height l.reader);
}

abbrev pub invariant-postfix_expressions::some_arguments-loop-turn : goal.invariant-postfix_expressions::some_arguments-loop-turn
invariant-postfix_expressions::some_arguments-loop-turn l = record {
  found : FoundSome l.scope.typedefs.now l.budget (map tree_of l.found.items) l.height l.fn.reader l.reader;
  read :
      some_arguments (all_readers l.scope.typedefs.now l.budget) (length l.fn.reader) l.fn.reader
      ≡ arguments_before (map tree_of l.found.items) l.height (some_arguments (all_readers l.scope.typedefs.now l.budget) (length l.fn.reader - l._turn) l.reader);
}

abbrev pub invariant-type_names::brackets-loop-turn : goal.invariant-type_names::brackets-loop-turn
invariant-type_names::brackets-loop-turn l = record {
  found : FoundArrays l.scope.typedefs.now l.parts.arrays.items (map tree_of l.parts.lengths.items) l.height l.fn.reader l.reader;
  read :
      pairs (readers_inside l.scope.typedefs.now l.budget) (length l.fn.reader) l.fn.reader
      ≡ pairs_before l.parts.arrays.items (map tree_of l.parts.lengths.items) l.height (pairs (readers_inside l.scope.typedefs.now l.budget) (length l.fn.reader - l._turn) l.reader);
}
