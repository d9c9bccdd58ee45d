use Rattle.std.proofs.Common.{◌||◌, sym, ◌∙◌}
use Rattle.c_layout.specs.CheckedTrees.{term_tree}
use Rattle.c_layout.specs.CheckedUnits.{function_view, unit_view}
use Rattle.lower_preconditions.specs.Units.RegularTerms.{is_regular_term}
use Rattle.lower_preconditions.specs.Units.TermGroups.{is_operation, is_assignment, is_call}
use Rattle.lower_preconditions.proofs.units.Groups.{another_group, last_group}
use Rattle.lower_preconditions.proofs.units.regular_terms.+terms.Goals as goal

pub is_regular_term-returns-else-is_regular_assignment : goal.is_regular_term-returns-else-is_regular_assignment
is_regular_term-returns-else-is_regular_assignment t c =
    let e = term_tree c.args.term.now in
    let x = is_regular_term (unit_view c.args.unit.now) (function_view c.args.function.now) c.args.used c.args.depth e in
    let no_simple = sym c.is_regular_simple.ensures ∙ c.if-is_regular_simple.false in
    let no_operation = another_group (is_operation e) (is_assignment e || is_call e) x no_simple (sym c.is_regular_operation.ensures ∙ c.if-is_regular_operation.false) in
    let no_assignment = another_group (is_assignment e) (is_call e) x no_operation (sym c.is_regular_assignment.ensures ∙ c.if-is_regular_assignment.false) in
    c.is_regular_call.ensures ∙ last_group (is_call e) x no_assignment
