use Rattle.std.proofs.Common.{◌||◌, sym, ◌∙◌}
use Rattle.c_layout.specs.CheckedTrees.{statement_tree}
use Rattle.c_layout.specs.CheckedUnits.{function_view, unit_view}
use Rattle.lower_preconditions.specs.Units.RegularStatements.{is_regular_statement}
use Rattle.lower_preconditions.specs.Units.StatementGroups.{is_declaration, is_selection, is_loop, is_jump}
use Rattle.lower_preconditions.proofs.units.Groups.{another_group, last_group}
use Rattle.lower_preconditions.proofs.units.regular_statements.+statements.Goals as goal

pub is_regular_statement-returns-else-is_regular_loop : goal.is_regular_statement-returns-else-is_regular_loop
is_regular_statement-returns-else-is_regular_loop t c =
    let s = statement_tree c.args.statement.now in
    let x = is_regular_statement (unit_view c.args.unit.now) (function_view c.args.function.now) c.args.breaks c.args.loops s in
    let no_simple = sym c.is_regular_simple.ensures ∙ c.if-is_regular_simple.false in
    let no_declaration = another_group (is_declaration s) (is_selection s || (is_loop s || is_jump s)) x no_simple (sym c.is_regular_declaration.ensures ∙ c.if-is_regular_declaration.false) in
    let no_selection = another_group (is_selection s) (is_loop s || is_jump s) x no_declaration (sym c.is_regular_selection.ensures ∙ c.if-is_regular_selection.false) in
    let no_loop = another_group (is_loop s) (is_jump s) x no_selection (sym c.is_regular_loop.ensures ∙ c.if-is_regular_loop.false) in
    c.is_regular_jump.ensures ∙ last_group (is_jump s) x no_loop
