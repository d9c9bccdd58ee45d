-- Groups of statements.
use Rattle.std.specs.Prelude.{Bool, true, false, not, ◌||◌}
use Rattle.c_layout.specs.CheckedTrees as tree
use Rattle.c_layout.specs.CheckedTrees.{StatementTree}

abbrev pub is_declaration : StatementTree → Bool
is_declaration (tree.Forget at local) = true
is_declaration (tree.Start at local e) = true
is_declaration (tree.StartCopy at local l) = true
is_declaration (tree.StartList at local stores) = true
is_declaration other = false

abbrev pub is_selection : StatementTree → Bool
is_selection (tree.If e body) = true
is_selection (tree.IfElse e first second) = true
is_selection (tree.Switch at e labels has_default values body) = true
is_selection other = false

abbrev pub is_loop : StatementTree → Bool
is_loop (tree.While e body) = true
is_loop (tree.Do body e) = true
is_loop (tree.For objects first e step body) = true
is_loop other = false

abbrev pub is_jump : StatementTree → Bool
is_jump (tree.Goto n) = true
is_jump tree.Break = true
is_jump tree.Continue = true
is_jump (tree.Return at e) = true
is_jump other = false

-- an expression, a block, or a statement behind a label
abbrev pub is_simple : StatementTree → Bool
is_simple s = not (is_declaration s || (is_selection s || (is_loop s || is_jump s)))
