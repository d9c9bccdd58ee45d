-- What statements with statements in them become once all their parts have types (6.8.4 to 6.8.6).
use Rattle.std.specs.Prelude.{ℕ, ◌+◌, min, Bool, cond, [], Option, Some, None, Ok, Err}
use Rattle.cc_base.specs.declared.diagnostics.Place.{Place}
use Rattle.c_layout.specs.SyntaxTrees.{Tree}
use Rattle.c_layout.specs.CheckedTrees as tree
use Rattle.c_layout.specs.CheckedTrees.{TermTree, StatementTree, statement_trees}
use Rattle.c_types_scopes.specs.Refusals.{Ruled, redeclared}
use Rattle.c_types_scopes.specs.Answers.{after}
use Rattle.c_types_scopes.specs.States.{State}
use Rattle.c_types_statement_rules.specs.StatementRules.BodyFlow.{FlowView}
use Rattle.c_types_statement_rules.specs.Objects.LocalObjects.{PartsView}
use Rattle.c_types_statement_rules.specs.StatementRules.SimpleStatements.{valued, effect, condition}

abbrev pub no_parts : PartsView
no_parts = record { objects = []; statements = [] }

-- a block of parts
abbrev pub block_node : PartsView → StatementTree
block_node parts = tree.Block parts.objects (statement_trees parts.statements)

-- a statement whose controlling expression is a scalar
abbrev pub controlled : (TermTree → StatementTree) → Ruled TermTree → Ruled StatementTree
controlled node (Ok e) = Ok (node e)
controlled node (Err f) = Err f

abbrev pub if_node : Place → TermTree → StatementTree → Ruled StatementTree
if_node at e first = controlled (λ c. tree.If c first) (condition at e)

abbrev pub if_else_node : Place → TermTree → StatementTree → StatementTree → Ruled StatementTree
if_else_node at e first second = controlled (λ c. tree.IfElse c first second) (condition at e)

abbrev pub while_node : Place → TermTree → StatementTree → Ruled StatementTree
while_node at e body = controlled (λ c. tree.While c body) (condition at e)

abbrev pub do_node : Place → TermTree → StatementTree → Ruled StatementTree
do_node at e body = controlled (λ c. tree.Do body c) (condition at e)

-- ---- `for`

abbrev pub present : TermTree → State → Ruled (Option TermTree × State)
present e t = Ok (Some e, t)

-- the step of a `for`, where there is one
abbrev pub step_clause : State → Option Tree → Ruled (Option TermTree × State)
step_clause s None = Ok (None, s)
step_clause s (Some e) = after (effect s e) present

-- the condition of a `for`, where there is one, before it is judged
abbrev pub test_clause : State → Option Tree → Ruled (Option TermTree × State)
test_clause s None = Ok (None, s)
test_clause s (Some e) = after (valued s e) present

abbrev pub for_controlled : PartsView → Option TermTree → StatementTree → Ruled TermTree → Ruled StatementTree
for_controlled parts step body (Ok e) = Ok (tree.For parts.objects (statement_trees parts.statements) (Some e) step body)
for_controlled parts step body (Err f) = Err f

abbrev pub for_node : Place → PartsView → Option TermTree → Option TermTree → StatementTree → Ruled StatementTree
for_node at parts None step body = Ok (tree.For parts.objects (statement_trees parts.statements) None step body)
for_node at parts (Some e) step body = for_controlled parts step body (condition at e)

-- ---- labels and loops

-- a second label of a name is refused
abbrev pub label_node : Place → ℕ → Bool → StatementTree → Ruled StatementTree
label_node at number is_repeated body = cond is_repeated (redeclared at) (Ok (tree.Label number body))

abbrev pub one_more : ℕ → ℕ
one_more n = min (n + 1) 4294967295

abbrev pub in_loop : FlowView → FlowView
in_loop f = record f { loops = one_more f.loops; breakables = one_more f.breakables }

-- as many loops and switches are open as before
abbrev pub out_of_loop : FlowView → FlowView → FlowView
out_of_loop before f = record f { loops = before.loops; breakables = before.breakables }

abbrev pub in_switch : FlowView → FlowView
in_switch f = record f { breakables = one_more f.breakables }

abbrev pub out_of_switch : FlowView → FlowView → FlowView
out_of_switch before f = record f { breakables = before.breakables }
