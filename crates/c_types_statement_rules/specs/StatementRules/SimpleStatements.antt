-- Statements without statements in them (6.8.3, 6.8.6).
use Rattle.std.specs.Prelude.{ℕ, cond, nat_lt, Option, Some, None, Ok}
use Rattle.std.specs.Global.{Box}
use Rattle.cc_base.specs.declared.diagnostics.Place.{Place}
use Rattle.c_layout.specs.Types.{Ty, Int, Pointer, Array, Struct, Void}
use Rattle.c_layout.specs.SyntaxTrees.{Tree}
use Rattle.c_layout.specs.DeclarationTrees.{NameView}
use Rattle.c_layout.specs.CheckedTrees as tree
use Rattle.c_layout.specs.CheckedTrees.{TermTree, StatementTree, statement_tree}
use Rattle.c_layout.specs.declared.checked_tree.checked_statements.CheckedStatement.{CheckedStatement}
use Rattle.c_types_scopes.specs.Known.{Known}
use Rattle.c_types_scopes.specs.Names.{known_in}
use Rattle.c_types_scopes.specs.Refusals.{Ruled, type_fault, undeclared}
use Rattle.c_types_scopes.specs.Answers.{after, kept}
use Rattle.c_types_scopes.specs.States.{State}
use Rattle.c_types_operands.specs.Operands.{OperandView, term_of, term_type, is_scalar}
use Rattle.c_types_operands.specs.Conversions as conversions
use Rattle.c_types_expressions.specs.Expressions.Expressions.{typed}
use Rattle.c_types_statement_rules.specs.StatementRules.BodyFlow.{FlowView, label_of}

abbrev pub boxed_statement : Box CheckedStatement → StatementTree
boxed_statement b = statement_tree b.value

abbrev pub value_in : OperandView → State → Ruled (TermTree × State)
value_in x t = Ok (term_of x, t)

-- the value of an expression
abbrev pub valued : State → Tree → Ruled (TermTree × State)
valued s e = after (typed s e) value_in

abbrev pub effect_in : TermTree → State → Ruled (TermTree × State)
effect_in x t = Ok (conversions.unused x, t)

-- an expression whose value is not used
abbrev pub effect : State → Tree → Ruled (TermTree × State)
effect s e = after (valued s e) effect_in

-- a controlling expression is a scalar, or its statement is refused
abbrev pub condition : Place → TermTree → Ruled TermTree
condition at e = cond (is_scalar (term_type e)) (Ok e) (type_fault at)

abbrev pub as_statement : TermTree → State → Ruled (StatementTree × State)
as_statement x t = Ok (tree.Value x, t)

-- an expression statement or a null statement
abbrev pub value_statement : State → Option Tree → Ruled (StatementTree × State)
value_statement s None = Ok (tree.Nothing, s)
value_statement s (Some e) = after (effect s e) as_statement

abbrev pub label_named : FlowView → Option ℕ → Option ℕ
label_named f None = None
label_named f (Some name) = label_of f name

abbrev pub goto_to : Place → Option ℕ → Ruled StatementTree
goto_to at None = undeclared at
goto_to at (Some number) = Ok (tree.Goto number)

-- a jump to a label of the body, which may stand behind it
abbrev pub goto_statement : State → FlowView → Place → NameView → Ruled StatementTree
goto_statement s f at n = goto_to at (label_named f (known_in s.scopes.names n.text))

-- `continue` stands in a loop
abbrev pub continue_statement : FlowView → Place → Ruled StatementTree
continue_statement f at = cond (nat_lt 0 f.loops) (Ok tree.Continue) (type_fault at)

-- `break` stands in a loop or a switch
abbrev pub break_statement : FlowView → Place → Ruled StatementTree
break_statement f at = cond (nat_lt 0 f.breakables) (Ok tree.Break) (type_fault at)

-- a value that a function of a result returns
abbrev pub returned : Known → Place → TermTree → Ty → Ruled TermTree
returned k at e Void = type_fault at
returned k at e (Int kind) = conversions.assigned k at e (Int kind)
returned k at e (Pointer t) = conversions.assigned k at e (Pointer t)
returned k at e (Array t count) = conversions.assigned k at e (Array t count)
returned k at e (Struct number) = conversions.assigned k at e (Struct number)

-- `return` without a value stands in a void function
abbrev pub return_nothing : Place → Ty → Ruled StatementTree
return_nothing at Void = Ok (tree.Return at None)
return_nothing at (Int kind) = type_fault at
return_nothing at (Pointer t) = type_fault at
return_nothing at (Array t count) = type_fault at
return_nothing at (Struct number) = type_fault at

abbrev pub return_value : State → FlowView → Place → Tree → Ruled (TermTree × State)
return_value s f at e = after (valued s e) (λ x t. kept t (returned t.known at x f.returns))

abbrev pub as_return : Place → TermTree → State → Ruled (StatementTree × State)
as_return at x t = Ok (tree.Return at (Some x), t)

-- `return`, with a value exactly where the function is not void
abbrev pub return_statement : State → FlowView → Place → Option Tree → Ruled (StatementTree × State)
return_statement s f at None = kept s (return_nothing at f.returns)
return_statement s f at (Some e) = after (return_value s f at e) (as_return at)
