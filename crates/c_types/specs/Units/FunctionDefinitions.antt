-- Function definitions (6.9.1): the head is judged, and then the body is typed in the scope of the parameters.
use Rattle.std.specs.Prelude.{ℕ, false, cond, List, length, Option, Some, None, Ok, Err}
use Rattle.cc_base.specs.declared.diagnostics.Place.{Place}
use Rattle.c_layout.specs.DeclarationTrees as syntax
use Rattle.c_layout.specs.DeclarationTrees.{NameView, SpecTree, StatementTrees, FunctionDeclaratorView, spec_trees, statement_trees}
use Rattle.c_layout.specs.CheckedUnits.{FunctionView}
use Rattle.c_types_scopes.specs.Definitions.{function_of}
use Rattle.c_types_scopes.specs.Refusals.{Ruled, type_fault}
use Rattle.c_types_scopes.specs.Answers.{after}
use Rattle.c_types_scopes.specs.States.{State}
use Rattle.c_types_declarations.specs.Specifiers.{SpecifiedView}
use Rattle.c_types_declarations.specs.SpecifierTrees.{specifiers}
use Rattle.c_types_declarations.specs.FunctionHeads.{HeadView, function_head}
use Rattle.c_types_statement_rules.specs.StatementRules.BodyFlow.{no_flow, label_count}
use Rattle.c_types_statement_rules.specs.StatementRules.Points.{Point, point}
use Rattle.c_types_statements.specs.LabelNumbers.{with_all_labels}
use Rattle.c_types_statement_rules.specs.Objects.LocalObjects.{PartsView}
use Rattle.c_types_statement_rules.specs.StatementRules.StatementNodes.{no_parts}
use Rattle.c_types_statements.specs.LocalDeclarations.{local_declaration}
use Rattle.c_types_statements.specs.Statements.{items}
use Rattle.c_types.specs.FileScope.ExternalDeclarations.{is_typedef}
use Rattle.c_types.specs.FileScope.FunctionDeclarations.{in_scope, out_of_scope, function_slot, judged_head, without_body}
use Rattle.c_types.specs.declared.file_scope.function_declarations.FunctionSlot.{FunctionSlot}

-- ---- heads

abbrev pub or_0 : Option ℕ → ℕ
or_0 None = 0
or_0 (Some n) = n

-- the body at hand is that of the function of a name
abbrev pub with_number : ℕ → State → State
with_number name s = record s { body = record s.body { number = or_0 (function_of s.definitions name) } }

abbrev pub numbered : ℕ → HeadView → Unit {0} → State → Ruled (HeadView × State)
numbered name h u s = Ok (h, with_number name s)

abbrev pub head_in : NameView → FunctionSlot → HeadView → State → Ruled (HeadView × State)
head_in n slot h s = after (judged_head n slot.number slot.before h s) (numbered slot.known h)

abbrev pub head_of : SpecifiedView → FunctionDeclaratorView → FunctionSlot × State → Ruled (HeadView × State)
head_of base f p = after (function_head (in_scope p.1) base.declared f) (head_in f.name p.0)

-- the head of a definition, whose parameters are in a scope of their own
abbrev pub defined_head : State → SpecifiedView → FunctionDeclaratorView → Ruled (HeadView × State)
defined_head s base f = head_of base f (function_slot f.name s)

-- ---- bodies

abbrev pub before_body : HeadView → StatementTrees → State → Point
before_body h ts s = with_all_labels ts (point s (no_flow h.declared.ctype))

abbrev pub counted : Ruled (PartsView × Point) → Ruled ((PartsView × ℕ) × State)
counted (Ok p) = Ok ((p.0, label_count p.1.flow), p.1.state)
counted (Err f) = Err f

-- the parts of a body, and how many labels it has
abbrev pub body_parts : HeadView → StatementTrees → State → Ruled ((PartsView × ℕ) × State)
body_parts h ts s = counted (items local_declaration (before_body h ts s) no_parts ts)

abbrev pub function_of_parts : NameView → HeadView → PartsView × ℕ → State → Ruled (FunctionView × State)
function_of_parts n h b s = Ok (
  record {
    name = n.text;
    at = n.at;
    returns = h.declared.ctype;
    parameters = length h.parameters;
    locals = s.body.locals;
    scope = b.0.objects;
    body = b.0.statements;
    labels = b.1;
  },
  without_body s,
)

-- a function with its body, whose objects are let go
abbrev pub with_body : NameView → StatementTrees → HeadView → State → Ruled (FunctionView × State)
with_body n ts h s = after (body_parts h ts s) (function_of_parts n h)

-- ---- definitions

abbrev pub ended : FunctionView → State → Ruled (FunctionView × State)
ended f s = Ok (f, out_of_scope s)

abbrev pub defined : FunctionDeclaratorView → StatementTrees → SpecifiedView → State → Ruled (FunctionView × State)
defined f ts base s = after (after (defined_head s base f) (with_body f.name ts)) ended

abbrev pub defined_by : FunctionDeclaratorView → StatementTrees → SpecifiedView → State → Ruled (FunctionView × State)
defined_by f ts base s = cond (is_typedef base.storage) (type_fault f.name.at) (defined f ts base s)

-- a function definition
abbrev pub function_definition : State → Place → List SpecTree → FunctionDeclaratorView → List syntax.StatementTree → Ruled (FunctionView × State)
function_definition s at words f body = after (specifiers s at false (spec_trees words)) (defined_by f (statement_trees body))
