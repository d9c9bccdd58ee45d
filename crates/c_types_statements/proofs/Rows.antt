-- Worked rows: statements, and what they are.
use Rattle.std.specs.Prelude.{◌≡◌, refl, ℕ, Bool, true, false, [], ◌∷◌, None, Ok, Err}
use Rattle.cc_base.specs.declared.diagnostics.Place.{Place}
use Rattle.c_layout.specs.Models.{lp64}
use Rattle.c_layout.specs.Types.{Void}
use Rattle.c_layout.specs.SyntaxTrees as expression
use Rattle.c_layout.specs.SyntaxTrees.{Tree}
use Rattle.c_layout.specs.DeclarationTrees.{StatementTree, Break, Continue, While, Switch, Case, Block, Expression, Goto, Label, NoStatement, MoreStatements}
use Rattle.c_types_rules.specs.declared.rules.integer_kinds.Rank.TheVariants as rank
use Rattle.c_types_rules.specs.Rules.IntegerKinds.{kind_of}
use Rattle.c_types_scopes.specs.States.{first_state}
use Rattle.c_types_scopes.specs.Refusals.{Ruled, type_fault, redeclared, undeclared}
use Rattle.c_types_statement_rules.specs.StatementRules.BodyFlow.{no_flow}
use Rattle.c_types_statement_rules.specs.StatementRules.Points.{Point, point}
use Rattle.c_types_statements.specs.LabelNumbers.{with_labels}
use Rattle.c_types_statements.specs.Statements.{Declaring, statement}

abbrev at : ℕ → Place
at column = record { file = 0; line = 1; col = column }

abbrev number : ℕ → ℕ → Tree
number column n = expression.Number (at column) (record { value = n; negative = false; kind = kind_of lp64 rank.Int true })

-- a declaration that does nothing: none stands in these rows
abbrev nothing : Declaring
nothing s l parts = Ok (parts, s)

abbrev first : Point
first = point (first_state lp64) (no_flow Void)

abbrev two : StatementTree → StatementTree → StatementTree
two s t = Block (at 9) (MoreStatements s (MoreStatements t NoStatement))

abbrev empty : ℕ → StatementTree
empty column = Expression (at column) None

abbrev is_typed : {V : Type 0} → Ruled V → Bool
is_typed (Ok v) = true
is_typed (Err f) = false

-- `break;` stands in a loop or a switch, `continue;` in a loop
break_alone : statement nothing first (Break (at 1)) ≡ type_fault (at 1)
break_alone = refl

break_in_loop : is_typed (statement nothing first (While (at 1) (number 2 1) (Break (at 3)))) ≡ true
break_in_loop = refl

break_behind_loop : statement nothing first (two (While (at 1) (number 2 1) (Break (at 3))) (Break (at 4))) ≡ type_fault (at 4)
break_behind_loop = refl

continue_in_switch : statement nothing first (Switch (at 1) (number 2 1) (Continue (at 3))) ≡ type_fault (at 3)
continue_in_switch = refl

-- 1 and 4294967297 are the same int
second_case : statement nothing first (Switch (at 1) (number 2 1) (two (Case (at 3) (number 4 1) (empty 5)) (Case (at 6) (number 7 4294967297) (empty 8)))) ≡ redeclared (at 6)
second_case = refl

-- the label may stand behind the jump
abbrev jump : StatementTree
jump = two (Goto (at 1) (record { at = at 2; text = 97 ∷ [] })) (Label (record { at = at 3; text = 97 ∷ [] }) (empty 4))

forward : is_typed (statement nothing (with_labels jump first) jump) ≡ true
forward = refl

no_label : statement nothing first jump ≡ undeclared (at 1)
no_label = refl
