-- Worked rows: expressions, and what they are.
use Rattle.std.specs.Prelude.{◌≡◌, refl, ℕ, ℤ, pos, [], ◌∷◌, length, true, false, Some, None, Option, Ok, Err}
use Rattle.cc_base.specs.declared.diagnostics.Place.{Place}
use Rattle.c_layout.specs.Models.{lp64}
use Rattle.c_layout.specs.Types as ty
use Rattle.c_layout.specs.Types.{Ty}
use Rattle.c_layout.specs.SyntaxTrees as syntax
use Rattle.c_layout.specs.SyntaxTrees.{Tree}
use Rattle.c_layout.specs.declared.syntax_tree.expressions.BinaryOp.TheVariants as op
use Rattle.c_types_rules.specs.declared.rules.integer_kinds.Rank.TheVariants as rank
use Rattle.c_types_rules.specs.Rules.IntegerKinds.{kind_of}
use Rattle.c_types_scopes.specs.DeclaredTypes.{plain}
use Rattle.c_types_scopes.specs.Names as names
use Rattle.c_types_scopes.specs.ScopeTables.{newest_from}
use Rattle.c_types_scopes.specs.States.{State, first_state, with_local}
use Rattle.c_types_scopes.specs.Refusals.{Ruled, undeclared}
use Rattle.c_types_scopes.specs.declared.meanings.Meaning.TheVariants as meaning
use Rattle.c_types_operands.specs.Operands.{OperandView, term_of, term_type, term_constant}
use Rattle.c_types_expressions.specs.Expressions.Leaves.{named}
use Rattle.c_types_expressions.specs.Expressions.Expressions.{typed}

abbrev at : ℕ → Place
at column = record { file = 0; line = 1; col = column }

abbrev number : ℕ → ℕ → Tree
number column n = syntax.Number (at column) (record { value = n; negative = false; kind = kind_of lp64 rank.Int true })

abbrev char : Ty
char = ty.Int (kind_of lp64 rank.Char true)

-- before the first declaration, and where `char a[3];` is declared in a body
abbrev first : State
first = first_state lp64

abbrev behind_a : State
behind_a = record (with_local first (97 ∷ []) (at 1) (plain (ty.Array char 3))) { scopes = names.declared (names.with_name names.no_scopes (97 ∷ [])) 0 (meaning.Local 0) }

abbrev constant_in : Ruled (OperandView × State) → Option ℤ
constant_in (Ok p) = term_constant (term_of p.0)
constant_in (Err f) = None

abbrev type_in : Ruled (OperandView × State) → Option Ty
type_in (Ok p) = Some (term_type (term_of p.0))
type_in (Err f) = None

abbrev literals_in : Ruled (OperandView × State) → Option ℕ
literals_in (Ok p) = Some (length p.1.literals)
literals_in (Err f) = None

-- 1 + 2 is the int constant 3
sum_of_constants : constant_in (typed first (syntax.Binary (at 2) op.Add (number 1 1) (number 3 2))) ≡ Some (pos 3)
sum_of_constants = refl

type_of_sum : type_in (typed first (syntax.Binary (at 2) op.Add (number 1 1) (number 3 2))) ≡ Some (ty.Int (kind_of lp64 rank.Int true))
type_of_sum = refl

-- of two names that are not declared the left one is refused, although the sum stands between them
left_one_first : typed first (syntax.Binary (at 2) op.Add (syntax.Name (at 1) (120 ∷ [])) (syntax.Name (at 3) (121 ∷ []))) ≡ undeclared (at 1)
unfolding named
left_one_first = refl

-- a[1] is a char, and its size is 1
element : type_in (typed behind_a (syntax.Subscript (at 2) (syntax.Name (at 1) (97 ∷ [])) (number 3 1))) ≡ Some char
unfolding newest_from named
element = refl

size_of_element : constant_in (typed behind_a (syntax.SizeofExpr (at 1) (syntax.Subscript (at 9) (syntax.Name (at 8) (97 ∷ [])) (number 10 1)))) ≡ Some (pos 1)
unfolding newest_from named
size_of_element = refl

-- sizeof a is 3: the array is not converted
size_of_array : constant_in (typed behind_a (syntax.SizeofExpr (at 1) (syntax.Name (at 8) (97 ∷ [])))) ≡ Some (pos 3)
unfolding newest_from named
size_of_array = refl

-- a literal under `sizeof` has its zero, and is none of the run
size_of_literal : constant_in (typed first (syntax.SizeofExpr (at 1) (syntax.Literal (at 8) (104 ∷ 105 ∷ [])))) ≡ Some (pos 3)
size_of_literal = refl

no_literal : literals_in (typed first (syntax.SizeofExpr (at 1) (syntax.Literal (at 8) (104 ∷ 105 ∷ [])))) ≡ Some 0
no_literal = refl

one_literal : literals_in (typed first (syntax.Literal (at 1) (104 ∷ 105 ∷ []))) ≡ Some 1
one_literal = refl
