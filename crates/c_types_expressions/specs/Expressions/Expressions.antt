-- Expressions with their types (6.5). An expression is typed after its parts, in reading order, by the rule of its
-- operator; each part is typed in the state that the one before it leaves. The first part that is refused refuses the
-- expression, and where all parts have types its own rule may.
use Rattle.std.specs.Prelude.{ℕ, pos, ◌+◌, List, [], ◌∷◌, Option, Ok}
use Rattle.std.specs.Int.{w32, saturate_unsigned}
use Rattle.cc_base.specs.declared.diagnostics.Place.{Place}
use Rattle.c_layout.specs.Types.{Ty}
use Rattle.c_layout.specs.SyntaxTrees as syntax
use Rattle.c_layout.specs.SyntaxTrees.{Tree, Trees, TypeNameView, place_of}
use Rattle.c_layout.specs.declared.checked_tree.checked_terms.StepTime.TheVariants as time
use Rattle.c_types_scopes.specs.Answers.{after, kept}
use Rattle.c_types_scopes.specs.Refusals.{Ruled, type_fault}
use Rattle.c_types_scopes.specs.States.{State, with_constant}
use Rattle.c_types_operands.specs.Operands.{OperandView, parenthesized, term_of}
use Rattle.c_types_operands.specs.Comparisons.{binary}
use Rattle.c_types_operands.specs.Indirections.{subscript}
use Rattle.c_types_operators.specs.UnaryOperators.{unary, step}
use Rattle.c_types_operators.specs.SizesAndCasts.{size_of_operand, size_of_type, cast}
use Rattle.c_types_operators.specs.Choices.{logical, conditional, comma}
use Rattle.c_types_operators.specs.Assignments.{assignment}
use Rattle.c_types_primary.specs.Primaries as primaries
use Rattle.c_types_primary.specs.Members.{member, arrow}
use Rattle.c_types_primary.specs.Calls.{call}
use Rattle.c_types_primary.specs.TypeNames as names
use Rattle.c_types_expressions.specs.Expressions.Lengths.{length_of}
use Rattle.c_types_expressions.specs.Expressions.Leaves.{named, noted_callee, first_tree}

-- under one `sizeof` more
abbrev pub inside : State → State
inside s = record s { unevaluated = saturate_unsigned w32 (pos (s.unevaluated + 1)) }

-- under as many as in a state before
abbrev pub outside : State → State → State
outside before s = record s { unevaluated = before.unevaluated }

-- an operand that stands in parentheses
abbrev pub enclosed : OperandView → State → Ruled (OperandView × State)
enclosed x t = Ok (parenthesized x, t)

-- an operand as the length of an array; it is kept as a constant
abbrev pub counted : OperandView → State → Ruled (Option ℕ × State)
counted x t = Ok (length_of (term_of x), with_constant t (term_of x))

-- a value before others
abbrev pub before : {V : Type 0} → V → List V → State → Ruled (List V × State)
before v vs t = Ok (v ∷ vs, t)

abbrev mutual
  -- the operand that an expression is in a state, and the state behind it
  pub typed : State → Tree → Ruled (OperandView × State)
  typed s (syntax.Name at text) = kept s (named s at text)
  typed s (syntax.Number at c) = Ok (primaries.constant at c, s)
  typed s (syntax.Literal at bytes) = primaries.literal s at bytes
  typed s (syntax.Paren at e) = after (typed s e) enclosed
  typed s (syntax.Subscript at a b) = after (typed s a) (λ x s1. after (typed s1 b) (λ y t. kept t (subscript t.known at x y)))
  typed s (syntax.Call at name es) = after (noted_callee s at name) (λ callee s1. after (operands s1 es) (λ xs t. kept t (call t at callee (first_tree es) xs)))
  typed s (syntax.Member at e name) = after (typed s e) (λ x t. kept t (member t at x name))
  typed s (syntax.Arrow at e name) = after (typed s e) (λ x t. kept t (arrow t at x name))
  typed s (syntax.Postfix at op e) = after (typed s e) (λ x t. kept t (step t.known at op time.Postfix x))
  typed s (syntax.Prefix at op e) = after (typed s e) (λ x t. kept t (step t.known at op time.Prefix x))
  typed s (syntax.Unary at op e) = after (typed s e) (λ x t. kept t (unary t.known at op x))
  typed s (syntax.SizeofExpr at e) = after (typed (inside s) e) (λ x s1. kept (outside s s1) (size_of_operand s1.known at x))
  typed s (syntax.SizeofType at n es) = after (after (lengths s es) (λ ns s1. names.named_type s1 at n ns)) (λ u t. kept t (size_of_type t.known at u))
  typed s (syntax.Cast at n es e) = after (after (lengths s es) (λ ns s1. names.named_type s1 at n ns)) (λ u s2. after (typed s2 e) (λ x t. kept t (cast t.known at u x)))
  typed s (syntax.Binary at op a b) = after (typed s a) (λ x s1. after (typed s1 b) (λ y t. kept t (binary t.known at op x y)))
  typed s (syntax.Logical at op a b) = after (typed s a) (λ x s1. after (typed s1 b) (λ y t. kept t (logical t.known at op x y)))
  typed s (syntax.Conditional at a b c) = after (typed s a) (λ x s1. after (typed s1 b) (λ y s2. after (typed s2 c) (λ z t. kept t (conditional t.known at x y z))))
  typed s (syntax.Assign at op a b) = after (typed s a) (λ x s1. after (typed s1 b) (λ y t. kept t (assignment t.known at op x y)))
  typed s (syntax.Comma at a b) = after (typed s a) (λ x s1. after (typed s1 b) (λ y t. Ok (comma at x y, t)))

  -- arguments, in order
  pub operands : State → Trees → Ruled (List OperandView × State)
  operands s syntax.End = Ok ([], s)
  operands s (syntax.More e es) = after (typed s e) (λ x s1. after (operands s1 es) (before x))

  -- the lengths of a type name's arrays, in order
  pub lengths : State → Trees → Ruled (List (Option ℕ) × State)
  lengths s syntax.End = Ok ([], s)
  lengths s (syntax.More e es) = after (after (typed s e) counted) (λ n s1. after (lengths s1 es) (before n))

-- an expression as the length of an array
abbrev pub length : State → Tree → Ruled (Option ℕ × State)
length s e = after (typed s e) counted

-- the type of a type name with the lengths of its arrays
abbrev pub type_named : State → Place → TypeNameView → Trees → Ruled (Ty × State)
type_named s at n es = after (lengths s es) (λ ns s1. names.named_type s1 at n ns)

-- primary and postfix expressions alone
abbrev pub postfix : State → Tree → Ruled (OperandView × State)
postfix s (syntax.Prefix at op e) = type_fault at
postfix s (syntax.Unary at op e) = type_fault at
postfix s (syntax.SizeofExpr at e) = type_fault at
postfix s (syntax.SizeofType at n es) = type_fault at
postfix s (syntax.Cast at n es e) = type_fault at
postfix s (syntax.Binary at op a b) = type_fault at
postfix s (syntax.Logical at op a b) = type_fault at
postfix s (syntax.Conditional at a b c) = type_fault at
postfix s (syntax.Assign at op a b) = type_fault at
postfix s (syntax.Comma at a b) = type_fault at
postfix s e = typed s e

-- these, unary expressions and casts
abbrev pub prefixed : State → Tree → Ruled (OperandView × State)
prefixed s (syntax.Binary at op a b) = type_fault at
prefixed s (syntax.Logical at op a b) = type_fault at
prefixed s (syntax.Conditional at a b c) = type_fault at
prefixed s (syntax.Assign at op a b) = type_fault at
prefixed s (syntax.Comma at a b) = type_fault at
prefixed s e = typed s e

-- these and operators between two operands
abbrev pub combined : State → Tree → Ruled (OperandView × State)
combined s (syntax.Conditional at a b c) = type_fault at
combined s (syntax.Assign at op a b) = type_fault at
combined s (syntax.Comma at a b) = type_fault at
combined s e = typed s e
