-- Initializers (6.7.9). A refusal of types stands at the `=`, after all expressions of the initializer have types.
use Rattle.std.specs.Prelude.{ℕ, List, Option, Some, None, Ok}
use Rattle.cc_base.specs.declared.diagnostics.Place.{Place}
use Rattle.c_layout.specs.Types.{Ty, view}
use Rattle.c_layout.specs.SyntaxTrees.{Tree}
use Rattle.c_layout.specs.DeclarationTrees as tree
use Rattle.c_layout.specs.DeclarationTrees.{InitializerTree, InitializerTrees}
use Rattle.c_layout.specs.declared.type_terms.CType.{CType}
use Rattle.c_types_scopes.specs.Answers.{after, kept}
use Rattle.c_types_scopes.specs.Refusals.{Ruled}
use Rattle.c_types_scopes.specs.States.{State}
use Rattle.c_types_operands.specs.Operands.{OperandView}
use Rattle.c_types_expressions.specs.Expressions.Expressions.{typed}
use Rattle.c_types_initializers.specs.Subobjects.{subobject}
use Rattle.c_types_initializers.specs.Literals.{bare_literal, character_room, only_literal}
use Rattle.c_types_initializers.specs.ListStores.{FillingView, nothing}
use Rattle.c_types_initializers.specs.Initialized.{InitializedView, initialized_view, by_operand, spelled, filled}
use Rattle.c_types_initializers.specs.declared.object_initializers.Initialized.{Initialized}
use Rattle.c_types_expressions.specs.BracedLists.BracedLists.{fill}

-- what an initializer does, and the object's type with its length
abbrev pub made_view : Initialized × CType → InitializedView × Ty
made_view made = (initialized_view made.0, view made.1)

-- ---- expressions

abbrev pub by_operand_in : Place → Ty → OperandView → State → Ruled (InitializedView × State)
by_operand_in equals t x s = kept s (by_operand s.known equals t x)

-- an object by an expression that is no literal for an array of characters
abbrev pub by_value : State → Place → Ty → Tree → Ruled (InitializedView × State)
by_value s equals t e = after (typed s e) (by_operand_in equals t)

abbrev pub of_type : Ty → InitializedView → State → Ruled ((InitializedView × Ty) × State)
of_type t made s = Ok ((made, t), s)

-- the same with the object's type, which it does not change
abbrev pub by_term : State → Place → Ty → Tree → Ruled ((InitializedView × Ty) × State)
by_term s equals t e = after (by_value s equals t e) (of_type t)

abbrev pub by_text : State → Place → Ty → ℕ → Tree → Option (List ℕ) → Ruled ((InitializedView × Ty) × State)
by_text s equals t room e (Some bytes) = Ok (spelled t room bytes, s)
by_text s equals t room e None = by_term s equals t e

abbrev pub by_expression_in : State → Place → Ty → Tree → Option ℕ → Ruled ((InitializedView × Ty) × State)
by_expression_in s equals t e (Some room) = by_text s equals t room e (bare_literal e)
by_expression_in s equals t e None = by_term s equals t e

-- an object by an expression
abbrev pub by_expression : State → Place → Ty → Tree → Ruled ((InitializedView × Ty) × State)
by_expression s equals t e = by_expression_in s equals t e (character_room t)

-- ---- lists in braces

abbrev pub filled_in : Ty → ℕ × FillingView → State → Ruled ((InitializedView × Ty) × State)
filled_in t p s = kept s (filled p.1 t p.0)

-- an object by the items of a list
abbrev pub by_items : State → Place → Ty → InitializerTrees → Ruled ((InitializedView × Ty) × State)
by_items s equals t list = after (fill s equals (subobject t 0) nothing list) (filled_in t)

abbrev pub by_braced_text : State → Place → Ty → ℕ → InitializerTrees → Option (List ℕ) → Ruled ((InitializedView × Ty) × State)
by_braced_text s equals t room list (Some bytes) = Ok (spelled t room bytes, s)
by_braced_text s equals t room list None = by_items s equals t list

abbrev pub by_list_in : State → Place → Ty → InitializerTrees → Option ℕ → Ruled ((InitializedView × Ty) × State)
by_list_in s equals t list (Some room) = by_braced_text s equals t room list (only_literal list)
by_list_in s equals t list None = by_items s equals t list

-- an object by a list
abbrev pub by_list : State → Place → Ty → InitializerTrees → Ruled ((InitializedView × Ty) × State)
by_list s equals t list = by_list_in s equals t list (character_room t)

-- what an initializer does to an object of a type, and the type with the length that it gives
abbrev pub initializer_of : State → Place → Ty → InitializerTree → Ruled ((InitializedView × Ty) × State)
initializer_of s equals t (tree.Single e) = by_expression s equals t e
initializer_of s equals t (tree.Braces at list) = by_list s equals t list
