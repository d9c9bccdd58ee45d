-- Statements and functions whose pointers point to what their types say.
use Rattle.std.specs.Prelude.{Bool, true, ◌&&◌, ◌||◌, nat_lt, Option, Some, None}
use Rattle.std.specs.List.{list_all}
use Rattle.c_layout.specs.CheckedTrees as tree
use Rattle.c_layout.specs.CheckedTrees.{TermTree, LvalueTree, StatementTree, StatementTrees, StoreTree, StoreValue, StoreCopy, StoreText, statement_trees}
use Rattle.c_layout.specs.CheckedUnits.{FunctionView, UnitView}
use Rattle.c_layout.specs.Types.{Ty, same_type}
use Rattle.lower_functions.specs.Functions.Functions.{local_type}
use Rattle.lower_templates.specs.Worklist.TermKinds.{term_type, lvalue_type, is_void}
use Rattle.typed_lowering.specs.Conversions.TypedObjects.{begins}
use Rattle.typed_lowering.specs.Conversions.TypedTerms.{is_struct, is_scalar, parameter_types, is_stored_as, size, is_typed_term, is_typed_place}

module _ (u : UnitView) (f : FunctionView) where
  -- a structure of the type is copied
  abbrev pub is_copied_as : Ty → LvalueTree → Bool
  is_copied_as t l = is_typed_place u f l && ((is_struct t && nat_lt 0 (size u f t)) && same_type (lvalue_type l) t)

  -- a scalar or a structure that is stored in a part of an object
  abbrev pub is_typed_store : Ty → StoreTree → Bool
  is_typed_store outer (StoreValue offset e) = is_typed_term u f e && (is_stored_as (term_type e) e && begins u outer (term_type e) offset)
  is_typed_store outer (StoreCopy offset l) = is_copied_as (lvalue_type l) l && begins u outer (lvalue_type l) offset
  is_typed_store outer (StoreText offset room text) = true

  abbrev pub is_typed_clause : Option TermTree → Bool
  is_typed_clause None = true
  is_typed_clause (Some e) = is_typed_term u f e

  abbrev pub is_typed_result : Option TermTree → Bool
  is_typed_result None = true
  is_typed_result (Some e) = is_typed_term u f e && is_stored_as f.returns e

  abbrev mutual
    pub is_typed_statement : StatementTree → Bool
    is_typed_statement (tree.Value e) = is_typed_term u f e
    is_typed_statement tree.Nothing = true
    is_typed_statement (tree.Forget at local) = true
    is_typed_statement (tree.Start at local e) = is_typed_term u f e && is_stored_as (local_type f local) e
    is_typed_statement (tree.StartCopy at local l) = is_copied_as (local_type f local) l
    is_typed_statement (tree.StartList at local stores) = list_all (is_typed_store (local_type f local)) stores
    is_typed_statement (tree.Block objects items) = are_typed_statements items
    is_typed_statement (tree.If e body) = is_typed_term u f e && is_typed_statement body
    is_typed_statement (tree.IfElse e first second) = is_typed_term u f e && (is_typed_statement first && is_typed_statement second)
    is_typed_statement (tree.While e body) = is_typed_term u f e && is_typed_statement body
    is_typed_statement (tree.Do body e) = is_typed_term u f e && is_typed_statement body
    is_typed_statement (tree.For objects first e step body) = are_typed_statements first && ((is_typed_clause e && is_typed_clause step) && is_typed_statement body)
    is_typed_statement (tree.Switch at e labels has_default values body) = is_typed_term u f e && is_typed_statement body
    is_typed_statement (tree.Case n body) = is_typed_statement body
    is_typed_statement (tree.Default body) = is_typed_statement body
    is_typed_statement (tree.Label n body) = is_typed_statement body
    is_typed_statement (tree.Goto n) = true
    is_typed_statement tree.Break = true
    is_typed_statement tree.Continue = true
    is_typed_statement (tree.Return at e) = is_typed_result e

    pub are_typed_statements : StatementTrees → Bool
    are_typed_statements tree.NoMore = true
    are_typed_statements (tree.And first rest) = is_typed_statement first && are_typed_statements rest

-- parameters are scalars, and a result is one
abbrev pub has_scalars : FunctionView → Bool
has_scalars f = list_all is_scalar (parameter_types f) && (is_void f.returns || is_scalar f.returns)

abbrev pub is_typed_function : UnitView → FunctionView → Bool
is_typed_function u f = has_scalars f && are_typed_statements u f (statement_trees f.body)
