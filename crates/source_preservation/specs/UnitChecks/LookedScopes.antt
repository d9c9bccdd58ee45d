-- Looks at scopes: whether what a function names lives where it stands, and what a scope begins with is new.
use Rattle.std.specs.Prelude.{ℕ, Bool, true, false, not, ◌&&◌, nat_le, List, [], ◌∷◌, ◌++◌, length, Option, Some, None, is_some}
use Rattle.std.specs.List.{list_all}
use Rattle.c_layout.specs.CheckedTrees as tree
use Rattle.c_layout.specs.CheckedTrees.{TermTree, TermTrees, Typed, LvalueTree, Designates, StatementTree, StatementTrees, statement_trees, StoreTree, StoreValue, StoreCopy, StoreText}
use Rattle.c_layout.specs.CheckedUnits.{FunctionView, UnitView}
use Rattle.c_layout.specs.declared.checked_tree.checked_terms.ObjectRef.{ObjectRef}
use Rattle.c_layout.specs.declared.checked_tree.checked_terms.ObjectRef.TheVariants as ref
use Rattle.lower_templates.specs.Worklist.TermKinds.{is_void}
use Rattle.semantics.specs.SourceMachine.Scopes.{is_in}
use Rattle.semantics.specs.SourceMachine.SourceStates.{function_at}
use Rattle.source_items.specs.Liveness.Lives.{kept_objects}

-- ---- terms

abbrev pub lives_in : List ℕ → ObjectRef → Bool
lives_in alive (ref.Static n) = true
lives_in alive (ref.Local n) = is_in n alive

abbrev mutual
  pub is_scoped_term : List ℕ → TermTree → Bool
  is_scoped_term alive (Typed at t parens fixed (tree.Number n)) = true
  is_scoped_term alive (Typed at t parens fixed (tree.SizeofType n is_pointer)) = true
  is_scoped_term alive (Typed at t parens fixed (tree.Sizeof n operand is_pointer)) = true
  is_scoped_term alive (Typed at t parens fixed (tree.Load l)) = is_scoped_place alive l
  is_scoped_term alive (Typed at t parens fixed (tree.AddressOf l)) = is_scoped_place alive l
  is_scoped_term alive (Typed at t parens fixed (tree.Decay l)) = is_scoped_place alive l
  is_scoped_term alive (Typed at t parens fixed (tree.Convert sort a)) = is_scoped_term alive a
  is_scoped_term alive (Typed at t parens fixed (tree.Discard a)) = is_scoped_term alive a
  is_scoped_term alive (Typed at t parens fixed (tree.Plus a)) = is_scoped_term alive a
  is_scoped_term alive (Typed at t parens fixed (tree.Minus a)) = is_scoped_term alive a
  is_scoped_term alive (Typed at t parens fixed (tree.Complement a)) = is_scoped_term alive a
  is_scoped_term alive (Typed at t parens fixed (tree.Not a)) = is_scoped_term alive a
  is_scoped_term alive (Typed at t parens fixed (tree.Integer sign a b)) = is_scoped_term alive a && is_scoped_term alive b
  is_scoped_term alive (Typed at t parens fixed (tree.Shift back size a b)) = is_scoped_term alive a && is_scoped_term alive b
  is_scoped_term alive (Typed at t parens fixed (tree.Difference size a b)) = is_scoped_term alive a && is_scoped_term alive b
  is_scoped_term alive (Typed at t parens fixed (tree.Compare sign a b)) = is_scoped_term alive a && is_scoped_term alive b
  is_scoped_term alive (Typed at t parens fixed (tree.Logical sign a b)) = is_scoped_term alive a && is_scoped_term alive b
  is_scoped_term alive (Typed at t parens fixed (tree.Conditional c a b)) = is_scoped_term alive c && (is_scoped_term alive a && is_scoped_term alive b)
  is_scoped_term alive (Typed at t parens fixed (tree.Comma a b)) = is_scoped_term alive a && is_scoped_term alive b
  is_scoped_term alive (Typed at t parens fixed (tree.Assign l a)) = is_scoped_place alive l && is_scoped_term alive a
  is_scoped_term alive (Typed at t parens fixed (tree.Compound sign kind l a)) = is_scoped_place alive l && is_scoped_term alive a
  is_scoped_term alive (Typed at t parens fixed (tree.CompoundShift back size l a)) = is_scoped_place alive l && is_scoped_term alive a
  is_scoped_term alive (Typed at t parens fixed (tree.Step sign time kind l)) = is_scoped_place alive l
  is_scoped_term alive (Typed at t parens fixed (tree.StepPointer sign time size l)) = is_scoped_place alive l
  is_scoped_term alive (Typed at t parens fixed (tree.Struct l)) = is_scoped_place alive l
  is_scoped_term alive (Typed at t parens fixed (tree.Call function args is_used)) = are_scoped_terms alive args
  is_scoped_term alive (Typed at t parens fixed (tree.Library function args allocated)) = are_scoped_terms alive args

  pub is_scoped_place : List ℕ → LvalueTree → Bool
  is_scoped_place alive (Designates at t parens (tree.Object o)) = lives_in alive o
  is_scoped_place alive (Designates at t parens (tree.Literal n)) = true
  is_scoped_place alive (Designates at t parens (tree.Target e)) = is_scoped_term alive e
  is_scoped_place alive (Designates at t parens (tree.Member outer offset)) = is_scoped_place alive outer
  is_scoped_place alive (Designates at t parens (tree.Copied target source)) = is_scoped_place alive target && is_scoped_place alive source
  is_scoped_place alive (Designates at t parens (tree.Then left right)) = is_scoped_term alive left && is_scoped_place alive right

  pub are_scoped_terms : List ℕ → TermTrees → Bool
  are_scoped_terms alive tree.End = true
  are_scoped_terms alive (tree.More e rest) = is_scoped_term alive e && are_scoped_terms alive rest

abbrev pub is_scoped_if : List ℕ → Option TermTree → Bool
is_scoped_if alive None = true
is_scoped_if alive (Some e) = is_scoped_term alive e

-- ---- scopes

abbrev pub are_distinct : List ℕ → Bool
are_distinct [] = true
are_distinct (n ∷ ns) = not (is_in n ns) && are_distinct ns

abbrev pub are_apart : List ℕ → List ℕ → Bool
are_apart alive [] = true
are_apart alive (n ∷ ns) = not (is_in n alive) && are_apart alive ns

-- distinct objects, of which none lives
abbrev pub are_new : List ℕ → List ℕ → Bool
are_new objects alive = are_distinct objects && are_apart alive objects

-- ---- statements

abbrev pub is_scoped_store : List ℕ → StoreTree → Bool
is_scoped_store alive (StoreValue offset e) = is_scoped_term alive e
is_scoped_store alive (StoreCopy offset l) = is_scoped_place alive l
is_scoped_store alive (StoreText offset room text) = true

abbrev pub is_scoped_return : FunctionView → List ℕ → Option TermTree → Bool
is_scoped_return f alive None = true
is_scoped_return f alive (Some e) = is_scoped_term alive e && not (is_void f.returns)

abbrev mutual
  pub is_scoped_statement : FunctionView → List ℕ → StatementTree → Bool
  is_scoped_statement f alive (tree.Value e) = is_scoped_term alive e
  is_scoped_statement f alive tree.Nothing = true
  is_scoped_statement f alive (tree.Forget at local) = is_in local alive
  is_scoped_statement f alive (tree.Start at local e) = is_in local alive && is_scoped_term alive e
  is_scoped_statement f alive (tree.StartCopy at local l) = is_in local alive && is_scoped_place alive l
  is_scoped_statement f alive (tree.StartList at local stores) = is_in local alive && list_all (is_scoped_store alive) stores
  is_scoped_statement f alive (tree.Block objects items) = are_new objects alive && are_scoped_statements f (objects ++ alive) items
  is_scoped_statement f alive (tree.If c body) = is_scoped_term alive c && is_scoped_statement f alive body
  is_scoped_statement f alive (tree.IfElse c first second) = is_scoped_term alive c && (is_scoped_statement f alive first && is_scoped_statement f alive second)
  is_scoped_statement f alive (tree.While c body) = is_scoped_term alive c && is_scoped_statement f alive body
  is_scoped_statement f alive (tree.Do body c) = is_scoped_term alive c && is_scoped_statement f alive body
  is_scoped_statement f alive (tree.For objects first c step body) = are_new objects alive && (are_scoped_statements f (objects ++ alive) first && (is_scoped_if (objects ++ alive) c && (is_scoped_if (objects ++ alive) step && is_scoped_statement f (objects ++ alive) body)))
  is_scoped_statement f alive (tree.Switch at e labels has_default enumerators body) = is_scoped_term alive e && is_scoped_statement f alive body
  is_scoped_statement f alive (tree.Case n body) = is_scoped_statement f alive body
  is_scoped_statement f alive (tree.Default body) = is_scoped_statement f alive body
  is_scoped_statement f alive (tree.Label n body) = is_scoped_statement f alive body
  is_scoped_statement f alive (tree.Goto n) = true
  is_scoped_statement f alive tree.Break = true
  is_scoped_statement f alive tree.Continue = true
  is_scoped_statement f alive (tree.Return at e) = is_scoped_return f alive e

  pub are_scoped_statements : FunctionView → List ℕ → StatementTrees → Bool
  are_scoped_statements f alive tree.NoMore = true
  are_scoped_statements f alive (tree.And first rest) = is_scoped_statement f alive first && are_scoped_statements f alive rest

-- ---- functions and units

-- a body where such objects live
abbrev pub is_scoped_body : FunctionView → List ℕ → Bool
is_scoped_body f alive = are_new f.scope alive && are_scoped_statements f (f.scope ++ alive) (statement_trees f.body)

-- as the entry, and as a function that is called
abbrev pub is_scoped_function : FunctionView → Bool
is_scoped_function f = nat_le f.parameters (length f.locals) && (is_scoped_body f (kept_objects f true) && is_scoped_body f (kept_objects f false))

abbrev pub is_scoped : UnitView → Bool
is_scoped u = list_all is_scoped_function u.functions && is_some (function_at u u.entry)
