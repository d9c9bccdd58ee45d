-- Whether a statement of a function has such terms, jumps only from where it may and to what is there, and switches on
-- objects of their own types.
use Rattle.std.specs.Prelude.{Bool, true, false, ◌&&◌, nat_lt, slice_get, Option, Some, None}
use Rattle.std.specs.List.{list_all}
use Rattle.cc_base.specs.declared.int_types.IntType.{IntType}
use Rattle.c_layout.specs.Types.{Ty, Int, Pointer, Array, Struct, Void, same_kind}
use Rattle.c_layout.specs.CheckedTrees as tree
use Rattle.c_layout.specs.CheckedTrees.{TermTree, LvalueTree, StatementTree, StatementTrees, StoreTree, StoreValue, StoreCopy, StoreText}
use Rattle.c_layout.specs.CheckedUnits.{LocalView, StaticView, FunctionView, UnitView}
use Rattle.c_layout.specs.declared.checked_tree.checked_terms.ObjectRef.{ObjectRef}
use Rattle.c_layout.specs.declared.checked_tree.checked_terms.ObjectRef.TheVariants as ref
use Rattle.cfg.specs.declared.machine_instructions.Scalar.{Scalar}
use Rattle.cfg.specs.declared.machine_instructions.Scalar.TheVariants as scalar
use Rattle.lower_templates.specs.Worklist.TermKinds.{lvalue_type}
use Rattle.lower_conditions.specs.Tests.{named}
use Rattle.lower_conditions.specs.declared.branch_tests.NamedObject.{NamedObject}
use Rattle.lower_preconditions.specs.Units.RegularTerms.{is_struct, has_local, is_regular_term, is_regular_place}

-- ---- parts of statements

abbrev pub is_regular_clause : UnitView → FunctionView → Bool → Option TermTree → Bool
is_regular_clause u f used None = true
is_regular_clause u f used (Some e) = is_regular_term u f used 0 e

-- the condition and the step of a `for`
abbrev pub are_regular_clauses : UnitView → FunctionView → Option TermTree → Option TermTree → Bool
are_regular_clauses u f e step = is_regular_clause u f true e && is_regular_clause u f false step

-- a value that is returned, behind the address of the result
abbrev pub is_regular_result : UnitView → FunctionView → Option TermTree → Bool
is_regular_result u f None = true
is_regular_result u f (Some e) = is_regular_term u f true 1 e

-- an lvalue whose struct is copied behind the address of its target
abbrev pub is_regular_source : UnitView → FunctionView → LvalueTree → Bool
is_regular_source u f l = is_struct (lvalue_type l) && is_regular_place u f 1 l

abbrev pub is_regular_store : UnitView → FunctionView → StoreTree → Bool
is_regular_store u f (StoreValue offset e) = is_regular_term u f true 1 e
is_regular_store u f (StoreCopy offset l) = is_regular_source u f l
is_regular_store u f (StoreText offset room text) = true

-- ---- the first clause of a `for`

-- a declaration or an expression
abbrev pub is_plain : StatementTree → Bool
is_plain (tree.Value e) = true
is_plain tree.Nothing = true
is_plain (tree.Forget at local) = true
is_plain (tree.Start at local e) = true
is_plain (tree.StartCopy at local l) = true
is_plain (tree.StartList at local stores) = true
is_plain other = false

abbrev pub are_plain : StatementTrees → Bool
are_plain tree.NoMore = true
are_plain (tree.And first rest) = is_plain first && are_plain rest

-- ---- the object that a switch is on

abbrev pub static_type : Option StaticView → Option Ty
static_type None = None
static_type (Some o) = Some o.ctype

abbrev pub local_type : Option LocalView → Option Ty
local_type None = None
local_type (Some l) = Some l.ctype

abbrev pub object_type : UnitView → FunctionView → ObjectRef → Option Ty
object_type u f (ref.Static n) = static_type (slice_get u.objects n)
object_type u f (ref.Local n) = local_type (slice_get f.locals n)

abbrev pub is_of_kind : IntType → Ty → Bool
is_of_kind k (Int kind) = same_kind k kind
is_of_kind k (Pointer t) = false
is_of_kind k (Array t n) = false
is_of_kind k (Struct i) = false
is_of_kind k Void = false

abbrev pub has_kind : IntType → Option Ty → Bool
has_kind k None = false
has_kind k (Some t) = is_of_kind k t

-- an object that is named as an integer is declared with that type
abbrev pub is_named_as : UnitView → FunctionView → ObjectRef → Scalar → Bool
is_named_as u f o (scalar.Int k) = has_kind k (object_type u f o)
is_named_as u f o scalar.Pointer = true

abbrev pub is_regular_named : UnitView → FunctionView → Option NamedObject → Bool
is_regular_named u f None = true
is_regular_named u f (Some o) = is_named_as u f o.object o.kind

-- the value of a switch
abbrev pub is_regular_switch : UnitView → FunctionView → TermTree → Bool
is_regular_switch u f e = is_regular_named u f (named e) && is_regular_term u f true 0 e

-- ---- statements

abbrev mutual
  -- a statement in a loop or switch or not, and in a loop or not
  pub is_regular_statement : UnitView → FunctionView → Bool → Bool → StatementTree → Bool
  is_regular_statement u f breaks loops (tree.Value e) = is_regular_term u f false 0 e
  is_regular_statement u f breaks loops tree.Nothing = true
  is_regular_statement u f breaks loops (tree.Forget at local) = has_local f local
  is_regular_statement u f breaks loops (tree.Start at local e) = has_local f local && is_regular_term u f true 1 e
  is_regular_statement u f breaks loops (tree.StartCopy at local l) = has_local f local && is_regular_source u f l
  is_regular_statement u f breaks loops (tree.StartList at local stores) = has_local f local && list_all (is_regular_store u f) stores
  is_regular_statement u f breaks loops (tree.Block objects items) = are_regular_statements u f breaks loops items
  is_regular_statement u f breaks loops (tree.If e body) = is_regular_term u f true 0 e && is_regular_statement u f breaks loops body
  is_regular_statement u f breaks loops (tree.IfElse e first second) = is_regular_term u f true 0 e && (is_regular_statement u f breaks loops first && is_regular_statement u f breaks loops second)
  is_regular_statement u f breaks loops (tree.While e body) = is_regular_term u f true 0 e && is_regular_statement u f true true body
  is_regular_statement u f breaks loops (tree.Do body e) = is_regular_term u f true 0 e && is_regular_statement u f true true body
  is_regular_statement u f breaks loops (tree.For objects first e step body) = (are_plain first && (are_regular_statements u f false false first && are_regular_clauses u f e step)) && is_regular_statement u f true true body
  is_regular_statement u f breaks loops (tree.Switch at e labels has_default values body) = is_regular_switch u f e && is_regular_statement u f true loops body
  is_regular_statement u f breaks loops (tree.Case n body) = is_regular_statement u f breaks loops body
  is_regular_statement u f breaks loops (tree.Default body) = is_regular_statement u f breaks loops body
  is_regular_statement u f breaks loops (tree.Label n body) = is_regular_statement u f breaks loops body
  is_regular_statement u f breaks loops (tree.Goto n) = nat_lt n f.labels
  is_regular_statement u f breaks loops tree.Break = breaks
  is_regular_statement u f breaks loops tree.Continue = loops
  is_regular_statement u f breaks loops (tree.Return at e) = is_regular_result u f e

  pub are_regular_statements : UnitView → FunctionView → Bool → Bool → StatementTrees → Bool
  are_regular_statements u f breaks loops tree.NoMore = true
  are_regular_statements u f breaks loops (tree.And first rest) = is_regular_statement u f breaks loops first && are_regular_statements u f breaks loops rest
