-- What the trees of a function name: its objects, objects of static storage and literals.
use Rattle.std.specs.Prelude.{◌≡◌, ℕ, Bool, true, List, [], ◌∷◌, Option, Some, None}
use Rattle.c_layout.specs.Types.{Ty}
use Rattle.c_layout.specs.CheckedTrees as tree
use Rattle.c_layout.specs.CheckedTrees.{TermTree, FormTree, TermTrees, Typed, LvalueTree, LvalueFormTree, Designates, StatementTree, StatementTrees, StoreTree, StoreValue, StoreCopy, StoreText, statement_trees}
use Rattle.c_layout.specs.CheckedUnits.{FunctionView}
use Rattle.c_layout.specs.StructViews.{StructView}
use Rattle.lower_templates.specs.Worklist.Pieces.{NameView, Local, Outcome, Literal, Allocation, TemplateView}
use Rattle.lower_templates.specs.Worklist.Plans.{name_of_object}
use Rattle.lower_functions.specs.Functions.Functions.{numbers_from, IsTemplate}

abbrev mutual
  -- all that a term names is such
  pub NamesTerm : (NameView → Type 0) → TermTree → Type 0
  NamesTerm Q (Typed at t parens constant form) = NamesForm Q form

  pub NamesForm : (NameView → Type 0) → FormTree → Type 0
  NamesForm Q (tree.Number n) = Unit {0}
  NamesForm Q (tree.SizeofType n is_pointer) = Unit {0}
  NamesForm Q (tree.Sizeof n operand is_pointer) = Unit {0}
  NamesForm Q (tree.Load l) = NamesLvalue Q l
  NamesForm Q (tree.AddressOf l) = NamesLvalue Q l
  NamesForm Q (tree.Decay l) = NamesLvalue Q l
  NamesForm Q (tree.Convert kind a) = NamesTerm Q a
  NamesForm Q (tree.Discard a) = NamesTerm Q a
  NamesForm Q (tree.Plus a) = NamesTerm Q a
  NamesForm Q (tree.Minus a) = NamesTerm Q a
  NamesForm Q (tree.Complement a) = NamesTerm Q a
  NamesForm Q (tree.Not a) = NamesTerm Q a
  NamesForm Q (tree.Integer sign a b) = NamesTerm Q a × NamesTerm Q b
  NamesForm Q (tree.Shift back size a b) = NamesTerm Q a × NamesTerm Q b
  NamesForm Q (tree.Difference size a b) = NamesTerm Q a × NamesTerm Q b
  NamesForm Q (tree.Compare sign a b) = NamesTerm Q a × NamesTerm Q b
  NamesForm Q (tree.Logical sign a b) = NamesTerm Q a × NamesTerm Q b
  NamesForm Q (tree.Conditional c a b) = NamesTerm Q c × NamesTerm Q a × NamesTerm Q b
  NamesForm Q (tree.Comma a b) = NamesTerm Q a × NamesTerm Q b
  NamesForm Q (tree.Assign l a) = NamesLvalue Q l × NamesTerm Q a
  NamesForm Q (tree.Compound sign kind l a) = NamesLvalue Q l × NamesTerm Q a
  NamesForm Q (tree.CompoundShift back size l a) = NamesLvalue Q l × NamesTerm Q a
  NamesForm Q (tree.Step sign time kind l) = NamesLvalue Q l
  NamesForm Q (tree.StepPointer sign time size l) = NamesLvalue Q l
  NamesForm Q (tree.Struct l) = NamesLvalue Q l
  NamesForm Q (tree.Call function args is_used) = NamesTerms Q args
  NamesForm Q (tree.Library function args target) = NamesTerms Q args

  pub NamesTerms : (NameView → Type 0) → TermTrees → Type 0
  NamesTerms Q tree.End = Unit {0}
  NamesTerms Q (tree.More e rest) = NamesTerm Q e × NamesTerms Q rest

  pub NamesLvalue : (NameView → Type 0) → LvalueTree → Type 0
  NamesLvalue Q (Designates at t parens form) = NamesPlace Q form

  pub NamesPlace : (NameView → Type 0) → LvalueFormTree → Type 0
  NamesPlace Q (tree.Object o) = Q (name_of_object o)
  NamesPlace Q (tree.Literal n) = Q (Literal n)
  NamesPlace Q (tree.Target e) = NamesTerm Q e
  NamesPlace Q (tree.Member outer offset) = NamesLvalue Q outer
  NamesPlace Q (tree.Copied target source) = NamesLvalue Q target × NamesLvalue Q source
  NamesPlace Q (tree.Then left right) = NamesTerm Q left × NamesLvalue Q right

abbrev pub NamesMaybe : (NameView → Type 0) → Option TermTree → Type 0
NamesMaybe Q None = Unit {0}
NamesMaybe Q (Some e) = NamesTerm Q e

abbrev pub NamesStore : (NameView → Type 0) → StoreTree → Type 0
NamesStore Q (StoreValue offset e) = NamesTerm Q e
NamesStore Q (StoreCopy offset l) = NamesLvalue Q l
NamesStore Q (StoreText offset room text) = Unit {0}

abbrev pub NamesStores : (NameView → Type 0) → List StoreTree → Type 0
NamesStores Q [] = Unit {0}
NamesStores Q (x ∷ xs) = NamesStore Q x × NamesStores Q xs

-- all these objects of a function are such
abbrev pub NamesLocals : (NameView → Type 0) → List ℕ → Type 0
NamesLocals Q [] = Unit {0}
NamesLocals Q (n ∷ ns) = Q (Local n) × NamesLocals Q ns

abbrev mutual
  -- all that a statement names is such
  pub NamesStatement : (NameView → Type 0) → StatementTree → Type 0
  NamesStatement Q (tree.Value e) = NamesTerm Q e
  NamesStatement Q tree.Nothing = Unit {0}
  NamesStatement Q (tree.Forget at local) = Q (Local local)
  NamesStatement Q (tree.Start at local e) = Q (Local local) × NamesTerm Q e
  NamesStatement Q (tree.StartCopy at local l) = Q (Local local) × NamesLvalue Q l
  NamesStatement Q (tree.StartList at local stores) = Q (Local local) × NamesStores Q stores
  NamesStatement Q (tree.Block objects items) = NamesLocals Q objects × NamesStatements Q items
  NamesStatement Q (tree.If e body) = NamesTerm Q e × NamesStatement Q body
  NamesStatement Q (tree.IfElse e first second) = NamesTerm Q e × NamesStatement Q first × NamesStatement Q second
  NamesStatement Q (tree.While e body) = NamesTerm Q e × NamesStatement Q body
  NamesStatement Q (tree.Do body e) = NamesStatement Q body × NamesTerm Q e
  NamesStatement Q (tree.For objects first e step body) = NamesLocals Q objects × NamesStatements Q first × NamesMaybe Q e × NamesMaybe Q step × NamesStatement Q body
  NamesStatement Q (tree.Switch at e labels has_default values body) = NamesTerm Q e × NamesStatement Q body
  NamesStatement Q (tree.Case n body) = NamesStatement Q body
  NamesStatement Q (tree.Default body) = NamesStatement Q body
  NamesStatement Q (tree.Label n body) = NamesStatement Q body
  NamesStatement Q (tree.Goto n) = Unit {0}
  NamesStatement Q tree.Break = Unit {0}
  NamesStatement Q tree.Continue = Unit {0}
  NamesStatement Q (tree.Return at e) = NamesMaybe Q e

  pub NamesStatements : (NameView → Type 0) → StatementTrees → Type 0
  NamesStatements Q tree.NoMore = Unit {0}
  NamesStatements Q (tree.And first rest) = NamesStatement Q first × NamesStatements Q rest

-- all that a function names is such; its result and its allocation sites have no numbers
pub record NamesFunction (Q : NameView → Type 0) (f : FunctionView) : Type 0 where
  pub parameters : NamesLocals Q (numbers_from 0 f.parameters)
  pub scope : NamesLocals Q f.scope
  pub body : NamesStatements Q (statement_trees f.body)
  pub outcome : Q Outcome
  pub sites : (target : Option Ty) → Q (Allocation target)

abbrev pub AllNames : (NameView → Type 0) → List NameView → Type 0
AllNames Q [] = Unit {0}
AllNames Q (x ∷ xs) = Q x × AllNames Q xs

-- a template names only what its function does: what passes a test for all that a function names passes it for its template
abbrev pub TemplatesNameTheSame : Type 0
TemplatesNameTheSame = (passes : NameView → Bool) (structs : List StructView) (pointer int_bytes : ℕ) (f : FunctionView) (is_entry : Bool) (t : TemplateView) → IsTemplate structs pointer int_bytes f is_entry t → NamesFunction (λ x. passes x ≡ true) f → AllNames (λ x. passes x ≡ true) t.names
