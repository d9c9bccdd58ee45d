-- What the laws ask of statements, and typing gives: that each jump has its loop, switch or label, that each case and label
-- stands once, that what is copied is a struct, that an integer object that is switched on is read with its own type, and
-- that no object of a block is one of those around it.
use Rattle.std.specs.Prelude.{◌≡◌, ◌≤◌, ◌<◌, ℕ, ◌+◌, ◌-◌, ◌^◌, Bool, true, false, List, [], ◌∷◌, ◌++◌, length, Option, Some, None, slice_get}
use Rattle.c_layout.specs.Types.{Ty, Struct}
use Rattle.c_layout.specs.CheckedTrees as tree
use Rattle.c_layout.specs.CheckedTrees.{TermTree, LvalueTree, StatementTree, StatementTrees, statement_trees, StoreTree, StoreValue, StoreCopy, StoreText}
use Rattle.c_layout.specs.CheckedUnits.{UnitView, FunctionView}
use Rattle.c_layout.specs.declared.checked_tree.checked_terms.ObjectRef.{ObjectRef}
use Rattle.c_layout.specs.declared.checked_tree.checked_terms.ObjectRef.TheVariants as ref
use Rattle.cfg.specs.declared.machine_instructions.Scalar.{Scalar}
use Rattle.cfg.specs.declared.machine_instructions.Scalar.TheVariants as scalar
use Rattle.lower_templates.specs.Worklist.TermKinds.{integer_type, struct_number, lvalue_type}
use Rattle.lower_conditions.specs.Tests.{named}
use Rattle.lower_conditions.specs.declared.branch_tests.NamedObject.{NamedObject}
use Rattle.lower_template_theorems.specs.PendingLabels.Marks.{all_labels_in, cases_in, IsSelected}
use Rattle.semantics.specs.SourceMachine.SourceStates.{static_type, local_of}
use Rattle.semantics.specs.SourceMachine.Scopes.{is_in}
use Rattle.simulation_terms.specs.Worklists.Rooms.{room, room_of_place}
use Rattle.simulation_terms.specs.Worklists.SuitedTerms.{Suits, SuitsAsPlace}

-- a term that is computed behind so many values
abbrev pub SuitsBehind : UnitView → Bool → ℕ → TermTree → Type 0
SuitsBehind u used d e = Suits u used e × (d + room e ≤ 2 ^ 32 - 1)

abbrev pub SuitsIf : UnitView → Bool → Option TermTree → Type 0
SuitsIf u used None = Unit {0}
SuitsIf u used (Some e) = SuitsBehind u used 0 e

-- a value that is returned is computed behind the pointer to the object of the result
abbrev pub SuitsAsReturned : UnitView → Option TermTree → Type 0
SuitsAsReturned u None = Unit {0}
SuitsAsReturned u (Some e) = SuitsBehind u true 1 e

-- an lvalue whose struct is copied
abbrev pub SuitsAsSource : UnitView → LvalueTree → Type 0
SuitsAsSource u l = SuitsAsPlace u l × (1 + room_of_place l ≤ 2 ^ 32 - 1) × (lvalue_type l ≡ Struct (struct_number (lvalue_type l)))

abbrev pub SuitsAsStore : UnitView → StoreTree → Type 0
SuitsAsStore u (StoreValue offset e) = SuitsBehind u true 1 e
SuitsAsStore u (StoreCopy offset l) = SuitsAsSource u l
SuitsAsStore u (StoreText offset room text) = Unit {0}

abbrev pub SuitAsStores : UnitView → List StoreTree → Type 0
SuitAsStores u [] = Unit {0}
SuitAsStores u (x ∷ xs) = SuitsAsStore u x × SuitAsStores u xs

-- no object of a list is in another one
abbrev pub AreNew : List ℕ → List ℕ → Type 0
AreNew [] known = Unit {0}
AreNew (x ∷ xs) known = (is_in x known ≡ false) × AreNew xs known

-- ---- where jumps go

-- whether there is a loop or switch around, which `break` leaves, and a loop, whose turn `continue` ends
pub record Enclosure : Type 0 where
  pub breaks : Bool
  pub continues : Bool

abbrev pub not_enclosed : Enclosure
not_enclosed = record { breaks = false; continues = false }

abbrev pub by_loop : Enclosure
by_loop = record { breaks = true; continues = true }

abbrev pub by_switch : Enclosure → Enclosure
by_switch x = record { breaks = true; continues = x.continues }

-- a declaration or an expression
abbrev pub IsPlain : StatementTree → Type 0
IsPlain (tree.Value e) = Unit {0}
IsPlain tree.Nothing = Unit {0}
IsPlain (tree.Forget at object) = Unit {0}
IsPlain (tree.Start at object e) = Unit {0}
IsPlain (tree.StartCopy at object l) = Unit {0}
IsPlain (tree.StartList at object stores) = Unit {0}
IsPlain other = ⊥

abbrev pub ArePlain : StatementTrees → Type 0
ArePlain tree.NoMore = Unit {0}
ArePlain (tree.And first rest) = IsPlain first × ArePlain rest

-- ---- what switches are on

-- the type of an object that a function names
abbrev pub object_type : UnitView → FunctionView → ObjectRef → Option Ty
object_type u f (ref.Static m) = static_type (slice_get u.objects m)
object_type u f (ref.Local m) = local_of (Some f) m

-- an integer is read with the type of its object
abbrev pub IsReadAs : Option Ty → Scalar → Type 0
IsReadAs o (scalar.Int kind) = (ctype : Ty) × (o ≡ Some ctype) × (kind ≡ integer_type ctype)
IsReadAs o scalar.Pointer = Unit {0}

abbrev pub IsSwitchedOn : UnitView → FunctionView → Option NamedObject → Type 0
IsSwitchedOn u f None = Unit {0}
IsSwitchedOn u f (Some o) = IsReadAs (object_type u f o.object) o.kind

-- each case of so many stands in a statement
abbrev pub HasCases : ℕ → StatementTree → Type 0
HasCases count body = (n : ℕ) → n < count → 1 ≤ cases_in n body

-- a label of a function stands in its body
abbrev pub HasLabel : FunctionView → ℕ → Type 0
HasLabel f l = (l < f.labels) × (1 ≤ all_labels_in l (statement_trees f.body))

-- ---- statements

module _ (u : UnitView) (f : FunctionView) where
  abbrev mutual
    -- a statement in loops and switches, and with such objects around it
    pub SuitsIn : Enclosure → List ℕ → StatementTree → Type 0
    SuitsIn enclosed known (tree.Value e) = SuitsBehind u false 0 e
    SuitsIn enclosed known tree.Nothing = Unit {0}
    SuitsIn enclosed known (tree.Forget at object) = Unit {0}
    SuitsIn enclosed known (tree.Start at object e) = SuitsBehind u true 1 e
    SuitsIn enclosed known (tree.StartCopy at object l) = SuitsAsSource u l
    SuitsIn enclosed known (tree.StartList at object stores) = SuitAsStores u stores
    SuitsIn enclosed known (tree.Block objects items) = AreNew objects known × AllSuitIn enclosed (objects ++ known) items
    SuitsIn enclosed known (tree.If e body) = SuitsBehind u true 0 e × SuitsIn enclosed known body
    SuitsIn enclosed known (tree.IfElse e first second) = SuitsBehind u true 0 e × SuitsIn enclosed known first × SuitsIn enclosed known second
    SuitsIn enclosed known (tree.While e body) = SuitsBehind u true 0 e × SuitsIn by_loop known body
    SuitsIn enclosed known (tree.Do body e) = SuitsIn by_loop known body × SuitsBehind u true 0 e
    SuitsIn enclosed known (tree.For objects first e step body) = AreNew objects known × AllSuitIn not_enclosed (objects ++ known) first × SuitsIf u true e × SuitsIf u false step × SuitsIn by_loop (objects ++ known) body × ArePlain first
    SuitsIn enclosed known (tree.Switch at e labels has_default values body) = SuitsBehind u true 0 e × IsSwitchedOn u f (named e) × IsSelected (length labels) body × HasCases (length labels) body × SuitsIn (by_switch enclosed) known body
    SuitsIn enclosed known (tree.Case n body) = SuitsIn enclosed known body
    SuitsIn enclosed known (tree.Default body) = SuitsIn enclosed known body
    SuitsIn enclosed known (tree.Label n body) = SuitsIn enclosed known body
    SuitsIn enclosed known (tree.Goto l) = HasLabel f l
    SuitsIn enclosed known tree.Break = enclosed.breaks ≡ true
    SuitsIn enclosed known tree.Continue = enclosed.continues ≡ true
    SuitsIn enclosed known (tree.Return at e) = SuitsAsReturned u e

    pub AllSuitIn : Enclosure → List ℕ → StatementTrees → Type 0
    AllSuitIn enclosed known tree.NoMore = Unit {0}
    AllSuitIn enclosed known (tree.And first rest) = SuitsIn enclosed known first × AllSuitIn enclosed known rest
