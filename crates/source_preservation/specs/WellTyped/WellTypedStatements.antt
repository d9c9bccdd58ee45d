-- Statements, functions and units whose terms have operands of their marks, whose labels are there, and whose objects have
-- sizes that memory may have.
use Rattle.std.specs.Prelude.{◌≡◌, ◌<◌, ◌≤◌, ℕ, ◌+◌, true, false, List, [], ◌∷◌, length, Option, Some, None, slice_get}
use Rattle.cc_base.specs.declared.int_types.IntType.{IntType}
use Rattle.c_layout.specs.Types.{Int}
use Rattle.c_layout.specs.CheckedTrees as tree
use Rattle.c_layout.specs.CheckedTrees.{TermTree, StatementTree, StatementTrees, statement_trees, StoreTree, StoreValue, StoreCopy, StoreText}
use Rattle.c_layout.specs.CheckedUnits.{FunctionView, LocalView, StaticView, StaticStoreView, SetValue, SetText, LiteralView, UnitView}
use Rattle.c_layout.specs.declared.checked_tree.checked_units.StaticValue.{StaticValue}
use Rattle.c_layout.specs.declared.checked_tree.checked_units.StaticValue.TheVariants as static_value
use Rattle.lower_conditions.specs.declared.branch_tests.NamedObject.{NamedObject}
use Rattle.lower_conditions.specs.Tests.{named}
use Rattle.lower_functions.specs.Functions.Functions.{local_type}
use Rattle.lower_templates.specs.Worklist.TermKinds.{is_void, term_type}
use Rattle.cfg.specs.declared.machine_instructions.Scalar.TheVariants as of
use Rattle.memory_model.specs.Effects.LibraryChecks.{most_size}
use Rattle.memory_model.specs.Effects.UnitStarts.{entry_parameters}
use Rattle.semantics.specs.SourceMachine.LabelSearch.{from_label}
use Rattle.semantics.specs.SourceMachine.Operations.{size_of}
use Rattle.semantics.specs.SourceMachine.SourceStates.{function_at}
use Rattle.source_items.specs.StackKinds.KindedTerms.{IsThere}
use Rattle.source_items.specs.StackKinds.KindedStatements.{HasCases}
use Rattle.source_preservation.specs.ValueTyping.Marks.{Mark, Loaded, Converted, IsInBounds}
use Rattle.source_preservation.specs.ValueTyping.MarkOperations.{IsKind, IsWider}
use Rattle.source_preservation.specs.WellTyped.WellTypedTerms.{WellTypedTerm, WellTypedPlace, WellTypedCondition, SideTerm, IsScalarType}

-- ---- conditions and switches

-- a condition that may be left out, and a step
abbrev pub WellTypedIf : UnitView → Option TermTree → Type 0
WellTypedIf u None = Unit {0}
WellTypedIf u (Some c) = WellTypedCondition u true c

abbrev pub WellTypedStep : UnitView → Option TermTree → Type 0
WellTypedStep u None = Unit {0}
WellTypedStep u (Some e) = WellTypedTerm u false e

-- what is known of the value that a switch selects by: a number, and that of the object that is named, if one is, in its
-- own type or in one that has all its numbers
abbrev pub Matches : UnitView → NamedObject → Mark → Type 0
Matches u o (Loaded p) = (p ≡ o) × ((kind : IntType) × (o.kind ≡ of.Int kind) × IsKind u.model kind)
Matches u o (Converted p wide) = (p ≡ o) × ((kind : IntType) × (o.kind ≡ of.Int kind) × IsKind u.model kind × IsKind u.model wide × IsWider kind wide)
Matches u o mark = ⊥

abbrev pub SelectsBy : UnitView → TermTree → Option NamedObject → Type 0
SelectsBy u e None = WellTypedTerm u true e × ((kind : IntType) × (term_type e ≡ Int kind))
SelectsBy u e (Some o) = (mark : Mark) × SideTerm u e mark × Matches u o mark

-- ---- initializers

-- the bytes of a text
abbrev pub AreBytes : List ℕ → Type 0
AreBytes [] = Unit {0}
AreBytes (b ∷ bs) = (b < 256) × AreBytes bs

abbrev pub WellTypedStore : UnitView → StoreTree → Type 0
WellTypedStore u (StoreValue offset e) = WellTypedTerm u true e × IsScalarType u (term_type e) × (offset ≤ most_size u.model)
WellTypedStore u (StoreCopy offset l) = WellTypedPlace u l × (offset ≤ most_size u.model)
WellTypedStore u (StoreText offset room text) = AreBytes text

abbrev pub WellTypedStores : UnitView → List StoreTree → Type 0
WellTypedStores u [] = Unit {0}
WellTypedStores u (x ∷ xs) = WellTypedStore u x × WellTypedStores u xs

-- ---- statements

-- only a function that is not void returns a value
abbrev pub WellTypedReturn : UnitView → FunctionView → Option TermTree → Type 0
WellTypedReturn u f None = Unit {0}
WellTypedReturn u f (Some e) = WellTypedTerm u true e × IsScalarType u (term_type e) × (is_void f.returns ≡ false)

module _ (u : UnitView) (f : FunctionView) where
  abbrev mutual
    pub WellTypedStatement : StatementTree → Type 0
    WellTypedStatement (tree.Value e) = WellTypedTerm u false e
    WellTypedStatement tree.Nothing = Unit {0}
    WellTypedStatement (tree.Forget at local) = Unit {0}
    WellTypedStatement (tree.Start at local e) = WellTypedTerm u true e × IsScalarType u (term_type e)
    WellTypedStatement (tree.StartCopy at local l) = WellTypedPlace u l
    WellTypedStatement (tree.StartList at local stores) = WellTypedStores u stores
    WellTypedStatement (tree.Block objects items) = WellTypedStatements items
    WellTypedStatement (tree.If c body) = WellTypedCondition u true c × WellTypedStatement body
    WellTypedStatement (tree.IfElse c first second) = WellTypedCondition u true c × WellTypedStatement first × WellTypedStatement second
    WellTypedStatement (tree.While c body) = WellTypedCondition u true c × WellTypedStatement body
    WellTypedStatement (tree.Do body c) = WellTypedCondition u true c × WellTypedStatement body
    WellTypedStatement (tree.For objects first c step body) = WellTypedStatements first × WellTypedIf u c × WellTypedStep u step × WellTypedStatement body
    WellTypedStatement (tree.Switch at e labels has_default enumerators body) = SelectsBy u e (named e) × HasCases u labels body × WellTypedStatement body
    WellTypedStatement (tree.Case n body) = WellTypedStatement body
    WellTypedStatement (tree.Default body) = WellTypedStatement body
    WellTypedStatement (tree.Label n body) = WellTypedStatement body
    WellTypedStatement (tree.Goto n) = IsThere (from_label u f n)
    WellTypedStatement tree.Break = Unit {0}
    WellTypedStatement tree.Continue = Unit {0}
    WellTypedStatement (tree.Return at e) = WellTypedReturn u f e

    -- so is each of these statements
    pub WellTypedStatements : StatementTrees → Type 0
    WellTypedStatements tree.NoMore = Unit {0}
    WellTypedStatements (tree.And first rest) = WellTypedStatement first × WellTypedStatements rest

-- the parameters and the result have scalar types of the data model, and all objects a size that memory may have
pub record WellTypedFunction (u : UnitView) (f : FunctionView) : Type 0 where
  pub body : WellTypedStatements u f (statement_trees f.body)
  pub parameters : (n : ℕ) → n < f.parameters → IsScalarType u (local_type f n)
  pub returns : is_void f.returns ≡ false → IsScalarType u f.returns
  pub small : (n : ℕ) → size_of u (local_type f n) ≤ most_size u.model

-- ---- objects of static storage

-- an address that an initializer gives has bounds
abbrev pub IsProperValue : UnitView → StaticValue → Type 0
IsProperValue u (static_value.Address base offset lo hi) = IsInBounds u.model offset hi
IsProperValue u v = Unit {0}

abbrev pub IsProperStore : UnitView → StaticStoreView → Type 0
IsProperStore u (SetValue offset v) = IsProperValue u v
IsProperStore u (SetText offset room text) = AreBytes text

abbrev pub AreProperStores : UnitView → List StaticStoreView → Type 0
AreProperStores u [] = Unit {0}
AreProperStores u (x ∷ xs) = IsProperStore u x × AreProperStores u xs

pub record WellTypedStatic (u : UnitView) (o : StaticView) : Type 0 where
  pub small : size_of u o.ctype ≤ most_size u.model
  pub stores : AreProperStores u o.stores

pub record WellTypedLiteral (u : UnitView) (l : LiteralView) : Type 0 where
  pub bytes : AreBytes l.bytes
  pub small : length l.bytes + 1 ≤ most_size u.model

-- the entry's parameters are integers of the data model
abbrev pub AreIntegers : UnitView → List LocalView → Type 0
AreIntegers u [] = Unit {0}
AreIntegers u (l ∷ ls) = ((kind : IntType) × (l.ctype ≡ Int kind) × IsKind u.model kind) × AreIntegers u ls

-- so are all functions and objects of a unit, and its entry is one of its functions
pub record WellTypedUnit (u : UnitView) : Type 0 where
  pub functions : (g : ℕ) (f : FunctionView) → function_at u g ≡ Some f → WellTypedFunction u f
  pub statics : (n : ℕ) (o : StaticView) → slice_get u.objects n ≡ Some o → WellTypedStatic u o
  pub literals : (n : ℕ) (l : LiteralView) → slice_get u.literals n ≡ Some l → WellTypedLiteral u l
  pub entry : IsThere (function_at u u.entry)
  pub entered : AreIntegers u (entry_parameters u)
