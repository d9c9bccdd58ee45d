-- Checked expressions and statements, as contracts see them: without the memory in which they stand.
use Rattle.std.specs.Prelude.{ℕ, ℤ, Bool, List, [], ◌∷◌, map, Option, Some, None, Vec}
use Rattle.std.specs.Option.{option_map}
use Rattle.std.specs.Global.{Box, Global}
use Rattle.cc_base.specs.declared.diagnostics.Place.{Place}
use Rattle.c_layout.specs.Types.{Ty, view}
use Rattle.c_layout.specs.declared.library_functions.LibFn.{LibFn}
use Rattle.c_layout.specs.declared.syntax_tree.expressions.BinaryOp.{BinaryOp}
use Rattle.c_layout.specs.declared.syntax_tree.expressions.LogicalOp.{LogicalOp}
use Rattle.c_layout.specs.declared.syntax_tree.expressions.StepOp.{StepOp}
use Rattle.c_layout.specs.declared.checked_tree.checked_terms.ObjectRef.{ObjectRef}
use Rattle.c_layout.specs.declared.checked_tree.checked_terms.ConversionKind.{ConversionKind}
use Rattle.c_layout.specs.declared.checked_tree.checked_terms.StepTime.{StepTime}
use Rattle.c_layout.specs.declared.checked_tree.checked_terms.LvalueForm.{LvalueForm-F}
use Rattle.c_layout.specs.declared.checked_tree.checked_terms.TermForm.{TermForm-F}
use Rattle.c_layout.specs.declared.checked_tree.checked_terms.Lvalue.{Lvalue, Lvalue-F, fold-Lvalue}
use Rattle.c_layout.specs.declared.checked_tree.checked_terms.CheckedTerm.{CheckedTerm, CheckedTerm-F, fold-CheckedTerm}
use Rattle.c_layout.specs.declared.checked_tree.checked_statements.CaseLabel.{CaseLabel}
use Rattle.c_layout.specs.declared.checked_tree.checked_statements.InitStore.{InitStore}
use Rattle.c_layout.specs.declared.checked_tree.checked_statements.InitStore.TheVariants as store
use Rattle.c_layout.specs.declared.checked_tree.checked_statements.CheckedStatement.{CheckedStatement, CheckedStatement-F, fold-CheckedStatement}

mutual
  -- an lvalue: its place, its type, the pairs of parentheses round it, and its form
  pub data LvalueTree : Type 0 where
    Designates : (at : Place) (ctype : Ty) (parens : ℕ) (form : LvalueFormTree) → LvalueTree

  pub data LvalueFormTree : Type 0 where
    Object : (object : ObjectRef) → LvalueFormTree
    Literal : (index : ℕ) → LvalueFormTree
    Target : (pointer : TermTree) → LvalueFormTree
    Member : (whole : LvalueTree) (offset : ℕ) → LvalueFormTree
    Copied : (target source : LvalueTree) → LvalueFormTree
    Then : (first : TermTree) (last : LvalueTree) → LvalueFormTree

  -- an expression: its place, its type, the pairs of parentheses round it, its value where it is an
  -- integer constant expression, and its form
  pub data TermTree : Type 0 where
    Typed : (at : Place) (ctype : Ty) (parens : ℕ) (constant : Option ℤ) (form : FormTree) → TermTree

  pub data FormTree : Type 0 where
    Number : (value : ℤ) → FormTree
    SizeofType : (value : ℕ) (is_pointer : Bool) → FormTree
    Sizeof : (value : ℕ) (operand : TermTree) (is_pointer : Bool) → FormTree
    Load : (lvalue : LvalueTree) → FormTree
    AddressOf : (lvalue : LvalueTree) → FormTree
    Decay : (lvalue : LvalueTree) → FormTree
    Convert : (kind : ConversionKind) (operand : TermTree) → FormTree
    Discard : (operand : TermTree) → FormTree
    Plus : (operand : TermTree) → FormTree
    Minus : (operand : TermTree) → FormTree
    Complement : (operand : TermTree) → FormTree
    Not : (operand : TermTree) → FormTree
    Integer : (op : BinaryOp) (left right : TermTree) → FormTree
    Shift : (down : Bool) (size : ℕ) (pointer count : TermTree) → FormTree
    Difference : (size : ℕ) (left right : TermTree) → FormTree
    Compare : (op : BinaryOp) (left right : TermTree) → FormTree
    Logical : (op : LogicalOp) (left right : TermTree) → FormTree
    Conditional : (condition first second : TermTree) → FormTree
    Comma : (first second : TermTree) → FormTree
    Assign : (target : LvalueTree) (value : TermTree) → FormTree
    Compound : (op : BinaryOp) (ctype : Ty) (target : LvalueTree) (value : TermTree) → FormTree
    CompoundShift : (down : Bool) (size : ℕ) (target : LvalueTree) (count : TermTree) → FormTree
    Step : (op : StepOp) (time : StepTime) (ctype : Ty) (target : LvalueTree) → FormTree
    StepPointer : (op : StepOp) (time : StepTime) (size : ℕ) (target : LvalueTree) → FormTree
    Struct : (lvalue : LvalueTree) → FormTree
    Call : (function : ℕ) (arguments : TermTrees) (used : Bool) → FormTree
    Library : (function : LibFn) (arguments : TermTrees) (allocated : Option Ty) → FormTree

  pub data TermTrees : Type 0 where
    End : TermTrees
    More : (first : TermTree) (rest : TermTrees) → TermTrees

abbrev pub term_trees : List TermTree → TermTrees
term_trees [] = End
term_trees (t ∷ ts) = More t (term_trees ts)

abbrev sizeof_tree : ℕ → Option (Box TermTree) → Bool → FormTree
sizeof_tree value None is_pointer = SizeofType value is_pointer
sizeof_tree value (Some e) is_pointer = Sizeof value e.value is_pointer

abbrev lvalue_form_step : LvalueForm-F LvalueFormTree FormTree TermTree LvalueTree → LvalueFormTree
lvalue_form_step (LvalueForm-F.Object object) = Object object
lvalue_form_step (LvalueForm-F.Literal index) = Literal index
lvalue_form_step (LvalueForm-F.Target pointer) = Target pointer.value
lvalue_form_step (LvalueForm-F.Member whole offset) = Member whole.value offset
lvalue_form_step (LvalueForm-F.Copied target source) = Copied target.value source.value
lvalue_form_step (LvalueForm-F.Then first last) = Then first.value last.value

abbrev form_step : TermForm-F LvalueFormTree FormTree TermTree LvalueTree → FormTree
form_step (TermForm-F.Number n) = Number n
form_step (TermForm-F.Sizeof value operand is_pointer) = sizeof_tree value operand is_pointer
form_step (TermForm-F.Load l) = Load l.value
form_step (TermForm-F.AddressOf l) = AddressOf l.value
form_step (TermForm-F.Decay l) = Decay l.value
form_step (TermForm-F.Convert kind e) = Convert kind e.value
form_step (TermForm-F.Discard e) = Discard e.value
form_step (TermForm-F.Plus e) = Plus e.value
form_step (TermForm-F.Minus e) = Minus e.value
form_step (TermForm-F.Complement e) = Complement e.value
form_step (TermForm-F.Not e) = Not e.value
form_step (TermForm-F.Integer op a b) = Integer op a.value b.value
form_step (TermForm-F.Shift down size a b) = Shift down size a.value b.value
form_step (TermForm-F.Difference size a b) = Difference size a.value b.value
form_step (TermForm-F.Compare op a b) = Compare op a.value b.value
form_step (TermForm-F.Logical op a b) = Logical op a.value b.value
form_step (TermForm-F.Conditional c a b) = Conditional c.value a.value b.value
form_step (TermForm-F.Comma a b) = Comma a.value b.value
form_step (TermForm-F.Assign target e) = Assign target.value e.value
form_step (TermForm-F.Compound op ctype target e) = Compound op (view ctype) target.value e.value
form_step (TermForm-F.CompoundShift down size target e) = CompoundShift down size target.value e.value
form_step (TermForm-F.Step op time ctype l) = Step op time (view ctype) l.value
form_step (TermForm-F.StepPointer op time size l) = StepPointer op time size l.value
form_step (TermForm-F.Struct l) = Struct l.value
form_step (TermForm-F.Call function arguments used) = Call function (term_trees arguments.items) used
form_step (TermForm-F.Library function arguments allocated) = Library function (term_trees arguments.items) (option_map view allocated)

abbrev term_step : CheckedTerm-F LvalueFormTree FormTree TermTree LvalueTree → TermTree
term_step e = Typed e.place (view e.ctype) e.parens e.constant e.form

abbrev lvalue_step : Lvalue-F LvalueFormTree FormTree TermTree LvalueTree → LvalueTree
lvalue_step l = Designates l.place (view l.ctype) l.parens l.form

-- the tree that a checked expression is
abbrev pub term_tree : CheckedTerm → TermTree
term_tree = fold-CheckedTerm LvalueFormTree FormTree TermTree LvalueTree lvalue_form_step form_step term_step lvalue_step

abbrev pub lvalue_tree : Lvalue → LvalueTree
lvalue_tree = fold-Lvalue LvalueFormTree FormTree TermTree LvalueTree lvalue_form_step form_step term_step lvalue_step

-- a store of an initializer
pub data StoreTree : Type 0 where
  StoreValue : (offset : ℕ) (value : TermTree) → StoreTree
  StoreCopy : (offset : ℕ) (source : LvalueTree) → StoreTree
  StoreText : (offset room : ℕ) (text : List ℕ) → StoreTree

abbrev pub store_tree : InitStore → StoreTree
store_tree (store.Value offset e) = StoreValue offset (term_tree e)
store_tree (store.Copy offset l) = StoreCopy offset (lvalue_tree l)
store_tree (store.Spell offset room text) = StoreText offset room text

mutual
  pub data StatementTree : Type 0 where
    Value : (value : TermTree) → StatementTree
    Nothing : StatementTree
    Forget : (at : Place) (local : ℕ) → StatementTree
    Start : (at : Place) (local : ℕ) (value : TermTree) → StatementTree
    StartCopy : (at : Place) (local : ℕ) (source : LvalueTree) → StatementTree
    StartList : (at : Place) (local : ℕ) (stores : List StoreTree) → StatementTree
    Block : (objects : List ℕ) (items : StatementTrees) → StatementTree
    If : (condition : TermTree) (body : StatementTree) → StatementTree
    IfElse : (condition : TermTree) (first second : StatementTree) → StatementTree
    While : (condition : TermTree) (body : StatementTree) → StatementTree
    Do : (body : StatementTree) (condition : TermTree) → StatementTree
    For : (objects : List ℕ) (first : StatementTrees) (condition step : Option TermTree) (body : StatementTree) → StatementTree
    Switch : (at : Place) (value : TermTree) (labels : List CaseLabel) (has_default : Bool) (enumerators : Option (List ℤ)) (body : StatementTree) → StatementTree
    Case : (label : ℕ) (body : StatementTree) → StatementTree
    Default : (body : StatementTree) → StatementTree
    Label : (label : ℕ) (body : StatementTree) → StatementTree
    Goto : (label : ℕ) → StatementTree
    Break : StatementTree
    Continue : StatementTree
    Return : (at : Place) (value : Option TermTree) → StatementTree

  pub data StatementTrees : Type 0 where
    NoMore : StatementTrees
    And : (first : StatementTree) (rest : StatementTrees) → StatementTrees

abbrev pub statement_trees : List StatementTree → StatementTrees
statement_trees [] = NoMore
statement_trees (s ∷ ss) = And s (statement_trees ss)

abbrev numbers : Vec ℤ Global → List ℤ
numbers v = v.items

abbrev statement_step : CheckedStatement-F StatementTree → StatementTree
statement_step (CheckedStatement-F.Value e) = Value (term_tree e)
statement_step CheckedStatement-F.Nothing = Nothing
statement_step (CheckedStatement-F.Forget at local) = Forget at local
statement_step (CheckedStatement-F.Start at local e) = Start at local (term_tree e)
statement_step (CheckedStatement-F.StartCopy at local l) = StartCopy at local (lvalue_tree l)
statement_step (CheckedStatement-F.StartList at local stores) = StartList at local (map store_tree stores.items)
statement_step (CheckedStatement-F.Block objects items) = Block objects.items (statement_trees items.items)
statement_step (CheckedStatement-F.If c body) = If (term_tree c) body.value
statement_step (CheckedStatement-F.IfElse c first second) = IfElse (term_tree c) first.value second.value
statement_step (CheckedStatement-F.While c body) = While (term_tree c) body.value
statement_step (CheckedStatement-F.Do body c) = Do body.value (term_tree c)
statement_step (CheckedStatement-F.For objects first c step body) = For objects.items (statement_trees first.items) (option_map term_tree c) (option_map term_tree step) body.value
statement_step (CheckedStatement-F.Switch at e labels has_default values body) = Switch at (term_tree e) labels.items has_default (option_map numbers values) body.value
statement_step (CheckedStatement-F.Case label body) = Case label body.value
statement_step (CheckedStatement-F.Default body) = Default body.value
statement_step (CheckedStatement-F.Label label body) = Label label body.value
statement_step (CheckedStatement-F.Goto label) = Goto label
statement_step CheckedStatement-F.Break = Break
statement_step CheckedStatement-F.Continue = Continue
statement_step (CheckedStatement-F.Return at e) = Return at (option_map term_tree e)

-- the tree that a checked statement is
abbrev pub statement_tree : CheckedStatement → StatementTree
statement_tree = fold-CheckedStatement StatementTree statement_step
