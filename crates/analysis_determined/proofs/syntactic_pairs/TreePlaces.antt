-- What the rules find in the trees of expressions and statements.
use Rattle.std.specs.Prelude.{ℕ, ℤ, Bool, false, not, ◌&&◌, List, [], ◌∷◌, ◌++◌, Option, Some, None}
use Rattle.cc_base.specs.declared.diagnostics.Diag.{Diag}
use Rattle.cc_base.specs.declared.diagnostics.Place.{Place}
use Rattle.c_layout.specs.CheckedTrees.{LvalueTree, LvalueFormTree, TermTree, FormTree, TermTrees, StoreTree, StatementTree, StatementTrees}
use Rattle.c_layout.specs.CheckedTrees as tree
use Rattle.c_layout.specs.declared.checked_tree.checked_statements.CaseLabel.{CaseLabel}
use Rattle.syntactic_rules.specs.declared.term_places.Slot.{Slot}
use Rattle.syntactic_rules.specs.declared.term_places.Slot.TheVariants as slot
use Rattle.syntactic_rules.specs.Slots.{inner_slot, converted_slot, assigned, sized, switched}
use Rattle.syntactic_rules.specs.Switches.{are_labels}

-- ---- expressions

abbrev mutual
  pub places_of_lvalue : LvalueTree → List Diag
  places_of_lvalue (tree.Designates at ctype parens form) = places_of_lvalue_form form

  pub places_of_lvalue_form : LvalueFormTree → List Diag
  places_of_lvalue_form (tree.Object object) = []
  places_of_lvalue_form (tree.Literal index) = []
  places_of_lvalue_form (tree.Target pointer) = places_of_term pointer slot.Outside
  places_of_lvalue_form (tree.Member whole offset) = places_of_lvalue whole
  places_of_lvalue_form (tree.Copied target source) = places_of_lvalue target ++ places_of_lvalue source
  places_of_lvalue_form (tree.Then first last) = places_of_term first slot.Outside ++ places_of_lvalue last

  pub places_of_term : TermTree → Slot → List Diag
  places_of_term (tree.Typed at ctype parens constant form) s = places_of_form form at parens s

  pub places_of_form : FormTree → Place → ℕ → Slot → List Diag
  places_of_form (tree.Number value) at parens s = []
  places_of_form (tree.SizeofType value is_pointer) at parens s = sized at is_pointer ++ []
  places_of_form (tree.Sizeof value operand is_pointer) at parens s = sized at is_pointer ++ places_of_term operand slot.Outside
  places_of_form (tree.Load l) at parens s = places_of_lvalue l
  places_of_form (tree.AddressOf l) at parens s = places_of_lvalue l
  places_of_form (tree.Decay l) at parens s = places_of_lvalue l
  places_of_form (tree.Convert kind e) at parens s = places_of_term e (converted_slot kind s)
  places_of_form (tree.Discard e) at parens s = places_of_term e slot.Outside
  places_of_form (tree.Plus e) at parens s = places_of_term e slot.Outside
  places_of_form (tree.Minus e) at parens s = places_of_term e slot.Outside
  places_of_form (tree.Complement e) at parens s = places_of_term e slot.Outside
  places_of_form (tree.Not e) at parens s = places_of_term e slot.Outside
  places_of_form (tree.Integer op a b) at parens s = places_of_term a slot.Outside ++ places_of_term b slot.Outside
  places_of_form (tree.Shift down size a b) at parens s = places_of_term a slot.Outside ++ places_of_term b slot.Outside
  places_of_form (tree.Difference size a b) at parens s = places_of_term a slot.Outside ++ places_of_term b slot.Outside
  places_of_form (tree.Compare op a b) at parens s = places_of_term a slot.Outside ++ places_of_term b slot.Outside
  places_of_form (tree.Logical op a b) at parens s = places_of_term a (slot.Needs 1) ++ places_of_term b (slot.Needs 1)
  places_of_form (tree.Conditional c a b) at parens s = places_of_term c (slot.Needs 1) ++ (places_of_term a (inner_slot s 0) ++ places_of_term b (inner_slot s 1))
  places_of_form (tree.Comma a b) at parens s = places_of_term a slot.Outside ++ places_of_term b (inner_slot s 0)
  places_of_form (tree.Assign target e) at parens s = assigned at parens s ++ (places_of_lvalue target ++ places_of_term e slot.Outside)
  places_of_form (tree.Compound op ctype target e) at parens s = places_of_lvalue target ++ places_of_term e slot.Outside
  places_of_form (tree.CompoundShift down size target e) at parens s = places_of_lvalue target ++ places_of_term e slot.Outside
  places_of_form (tree.Step op time ctype l) at parens s = places_of_lvalue l
  places_of_form (tree.StepPointer op time size l) at parens s = places_of_lvalue l
  places_of_form (tree.Struct l) at parens s = places_of_lvalue l
  places_of_form (tree.Call function arguments used) at parens s = places_of_terms arguments
  places_of_form (tree.Library function arguments allocated) at parens s = places_of_terms arguments

  pub places_of_terms : TermTrees → List Diag
  places_of_terms tree.End = []
  places_of_terms (tree.More first rest) = places_of_term first slot.Outside ++ places_of_terms rest

-- ---- statements

abbrev pub places_of_store : StoreTree → List Diag
places_of_store (tree.StoreValue offset e) = places_of_term e slot.Outside
places_of_store (tree.StoreCopy offset l) = places_of_lvalue l
places_of_store (tree.StoreText offset room text) = []

abbrev pub places_of_stores : List StoreTree → List Diag
places_of_stores [] = []
places_of_stores (s ∷ ss) = places_of_store s ++ places_of_stores ss

abbrev pub places_of_test : Option TermTree → List Diag
places_of_test None = []
places_of_test (Some e) = places_of_term e (slot.Needs 0)

abbrev pub places_of_optional : Option TermTree → List Diag
places_of_optional None = []
places_of_optional (Some e) = places_of_term e slot.Outside

abbrev pub covers : List CaseLabel → Option (List ℤ) → Bool
covers labels None = false
covers labels (Some values) = are_labels labels values

abbrev pub lacks : List CaseLabel → Bool → Option (List ℤ) → Bool
lacks labels has_default values = not has_default && not (covers labels values)

abbrev mutual
  pub places_of_statement : StatementTree → List Diag
  places_of_statement (tree.Value e) = places_of_term e slot.Outside
  places_of_statement tree.Nothing = []
  places_of_statement (tree.Forget at local) = []
  places_of_statement (tree.Start at local e) = places_of_term e slot.Outside
  places_of_statement (tree.StartCopy at local l) = places_of_lvalue l
  places_of_statement (tree.StartList at local stores) = places_of_stores stores
  places_of_statement (tree.Block objects items) = places_of_statements items
  places_of_statement (tree.If c body) = places_of_term c (slot.Needs 0) ++ places_of_statement body
  places_of_statement (tree.IfElse c first second) = places_of_term c (slot.Needs 0) ++ (places_of_statement first ++ places_of_statement second)
  places_of_statement (tree.While c body) = places_of_term c (slot.Needs 0) ++ places_of_statement body
  places_of_statement (tree.Do body c) = places_of_statement body ++ places_of_term c (slot.Needs 0)
  places_of_statement (tree.For objects first c step body) = places_of_statements first ++ ((places_of_test c ++ places_of_optional step) ++ places_of_statement body)
  places_of_statement (tree.Switch at e labels has_default values body) = switched at (lacks labels has_default values) ++ (places_of_term e slot.Outside ++ places_of_statement body)
  places_of_statement (tree.Case label body) = places_of_statement body
  places_of_statement (tree.Default body) = places_of_statement body
  places_of_statement (tree.Label label body) = places_of_statement body
  places_of_statement (tree.Goto label) = []
  places_of_statement tree.Break = []
  places_of_statement tree.Continue = []
  places_of_statement (tree.Return at e) = places_of_optional e

  pub places_of_statements : StatementTrees → List Diag
  places_of_statements tree.NoMore = []
  places_of_statements (tree.And first rest) = places_of_statement first ++ places_of_statements rest
