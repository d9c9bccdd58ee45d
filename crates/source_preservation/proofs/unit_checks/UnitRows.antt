-- Worked rows of the looks at statements, scopes and units.
use Rattle.std.proofs.Common.{◌≡◌, ℕ, pos, Bool, true, false, List, [], ◌∷◌, Option, Some, None, refl}
use Rattle.cc_base.specs.declared.diagnostics.Place.{Place}
use Rattle.c_layout.specs.Types.{Ty, Array, Void}
use Rattle.c_layout.specs.CheckedTrees as tree
use Rattle.c_layout.specs.CheckedTrees.{TermTree, StatementTree, StatementTrees, statement_trees, StoreValue, StoreText}
use Rattle.c_layout.specs.CheckedUnits.{FunctionView, LocalView, StaticStoreView, SetValue, SetText, UnitView}
use Rattle.c_layout.specs.declared.checked_tree.checked_statements.CaseLabel.{CaseLabel}
use Rattle.c_layout.specs.declared.checked_tree.checked_units.StaticBase.TheVariants.{Object}
use Rattle.c_layout.specs.declared.checked_tree.checked_units.StaticValue.TheVariants.{Address}
use Rattle.source_preservation.specs.UnitChecks.LookedUnits.{is_well_typed}
use Rattle.source_preservation.specs.UnitChecks.LookedScopes.{is_scoped}
use Rattle.source_preservation.proofs.unit_checks.TermRows.{lp64, int, char, pointer, typed, number, object, value}

module _ (at : Place) where
  -- ---- units

  abbrev local : Ty → LocalView
  local t = record { name = []; at = at; ctype = t }

  abbrev function : Ty → List LocalView → List StatementTree → FunctionView
  function t locals body = record { name = []; at = at; returns = t; parameters = 1; locals = locals; scope = 1 ∷ []; body = body; labels = 1 }

  abbrev unit_with : List StaticStoreView → FunctionView → UnitView
  unit_with stores f = record { functions = f ∷ []; constants = []; objects = record { name = []; at = at; ctype = int; stores = stores } ∷ []; structs = []; literals = []; entry = 0; model = lp64 }

  -- `int main(int a) { int b; BODY l: return a; }`, with a third local for the blocks in the body
  abbrev unit_of : List StatementTree → UnitView
  unit_of body = unit_with [] (function int (local int ∷ (local int ∷ (local char ∷ []))) (tree.Block [] (statement_trees body) ∷ (tree.Label 0 (tree.Return at (Some (value at 0 int))) ∷ [])))

  abbrev assign : ℕ → Ty → TermTree → StatementTree
  assign n t e = tree.Value (typed at t (tree.Assign (object at n t) e))

  abbrev case_label : CaseLabel
  case_label = record { place = at; value = pos 1 }

  abbrev switch : List CaseLabel → StatementTree
  switch labels = tree.Switch at (value at 0 int) labels false None (tree.Block [] (statement_trees (tree.Case 0 tree.Break ∷ [])))

  -- ---- units that pass

  -- `b = a; { char c; c = 1; } switch (a) { case 1: break; } if (b == 1) goto l;`
  abbrev right : UnitView
  right = unit_of (assign 1 int (value at 0 int) ∷ (tree.Block (2 ∷ []) (statement_trees (assign 2 char (number at char (pos 1)) ∷ [])) ∷ (switch (case_label ∷ []) ∷ (tree.If (value at 1 int) (tree.Goto 0) ∷ []))))

  right_well_typed : is_well_typed right ≡ true
  right_well_typed = refl

  right_scoped : is_scoped right ≡ true
  right_scoped = refl

  -- ---- units that are not marked

  -- `b = p;` for a pointer
  other_mark : is_well_typed (unit_of (assign 1 int (value at 1 pointer) ∷ [])) ≡ false
  other_mark = refl

  -- a label of a switch that does not stand in it, and one of the function
  no_case : is_well_typed (unit_of (switch (case_label ∷ (case_label ∷ [])) ∷ [])) ≡ false
  no_case = refl

  no_label : is_well_typed (unit_of (tree.Goto 1 ∷ [])) ≡ false
  no_label = refl

  -- `return a;` in a void function
  void_returns : is_well_typed (unit_with [] (function Void (local int ∷ (local int ∷ [])) (tree.Return at (Some (value at 0 int)) ∷ (tree.Label 0 tree.Nothing ∷ [])))) ≡ false
  void_returns = refl

  -- the entry's parameter is no integer
  other_entry : is_well_typed (unit_with [] (function int (local pointer ∷ (local int ∷ [])) (tree.Label 0 tree.Nothing ∷ []))) ≡ false
  other_entry = refl

  -- an object that is larger than any memory
  too_large : is_well_typed (unit_with [] (function int (local int ∷ (local (Array int 4611686018427387904) ∷ [])) (tree.Label 0 tree.Nothing ∷ []))) ≡ false
  too_large = refl

  -- a text with more than bytes, and a store beyond all objects
  no_text : is_well_typed (unit_of (tree.StartList at 1 (StoreText 0 1 (256 ∷ []) ∷ []) ∷ [])) ≡ false
  no_text = refl

  too_far : is_well_typed (unit_of (tree.StartList at 1 (StoreValue 9223372036854775808 (number at int (pos 1)) ∷ []) ∷ [])) ≡ false
  too_far = refl

  -- so it is of objects of static storage
  abbrev static : List StaticStoreView → UnitView
  static stores = unit_with stores (function int (local int ∷ (local int ∷ [])) (tree.Label 0 tree.Nothing ∷ []))

  address : is_well_typed (static (SetValue 0 (Address (Object 0) 0 0 4) ∷ [])) ≡ true
  address = refl

  too_high : is_well_typed (static (SetValue 0 (Address (Object 0) 0 0 9223372036854775808) ∷ [])) ≡ false
  too_high = refl

  no_static_text : is_well_typed (static (SetText 0 1 (256 ∷ []) ∷ [])) ≡ false
  no_static_text = refl

  -- ---- units that are not scoped

  -- `{ char c; } c = 1;`
  outside : is_scoped (unit_of (tree.Block (2 ∷ []) tree.NoMore ∷ (assign 2 char (number at char (pos 1)) ∷ []))) ≡ false
  outside = refl

  -- a scope that has a parameter, an object of the scope around it, and one twice
  has_parameter : is_scoped (unit_of (tree.Block (0 ∷ []) tree.NoMore ∷ [])) ≡ false
  has_parameter = refl

  has_outer : is_scoped (unit_of (tree.Block (1 ∷ []) tree.NoMore ∷ [])) ≡ false
  has_outer = refl

  has_twice : is_scoped (unit_of (tree.Block (2 ∷ (2 ∷ [])) tree.NoMore ∷ [])) ≡ false
  has_twice = refl

  -- more parameters than locals, and no entry
  no_parameter : is_scoped (unit_with [] (function int [] [])) ≡ false
  no_parameter = refl

  no_entry : is_scoped (record right { functions = [] }) ≡ false
  no_entry = refl
