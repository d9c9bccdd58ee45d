-- Worked rows of the look for plain units.
use Rattle.std.proofs.Common.{◌≡◌, ℕ, Bool, true, false, [], ◌∷◌, None, refl}
use Rattle.cc_base.specs.declared.diagnostics.Place.{Place}
use Rattle.c_layout.specs.CheckedTrees as tree
use Rattle.c_layout.specs.CheckedTrees.{TermTree, Typed}
use Rattle.c_layout.specs.CheckedUnits.{FunctionView, UnitView}
use Rattle.c_layout.specs.Types.{Ty, Array, Struct, Void}
use Rattle.c_layout.specs.declared.checked_tree.checked_statements.CaseLabel.{CaseLabel}
use Rattle.c_layout.specs.declared.data_model.Model.{Model}
use Rattle.c_layout.specs.declared.library_functions.LibFn.TheVariants.{Putchar, Malloc}
use Rattle.typed_programs.specs.PlainUnits.ShortArrays.{has_short_arrays}
use Rattle.typed_programs.specs.PlainUnits.PlainTerms.{is_plain_term}
use Rattle.typed_programs.specs.PlainUnits.PlainStatements.{is_plain_statement}
use Rattle.typed_programs.specs.PlainUnits.PlainUnits.{no_label, is_plain_unit}

abbrev none_called : ℕ → Bool
none_called n = false

module _ (at : Place) (t : Ty) (x : CaseLabel) where
  abbrev number : TermTree
  number = Typed at t 0 None (tree.SizeofType 1 false)

  -- `{ if (1) goto out; switch (1) { case x: break; } out: ; }`
  ahead : is_plain_statement none_called no_label false (tree.Block [] (tree.And (tree.If number (tree.Goto 0)) (tree.And (tree.Switch at number (x ∷ []) false None (tree.Case 0 tree.Break)) (tree.And (tree.Label 0 tree.Nothing) tree.NoMore)))) ≡ true
  ahead = refl

  -- `{ again: goto again; }`
  back : is_plain_statement none_called no_label false (tree.Block [] (tree.And (tree.Label 0 (tree.Goto 0)) tree.NoMore)) ≡ false
  back = refl

  a_loop : (e : TermTree) → is_plain_statement none_called no_label false (tree.While e tree.Nothing) ≡ false
  a_loop e = refl

  written : is_plain_term none_called (Typed at t 0 None (tree.Library Putchar tree.End None)) ≡ true
  written = refl

  allocated : is_plain_term none_called (Typed at t 0 None (tree.Library Malloc tree.End None)) ≡ false
  allocated = refl

  called : is_plain_term none_called (Typed at t 0 None (tree.Call 0 tree.End false)) ≡ false
  called = refl

-- arrays of 64 elements and of 65
short : has_short_arrays [] (Array Void 64) ≡ true
short = refl

long : has_short_arrays [] (Array (Array Void 65) 2) ≡ false
long = refl

-- `struct { .. [65]; }`
holds_long : has_short_arrays (record { fields = record { name = []; ctype = Array Void 65; offset = 0 } ∷ []; complete = true; size = 65; align = 1; leaves = 1; plain_leaves = 65 } ∷ []) (Struct 0) ≡ false
holds_long = refl

-- an entry that calls a function, which calls none, and one that has a loop and is not called
module _ (at : Place) (model : Model) (t : Ty) (e : TermTree) where
  abbrev calling : FunctionView
  calling = record { name = []; at = at; returns = Void; parameters = 0; locals = []; scope = []; body = tree.Value (Typed at t 0 None (tree.Call 1 tree.End false)) ∷ []; labels = 0 }

  abbrev callee : FunctionView
  callee = record { name = []; at = at; returns = Void; parameters = 1; locals = record { name = []; at = at; ctype = Void } ∷ []; scope = []; body = []; labels = 0 }

  abbrev looping : FunctionView
  looping = record { name = []; at = at; returns = Void; parameters = 0; locals = []; scope = []; body = tree.While e tree.Nothing ∷ []; labels = 0 }

  abbrev unit : ℕ → UnitView
  unit entry = record { functions = calling ∷ (callee ∷ (looping ∷ [])); constants = []; objects = []; structs = []; literals = []; entry = entry; model = model }

  is_plain : is_plain_unit (unit 0) ≡ true
  is_plain = refl

  takes_one : is_plain_unit (unit 1) ≡ false
  takes_one = refl

  loops : is_plain_unit (unit 2) ≡ false
  loops = refl
