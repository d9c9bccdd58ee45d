-- Worked rows of the look at units with loops: what it lets pass that the look for plain units refuses, and what both refuse.
use Rattle.std.proofs.Common.{◌≡◌, ℕ, pos, Bool, true, false, List, [], ◌∷◌, Some, None, refl}
use Rattle.cc_base.specs.declared.diagnostics.Place.{Place}
use Rattle.c_layout.specs.CheckedTrees as tree
use Rattle.c_layout.specs.CheckedTrees.{TermTree, Typed, StatementTree}
use Rattle.c_layout.specs.CheckedUnits.{LocalView, FunctionView, UnitView}
use Rattle.c_layout.specs.Models.{lp64}
use Rattle.c_layout.specs.Types.{Ty, Int, Array}
use Rattle.c_layout.specs.declared.library_functions.LibFn.TheVariants.{Putchar, Malloc}
use Rattle.typed_lowering.specs.PlainUnits.{is_plain_unit}
use Rattle.typed_lowering.specs.LoopedUnits.LoopedUnits.{is_looped_unit}
use Rattle.typed_lowering.specs.Conversions.TypedUnits.{is_typed_unit}

module _ (at : Place) where
  abbrev int : Ty
  int = Int (record { bytes = 4; signed = true; rank = 3 })

  abbrev one : TermTree
  one = Typed at int 0 (Some (pos 1)) (tree.Number (pos 1))

  abbrev local : Ty → LocalView
  local t = record { name = []; at = at; ctype = t }

  -- an entry with such parameters, objects and statements
  abbrev unit : ℕ → List LocalView → List StatementTree → UnitView
  unit parameters locals body = record {
    functions = record { name = []; at = at; returns = int; parameters = parameters; locals = locals; scope = []; body = body; labels = 1 } ∷ [];
    constants = [];
    objects = [];
    structs = [];
    literals = [];
    entry = 0;
    model = lp64;
  }

  -- `while (1) ;`
  abbrev looping : UnitView
  looping = unit 0 [] (tree.While one tree.Nothing ∷ [])

  looping_passes : is_looped_unit looping ≡ true
  looping_passes = refl

  looping_is_typed : is_typed_unit looping ≡ true
  looping_is_typed = refl

  looping_is_not_plain : is_plain_unit looping ≡ false
  looping_is_not_plain = refl

  -- `again: goto again;`
  abbrev going_back : UnitView
  going_back = unit 0 [] (tree.Label 0 (tree.Goto 0) ∷ [])

  going_back_passes : is_looped_unit going_back ≡ true
  going_back_passes = refl

  going_back_is_not_plain : is_plain_unit going_back ≡ false
  going_back_is_not_plain = refl

  -- ---- what both refuse

  taking : is_looped_unit (unit 1 (local int ∷ []) []) ≡ false
  taking = refl

  -- `int a[65];`
  long : is_looped_unit (unit 0 (local (Array int 65) ∷ []) []) ≡ false
  long = refl

  -- `do malloc(1); while (1);`, where `putchar(1)` passes
  allocating : is_looped_unit (unit 0 [] (tree.Do (tree.Value (Typed at int 0 None (tree.Library Malloc (tree.More one tree.End) None))) one ∷ [])) ≡ false
  allocating = refl

  writing : is_looped_unit (unit 0 [] (tree.Do (tree.Value (Typed at int 0 None (tree.Library Putchar (tree.More one tree.End) None))) one ∷ [])) ≡ true
  writing = refl

  -- a call of what is not there
  calling : is_looped_unit (unit 0 [] (tree.While one (tree.Value (Typed at int 0 None (tree.Call 1 tree.End false))) ∷ [])) ≡ false
  calling = refl
