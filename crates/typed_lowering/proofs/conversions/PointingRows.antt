-- Worked rows of the look at types: pointers to elements and members, and what is converted.
use Rattle.std.proofs.Common.{◌≡◌, ℕ, pos, true, false, List, [], ◌∷◌, Some, None, refl}
use Rattle.cc_base.specs.declared.diagnostics.Place.{Place}
use Rattle.c_layout.specs.CheckedTrees as tree
use Rattle.c_layout.specs.CheckedTrees.{TermTree, Typed, FormTree, LvalueTree, LvalueFormTree, Designates, StatementTree}
use Rattle.c_layout.specs.CheckedUnits.{LocalView, FunctionView, SetValue, StaticView, UnitView}
use Rattle.c_layout.specs.Models.{lp64}
use Rattle.c_layout.specs.StructViews.{StructView}
use Rattle.c_layout.specs.Types.{Ty, Int, Pointer, Array, Struct}
use Rattle.c_layout.specs.declared.checked_tree.checked_terms.ConversionKind.TheVariants.{Cast, Implicit}
use Rattle.c_layout.specs.declared.checked_tree.checked_terms.ObjectRef.TheVariants.{Local}
use Rattle.c_layout.specs.declared.checked_tree.checked_units.StaticBase.TheVariants as base
use Rattle.c_layout.specs.declared.checked_tree.checked_units.StaticValue.TheVariants as value
use Rattle.typed_programs.specs.PlainUnits.PlainUnits.{is_plain_unit}
use Rattle.typed_programs.specs.Types.TypeBytes.{scalar_byte}
use Rattle.typed_lowering.specs.Conversions.TypedUnits.{is_typed_unit}

module _ (at : Place) where
  -- ---- a struct of a number and a pointer, objects of it and of an array, and a function that reads at a pointer

  abbrev int : Ty
  int = Int (record { bytes = 4; signed = true; rank = 3 })

  abbrev char : Ty
  char = Int (record { bytes = 1; signed = true; rank = 1 })

  abbrev table : List StructView
  table = record { fields = record { name = []; ctype = int; offset = 0 } ∷ (record { name = []; ctype = Pointer int; offset = 8 } ∷ []); complete = true; size = 16; align = 8; leaves = 2; plain_leaves = 2 } ∷ []

  abbrev term : Ty → FormTree → TermTree
  term t form = Typed at t 0 None form

  abbrev number : ℕ → TermTree
  number n = term int (tree.Number (pos n))

  abbrev place : Ty → LvalueFormTree → LvalueTree
  place t form = Designates at t 0 form

  abbrev object : Ty → ℕ → LvalueTree
  object t n = place t (tree.Object (Local n))

  abbrev local : Ty → LocalView
  local t = record { name = []; at = at; ctype = t }

  abbrev function : Ty → ℕ → List LocalView → List StatementTree → FunctionView
  function returns parameters locals body = record { name = []; at = at; returns = returns; parameters = parameters; locals = locals; scope = []; body = body; labels = 0 }

  -- `int read(int *p) { return *p; }`
  abbrev read : FunctionView
  read = function int 1 (local (Pointer int) ∷ []) (tree.Return at (Some (term int (tree.Load (place int (tree.Target (term (Pointer int) (tree.Load (object (Pointer int) 0)))))))) ∷ [])

  -- a unit whose entry has a struct, an array, a number and a pointer to one
  abbrev entered : List StatementTree → List StaticView → UnitView
  entered body objects = record { functions = function int 0 (local (Struct 0) ∷ (local (Array int 3) ∷ (local int ∷ (local (Pointer int) ∷ [])))) body ∷ (read ∷ []); constants = []; objects = objects; structs = table; literals = []; entry = 0; model = lp64 }

  abbrev unit : List StatementTree → UnitView
  unit body = entered body []

  abbrev member : LvalueTree
  member = place (Pointer int) (tree.Member (object (Struct 0) 0) 8)

  -- `v.p = a + 1; return read(v.p);`
  abbrev moved : TermTree
  moved = term (Pointer int) (tree.Assign member (term (Pointer int) (tree.Shift false 4 (term (Pointer int) (tree.Decay (object (Array int 3) 1))) (number 1))))

  abbrev called : TermTree
  called = term int (tree.Call 1 (tree.More (term (Pointer int) (tree.Load member)) tree.End) true)

  passes : is_typed_unit (unit (tree.Value moved ∷ (tree.Return at (Some called) ∷ []))) ≡ true
  passes = refl

  is_plain : is_plain_unit (unit (tree.Value moved ∷ (tree.Return at (Some called) ∷ []))) ≡ true
  is_plain = refl

  -- `p = 0;` and `p == 0`
  abbrev null : TermTree
  null = term (Pointer int) (tree.Convert Implicit (number 0))

  null_passes : is_typed_unit (unit (tree.Value (term (Pointer int) (tree.Assign (object (Pointer int) 3) null)) ∷ [])) ≡ true
  null_passes = refl

  -- ---- what is refused

  -- `p = (int *)5;`
  from_number : is_typed_unit (unit (tree.Value (term (Pointer int) (tree.Assign (object (Pointer int) 3) (term (Pointer int) (tree.Convert Cast (number 5))))) ∷ [])) ≡ false
  from_number = refl

  -- in a function that is not called
  abbrev apart : FunctionView
  apart = function int 0 (local (Pointer int) ∷ []) (tree.Value (term (Pointer int) (tree.Assign (object (Pointer int) 0) (term (Pointer int) (tree.Convert Cast (number 5))))) ∷ [])

  not_called : is_typed_unit (record (unit []) { functions = function int 0 [] [] ∷ (apart ∷ []) }) ≡ true
  not_called = refl

  -- `*(char *)&n`
  abbrev bytes : TermTree
  bytes = term (Pointer char) (tree.Convert Cast (term (Pointer int) (tree.AddressOf (object int 2))))

  by_bytes : is_typed_unit (unit (tree.Value (term char (tree.Load (place char (tree.Target bytes)))) ∷ [])) ≡ false
  by_bytes = refl

  -- `a + 1`, by 2 bytes
  amid : is_typed_unit (unit (tree.Value (term (Pointer int) (tree.Shift false 2 (term (Pointer int) (tree.Decay (object (Array int 3) 1))) (number 1))) ∷ [])) ≡ false
  amid = refl

  -- ---- first bytes: `int a[3]; int *q = a + 1;`

  abbrev first : ℕ → ℕ → ℕ → UnitView
  first offset lo hi = entered [] (record { name = []; at = at; ctype = Array int 3; stores = [] } ∷ (record { name = []; at = at; ctype = Pointer int; stores = SetValue 0 (value.Address (base.Object 0) offset lo hi) ∷ [] } ∷ []))

  at_element : is_typed_unit (first 4 0 12) ≡ true
  unfolding scalar_byte
  at_element = refl

  at_end : is_typed_unit (first 12 0 12) ≡ true
  unfolding scalar_byte
  at_end = refl

  behind_end : is_typed_unit (first 16 0 12) ≡ false
  unfolding scalar_byte
  behind_end = refl

  amid_bytes : is_typed_unit (first 2 0 12) ≡ false
  unfolding scalar_byte
  amid_bytes = refl

  past_bounds : is_typed_unit (first 4 0 16) ≡ false
  unfolding scalar_byte
  past_bounds = refl
