-- A parameter past the local objects would be none of them.
use Rattle.std.proofs.Common.{◌≡◌, ◌≤◌, ◌<◌, ℕ, Bool, true, false, List, Ok, length, Option, Some, None, nat_le, slice_get, refl, arith, sym, ◌∙◌}
use Rattle.std.proofs.lemmas.Bool.{leb-true, leb-false}
use Rattle.std.proofs.lemmas.Option.{slice_get_past}
use Rattle.c_layout.specs.DeclarationTrees.{ExternalTree}
use Rattle.c_layout.specs.CheckedUnits.{LocalView, FunctionView, UnitView}
use Rattle.c_layout.specs.declared.data_model.Model.{Model}
use Rattle.c_types_theorems.specs.UnitChecks.{check}
use Rattle.c_types_theorems.specs.Entries.IntegerEntries.{TakesIntegers}
use Rattle.c_types_theorems.proofs.entries.Entries.{entries_take_integers}

pub few_parameters : (u : UnitView) → TakesIntegers u → (f : FunctionView) → slice_get u.functions u.entry ≡ Some f → f.parameters ≤ length f.locals
few_parameters u takes f is = by (nat_le f.parameters (length f.locals)) refl
  where
    nothing_there : (l : LocalView) → (let o : Option LocalView = None in o) ≡ Some l → ⊥
    nothing_there l e = cc

    same : (n : ℕ) → n ≤ n
    same n = omega arith

    past : length f.locals < f.parameters → ⊥
    past less = let i = takes f is (length f.locals) less in nothing_there i.0 (sym (slice_get_past f.locals (length f.locals) (same (length f.locals))) ∙ i.2)

    by : (b : Bool) → nat_le f.parameters (length f.locals) ≡ b → f.parameters ≤ length f.locals
    by true e = leb-true f.parameters (length f.locals) e
    by false e = absurd (past (leb-false f.parameters (length f.locals) e))

pub checked_few : (m : Model) (name : List ℕ) (es : List ExternalTree) (u : UnitView) → check m name es ≡ Ok u → (f : FunctionView) → slice_get u.functions u.entry ≡ Some f → f.parameters ≤ length f.locals
checked_few m name es u is f among = few_parameters u (entries_take_integers m name es u is) f among
