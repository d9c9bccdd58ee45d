-- Worked rows: a unit whose runs have steps, and units that are stuck.
use Rattle.std.proofs.Common.{◌≡◌, ℕ, zero, suc, ◌==◌, ◌||◌, pos, Bool, true, false, List, [], ◌∷◌, Some, None, refl, sym, subst, arith}
use Rattle.std.proofs.lemmas.Bool.{eqb-true}
use Rattle.cc_base.specs.declared.diagnostics.Place.{Place}
use Rattle.c_layout.specs.Models.{lp64}
use Rattle.c_layout.specs.Leaves.{leaves_of}
use Rattle.c_layout.specs.Types.{Ty, Int, Pointer}
use Rattle.c_layout.specs.CheckedTrees as tree
use Rattle.c_layout.specs.CheckedTrees.{TermTree, Typed, LvalueTree, Designates, FormTree, StatementTree, statement_trees}
use Rattle.c_layout.specs.CheckedUnits.{LocalView, FunctionView, UnitView}
use Rattle.c_layout.specs.declared.checked_tree.checked_terms.ConversionKind.TheVariants.{Cast}
use Rattle.c_layout.specs.declared.checked_tree.checked_terms.ObjectRef.TheVariants.{Local}
use Rattle.c_layout.specs.declared.syntax_tree.expressions.BinaryOp.TheVariants.{Add}
use Rattle.memory_model.specs.Effects.Worlds.{Ended, Stuck}
use Rattle.semantics.specs.SourceMachine.Scopes.{is_in}
use Rattle.semantics.specs.SourceMachine.SourceStates.{function_at}
use Rattle.semantics.specs.SourceMachine.SourceRuns.{Run, why_of}
use Rattle.source_items.specs.Returns.StandingJumps.{AllJumpsStand}
use Rattle.source_items.specs.Operations.Kinds.{Number, Address}
use Rattle.source_items.specs.StackKinds.KindedTerms.{CallsFunction}
use Rattle.source_items.specs.StackKinds.KindedStatements.{KindedUnit, KindedFunction}
use Rattle.source_items.specs.Liveness.Lives.{kept}
use Rattle.source_items.specs.Liveness.ScopedStatements.{ScopedUnit, ScopedFunction}
use Rattle.source_progress.specs.Progress.Progress.{IsTypedAndScoped}

-- ---- the parts of small units, all at one place

abbrev here : Place
here = record { file = 0; line = 1; col = 1 }

abbrev int : Ty
int = Int (record { bytes = 4; signed = true; rank = 3 })

abbrev term : Ty → FormTree → TermTree
term t form = Typed here t 0 None form

abbrev object : ℕ → LvalueTree
object n = Designates here int 0 (tree.Object (Local n))

abbrev value : ℕ → TermTree
value n = term int (tree.Load (object n))

abbrev number : ℕ → TermTree
number n = term int (tree.Number (pos n))

abbrev sum : TermTree → TermTree → TermTree
sum a b = term int (tree.Integer Add a b)

abbrev local : LocalView
local = record { name = []; at = here; ctype = int }

abbrev function : ℕ → List LocalView → List StatementTree → FunctionView
function parameters locals body = record { name = []; at = here; returns = int; parameters = parameters; locals = locals; scope = []; body = body; labels = 0 }

abbrev unit : List FunctionView → UnitView
unit fs = record { functions = fs; constants = []; objects = []; structs = []; literals = []; entry = 0; model = lp64 }

-- ---- `int main(int n){{int x=f(n);n=x+1;}return n;}int f(int a){return a;}`

abbrev called : TermTree
called = term int (tree.Call 1 (tree.More (value 0) tree.End) true)

abbrev block : StatementTree
block = tree.Block (1 ∷ []) (statement_trees (tree.Start here 1 called ∷ (tree.Value (term int (tree.Assign (object 0) (sum (value 1) (number 1)))) ∷ [])))

abbrev entry : FunctionView
entry = function 1 (local ∷ (local ∷ [])) (block ∷ (tree.Return here (Some (value 0)) ∷ []))

abbrev other : FunctionView
other = function 1 (local ∷ []) (tree.Return here (Some (value 0)) ∷ [])

abbrev right : UnitView
right = unit (entry ∷ (other ∷ []))

-- what holds of both functions holds of each that is there
module _ (P : FunctionView → Type 0) where
  same : (f g : FunctionView) → Some f ≡ Some g → P f → P g
  same f g e p = subst P (some_same e) p
    where
      some_same : Some f ≡ Some g → f ≡ g
      some_same e = cc

  each : P entry → P other → (g : ℕ) (f : FunctionView) → function_at right g ≡ Some f → P f
  each one two zero f is = same entry f is one
  each one two (suc zero) f is = same other f is two
  each one two (suc (suc g)) f is = absurd (none f is)
    where
      none : (f : FunctionView) → None ≡ Some f → ⊥
      none f e = cc

-- what is in a list of one object is that one
only : (m : ℕ) (P : ℕ → Type 0) → P m → (n : ℕ) → is_in n (m ∷ []) ≡ true → P n
only m P p n e = subst P (sym (eqb-true n m (left (n == m) e))) p
  where
    left : (b : Bool) → (b || false) ≡ true → b ≡ true
    left true e = refl
    left false e = e

none_in : (n : ℕ) (P : Type 0) → is_in n [] ≡ true → P
none_in n P e = absurd (apart e)
  where
    apart : false ≡ true → ⊥
    apart e = cc

calls : CallsFunction right true true int 1 (tree.More (value 0) tree.End)
calls = record { function = other; is = refl; arguments = (refl, refl); given = λ e. refl; result = λ e. (refl, refl) }

kinded : (g : ℕ) (f : FunctionView) → function_at right g ≡ Some f → KindedFunction right f
kinded = each (KindedFunction right)
    (((((tt, refl), tt), calls), ((tt, ((tt, refl), refl, refl, refl, refl), refl, refl), tt)), (((tt, refl), refl), tt))
    (((tt, refl), refl), tt)

entry_scoped : (is_entry : Bool) → ScopedFunction entry is_entry
entry_scoped true = record {
  parameters = omega arith;
  scope = (tt, λ n e. none_in n _ e);
  body = ((((refl, tt), only 1 (λ n. kept entry true n ≡ false) refl), ((refl, (refl, tt)), ((refl, (refl, tt)), tt))), ((refl, refl), tt));
}
entry_scoped false = record {
  parameters = omega arith;
  scope = (tt, λ n e. none_in n _ e);
  body = ((((refl, tt), only 1 (λ n. kept entry false n ≡ false) refl), ((refl, (refl, tt)), ((refl, (refl, tt)), tt))), ((refl, refl), tt));
}

other_scoped : (is_entry : Bool) → ScopedFunction other is_entry
other_scoped true = record { parameters = omega arith; scope = (tt, λ n e. none_in n _ e); body = ((refl, refl), tt) }
other_scoped false = record { parameters = omega arith; scope = (tt, λ n e. none_in n _ e); body = ((refl, refl), tt) }

right_is_typed_and_scoped : IsTypedAndScoped right
right_is_typed_and_scoped = record {
  jumps = each (λ f. AllJumpsStand false false (statement_trees f.body)) ((tt, (tt, tt)), (tt, tt)) (tt, tt);
  kinded = record { functions = kinded; entry = (entry, refl) };
  scoped = record {
    functions = λ g f is is_entry. each (λ f. ScopedFunction f is_entry) (entry_scoped is_entry) (other_scoped is_entry) g f is;
    entry = entry;
    is_entry = refl;
  };
  entered = (tt, tt);
}

right_ends : why_of (Run right (pos 3 ∷ []) 80) ≡ Some Ended
unfolding leaves_of
right_ends = refl

-- ---- `int main(int n){&n+1;}`, but with the sum of two integers: the pointer is no operand of it

abbrev summing : FunctionView
summing = function 1 (local ∷ []) (tree.Value (sum (term (Pointer int) (tree.AddressOf (object 0))) (number 1)) ∷ [])

summing_is_stuck : why_of (Run (unit (summing ∷ [])) (pos 0 ∷ []) 20) ≡ Some Stuck
unfolding leaves_of
summing_is_stuck = refl

no_number : Address ≡ Number → ⊥
no_number e = cc

summing_has_other_kinds : KindedUnit (unit (summing ∷ [])) → ⊥
summing_has_other_kinds kinded = no_number (kinded.functions 0 summing refl).0.2

-- ---- `int main(int n){{int x;}x;}`

abbrev outside : FunctionView
outside = function 1 (local ∷ (local ∷ [])) (tree.Block (1 ∷ []) tree.NoMore ∷ (tree.Value (value 1) ∷ []))

outside_is_stuck : why_of (Run (unit (outside ∷ [])) (pos 0 ∷ []) 20) ≡ Some Stuck
unfolding leaves_of
outside_is_stuck = refl

no_life : false ≡ true → ⊥
no_life e = cc

outside_is_not_scoped : ScopedUnit (unit (outside ∷ [])) → ⊥
outside_is_not_scoped scoped = no_life (scoped.functions 0 outside refl true).body.1.0

-- ---- `int main(void){(int*)1;}`: nothing is wrong with its kinds and objects, and it is stuck at an open step

abbrev casting : FunctionView
casting = function 0 [] (tree.Value (term (Pointer int) (tree.Convert Cast (number 1))) ∷ [])

abbrev cast : UnitView
cast = unit (casting ∷ [])

casting_alone : (P : FunctionView → Type 0) → P casting → (g : ℕ) (f : FunctionView) → function_at cast g ≡ Some f → P f
casting_alone P p zero f is = same P casting f is p
casting_alone P p (suc g) f is = absurd (none f is)
  where
    none : (f : FunctionView) → None ≡ Some f → ⊥
    none f e = cc

casting_scoped : (is_entry : Bool) → ScopedFunction casting is_entry
casting_scoped is_entry = record { parameters = omega arith; scope = (tt, λ n e. none_in n _ e); body = (tt, tt) }

cast_is_typed_and_scoped : IsTypedAndScoped cast
cast_is_typed_and_scoped = record {
  jumps = casting_alone (λ f. AllJumpsStand false false (statement_trees f.body)) (tt, tt);
  kinded = record { functions = casting_alone (KindedFunction cast) ((refl, tt), tt); entry = (casting, refl) };
  scoped = record { functions = λ g f is is_entry. casting_alone (λ f. ScopedFunction f is_entry) (casting_scoped is_entry) g f is; entry = casting; is_entry = refl };
  entered = tt;
}

cast_is_stuck : why_of (Run cast [] 20) ≡ Some Stuck
unfolding leaves_of
cast_is_stuck = refl
