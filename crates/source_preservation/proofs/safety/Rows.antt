-- Worked rows: a unit whose runs are never stuck, and one that is stuck and is not marked.
use Rattle.std.proofs.Common.{◌≡◌, ◌≤◌, ℕ, zero, suc, pos, Bool, true, false, List, [], ◌∷◌, Some, None, inl, inr, refl, subst, arith}
use Rattle.cc_base.specs.declared.diagnostics.Place.{Place}
use Rattle.cc_base.specs.declared.int_types.IntType.{IntType}
use Rattle.cc_base.specs.declared.integer_operators.Rel.TheVariants.{Lt}
use Rattle.c_layout.specs.Models.{lp64}
use Rattle.c_layout.specs.Leaves.{leaves_of}
use Rattle.c_layout.specs.Types.{Ty, Int, Pointer}
use Rattle.c_layout.specs.CheckedTrees as tree
use Rattle.c_layout.specs.CheckedTrees.{TermTree, Typed, LvalueTree, Designates, FormTree, StatementTree, statement_trees}
use Rattle.c_layout.specs.CheckedUnits.{LocalView, FunctionView, UnitView}
use Rattle.c_layout.specs.declared.checked_tree.checked_terms.ConversionKind.TheVariants.{Cast}
use Rattle.c_layout.specs.declared.checked_tree.checked_terms.ObjectRef.TheVariants.{Local}
use Rattle.c_layout.specs.declared.syntax_tree.expressions.BinaryOp.TheVariants.{Less}
use Rattle.lower_conditions.specs.declared.branch_tests.NamedObject.{NamedObject}
use Rattle.lower_functions.specs.Functions.Functions.{local_type}
use Rattle.cfg.specs.declared.machine_instructions.Scalar.TheVariants as of
use Rattle.memory_model.specs.Effects.Worlds.{Ended, Stuck}
use Rattle.memory_model.specs.Effects.LibraryChecks.{most_size}
use Rattle.semantics.specs.SourceMachine.Operations.{size_of}
use Rattle.semantics.specs.SourceMachine.Scopes.{is_in}
use Rattle.semantics.specs.SourceMachine.SourceStates.{function_at}
use Rattle.semantics.specs.SourceMachine.SourceRuns.{Run, why_of}
use Rattle.source_items.specs.Returns.StandingJumps.{AllJumpsStand}
use Rattle.source_items.specs.Liveness.ScopedStatements.{ScopedFunction}
use Rattle.source_preservation.specs.ValueTyping.Marks.{Exactly, Loaded}
use Rattle.source_preservation.specs.ValueTyping.MarkOperations.{IsKind, HasTruths}
use Rattle.source_preservation.specs.WellTyped.WellTypedTerms.{WellTypedCondition, WellTypedTerm, IsScalarType}
use Rattle.source_preservation.specs.WellTyped.WellTypedStatements.{WellTypedFunction, WellTypedUnit}
use Rattle.source_preservation.specs.Safety.DefinedRuns.{IsWellTypedAndScoped}

-- ---- the parts of small units, all at one place

abbrev here : Place
here = record { file = 0; line = 1; col = 1 }

abbrev int_kind : IntType
int_kind = record { bytes = 4; signed = true; rank = 3 }

abbrev int : Ty
int = Int int_kind

abbrev term : Ty → FormTree → TermTree
term t form = Typed here t 0 None form

abbrev n : LvalueTree
n = Designates here int 0 (tree.Object (Local 0))

abbrev value : TermTree
value = term int (tree.Load n)

abbrev number : ℕ → TermTree
number k = Typed here int 0 (Some (pos k)) (tree.Number (pos k))

abbrev local : LocalView
local = record { name = []; at = here; ctype = int }

abbrev main : ℕ → List LocalView → List StatementTree → FunctionView
main parameters locals body = record { name = []; at = here; returns = int; parameters = parameters; locals = locals; scope = []; body = body; labels = 0 }

abbrev unit : FunctionView → UnitView
unit f = record { functions = f ∷ []; constants = []; objects = []; structs = []; literals = []; entry = 0; model = lp64 }

-- what holds of a unit's only function holds of each that is there
module _ (main : FunctionView) (P : FunctionView → Type 0) where
  alone : P main → (g : ℕ) (f : FunctionView) → function_at (unit main) g ≡ Some f → P f
  alone p zero f is = subst P (some_same is) p
    where
      some_same : Some main ≡ Some f → main ≡ f
      some_same e = cc
  alone p (suc g) f is = absurd (none f is)
    where
      none : (f : FunctionView) → None ≡ Some f → ⊥
      none f e = cc

nothing_in : {A : Type 0} (x : A) (P : Type 0) → None ≡ Some x → P
nothing_in x P e = absurd (none e)
  where
    none : None ≡ Some x → ⊥
    none e = cc

none_in : (k : ℕ) (P : Type 0) → is_in k [] ≡ true → P
none_in k P e = absurd (apart e)
  where
    apart : false ≡ true → ⊥
    apart e = cc

-- ---- `int main(int n){if(n<5)n=0;return n;}`

abbrev less : TermTree
less = term int (tree.Integer Less value (number 5))

abbrev testing : FunctionView
testing = main 1 (local ∷ []) (tree.If less (tree.Value (term int (tree.Assign n (number 0)))) ∷ (tree.Return here (Some value) ∷ []))

abbrev right : UnitView
right = unit testing

abbrev n_named : NamedObject
n_named = record { object = Local 0; kind = of.Int int_kind }

int_is : IsKind lp64 int_kind
int_is = record { size = refl; bytes = refl }

truths : HasTruths int_kind
truths = record { zero = refl; one = refl }

less_is : WellTypedCondition right true less
less_is = (
  ((tt, int_is, refl), (int_kind, refl, refl), (int_kind, int_kind, refl, refl, (int_kind, refl, truths))),
  (Lt, Loaded n_named, Exactly (pos 5), refl, inl (inl (tt, int_is, refl)), inr (inl (pos 5, refl, refl)), record { common = int_kind; kind = int_is; is = refl; sides = inl ((refl, refl), refl, refl) }),
)

int_locals : (k : ℕ) → IsScalarType right (local_type testing k)
int_locals zero = int_is
int_locals (suc k) = int_is

small : (k : ℕ) → size_of right (local_type testing k) ≤ most_size lp64
small zero = omega arith
small (suc k) = omega arith

testing_is : WellTypedFunction right testing
testing_is = record {
  body = ((less_is, (tt, (int_kind, refl, refl), int_is, refl, refl)), (((tt, int_is, refl), int_is, refl), tt));
  parameters = λ k below. int_locals k;
  returns = λ e. int_is;
  small = small;
}

testing_scoped : (is_entry : Bool) → ScopedFunction testing is_entry
testing_scoped true = record { parameters = omega arith; scope = (tt, λ k e. none_in k _ e); body = (((refl, tt), (refl, tt)), ((refl, refl), tt)) }
testing_scoped false = record { parameters = omega arith; scope = (tt, λ k e. none_in k _ e); body = (((refl, tt), (refl, tt)), ((refl, refl), tt)) }

right_is_well_typed_and_scoped : IsWellTypedAndScoped right
right_is_well_typed_and_scoped = record {
  jumps = alone testing (λ f. AllJumpsStand false false (statement_trees f.body)) (tt, (tt, tt));
  well_typed = record {
    functions = alone testing (WellTypedFunction right) testing_is;
    statics = λ k o e. nothing_in o _ e;
    literals = λ k l e. nothing_in l _ e;
    entry = (testing, refl);
    entered = ((int_kind, refl, int_is), tt);
  };
  scoped = record { functions = λ g f is is_entry. alone testing (λ f. ScopedFunction f is_entry) (testing_scoped is_entry) g f is; entry = testing; is_entry = refl };
}

right_ends : why_of (Run right (pos 3 ∷ []) 80) ≡ Some Ended
unfolding leaves_of
right_ends = refl

-- ---- `int main(void){(int*)1;}`: a number other than 0 becomes no pointer

abbrev cast : TermTree
cast = term (Pointer int) (tree.Convert Cast (number 1))

abbrev casting : FunctionView
casting = main 0 [] (tree.Value cast ∷ [])

casting_is_stuck : why_of (Run (unit casting) [] 20) ≡ Some Stuck
unfolding leaves_of
casting_is_stuck = refl

no_zero : pos 0 ≡ pos 1 → ⊥
no_zero e = cc

cast_is_not : WellTypedTerm (unit casting) false cast → ⊥
cast_is_not well_typed = elim well_typed.1 as (λ _. ⊥) [ inl converts ↦ converts.1 | inr exact ↦ no_zero exact.1 ]

casting_is_not_well_typed : WellTypedUnit (unit casting) → ⊥
casting_is_not_well_typed well_typed = cast_is_not (well_typed.functions 0 casting refl).body.0
