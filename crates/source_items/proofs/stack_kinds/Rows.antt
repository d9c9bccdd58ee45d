-- Terms, statements and a function that have operands of their kinds, and some that have not.
use Rattle.std.proofs.Common.{◌≡◌, pos, true, false, List, [], ◌∷◌, Some, None, refl}
use Rattle.cc_base.specs.declared.diagnostics.Place.{Place}
use Rattle.c_layout.specs.Types.{Ty, Int, Pointer}
use Rattle.c_layout.specs.CheckedTrees as tree
use Rattle.c_layout.specs.CheckedTrees.{TermTree, Typed, LvalueTree, Designates, StatementTree}
use Rattle.c_layout.specs.CheckedUnits.{FunctionView, UnitView}
use Rattle.c_layout.specs.declared.checked_tree.checked_terms.ObjectRef.TheVariants.{Local}
use Rattle.c_layout.specs.declared.syntax_tree.expressions.BinaryOp.TheVariants.{Add}
use Rattle.lower_templates.specs.Worklist.TermKinds.{rank_of_int}
use Rattle.semantics.specs.SourceMachine.LabelSearch.{found}
use Rattle.source_items.specs.Operations.Kinds.{Number, Address}
use Rattle.source_items.specs.StackKinds.KindedTerms.{KindedTerm}
use Rattle.source_items.specs.StackKinds.KindedStatements.{KindedFunction}

no_number : Address ≡ Number → ⊥
no_number e = cc

nothing_there : {A : Type 0} (x : A) → None ≡ Some x → ⊥
nothing_there x e = cc

module _ (u : UnitView) (at : Place) where
  abbrev int : Ty
  int = Int rank_of_int

  abbrev typed : Ty → tree.FormTree → TermTree
  typed t form = Typed at t 0 None form

  -- `int x;`, `x`, `&x` and `1`
  abbrev x : LvalueTree
  x = Designates at int 0 (tree.Object (Local 0))

  abbrev value : TermTree
  value = typed int (tree.Load x)

  abbrev address : TermTree
  address = typed (Pointer int) (tree.AddressOf x)

  abbrev one : TermTree
  one = typed int (tree.Number (pos 1))

  -- ---- terms

  -- `x + 1` is a sum of numbers; `&x` is none
  sum_is : KindedTerm u true (typed int (tree.Integer Add value one))
  sum_is = ((tt, refl), refl, refl, refl, refl)

  sum_is_not : KindedTerm u true (typed int (tree.Integer Add address one)) → ⊥
  sum_is_not kinded = no_number kinded.2

  -- `&x + 1` and `1 + &x` move a pointer, and `x + 1` does not
  shift_is : KindedTerm u true (typed (Pointer int) (tree.Shift false 4 address one))
  shift_is = ((tt, refl), refl, refl, refl)

  turned_shift_is : KindedTerm u true (typed (Pointer int) (tree.Shift false 4 one address))
  turned_shift_is = (refl, (tt, refl), refl, refl)

  -- a cast to void has no value to be used
  discard_is_not : KindedTerm u true (typed int (tree.Discard one)) → ⊥
  discard_is_not kinded = let no : true ≡ false → ⊥ = λ e. cc in no kinded.1

  -- ---- statements

  -- `x = x + 1; return x;`
  abbrev counting : List StatementTree
  counting = tree.Value (typed int (tree.Assign x (typed int (tree.Integer Add value one)))) ∷ (tree.Return at (Some value) ∷ [])

  abbrev function : List StatementTree → FunctionView
  function body = record { name = []; at = at; returns = int; parameters = 0; locals = record { name = []; at = at; ctype = int } ∷ []; scope = 0 ∷ []; body = body; labels = 0 }

  counting_is : KindedFunction u (function counting)
  counting_is = ((tt, ((tt, refl), refl, refl, refl, refl), refl, refl), ((((tt, refl), refl)), tt))

  -- a label that is nowhere
  goto_is_not : KindedFunction u (function (tree.Goto 0 ∷ [])) → ⊥
  unfolding found
  goto_is_not kinded = nothing_there kinded.0.0 kinded.0.1
