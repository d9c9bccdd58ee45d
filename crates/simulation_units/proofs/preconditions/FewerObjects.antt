-- What is new among some objects is new among fewer.
use Rattle.std.proofs.Common.{◌≡◌, ◌⊎◌, inl, inr, ℕ, ◌==◌, true, List, [], ◌∷◌, ◌++◌}
use Rattle.c_layout.specs.CheckedTrees as tree
use Rattle.c_layout.specs.CheckedTrees.{StatementTree, StatementTrees}
use Rattle.simulation_layout.specs.FunctionChecks.NewObjects.{HasNewObjects, HaveNewObjects}
use Rattle.simulation_layout.proofs.function_checks.MarkedObjects.{either_true, left_true, right_true}
use Rattle.semantics.specs.SourceMachine.Scopes.{is_in}
use Rattle.simulation_terms.proofs.scopes.Ways.{new_for_fewer}

-- each of some objects is among others
abbrev pub Within : List ℕ → List ℕ → Type 0
Within fewer known = (x : ℕ) → is_in x fewer ≡ true → is_in x known ≡ true

-- behind the same ones too
pub behind_same : (xs fewer known : List ℕ) → Within fewer known → Within (xs ++ fewer) (xs ++ known)
behind_same [] fewer known within x e = within x e
behind_same (y ∷ xs) fewer known within x e = by (behind_same xs fewer known within x) (either_true (x == y) (is_in x (xs ++ fewer)) e)
  where
    by : (is_in x (xs ++ fewer) ≡ true → is_in x (xs ++ known) ≡ true) → ((x == y) ≡ true) ⊎ (is_in x (xs ++ fewer) ≡ true) → is_in x (y ∷ (xs ++ known)) ≡ true
    by later (inl same) = left_true (x == y) (is_in x (xs ++ known)) same
    by later (inr there) = right_true (x == y) (is_in x (xs ++ known)) (later there)

mutual
  fewer_objects : (fewer known : List ℕ) → Within fewer known → (i : StatementTree) → HasNewObjects known i → HasNewObjects fewer i
  fewer_objects fewer known within (tree.Block objects items) new = (new_for_fewer objects fewer known within new.0, all_fewer (objects ++ fewer) (objects ++ known) (behind_same objects fewer known within) items new.1)
  fewer_objects fewer known within (tree.If e body) new = fewer_objects fewer known within body new
  fewer_objects fewer known within (tree.IfElse e first second) new = (fewer_objects fewer known within first new.0, fewer_objects fewer known within second new.1)
  fewer_objects fewer known within (tree.While e body) new = fewer_objects fewer known within body new
  fewer_objects fewer known within (tree.Do body e) new = fewer_objects fewer known within body new
  fewer_objects fewer known within (tree.For objects first e step body) new =
      let inside = behind_same objects fewer known within in
      (new_for_fewer objects fewer known within new.0, all_fewer (objects ++ fewer) (objects ++ known) inside first new.1, fewer_objects (objects ++ fewer) (objects ++ known) inside body new.2)
  fewer_objects fewer known within (tree.Switch at e labels has_default values body) new = fewer_objects fewer known within body new
  fewer_objects fewer known within (tree.Case n body) new = fewer_objects fewer known within body new
  fewer_objects fewer known within (tree.Default body) new = fewer_objects fewer known within body new
  fewer_objects fewer known within (tree.Label n body) new = fewer_objects fewer known within body new
  fewer_objects fewer known within other new = tt

  pub all_fewer : (fewer known : List ℕ) → Within fewer known → (is : StatementTrees) → HaveNewObjects known is → HaveNewObjects fewer is
  all_fewer fewer known within tree.NoMore new = tt
  all_fewer fewer known within (tree.And first rest) new = (fewer_objects fewer known within first new.0, all_fewer fewer known within rest new.1)
