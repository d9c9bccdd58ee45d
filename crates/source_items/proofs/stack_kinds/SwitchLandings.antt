-- A label that a value selects leads to items that are there: into the body of the switch, or behind it.
use Rattle.std.proofs.Common.{◌≡◌, ◌<◌, ◌≤◌, ℕ, ◌+◌, ℤ, Bool, true, false, cond, List, [], ◌∷◌, length, Option, Some, None, refl, ap, arith}
use Rattle.std.specs.Ordering.{int_eq}
use Rattle.c_layout.specs.CheckedTrees.{StatementTree}
use Rattle.c_layout.specs.CheckedUnits.{UnitView}
use Rattle.c_layout.specs.declared.checked_tree.checked_statements.CaseLabel.{CaseLabel}
use Rattle.semantics.specs.SourceMachine.Items.{Item}
use Rattle.semantics.specs.SourceMachine.Scopes.{past_loop}
use Rattle.semantics.specs.SourceMachine.LabelSearch as sought
use Rattle.semantics.specs.SourceMachine.LabelSearch.{Sought, found, case_of}
use Rattle.semantics.specs.SourceMachine.BranchSteps.{landing}
use Rattle.source_items.specs.StackKinds.KindedTerms.{IsThere}
use Rattle.source_items.specs.StackKinds.KindedStatements.{HasCases}

-- a case below a number, or the default label
abbrev pub IsCase : ℕ → Sought → Type 0
IsCase most (sought.label n) = ⊥
IsCase most (sought.case n) = n < most
IsCase most sought.other = Unit {0}

here_or_later : (most n : ℕ) (b : Bool) (later : Sought) → n < most → IsCase most later → IsCase most (cond b (sought.case n) later)
here_or_later most n true later below is = below
here_or_later most n false later below is = is

pub is_case : (cs : List CaseLabel) (most n : ℕ) (value : ℤ) → n + length cs ≤ most → IsCase most (case_of cs n value)
is_case [] most n value within = tt
is_case (c ∷ cs) most n value within = here_or_later most n (int_eq c.value value) (case_of cs (n + 1) value) (omega arith) (is_case cs most (n + 1) value (omega arith))

module _ (u : UnitView) (labels : List CaseLabel) (statement : StatementTree) (cases : HasCases u labels statement) where
  pub lands : (l : Sought) (rest : List Item) → IsCase (length labels) l → IsThere (landing l (found u l statement rest) rest)
  lands (sought.label n) rest is = absurd is
  lands (sought.case n) rest is =
      let to : IsThere (found u (sought.case n) statement rest) = cases n is rest in
      (to.0, landed n rest (found u (sought.case n) statement rest) to.0 to.1)
    where
      landed : (n : ℕ) (rest : List Item) (o : Option (List Item)) (to : List Item) → o ≡ Some to → landing (sought.case n) o rest ≡ Some to
      landed n rest o to is = ap (λ o. landing (sought.case n) o rest) is
  lands sought.other rest is = by (found u sought.other statement rest)
    where
      by : (o : Option (List Item)) → IsThere (landing sought.other o rest)
      by None = (past_loop rest, refl)
      by (Some to) = (to, refl)
