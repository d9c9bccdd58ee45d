-- What is told where one pair of place and rule was found.
use Rattle.std.specs.Prelude.{◌≡◌, List, [], ◌∷◌}
use Rattle.cc_base.specs.DiagnosticOrder.{IsOrderedSet}
use Rattle.cc_base.specs.declared.diagnostics.Diag.{Diag}
use Rattle.cli_answers.specs.Verdicts.{report_status}
use Rattle.cli_examples.specs.Units.WorkedPlaces.{division}

-- each once: of one pair, found once or twice, there is one list
pub record OneLine : Type 0 where
  pub once : IsOrderedSet (division 24 ∷ []) (division 24 ∷ [])
  pub of_two : IsOrderedSet (division 24 ∷ (division 24 ∷ [])) (division 24 ∷ [])
  pub no_other : (diags : List Diag) → IsOrderedSet (division 24 ∷ []) diags → diags ≡ division 24 ∷ []

-- in order: of two pairs, in whatever order they were found
pub record TwoLines : Type 0 where
  pub ordered : IsOrderedSet (division 30 ∷ (division 24 ∷ [])) (division 24 ∷ (division 30 ∷ []))
  pub other_order : IsOrderedSet (division 30 ∷ (division 24 ∷ [])) (division 30 ∷ (division 24 ∷ [])) → ⊥
  pub shorter : IsOrderedSet (division 30 ∷ (division 24 ∷ [])) (division 24 ∷ []) → ⊥
  pub longer : IsOrderedSet (division 30 ∷ (division 24 ∷ [])) (division 24 ∷ (division 27 ∷ (division 30 ∷ []))) → ⊥

-- where something was found, the status is not 0
abbrev pub FoundIsTold : Type 0
FoundIsTold = (d : Diag) (pairs diags : List Diag) → IsOrderedSet (d ∷ pairs) diags → report_status diags ≡ 1

-- where nothing was found, nothing is told
abbrev pub NothingIsTold : Type 0
NothingIsTold = (diags : List Diag) → IsOrderedSet [] diags → diags ≡ []
