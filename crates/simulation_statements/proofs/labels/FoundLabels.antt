-- Where a label stands, it is found: the search passes all statements but the first clauses of `for`.
use Rattle.std.proofs.Common.{◌≤◌, ℕ, List, [], ◌∷◌, subst}
use Rattle.c_layout.specs.CheckedTrees.{statement_trees}
use Rattle.c_layout.specs.CheckedUnits.{UnitView, FunctionView}
use Rattle.lower_template_theorems.proofs.pending_labels.LabelCounts.{all_same_labels}
use Rattle.semantics.specs.SourceMachine.Items as item
use Rattle.semantics.specs.SourceMachine.Items.{Item}
use Rattle.semantics.specs.SourceMachine.LabelSearch.{label, from_label}
use Rattle.simulation_terms.proofs.scopes.FunctionBodies.{same_found}
use Rattle.simulation_terms.specs.Scopes.SuitedStatements.{Enclosure, AllSuitIn, HasLabel}
use Rattle.simulation_statements.specs.Labels.FoundLabels.{IsThere}
use Rattle.simulation_statements.proofs.labels.CountedScopes.{all_suited_found}

pub found_there : (u : UnitView) (f : FunctionView) (enclosed : Enclosure) (known : List ℕ) → AllSuitIn u f enclosed known (statement_trees f.body) → (l : ℕ) → HasLabel f l → IsThere (from_label u f l)
found_there u f enclosed known suits l has =
    let rest : List Item = item.Leaves f.scope ∷ (item.EndBody ∷ []) in
    let some = subst (λ m. 1 ≤ m) (all_same_labels l (statement_trees f.body)) has.1 in
    subst IsThere (same_found u (label l) f.body rest) (all_suited_found (label l) u f (statement_trees f.body) enclosed known rest suits some)
