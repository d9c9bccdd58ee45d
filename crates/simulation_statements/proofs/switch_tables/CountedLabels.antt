-- Cases and default labels are counted where they stand, and declarations and expressions have none.
use Rattle.std.proofs.Common.{◌≡◌, ◌≤◌, ℕ, Some, sym, subst, ◌∙◌}
use Rattle.c_layout.specs.CheckedTrees.{StatementTree, StatementTrees}
use Rattle.lower_template_theorems.specs.PendingLabels.Marks.{cases_in, defaults_in, all_defaults_in}
use Rattle.lower_template_theorems.proofs.pending_labels.LabelCounts.{same_cases, same_defaults, all_same_defaults}
use Rattle.semantics.specs.SourceMachine.LabelSearch.{case}
use Rattle.semantics.specs.SourceMachine.LabelSearch as sought
use Rattle.simulation_statements.specs.Labels.LabelScopes.{stands_in, all_stand_in}
use Rattle.simulation_terms.specs.Scopes.SuitedStatements.{ArePlain}
use Rattle.simulation_statements.proofs.labels.CountedScopes.{scope_counted, all_scopes_counted, plains_lack}

pub case_counted : (n : ℕ) (i : StatementTree) (k c number : ℕ) → stands_in (case n) i k c ≡ Some number → 1 ≤ cases_in n i
case_counted n i k c number is = subst (λ m. 1 ≤ m) (sym (same_cases n i)) (scope_counted (case n) i k c number is)

pub default_counted : (i : StatementTree) (k c number : ℕ) → stands_in sought.other i k c ≡ Some number → 1 ≤ defaults_in i
default_counted i k c number is = subst (λ m. 1 ≤ m) (sym (same_defaults i)) (scope_counted sought.other i k c number is)

pub all_default_counted : (items : StatementTrees) (k c number : ℕ) → all_stand_in sought.other items k c ≡ Some number → 1 ≤ all_defaults_in items
all_default_counted items k c number is = subst (λ m. 1 ≤ m) (sym (all_same_defaults items)) (all_scopes_counted sought.other items k c number is)

pub plains_defaults : (items : StatementTrees) → ArePlain items → all_defaults_in items ≡ 0
plains_defaults items plain = all_same_defaults items ∙ plains_lack sought.other items plain
