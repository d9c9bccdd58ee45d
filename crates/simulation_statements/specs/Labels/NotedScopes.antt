-- What the tree of a function's scopes notes for its labels.
use Rattle.std.specs.Prelude.{◌≡◌, ◌≤◌, ◌<◌, ℕ, Some, get_or}
use Rattle.c_layout.specs.CheckedTrees.{statement_trees}
use Rattle.c_layout.specs.CheckedUnits.{FunctionView}
use Rattle.lower_templates.specs.Worklist.Scopes.{function_scopes}
use Rattle.lower_template_theorems.specs.PendingLabels.Marks.{all_labels_in}
use Rattle.semantics.specs.SourceMachine.LabelSearch.{label}
use Rattle.simulation_statements.specs.Labels.LabelScopes.{all_stand_in}

-- a label that stands once at most is noted with the scope in which it stands
abbrev pub LabelsAreNoted : Type 0
LabelsAreNoted = (f : FunctionView) (n number other : ℕ) → n < f.labels → all_labels_in n (statement_trees f.body) ≤ 1 → all_stand_in (label n) (statement_trees f.body) 1 2 ≡ Some number → get_or (function_scopes f).labels n other ≡ number
