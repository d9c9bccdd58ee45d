-- What making a template gives away is never taken back.
use Rattle.std.specs.Prelude.{◌≡◌, ◌≤◌, List, ◌++◌}
use Rattle.lower_templates.specs.Worklist.Pieces.{NameView, PieceView}
use Rattle.lower_templates.specs.Worklist.Works.{Job}
use Rattle.lower_templates.specs.Worklist.Plans.{Plan}
use Rattle.lower_templates.specs.Worklist.Settings.{SettingView}
use Rattle.lower_templates.specs.declared.worklist.template_builder.Dispatch.{Dispatch}
use Rattle.lower_template_theorems.specs.Worklists.Derivations.{Makes}

-- names and dispatches come behind those that were given away before, labels and scopes only become more
pub record Grows (p r : Plan) : Type 0 where
  pub more_names : List NameView
  pub names : r.names ≡ p.names ++ more_names
  pub labels : p.labels ≤ r.labels
  pub scopes : p.scopes ≤ r.scopes
  pub more_dispatches : List Dispatch
  pub dispatches : r.dispatches ≡ p.dispatches ++ more_dispatches

abbrev pub CountersGrow : Type 0
CountersGrow = (s : SettingView) (p : Plan) (js : List Job) (ps : List PieceView) (r : Plan) → Makes s p js ps r → Grows p r
