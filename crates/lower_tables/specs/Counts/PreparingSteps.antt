-- The steps to the templates and counts of a unit's functions.
use Rattle.std.specs.Prelude.{◌≡◌, ◌≤◌, ◌<◌, ◌-◌, ◌^◌, ℕ, true, List, length, slice_get, slice_set, Option, Some, None}
use Rattle.c_layout.specs.CheckedUnits.{FunctionView, UnitView}
use Rattle.lower_templates.specs.Worklist.Pieces.{TemplateView}
use Rattle.lower_templates.specs.declared.worklist.template_pieces.Template.{Template}
use Rattle.lower_objects.specs.declared.counts.function_counts.FunctionCounts.{FunctionCounts}
use Rattle.lower_tables.specs.declared.counts.prepared_functions.PreparedUnit.{PreparedUnit}
use Rattle.lower_tables.specs.Counts.NormalizedTemplates.{normalized}
use Rattle.lower_tables.specs.Counts.Preparations.{templates_view, IsTemplateOf, Calls, Reaches, are_counted, counts_from, AreCounts, IsNormalized}

-- the template of one function has a call of another
abbrev pub CallsOf : List (Option TemplateView) → ℕ → ℕ → Type 0
CallsOf ts n m = (t : TemplateView) × (slice_get ts n ≡ Some (Some t)) × Calls t.pieces m

-- the template of a function, whose labels are numbers of 32 bits, comes in its place
pub record IsMade (u : UnitView) (n : ℕ) (old new : List (Option TemplateView)) : Type 0 where
  pub function : FunctionView
  pub template : TemplateView
  pub is_template : IsTemplateOf u n function template
  pub few : template.labels ≤ 2 ^ 32 - 1
  pub comes : new ≡ slice_set old n (Some template)

pub record IsReached (u : UnitView) (n : ℕ) (t : TemplateView) : Type 0 where
  pub function : FunctionView
  pub is_template : IsTemplateOf u n function t
  pub reached : Reaches u n
  pub few : t.labels ≤ 2 ^ 32 - 1

-- each template is that of its function, which the entry reaches
abbrev pub AreMade : UnitView → List (Option TemplateView) → Type 0
AreMade u ts = (n : ℕ) (t : TemplateView) → slice_get ts n ≡ Some (Some t) → IsReached u n t

-- the settled template and the counts of a function, from its template and the counts of others
pub record IsCounting (u : UnitView) (n : ℕ) (t : TemplateView) (table : List (Option FunctionCounts)) (s : TemplateView) (c : FunctionCounts) : Type 0 where
  pub function : FunctionView
  pub stands : slice_get u.functions n ≡ Some function
  pub all_counted : are_counted table t.pieces ≡ true
  pub settles : s ≡ normalized table t
  pub counts : c ≡ counts_from u n function t table

-- templates that are still to be settled, settled ones, and counts
pub record Progress : Type 0 where
  pub plain : List (Option TemplateView)
  pub templates : List (Option TemplateView)
  pub table : List (Option FunctionCounts)

abbrev pub progress : List (Option Template) → PreparedUnit → Progress
progress plain p = record { plain = templates_view plain; templates = templates_view p.templates.items; table = p.counts.items }

-- a function is settled and counted
pub record IsSettling (u : UnitView) (n : ℕ) (old new : Progress) : Type 0 where
  pub template : TemplateView
  pub settles : TemplateView
  pub counts : FunctionCounts
  pub was : slice_get old.plain n ≡ Some (Some template)
  pub counting : IsCounting u n template old.table settles counts
  pub within : n < length old.templates
  pub plain : new.plain ≡ slice_set old.plain n None
  pub templates : new.templates ≡ slice_set old.templates n (Some settles)
  pub table : new.table ≡ slice_set old.table n (Some counts)

-- each function with counts has its settled template, and all that it calls has counts
pub record AreNormalized (u : UnitView) (templates : List (Option TemplateView)) (table : List (Option FunctionCounts)) : Type 0 where
  pub numbered : length templates ≡ length u.functions
  pub are_normalized : (n : ℕ) (s : TemplateView) → slice_get templates n ≡ Some (Some s) → IsNormalized u n s
  pub are_counts : AreCounts u table
  pub both : (n : ℕ) (c : FunctionCounts) → slice_get table n ≡ Some (Some c) → (s : TemplateView) × (slice_get templates n ≡ Some (Some s))
  pub closed : (n : ℕ) (s : TemplateView) → slice_get templates n ≡ Some (Some s) → (f : FunctionView) × (t : TemplateView) × IsTemplateOf u n f t × (are_counted table t.pieces ≡ true)
