-- The functions that the entry reaches, and the templates and counts of each, from those of the functions
-- that it calls.
use Rattle.std.specs.Prelude.{◌≡◌, ◌≤◌, ◌-◌, ◌^◌, ℕ, Bool, true, false, cond, ◌==◌, List, [], ◌∷◌, length, map, slice_get, Option, Some, None}
use Rattle.std.specs.Option.{option_map}
use Rattle.c_layout.specs.CheckedUnits.{FunctionView, UnitView}
use Rattle.lower_templates.specs.Worklist.Pieces.{PieceView, Do, DoIfUsed, End, Mark, Call, TemplateView, template_view}
use Rattle.lower_templates.specs.declared.worklist.template_pieces.Template.{Template}
use Rattle.lower_functions.specs.Functions.Functions.{IsTemplate}
use Rattle.lower_objects.specs.declared.counts.function_counts.FunctionCounts.{FunctionCounts}
use Rattle.lower_tables.specs.Counts.FunctionTotals.{function_counts}
use Rattle.lower_tables.specs.Counts.NormalizedTemplates.{normalized}

abbrev pub templates_view : List (Option Template) → List (Option TemplateView)
templates_view ts = map (option_map template_view) ts

-- a function of a unit, by its number, and its template
pub record IsTemplateOf (u : UnitView) (n : ℕ) (f : FunctionView) (t : TemplateView) : Type 0 where
  pub stands : slice_get u.functions n ≡ Some f
  pub is_template : IsTemplate u.structs u.model.pointer u.model.int f (n == u.entry) t

abbrev pub called : PieceView → Option ℕ
called (Do s) = None
called (DoIfUsed s) = None
called (End s exits) = None
called (Mark label) = None
called (Call c) = Some c.function

-- whether one of the pieces is a call of a function
abbrev pub Calls : List PieceView → ℕ → Type 0
Calls ps n = (at : ℕ) × (p : PieceView) × (slice_get ps at ≡ Some p) × (called p ≡ Some n)

-- the entry is reached, and what a function that is reached calls
pub data Reaches (u : UnitView) : ℕ → Type 0 where
  begun : Reaches u u.entry
  further : (n m : ℕ) (f : FunctionView) (t : TemplateView) → Reaches u n → IsTemplateOf u n f t → Calls t.pieces m → Reaches u m

-- whether a function was counted
abbrev pub is_there : Option (Option FunctionCounts) → Bool
is_there None = false
is_there (Some None) = false
is_there (Some (Some c)) = true

abbrev pub is_counted : List (Option FunctionCounts) → Option ℕ → Bool
is_counted table None = true
is_counted table (Some n) = is_there (slice_get table n)

-- whether all functions that pieces call were counted
abbrev pub are_counted : List (Option FunctionCounts) → List PieceView → Bool
are_counted table [] = true
are_counted table (p ∷ ps) = cond (is_counted table (called p)) (are_counted table ps) false

-- the parameters that are bases in any case: those of the entry
abbrev pub named_parameters : UnitView → ℕ → FunctionView → ℕ
named_parameters u n f = cond (n == u.entry) f.parameters 0

-- the counts of a function from a table that has those of the functions that it calls
abbrev pub counts_from : UnitView → ℕ → FunctionView → TemplateView → List (Option FunctionCounts) → FunctionCounts
counts_from u n f t table = function_counts u.structs u.model.pointer f (named_parameters u n f) (normalized table t) table

-- the counts of a function, by its number: those of the functions that it calls are known before
pub data Counts (u : UnitView) : ℕ → FunctionCounts → Type 0 where
  counts : (n : ℕ) (f : FunctionView) (t : TemplateView) (table : List (Option FunctionCounts))
      → IsTemplateOf u n f t → are_counted table t.pieces ≡ true → ((m : ℕ) (c : FunctionCounts) → slice_get table m ≡ Some (Some c) → Counts u m c) → Counts u n (counts_from u n f t table)

-- each count of a table is that of its function
abbrev pub AreCounts : UnitView → List (Option FunctionCounts) → Type 0
AreCounts u table = (m : ℕ) (c : FunctionCounts) → slice_get table m ≡ Some (Some c) → Counts u m c

-- the settled template of a function that is reached; as they are made, templates have labels of 32 bits
pub record IsNormalized (u : UnitView) (n : ℕ) (s : TemplateView) : Type 0 where
  pub function : FunctionView
  pub template : TemplateView
  pub table : List (Option FunctionCounts)
  pub is_template : IsTemplateOf u n function template
  pub few : template.labels ≤ 2 ^ 32 - 1
  pub reached : Reaches u n
  pub all_counted : are_counted table template.pieces ≡ true
  pub are_counts : AreCounts u table
  pub settles : s ≡ normalized table template

-- all functions that the entry reaches have their settled templates and their counts
pub record IsPrepared (u : UnitView) (templates : List (Option TemplateView)) (table : List (Option FunctionCounts)) : Type 0 where
  pub numbered : length templates ≡ length u.functions
  pub are_normalized : (n : ℕ) (s : TemplateView) → slice_get templates n ≡ Some (Some s) → IsNormalized u n s
  pub are_counts : AreCounts u table
  pub all : (n : ℕ) → Reaches u n → (s : TemplateView) × (c : FunctionCounts) × (slice_get templates n ≡ Some (Some s)) × (slice_get table n ≡ Some (Some c))
