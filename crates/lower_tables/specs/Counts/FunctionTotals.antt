-- The counts of a function, from its template and the counts of the functions that it calls.
use Rattle.std.specs.Prelude.{ℕ, Bool, true, false, ◌&&◌, ◌==◌, List, Option}
use Rattle.c_layout.specs.StructViews.{StructView}
use Rattle.c_layout.specs.CheckedUnits.{FunctionView}
use Rattle.lower_templates.specs.Worklist.Pieces.{TemplateView}
use Rattle.lower_templates.specs.Worklist.TermKinds.{is_void}
use Rattle.lower_objects.specs.declared.counts.function_counts.BlockExtent.{BlockExtent}
use Rattle.lower_objects.specs.declared.counts.function_counts.FunctionCounts.{FunctionCounts}
use Rattle.lower_objects.specs.Counts.PieceCounts.{extent, temps, if_used}
use Rattle.lower_objects.specs.Counts.BaseCounts.{both, own_bases, inner_bases, no_bases}

-- whether a call adds nothing: begun in an empty block it has no instruction, and it has no parameter
-- and no result
abbrev pub is_nothing : FunctionView → BlockExtent → Bool
is_nothing f at = at.instructions == 0 && (f.parameters == 0 && is_void f.returns)

abbrev pub function_counts : List StructView → ℕ → FunctionView → ℕ → TemplateView → List (Option FunctionCounts) → FunctionCounts
function_counts structs pointer f parameters t table = record {
  from_empty = extent table t.pieces true;
  from_begun = extent table t.pieces false;
  temps = temps table t.pieces 0;
  bases = (both (own_bases structs pointer f t.names parameters) (inner_bases table t.pieces no_bases)).bases;
  cells = (both (own_bases structs pointer f t.names parameters) (inner_bases table t.pieces no_bases)).cells;
  if_used = if_used t.pieces 0;
  is_silent = is_nothing f (extent table t.pieces true);
}
