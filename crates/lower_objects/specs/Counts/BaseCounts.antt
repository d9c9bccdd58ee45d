-- The bases and cells of a function's objects, of its allocations, and of the calls in it.
use Rattle.std.specs.Prelude.{ℕ, zero, suc, ◌+◌, Bool, true, false, not, cond, List, [], ◌∷◌, length, slice_get, slice_set, replicate, Option, Some, None}
use Rattle.c_layout.specs.Types.{Ty}
use Rattle.c_layout.specs.StructViews.{StructView}
use Rattle.c_layout.specs.StructLayouts.{leaf_count}
use Rattle.c_layout.specs.CheckedUnits.{FunctionView}
use Rattle.lower_templates.specs.Worklist.Pieces.{NameView, Local, Outcome, Static, Literal, Allocation, PieceView, Do, DoIfUsed, End, Mark, Call}
use Rattle.lower_functions.specs.Functions.Functions.{local_type}
use Rattle.lower_objects.specs.declared.counts.function_counts.FunctionCounts.{FunctionCounts}
use Rattle.lower_objects.specs.declared.counts.object_counts.BaseCount.{BaseCount}
use Rattle.lower_objects.specs.declared.counts.object_counts.BaseTally.{BaseTally}
use Rattle.lower_objects.specs.Counts.Extents.{capped}
use Rattle.lower_objects.specs.Counts.PieceCounts.{counted}
use Rattle.lower_objects.specs.Shapes.HeapBases.{heap_leaves}

abbrev pub no_bases : BaseCount
no_bases = record { bases = 0; cells = 0 }

abbrev pub both : BaseCount → BaseCount → BaseCount
both a b = record { bases = capped (a.bases + b.bases); cells = capped (a.cells + b.cells) }

-- an object has one base, whose cells are its leaves
abbrev pub object_base : List StructView → Ty → BaseCount
object_base structs t = record { bases = 1; cells = leaf_count structs t }

-- an allocation has two, each with a cell for each of the six classes and the leaves at its start
abbrev pub twice : ℕ → BaseCount
twice cells = record { bases = 2; cells = capped (cells + cells) }

abbrev pub allocation_bases : List StructView → ℕ → Option Ty → BaseCount
allocation_bases structs pointer target = twice (capped (length (heap_leaves structs pointer target) + 6))

-- which objects were counted, and the bases so far
pub record Tally : Type 0 where
  pub noted : List Bool
  pub count : BaseCount

abbrev pub tally : BaseTally → Tally
tally t = record { noted = t.noted.items; count = t.count }

abbrev pub is_first : Option Bool → Bool
is_first None = false
is_first (Some before) = not before

abbrev pub is_new : List Bool → ℕ → Bool
is_new noted n = is_first (slice_get noted n)

abbrev pub with_more : BaseCount → Tally → Tally
with_more more t = record { noted = t.noted; count = both t.count more }

abbrev pub with_noted : ℕ → Tally → Tally
with_noted n t = record { noted = slice_set t.noted n true; count = t.count }

-- an object is counted once
abbrev pub with_slot : List StructView → FunctionView → ℕ → Tally → Tally
with_slot structs f n t = cond (is_new t.noted n) (with_more (object_base structs (local_type f n)) (with_noted n t)) t

abbrev pub with_name : List StructView → ℕ → FunctionView → NameView → Tally → Tally
with_name structs pointer f (Local n) t = with_slot structs f n t
with_name structs pointer f Outcome t = with_slot structs f (length f.locals) t
with_name structs pointer f (Static n) t = t
with_name structs pointer f (Literal n) t = t
with_name structs pointer f (Allocation target) t = with_more (allocation_bases structs pointer target) t

-- the first so many objects
abbrev pub with_slots : List StructView → FunctionView → ℕ → Tally → Tally
with_slots structs f zero t = t
with_slots structs f (suc n) t = with_slot structs f n (with_slots structs f n t)

abbrev pub with_names : List StructView → ℕ → FunctionView → List NameView → Tally → Tally
with_names structs pointer f [] t = t
with_names structs pointer f (n ∷ ns) t = with_names structs pointer f ns (with_name structs pointer f n t)

abbrev pub no_tally : ℕ → Tally
no_tally slots = record { noted = replicate slots false; count = no_bases }

-- the bases of a function's own objects and allocations; the parameters are named in any case
abbrev pub own_bases : List StructView → ℕ → FunctionView → List NameView → ℕ → BaseCount
own_bases structs pointer f names parameters = (with_names structs pointer f names (with_slots structs f parameters (no_tally (length f.locals + 1)))).count

abbrev pub bases_of : FunctionCounts → BaseCount
bases_of c = record { bases = c.bases; cells = c.cells }

abbrev pub called_bases : List (Option FunctionCounts) → PieceView → BaseCount
called_bases table (Do s) = no_bases
called_bases table (DoIfUsed s) = no_bases
called_bases table (End s exits) = no_bases
called_bases table (Mark label) = no_bases
called_bases table (Call c) = bases_of (counted table c.function)

-- the bases of all calls that are put in
abbrev pub inner_bases : List (Option FunctionCounts) → List PieceView → BaseCount → BaseCount
inner_bases table [] sum = sum
inner_bases table (p ∷ ps) sum = inner_bases table ps (both sum (called_bases table p))
