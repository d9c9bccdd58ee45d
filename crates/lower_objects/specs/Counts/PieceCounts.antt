-- What the pieces of a template count, where the functions that they call were counted before.
use Rattle.std.specs.Prelude.{ℕ, ◌+◌, Bool, true, false, cond, max, List, [], ◌∷◌, slice_get, Option, Some, None}
use Rattle.lower_templates.specs.Worklist.Acts as acts
use Rattle.lower_templates.specs.Worklist.Acts.{Act}
use Rattle.lower_templates.specs.Worklist.Pieces.{PieceView, Do, DoIfUsed, End, Mark, Call}
use Rattle.lower_templates.specs.Worklist.Works.{behind}
use Rattle.lower_templates.specs.declared.worklist.template_pieces.OwnCall.{OwnCall}
use Rattle.lower_objects.specs.declared.counts.function_counts.BlockExtent.{BlockExtent}
use Rattle.lower_objects.specs.declared.counts.function_counts.FunctionCounts.{FunctionCounts}
use Rattle.lower_objects.specs.Counts.Extents.{capped, with_instruction, with_end, with_mark, with_call}

abbrev pub nothing : Bool → BlockExtent
nothing is_empty = record { blocks = 0; instructions = 0; is_empty = is_empty }

abbrev pub no_counts : FunctionCounts
no_counts = record { from_empty = nothing true; from_begun = nothing false; temps = 0; bases = 0; cells = 0; if_used = 0; is_silent = false }

abbrev pub counts_of : Option (Option FunctionCounts) → FunctionCounts
counts_of None = no_counts
counts_of (Some None) = no_counts
counts_of (Some (Some c)) = c

-- the counts of a function
abbrev pub counted : List (Option FunctionCounts) → ℕ → FunctionCounts
counted table f = counts_of (slice_get table f)

abbrev pub with_piece : List (Option FunctionCounts) → PieceView → BlockExtent → BlockExtent
with_piece table (Do s) at = with_instruction at
with_piece table (DoIfUsed s) at = at
with_piece table (End s exits) at = with_end at
with_piece table (Mark label) at = with_mark at
with_piece table (Call c) at = with_call at (counted table c.function) c.used

abbrev pub with_pieces : List (Option FunctionCounts) → List PieceView → BlockExtent → BlockExtent
with_pieces table [] at = at
with_pieces table (p ∷ ps) at = with_pieces table ps (with_piece table p at)

-- what pieces add to a block that has no instruction or has some
abbrev pub extent : List (Option FunctionCounts) → List PieceView → Bool → BlockExtent
extent table ps is_empty = with_pieces table ps (nothing is_empty)

abbrev pub result_temps : Option ℕ → ℕ
result_temps None = 0
result_temps (Some to) = behind to 1

-- how many temporaries there are up to the one that an operation writes
abbrev pub written : Act → ℕ
written (acts.Constant to value kind) = behind to 1
written (acts.Address to base offset) = behind to 1
written (acts.Load to from kind) = behind to 1
written (acts.Store to from kind kept) = 0
written (acts.Copy to from index) = 0
written (acts.Narrow to from offset size) = behind to 1
written (acts.Shift to from by size backward) = behind to 1
written (acts.Binary to sign left right kind) = behind to 1
written (acts.Unary to sign from kind) = behind to 1
written (acts.Compare to sign left right) = behind to 1
written (acts.Not to from kind) = behind to 1
written (acts.Difference to left right size) = behind to 1
written (acts.ComparePointers to sign left right) = behind to 1
written (acts.Convert to from old new) = behind to 1
written (acts.Library to function arguments newest size) = result_temps to
written (acts.Enter base) = 0
written (acts.Leave base) = 0
written (acts.Forget base) = 0
written (acts.Clear base) = 0
written (acts.Spell base offset room text) = 0
written acts.Jump = 0
written (acts.Branch from kind) = 0
written (acts.Switch from kind) = 0
written (acts.ReadLine to text count stream) = result_temps to
written acts.Stop = 0

-- the value of a call is in the first temporary of its arguments
abbrev pub used_temps : OwnCall → ℕ
used_temps c = cond c.used (behind c.depth 1) 0

-- a call's temporaries begin at its first argument
abbrev pub called_temps : OwnCall → FunctionCounts → ℕ
called_temps c counts = max (capped (c.depth + counts.temps)) (used_temps c)

abbrev pub piece_temps : List (Option FunctionCounts) → PieceView → ℕ
piece_temps table (Do s) = written s.does
piece_temps table (DoIfUsed s) = 0
piece_temps table (End s exits) = written s.does
piece_temps table (Mark label) = 0
piece_temps table (Call c) = called_temps c (counted table c.function)

-- the greatest number of temporaries
abbrev pub temps : List (Option FunctionCounts) → List PieceView → ℕ → ℕ
temps table [] most = most
temps table (p ∷ ps) most = temps table ps (max (piece_temps table p) most)

abbrev pub if_used_by : PieceView → ℕ
if_used_by (Do s) = 0
if_used_by (DoIfUsed s) = 1
if_used_by (End s exits) = 0
if_used_by (Mark label) = 0
if_used_by (Call c) = 0

-- how many instructions are done only where the value is used
abbrev pub if_used : List PieceView → ℕ → ℕ
if_used [] count = count
if_used (p ∷ ps) count = if_used ps (capped (count + if_used_by p))
