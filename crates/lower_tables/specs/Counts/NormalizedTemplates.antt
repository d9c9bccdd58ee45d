-- Templates without the calls that add nothing, and with one label where several stand together.
use Rattle.std.specs.Prelude.{ℕ, ◌+◌, ◌-◌, Bool, true, false, cond, ◌==◌, List, [], ◌∷◌, ◌++◌, map, replicate, slice_set, get_or, Option, Some, None}
use Rattle.lower_templates.specs.Worklist.Acts.{Step}
use Rattle.lower_templates.specs.Worklist.Pieces.{ExitView, PieceView, Do, DoIfUsed, End, Mark, Call, piece_view, TemplateView}
use Rattle.lower_objects.specs.declared.counts.function_counts.FunctionCounts.{FunctionCounts}
use Rattle.lower_tables.specs.declared.counts.normalized_templates.LabelNames.{LabelNames}
use Rattle.lower_tables.specs.declared.counts.normalized_templates.Settling.{Settling}
use Rattle.lower_objects.specs.Counts.PieceCounts.{counted}

-- whether a call of a function adds nothing
abbrev pub is_silent : List (Option FunctionCounts) → ℕ → Bool
is_silent table f = (counted table f).is_silent

abbrev pub adds_nothing : List (Option FunctionCounts) → PieceView → Bool
adds_nothing table (Do s) = false
adds_nothing table (DoIfUsed s) = false
adds_nothing table (End s exits) = false
adds_nothing table (Mark label) = false
adds_nothing table (Call c) = is_silent table c.function

-- new numbers of labels, how many there are, and whether the last piece that adds something is a label
pub record NamesView : Type 0 where
  pub to : List ℕ
  pub count : ℕ
  pub is_behind : Bool

abbrev pub names_of : LabelNames → NamesView
names_of n = record { to = n.to.items; count = n.count; is_behind = n.is_behind_label }

abbrev pub with_begun : NamesView → NamesView
with_begun n = cond n.is_behind n (record { to = n.to; count = n.count + 1; is_behind = true })

abbrev pub with_last : ℕ → NamesView → NamesView
with_last label n = record { to = slice_set n.to label (n.count - 1); count = n.count; is_behind = n.is_behind }

-- labels with no piece between them that adds something have one number
abbrev pub with_label : ℕ → NamesView → NamesView
with_label label n = with_last label (with_begun n)

abbrev pub with_other : Bool → NamesView → NamesView
with_other adds_nothing n = cond adds_nothing n (record { to = n.to; count = n.count; is_behind = false })

abbrev pub with_piece : List (Option FunctionCounts) → PieceView → NamesView → NamesView
with_piece table (Do s) n = with_other false n
with_piece table (DoIfUsed s) n = with_other false n
with_piece table (End s exits) n = with_other false n
with_piece table (Mark label) n = with_label label n
with_piece table (Call c) n = with_other (is_silent table c.function) n

abbrev pub with_pieces : List (Option FunctionCounts) → List PieceView → NamesView → NamesView
with_pieces table [] n = n
with_pieces table (p ∷ ps) n = with_pieces table ps (with_piece table p n)

abbrev pub no_names : ℕ → NamesView
no_names labels = record { to = replicate labels 0; count = 0; is_behind = false }

abbrev pub renaming : List (Option FunctionCounts) → List PieceView → ℕ → NamesView
renaming table ps labels = with_pieces table ps (no_names labels)

abbrev pub renamed : NamesView → ℕ → ℕ
renamed n label = get_or n.to label 0

abbrev pub renamed_exit : NamesView → ExitView → ExitView
renamed_exit n e = record { to = renamed n e.to; taken = e.taken }

abbrev pub renamed_exits : NamesView → List ExitView → List ExitView
renamed_exits n es = map (renamed_exit n) es

abbrev pub renamed_end : NamesView → Step → List ExitView → PieceView
renamed_end n s exits = End s (renamed_exits n exits)

abbrev pub is_last : Option ℕ → ℕ → Bool
is_last None n = false
is_last (Some last) n = last == n

-- pieces as far as they are renamed, and the number of the last label
pub record SettlingView : Type 0 where
  pub pieces : List PieceView
  pub last : Option ℕ

abbrev pub settling : Settling → SettlingView
settling s = record { pieces = map piece_view s.pieces.items; last = s.last }

abbrev pub with_normalized : PieceView → SettlingView → SettlingView
with_normalized p g = record { pieces = g.pieces ++ p ∷ []; last = g.last }

-- a label that stands there already is not repeated
abbrev pub with_mark : ℕ → SettlingView → SettlingView
with_mark n g = cond (is_last g.last n) g (record { pieces = g.pieces ++ Mark n ∷ []; last = Some n })

abbrev pub with_renamed : NamesView → PieceView → SettlingView → SettlingView
with_renamed n (Do s) g = with_normalized (Do s) g
with_renamed n (DoIfUsed s) g = with_normalized (DoIfUsed s) g
with_renamed n (End s exits) g = with_normalized (renamed_end n s exits) g
with_renamed n (Mark label) g = with_mark (renamed n label) g
with_renamed n (Call c) g = with_normalized (Call c) g

unfoldable pub with_if : List (Option FunctionCounts) → NamesView → PieceView → SettlingView → SettlingView
with_if table n p g = cond (adds_nothing table p) g (with_renamed n p g)

abbrev pub with_all : List (Option FunctionCounts) → NamesView → List PieceView → SettlingView → SettlingView
with_all table n [] g = g
with_all table n (p ∷ ps) g = with_all table n ps (with_if table n p g)

abbrev pub nothing_normalized : SettlingView
nothing_normalized = record { pieces = []; last = None }

abbrev pub normalized_pieces : List (Option FunctionCounts) → NamesView → List PieceView → List PieceView
normalized_pieces table n ps = (with_all table n ps nothing_normalized).pieces

-- the pieces that add something, with new labels
abbrev pub normalized : List (Option FunctionCounts) → TemplateView → TemplateView
normalized table t = record { pieces = normalized_pieces table (renaming table t.pieces t.labels) t.pieces; names = t.names; labels = (renaming table t.pieces t.labels).count }
