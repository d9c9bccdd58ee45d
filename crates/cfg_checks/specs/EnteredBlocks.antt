-- The blocks that edges go back to, marked in one pass over the edges.
use Rattle.std.specs.Prelude.{ℕ, Bool, true, false, cond, nat_le, List, [], ◌∷◌, replicate}
use Rattle.std.specs.List.{slice_get, slice_set}
use Rattle.std.specs.Option.{unwrap_or}
use Rattle.cfg.specs.declared.flow_edges.Edge.{Edge}

-- the mark of the block that an edge goes back to
abbrev pub mark_back : Edge → List Bool → List Bool
mark_back e marks = cond (nat_le e.to e.from) (slice_set marks e.to true) marks

abbrev pub marks_behind : List Edge → List Bool → List Bool
marks_behind [] marks = marks
marks_behind (e ∷ es) marks = marks_behind es (mark_back e marks)

-- for each of so many blocks whether an edge goes back to it
abbrev pub entered_blocks : ℕ → List Edge → List Bool
entered_blocks count edges = marks_behind edges (replicate count false)

abbrev pub is_entered : List Bool → ℕ → Bool
is_entered marks at = unwrap_or (slice_get marks at) false
