-- Lines with their closing zeros.
use Rattle.std.specs.Prelude.{ℕ, pos, unsigned_abs, List, [], ◌∷◌, ◌++◌}
use Rattle.c_layout.specs.declared.data_model.Model.{Model}
use Rattle.memory_model.specs.Memory.Labels.{no_labels, input_labels}
use Rattle.memory_model.specs.Memory.Bytes.{Content, number}
use Rattle.memory_model.specs.Effects.Worlds.{World, Reply, goes, behind, drawn}
use Rattle.memory_model.specs.Effects.LibraryCalls.{char_type, line_of}

-- the next character of a line
abbrev pub next_character : Model → World → Reply Content
next_character m w = behind (drawn w (pos 0) (pos 255)) (λ c w. goes (number (unsigned_abs c) (input_labels (char_type m))) w)

abbrev pub closed : List Content → List Content
closed cs = cs ++ number 0 no_labels ∷ []

-- so many characters of a line, and a zero byte
abbrev pub ended_line : Model → ℕ → World → Reply (List Content)
ended_line m k w = behind (line_of m k w) (λ cs w. goes (closed cs) w)
