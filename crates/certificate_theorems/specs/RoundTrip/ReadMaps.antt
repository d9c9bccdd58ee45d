-- When a map is read back from its text.
use Rattle.std.specs.Prelude.{◌≡◌, ◌^◌, ◌<◌, ℕ, true, List, length, Option}
use Rattle.cc_base.specs.InductiveMap.{row_at}
use Rattle.interval_domain.specs.declared.intervals.intervals.Interval.{Interval}
use Rattle.value_domain.specs.declared.values.row_cells.Cell.{Cell}
use Rattle.cfg.specs.declared.programs.Flow.{Flow}
use Rattle.certificate_text.specs.Maps.MapTexts.{text_of_map}
use Rattle.certificate_check.specs.Reading.MapReading.{map_rows, map_reading, is_whole}
use Rattle.certificate_check.specs.Reading.OwnReading.{IsOwnRow}

-- the program has fewer than 2^32 blocks, and rows of fewer than 2^31 cells
pub record IsSmall (flow : Flow) : Type 0 where
  pub blocks : length flow.blocks.items < 2 ^ 32
  pub width : flow.width < 2 ^ 31

-- the text of the map is of the form, and gives the map
pub record IsReadBack (flow : Flow) (rows : List (Option (List (Cell Interval)))) : Type 0 where
  pub whole : is_whole (text_of_map flow rows) (map_reading flow (text_of_map flow rows)) ≡ true
  pub rows_are : map_rows flow (text_of_map flow rows) ≡ rows

-- so it is with each map of own rows, one for each block at most
abbrev pub OwnMapsAreReadBack : Flow → Type 0
OwnMapsAreReadBack flow = IsSmall flow → (rows : List (Option (List (Cell Interval)))) → length rows ≡ length flow.blocks.items → ((b : ℕ) → IsOwnRow flow (row_at rows b)) → IsReadBack flow rows
