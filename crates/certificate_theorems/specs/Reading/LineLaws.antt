-- What the lines of a text decide of the texts that begin with them.
use Rattle.std.specs.Prelude.{◌≡◌, ◌<◌, false, ◌++◌, length, drop, take}
use Rattle.cfg.specs.declared.programs.Flow.{Flow}
use Rattle.certificate_text.specs.Lines.LineWords.{Bytes, until}
use Rattle.certificate_check.specs.Reading.TextPlaces.{next_place}
use Rattle.certificate_check.specs.Reading.MapReading.{map_reading, is_whole}

-- the line at which the reading of a text ends: the first that was refused, or the one behind the last block
abbrev pub last_place : Flow → Bytes → Bytes
last_place flow text = drop (map_reading flow text).at text

-- this line has its end
abbrev pub HasEnd : Flow → Bytes → Type 0
HasEnd flow text = length (until 10 (last_place flow text)) < length (last_place flow text)

-- the text up to the end of this line
abbrev pub lines_read : Flow → Bytes → Bytes
lines_read flow text = take (next_place text (map_reading flow text).at) text

-- every text that begins with these lines is read as the text is
abbrev pub LinesDecide : Type 0
LinesDecide = (flow : Flow) (text behind : Bytes) → HasEnd flow text → map_reading flow (lines_read flow text ++ behind) ≡ map_reading flow text

-- where the text is refused, so is every text that begins with these lines
abbrev pub RefusedLinesBeginNoText : Type 0
RefusedLinesBeginNoText = (flow : Flow) (text behind : Bytes) → HasEnd flow text → is_whole text (map_reading flow text) ≡ false → is_whole (lines_read flow text ++ behind) (map_reading flow (lines_read flow text ++ behind)) ≡ false
