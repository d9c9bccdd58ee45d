-- What verdicts on texts say.
use Rattle.std.specs.Prelude.{◌≡◌, true}
use Rattle.cc_base.specs.ClosedMap.{IsClosed}
use Rattle.cfg.specs.declared.programs.Flow.{Flow}
use Rattle.certificate_text.specs.Lines.LineWords.{Bytes}
use Rattle.certificate_text.specs.Maps.MapTexts.{text_of_map}
use Rattle.certificate_check.specs.Reading.MapReading.{map_rows, map_reading, is_whole}
use Rattle.certificate_check.specs.declared.verdicts.verdicts.Verdict.{Verdict}
use Rattle.certificate_check.specs.declared.verdicts.verdicts.Verdict.TheVariants.{Yes}
use Rattle.certificate_check.specs.Verdicts.Verdicts.{cert_cells, cert_machine, IsVerdictOn}

-- the rows of a text that is accepted are a closed map
abbrev pub AcceptsClosedMaps : Type 0
AcceptsClosedMaps = (flow : Flow) (text : Bytes) → IsVerdictOn flow text Yes → IsClosed cert_cells (cert_machine flow) (map_rows flow text)

-- two verdicts on a text are the same
abbrev pub HasOneVerdict : Type 0
HasOneVerdict = (flow : Flow) (text : Bytes) (one other : Verdict) → IsVerdictOn flow text one → IsVerdictOn flow text other → one ≡ other

-- a text that is read whole is the text of the map that it gives: a map has one spelling
abbrev pub ReadsMapTexts : Type 0
ReadsMapTexts = (flow : Flow) (text : Bytes) → is_whole text (map_reading flow text) ≡ true → text ≡ text_of_map flow (map_rows flow text)
