-- Certificates of units: what stands behind the text of one, and behind the answer to one.
use Rattle.std.specs.Prelude.{◌≡◌, ◌++◌, ℤ, true, List, codes}
use Rattle.std.specs.Fmt.{decimal}
use Rattle.cc_base.specs.Ascending.{is_ascending}
use Rattle.cc_base.specs.Standard.{standard_limits}
use Rattle.cc_base.specs.declared.diagnostics.Diag.{Diag}
use Rattle.c_layout.specs.declared.unit_tokens.Unit7.{Unit7}
use Rattle.c_layout.specs.declared.syntax_tree.declarations.Tree7.{Tree7}
use Rattle.c_layout.specs.declared.checked_tree.checked_units.Checked.{Checked}
use Rattle.c_layout.specs.CheckedUnits.{unit_view}
use Rattle.cfg.specs.declared.programs.Flow.{Flow}
use Rattle.cfg.specs.Nearest.{AreThresholds}
use Rattle.cfg.specs.ThresholdNumbers.{limits_of}
use Rattle.cfg.specs.StructNumbers.{flow_numbers}
use Rattle.cfg.specs.WellFormed.{is_well_formed}
use Rattle.lower_preconditions.specs.Objects.PlainObjects.{has_plain_objects}
use Rattle.lower_preconditions.specs.Units.RegularUnits.{is_regular_unit}
use Rattle.certificate_check.specs.declared.verdicts.verdicts.CertFault.{CertFault}
use Rattle.certificate_check.specs.declared.verdicts.verdicts.CertFault.TheVariants.{Form, Start, Edge}
use Rattle.certificate_check.specs.declared.verdicts.verdicts.Verdict.TheVariants as verdict
use Rattle.certificate_check.specs.Verdicts.Verdicts.{IsVerdictOn}
use Rattle.certificate_programs.specs.declared.programs.checked_maps.Verified.{Verified}
use Rattle.certificate_programs.specs.declared.programs.checked_maps.Verified.TheVariants as verified
use Rattle.certificate_programs.specs.Programs.Certificates.{IsCertificate, IsShown}
use Rattle.cli_texts.specs.Reports.{Bytes}
use Rattle.cli_units.specs.Judging.{SettingView, IsParsed, IsTyped, IsLooked, IsLowered}

-- why a certificate is refused, in words
abbrev pub cert_reason : CertFault → Bytes
cert_reason (Form n) = codes "Form " ++ decimal n
cert_reason Start = codes "Start"
cert_reason (Edge e) = codes "Edge " ++ decimal e

-- the program of a unit that was looked at, whose objects are plain and whose functions are regular; it is well formed
pub record IsProgram (unit : Unit7) (s : SettingView) (flow : Flow) : Type 0 where
  pub tree : Tree7
  pub parsed : IsParsed unit tree
  pub checked : Checked
  pub typed : IsTyped s tree checked
  pub looked : IsLooked unit s
  pub plain : has_plain_objects (unit_view checked) ≡ true
  pub regular : is_regular_unit (unit_view checked) ≡ true
  pub lowered : IsLowered checked flow
  pub well_formed : is_well_formed standard_limits flow ≡ true

-- the text is that of the least inductive map of the program, with bounds rounded to its thresholds, in order, at heads
pub record IsProvedBy (flow : Flow) (text : Bytes) : Type 0 where
  pub list : List ℤ
  pub thresholds : AreThresholds (limits_of flow.model) (flow_numbers flow) list
  pub ascending : is_ascending list ≡ true
  pub certificate : IsCertificate flow list text

-- the text is that of such a map of the unit's program
pub record IsProved (unit : Unit7) (s : SettingView) (text : Bytes) : Type 0 where
  pub flow : Flow
  pub program : IsProgram unit s flow
  pub proof : IsProvedBy flow text

-- what a certificate comes to: it shows these diagnostics, or is refused
pub data CertAnswer : Type 0 where
  shows : (diags : List Diag) → CertAnswer
  refuses : (why : CertFault) → CertAnswer

-- the answer of a program to a text
abbrev pub IsAnswerOn : Flow → Bytes → CertAnswer → Type 0
IsAnswerOn flow text (shows diags) = IsShown flow text diags
IsAnswerOn flow text (refuses why) = IsVerdictOn flow text (verdict.No why)

abbrev pub answer_view : Verified → CertAnswer
answer_view (verified.Found found) = shows found.items
answer_view (verified.Refused why) = refuses why

-- the answer of a unit's program to a text
pub record IsVerifiedUnit (unit : Unit7) (s : SettingView) (text : Bytes) (answer : CertAnswer) : Type 0 where
  pub flow : Flow
  pub program : IsProgram unit s flow
  pub answers : IsAnswerOn flow text answer
