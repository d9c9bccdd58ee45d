-- What is told of a certificate that is accepted holds what runs of the unit violate.
use Rattle.std.proofs.Common.{List}
use Rattle.cc_base.specs.Standard.{standard_limits}
use Rattle.cc_base.specs.declared.diagnostics.Diag.{Diag}
use Rattle.c_layout.specs.CheckedUnits.{unit_view}
use Rattle.c_layout.specs.DeclarationTrees.{unit_tree}
use Rattle.cfg.specs.declared.programs.Flow.{Flow}
use Rattle.certificate_programs.specs.Programs.Certificates.{IsShown}
use Rattle.certificate_theorems.specs.Sound.SoundCertificates.{HoldsPairsOfChecked}
use Rattle.cli_texts.specs.Reports.{Bytes}
use Rattle.simulation_units.specs.CheckedUnits.LookedRuns.{LookedRunsAreProgramRuns}
use Rattle.cli.specs.Command.DefinedRuns.{TypedUnitsPassLooks}
use Rattle.cli.specs.Command.CertifiedRuns.{CertificatesHoldRuns}
use Rattle.cli.proofs.command.FoundRuns.{program_of, violated_in}

-- by a certificate of a program
abbrev pub CheckedPairsAreHeld : Type 0
CheckedPairsAreHeld = (flow : Flow) (text : Bytes) (found : List Diag) → IsShown flow text found → HoldsPairsOfChecked flow found

pub certificates_hold : LookedRunsAreProgramRuns → TypedUnitsPassLooks → CheckedPairsAreHeld → CertificatesHoldRuns
certificates_hold runs pass held unit s text found answer v violated =
    let p = answer.program in
    let looks = pass unit s p.tree p.checked p.parsed p.typed p.looked p.regular in
    let x = violated_in runs (unit_view p.checked) answer.flow (program_of s p.tree p.checked answer.flow p.typed p.regular p.lowered p.well_formed) looks v violated in
    held answer.flow text found answer.answers (unit_view p.checked) (record { model = s.model; name = s.entry; tree = unit_tree p.tree; limits = standard_limits; checked = p.typed.checks; lowered = p.lowered.lowers; plain = p.plain }) v
    (record { draws = x.draws; steps = x.steps; there = x.there })
