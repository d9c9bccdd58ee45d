-- What is told of a certificate that is accepted holds what runs of the unit violate.
use Rattle.std.specs.Prelude.{List}
use Rattle.cc_base.specs.declared.diagnostics.Diag.{Diag}
use Rattle.c_layout.specs.CheckedUnits.{unit_view}
use Rattle.c_layout.specs.declared.unit_tokens.Unit7.{Unit7}
use Rattle.cli_texts.specs.Reports.{Bytes}
use Rattle.cli_units.specs.Judging.{SettingView}
use Rattle.cli_units.specs.Certifying.{shows, IsVerifiedUnit}
use Rattle.cli.specs.Command.FoundRuns.{HoldsRunsOf}

abbrev pub CertificatesHoldRuns : Type 0
CertificatesHoldRuns = (unit : Unit7) (s : SettingView) (text : Bytes) (found : List Diag) (answer : IsVerifiedUnit unit s text (shows found)) → HoldsRunsOf (unit_view answer.program.checked) found
