-- Where the certificate of `verify` is a text that `prove` was called to tell, it is one that is proved of the unit.
use Rattle.std.specs.Prelude.{◌≡◌, List, Option, Some}
use Rattle.std.proofs.Common.{sym, subst}
use Rattle.cc_base.specs.Outside.{Files, file_at}
use Rattle.cc_base.specs.declared.diagnostics.Diag.{Diag}
use Rattle.c_layout.specs.declared.data_model.Model.{Model}
use Rattle.cli_words.specs.Words.Requests.{CommandView}
use Rattle.cli_texts.specs.Reports.{Bytes}
use Rattle.cli_units.specs.Certifying.{shows, IsProved}
use Rattle.cli_answers.specs.Verdicts.{HasModel, FromFiles, IsCheckedBy, cert_setting}
use Rattle.cli_theorems.specs.Certificates.SameUnits.{GiveOneUnit}
use Rattle.cli_theorems.proofs.certificates.SameUnits.{one_file}
use Rattle.cli_theorems.proofs.certificates.Told.{Proves, Verifies, proves_of, proved_here}
use Rattle.cli.specs.Verified.ShownRuns.{ShowsJustRun, ProvedTextsShowJustRuns, VerifiedHoldJustRuns}

module _ (c : CommandView) (cert : Bytes) (m : Model) (names : List Bytes) (diags : List Diag) where
  -- what the certificate comes to by some files
  abbrev HoldsJust : Option Files → Type 0
  HoldsJust fs = HasModel fs c.model m → (is : IsCheckedBy (FromFiles fs c.dirs m c.unit) fs cert (cert_setting c m) names (shows diags)) → ShowsJustRun is.verifies.program.checked is.verifies.flow diags

  here : ProvedTextsShowJustRuns → (held files : Files) → GiveOneUnit c held files → (text : Bytes) → file_at files cert ≡ Some text → Proves held c text → HoldsJust (Some files)
  here shown held files alike text holds p has is =
      let v : Verifies files c cert names (shows diags) = record { model = m; has_model = has; checked = is } in
      let own : IsProved is.expanded (cert_setting c m) is.bytes = subst (IsProved is.expanded (cert_setting c m)) (sym (one_file is.held holds)) (proved_here c held files alike cert text holds p names (shows diags) v) in
      shown is.expanded (cert_setting c m) is.bytes own diags is.verifies

pub verified_hold_just : ProvedTextsShowJustRuns → VerifiedHoldJustRuns
verified_hold_just shown seen c cert sink status h told =
    let p = proves_of h.before h.held c h.text h.told_before h.proves in
    subst (HoldsJust c cert told.model told.names told.diags) (sym h.told) (here c cert told.model told.names told.diags shown h.held h.files h.alike h.text h.holds p) told.has_model told.is_checked
