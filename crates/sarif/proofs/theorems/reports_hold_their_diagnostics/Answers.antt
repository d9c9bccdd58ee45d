use Rattle.sarif.proofs.OwnReports.{none_is_fresh}
use Rattle.sarif.proofs.theorems.reports_hold_their_diagnostics.Goals as goal

pub returns : goal.returns
returns c = none_is_fresh
