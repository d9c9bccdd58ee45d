use Rattle.sarif.proofs.RoundTrip.{written_is_read}
use Rattle.sarif.proofs.theorems.reports_are_read_back.Goals as goal

pub returns : goal.returns
returns c = written_is_read
