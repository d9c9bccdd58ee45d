use Rattle.sarif.proofs.UriRound.{uri_read_back}
use Rattle.sarif.proofs.theorems.uris_are_read_back.Goals as goal

pub returns : goal.returns
returns c = uri_read_back
