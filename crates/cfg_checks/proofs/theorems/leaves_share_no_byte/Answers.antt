use Rattle.cfg.specs.ApartLeaves.{no_shared_byte}
use Rattle.cfg_checks.proofs.theorems.leaves_share_no_byte.Goals as goal

pub returns : goal.returns
returns c = λ m room ls h i k before within byte own other. no_shared_byte m room ls h i k before within byte own other
