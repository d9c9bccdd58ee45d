-- Joins grow with what is joined.
use Rattle.std.specs.Prelude.{◌≡◌, true}
use Rattle.cc_base.specs.Lattices.{LatticeOf}

abbrev pub JoinsRise : {L : Type 0} → LatticeOf L → Type 0
JoinsRise {L} l = (x y u v : L) → l.leq x u ≡ true → l.leq y v ≡ true → l.leq (l.join x y) (l.join u v) ≡ true
