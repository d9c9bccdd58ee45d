-- A value that near bounds leave as it is.
use Rattle.std.proofs.Common.{◌≡◌, ap}
use Rattle.cc_base.specs.Lattices.{LatticeOf}
use Rattle.cc_base.specs.IntegerDomains.{IntegersOf}
use Rattle.value_domain.specs.declared.values.values.Value.{Value}
use Rattle.store_cells.specs.NearValues.{near_value}
use Rattle.store_sound.proofs.operations.Near.{IsNearValue}

pub near_parts : {I : Type 0} {l : LatticeOf I} {n : IntegersOf I} {v : Value I} → near_value l n v ≡ v → IsNearValue l n v
near_parts e = record { num = ap (λ x. x.num) e; lo = ap (λ x. x.pointer.lo) e; rel = ap (λ x. x.pointer.rel) e; len = ap (λ x. x.pointer.len) e }
