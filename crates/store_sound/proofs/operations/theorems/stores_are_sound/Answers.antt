use Rattle.std.proofs.Common.{subst, sym, refl, ◌≤◌}
use Rattle.store_sound.specs.Operations.Statements.{state_in}
use Rattle.store_sound.proofs.operations.NearParts.{near_parts}
use Rattle.store_sound.proofs.operations.StoreSound.{store_stands}
use Rattle.store_sound.proofs.operations.theorems.stores_are_sound.Goals as goal

pub returns : goal.returns
returns g c = λ sound flow size k naming row w u temps entered e s p at kind x v t wide st inside stv inv near h.
    store_stands g.met.I.Lattice.order g.met.I.IntDomain.bounding sound g.met.I.IntDomain.ranges flow k.shaped k.texts k.behind k.laid k.temporaries naming row (subst (λ z. k.behind ≤ z) (sym e) k.long) (state_in w temps entered) s kind p at x v t w u refl wide st inside stv inv (near_parts near) h
