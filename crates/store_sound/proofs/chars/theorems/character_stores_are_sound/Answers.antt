use Rattle.std.proofs.Common.{subst, sym, refl, ◌≤◌}
use Rattle.store_sound.specs.Operations.Statements.{state_in}
use Rattle.store_sound.proofs.operations.NearParts.{near_parts}
use Rattle.store_sound.proofs.chars.CharStoreSound.{any_char_store}
use Rattle.store_sound.proofs.chars.theorems.character_stores_are_sound.Goals as goal

pub returns : goal.returns
returns g c = λ sound flow size k padding naming row w u temps entered e s p at kind x v t char st inside stv near h.
    any_char_store g.met.I.Lattice.order g.met.I.IntDomain.bounding sound g.met.I.IntDomain.ranges flow k.shaped k.texts padding k.behind k.laid k.temporaries naming row (subst (λ z. k.behind ≤ z) (sym e) k.long) (state_in w temps entered) s kind p at x v t w u refl char st inside stv (near_parts near) h
