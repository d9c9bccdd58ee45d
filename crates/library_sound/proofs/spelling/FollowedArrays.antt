-- Arrays whose first zeros are followed are of characters.
use Rattle.std.proofs.Common.{◌≡◌, ℕ, false, Some, arith, sym, ◌∙◌}
use Rattle.std.specs.Prelude.{slice_get}
use Rattle.std.proofs.lemmas.Option.{same_Some}
use Rattle.c_layout.specs.declared.shapes.BaseInfo.{BaseInfo}
use Rattle.c_layout.specs.declared.shapes.ZeroPart.{ZeroPart}
use Rattle.cfg.specs.declared.programs.Flow.{Flow}
use Rattle.store_sound.specs.Programs.Premises.{HasPremises}
use Rattle.library_sound.specs.Spelling.SpellSteps.{AreCharacters}

pub followed_characters : (flow : Flow) → HasPremises flow → (b z : ℕ) (info : BaseInfo) (part : ZeroPart) (room : ℕ) → slice_get flow.bases.items b ≡ Some info → info.shape.heap ≡ false → slice_get info.shape.zeros z ≡ Some part → part.size ≡ Some room → AreCharacters flow info part.offset room
followed_characters flow p b z info part room at declared there size =
    let r = (p.laid.texts b info at).texts declared z part there in
    let same : r.0 ≡ room = same_Some r.0 room (sym r.1 ∙ size) in
    λ x from to. r.2 x from (omega (arith, to, same))
