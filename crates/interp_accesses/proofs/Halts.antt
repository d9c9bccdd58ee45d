-- Steps that stop a run.
use Rattle.std.proofs.Common.{◌≡◌, sym, ap, ◌∙◌}
use Rattle.memory_model.specs.Effects.Worlds.{World, Why, Reply, stops}
use Rattle.interp_accesses.specs.WorldViews.{why_view, StopsAs, HaltsAs}
use Rattle.interp_accesses.specs.declared.worlds.Halt.{Halt}
use Rattle.interp_accesses.specs.declared.worlds.Halt.TheVariants as halt

-- a reply that stops is what a halt for its cause says
pub halts_by : {B : Type 0} (h : Halt) (reply : Reply B) (expected w : World) (cause : Why) → reply ≡ stops cause expected → StopsAs h cause expected w → HaltsAs reply h w
halts_by (halt.Stops why) reply expected w cause e s = e ∙ ap (λ y. stops y expected) (sym s.0) ∙ ap (λ v. stops (why_view why) v) s.1
halts_by halt.Memory reply expected w cause e s = tt
