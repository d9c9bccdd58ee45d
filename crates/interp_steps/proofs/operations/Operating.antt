-- Operations on the values that are pending.
use Rattle.std.proofs.Common.{◌≡◌, ℕ, List, [], ◌∷◌, Result, refl, sym, ap, subst, ◌∙◌}
use Rattle.c_layout.specs.CheckedUnits.{UnitView}
use Rattle.cfg.specs.declared.machine_instructions.Scalar as declared
use Rattle.memory_model.specs.Memory.Scalars.{Scalar}
use Rattle.memory_model.specs.Effects.Accesses.{load}
use Rattle.memory_model.specs.Effects.Worlds.{World, Reply, behind}
use Rattle.interp_memory.specs.declared.byte_forms.Value7.{Value7}
use Rattle.interp_accesses.specs.WorldViews.{HaltsAs}
use Rattle.interp_accesses.specs.declared.worlds.Cause.TheVariants as cause
use Rattle.interp_accesses.specs.declared.worlds.Halt.{Halt}
use Rattle.interp_accesses.specs.declared.worlds.Halt.TheVariants as halt
use Rattle.semantics.specs.SourceMachine.Operations as op
use Rattle.semantics.specs.SourceMachine.Operations.{Order, on_one, on_two, pushing, load_under}
use Rattle.interp_steps.specs.Operations.Operands.{two_above}
use Rattle.interp_steps.specs.Operations.Pending.{pending, Operates}

-- a run that is stuck for want of values
pub stuck_at : (reply : List Scalar → Reply (List Scalar)) (vs : List Scalar) (h : Halt) (w : World) → (h ≡ halt.Stops cause.Stuck) × (vs ≡ []) → HaltsAs (reply []) (halt.Stops cause.Stuck) w → HaltsAs (reply vs) h w
stuck_at reply vs h w p e = subst (λ xs. HaltsAs (reply xs) h w) (sym p.1) (subst (λ k. HaltsAs (reply []) k w) (sym p.0) e)

pub one_stuck : (vs : List Scalar) (w : World) (effect : Scalar → World → Reply Scalar) (h : Halt) → (h ≡ halt.Stops cause.Stuck) × (vs ≡ []) → HaltsAs (on_one vs w effect) h w
one_stuck vs w effect h p = stuck_at (λ xs. on_one xs w effect) vs h w p refl

pub one_given : (vs rest : List Scalar) (a : Scalar) (w v : World) (effect : Scalar → World → Reply Scalar) (r : Result (Unit {0}) Halt) (values : List Value7) → vs ≡ a ∷ rest → Operates (pushing rest (effect a w)) r values v → Operates (on_one vs w effect) r values v
one_given vs rest a w v effect r values e p = subst (λ xs. Operates (on_one xs w effect) r values v) (sym e) p

two_there : (o : Order) (rest : List Scalar) (a b : Scalar) (w v : World) (effect : Scalar → Scalar → World → Reply Scalar) (r : Result (Unit {0}) Halt) (values : List Value7) → Operates (pushing rest (effect a b w)) r values v → Operates (on_two o (two_above o a b rest) w effect) r values v
two_there op.LeftFirst rest a b w v effect r values p = p
two_there op.RightFirst rest a b w v effect r values p = p

pub two_given : (o : Order) (vs rest : List Scalar) (a b : Scalar) (w v : World) (effect : Scalar → Scalar → World → Reply Scalar) (r : Result (Unit {0}) Halt) (values : List Value7) → vs ≡ two_above o a b rest → Operates (pushing rest (effect a b w)) r values v → Operates (on_two o vs w effect) r values v
two_given o vs rest a b w v effect r values e p = subst (λ xs. Operates (on_two o xs w effect) r values v) (sym e) (two_there o rest a b w v effect r values p)

-- ---- what is pushed

pub halted : {A B : Type 0} (r : Reply A) (next : A → World → Reply B) (h : Halt) (w : World) → HaltsAs r h w → HaltsAs (behind r next) h w
halted r next (halt.Stops why) w e = ap (λ z. behind z next) e
halted r next halt.Memory w e = tt

-- ---- loads and stores that leave a pointer or a value

pub loaded_under : (u : UnitView) (kind : declared.Scalar) (vs v1 v2 v3 v4 : List Scalar) (b a : Scalar) (w v : World) (r : Result (Unit {0}) Halt) (values : List Value7) → vs ≡ b ∷ v1 → v1 ≡ a ∷ v2 → v3 ≡ a ∷ v2 → v4 ≡ b ∷ v3 → Operates (pushing v4 (load u.model kind a w)) r values v → Operates (load_under u kind vs w) r values v
loaded_under u kind vs v1 v2 v3 v4 b a w v r values e f g h p =
    subst (λ xs. Operates (load_under u kind xs w) r values v) (sym (e ∙ ap (λ xs. b ∷ xs) f))
    (subst (λ xs. Operates (pushing xs (load u.model kind a w)) r values v) (h ∙ ap (λ xs. b ∷ xs) g) p)
