-- Operations have steps unless they make a pointer of a number other than 0.
use Rattle.std.proofs.Common.{◌≡◌, pos, Bool, true, false, not, cond, ◌&&◌, List, [], ◌∷◌, ◌++◌, refl, subst}
use Rattle.std.specs.Ordering.{int_eq}
use Rattle.c_layout.specs.CheckedUnits.{UnitView}
use Rattle.cfg.specs.declared.machine_instructions.Scalar.TheVariants as of
use Rattle.memory_model.specs.Memory.Bytes.{null}
use Rattle.memory_model.specs.Memory.Scalars.{Scalar, integer, pointer}
use Rattle.memory_model.specs.Effects.Worlds.{World, goes, stops, Stuck}
use Rattle.memory_model.specs.Effects.IntegerEffects.{pointer_from}
use Rattle.semantics.specs.SourceMachine.Operations as op
use Rattle.semantics.specs.SourceMachine.Operations.{Operation, perform}
use Rattle.source_items.specs.Operations.Kinds.{Kind, AreOf}
use Rattle.source_items.specs.Operations.TakenKinds.{Operates, makes_pointer}
use Rattle.source_items.specs.Operations.GoingReplies.{NotStuck}
use Rattle.source_items.specs.Operations.OperationLaws.{OperationsHaveSteps}
use Rattle.source_progress.specs.Progress.OpenSteps.{is_other_number}
use Rattle.source_progress.proofs.progress.Replies.{apart, steps_behind}

null_made : (is_zero : Bool) (w : World) → not is_zero ≡ false → NotStuck (cond is_zero (goes (pointer null) w) (stops Stuck w))
null_made true w shut = tt
null_made false w shut = absurd (apart shut)

made : (vs : List Scalar) (v : Scalar) (w : World) → is_other_number (v ∷ vs) ≡ false → NotStuck (pointer_from v w)
made vs (integer n l) w shut = null_made (int_eq n (pos 0)) w shut
made vs (pointer p) w shut = tt

module _ (u : UnitView) (w : World) where
  converted : (k : Kind) (ks : List Kind) (vs : List Scalar) → AreOf (k ∷ ks) vs → is_other_number vs ≡ false → NotStuck (perform u (op.Convert of.Pointer) vs w)
  converted k ks [] are shut = absurd are
  converted k ks (v ∷ vs) are shut = steps_behind (pointer_from v w) _ (made vs v w shut) (λ v w. tt)

  pub operation_steps : OperationsHaveSteps → (operation : Operation) (before after below : List Kind) (vs : List Scalar) → (makes_pointer operation && is_other_number vs) ≡ false → Operates operation before after → AreOf (before ++ below) vs → NotStuck (perform u operation vs w)
  operation_steps laws (op.Convert of.Pointer) before after below vs shut operates are = converted operates.0 (operates.2.0 ++ below) vs (subst (λ ks. AreOf (ks ++ below) vs) operates.2.1 are) shut
  operation_steps laws operation before after below vs shut operates are = laws u operation before after below vs w refl operates are
