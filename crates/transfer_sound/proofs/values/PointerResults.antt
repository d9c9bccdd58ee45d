-- Pointers that a step gives, and what stands for them.
use Rattle.std.proofs.Common.{◌≡◌, ℕ, ◌<◌, true, Option, List, [], ◌∷◌, ◌∙◌}
use Rattle.std.specs.Prelude.{ℤ, pos}
use Rattle.cc_base.specs.Lattices.{LatticeOf}
use Rattle.cc_base.specs.IntegerDomains.{IntegersOf, BoundLaws}
use Rattle.cc_base.specs.declared.diagnostics.Rule.{Rule}
use Rattle.cfg.specs.declared.programs.Flow.{Flow}
use Rattle.pointer_domain.specs.declared.pointer_sets.Pointers.{Pointers}
use Rattle.value_domain.specs.declared.values.row_cells.Cell.{Cell}
use Rattle.value_domain.specs.Values.ValueTables.{pointer_value}
use Rattle.domain_theorems.specs.Values.Meaning.{IsInto}
use Rattle.transfer_checks.specs.declared.violation_sets.Violations.{Violations}
use Rattle.transfer_checks.specs.ViolationSets.{violates}
use Rattle.transfer_system.specs.ResultTemps.{put_pointer}
use Rattle.memory_model.specs.Memory.Bytes.{MachinePointer}
use Rattle.memory_model.specs.Memory.Instances.{Memory, Life, live, ended, freed}
use Rattle.memory_model.specs.Memory.Scalars.{pointer}
use Rattle.memory_model.specs.Effects.Worlds.{World, goes, violating, stopped_by}
use Rattle.semantics.specs.CfgMachine.FlowStates.{ProgramState}
use Rattle.semantics.specs.CfgMachine.FlowActs.{giving}
use Rattle.store_sound.specs.Concretization.ValueMeaning.{Naming, InGammaInto, InGammaByLife, InGammaPointer}
use Rattle.store_sound.specs.Concretization.SoundMemory.{IsPointerIn}
use Rattle.store_sound.specs.Programs.Premises.{HasPremises}
use Rattle.transfer_sound.specs.Values.SoundSteps.{IsReached, IsStoodFor}
use Rattle.transfer_sound.proofs.values.Admitted.{AreAdmitted, one_admitted, both_admitted}
use Rattle.transfer_sound.proofs.values.Replies.{stop_good, result_good}
use Rattle.transfer_sound.proofs.values.ResultRows.{pointer_row}

-- the life of what has not ended
pub data HasNotEnded (life : Life) : Type 0 where
  is_live : life ≡ live → HasNotEnded life
  is_freed : life ≡ freed → HasNotEnded life

module _ {I : Type 0} (gamma : I → ℤ → Type 0) (naming : Naming) (memory : Memory) where
  pub by_life : (v : Pointers I) (i offset lo hi : ℕ) (life : Life) → HasNotEnded life → InGammaInto gamma naming memory v i offset lo hi → InGammaByLife gamma naming memory v life i offset lo hi
  by_life v i offset lo hi live h s = s
  by_life v i offset lo hi freed h s = s
  by_life v i offset lo hi ended (is_live e) s = cc
  by_life v i offset lo hi ended (is_freed e) s = cc

  pub as_into : (v : Pointers I) (i offset lo hi : ℕ) (s : InGammaInto gamma naming memory v i offset lo hi) → IsInto gamma v s.base (pos lo) (pos offset) (pos hi)
  as_into v i offset lo hi s = record { among = s.among; lower = s.lower; relative = s.relative; room = s.room }

module _ {I : Type 0} {l : LatticeOf I} {n : IntegersOf I} {gamma : I → ℤ → Type 0} (q : BoundLaws l n gamma) (flow : Flow) (p : HasPremises flow) (naming : Naming) (row : List (Cell I)) (s : ProgramState) (r : IsReached l n gamma flow naming row s) (to : ℕ) (few : to < flow.temps) where
  -- a pointer in a temporary, in a world with the memory of the step's
  pub pointer_given : (x : Pointers I) (at : MachinePointer) (w : World) (v : Violations) (after : Option (List (Cell I))) → InGammaPointer gamma naming s.world.memory x at → IsPointerIn s.world.memory at → w.memory ≡ s.world.memory → after ≡ put_pointer l flow row to x → AreAdmitted v w.violated → IsStoodFor l n gamma flow after v (giving s to (goes (pointer at) w))
  pointer_given x at w v after h within same is told =
      result_good q flow p naming row s r to few (pointer_value l x) (pointer at) w (record { stands_for = h; near = tt; within = within }) same after v (is ∙ pointer_row q flow row to naming s.world.memory x at h) told

  -- the run stops at a rule that is admitted
  pub rule_stops : (after : Option (List (Cell I))) (v : Violations) (w : World) (rule : Rule) → AreAdmitted v w.violated → violates v rule ≡ true → IsStoodFor l n gamma flow after v (giving s to (stopped_by w rule))
  rule_stops after v w rule told h = stop_good l n gamma flow after v _ (violating w (rule ∷ [])) (both_admitted v w.violated (rule ∷ []) told (one_admitted v rule h))
