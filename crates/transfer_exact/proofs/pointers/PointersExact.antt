-- Pointers that are given, and runs that stop at rules on pointers, are told.
use Rattle.std.proofs.Common.{◌≡◌, ℕ, ◌<◌, true, false, Option, None, List, [], ◌∷◌, ◌++◌, refl, ◌∙◌}
use Rattle.std.specs.Prelude.{ℤ}
use Rattle.std.specs.List.{Contains}
use Rattle.cc_base.specs.Lattices.{LatticeOf}
use Rattle.cc_base.specs.IntegerDomains.{IntegersOf, BoundLaws}
use Rattle.cc_base.specs.declared.diagnostics.Rule.{Rule}
use Rattle.cfg.specs.declared.programs.Flow.{Flow}
use Rattle.pointer_domain.specs.BaseSets.{bases_empty}
use Rattle.pointer_domain.specs.declared.pointer_sets.Pointers.{Pointers}
use Rattle.value_domain.specs.declared.values.row_cells.Cell.{Cell}
use Rattle.value_domain.specs.Values.ValueTables.{pointer_value}
use Rattle.transfer_checks.specs.declared.violation_sets.Violations.{Violations}
use Rattle.transfer_instructions.specs.Values.ResultTemps.{put_pointer}
use Rattle.memory_model.specs.Memory.Bytes.{MachinePointer}
use Rattle.memory_model.specs.Memory.Scalars.{pointer}
use Rattle.memory_model.specs.Effects.Worlds.{World, Violated, goes, violating, stopped_by}
use Rattle.semantics.specs.CfgMachine.FlowStates.{ProgramState}
use Rattle.semantics.specs.CfgMachine.FlowActs.{giving}
use Rattle.store_sound.specs.Concretization.ValueMeaning.{Naming}
use Rattle.store_sound.specs.Concretization.SoundMemory.{IsPointerIn}
use Rattle.store_sound.specs.Concretization.Coverage.{state_of}
use Rattle.store_sound.specs.Programs.Premises.{HasPremises}
use Rattle.transfer_sound.specs.Values.SoundSteps.{IsReached}
use Rattle.transfer_exact.specs.Values.SingleValues.{ExactPointer}
use Rattle.transfer_exact.specs.Values.SingleRows.{ExactState}
use Rattle.transfer_exact.specs.Values.SingleSteps.{IsExact}
use Rattle.transfer_exact.proofs.values.Violated.{AreViolated, one_there, behind_there}
use Rattle.transfer_exact.proofs.values.Told.{stop_told, result_told}
use Rattle.transfer_exact.proofs.values.ValueSteps.{tells_pointer, pointer_put}

module _ {I : Type 0} (l : LatticeOf I) (n : IntegersOf I) (flow : Flow) (s : ProgramState) (to : ℕ) where
  -- the run stops at a rule, behind others that it has noted
  pub rule_told : (after : Option (List (Cell I))) (admitted : Violations) (w : World) (rule : Rule) → after ≡ None → (Contains (w.violated ++ (rule ∷ [])) rule → AreViolated admitted (w.violated ++ (rule ∷ []))) → IsExact l n flow after admitted (giving s to (stopped_by w rule))
  rule_told after admitted w rule e h = stop_told l n flow after admitted Violated (violating w (rule ∷ [])) e (h (behind_there w.violated (rule ∷ []) rule (one_there rule)))

  pub nothing_there : (row : List (Cell I)) (x : Pointers I) → bases_empty x.bases ≡ true → x.null ≡ false → x.ended ≡ false → put_pointer l flow row to x ≡ None
  unfolding put_pointer
  nothing_there row x e f g = rw (e, f, g) refl

module _ {I : Type 0} {l : LatticeOf I} {n : IntegersOf I} {gamma : I → ℤ → Type 0} (q : BoundLaws l n gamma) (flow : Flow) (p : HasPremises flow) (naming : Naming) (row : List (Cell I)) (s : ProgramState) (r : IsReached l n gamma flow naming row s) (t : ExactState l n flow row (state_of s)) (to : ℕ) (few : to < flow.temps) where
  -- a pointer in a temporary, in a world with the memory of the step's
  pub pointer_given : (x : Pointers I) (at : MachinePointer) (w : World) (v : Violations) (after : Option (List (Cell I))) → ExactPointer n s.bases s.world.memory x at → IsPointerIn s.world.memory at → w.memory ≡ s.world.memory → after ≡ put_pointer l flow row to x → AreViolated v w.violated → IsExact l n flow after v (giving s to (goes (pointer at) w))
  pointer_given x at w v after h within same is told =
      result_told q flow p naming row s r t to few (pointer_value l x) (pointer at) w (record { tells = tells_pointer q s.bases s.world.memory x at h; near = tt; within = within }) same after v (is ∙ pointer_put l n flow row to s.bases s.world.memory x at h) told
