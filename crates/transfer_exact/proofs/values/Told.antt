-- Replies of the machine that are told.
use Rattle.std.proofs.Common.{◌≡◌, ℕ, suc, ◌<◌, Option, Some, None, List, subst, sym, refl}
use Rattle.std.specs.Prelude.{ℤ}
use Rattle.cc_base.specs.Lattices.{LatticeOf}
use Rattle.cc_base.specs.IntegerDomains.{IntegersOf, BoundLaws}
use Rattle.cfg.specs.declared.programs.Flow.{Flow}
use Rattle.value_domain.specs.declared.values.values.Value.{Value}
use Rattle.value_domain.specs.declared.values.row_cells.Cell.{Cell}
use Rattle.transfer_checks.specs.declared.violation_sets.Violations.{Violations}
use Rattle.transfer_checks.specs.ViolationSets.{no_violations}
use Rattle.transfer_checks.specs.Temporaries.{put_temp}
use Rattle.memory_model.specs.Memory.Labels.{Labels}
use Rattle.memory_model.specs.Memory.Bytes.{MachinePointer}
use Rattle.memory_model.specs.Memory.Scalars.{Scalar, integer, pointer}
use Rattle.memory_model.specs.Effects.NumberedTables.{put_at}
use Rattle.memory_model.specs.Effects.Worlds.{World, Why, Reply, goes, stops}
use Rattle.memory_model.specs.Effects.Operands.{with_number, with_pointer}
use Rattle.semantics.specs.CfgMachine.FlowStates.{ProgramState, if_some}
use Rattle.semantics.specs.CfgMachine.FlowActs.{giving}
use Rattle.store_sound.specs.Concretization.ValueMeaning.{Naming}
use Rattle.store_sound.specs.Concretization.Coverage.{state_of}
use Rattle.store_sound.specs.Programs.Premises.{HasPremises}
use Rattle.transfer_sound.specs.Values.SoundSteps.{IsReached}
use Rattle.transfer_exact.specs.Values.SingleRows.{ExactState}
use Rattle.transfer_exact.specs.Values.SingleSteps.{IsDefined, ExactAfter, IsExact}
use Rattle.transfer_exact.proofs.values.Violated.{AreViolated, none_violated}
use Rattle.transfer_exact.proofs.values.PutExact.{IsExactResult, put_tells}

module _ {I : Type 0} (l : LatticeOf I) (n : IntegersOf I) (flow : Flow) (after : Option (List (Cell I))) (admitted : Violations) where
  abbrev Told : Reply ProgramState → Type 0
  Told reply = IsExact l n flow after admitted reply

  -- where the run stops there is no row
  pub stop_told : (why : Why) (w : World) → after ≡ None → AreViolated admitted w.violated → Told (stops why w)
  stop_told why w e h = record { goes_on = λ s u f. cc; ends = λ y u f. e; violated = h }

  -- the run goes on, and the row behind tells its state
  pub goes_told : (s : ProgramState) (w : World) → AreViolated admitted w.violated → ExactAfter l n flow after (record s { world = w }) → Told (goes s w)
  goes_told s w h here = record {
    goes_on = λ t u e.
        let a : s ≡ t = cc in
        let b : w ≡ u = cc in
        subst (λ z. ExactAfter l n flow after (record z { world = u })) a (subst (λ z. ExactAfter l n flow after (record s { world = z })) b here);
    ends = λ why u e. cc;
    violated = h;
  }

  pub if_some_told : {A : Type 0} (s : ProgramState) (o : Option A) (use_it : A → Reply ProgramState) → IsDefined (if_some s o use_it) → ((x : A) → o ≡ Some x → IsDefined (use_it x) → Told (use_it x)) → Told (if_some s o use_it)
  if_some_told s None use_it d h = absurd (d s.world refl)
  if_some_told s (Some x) use_it d h = h x refl d

  -- ---- operands

  pub number_told : (s : ProgramState) (to : ℕ) (v : Scalar) (w : World) (use_it : ℤ → Labels → World → Reply Scalar) → IsDefined (giving s to (with_number v w use_it)) → ((z : ℤ) (labels : Labels) → v ≡ integer z labels → IsDefined (giving s to (use_it z labels w)) → Told (giving s to (use_it z labels w))) → Told (giving s to (with_number v w use_it))
  number_told s to (integer z labels) w use_it d h = h z labels refl d
  number_told s to (pointer p) w use_it d h = absurd (d w refl)

  pub pointer_told : (s : ProgramState) (to : ℕ) (v : Scalar) (w : World) (use_it : MachinePointer → World → Reply Scalar) → IsDefined (giving s to (with_pointer v w use_it)) → ((p : MachinePointer) → v ≡ pointer p → IsDefined (giving s to (use_it p w)) → Told (giving s to (use_it p w))) → Told (giving s to (with_pointer v w use_it))
  pointer_told s to (integer z labels) w use_it d h = absurd (d w refl)
  pointer_told s to (pointer p) w use_it d h = h p refl d

module _ {I : Type 0} {l : LatticeOf I} {n : IntegersOf I} {gamma : I → ℤ → Type 0} (q : BoundLaws l n gamma) (flow : Flow) (p : HasPremises flow) (naming : Naming) (row : List (Cell I)) (s : ProgramState) (r : IsReached l n gamma flow naming row s) (t : ExactState l n flow row (state_of s)) where
  -- the standing behind an instruction that gives something
  abbrev standing_behind : ℕ → Scalar → World → ProgramState
  standing_behind to v w = record s { at = suc s.at; temps = put_at s.temps to v; world = w }

  module _ (to : ℕ) (few : to < flow.temps) (x : Value I) (v : Scalar) (w : World) (result : IsExactResult q flow p s.bases s.world.memory x v) (same : w.memory ≡ s.world.memory) where
    given_tells : ExactState l n flow (put_temp flow row to x) (record { memory = w.memory; temps = put_at s.temps to v; entered = s.bases })
    given_tells = subst (λ m. ExactState l n flow (put_temp flow row to x) (record { memory = m; temps = put_at s.temps to v; entered = s.bases })) (sym same)
        (put_tells q flow p naming row r.long (state_of s) r.stands_for.sane t to few x v result)

    given_behind : (after : Option (List (Cell I))) → after ≡ Some (put_temp flow row to x) → ExactAfter l n flow after (standing_behind to v w)
    given_behind after is = record { row = put_temp flow row to x; is = is; tells = given_tells }

    -- the run goes on behind the instruction, with its result in a temporary
    pub result_told : (after : Option (List (Cell I))) (admitted : Violations) → after ≡ Some (put_temp flow row to x) → AreViolated admitted w.violated → IsExact l n flow after admitted (giving s to (goes v w))
    result_told after admitted is h = goes_told l n flow after admitted (standing_behind to v w) w h (given_behind after is)

-- ---- steps that violate nothing

module _ {I : Type 0} (l : LatticeOf I) (n : IntegersOf I) (flow : Flow) (after : Option (List (Cell I))) where
  pub clean_goes_told : (s : ProgramState) (w : World) → ExactAfter l n flow after (record s { world = w }) → IsExact l n flow after no_violations (goes s w)
  clean_goes_told s w here = goes_told l n flow after no_violations s w (none_violated w.violated) here
