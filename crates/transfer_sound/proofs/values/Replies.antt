-- Replies of the machine that are stood for.
use Rattle.std.proofs.Common.{◌≡◌, ℕ, suc, ◌<◌, Bool, true, false, cond, Option, Some, None, List, [], subst, sym, refl}
use Rattle.std.specs.Prelude.{ℤ}
use Rattle.cc_base.specs.Lattices.{LatticeOf}
use Rattle.cc_base.specs.IntegerDomains.{IntegersOf, BoundLaws}
use Rattle.cfg.specs.declared.programs.Flow.{Flow}
use Rattle.value_domain.specs.declared.values.values.Value.{Value}
use Rattle.value_domain.specs.declared.values.row_cells.Cell.{Cell}
use Rattle.transfer_checks.specs.declared.violation_sets.Violations.{Violations}
use Rattle.transfer_checks.specs.Temporaries.{put_temp}
use Rattle.memory_model.specs.Memory.Labels.{Labels}
use Rattle.memory_model.specs.Memory.Bytes.{MachinePointer}
use Rattle.memory_model.specs.Memory.Scalars.{Scalar, integer, pointer}
use Rattle.memory_model.specs.Effects.NumberedTables.{put_at}
use Rattle.memory_model.specs.Effects.Worlds.{World, Why, Reply, goes, stops}
use Rattle.memory_model.specs.Effects.Operands.{with_number, with_pointer}
use Rattle.semantics.specs.CfgMachine.FlowStates.{ProgramState, if_some}
use Rattle.semantics.specs.CfgMachine.FlowActs.{giving}
use Rattle.store_sound.specs.Concretization.ValueMeaning.{Naming}
use Rattle.store_sound.specs.Concretization.RowMeaning.{InGamma}
use Rattle.store_sound.specs.Concretization.Coverage.{state_of}
use Rattle.store_sound.specs.Programs.Premises.{HasPremises}
use Rattle.transfer_sound.specs.Values.SoundSteps.{AreShort, IsReached, InGammaAfter, IsStoodFor}
use Rattle.transfer_sound.proofs.values.Admitted.{AreAdmitted, none_admitted, same_admitted}
use Rattle.transfer_sound.proofs.values.PutTemps.{IsResult, put_stands, put_long}

module _ {I : Type 0} (l : LatticeOf I) (n : IntegersOf I) (gamma : I → ℤ → Type 0) (flow : Flow) (after : Option (List (Cell I))) (admitted : Violations) where
  abbrev Good : Reply ProgramState → Type 0
  Good reply = IsStoodFor l n gamma flow after admitted reply

  -- where the run stops there is nothing to stand for
  pub stop_good : (why : Why) (w : World) → AreAdmitted admitted w.violated → Good (stops why w)
  stop_good why w h = record { goes_on = λ s u e. cc; admits = h }

  pub clean_stop_good : (why : Why) (w : World) → w.violated ≡ [] → Good (stops why w)
  clean_stop_good why w h = stop_good why w (same_admitted admitted w.violated [] h (none_admitted admitted))

  -- the run goes on, and the row behind stands for its state
  pub goes_good : (s : ProgramState) (w : World) → AreAdmitted admitted w.violated → InGammaAfter l n gamma flow after (record s { world = w }) → Good (goes s w)
  goes_good s w h here = record {
    goes_on = λ t u e.
        let a : s ≡ t = cc in
        let b : w ≡ u = cc in
        subst (λ z. InGammaAfter l n gamma flow after (record z { world = u })) a (subst (λ z. InGammaAfter l n gamma flow after (record s { world = z })) b here);
    admits = h;
  }

  pub clean_goes_good : (s : ProgramState) (w : World) → w.violated ≡ [] → InGammaAfter l n gamma flow after (record s { world = w }) → Good (goes s w)
  clean_goes_good s w h here = goes_good s w (same_admitted admitted w.violated [] h (none_admitted admitted)) here

  pub if_some_good : {A : Type 0} (s : ProgramState) → s.world.violated ≡ [] → (o : Option A) (use_it : A → Reply ProgramState) → ((x : A) → o ≡ Some x → Good (use_it x)) → Good (if_some s o use_it)
  if_some_good s clean None use_it h = clean_stop_good _ s.world clean
  if_some_good s clean (Some x) use_it h = h x refl

  -- ---- operands

  pub number_good : (s : ProgramState) (to : ℕ) (v : Scalar) (w : World) (use_it : ℤ → Labels → World → Reply Scalar) → w.violated ≡ [] → ((z : ℤ) (labels : Labels) → v ≡ integer z labels → Good (giving s to (use_it z labels w))) → Good (giving s to (with_number v w use_it))
  number_good s to (integer z labels) w use_it clean h = h z labels refl
  number_good s to (pointer p) w use_it clean h = clean_stop_good _ w clean

  pub pointer_good : (s : ProgramState) (to : ℕ) (v : Scalar) (w : World) (use_it : MachinePointer → World → Reply Scalar) → w.violated ≡ [] → ((p : MachinePointer) → v ≡ pointer p → Good (giving s to (use_it p w))) → Good (giving s to (with_pointer v w use_it))
  pointer_good s to (integer z labels) w use_it clean h = clean_stop_good _ w clean
  pointer_good s to (pointer p) w use_it clean h = h p refl

  pub cond_good : (s : ProgramState) (to : ℕ) (b : Bool) (x y : Reply Scalar) → (b ≡ true → Good (giving s to x)) → (b ≡ false → Good (giving s to y)) → Good (giving s to (cond b x y))
  cond_good s to true x y h k = h refl
  cond_good s to false x y h k = k refl

module _ {I : Type 0} {l : LatticeOf I} {n : IntegersOf I} {gamma : I → ℤ → Type 0} (q : BoundLaws l n gamma) (flow : Flow) (p : HasPremises flow) (naming : Naming) (row : List (Cell I)) (s : ProgramState) (r : IsReached l n gamma flow naming row s) where
  -- the standing behind an instruction that gives something
  abbrev standing_behind : ℕ → Scalar → World → ProgramState
  standing_behind to v w = record s { at = suc s.at; temps = put_at s.temps to v; world = w }

  module _ (to : ℕ) (few : to < flow.temps) (x : Value I) (v : Scalar) (w : World) (result : IsResult q flow p naming s.world.memory x v) (same : w.memory ≡ s.world.memory) where
    given_stands : InGamma l n gamma flow naming (put_temp flow row to x) (record { memory = w.memory; temps = put_at s.temps to v; entered = s.bases })
    given_stands = subst (λ m. InGamma l n gamma flow naming (put_temp flow row to x) (record { memory = m; temps = put_at s.temps to v; entered = s.bases })) (sym same)
        (put_stands q flow p naming row r.long (state_of s) r.stands_for to few x v result)

    given_behind : (after : Option (List (Cell I))) → after ≡ Some (put_temp flow row to x) → InGammaAfter l n gamma flow after (standing_behind to v w)
    given_behind after is = record {
      row = put_temp flow row to x;
      is = is;
      long = put_long q flow p naming row r.long (state_of s) r.stands_for to few x v result;
      naming = naming;
      stands_for = given_stands;
      short = subst (AreShort flow.model) (sym same) r.short;
    }

    -- the run goes on behind the instruction, with its result in a temporary
    pub result_good : (after : Option (List (Cell I))) (admitted : Violations) → after ≡ Some (put_temp flow row to x) → AreAdmitted admitted w.violated → IsStoodFor l n gamma flow after admitted (giving s to (goes v w))
    result_good after admitted is h = goes_good l n gamma flow after admitted (standing_behind to v w) w h (given_behind after is)
