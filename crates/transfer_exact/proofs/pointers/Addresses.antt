-- Pointers to named objects are told.
use Rattle.std.proofs.Common.{◌≡◌, ℕ, ◌<◌, ◌≤◌, true, ◌&&◌, Option, Some, List, arith, subst, sym, refl, ap}
use Rattle.std.specs.Prelude.{ℤ, pos, ◌-ℤ◌, slice_get}
use Rattle.std.proofs.lemmas.Int.{ints}
use Rattle.std.proofs.lemmas.Bool.{and_parts, ltb-true}
use Rattle.cc_base.specs.Lattices.{LatticeOf}
use Rattle.cc_base.specs.IntegerDomains.{IntegersOf, BoundLaws}
use Rattle.c_layout.specs.declared.shapes.BaseInfo.{BaseInfo}
use Rattle.cfg.specs.WellFormed.{names_of, kind_at, is_declared, reaches, has_temp, fits_operation}
use Rattle.cfg.specs.declared.machine_instructions.Operation.TheVariants as op
use Rattle.cfg.specs.declared.programs.Flow.{Flow}
use Rattle.value_domain.specs.declared.values.row_cells.Cell.{Cell}
use Rattle.transfer_checks.specs.ViolationSets.{no_violations}
use Rattle.transfer_instructions.specs.Values.PointerSteps.{address_of, address_in, address_step}
use Rattle.transfer_instructions.specs.Values.ResultTemps.{put_pointer}
use Rattle.transfer_instructions.specs.Instructions.Steps.{operate}
use Rattle.transfer_instructions.specs.Instructions.StepViolations.{operation_violations}
use Rattle.memory_model.specs.Memory.Bytes.{into}
use Rattle.memory_model.specs.Memory.Instances.{Life, live, ended, freed, life_at}
use Rattle.memory_model.specs.Memory.Scalars.{pointer}
use Rattle.memory_model.specs.Effects.Worlds.{goes}
use Rattle.lower_templates.specs.Worklist.Acts.{act}
use Rattle.lower_templates.specs.Views.ProgramViews.{flow_view}
use Rattle.semantics.specs.CfgMachine.FlowStates.{ProgramState, size_in}
use Rattle.semantics.specs.CfgMachine.FlowActs.{giving}
use Rattle.semantics.specs.CfgMachine.FlowSteps.{act_step}
use Rattle.store_sound.specs.Concretization.ValueMeaning.{Naming}
use Rattle.store_sound.specs.Concretization.SoundMemory.{IsWithin}
use Rattle.store_sound.specs.Concretization.Coverage.{state_of}
use Rattle.store_sound.specs.Programs.Premises.{HasPremises}
use Rattle.transfer_sound.specs.Values.SoundSteps.{IsReached}
use Rattle.transfer_sound.proofs.values.PartSteps.{kind_is, reached_by}
use Rattle.transfer_exact.specs.Values.SingleNumbers.{IsOne}
use Rattle.transfer_exact.specs.Values.SingleValues.{IsIntoOne, ExactByLife}
use Rattle.transfer_exact.specs.Values.SingleRows.{ExactState}
use Rattle.transfer_exact.specs.Values.SingleSteps.{IsDefined, IsExact, StepIsExact}
use Rattle.transfer_exact.proofs.values.Told.{if_some_told}
use Rattle.transfer_exact.proofs.values.Violated.{none_violated}
use Rattle.transfer_exact.proofs.pointers.Objects.{IsObject, object_is, base_small}
use Rattle.transfer_exact.proofs.pointers.PointersExact.{pointer_given}

pub live_tells : {I : Type 0} {n : IntegersOf I} (entered : ℕ → Option ℕ) (x : _) (life : Life) (i offset lo hi : ℕ) → life ≡ live → IsIntoOne {I = I} n entered x i offset lo hi → ExactByLife n entered x life i offset lo hi
live_tells entered x live i offset lo hi e h = h
live_tells entered x ended i offset lo hi e h = cc
live_tells entered x freed i offset lo hi e h = cc

module _ {I : Type 0} {l : LatticeOf I} {n : IntegersOf I} {gamma : I → ℤ → Type 0} (q : BoundLaws l n gamma) where
  pub one_is : (a z : ℤ) → a ≡ z → IsOne n (n.one a) z
  one_is a z e = subst (IsOne n (n.one a)) e (q.one_bounds a)

  module _ (flow : Flow) (p : HasPremises flow) (naming : Naming) (row : List (Cell I)) (s : ProgramState) (r : IsReached l n gamma flow naming row s) (t : ExactState l n flow row (state_of s)) where
    address_into : (b i offset : ℕ) (info : BaseInfo) → slice_get flow.bases.items b ≡ Some info → s.bases b ≡ Some i → IsIntoOne n s.bases (address_of n b offset info.size) i offset 0 info.size
    address_into b i offset info e k = record {
      base = b;
      few = base_small flow p b info e;
      names = k;
      bases = refl;
      lower = q.one_bounds (pos 0);
      relative = one_is (pos offset) (pos offset -ℤ pos 0) (omega (arith, ints));
      room = one_is (pos info.size) (pos info.size -ℤ pos 0) (omega (arith, ints));
      null = refl;
      ended = refl;
    }

    address_good : (to b i offset : ℕ) (info : BaseInfo) → to < flow.temps → slice_get flow.bases.items b ≡ Some info → s.bases b ≡ Some i → IsObject flow p naming row s r b i info → offset ≤ info.size → (size : ℕ) → size ≡ info.size → (after : Option (List (Cell I))) → after ≡ put_pointer l flow row to (address_of n b offset info.size)
        → IsExact l n flow after no_violations (giving s to (goes (pointer (into i offset 0 size)) s.world))
    address_good to b i offset info few e names k inside size same after is =
        let st = address_into b i offset info e names in
        let total = k.size in
        let within : IsWithin s.world.memory i offset 0 size = record { made = k.made; above = omega arith; below = omega (arith, inside, same); within = omega (arith, same, total) } in
        pointer_given q flow p naming row s r t to few (address_of n b offset info.size) (into i offset 0 size) s.world no_violations after
        (live_tells s.bases (address_of n b offset info.size) (life_at s.world.memory i) i offset 0 size k.alive (subst (λ z. IsIntoOne n s.bases (address_of n b offset info.size) i offset 0 z) (sym same) st))
        within refl is (none_violated s.world.violated)

    pub address_told : (to b offset : ℕ) → fits_operation (names_of flow) (op.Address to b offset) ≡ true → IsDefined (act_step (flow_view flow) (act (op.Address to b offset)) s) → StepIsExact l n flow row (op.Address to b offset) s
    unfolding operate address_step operation_violations
    address_told to b offset fits d =
        let a = and_parts (has_temp (names_of flow) to) (is_declared (kind_at flow.bases.items b) && reaches offset (slice_get flow.bases.items b)) fits in
        let c = and_parts (is_declared (kind_at flow.bases.items b)) (reaches offset (slice_get flow.bases.items b)) a.1 in
        let o = reached_by offset (slice_get flow.bases.items b) c.1 in
        let kind : is_declared (Some o.info.kind) ≡ true = subst (λ z. is_declared z ≡ true) (kind_is flow.bases.items b o.info o.is) c.0 in
        if_some_told l n flow _ no_violations s (s.bases b) _ d (λ i e d.
        address_good to b i offset o.info (ltb-true to flow.temps a.0) o.is e (object_is flow p naming row s r b i o.info e o.is kind) o.inside (size_in (slice_get flow.bases.items b)) (ap size_in o.is) _ (ap (address_in l n flow row to b offset) o.is))
