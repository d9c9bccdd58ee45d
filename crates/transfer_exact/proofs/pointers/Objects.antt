-- Instances of named objects, and pointers into them.
use Rattle.std.proofs.Common.{◌≡◌, ℕ, ◌<◌, true, false, Some, List, length, arith, sym, ap, ◌∙◌}
use Rattle.std.specs.Prelude.{ℤ, slice_get}
use Rattle.std.proofs.lemmas.Option.{slice_get_within}
use Rattle.cc_base.specs.Lattices.{LatticeOf}
use Rattle.cc_base.specs.IntegerDomains.{IntegersOf}
use Rattle.c_layout.specs.declared.shapes.BaseInfo.{BaseInfo}
use Rattle.cfg.specs.WellFormed.{is_declared}
use Rattle.cfg.specs.declared.programs.Flow.{Flow}
use Rattle.store_objects.specs.LiveBases.{most_bases}
use Rattle.value_domain.specs.declared.values.row_cells.Cell.{Cell}
use Rattle.memory_model.specs.Memory.Instances.{live, bytes_at, bytes_of, life_at}
use Rattle.semantics.specs.CfgMachine.FlowStates.{ProgramState}
use Rattle.store_sound.specs.Concretization.ValueMeaning.{Naming}
use Rattle.store_sound.proofs.operations.LoadSound.{instance_there}
use Rattle.store_sound.specs.Programs.Premises.{HasPremises}
use Rattle.transfer_sound.specs.Values.SoundSteps.{IsReached}
use Rattle.transfer_sound.proofs.values.PartSteps.{declared_storage}

module _ {I : Type 0} {l : LatticeOf I} {n : IntegersOf I} {gamma : I → ℤ → Type 0} (flow : Flow) (p : HasPremises flow) (naming : Naming) (row : List (Cell I)) (s : ProgramState) (r : IsReached l n gamma flow naming row s) where
  -- the instance that a base names
  pub record IsObject (b i : ℕ) (info : BaseInfo) : Type 0 where
    pub alive : life_at s.world.memory i ≡ live
    pub size : length (bytes_at s.world.memory i) ≡ info.size
    pub made : i < length s.world.memory

  pub object_is : (b i : ℕ) (info : BaseInfo) → s.bases b ≡ Some i → slice_get flow.bases.items b ≡ Some info → is_declared (Some info.kind) ≡ true → IsObject b i info
  object_is b i info e at kind =
      let named = r.stands_for.lives.named b i e in
      let alive = r.stands_for.lives.alive b i e in
      let it = instance_there s.world.memory i alive in
      let k = r.stands_for.sane.instances i b info it.0 named at it.1 in
      let heap : info.shape.heap ≡ false = sym (p.shaped.each b info at).kind ∙ declared_storage info.kind kind in
      record { alive = alive; size = ap (λ z. length (bytes_of z)) it.1 ∙ k.size heap; made = r.stands_for.sane.made i b named }

  -- an instance that two bases name is one base's
  pub same_base : (b c i : ℕ) → s.bases b ≡ Some i → s.bases c ≡ Some i → b ≡ c
  same_base b c i e f = let h : Some b ≡ Some c = sym (r.stands_for.lives.named b i e) ∙ r.stands_for.lives.named c i f in cc

pub base_small : (flow : Flow) → HasPremises flow → (b : ℕ) (base : BaseInfo) → slice_get flow.bases.items b ≡ Some base → b < most_bases
base_small flow p b base e = let few = p.shaped.few in let top = slice_get_within flow.bases.items b base e in omega (arith, few, top)
