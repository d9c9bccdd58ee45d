-- A pointer into a freed instance has a base that may be freed.
use Rattle.std.proofs.Common.{◌≡◌, ℕ, Bool, true, false, ◌||◌, Option, Some, None, List, length, arith, subst, sym, refl, ap, ◌∙◌}
use Rattle.std.specs.Prelude.{slice_get, ℤ}
use Rattle.std.proofs.lemmas.Bool.{and_from, or_left, or_right, lt-ltb}
use Rattle.std.proofs.lemmas.Option.{slice_get_within}
use Rattle.cc_base.specs.Lattices.{LatticeOf}
use Rattle.cc_base.specs.IntegerDomains.{IntegersOf}
use Rattle.c_layout.specs.declared.shapes.BaseInfo.{BaseInfo}
use Rattle.cfg.specs.declared.programs.Flow.{Flow}
use Rattle.pointer_domain.specs.declared.pointer_sets.Pointers.{Pointers}
use Rattle.value_domain.specs.declared.values.values.Value.{Value}
use Rattle.value_domain.specs.declared.values.row_cells.Cell.{Cell}
use Rattle.store_cells.specs.RowPositions.{state_at, state_position}
use Rattle.store_objects.specs.LiveBases.{may_be_freed, is_freed_or, any_freed}
use Rattle.memory_model.specs.Memory.Bytes.{null, into}
use Rattle.memory_model.specs.Memory.Instances.{Life, live, ended, freed, Instance, allocated, bytes_at, life_at, life_of}
use Rattle.memory_model.specs.Memory.Scalars.{Scalar, integer, pointer}
use Rattle.memory_model.specs.Effects.Touches.{is_allocated}
use Rattle.memory_model.specs.Effects.Accesses.{is_freed_life, points_into_freed}
use Rattle.store_sound.specs.Concretization.ValueMeaning.{Naming, InGammaInto, InGammaByLife, InGammaScalar, InGammaState}
use Rattle.store_sound.specs.Concretization.SoundMemory.{IsInstanceOf}
use Rattle.store_sound.specs.Concretization.RowMeaning.{MachineState, InGamma}
use Rattle.store_sound.specs.Operations.Shapes.{AreShaped}
use Rattle.store_sound.proofs.operations.Walks.{walk_meets}
use Rattle.store_sound.proofs.operations.Slices.{get_there}

freed_in : (o : Option Instance) → life_of o ≡ freed → (it : Instance) × (o ≡ Some it)
freed_in None h = cc
freed_in (Some it) h = (it, refl)

is_freed : (life : Life) → is_freed_life life ≡ true → life ≡ freed
is_freed live h = cc
is_freed ended h = cc
is_freed freed h = refl

or_keeps : (a b : Bool) → a ≡ true → (a || b) ≡ true
or_keeps a b h = or_left a b h

module _ {I : Type 0} {l : LatticeOf I} {n : IntegersOf I} {gamma : I → ℤ → Type 0} (flow : Flow) (shaped : AreShaped flow.bases.items) (naming : Naming) (row : List (Cell I)) (state : MachineState) (s : InGamma l n gamma flow naming row state) where
  -- a freed instance of a base is one of the heap, and its state says so
  base_freed : (i b : ℕ) (base : BaseInfo) → life_at state.memory i ≡ freed → naming i ≡ Some b → slice_get flow.bases.items b ≡ Some base → may_be_freed l n base row ≡ true
  base_freed i b base gone named at =
      let it = freed_in (slice_get state.memory i) gone in
      let k : IsInstanceOf flow.model base it.0 = s.sane.instances i b base it.0 named at it.1 in
      let life : it.0.life ≡ freed = sym (ap life_of it.1) ∙ gone in
      let a : it.0.storage ≡ allocated = s.sane.freed_rightly i it.0 it.1 life in
      let heap : base.shape.heap ≡ true = sym (shaped.each b base at).kind ∙ (ap is_allocated (sym k.storage) ∙ ap is_allocated a) in
      let x = s.states b i base at heap named in
      let y = subst (λ z. InGammaState gamma naming state.memory (state_at l n row (state_position base)) z (length (bytes_at state.memory i))) gone x in
      and_from _ _ heap y.1

  pub into_freed : (v : Pointers I) (i offset lo hi : ℕ) → life_at state.memory i ≡ freed → InGammaInto gamma naming state.memory v i offset lo hi → any_freed l n flow.bases.items row v.bases ≡ true
  into_freed v i offset lo hi gone h =
      let base = get_there flow.bases.items h.base (s.sane.few i h.base h.named) in
      let few = shaped.few in
      let top = slice_get_within flow.bases.items h.base base.0 base.1 in
      walk_meets (λ r. r ≡ true) (is_freed_or l n row v.bases) (λ k at r f. or_keeps r _ f) 0 flow.bases.items false h.base h.base base.0 base.1 (omega arith)
      (λ r. or_right r _ (and_from _ _ (and_from _ _ (lt-ltb _ _ (omega arith)) h.among) (base_freed i h.base base.0 gone h.named base.1)))

  pub freed_shows : (x : Value I) (v : Scalar) → InGammaScalar gamma naming state.memory x v → points_into_freed state.memory v ≡ true → any_freed l n flow.bases.items row x.pointer.bases ≡ true
  freed_shows x (integer z labels) h f = cc
  freed_shows x (pointer null) h f = cc
  freed_shows x (pointer (into i offset lo hi)) h f =
      let gone = is_freed (life_at state.memory i) f in
      into_freed x.pointer i offset lo hi gone (subst (λ z. InGammaByLife gamma naming state.memory x.pointer z i offset lo hi) gone h)
