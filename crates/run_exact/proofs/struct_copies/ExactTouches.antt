-- A touch through a value that tells one pointer stops where it says so, and goes on to the one place that it has.
use Rattle.std.proofs.Common.{◌≡◌, ℕ, ◌+◌, ◌-◌, ◌^◌, ◌≤◌, Bool, true, false, ◌||◌, ◌&&◌, Some, List, [], ◌∷◌, ◌++◌, arith, refl, ap, ◌∙◌, inl, inr}
use Rattle.std.specs.Prelude.{ℤ, slice_get, nat_le}
use Rattle.std.specs.List.{Contains}
use Rattle.std.proofs.lemmas.Bool.{cases_Bool, and_parts, leb-true}
use Rattle.cc_base.specs.Lattices.{LatticeOf}
use Rattle.cc_base.specs.IntegerDomains.{IntegersOf, BoundLaws}
use Rattle.cc_base.specs.declared.diagnostics.Rule.{Rule}
use Rattle.cc_base.specs.declared.diagnostics.Rule.TheVariants as rule
use Rattle.c_layout.specs.declared.shapes.BaseInfo.{BaseInfo}
use Rattle.cfg.specs.declared.programs.Flow.{Flow}
use Rattle.pointer_domain.specs.declared.pointer_sets.Pointers.{Pointers}
use Rattle.value_domain.specs.declared.values.row_cells.Cell.{Cell}
use Rattle.store_objects.specs.LiveBases.{is_literal_kind}
use Rattle.transfer_checks.specs.declared.violation_sets.Violations.{Violations}
use Rattle.memory_model.specs.Memory.Bytes.{MachinePointer, null, into}
use Rattle.memory_model.specs.Memory.Instances.{Life, live, ended, freed, life_at}
use Rattle.memory_model.specs.Effects.Touches.{touched, touched_by, is_literal, storage_of, storage_at}
use Rattle.memory_model.specs.Effects.Worlds.{goes, stopped_by}
use Rattle.semantics.specs.CfgMachine.FlowStates.{ProgramState}
use Rattle.store_sound.specs.Concretization.SoundMemory.{IsPointerIn, IsWithin, IsInstanceOf}
use Rattle.store_sound.specs.Concretization.ValueMeaning.{Naming}
use Rattle.store_sound.proofs.operations.LoadSound.{base_there, instance_there}
use Rattle.store_sound.proofs.operations.TouchSound.{past_end}
use Rattle.transfer_sound.specs.Values.SoundSteps.{IsReached}
use Rattle.transfer_exact.specs.Values.SingleRows.{IsPlainProgram}
use Rattle.transfer_exact.specs.Values.SingleValues.{IsNowhere, IsIntoOne, ExactByLife, ExactPointer}
use Rattle.transfer_exact.proofs.values.Violated.{AreViolated, one_there, behind_there}
use Rattle.transfer_exact.proofs.places.OneTouch.{touching, TouchesNothing, TouchesOne, nowhere, outside, literal, inside}
use Rattle.transfer_exact.proofs.places.Touching.{touching_violated}
use Rattle.transfer_exact.proofs.accesses.ExactStores.{literal_kind}

module _ {I : Type 0} {l : LatticeOf I} {n : IntegersOf I} {gamma : I → ℤ → Type 0} (q : BoundLaws l n gamma) (flow : Flow) (plain : IsPlainProgram flow) (naming : Naming) (row : List (Cell I)) (s : ProgramState) (r : IsReached l n gamma flow naming row s) (x : Pointers I) (at : MachinePointer) (size : ℕ) (write : Bool) where
  abbrev Nothing : Violations → Type 0
  Nothing told = TouchesNothing q flow.bases.items plain.no_heap row x size write told

  -- the one place that is touched
  pub record IsPlace : Type 0 where
    pub i : ℕ
    pub offset : ℕ
    pub lo : ℕ
    pub hi : ℕ
    pub is : at ≡ into i offset lo hi
    pub alive : life_at s.world.memory i ≡ live
    pub from : IsIntoOne n s.bases x i offset lo hi
    pub info : BaseInfo
    pub there : slice_get flow.bases.items from.base ≡ Some info
    pub above : lo ≤ offset
    pub fits : offset + size ≤ hi
    pub short : hi ≤ 2 ^ 64 - 1
    pub goes_on : touched s.world at size write ≡ goes (record { instance = i; offset = offset }) s.world
    pub touches : TouchesOne q flow.bases.items plain.no_heap row x size write s.bases i offset lo hi from info there above short

  pub data IsTouch : Type 0 where
    nothing : (r : Rule) (told : Violations) → touched s.world at size write ≡ stopped_by s.world r → TouchesNothing q flow.bases.items plain.no_heap row x size write told → AreViolated told (s.world.violated ++ (r ∷ [])) → IsTouch
    one : IsPlace → IsTouch

  at_end : (r : Rule) → Contains (s.world.violated ++ (r ∷ [])) r
  at_end r = behind_there s.world.violated (r ∷ []) r (one_there r)

  nowhere_touch : (is_null gone : Bool) → IsNowhere x is_null gone → touched s.world at size write ≡ stopped_by s.world rule.Nullref → IsTouch
  nowhere_touch is_null gone h e = nothing rule.Nullref (touching (is_null || gone) false false) e (nowhere q flow.bases.items plain.no_heap row x size write is_null gone h)
      (touching_violated (is_null || gone) false false (s.world.violated ++ (rule.Nullref ∷ [])) (λ f. at_end rule.Nullref) (λ f. cc) (λ f. cc))

  module _ (i offset lo hi : ℕ) (is : at ≡ into i offset lo hi) (alive : life_at s.world.memory i ≡ live) (h : IsIntoOne n s.bases x i offset lo hi) (within : IsWithin s.world.memory i offset lo hi) (reply : touched s.world at size write ≡ touched_by s.world live i offset lo hi size write) where
    base : (info : BaseInfo) × (slice_get flow.bases.items h.base ≡ Some info)
    base = base_there flow.bases.items h.base (r.stands_for.sane.few i h.base (r.stands_for.lives.named h.base i h.names))

    short : hi ≤ 2 ^ 64 - 1
    short = let a = within.within in let b = r.stands_for.sane.small i in omega (arith, a, b)

    storage_is : is_literal (storage_at s.world.memory i) ≡ is_literal_kind base.0.kind
    storage_is =
        let it = instance_there s.world.memory i alive in
        let k : IsInstanceOf flow.model base.0 it.0 = r.stands_for.sane.instances i h.base base.0 it.0 (r.stands_for.lives.named h.base i h.names) base.1 it.1 in
        ap (λ z. is_literal (storage_of z)) it.1 ∙ (ap is_literal k.storage ∙ literal_kind base.0.kind)

    inside_touch : (nat_le lo offset && nat_le (offset + size) hi) ≡ true → (c : Bool) → (write && is_literal_kind base.0.kind) ≡ c → IsTouch
    inside_touch f true e =
        let fits = leb-true _ _ (and_parts (nat_le lo offset) (nat_le (offset + size) hi) f).1 in
        let w = and_parts write (is_literal_kind base.0.kind) e in
        let u : (write && is_literal (storage_at s.world.memory i)) ≡ true = ap (λ z. write && z) storage_is ∙ e in
        nothing rule.Strmod (touching false false true) (reply ∙ rw (f, u) refl) (literal q flow.bases.items plain.no_heap row x size write s.bases i offset lo hi h base.0 base.1 within.above short fits w.0 w.1)
        (touching_violated false false true (s.world.violated ++ (rule.Strmod ∷ [])) (λ f. cc) (λ f. cc) (λ f. at_end rule.Strmod))
    inside_touch f false e =
        let fits = leb-true _ _ (and_parts (nat_le lo offset) (nat_le (offset + size) hi) f).1 in
        let u : (write && is_literal (storage_at s.world.memory i)) ≡ false = ap (λ z. write && z) storage_is ∙ e in
        one (record {
          i = i;
          offset = offset;
          lo = lo;
          hi = hi;
          is = is;
          alive = alive;
          from = h;
          info = base.0;
          there = base.1;
          above = within.above;
          fits = fits;
          short = short;
          goes_on = reply ∙ rw (f, u) refl;
          touches = inside q flow.bases.items plain.no_heap row x size write s.bases i offset lo hi h base.0 base.1 within.above short fits e;
        })

    live_touch : IsTouch
    live_touch = elim (cases_Bool (nat_le lo offset && nat_le (offset + size) hi)) [
      | inr f ↦ nothing rule.Invptr (touching false true false) (reply ∙ rw f refl) (outside q flow.bases.items plain.no_heap row x size write s.bases i offset lo hi h base.0 base.1 within.above short (past_end lo offset (offset + size) hi f within.above))
          (touching_violated false true false (s.world.violated ++ (rule.Invptr ∷ [])) (λ f. cc) (λ f. at_end rule.Invptr) (λ f. cc))
      | inl f ↦ inside_touch f (write && is_literal_kind base.0.kind) refl
    ]

  by_life : (life : Life) (i offset lo hi : ℕ) → at ≡ into i offset lo hi → life_at s.world.memory i ≡ life → ExactByLife n s.bases x life i offset lo hi → IsWithin s.world.memory i offset lo hi → touched s.world at size write ≡ touched_by s.world life i offset lo hi size write → IsTouch
  by_life live i offset lo hi is alive h within reply = live_touch i offset lo hi is alive h within reply
  by_life ended i offset lo hi is alive h within reply = nowhere_touch false true h reply
  by_life freed i offset lo hi is alive h within reply = absurd h

  by_pointer : (m : MachinePointer) → at ≡ m → ExactPointer n s.bases s.world.memory x m → IsPointerIn s.world.memory m → IsTouch
  by_pointer null is h within = nowhere_touch true false h (ap (λ z. touched s.world z size write) is)
  by_pointer (into i offset lo hi) is h within = by_life (life_at s.world.memory i) i offset lo hi is refl h within (ap (λ z. touched s.world z size write) is)

  pub touch_told : ExactPointer n s.bases s.world.memory x at → IsPointerIn s.world.memory at → IsTouch
  touch_told h within = by_pointer at refl h within
