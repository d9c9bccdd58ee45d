-- Pointers to named objects, and to parts of what is pointed to, are sound.
use Rattle.std.proofs.Common.{◌≡◌, ℕ, zero, suc, ◌+◌, ◌≤◌, ◌<◌, true, false, ◌||◌, ◌&&◌, Option, Some, None, List, [], ◌∷◌, length, arith, subst, sym, refl, ap, ◌∙◌, inl, inr}
use Rattle.std.specs.Prelude.{ℤ, pos, ◌+ℤ◌, nat_le, nat_lt, slice_get}
use Rattle.std.proofs.lemmas.Int.{ints}
use Rattle.std.proofs.lemmas.Bool.{cases_Bool, and_parts, leb-true, lt-ltb, ltb-true, or_left, or_right, true≢false, cond-true}
use Rattle.std.proofs.lemmas.Option.{slice_get_within}
use Rattle.cc_base.specs.Lattices.{LatticeOf, OrderLaws}
use Rattle.cc_base.specs.NumberRanges.{Range}
use Rattle.cc_base.specs.IntegerDomains.{IntegersOf, BoundLaws}
use Rattle.cc_base.specs.declared.diagnostics.Rule.TheVariants as rule
use Rattle.c_layout.specs.declared.shapes.BaseInfo.{BaseInfo}
use Rattle.c_layout.specs.declared.shapes.BaseKind.{BaseKind}
use Rattle.c_layout.specs.declared.shapes.BaseKind.TheVariants.{Static, Automatic, Literal, Newest, Older}
use Rattle.cfg.specs.BaseShapes.{is_extent}
use Rattle.cfg.specs.WellFormed.{names_of, kind_at, is_declared, reaches, has_temp, fits_operation}
use Rattle.cfg.specs.declared.machine_instructions.Operation.TheVariants as op
use Rattle.cfg.specs.declared.programs.Flow.{Flow}
use Rattle.pointer_domain.specs.BaseFacts.{with_has_same}
use Rattle.pointer_domain.specs.BaseSets.{no_base, bases_with, bases_has}
use Rattle.pointer_domain.specs.PointerTables.{part_starts, part_at, narrowed}
use Rattle.pointer_domain.specs.declared.pointer_sets.Pointers.{Pointers}
use Rattle.value_domain.specs.declared.values.row_cells.Cell.{Cell}
use Rattle.domain_theorems.proofs.values.PointerStands.{narrow_stands}
use Rattle.store_objects.specs.LiveBases.{most_bases, only_base, any_freed}
use Rattle.transfer_checks.specs.Temporaries.{temp_value}
use Rattle.transfer_checks.specs.Touches.{touch, touch_violations}
use Rattle.transfer_checks.specs.ViolationSets.{no_violations}
use Rattle.transfer_checks.specs.declared.violation_sets.Violations.{Violations}
use Rattle.transfer_system.specs.PointerSteps.{is_short, address_of, address_in, address_step, narrow_touched, narrow_step}
use Rattle.transfer_system.specs.ResultTemps.{put_pointer}
use Rattle.transfer_system.specs.Steps.{operate}
use Rattle.transfer_system.specs.StepViolations.{operation_violations}
use Rattle.memory_model.specs.Memory.Bytes.{MachinePointer, null, into}
use Rattle.memory_model.specs.Memory.Instances.{Life, live, ended, freed, bytes_at, bytes_of, life_at}
use Rattle.memory_model.specs.Memory.Scalars.{pointer}
use Rattle.memory_model.specs.Effects.Touches.{is_allocated, touched_live, touched_by}
use Rattle.memory_model.specs.Effects.PointerEffects.{narrowed_by, narrow_pointer}
use Rattle.memory_model.specs.Effects.Operands.{as_pointer}
use Rattle.memory_model.specs.Effects.Worlds.{behind, goes}
use Rattle.semantics.specs.CfgMachine.FlowStates.{ProgramState, size_in}
use Rattle.semantics.specs.CfgMachine.FlowActs.{giving}
use Rattle.store_sound.specs.Concretization.ValueMeaning.{Naming, InGammaInto, InGammaByLife, InGammaPointer, InGammaScalar}
use Rattle.store_sound.specs.Concretization.SoundMemory.{IsWithin, IsPointerIn, storage_for}
use Rattle.store_sound.specs.Concretization.Coverage.{state_of}
use Rattle.store_sound.proofs.operations.Freed.{into_freed}
use Rattle.store_sound.proofs.operations.LoadSound.{instance_there}
use Rattle.store_sound.proofs.operations.Sets.{none_has}
use Rattle.store_sound.specs.Programs.Premises.{HasPremises}
use Rattle.transfer_sound.specs.Values.SoundSteps.{IsReached, IsStoodFor, StepIsSound}
use Rattle.transfer_sound.proofs.values.Admitted.{AreAdmitted, none_admitted, same_admitted}
use Rattle.transfer_sound.proofs.values.PartTouches.{outside_told, part_into}
use Rattle.transfer_sound.proofs.values.PointerResults.{is_live, by_life, as_into, pointer_given, rule_stops}
use Rattle.transfer_sound.proofs.values.Replies.{if_some_good, pointer_good}

-- ---- objects

pub kind_is : (bases : List BaseInfo) (b : ℕ) (info : BaseInfo) → slice_get bases b ≡ Some info → kind_at bases b ≡ Some info.kind
kind_is [] b info e = cc
kind_is (x ∷ xs) zero info e = let d : x ≡ info = cc in ap (λ z. Some z.kind) d
kind_is (x ∷ xs) (suc b) info e = kind_is xs b info e

pub declared_storage : (kind : BaseKind) → is_declared (Some kind) ≡ true → is_allocated (storage_for kind) ≡ false
declared_storage Static h = refl
declared_storage Automatic h = refl
declared_storage Literal h = refl
declared_storage Newest h = absurd (true≢false (sym h))
declared_storage Older h = absurd (true≢false (sym h))

-- an object that an offset lies in, or at whose end
pub record IsReachedBy (offset : ℕ) (o : Option BaseInfo) : Type 0 where
  pub info : BaseInfo
  pub is : o ≡ Some info
  pub inside : offset ≤ info.size

pub reached_by : (offset : ℕ) (o : Option BaseInfo) → reaches offset o ≡ true → IsReachedBy offset o
reached_by offset None h = absurd (true≢false (sym h))
reached_by offset (Some info) h = record { info = info; is = refl; inside = leb-true offset info.size h }

-- ---- parts

-- a part is no whole instance, and without a base there is no pointer
part_whole : {I : Type 0} (l : LatticeOf I) (n : IntegersOf I) (p : Pointers I) (size b : ℕ) (r : Range) → bases_has (part_at l n p size r).bases b ≡ true → (part_at l n p size r).part ≡ false → ⊥
part_whole l n p size b None h e = true≢false (sym h ∙ none_has b)
part_whole l n p size b (Some r) h e = true≢false e

module _ {I : Type 0} {l : LatticeOf I} {n : IntegersOf I} {gamma : I → ℤ → Type 0} (o : OrderLaws l) (q : BoundLaws l n gamma) (flow : Flow) (p : HasPremises flow) (naming : Naming) (row : List (Cell I)) (s : ProgramState) (r : IsReached l n gamma flow naming row s) where
  clean : (v : Violations) → AreAdmitted v s.world.violated
  clean v = same_admitted v s.world.violated [] r.begun (none_admitted v)

  -- the instance that a base names
  record IsObject (b i : ℕ) (info : BaseInfo) : Type 0 where
    named : naming i ≡ Some b
    alive : life_at s.world.memory i ≡ live
    size : length (bytes_at s.world.memory i) ≡ info.size
    made : i < length s.world.memory

  object_is : (b i : ℕ) (info : BaseInfo) → s.bases b ≡ Some i → slice_get flow.bases.items b ≡ Some info → is_declared (Some info.kind) ≡ true → IsObject b i info
  object_is b i info e at kind =
      let named = r.stands_for.lives.named b i e in
      let alive = r.stands_for.lives.alive b i e in
      let it = instance_there s.world.memory i alive in
      let k = r.stands_for.sane.instances i b info it.0 named at it.1 in
      let heap : info.shape.heap ≡ false = sym (p.shaped.each b info at).kind ∙ declared_storage info.kind kind in
      record { named = named; alive = alive; size = ap (λ z. length (bytes_of z)) it.1 ∙ k.size heap; made = r.stands_for.sane.made i b named }

  only_has : (b : ℕ) (info : BaseInfo) → slice_get flow.bases.items b ≡ Some info → bases_has (only_base b) b ≡ true
  only_has b info e =
      let few = p.shaped.few in
      let top = slice_get_within flow.bases.items b info e in
      let small : nat_lt b most_bases ≡ true = lt-ltb b most_bases (omega (arith, few, top)) in
      ap (λ z. bases_has z b) (cond-true (nat_lt b most_bases) (bases_with no_base b) no_base small) ∙ with_has_same no_base b

  address_into : (b i offset : ℕ) (info : BaseInfo) → slice_get flow.bases.items b ≡ Some info → IsObject b i info → InGammaInto gamma naming s.world.memory (address_of n b offset info.size) i offset 0 info.size
  address_into b i offset info e k = record {
    base = b;
    named = k.named;
    among = only_has b info e;
    lower = q.one_stands (pos 0);
    relative = subst (gamma (n.one (pos offset))) (omega (arith, ints)) (q.one_stands (pos offset));
    room = subst (gamma (n.one (pos info.size))) (omega (arith, ints)) (q.one_stands (pos info.size));
    whole = λ h. (refl, sym k.size);
  }

  address_good : (to b i offset : ℕ) (info : BaseInfo) → to < flow.temps → slice_get flow.bases.items b ≡ Some info → IsObject b i info → offset ≤ info.size → (size : ℕ) → size ≡ info.size → (after : Option (List (Cell I))) → after ≡ put_pointer l flow row to (address_of n b offset info.size) → IsStoodFor l n gamma flow after no_violations (giving s to (goes (pointer (into i offset 0 size)) s.world))
  address_good to b i offset info few e k inside size same after is =
      let st = address_into b i offset info e k in
      let total = k.size in
      let within : IsWithin s.world.memory i offset 0 size = record { made = k.made; above = omega arith; below = omega (arith, inside, same); within = omega (arith, same, total) } in
      pointer_given q flow p naming row s r to few (address_of n b offset info.size) (into i offset 0 size) s.world no_violations after
      (by_life gamma naming s.world.memory (address_of n b offset info.size) i offset 0 size (life_at s.world.memory i) (is_live k.alive) (subst (λ z. InGammaInto gamma naming s.world.memory (address_of n b offset info.size) i offset 0 z) (sym same) st))
      within refl is (clean no_violations)

  pub address_sound : (to b offset : ℕ) → fits_operation (names_of flow) (op.Address to b offset) ≡ true → StepIsSound l n gamma flow row (op.Address to b offset) s
  unfolding operate address_step operation_violations
  address_sound to b offset fits =
      let a = and_parts (has_temp (names_of flow) to) (is_declared (kind_at flow.bases.items b) && reaches offset (slice_get flow.bases.items b)) fits in
      let c = and_parts (is_declared (kind_at flow.bases.items b)) (reaches offset (slice_get flow.bases.items b)) a.1 in
      let d = reached_by offset (slice_get flow.bases.items b) c.1 in
      let kind : is_declared (Some d.info.kind) ≡ true = subst (λ z. is_declared z ≡ true) (kind_is flow.bases.items b d.info d.is) c.0 in
      if_some_good l n gamma flow _ no_violations s r.begun (s.bases b) _ (λ i e.
      address_good to b i offset d.info (ltb-true to flow.temps a.0) d.is (object_is b i d.info e d.is kind) d.inside (size_in (slice_get flow.bases.items b)) (ap size_in d.is) _ (ap (address_in l n flow row to b offset) d.is))

  -- ---- parts

  module _ (x : Pointers I) (from size : ℕ) where
    abbrev part_rest : Pointers I
    part_rest = (touch l n flow.bases.items row x from size false).rest

    abbrev part_told : Violations
    part_told = (touch l n flow.bases.items row x from size false).violations

    narrow_into : (i offset lo hi : ℕ) → life_at s.world.memory i ≡ live → InGammaInto gamma naming s.world.memory x i offset lo hi → IsWithin s.world.memory i offset lo hi → (offset + from) + size ≤ hi → InGammaInto gamma naming s.world.memory (narrowed l n part_rest from size) i (offset + from) (offset + from) ((offset + from) + size)
    narrow_into i offset lo hi alive st inside below =
        let rest = part_into o q flow p.shaped naming row (state_of s) r.stands_for x from size i offset lo hi alive st inside below in
        let small = r.stands_for.sane.small i in
        let top = inside.within in
        let above = inside.above in
        let z : (pos offset +ℤ pos from) ≡ pos (offset + from) = omega (arith, ints) in
        let h = narrow_stands q part_rest from size rest.base (pos lo) (pos offset) (pos hi) (as_into gamma naming s.world.memory part_rest i offset lo hi rest) (omega (arith, ints, above)) (omega (arith, ints, below)) (omega (arith, ints)) (omega (arith, ints, below, top, small)) in
        record {
          base = rest.base;
          named = rest.named;
          among = h.among;
          lower = subst (gamma (narrowed l n part_rest from size).lo) z h.lower;
          relative = subst (gamma (narrowed l n part_rest from size).rel) (omega (arith, ints)) h.relative;
          room = subst (gamma (narrowed l n part_rest from size).len) (omega (arith, ints)) h.room;
          whole = λ e. absurd (part_whole l n part_rest size rest.base (part_starts n part_rest from size) h.among e);
        }

    module _ (to : ℕ) (few : to < flow.temps) where
      abbrev Good : MachinePointer → Type 0
      Good at = IsStoodFor l n gamma flow (put_pointer l flow row to (narrowed l n part_rest from size)) part_told (giving s to (as_pointer (narrow_pointer from size at s.world)))

      null_told : (x.null || x.ended) ≡ true → part_told.nullref ≡ true
      unfolding touch touch_violations
      null_told e = e

      freed_told : any_freed l n flow.bases.items row x.bases ≡ true → part_told.accfree ≡ true
      unfolding touch touch_violations
      freed_told e = e

      live_good : (i offset lo hi : ℕ) → life_at s.world.memory i ≡ live → InGammaInto gamma naming s.world.memory x i offset lo hi → IsWithin s.world.memory i offset lo hi → IsStoodFor l n gamma flow (put_pointer l flow row to (narrowed l n part_rest from size)) part_told (giving s to (as_pointer (behind (touched_live s.world i (offset + from) lo hi size false) (narrowed_by size))))
      live_good i offset lo hi alive st inside = elim (cases_Bool (nat_le lo (offset + from) && nat_le ((offset + from) + size) hi)) [
        | inr e ↦ rw e (rule_stops q flow p naming row s r to few _ part_told s.world rule.Invptr (clean part_told) (outside_told o q flow p.shaped naming row (state_of s) r.stands_for x from size i offset lo hi alive st inside e))
        | inl e ↦ (let k = and_parts (nat_le lo (offset + from)) (nat_le ((offset + from) + size) hi) e in
            let below = leb-true ((offset + from) + size) hi k.1 in
            let top = inside.within in
            let y = narrow_into i offset lo hi alive st inside below in
            let within : IsWithin s.world.memory i (offset + from) (offset + from) ((offset + from) + size) = record { made = inside.made; above = omega arith; below = omega arith; within = omega (arith, below, top) } in
            rw e (pointer_given q flow p naming row s r to few (narrowed l n part_rest from size) (into i (offset + from) (offset + from) ((offset + from) + size)) s.world part_told _
            (by_life gamma naming s.world.memory (narrowed l n part_rest from size) i (offset + from) (offset + from) ((offset + from) + size) (life_at s.world.memory i) (is_live alive) y) within refl refl (clean part_told)))
      ]

      life_good : (life : Life) (i offset lo hi : ℕ) → life_at s.world.memory i ≡ life → InGammaByLife gamma naming s.world.memory x life i offset lo hi → IsWithin s.world.memory i offset lo hi → IsStoodFor l n gamma flow (put_pointer l flow row to (narrowed l n part_rest from size)) part_told (giving s to (as_pointer (behind (touched_by s.world life i (offset + from) lo hi size false) (narrowed_by size))))
      life_good live i offset lo hi e st inside = live_good i offset lo hi e st inside
      life_good ended i offset lo hi e st inside = rule_stops q flow p naming row s r to few _ part_told s.world rule.Nullref (clean part_told) (null_told (or_right x.null x.ended st))
      life_good freed i offset lo hi e st inside = rule_stops q flow p naming row s r to few _ part_told s.world rule.Accfree (clean part_told) (freed_told (into_freed flow p.shaped naming row (state_of s) r.stands_for x i offset lo hi e st))

      part_good : (at : MachinePointer) → InGammaPointer gamma naming s.world.memory x at → IsPointerIn s.world.memory at → Good at
      part_good null st inside = rule_stops q flow p naming row s r to few _ part_told s.world rule.Nullref (clean part_told) (null_told (or_left x.null x.ended st))
      part_good (into i offset lo hi) st inside = life_good (life_at s.world.memory i) i offset lo hi refl st inside

  pub narrow_sound : (to from offset size : ℕ) → fits_operation (names_of flow) (op.Narrow to from offset size) ≡ true → StepIsSound l n gamma flow row (op.Narrow to from offset size) s
  unfolding operate narrow_step narrow_touched operation_violations
  narrow_sound to from offset size fits =
      let a = and_parts (has_temp (names_of flow) to) (has_temp (names_of flow) from && (is_extent offset && is_extent size)) fits in
      let b = and_parts (has_temp (names_of flow) from) (is_extent offset && is_extent size) a.1 in
      let c = and_parts (is_extent offset) (is_extent size) b.1 in
      let short : is_short offset ≡ true = c.0 in
      let small : is_short size ≡ true = c.1 in
      let x : Pointers I = (temp_value l n flow row from).pointer in
      rw (short, small) (if_some_good l n gamma flow _ (part_told x offset size) s r.begun (s.temps from) _ (λ v e.
      pointer_good l n gamma flow _ (part_told x offset size) s to v s.world _ r.begun (λ at g.
      part_good x offset size to (ltb-true to flow.temps a.0) at
      (subst (InGammaScalar gamma naming s.world.memory (temp_value l n flow row from)) g (r.stands_for.temps from v e))
      (r.stands_for.held.within from (pointer at) (e ∙ ap Some g)))))
