-- Calls of `memset` are sound.
use Rattle.std.proofs.Common.{◌≡◌, ℕ, zero, suc, ◌+◌, ◌-◌, ◌<◌, ◌≤◌, Bool, true, false, cond, not, ◌&&◌, Option, Some, None, List, [], ◌∷◌, ◌++◌, length, arith, subst, sym, refl, ap, ◌∙◌, inl, inr, int_eq, mod-lt}
use Rattle.std.specs.Prelude.{slice_get, ℤ, pos, negsuc, ◌≤ℤ◌, is_some, nat_lt, int_le, unsigned_abs, replicate}
use Rattle.std.specs.Int.{int_rem_euclid}
use Rattle.std.proofs.lemmas.Int.{ints}
use Rattle.std.proofs.lemmas.Bool.{cases_Bool, and_parts, lt-ltb, ltb-true, ltb-false}
use Rattle.std.proofs.lemmas.Option.{same_Some}
use Rattle.cc_base.specs.Lattices.{LatticeOf, OrderLaws}
use Rattle.cc_base.specs.IntegerDomains.{IntegersOf, BoundLaws}
use Rattle.cc_base.specs.NumberRanges.{Range}
use Rattle.cc_base.specs.declared.diagnostics.Rule.{Rule}
use Rattle.cc_base.specs.declared.diagnostics.Rule.TheVariants as rule
use Rattle.cfg.specs.WellFormed.{names_of, has_result}
use Rattle.cfg.specs.declared.programs.Flow.{Flow}
use Rattle.pointer_domain.specs.BaseSets.{bases_has, bases_empty}
use Rattle.pointer_domain.specs.PointerTables.{offsets}
use Rattle.value_domain.specs.Values.ValueTables.{pointer_value}
use Rattle.value_domain.specs.declared.values.values.Value.{Value}
use Rattle.value_domain.specs.declared.values.row_cells.Cell.{Cell}
use Rattle.domain_theorems.proofs.values.Numbers.{RangeHas, bounds_have}
use Rattle.store_cells.specs.declared.access_windows.Window.{Window}
use Rattle.store_cells.specs.AccessWindows.{window_within}
use Rattle.store_objects.specs.LiveBases.{has_base, writable_of, is_one_instance}
use Rattle.transfer_checks.specs.IntegerChecks.{sink_violations}
use Rattle.transfer_checks.specs.LibraryArguments.{writes_literal, after_write, passes_room, cut_by_room, touched_window}
use Rattle.transfer_checks.specs.ViolationSets.{no_violations, violates}
use Rattle.transfer_checks.specs.declared.library_arguments.Argument.{Argument}
use Rattle.transfer_library_plans.specs.Arguments.{room_violations, literal_violations}
use Rattle.transfer_library_plans.specs.Calls.{Call}
use Rattle.transfer_library.specs.Effects.{apply}
use Rattle.transfer_library_writes.specs.FillWrites.{write_fill}
use Rattle.transfer_library.specs.MemoryCalls.{sure_window, lower_of, is_zero_range, is_one_byte, room_trail, target_of, is_zero_byte, fill_in_window, plan_fill}
use Rattle.transfer_library_plans.specs.Plans.{planned, trail_of, checked}
use Rattle.transfer_library_plans.specs.declared.call_plans.Effect.{Effect}
use Rattle.transfer_library_plans.specs.declared.call_plans.Effect.TheVariants as effect
use Rattle.transfer_library_plans.specs.declared.call_plans.Plan.{Plan}
use Rattle.transfer_library_plans.specs.declared.call_plans.Trail.{Trail}
use Rattle.transfer_library_writes.specs.declared.fill_writes.FillWrite.{FillWrite}
use Rattle.transfer_library.specs.declared.memory_calls.Target.{Target}
use Rattle.transfer_sound.specs.CallSteps.{call_of}
use Rattle.memory_model.specs.Memory.Labels.{Labels, is_unlabelled}
use Rattle.memory_model.specs.Memory.Bytes.{MachinePointer, into, Content, number, Byte}
use Rattle.memory_model.specs.Memory.Instances.{Memory, live, bytes_at, byte_at, life_at}
use Rattle.memory_model.specs.Memory.Scalars.{Scalar, integer, pointer}
use Rattle.memory_model.specs.Effects.LibraryCalls.{with_result}
use Rattle.memory_model.specs.Effects.LibraryChecks as machine
use Rattle.memory_model.specs.Effects.MemoryCalls.{with_contents, fill_memory}
use Rattle.memory_model.specs.Effects.ScalarBytes.{bits_in, refilled}
use Rattle.memory_model.specs.Effects.Touches.{storage_at, is_literal, set_bytes}
use Rattle.memory_model.specs.Effects.Worlds.{World, Reply, goes, behind, stopped_by}
use Rattle.semantics.specs.CfgMachine.FlowStates.{ProgramState, values_of}
use Rattle.store_sound.specs.Concretization.SoundMemory.{IsMemoryOf, IsWithin}
use Rattle.store_sound.specs.Concretization.ValueMeaning.{Naming, InGammaInto, InGammaByLife, InGammaScalar}
use Rattle.store_sound.specs.Concretization.RowMeaning.{IsLiveOf}
use Rattle.store_sound.specs.Concretization.Coverage.{state_of}
use Rattle.store_sound.specs.Operations.Shapes.{IsLaidOut}
use Rattle.store_sound.proofs.operations.Frames.{pointer_in_moves, scalar_moves}
use Rattle.store_sound.proofs.operations.LoadSound.{instance_there}
use Rattle.store_sound.proofs.operations.Slices.{get_there}
use Rattle.store_sound.proofs.operations.StoreLeaves.{live_ended, not_older}
use Rattle.store_sound.proofs.operations.StorePlaces.{not_empty}
use Rattle.store_sound.proofs.operations.Windows.{WindowHas}
use Rattle.store_sound.specs.Programs.Premises.{HasPremises}
use Rattle.store_sound.specs.Regions.RegionWrites.{IsRegion}
use Rattle.store_sound.proofs.regions.BaseRows.{none_stands}
use Rattle.store_sound.proofs.regions.ContentRegions.{IsWritten, contents_written, contents_sane, region_content}
use Rattle.store_sound.proofs.regions.Regions.{alike_region}
use Rattle.transfer_sound.specs.Values.SoundSteps.{IsReached}
use Rattle.transfer_sound.proofs.values.Admitted.{AreAdmitted, both_admitted}
use Rattle.transfer_sound.proofs.values.PutTemps.{IsResult}
use Rattle.library_sound.proofs.calls.Calls.{clean}
use Rattle.library_sound.proofs.strings.GivenPointers.{reach_of}
use Rattle.library_sound.proofs.strings.Trails.{still_told, told_here, goes_further}
use Rattle.library_sound.proofs.fills.FillCells.{IsFill}
use Rattle.library_sound.proofs.fills.FillRows.{fill_stands, fill_long}
use Rattle.library_sound.proofs.fills.Targets.{alone_is, within_stands, cut_has, room_told, literal_told, is_writable, after_has, start_has, touched_has, sure_has, least_has, one_has}
use Rattle.library_sound.proofs.fills.WriteCalls.{behind_behind, sink_told, Good, world_with, told_stop, written_good, value_of, given_at, argument_stands, reach_good, given_within, goes_given, given_into}

-- ---- what is set

pub replicated : {A : Type 0} (size : ℕ) (c d : A) (k : ℕ) → slice_get (replicate size c) k ≡ Some d → c ≡ d
replicated zero c d k e = cc
replicated (suc size) c d zero e = cc
replicated (suc size) c d (suc k) e = replicated size c d k e

pub replicate_long : {A : Type 0} (size : ℕ) (c : A) → length (replicate size c) ≡ size
replicate_long zero c = refl
replicate_long (suc size) c = ap suc (replicate_long size c)

below_one : (z : ℤ) → z ≤ℤ pos 0 → int_le (pos 1) z ≡ false
below_one z h = elim (cases_Bool (int_le (pos 1) z)) [
  | inr e ↦ e
  | inl e ↦ (let g : pos 1 ≤ℤ z = grind (arith, ints) in absurd (omega (arith, ints, g, h)))
]

pub bits_small : (z : ℤ) → bits_in 1 z < 256
bits_small (pos a) = mod-lt a (omega arith)
bits_small (negsuc a) = omega arith

zero_bits : (r : Range) (z : ℤ) → RangeHas r z → is_zero_range r ≡ true → bits_in 1 z ≡ 0
zero_bits None z h e = absurd h
zero_bits (Some p) z h e =
    let a = and_parts (int_eq p.0 p.1) (int_eq (int_rem_euclid p.0 (pos 256)) (pos 0)) e in
    let h0 = h.0 in
    let h1 = h.1 in
    let b : p.0 ≡ p.1 = grind (arith, ints) in
    let c : int_rem_euclid p.0 (pos 256) ≡ pos 0 = grind (arith, ints) in
    let same : p.0 ≡ z = omega (arith, ints, b, h0, h1) in
    ap unsigned_abs (ap (λ y. int_rem_euclid y (pos 256)) (sym same) ∙ c)

module _ {I : Type 0} {l : LatticeOf I} {n : IntegersOf I} {gamma : I → ℤ → Type 0} (o : OrderLaws l) (q : BoundLaws l n gamma) (flow : Flow) (p : HasPremises flow) (naming : Naming) (row : List (Cell I)) (s : ProgramState) (r : IsReached l n gamma flow naming row s) (to : Option ℕ) (has : has_result (names_of flow) to ≡ true) (newest : Option ℕ)
    (items : List ℕ) (wanted : Option ℕ) (vs : List Scalar) (e : values_of s.temps items ≡ Some vs)
    (m : MachinePointer) (z : ℤ) (la : Labels) (count : ℤ) (lb : Labels) (first : slice_get vs 0 ≡ Some (pointer m)) (second : slice_get vs 1 ≡ Some (integer z la)) (third : slice_get vs 2 ≡ Some (integer count lb)) (sized : pos 0 ≤ℤ count) where
  abbrev call : Call
  call = call_of flow items wanted

  abbrev character : Value I
  character = value_of o q flow p naming row s r to has newest items wanted vs e 1

  abbrev amount : Value I
  amount = value_of o q flow p naming row s r to has newest items wanted vs e 2

  abbrev given : Argument I
  given = given_at o q flow p naming row s r to has newest items wanted vs e 0

  abbrev need : Range
  need = n.bounds amount.num

  abbrev cut : Range
  cut = cut_by_room n need given.rest

  abbrev size : ℕ
  size = machine.size_of count

  -- ---- trails

  abbrev sink_trail : Trail
  sink_trail = trail_of (sink_violations amount.labels)

  abbrev number_trail : Trail
  number_trail = checked sink_trail no_violations (is_some (n.bounds character.num))

  abbrev pointer_trail : Trail
  pointer_trail = checked number_trail given.violations (not (bases_empty given.rest.bases))

  abbrev fitting_trail : Trail
  fitting_trail = room_trail n pointer_trail given.rest need

  abbrev target : Target I
  target = target_of l n call fitting_trail given.rest cut

  abbrev fill_plan : Plan I
  fill_plan = planned target.trail (fill_in_window l n call target character (touched_window n target.rest target.count) (window_within (offsets n target.rest)))

  character_stands : InGammaScalar gamma naming s.world.memory character (integer z la)
  character_stands = argument_stands o q flow p naming row s r to has newest items wanted vs e 1 (integer z la) second

  amount_stands : InGammaScalar gamma naming s.world.memory amount (integer count lb)
  amount_stands = argument_stands o q flow p naming row s r to has newest items wanted vs e 2 (integer count lb) third

  size_is : count ≡ pos size
  size_is = by_sign count sized
    where
      by_sign : (c : ℤ) → pos 0 ≤ℤ c → c ≡ pos (unsigned_abs c)
      by_sign (pos k) h = refl
      by_sign (negsuc k) h = absurd (omega (arith, ints, h))

  need_has : RangeHas need (pos size)
  need_has = subst (RangeHas need) size_is (bounds_have q amount.num count amount_stands.0)

  numbered : number_trail.goes_on ≡ true
  numbered = let b = q.inside character.num z character_stands.0 in goes_further sink_trail no_violations (is_some (n.bounds character.num)) refl (ap is_some b.2)

  literal_told_of : (rl : Rule) → violates fitting_trail.violations rl ≡ true → violates target.trail.violations rl ≡ true
  literal_told_of rl h = still_told fitting_trail (literal_violations (writes_literal flow.bases.items given.rest.bases cut)) (not (bases_empty (after_write flow.bases.items given.rest.bases cut))) rl h

  pointer_told_of : (rl : Rule) → violates pointer_trail.violations rl ≡ true → violates target.trail.violations rl ≡ true
  pointer_told_of rl h = literal_told_of rl (still_told pointer_trail (room_violations (passes_room n need given.rest)) (is_some cut) rl h)

  sink_told_of : (rl : Rule) → violates (sink_violations amount.labels) rl ≡ true → violates target.trail.violations rl ≡ true
  sink_told_of rl h = pointer_told_of rl (still_told number_trail given.violations (not (bases_empty given.rest.bases)) rl (still_told sink_trail no_violations (is_some (n.bounds character.num)) rl h))

  abbrev found : List Rule
  found = s.world.violated ++ cond (not (is_unlabelled lb)) (rule.Taintsink ∷ []) []

  fine : AreAdmitted fill_plan.violations found
  fine = both_admitted fill_plan.violations s.world.violated (cond (not (is_unlabelled lb)) (rule.Taintsink ∷ []) []) (clean q flow p naming row s r fill_plan.violations) (sink_told lb fill_plan.violations amount.labels amount_stands.1 sink_told_of)

  abbrev start_world : World
  start_world = world_with o q flow p naming row s r to has newest found

  abbrev byte : Content
  byte = number (bits_in 1 z) la

  abbrev set_reply : machine.Reach → World → Reply Scalar
  set_reply t w = goes (pointer m) (with_contents w t (replicate size byte))

  abbrev room_reply : machine.Reach → World → Reply Scalar
  room_reply t w = behind (machine.fitting size t w) (λ _ w. behind (machine.writable size t w) (λ _ w. set_reply t w))

  -- ---- behind the pointer

  module _ (i offset lo hi : ℕ) (is : m ≡ into i offset lo hi) (alive : life_at s.world.memory i ≡ live) where
    here : slice_get vs 0 ≡ Some (pointer (into i offset lo hi))
    here = first ∙ ap (λ y. Some (pointer y)) is

    within : IsWithin s.world.memory i offset lo hi
    within = given_within o q flow p naming row s r to has newest items wanted vs e 0 i offset lo hi here alive

    st : InGammaInto gamma naming s.world.memory given.rest i offset lo hi
    st = given_into o q flow p naming row s r to has newest items wanted vs e 0 i offset lo hi here alive

    pointed : pointer_trail.goes_on ≡ true
    pointed = goes_further number_trail given.violations (not (bases_empty given.rest.bases)) numbered (goes_given o q flow p naming row s r to has newest items wanted vs e 0 i offset lo hi here alive)

    abbrev reach : machine.Reach
    reach = reach_of i offset hi

    room_stop : hi - offset < size → violates fill_plan.violations rule.Libptr ≡ true
    room_stop h = literal_told_of rule.Libptr (told_here pointer_trail (room_violations (passes_room n need given.rest)) (is_some cut) rule.Libptr pointed (room_told o q flow p.shaped naming s.world.memory r.stands_for.sane given.rest i offset lo hi st within need size need_has h))

    module _ (room : size ≤ hi - offset) where
      cut_size : RangeHas cut (pos size)
      cut_size = cut_has o q flow p.shaped naming s.world.memory r.stands_for.sane given.rest i offset lo hi st within need size need_has room

      some_range : (x : Range) → RangeHas x (pos size) → is_some x ≡ true
      some_range None h = absurd h
      some_range (Some x) h = refl

      fitted : fitting_trail.goes_on ≡ true
      fitted = goes_further pointer_trail (room_violations (passes_room n need given.rest)) (is_some cut) pointed (some_range cut cut_size)

      literal_stop : 0 < size → is_literal (storage_at s.world.memory i) ≡ true → violates fill_plan.violations rule.Strmod ≡ true
      literal_stop some lit = told_here fitting_trail (literal_violations (writes_literal flow.bases.items given.rest.bases cut)) (not (bases_empty (after_write flow.bases.items given.rest.bases cut))) rule.Strmod fitted (literal_told o q flow p.shaped naming s.world.memory r.stands_for.sane given.rest i offset lo hi st within alive cut size cut_size some lit)

      -- ---- the bytes are set

      module _ (plain : 0 < size → is_literal (storage_at s.world.memory i) ≡ false) where
        after_there : bases_has (after_write flow.bases.items given.rest.bases cut) st.base ≡ true
        after_there = after_has o q flow p.shaped naming s.world.memory r.stands_for.sane given.rest i offset lo hi st within alive cut size cut_size plain

        on : target.trail.goes_on ≡ true
        on = goes_further fitting_trail (literal_violations (writes_literal flow.bases.items given.rest.bases cut)) (not (bases_empty (after_write flow.bases.items given.rest.bases cut))) fitted (ap not (not_empty (after_write flow.bases.items given.rest.bases cut) st.base after_there))

        rest : (y : InGammaInto gamma naming s.world.memory target.rest i offset lo hi) × (y.base ≡ st.base)
        rest = within_stands o q flow p.shaped naming s.world.memory r.stands_for.sane given.rest i offset lo hi st within (after_write flow.bases.items given.rest.bases cut) after_there

        abbrev contents_of : List Content
        contents_of = replicate size byte

        abbrev memory : Memory
        memory = set_bytes s.world.memory i (refilled (bytes_at s.world.memory i) offset contents_of)

        fits : offset + length contents_of ≤ length (bytes_at s.world.memory i)
        fits = let a = replicate_long size byte in let b = within.within in let c = within.below in omega (arith, a, b, c, room)

        written : IsWritten s.world.memory memory i offset contents_of
        written = let it = instance_there s.world.memory i alive in contents_written s.world.memory i offset contents_of it.0 it.1 fits

        region : IsRegion s.world.memory memory i offset size
        region = subst (IsRegion s.world.memory memory i offset) (replicate_long size byte) written.region

        sane : IsMemoryOf flow.model flow.bases.items naming memory
        sane = let it = instance_there s.world.memory i alive in contents_sane s.world.memory i offset contents_of it.0 it.1 fits flow.model flow.bases.items naming (λ k c f. (bits_in 1 z, la, sym (replicated size byte c k f), bits_small z)) r.stands_for.sane

        byte_is : (a : ℕ) (x : Byte) → offset ≤ a → a < offset + size → byte_at memory i a ≡ Some x → x.content ≡ byte
        byte_is a x from to f = let long = replicate_long size byte in sym (replicated size byte x.content (a - offset) (region_content written a x from (omega (arith, to, long)) f))

        result : IsResult q flow p naming memory (pointer_value l target.rest) (pointer m)
        result = subst (λ y. IsResult q flow p naming memory (pointer_value l target.rest) (pointer y)) (sym is) (record {
          stands_for = scalar_moves (alike_region region) gamma naming (pointer_value l target.rest) (pointer (into i offset lo hi)) (subst (λ y. InGammaByLife gamma naming s.world.memory target.rest y i offset lo hi) (sym alive) rest.0);
          near = tt;
          within = pointer_in_moves (alike_region region) (into i offset lo hi) within;
        })

        laid : IsLaidOut flow (length row)
        laid = subst (IsLaidOut flow) (sym r.long) p.laid

        start : WindowHas (window_within (offsets n target.rest)) offset
        start = start_has o q flow p.shaped naming s.world.memory r.stands_for.sane target.rest i offset lo hi rest.0 within

        on_is : fill_plan.effect ≡ fill_in_window l n call target character (touched_window n target.rest cut) (window_within (offsets n target.rest))
        on_is = ap (λ b. cond {A = Effect I} b (fill_in_window l n call target character (touched_window n target.rest cut) (window_within (offsets n target.rest))) effect.Unreached) on

        -- no byte can be touched, so that none is
        module _ (none : touched_window n target.rest cut ≡ None) where
          nothing : size ≡ 0
          nothing = by_size size refl
            where
              by_size : (k : ℕ) → size ≡ k → size ≡ 0
              by_size zero f = f
              by_size (suc k) f =
                  let w = touched_has o q flow p.shaped naming s.world.memory r.stands_for.sane target.rest i offset lo hi rest.0 within cut size cut_size room offset (omega arith) (omega (arith, f)) in
                  let g : None ≡ Some w.window = sym none ∙ w.is in
                  cc

          least_none : int_le (pos 1) (lower_of cut) ≡ false
          least_none = let a = least_has o q flow p.shaped naming s.world.memory r.stands_for.sane target.rest i offset lo hi rest.0 within cut size cut_size in let b = nothing in below_one (lower_of cut) (omega (arith, ints, a, b))

          none_is : fill_plan.effect ≡ effect.Result (pointer_value l target.rest)
          none_is = on_is ∙ (ap (λ y. fill_in_window l n call target character y (window_within (offsets n target.rest))) none ∙ ap (λ b. cond {A = Effect I} b effect.Unreached (effect.Result (pointer_value l target.rest))) least_none)

          none_good : Good o q flow p naming row s r to has newest fill_plan (goes (Some (pointer m)) (with_contents start_world reach contents_of))
          unfolding apply
          none_good = written_good o q flow p naming row s r to has newest fill_plan found fine memory region.lengths row refl
              (none_stands o q flow naming row (state_of s) laid r.stands_for memory i offset size region sane nothing) (pointer_value l target.rest) (pointer m) result
              (ap (λ y. apply l n flow to newest y row) none_is)

        module _ (w : Window) (some : touched_window n target.rest cut ≡ Some w) where
          abbrev write : FillWrite
          write = record {
            bases = writable_of flow.bases.items target.rest.bases;
            start = start.window;
            window = w;
            sure = sure_window (offsets n target.rest) cut;
            one_byte = is_one_byte cut;
            zero = is_zero_byte n character;
            labels = character.labels;
            least = lower_of cut;
          }

          window_has : (x : ℕ) → offset ≤ x → x < offset + size → (w.lo ≤ x) × (x ≤ w.hi)
          window_has x from below =
              let y = touched_has o q flow p.shaped naming s.world.memory r.stands_for.sane target.rest i offset lo hi rest.0 within cut size cut_size room x from below in
              let same : y.window ≡ w = same_Some y.window w (sym y.is ∙ some) in
              subst (λ t. (t.lo ≤ x) × (x ≤ t.hi)) same (y.from, y.to)

          is_fill : IsFill write memory i offset size
          is_fill = record {
            window = window_has;
            start = (start.from, start.to);
            sure = λ y f. sure_has o q flow p.shaped naming s.world.memory r.stands_for.sane target.rest i offset lo hi rest.0 within cut size cut_size y f;
            one_byte = λ f. one_has o q flow p.shaped naming s.world.memory r.stands_for.sane target.rest i offset lo hi rest.0 within cut size cut_size f;
            least = least_has o q flow p.shaped naming s.world.memory r.stands_for.sane target.rest i offset lo hi rest.0 within cut size cut_size;
            numbers = λ a x from below f. (bits_in 1 z, la, byte_is a x from below f, character_stands.1);
            zeros = λ nil a x from below f. (la, byte_is a x from below f ∙ ap (λ y. number y la) (zero_bits (n.bounds character.num) z (bounds_have q character.num z character_stands.0) nil));
          }

          in_write : (b : ℕ) → naming i ≡ Some b → 0 < size → has_base write.bases b ≡ true
          in_write b named some_size =
              let y = rest.0 in
              let same : st.base ≡ b = same_Some st.base b (sym st.named ∙ named) in
              subst (λ t. has_base write.bases t ≡ true) same (is_writable o q flow p.shaped naming s.world.memory r.stands_for.sane given.rest i offset lo hi st within alive cut size cut_size target.rest.bases (subst (λ t. bases_has target.rest.bases t ≡ true) rest.1 y.among) (plain some_size))

          one_live : is_one_instance flow.bases.items write.bases ≡ true → 0 < size → (b j : ℕ) → has_base write.bases b ≡ true → IsLiveOf naming s.world.memory b j → j ≡ i
          one_live alone some_size b j in_set h =
              let own = in_write st.base st.named some_size in
              let t = alone_is flow.bases.items write.bases st.base own alone in
              let base = get_there flow.bases.items st.base (r.stands_for.sane.few i st.base st.named) in
              let same : b ≡ st.base = t.one b in_set in
              r.stands_for.sane.one j i st.base base.0 base.1 (not_older base.0.kind (t.single st.base base.0 base.1 own)) (h.named ∙ ap Some same) st.named (λ y. live_ended (sym h.alive ∙ y)) (λ y. live_ended (sym alive ∙ y))

          fill_is : fill_plan.effect ≡ effect.Fill write (pointer_value l target.rest)
          fill_is = on_is ∙ (ap (λ y. fill_in_window l n call target character y (window_within (offsets n target.rest))) some ∙ ap (λ y. fill_in_window l n call target character (Some w) y) start.is)

          fill_good : Good o q flow p naming row s r to has newest fill_plan (goes (Some (pointer m)) (with_contents start_world reach contents_of))
          unfolding apply
          fill_good = written_good o q flow p naming row s r to has newest fill_plan found fine memory region.lengths (write_fill l n flow write row)
              (fill_long o q flow naming row (state_of s) laid r.stands_for memory i offset size region sane write is_fill in_write one_live)
              (fill_stands o q flow naming row (state_of s) laid r.stands_for memory i offset size region sane write is_fill in_write one_live) (pointer_value l target.rest) (pointer m) result
              (ap (λ y. apply l n flow to newest y row) fill_is)

        set_good : Good o q flow p naming row s r to has newest fill_plan (goes (Some (pointer m)) (with_contents start_world reach contents_of))
        set_good = by_window (touched_window n target.rest cut) refl
          where
            by_window : (w : Option Window) → touched_window n target.rest cut ≡ w → Good o q flow p naming row s r to has newest fill_plan (goes (Some (pointer m)) (with_contents start_world reach contents_of))
            by_window None f = none_good f
            by_window (Some w) f = fill_good w f

      by_literal : (b : Bool) → (nat_lt 0 size && is_literal (storage_at s.world.memory i)) ≡ b → Good o q flow p naming row s r to has newest fill_plan (with_result (behind (cond b (stopped_by start_world rule.Strmod) (goes reach start_world)) (λ _ w. set_reply reach w)))
      by_literal true f = let a = and_parts (nat_lt 0 size) (is_literal (storage_at s.world.memory i)) f in told_stop o q flow p naming row s r to has newest fill_plan found fine rule.Strmod (literal_stop (ltb-true 0 size a.0) a.1)
      by_literal false f = set_good (λ some. by_flags (nat_lt 0 size) (is_literal (storage_at s.world.memory i)) (lt-ltb 0 size some) f)
        where
          by_flags : (a b : Bool) → a ≡ true → (a && b) ≡ false → b ≡ false
          by_flags true b g h = h
          by_flags false b g h = cc

    by_room : (b : Bool) → nat_lt (hi - offset) size ≡ b → Good o q flow p naming row s r to has newest fill_plan (with_result (behind (cond b (stopped_by start_world rule.Libptr) (goes reach start_world)) (λ _ w. behind (machine.writable size reach w) (λ _ w. set_reply reach w))))
    by_room true f = told_stop o q flow p naming row s r to has newest fill_plan found fine rule.Libptr (room_stop (ltb-true (hi - offset) size f))
    by_room false f = by_literal (let h = ltb-false (hi - offset) size f in omega (arith, h)) (nat_lt 0 size && is_literal (storage_at s.world.memory i)) refl

    room_good : Good o q flow p naming row s r to has newest fill_plan (with_result (room_reply reach start_world))
    room_good = by_room (nat_lt (hi - offset) size) refl

  pub fill_call_good : Good o q flow p naming row s r to has newest (plan_fill l n (call_of flow items wanted) row) (with_result (fill_memory m (number (bits_in 1 z) la) (machine.size_of count) (machine.with_size s.world lb)))
  unfolding plan_fill
  fill_call_good = subst (Good o q flow p naming row s r to has newest fill_plan) (sym (behind_behind (machine.reached m start_world) room_reply (λ v w. goes (Some v) w)))
      (reach_good o q flow p naming row s r to has newest items wanted vs e fill_plan found fine 0 m first
      (λ rl h. pointer_told_of rl (told_here number_trail given.violations (not (bases_empty given.rest.bases)) rl numbered h))
      (λ t w. with_result (room_reply t w)) room_good)
