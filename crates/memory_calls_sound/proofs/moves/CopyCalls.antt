-- Calls of `memcpy` and `memmove` are sound.
use Rattle.std.proofs.Common.{◌≡◌, ℕ, zero, suc, ◌+◌, ◌-◌, ◌<◌, ◌≤◌, Bool, true, false, cond, not, ◌&&◌, ◌||◌, Option, Some, None, List, [], ◌∷◌, ◌++◌, length, arith, subst, sym, refl, ap, ◌∙◌, inl, inr}
use Rattle.std.specs.Prelude.{slice_get, ℤ, pos, negsuc, ◌≤ℤ◌, is_some, nat_lt, int_le, unsigned_abs}
use Rattle.std.proofs.lemmas.Int.{ints}
use Rattle.std.proofs.lemmas.Bool.{cases_Bool, and_parts, lt-ltb, ltb-true, ltb-false}
use Rattle.std.proofs.lemmas.Option.{same_Some}
use Rattle.cc_base.specs.Lattices.{LatticeOf, OrderLaws}
use Rattle.cc_base.specs.IntegerDomains.{IntegersOf, BoundLaws}
use Rattle.cc_base.specs.NumberRanges.{Range}
use Rattle.cc_base.specs.declared.diagnostics.Rule.{Rule}
use Rattle.cc_base.specs.declared.diagnostics.Rule.TheVariants as rule
use Rattle.cfg.specs.WellFormed.{names_of, has_result}
use Rattle.cfg.specs.declared.programs.Flow.{Flow}
use Rattle.pointer_domain.specs.BaseSets.{bases_has, bases_empty}
use Rattle.value_domain.specs.Values.ValueTables.{pointer_value}
use Rattle.value_domain.specs.declared.values.values.Value.{Value}
use Rattle.value_domain.specs.declared.values.row_cells.Cell.{Cell}
use Rattle.domain_theorems.proofs.values.Numbers.{RangeHas, bounds_have}
use Rattle.store_cells.specs.declared.access_windows.Window.{Window}
use Rattle.store_objects.specs.LiveBases.{has_base, writable_of}
use Rattle.transfer_checks.specs.IntegerChecks.{sink_violations}
use Rattle.transfer_checks.specs.LibraryArguments.{writes_literal, after_write, passes_room, cut_by_room, touched_window}
use Rattle.transfer_checks.specs.ViolationSets.{violates}
use Rattle.transfer_checks.specs.declared.library_arguments.Argument.{Argument}
use Rattle.transfer_library_plans.specs.Arguments.{room_violations, literal_violations}
use Rattle.transfer_library_plans.specs.Calls.{Call}
use Rattle.transfer_library.specs.Effects.{apply}
use Rattle.transfer_library.specs.MemoryCalls.{lower_of, room_trail, target_of}
use Rattle.transfer_library_plans.specs.Plans.{planned, trail_of}
use Rattle.transfer_library_plans.specs.declared.call_plans.Effect.{Effect}
use Rattle.transfer_library_plans.specs.declared.call_plans.Effect.TheVariants as effect
use Rattle.transfer_library_plans.specs.declared.call_plans.Plan.{Plan}
use Rattle.transfer_library_plans.specs.declared.call_plans.Trail.{Trail}
use Rattle.transfer_library.specs.declared.memory_calls.Target.{Target}
use Rattle.transfer_instructions.specs.Instructions.CallSteps.{call_of}
use Rattle.memory_model.specs.Memory.Labels.{Labels, is_unlabelled}
use Rattle.memory_model.specs.Memory.Bytes.{MachinePointer, into, Byte}
use Rattle.memory_model.specs.Memory.Instances.{Memory, Instance, live, bytes_at, byte_at, life_at}
use Rattle.memory_model.specs.Memory.Scalars.{Scalar, integer, pointer}
use Rattle.memory_model.specs.Effects.LibraryCalls.{with_result}
use Rattle.memory_model.specs.Effects.LibraryChecks as machine
use Rattle.memory_model.specs.Effects.Touches.{storage_at, is_literal, set_bytes}
use Rattle.memory_model.specs.Effects.Worlds.{World, Reply, goes, behind, stopped_by}
use Rattle.semantics.specs.CfgMachine.FlowStates.{ProgramState, values_of}
use Rattle.store_sound.specs.Concretization.SoundMemory.{IsMemoryOf, IsWithin}
use Rattle.store_sound.specs.Concretization.ValueMeaning.{Naming, InGammaInto, InGammaByLife, InGammaScalar}
use Rattle.store_sound.specs.Concretization.Coverage.{state_of}
use Rattle.store_sound.specs.Operations.Shapes.{IsLaidOut}
use Rattle.store_sound.proofs.operations.Frames.{pointer_in_moves, scalar_moves}
use Rattle.store_sound.proofs.operations.LoadSound.{instance_there}
use Rattle.store_sound.proofs.operations.Slices.{get_there}
use Rattle.store_sound.proofs.operations.StorePlaces.{not_empty}
use Rattle.store_sound.proofs.operations.Windows.{WindowHas}
use Rattle.store_sound.specs.Programs.Premises.{HasPremises}
use Rattle.store_sound.specs.Regions.RegionWrites.{IsRegion}
use Rattle.store_sound.proofs.regions.BaseRows.{none_stands}
use Rattle.store_sound.proofs.regions.Regions.{alike_region}
use Rattle.library_sound.specs.SoundSteps.{IsReached}
use Rattle.library_sound.proofs.Admitted.{AreAdmitted, both_admitted}
use Rattle.library_sound.proofs.PutTemps.{IsResult}
use Rattle.library_sound.proofs.calls.Calls.{clean}
use Rattle.library_sound.proofs.strings.GivenPointers.{reach_of}
use Rattle.library_sound.proofs.strings.Trails.{still_told, told_here, goes_further}
use Rattle.library_sound.proofs.fills.Targets.{within_stands, cut_has, room_told, literal_told, is_writable, after_has, touched_has, least_has}
use Rattle.library_sound.proofs.fills.WriteCalls.{behind_behind, sink_told, Good, world_with, told_stop, written_good, value_of, given_at, argument_stands, reach_good, given_within, goes_given, given_into}
use Rattle.store_sound.proofs.operations.Windows.{WindowHas}
use Rattle.transfer_library_writes.specs.CopyWrites.{bytes_of_source, write_copy}
use Rattle.transfer_library_writes.specs.declared.copied_bytes.CopiedBytes.{CopiedBytes}
use Rattle.transfer_library_writes.specs.declared.copied_bytes.CopyWrite.{CopyWrite}
use Rattle.transfer_library.specs.MemoryCalls.{copy_in_window, plan_copy}
use Rattle.transfer_library_plans.specs.Outputs.{given_trail}
use Rattle.memory_model.specs.Effects.MemoryCalls.{may_all_come, come_over, with_region, bytes_copied, copy_memory}
use Rattle.memory_model.specs.Effects.ScalarBytes.{replaced, region}
use Rattle.memory_model.specs.Effects.StructCopies.{overlap}
use Rattle.memory_model.specs.Effects.Touches.{is_allocated}
use Rattle.memory_model.specs.Effects.Worlds.{stops, Left, with_memory}
use Rattle.library_sound.proofs.fills.WriteCalls.{plain_stop}
use Rattle.memory_calls_sound.proofs.moves.ReadBytes.{IsRead, read_moves, IsNearRead, none_near}
use Rattle.memory_calls_sound.proofs.moves.SourceBytes.{source_read, source_near}
use Rattle.memory_calls_sound.proofs.moves.CopiedCells.{IsCopy}
use Rattle.memory_calls_sound.proofs.moves.CopiedRows.{copy_stands, copy_long}
use Rattle.memory_calls_sound.proofs.moves.MovedMemory.{moved_region, moved_byte, moved_sane}

below_one : (z : ℤ) → z ≤ℤ pos 0 → int_le (pos 1) z ≡ false
below_one z h = elim (cases_Bool (int_le (pos 1) z)) [
  | inr e ↦ e
  | inl e ↦ (let g : pos 1 ≤ℤ z = grind (arith, ints) in absurd (omega (arith, ints, g, h)))
]

by_sign : (c : ℤ) → pos 0 ≤ℤ c → c ≡ pos (unsigned_abs c)
by_sign (pos k) h = refl
by_sign (negsuc k) h = absurd (omega (arith, ints, h))

some_range : (x : Range) (z : ℤ) → RangeHas x z → is_some x ≡ true
some_range None z h = absurd h
some_range (Some x) z h = refl

by_flags : (a b : Bool) → a ≡ true → (a && b) ≡ false → b ≡ false
by_flags true b g h = h
by_flags false b g h = cc

module _ {I : Type 0} {l : LatticeOf I} {n : IntegersOf I} {gamma : I → ℤ → Type 0} (o : OrderLaws l) (q : BoundLaws l n gamma) (flow : Flow) (p : HasPremises flow) (naming : Naming) (row : List (Cell I)) (s : ProgramState) (r : IsReached l n gamma flow naming row s) (to : Option ℕ) (has : has_result (names_of flow) to ≡ true) (newest : Option ℕ)
    (items : List ℕ) (wanted : Option ℕ) (vs : List Scalar) (e : values_of s.temps items ≡ Some vs) (apart : Bool)
    (d m : MachinePointer) (count : ℤ) (lb : Labels) (first : slice_get vs 0 ≡ Some (pointer d)) (second : slice_get vs 1 ≡ Some (pointer m)) (third : slice_get vs 2 ≡ Some (integer count lb)) (sized : pos 0 ≤ℤ count) where
  abbrev call : Call
  call = call_of flow items wanted

  abbrev amount : Value I
  amount = value_of o q flow p naming row s r to has newest items wanted vs e 2

  abbrev given : Argument I
  given = given_at o q flow p naming row s r to has newest items wanted vs e 0

  abbrev source : Argument I
  source = given_at o q flow p naming row s r to has newest items wanted vs e 1

  abbrev need : Range
  need = n.bounds amount.num

  abbrev cut : Range
  cut = cut_by_room n need given.rest

  abbrev both_cut : Range
  both_cut = cut_by_room n cut source.rest

  abbrev size : ℕ
  size = machine.size_of count

  -- ---- trails

  abbrev sink_trail : Trail
  sink_trail = trail_of (sink_violations amount.labels)

  abbrev given_on : Trail
  given_on = given_trail sink_trail given

  abbrev both_on : Trail
  both_on = given_trail given_on source

  abbrev room_on : Trail
  room_on = room_trail n both_on given.rest need

  abbrev fitting_on : Trail
  fitting_on = room_trail n room_on source.rest cut

  abbrev target : Target I
  target = target_of l n call fitting_on given.rest both_cut

  abbrev copy_plan : Plan I
  copy_plan = planned target.trail (copy_in_window l n call row source target (touched_window n target.rest target.count))

  amount_stands : InGammaScalar gamma naming s.world.memory amount (integer count lb)
  amount_stands = argument_stands o q flow p naming row s r to has newest items wanted vs e 2 (integer count lb) third

  size_is : count ≡ pos size
  size_is = by_sign count sized

  need_has : RangeHas need (pos size)
  need_has = subst (RangeHas need) size_is (bounds_have q amount.num count amount_stands.0)

  fitting_told : (rl : Rule) → violates fitting_on.violations rl ≡ true → violates target.trail.violations rl ≡ true
  fitting_told rl h = still_told fitting_on (literal_violations (writes_literal flow.bases.items given.rest.bases both_cut)) (not (bases_empty (after_write flow.bases.items given.rest.bases both_cut))) rl h

  room_told_of : (rl : Rule) → violates room_on.violations rl ≡ true → violates target.trail.violations rl ≡ true
  room_told_of rl h = fitting_told rl (still_told room_on (room_violations (passes_room n cut source.rest)) (is_some both_cut) rl h)

  both_told : (rl : Rule) → violates both_on.violations rl ≡ true → violates target.trail.violations rl ≡ true
  both_told rl h = room_told_of rl (still_told both_on (room_violations (passes_room n need given.rest)) (is_some cut) rl h)

  given_told : (rl : Rule) → violates given_on.violations rl ≡ true → violates target.trail.violations rl ≡ true
  given_told rl h = both_told rl (still_told given_on source.violations (not (bases_empty source.rest.bases)) rl h)

  sink_told_of : (rl : Rule) → violates (sink_violations amount.labels) rl ≡ true → violates target.trail.violations rl ≡ true
  sink_told_of rl h = given_told rl (still_told sink_trail given.violations (not (bases_empty given.rest.bases)) rl h)

  abbrev found : List Rule
  found = s.world.violated ++ cond (not (is_unlabelled lb)) (rule.Taintsink ∷ []) []

  fine : AreAdmitted copy_plan.violations found
  fine = both_admitted copy_plan.violations s.world.violated (cond (not (is_unlabelled lb)) (rule.Taintsink ∷ []) []) (clean q flow p naming row s r copy_plan.violations) (sink_told lb copy_plan.violations amount.labels amount_stands.1 sink_told_of)

  abbrev start_world : World
  start_world = world_with o q flow p naming row s r to has newest found

  abbrev Fine : Reply (Option Scalar) → Type 0
  Fine reply = Good o q flow p naming row s r to has newest copy_plan reply

  -- ---- what the machine does behind each of its checks

  abbrev copy_reply : machine.Reach → machine.Reach → World → Reply Scalar
  copy_reply a b w = bytes_copied size apart d a b w

  abbrev literal_reply : machine.Reach → machine.Reach → World → Reply Scalar
  literal_reply a b w = behind (machine.writable size a w) (λ _ w. copy_reply a b w)

  abbrev fit_reply : machine.Reach → machine.Reach → World → Reply Scalar
  fit_reply a b w = behind (machine.fitting size b w) (λ _ w. literal_reply a b w)

  abbrev room_reply : machine.Reach → machine.Reach → World → Reply Scalar
  room_reply a b w = behind (machine.fitting size a w) (λ _ w. fit_reply a b w)

  abbrev source_reply : machine.Reach → World → Reply Scalar
  source_reply a w = behind (machine.reached m w) (room_reply a)

  module _ (i offset lo hi : ℕ) (is : d ≡ into i offset lo hi) (alive : life_at s.world.memory i ≡ live) where
    here : slice_get vs 0 ≡ Some (pointer (into i offset lo hi))
    here = first ∙ ap (λ y. Some (pointer y)) is

    within : IsWithin s.world.memory i offset lo hi
    within = given_within o q flow p naming row s r to has newest items wanted vs e 0 i offset lo hi here alive

    st : InGammaInto gamma naming s.world.memory given.rest i offset lo hi
    st = given_into o q flow p naming row s r to has newest items wanted vs e 0 i offset lo hi here alive

    given_goes : given_on.goes_on ≡ true
    given_goes = goes_further sink_trail given.violations (not (bases_empty given.rest.bases)) refl (goes_given o q flow p naming row s r to has newest items wanted vs e 0 i offset lo hi here alive)

    abbrev a : machine.Reach
    a = reach_of i offset hi

    module _ (j at low high : ℕ) (right_is : m ≡ into j at low high) (right_alive : life_at s.world.memory j ≡ live) where
      there : slice_get vs 1 ≡ Some (pointer (into j at low high))
      there = second ∙ ap (λ y. Some (pointer y)) right_is

      right_within : IsWithin s.world.memory j at low high
      right_within = given_within o q flow p naming row s r to has newest items wanted vs e 1 j at low high there right_alive

      right_st : InGammaInto gamma naming s.world.memory source.rest j at low high
      right_st = given_into o q flow p naming row s r to has newest items wanted vs e 1 j at low high there right_alive

      both_go : both_on.goes_on ≡ true
      both_go = goes_further given_on source.violations (not (bases_empty source.rest.bases)) given_goes (goes_given o q flow p naming row s r to has newest items wanted vs e 1 j at low high there right_alive)

      abbrev b : machine.Reach
      b = reach_of j at high

      room_stop : hi - offset < size → violates copy_plan.violations rule.Libptr ≡ true
      room_stop h = room_told_of rule.Libptr (told_here both_on (room_violations (passes_room n need given.rest)) (is_some cut) rule.Libptr both_go (room_told o q flow p.shaped naming s.world.memory r.stands_for.sane given.rest i offset lo hi st within need size need_has h))

      module _ (room : size ≤ hi - offset) where
        cut_size : RangeHas cut (pos size)
        cut_size = cut_has o q flow p.shaped naming s.world.memory r.stands_for.sane given.rest i offset lo hi st within need size need_has room

        room_goes : room_on.goes_on ≡ true
        room_goes = goes_further both_on (room_violations (passes_room n need given.rest)) (is_some cut) both_go (some_range cut (pos size) cut_size)

        source_stop : high - at < size → violates copy_plan.violations rule.Libptr ≡ true
        source_stop h = fitting_told rule.Libptr (told_here room_on (room_violations (passes_room n cut source.rest)) (is_some both_cut) rule.Libptr room_goes (room_told o q flow p.shaped naming s.world.memory r.stands_for.sane source.rest j at low high right_st right_within cut size cut_size h))

        module _ (right_room : size ≤ high - at) where
          both_size : RangeHas both_cut (pos size)
          both_size = cut_has o q flow p.shaped naming s.world.memory r.stands_for.sane source.rest j at low high right_st right_within cut size cut_size right_room

          fitted : fitting_on.goes_on ≡ true
          fitted = goes_further room_on (room_violations (passes_room n cut source.rest)) (is_some both_cut) room_goes (some_range both_cut (pos size) both_size)

          literal_stop : 0 < size → is_literal (storage_at s.world.memory i) ≡ true → violates copy_plan.violations rule.Strmod ≡ true
          literal_stop some lit = told_here fitting_on (literal_violations (writes_literal flow.bases.items given.rest.bases both_cut)) (not (bases_empty (after_write flow.bases.items given.rest.bases both_cut))) rule.Strmod fitted
              (literal_told o q flow p.shaped naming s.world.memory r.stands_for.sane given.rest i offset lo hi st within alive both_cut size both_size some lit)

          -- ---- the bytes are copied

          module _ (plain : 0 < size → is_literal (storage_at s.world.memory i) ≡ false) where
            after_there : bases_has (after_write flow.bases.items given.rest.bases both_cut) st.base ≡ true
            after_there = after_has o q flow p.shaped naming s.world.memory r.stands_for.sane given.rest i offset lo hi st within alive both_cut size both_size plain

            on : target.trail.goes_on ≡ true
            on = goes_further fitting_on (literal_violations (writes_literal flow.bases.items given.rest.bases both_cut)) (not (bases_empty (after_write flow.bases.items given.rest.bases both_cut))) fitted (ap not (not_empty (after_write flow.bases.items given.rest.bases both_cut) st.base after_there))

            rest : (y : InGammaInto gamma naming s.world.memory target.rest i offset lo hi) × (y.base ≡ st.base)
            rest = within_stands o q flow p.shaped naming s.world.memory r.stands_for.sane given.rest i offset lo hi st within (after_write flow.bases.items given.rest.bases both_cut) after_there

            fits : offset + size ≤ length (bytes_at s.world.memory i)
            fits = let x = within.within in let y = within.below in omega (arith, x, y, room)

            right_fits : at + size ≤ length (bytes_at s.world.memory j)
            right_fits = let x = right_within.within in let y = right_within.below in omega (arith, x, y, right_room)

            laid : IsLaidOut flow (length row)
            laid = subst (IsLaidOut flow) (sym r.long) p.laid

            on_is : copy_plan.effect ≡ copy_in_window l n call row source target (touched_window n target.rest both_cut)
            on_is = ap (λ z. cond {A = Effect I} z (copy_in_window l n call row source target (touched_window n target.rest both_cut)) effect.Unreached) on

            abbrev it : (x : Instance) × (slice_get s.world.memory i ≡ Some x)
            it = instance_there s.world.memory i alive

            module _ (may : (is_allocated (storage_at s.world.memory i) || may_all_come (region (bytes_at s.world.memory i) offset size) (region (bytes_at s.world.memory j) at size)) ≡ true) where
              abbrev memory : Memory
              memory = set_bytes s.world.memory i (replaced (bytes_at s.world.memory i) offset (come_over (is_allocated (storage_at s.world.memory i)) (region (bytes_at s.world.memory i) offset size) (region (bytes_at s.world.memory j) at size)))

              came : IsRegion s.world.memory memory i offset size
              came = moved_region flow.model flow.bases.items p.shaped naming s.world.memory r.stands_for.sane i offset j at size it.0 it.1 fits right_fits right_st.base right_st.named may

              sane : IsMemoryOf flow.model flow.bases.items naming memory
              sane = moved_sane flow.model flow.bases.items p.shaped naming s.world.memory r.stands_for.sane i offset j at size it.0 it.1 fits right_fits right_st.base right_st.named may

              result : IsResult q flow p naming memory (pointer_value l target.rest) (pointer d)
              result = subst (λ y. IsResult q flow p naming memory (pointer_value l target.rest) (pointer y)) (sym is) (record {
                stands_for = scalar_moves (alike_region came) gamma naming (pointer_value l target.rest) (pointer (into i offset lo hi)) (subst (λ y. InGammaByLife gamma naming s.world.memory target.rest y i offset lo hi) (sym alive) rest.0);
                near = tt;
                within = pointer_in_moves (alike_region came) (into i offset lo hi) within;
              })

              abbrev reply : Reply (Option Scalar)
              reply = goes (Some (pointer d)) (with_memory start_world memory)

              -- no byte can be touched, so that none is
              module _ (none : touched_window n target.rest both_cut ≡ None) where
                nothing : size ≡ 0
                nothing = by_size size refl
                  where
                    by_size : (k : ℕ) → size ≡ k → size ≡ 0
                    by_size zero f = f
                    by_size (suc k) f =
                        let w = touched_has o q flow p.shaped naming s.world.memory r.stands_for.sane target.rest i offset lo hi rest.0 within both_cut size both_size room offset (omega arith) (omega (arith, f)) in
                        let g : None ≡ Some w.window = sym none ∙ w.is in
                        cc

                least_none : int_le (pos 1) (lower_of both_cut) ≡ false
                least_none = let x = least_has o q flow p.shaped naming s.world.memory r.stands_for.sane target.rest i offset lo hi rest.0 within both_cut size both_size in let y = nothing in below_one (lower_of both_cut) (omega (arith, ints, x, y))

                none_is : copy_plan.effect ≡ effect.Result (pointer_value l target.rest)
                none_is = on_is ∙ (ap (λ y. copy_in_window l n call row source target y) none ∙ ap (λ z. cond {A = Effect I} z effect.Unreached (effect.Result (pointer_value l target.rest))) least_none)

                none_good : Fine reply
                unfolding apply
                none_good = written_good o q flow p naming row s r to has newest copy_plan found fine memory came.lengths row refl
                    (none_stands o q flow naming row (state_of s) laid r.stands_for memory i offset size came sane nothing) (pointer_value l target.rest) (pointer d) result
                    (ap (λ y. apply l n flow to newest y row) none_is)

              module _ (w : Window) (some : touched_window n target.rest both_cut ≡ Some w) where
                abbrev bytes : CopiedBytes I
                bytes = bytes_of_source l n flow row source.rest.bases (touched_window n source.rest both_cut)

                abbrev write : CopyWrite I
                write = record { bases = writable_of flow.bases.items target.rest.bases; window = w; bytes = bytes_of_source l n flow row source.rest.bases (touched_window n source.rest both_cut) }

                window_has : (x : ℕ) → offset ≤ x → x < offset + size → (w.lo ≤ x) × (x ≤ w.hi)
                window_has x from below =
                    let y = touched_has o q flow p.shaped naming s.world.memory r.stands_for.sane target.rest i offset lo hi rest.0 within both_cut size both_size room x from below in
                    let same : y.window ≡ w = same_Some y.window w (sym y.is ∙ some) in
                    subst (λ t. (t.lo ≤ x) × (x ≤ t.hi)) same (y.from, y.to)

                right_window : (x : ℕ) → at ≤ x → x < at + size → WindowHas (touched_window n source.rest both_cut) x
                right_window x from below = touched_has o q flow p.shaped naming s.world.memory r.stands_for.sane source.rest j at low high right_st right_within both_cut size both_size right_room x from below

                bytes_near : IsNearRead o q (bytes_of_source l n flow row source.rest.bases (touched_window n source.rest both_cut))
                bytes_near = by_window (touched_window n source.rest both_cut)
                  where
                    by_window : (t : Option Window) → IsNearRead o q (bytes_of_source l n flow row source.rest.bases t)
                    by_window None = none_near o q
                    by_window (Some t) = source_near o q flow row t source.rest.bases

                -- each byte that is read
                read_byte : (x : ℕ) (y : Byte) → at ≤ x → x < at + size → byte_at s.world.memory j x ≡ Some y → IsRead gamma naming s.world.memory (bytes_of_source l n flow row source.rest.bases (touched_window n source.rest both_cut)) y.content
                read_byte x y from below f =
                    let t = right_window x from below in
                    let base = get_there flow.bases.items right_st.base (r.stands_for.sane.few j right_st.base right_st.named) in
                    subst (λ z. IsRead gamma naming s.world.memory (bytes_of_source l n flow row source.rest.bases z) y.content) (sym t.is)
                    (source_read o q flow naming row (state_of s) t.window y.content p.shaped p.padding r.stands_for j x right_st.base base.0 base.1 right_st.named right_alive t.from t.to y f refl source.rest.bases right_st.among)

                is_copy : IsCopy o q naming write memory i offset size
                is_copy = record {
                  window = window_has;
                  bytes = λ x y from below f.
                      let t = moved_byte flow.model flow.bases.items p.shaped naming s.world.memory r.stands_for.sane i offset j at size it.0 it.1 fits right_fits right_st.base right_st.named may x y from below f in
                      subst (IsRead gamma naming memory bytes) (sym t.content)
                      (read_moves (alike_region came) gamma naming bytes t.source.content (read_byte (at + (x - offset)) t.source (omega arith) (omega (arith, from, below)) t.from));
                  near = bytes_near;
                }

                in_write : (c : ℕ) → naming i ≡ Some c → 0 < size → has_base write.bases c ≡ true
                in_write c named some_size =
                    let y = rest.0 in
                    let same : st.base ≡ c = same_Some st.base c (sym st.named ∙ named) in
                    subst (λ t. has_base write.bases t ≡ true) same (is_writable o q flow p.shaped naming s.world.memory r.stands_for.sane given.rest i offset lo hi st within alive both_cut size both_size target.rest.bases (subst (λ t. bases_has target.rest.bases t ≡ true) rest.1 y.among) (plain some_size))

                copy_is : copy_plan.effect ≡ effect.Copy write (pointer_value l target.rest)
                copy_is = on_is ∙ ap (λ y. copy_in_window l n call row source target y) some

                copy_good : Fine reply
                unfolding apply
                copy_good = written_good o q flow p naming row s r to has newest copy_plan found fine memory came.lengths (write_copy l n flow write row)
                    (copy_long o q flow naming row (state_of s) laid r.stands_for memory i offset size came sane write is_copy in_write)
                    (copy_stands o q flow naming row (state_of s) laid r.stands_for memory i offset size came sane write is_copy in_write) (pointer_value l target.rest) (pointer d) result
                    (ap (λ y. apply l n flow to newest y row) copy_is)

              moved_good : Fine reply
              moved_good = by_window (touched_window n target.rest both_cut) refl
                where
                  by_window : (w : Option Window) → touched_window n target.rest both_cut ≡ w → Fine reply
                  by_window None f = none_good f
                  by_window (Some w) f = copy_good w f

            by_tags : (c : Bool) → (is_allocated (storage_at s.world.memory i) || may_all_come (region (bytes_at s.world.memory i) offset size) (region (bytes_at s.world.memory j) at size)) ≡ c
                → Fine (with_result (cond c (goes (pointer d) (with_region start_world a (come_over (is_allocated (storage_at s.world.memory i)) (region (bytes_at s.world.memory i) offset size) (region (bytes_at s.world.memory j) at size)))) (stops Left start_world)))
            by_tags true f = moved_good f
            by_tags false f = plain_stop o q flow p naming row s r to has newest copy_plan found fine Left

            copied_good : Fine (with_result (copy_reply a b start_world))
            copied_good = by_overlap (apart && overlap a.spot size b.spot size && nat_lt 0 size)
              where
                by_overlap : (c : Bool) → Fine (with_result (cond c (stops Left start_world) (cond (is_allocated (storage_at s.world.memory i) || may_all_come (region (bytes_at s.world.memory i) offset size) (region (bytes_at s.world.memory j) at size))
                    (goes (pointer d) (with_region start_world a (come_over (is_allocated (storage_at s.world.memory i)) (region (bytes_at s.world.memory i) offset size) (region (bytes_at s.world.memory j) at size)))) (stops Left start_world))))
                by_overlap true = plain_stop o q flow p naming row s r to has newest copy_plan found fine Left
                by_overlap false = by_tags _ refl

          by_literal : (c : Bool) → (nat_lt 0 size && is_literal (storage_at s.world.memory i)) ≡ c → Fine (with_result (behind (cond c (stopped_by start_world rule.Strmod) (goes a start_world)) (λ _ w. copy_reply a b w)))
          by_literal true f = let x = and_parts (nat_lt 0 size) (is_literal (storage_at s.world.memory i)) f in told_stop o q flow p naming row s r to has newest copy_plan found fine rule.Strmod (literal_stop (ltb-true 0 size x.0) x.1)
          by_literal false f = copied_good (λ some. by_flags (nat_lt 0 size) (is_literal (storage_at s.world.memory i)) (lt-ltb 0 size some) f)

        by_source : (c : Bool) → nat_lt (high - at) size ≡ c → Fine (with_result (behind (cond c (stopped_by start_world rule.Libptr) (goes b start_world)) (λ _ w. literal_reply a b w)))
        by_source true f = told_stop o q flow p naming row s r to has newest copy_plan found fine rule.Libptr (source_stop (ltb-true (high - at) size f))
        by_source false f = by_literal (let h = ltb-false (high - at) size f in omega (arith, h)) (nat_lt 0 size && is_literal (storage_at s.world.memory i)) refl

      by_room : (c : Bool) → nat_lt (hi - offset) size ≡ c → Fine (with_result (behind (cond c (stopped_by start_world rule.Libptr) (goes a start_world)) (λ _ w. fit_reply a b w)))
      by_room true f = told_stop o q flow p naming row s r to has newest copy_plan found fine rule.Libptr (room_stop (ltb-true (hi - offset) size f))
      by_room false f = by_source (let h = ltb-false (hi - offset) size f in omega (arith, h)) (nat_lt (high - at) size) refl

      room_good : Fine (with_result (room_reply a b start_world))
      room_good = by_room (nat_lt (hi - offset) size) refl

    source_good : Fine (with_result (source_reply a start_world))
    source_good = subst Fine (sym (behind_behind (machine.reached m start_world) (room_reply a) (λ v w. goes (Some v) w)))
        (reach_good o q flow p naming row s r to has newest items wanted vs e copy_plan found fine 1 m second
        (λ rl h. both_told rl (told_here given_on source.violations (not (bases_empty source.rest.bases)) rl given_goes h))
        (λ t w. with_result (room_reply a t w)) room_good)

  pub copy_call_good : Good o q flow p naming row s r to has newest (plan_copy l n (call_of flow items wanted) row) (with_result (copy_memory apart d m (machine.size_of count) (machine.with_size s.world lb)))
  unfolding plan_copy
  copy_call_good = subst Fine (sym (behind_behind (machine.reached d start_world) source_reply (λ v w. goes (Some v) w)))
      (reach_good o q flow p naming row s r to has newest items wanted vs e copy_plan found fine 0 d first
      (λ rl h. given_told rl (told_here sink_trail given.violations (not (bases_empty given.rest.bases)) rl refl h))
      (λ t w. with_result (source_reply t w)) source_good)
