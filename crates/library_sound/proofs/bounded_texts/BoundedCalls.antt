-- Calls of `strncpy` are sound.
use Rattle.std.proofs.Common.{◌≡◌, ℕ, zero, suc, ◌+◌, ◌-◌, ◌<◌, ◌≤◌, Bool, true, false, cond, not, ◌&&◌, ◌||◌, ◌==◌, Option, Some, None, List, [], ◌∷◌, ◌++◌, length, take, arith, subst, sym, refl, ap, ◌∙◌, inl, inr}
use Rattle.std.specs.Prelude.{slice_get, ℤ, pos, negsuc, ◌≤ℤ◌, is_some, nat_lt, int_le, min, unsigned_abs, replicate}
use Rattle.std.proofs.lemmas.Int.{ints}
use Rattle.std.proofs.lemmas.Bool.{cases_Bool, and_parts, and_from, or_left, or_right, lt-ltb, ltb-true, ltb-false, eqb-true}
use Rattle.std.proofs.lemmas.List.{length-append, length-map, length-replicate, length-take-le}
use Rattle.std.proofs.lemmas.Option.{same_Some}
use Rattle.cc_base.specs.Lattices.{LatticeOf, OrderLaws}
use Rattle.cc_base.specs.IntegerDomains.{IntegersOf, BoundLaws}
use Rattle.cc_base.specs.IntegerLaws.{SoundLaws}
use Rattle.cc_base.specs.NumberRanges.{Range, upper_or}
use Rattle.cc_base.specs.declared.diagnostics.Rule.{Rule}
use Rattle.cc_base.specs.declared.diagnostics.Rule.TheVariants as rule
use Rattle.c_layout.specs.declared.shapes.BaseInfo.{BaseInfo}
use Rattle.cfg.specs.WellFormed.{names_of, has_result}
use Rattle.cfg.specs.declared.programs.Flow.{Flow}
use Rattle.pointer_domain.specs.BaseSets.{bases_has, bases_empty}
use Rattle.pointer_domain.specs.PointerTables.{offsets}
use Rattle.pointer_domain.specs.declared.pointer_sets.Pointers.{Pointers}
use Rattle.value_domain.specs.Values.LabelSets.{labels_leq, labels_order}
use Rattle.value_domain.specs.Values.ValueTables.{pointer_value}
use Rattle.value_domain.specs.declared.values.values.Value.{Value}
use Rattle.value_domain.specs.declared.values.row_cells.Cell.{Cell}
use Rattle.domain_theorems.proofs.values.Numbers.{RangeHas, bounds_have, upper_above}
use Rattle.store_cells.specs.declared.access_windows.Window.{Window}
use Rattle.store_cells.specs.AccessWindows.{window_within}
use Rattle.store_objects.specs.LiveBases.{most_bases, has_base, writable_of, is_one_instance}
use Rattle.transfer_checks.specs.IntegerChecks.{sink_violations}
use Rattle.transfer_checks.specs.LibraryArguments.{writes_literal, after_write, passes_room, cut_by_room, touched_window}
use Rattle.transfer_checks.specs.ViolationSets.{violates}
use Rattle.transfer_checks.specs.declared.library_arguments.Argument.{Argument}
use Rattle.transfer_checks.specs.declared.string_scans.Scanned.{Scanned}
use Rattle.transfer_library_plans.specs.Arguments.{string_violations, room_violations, literal_violations}
use Rattle.transfer_library_plans.specs.Calls.{Call}
use Rattle.transfer_library.specs.Effects.{apply}
use Rattle.transfer_library.specs.MemoryCalls.{lower_of, is_one_byte, room_trail, target_of}
use Rattle.transfer_library_plans.specs.Outputs.{given_trail, scan_at}
use Rattle.transfer_library_plans.specs.Plans.{trail_of, checked}
use Rattle.transfer_library_writes.specs.Sources.{characters_of, reads_blank_in}
use Rattle.transfer_library.specs.StringCalls.{text_effect, text_from_start, source_characters, reads_no_string, plan_strncpy}
use Rattle.transfer_library_writes.specs.TextWrites.{character_value, write_text}
use Rattle.transfer_library_plans.specs.declared.call_plans.Effect.{Effect}
use Rattle.transfer_library_plans.specs.declared.call_plans.Effect.TheVariants as effect
use Rattle.transfer_library_plans.specs.declared.call_plans.Plan.{Plan}
use Rattle.transfer_library_plans.specs.declared.call_plans.Trail.{Trail}
use Rattle.transfer_library.specs.declared.memory_calls.Target.{Target}
use Rattle.transfer_library_writes.specs.declared.source_bytes.Characters.{Characters}
use Rattle.transfer_library_writes.specs.declared.text_writes.TextWrite.{TextWrite}
use Rattle.transfer_library_writes.specs.declared.text_writes.ZeroRule.TheVariants as zero_rule
use Rattle.transfer_sound.specs.CallSteps.{call_of}
use Rattle.memory_model.specs.Memory.Labels.{Labels, no_labels, is_unlabelled}
use Rattle.memory_model.specs.Memory.Bytes.{MachinePointer, into, Content, indeterminate, number, part, Byte}
use Rattle.memory_model.specs.Memory.Instances.{Memory, live, bytes_at, byte_at, life_at}
use Rattle.memory_model.specs.Memory.Numbers.{Labelled, number_of}
use Rattle.memory_model.specs.Memory.Scalars.{Scalar, integer, pointer}
use Rattle.memory_model.specs.Effects.LibraryCalls.{with_result}
use Rattle.memory_model.specs.Effects.LibraryChecks as machine
use Rattle.memory_model.specs.Effects.MemoryCalls.{with_contents}
use Rattle.memory_model.specs.Effects.ScalarBytes.{region, contents, refilled}
use Rattle.memory_model.specs.Effects.StringCalls.{written, padded, fill_padded, copy_padded}
use Rattle.memory_model.specs.Effects.StructCopies.{overlap}
use Rattle.memory_model.specs.Effects.Touches.{storage_at, is_literal, set_bytes}
use Rattle.memory_model.specs.Effects.Worlds.{World, Left, Reply, goes, stops, behind, stopped_by}
use Rattle.semantics.specs.CfgMachine.FlowStates.{ProgramState, values_of}
use Rattle.store_sound.specs.Concretization.Matching.{number_in}
use Rattle.store_sound.specs.Concretization.SeenLabels.{as_set}
use Rattle.store_sound.specs.Concretization.SoundMemory.{IsContentIn, IsMemoryOf, IsWithin}
use Rattle.store_sound.specs.Concretization.ValueMeaning.{Naming, InGammaInto, InGammaByLife, InGammaScalar}
use Rattle.store_sound.specs.Concretization.RowMeaning.{IsLiveOf}
use Rattle.store_sound.specs.Concretization.Coverage.{state_of}
use Rattle.store_sound.specs.Operations.Shapes.{AreShaped, IsLaidOut}
use Rattle.store_sound.proofs.operations.Frames.{pointer_in_moves, scalar_moves}
use Rattle.store_sound.proofs.operations.LoadSound.{instance_there}
use Rattle.store_sound.proofs.operations.Reading.{region_at, region_length}
use Rattle.store_sound.proofs.operations.Slices.{get_there, get_map}
use Rattle.store_sound.proofs.operations.StoreLeaves.{live_ended, not_older}
use Rattle.store_sound.proofs.operations.StorePlaces.{not_empty}
use Rattle.store_sound.proofs.operations.Windows.{WindowHas}
use Rattle.store_sound.specs.Programs.Premises.{HasPremises}
use Rattle.store_sound.specs.Regions.RegionWrites.{IsRegion}
use Rattle.store_sound.proofs.regions.BaseRows.{none_stands}
use Rattle.store_sound.proofs.regions.ContentRegions.{IsWritten, contents_written, contents_sane, region_content}
use Rattle.store_sound.proofs.regions.Regions.{alike_region}
use Rattle.transfer_sound.specs.Values.SoundSteps.{IsReached}
use Rattle.transfer_sound.proofs.values.Admitted.{AreAdmitted, both_admitted}
use Rattle.transfer_sound.proofs.values.PutTemps.{IsResult}
use Rattle.library_sound.proofs.calls.Calls.{clean}
use Rattle.library_sound.proofs.strings.GivenPointers.{reach_of}
use Rattle.library_sound.proofs.strings.Trails.{still_told, told_here, goes_further}
use Rattle.library_sound.proofs.fills.Targets.{alone_is, within_stands, cut_has, room_told, literal_told, is_writable, after_has, start_has, touched_has, least_has, one_has}
use Rattle.library_sound.proofs.fills.WriteCalls.{behind_behind, sink_told, Good, world_with, told_stop, plain_stop, written_good, value_of, given_at, argument_stands, reach_good, given_within, goes_given, given_into}
use Rattle.library_sound.specs.Texts.TextWrites.{IsTextWrite}
use Rattle.library_sound.proofs.texts.SourceCharacters.{source_number, source_labels}
use Rattle.library_sound.proofs.texts.TextWrites.{text_write_stands, text_write_long}
use Rattle.library_sound.proofs.bounded_texts.BlankBytes.{blank_told}
use Rattle.library_sound.proofs.bounded_texts.FirstCharacters.{IsCounted, counted, IsOpen, runs_out, has_hole, open_end, unended_first, padded_at}
use Rattle.library_sound.proofs.bounded_texts.KnownScans.{unended_unknown}

-- ---- bytes that a call goes over

below_one : (z : ℤ) → z ≤ℤ pos 0 → int_le (pos 1) z ≡ false
below_one z h = elim (cases_Bool (int_le (pos 1) z)) [
  | inr e ↦ e
  | inl e ↦ (let g : pos 1 ≤ℤ z = grind (arith, ints) in absurd (omega (arith, ints, g, h)))
]

zero_number : (signed : Bool) (y : Labelled) → y.number ≡ 0 → number_of signed (y ∷ []) ≡ pos 0
zero_number true y e = ap (λ z. number_of true (record { number = z; labels = y.labels } ∷ [])) e
zero_number false y e = ap (λ z. number_of false (record { number = z; labels = y.labels } ∷ [])) e

abbrev digit_of : Content → ℕ
digit_of indeterminate = 0
digit_of (number k la) = k
digit_of (part x k) = 0

some_range : (x : Range) (z : ℤ) → RangeHas x z → is_some x ≡ true
some_range None z h = absurd h
some_range (Some x) z h = refl

module _ {I : Type 0} {l : LatticeOf I} {n : IntegersOf I} {gamma : I → ℤ → Type 0} (o : OrderLaws l) (q : BoundLaws l n gamma) (flow : Flow) (shaped : AreShaped flow.bases.items) (naming : Naming) (memory : Memory) (sane : IsMemoryOf flow.model flow.bases.items naming memory)
    (p : Pointers I) (i offset lo hi : ℕ) (st : InGammaInto gamma naming memory p i offset lo hi) (inside : IsWithin memory i offset lo hi) where
  -- the first of the bytes that a call goes over, where there is room for them
  pub first_touched : (need : Range) (size k : ℕ) → RangeHas need (pos size) → k ≤ size → k ≤ hi - offset → (x : ℕ) → offset ≤ x → x < offset + k → WindowHas (touched_window n p need) x
  unfolding touched_window
  first_touched need size k has below room x from to =
      let a = upper_above need (pos size) has in
      touched_has o q flow shaped naming memory sane p i offset lo hi st inside (Some (pos 0, upper_or (pos 0) need)) k (omega (arith, ints), omega (arith, ints, a, below)) room x from to

module _ {I : Type 0} {l : LatticeOf I} {n : IntegersOf I} {gamma : I → ℤ → Type 0} (o : OrderLaws l) (q : BoundLaws l n gamma) (c : SoundLaws l n gamma) (flow : Flow) (p : HasPremises flow) (naming : Naming) (row : List (Cell I)) (s : ProgramState) (r : IsReached l n gamma flow naming row s) (to : Option ℕ) (has : has_result (names_of flow) to ≡ true) (newest : Option ℕ)
    (items : List ℕ) (wanted : Option ℕ) (vs : List Scalar) (e : values_of s.temps items ≡ Some vs)
    (d : MachinePointer) (m : MachinePointer) (count : ℤ) (lb : Labels) (first : slice_get vs 0 ≡ Some (pointer d)) (second : slice_get vs 1 ≡ Some (pointer m)) (third : slice_get vs 2 ≡ Some (integer count lb)) (sized : pos 0 ≤ℤ count) where
  abbrev call : Call
  call = call_of flow items wanted

  abbrev amount : Value I
  amount = value_of o q flow p naming row s r to has newest items wanted vs e 2

  abbrev given : Argument I
  given = given_at o q flow p naming row s r to has newest items wanted vs e 0

  abbrev source : Argument I
  source = given_at o q flow p naming row s r to has newest items wanted vs e 1

  abbrev scan : Scanned I
  scan = scan_at l n call row source

  abbrev need : Range
  need = n.bounds amount.num

  abbrev cut : Range
  cut = cut_by_room n need given.rest

  abbrev size : ℕ
  size = machine.size_of count

  -- ---- trails

  abbrev sink_trail : Trail
  sink_trail = trail_of (sink_violations amount.labels)

  abbrev first_trail : Trail
  first_trail = given_trail sink_trail given

  abbrev both_trail : Trail
  both_trail = given_trail first_trail source

  abbrev text_trail : Trail
  text_trail = checked both_trail (string_violations (reads_no_string l n call row source.rest scan.unknown need)) true

  abbrev fitting_trail : Trail
  fitting_trail = room_trail n text_trail given.rest need

  abbrev target : Target I
  target = target_of l n call fitting_trail given.rest cut

  abbrev letters : Characters I
  letters = source_characters l n call row source.rest cut

  abbrev bounded_plan : Plan I
  bounded_plan = text_from_start l n call target letters zero_rule.Any

  amount_stands : InGammaScalar gamma naming s.world.memory amount (integer count lb)
  amount_stands = argument_stands o q flow p naming row s r to has newest items wanted vs e 2 (integer count lb) third

  size_is : count ≡ pos size
  size_is = by_sign count sized
    where
      by_sign : (z : ℤ) → pos 0 ≤ℤ z → z ≡ pos (unsigned_abs z)
      by_sign (pos k) h = refl
      by_sign (negsuc k) h = absurd (omega (arith, ints, h))

  need_has : RangeHas need (pos size)
  need_has = subst (RangeHas need) size_is (bounds_have q amount.num count amount_stands.0)

  literal_on : (rl : Rule) → violates fitting_trail.violations rl ≡ true → violates target.trail.violations rl ≡ true
  literal_on rl h = still_told fitting_trail (literal_violations (writes_literal flow.bases.items given.rest.bases cut)) (not (bases_empty (after_write flow.bases.items given.rest.bases cut))) rl h

  room_on : (rl : Rule) → violates text_trail.violations rl ≡ true → violates target.trail.violations rl ≡ true
  room_on rl h = literal_on rl (still_told text_trail (room_violations (passes_room n need given.rest)) (is_some cut) rl h)

  string_on : (rl : Rule) → violates both_trail.violations rl ≡ true → violates target.trail.violations rl ≡ true
  string_on rl h = room_on rl (still_told both_trail (string_violations (reads_no_string l n call row source.rest scan.unknown need)) true rl h)

  source_on : (rl : Rule) → violates first_trail.violations rl ≡ true → violates target.trail.violations rl ≡ true
  source_on rl h = string_on rl (still_told first_trail source.violations (not (bases_empty source.rest.bases)) rl h)

  sink_on : (rl : Rule) → violates (sink_violations amount.labels) rl ≡ true → violates target.trail.violations rl ≡ true
  sink_on rl h = source_on rl (still_told sink_trail given.violations (not (bases_empty given.rest.bases)) rl h)

  abbrev found : List Rule
  found = s.world.violated ++ cond (not (is_unlabelled lb)) (rule.Taintsink ∷ []) []

  fine : AreAdmitted bounded_plan.violations found
  fine = both_admitted bounded_plan.violations s.world.violated (cond (not (is_unlabelled lb)) (rule.Taintsink ∷ []) []) (clean q flow p naming row s r bounded_plan.violations) (sink_told lb bounded_plan.violations amount.labels amount_stands.1 sink_on)

  abbrev start_world : World
  start_world = world_with o q flow p naming row s r to has newest found

  abbrev Fine : Reply (Option Scalar) → Type 0
  Fine reply = Good o q flow p naming row s r to has newest bounded_plan reply

  -- ---- what the machine does behind each of its checks

  abbrev fit_reply : machine.Reach → machine.Reach → ℕ → World → Reply Scalar
  fit_reply a b k w = behind (machine.fitting size a w) (λ _ w. behind (machine.writable size a w) (λ _ w. fill_padded d size k a b w))

  abbrev scan_reply : machine.Reach → machine.Reach → World → Reply Scalar
  scan_reply a b w = behind (machine.length_within size b w) (fit_reply a b)

  abbrev source_reply : machine.Reach → World → Reply Scalar
  source_reply a w = behind (machine.reached m w) (scan_reply a)

  module _ (i offset lo hi : ℕ) (is : d ≡ into i offset lo hi) (alive : life_at s.world.memory i ≡ live) where
    here : slice_get vs 0 ≡ Some (pointer (into i offset lo hi))
    here = first ∙ ap (λ y. Some (pointer y)) is

    within : IsWithin s.world.memory i offset lo hi
    within = given_within o q flow p naming row s r to has newest items wanted vs e 0 i offset lo hi here alive

    st : InGammaInto gamma naming s.world.memory given.rest i offset lo hi
    st = given_into o q flow p naming row s r to has newest items wanted vs e 0 i offset lo hi here alive

    given_on : first_trail.goes_on ≡ true
    given_on = goes_further sink_trail given.violations (not (bases_empty given.rest.bases)) refl (goes_given o q flow p naming row s r to has newest items wanted vs e 0 i offset lo hi here alive)

    abbrev a : machine.Reach
    a = reach_of i offset hi

    room_stop : text_trail.goes_on ≡ true → hi - offset < size → violates bounded_plan.violations rule.Libptr ≡ true
    room_stop on h = literal_on rule.Libptr (told_here text_trail (room_violations (passes_room n need given.rest)) (is_some cut) rule.Libptr on (room_told o q flow p.shaped naming s.world.memory r.stands_for.sane given.rest i offset lo hi st within need size need_has h))

    -- ---- what is written

    module _ (texted : text_trail.goes_on ≡ true) (room : size ≤ hi - offset) where
      cut_size : RangeHas cut (pos size)
      cut_size = cut_has o q flow p.shaped naming s.world.memory r.stands_for.sane given.rest i offset lo hi st within need size need_has room

      fitted : fitting_trail.goes_on ≡ true
      fitted = goes_further text_trail (room_violations (passes_room n need given.rest)) (is_some cut) texted (some_range cut (pos size) cut_size)

      literal_stop : 0 < size → is_literal (storage_at s.world.memory i) ≡ true → violates bounded_plan.violations rule.Strmod ≡ true
      literal_stop some lit = told_here fitting_trail (literal_violations (writes_literal flow.bases.items given.rest.bases cut)) (not (bases_empty (after_write flow.bases.items given.rest.bases cut))) rule.Strmod fitted (literal_told o q flow p.shaped naming s.world.memory r.stands_for.sane given.rest i offset lo hi st within alive cut size cut_size some lit)

      module _ (plain : 0 < size → is_literal (storage_at s.world.memory i) ≡ false) where
        after_there : bases_has (after_write flow.bases.items given.rest.bases cut) st.base ≡ true
        after_there = after_has o q flow p.shaped naming s.world.memory r.stands_for.sane given.rest i offset lo hi st within alive cut size cut_size plain

        on : target.trail.goes_on ≡ true
        on = goes_further fitting_trail (literal_violations (writes_literal flow.bases.items given.rest.bases cut)) (not (bases_empty (after_write flow.bases.items given.rest.bases cut))) fitted (ap not (not_empty (after_write flow.bases.items given.rest.bases cut) st.base after_there))

        rest : (y : InGammaInto gamma naming s.world.memory target.rest i offset lo hi) × (y.base ≡ st.base)
        rest = within_stands o q flow p.shaped naming s.world.memory r.stands_for.sane given.rest i offset lo hi st within (after_write flow.bases.items given.rest.bases cut) after_there

        start : WindowHas (window_within (offsets n target.rest)) offset
        start = start_has o q flow p.shaped naming s.world.memory r.stands_for.sane target.rest i offset lo hi rest.0 within

        laid : IsLaidOut flow (length row)
        laid = subst (IsLaidOut flow) (sym r.long) p.laid

        abbrev effect_in : Option Window → Option Window → Effect I
        effect_in x y = text_effect l call target x y (is_one_byte cut) letters zero_rule.Any

        effect_is : bounded_plan.effect ≡ effect_in (Some start.window) (touched_window n target.rest cut)
        effect_is =
            ap (λ y. cond {A = Effect I} y (effect_in (window_within (offsets n target.rest)) (touched_window n target.rest cut)) effect.Unreached) on
            ∙ ap (λ y. effect_in y (touched_window n target.rest cut)) start.is

        -- memory in which numbers of the source, or zeros, were written
        module _ (memory : Memory) (region_here : IsRegion s.world.memory memory i offset size) (sane : IsMemoryOf flow.model flow.bases.items naming memory)
            (numbers : (x : ℕ) (b : Byte) → offset ≤ x → x < offset + size → byte_at memory i x ≡ Some b → (k : ℕ) × (la : Labels) × (b.content ≡ number k la) × (labels_leq (as_set la) letters.labels ≡ true))
            (characters : (x : ℕ) (y : Labelled) (b : Byte) → offset ≤ x → x < offset + size → byte_at memory i x ≡ Some b → b.content ≡ number_in y → (signed : Bool) → gamma (character_value l n letters signed).num (number_of signed (y ∷ []))) where
          result : IsResult q flow p naming memory (pointer_value l target.rest) (pointer d)
          result = subst (λ y. IsResult q flow p naming memory (pointer_value l target.rest) (pointer y)) (sym is) (record {
            stands_for = scalar_moves (alike_region region_here) gamma naming (pointer_value l target.rest) (pointer (into i offset lo hi)) (subst (λ y. InGammaByLife gamma naming s.world.memory target.rest y i offset lo hi) (sym alive) rest.0);
            near = tt;
            within = pointer_in_moves (alike_region region_here) (into i offset lo hi) within;
          })

          -- no byte can be touched, so that none is
          module _ (none : touched_window n target.rest cut ≡ None) where
            nothing : size ≡ 0
            nothing = by_size size refl
              where
                by_size : (k : ℕ) → size ≡ k → size ≡ 0
                by_size zero f = f
                by_size (suc k) f =
                    let w = touched_has o q flow p.shaped naming s.world.memory r.stands_for.sane target.rest i offset lo hi rest.0 within cut size cut_size room offset (omega arith) (omega (arith, f)) in
                    let g : None ≡ Some w.window = sym none ∙ w.is in
                    cc

            least_none : int_le (pos 1) (lower_of cut) ≡ false
            least_none = let x = least_has o q flow p.shaped naming s.world.memory r.stands_for.sane target.rest i offset lo hi rest.0 within cut size cut_size in let y = nothing in below_one (lower_of cut) (omega (arith, ints, x, y))

            none_is : bounded_plan.effect ≡ effect.Result (pointer_value l target.rest)
            none_is = effect_is ∙ (ap (effect_in (Some start.window)) none ∙ ap (λ y. cond {A = Effect I} y effect.Unreached (effect.Result (pointer_value l target.rest))) least_none)

            none_good : Fine (goes (Some (pointer d)) (record start_world { memory = memory }))
            unfolding apply
            none_good = written_good o q flow p naming row s r to has newest bounded_plan found fine memory region_here.lengths row refl
                (none_stands o q flow naming row (state_of s) laid r.stands_for memory i offset size region_here sane nothing) (pointer_value l target.rest) (pointer d) result
                (ap (λ y. apply l n flow to newest y row) none_is)

          module _ (w : Window) (some : touched_window n target.rest cut ≡ Some w) where
            abbrev write : TextWrite I
            write = record { bases = writable_of flow.bases.items target.rest.bases; start = start.window; window = w; one_byte = is_one_byte cut; characters = letters; zero = zero_rule.Any }

            window_has : (x : ℕ) → offset ≤ x → x < offset + size → (w.lo ≤ x) × (x ≤ w.hi)
            window_has x from below =
                let y = touched_has o q flow p.shaped naming s.world.memory r.stands_for.sane target.rest i offset lo hi rest.0 within cut size cut_size room x from below in
                let same : y.window ≡ w = same_Some y.window w (sym y.is ∙ some) in
                subst (λ t. (t.lo ≤ x) × (x ≤ t.hi)) same (y.from, y.to)

            is_text : IsTextWrite l n gamma write memory i offset size
            is_text = record {
              window = window_has;
              start = (start.from, start.to);
              one_byte = λ f. one_has o q flow p.shaped naming s.world.memory r.stands_for.sane target.rest i offset lo hi rest.0 within cut size cut_size f;
              numbers = numbers;
              characters = characters;
            }

            in_write : (b : ℕ) → naming i ≡ Some b → 0 < size → has_base write.bases b ≡ true
            in_write b named some_size =
                let same : st.base ≡ b = same_Some st.base b (sym st.named ∙ named) in
                subst (λ v. has_base write.bases v ≡ true) same (is_writable o q flow p.shaped naming s.world.memory r.stands_for.sane given.rest i offset lo hi st within alive cut size cut_size target.rest.bases (subst (λ v. bases_has target.rest.bases v ≡ true) rest.1 rest.0.among) (plain some_size))

            one_live : is_one_instance flow.bases.items write.bases ≡ true → 0 < size → (b h : ℕ) → has_base write.bases b ≡ true → IsLiveOf naming s.world.memory b h → h ≡ i
            one_live alone some_size b h in_set g =
                let own = in_write st.base st.named some_size in
                let v = alone_is flow.bases.items write.bases st.base own alone in
                let base = get_there flow.bases.items st.base (r.stands_for.sane.few i st.base st.named) in
                let same : b ≡ st.base = v.one b in_set in
                r.stands_for.sane.one h i st.base base.0 base.1 (not_older base.0.kind (v.single st.base base.0 base.1 own)) (g.named ∙ ap Some same) st.named (λ y. live_ended (sym g.alive ∙ y)) (λ y. live_ended (sym alive ∙ y))

            text_is : bounded_plan.effect ≡ effect.Text write (pointer_value l target.rest)
            text_is = effect_is ∙ ap (effect_in (Some start.window)) some

            text_good : Fine (goes (Some (pointer d)) (record start_world { memory = memory }))
            unfolding apply
            text_good = written_good o q flow p naming row s r to has newest bounded_plan found fine memory region_here.lengths (write_text l n flow write row)
                (text_write_long o q flow naming row (state_of s) laid r.stands_for memory i offset size region_here sane write is_text tt in_write one_live)
                (text_write_stands o q flow naming row (state_of s) laid r.stands_for memory i offset size region_here sane write is_text tt in_write one_live) (pointer_value l target.rest) (pointer d) result
                (ap (λ y. apply l n flow to newest y row) text_is)

          memory_good : Fine (goes (Some (pointer d)) (record start_world { memory = memory }))
          memory_good = by_window (touched_window n target.rest cut) refl
            where
              by_window : (w : Option Window) → touched_window n target.rest cut ≡ w → Fine (goes (Some (pointer d)) (record start_world { memory = memory }))
              by_window None f = none_good f
              by_window (Some w) f = text_good w f

        -- nothing is written where the size is 0
        module _ (empty : size ≡ 0) where
          no_byte : (x : ℕ) → offset ≤ x → x < offset + size → ⊥
          no_byte x from below = let z = empty in omega (arith, from, below, z)

          same_memory : IsRegion s.world.memory s.world.memory i offset size
          same_memory = record {
            lives = λ j. refl;
            lengths = λ j. refl;
            made = refl;
            fits = let z = empty in let x = within.below in let y = within.within in omega (arith, x, y, z);
            outside = λ j k f. refl;
          }

          empty_good : Fine (goes (Some (pointer d)) start_world)
          empty_good = memory_good s.world.memory same_memory r.stands_for.sane (λ x b from below f. absurd (no_byte x from below)) (λ x y b from below f g signed. absurd (no_byte x from below))

    -- ---- what is read

    module _ (j at low high : ℕ) (right_is : m ≡ into j at low high) (right_alive : life_at s.world.memory j ≡ live) where
      there : slice_get vs 1 ≡ Some (pointer (into j at low high))
      there = second ∙ ap (λ y. Some (pointer y)) right_is

      right_within : IsWithin s.world.memory j at low high
      right_within = given_within o q flow p naming row s r to has newest items wanted vs e 1 j at low high there right_alive

      right_st : InGammaInto gamma naming s.world.memory source.rest j at low high
      right_st = given_into o q flow p naming row s r to has newest items wanted vs e 1 j at low high there right_alive

      right_base : (base : BaseInfo) × (slice_get flow.bases.items right_st.base ≡ Some base)
      right_base = get_there flow.bases.items right_st.base (r.stands_for.sane.few j right_st.base right_st.named)

      both_on : both_trail.goes_on ≡ true
      both_on = goes_further first_trail source.violations (not (bases_empty source.rest.bases)) given_on (goes_given o q flow p naming row s r to has newest items wanted vs e 1 j at low high there right_alive)

      text_on : text_trail.goes_on ≡ true
      text_on = goes_further both_trail (string_violations (reads_no_string l n call row source.rest scan.unknown need)) true both_on refl

      abbrev b : machine.Reach
      b = reach_of j at high

      abbrev source_contents : List Content
      source_contents = contents (region (bytes_at s.world.memory j) at (high - at))

      source_long : length source_contents ≡ high - at
      source_long =
          let y = right_within.within in
          let z = right_within.below in
          length-map (region (bytes_at s.world.memory j) at (high - at)) (λ w. w.content) ∙ region_length (bytes_at s.world.memory j) at (high - at) (omega (arith, y, z))

      -- a byte of the source
      source_byte : (k : ℕ) (x : Content) → slice_get source_contents k ≡ Some x → (y : Byte) × (byte_at s.world.memory j (at + k) ≡ Some y) × (y.content ≡ x) × (k < high - at)
      unfolding byte_at
      source_byte k x f =
          let y = get_map (λ w. w.content) (region (bytes_at s.world.memory j) at (high - at)) k x f in
          let w = region_at (bytes_at s.world.memory j) at (high - at) k (at + k) y.0 y.1 refl in
          (y.0, w.1, y.2, w.0)

      -- ---- no zero among the first bytes

      module _ (unended : machine.scanned_first size source_contents ≡ machine.unended) where
        unknown_there : has_base scan.unknown right_st.base ≡ true
        unknown_there = unended_unknown o q flow p.shaped naming row (state_of s) r.stands_for source.rest j at low high right_alive right_st right_within (unended_first size source_contents unended)

        unknown_has : bases_has scan.unknown right_st.base ≡ true
        unknown_has = (and_parts (nat_lt right_st.base most_bases) (bases_has scan.unknown right_st.base) unknown_there).1

        abbrev passes : Bool
        passes = passes_room n need source.rest

        abbrev blank : Bool
        blank = reads_blank_in l n flow.model flow.bases.items row scan.unknown (touched_window n source.rest need)

        by_open : IsOpen size source_contents → (passes_room n need source.rest || reads_blank_in l n flow.model flow.bases.items row scan.unknown (touched_window n source.rest need)) ≡ true
        by_open (runs_out h) = or_left passes blank (let x = source_long in room_told o q flow p.shaped naming s.world.memory r.stands_for.sane source.rest j at low high right_st right_within need size need_has (omega (arith, h, x)))
        by_open (has_hole k h f) =
            let y = source_byte k indeterminate f in
            let less = y.3 in
            let w = first_touched o q flow p.shaped naming s.world.memory r.stands_for.sane source.rest j at low high right_st right_within need size (k + 1) need_has (omega (arith, h)) (omega (arith, less)) (at + k) (omega arith) (omega arith) in
            or_right passes blank (subst (λ v. reads_blank_in l n flow.model flow.bases.items row scan.unknown v ≡ true) (sym w.is)
            (blank_told o q c flow p.shaped p.padding naming row (state_of s) r.stands_for scan.unknown w.window j (at + k) right_st.base right_base.0 right_base.1 right_st.named right_alive unknown_has w.from w.to y.0 y.1 y.2))

        no_string : reads_no_string l n call row source.rest scan.unknown need ≡ true
        no_string = and_from (not (bases_empty scan.unknown)) (passes || blank) (ap not (not_empty scan.unknown right_st.base unknown_has)) (by_open (open_end size source_contents unended))

        string_stop : violates bounded_plan.violations rule.Nonnullcs ≡ true
        string_stop = room_on rule.Nonnullcs (told_here both_trail (string_violations (reads_no_string l n call row source.rest scan.unknown need)) true rule.Nonnullcs both_on no_string)

      -- ---- the characters of the source, and zeros behind them

      module _ (t : ℕ) (ended : machine.scanned_first size source_contents ≡ machine.ends t) where
        count_of : IsCounted size source_contents t
        count_of = counted size source_contents t ended

        short : t ≤ high - at
        short = let x = count_of.inside in let y = source_long in omega (arith, x, y)

        abbrev front : List Content
        front = contents (machine.bytes_from start_world (reach_of j at high) t)

        abbrev content_list : List Content
        content_list = padded front t size

        front_long : length front ≡ t
        front_long =
            let x = short in
            let y = right_within.within in
            let z = right_within.below in
            length-map (region (bytes_at s.world.memory j) at t) (λ w. w.content) ∙ region_length (bytes_at s.world.memory j) at t (omega (arith, x, y, z))

        content_long : length content_list ≡ size
        content_long =
            let x = front_long in
            let y = count_of.short in
            let u = length-append (take t front) (replicate (size - t) (number 0 no_labels)) in
            let v = length-take-le t front (omega (arith, x)) in
            let w = length-replicate (size - t) (number 0 no_labels) in
            omega (arith, y, u, v, w)

        -- a number of the source, which the machine and the analysis read
        pub record IsSourceNumber (x : Content) (k : ℕ) : Type 0 where
          pub digit : ℕ
          pub labels : Labels
          pub number_is : x ≡ number digit labels
          pub byte : Byte
          pub at_byte : byte_at s.world.memory j (at + k) ≡ Some byte
          pub content : byte.content ≡ x

        source_number_at : (k : ℕ) (x : Content) → k < t → slice_get front k ≡ Some x → IsSourceNumber x k
        unfolding byte_at
        source_number_at k x less f =
            let y = get_map (λ w. w.content) (region (bytes_at s.world.memory j) at t) k x f in
            let w = region_at (bytes_at s.world.memory j) at t k (at + k) y.0 y.1 refl in
            let z = count_of.characters k less in
            let v = source_byte k (number z.0 z.1) z.2 in
            let same : v.0 ≡ y.0 = same_Some v.0 y.0 (sym v.1 ∙ w.1) in
            record { digit = z.0; labels = z.1; number_is = sym y.2 ∙ (ap (λ u. u.content) (sym same) ∙ v.2); byte = y.0; at_byte = w.1; content = y.2 }

        read_window : (k : ℕ) → k < t → RangeHas cut (pos size) → WindowHas (touched_window n source.rest cut) (at + k)
        read_window k less cut_size = let x = count_of.short in let y = short in first_touched o q flow p.shaped naming s.world.memory r.stands_for.sane source.rest j at low high right_st right_within cut size t cut_size x y (at + k) (omega arith) (omega (arith, less))

        letters_have : RangeHas cut (pos size) → (k : ℕ) → k < t → (y : Labelled) (b2 : Byte) → byte_at s.world.memory j (at + k) ≡ Some b2 → b2.content ≡ number_in y → ((signed : Bool) → gamma (cond signed letters.signed letters.unsigned) (number_of signed (y ∷ []))) × (labels_leq (as_set y.labels) letters.labels ≡ true)
        letters_have cut_size k less y b2 f g =
            let w = read_window k less cut_size in
            subst (λ v. ((signed : Bool) → gamma (cond signed (characters_of l n flow.model flow.bases.items row source.rest.bases v).signed (characters_of l n flow.model flow.bases.items row source.rest.bases v).unsigned) (number_of signed (y ∷ []))) × (labels_leq (as_set y.labels) (characters_of l n flow.model flow.bases.items row source.rest.bases v).labels ≡ true)) (sym w.is) (
              (λ signed. source_number o q c flow p.shaped p.padding naming row (state_of s) r.stands_for source.rest.bases w.window j (at + k) right_st.base right_base.0 right_base.1 right_st.named right_alive right_st.among w.from w.to b2 f y g signed),
              source_labels o q c flow p.shaped p.padding naming row (state_of s) r.stands_for source.rest.bases w.window j (at + k) right_st.base right_base.0 right_base.1 right_st.named right_alive right_st.among w.from w.to b2 f y g,
            )

        -- each content is a number of which the analysis knows
        pub record IsKnownNumber (x : Content) : Type 0 where
          pub digit : ℕ
          pub labels : Labels
          pub number_is : x ≡ number digit labels
          pub small : digit < 256
          pub labelled : labels_leq (as_set labels) letters.labels ≡ true
          pub stood : (signed : Bool) → gamma (character_value l n letters signed).num (number_of signed (record { number = digit; labels = labels } ∷ []))

        known_number : RangeHas cut (pos size) → (k : ℕ) (x : Content) → slice_get content_list k ≡ Some x → IsKnownNumber x
        known_number cut_size k x f = elim (padded_at front t size k x f) [
          | inl h ↦ (let z = source_number_at k x h.0 h.1 in
              let one : Labelled = record { number = z.digit; labels = z.labels } in
              let y = letters_have cut_size k h.0 one z.byte z.at_byte (z.content ∙ z.number_is) in
              record {
                digit = z.digit;
                labels = z.labels;
                number_is = z.number_is;
                small = subst (λ v. IsContentIn s.world.memory v z.byte.tag) (z.content ∙ z.number_is) (r.stands_for.sane.bytes j (at + k) z.byte z.at_byte);
                labelled = y.1;
                stood = λ signed. q.larger (cond signed letters.signed letters.unsigned) (l.join (cond signed letters.signed letters.unsigned) (n.one (pos 0))) (number_of signed (one ∷ [])) (o.join_left (cond signed letters.signed letters.unsigned) (n.one (pos 0))) (y.0 signed);
              })
          | inr h ↦ record {
            digit = 0;
            labels = no_labels;
            number_is = sym h;
            small = omega arith;
            labelled = labels_order.least_below letters.labels;
            stood = λ signed. q.larger (n.one (pos 0)) (l.join (cond signed letters.signed letters.unsigned) (n.one (pos 0))) (number_of signed (record { number = 0; labels = no_labels } ∷ [])) (o.join_right (cond signed letters.signed letters.unsigned) (n.one (pos 0))) (subst (gamma (n.one (pos 0))) (sym (zero_number signed (record { number = 0; labels = no_labels }) refl)) (q.one_stands (pos 0)));
          }
        ]

        known_digit : (y : Labelled) (z : ℕ) (la : Labels) → number_in y ≡ number z la → (signed : Bool) → number_of signed (record { number = z; labels = la } ∷ []) ≡ number_of signed (y ∷ [])
        known_digit y z la f true = ap (λ v. number_of true (record { number = v; labels = la } ∷ [])) (sym (ap digit_of f))
        known_digit y z la f false = ap (λ v. number_of false (record { number = v; labels = la } ∷ [])) (sym (ap digit_of f))

        module _ (room : size ≤ hi - offset) (plain : 0 < size → is_literal (storage_at s.world.memory i) ≡ false) where
          abbrev memory : Memory
          memory = set_bytes s.world.memory i (refilled (bytes_at s.world.memory i) offset content_list)

          fits : offset + length content_list ≤ length (bytes_at s.world.memory i)
          fits = let x = content_long in let y = within.within in let z = within.below in omega (arith, x, y, z, room)

          written_here : IsWritten s.world.memory memory i offset content_list
          written_here = let it = instance_there s.world.memory i alive in contents_written s.world.memory i offset content_list it.0 it.1 fits

          region_here : IsRegion s.world.memory memory i offset size
          region_here = subst (IsRegion s.world.memory memory i offset) content_long written_here.region

          known : (k : ℕ) (x : Content) → slice_get content_list k ≡ Some x → IsKnownNumber x
          known k x f = known_number (cut_size text_on room) k x f

          sane : IsMemoryOf flow.model flow.bases.items naming memory
          sane = let it = instance_there s.world.memory i alive in contents_sane s.world.memory i offset content_list it.0 it.1 fits flow.model flow.bases.items naming (λ k x f. let y = known k x f in (y.digit, y.labels, y.number_is, y.small)) r.stands_for.sane

          byte_known : (x : ℕ) (b2 : Byte) → offset ≤ x → x < offset + size → byte_at memory i x ≡ Some b2 → IsKnownNumber b2.content
          byte_known x b2 from below f = let long = content_long in known (x - offset) b2.content (region_content written_here x b2 from (omega (arith, below, long)) f)

          padded_good : Fine (goes (Some (pointer d)) (with_contents start_world (reach_of i offset hi) content_list))
          padded_good = memory_good text_on room plain memory region_here sane
              (λ x b2 from below f. let y = byte_known x b2 from below f in (y.digit, y.labels, y.number_is, y.labelled))
              (λ x y b2 from below f g signed. let z = byte_known x b2 from below f in subst (gamma (character_value l n letters signed).num) (known_digit y z.digit z.labels (sym g ∙ z.number_is) signed) (z.stood signed))

          by_overlap : (x : Bool) → Fine (with_result (cond x (stops Left start_world) (goes (pointer d) (with_contents start_world (reach_of i offset hi) content_list))))
          by_overlap true = plain_stop o q flow p naming row s r to has newest bounded_plan found fine Left
          by_overlap false = padded_good

          by_empty : (x : Bool) → (size == 0) ≡ x → Fine (with_result (cond x (goes (pointer d) start_world) (written (reach_of i offset hi) size (reach_of j at high) (min size (t + 1)) content_list (pointer d) start_world)))
          by_empty true f = empty_good text_on room plain (eqb-true size 0 f)
          by_empty false f = by_overlap (overlap (reach_of i offset hi).spot size (reach_of j at high).spot (min size (t + 1)))

        by_literal : size ≤ hi - offset → (x : Bool) → (nat_lt 0 size && is_literal (storage_at s.world.memory i)) ≡ x → Fine (with_result (behind (cond x (stopped_by start_world rule.Strmod) (goes (reach_of i offset hi) start_world)) (λ _ w. fill_padded d size t (reach_of i offset hi) (reach_of j at high) w)))
        by_literal room true f = let y = and_parts (nat_lt 0 size) (is_literal (storage_at s.world.memory i)) f in told_stop o q flow p naming row s r to has newest bounded_plan found fine rule.Strmod (literal_stop text_on room (ltb-true 0 size y.0) y.1)
        by_literal room false f = by_empty room (λ some. by_flags (nat_lt 0 size) (is_literal (storage_at s.world.memory i)) (lt-ltb 0 size some) f) (size == 0) refl
          where
            by_flags : (x y : Bool) → x ≡ true → (x && y) ≡ false → y ≡ false
            by_flags true y g h = h
            by_flags false y g h = cc

        by_room : (x : Bool) → nat_lt (hi - offset) size ≡ x → Fine (with_result (behind (cond x (stopped_by start_world rule.Libptr) (goes (reach_of i offset hi) start_world)) (λ _ w. behind (machine.writable size (reach_of i offset hi) w) (λ _ w. fill_padded d size t (reach_of i offset hi) (reach_of j at high) w))))
        by_room true f = told_stop o q flow p naming row s r to has newest bounded_plan found fine rule.Libptr (room_stop text_on (ltb-true (hi - offset) size f))
        by_room false f = by_literal (let h = ltb-false (hi - offset) size f in omega (arith, h)) (nat_lt 0 size && is_literal (storage_at s.world.memory i)) refl

        room_good : Fine (with_result (fit_reply (reach_of i offset hi) (reach_of j at high) t start_world))
        room_good = by_room (nat_lt (hi - offset) size) refl

      by_first : (x : machine.Scanned) → machine.scanned_first size source_contents ≡ x → Fine (with_result (behind (machine.measured start_world x) (fit_reply (reach_of i offset hi) (reach_of j at high))))
      by_first (machine.ends t) f = room_good t f
      by_first machine.unended f = told_stop o q flow p naming row s r to has newest bounded_plan found fine rule.Nonnullcs (string_stop f)
      by_first machine.broken f = plain_stop o q flow p naming row s r to has newest bounded_plan found fine Left

      scan_good : Fine (with_result (scan_reply (reach_of i offset hi) (reach_of j at high) start_world))
      scan_good = by_first (machine.scanned_first size source_contents) refl

    source_good : Fine (with_result (source_reply (reach_of i offset hi) start_world))
    source_good = subst Fine (sym (behind_behind (machine.reached m start_world) (scan_reply (reach_of i offset hi)) (λ v w. goes (Some v) w)))
        (reach_good o q flow p naming row s r to has newest items wanted vs e bounded_plan found fine 1 m second
        (λ rl h. string_on rl (told_here first_trail source.violations (not (bases_empty source.rest.bases)) rl given_on h))
        (λ y w. with_result (scan_reply (reach_of i offset hi) y w)) scan_good)

  pub bounded_call_good : Good o q flow p naming row s r to has newest (plan_strncpy l n (call_of flow items wanted) row) (with_result (copy_padded d m (machine.size_of count) (machine.with_size s.world lb)))
  unfolding plan_strncpy
  bounded_call_good = subst Fine (sym (behind_behind (machine.reached d start_world) source_reply (λ v w. goes (Some v) w)))
      (reach_good o q flow p naming row s r to has newest items wanted vs e bounded_plan found fine 0 d first
      (λ rl h. source_on rl (told_here sink_trail given.violations (not (bases_empty given.rest.bases)) rl refl h))
      (λ y w. with_result (source_reply y w)) source_good)
