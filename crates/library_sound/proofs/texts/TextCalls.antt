-- Calls of `strcpy` are sound.
use Rattle.std.proofs.Common.{◌≡◌, ℕ, zero, suc, ◌+◌, ◌-◌, ◌^◌, ◌<◌, ◌≤◌, Bool, true, false, cond, not, ◌&&◌, Option, Some, None, List, [], ◌∷◌, length, arith, subst, sym, refl, ap, ◌∙◌}
use Rattle.std.specs.Prelude.{slice_get, ℤ, pos, ◌+ℤ◌, ◌-ℤ◌, is_some, nat_lt}
use Rattle.std.proofs.lemmas.Int.{ints}
use Rattle.std.proofs.lemmas.Bool.{and_parts, lt-ltb, ltb-true, ltb-false}
use Rattle.std.proofs.lemmas.Option.{same_Some}
use Rattle.cc_base.specs.Lattices.{LatticeOf, OrderLaws}
use Rattle.cc_base.specs.IntegerDomains.{IntegersOf, BoundLaws}
use Rattle.cc_base.specs.NumberRanges.{Range}
use Rattle.cc_base.specs.declared.diagnostics.Rule.{Rule}
use Rattle.cc_base.specs.declared.diagnostics.Rule.TheVariants as rule
use Rattle.cfg.specs.WellFormed.{names_of, has_result}
use Rattle.cfg.specs.declared.programs.Flow.{Flow}
use Rattle.pointer_domain.specs.BaseSets.{bases_has, bases_empty}
use Rattle.pointer_domain.specs.PointerTables.{offsets}
use Rattle.pointer_domain.specs.declared.pointer_sets.Pointers.{Pointers}
use Rattle.value_domain.specs.Values.ValueTables.{pointer_value}
use Rattle.value_domain.specs.declared.values.row_cells.Cell.{Cell}
use Rattle.domain_theorems.proofs.values.Numbers.{RangeHas, bounds_have}
use Rattle.store_cells.specs.AccessWindows.{window_within}
use Rattle.store_objects.specs.LiveBases.{most_bases, has_base, writable_of, is_one_instance}
use Rattle.transfer_checks.specs.LibraryArguments.{writes_literal, after_write, within_bases, passes_room, cut_by_room, touched_window}
use Rattle.transfer_checks.specs.ViolationSets.{no_violations, violates}
use Rattle.transfer_checks.specs.declared.library_arguments.Argument.{Argument}
use Rattle.transfer_library_plans.specs.Calls.{Call}
use Rattle.transfer_library.specs.Effects.{apply}
use Rattle.transfer_library_plans.specs.Plans.{trail_of}
use Rattle.transfer_library_plans.specs.declared.call_plans.Effect.{Effect}
use Rattle.transfer_library_plans.specs.declared.call_plans.Effect.TheVariants as effect
use Rattle.transfer_library_plans.specs.declared.call_plans.Plan.{Plan}
use Rattle.transfer_library_plans.specs.declared.call_plans.Trail.{Trail}
use Rattle.transfer_library.specs.declared.memory_calls.Target.{Target}
use Rattle.transfer_sound.specs.CallSteps.{call_of}
use Rattle.memory_model.specs.Memory.Labels.{Labels}
use Rattle.memory_model.specs.Memory.Bytes.{MachinePointer, into, Content, number, Byte}
use Rattle.memory_model.specs.Memory.Instances.{Memory, live, bytes_at, byte_at, life_at}
use Rattle.memory_model.specs.Memory.Scalars.{Scalar, pointer}
use Rattle.memory_model.specs.Effects.LibraryCalls.{with_result}
use Rattle.memory_model.specs.Effects.LibraryChecks as machine
use Rattle.memory_model.specs.Effects.ScalarBytes.{refilled}
use Rattle.memory_model.specs.Effects.Touches.{storage_at, is_literal, set_bytes}
use Rattle.memory_model.specs.Effects.Worlds.{World, Reply, goes, behind, stopped_by}
use Rattle.semantics.specs.CfgMachine.FlowStates.{ProgramState, values_of}
use Rattle.store_sound.specs.Concretization.SoundMemory.{IsContentIn, IsMemoryOf, IsWithin}
use Rattle.store_sound.specs.Concretization.ValueMeaning.{Naming, InGammaInto, InGammaByLife}
use Rattle.store_sound.specs.Concretization.RowMeaning.{MachineState, IsLiveOf, InGamma}
use Rattle.store_sound.specs.Concretization.Coverage.{state_of}
use Rattle.store_sound.specs.Operations.Shapes.{AreShaped, IsLaidOut}
use Rattle.c_layout.specs.declared.shapes.BaseInfo.{BaseInfo}
use Rattle.store_sound.proofs.operations.Frames.{pointer_in_moves, scalar_moves}
use Rattle.store_sound.proofs.operations.LoadSound.{instance_there}
use Rattle.store_sound.proofs.operations.Slices.{get_there}
use Rattle.store_sound.proofs.operations.StoreLeaves.{live_ended, not_older}
use Rattle.store_sound.proofs.operations.StorePlaces.{not_empty}
use Rattle.store_sound.proofs.operations.Windows.{WindowHas}
use Rattle.store_sound.specs.Programs.Premises.{HasPremises}
use Rattle.store_sound.specs.Regions.RegionWrites.{IsRegion}
use Rattle.store_sound.proofs.regions.ContentRegions.{IsWritten, contents_written, contents_sane, region_content}
use Rattle.store_sound.proofs.regions.Regions.{alike_region}
use Rattle.transfer_sound.specs.Values.SoundSteps.{IsReached}
use Rattle.transfer_sound.proofs.values.Admitted.{AreAdmitted}
use Rattle.transfer_sound.proofs.values.PutTemps.{IsResult}
use Rattle.library_sound.proofs.calls.Calls.{clean}
use Rattle.library_sound.proofs.strings.GivenPointers.{reach_of}
use Rattle.library_sound.proofs.strings.Trails.{still_told, told_here, goes_further}
use Rattle.library_sound.proofs.fills.Targets.{alone_is, within_stands, cut_has, room_told, literal_told, is_writable, after_has, start_has, touched_has, one_has}
use Rattle.library_sound.proofs.fills.WriteCalls.{behind_behind, Good, told_stop, plain_stop, written_good, given_at, reach_good, given_within, goes_given, given_into}
use Rattle.std.proofs.lemmas.List.{length-map}
use Rattle.cc_base.specs.IntegerLaws.{SoundLaws}
use Rattle.transfer_library_plans.specs.Arguments.{room_violations, literal_violations}
use Rattle.transfer_library.specs.MemoryCalls.{is_one_byte, room_trail, target_of}
use Rattle.transfer_library_plans.specs.Outputs.{scan_violations, given_trail, scanned_trail, scan_at}
use Rattle.transfer_library_writes.specs.Sources.{characters_of}
use Rattle.transfer_library.specs.StringCalls.{less_one, one_more, one_less, text_effect, text_from_start, source_characters, plan_strcpy}
use Rattle.transfer_library_writes.specs.TextWrites.{write_text}
use Rattle.transfer_library_writes.specs.declared.source_bytes.Characters.{Characters}
use Rattle.transfer_library_writes.specs.declared.text_writes.TextWrite.{TextWrite}
use Rattle.transfer_library_writes.specs.declared.text_writes.ZeroRule.TheVariants as zero_rule
use Rattle.transfer_checks.specs.declared.string_scans.Scanned.{Scanned}
use Rattle.memory_model.specs.Effects.MemoryCalls.{with_contents}
use Rattle.memory_model.specs.Effects.StructCopies.{overlap}
use Rattle.memory_model.specs.Effects.StringCalls.{written, copy_string}
use Rattle.memory_model.specs.Effects.ScalarBytes.{region, contents}
use Rattle.memory_model.specs.Effects.Worlds.{stops, Left}
use Rattle.memory_model.specs.Memory.Bytes.{indeterminate, part}
use Rattle.memory_model.specs.Memory.Instances.{byte_at}
use Rattle.memory_model.specs.Memory.Numbers.{Labelled, number_of}
use Rattle.store_cells.specs.AccessWindows.{added_ranges}
use Rattle.store_sound.specs.Concretization.FirstZeroBytes.{end, character, seen_as}
use Rattle.store_sound.specs.Concretization.Matching.{number_in}
use Rattle.store_sound.specs.Concretization.SeenLabels.{as_set}
use Rattle.store_sound.proofs.operations.Reading.{region_at, region_length}
use Rattle.store_sound.proofs.operations.Slices.{get_map}
use Rattle.store_sound.proofs.operations.TouchedRest.{near_stands}
use Rattle.domain_theorems.proofs.values.Numbers.{of_range_stands}
use Rattle.value_domain.specs.Values.LabelSets.{labels_leq}
use Rattle.library_sound.proofs.strings.Scans.{IsScan}
use Rattle.library_sound.proofs.strings.StringCalls as strings
use Rattle.library_sound.proofs.fills.Targets.{sat_above, sat_below}
use Rattle.library_sound.specs.Texts.TextWrites.{IsTextWrite, IsWrittenText}
use Rattle.library_sound.proofs.texts.SourceCharacters.{source_number, source_labels}
use Rattle.library_sound.proofs.texts.TextWrites.{text_write_stands, text_write_long}

-- ---- what is scanned

pub record IsNumberAt (cs : List Content) (m k : ℕ) : Type 0 where
  pub digit : ℕ
  pub labels : Labels
  pub there : slice_get cs k ≡ Some (number digit labels)
  pub inner : k < m → seen_as (number digit labels) ≡ character
  pub last : k ≡ m → seen_as (number digit labels) ≡ end

one_behind : (s : machine.Scanned) (m : ℕ) → machine.one_further s ≡ machine.ends m → (j : ℕ) × (s ≡ machine.ends j) × (m ≡ suc j)
one_behind (machine.ends j) m e = (j, refl, same_count (suc j) m e)
  where
    count : machine.Scanned → ℕ
    count (machine.ends k) = k
    count machine.unended = 0
    count machine.broken = 0

    same_count : (a b : ℕ) → machine.ends a ≡ machine.ends b → b ≡ a
    same_count a b e = sym (ap count e)
one_behind machine.unended m e = cc
one_behind machine.broken m e = cc

-- the bytes up to the end of a text
pub scanned_at : (cs : List Content) (m : ℕ) → machine.scanned cs ≡ machine.ends m → (k : ℕ) → k ≤ m → IsNumberAt cs m k
scanned_at [] m e k h = cc
scanned_at (indeterminate ∷ cs) m e k h = cc
scanned_at (part x y ∷ cs) m e k h = cc
scanned_at (number zero la ∷ cs) zero e zero h = record { digit = 0; labels = la; there = refl; inner = λ g. absurd (omega (arith, g)); last = λ g. refl }
scanned_at (number zero la ∷ cs) zero e (suc k) h = absurd (omega (arith, h))
scanned_at (number zero la ∷ cs) (suc m) e k h = absurd (zero_suc m e)
  where
    count : machine.Scanned → ℕ
    count (machine.ends j) = j
    count machine.unended = 0
    count machine.broken = 0

    zero_suc : (m : ℕ) → machine.ends 0 ≡ machine.ends (suc m) → ⊥
    zero_suc m e = let d : 0 ≡ suc m = ap count e in omega (arith, d)
scanned_at (number (suc d) la ∷ cs) m e zero h = let r = one_behind (machine.scanned cs) m e in let g = r.2 in record { digit = suc d; labels = la; there = refl; inner = λ y. refl; last = λ y. absurd (omega (arith, g, y)) }
scanned_at (number (suc d) la ∷ cs) m e (suc k) h =
    let r = one_behind (machine.scanned cs) m e in
    let g = r.2 in
    let t = scanned_at cs r.0 r.1 k (omega (arith, g, h)) in
    record { digit = t.digit; labels = t.labels; there = t.there; inner = λ y. t.inner (omega (arith, g, y)); last = λ y. t.last (omega (arith, g, y)) }

-- one more, and one less
more_has : (x : Range) (m : ℕ) → RangeHas x (pos m) → m ≤ 2 ^ 64 → RangeHas (added_ranges x (Some (pos 1, pos 1))) (pos (m + 1))
more_has None m h small = absurd h
more_has (Some x) m h small =
    let h0 = h.0 in
    let h1 = h.1 in
    (sat_below (x.0 +ℤ pos 1) (pos (m + 1)) (omega (arith, ints, h0)) (omega (arith, ints)), sat_above (x.1 +ℤ pos 1) (pos (m + 1)) (omega (arith, ints, h1)) (omega (arith, ints, small)))

module _ {I : Type 0} {l : LatticeOf I} {n : IntegersOf I} {gamma : I → ℤ → Type 0} (o : OrderLaws l) (q : BoundLaws l n gamma) where
  less_stands : (x : Range) (m : ℕ) → RangeHas x (pos (m + 1)) → m ≤ 2 ^ 64 → gamma (one_less l n x) (pos m)
  less_stands None m h small = absurd h
  less_stands (Some x) m h small =
      let h0 = h.0 in
      let h1 = h.1 in
      near_stands o q _ (pos m) (omega (arith, ints)) (omega (arith, ints, small))
      (of_range_stands q (Some (less_one x.0, less_one x.1)) (pos m) (sat_below (x.0 -ℤ pos 1) (pos m) (omega (arith, ints, h0)) (omega (arith, ints)), sat_above (x.1 -ℤ pos 1) (pos m) (omega (arith, ints, h1)) (omega (arith, ints, small))))

  joined_stands : (a b : I) (z : ℤ) → gamma a z → gamma (l.join a b) z
  joined_stands a b z h = q.larger a (l.join a b) z (o.join_left a b) h

-- the base of what is scanned goes on
module _ {I : Type 0} {l : LatticeOf I} {n : IntegersOf I} {gamma : I → ℤ → Type 0} (o : OrderLaws l) (q : BoundLaws l n gamma) (flow : Flow) (shaped : AreShaped flow.bases.items) (naming : Naming) (row : List (Cell I)) (state : MachineState) (s : InGamma l n gamma flow naming row state)
    (p : Pointers I) (i offset lo hi : ℕ) (alive : life_at state.memory i ≡ live) (st : InGammaInto gamma naming state.memory p i offset lo hi) (inside : IsWithin state.memory i offset lo hi) where
  own_base : (found : Scanned I) → IsScan o q flow shaped naming row state s p i offset lo hi alive st inside found → (t : ℕ) → machine.scanned (contents (region (bytes_at state.memory i) offset (hi - offset))) ≡ machine.ends t → (b : ℕ) → naming i ≡ Some b → has_base found.bases b ≡ true
  own_base found scan t closed b named = subst (λ z. has_base found.bases z ≡ true) (same_Some st.base b (sym st.named ∙ named)) (scan.own t closed)

module _ {I : Type 0} {l : LatticeOf I} {n : IntegersOf I} {gamma : I → ℤ → Type 0} (o : OrderLaws l) (q : BoundLaws l n gamma) (c : SoundLaws l n gamma) (flow : Flow) (p : HasPremises flow) (naming : Naming) (row : List (Cell I)) (s : ProgramState) (r : IsReached l n gamma flow naming row s) (to : Option ℕ) (has : has_result (names_of flow) to ≡ true) (newest : Option ℕ)
    (items : List ℕ) (wanted : Option ℕ) (vs : List Scalar) (e : values_of s.temps items ≡ Some vs)
    (d : MachinePointer) (m : MachinePointer) (first : slice_get vs 0 ≡ Some (pointer d)) (second : slice_get vs 1 ≡ Some (pointer m)) where
  abbrev call : Call
  call = call_of flow items wanted

  abbrev given : Argument I
  given = given_at o q flow p naming row s r to has newest items wanted vs e 0

  abbrev source : Argument I
  source = given_at o q flow p naming row s r to has newest items wanted vs e 1

  abbrev scan : Scanned I
  scan = scan_at l n call row source

  abbrev need : Range
  need = one_more n scan.length

  abbrev cut : Range
  cut = cut_by_room n need given.rest

  -- ---- trails

  abbrev first_trail : Trail
  first_trail = given_trail (trail_of no_violations) given

  abbrev both_trail : Trail
  both_trail = given_trail first_trail source

  abbrev text_trail : Trail
  text_trail = scanned_trail both_trail scan

  abbrev fitting_trail : Trail
  fitting_trail = room_trail n text_trail given.rest need

  abbrev target : Target I
  target = target_of l n call fitting_trail given.rest cut

  abbrev read : Pointers I
  read = within_bases l n source.rest scan.bases

  abbrev letters : Characters I
  letters = source_characters l n call row read cut

  abbrev text_plan : Plan I
  text_plan = text_from_start l n call target letters (zero_rule.Text (one_less l n cut))

  literal_on : (rl : Rule) → violates fitting_trail.violations rl ≡ true → violates target.trail.violations rl ≡ true
  literal_on rl h = still_told fitting_trail (literal_violations (writes_literal flow.bases.items given.rest.bases cut)) (not (bases_empty (after_write flow.bases.items given.rest.bases cut))) rl h

  room_on : (rl : Rule) → violates text_trail.violations rl ≡ true → violates target.trail.violations rl ≡ true
  room_on rl h = literal_on rl (still_told text_trail (room_violations (passes_room n need given.rest)) (is_some cut) rl h)

  scan_on : (rl : Rule) → violates both_trail.violations rl ≡ true → violates target.trail.violations rl ≡ true
  scan_on rl h = room_on rl (still_told both_trail (scan_violations scan) (not (bases_empty scan.bases)) rl h)

  source_on : (rl : Rule) → violates first_trail.violations rl ≡ true → violates target.trail.violations rl ≡ true
  source_on rl h = scan_on rl (still_told first_trail source.violations (not (bases_empty source.rest.bases)) rl h)

  abbrev found : List Rule
  found = s.world.violated

  fine : AreAdmitted text_plan.violations found
  fine = clean q flow p naming row s r text_plan.violations

  abbrev Fine : Reply (Option Scalar) → Type 0
  Fine reply = Good o q flow p naming row s r to has newest text_plan reply

  -- ---- what the machine does behind each of its checks

  abbrev write_reply : machine.Reach → machine.Reach → ℕ → World → Reply Scalar
  write_reply a b k w = written a (k + 1) b (k + 1) (contents (machine.bytes_from w b (k + 1))) (pointer d) w

  abbrev fit_reply : machine.Reach → machine.Reach → ℕ → World → Reply Scalar
  fit_reply a b k w = behind (machine.fitting (k + 1) a w) (λ _ w. behind (machine.writable (k + 1) a w) (λ _ w. write_reply a b k w))

  abbrev scan_reply : machine.Reach → machine.Reach → World → Reply Scalar
  scan_reply a b w = behind (machine.string_length b w) (fit_reply a b)

  abbrev source_reply : machine.Reach → World → Reply Scalar
  source_reply a w = behind (machine.reached m w) (scan_reply a)

  module _ (i offset lo hi : ℕ) (is : d ≡ into i offset lo hi) (alive : life_at s.world.memory i ≡ live) where
    here : slice_get vs 0 ≡ Some (pointer (into i offset lo hi))
    here = first ∙ ap (λ y. Some (pointer y)) is

    within : IsWithin s.world.memory i offset lo hi
    within = given_within o q flow p naming row s r to has newest items wanted vs e 0 i offset lo hi here alive

    st : InGammaInto gamma naming s.world.memory given.rest i offset lo hi
    st = given_into o q flow p naming row s r to has newest items wanted vs e 0 i offset lo hi here alive

    given_on : first_trail.goes_on ≡ true
    given_on = goes_further (trail_of no_violations) given.violations (not (bases_empty given.rest.bases)) refl (goes_given o q flow p naming row s r to has newest items wanted vs e 0 i offset lo hi here alive)

    abbrev a : machine.Reach
    a = reach_of i offset hi

    module _ (j at low high : ℕ) (right_is : m ≡ into j at low high) (right_alive : life_at s.world.memory j ≡ live) where
      there : slice_get vs 1 ≡ Some (pointer (into j at low high))
      there = second ∙ ap (λ y. Some (pointer y)) right_is

      right_within : IsWithin s.world.memory j at low high
      right_within = given_within o q flow p naming row s r to has newest items wanted vs e 1 j at low high there right_alive

      right_st : InGammaInto gamma naming s.world.memory source.rest j at low high
      right_st = given_into o q flow p naming row s r to has newest items wanted vs e 1 j at low high there right_alive

      both_on : both_trail.goes_on ≡ true
      both_on = goes_further first_trail source.violations (not (bases_empty source.rest.bases)) given_on (goes_given o q flow p naming row s r to has newest items wanted vs e 1 j at low high there right_alive)

      abbrev b : machine.Reach
      b = reach_of j at high

      abbrev text : machine.Scanned
      text = machine.scanned (contents (machine.bytes_from s.world (reach_of j at high) (high - at)))

      module _ (t : ℕ) (ended : text ≡ machine.ends t) where
        short : t < high - at
        short = strings.ends_here o q flow p naming row s r to has newest items wanted vs e 1 j at low high there right_alive t ended

        small : t ≤ 2 ^ 64 - 1
        small = let x = r.stands_for.sane.small j in let y = right_within.within in let z = short in omega (arith, x, y, z)

        scanned_on : text_trail.goes_on ≡ true
        scanned_on = goes_further both_trail (scan_violations scan) (not (bases_empty scan.bases)) both_on ((strings.is_scan o q flow p naming row s r to has newest items wanted vs e 1 j at low high there right_alive).based t ended)

        need_has : RangeHas need (pos (t + 1))
        need_has = let z = small in more_has (n.bounds scan.length) t (bounds_have q scan.length (pos t) ((strings.is_scan o q flow p naming row s r to has newest items wanted vs e 1 j at low high there right_alive).ended t ended)) (omega (arith, z))

        abbrev size : ℕ
        size = t + 1

        room_stop : hi - offset < size → violates text_plan.violations rule.Libptr ≡ true
        room_stop h = literal_on rule.Libptr (told_here text_trail (room_violations (passes_room n need given.rest)) (is_some cut) rule.Libptr scanned_on (room_told o q flow p.shaped naming s.world.memory r.stands_for.sane given.rest i offset lo hi st within need size need_has h))

        module _ (room : size ≤ hi - offset) where
          cut_size : RangeHas cut (pos size)
          cut_size = cut_has o q flow p.shaped naming s.world.memory r.stands_for.sane given.rest i offset lo hi st within need size need_has room

          some_range : (x : Range) → RangeHas x (pos size) → is_some x ≡ true
          some_range None h = absurd h
          some_range (Some x) h = refl

          fitted : fitting_trail.goes_on ≡ true
          fitted = goes_further text_trail (room_violations (passes_room n need given.rest)) (is_some cut) scanned_on (some_range cut cut_size)

          literal_stop : is_literal (storage_at s.world.memory i) ≡ true → violates text_plan.violations rule.Strmod ≡ true
          literal_stop lit = told_here fitting_trail (literal_violations (writes_literal flow.bases.items given.rest.bases cut)) (not (bases_empty (after_write flow.bases.items given.rest.bases cut))) rule.Strmod fitted (literal_told o q flow p.shaped naming s.world.memory r.stands_for.sane given.rest i offset lo hi st within alive cut size cut_size (omega arith) lit)

          module _ (plain : is_literal (storage_at s.world.memory i) ≡ false) where
            after_there : bases_has (after_write flow.bases.items given.rest.bases cut) st.base ≡ true
            after_there = after_has o q flow p.shaped naming s.world.memory r.stands_for.sane given.rest i offset lo hi st within alive cut size cut_size (λ some. plain)

            on : target.trail.goes_on ≡ true
            on = goes_further fitting_trail (literal_violations (writes_literal flow.bases.items given.rest.bases cut)) (not (bases_empty (after_write flow.bases.items given.rest.bases cut))) fitted (ap not (not_empty (after_write flow.bases.items given.rest.bases cut) st.base after_there))

            rest : (y : InGammaInto gamma naming s.world.memory target.rest i offset lo hi) × (y.base ≡ st.base)
            rest = within_stands o q flow p.shaped naming s.world.memory r.stands_for.sane given.rest i offset lo hi st within (after_write flow.bases.items given.rest.bases cut) after_there

            -- ---- what is read

            source_has : bases_has scan.bases right_st.base ≡ true
            source_has = (and_parts (nat_lt right_st.base most_bases) (bases_has scan.bases right_st.base)
                (own_base o q flow p.shaped naming row (state_of s) r.stands_for _ j at low high right_alive _ _ scan (strings.is_scan o q flow p naming row s r to has newest items wanted vs e 1 j at low high there right_alive) t ended right_st.base right_st.named)).1

            reads : (y : InGammaInto gamma naming s.world.memory read j at low high) × (y.base ≡ right_st.base)
            reads = within_stands o q flow p.shaped naming s.world.memory r.stands_for.sane source.rest j at low high right_st right_within scan.bases source_has

            read_window : (x : ℕ) → at ≤ x → x < at + size → WindowHas (touched_window n read cut) x
            read_window x from below = let z = short in touched_has o q flow p.shaped naming s.world.memory r.stands_for.sane read j at low high reads.0 right_within cut size cut_size (omega (arith, z)) x from below

            read_base : (base : BaseInfo) × (slice_get flow.bases.items right_st.base ≡ Some base)
            read_base = get_there flow.bases.items right_st.base (r.stands_for.sane.few j right_st.base right_st.named)

            -- a byte of the text
            source_byte : (k : ℕ) → k ≤ t → (y : Byte) × (byte_at s.world.memory j (at + k) ≡ Some y) × (z : IsNumberAt (contents (machine.bytes_from s.world (reach_of j at high) (high - at))) t k) × (y.content ≡ number z.digit z.labels)
            unfolding byte_at
            source_byte k less =
                let z = scanned_at (contents (machine.bytes_from s.world (reach_of j at high) (high - at))) t ended k less in
                let y = get_map (λ w. w.content) (machine.bytes_from s.world (reach_of j at high) (high - at)) k (number z.digit z.labels) z.there in
                let w = region_at (bytes_at s.world.memory j) at (high - at) k (at + k) y.0 y.1 refl in
                (y.0, w.1, z, y.2)

            abbrev content_list : List Content
            content_list = contents (machine.bytes_from s.world (reach_of j at high) size)

            content_long : length content_list ≡ size
            content_long =
                let z = short in
                let y = right_within.within in
                length-map (machine.bytes_from s.world (reach_of j at high) size) (λ w. w.content) ∙ region_length (bytes_at s.world.memory j) at size (omega (arith, z, y))

            -- each content is that of a byte of the text
            content_at : (k : ℕ) (x : Content) → slice_get content_list k ≡ Some x → (k ≤ t) × ((y : Byte) → byte_at s.world.memory j (at + k) ≡ Some y → y.content ≡ x)
            unfolding byte_at
            content_at k x f =
                let y = get_map (λ w. w.content) (machine.bytes_from s.world (reach_of j at high) size) k x f in
                let w = region_at (bytes_at s.world.memory j) at size k (at + k) y.0 y.1 refl in
                let less = w.0 in
                (omega (arith, less), λ u g. ap (λ v. v.content) (same_Some u y.0 (sym g ∙ w.1)) ∙ y.2)

            number_there : (k : ℕ) (x : Content) → slice_get content_list k ≡ Some x → (z : IsNumberAt (contents (machine.bytes_from s.world (reach_of j at high) (high - at))) t k) × (x ≡ number z.digit z.labels)
            number_there k x f =
                let r2 = content_at k x f in
                let y = source_byte k r2.0 in
                (y.2, sym (r2.1 y.0 y.1) ∙ y.3)

            -- ---- memory

            abbrev memory : Memory
            memory = set_bytes s.world.memory i (refilled (bytes_at s.world.memory i) offset content_list)

            fits : offset + length content_list ≤ length (bytes_at s.world.memory i)
            fits = let x = content_long in let y = within.within in let z = within.below in omega (arith, x, y, z, room)

            written_here : IsWritten s.world.memory memory i offset content_list
            written_here = let it = instance_there s.world.memory i alive in contents_written s.world.memory i offset content_list it.0 it.1 fits

            region_here : IsRegion s.world.memory memory i offset size
            region_here = subst (IsRegion s.world.memory memory i offset) content_long written_here.region

            sane : IsMemoryOf flow.model flow.bases.items naming memory
            sane = let it = instance_there s.world.memory i alive in contents_sane s.world.memory i offset content_list it.0 it.1 fits flow.model flow.bases.items naming (λ k x f.
                let r2 = content_at k x f in
                let y = source_byte k r2.0 in
                let z = number_there k x f in
                (z.0.digit, z.0.labels, z.1, subst (λ v. IsContentIn s.world.memory v y.0.tag) (r2.1 y.0 y.1 ∙ z.1) (r.stands_for.sane.bytes j (at + k) y.0 y.1))) r.stands_for.sane

            -- a byte of the region is one of the text
            byte_is : (x : ℕ) (b2 : Byte) → offset ≤ x → x < offset + size → byte_at memory i x ≡ Some b2 → (x - offset ≤ t) × (slice_get content_list (x - offset) ≡ Some b2.content)
            byte_is x b2 from below f = let long = content_long in (omega (arith, from, below), region_content written_here x b2 from (omega (arith, below, long)) f)

            result : IsResult q flow p naming memory (pointer_value l target.rest) (pointer d)
            result = subst (λ y. IsResult q flow p naming memory (pointer_value l target.rest) (pointer y)) (sym is) (record {
              stands_for = scalar_moves (alike_region region_here) gamma naming (pointer_value l target.rest) (pointer (into i offset lo hi)) (subst (λ y. InGammaByLife gamma naming s.world.memory target.rest y i offset lo hi) (sym alive) rest.0);
              near = tt;
              within = pointer_in_moves (alike_region region_here) (into i offset lo hi) within;
            })

            laid : IsLaidOut flow (length row)
            laid = subst (IsLaidOut flow) (sym r.long) p.laid

            start : WindowHas (window_within (offsets n target.rest)) offset
            start = start_has o q flow p.shaped naming s.world.memory r.stands_for.sane target.rest i offset lo hi rest.0 within

            touched : (x : ℕ) → offset ≤ x → x < offset + size → WindowHas (touched_window n target.rest cut) x
            touched x from below = touched_has o q flow p.shaped naming s.world.memory r.stands_for.sane target.rest i offset lo hi rest.0 within cut size cut_size room x from below

            window_at : WindowHas (touched_window n target.rest cut) offset
            window_at = touched offset (omega arith) (omega arith)

            abbrev write : TextWrite I
            write = record { bases = writable_of flow.bases.items target.rest.bases; start = start.window; window = window_at.window; one_byte = is_one_byte cut; characters = letters; zero = zero_rule.Text (one_less l n cut) }

            window_has : (x : ℕ) → offset ≤ x → x < offset + size → (window_at.window.lo ≤ x) × (x ≤ window_at.window.hi)
            window_has x from below =
                let y = touched x from below in
                let same : y.window ≡ window_at.window = same_Some y.window window_at.window (sym y.is ∙ window_at.is) in
                subst (λ v. (v.lo ≤ x) × (x ≤ v.hi)) same (y.from, y.to)

            -- the characters of the source
            letters_number : (k : ℕ) → k ≤ t → (y : Labelled) (b2 : Byte) → byte_at s.world.memory j (at + k) ≡ Some b2 → b2.content ≡ number_in y → ((signed : Bool) → gamma (cond signed letters.signed letters.unsigned) (number_of signed (y ∷ []))) × (labels_leq (as_set y.labels) letters.labels ≡ true)
            letters_number k less y b2 f g =
                let w = read_window (at + k) (omega arith) (omega (arith, less)) in
                let among = subst (λ v. bases_has read.bases v ≡ true) reads.1 reads.0.among in
                subst (λ v. ((signed : Bool) → gamma (cond signed (characters_of l n flow.model flow.bases.items row read.bases v).signed (characters_of l n flow.model flow.bases.items row read.bases v).unsigned) (number_of signed (y ∷ []))) × (labels_leq (as_set y.labels) (characters_of l n flow.model flow.bases.items row read.bases v).labels ≡ true)) (sym w.is) (
                  (λ signed. source_number o q c flow p.shaped p.padding naming row (state_of s) r.stands_for read.bases w.window j (at + k) right_st.base read_base.0 read_base.1 right_st.named right_alive among w.from w.to b2 f y g signed),
                  source_labels o q c flow p.shaped p.padding naming row (state_of s) r.stands_for read.bases w.window j (at + k) right_st.base read_base.0 read_base.1 right_st.named right_alive among w.from w.to b2 f y g,
                )

            is_text : IsTextWrite l n gamma write memory i offset size
            is_text = record {
              window = window_has;
              start = (start.from, start.to);
              one_byte = λ f. one_has o q flow p.shaped naming s.world.memory r.stands_for.sane target.rest i offset lo hi rest.0 within cut size cut_size f;
              numbers = λ x b2 from below f.
                  let u = byte_is x b2 from below f in
                  let z = number_there (x - offset) b2.content u.1 in
                  let y = source_byte (x - offset) u.0 in
                  let v = content_at (x - offset) b2.content u.1 in
                  let one : Labelled = record { number = z.0.digit; labels = z.0.labels } in
                  (z.0.digit, z.0.labels, z.1, (letters_number (x - offset) u.0 one y.0 y.1 (v.1 y.0 y.1 ∙ z.1)).1);
              characters = λ x y b2 from below f g signed.
                  let u = byte_is x b2 from below f in
                  let w = source_byte (x - offset) u.0 in
                  let v = content_at (x - offset) b2.content u.1 in
                  joined_stands o q (cond signed letters.signed letters.unsigned) (n.one (pos 0)) (number_of signed (y ∷ [])) ((letters_number (x - offset) u.0 y w.0 w.1 (v.1 w.0 w.1 ∙ g)).0 signed);
            }

            seen_here : (k : ℕ) (b2 : Byte) → k ≤ t → byte_at memory i (offset + k) ≡ Some b2 → (z : IsNumberAt (contents (machine.bytes_from s.world (reach_of j at high) (high - at))) t k) × (b2.content ≡ number z.digit z.labels)
            seen_here k b2 less f =
                let same : (offset + k) - offset ≡ k = omega arith in
                let u = byte_is (offset + k) b2 (omega arith) (omega (arith, less)) f in
                number_there k b2.content (subst (λ v. slice_get content_list v ≡ Some b2.content) same u.1)

            written_text : IsWrittenText memory i offset size t
            written_text = record {
              long = refl;
              text = λ k b2 less f. let z = seen_here k b2 (omega (arith, less)) f in ap seen_as z.1 ∙ z.0.inner less;
              closed = λ b2 f. let z = seen_here t b2 (omega arith) f in ap seen_as z.1 ∙ z.0.last refl;
            }

            in_write : (b2 : ℕ) → naming i ≡ Some b2 → 0 < size → has_base write.bases b2 ≡ true
            in_write b2 named some_size =
                let same : st.base ≡ b2 = same_Some st.base b2 (sym st.named ∙ named) in
                subst (λ v. has_base write.bases v ≡ true) same (is_writable o q flow p.shaped naming s.world.memory r.stands_for.sane given.rest i offset lo hi st within alive cut size cut_size target.rest.bases (subst (λ v. bases_has target.rest.bases v ≡ true) rest.1 rest.0.among) plain)

            one_live : is_one_instance flow.bases.items write.bases ≡ true → 0 < size → (b2 h : ℕ) → has_base write.bases b2 ≡ true → IsLiveOf naming s.world.memory b2 h → h ≡ i
            one_live alone some_size b2 h in_set g =
                let own = in_write st.base st.named some_size in
                let v = alone_is flow.bases.items write.bases st.base own alone in
                let base = get_there flow.bases.items st.base (r.stands_for.sane.few i st.base st.named) in
                let same : b2 ≡ st.base = v.one b2 in_set in
                r.stands_for.sane.one h i st.base base.0 base.1 (not_older base.0.kind (v.single st.base base.0 base.1 own)) (g.named ∙ ap Some same) st.named (λ y. live_ended (sym g.alive ∙ y)) (λ y. live_ended (sym alive ∙ y))

            counted : gamma (one_less l n cut) (pos t)
            counted = let z = small in less_stands o q cut t cut_size (omega (arith, z))

            text_is : text_plan.effect ≡ effect.Text write (pointer_value l target.rest)
            text_is =
                ap (λ y. cond {A = Effect I} y (text_effect l call target (window_within (offsets n target.rest)) (touched_window n target.rest cut) (is_one_byte cut) letters (zero_rule.Text (one_less l n cut))) effect.Unreached) on
                ∙ (ap (λ y. text_effect l call target y (touched_window n target.rest cut) (is_one_byte cut) letters (zero_rule.Text (one_less l n cut))) start.is
                ∙ ap (λ y. text_effect l call target (Some start.window) y (is_one_byte cut) letters (zero_rule.Text (one_less l n cut))) window_at.is)

            text_good : Fine (goes (Some (pointer d)) (with_contents s.world (reach_of i offset hi) content_list))
            unfolding apply
            text_good = written_good o q flow p naming row s r to has newest text_plan found fine memory region_here.lengths (write_text l n flow write row)
                (text_write_long o q flow naming row (state_of s) laid r.stands_for memory i offset size region_here sane write is_text (t, written_text, counted) in_write one_live)
                (text_write_stands o q flow naming row (state_of s) laid r.stands_for memory i offset size region_here sane write is_text (t, written_text, counted) in_write one_live) (pointer_value l target.rest) (pointer d) result
                (ap (λ y. apply l n flow to newest y row) text_is)

            by_overlap : (x : Bool) → Fine (with_result (cond x (stops Left s.world) (goes (pointer d) (with_contents s.world (reach_of i offset hi) content_list))))
            by_overlap true = plain_stop o q flow p naming row s r to has newest text_plan found fine Left
            by_overlap false = text_good

          by_literal : (x : Bool) → (nat_lt 0 size && is_literal (storage_at s.world.memory i)) ≡ x → Fine (with_result (behind (cond x (stopped_by s.world rule.Strmod) (goes (reach_of i offset hi) s.world)) (λ _ w. write_reply (reach_of i offset hi) (reach_of j at high) t w)))
          by_literal true f = let y = and_parts (nat_lt 0 size) (is_literal (storage_at s.world.memory i)) f in told_stop o q flow p naming row s r to has newest text_plan found fine rule.Strmod (literal_stop y.1)
          by_literal false f = by_overlap (by_flags (nat_lt 0 size) (is_literal (storage_at s.world.memory i)) (lt-ltb 0 size (omega arith)) f) (overlap (reach_of i offset hi).spot size (reach_of j at high).spot size)
            where
              by_flags : (x y : Bool) → x ≡ true → (x && y) ≡ false → y ≡ false
              by_flags true y g h = h
              by_flags false y g h = cc

        by_room : (x : Bool) → nat_lt (hi - offset) size ≡ x → Fine (with_result (behind (cond x (stopped_by s.world rule.Libptr) (goes (reach_of i offset hi) s.world)) (λ _ w. behind (machine.writable size (reach_of i offset hi) w) (λ _ w. write_reply (reach_of i offset hi) (reach_of j at high) t w))))
        by_room true f = told_stop o q flow p naming row s r to has newest text_plan found fine rule.Libptr (room_stop (ltb-true (hi - offset) size f))
        by_room false f = by_literal (let h = ltb-false (hi - offset) size f in omega (arith, h)) (nat_lt 0 size && is_literal (storage_at s.world.memory i)) refl

        room_good : Fine (with_result (fit_reply (reach_of i offset hi) (reach_of j at high) t s.world))
        room_good = by_room (nat_lt (hi - offset) size) refl

      scan_good : Fine (with_result (scan_reply (reach_of i offset hi) (reach_of j at high) s.world))
      scan_good = subst Fine (sym (behind_behind (machine.string_length (reach_of j at high) s.world) (fit_reply (reach_of i offset hi) (reach_of j at high)) (λ v w. goes (Some v) w)))
          (strings.scan_good o q flow p naming row s r to has newest items wanted vs e 1 j at low high there right_alive text_plan
          (λ h. room_on rule.Nonnullcs (told_here both_trail (scan_violations scan) (not (bases_empty scan.bases)) rule.Nonnullcs both_on h))
          (λ k w. with_result (fit_reply (reach_of i offset hi) (reach_of j at high) k w)) room_good)

    source_good : Fine (with_result (source_reply (reach_of i offset hi) s.world))
    source_good = subst Fine (sym (behind_behind (machine.reached m s.world) (scan_reply (reach_of i offset hi)) (λ v w. goes (Some v) w)))
        (reach_good o q flow p naming row s r to has newest items wanted vs e text_plan found fine 1 m second
        (λ rl h. scan_on rl (told_here first_trail source.violations (not (bases_empty source.rest.bases)) rl given_on h))
        (λ y w. with_result (scan_reply (reach_of i offset hi) y w)) scan_good)

  pub text_call_good : Good o q flow p naming row s r to has newest (plan_strcpy l n (call_of flow items wanted) row) (with_result (copy_string d m s.world))
  unfolding plan_strcpy
  text_call_good = subst Fine (sym (behind_behind (machine.reached d s.world) source_reply (λ v w. goes (Some v) w)))
      (reach_good o q flow p naming row s r to has newest items wanted vs e text_plan found fine 0 d first
      (λ rl h. source_on rl (told_here (trail_of no_violations) given.violations (not (bases_empty given.rest.bases)) rl refl h))
      (λ y w. with_result (source_reply y w)) source_good)
