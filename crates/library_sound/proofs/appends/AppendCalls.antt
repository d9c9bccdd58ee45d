-- Calls of `strcat` are sound.
use Rattle.std.proofs.Common.{◌≡◌, ℕ, ◌+◌, ◌-◌, ◌^◌, ◌<◌, ◌≤◌, Bool, true, false, cond, not, ◌&&◌, Option, Some, None, List, length, arith, subst, sym, refl, ap, ◌∙◌, inl, inr, [], ◌∷◌}
use Rattle.std.specs.Prelude.{slice_get, ℤ, pos, is_some, nat_lt}
use Rattle.std.proofs.lemmas.Bool.{and_parts, lt-ltb, ltb-true, ltb-false}
use Rattle.std.proofs.lemmas.List.{length-map}
use Rattle.std.proofs.lemmas.Option.{same_Some}
use Rattle.cc_base.specs.Lattices.{LatticeOf, OrderLaws}
use Rattle.cc_base.specs.IntegerDomains.{IntegersOf, BoundLaws}
use Rattle.cc_base.specs.IntegerLaws.{SoundLaws}
use Rattle.cc_base.specs.NumberRanges.{Range}
use Rattle.cc_base.specs.declared.diagnostics.Rule.{Rule}
use Rattle.cc_base.specs.declared.diagnostics.Rule.TheVariants as rule
use Rattle.c_layout.specs.declared.shapes.BaseInfo.{BaseInfo}
use Rattle.c_layout.specs.declared.shapes.ZeroPart.{ZeroPart}
use Rattle.cfg.specs.WellFormed.{names_of, has_result}
use Rattle.cfg.specs.declared.programs.Flow.{Flow}
use Rattle.pointer_domain.specs.BaseSets.{bases_has, bases_empty}
use Rattle.pointer_domain.specs.declared.pointer_sets.Pointers.{Pointers}
use Rattle.value_domain.specs.Values.LabelSets.{labels_leq}
use Rattle.value_domain.specs.Values.ValueTables.{pointer_value}
use Rattle.value_domain.specs.declared.values.row_cells.Cell.{Cell}
use Rattle.domain_theorems.proofs.values.Numbers.{RangeHas, bounds_have}
use Rattle.store_cells.specs.declared.access_windows.Window.{Window}
use Rattle.store_cells.specs.AccessWindows.{window_within, added_ranges}
use Rattle.store_objects.specs.LiveBases.{most_bases, has_base, writable_of, is_one_instance}
use Rattle.transfer_checks.specs.LibraryArguments.{writes_literal, after_write, within_bases, passes_room, cut_by_room, touched_window}
use Rattle.transfer_checks.specs.ViolationSets.{no_violations, violates}
use Rattle.transfer_checks.specs.declared.library_arguments.Argument.{Argument}
use Rattle.transfer_checks.specs.declared.string_scans.Scanned.{Scanned}
use Rattle.transfer_library_plans.specs.Arguments.{room_violations, literal_violations}
use Rattle.transfer_library_plans.specs.Calls.{Call}
use Rattle.transfer_library.specs.Effects.{apply}
use Rattle.transfer_library.specs.MemoryCalls.{room_trail, target_of}
use Rattle.transfer_library_plans.specs.Outputs.{scan_violations, given_trail, scanned_trail, scan_at}
use Rattle.transfer_library_plans.specs.Plans.{trail_of, planned}
use Rattle.transfer_library_writes.specs.Sources.{characters_of}
use Rattle.transfer_library.specs.StringCalls.{one_more, text_effect, source_characters, append_start, append_window, appended, append_effect, plan_strcat}
use Rattle.transfer_library_writes.specs.TextWrites.{write_text}
use Rattle.transfer_library_plans.specs.declared.call_plans.Effect.{Effect}
use Rattle.transfer_library_plans.specs.declared.call_plans.Effect.TheVariants as effect
use Rattle.transfer_library_plans.specs.declared.call_plans.Plan.{Plan}
use Rattle.transfer_library_plans.specs.declared.call_plans.Trail.{Trail}
use Rattle.transfer_library.specs.declared.memory_calls.Target.{Target}
use Rattle.transfer_library_writes.specs.declared.source_bytes.Characters.{Characters}
use Rattle.transfer_library_writes.specs.declared.text_writes.TextWrite.{TextWrite}
use Rattle.transfer_library_writes.specs.declared.text_writes.ZeroRule.TheVariants as zero_rule
use Rattle.transfer_sound.specs.CallSteps.{call_of}
use Rattle.memory_model.specs.Memory.Bytes.{MachinePointer, into, Content, number, Byte}
use Rattle.memory_model.specs.Memory.Instances.{Memory, live, bytes_at, byte_at, life_at}
use Rattle.memory_model.specs.Memory.Numbers.{Labelled, number_of}
use Rattle.memory_model.specs.Memory.Scalars.{Scalar, pointer}
use Rattle.memory_model.specs.Effects.LibraryCalls.{with_result}
use Rattle.memory_model.specs.Effects.LibraryChecks as machine
use Rattle.memory_model.specs.Effects.MemoryCalls.{with_contents}
use Rattle.memory_model.specs.Effects.ScalarBytes.{region, contents, refilled}
use Rattle.memory_model.specs.Effects.StringCalls.{written, further, append_string}
use Rattle.memory_model.specs.Effects.StructCopies.{overlap}
use Rattle.memory_model.specs.Effects.Touches.{storage_at, is_literal, set_bytes}
use Rattle.memory_model.specs.Effects.Worlds.{World, Left, Reply, goes, stops, behind, stopped_by}
use Rattle.semantics.specs.CfgMachine.FlowStates.{ProgramState, values_of}
use Rattle.store_sound.specs.Concretization.FirstZeroBytes.{seen_as, first_zero}
use Rattle.store_sound.specs.Concretization.Matching.{number_in}
use Rattle.store_sound.specs.Concretization.SeenLabels.{as_set}
use Rattle.store_sound.specs.Concretization.SoundMemory.{IsContentIn, IsMemoryOf, IsWithin}
use Rattle.store_sound.specs.Concretization.ValueMeaning.{Naming, InGammaInto, InGammaByLife}
use Rattle.store_sound.specs.Concretization.RowMeaning.{MachineState, array_bytes, IsLiveOf, InGamma}
use Rattle.store_sound.specs.Concretization.Coverage.{state_of}
use Rattle.store_sound.specs.Operations.Shapes.{AreShaped, IsLaidOut}
use Rattle.store_sound.proofs.operations.Frames.{pointer_in_moves, scalar_moves}
use Rattle.store_sound.proofs.operations.LoadSound.{instance_there}
use Rattle.store_sound.proofs.operations.Reading.{region_at, region_length}
use Rattle.store_sound.proofs.operations.Slices.{get_there, get_map}
use Rattle.store_sound.proofs.operations.StoreLeaves.{live_ended, not_older}
use Rattle.store_sound.proofs.operations.StorePlaces.{not_empty}
use Rattle.store_sound.proofs.operations.Windows.{WindowHas}
use Rattle.store_sound.specs.Programs.Premises.{HasPremises}
use Rattle.store_sound.specs.Regions.RegionWrites.{IsRegion}
use Rattle.store_sound.proofs.regions.ContentRegions.{IsWritten, contents_written, contents_sane, region_content}
use Rattle.store_sound.proofs.regions.Regions.{alike_region}
use Rattle.transfer_sound.specs.Values.SoundSteps.{IsReached}
use Rattle.transfer_sound.proofs.values.Admitted.{AreAdmitted}
use Rattle.transfer_sound.proofs.values.PutTemps.{IsResult}
use Rattle.library_sound.proofs.calls.Calls.{clean}
use Rattle.library_sound.proofs.strings.GivenPointers.{reach_of}
use Rattle.library_sound.proofs.strings.Scans.{IsScan}
use Rattle.library_sound.proofs.strings.StringCalls as strings
use Rattle.library_sound.proofs.strings.Trails.{still_told, told_here, goes_further}
use Rattle.library_sound.proofs.fills.Targets.{alone_is, within_stands, cut_has, room_told, literal_told, is_writable, after_has, touched_has}
use Rattle.library_sound.proofs.fills.WriteCalls.{behind_behind, Good, told_stop, plain_stop, written_good, given_at, reach_good, given_within, goes_given, given_into}
use Rattle.library_sound.specs.Texts.TextWrites.{IsTextWrite, IsWrittenText}
use Rattle.library_sound.proofs.texts.SourceCharacters.{source_number, source_labels}
use Rattle.library_sound.proofs.texts.TextCalls.{IsNumberAt, scanned_at}
use Rattle.library_sound.proofs.bounded_texts.KnownScans.{IsKnownText, text_known}
use Rattle.library_sound.specs.Appends.ApartTexts.{HasByte, HasApartTexts}
use Rattle.library_sound.specs.Appends.AppendWrites.{EndsAt}
use Rattle.library_sound.proofs.appends.AppendRules.{added_has}
use Rattle.library_sound.proofs.appends.AppendPlaces.{behind_has, more_has, appended_stands, start_range, append_starts}
use Rattle.library_sound.proofs.appends.AppendWrites.{byte_from, append_stands, append_long}

some_range : (x : Range) (z : ℤ) → RangeHas x z → is_some x ≡ true
some_range None z h = absurd h
some_range (Some x) z h = refl

same_end : (s : machine.Scanned) (a b : ℕ) → (s ≡ machine.ends a) → s ≡ machine.ends b → a ≡ b
same_end s a b e f = let d : machine.ends a ≡ machine.ends b = sym e ∙ f in cc

module _ {I : Type 0} {l : LatticeOf I} {n : IntegersOf I} {gamma : I → ℤ → Type 0} (o : OrderLaws l) (q : BoundLaws l n gamma) (flow : Flow) (shaped : AreShaped flow.bases.items) (naming : Naming) (row : List (Cell I)) (state : MachineState) (s : InGamma l n gamma flow naming row state)
    (p : Pointers I) (i offset lo hi : ℕ) (alive : life_at state.memory i ≡ live) (st : InGammaInto gamma naming state.memory p i offset lo hi) (inside : IsWithin state.memory i offset lo hi) where
  -- the base of what is scanned goes on
  own_base : (found : Scanned I) → IsScan o q flow shaped naming row state s p i offset lo hi alive st inside found → (t : ℕ) → machine.scanned (contents (region (bytes_at state.memory i) offset (hi - offset))) ≡ machine.ends t → (b : ℕ) → naming i ≡ Some b → has_base found.bases b ≡ true
  own_base found scan t closed b named = subst (λ z. has_base found.bases z ≡ true) (same_Some st.base b (sym st.named ∙ named)) (scan.own t closed)

  -- the text that is there ends at the first zero of each array that has the byte, where the end is known
  module _ (apart : HasApartTexts flow.bases.items) (h : ℕ) (closed : machine.scanned (contents (region (bytes_at state.memory i) offset (hi - offset))) ≡ machine.ends h) (z : ℕ) (base : BaseInfo) (part : ZeroPart) (at : slice_get flow.bases.items st.base ≡ Some base) (among : slice_get base.shape.zeros z ≡ Some part) (byte : HasByte part (offset + h)) (k : IsKnownText o q flow shaped naming row state s p i offset lo hi alive st inside base) where
    where_is : offset + h ≡ k.part.offset + k.zero
    where_is = elim k.found [
      | inl f ↦ (let same = same_end (machine.scanned (contents (region (bytes_at state.memory i) offset (hi - offset)))) h (k.zero - (offset - k.part.offset)) closed f in
          let a = k.starts in
          let b = k.before in
          omega (arith, same, a, b))
      | inr f ↦ (let d : machine.broken ≡ machine.ends h = sym f ∙ closed in cc)
    ]

    index_is : z ≡ k.index
    index_is = (apart st.base base at).one z k.index (offset + h) part k.part among k.among byte (subst (HasByte k.part) (sym where_is) (byte_from k.part.size k.part.offset (k.part.offset + k.zero) k.has))

    part_is : part ≡ k.part
    part_is = same_Some part k.part (sym among ∙ (ap (slice_get base.shape.zeros) index_is ∙ k.among))

    zero_there : first_zero (array_bytes part (bytes_at state.memory i)) ≡ Some ((offset + h) - part.offset)
    zero_there =
        let a = where_is in
        let b : k.zero ≡ (offset + h) - k.part.offset = omega (arith, a) in
        subst (λ y. first_zero (array_bytes y (bytes_at state.memory i)) ≡ Some ((offset + h) - y.offset)) (sym part_is) (k.is ∙ ap (λ y. Some y) b)

module _ {I : Type 0} {l : LatticeOf I} {n : IntegersOf I} {gamma : I → ℤ → Type 0} (o : OrderLaws l) (q : BoundLaws l n gamma) (c : SoundLaws l n gamma) (flow : Flow) (p : HasPremises flow) (apart : HasApartTexts flow.bases.items) (naming : Naming) (row : List (Cell I)) (s : ProgramState) (r : IsReached l n gamma flow naming row s) (to : Option ℕ) (has : has_result (names_of flow) to ≡ true) (newest : Option ℕ)
    (items : List ℕ) (wanted : Option ℕ) (vs : List Scalar) (e : values_of s.temps items ≡ Some vs)
    (d : MachinePointer) (m : MachinePointer) (first : slice_get vs 0 ≡ Some (pointer d)) (second : slice_get vs 1 ≡ Some (pointer m)) where
  abbrev call : Call
  call = call_of flow items wanted

  abbrev given : Argument I
  given = given_at o q flow p naming row s r to has newest items wanted vs e 0

  abbrev source : Argument I
  source = given_at o q flow p naming row s r to has newest items wanted vs e 1

  -- the text that is there, and the new one
  abbrev old : Scanned I
  old = scan_at l n call row given

  abbrev new : Scanned I
  new = scan_at l n call row source

  abbrev place : Pointers I
  place = within_bases l n given.rest old.bases

  abbrev need : Range
  need = added_ranges (n.bounds old.length) (one_more n new.length)

  abbrev cut : Range
  cut = cut_by_room n need place

  -- ---- trails

  abbrev first_trail : Trail
  first_trail = given_trail (trail_of no_violations) given

  abbrev both_trail : Trail
  both_trail = given_trail first_trail source

  abbrev old_trail : Trail
  old_trail = scanned_trail both_trail old

  abbrev text_trail : Trail
  text_trail = scanned_trail old_trail new

  abbrev fitting_trail : Trail
  fitting_trail = room_trail n text_trail place need

  abbrev target : Target I
  target = target_of l n call fitting_trail place cut

  abbrev read : Pointers I
  read = within_bases l n source.rest new.bases

  abbrev added : I
  added = appended l n old.length new.length cut

  abbrev letters : Characters I
  letters = source_characters l n call row read (one_more n added)

  abbrev append_plan : Plan I
  append_plan = planned target.trail (append_effect l n call target old letters added)

  literal_on : (rl : Rule) → violates fitting_trail.violations rl ≡ true → violates target.trail.violations rl ≡ true
  literal_on rl h = still_told fitting_trail (literal_violations (writes_literal flow.bases.items place.bases cut)) (not (bases_empty (after_write flow.bases.items place.bases cut))) rl h

  room_on : (rl : Rule) → violates text_trail.violations rl ≡ true → violates target.trail.violations rl ≡ true
  room_on rl h = literal_on rl (still_told text_trail (room_violations (passes_room n need place)) (is_some cut) rl h)

  new_on : (rl : Rule) → violates old_trail.violations rl ≡ true → violates target.trail.violations rl ≡ true
  new_on rl h = room_on rl (still_told old_trail (scan_violations new) (not (bases_empty new.bases)) rl h)

  old_on : (rl : Rule) → violates both_trail.violations rl ≡ true → violates target.trail.violations rl ≡ true
  old_on rl h = new_on rl (still_told both_trail (scan_violations old) (not (bases_empty old.bases)) rl h)

  source_on : (rl : Rule) → violates first_trail.violations rl ≡ true → violates target.trail.violations rl ≡ true
  source_on rl h = old_on rl (still_told first_trail source.violations (not (bases_empty source.rest.bases)) rl h)

  abbrev found : List Rule
  found = s.world.violated

  fine : AreAdmitted append_plan.violations found
  fine = clean q flow p naming row s r append_plan.violations

  abbrev Fine : Reply (Option Scalar) → Type 0
  Fine reply = Good o q flow p naming row s r to has newest append_plan reply

  -- ---- what the machine does behind each of its checks

  abbrev write_reply : machine.Reach → machine.Reach → ℕ → ℕ → World → Reply Scalar
  write_reply a b h k w = written (further a h) (k + 1) b (k + 1) (contents (machine.bytes_from w b (k + 1))) (pointer d) w

  abbrev fit_reply : machine.Reach → machine.Reach → ℕ → ℕ → World → Reply Scalar
  fit_reply a b h k w = behind (machine.fitting ((h + k) + 1) a w) (λ _ w. behind (machine.writable ((h + k) + 1) a w) (λ _ w. write_reply a b h k w))

  abbrev new_reply : machine.Reach → machine.Reach → ℕ → World → Reply Scalar
  new_reply a b h w = behind (machine.string_length b w) (fit_reply a b h)

  abbrev old_reply : machine.Reach → machine.Reach → World → Reply Scalar
  old_reply a b w = behind (machine.string_length a w) (new_reply a b)

  abbrev source_reply : machine.Reach → World → Reply Scalar
  source_reply a w = behind (machine.reached m w) (old_reply a)

  module _ (i offset lo hi : ℕ) (is : d ≡ into i offset lo hi) (alive : life_at s.world.memory i ≡ live) where
    here : slice_get vs 0 ≡ Some (pointer (into i offset lo hi))
    here = first ∙ ap (λ y. Some (pointer y)) is

    within : IsWithin s.world.memory i offset lo hi
    within = given_within o q flow p naming row s r to has newest items wanted vs e 0 i offset lo hi here alive

    st : InGammaInto gamma naming s.world.memory given.rest i offset lo hi
    st = given_into o q flow p naming row s r to has newest items wanted vs e 0 i offset lo hi here alive

    given_on : first_trail.goes_on ≡ true
    given_on = goes_further (trail_of no_violations) given.violations (not (bases_empty given.rest.bases)) refl (goes_given o q flow p naming row s r to has newest items wanted vs e 0 i offset lo hi here alive)

    module _ (j at low high : ℕ) (right_is : m ≡ into j at low high) (right_alive : life_at s.world.memory j ≡ live) where
      there : slice_get vs 1 ≡ Some (pointer (into j at low high))
      there = second ∙ ap (λ y. Some (pointer y)) right_is

      right_within : IsWithin s.world.memory j at low high
      right_within = given_within o q flow p naming row s r to has newest items wanted vs e 1 j at low high there right_alive

      right_st : InGammaInto gamma naming s.world.memory source.rest j at low high
      right_st = given_into o q flow p naming row s r to has newest items wanted vs e 1 j at low high there right_alive

      both_on : both_trail.goes_on ≡ true
      both_on = goes_further first_trail source.violations (not (bases_empty source.rest.bases)) given_on (goes_given o q flow p naming row s r to has newest items wanted vs e 1 j at low high there right_alive)

      -- ---- the text that is there

      module _ (h : ℕ) (closed : machine.scanned (contents (region (bytes_at s.world.memory i) offset (hi - offset))) ≡ machine.ends h) where
        old_short : h < hi - offset
        old_short = strings.ends_here o q flow p naming row s r to has newest items wanted vs e 0 i offset lo hi here alive h closed

        old_stands : gamma old.length (pos h)
        old_stands = (strings.is_scan o q flow p naming row s r to has newest items wanted vs e 0 i offset lo hi here alive).ended h closed

        scanned_old : old_trail.goes_on ≡ true
        scanned_old = goes_further both_trail (scan_violations old) (not (bases_empty old.bases)) both_on ((strings.is_scan o q flow p naming row s r to has newest items wanted vs e 0 i offset lo hi here alive).based h closed)

        old_has : bases_has old.bases st.base ≡ true
        old_has = (and_parts (nat_lt st.base most_bases) (bases_has old.bases st.base)
            (own_base o q flow p.shaped naming row (state_of s) r.stands_for _ i offset lo hi alive _ _ old (strings.is_scan o q flow p naming row s r to has newest items wanted vs e 0 i offset lo hi here alive) h closed st.base st.named)).1

        place_st : (y : InGammaInto gamma naming s.world.memory place i offset lo hi) × (y.base ≡ st.base)
        place_st = within_stands o q flow p.shaped naming s.world.memory r.stands_for.sane given.rest i offset lo hi st within old.bases old_has

        ends_at : EndsAt flow naming s.world.memory i (offset + h) old.unknown
        ends_at = record {
          zero = λ b z base part named known base_at among byte.
              let same : b ≡ st.base = same_Some b st.base (sym named ∙ st.named) in
              let own = subst (λ y. slice_get flow.bases.items y ≡ Some base) same base_at in
              let k = text_known o q flow p.shaped naming row (state_of s) r.stands_for given.rest i offset lo hi alive st within base own (subst (λ y. has_base old.unknown y ≡ false) same known) in
              zero_there o q flow p.shaped naming row (state_of s) r.stands_for given.rest i offset lo hi alive st within apart h closed z base part own among byte k;
        }

        -- ---- the new one

        module _ (t : ℕ) (ended : machine.scanned (contents (machine.bytes_from s.world (reach_of j at high) (high - at))) ≡ machine.ends t) where
          short : t < high - at
          short = strings.ends_here o q flow p naming row s r to has newest items wanted vs e 1 j at low high there right_alive t ended

          new_stands : gamma new.length (pos t)
          new_stands = (strings.is_scan o q flow p naming row s r to has newest items wanted vs e 1 j at low high there right_alive).ended t ended

          new_small : t ≤ 2 ^ 64 - 1
          new_small = let x = r.stands_for.sane.small j in let y = right_within.within in let z = short in omega (arith, x, y, z)

          old_small : h ≤ 2 ^ 64 - 1
          old_small = let x = r.stands_for.sane.small i in let y = within.within in let z = old_short in omega (arith, x, y, z)

          scanned_new : text_trail.goes_on ≡ true
          scanned_new = goes_further old_trail (scan_violations new) (not (bases_empty new.bases)) scanned_old ((strings.is_scan o q flow p naming row s r to has newest items wanted vs e 1 j at low high there right_alive).based t ended)

          abbrev size : ℕ
          size = (h + t) + 1

          need_has : RangeHas need (pos ((h + t) + 1))
          need_has =
              let x = new_small in
              let y = old_small in
              let same : h + (t + 1) ≡ (h + t) + 1 = omega arith in
              subst (λ z. RangeHas need (pos z)) same (added_has (n.bounds old.length) (one_more n new.length) h (t + 1) (bounds_have q old.length (pos h) old_stands) (more_has o q new.length t new_stands (omega (arith, x))) (omega (arith, x, y)))

          room_stop : hi - offset < (h + t) + 1 → violates append_plan.violations rule.Libptr ≡ true
          room_stop less = literal_on rule.Libptr (told_here text_trail (room_violations (passes_room n need place)) (is_some cut) rule.Libptr scanned_new (room_told o q flow p.shaped naming s.world.memory r.stands_for.sane place i offset lo hi place_st.0 within need ((h + t) + 1) need_has less))

          module _ (room : (h + t) + 1 ≤ hi - offset) where
            cut_size : RangeHas cut (pos ((h + t) + 1))
            cut_size = cut_has o q flow p.shaped naming s.world.memory r.stands_for.sane place i offset lo hi place_st.0 within need ((h + t) + 1) need_has room

            fitted : fitting_trail.goes_on ≡ true
            fitted = goes_further text_trail (room_violations (passes_room n need place)) (is_some cut) scanned_new (some_range cut (pos ((h + t) + 1)) cut_size)

            literal_stop : is_literal (storage_at s.world.memory i) ≡ true → violates append_plan.violations rule.Strmod ≡ true
            literal_stop lit = told_here fitting_trail (literal_violations (writes_literal flow.bases.items place.bases cut)) (not (bases_empty (after_write flow.bases.items place.bases cut))) rule.Strmod fitted (literal_told o q flow p.shaped naming s.world.memory r.stands_for.sane place i offset lo hi place_st.0 within alive cut ((h + t) + 1) cut_size (omega arith) lit)

            added_stands : gamma added (pos t)
            added_stands = let x = new_small in let y = old_small in appended_stands o q old.length new.length cut h t old_stands new_stands cut_size (omega (arith, x, y))

            more_size : RangeHas (one_more n added) (pos (t + 1))
            more_size = let x = new_small in more_has o q added t added_stands (omega (arith, x))

            module _ (plain : is_literal (storage_at s.world.memory i) ≡ false) where
              after_there : bases_has (after_write flow.bases.items place.bases cut) place_st.0.base ≡ true
              after_there = after_has o q flow p.shaped naming s.world.memory r.stands_for.sane place i offset lo hi place_st.0 within alive cut ((h + t) + 1) cut_size (λ some. plain)

              on : target.trail.goes_on ≡ true
              on = goes_further fitting_trail (literal_violations (writes_literal flow.bases.items place.bases cut)) (not (bases_empty (after_write flow.bases.items place.bases cut))) fitted (ap not (not_empty (after_write flow.bases.items place.bases cut) place_st.0.base after_there))

              rest : (y : InGammaInto gamma naming s.world.memory target.rest i offset lo hi) × (y.base ≡ place_st.0.base)
              rest = within_stands o q flow p.shaped naming s.world.memory r.stands_for.sane place i offset lo hi place_st.0 within (after_write flow.bases.items place.bases cut) after_there

              -- ---- what is read

              source_has : bases_has new.bases right_st.base ≡ true
              source_has = (and_parts (nat_lt right_st.base most_bases) (bases_has new.bases right_st.base)
                  (own_base o q flow p.shaped naming row (state_of s) r.stands_for _ j at low high right_alive _ _ new (strings.is_scan o q flow p naming row s r to has newest items wanted vs e 1 j at low high there right_alive) t ended right_st.base right_st.named)).1

              reads : (y : InGammaInto gamma naming s.world.memory read j at low high) × (y.base ≡ right_st.base)
              reads = within_stands o q flow p.shaped naming s.world.memory r.stands_for.sane source.rest j at low high right_st right_within new.bases source_has

              read_window : (x : ℕ) → at ≤ x → x < at + (t + 1) → WindowHas (touched_window n read (one_more n added)) x
              read_window x from below = let z = short in touched_has o q flow p.shaped naming s.world.memory r.stands_for.sane read j at low high reads.0 right_within (one_more n added) (t + 1) more_size (omega (arith, z)) x from below

              read_base : (base : BaseInfo) × (slice_get flow.bases.items right_st.base ≡ Some base)
              read_base = get_there flow.bases.items right_st.base (r.stands_for.sane.few j right_st.base right_st.named)

              -- a byte of the text
              source_byte : (k : ℕ) → k ≤ t → (y : Byte) × (byte_at s.world.memory j (at + k) ≡ Some y) × (z : IsNumberAt (contents (machine.bytes_from s.world (reach_of j at high) (high - at))) t k) × (y.content ≡ number z.digit z.labels)
              unfolding byte_at
              source_byte k less =
                  let z = scanned_at (contents (machine.bytes_from s.world (reach_of j at high) (high - at))) t ended k less in
                  let y = get_map (λ w. w.content) (machine.bytes_from s.world (reach_of j at high) (high - at)) k (number z.digit z.labels) z.there in
                  let w = region_at (bytes_at s.world.memory j) at (high - at) k (at + k) y.0 y.1 refl in
                  (y.0, w.1, z, y.2)

              abbrev content_list : List Content
              content_list = contents (machine.bytes_from s.world (reach_of j at high) (t + 1))

              content_long : length content_list ≡ t + 1
              content_long =
                  let z = short in
                  let y = right_within.within in
                  length-map (machine.bytes_from s.world (reach_of j at high) (t + 1)) (λ w. w.content) ∙ region_length (bytes_at s.world.memory j) at (t + 1) (omega (arith, z, y))

              -- each content is that of a byte of the text
              content_at : (k : ℕ) (x : Content) → slice_get content_list k ≡ Some x → (k ≤ t) × ((y : Byte) → byte_at s.world.memory j (at + k) ≡ Some y → y.content ≡ x)
              unfolding byte_at
              content_at k x f =
                  let y = get_map (λ w. w.content) (machine.bytes_from s.world (reach_of j at high) (t + 1)) k x f in
                  let w = region_at (bytes_at s.world.memory j) at (t + 1) k (at + k) y.0 y.1 refl in
                  let less = w.0 in
                  (omega (arith, less), λ u g. ap (λ v. v.content) (same_Some u y.0 (sym g ∙ w.1)) ∙ y.2)

              number_there : (k : ℕ) (x : Content) → slice_get content_list k ≡ Some x → (z : IsNumberAt (contents (machine.bytes_from s.world (reach_of j at high) (high - at))) t k) × (x ≡ number z.digit z.labels)
              number_there k x f =
                  let r2 = content_at k x f in
                  let y = source_byte k r2.0 in
                  (y.2, sym (r2.1 y.0 y.1) ∙ y.3)

              -- ---- memory

              abbrev spot : ℕ
              spot = offset + h

              abbrev memory : Memory
              memory = set_bytes s.world.memory i (refilled (bytes_at s.world.memory i) (offset + h) content_list)

              fits : (offset + h) + length content_list ≤ length (bytes_at s.world.memory i)
              fits = let x = content_long in let y = within.within in let z = within.below in omega (arith, x, y, z, room)

              written_here : IsWritten s.world.memory memory i (offset + h) content_list
              written_here = let it = instance_there s.world.memory i alive in contents_written s.world.memory i (offset + h) content_list it.0 it.1 fits

              region_here : IsRegion s.world.memory memory i (offset + h) (t + 1)
              region_here = subst (IsRegion s.world.memory memory i (offset + h)) content_long written_here.region

              sane : IsMemoryOf flow.model flow.bases.items naming memory
              sane = let it = instance_there s.world.memory i alive in contents_sane s.world.memory i (offset + h) content_list it.0 it.1 fits flow.model flow.bases.items naming (λ k x f.
                  let r2 = content_at k x f in
                  let y = source_byte k r2.0 in
                  let z = number_there k x f in
                  (z.0.digit, z.0.labels, z.1, subst (λ v. IsContentIn s.world.memory v y.0.tag) (r2.1 y.0 y.1 ∙ z.1) (r.stands_for.sane.bytes j (at + k) y.0 y.1))) r.stands_for.sane

              -- a byte of the region is one of the text
              byte_is : (x : ℕ) (b2 : Byte) → offset + h ≤ x → x < (offset + h) + (t + 1) → byte_at memory i x ≡ Some b2 → (x - (offset + h) ≤ t) × (slice_get content_list (x - (offset + h)) ≡ Some b2.content)
              byte_is x b2 from below f = let long = content_long in (omega (arith, from, below), region_content written_here x b2 from (omega (arith, below, long)) f)

              result : IsResult q flow p naming memory (pointer_value l target.rest) (pointer d)
              result = subst (λ y. IsResult q flow p naming memory (pointer_value l target.rest) (pointer y)) (sym is) (record {
                stands_for = scalar_moves (alike_region region_here) gamma naming (pointer_value l target.rest) (pointer (into i offset lo hi)) (subst (λ y. InGammaByLife gamma naming s.world.memory target.rest y i offset lo hi) (sym alive) rest.0);
                near = tt;
                within = pointer_in_moves (alike_region region_here) (into i offset lo hi) within;
              })

              laid : IsLaidOut flow (length row)
              laid = subst (IsLaidOut flow) (sym r.long) p.laid

              -- ---- windows

              behind_old : offset + h ≤ hi
              behind_old = let x = old_short in let y = within.below in omega (arith, x, y)

              start : WindowHas (window_within (append_start n target.rest old.length)) (offset + h)
              start = append_starts o q flow naming s.world.memory r.stands_for.sane target.rest i offset lo hi rest.0 within old.length h old_stands behind_old

              touched : (x : ℕ) → offset + h ≤ x → x < (offset + h) + (t + 1) → WindowHas (append_window n target.rest old.length cut) x
              touched x from below =
                  let a = r.stands_for.sane.small i in
                  let b = within.within in
                  behind_has (touched_window n target.rest cut) (append_start n target.rest old.length) (offset + h) x
                  (touched_has o q flow p.shaped naming s.world.memory r.stands_for.sane target.rest i offset lo hi rest.0 within cut ((h + t) + 1) cut_size room x (omega (arith, from)) (omega (arith, below)))
                  (start_range o q flow naming s.world.memory r.stands_for.sane target.rest i offset lo hi rest.0 within old.length h old_stands behind_old) from (omega (arith, below, room, a, b))

              window_at : WindowHas (append_window n target.rest old.length cut) (offset + h)
              window_at = touched (offset + h) (omega arith) (omega arith)

              abbrev write : TextWrite I
              write = record { bases = writable_of flow.bases.items target.rest.bases; start = start.window; window = window_at.window; one_byte = false; characters = letters; zero = zero_rule.Append added old.unknown }

              window_has : (x : ℕ) → offset + h ≤ x → x < (offset + h) + (t + 1) → (window_at.window.lo ≤ x) × (x ≤ window_at.window.hi)
              window_has x from below =
                  let y = touched x from below in
                  let same : y.window ≡ window_at.window = same_Some y.window window_at.window (sym y.is ∙ window_at.is) in
                  subst (λ v. (v.lo ≤ x) × (x ≤ v.hi)) same (y.from, y.to)

              -- the characters of the source
              letters_number : (k : ℕ) → k ≤ t → (y : Labelled) (b2 : Byte) → byte_at s.world.memory j (at + k) ≡ Some b2 → b2.content ≡ number_in y → ((signed : Bool) → gamma (cond signed letters.signed letters.unsigned) (number_of signed (y ∷ []))) × (labels_leq (as_set y.labels) letters.labels ≡ true)
              letters_number k less y b2 f g =
                  let w = read_window (at + k) (omega arith) (omega (arith, less)) in
                  let among = subst (λ v. bases_has read.bases v ≡ true) reads.1 reads.0.among in
                  subst (λ v. ((signed : Bool) → gamma (cond signed (characters_of l n flow.model flow.bases.items row read.bases v).signed (characters_of l n flow.model flow.bases.items row read.bases v).unsigned) (number_of signed (y ∷ []))) × (labels_leq (as_set y.labels) (characters_of l n flow.model flow.bases.items row read.bases v).labels ≡ true)) (sym w.is) (
                    (λ signed. source_number o q c flow p.shaped p.padding naming row (state_of s) r.stands_for read.bases w.window j (at + k) right_st.base read_base.0 read_base.1 right_st.named right_alive among w.from w.to b2 f y g signed),
                    source_labels o q c flow p.shaped p.padding naming row (state_of s) r.stands_for read.bases w.window j (at + k) right_st.base read_base.0 read_base.1 right_st.named right_alive among w.from w.to b2 f y g,
                  )

              is_text : IsTextWrite l n gamma write memory i (offset + h) (t + 1)
              is_text = record {
                window = window_has;
                start = (start.from, start.to);
                one_byte = λ f. cc;
                numbers = λ x b2 from below f.
                    let u = byte_is x b2 from below f in
                    let z = number_there (x - (offset + h)) b2.content u.1 in
                    let y = source_byte (x - (offset + h)) u.0 in
                    let v = content_at (x - (offset + h)) b2.content u.1 in
                    let one : Labelled = record { number = z.0.digit; labels = z.0.labels } in
                    (z.0.digit, z.0.labels, z.1, (letters_number (x - (offset + h)) u.0 one y.0 y.1 (v.1 y.0 y.1 ∙ z.1)).1);
                characters = λ x y b2 from below f g signed.
                    let u = byte_is x b2 from below f in
                    let w = source_byte (x - (offset + h)) u.0 in
                    let v = content_at (x - (offset + h)) b2.content u.1 in
                    q.larger (cond signed letters.signed letters.unsigned) (l.join (cond signed letters.signed letters.unsigned) (n.one (pos 0))) (number_of signed (y ∷ [])) (o.join_left (cond signed letters.signed letters.unsigned) (n.one (pos 0))) ((letters_number (x - (offset + h)) u.0 y w.0 w.1 (v.1 w.0 w.1 ∙ g)).0 signed);
              }

              seen_here : (k : ℕ) (b2 : Byte) → k ≤ t → byte_at memory i ((offset + h) + k) ≡ Some b2 → (z : IsNumberAt (contents (machine.bytes_from s.world (reach_of j at high) (high - at))) t k) × (b2.content ≡ number z.digit z.labels)
              seen_here k b2 less f =
                  let same : ((offset + h) + k) - (offset + h) ≡ k = omega arith in
                  let u = byte_is ((offset + h) + k) b2 (omega arith) (omega (arith, less)) f in
                  number_there k b2.content (subst (λ v. slice_get content_list v ≡ Some b2.content) same u.1)

              written_text : IsWrittenText memory i (offset + h) (t + 1) t
              written_text = record {
                long = refl;
                text = λ k b2 less f. let z = seen_here k b2 (omega (arith, less)) f in ap seen_as z.1 ∙ z.0.inner less;
                closed = λ b2 f. let z = seen_here t b2 (omega arith) f in ap seen_as z.1 ∙ z.0.last refl;
              }

              in_write : (b2 : ℕ) → naming i ≡ Some b2 → 0 < t + 1 → has_base write.bases b2 ≡ true
              in_write b2 named some_size =
                  let same : place_st.0.base ≡ b2 = same_Some place_st.0.base b2 (sym place_st.0.named ∙ named) in
                  subst (λ v. has_base write.bases v ≡ true) same (is_writable o q flow p.shaped naming s.world.memory r.stands_for.sane place i offset lo hi place_st.0 within alive cut ((h + t) + 1) cut_size target.rest.bases (subst (λ v. bases_has target.rest.bases v ≡ true) rest.1 rest.0.among) plain)

              one_live : is_one_instance flow.bases.items write.bases ≡ true → 0 < t + 1 → (b2 k : ℕ) → has_base write.bases b2 ≡ true → IsLiveOf naming s.world.memory b2 k → k ≡ i
              one_live alone some_size b2 k in_set g =
                  let own = in_write st.base st.named some_size in
                  let v = alone_is flow.bases.items write.bases st.base own alone in
                  let base = get_there flow.bases.items st.base (r.stands_for.sane.few i st.base st.named) in
                  let same : b2 ≡ st.base = v.one b2 in_set in
                  r.stands_for.sane.one k i st.base base.0 base.1 (not_older base.0.kind (v.single st.base base.0 base.1 own)) (g.named ∙ ap Some same) st.named (λ y. live_ended (sym g.alive ∙ y)) (λ y. live_ended (sym alive ∙ y))

              abbrev effect_in : Option Window → Option Window → Effect I
              effect_in x y = text_effect l call target x y false letters (zero_rule.Append added old.unknown)

              text_is : append_plan.effect ≡ effect.Text write (pointer_value l target.rest)
              text_is =
                  ap (λ y. cond {A = Effect I} y (effect_in (window_within (append_start n target.rest old.length)) (append_window n target.rest old.length cut)) effect.Unreached) on
                  ∙ (ap (λ y. effect_in y (append_window n target.rest old.length cut)) start.is ∙ ap (effect_in (Some start.window)) window_at.is)

              text_good : Fine (goes (Some (pointer d)) (with_contents s.world (further (reach_of i offset hi) h) content_list))
              unfolding apply
              text_good = written_good o q flow p naming row s r to has newest append_plan found fine memory region_here.lengths (write_text l n flow write row)
                  (append_long o q flow naming row (state_of s) laid r.stands_for memory i (offset + h) (t + 1) region_here sane write is_text added old.unknown refl t written_text added_stands ends_at in_write one_live)
                  (append_stands o q flow naming row (state_of s) laid r.stands_for memory i (offset + h) (t + 1) region_here sane write is_text added old.unknown refl t written_text added_stands ends_at in_write one_live) (pointer_value l target.rest) (pointer d) result
                  (ap (λ y. apply l n flow to newest y row) text_is)

              by_overlap : (x : Bool) → Fine (with_result (cond x (stops Left s.world) (goes (pointer d) (with_contents s.world (further (reach_of i offset hi) h) content_list))))
              by_overlap true = plain_stop o q flow p naming row s r to has newest append_plan found fine Left
              by_overlap false = text_good

            by_literal : (x : Bool) → (nat_lt 0 ((h + t) + 1) && is_literal (storage_at s.world.memory i)) ≡ x → Fine (with_result (behind (cond x (stopped_by s.world rule.Strmod) (goes (reach_of i offset hi) s.world)) (λ _ w. write_reply (reach_of i offset hi) (reach_of j at high) h t w)))
            by_literal true f = let y = and_parts (nat_lt 0 ((h + t) + 1)) (is_literal (storage_at s.world.memory i)) f in told_stop o q flow p naming row s r to has newest append_plan found fine rule.Strmod (literal_stop y.1)
            by_literal false f = by_overlap (by_flags (nat_lt 0 ((h + t) + 1)) (is_literal (storage_at s.world.memory i)) (lt-ltb 0 ((h + t) + 1) (omega arith)) f) (overlap (further (reach_of i offset hi) h).spot (t + 1) (reach_of j at high).spot (t + 1))
              where
                by_flags : (x y : Bool) → x ≡ true → (x && y) ≡ false → y ≡ false
                by_flags true y g k = k
                by_flags false y g k = cc

          by_room : (x : Bool) → nat_lt (hi - offset) ((h + t) + 1) ≡ x → Fine (with_result (behind (cond x (stopped_by s.world rule.Libptr) (goes (reach_of i offset hi) s.world)) (λ _ w. behind (machine.writable ((h + t) + 1) (reach_of i offset hi) w) (λ _ w. write_reply (reach_of i offset hi) (reach_of j at high) h t w))))
          by_room true f = told_stop o q flow p naming row s r to has newest append_plan found fine rule.Libptr (room_stop (ltb-true (hi - offset) ((h + t) + 1) f))
          by_room false f = by_literal (let k = ltb-false (hi - offset) ((h + t) + 1) f in omega (arith, k)) (nat_lt 0 ((h + t) + 1) && is_literal (storage_at s.world.memory i)) refl

          room_good : Fine (with_result (fit_reply (reach_of i offset hi) (reach_of j at high) h t s.world))
          room_good = by_room (nat_lt (hi - offset) ((h + t) + 1)) refl

        new_good : Fine (with_result (new_reply (reach_of i offset hi) (reach_of j at high) h s.world))
        new_good = subst Fine (sym (behind_behind (machine.string_length (reach_of j at high) s.world) (fit_reply (reach_of i offset hi) (reach_of j at high) h) (λ v w. goes (Some v) w)))
            (strings.scan_good o q flow p naming row s r to has newest items wanted vs e 1 j at low high there right_alive append_plan
            (λ k. room_on rule.Nonnullcs (told_here old_trail (scan_violations new) (not (bases_empty new.bases)) rule.Nonnullcs scanned_old k))
            (λ k w. with_result (fit_reply (reach_of i offset hi) (reach_of j at high) h k w)) room_good)

      old_good : Fine (with_result (old_reply (reach_of i offset hi) (reach_of j at high) s.world))
      old_good = subst Fine (sym (behind_behind (machine.string_length (reach_of i offset hi) s.world) (new_reply (reach_of i offset hi) (reach_of j at high)) (λ v w. goes (Some v) w)))
          (strings.scan_good o q flow p naming row s r to has newest items wanted vs e 0 i offset lo hi here alive append_plan
          (λ k. new_on rule.Nonnullcs (told_here both_trail (scan_violations old) (not (bases_empty old.bases)) rule.Nonnullcs both_on k))
          (λ k w. with_result (new_reply (reach_of i offset hi) (reach_of j at high) k w)) new_good)

    source_good : Fine (with_result (source_reply (reach_of i offset hi) s.world))
    source_good = subst Fine (sym (behind_behind (machine.reached m s.world) (old_reply (reach_of i offset hi)) (λ v w. goes (Some v) w)))
        (reach_good o q flow p naming row s r to has newest items wanted vs e append_plan found fine 1 m second
        (λ rl h. old_on rl (told_here first_trail source.violations (not (bases_empty source.rest.bases)) rl given_on h))
        (λ y w. with_result (old_reply (reach_of i offset hi) y w)) old_good)

  pub append_call_good : Good o q flow p naming row s r to has newest (plan_strcat l n (call_of flow items wanted) row) (with_result (append_string d m s.world))
  unfolding plan_strcat
  append_call_good = subst Fine (sym (behind_behind (machine.reached d s.world) source_reply (λ v w. goes (Some v) w)))
      (reach_good o q flow p naming row s r to has newest items wanted vs e append_plan found fine 0 d first
      (λ rl h. source_on rl (told_here (trail_of no_violations) given.violations (not (bases_empty given.rest.bases)) rl refl h))
      (λ y w. with_result (source_reply y w)) source_good)
