-- Calls of `fgets`: where each goes on, and the row behind a line.
use Rattle.std.proofs.Common.{◌≡◌, ℕ, zero, suc, ◌+◌, ◌-◌, ◌^◌, ◌<◌, ◌≤◌, Bool, true, false, cond, not, ◌&&◌, Option, Some, None, List, [], ◌∷◌, ◌++◌, length, arith, subst, sym, refl, ap, ◌∙◌}
use Rattle.std.specs.Prelude.{slice_get, ℤ, pos, negsuc, ◌-ℤ◌, ◌≤ℤ◌, is_some, nat_lt, int_le, int_lt, unsigned_abs}
use Rattle.std.specs.Int.{int_min, int_max}
use Rattle.std.proofs.lemmas.Int.{ints, clamps}
use Rattle.std.proofs.lemmas.Bool.{and_parts, lt-ltb, ltb-true, ltb-false}
use Rattle.std.proofs.lemmas.List.{length-append}
use Rattle.std.proofs.lemmas.Option.{same_Some}
use Rattle.cc_base.specs.Lattices.{LatticeOf, OrderLaws}
use Rattle.cc_base.specs.IntegerDomains.{IntegersOf, BoundLaws, between_or_least}
use Rattle.cc_base.specs.NumberRanges.{Range, range_difference, range_met, range_clamped, upper_or}
use Rattle.cc_base.specs.declared.diagnostics.Rule.{Rule}
use Rattle.cc_base.specs.declared.diagnostics.Rule.TheVariants as rule
use Rattle.cfg.specs.WellFormed.{names_of, has_result}
use Rattle.cfg.specs.declared.programs.Flow.{Flow}
use Rattle.pointer_domain.specs.BaseSets.{bases_has, bases_empty}
use Rattle.pointer_domain.specs.PointerTables.{the_end, offsets}
use Rattle.value_domain.specs.Values.LabelSets.{labels_leq, labels_order}
use Rattle.value_domain.specs.Values.ValueTables.{pointer_value}
use Rattle.value_domain.specs.declared.values.values.Value.{Value}
use Rattle.value_domain.specs.declared.values.row_cells.Cell.{Cell}
use Rattle.domain_theorems.proofs.values.Numbers.{RangeHas, bounds_have, met_has}
use Rattle.store_cells.specs.declared.access_windows.Window.{Window}
use Rattle.store_cells.specs.AccessWindows.{window_within}
use Rattle.store_objects.specs.LiveBases.{has_base, writable_of, is_one_instance}
use Rattle.store_cells.specs.NearValues.{near_number}
use Rattle.transfer_checks.specs.IntegerChecks.{sink_violations}
use Rattle.transfer_checks.specs.LibraryArguments.{cut_by, writes_literal, after_write, passes_room, cut_by_room, touched_window}
use Rattle.transfer_checks.specs.Temporaries.{temp_position}
use Rattle.transfer_checks.specs.ViolationSets.{no_violations, violates}
use Rattle.transfer_checks.specs.declared.library_arguments.Argument.{Argument}
use Rattle.transfer_library_plans.specs.Arguments.{room_violations, literal_violations, argument_value}
use Rattle.transfer_library_plans.specs.Calls.{Call}
use Rattle.transfer_library.specs.MemoryCalls.{is_one_byte, room_trail, target_of}
use Rattle.transfer_library_plans.specs.Outputs.{given_trail}
use Rattle.transfer_library_plans.specs.Plans.{trail_of, checked}
use Rattle.transfer_library.specs.StringCalls.{less_one, text_effect, text_from_start, input_characters, line_count, line_rule}
use Rattle.transfer_library_writes.specs.TextWrites.{character_value, write_text}
use Rattle.transfer_library_plans.specs.declared.call_plans.Effect.{Effect}
use Rattle.transfer_library_plans.specs.declared.call_plans.Effect.TheVariants as effect
use Rattle.transfer_library_plans.specs.declared.call_plans.Plan.{Plan}
use Rattle.transfer_library_plans.specs.declared.call_plans.Trail.{Trail}
use Rattle.transfer_library.specs.declared.memory_calls.Target.{Target}
use Rattle.transfer_library_writes.specs.declared.source_bytes.Characters.{Characters}
use Rattle.transfer_library_writes.specs.declared.text_writes.TextWrite.{TextWrite}
use Rattle.transfer_sound.specs.CallSteps.{line_call, goes_on}
use Rattle.memory_model.specs.Memory.Labels.{Labels, no_labels, input_labels, is_unlabelled}
use Rattle.memory_model.specs.Memory.Bytes.{MachinePointer, null, into, Content, number, Byte}
use Rattle.memory_model.specs.Memory.Instances.{Memory, live, bytes_at, byte_at, life_at}
use Rattle.memory_model.specs.Memory.Numbers.{Labelled, number_of}
use Rattle.memory_model.specs.Memory.Scalars.{Scalar, integer, pointer, is_false}
use Rattle.memory_model.specs.Effects.LibraryCalls.{char_type, line_of, line_read, if_read, line_into, read_into}
use Rattle.memory_model.specs.Effects.LibraryChecks as machine
use Rattle.memory_model.specs.Effects.MemoryCalls.{with_contents}
use Rattle.memory_model.specs.Effects.ScalarBytes.{refilled}
use Rattle.memory_model.specs.Effects.Touches.{storage_at, is_literal, set_bytes}
use Rattle.memory_model.specs.Effects.Worlds.{World, Why, Left, OutOfDraws, Violated, Reply, goes, stops, behind, stopped_by, drawn, world_of}
use Rattle.semantics.specs.CfgMachine.FlowStates.{ProgramState, values_of}
use Rattle.store_sound.specs.Concretization.Matching.{number_in}
use Rattle.store_sound.specs.Concretization.SeenLabels.{as_set}
use Rattle.store_sound.specs.Concretization.SoundMemory.{IsMemoryOf, IsWithin}
use Rattle.store_sound.specs.Concretization.ValueMeaning.{Naming, InGammaInto, InGammaByLife, InGammaPointer, InGammaScalar}
use Rattle.store_sound.specs.Concretization.RowMeaning.{IsLiveOf, InGamma}
use Rattle.store_sound.specs.Concretization.Coverage.{state_of}
use Rattle.store_sound.specs.Operations.Shapes.{IsLaidOut}
use Rattle.store_sound.proofs.operations.CharValues.{padding_stands}
use Rattle.store_sound.proofs.operations.Frames.{pointer_in_moves, scalar_moves}
use Rattle.store_sound.proofs.operations.LoadSound.{instance_there}
use Rattle.store_sound.proofs.operations.Near.{value_at_near}
use Rattle.store_sound.proofs.operations.Slices.{get_there}
use Rattle.store_sound.proofs.operations.StoreLeaves.{live_ended, not_older}
use Rattle.store_sound.proofs.operations.StorePlaces.{not_empty}
use Rattle.store_sound.proofs.operations.Windows.{WindowHas}
use Rattle.store_sound.specs.Programs.Premises.{HasPremises}
use Rattle.store_sound.specs.Regions.RegionWrites.{IsRegion}
use Rattle.store_sound.proofs.regions.ContentRegions.{IsWritten, contents_written, contents_sane, region_content}
use Rattle.store_sound.proofs.regions.Regions.{alike_region}
use Rattle.domain_theorems.specs.Values.ZeroLaws.{IsCount}
use Rattle.transfer_sound.specs.Values.SoundSteps.{IsReached}
use Rattle.transfer_sound.proofs.values.Admitted.{AreAdmitted, one_admitted, both_admitted}
use Rattle.transfer_sound.proofs.values.MoveSteps.{near_has}
use Rattle.transfer_sound.proofs.values.NearScalars.{IsNearNumber}
use Rattle.transfer_sound.proofs.values.PutTemps.{IsResult}
use Rattle.library_sound.proofs.calls.Calls.{DrawnEnd, gave, ran_out, drawn_end, clean}
use Rattle.library_sound.proofs.calls.CharacterNumbers.{number_between}
use Rattle.library_sound.proofs.strings.GivenPointers.{ReachEnd, into_live, into_nothing, into_ended, into_freed, reach_end, reach_of, null_told, ended_told, freed_told}
use Rattle.library_sound.proofs.strings.Trails.{still_told, told_here, goes_further}
use Rattle.library_sound.proofs.fills.Targets.{sat_above, sat_below, alone_is, within_stands, cut_has, room_told, literal_told, is_writable, after_has, start_has, touched_has, one_has}
use Rattle.library_sound.proofs.fills.WriteCalls.{sink_told, world_with, value_of, given_at, argument_stands, given_within, goes_given, given_into}
use Rattle.library_sound.specs.Texts.TextWrites.{IsTextWrite}
use Rattle.library_sound.proofs.bounded_texts.BoundedCalls.{first_touched}
use Rattle.library_sound.proofs.lines.LineContents.{AreInput, LineEnd, read, no_more, line_end, with_end, IsFirst, first_of, IsWrittenContent, is_input, is_end, written_content}
use Rattle.library_sound.proofs.lines.LineRules.{HasTextFirst, length_count, line_stands, line_long}

zero_number : (signed : Bool) → number_of signed (record { number = 0; labels = no_labels } ∷ []) ≡ pos 0
zero_number true = refl
zero_number false = refl

abbrev digit_of : Content → ℕ
digit_of (number k la) = k
digit_of _ = 0

some_range : (x : Range) (z : ℤ) → RangeHas x z → is_some x ≡ true
some_range None z h = absurd h
some_range (Some x) z h = refl

-- no line is longer than what a pointer can reach
met_top : (x : Range) (a b : ℤ) → b ≤ℤ the_end → upper_or (pos 1) (range_met x a b) ≤ℤ the_end
met_top None a b h = omega (arith, ints)
met_top (Some p) a b h = by_some (int_le (int_max p.0 a) (int_min p.1 b))
  where
    by_some : (c : Bool) → upper_or (pos 1) (cond c (Some (int_max p.0 a, int_min p.1 b)) None) ≤ℤ the_end
    by_some true = omega (arith, ints, clamps, h)
    by_some false = omega (arith, ints)

cut_top : (need x : Range) → upper_or (pos 1) (cut_by need (range_clamped x (pos 0) the_end)) ≤ℤ the_end
cut_top need None = omega (arith, ints)
cut_top need (Some p) = met_top need (pos 0) (int_min (int_max p.1 (pos 0)) the_end) (omega (arith, ints, clamps))

upper_some : (x : Range) (z : ℤ) → RangeHas x z → z ≤ℤ upper_or (pos 1) x
upper_some None z h = absurd h
upper_some (Some x) z h = h.1

module _ {I : Type 0} {l : LatticeOf I} {n : IntegersOf I} {gamma : I → ℤ → Type 0} (o : OrderLaws l) (q : BoundLaws l n gamma) (flow : Flow) (p : HasPremises flow) (naming : Naming) (row : List (Cell I)) (s : ProgramState) (r : IsReached l n gamma flow naming row s) (to : Option ℕ) (has : has_result (names_of flow) to ≡ true)
    (line : ℕ) (most : ℕ) (stream : ℕ) (vs : List Scalar) (e : values_of s.temps (line ∷ (most ∷ (stream ∷ []))) ≡ Some vs)
    (d : MachinePointer) (z : ℤ) (lb : Labels) (first : slice_get vs 0 ≡ Some (pointer d)) (second : slice_get vs 1 ≡ Some (integer z lb)) where
  abbrev items : List ℕ
  items = line ∷ (most ∷ (stream ∷ []))

  abbrev call : Call
  call = line_call flow line most stream

  abbrev amount : Value I
  amount = value_of o q flow p naming row s r to has None items None vs e 1

  abbrev given : Argument I
  given = given_at o q flow p naming row s r to has None items None vs e 0

  abbrev need : Range
  need = line_count n amount

  abbrev cut : Range
  cut = cut_by_room n need given.rest

  -- ---- trails

  abbrev sink_trail : Trail
  sink_trail = trail_of (sink_violations amount.labels)

  abbrev pointer_trail : Trail
  pointer_trail = given_trail sink_trail given

  abbrev number_trail : Trail
  number_trail = checked pointer_trail no_violations (is_some need)

  abbrev fitting_trail : Trail
  fitting_trail = room_trail n number_trail given.rest need

  abbrev target : Target I
  target = target_of l n call fitting_trail given.rest cut

  abbrev letters : Characters I
  letters = input_characters l n flow.model

  abbrev pub line_plan : Plan I
  line_plan = text_from_start l n call target letters (line_rule l n cut)

  amount_stands : InGammaScalar gamma naming s.world.memory amount (integer z lb)
  amount_stands = argument_stands o q flow p naming row s r to has None items None vs e 1 (integer z lb) second

  amount_near : IsNearNumber z
  unfolding argument_value
  amount_near = near_has q amount.num z (subst (λ y. gamma y z) (sym (value_at_near o q row (temp_position flow most)).num) amount_stands.0)

  literal_on : (rl : Rule) → violates fitting_trail.violations rl ≡ true → violates target.trail.violations rl ≡ true
  literal_on rl h = still_told fitting_trail (literal_violations (writes_literal flow.bases.items given.rest.bases cut)) (not (bases_empty (after_write flow.bases.items given.rest.bases cut))) rl h

  pointer_on : (rl : Rule) → violates pointer_trail.violations rl ≡ true → violates target.trail.violations rl ≡ true
  pointer_on rl h = literal_on rl (still_told number_trail (room_violations (passes_room n need given.rest)) (is_some cut) rl (still_told pointer_trail no_violations (is_some need) rl h))

  sink_on : (rl : Rule) → violates (sink_violations amount.labels) rl ≡ true → violates target.trail.violations rl ≡ true
  sink_on rl h = pointer_on rl (still_told sink_trail given.violations (not (bases_empty given.rest.bases)) rl h)

  abbrev found : List Rule
  found = s.world.violated ++ cond (not (is_unlabelled lb)) (rule.Taintsink ∷ []) []

  fine : AreAdmitted line_plan.violations found
  fine = both_admitted line_plan.violations s.world.violated (cond (not (is_unlabelled lb)) (rule.Taintsink ∷ []) []) (clean q flow p naming row s r line_plan.violations) (sink_told lb line_plan.violations amount.labels amount_stands.1 sink_on)

  abbrev start_world : World
  start_world = world_with o q flow p naming row s r to has None found

  -- ---- how a call goes on

  -- a line was read: the row behind it stands for memory, and what is given is no null pointer
  pub record IsLine (v : Scalar) (w : World) : Type 0 where
    pub truth : is_false v ≡ false
    pub write : TextWrite I
    pub value : Value I
    pub plans : line_plan.effect ≡ effect.Text write value
    pub long : length (write_text l n flow write row) ≡ length row
    pub stands_for : InGamma l n gamma flow naming (write_text l n flow write row) (record { memory = w.memory; temps = s.temps; entered = s.bases })
    pub result : IsResult q flow p naming w.memory value v
    pub lengths : (j : ℕ) → length (bytes_at w.memory j) ≡ length (bytes_at s.world.memory j)

  pub data GoesOn (v : Scalar) (w : World) : Type 0 where
    no_line : v ≡ pointer null → w.memory ≡ s.world.memory → goes_on line_plan.effect ≡ true → GoesOn v w
    a_line : goes_on line_plan.effect ≡ true → IsLine v w → GoesOn v w

  -- each violation is admitted
  pub record IsGoodLine (reply : Reply Scalar) : Type 0 where
    pub admits : AreAdmitted line_plan.violations (world_of reply).violated
    pub further : (v : Scalar) (w : World) → reply ≡ goes v w → GoesOn v w

  stopped : (why : Why) (w : World) → AreAdmitted line_plan.violations w.violated → IsGoodLine (stops why w)
  stopped why w h = record { admits = h; further = λ v u f. cc }

  told : (rl : Rule) → violates line_plan.violations rl ≡ true → IsGoodLine (stopped_by start_world rl)
  told rl h = stopped Violated _ (both_admitted line_plan.violations found (rl ∷ []) fine (one_admitted line_plan.violations rl h))

  goes_good : (v : Scalar) (w : World) → AreAdmitted line_plan.violations w.violated → GoesOn v w → IsGoodLine (goes v w)
  goes_good v w h g = record { admits = h; further = λ x u f. let a : v ≡ x = cc in let b : w ≡ u = cc in subst (λ y. GoesOn y u) a (subst (GoesOn v) b g) }

  -- ---- behind the pointer

  module _ (i offset lo hi : ℕ) (is : d ≡ into i offset lo hi) (alive : life_at s.world.memory i ≡ live) where
    here : slice_get vs 0 ≡ Some (pointer (into i offset lo hi))
    here = first ∙ ap (λ y. Some (pointer y)) is

    within : IsWithin s.world.memory i offset lo hi
    within = given_within o q flow p naming row s r to has None items None vs e 0 i offset lo hi here alive

    st : InGammaInto gamma naming s.world.memory given.rest i offset lo hi
    st = given_into o q flow p naming row s r to has None items None vs e 0 i offset lo hi here alive

    pointed : pointer_trail.goes_on ≡ true
    pointed = goes_further sink_trail given.violations (not (bases_empty given.rest.bases)) refl (goes_given o q flow p naming row s r to has None items None vs e 0 i offset lo hi here alive)

    -- ---- a size

    module _ (positive : pos 1 ≤ℤ z) where
      abbrev size : ℕ
      size = machine.size_of z

      size_is : z ≡ pos size
      size_is = by_sign z positive
        where
          by_sign : (x : ℤ) → pos 1 ≤ℤ x → x ≡ pos (unsigned_abs x)
          by_sign (pos k) h = refl
          by_sign (negsuc k) h = absurd (omega (arith, ints, h))

      some : 0 < size
      some = let a = size_is in omega (arith, ints, a, positive)

      need_has : RangeHas need (pos size)
      need_has = let a = amount_near.to in subst (RangeHas need) size_is (met_has (n.bounds amount.num) (pos 1) (pos (2 ^ 127 - 1)) z (bounds_have q amount.num z amount_stands.0) positive (omega (arith, ints, a)))

      numbered : number_trail.goes_on ≡ true
      numbered = goes_further pointer_trail no_violations (is_some need) pointed (some_range need (pos size) need_has)

      room_stop : hi - offset < size → violates line_plan.violations rule.Libptr ≡ true
      room_stop h = literal_on rule.Libptr (told_here number_trail (room_violations (passes_room n need given.rest)) (is_some cut) rule.Libptr numbered (room_told o q flow p.shaped naming s.world.memory r.stands_for.sane given.rest i offset lo hi st within need size need_has h))

      module _ (room : size ≤ hi - offset) where
        cut_size : RangeHas cut (pos size)
        cut_size = cut_has o q flow p.shaped naming s.world.memory r.stands_for.sane given.rest i offset lo hi st within need size need_has room

        fitted : fitting_trail.goes_on ≡ true
        fitted = goes_further number_trail (room_violations (passes_room n need given.rest)) (is_some cut) numbered (some_range cut (pos size) cut_size)

        literal_stop : is_literal (storage_at s.world.memory i) ≡ true → violates line_plan.violations rule.Strmod ≡ true
        literal_stop lit = told_here fitting_trail (literal_violations (writes_literal flow.bases.items given.rest.bases cut)) (not (bases_empty (after_write flow.bases.items given.rest.bases cut))) rule.Strmod fitted (literal_told o q flow p.shaped naming s.world.memory r.stands_for.sane given.rest i offset lo hi st within alive cut size cut_size some lit)

        -- ---- the line

        module _ (plain : is_literal (storage_at s.world.memory i) ≡ false) where
          after_there : bases_has (after_write flow.bases.items given.rest.bases cut) st.base ≡ true
          after_there = after_has o q flow p.shaped naming s.world.memory r.stands_for.sane given.rest i offset lo hi st within alive cut size cut_size (λ h. plain)

          on : target.trail.goes_on ≡ true
          on = goes_further fitting_trail (literal_violations (writes_literal flow.bases.items given.rest.bases cut)) (not (bases_empty (after_write flow.bases.items given.rest.bases cut))) fitted (ap not (not_empty (after_write flow.bases.items given.rest.bases cut) st.base after_there))

          rest : (y : InGammaInto gamma naming s.world.memory target.rest i offset lo hi) × (y.base ≡ st.base)
          rest = within_stands o q flow p.shaped naming s.world.memory r.stands_for.sane given.rest i offset lo hi st within (after_write flow.bases.items given.rest.bases cut) after_there

          laid : IsLaidOut flow (length row)
          laid = subst (IsLaidOut flow) (sym r.long) p.laid

          start : WindowHas (window_within (offsets n target.rest)) offset
          start = start_has o q flow p.shaped naming s.world.memory r.stands_for.sane target.rest i offset lo hi rest.0 within

          window_at : WindowHas (touched_window n target.rest cut) offset
          window_at = let a = some in touched_has o q flow p.shaped naming s.world.memory r.stands_for.sane target.rest i offset lo hi rest.0 within cut size cut_size room offset (omega arith) (omega (arith, a))

          abbrev top : ℤ
          top = less_one (upper_or (pos 1) cut)

          top_from : (t : ℕ) → t < size → pos t ≤ℤ top
          top_from t less =
              let a = upper_some cut (pos size) cut_size in
              let b = within.within in
              let c = r.stands_for.sane.small i in
              sat_above (upper_or (pos 1) cut -ℤ pos 1) (pos t) (omega (arith, ints, a, less)) (omega (arith, ints, less, room, b, c))

          top_to : top ≤ℤ the_end
          top_to = let a = cut_top need (range_difference (n.bounds given.rest.len) (n.bounds given.rest.rel)) in sat_below (upper_or (pos 1) cut -ℤ pos 1) the_end (omega (arith, ints, a)) (omega (arith, ints))

          abbrev lengths : I
          lengths = between_or_least l n (pos 0) top

          lengths_count : IsCount l n (near_number l n lengths)
          lengths_count = length_count o q top (top_from 0 some) top_to

          abbrev write : TextWrite I
          write = record { bases = writable_of flow.bases.items target.rest.bases; start = start.window; window = window_at.window; one_byte = is_one_byte cut; characters = letters; zero = line_rule l n cut }

          abbrev effect_in : Option Window → Option Window → Effect I
          effect_in x y = text_effect l call target x y (is_one_byte cut) letters (line_rule l n cut)

          text_is : line_plan.effect ≡ effect.Text write (pointer_value l target.rest)
          text_is =
              ap (λ y. cond {A = Effect I} y (effect_in (window_within (offsets n target.rest)) (touched_window n target.rest cut)) effect.Unreached) on
              ∙ (ap (λ y. effect_in y (touched_window n target.rest cut)) start.is ∙ ap (effect_in (Some start.window)) window_at.is)

          effect_on : goes_on line_plan.effect ≡ true
          effect_on = ap (λ y. goes_on y) text_is

          in_write : (b : ℕ) → naming i ≡ Some b → has_base write.bases b ≡ true
          in_write b named =
              let same : st.base ≡ b = same_Some st.base b (sym st.named ∙ named) in
              subst (λ v. has_base write.bases v ≡ true) same (is_writable o q flow p.shaped naming s.world.memory r.stands_for.sane given.rest i offset lo hi st within alive cut size cut_size target.rest.bases (subst (λ v. bases_has target.rest.bases v ≡ true) rest.1 rest.0.among) plain)

          one_live : is_one_instance flow.bases.items write.bases ≡ true → (b h : ℕ) → has_base write.bases b ≡ true → IsLiveOf naming s.world.memory b h → h ≡ i
          one_live alone b h in_set g =
              let own = in_write st.base st.named in
              let v = alone_is flow.bases.items write.bases st.base own alone in
              let base = get_there flow.bases.items st.base (r.stands_for.sane.few i st.base st.named) in
              let same : b ≡ st.base = v.one b in_set in
              r.stands_for.sane.one h i st.base base.0 base.1 (not_older base.0.kind (v.single st.base base.0 base.1 own)) (g.named ∙ ap Some same) st.named (λ y. live_ended (sym g.alive ∙ y)) (λ y. live_ended (sym alive ∙ y))

          -- ---- so many characters were read

          module _ (cs : List Content) (input : AreInput flow.model cs) (fits_size : length cs < size) (draws : List ℤ) where
            abbrev content_list : List Content
            content_list = with_end cs

            content_long : length content_list ≡ length cs + 1
            content_long = length-append cs (number 0 no_labels ∷ [])

            -- each content is a number of which the analysis knows
            pub record IsKnownNumber (x : Content) : Type 0 where
              pub digit : ℕ
              pub labels : Labels
              pub equal : x ≡ number digit labels
              pub small : digit < 256
              pub labelled : labels_leq (as_set labels) letters.labels ≡ true
              pub stood : (signed : Bool) → gamma (character_value l n letters signed).num (number_of signed (record { number = digit; labels = labels } ∷ []))

            input_stood : (digit : ℕ) (labels : Labels) → digit < 256 → (signed : Bool) → gamma (cond signed letters.signed letters.unsigned) (number_of signed (record { number = digit; labels = labels } ∷ []))
            input_stood digit labels small true = (padding_stands o q flow.model naming s.world.memory true (record { number = digit; labels = labels }) small).0
            input_stood digit labels small false = (padding_stands o q flow.model naming s.world.memory false (record { number = digit; labels = labels }) small).0

            known_by : (x : Content) → IsWrittenContent flow.model x → IsKnownNumber x
            known_by x (is_input k) = record {
              digit = k.digit;
              labels = input_labels (char_type flow.model);
              equal = k.equal;
              small = k.small;
              labelled = labels_order.reflexive letters.labels;
              stood = λ signed. q.larger (cond signed letters.signed letters.unsigned) (l.join (cond signed letters.signed letters.unsigned) (n.one (pos 0))) (number_of signed (record { number = k.digit; labels = input_labels (char_type flow.model) } ∷ [])) (o.join_left (cond signed letters.signed letters.unsigned) (n.one (pos 0))) (input_stood k.digit (input_labels (char_type flow.model)) k.small signed);
            }
            known_by x (is_end k) = record {
              digit = 0;
              labels = no_labels;
              equal = k;
              small = omega arith;
              labelled = labels_order.least_below letters.labels;
              stood = λ signed. q.larger (n.one (pos 0)) (l.join (cond signed letters.signed letters.unsigned) (n.one (pos 0))) (number_of signed (record { number = 0; labels = no_labels } ∷ [])) (o.join_right (cond signed letters.signed letters.unsigned) (n.one (pos 0))) (subst (gamma (n.one (pos 0))) (sym (zero_number signed)) (q.one_stands (pos 0)));
            }

            known : (k : ℕ) (x : Content) → slice_get content_list k ≡ Some x → IsKnownNumber x
            known k x f = known_by x (written_content flow.model cs input k x f)

            known_digit : (y : Labelled) (k : ℕ) (la : Labels) → number_in y ≡ number k la → (signed : Bool) → number_of signed (record { number = k; labels = la } ∷ []) ≡ number_of signed (y ∷ [])
            known_digit y k la f true = ap (λ v. number_of true (record { number = v; labels = la } ∷ [])) (sym (ap digit_of f))
            known_digit y k la f false = ap (λ v. number_of false (record { number = v; labels = la } ∷ [])) (sym (ap digit_of f))

            -- ---- memory

            abbrev memory : Memory
            memory = set_bytes s.world.memory i (refilled (bytes_at s.world.memory i) offset content_list)

            fits : offset + length content_list ≤ length (bytes_at s.world.memory i)
            fits = let a = content_long in let x = within.within in let y = within.below in omega (arith, a, x, y, room, fits_size)

            written_here : IsWritten s.world.memory memory i offset content_list
            written_here = let it = instance_there s.world.memory i alive in contents_written s.world.memory i offset content_list it.0 it.1 fits

            abbrev region_here : IsRegion s.world.memory memory i offset (length content_list)
            region_here = written_here.region

            sane : IsMemoryOf flow.model flow.bases.items naming memory
            sane = let it = instance_there s.world.memory i alive in contents_sane s.world.memory i offset content_list it.0 it.1 fits flow.model flow.bases.items naming (λ k x f. let y = known k x f in (y.digit, y.labels, y.equal, y.small)) r.stands_for.sane

            byte_known : (x : ℕ) (b : Byte) → offset ≤ x → x < offset + length content_list → byte_at memory i x ≡ Some b → IsKnownNumber b.content
            byte_known x b from below f = known (x - offset) b.content (region_content written_here x b from below f)

            window_has : (x : ℕ) → offset ≤ x → x < offset + length content_list → (window_at.window.lo ≤ x) × (x ≤ window_at.window.hi)
            window_has x from below =
                let a = content_long in
                let y = first_touched o q flow p.shaped naming s.world.memory r.stands_for.sane target.rest i offset lo hi rest.0 within cut size (length content_list) cut_size (omega (arith, a, fits_size)) (omega (arith, a, fits_size, room)) x from below in
                let same : y.window ≡ window_at.window = same_Some y.window window_at.window (sym y.is ∙ window_at.is) in
                subst (λ v. (v.lo ≤ x) × (x ≤ v.hi)) same (y.from, y.to)

            is_text : IsTextWrite l n gamma write memory i offset (length content_list)
            is_text = record {
              window = window_has;
              start = (start.from, start.to);
              one_byte = λ f. let a = content_long in let y = one_has o q flow p.shaped naming s.world.memory r.stands_for.sane target.rest i offset lo hi rest.0 within cut size cut_size f in omega (arith, a, y, fits_size);
              numbers = λ x b from below f. let y = byte_known x b from below f in (y.digit, y.labels, y.equal, y.labelled);
              characters = λ x y b from below f g signed. let k = byte_known x b from below f in subst (gamma (character_value l n letters signed).num) (known_digit y k.digit k.labels (sym g ∙ k.equal) signed) (k.stood signed);
            }

            -- ---- the first zero of the line

            abbrev ends : ℕ
            ends = (first_of flow.model cs input).0

            first_is : IsFirst content_list ends
            first_is = (first_of flow.model cs input).1

            at_place : (k : ℕ) (b : Byte) → k < length content_list → byte_at memory i (offset + k) ≡ Some b → slice_get content_list k ≡ Some b.content
            at_place k b less f =
                let same : (offset + k) - offset ≡ k = omega arith in
                subst (λ v. slice_get content_list v ≡ Some b.content) same (region_content written_here (offset + k) b (omega arith) (omega (arith, less)) f)

            has_text : HasTextFirst memory i offset (length content_list) ends
            has_text =
                let inside = first_is.inside in
                record {
                  short = inside;
                  text = λ k b less f. first_is.before k b.content less (at_place k b (omega (arith, less, inside)) f);
                  closed = λ b f. first_is.here b.content (at_place ends b inside f);
                }

            counted : gamma lengths (pos ends)
            counted =
                let inside = first_is.inside in
                let a = content_long in
                number_between o q (pos 0) top (pos ends) (omega (arith, ints)) (top_from ends (omega (arith, inside, a, fits_size)))

            result : IsResult q flow p naming memory (pointer_value l target.rest) (pointer d)
            result = subst (λ y. IsResult q flow p naming memory (pointer_value l target.rest) (pointer y)) (sym is) (record {
              stands_for = scalar_moves (alike_region region_here) gamma naming (pointer_value l target.rest) (pointer (into i offset lo hi)) (subst (λ y. InGammaByLife gamma naming s.world.memory target.rest y i offset lo hi) (sym alive) rest.0);
              near = tt;
              within = pointer_in_moves (alike_region region_here) (into i offset lo hi) within;
            })

            line_is : IsLine (pointer d) (with_contents (record start_world { draws = draws }) (reach_of i offset hi) content_list)
            line_is = record {
              truth = subst (λ y. is_false (pointer y) ≡ false) (sym is) refl;
              write = write;
              value = pointer_value l target.rest;
              plans = text_is;
              long = line_long o q flow naming row (state_of s) laid r.stands_for memory i offset (length content_list) region_here sane write is_text lengths refl ends has_text counted lengths_count (λ b named h. in_write b named) (λ alone h b j in_set g. one_live alone b j in_set g);
              stands_for = line_stands o q flow naming row (state_of s) laid r.stands_for memory i offset (length content_list) region_here sane write is_text lengths refl ends has_text counted lengths_count (λ b named h. in_write b named) (λ alone h b j in_set g. one_live alone b j in_set g);
              result = result;
              lengths = region_here.lengths;
            }

          -- ---- what the outside says

          read_good : (draws : List ℤ) (k : ℤ) → pos 0 ≤ℤ k → k ≤ℤ (pos size -ℤ pos 1) → IsGoodLine (line_read flow.model d size (reach_of i offset hi) k (record start_world { draws = draws }))
          read_good draws k low high = by_line (line_end flow.model (unsigned_abs k) (record start_world { draws = draws }))
            where
              count_short : (x : ℤ) → pos 0 ≤ℤ x → x ≤ℤ (pos size -ℤ pos 1) → unsigned_abs x < size
              count_short (pos y) a b = let c = some in omega (arith, ints, b, c)
              count_short (negsuc y) a b = absurd (omega (arith, ints, a))

              by_line : LineEnd flow.model (unsigned_abs k) (record start_world { draws = draws }) (line_of flow.model (unsigned_abs k) (record start_world { draws = draws })) → IsGoodLine (line_read flow.model d size (reach_of i offset hi) k (record start_world { draws = draws }))
              by_line (no_more more f) = subst (λ y. IsGoodLine (behind y (λ cs w. goes (pointer d) (with_contents w (reach_of i offset hi) (with_end cs))))) (sym f) (stopped OutOfDraws (record start_world { draws = more }) fine)
              by_line (read cs more long input f) =
                  let short = count_short k low high in
                  subst (λ y. IsGoodLine (behind y (λ cs w. goes (pointer d) (with_contents w (reach_of i offset hi) (with_end cs))))) (sym f)
                  (goes_good (pointer d) (with_contents (record start_world { draws = more }) (reach_of i offset hi) (with_end cs)) fine (a_line effect_on (line_is cs input (omega (arith, long, short)) more)))

          -- where there is a line, how long it is
          long_good : (draws : List ℤ) → IsGoodLine (behind (drawn (record start_world { draws = draws }) (pos 0) (pos size -ℤ pos 1)) (line_read flow.model d size (reach_of i offset hi)))
          long_good draws = by_drawn (drawn_end (record start_world { draws = draws }) (pos 0) (pos size -ℤ pos 1))
            where
              by_drawn : DrawnEnd (record start_world { draws = draws }) (pos 0) (pos size -ℤ pos 1) (drawn (record start_world { draws = draws }) (pos 0) (pos size -ℤ pos 1)) → IsGoodLine (behind (drawn (record start_world { draws = draws }) (pos 0) (pos size -ℤ pos 1)) (line_read flow.model d size (reach_of i offset hi)))
              by_drawn (ran_out more f) = subst (λ y. IsGoodLine (behind y (line_read flow.model d size (reach_of i offset hi)))) (sym f) (stopped OutOfDraws (record start_world { draws = more }) fine)
              by_drawn (gave k more low high f) = subst (λ y. IsGoodLine (behind y (line_read flow.model d size (reach_of i offset hi)))) (sym f) (read_good more k low high)

          answer_good : (draws : List ℤ) (answer : ℤ) → IsGoodLine (if_read flow.model d size (reach_of i offset hi) answer (record start_world { draws = draws }))
          answer_good draws (pos zero) = goes_good (pointer null) (record start_world { draws = draws }) fine (no_line refl refl effect_on)
          answer_good draws (pos (suc k)) = long_good draws
          answer_good draws (negsuc k) = long_good draws

          asked_good : IsGoodLine (behind (drawn start_world (pos 0) (pos 1)) (if_read flow.model d size (reach_of i offset hi)))
          asked_good = by_drawn (drawn_end start_world (pos 0) (pos 1))
            where
              by_drawn : DrawnEnd start_world (pos 0) (pos 1) (drawn start_world (pos 0) (pos 1)) → IsGoodLine (behind (drawn start_world (pos 0) (pos 1)) (if_read flow.model d size (reach_of i offset hi)))
              by_drawn (ran_out more f) = subst (λ y. IsGoodLine (behind y (if_read flow.model d size (reach_of i offset hi)))) (sym f) (stopped OutOfDraws (record start_world { draws = more }) fine)
              by_drawn (gave k more low high f) = subst (λ y. IsGoodLine (behind y (if_read flow.model d size (reach_of i offset hi)))) (sym f) (answer_good more k)

        by_literal : (x : Bool) → (nat_lt 0 size && is_literal (storage_at s.world.memory i)) ≡ x → IsGoodLine (behind (cond x (stopped_by start_world rule.Strmod) (goes (reach_of i offset hi) start_world)) (λ _ w. behind (drawn w (pos 0) (pos 1)) (if_read flow.model d size (reach_of i offset hi))))
        by_literal true f = let y = and_parts (nat_lt 0 size) (is_literal (storage_at s.world.memory i)) f in told rule.Strmod (literal_stop y.1)
        by_literal false f = asked_good (by_flags (nat_lt 0 size) (is_literal (storage_at s.world.memory i)) (lt-ltb 0 size some) f)
          where
            by_flags : (x y : Bool) → x ≡ true → (x && y) ≡ false → y ≡ false
            by_flags true y g k = k
            by_flags false y g k = cc

      by_room : (x : Bool) → nat_lt (hi - offset) size ≡ x → IsGoodLine (behind (cond x (stopped_by start_world rule.Libptr) (goes (reach_of i offset hi) start_world)) (λ _ w. behind (machine.writable size (reach_of i offset hi) w) (λ _ w. behind (drawn w (pos 0) (pos 1)) (if_read flow.model d size (reach_of i offset hi)))))
      by_room true f = told rule.Libptr (room_stop (ltb-true (hi - offset) size f))
      by_room false f = by_literal (let k = ltb-false (hi - offset) size f in omega (arith, k)) (nat_lt 0 size && is_literal (storage_at s.world.memory i)) refl

      into_good : IsGoodLine (line_into flow.model d size (reach_of i offset hi) start_world)
      into_good = by_room (nat_lt (hi - offset) size) refl

    by_sign : (x : Bool) → int_lt z (pos 1) ≡ x → IsGoodLine (cond x (stops Left start_world) (line_into flow.model d (machine.size_of z) (reach_of i offset hi) start_world))
    by_sign true f = stopped Left start_world fine
    by_sign false f = into_good (at_least f)
      where
        at_least : int_lt z (pos 1) ≡ false → pos 1 ≤ℤ z
        at_least g = grind (arith, ints)

  stands_here : InGammaPointer gamma naming s.world.memory (value_of o q flow p naming row s r to has None items None vs e 0).pointer d
  stands_here = argument_stands o q flow p naming row s r to has None items None vs e 0 (pointer d) first

  pointer_stop : (rl : Rule) → violates given.violations rl ≡ true → violates line_plan.violations rl ≡ true
  pointer_stop rl h = pointer_on rl (told_here sink_trail given.violations (not (bases_empty given.rest.bases)) rl refl h)

  by_end : ReachEnd start_world d → IsGoodLine (behind (machine.reached d start_world) (read_into flow.model d z))
  by_end (into_live i offset lo hi is alive) =
      let a : machine.reached d start_world ≡ goes (reach_of i offset hi) start_world = ap (λ y. machine.reached y start_world) is ∙ ap (λ y. machine.reached_by start_world y i offset hi) alive in
      subst (λ y. IsGoodLine (behind y (read_into flow.model d z))) (sym a) (by_sign i offset lo hi is alive (int_lt z (pos 1)) refl)
  by_end (into_nothing a is) =
      subst (λ y. IsGoodLine (behind y (read_into flow.model d z))) (sym a) (told rule.Nullref (pointer_stop rule.Nullref (null_told o q flow p.shaped naming row (state_of s) r.stands_for (value_of o q flow p naming row s r to has None items None vs e 0).pointer (subst (InGammaPointer gamma naming s.world.memory (value_of o q flow p naming row s r to has None items None vs e 0).pointer) is stands_here))))
  by_end (into_ended i offset lo hi is life) =
      let a : machine.reached d start_world ≡ stopped_by start_world rule.Nullref = ap (λ y. machine.reached y start_world) is ∙ ap (λ y. machine.reached_by start_world y i offset hi) life in
      subst (λ y. IsGoodLine (behind y (read_into flow.model d z))) (sym a) (told rule.Nullref (pointer_stop rule.Nullref (ended_told o q flow p.shaped naming row (state_of s) r.stands_for (value_of o q flow p naming row s r to has None items None vs e 0).pointer i offset lo hi life (subst (InGammaPointer gamma naming s.world.memory (value_of o q flow p naming row s r to has None items None vs e 0).pointer) is stands_here))))
  by_end (into_freed i offset lo hi is life) =
      let a : machine.reached d start_world ≡ stopped_by start_world rule.Accfree = ap (λ y. machine.reached y start_world) is ∙ ap (λ y. machine.reached_by start_world y i offset hi) life in
      subst (λ y. IsGoodLine (behind y (read_into flow.model d z))) (sym a) (told rule.Accfree (pointer_stop rule.Accfree (freed_told o q flow p.shaped naming row (state_of s) r.stands_for (value_of o q flow p naming row s r to has None items None vs e 0).pointer i offset lo hi life (subst (InGammaPointer gamma naming s.world.memory (value_of o q flow p naming row s r to has None items None vs e 0).pointer) is stands_here))))

  pub line_good : IsGoodLine (behind (machine.reached d (machine.with_size s.world lb)) (read_into flow.model d z))
  line_good = by_end (reach_end start_world d)
