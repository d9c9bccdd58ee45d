-- Steps on copies of structs are sound.
use Rattle.std.proofs.Common.{◌≡◌, ℕ, zero, suc, ◌+◌, ◌-◌, ◌*◌, ◌<◌, ◌≤◌, ◌^◌, Bool, true, false, cond, ◌||◌, ◌&&◌, Option, Some, List, [], ◌∷◌, length, map, arith, subst, sym, refl, ap, ◌∙◌, inl, inr}
use Rattle.std.specs.Prelude.{slice_get, ℤ, pos, ◌≤ℤ◌, not, ◌==◌, nat_lt, nat_le}
use Rattle.std.proofs.lemmas.Int.{ints}
use Rattle.std.proofs.lemmas.Bool.{and_parts, and_from, or_cases, ltb-true, lt-ltb, lt-leb, eqb-true, eq-eqb, true≢false}
use Rattle.std.proofs.lemmas.Option.{same_Some, slice_get_within, get_or_from_slice_get}
use Rattle.cc_base.specs.Lattices.{LatticeOf, OrderLaws}
use Rattle.cc_base.specs.IntegerDomains.{IntegersOf, BoundLaws, RangeLaws}
use Rattle.cc_base.specs.IntegerLaws.{SoundLaws}
use Rattle.cc_base.specs.IntegerTypes.{greatest_of}
use Rattle.cc_base.specs.declared.diagnostics.Rule.{Rule}
use Rattle.c_layout.specs.Leaves.{leaves_of}
use Rattle.c_layout.specs.Layout.{size_of_type}
use Rattle.c_layout.specs.StructViews.{StructView, struct_view, structs_view, no_struct}
use Rattle.c_layout.specs.Types.{Struct}
use Rattle.c_layout.specs.declared.leaf_lists.Class.TheVariants.{Pointer}
use Rattle.c_layout.specs.declared.leaf_lists.Leaf.{Leaf}
use Rattle.c_layout.specs.declared.struct_table.StructType.{StructType}
use Rattle.cfg.specs.WellFormed.{names_of, has_temp, fits_operation}
use Rattle.cfg.specs.declared.machine_instructions.Operation.{Operation}
use Rattle.cfg.specs.declared.machine_instructions.Operation.TheVariants as op
use Rattle.cfg.specs.declared.programs.Flow.{Flow}
use Rattle.pointer_domain.specs.BaseSets.{bases_empty}
use Rattle.pointer_domain.specs.declared.pointer_sets.Pointers.{Pointers}
use Rattle.value_domain.specs.Values.ValueTables.{pointer_value}
use Rattle.value_domain.specs.declared.values.row_cells.Cell.{Cell}
use Rattle.store_cells.specs.AccessWindows.{window_of}
use Rattle.store_cells.specs.ScalarTypes.{kind_of}
use Rattle.transfer_checks.specs.Temporaries.{temp_value}
use Rattle.transfer_checks.specs.Touches.{touch}
use Rattle.transfer_checks.specs.ViolationSets.{violations_union, violates}
use Rattle.transfer_checks.specs.declared.touches.Touched.{Touched}
use Rattle.transfer_checks.specs.declared.violation_sets.Violations.{Violations}
use Rattle.transfer_instructions.specs.Instructions.MemorySteps.{size_of_struct, struct_size, both_touched, kept_target, copy_touched, copy_between, copy_step}
use Rattle.transfer_instructions.specs.Instructions.Steps.{operate}
use Rattle.transfer_instructions.specs.Instructions.StepViolations.{operation_violations}
use Rattle.memory_model.specs.Memory.Bytes.{MachinePointer, into, Byte}
use Rattle.memory_model.specs.Memory.Instances.{Instance, Life, live, ended, freed, bytes_at, byte_at, life_at}
use Rattle.memory_model.specs.Memory.Scalars.{Scalar, integer, pointer}
use Rattle.memory_model.specs.Effects.StructCopies as effect
use Rattle.memory_model.specs.Effects.StructCopies.{overlap, same_spot, may_copy, copy_made, copy_at}
use Rattle.memory_model.specs.Effects.Operands.{as_pointer}
use Rattle.memory_model.specs.Effects.Touches.{Spot, touched}
use Rattle.memory_model.specs.Effects.Worlds.{World, Reply, goes, stops, behind, stopped_by, Left, Stuck}
use Rattle.semantics.specs.CfgMachine.FlowStates.{ProgramState}
use Rattle.semantics.specs.CfgMachine.FlowActs.{giving}
use Rattle.store_sound.specs.Concretization.ValueMeaning.{Naming, InGammaInto, InGammaPointer, InGammaScalar, InGammaByLife}
use Rattle.store_sound.specs.Concretization.SoundMemory.{IsMemoryOf, IsPointerIn, IsWithin, IsNamed}
use Rattle.store_sound.specs.Concretization.RowMeaning.{InGamma}
use Rattle.store_sound.specs.Operations.Gives.{Gives}
use Rattle.store_sound.proofs.operations.Frames.{pointer_in_moves, pointer_moves}
use Rattle.store_sound.proofs.operations.LoadSound.{instance_there}
use Rattle.store_sound.proofs.operations.Reading.{IsTouched, touched_goes}
use Rattle.store_sound.proofs.operations.Slices.{get_there}
use Rattle.store_sound.proofs.operations.StorePlaces.{not_empty}
use Rattle.store_sound.proofs.operations.TouchSound.{touch_admitted}
use Rattle.store_sound.proofs.operations.TouchedRest.{touch_stands}
use Rattle.store_sound.proofs.operations.Windows.{WindowHas, window_has}
use Rattle.store_sound.specs.Programs.Premises.{HasPremises}
use Rattle.store_sound.specs.Regions.RegionWrites.{IsRegion}
use Rattle.store_sound.proofs.regions.Regions.{alike_region}
use Rattle.store_structs.specs.StructCopies as structs
use Rattle.store_structs.specs.StructCopies.{copy_found, copy_route}
use Rattle.memory_calls_sound.specs.SoundSteps.{IsReached, IsStoodFor, StepIsSound}
use Rattle.memory_calls_sound.proofs.Admitted.{AreAdmitted, none_admitted, one_admitted, both_admitted, same_admitted}
use Rattle.memory_calls_sound.proofs.PutTemps.{IsResult}
use Rattle.memory_calls_sound.proofs.Replies.{stop_good, if_some_good, result_good}
use Rattle.memory_calls_sound.proofs.LoadSteps.{union_left, union_right}
use Rattle.memory_calls_sound.proofs.MachineReplies.{TouchEnd, went, stopped, touch_end}
use Rattle.struct_copies_sound.proofs.memory.CopiedMemory.{copied_byte, copy_region}
use Rattle.struct_copies_sound.proofs.memory.CopyGoes.{CopyGoes, copy_goes, copies_keep}
use Rattle.struct_copies_sound.proofs.leaves.Copies.{Copied, Came, IsSide, route}
use Rattle.struct_copies_sound.specs.Structs.StructTables.{IsListed, HasStructs}
use Rattle.struct_copies_sound.proofs.structs.FewLeaves.{no_more_than_bytes}
use Rattle.struct_copies_sound.specs.Copies.CopySteps.{IsCopy}
use Rattle.struct_copies_sound.proofs.copies.CopyRows.{route_stands}

-- ---- tables

pub map_get : {X Y : Type 0} (f : X → Y) (xs : List X) (k : ℕ) (x : X) → slice_get xs k ≡ Some x → slice_get (map f xs) k ≡ Some (f x)
map_get f [] k x e = cc
map_get f (y ∷ ys) zero x e = let same : y ≡ x = same_Some y x e in ap (λ z. Some (f z)) same
map_get f (y ∷ ys) (suc k) x e = map_get f ys k x e

not_ended : (x : Life) → x ≡ live → x ≡ ended → ⊥
not_ended live e f = cc
not_ended ended e f = cc
not_ended freed e f = cc

-- regions that have a byte in common overlap
apart_is : (to from : Spot) (size x : ℕ) → (same_spot to from || not (overlap to size from size)) ≡ true → from.instance ≡ to.instance → to.offset ≤ x → x < to.offset + size → from.offset ≤ x → x < from.offset + size → to.offset ≡ from.offset
apart_is to from size x h same a b c d = elim (or_cases (same_spot to from) (not (overlap to size from size)) h) [
  | inl e ↦ eqb-true to.offset from.offset (and_parts (to.instance == from.instance) (to.offset == from.offset) e).1
  | inr e ↦ (let one : (to.instance == from.instance) ≡ true = eq-eqb to.instance from.instance (sym same) in
      let left : not (nat_le (to.offset + size) from.offset) ≡ true = ap not (more (to.offset + size) from.offset (omega (arith, b, c))) in
      let right : not (nat_le (from.offset + size) to.offset) ≡ true = ap not (more (from.offset + size) to.offset (omega (arith, a, d))) in
      let over : overlap to size from size ≡ true = and_from _ _ one (and_from _ _ left right) in
      absurd (true≢false (sym e ∙ ap not over)))
]
  where
    more : (m n : ℕ) → n < m → nat_le m n ≡ false
    more m n h = lt-leb m n h

module _ {I : Type 0} {l : LatticeOf I} {n : IntegersOf I} {gamma : I → ℤ → Type 0} (o : OrderLaws l) (q : BoundLaws l n gamma) (c : SoundLaws l n gamma) (ranges : RangeLaws l n) (flow : Flow) (p : HasPremises flow) (h : HasStructs flow) (naming : Naming) (row : List (Cell I)) (s : ProgramState) (r : IsReached l n gamma flow naming row s) where
  module _ (to : ℕ) (few : to < flow.temps) (index : ℕ) (x y : Pointers I) (t : StructType) (there : slice_get flow.structs.items.items index ≡ Some t) where
    abbrev view : StructView
    view = struct_view t

    abbrev leaves : List Leaf
    leaves = leaves_of (structs_view flow.structs) flow.model.pointer (Struct index)

    in_view : slice_get (structs_view flow.structs) index ≡ Some (struct_view t)
    in_view = map_get struct_view flow.structs.items.items index t there

    listed : IsListed flow.model (structs_view flow.structs) index (struct_view t)
    listed = h.listed index (struct_view t) in_view

    -- the size as both have it
    machine_size : size_of_type (structs_view flow.structs) flow.model.pointer (Struct index) ≡ t.size
    machine_size = ap (λ (z : StructView). z.size) (get_or_from_slice_get (structs_view flow.structs) index (struct_view t) no_struct in_view)

    table_size : struct_size flow index ≡ t.size
    table_size = let small = listed.struct.small in ap size_of_struct there ∙ omega (arith, small)

    abbrev source : Touched I
    source = touch l n flow.bases.items row y 0 (struct_size flow index) false

    abbrev target : Touched I
    target = touch l n flow.bases.items row x 0 (struct_size flow index) true

    abbrev told : Violations
    told = both_touched source target

    abbrev after : Option (List (Cell I))
    after = kept_target l flow to target.rest (structs.copy_struct l n flow.model flow.bases.items (structs_view flow.structs) index target.rest source.rest row)

    abbrev Good : Reply ProgramState → Type 0
    Good reply = IsStoodFor l n gamma flow after told reply

    clean : AreAdmitted told s.world.violated
    clean = same_admitted told s.world.violated [] r.begun (none_admitted told)

    rule_good : (rule : Rule) → violates told rule ≡ true → Good (giving s to (as_pointer (stopped_by s.world rule)))
    rule_good rule e = stop_good l n gamma flow after told _ _ (both_admitted told s.world.violated _ clean (one_admitted told rule e))

    first_told : (rule : Rule) → violates source.violations rule ≡ true → violates told rule ≡ true
    first_told rule e = by_test (bases_empty source.rest.bases)
      where
        by_test : (b : Bool) → violates (cond b source.violations (violations_union source.violations target.violations)) rule ≡ true
        by_test true = e
        by_test false = union_left source.violations target.violations rule e

    second_told : (rule : Rule) → bases_empty source.rest.bases ≡ false → violates target.violations rule ≡ true → violates told rule ≡ true
    second_told rule some e = subst (λ b. violates (cond b source.violations (violations_union source.violations target.violations)) rule ≡ true) (sym some) (union_right source.violations target.violations rule e)

    module _ (d m : MachinePointer) (sd : InGammaPointer gamma naming s.world.memory x d) (sm : InGammaPointer gamma naming s.world.memory y m) (inside_d : IsPointerIn s.world.memory d) (inside_m : IsPointerIn s.world.memory m) (named_m : IsNamed naming s.world.memory m) where
      abbrev size : ℕ
      size = size_of_type (structs_view flow.structs) flow.model.pointer (Struct index)

      abbrev reply : Reply Scalar
      reply = effect.copy_struct flow.model leaves size (pointer d) (pointer m) s.world

      same_size : size ≡ struct_size flow index
      same_size = machine_size ∙ sym table_size

      -- the pointers that went on
      module _ (i offset lo hi : ℕ) (z : MachinePointer) (is : z ≡ into i offset lo hi) (alive : life_at s.world.memory i ≡ live) (v : Pointers I) (st : InGammaPointer gamma naming s.world.memory v z) where
        into_live : InGammaInto gamma naming s.world.memory v i offset lo hi
        into_live = subst (λ w. InGammaByLife gamma naming s.world.memory v w i offset lo hi) alive (subst (InGammaPointer gamma naming s.world.memory v) is st)

      side : (z : MachinePointer) (spot : Spot) (writes : Bool) (v : Pointers I) → IsTouched s.world z size writes spot s.world → InGammaPointer gamma naming s.world.memory v z → IsPointerIn s.world.memory z → (w : WindowHas (window_of n v t.size) spot.offset) × IsSide flow naming s.world.memory v.bases w.window spot.instance spot.offset t.size
      side z spot writes v g st inside =
          let a = into_live spot.instance spot.offset g.lo g.hi z g.pointer g.alive v st in
          let in_bounds : IsWithin s.world.memory spot.instance spot.offset g.lo g.hi = subst (IsPointerIn s.world.memory) g.pointer inside in
          let within = in_bounds.within in
          let small = r.stands_for.sane.small spot.instance in
          let below = g.below in
          let same = machine_size in
          let w = window_has q v t.size spot.offset g.lo g.hi a.lower a.relative a.room g.above (omega (arith, below, same)) (omega (arith, within, small)) in
          let b = get_there flow.bases.items a.base (r.stands_for.sane.few spot.instance a.base a.named) in
          let most = p.shaped.few in
          let among = slice_get_within flow.bases.items a.base b.0 b.1 in
          (w, record { b = a.base; base = b.0; at = b.1; named = a.named; alive = g.alive; has = and_from _ _ (lt-ltb a.base _ (omega (arith, most, among))) a.among; lo = w.from; hi = w.to; fits = omega (arith, below, same, within) })

      module _ (u : World) (goes_on : effect.copy_struct flow.model leaves size (pointer d) (pointer m) s.world ≡ goes (pointer d) u) (rest_d : InGammaPointer gamma naming s.world.memory target.rest d) (rest_m : InGammaPointer gamma naming s.world.memory source.rest m) where
        abbrev g : CopyGoes flow.model leaves size d m s.world u
        g = copy_goes flow.model leaves size d m s.world u (pointer d) goes_on

        -- instances are shorter than half of what 64 bits number
        short_is : (i : ℕ) → length (bytes_at s.world.memory i) ≤ 2 ^ 63 - 1
        short_is i = by_bytes (flow.model.pointer == 4) (r.short i)
          where
            by_bytes : (b : Bool) → pos (length (bytes_at s.world.memory i)) ≤ℤ pos (2 ^ (8 * cond b 4 8 - 1) - 1) → length (bytes_at s.world.memory i) ≤ 2 ^ 63 - 1
            by_bytes true e = omega (arith, ints, e)
            by_bytes false e = omega (arith, ints, e)

        abbrev from_side : (w : WindowHas (window_of n source.rest t.size) g.source.offset) × IsSide flow naming s.world.memory source.rest.bases w.window g.source.instance g.source.offset t.size
        from_side = side m g.source false source.rest g.read rest_m inside_m

        abbrev to_side : (w : WindowHas (window_of n target.rest t.size) g.target.offset) × IsSide flow naming s.world.memory target.rest.bases w.window g.target.instance g.target.offset t.size
        to_side = side d g.target true target.rest g.written rest_d inside_d

        fits : g.target.offset + size ≤ length (bytes_at s.world.memory g.target.instance)
        fits = let a = to_side.1.fits in let b = machine_size in omega (arith, a, b)

        source_fits : g.source.offset + size ≤ length (bytes_at s.world.memory g.source.instance)
        source_fits = let a = from_side.1.fits in let b = machine_size in omega (arith, a, b)

        sane : IsMemoryOf flow.model flow.bases.items naming u.memory
        sane = copies_keep flow.model flow.bases.items p.shaped naming s.world u leaves size d m (pointer d) r.stands_for.sane inside_d inside_m named_m goes_on

        abbrev it : (z : Instance) × (slice_get s.world.memory g.target.instance ≡ Some z)
        it = instance_there s.world.memory g.target.instance g.written.alive

        new_is : (copy_made flow.model leaves size s.world g.target g.source).memory ≡ u.memory
        new_is = ap (λ (z : World). z.memory) (sym g.made)

        came_region : IsRegion s.world.memory u.memory g.target.instance g.target.offset t.size
        came_region = subst (λ z. IsRegion s.world.memory u.memory g.target.instance g.target.offset z) machine_size (subst (λ z. IsRegion s.world.memory z g.target.instance g.target.offset size) new_is
            (copy_region flow.model flow.bases.items p.shaped naming s.world.memory r.stands_for.sane leaves g.target.instance g.target.offset g.source.instance g.source.offset size it.0 it.1 fits source_fits from_side.1.b from_side.1.named g.target_fits g.source_fits g.parts))

        came_byte : (z : ℕ) (b : Byte) → g.target.offset ≤ z → z < g.target.offset + t.size → byte_at u.memory g.target.instance z ≡ Some b → Came flow.model leaves s.world.memory g.target.instance g.target.offset g.source.instance g.source.offset z b
        came_byte z b above below e =
            let same = machine_size in
            let w = copied_byte flow.model flow.bases.items p.shaped naming s.world.memory r.stands_for.sane leaves g.target.instance g.target.offset g.source.instance g.source.offset size it.0 it.1 fits source_fits from_side.1.b from_side.1.named g.target_fits g.source_fits g.parts
            z b above (omega (arith, below, same)) (subst (λ k. byte_at k g.target.instance z ≡ Some b) (sym new_is) e) in
            record { was = w.was; source = w.source; there = w.there; from = w.from; content = w.content; tag = w.tag; seen = w.seen; seen_there = w.seen_there; may = w.may }

        abbrev k : Copied flow naming s.world.memory u.memory
        k = record {
          structs = structs_view flow.structs;
          index = index;
          leaves = leaves_of (structs_view flow.structs) flow.model.pointer (Struct index);
          size = t.size;
          numbered = listed.numbered;
          struct = listed.struct;
          target = target.rest.bases;
          to = to_side.0.window;
          i = g.target.instance;
          offset = g.target.offset;
          target_side = to_side.1;
          source = source.rest.bases;
          from = from_side.0.window;
          j = g.source.instance;
          at = g.source.offset;
          source_side = from_side.1;
          region = came_region;
          came = came_byte;
          apart = λ z same a b e f. let size_is = machine_size in apart_is g.target g.source size z g.apart same a (omega (arith, b, size_is)) e (omega (arith, f, size_is));
          sane = r.stands_for.sane;
          short = short_is;
          laid = p.laid;
          padding = p.padding;
          few = λ b base e j leaf f. h.few b j base leaf e f;
        }

        few_leaves : length leaves ≤ 2 ^ 62
        few_leaves = let a = no_more_than_bytes flow.model leaves t.size listed.struct in let b = listed.struct.small in omega (arith, a, b)

        wide : p.laid.behind ≤ length row
        wide = subst (λ z. p.laid.behind ≤ z) (sym r.long) p.laid.long

        abbrev Behind : List (Cell I) → Type 0
        Behind row2 = (length row2 ≡ length row) × InGamma l n gamma flow naming row2 (record { memory = u.memory; temps = s.temps; entered = s.bases })

        rows : Gives Behind (copy_route l n (route k) (struct_view t) row)
        rows = route_stands k few_leaves o q c ranges row wide s.temps s.bases r.stands_for sane (struct_view t) refl listed.counted

        copied_is : structs.copy_struct l n flow.model flow.bases.items (structs_view flow.structs) index target.rest source.rest row ≡ Some rows.value
        unfolding structs.copy_struct
        copied_is =
            ap (λ z. copy_found l n flow.model flow.bases.items (structs_view flow.structs) index target.rest source.rest z row) in_view
            ∙ ((λ i. structs.copy_between l n flow.model flow.bases.items (structs_view flow.structs) index (struct_view t) target.rest.bases (to_side.0.is i) source.rest.bases (from_side.0.is i) row) ∙ rows.is)

        now : ProgramState
        now = record s { world = u }

        reached : IsReached l n gamma flow naming rows.value (record s { world = u })
        reached = record {
          long = rows.good.0 ∙ r.long;
          stands_for = rows.good.1;
          short = λ i. subst (λ z. pos z ≤ℤ greatest_of (kind_of flow.model Pointer true)) (sym (came_region.lengths i)) (r.short i);
          begun = ap (λ (z : World). z.violated) g.made ∙ r.begun;
        }

        result : IsResult q flow p naming u.memory (pointer_value l target.rest) (pointer d)
        result = record { stands_for = pointer_moves (alike_region came_region) gamma naming target.rest d rest_d; near = tt; within = pointer_in_moves (alike_region came_region) d inside_d }

        gone_good : Good (giving s to reply)
        gone_good = subst (λ z. Good (giving s to z)) (sym goes_on)
            (result_good q flow p naming rows.value (record s { world = u }) reached to few (pointer_value l target.rest) (pointer d) u result refl after told (ap (kept_target l flow to target.rest) copied_is)
            (same_admitted told u.violated [] (ap (λ (z : World). z.violated) g.made ∙ r.begun) (none_admitted told)))

      -- ---- what the machine does

      both_went : (from_spot to_spot : Spot) → touched s.world m size false ≡ goes from_spot s.world → touched s.world d size true ≡ goes to_spot s.world → reply ≡ as_pointer (copy_at flow.model leaves size d from_spot to_spot s.world) → (b : Bool) → may_copy flow.model leaves size s.world to_spot from_spot ≡ b → Good (giving s to reply)
      both_went from_spot to_spot e f is true may =
          let went : reply ≡ goes (pointer d) (copy_made flow.model leaves size s.world to_spot from_spot) = is ∙ ap (λ z. as_pointer (cond z (goes d (copy_made flow.model leaves size s.world to_spot from_spot)) (stops Left s.world))) may in
          let rest_d = touch_stands o q flow p.shaped naming row s.world s.temps s.bases r.stands_for x size true d to_spot s.world sd inside_d f in
          let rest_m = touch_stands o q flow p.shaped naming row s.world s.temps s.bases r.stands_for y size false m from_spot s.world sm inside_m e in
          gone_good (copy_made flow.model leaves size s.world to_spot from_spot) went
          (subst (λ z. InGammaPointer gamma naming s.world.memory (touch l n flow.bases.items row x 0 z true).rest d) same_size rest_d)
          (subst (λ z. InGammaPointer gamma naming s.world.memory (touch l n flow.bases.items row y 0 z false).rest m) same_size rest_m)
      both_went from_spot to_spot e f is false may =
          subst (λ z. Good (giving s to z)) (sym (is ∙ ap (λ z. as_pointer (cond z (goes d (copy_made flow.model leaves size s.world to_spot from_spot)) (stops Left s.world))) may))
          (stop_good l n gamma flow after told Left s.world clean)

      source_went : (from_spot : Spot) → touched s.world m size false ≡ goes from_spot s.world → TouchEnd s.world (touched s.world d size true) → Good (giving s to reply)
      source_went from_spot e (went to_spot f) = both_went from_spot to_spot e f
          (ap (λ z. as_pointer (behind z (λ from w. behind (touched w d size true) (copy_at flow.model leaves size d from)))) e ∙ ap (λ z. as_pointer (behind z (copy_at flow.model leaves size d from_spot))) f)
          (may_copy flow.model leaves size s.world to_spot from_spot) refl
      source_went from_spot e (stopped rule f) =
          let is : reply ≡ as_pointer (stopped_by s.world rule) = ap (λ z. as_pointer (behind z (λ from w. behind (touched w d size true) (copy_at flow.model leaves size d from)))) e ∙ ap (λ z. as_pointer (behind z (copy_at flow.model leaves size d from_spot))) f in
          let rest_m : InGammaPointer gamma naming s.world.memory source.rest m = subst (λ z. InGammaPointer gamma naming s.world.memory (touch l n flow.bases.items row y 0 z false).rest m) same_size (touch_stands o q flow p.shaped naming row s.world s.temps s.bases r.stands_for y size false m from_spot s.world sm inside_m e) in
          let g = touched_goes s.world m size false from_spot s.world e in
          let a = into_live from_spot.instance from_spot.offset g.lo g.hi m g.pointer g.alive source.rest rest_m in
          let admitted = touch_admitted o q flow p.shaped naming row s.world s.temps s.bases r.stands_for x size true d rule sd inside_d f in
          subst (λ z. Good (giving s to z)) (sym is)
          (rule_good rule (second_told rule (not_empty source.rest.bases a.base a.among) (subst (λ z. violates (touch l n flow.bases.items row x 0 z true).violations rule ≡ true) same_size admitted)))

      begins : TouchEnd s.world (touched s.world m size false) → Good (giving s to reply)
      begins (went from_spot e) = source_went from_spot e (touch_end s.world d size true)
      begins (stopped rule e) =
          let is : reply ≡ as_pointer (stopped_by s.world rule) = ap (λ z. as_pointer (behind z (λ from w. behind (touched w d size true) (copy_at flow.model leaves size d from)))) e in
          let admitted = touch_admitted o q flow p.shaped naming row s.world s.temps s.bases r.stands_for y size false m rule sm inside_m e in
          subst (λ z. Good (giving s to z)) (sym is) (rule_good rule (first_told rule (subst (λ z. violates (touch l n flow.bases.items row y 0 z false).violations rule ≡ true) same_size admitted)))

      pointers_good : Good (giving s to reply)
      pointers_good = begins (touch_end s.world m size false)

    -- both are pointers
    scalars_good : (a b : Scalar) → ((d : MachinePointer) → a ≡ pointer d → InGammaPointer gamma naming s.world.memory x d × IsPointerIn s.world.memory d) → ((m : MachinePointer) → b ≡ pointer m → InGammaPointer gamma naming s.world.memory y m × IsPointerIn s.world.memory m × IsNamed naming s.world.memory m)
        → Good (giving s to (effect.copy_struct flow.model leaves (size_of_type (structs_view flow.structs) flow.model.pointer (Struct index)) a b s.world))
    scalars_good (integer z la) b f g = stop_good l n gamma flow after told Stuck s.world clean
    scalars_good (pointer d) (integer z la) f g = stop_good l n gamma flow after told Stuck s.world clean
    scalars_good (pointer d) (pointer m) f g = let a = f d refl in let b = g m refl in pointers_good d m a.0 b.0 a.1 b.1 b.2

  pub copy_sound : (to from index : ℕ) → fits_operation (names_of flow) (op.Copy to from index) ≡ true → StepIsSound l n gamma flow row (op.Copy to from index) s
  unfolding operate copy_step copy_between copy_touched operation_violations
  copy_sound to from index fits =
      let a = and_parts (has_temp (names_of flow) to) (has_temp (names_of flow) from && nat_lt index (names_of flow).structs) fits in
      let b = and_parts (has_temp (names_of flow) from) (nat_lt index (names_of flow).structs) a.1 in
      let t = get_there flow.structs.items.items index (ltb-true index (names_of flow).structs b.1) in
      if_some_good l n gamma flow _ _ s r.begun (s.temps to) _ (λ pv e.
      if_some_good l n gamma flow _ _ s r.begun (s.temps from) _ (λ v f.
      scalars_good to (ltb-true to flow.temps a.0) index (temp_value l n flow row to).pointer (temp_value l n flow row from).pointer t.0 t.1 pv v
      (λ d g. (subst (InGammaScalar gamma naming s.world.memory (temp_value l n flow row to)) g (r.stands_for.temps to pv e), r.stands_for.held.within to (pointer d) (e ∙ ap Some g)))
      (λ m g. (subst (InGammaScalar gamma naming s.world.memory (temp_value l n flow row from)) g (r.stands_for.temps from v f), r.stands_for.held.within from (pointer m) (f ∙ ap Some g), r.stands_for.held.named from m (f ∙ ap Some g)))))

  pub copy_step_sound : (i : Operation) → IsCopy i → fits_operation (names_of flow) i ≡ true → StepIsSound l n gamma flow row i s
  copy_step_sound (op.Copy to from index) is good = copy_sound to from index good
  copy_step_sound i is good = absurd is
