-- A pointer argument: each rule at which the machine stops is admitted, and what goes on stands for the machine's pointer.
use Rattle.std.proofs.Common.{◌≡◌, ℕ, ◌-◌, Bool, true, false, cond, not, Option, Some, None, List, length, arith, subst, sym, refl, ap}
use Rattle.std.specs.Prelude.{ℤ, pos, ◌-ℤ◌, ◌+ℤ◌, is_some, nat_lt}
use Rattle.std.proofs.lemmas.Int.{ints}
use Rattle.std.proofs.lemmas.Bool.{and_parts, and_from, or_left, or_right, lt-ltb}
use Rattle.std.proofs.lemmas.Option.{slice_get_within}
use Rattle.cc_base.specs.Lattices.{LatticeOf, OrderLaws}
use Rattle.cc_base.specs.IntegerDomains.{IntegersOf, BoundLaws}
use Rattle.cc_base.specs.NumberRanges.{Range, range_sum}
use Rattle.cc_base.specs.declared.diagnostics.Rule.{Rule}
use Rattle.cc_base.specs.declared.diagnostics.Rule.TheVariants as rule
use Rattle.cfg.specs.declared.programs.Flow.{Flow}
use Rattle.pointer_domain.specs.BaseSets.{bases_has, bases_empty, no_base}
use Rattle.pointer_domain.specs.PointerTables.{offsets}
use Rattle.pointer_domain.specs.declared.base_sets.Bases.{Bases}
use Rattle.pointer_domain.specs.declared.pointer_sets.Pointers.{Pointers}
use Rattle.value_domain.specs.Values.ValueTables.{pointer_value}
use Rattle.value_domain.specs.declared.values.row_cells.Cell.{Cell}
use Rattle.store_cells.specs.AccessWindows.{window_within}
use Rattle.store_objects.specs.LiveBases.{most_bases, is_live_in, may_be_live, live_of}
use Rattle.store_cells.specs.RowPositions.{state_at, state_position}
use Rattle.transfer_checks.specs.LibraryArguments.{argument_violations, within_bases, check_argument}
use Rattle.transfer_checks.specs.Touches.{is_nowhere}
use Rattle.transfer_checks.specs.ViolationSets.{violates}
use Rattle.transfer_checks.specs.declared.library_arguments.Argument.{Argument}
use Rattle.transfer_library_plans.specs.Outputs.{has_place, placed}
use Rattle.memory_model.specs.Memory.Bytes.{MachinePointer, null, into}
use Rattle.memory_model.specs.Memory.Instances.{Life, live, ended, freed, bytes_at, life_at}
use Rattle.memory_model.specs.Memory.Scalars.{pointer}
use Rattle.memory_model.specs.Effects.Accesses.{is_freed_life}
use Rattle.memory_model.specs.Effects.LibraryChecks.{Reach, reached}
use Rattle.memory_model.specs.Effects.Worlds.{World, stopped_by}
use Rattle.store_sound.specs.Concretization.SoundMemory.{IsWithin}
use Rattle.store_sound.specs.Concretization.ValueMeaning.{Naming, InGammaInto, InGammaByLife, InGammaPointer, InGammaState}
use Rattle.store_sound.specs.Concretization.RowMeaning.{MachineState, InGamma}
use Rattle.store_sound.specs.Operations.Shapes.{AreShaped}
use Rattle.store_sound.proofs.operations.Freed.{freed_shows}
use Rattle.store_sound.proofs.operations.LoadSound.{live_if}
use Rattle.store_sound.proofs.operations.Sets.{in_live}
use Rattle.store_sound.proofs.operations.Slices.{get_there}
use Rattle.store_sound.proofs.operations.StorePlaces.{not_empty}
use Rattle.store_sound.proofs.operations.TouchedRest.{near_stands}
use Rattle.store_sound.proofs.operations.TouchSound.{or_none, bounded}
use Rattle.store_sound.proofs.operations.Windows.{RangeHas, WindowHas, within_has}
use Rattle.store_sound.proofs.operations.TouchSound as sound

-- ---- how the machine takes a pointer argument

-- it goes on with what the pointer reaches, or stops at a rule
pub data ReachEnd (w : World) (p : MachinePointer) : Type 0 where
  into_live : (i offset lo hi : ℕ) → p ≡ into i offset lo hi → life_at w.memory i ≡ live → ReachEnd w p
  into_nothing : reached p w ≡ stopped_by w rule.Nullref → p ≡ null → ReachEnd w p
  into_ended : (i offset lo hi : ℕ) → p ≡ into i offset lo hi → life_at w.memory i ≡ ended → ReachEnd w p
  into_freed : (i offset lo hi : ℕ) → p ≡ into i offset lo hi → life_at w.memory i ≡ freed → ReachEnd w p

by_life : (w : World) (i offset lo hi : ℕ) (life : Life) → life_at w.memory i ≡ life → ReachEnd w (into i offset lo hi)
by_life w i offset lo hi live e = into_live i offset lo hi refl e
by_life w i offset lo hi ended e = into_ended i offset lo hi refl e
by_life w i offset lo hi freed e = into_freed i offset lo hi refl e

pub reach_end : (w : World) (p : MachinePointer) → ReachEnd w p
reach_end w null = into_nothing refl refl
reach_end w (into i offset lo hi) = by_life w i offset lo hi (life_at w.memory i) refl

-- what a live pointer reaches
abbrev pub reach_of : ℕ → ℕ → ℕ → Reach
reach_of i offset hi = record { spot = record { instance = i; offset = offset }; room = hi - offset }

some_window : (r : Option _) (offset : ℕ) → WindowHas r offset → is_some r ≡ true
some_window r offset h = ap is_some h.is

-- the same number in ranges of another form
pub sum_has : (x y : Range) (a b : ℤ) → RangeHas x a → RangeHas y b → RangeHas (range_sum x y) (a +ℤ b)
sum_has None y a b h k = let e = h.is in cc
sum_has (Some p) None a b h k = let e = k.is in cc
sum_has (Some p) (Some r) a b h k =
    let e : p.0 ≡ h.low = cc h.is in
    let f : p.1 ≡ h.high = cc h.is in
    let c : r.0 ≡ k.low = cc k.is in
    let d : r.1 ≡ k.high = cc k.is in
    let u = h.from in
    let v = h.to in
    let x = k.from in
    let y = k.to in
    record { low = p.0 +ℤ r.0; high = p.1 +ℤ r.1; is = refl; from = omega (arith, ints); to = omega (arith, ints) }

module _ {I : Type 0} {l : LatticeOf I} {n : IntegersOf I} {gamma : I → ℤ → Type 0} (o : OrderLaws l) (q : BoundLaws l n gamma) (flow : Flow) (shaped : AreShaped flow.bases.items) (naming : Naming) (row : List (Cell I)) (state : MachineState) (s : InGamma l n gamma flow naming row state) (v : Pointers I) where
  abbrev pub given : Argument I
  given = placed l n (check_argument l n flow.bases.items row v)

  told : (r : Rule) → violates (argument_violations l n flow.bases.items row v) r ≡ true → violates (placed l n (check_argument l n flow.bases.items row v)).violations r ≡ true
  unfolding check_argument
  told r h = by_place (has_place n (within_bases l n v (live_of l n flow.bases.items row v.bases)))
    where
      by_place : (b : Bool) → violates (cond {A = Argument I} b (record { violations = argument_violations l n flow.bases.items row v; rest = within_bases l n v (live_of l n flow.bases.items row v.bases) }) (record { violations = argument_violations l n flow.bases.items row v; rest = within_bases l n (within_bases l n v (live_of l n flow.bases.items row v.bases)) no_base })).violations r ≡ true
      by_place true = h
      by_place false = h

  -- ---- stops

  pub null_told : InGammaPointer gamma naming state.memory v null → violates given.violations rule.Nullref ≡ true
  null_told h = told rule.Nullref (or_left v.null v.ended h)

  pub ended_told : (i offset lo hi : ℕ) → life_at state.memory i ≡ ended → InGammaPointer gamma naming state.memory v (into i offset lo hi) → violates given.violations rule.Nullref ≡ true
  ended_told i offset lo hi e h = told rule.Nullref (or_right v.null v.ended (subst (λ z. InGammaByLife gamma naming state.memory v z i offset lo hi) e h))

  pub freed_told : (i offset lo hi : ℕ) → life_at state.memory i ≡ freed → InGammaPointer gamma naming state.memory v (into i offset lo hi) → violates given.violations rule.Accfree ≡ true
  freed_told i offset lo hi e h = told rule.Accfree (freed_shows flow shaped naming row state s (pointer_value l v) (pointer (into i offset lo hi)) h (ap is_freed_life e))

  -- ---- what goes on

  module _ (i offset lo hi : ℕ) (alive : life_at state.memory i ≡ live) (h : InGammaPointer gamma naming state.memory v (into i offset lo hi)) (inside : IsWithin state.memory i offset lo hi) where
    st : InGammaInto gamma naming state.memory v i offset lo hi
    st = subst (λ z. InGammaByLife gamma naming state.memory v z i offset lo hi) alive h

    abbrev live_set : Bases
    live_set = live_of l n flow.bases.items row v.bases

    in_set : bases_has live_set st.base ≡ true
    in_set =
        let base = get_there flow.bases.items st.base (s.sane.few i st.base st.named) in
        let few = shaped.few in
        let top = slice_get_within flow.bases.items st.base base.0 base.1 in
        let may : may_be_live l n base.0 row ≡ true = live_if base.0.shape.heap _ (λ e.
        let y = s.states st.base i base.0 base.1 e st.named in
        (subst (λ z. InGammaState gamma naming state.memory (state_at l n row (state_position base.0)) z (length (bytes_at state.memory i))) alive y).1) in
        let live_in : is_live_in l n row v.bases base.0 st.base ≡ true = and_from _ _ (and_from _ _ (lt-ltb _ _ (omega arith)) st.among) may in
        (and_parts (nat_lt st.base most_bases) (bases_has live_set st.base) (in_live l n flow.bases.items shaped.few row v.bases st.base base.0 base.1 live_in)).1

    somewhere : is_nowhere n live_set v.rel ≡ false
    somewhere = or_none _ _ (not_empty live_set st.base in_set) (bounded o q v.rel (pos offset -ℤ pos lo) st.relative)

    abbrev rest : Pointers I
    rest = within_bases l n v live_set

    rest_into : InGammaInto gamma naming state.memory rest i offset lo hi
    rest_into =
        let small = s.sane.small i in
        let top = inside.within in
        let above = inside.above in
        let under = inside.below in
        rw somewhere (record {
          base = st.base;
          named = st.named;
          among = in_set;
          lower = near_stands o q v.lo (pos lo) (omega (arith, ints)) (omega (arith, ints)) st.lower;
          relative = near_stands o q v.rel (pos offset -ℤ pos lo) (omega (arith, ints)) (omega (arith, ints)) st.relative;
          room = near_stands o q v.len (pos hi -ℤ pos lo) (omega (arith, ints)) (omega (arith, ints)) st.room;
          whole = st.whole;
        })

    place_there : has_place n rest ≡ true
    place_there =
        let r = rest_into in
        let small = s.sane.small i in
        let top = inside.within in
        let under = inside.below in
        let g : (pos lo +ℤ (pos offset -ℤ pos lo)) ≡ pos offset = omega (arith, ints) in
        some_window (window_within (offsets n rest)) offset (within_has (offsets n rest) offset
        (subst (RangeHas (offsets n rest)) g (sum_has (n.bounds rest.lo) (n.bounds rest.rel) (pos lo) (pos offset -ℤ pos lo) (sound.bounds_have o q rest.lo (pos lo) r.lower) (sound.bounds_have o q rest.rel (pos offset -ℤ pos lo) r.relative))) (omega arith))

    given_is : (placed l n (check_argument l n flow.bases.items row v)).rest ≡ rest
    unfolding check_argument
    given_is = ap (λ b. (cond {A = Argument I} b (record { violations = argument_violations l n flow.bases.items row v; rest = rest }) (record { violations = argument_violations l n flow.bases.items row v; rest = within_bases l n rest no_base })).rest) place_there

    -- what goes on stands for the pointer
    pub given_stands : InGammaInto gamma naming state.memory given.rest i offset lo hi
    given_stands = subst (λ z. InGammaInto gamma naming state.memory z i offset lo hi) (sym given_is) rest_into

    pub given_some : not (bases_empty given.rest.bases) ≡ true
    given_some = ap not (not_empty given.rest.bases given_stands.base given_stands.among)
