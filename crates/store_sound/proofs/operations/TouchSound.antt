-- The rule at which a touch of the machine stops is admitted.
use Rattle.std.proofs.Common.{◌≡◌, ℕ, ◌+◌, ◌<◌, ◌≤◌, Bool, true, false, ◌&&◌, ◌||◌, Option, Some, None, List, [], ◌∷◌, ◌++◌, length, arith, subst, sym, refl, ap, ◌∙◌, inl, inr, ◌⊎◌}
use Rattle.std.specs.Prelude.{slice_get, ℤ, pos, ◌+ℤ◌, ◌-ℤ◌, ◌≤ℤ◌, int_lt, nat_le, nat_lt, is_none}
use Rattle.std.proofs.lemmas.Int.{ints}
use Rattle.std.proofs.lemmas.Bool.{cases_Bool, and_from, and_parts, or_left, or_right, lt-ltb, leb-true}
use Rattle.std.proofs.lemmas.Bool.Decides.{nat_tests}
use Rattle.std.proofs.lemmas.List.{append_cancel_left}
use Rattle.std.proofs.lemmas.Option.{slice_get_within}
use Rattle.cc_base.specs.Lattices.{LatticeOf, OrderLaws}
use Rattle.cc_base.specs.IntegerDomains.{IntegersOf, BoundLaws, of_range}
use Rattle.cc_base.specs.NumberRanges.{Range, range_sum}
use Rattle.cc_base.specs.declared.diagnostics.Rule.{Rule}
use Rattle.cc_base.specs.declared.diagnostics.Rule.TheVariants as rule
use Rattle.c_layout.specs.declared.shapes.BaseInfo.{BaseInfo}
use Rattle.c_layout.specs.declared.shapes.BaseKind.{BaseKind}
use Rattle.c_layout.specs.declared.shapes.BaseKind.TheVariants.{Static, Automatic, Literal, Newest, Older}
use Rattle.cfg.specs.declared.machine_instructions.Scalar as declared
use Rattle.cfg.specs.declared.programs.Flow.{Flow}
use Rattle.pointer_domain.specs.declared.base_sets.Bases.{Bases}
use Rattle.pointer_domain.specs.declared.pointer_sets.Pointers.{Pointers}
use Rattle.pointer_domain.specs.BaseSets.{bases_has, bases_empty}
use Rattle.pointer_domain.specs.PointerTables.{length_above}
use Rattle.value_domain.specs.declared.values.row_cells.Cell.{Cell}
use Rattle.store_cells.specs.RowPositions.{state_at, state_position}
use Rattle.store_objects.specs.LiveBases.{has_base, most_bases, may_be_live, live_of, any_freed, is_literal_kind}
use Rattle.transfer_checks.specs.Touches.{leaves_bounds_at, span_of, is_literal_or, any_literal, is_nowhere, places_within, touched_inside, touch_violations, touch}
use Rattle.transfer_checks.specs.ViolationSets.{violates}
use Rattle.memory_model.specs.Memory.ScalarSizes.{class_bytes}
use Rattle.memory_model.specs.Memory.Bytes.{MachinePointer, null, into}
use Rattle.memory_model.specs.Memory.Instances.{Life, live, ended, freed, bytes_at, life_at}
use Rattle.memory_model.specs.Memory.Scalars.{Scalar, pointer}
use Rattle.memory_model.specs.Effects.Worlds.{World, goes, stopped_by, world_of}
use Rattle.memory_model.specs.Effects.Touches.{Spot, touched, touched_by, touched_live, is_literal, storage_of, storage_at}
use Rattle.memory_model.specs.Effects.Accesses.{class_in, load}
use Rattle.store_sound.specs.Concretization.ValueMeaning.{Naming, InGammaInto, InGammaByLife, InGammaPointer, InGammaState}
use Rattle.store_sound.specs.Concretization.SoundMemory.{IsWithin, IsPointerIn, IsInstanceOf, storage_for}
use Rattle.store_sound.specs.Concretization.RowMeaning.{InGamma}
use Rattle.store_sound.specs.Operations.Shapes.{AreShaped}
use Rattle.store_sound.specs.Operations.Statements.{state_in}
use Rattle.store_sound.proofs.operations.Walks.{walk_meets}
use Rattle.store_sound.proofs.operations.Slices.{get_there}
use Rattle.store_sound.proofs.operations.Windows.{RangeHas, met_has}
use Rattle.store_sound.proofs.operations.LoadSound.{instance_there, live_if}
use Rattle.store_sound.proofs.operations.MachineLoads.{load_stopped}
use Rattle.store_sound.proofs.operations.Sets.{in_live}
use Rattle.store_sound.proofs.operations.StoreZeros.{between_stands, some_between}
use Rattle.store_sound.proofs.operations.StorePlaces.{not_empty}
use Rattle.store_sound.proofs.operations.Freed.{into_freed}

same_rule : (w : World) (a r : Rule) → stopped_by {A = Spot} w a ≡ stopped_by w r → a ≡ r
same_rule w a r h = let e : w.violated ++ (a ∷ []) ≡ w.violated ++ (r ∷ []) = ap (λ z. (world_of z).violated) h in let f = append_cancel_left w.violated (a ∷ []) (r ∷ []) e in cc

pub past_end : (a b c d : ℕ) → (nat_le a b && nat_le c d) ≡ false → a ≤ b → d < c
past_end a b c d h k = grind (arith, nat_tests)

pub lt_true : (x y : ℤ) → (x +ℤ pos 1) ≤ℤ y → int_lt x y ≡ true
lt_true x y h = grind (arith, ints)

literal_kind : (kind : BaseKind) → is_literal (storage_for kind) ≡ true → is_literal_kind kind ≡ true
literal_kind Static h = cc
literal_kind Automatic h = cc
literal_kind Literal h = refl
literal_kind Newest h = cc
literal_kind Older h = cc

pub or_none : (a b : Bool) → a ≡ false → b ≡ false → (a || b) ≡ false
or_none a b e f = rw (e, f) refl

module _ {I : Type 0} {l : LatticeOf I} {n : IntegersOf I} {gamma : I → ℤ → Type 0} (o : OrderLaws l) (q : BoundLaws l n gamma) where
  pub range_stands : (x : Range) (z : ℤ) → RangeHas x z → gamma (of_range l n x) z
  range_stands None z h = let e = h.is in cc
  range_stands (Some p) z h =
      let e : p.0 ≡ h.low = cc h.is in
      let f : p.1 ≡ h.high = cc h.is in
      let a = h.from in
      let b = h.to in
      subst (λ y. gamma y z) (sym (some_between o q p.0 p.1 (omega (arith, ints)))) (between_stands o q p.0 p.1 z (omega (arith, ints)) (omega (arith, ints)))

  pub bounds_have : (x : I) (z : ℤ) → gamma x z → RangeHas (n.bounds x) z
  bounds_have x z h = let r = q.inside x z h in record { low = r.0; high = r.1; is = r.2; from = r.3; to = r.4 }

  pub bounded : (x : I) (z : ℤ) → gamma x z → is_none (n.bounds x) ≡ false
  bounded x z h = let r = q.inside x z h in rw r.2 refl

  past_bounds : (x y : Range) (size : ℕ) (z room : ℤ) → RangeHas x z → RangeHas y room → ((room +ℤ pos 1) ≤ℤ (z +ℤ pos size)) → leaves_bounds_at (range_sum x (span_of 0 size)) y ≡ true
  past_bounds None y size z room h k e = let f = h.is in cc
  past_bounds (Some p) None size z room h k e = let f = k.is in cc
  past_bounds (Some p) (Some r) size z room h k e =
      let a : p.1 ≡ h.high = cc h.is in
      let b : r.0 ≡ k.low = cc k.is in
      let c = h.to in
      let d = k.from in
      or_right _ _ (lt_true r.0 (p.1 +ℤ pos (0 + size)) (omega (arith, ints)))

  pub room_above : (p : Pointers I) (room : ℤ) → gamma p.len room → room ≤ℤ length_above n p
  room_above p room h = let r = q.inside p.len room h in let e = r.4 in rw r.2 e

module _ {I : Type 0} {l : LatticeOf I} {n : IntegersOf I} {gamma : I → ℤ → Type 0} (o : OrderLaws l) (q : BoundLaws l n gamma) (flow : Flow) (shaped : AreShaped flow.bases.items) (naming : Naming) (row : List (Cell I)) (w : World) (temps : ℕ → Option Scalar) (entered : ℕ → Option ℕ) (s : InGamma l n gamma flow naming row (state_in w temps entered)) (p : Pointers I) (size : ℕ) (writes : Bool) where
  abbrev live_set : Bases
  live_set = live_of l n flow.bases.items row p.bases

  abbrev Admits : Rule → Type 0
  Admits r = violates (touch l n flow.bases.items row p 0 size writes).violations r ≡ true

  null_admitted : p.null ≡ true → Admits rule.Nullref
  unfolding touch touch_violations
  null_admitted e = or_left _ _ e

  ended_admitted : p.ended ≡ true → Admits rule.Nullref
  unfolding touch touch_violations
  ended_admitted e = or_right p.null p.ended e

  freed_admitted : any_freed l n flow.bases.items row p.bases ≡ true → Admits rule.Accfree
  unfolding touch touch_violations
  freed_admitted e = e

  module _ (i offset lo hi : ℕ) (alive : life_at w.memory i ≡ live) (st : InGammaInto gamma naming w.memory p i offset lo hi) (inside : IsWithin w.memory i offset lo hi) where
    -- the base is among those that may be live
    in_set : (base : BaseInfo) → slice_get flow.bases.items st.base ≡ Some base → has_base live_set st.base ≡ true
    in_set base e =
        let few = shaped.few in
        let top = slice_get_within flow.bases.items st.base base e in
        let may : may_be_live l n base row ≡ true = live_if base.shape.heap _ (λ h.
        let y = s.states st.base i base e h st.named in
        (subst (λ z. InGammaState gamma naming w.memory (state_at l n row (state_position base)) z (length (bytes_at w.memory i))) alive y).1) in
        in_live l n flow.bases.items shaped.few row p.bases st.base base e (and_from _ _ (and_from _ _ (lt-ltb _ _ (omega arith)) st.among) may)

    some_live : bases_empty live_set ≡ false
    some_live =
        let base = get_there flow.bases.items st.base (s.sane.few i st.base st.named) in
        not_empty live_set st.base (and_parts (nat_lt st.base most_bases) (bases_has live_set st.base) (in_set base.0 base.1)).1

    outside_admitted : (nat_le lo offset && nat_le (offset + size) hi) ≡ false → Admits rule.Invptr
    unfolding touch touch_violations
    outside_admitted e =
        let a = inside.above in
        let b = past_end lo offset (offset + size) hi e a in
        let c = inside.below in
        and_from _ _ (rw some_live refl) (past_bounds o q (n.bounds p.rel) (n.bounds p.len) size (pos offset -ℤ pos lo) (pos hi -ℤ pos lo) (bounds_have o q p.rel _ st.relative) (bounds_have o q p.len _ st.room) (omega (arith, ints)))

    is_somewhere : lo ≤ offset → offset + size ≤ hi → is_nowhere n live_set (places_within l n p 0 size) ≡ false
    is_somewhere above below =
        let z : ℤ = pos offset -ℤ pos lo in
        let c = room_above o q p (pos hi -ℤ pos lo) st.room in
        let r = met_has (n.bounds p.rel) (pos 0) ((length_above n p -ℤ pos 0) -ℤ pos size) z (bounds_have o q p.rel z st.relative) (omega (arith, ints)) (omega (arith, ints)) in
        or_none _ _ some_live (bounded o q (places_within l n p 0 size) z (range_stands o q _ z r))

    literal_admitted : lo ≤ offset → offset + size ≤ hi → (writes && is_literal (storage_at w.memory i)) ≡ true → Admits rule.Strmod
    unfolding touch touch_violations any_literal
    literal_admitted above below e =
        let f = and_parts writes (is_literal (storage_at w.memory i)) e in
        let base = get_there flow.bases.items st.base (s.sane.few i st.base st.named) in
        let it = instance_there w.memory i alive in
        let k : IsInstanceOf flow.model base.0 it.0 = s.sane.instances i st.base base.0 it.0 st.named base.1 it.1 in
        let lit : is_literal_kind base.0.kind ≡ true = literal_kind base.0.kind (ap is_literal (sym k.storage) ∙ (ap (λ a. is_literal (storage_of a)) (sym it.1) ∙ f.1)) in
        let set : (touched_inside l n p live_set 0 size).bases ≡ live_set = rw (is_somewhere above below) refl in
        and_from _ _ f.0 (subst (λ y. any_literal flow.bases.items y ≡ true) (sym set)
        (walk_meets (λ r. r ≡ true) (is_literal_or live_set) (λ y at r g. or_left r _ g) 0 flow.bases.items false st.base st.base base.0 base.1 (omega arith)
        (λ r. or_right r _ (and_from _ _ (in_set base.0 base.1) lit))))

    live_admitted : (r : Rule) → touched_live w i offset lo hi size writes ≡ stopped_by w r → Admits r
    live_admitted r h = elim (cases_Bool (nat_le lo offset && nat_le (offset + size) hi)) [
      | inr e ↦ (let g : stopped_by {A = Spot} w rule.Invptr ≡ stopped_by w r = rw e at h in subst Admits (same_rule w rule.Invptr r g) (outside_admitted e))
      | inl e ↦ elim (cases_Bool (writes && is_literal (storage_at w.memory i))) [
        | inl f ↦ (let g : stopped_by {A = Spot} w rule.Strmod ≡ stopped_by w r = rw (e, f) at h in
            let k = and_parts (nat_le lo offset) (nat_le (offset + size) hi) e in
            subst Admits (same_rule w rule.Strmod r g) (literal_admitted (leb-true _ _ k.0) (leb-true _ _ k.1) f))
        | inr f ↦ (let t : Spot = record { instance = i; offset = offset } in let g : goes t w ≡ stopped_by w r = rw (e, f) at h in cc)
      ]
    ]

  life_admitted : (life : Life) (i offset lo hi : ℕ) (r : Rule) → life_at w.memory i ≡ life → InGammaByLife gamma naming w.memory p life i offset lo hi → IsWithin w.memory i offset lo hi → touched_by w life i offset lo hi size writes ≡ stopped_by w r → Admits r
  life_admitted live i offset lo hi r e st inside h = live_admitted i offset lo hi e st inside r h
  life_admitted ended i offset lo hi r e st inside h = subst Admits (same_rule w rule.Nullref r h) (ended_admitted st)
  life_admitted freed i offset lo hi r e st inside h = subst Admits (same_rule w rule.Accfree r h) (freed_admitted (into_freed flow shaped naming row (state_in w temps entered) s p i offset lo hi e st))

  pub touch_admitted : (at : MachinePointer) (r : Rule) → InGammaPointer gamma naming w.memory p at → IsPointerIn w.memory at → touched w at size writes ≡ stopped_by w r → Admits r
  touch_admitted null r st inside h = subst Admits (same_rule w rule.Nullref r h) (null_admitted st)
  touch_admitted (into i offset lo hi) r st inside h = life_admitted (life_at w.memory i) i offset lo hi r refl st inside h

module _ {I : Type 0} {l : LatticeOf I} {n : IntegersOf I} {gamma : I → ℤ → Type 0} (o : OrderLaws l) (q : BoundLaws l n gamma) (flow : Flow) (shaped : AreShaped flow.bases.items) (naming : Naming) (row : List (Cell I)) (w : World) (temps : ℕ → Option Scalar) (entered : ℕ → Option ℕ) (s : InGamma l n gamma flow naming row (state_in w temps entered)) where
  pub load_admitted : (p : Pointers I) (at : MachinePointer) (kind : declared.Scalar) (r : Rule) → InGammaPointer gamma naming w.memory p at → IsPointerIn w.memory at → load flow.model kind (pointer at) w ≡ stopped_by w r → (violates (touch l n flow.bases.items row p 0 (class_bytes flow.model (class_in kind)) false).violations r ≡ true) ⊎ (r ≡ rule.Uninitref)
  load_admitted p at kind r st inside h = elim (load_stopped flow.model kind at w r h) [
    | inl e ↦ inl (touch_admitted o q flow shaped naming row w temps entered s p (class_bytes flow.model (class_in kind)) false at r st inside e)
    | inr e ↦ inr e
  ]
