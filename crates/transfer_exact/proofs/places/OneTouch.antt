-- The touch of bytes through a value that tells one pointer.
use Rattle.std.proofs.Common.{◌≡◌, ℕ, ◌+◌, ◌<◌, ◌≤◌, ◌^◌, ◌-◌, Bool, true, false, ◌&&◌, ◌||◌, Option, Some, None, List, arith, subst, sym, refl, ap, ◌∙◌, inl, inr}
use Rattle.std.specs.Prelude.{slice_get, ℤ, pos, neg_ℤ, ◌-ℤ◌, ◌+ℤ◌, ◌≤ℤ◌, negsuc, int_le, int_lt}
use Rattle.std.proofs.lemmas.Int.{ints, clamps}
use Rattle.std.proofs.lemmas.Bool.{cases_Bool, or_right}
use Rattle.std.specs.Int.{w128, saturate_signed, int_min, int_max}
use Rattle.cc_base.specs.Lattices.{LatticeOf}
use Rattle.cc_base.specs.NumberRanges.{range_between, range_met}
use Rattle.cc_base.specs.IntegerDomains.{IntegersOf, BoundLaws, of_range}
use Rattle.c_layout.specs.declared.shapes.BaseInfo.{BaseInfo}
use Rattle.pointer_domain.specs.BaseSets.{no_base, bases_empty}
use Rattle.pointer_domain.specs.PointerLattice.{no_pointer}
use Rattle.pointer_domain.specs.declared.pointer_sets.Pointers.{Pointers}
use Rattle.value_domain.specs.declared.values.row_cells.Cell.{Cell}
use Rattle.store_cells.specs.NearValues.{is_near, near_number, near_pointer}
use Rattle.store_objects.specs.LiveBases.{is_literal_kind, only_base, live_of}
use Rattle.store_cells.specs.AccessWindows.{last_offset, window_between, window_within, added_ranges, last_place, window_of}
use Rattle.transfer_checks.specs.Touches.{leaves_bounds, places_within, is_nowhere, into_bases, kept_of, touched_inside, any_literal, touch_violations, touch}
use Rattle.transfer_checks.specs.ViolationSets.{no_violations}
use Rattle.transfer_checks.specs.declared.touches.Touched.{Touched}
use Rattle.transfer_checks.specs.declared.violation_sets.Violations.{Violations}
use Rattle.transfer_exact.specs.Values.SingleNumbers.{IsOne}
use Rattle.transfer_exact.specs.Values.SingleValues.{IsNowhere, IsIntoOne}
use Rattle.transfer_exact.proofs.places.OneBase.{AreObjects, not_empty, writable_is, literal_is, live_is, none_literal, none_live, none_freed}

-- ---- single numbers

sat_above : (x z : ℤ) → z ≤ℤ x → z ≤ℤ pos (2 ^ 127 - 1) → z ≤ℤ saturate_signed w128 x
sat_above (pos k) z h e = omega (arith, ints)
sat_above (negsuc k) z h e = omega (arith, ints)

sat_same : (x : ℤ) (k : ℕ) → x ≡ pos k → k ≤ last_offset → saturate_signed w128 x ≡ pos k
sat_same x k e h = ap (saturate_signed w128) e ∙ omega (arith, ints)

between_one : (a b z : ℤ) → a ≡ z → b ≡ z → range_between a b ≡ Some (z, z)
between_one a b z e f = rw (e, f) (let g : int_le z z ≡ true = grind (arith, ints) in rw g refl)

-- a number that lies within bounds is left alone
pub met_one : (z most : ℤ) → pos 0 ≤ℤ z → z ≤ℤ most → range_met (Some (z, z)) (pos 0) most ≡ Some (z, z)
met_one z most a b = between_one (int_max z (pos 0)) (int_min z most) z (omega (arith, ints, clamps)) (omega (arith, ints, clamps))

pub met_none : (z most : ℤ) → (most +ℤ pos 1) ≤ℤ z → range_met (Some (z, z)) (pos 0) most ≡ None
met_none z most a = elim (cases_Bool (int_le (int_max z (pos 0)) (int_min z most))) [ inr e ↦ rw e refl | inl e ↦ absurd (past (int_max z (pos 0)) (int_min z most) e (omega (arith, ints, clamps))) ]
  where
    past : (x y : ℤ) → int_le x y ≡ true → (y +ℤ pos 1) ≤ℤ x → ⊥
    past x y h k = grind (arith, ints)

module _ {I : Type 0} {l : LatticeOf I} {n : IntegersOf I} {gamma : I → ℤ → Type 0} (q : BoundLaws l n gamma) where
  near_of : (x : I) (z : ℤ) → is_near (Some (z, z)) ≡ true → IsOne n x z → near_number l n x ≡ x
  near_of x z e h = rw (h, e) refl

  pub near_one : (x : I) (z : ℤ) → IsOne n x z → neg_ℤ (pos (2 ^ 64)) ≤ℤ z → z ≤ℤ pos (2 ^ 64) → near_number l n x ≡ x
  near_one x z h a b = near_of x z (grind (arith, ints)) h

  pub one_range : (z : ℤ) → n.bounds (of_range l n (Some (z, z))) ≡ Some (z, z)
  one_range z = let e : int_le z z ≡ true = grind (arith, ints) in rw e (q.between_bounds z z (omega (arith, ints)))

  near_least : n.bounds (near_number l n l.least) ≡ None
  near_least = rw q.least_bounds q.least_bounds

  -- ---- windows

  pub no_window : (size : ℕ) → window_of n (near_pointer l n (no_pointer l)) size ≡ None
  no_window size = ap (λ x. window_within (added_ranges x (range_met x (pos 0) (last_place n (near_pointer l n (no_pointer l)) size)))) near_least

  pub one_window : (x : Pointers I) (offset lo hi size : ℕ) → IsOne n x.lo (pos lo) → IsOne n x.rel (pos offset -ℤ pos lo) → IsOne n x.len (pos hi -ℤ pos lo) → lo ≤ offset → offset + size ≤ hi → hi ≤ last_offset → window_of n x size ≡ Some (window_between offset offset)
  one_window x offset lo hi size a b c above below short =
      let most : ℤ = saturate_signed w128 ((pos hi -ℤ pos lo) -ℤ pos size) in
      let z : ℤ = pos offset -ℤ pos lo in
      let e : range_met (Some (z, z)) (pos 0) most ≡ Some (z, z) = met_one z most (omega (arith, ints)) (sat_above ((pos hi -ℤ pos lo) -ℤ pos size) z (omega (arith, ints)) (omega (arith, ints))) in
      let f : saturate_signed w128 (pos lo +ℤ z) ≡ pos offset = sat_same (pos lo +ℤ z) offset (omega (arith, ints)) (omega arith) in
      let g : range_met (Some (pos offset, pos offset)) (pos 0) (pos last_offset) ≡ Some (pos offset, pos offset) = met_one (pos offset) (pos last_offset) (omega (arith, ints)) (omega (arith, ints)) in
      rw (a, b, c, e, f, g) refl

-- ---- what a touch may violate

abbrev pub touching : Bool → Bool → Bool → Violations
touching nullref invptr strmod = record no_violations { nullref = nullref; invptr = invptr; strmod = strmod }

module _ {I : Type 0} {l : LatticeOf I} {n : IntegersOf I} {gamma : I → ℤ → Type 0} (q : BoundLaws l n gamma) (bases : List BaseInfo) (objects : AreObjects bases) (row : List (Cell I)) (p : Pointers I) (size : ℕ) (write : Bool) where
  abbrev pub done : Touched I
  done = touch l n bases row p 0 size write

  -- no object is touched
  pub record TouchesNothing (told : Violations) : Type 0 where
    pub violations : done.violations ≡ told
    pub window : window_of n done.rest size ≡ None
    pub empty : bases_empty done.rest.bases ≡ true

  or_true : (b : Bool) → (b || true) ≡ true
  or_true true = refl
  or_true false = refl

  and_false : (b : Bool) → (b && false) ≡ false
  and_false true = refl
  and_false false = refl

  module _ (null ended : Bool) (h : IsNowhere p null ended) where
    told_nowhere : done.violations ≡ touching (null || ended) false false
    unfolding touch touch_violations
    told_nowhere =
        let live = none_live bases p.bases h.bases l n row in
        let freed = none_freed l n bases objects row p.bases in
        let lit = none_literal bases no_base refl in
        rw (live, freed, h.null, h.ended, lit, and_false write) refl

    inside_nowhere : touched_inside l n p (live_of l n bases row p.bases) 0 size ≡ no_pointer l
    inside_nowhere = let live = none_live bases p.bases h.bases l n row in rw live refl

    window_nowhere : (x : Pointers I) → touched_inside l n p (live_of l n bases row p.bases) 0 size ≡ x → is_nowhere n (kept_of bases write x.bases) x.rel ≡ true → window_of n done.rest size ≡ None
    unfolding touch
    window_nowhere x e f = rw (e, f) (no_window q size)

    empty_nowhere : (x : Pointers I) → touched_inside l n p (live_of l n bases row p.bases) 0 size ≡ x → is_nowhere n (kept_of bases write x.bases) x.rel ≡ true → bases_empty done.rest.bases ≡ true
    unfolding touch
    empty_nowhere x e f = rw (e, f) refl

    pub nowhere : TouchesNothing (touching (null || ended) false false)
    nowhere =
        let gone : is_nowhere n (kept_of bases write no_base) l.least ≡ true = rw q.least_bounds (or_true (bases_empty (kept_of bases write no_base))) in
        record { violations = told_nowhere; window = window_nowhere (no_pointer l) inside_nowhere gone; empty = empty_nowhere (no_pointer l) inside_nowhere gone }

  module _ (entered : ℕ → Option ℕ) (i offset lo hi : ℕ) (h : IsIntoOne n entered p i offset lo hi) (base : BaseInfo) (at : slice_get bases h.base ≡ Some base) (above : lo ≤ offset) (short : hi ≤ 2 ^ 64 - 1) where
    abbrev z : ℤ
    z = pos offset -ℤ pos lo

    live : live_of l n bases row p.bases ≡ only_base h.base
    live = ap (live_of l n bases row) h.bases ∙ live_is bases h.base base at h.few l n row (objects h.base base at)

    places_in : offset + size ≤ hi → places_within l n p 0 size ≡ of_range l n (Some (z, z))
    places_in k = rw (h.relative, h.room) (ap (of_range l n) (met_one z (((pos hi -ℤ pos lo) -ℤ pos 0) -ℤ pos size) (omega (arith, ints)) (omega (arith, ints))))

    places_out : hi < offset + size → places_within l n p 0 size ≡ l.least
    places_out k = rw (h.relative, h.room) (ap (of_range l n) (met_none z (((pos hi -ℤ pos lo) -ℤ pos 0) -ℤ pos size) (omega (arith, ints))))

    abbrev reached : Pointers I
    reached = record p { bases = only_base h.base; rel = of_range l n (Some (z, z)); null = false; ended = false }

    inside_in : offset + size ≤ hi → touched_inside l n p (live_of l n bases row p.bases) 0 size ≡ reached
    inside_in k = let e = places_in k in let f = not_empty h.base h.few in let g = one_range q z in rw (live, e, f, g) refl

    inside_out : hi < offset + size → touched_inside l n p (live_of l n bases row p.bases) 0 size ≡ no_pointer l
    inside_out k = let e = places_out k in let f = not_empty h.base h.few in rw (live, e, f, q.least_bounds) refl

    leaves_not : offset + size ≤ hi → leaves_bounds n p 0 size ≡ false
    leaves_not k = rw (h.relative, h.room) (let a : int_lt (z +ℤ pos 0) (pos 0) ≡ false = grind (arith, ints) in let b : int_lt (pos hi -ℤ pos lo) (z +ℤ pos (0 + size)) ≡ false = grind (arith, ints) in rw (a, b) refl)

    leaves_out : hi < offset + size → leaves_bounds n p 0 size ≡ true
    leaves_out k = rw (h.relative, h.room) (or_right (int_lt (z +ℤ pos 0) (pos 0)) (int_lt (pos hi -ℤ pos lo) (z +ℤ pos (0 + size))) (grind (arith, ints)))

    told_by : (x : Pointers I) (out : Bool) → touched_inside l n p (live_of l n bases row p.bases) 0 size ≡ x → leaves_bounds n p 0 size ≡ out → done.violations ≡ touching false out (write && any_literal bases x.bases)
    unfolding touch touch_violations
    told_by x out e f =
        let freed = none_freed l n bases objects row p.bases in
        rw (e, f, freed, h.null, h.ended, live, not_empty h.base h.few) refl

    nowhere_by : (x : Pointers I) → touched_inside l n p (live_of l n bases row p.bases) 0 size ≡ x → is_nowhere n (kept_of bases write x.bases) x.rel ≡ true → window_of n done.rest size ≡ None
    unfolding touch
    nowhere_by x e f = rw (e, f) (no_window q size)

    empty_by : (x : Pointers I) → touched_inside l n p (live_of l n bases row p.bases) 0 size ≡ x → is_nowhere n (kept_of bases write x.bases) x.rel ≡ true → bases_empty done.rest.bases ≡ true
    unfolding touch
    empty_by x e f = rw (e, f) refl

    pub outside : hi < offset + size → TouchesNothing (touching false true false)
    outside k = record {
      violations = told_by (no_pointer l) true (inside_out k) (leaves_out k) ∙ ap (λ z. touching false true (write && z)) (none_literal bases no_base refl) ∙ ap (touching false true) (and_false write);
      window = nowhere_by (no_pointer l) (inside_out k) (rw q.least_bounds (or_true (bases_empty (kept_of bases write no_base))));
      empty = empty_by (no_pointer l) (inside_out k) (rw q.least_bounds (or_true (bases_empty (kept_of bases write no_base))));
    }

    pub record TouchesOne : Type 0 where
      pub violations : done.violations ≡ no_violations
      pub sole : done.rest.bases ≡ only_base h.base
      pub window : window_of n done.rest size ≡ Some (window_between offset offset)
      pub told : IsIntoOne n entered done.rest i offset lo hi

    pub literal : offset + size ≤ hi → write ≡ true → is_literal_kind base.kind ≡ true → TouchesNothing (touching false false true)
    literal k w lit =
        let d = writable_is bases h.base base at h.few in
        record {
          violations = told_by reached false (inside_in k) (leaves_not k) ∙ ap (touching false false) (rw (w, literal_is bases h.base base at h.few) lit);
          window = nowhere_by reached (inside_in k) (rw (w, d, lit) refl);
          empty = empty_by reached (inside_in k) (rw (w, d, lit) refl);
        }

    kept_is : (write && is_literal_kind base.kind) ≡ false → (w : Bool) → write ≡ w → kept_of bases w (only_base h.base) ≡ only_base h.base
    kept_is lit false e = refl
    kept_is lit true e = let f : is_literal_kind base.kind ≡ false = subst (λ w. (w && is_literal_kind base.kind) ≡ false) e lit in writable_is bases h.base base at h.few ∙ rw f refl

    rest_by : (x y : Pointers I) → touched_inside l n p (live_of l n bases row p.bases) 0 size ≡ x → into_bases l n x (kept_of bases write x.bases) x.rel ≡ y → done.rest ≡ near_pointer l n y
    unfolding touch
    rest_by x y e f = rw (e, f) refl

    rest_is : offset + size ≤ hi → (write && is_literal_kind base.kind) ≡ false → done.rest ≡ near_pointer l n reached
    rest_is k lit =
        let f = kept_is lit write refl in
        let g : is_nowhere n (kept_of bases write (only_base h.base)) reached.rel ≡ false = rw (f, not_empty h.base h.few, one_range q z) refl in
        rest_by reached reached (inside_in k) (rw (g, f) refl)

    sole_by : offset + size ≤ hi → (write && is_literal_kind base.kind) ≡ false → done.rest.bases ≡ only_base h.base
    sole_by k lit = ap (λ x. x.bases) (rest_is k lit)

    near_is : (x : I) (y : ℤ) → IsOne n x y → neg_ℤ (pos (2 ^ 64)) ≤ℤ y → y ≤ℤ pos (2 ^ 64) → IsOne n (near_number l n x) y
    near_is x y e a b = ap n.bounds (near_one q x y e a b) ∙ e

    window_by : offset + size ≤ hi → (write && is_literal_kind base.kind) ≡ false → window_of n done.rest size ≡ Some (window_between offset offset)
    window_by k lit = ap (λ x. window_of n x size) (rest_is k lit)
        ∙ one_window q (near_pointer l n reached) offset lo hi size
        (near_is p.lo (pos lo) h.lower (omega (arith, ints)) (omega (arith, ints)))
        (near_is (of_range l n (Some (z, z))) z (one_range q z) (omega (arith, ints)) (omega (arith, ints)))
        (near_is p.len (pos hi -ℤ pos lo) h.room (omega (arith, ints)) (omega (arith, ints))) above k short

    told_inside : offset + size ≤ hi → (write && is_literal_kind base.kind) ≡ false → IsIntoOne n entered done.rest i offset lo hi
    told_inside k lit = subst (λ x. IsIntoOne n entered x i offset lo hi) (sym (rest_is k lit)) (record {
      base = h.base;
      few = h.few;
      names = h.names;
      bases = refl;
      lower = near_is p.lo (pos lo) h.lower (omega (arith, ints)) (omega (arith, ints));
      relative = near_is (of_range l n (Some (z, z))) z (one_range q z) (omega (arith, ints)) (omega (arith, ints));
      room = near_is p.len (pos hi -ℤ pos lo) h.room (omega (arith, ints)) (omega (arith, ints));
      null = refl;
      ended = refl;
    })

    pub inside : offset + size ≤ hi → (write && is_literal_kind base.kind) ≡ false → TouchesOne
    inside k lit = record {
      violations = told_by reached false (inside_in k) (leaves_not k) ∙ ap (touching false false) (ap (λ z. write && z) (literal_is bases h.base base at h.few) ∙ lit);
      sole = sole_by k lit;
      window = window_by k lit;
      told = told_inside k lit;
    }
