-- The first zeros behind a copy of a struct stand for the arrays behind it, and other cells are as they were.
use Rattle.std.proofs.Common.{◌≡◌, ℕ, zero, suc, ◌+◌, ◌-◌, ◌<◌, ◌≤◌, ◌^◌, Bool, true, false, cond, ◌&&◌, Option, Some, None, List, [], ◌∷◌, length, arith, subst, sym, refl, ap, ◌∙◌, inl, inr, ◌⊎◌}
use Rattle.std.specs.Prelude.{slice_get, ℤ, ◌==◌, not, nat_lt}
use Rattle.std.proofs.lemmas.Bool.{cases_Bool, cases_eq, and_parts, eqb-true, ltb-true, true≢false}
use Rattle.std.proofs.lemmas.List.{length-set}
use Rattle.std.proofs.lemmas.Option.{same_Some, slice_get_within}
use Rattle.cc_base.specs.Lattices.{LatticeOf, OrderLaws}
use Rattle.cc_base.specs.IntegerDomains.{IntegersOf, BoundLaws, RangeLaws}
use Rattle.cc_base.specs.IntegerLaws.{SoundLaws}
use Rattle.c_layout.specs.declared.shapes.BaseInfo.{BaseInfo}
use Rattle.c_layout.specs.declared.shapes.ZeroPart.{ZeroPart}
use Rattle.cfg.specs.WellFormed.{base_values, base_cells}
use Rattle.cfg.specs.declared.programs.Flow.{Flow}
use Rattle.pointer_domain.specs.BaseSets.{bases_has, bases_count}
use Rattle.pointer_domain.specs.declared.base_sets.Bases.{Bases}
use Rattle.value_domain.specs.declared.values.row_cells.Cell.{Cell}
use Rattle.value_domain.specs.declared.values.row_cells.Cell.TheVariants.{First}
use Rattle.store_cells.specs.AccessWindows.{window_is_one}
use Rattle.store_cells.specs.FirstZeroWrites.{any_zero, last_of}
use Rattle.store_objects.specs.LiveBases.{most_bases, has_base, is_one_instance}
use Rattle.store_cells.specs.RowPositions.{zero_position, state_position, cell_at, zero_at, state_at, put_zero}
use Rattle.memory_model.specs.Memory.Bytes.{Byte}
use Rattle.memory_model.specs.Memory.Instances.{Memory, bytes_at, byte_at, life_at}
use Rattle.store_sound.specs.Concretization.RowMeaning.{array_bytes, IsLiveOf}
use Rattle.store_sound.specs.Concretization.SoundMemory.{IsMemoryOf}
use Rattle.store_sound.specs.Concretization.ValueMeaning.{Naming, InGammaZero, InGammaState}
use Rattle.store_cells.specs.Walks.{walk}
use Rattle.store_sound.proofs.operations.Frames.{live_moves}
use Rattle.store_sound.proofs.operations.OneBases.{one_base}
use Rattle.store_sound.proofs.operations.Only.{only_put}
use Rattle.store_sound.proofs.operations.StoreRows.{zero_is}
use Rattle.store_sound.proofs.operations.StoreValues.{same_zero, same_state}
use Rattle.store_sound.proofs.operations.StoreZeros.{same_slices}
use Rattle.store_sound.specs.Regions.RegionWrites.{InGammaBase}
use Rattle.store_sound.proofs.regions.BaseRows.{states_move}
use Rattle.store_sound.proofs.regions.RegionArrays.{array_short, put_zero_stands, any_zero_stands}
use Rattle.store_sound.proofs.regions.Regions.{alike_region}
use Rattle.store_structs.specs.CopyZeros.{Exact, copied_window, copy_zeros}
use Rattle.store_structs.specs.PaddingWrites.{has_padding, padding_meets, pad_part_at, pad_part, pad_zeros, pad_cells, write_padding}
use Rattle.store_structs.specs.StructCopies.{Route, is_declared_in, first_declared, one_declared, is_exact, exact_from, exact_copy, finish_base, finish_if, finish_at, finish_all, finish}
use Rattle.struct_copies_sound.proofs.cells.KeptValues.{each_keeps}
use Rattle.struct_copies_sound.specs.Memory.CopiedZeros.{ComesFrom, ZeroStands, IsExactly}
use Rattle.struct_copies_sound.proofs.memory.CopiedZeros.{copied_zeros_stand}
use Rattle.struct_copies_sound.proofs.leaves.Cells.{leaf_cell, class_cell}
use Rattle.struct_copies_sound.proofs.leaves.Copies.{Copied, route, fits_base, position_in, alone_is}
use Rattle.struct_copies_sound.proofs.batches.AwayCells.{IsAway}
use Rattle.struct_copies_sound.proofs.batches.FinishWrites.{zeros_only, cells_only, base_only}
use Rattle.struct_copies_sound.proofs.batches.Known.{Behind}
use Rattle.struct_copies_sound.proofs.batches.StructPadding.{pad}

-- ---- walks

-- the turns before one keep what that one needs, and those behind it what it makes
module _ {K S : Type 0} (Before After : S → Type 0) (f : K → ℕ → S → S) where
  pub one_turns : (at : ℕ) (ks : List K) (i : ℕ) (x : K) → slice_get ks i ≡ Some x
      → ((j a : ℕ) (k : K) → slice_get ks j ≡ Some k → a ≡ at + j → (j ≡ i → ⊥) → (s : S) → Before s → Before (f k a s))
      → ((j a : ℕ) (k : K) → slice_get ks j ≡ Some k → a ≡ at + j → (j ≡ i → ⊥) → (s : S) → After s → After (f k a s))
      → ((a : ℕ) → a ≡ at + i → (s : S) → Before s → After (f x a s))
      → (s : S) → Before s → After (walk f at ks s)
  one_turns at [] i x e g h m s b = cc
  one_turns at (k ∷ ks) zero x e g h m s b =
      let same : k ≡ x = cc in
      each_keeps After f (at + 1) ks (λ j a y d t. h (suc j) a y d (omega (arith, t)) (λ (z : suc j ≡ 0). cc)) (f k at s) (subst (λ y. After (f y at s)) (sym same) (m at (omega arith) s b))
  one_turns at (k ∷ ks) (suc i) x e g h m s b =
      one_turns (at + 1) ks i x e (λ j a y d t ne. g (suc j) a y d (omega (arith, t)) (λ (z : suc j ≡ suc i). ne (omega (arith, z))))
      (λ j a y d t ne. h (suc j) a y d (omega (arith, t)) (λ (z : suc j ≡ suc i). ne (omega (arith, z))))
      (λ a t. m a (omega (arith, t))) (f k at s) (g 0 at k refl (omega arith) (λ (z : 0 ≡ suc i). cc) s b)

-- ---- the one declared base of a set

record IsDeclared (set : Bases) (at : ℕ) (bases : List BaseInfo) (found : BaseInfo) : Type 0 where
  index : ℕ
  among : slice_get bases index ≡ Some found
  has : has_base set (at + index) ≡ true

declared_is : (set : Bases) (at : ℕ) (bases : List BaseInfo) (found : BaseInfo) → first_declared set at bases ≡ Some found → IsDeclared set at bases found
declared_is set at [] found e = cc
declared_is set at (base ∷ bases) found e = by_test (is_declared_in set base at) refl e (declared_is set (at + 1) bases found)
  where
    by_test : (c : Bool) → is_declared_in set base at ≡ c → cond c (Some base) (first_declared set (at + 1) bases) ≡ Some found → (first_declared set (at + 1) bases ≡ Some found → IsDeclared set (at + 1) bases found) → IsDeclared set at (base ∷ bases) found
    by_test true f g more = record { index = 0; among = g; has = subst (λ z. has_base set z ≡ true) (let h : at ≡ at + 0 = omega arith in h) (and_parts (has_base set at) (not base.shape.heap) f).0 }
    by_test false f g more =
        let r = more g in
        record { index = suc r.index; among = r.among; has = subst (λ z. has_base set z ≡ true) (let h : (at + 1) + r.index ≡ at + suc r.index = omega arith in h) r.has }

record IsExactFrom (r : Route) (size : ℕ) (e : Exact) : Type 0 where
  alone : r.alone ≡ true
  from : r.from.lo ≡ r.from.hi
  to : r.to.lo ≡ r.to.hi
  count : bases_count r.source ≡ 1
  index : ℕ
  among : slice_get r.bases index ≡ Some e.source
  has : has_base r.source index ≡ true
  from_is : e.from ≡ r.from.lo
  to_is : e.to ≡ r.to.lo
  size_is : e.size ≡ size

exact_is : (r : Route) (size : ℕ) (e : Exact) → exact_copy r size ≡ Some e → IsExactFrom r size e
unfolding exact_copy one_declared
exact_is r size e h = by_count (bases_count r.source == 1) refl h
  where
    by_exact : (base : BaseInfo) → bases_count r.source ≡ 1 → first_declared r.source 0 r.bases ≡ Some base → (c : Bool) → is_exact r ≡ c → cond c (Some (record { source = base; from = r.from.lo; to = r.to.lo; size = size })) None ≡ Some e → IsExactFrom r size e
    by_exact base one f true g k =
        let same : (record { source = base; from = r.from.lo; to = r.to.lo; size = size }) ≡ e = same_Some (record { source = base; from = r.from.lo; to = r.to.lo; size = size }) e k in
        let d = declared_is r.source 0 r.bases base f in
        let a = and_parts r.alone (window_is_one r.from && window_is_one r.to) g in
        let b = and_parts (window_is_one r.from) (window_is_one r.to) a.1 in
        record {
          alone = a.0;
          from = eqb-true r.from.lo r.from.hi b.0;
          to = eqb-true r.to.lo r.to.hi b.1;
          count = one;
          index = d.index;
          among = d.among ∙ ap (λ (z : Exact). Some z.source) same;
          has = subst (λ z. has_base r.source z ≡ true) (let y : 0 + d.index ≡ d.index = omega arith in y) d.has;
          from_is = sym (ap (λ (z : Exact). z.from) same);
          to_is = sym (ap (λ (z : Exact). z.to) same);
          size_is = sym (ap (λ (z : Exact). z.size) same);
        }
    by_exact base one f false g k = cc

    by_first : (found : Option BaseInfo) → bases_count r.source ≡ 1 → first_declared r.source 0 r.bases ≡ found → exact_from r size found ≡ Some e → IsExactFrom r size e
    by_first None one f k = cc
    by_first (Some base) one f k = by_exact base one f (is_exact r) refl k

    by_count : (c : Bool) → (bases_count r.source == 1) ≡ c → exact_from r size (cond c (first_declared r.source 0 r.bases) None) ≡ Some e → IsExactFrom r size e
    by_count true f k = by_first (first_declared r.source 0 r.bases) (eqb-true (bases_count r.source) 1 f) refl k
    by_count false f k = cc

module _ {flow : Flow} {naming : Naming} {old new : Memory} (k : Copied flow naming old new) (few : length k.leaves ≤ 2 ^ 62) {I : Type 0} {l : LatticeOf I} {n : IntegersOf I} {gamma : I → ℤ → Type 0} (o : OrderLaws l) (q : BoundLaws l n gamma) (c : SoundLaws l n gamma) (r : RangeLaws l n)
    (row : List (Cell I)) (wide : k.laid.behind ≤ length row) (stand : (b : ℕ) (base : BaseInfo) → slice_get flow.bases.items b ≡ Some base → InGammaBase l n gamma flow naming old b base row)
    (sane : IsMemoryOf flow.model flow.bases.items naming new) (mid : List (Cell I)) (behind : Behind k few o q c r row wide stand row 0 (length k.leaves) mid) where
  -- ---- positions that the leaves leave

  module _ (d : ℕ) (base : BaseInfo) (at : slice_get flow.bases.items d ≡ Some base) where
    long : base.first + base_values base ≤ length row
    long = let e = k.laid.laid.close d base at in omega (arith, e, wide)

    -- a position behind the cells of a base
    pub beside : (pos : ℕ) → base.first + base_cells base ≤ pos → pos < base.first + base_values base → IsAway flow.bases.items pos
    beside pos from to b other e = record {
      leaf = λ j leaf g same. apart (position_in k b other e (leaf_cell j leaf) g) same;
      class = λ z heap small same. apart (position_in k b other e (class_cell z) (heap, small)) same;
    }
      where
        apart : {p : ℕ} → (other.first ≤ p) × (p < other.first + base_cells other) → p ≡ pos → ⊥
        apart {p} h same =
            let a = h.0 in
            let z = h.1 in
            elim (cases_eq b d) [
              | inl is ↦ (let t : other ≡ base = same_Some other base (sym e ∙ (ap (slice_get flow.bases.items) is ∙ at)) in
                  let first : other.first ≡ base.first = ap (λ (w : BaseInfo). w.first) t in
                  let cells : base_cells other ≡ base_cells base = ap base_cells t in
                  omega (arith, a, z, same, first, cells, from))
              | inr ne ↦ elim (k.laid.laid.apart b d other base e at ne) [ inl t ↦ omega (arith, t, a, z, same, from, to) | inr t ↦ omega (arith, t, a, z, same, from, to) ]
            ]

  -- ---- turns

  abbrev exact : Option Exact
  exact = exact_copy (route k) k.size

  abbrev turn : BaseInfo → ℕ → List (Cell I) → List (Cell I)
  turn base b s = finish_at l n (route k) (pad k) (exact_copy (route k) k.size) (has_padding flow.model (pad k)) base b s

  -- a turn writes among the cells and first zeros of its base
  turn_same : (b : ℕ) (other : BaseInfo) → slice_get flow.bases.items b ≡ Some other → (s : List (Cell I)) (pos : ℕ) → (other.first ≤ pos → pos < (other.first + base_cells other) + length other.shape.zeros → ⊥) → cell_at (turn other b s) pos ≡ cell_at s pos
  unfolding finish_if
  turn_same b other e s pos apart = by_test (has_base k.target b)
    where
      by_test : (t : Bool) → cell_at (cond t (finish_base l n (route k) (pad k) (exact_copy (route k) k.size) (has_padding flow.model (pad k)) other s) s) pos ≡ cell_at s pos
      by_test true = (base_only l n other (fits_base k b other e) (route k) (pad k) (exact_copy (route k) k.size) (has_padding flow.model (pad k))).keeps s pos apart
      by_test false = refl

  turn_long : (b : ℕ) (other : BaseInfo) → slice_get flow.bases.items b ≡ Some other → (s : List (Cell I)) → length (turn other b s) ≡ length s
  unfolding finish_if
  turn_long b other e s = by_test (has_base k.target b)
    where
      by_test : (t : Bool) → length (cond t (finish_base l n (route k) (pad k) (exact_copy (route k) k.size) (has_padding flow.model (pad k)) other s) s) ≡ length s
      by_test true = (base_only l n other (fits_base k b other e) (route k) (pad k) (exact_copy (route k) k.size) (has_padding flow.model (pad k))).long s
      by_test false = refl

  -- a position that no turn writes
  none_same : (pos : ℕ) → ((b : ℕ) (other : BaseInfo) → slice_get flow.bases.items b ≡ Some other → other.first ≤ pos → pos < (other.first + base_cells other) + length other.shape.zeros → ⊥) → cell_at (finish l n (route k) (pad k) mid) pos ≡ cell_at mid pos
  unfolding finish finish_all
  none_same pos apart = each_keeps (λ s. cell_at s pos ≡ cell_at mid pos) turn 0 flow.bases.items
      (λ b a other e z s g. let same : b ≡ a = omega (arith, z) in subst (λ w. cell_at (turn other w s) pos ≡ cell_at mid pos) same (turn_same b other e s pos (apart b other e) ∙ g)) mid refl

  pub finished_long : length (finish l n (route k) (pad k) mid) ≡ length row
  unfolding finish finish_all
  finished_long = each_keeps (λ s. length s ≡ length row) turn 0 flow.bases.items
      (λ b a other e z s g. let same : b ≡ a = omega (arith, z) in subst (λ w. length (turn other w s) ≡ length row) same (turn_long b other e s ∙ g)) mid behind.long

  -- temporaries
  pub temps_same : (pos : ℕ) → k.laid.behind ≤ pos → cell_at (finish l n (route k) (pad k) mid) pos ≡ cell_at row pos
  temps_same pos far = none_same pos (λ b other e from to. let a = k.laid.laid.close b other e in omega (arith, a, far, to))
      ∙ behind.away pos (λ b other e. record {
        leaf = λ j leaf g same. let a = k.laid.laid.close b other e in let x = (position_in k b other e (leaf_cell j leaf) g).1 in omega (arith, a, far, same, x);
        class = λ z heap small same. let a = k.laid.laid.close b other e in let x = (position_in k b other e (class_cell z) (heap, small)).1 in omega (arith, a, far, same, x);
      })

  -- ---- a base

  module _ (d : ℕ) (base : BaseInfo) (at : slice_get flow.bases.items d ≡ Some base) where
    apart_from : (b : ℕ) (other : BaseInfo) → slice_get flow.bases.items b ≡ Some other → (b ≡ d → ⊥) → (pos : ℕ) → base.first ≤ pos → pos < base.first + base_values base → other.first ≤ pos → pos < (other.first + base_cells other) + length other.shape.zeros → ⊥
    apart_from b other e ne pos from to x y = elim (k.laid.laid.apart b d other base e at ne) [ inl t ↦ omega (arith, t, x, y, from, to) | inr t ↦ omega (arith, t, x, y, from, to) ]

    same_other : (b : ℕ) (other : BaseInfo) → slice_get flow.bases.items b ≡ Some other → b ≡ d → other ≡ base
    same_other b other e is = same_Some other base (sym e ∙ (ap (slice_get flow.bases.items) is ∙ at))

    state_cell : base.shape.heap ≡ true → cell_at (finish l n (route k) (pad k) mid) (state_position base) ≡ cell_at row (state_position base)
    state_cell heap =
        let one : cond {A = ℕ} base.shape.heap 1 0 ≡ 1 = ap (λ z. cond {A = ℕ} z 1 0) heap in
        let x = zero_is base (length base.shape.zeros) (fits_base k d base at) (omega arith) in
        none_same (state_position base) (λ b other e from to. elim (cases_eq b d) [
          | inr ne ↦ apart_from b other e ne (state_position base) (omega (arith, x)) (omega (arith, x, one)) from to
          | inl is ↦ (let t = same_other b other e is in
              let p : state_position base < (base.first + base_cells base) + length base.shape.zeros = subst (λ (w : BaseInfo). state_position base < (w.first + base_cells w) + length w.shape.zeros) t to in
              omega (arith, p, x))
        ]) ∙ behind.away (state_position base) (beside d base at (state_position base) (omega (arith, x)) (omega (arith, x, one)))

    pub states_after : (h : ℕ) → base.shape.heap ≡ true → naming h ≡ Some d → InGammaState gamma naming new (state_at l n (finish l n (route k) (pad k) mid) (state_position base)) (life_at new h) (length (bytes_at new h))
    states_after h heap named = subst (λ z. InGammaState gamma naming new z (life_at new h) (length (bytes_at new h))) (sym (same_state l n row (finish l n (route k) (pad k) mid) (state_position base) (state_cell heap)))
        (states_move o q flow naming k.region d base row (λ j. (stand d base at).states j) h heap named)

    missed : has_base k.target d ≡ false → (pos : ℕ) → base.first ≤ pos → pos < base.first + base_values base → cell_at (finish l n (route k) (pad k) mid) pos ≡ cell_at mid pos
    unfolding finish finish_all finish_if
    missed none pos from to = each_keeps (λ s. cell_at s pos ≡ cell_at mid pos) turn 0 flow.bases.items
        (λ b a other e y s g. let same : b ≡ a = omega (arith, y) in subst (λ w. cell_at (turn other w s) pos ≡ cell_at mid pos) same (one b other e s ∙ g)) mid refl
      where
        one : (b : ℕ) (other : BaseInfo) → slice_get flow.bases.items b ≡ Some other → (s : List (Cell I)) → cell_at (turn other b s) pos ≡ cell_at s pos
        one b other e s = elim (cases_eq b d) [
          | inr ne ↦ turn_same b other e s pos (apart_from b other e ne pos from to)
          | inl is ↦ ap (λ t. cell_at (cond t (finish_base l n (route k) (pad k) (exact_copy (route k) k.size) (has_padding flow.model (pad k)) other s) s) pos) (ap (has_base k.target) is ∙ none)
        ]

    module _ (z : ℕ) (part : ZeroPart) (among : slice_get base.shape.zeros z ≡ Some part) where
      spot_is : zero_position base z ≡ (base.first + base_cells base) + z
      spot_is = zero_is base z (fits_base k d base at) (let u = slice_get_within base.shape.zeros z part among in omega (arith, u))

      zero_cell : cell_at mid (zero_position base z) ≡ cell_at row (zero_position base z)
      zero_cell = let x = spot_is in let u = slice_get_within base.shape.zeros z part among in behind.away (zero_position base z) (beside d base at (zero_position base z) (omega (arith, x)) (omega (arith, x, u)))

      old_stands : (s : List (Cell I)) → cell_at s (zero_position base z) ≡ cell_at mid (zero_position base z) → (h : ℕ) → IsLiveOf naming old d h → ZeroStands l n gamma naming old base s z part h
      old_stands s same h alive = subst (λ y. InGammaZero gamma naming old y (array_bytes part (bytes_at old h))) (sym (same_zero l n row s (zero_position base z) (same ∙ zero_cell))) ((stand d base at).zeros z h part among alive)

      -- no instance of a base that is no target's has a byte of the region
      zero_missed : has_base k.target d ≡ false → (h : ℕ) → IsLiveOf naming old d h → InGammaZero gamma naming new (zero_at l n (finish l n (route k) (pad k) mid) (zero_position base z)) (array_bytes part (bytes_at new h))
      unfolding byte_at
      zero_missed none h alive =
          let not_there : h ≡ k.i → ⊥ = λ is. (let number : d ≡ k.target_side.b = same_Some d k.target_side.b (sym alive.named ∙ (ap naming is ∙ k.target_side.named)) in true≢false (sym k.target_side.has ∙ (ap (has_base k.target) (sym number) ∙ none))) in
          let bytes : bytes_at new h ≡ bytes_at old h = same_slices _ _ (λ y. k.region.outside h y (λ is from to. not_there is)) in
          let x = spot_is in
          let u = slice_get_within base.shape.zeros z part among in
          let same = missed none (zero_position base z) (omega (arith, x)) (omega (arith, x, u)) in
          subst (λ w. InGammaZero gamma naming new (zero_at l n (finish l n (route k) (pad k) mid) (zero_position base z)) (array_bytes part w)) (sym bytes)
          (old_stands (finish l n (route k) (pad k) mid) same h alive)

      -- ---- a base of the target

      module _ (has : has_base k.target d ≡ true) where
        abbrev p : ℕ
        p = zero_position base z

        record Before (s : List (Cell I)) : Type 0 where
          sized : length s ≡ length row
          own : (pos : ℕ) → base.first ≤ pos → pos < base.first + base_values base → cell_at s pos ≡ cell_at mid pos
          all : is_one_instance flow.bases.items k.target ≡ true → (pos : ℕ) → cell_at s pos ≡ cell_at mid pos

        record After (s : List (Cell I)) : Type 0 where
          sized : length s ≡ length row
          stand_for : (h : ℕ) → IsLiveOf naming old d h → InGammaZero gamma naming new (zero_at l n s (zero_position base z)) (array_bytes part (bytes_at new h))

        small : (part : ZeroPart) (h : ℕ) → length (array_bytes part (bytes_at new h)) ≤ 2 ^ 64 - 1
        small part h = let a = array_short part (bytes_at new h) in let b = sane.small h in omega (arith, a, b)

        -- the copy
        comes : ComesFrom old new k.i k.offset k.j k.at k.size
        comes = record {
          region = k.region;
          fits = k.source_side.fits;
          same = λ y a b less f g.
              let w = k.came (k.offset + y) a (omega arith) (omega (arith, less)) f in
              let back : (k.offset + y) - k.offset ≡ y = omega arith in
              let is : w.source ≡ b = same_Some w.source b (sym (subst (λ t. byte_at old k.j (k.at + t) ≡ Some w.source) back w.from) ∙ g) in
              w.content ∙ ap (λ (t : Byte). t.content) is;
          apart = k.apart;
        }

        -- the number of the one base
        one_of : (set : Bases) (a b : ℕ) → bases_count set ≡ 1 → has_base set a ≡ true → has_base set b ≡ true → b ≡ a
        one_of set a b one f g =
            let x = and_parts (nat_lt a most_bases) (bases_has set a) f in
            let y = and_parts (nat_lt b most_bases) (bases_has set b) g in
            one_base set a b (ltb-true a most_bases x.0) (ltb-true b most_bases y.0) one x.1 y.1

        exactly : (s : List (Cell I)) → Before s → (e : Exact) → exact_copy (route k) k.size ≡ Some e → IsExactly l n gamma naming old flow.bases.items d base s k.i k.offset k.j k.at k.size e
        exactly s h e is =
            let x = exact_is (route k) k.size e is in
            let t = k.target_side in
            let u = k.source_side in
            let number : x.index ≡ u.b = one_of k.source u.b x.index x.count u.has x.has in
            let from = x.from in
            let to = x.to in
            let lo = u.lo in
            let hi = u.hi in
            let tlo = t.lo in
            let thi = t.hi in
            let from_is = x.from_is in
            let to_is = x.to_is in
            let source_at : slice_get flow.bases.items u.b ≡ Some e.source = subst (λ w. slice_get flow.bases.items w ≡ Some e.source) number x.among in
            record {
              from_is = omega (arith, from_is, from, lo, hi);
              to_is = omega (arith, to_is, to, tlo, thi);
              size_is = x.size_is;
              sole = alone_is k x.alone d base at has;
              number = u.b;
              among = source_at;
              named = λ same. alone_is k x.alone d base at has k.j (record { named = u.named ∙ ap Some same; alive = u.alive });
              fits = (let a = k.laid.laid.close u.b e.source source_at in let sized = h.sized in omega (arith, a, sized, wide));
              zeros = λ y other f.
                  let v = slice_get_within e.source.shape.zeros y other f in
                  let w = zero_is e.source y (fits_base k u.b e.source source_at) (omega (arith, v)) in
                  let away = behind.away (zero_position e.source y) (beside u.b e.source source_at (zero_position e.source y) (omega (arith, w)) (omega (arith, w, v))) in
                  subst (λ t. InGammaZero gamma naming old t (array_bytes other (bytes_at old k.j))) (sym (same_zero l n row s (zero_position e.source y) (h.all x.alone (zero_position e.source y) ∙ away)))
                  ((stand u.b e.source source_at).zeros y k.j other f (record { named = u.named; alive = u.alive }));
            }

        inside : (e : Exact) → exact_copy (route k) k.size ≡ Some e → 0 < k.size → (x : ℕ) → (copied_window k.to k.size).lo ≤ x → x ≤ (copied_window k.to k.size).hi → (k.offset ≤ x) × (x < k.offset + k.size)
        inside e is some x from to =
            let y = exact_is (route k) k.size e is in
            let same = y.to in
            let t = k.target_side in
            let lo = t.lo in
            let hi = t.hi in
            (omega (arith, from, same, lo, hi), omega (arith, to, same, lo, hi, some))

        copied : (s : List (Cell I)) → Before s → After (copy_zeros l n base (copied_window k.to k.size) (exact_copy (route k) k.size) s)
        copied s h = record {
          sized = (zeros_only l n base (fits_base k d base at) (copied_window k.to k.size) (exact_copy (route k) k.size)).long s ∙ h.sized;
          stand_for = λ g alive.
              let t = k.target_side in
              let lo = t.lo in
              let hi = t.hi in
              let fits = t.fits in
              let short = k.short k.i in
              let x = spot_is in
              let u = slice_get_within base.shape.zeros z part among in
              copied_zeros_stand o q naming flow.bases.items k.laid.behind k.laid.laid old new k.i k.offset k.j k.at k.size comes (λ y. let a = k.short y in omega (arith, a)) d base at (copied_window k.to k.size)
              (λ y from to. (omega (arith, from, lo), omega (arith, to, hi, fits, short))) s (let a = long d base at in let sized = h.sized in omega (arith, a, sized)) (exact_copy (route k) k.size) (λ e is. (exactly s h e is, inside e is)) z part among
              (λ y a. old_stands s (h.own (zero_position base z) (omega (arith, x)) (omega (arith, x, u))) y a) g alive;
        }

        -- padding
        cells_padded : (s : List (Cell I)) → After s → After (pad_cells l n flow.model base (pad k) s)
        cells_padded s h =
            let w = cells_only l n base (fits_base k d base at) flow.model (pad k) in
            let x = spot_is in
            record {
              sized = w.long s ∙ h.sized;
              stand_for = λ g alive. subst (λ t. InGammaZero gamma naming new t (array_bytes part (bytes_at new g))) (sym (same_zero l n s (pad_cells l n flow.model base (pad k) s) (zero_position base z) (w.keeps s (zero_position base z) (λ a b. omega (arith, x, b))))) (h.stand_for g alive);
            }

        one_padded : (y : ℕ) (other : ZeroPart) (s : List (Cell I)) → After s → After (pad_part l n flow.model base (pad k) other y s)
        unfolding pad_part_at
        one_padded y other s h = by_test (padding_meets flow.model (pad k) other.offset (last_of other.offset other.size))
          where
            sized : length (put_zero s (zero_position base y) (any_zero l n)) ≡ length row
            sized = length-set s (zero_position base y) (First (any_zero l n)) ∙ h.sized

            by_place : (zero_position base y ≡ zero_position base z) ⊎ (zero_position base y ≡ zero_position base z → ⊥) → (g : ℕ) → IsLiveOf naming old d g → InGammaZero gamma naming new (zero_at l n (put_zero s (zero_position base y) (any_zero l n)) (zero_position base z)) (array_bytes part (bytes_at new g))
            by_place (inl same) g alive =
                let x = spot_is in
                let u = slice_get_within base.shape.zeros z part among in
                let a = long d base at in
                let b = h.sized in
                subst (λ t. InGammaZero gamma naming new (zero_at l n (put_zero s t (any_zero l n)) (zero_position base z)) (array_bytes part (bytes_at new g))) (sym same)
                (put_zero_stands o q naming new s (zero_position base z) (any_zero l n) (array_bytes part (bytes_at new g)) (omega (arith, x, u, a, b)) (small part g) (any_zero_stands o q naming new (array_bytes part (bytes_at new g)) (small part g)))
            by_place (inr other_spot) g alive = subst (λ t. InGammaZero gamma naming new t (array_bytes part (bytes_at new g)))
                (sym (same_zero l n s (put_zero s (zero_position base y) (any_zero l n)) (zero_position base z) ((only_put (zero_position base y) (zero_position base y + 1) (zero_position base y) (λ w. First (any_zero l n)) (omega arith) (omega arith)).keeps s (zero_position base z) (λ a b. other_spot (omega (arith, a, b))))))
                (h.stand_for g alive)

            by_test : (t : Bool) → After (cond t (put_zero s (zero_position base y) (any_zero l n)) s)
            by_test false = h
            by_test true = record { sized = sized; stand_for = by_place (cases_eq (zero_position base y) (zero_position base z)) }

        padded : (s : List (Cell I)) → After s → After (write_padding l n flow.model base (pad k) s)
        unfolding write_padding pad_zeros
        padded s h = each_keeps After (pad_part l n flow.model base (pad k)) 0 base.shape.zeros (λ y a other e w t g. one_padded a other t g) (pad_cells l n flow.model base (pad k) s) (cells_padded s h)

        own_turn : (s : List (Cell I)) → Before s → After (finish_base l n (route k) (pad k) (exact_copy (route k) k.size) (has_padding flow.model (pad k)) base s)
        unfolding finish_base
        own_turn s h = by_test (has_padding flow.model (pad k))
          where
            by_test : (t : Bool) → After (cond t (write_padding l n flow.model base (pad k) (copy_zeros l n base (copied_window k.to k.size) (exact_copy (route k) k.size) s)) (copy_zeros l n base (copied_window k.to k.size) (exact_copy (route k) k.size) s))
            by_test true = padded (copy_zeros l n base (copied_window k.to k.size) (exact_copy (route k) k.size) s) (copied s h)
            by_test false = copied s h

        before_turn : (b : ℕ) (other : BaseInfo) → slice_get flow.bases.items b ≡ Some other → (b ≡ d → ⊥) → (s : List (Cell I)) → Before s → Before (turn other b s)
        unfolding finish_if
        before_turn b other e ne s h = record {
          sized = turn_long b other e s ∙ h.sized;
          own = λ pos from to. turn_same b other e s pos (apart_from b other e ne pos from to) ∙ h.own pos from to;
          all = λ alone pos. alone_turn alone pos ∙ h.all alone pos;
        }
          where
            alone_turn : is_one_instance flow.bases.items k.target ≡ true → (pos : ℕ) → cell_at (turn other b s) pos ≡ cell_at s pos
            alone_turn alone pos = by_has (has_base k.target b) refl
              where
                one : bases_count k.target ≡ 1
                one = eqb-true (bases_count k.target) 1 (and_parts (bases_count k.target == 1) _ alone).0

                unwanted : has_base k.target b ≡ false → cell_at (turn other b s) pos ≡ cell_at s pos
                unwanted f = ap (λ t. cell_at (cond t (finish_base l n (route k) (pad k) (exact_copy (route k) k.size) (has_padding flow.model (pad k)) other s) s) pos) f

                by_has : (t : Bool) → has_base k.target b ≡ t → cell_at (turn other b s) pos ≡ cell_at s pos
                by_has true f = absurd (ne (one_of k.target d b one has f))
                by_has false f = unwanted f

        after_turn : (b : ℕ) (other : BaseInfo) → slice_get flow.bases.items b ≡ Some other → (b ≡ d → ⊥) → (s : List (Cell I)) → After s → After (turn other b s)
        after_turn b other e ne s h =
            let x = spot_is in
            let u = slice_get_within base.shape.zeros z part among in
            record {
              sized = turn_long b other e s ∙ h.sized;
              stand_for = λ g alive. subst (λ t. InGammaZero gamma naming new t (array_bytes part (bytes_at new g)))
                  (sym (same_zero l n s (turn other b s) (zero_position base z) (turn_same b other e s (zero_position base z) (apart_from b other e ne (zero_position base z) (omega (arith, x)) (omega (arith, x, u))))))
                  (h.stand_for g alive);
            }

        met : After (finish l n (route k) (pad k) mid)
        unfolding finish finish_all finish_if
        met = one_turns Before After turn 0 flow.bases.items d base at
            (λ b a other e y ne s h. let same : b ≡ a = omega (arith, y) in subst (λ w. Before (turn other w s)) same (before_turn b other e ne s h))
            (λ b a other e y ne s h. let same : b ≡ a = omega (arith, y) in subst (λ w. After (turn other w s)) same (after_turn b other e ne s h))
            (λ a y s h. let same : d ≡ a = omega (arith, y) in subst (λ t. After (cond t (finish_base l n (route k) (pad k) (exact_copy (route k) k.size) (has_padding flow.model (pad k)) base s) s)) (sym (ap (has_base k.target) (sym same) ∙ has)) (own_turn s h))
            mid (record { sized = behind.long; own = λ pos from to. refl; all = λ alone pos. refl })

      pub zeros_after : (h : ℕ) → IsLiveOf naming new d h → InGammaZero gamma naming new (zero_at l n (finish l n (route k) (pad k) mid) (zero_position base z)) (array_bytes part (bytes_at new h))
      zeros_after h alive = elim (cases_Bool (has_base k.target d)) [
        | inl has ↦ (met has).stand_for h (live_moves (alike_region k.region) naming d h alive)
        | inr none ↦ zero_missed none h (live_moves (alike_region k.region) naming d h alive)
      ]
