-- One entry more of a map is filled.
use Rattle.std.proofs.Common.{◌≡◌, ◌∙◌, ◌≢◌, ◌+◌, ◌-◌, ◌<◌, ◌≤◌, ◌⊎◌, ℕ, zero, suc, Bool, true, false, cond, not, List, [], ◌∷◌, ◌++◌, map, take, length, get_or, set, replicate, Option, Some, None, slice_get, slice_index_or, count_by, refl, sym, ap, subst, arith, inl, inr, ⊎_elim, length-set, get_or-set_same, get_or-set_other}
use Rattle.std.proofs.lemmas.Bool.{cases_eq}
use Rattle.std.proofs.lemmas.List.{map-set, take_more_set}
use Rattle.std.proofs.lemmas.List.Sums.{sum_by-set}
use Rattle.std.proofs.lemmas.Option.{get_or_from_slice_get}
use Rattle.fixpoint.specs.Pool.Pool.{Pool, row_of, with_row, with_taken, IsTaken, IsFree, IsWhole, free_count, SameBut}
use Rattle.fixpoint.specs.Pool.PoolLaws.{SameBut-with_row, SameBut-whole, IsWhole-taken, IsTaken-same, IsTaken-other, free_apart, row_of-taken, row_of-same, count_taken}
use Rattle.fixpoint.specs.declared.pool.row_name.Row.{Row}
use Rattle.fixpoint.specs.Solver.RowMap.{slot_row, slot_index, is_vacant, is_held, rows_in, index_at, IsHeld, SlotChanged}
use Rattle.fixpoint.proofs.solver.MapLaws.{map-agree, slot_row-kept}
use Rattle.fixpoint.proofs.solver.StartLaws.{vacant, vacant_index}
use Rattle.certificate_check.specs.Reading.FilledMaps.{Filled}

-- ---- a map of which no entry is filled

replicate_held : (n : ℕ) → count_by is_held (replicate n None) ≡ 0
replicate_held zero = refl
replicate_held (suc n) = replicate_held n

pub filled_none : {C : Type 0} (p : Pool C) (slots : List (Option Row)) (n m : ℕ) → slots ≡ replicate n None → IsWhole p → Filled p p slots m
filled_none p slots n m e whole =
    let held : count_by is_held slots ≡ 0 = ap (count_by is_held) e ∙ replicate_held n in
    record {
      width = refl;
      whole = whole;
      held = record {
        taken = λ b i h. absurd (vacant_index slots n e b i h);
        apart = λ a b i h j. absurd (vacant_index slots n e a i h);
      };
      room = omega arith;
      others = λ s t. (t, refl, λ b. vacant_index slots n e b s);
      few = omega arith;
      rest = λ b le. vacant slots n e b;
    }

pub filled_wider : {C : Type 0} (p q : Pool C) (slots : List (Option Row)) (n m : ℕ) → n ≤ m → Filled p q slots n → Filled p q slots m
filled_wider p q slots n m le f = record {
  width = f.width;
  whole = f.whole;
  held = f.held;
  room = f.room;
  others = f.others;
  few = let few : count_by is_held slots ≤ n = f.few in omega arith;
  rest = λ b ge. f.rest b (omega arith);
}

-- ---- an entry more

no_index : (i : ℕ) → slot_index (let none : Option Row = None in none) ≡ Some i → ⊥
no_index i e = cc

-- a row that was taken is written
pub written_same_but : {V : Type 0} (p q : Pool V) (r : ℕ) (ws : List V) → q ≡ with_taken p r → IsWhole p → IsFree p r → length ws ≡ p.width → SameBut (with_taken p r) (with_row q r ws) r × (row_of (with_row q r ws) r ≡ ws)
written_same_but p q r ws e whole free len =
    let whole' : IsWhole (with_taken p r) = IsWhole-taken p r whole in
    let here : IsTaken (with_taken p r) r = IsTaken-same p r free in
    subst (λ u. SameBut (with_taken p r) (with_row u r ws) r × (row_of (with_row u r ws) r ≡ ws)) (sym e)
    (SameBut-with_row (with_taken p r) r ws whole' here len, row_of-same (with_taken p r) r ws whole' here len)

-- ---- one entry more

free_not_taken : {V : Type 0} (p : Pool V) (i : ℕ) → IsFree p i → IsTaken p i → ⊥
free_not_taken p i h k = cc

held_of : (slot : Option Row) → count_by is_held (slot ∷ []) + count_by is_vacant (slot ∷ []) ≡ 1
held_of None = refl
held_of (Some row) = refl

held_here : (slot : Option Row) → count_by is_held (slot ∷ []) ≡ cond (is_held slot) 1 0
held_here None = refl
held_here (Some row) = refl

pub length-rows : {C : Type 0} (p : Pool C) (slots : List (Option Row)) → length (rows_in p slots) ≡ length slots
length-rows p [] = refl
length-rows p (x ∷ slots) = let e = length-rows p slots in omega arith

module _ {C : Type 0} (p q u : Pool C) (slots : List (Option Row)) (n : ℕ) (slot : Option Row) (lt : n < length slots) (f : Filled p q slots n) (c : SlotChanged q None u slot) where
  none_here : slice_index_or slots n None ≡ None
  none_here = f.rest n (omega arith)

  index_here : index_at (set slots n slot) n ≡ slot_index slot
  index_here = ap slot_index (get_or-set_same slots n slot None lt)

  index_else : (d : ℕ) → (d ≡ n → ⊥) → index_at (set slots n slot) d ≡ index_at slots d
  index_else d ne = ap slot_index (get_or-set_other slots n d slot None ne)

  -- the new row was free
  was_free : (i : ℕ) → index_at (set slots n slot) n ≡ Some i → IsFree q i
  was_free i e = ⊎_elim (λ g. absurd (no_index i g)) (λ (g : IsFree q i). g) ((c.index i (sym index_here ∙ e)).1)

  is_taken : (i : ℕ) → index_at (set slots n slot) n ≡ Some i → IsTaken u i
  is_taken i e = (c.index i (sym index_here ∙ e)).0

  kept : (s : ℕ) → IsTaken q s → IsTaken u s × (row_of u s ≡ row_of q s)
  kept s t = c.others s t (no_index s)

  at_place : (d i : ℕ) → d ≡ n → index_at (set slots n slot) d ≡ Some i → index_at (set slots n slot) n ≡ Some i
  at_place d i same e = subst (λ k. index_at (set slots n slot) k ≡ Some i) same e

  old_taken : (d i : ℕ) → (d ≡ n → ⊥) → index_at (set slots n slot) d ≡ Some i → IsTaken q i
  old_taken d i ne e = f.held.taken d i (sym (index_else d ne) ∙ e)

  held_more : IsHeld u (set slots n slot)
  held_more = record {
    taken = λ d i e.
        ⊎_elim (λ (same : d ≡ n). is_taken i (at_place d i same e)) (λ (ne : d ≡ n → ⊥). (kept i (old_taken d i ne e)).0) (cases_eq d n);
    apart = λ a d i ea ed.
        ⊎_elim
        (λ (same_a : a ≡ n).
        ⊎_elim
        (λ (same_d : d ≡ n). same_a ∙ sym same_d)
        (λ (ne : d ≡ n → ⊥). absurd (free_not_taken q i (was_free i (at_place a i same_a ea)) (old_taken d i ne ed)))
        (cases_eq d n))
        (λ (ne_a : a ≡ n → ⊥).
        ⊎_elim
        (λ (same_d : d ≡ n). absurd (free_not_taken q i (was_free i (at_place d i same_d ed)) (old_taken a i ne_a ea)))
        (λ (ne : d ≡ n → ⊥). f.held.apart a d i (sym (index_else a ne_a) ∙ ea) (sym (index_else d ne) ∙ ed))
        (cases_eq d n))
        (cases_eq a n);
  }

  count_more : count_by is_held (set slots n slot) ≡ count_by is_held slots + count_by is_held (slot ∷ [])
  count_more =
      let e = sum_by-set (λ x. cond (is_held x) 1 0) slots n slot None lt in
      let e' = rw none_here at e in
      let h : count_by is_held (slot ∷ []) ≡ cond (is_held slot) 1 0 = held_here slot in
      omega (arith, e', h)

  pub filled_more : Filled p u (set slots n slot) (n + 1)
  filled_more = record {
    width = c.width ∙ f.width;
    whole = c.whole;
    held = held_more;
    room =
        let k : free_count u + count_by is_vacant (let none : List (Option Row) = None ∷ [] in none) ≡ free_count q + count_by is_vacant (slot ∷ []) = c.room in
        omega (arith, f.room, k, count_more, held_of slot);
    others = λ s t.
        let was = f.others s t in
        let now = kept s was.0 in (
          now.0,
          now.1 ∙ was.1,
          λ d e.
              ⊎_elim
              (λ (same : d ≡ n). free_not_taken q s (was_free s (at_place d s same e)) was.0)
              (λ (ne : d ≡ n → ⊥). was.2 d (sym (index_else d ne) ∙ e))
              (cases_eq d n),
        );
    few = omega (arith, f.few, count_more, held_of slot);
    rest = λ b le.
        get_or-set_other slots n b slot None (λ (same : b ≡ n). absurd (omega arith)) ∙ f.rest b (omega arith);
  }

  set-map-agree : (xs : List (Option Row)) (b : ℕ) (v : Option (List C)) → ((k : ℕ) (x : Option Row) → slice_get xs k ≡ Some x → slot_row u x ≡ slot_row q x) → set (map (slot_row u) xs) b v ≡ set (map (slot_row q) xs) b v
  set-map-agree xs b v h = ap (λ ys. set ys b v) (map-agree (slot_row u) (slot_row q) xs h)

  rows_set : rows_in u (set slots n slot) ≡ set (rows_in q slots) n (slot_row u slot)
  rows_set =
      map-set (slot_row u) slots n slot
      ∙ set-map-agree slots n (slot_row u slot) (λ d x e. slot_row-kept q u slots d x e (λ i g. (kept i (f.held.taken d i g)).1))

  pub rows_more : take (n + 1) (rows_in u (set slots n slot)) ≡ take n (rows_in q slots) ++ (slot_row u slot ∷ [])
  rows_more =
      let within : n < length (rows_in q slots) = let e = length-rows q slots in omega arith in
      ap (take (n + 1)) rows_set ∙ take_more_set (rows_in q slots) n (slot_row u slot) within
