-- A map of which one entry changes.
use Rattle.std.proofs.Common.{◌≡◌, ◌+◌, ◌<◌, ◌||◌, ◌⊎◌, ℕ, zero, suc, Bool, cond, List, [], ◌∷◌, map, length, get_or, set, Option, Some, None, slice_get, slice_index_or, count_by, refl, sym, ap, subst, arith, ◌∙◌, inl, inr, ⊎_elim, length-set, get_or-set_same, get_or-set_other}
use Rattle.std.proofs.lemmas.Bool.{cases_eq}
use Rattle.std.proofs.lemmas.List.{map-set}
use Rattle.std.proofs.lemmas.List.Sums.{sum_by-set}
use Rattle.std.proofs.lemmas.Option.{get_or_from_slice_get}
use Rattle.cc_base.specs.Lattices.{LatticeOf}
use Rattle.cc_base.specs.Machine.{Machine}
use Rattle.cc_base.specs.InductiveMap.{row_at}
use Rattle.fixpoint.specs.Pool.Pool.{Pool, row_of, IsTaken, IsFree, free_count}
use Rattle.fixpoint.specs.declared.pool.row_name.Row.{Row}
use Rattle.fixpoint.specs.Solver.SolverState.{State, mark_at, arrived, grows, arrive}
use Rattle.fixpoint.specs.Solver.RowMap.{slot_row, slot_mark, slot_index, is_vacant, rows_in, state_in, index_at, IsHeldBeside, Changed, SlotChanged}

pub row_at-rows_in : {C : Type 0} (p : Pool C) (slots : List (Option Row)) (b : ℕ) → row_at (rows_in p slots) b ≡ slot_row p (slice_index_or slots b None)
row_at-rows_in p [] b = refl
row_at-rows_in p (x ∷ slots) zero = refl
row_at-rows_in p (x ∷ slots) (suc b) = row_at-rows_in p slots b

pub mark_at-marks : (slots : List (Option Row)) (b : ℕ) → mark_at (map slot_mark slots) b ≡ slot_mark (slice_index_or slots b None)
mark_at-marks [] b = refl
mark_at-marks (x ∷ slots) zero = refl
mark_at-marks (x ∷ slots) (suc b) = mark_at-marks slots b

-- two functions that agree on a list
pub map-agree : {X Y : Type 0} (f g : X → Y) (xs : List X) → ((k : ℕ) (x : X) → slice_get xs k ≡ Some x → f x ≡ g x) → map f xs ≡ map g xs
map-agree f g [] h = refl
map-agree f g (x ∷ xs) h =
    let here : f x ≡ g x = h 0 x refl in
    let rest : map f xs ≡ map g xs = map-agree f g xs (λ k y e. h (suc k) y e) in
    cc

-- or but for one place
set-map-agree : {X Y : Type 0} (f g : X → Y) (xs : List X) (b : ℕ) (v : Y) → ((k : ℕ) (x : X) → slice_get xs k ≡ Some x → (k ≡ b → ⊥) → f x ≡ g x) → set (map f xs) b v ≡ set (map g xs) b v
set-map-agree f g [] b v h = refl
set-map-agree f g (x ∷ xs) zero v h = ap (λ ys. v ∷ ys) (map-agree f g xs (λ k y e. h (suc k) y e (λ z. absurd (omega arith))))
set-map-agree f g (x ∷ xs) (suc b) v h =
    let here : f x ≡ g x = h 0 x refl (λ z. absurd (omega arith)) in
    let rest : set (map f xs) b v ≡ set (map g xs) b v =
    set-map-agree f g xs b v (λ k y e ne. h (suc k) y e (λ z. ne (omega arith))) in
    cc

free_not_taken : {V : Type 0} (p : Pool V) (i : ℕ) → IsFree p i → IsTaken p i → ⊥
free_not_taken p i h k = cc

-- the rows of a map are as they were where the pool keeps them
pub slot_row-kept : {C : Type 0} (p q : Pool C) (slots : List (Option Row)) (k : ℕ) (x : Option Row) → slice_get slots k ≡ Some x → ((i : ℕ) → index_at slots k ≡ Some i → row_of q i ≡ row_of p i) → slot_row q x ≡ slot_row p x
slot_row-kept p q slots k None e h = refl
slot_row-kept p q slots k (Some row) e h =
    let at : get_or slots k None ≡ Some row = get_or_from_slice_get slots k (Some row) None e in
    ap Some (h row.index (ap slot_index at))

pub same_state : {C : Type 0} {rows rows' : List (Option (List C))} {marks marks' : List Bool} → rows ≡ rows' → marks ≡ marks' → (let a : State C = record { rows = rows; marks = marks } in a) ≡ (let a : State C = record { rows = rows'; marks = marks' } in a)
same_state e f = cc

module _ {C : Type 0} (p q : Pool C) (slots : List (Option Row)) (b : ℕ) (slot slot' : Option Row) (spare : ℕ) (lt : b < length slots) (at : slice_index_or slots b None ≡ slot) (h : IsHeldBeside p slots spare) (c : SlotChanged p slot q slot') where
  index_here : index_at (set slots b slot') b ≡ slot_index slot'
  index_here = ap slot_index (get_or-set_same slots b slot' None lt)

  index_else : (d : ℕ) → (d ≡ b → ⊥) → index_at (set slots b slot') d ≡ index_at slots d
  index_else d ne = ap slot_index (get_or-set_other slots b d slot' None ne)

  index_old : (i : ℕ) → slot_index slot ≡ Some i → index_at slots b ≡ Some i
  index_old i e = ap slot_index at ∙ e

  not_here : (d i : ℕ) → (d ≡ b → ⊥) → index_at slots d ≡ Some i → slot_index slot ≡ Some i → ⊥
  not_here d i ne e f = ne (h.held.apart d b i e (index_old i f))

  -- a row of the new map at the place is the old one there, or was free
  here_or_free : (i : ℕ) → index_at (set slots b slot') b ≡ Some i → (index_at slots b ≡ Some i) ⊎ IsFree p i
  here_or_free i e =
      ⊎_elim (λ (f : slot_index slot ≡ Some i). inl (index_old i f)) (λ (f : IsFree p i). inr f)
      ((c.index i (sym index_here ∙ e)).1)

  clash : (d i : ℕ) → (d ≡ b → ⊥) → index_at (set slots b slot') b ≡ Some i → index_at (set slots b slot') d ≡ Some i → ⊥
  clash d i ne e f =
      let f' : index_at slots d ≡ Some i = sym (index_else d ne) ∙ f in
      ⊎_elim
      (λ (g : index_at slots b ≡ Some i). ne (h.held.apart d b i f' g))
      (λ (g : IsFree p i). free_not_taken p i g (h.held.taken d i f'))
      (here_or_free i e)

  -- a row that was in use and not of the map is not of the new one
  stays_out : (s : ℕ) → IsTaken p s → ((d : ℕ) → index_at slots d ≡ Some s → ⊥) → (d : ℕ) → index_at (set slots b slot') d ≡ Some s → ⊥
  stays_out s t out d e =
      ⊎_elim
      (λ (same : d ≡ b).
      let e' : index_at (set slots b slot') b ≡ Some s = subst (λ n. index_at (set slots b slot') n ≡ Some s) same e in
      ⊎_elim
      (λ (g : index_at slots b ≡ Some s). out b g)
      (λ (g : IsFree p s). free_not_taken p s g t)
      (here_or_free s e'))
      (λ (ne : d ≡ b → ⊥). out d (sym (index_else d ne) ∙ e))
      (cases_eq d b)

  not_spare : slot_index slot ≡ Some spare → ⊥
  not_spare e = h.beside b (index_old spare e)

  held' : IsHeldBeside q (set slots b slot') spare
  held' = record {
    whole = c.whole;
    held = record {
      taken = λ d i e.
          ⊎_elim
          (λ (same : d ≡ b).
          let e' : index_at (set slots b slot') b ≡ Some i = subst (λ n. index_at (set slots b slot') n ≡ Some i) same e in
          (c.index i (sym index_here ∙ e')).0)
          (λ (ne : d ≡ b → ⊥).
          let f : index_at slots d ≡ Some i = sym (index_else d ne) ∙ e in
          (c.others i (h.held.taken d i f) (not_here d i ne f)).0)
          (cases_eq d b);
      apart = λ a d i ea ed.
          ⊎_elim
          (λ (same_a : a ≡ b).
          let ea' : index_at (set slots b slot') b ≡ Some i = subst (λ n. index_at (set slots b slot') n ≡ Some i) same_a ea in
          ⊎_elim
          (λ (same_d : d ≡ b). same_a ∙ sym same_d)
          (λ (ne : d ≡ b → ⊥). absurd (clash d i ne ea' ed))
          (cases_eq d b))
          (λ (ne_a : a ≡ b → ⊥).
          ⊎_elim
          (λ (same_d : d ≡ b).
          let ed' : index_at (set slots b slot') b ≡ Some i = subst (λ n. index_at (set slots b slot') n ≡ Some i) same_d ed in
          absurd (clash a i ne_a ed' ea))
          (λ (ne : d ≡ b → ⊥). h.held.apart a d i (sym (index_else a ne_a) ∙ ea) (sym (index_else d ne) ∙ ed))
          (cases_eq d b))
          (cases_eq a b);
    };
    in_use = (c.others spare h.in_use not_spare).0;
    beside = stays_out spare h.in_use h.beside;
  }

  pub map-changed : Changed p slots spare q (set slots b slot')
  map-changed = record {
    width = c.width;
    size = length-set slots b slot';
    held = held';
    others = λ s t ne out.
        let kept : IsTaken q s × (row_of q s ≡ row_of p s) = c.others s t (λ e. out b (index_old s e)) in
        (kept.0, kept.1, stays_out s t out);
    room =
        let e = sum_by-set (λ x. cond (is_vacant x) 1 0) slots b slot' None lt in
        let f = rw at at e in
        let k : free_count q + count_by is_vacant (slot ∷ []) ≡ free_count p + count_by is_vacant (slot' ∷ []) = c.room in
        omega (arith, f, k);
  }

  pub map-rows : rows_in q (set slots b slot') ≡ set (rows_in p slots) b (slot_row q slot')
  map-rows =
      map-set (slot_row q) slots b slot'
      ∙ set-map-agree (slot_row q) (slot_row p) slots b (slot_row q slot')
      (λ d x e ne. slot_row-kept p q slots d x e (λ i f. (c.others i (h.held.taken d i f) (not_here d i ne f)).1))

  pub map-state : (o : LatticeOf C) (m : Machine C) (x : List C) → slot_row q slot' ≡ Some (arrived o m.list (m.head b) (slot_row p slot) x) → slot_mark slot' ≡ (grows o (slot_row p slot) x || slot_mark slot) → state_in q (set slots b slot') ≡ arrive o m b x (state_in p slots)
  map-state o m x e f =
      let row : row_at (rows_in p slots) b ≡ slot_row p slot = row_at-rows_in p slots b ∙ ap (slot_row p) at in
      let mark : mark_at (map slot_mark slots) b ≡ slot_mark slot = mark_at-marks slots b ∙ ap slot_mark at in
      let rows : rows_in q (set slots b slot') ≡ (arrive o m b x (state_in p slots)).rows =
      map-rows ∙ ap (set (rows_in p slots) b) (e ∙ ap (λ v. Some (arrived o m.list (m.head b) v x)) (sym row)) in
      let marks : map slot_mark (set slots b slot') ≡ (arrive o m b x (state_in p slots)).marks =
      map-set slot_mark slots b slot'
      ∙ ap (set (map slot_mark slots) b) (f ∙ ap (λ v. grows o v x || slot_mark slot) (sym row) ∙ ap (λ v. grows o (row_at (rows_in p slots) b) x || v) (sym mark)) in
      same_state rows marks
