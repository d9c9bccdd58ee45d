-- The systems of tables meet the laws.
use Rattle.std.proofs.Common.{◌≡◌, ◌&&◌, ◌+◌, ◌<◌, ◌≤◌, ℕ, zero, suc, Bool, true, false, not, ◌||◌, min, List, [], ◌∷◌, length, leb, ltb, slice_index_or, Some, None, refl, subst, arith, ⊎_elim, max}
use Rattle.std.proofs.lemmas.Bool.{leb-true, le-leb, ltb-true}
use Rattle.std.proofs.lemmas.Bool.Decides.{leb_tells}
use Rattle.std.proofs.lemmas.Int.{clamps}
use Rattle.std.proofs.Math.Nat.{max-le}
use Rattle.std.specs.List.{list_all}
use Rattle.cc_base.specs.Rows.{row_leq, row_join, row_round, reached_leq}
use Rattle.cc_base.specs.RowLaws.{by_test, and_left, and_right, and_both}
use Rattle.cc_base.specs.Machine.{MachineLaws, IsMonotone, IsRounded}
use Rattle.analysis_tests.specs.Solver.Levels.{level_lattice, rung_above}
use Rattle.analysis_tests.specs.Solver.LevelLaws.{rung-within, rung-falls, rungs-bounded}
use Rattle.analysis_tests.specs.Solver.Tables.{Passage, Table, passage_at, pass, is_level, row_rungs, table_machine, IsPassage, IsFit, is_passage, is_ordered, is_fit}

level-width : (r : List ℕ) → is_level r ≡ true → length r ≡ 1
level-width [] h = cc
level-width (x ∷ []) h = refl
level-width (x ∷ (y ∷ xs)) h = cc

pass-level : (p : Passage) (r s : List ℕ) → p.cap + p.plus ≤ 255 → pass p r ≡ Some s → is_level s ≡ true
pass-level p [] s h e = absurd (cc)
pass-level p (x ∷ []) s h e =
    by_test (leb p.least x)
    (λ (t : leb p.least x ≡ true).
    let e' : Some ((min x p.cap + p.plus) ∷ []) ≡ Some s = rw t at e in
    let same : (min x p.cap + p.plus) ∷ [] ≡ s = cc in
    subst (λ r. is_level r ≡ true) same (le-leb (min x p.cap + p.plus) 255 (omega (arith, clamps))))
    (λ (t : leb p.least x ≡ false).
    let e' : None ≡ Some s = rw t at e in absurd (cc))
pass-level p (x ∷ (y ∷ xs)) s h e = absurd (cc)

join-level : (r s : List ℕ) → is_level r ≡ true → is_level s ≡ true → is_level (row_join level_lattice r s) ≡ true
join-level [] s h j = cc
join-level (x ∷ []) [] h j = cc
join-level (x ∷ []) (y ∷ []) h j = le-leb (max x y) 255 (max-le (leb-true x 255 h) (leb-true y 255 j))
join-level (x ∷ []) (y ∷ (z ∷ zs)) h j = cc
join-level (x ∷ (y ∷ xs)) s h j = cc

module _ (t : Table) where
  round-level : (r : List ℕ) → is_level r ≡ true → is_level (row_round level_lattice t.list r) ≡ true
  round-level [] h = cc
  round-level (x ∷ []) h = le-leb (rung_above x) 255 (rung-within x (leb-true x 255 h))
  round-level (x ∷ (y ∷ xs)) h = cc

  pass-monotone : (p : Passage) (r s : List ℕ) → is_level r ≡ true → is_level s ≡ true → row_leq level_lattice r s ≡ true → reached_leq level_lattice (pass p r) (pass p s) ≡ true
  pass-monotone p [] s h j le = absurd (cc)
  pass-monotone p (x ∷ []) [] h j le = absurd (cc)
  pass-monotone p (x ∷ []) (y ∷ []) h j le =
      let below : x ≤ y = leb-true x y (and_left _ _ le) in
      by_test (leb p.least x)
      (λ (a : leb p.least x ≡ true).
      let low : p.least ≤ x = leb-true p.least x a in
      let b : leb p.least y ≡ true = le-leb p.least y (omega arith) in
      let up : leb (min x p.cap + p.plus) (min y p.cap + p.plus) ≡ true = le-leb _ _ (omega (arith, clamps)) in
      rw (a, b) (and_both _ _ up refl))
      (λ (a : leb p.least x ≡ false). rw a refl)
  pass-monotone p (x ∷ []) (y ∷ (z ∷ zs)) h j le = absurd (cc)
  pass-monotone p (x ∷ (y ∷ xs)) s h j le = absurd (cc)

  room-bounded : (r : List ℕ) → row_rungs r ≤ 2
  room-bounded [] = omega arith
  room-bounded (x ∷ xs) = rungs-bounded x

  room-falls : (r s : List ℕ) → is_level r ≡ true → is_level s ≡ true → IsRounded level_lattice t.list r → IsRounded level_lattice t.list s → row_leq level_lattice r s ≡ true → row_leq level_lattice s r ≡ false → row_rungs s < row_rungs r
  room-falls [] s h j a b le not_up = absurd (cc)
  room-falls (x ∷ []) [] h j a b le not_up = absurd (cc)
  room-falls (x ∷ []) (y ∷ []) h j a b le not_up =
      let rx : rung_above x ≡ x = cc (a) in
      let ry : rung_above y ≡ y = cc (b) in
      let lt : x < y =
      ⊎_elim
      (λ (m : (leb y x ≡ true) × (y ≤ x)). let off : (true && true) ≡ false = rw m.0 at not_up in absurd (cc))
      (λ (m : (leb y x ≡ false) × (x < y)). m.1)
      (leb_tells y x) in
      rung-falls x y (leb-true y 255 j) rx ry lt
  room-falls (x ∷ []) (y ∷ (z ∷ zs)) h j a b le not_up = absurd (cc)
  room-falls (x ∷ (y ∷ xs)) s h j a b le not_up = absurd (cc)

  pub table-laws : IsFit t → MachineLaws level_lattice (table_machine t)
  table-laws fit = record {
    some_block = fit.some;
    source_below = λ e lt. let p = fit.each e lt in p.source;
    target_below = λ e lt. let p = fit.each e lt in p.target;
    by_source = fit.ordered;
    back_to_head = λ e lt le. let p = fit.each e lt in p.back le;
    own_width = level-width;
    attained_own = λ r h. h;
    start_attained = refl;
    through_attained = λ e r s lt h same. let p = fit.each e lt in pass-level (passage_at t e) r s p.fits same;
    join_attained = join-level;
    round_attained = round-level;
    room_bounded = room-bounded;
    room_falls = room-falls;
  }

  pub table-monotone : IsMonotone level_lattice (table_machine t)
  table-monotone e r s lt h j le = pass-monotone (passage_at t e) r s h j le

list_all-each : {X : Type 0} (f : X → Bool) (xs : List X) (d : X) → list_all f xs ≡ true → (e : ℕ) → e < length xs → f (slice_index_or xs e d) ≡ true
list_all-each f [] d h e lt = absurd (omega arith)
list_all-each f (x ∷ xs) d h zero lt = and_left (f x) (list_all f xs) h
list_all-each f (x ∷ xs) d h (suc e) lt = list_all-each f xs d (and_right (f x) (list_all f xs) h) e (omega arith)

ordered-each : (ps : List Passage) (none : Passage) → is_ordered ps ≡ true → (d e : ℕ) → d ≤ e → e < length ps → (slice_index_or ps d none).source ≤ (slice_index_or ps e none).source
ordered-each [] none h d e le lt = absurd (omega arith)
ordered-each (p ∷ ps) none h zero zero le lt = omega arith
ordered-each (p ∷ ps) none h zero (suc e) le lt =
    leb-true p.source (slice_index_or ps e none).source
    (list_all-each (λ q. leb p.source q.source) ps none (and_left _ _ h) e (omega arith))
ordered-each (p ∷ ps) none h (suc d) zero le lt = absurd (omega arith)
ordered-each (p ∷ ps) none h (suc d) (suc e) le lt =
    ordered-each ps none (and_right (list_all (λ q. leb p.source q.source) ps) _ h) d e (omega arith) (omega arith)

implied : (a b : Bool) → (not a || b) ≡ true → a ≡ true → b ≡ true
implied true b h e = h
implied false b h e = absurd (cc)

passage-from : (t : Table) (p : Passage) → is_passage t p ≡ true → IsPassage t p
passage-from t p h =
    let first = and_left _ (leb (p.cap + p.plus) 255) h in
    let second = and_left _ (not (leb p.target p.source) || slice_index_or t.heads p.target false) first in
    record {
      source = ltb-true p.source (length t.heads) (and_left _ _ second);
      target = ltb-true p.target (length t.heads) (and_right (ltb p.source (length t.heads)) _ second);
      back = λ le. implied (leb p.target p.source) _ (and_right (ltb p.source (length t.heads) && ltb p.target (length t.heads)) _ first) (le-leb p.target p.source le);
      fits = leb-true (p.cap + p.plus) 255 (and_right ((ltb p.source (length t.heads) && ltb p.target (length t.heads)) && (not (leb p.target p.source) || slice_index_or t.heads p.target false)) _ h);
    }

pub fit_from : (t : Table) → is_fit t ≡ true → IsFit t
fit_from t h =
    let a = and_left _ (is_ordered t.passages) h in
    let b = and_left _ (list_all (is_passage t) t.passages) a in
    let c = and_left _ (ltb (length t.passages) 1000) b in
    record {
      some = ltb-true 0 (length t.heads) (and_left _ _ c);
      few = ltb-true (length t.heads) 1000 (and_right (ltb 0 (length t.heads)) _ c);
      fewer = ltb-true (length t.passages) 1000 (and_right (ltb 0 (length t.heads) && ltb (length t.heads) 1000) _ b);
      each = λ e lt. passage-from t (passage_at t e) (list_all-each (is_passage t) t.passages _ (and_right ((ltb 0 (length t.heads) && ltb (length t.heads) 1000) && ltb (length t.passages) 1000) _ a) e lt);
      ordered = ordered-each t.passages _ (and_right (((ltb 0 (length t.heads) && ltb (length t.heads) 1000) && ltb (length t.passages) 1000) && list_all (is_passage t) t.passages) _ h);
    }
