-- The marks of one pass over the edges are the blocks that edges go back to.
use Rattle.std.proofs.Common.{◌≡◌, ◌≢◌, ◌<◌, ◌≤◌, ◌==◌, ◌⊎◌, inl, inr, ℕ, zero, suc, Bool, true, false, cond, ◌&&◌, ◌||◌, nat_le, List, [], ◌∷◌, length, replicate, refl, arith, ap, sym, ◌∙◌}
use Rattle.std.specs.List.{list_any, slice_set}
use Rattle.std.proofs.lemmas.Bool.Decides.{eqb_tells, leb_tells}
use Rattle.cfg.specs.declared.flow_edges.Edge.{Edge}
use Rattle.cfg.specs.WellFormed.{goes_back}
use Rattle.cfg_checks.specs.EnteredBlocks.{mark_back, marks_behind, entered_blocks, is_entered}

length_marked : (marks : List Bool) (n : ℕ) → length (slice_set marks n true) ≡ length marks
length_marked [] n = refl
length_marked (m ∷ ms) zero = refl
length_marked (m ∷ ms) (suc n) = ap suc (length_marked ms n)

length_if : (e : Edge) (marks : List Bool) (b : Bool) → length (cond b (slice_set marks e.to true) marks) ≡ length marks
length_if e marks true = length_marked marks e.to
length_if e marks false = refl

mark_here : (marks : List Bool) (n : ℕ) → n < length marks → is_entered (slice_set marks n true) n ≡ true
mark_here [] n within = absurd (omega arith)
mark_here (m ∷ ms) zero within = refl
mark_here (m ∷ ms) (suc n) within = mark_here ms n (omega arith)

mark_there : (marks : List Bool) (k n : ℕ) → (k ≡ n → ⊥) → is_entered (slice_set marks k true) n ≡ is_entered marks n
mark_there [] k n other = refl
mark_there (m ∷ ms) zero zero other = absurd (other refl)
mark_there (m ∷ ms) zero (suc n) other = refl
mark_there (m ∷ ms) (suc k) zero other = refl
mark_there (m ∷ ms) (suc k) (suc n) other = mark_there ms k n (λ same. other (ap suc same))

or_true : (b : Bool) → (b || true) ≡ true
or_true true = refl
or_true false = refl

or_false : (b : Bool) → (b || false) ≡ b
or_false true = refl
or_false false = refl

or_assoc : (a b c : Bool) → ((a || b) || c) ≡ (a || (b || c))
or_assoc true b c = refl
or_assoc false b c = refl

-- one mark: what was marked stays so
marked_at : (marks : List Bool) (k n : ℕ) → n < length marks → is_entered (slice_set marks k true) n ≡ (is_entered marks n || (k == n))
marked_at marks k n within = by_same (eqb_tells k n)
  where
    by_same : (((k == n) ≡ true) × (k ≡ n)) ⊎ (((k == n) ≡ false) × (k ≢ n)) → is_entered (slice_set marks k true) n ≡ (is_entered marks n || (k == n))
    by_same (inl (is, same)) = ap (λ j. is_entered (slice_set marks j true) n) same ∙ mark_here marks n within ∙ sym (or_true (is_entered marks n)) ∙ ap (λ b. is_entered marks n || b) (sym is)
    by_same (inr (is, other)) = mark_there marks k n other ∙ sym (or_false (is_entered marks n)) ∙ ap (λ b. is_entered marks n || b) (sym is)

back_same : (to n from : ℕ) → nat_le to from ≡ true → ((to == n) && nat_le n from) ≡ (to == n)
back_same to n from back = by_same (eqb_tells to n)
  where
    by_same : (((to == n) ≡ true) × (to ≡ n)) ⊎ (((to == n) ≡ false) × (to ≢ n)) → ((to == n) && nat_le n from) ≡ (to == n)
    by_same (inl (is, same)) = ap (λ b. b && nat_le n from) is ∙ ap (λ j. nat_le j from) (sym same) ∙ back ∙ sym is
    by_same (inr (is, other)) = ap (λ b. b && nat_le n from) is ∙ sym is

back_none : (to n from : ℕ) → nat_le to from ≡ false → ((to == n) && nat_le n from) ≡ false
back_none to n from ahead = by_same (eqb_tells to n)
  where
    by_same : (((to == n) ≡ true) × (to ≡ n)) ⊎ (((to == n) ≡ false) × (to ≢ n)) → ((to == n) && nat_le n from) ≡ false
    by_same (inl (is, same)) = ap (λ b. b && nat_le n from) is ∙ ap (λ j. nat_le j from) (sym same) ∙ ahead
    by_same (inr (is, other)) = ap (λ b. b && nat_le n from) is

mark_back_at : (e : Edge) (marks : List Bool) (n : ℕ) → n < length marks → is_entered (mark_back e marks) n ≡ (is_entered marks n || goes_back n e)
mark_back_at e marks n within = by_back (leb_tells e.to e.from)
  where
    by_back : ((nat_le e.to e.from ≡ true) × (e.to ≤ e.from)) ⊎ ((nat_le e.to e.from ≡ false) × (e.from < e.to)) → is_entered (mark_back e marks) n ≡ (is_entered marks n || goes_back n e)
    by_back (inl (back, le)) =
        ap (λ b. is_entered (cond b (slice_set marks e.to true) marks) n) back ∙ marked_at marks e.to n within ∙ ap (λ b. is_entered marks n || b) (sym (back_same e.to n e.from back))
    by_back (inr (ahead, less)) =
        ap (λ b. is_entered (cond b (slice_set marks e.to true) marks) n) ahead ∙ sym (or_false (is_entered marks n)) ∙ ap (λ b. is_entered marks n || b) (sym (back_none e.to n e.from ahead))

-- all edges
marks_at : (es : List Edge) (marks : List Bool) (n : ℕ) → n < length marks → is_entered (marks_behind es marks) n ≡ (is_entered marks n || list_any (goes_back n) es)
marks_at [] marks n within = sym (or_false (is_entered marks n))
marks_at (e ∷ es) marks n within =
    marks_at es (mark_back e marks) n (let same = length_if e marks (nat_le e.to e.from) in omega (arith, same, within))
    ∙ ap (λ b. b || list_any (goes_back n) es) (mark_back_at e marks n within)
    ∙ or_assoc (is_entered marks n) (goes_back n e) (list_any (goes_back n) es)

none_marked : (count n : ℕ) → is_entered (replicate count false) n ≡ false
none_marked zero n = refl
none_marked (suc count) zero = refl
none_marked (suc count) (suc n) = none_marked count n

length_none : (count : ℕ) → length (replicate count false) ≡ count
length_none zero = refl
length_none (suc count) = ap suc (length_none count)

pub entered_at : (count : ℕ) (es : List Edge) (n : ℕ) → n < count → is_entered (entered_blocks count es) n ≡ list_any (goes_back n) es
entered_at count es n within =
    marks_at es (replicate count false) n (let same = length_none count in omega (arith, same, within))
    ∙ ap (λ b. b || list_any (goes_back n) es) (none_marked count n)
