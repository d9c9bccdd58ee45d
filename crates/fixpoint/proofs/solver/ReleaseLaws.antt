-- A map whose rows are given back one after another.
use Rattle.std.proofs.Common.{◌≡◌, ◌≢◌, ◌+◌, ◌<◌, ◌≤◌, ℕ, suc, List, [], ◌∷◌, length, replicate, set, take, Option, None, slice_index_or, count_by, cond, refl, sym, ap, subst, arith, ◌∙◌, ⊎_elim, get_or-set_same, get_or-set_other}
use Rattle.std.proofs.lemmas.Bool.{cases_eq, cases_lt}
use Rattle.std.proofs.lemmas.List.{get_or_past}
use Rattle.std.proofs.lemmas.List.Sums.{sum_by_more}
use Rattle.fixpoint.specs.declared.pool.row_name.Row.{Row}
use Rattle.fixpoint.specs.Solver.RowMap.{is_held}

pub done_more : (slots : List (Option Row)) (slot : Option Row) (i : ℕ) → i < length slots → slot ≡ None → ((b : ℕ) → b < i → slice_index_or slots b None ≡ None) → (b : ℕ) → b < i + 1 → slice_index_or (set slots i slot) b None ≡ None
done_more slots slot i lt e done b below =
    ⊎_elim
    (λ (same : b ≡ i). subst (λ n. slice_index_or (set slots i slot) n None ≡ None) (sym same) (get_or-set_same slots i slot None lt ∙ e))
    (λ (ne : b ≡ i → ⊥).
    let ne' : b ≢ i = ne in
    get_or-set_other slots i b slot None ne ∙ done b (omega arith))
    (cases_eq b i)

pub rest_more : (slots old : List (Option Row)) (slot : Option Row) (i : ℕ) → ((b : ℕ) → i ≤ b → slice_index_or slots b None ≡ slice_index_or old b None) → (b : ℕ) → i + 1 ≤ b → slice_index_or (set slots i slot) b None ≡ slice_index_or old b None
rest_more slots old slot i rest b above =
    get_or-set_other slots i b slot None (λ (same : b ≡ i). absurd (omega arith)) ∙ rest b (omega arith)

pub held_more : (old : List (Option Row)) (slot : Option Row) (i before now first : ℕ) → i < length old → slot ≡ slice_index_or old i None → before ≡ first + count_by is_held (take i old) → now ≡ before + count_by is_held (slot ∷ []) → now ≡ first + count_by is_held (take (i + 1) old)
held_more old slot i before now first lt e h k =
    let more : count_by is_held (take (i + 1) old) ≡ count_by is_held (take i old) + cond (is_held (slice_index_or old i None)) 1 0 =
    sum_by_more (λ x. cond (is_held x) 1 0) old i None lt in
    let k' : now ≡ before + count_by is_held (slice_index_or old i None ∷ []) = subst (λ s. now ≡ before + count_by is_held (s ∷ [])) e k in
    omega arith

pub all_vacant : (slots : List (Option Row)) → ((b : ℕ) → slice_index_or slots b None ≡ None) → slots ≡ replicate (length slots) None
all_vacant [] h = refl
all_vacant (x ∷ slots) h =
    let here : x ≡ None = h 0 in
    let rest : slots ≡ replicate (length slots) None = all_vacant slots (λ b. h (suc b)) in
    ap (λ y. y ∷ slots) here ∙ ap (λ s. None ∷ s) rest

pub all_done : (slots : List (Option Row)) (i : ℕ) → length slots ≤ i → ((b : ℕ) → b < i → slice_index_or slots b None ≡ None) → slots ≡ replicate (length slots) None
all_done slots i le done =
    all_vacant slots
    (λ b.
    ⊎_elim
    (λ (lt : b < i). done b lt)
    (λ (ge : i ≤ b). get_or_past slots b None (omega arith))
    (cases_lt b i))
