-- A block is a head exactly where an edge from the same or a later block enters it.
use Rattle.std.proofs.Common.{◌≡◌, ◌≢◌, ◌<◌, ◌≤◌, ◌==◌, ◌⊎◌, inl, inr, ℕ, zero, suc, Bool, true, false, cond, ◌&&◌, ◌||◌, nat_le, List, [], ◌∷◌, length, refl, arith, ap, sym, ◌∙◌}
use Rattle.std.specs.List.{list_any}
use Rattle.std.proofs.lemmas.Bool.Decides.{eqb_tells, leb_tells}
use Rattle.lower_templates.specs.Views.ProgramViews.{BlockView, EdgeView}
use Rattle.lower.specs.Inlining.Inlinings.{head_set, head_if, with_heads}
use Rattle.lower.specs.Inlining.WellMade.{goes_back, head_at}

length_head : (bs : List BlockView) (n : ℕ) → length (head_set bs n) ≡ length bs
length_head [] n = refl
length_head (b ∷ bs) zero = refl
length_head (b ∷ bs) (suc n) = ap suc (length_head bs n)

length_if : (e : EdgeView) (bs : List BlockView) (b : Bool) → length (cond b (head_set bs e.to) bs) ≡ length bs
length_if e bs true = length_head bs e.to
length_if e bs false = refl

pub length_heads : (es : List EdgeView) (bs : List BlockView) → length (with_heads es bs) ≡ length bs
length_heads [] bs = refl
length_heads (e ∷ es) bs = length_heads es (head_if e bs) ∙ length_if e bs (nat_le e.to e.from)

head_here : (bs : List BlockView) (n : ℕ) → n < length bs → head_at (head_set bs n) n ≡ true
head_here [] n within = absurd (omega arith)
head_here (b ∷ bs) zero within = refl
head_here (b ∷ bs) (suc n) within = head_here bs n (omega arith)

head_there : (bs : List BlockView) (m n : ℕ) → (m ≡ n → ⊥) → head_at (head_set bs m) n ≡ head_at bs n
head_there [] m n other = refl
head_there (b ∷ bs) zero zero other = absurd (other refl)
head_there (b ∷ bs) zero (suc n) other = refl
head_there (b ∷ bs) (suc m) zero other = refl
head_there (b ∷ bs) (suc m) (suc n) other = head_there bs m n (λ same. other (ap suc same))

or_true : (b : Bool) → (b || true) ≡ true
or_true true = refl
or_true false = refl

or_false : (b : Bool) → (b || false) ≡ b
or_false true = refl
or_false false = refl

or_assoc : (a b c : Bool) → ((a || b) || c) ≡ (a || (b || c))
or_assoc true b c = refl
or_assoc false b c = refl

-- one edge: what was a head stays one
head_set_at : (bs : List BlockView) (m n : ℕ) → n < length bs → head_at (head_set bs m) n ≡ (head_at bs n || (m == n))
head_set_at bs m n within = by_same (eqb_tells m n)
  where
    by_same : (((m == n) ≡ true) × (m ≡ n)) ⊎ (((m == n) ≡ false) × (m ≢ n)) → head_at (head_set bs m) n ≡ (head_at bs n || (m == n))
    by_same (inl (is, same)) = ap (λ k. head_at (head_set bs k) n) same ∙ head_here bs n within ∙ sym (or_true (head_at bs n)) ∙ ap (λ b. head_at bs n || b) (sym is)
    by_same (inr (is, other)) = head_there bs m n other ∙ sym (or_false (head_at bs n)) ∙ ap (λ b. head_at bs n || b) (sym is)

back_same : (to n from : ℕ) → nat_le to from ≡ true → ((to == n) && nat_le n from) ≡ (to == n)
back_same to n from back = by_same (eqb_tells to n)
  where
    by_same : (((to == n) ≡ true) × (to ≡ n)) ⊎ (((to == n) ≡ false) × (to ≢ n)) → ((to == n) && nat_le n from) ≡ (to == n)
    by_same (inl (is, same)) = ap (λ b. b && nat_le n from) is ∙ ap (λ k. nat_le k from) (sym same) ∙ back ∙ sym is
    by_same (inr (is, other)) = ap (λ b. b && nat_le n from) is ∙ sym is

back_none : (to n from : ℕ) → nat_le to from ≡ false → ((to == n) && nat_le n from) ≡ false
back_none to n from ahead = by_same (eqb_tells to n)
  where
    by_same : (((to == n) ≡ true) × (to ≡ n)) ⊎ (((to == n) ≡ false) × (to ≢ n)) → ((to == n) && nat_le n from) ≡ false
    by_same (inl (is, same)) = ap (λ b. b && nat_le n from) is ∙ ap (λ k. nat_le k from) (sym same) ∙ ahead
    by_same (inr (is, other)) = ap (λ b. b && nat_le n from) is

head_if_at : (e : EdgeView) (bs : List BlockView) (n : ℕ) → n < length bs → head_at (head_if e bs) n ≡ (head_at bs n || goes_back n e)
head_if_at e bs n within = by_back (leb_tells e.to e.from)
  where
    by_back : ((nat_le e.to e.from ≡ true) × (e.to ≤ e.from)) ⊎ ((nat_le e.to e.from ≡ false) × (e.from < e.to)) → head_at (head_if e bs) n ≡ (head_at bs n || goes_back n e)
    by_back (inl (back, le)) =
        ap (λ b. head_at (cond b (head_set bs e.to) bs) n) back ∙ head_set_at bs e.to n within ∙ ap (λ b. head_at bs n || b) (sym (back_same e.to n e.from back))
    by_back (inr (ahead, less)) =
        ap (λ b. head_at (cond b (head_set bs e.to) bs) n) ahead ∙ sym (or_false (head_at bs n)) ∙ ap (λ b. head_at bs n || b) (sym (back_none e.to n e.from ahead))

-- all edges
pub heads_at : (es : List EdgeView) (bs : List BlockView) (n : ℕ) → n < length bs → head_at (with_heads es bs) n ≡ (head_at bs n || list_any (goes_back n) es)
heads_at [] bs n within = sym (or_false (head_at bs n))
heads_at (e ∷ es) bs n within =
    heads_at es (head_if e bs) n (let same = length_if e bs (nat_le e.to e.from) in omega (arith, same, within))
    ∙ ap (λ b. b || list_any (goes_back n) es) (head_if_at e bs n within)
    ∙ or_assoc (head_at bs n) (goes_back n e) (list_any (goes_back n) es)
