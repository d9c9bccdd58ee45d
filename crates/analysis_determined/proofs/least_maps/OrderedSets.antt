-- Lists of diagnostics in order with the same diagnostics are the same lists.
use Rattle.std.specs.Prelude.{◌≡◌, List, [], ◌∷◌, Contains, refl}
use Rattle.std.specs.Ordering.{nat_cmp, ordering_then, ordering_reverse}
use Rattle.std.specs.Cmp.{then_flip}
use Rattle.std.specs.List.{AllByRecursion}
use Rattle.std.specs.List.Sorted.{IsStrictlySortedBy}
use Rattle.std.specs.declared.cmp.Ordering.{Ordering}
use Rattle.std.specs.declared.cmp.Ordering.TheVariants.{Less, Greater}
use Rattle.std.proofs.Common.{sym, subst, subst₂, ap, ◌∙◌, inl, inr}
use Rattle.std.proofs.lemmas.Cmp.{nat_cmp_total}
use Rattle.cc_base.specs.DiagnosticOrder.{rule_rank, place_compare, diagnostic_compare}
use Rattle.cc_base.specs.declared.diagnostics.Diag.{Diag}
use Rattle.cc_base.specs.declared.diagnostics.Place.{Place}
use Rattle.system_monotone.proofs.diagnostics.FewestPairs.{In, AreIn, in_from, contains_in}

-- ---- the order has two directions

unrolled_then : (a b c d : Ordering) → a ≡ ordering_reverse c → b ≡ ordering_reverse d → ordering_then a b ≡ ordering_reverse (ordering_then c d)
unrolled_then a b c d e f = subst₂ (λ u v. ordering_then u v ≡ ordering_reverse (ordering_then c d)) (sym e) (sym f) (then_flip c d)

place_unrolled : (p q : Place) → place_compare p q ≡ ordering_reverse (place_compare q p)
place_unrolled p q =
    unrolled_then (nat_cmp p.file q.file) (ordering_then (nat_cmp p.line q.line) (nat_cmp p.col q.col)) (nat_cmp q.file p.file) (ordering_then (nat_cmp q.line p.line) (nat_cmp q.col p.col)) (nat_cmp_total.antisymm p.file q.file)
    (unrolled_then (nat_cmp p.line q.line) (nat_cmp p.col q.col) (nat_cmp q.line p.line) (nat_cmp q.col p.col) (nat_cmp_total.antisymm p.line q.line) (nat_cmp_total.antisymm p.col q.col))

turned : (d e : Diag) → diagnostic_compare d e ≡ ordering_reverse (diagnostic_compare e d)
turned d e = unrolled_then (place_compare d.place e.place) (nat_cmp (rule_rank d.rule) (rule_rank e.rule)) (place_compare e.place d.place) (nat_cmp (rule_rank e.rule) (rule_rank d.rule)) (place_unrolled d.place e.place) (nat_cmp_total.antisymm (rule_rank d.rule) (rule_rank e.rule))

one_way : (d e : Diag) → diagnostic_compare d e ≡ Less → diagnostic_compare e d ≡ Less → ⊥
one_way d e h k = let m : Less ≡ Greater = sym h ∙ (turned d e ∙ ap ordering_reverse k) in cc

-- ---- lists in order

below_each : (d : Diag) (xs : List Diag) → AllByRecursion (λ e. diagnostic_compare d e ≡ Less) xs → (e : Diag) → In xs e → diagnostic_compare d e ≡ Less
below_each d [] h e i = absurd i
below_each d (x ∷ xs) h e (inl p) = subst (λ z. diagnostic_compare d z ≡ Less) p h.0
below_each d (x ∷ xs) h e (inr i) = below_each d xs h.1 e i

-- what is behind the first of a list is in the rest of another one with that first
behind : (x : Diag) (xs ys : List Diag) → AllByRecursion (λ e. diagnostic_compare x e ≡ Less) xs → AreIn (x ∷ xs) (x ∷ ys) → AreIn xs ys
behind x xs ys h k d i = elim (k d (inr i)) [
  | inl p ↦ absurd (let b = subst (λ z. diagnostic_compare x z ≡ Less) (sym p) (below_each x xs h d i) in one_way x x b b)
  | inr j ↦ j
]

-- the first of two lists in order with the same diagnostics
first_same : (x y : Diag) (xs ys : List Diag) → AllByRecursion (λ e. diagnostic_compare x e ≡ Less) xs → AllByRecursion (λ e. diagnostic_compare y e ≡ Less) ys → In (y ∷ ys) x → In (x ∷ xs) y → x ≡ y
first_same x y xs ys h k (inl p) j = sym p
first_same x y xs ys h k (inr i) (inl q) = q
first_same x y xs ys h k (inr i) (inr j) = absurd (one_way x y (below_each x xs h y j) (below_each y ys k x i))

same_lists : (xs ys : List Diag) → IsStrictlySortedBy diagnostic_compare xs → IsStrictlySortedBy diagnostic_compare ys → AreIn xs ys → AreIn ys xs → xs ≡ ys
unfolding IsStrictlySortedBy
same_lists [] [] s t h k = refl
same_lists [] (y ∷ ys) s t h k = absurd (k y (inl refl))
same_lists (x ∷ xs) [] s t h k = absurd (h x (inl refl))
same_lists (x ∷ xs) (y ∷ ys) s t h k =
    let e : x ≡ y = first_same x y xs ys s.0 t.0 (h x (inl refl)) (k y (inl refl)) in
    let there : AreIn (x ∷ xs) (x ∷ ys) = subst (λ z. AreIn (x ∷ xs) (z ∷ ys)) (sym e) h in
    let back : AreIn (x ∷ ys) (x ∷ xs) = subst (λ z. AreIn (z ∷ ys) (x ∷ xs)) (sym e) k in
    let below : AllByRecursion (λ d. diagnostic_compare x d ≡ Less) ys = subst (λ z. AllByRecursion (λ d. diagnostic_compare z d ≡ Less) ys) (sym e) t.0 in
    let rest : xs ≡ ys = same_lists xs ys s.1 t.1 (behind x xs ys s.0 there) (behind x ys xs below back) in
    λ i. e i ∷ rest i

pub one_list : (xs ys : List Diag) → IsStrictlySortedBy diagnostic_compare xs → IsStrictlySortedBy diagnostic_compare ys → ((d : Diag) → Contains xs d → Contains ys d) → ((d : Diag) → Contains ys d → Contains xs d) → xs ≡ ys
one_list xs ys s t h k = same_lists xs ys s t (λ d i. in_from ys d (h d (contains_in xs d i))) (λ d i. in_from xs d (k d (contains_in ys d i)))
