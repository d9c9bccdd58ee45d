-- Objects of scopes, scope by scope.
use Rattle.std.proofs.Common.{◌≡◌, ℕ, suc, ◌+◌, ◌-◌, ◌<◌, ◌≤◌, ◌||◌, List, [], ◌∷◌, ◌++◌, length, get_or, drop, reverse, Option, Some, None, Vec, Global, refl, ap, sym, ◌∙◌, arith}
use Rattle.std.proofs.lemmas.List.{at_drop_more, reverse-append, map-append}
use Rattle.lower_functions.specs.Functions.Functions.{numbers_from}
use Rattle.semantics.specs.SourceMachine.Scopes.{is_in, all_of, without, inwards}
use Rattle.interp_stack.specs.Scans.{scopes_view}
use Rattle.interp_stack.proofs.Unknown.{is_in-append, without-append}

pub open_at : (o : ℕ) (scopes : List (Vec ℕ Global)) (k : ℕ) (v : Vec ℕ Global) → k < length scopes → v ≡ get_or scopes k v → is_in o (all_of (scopes_view (drop k scopes))) ≡ (is_in o v.items || is_in o (all_of (scopes_view (drop (k + 1) scopes))))
open_at o scopes k v h e =
    at_drop_more (λ ss. is_in o (all_of (scopes_view ss))) scopes k v h
    ∙ ap (λ w. is_in o (w.items ++ all_of (scopes_view (drop (k + 1) scopes)))) (sym e)
    ∙ is_in-append o v.items (all_of (scopes_view (drop (k + 1) scopes)))

pub left_at : (known : List ℕ) (scopes : List (Vec ℕ Global)) (k : ℕ) (v : Vec ℕ Global) → k < length scopes → v ≡ get_or scopes k v → without known (all_of (scopes_view (drop k scopes))) ≡ without known v.items ++ without known (all_of (scopes_view (drop (k + 1) scopes)))
left_at known scopes k v h e =
    at_drop_more (λ ss. without known (all_of (scopes_view ss))) scopes k v h
    ∙ ap (λ w. without known (w.items ++ all_of (scopes_view (drop (k + 1) scopes)))) (sym e)
    ∙ without-append known v.items (all_of (scopes_view (drop (k + 1) scopes)))

pub entered_at : (known : List ℕ) (scopes : List (Vec ℕ Global)) (k : ℕ) (v : Vec ℕ Global) → 0 < k → k ≤ length scopes → v ≡ get_or scopes (k - 1) v → without known (inwards (scopes_view (drop (k - 1) scopes))) ≡ without known (inwards (scopes_view (drop k scopes))) ++ without known v.items
entered_at known scopes k v positive within e =
    let below : k - 1 < length scopes = omega arith in
    let next : k - 1 + 1 ≡ k = omega arith in
    at_drop_more (λ ss. without known (inwards (scopes_view ss))) scopes (k - 1) v below
    ∙ ap (λ w. without known (inwards (scopes_view (drop (k - 1 + 1) scopes)) ++ w.items)) (sym e)
    ∙ ap (λ n. without known (inwards (scopes_view (drop n scopes)) ++ v.items)) next
    ∙ without-append known (inwards (scopes_view (drop k scopes))) v.items

pub numbers_back : (from k count : ℕ) → 0 < k → k ≤ count → reverse (numbers_from (from + (k - 1)) (count - (k - 1))) ≡ reverse (numbers_from (from + k) (count - k)) ++ (from + (k - 1)) ∷ []
numbers_back from k count positive within =
    let more : count - (k - 1) ≡ suc (count - k) = omega arith in
    let next : from + (k - 1) + 1 ≡ from + k = omega arith in
    ap (λ n. reverse (numbers_from (from + (k - 1)) n)) more
    ∙ reverse-append ((from + (k - 1)) ∷ []) (numbers_from (from + (k - 1) + 1) (count - k))
    ∙ ap (λ m. reverse (numbers_from m (count - k)) ++ (from + (k - 1)) ∷ []) next

pub view-reverse : (scopes : List (Vec ℕ Global)) → scopes_view (reverse scopes) ≡ reverse (scopes_view scopes)
view-reverse [] = refl
view-reverse (v ∷ vs) =
    ap scopes_view (reverse-append (v ∷ []) vs)
    ∙ map-append (λ scope. scope.items) (reverse vs) (v ∷ [])
    ∙ ap (λ l. l ++ v.items ∷ []) (view-reverse vs)
    ∙ sym (reverse-append (v.items ∷ []) (scopes_view vs))

pub no_items : {A : Type 0} (xs : List A) → length xs ≡ 0 → xs ≡ []
no_items [] h = refl
no_items (x ∷ xs) h = absurd (omega arith)

pub no_item : {A : Type 0} (o : Option A) → ((x : A) → o ≡ Some x → ⊥) → o ≡ None
no_item None h = refl
no_item (Some x) h = absurd (h x refl)
