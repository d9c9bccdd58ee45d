-- Enumeration constants, one by one.
use Rattle.std.proofs.Common.{◌≡◌, ◌<◌, ◌≤◌, ◌+◌, ℕ, suc, List, [], ◌∷◌, ◌++◌, map, length, drop, slice_index_or, Vec, Result, Ok, Err, refl, sym, ◌∙◌, ap, subst, arith, drop-cons, append_assoc, append-nil}
use Rattle.std.specs.Prelude.{ℤ}
use Rattle.std.specs.Global.{Global}
use Rattle.std.specs.Result.{IsErrAnd}
use Rattle.std.proofs.lemmas.List.{drop_all}
use Rattle.cc_base.specs.declared.refusals.Stop.{Stop}
use Rattle.cc_base.specs.declared.refusals.Stop.TheVariants as stop
use Rattle.c_layout.specs.DeclarationTrees.{enumerator_view}
use Rattle.c_layout.specs.declared.syntax_tree.declarations.Enumerator.{Enumerator}
use Rattle.c_types_scopes.specs.Answers.{after, Leads}
use Rattle.c_types_scopes.specs.Refusals.{Ruled}
use Rattle.c_types_scopes.specs.States.{State}
use Rattle.c_types_expressions.specs.Expressions.Expressions.{before}
use Rattle.c_types_expressions.proofs.expressions.Walks.{behind}
use Rattle.c_types_declarations.specs.Enumerations.{declare_enumerator, enumerator_values}

abbrev pub Values : Type 0
Values = Ruled (List ℤ × State)

abbrev pub with_list : State → List ℤ → Values
with_list s values = Ok (values, s)

-- what is left from the constant with a number on, behind the values that are made
abbrev pub left : State → List Enumerator → ℕ → ℤ → List ℤ → Values
left s es i last made = after (enumerator_values s (map enumerator_view (drop i es)) last) (behind made)

abbrev one_then : State → List Enumerator → ℕ → ℤ → List ℤ → Enumerator → Values
one_then s es i last made e = after (after (declare_enumerator s (enumerator_view e) last) (λ n t. after (enumerator_values t (map enumerator_view (drop i es)) n) (before n))) (behind made)

at_enumerator : (s : State) (es : List Enumerator) (i : ℕ) (last : ℤ) (made : List ℤ) (e : Enumerator) → i < length es → e ≡ slice_index_or es i e → left s es i last made ≡ one_then s es (i + 1) last made e
at_enumerator s es i last made e some found =
    let next : suc i ≡ i + 1 = omega arith in
    let cut : drop i es ≡ slice_index_or es i e ∷ drop (suc i) es = drop-cons es i e some in
    ap (λ l. after (enumerator_values s (map enumerator_view l) last) (behind made)) cut
    ∙ ap (λ m. one_then s es m last made (slice_index_or es i e)) next
    ∙ ap (one_then s es (i + 1) last made) (sym found)

joined : (rule : Values) (n : ℤ) (made : List ℤ) → after (after rule (before n)) (behind made) ≡ after rule (behind (made ++ n ∷ []))
joined (Ok p) n made = ap (with_list p.1) (sym (append_assoc made (n ∷ []) p.0))
joined (Err f) n made = refl

pub one_more : (s t : State) (es : List Enumerator) (i : ℕ) (e : Enumerator) (last n : ℤ) (made values : List ℤ) (whole : Values) → i < length es
    → whole ≡ left s es i last made
    → e ≡ slice_index_or es i e
    → declare_enumerator s (enumerator_view e) last ≡ Ok (n, t)
    → values ≡ made ++ n ∷ []
    → whole ≡ left t es (i + 1) n values
one_more s t es i e last n made values whole some had found told kept =
    had ∙ at_enumerator s es i last made e some found
    ∙ ap (λ r. after (after r (λ m u. after (enumerator_values u (map enumerator_view (drop (i + 1) es)) m) (before m))) (behind made)) told
    ∙ joined (enumerator_values t (map enumerator_view (drop (i + 1) es)) n) n made
    ∙ ap (left t es (i + 1) n) (sym kept)

pub no_more : (s : State) (es : List Enumerator) (i : ℕ) (last : ℤ) (made : List ℤ) (whole : Values) → length es ≤ i → whole ≡ left s es i last made → whole ≡ Ok (made, s)
no_more s es i last made whole all had =
    had ∙ ap (λ l. after (enumerator_values s (map enumerator_view l) last) (behind made)) (drop_all i es all)
    ∙ ap (with_list s) (append-nil made)

abbrev pub items_of : Vec ℤ Global → List ℤ
items_of v = v.items

refused_stop : {A : Type 0} (view : A → ℤ) (s t : State) (es : List Enumerator) (i : ℕ) (e : Enumerator) (last : ℤ) (made : List ℤ) (whole : Values) (x : Stop) → i < length es
    → whole ≡ left s es i last made
    → e ≡ slice_index_or es i e
    → Leads view (declare_enumerator s (enumerator_view e) last) (Err x) t
    → Leads items_of whole (Err x) t
refused_stop view s t es i e last made whole (stop.Refused f) some had found told =
    had ∙ at_enumerator s es i last made e some found
    ∙ ap (λ r. after (after r (λ m u. after (enumerator_values u (map enumerator_view (drop (i + 1) es)) m) (before m))) (behind made)) told
refused_stop view s t es i e last made whole stop.Memory some had found told = tt
refused_stop view s t es i e last made whole stop.NotHeld some had found told = told
refused_stop view s t es i e last made whole stop.ReadFault some had found told = told

-- the refusal of a constant is one of all, also behind the conversion of a `?`
pub refused_one : {A : Type 0} (view : A → ℤ) (s t : State) (es : List Enumerator) (i : ℕ) (e : Enumerator) (last : ℤ) (made : List ℤ) (whole : Values) (x : Stop) (out : Result (Vec ℤ Global) Stop) → i < length es
    → whole ≡ left s es i last made
    → e ≡ slice_index_or es i e
    → Leads view (declare_enumerator s (enumerator_view e) last) (Err x) t
    → IsErrAnd out (λ y. y ≡ x)
    → Leads items_of whole out t
refused_one view s t es i e last made whole x (Ok a) some had found told is = absurd is
refused_one view s t es i e last made whole x (Err y) some had found told is = subst (λ z. Leads items_of whole (Err z) t) (sym is) (refused_stop view s t es i e last made whole x some had found told)
