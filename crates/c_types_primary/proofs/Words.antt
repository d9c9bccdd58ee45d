-- The words of a type name, one by one.
use Rattle.std.proofs.Common.{◌≡◌, ◌<◌, ◌≤◌, ◌+◌, ℕ, suc, List, ◌∷◌, length, drop, slice_index_or, Ok, Err, sym, ◌∙◌, ap, subst, arith, drop-cons, Result}
use Rattle.std.specs.Result.{IsErrAnd}
use Rattle.cc_base.specs.declared.diagnostics.Place.{Place}
use Rattle.std.proofs.lemmas.List.{drop_all}
use Rattle.cc_base.specs.declared.refusals.Fault.{Fault}
use Rattle.c_layout.specs.declared.syntax_tree.expressions.TypeNameWord.{TypeNameWord}
use Rattle.cc_base.specs.declared.refusals.Stop.{Stop}
use Rattle.cc_base.specs.declared.refusals.Stop.TheVariants as stop
use Rattle.c_types_scopes.specs.Answers.{after, Leads}
use Rattle.c_types_scopes.specs.Refusals.{Ruled}
use Rattle.c_types_scopes.specs.States.{State}
use Rattle.c_types_primary.specs.declared.type_names.Said.{Said}
use Rattle.c_types_primary.specs.TypeNames.{WordsView, said_view, one_word, words_from}

at_word : (s : State) (at : Place) (said : WordsView) (ws : List TypeNameWord) (i : ℕ) (d : TypeNameWord) → i < length ws
    → words_from s at said (drop i ws) ≡ after (one_word s at said (slice_index_or ws i d)) (λ said' s'. words_from s' at said' (drop (i + 1) ws))
unfolding words_from
at_word s at said ws i d some =
    let behind : suc i ≡ i + 1 = omega arith in
    let cut : drop i ws ≡ slice_index_or ws i d ∷ drop (suc i) ws = drop-cons ws i d some in
    ap (words_from s at said) cut
    ∙ ap (λ n. after (one_word s at said (slice_index_or ws i d)) (λ said' s'. words_from s' at said' (drop n ws))) behind

pub one_more : (s s' : State) (at : Place) (said said' : WordsView) (ws : List TypeNameWord) (i : ℕ) (w : TypeNameWord) (whole : Ruled (WordsView × State)) → i < length ws
    → words_from s at said (drop i ws) ≡ whole
    → w ≡ slice_index_or ws i w
    → one_word s at said w ≡ Ok (said', s')
    → words_from s' at said' (drop (i + 1) ws) ≡ whole
one_more s s' at said said' ws i w whole some before found is =
    let told : one_word s at said (slice_index_or ws i w) ≡ Ok (said', s') = ap (one_word s at said) (sym found) ∙ is in
    sym (at_word s at said ws i w some ∙ ap (λ r. after r (λ x y. words_from y at x (drop (i + 1) ws))) told) ∙ before

refused_at : (s : State) (at : Place) (said : WordsView) (ws : List TypeNameWord) (i : ℕ) (d : TypeNameWord) (whole : Ruled (WordsView × State)) (f : Fault) → i < length ws
    → words_from s at said (drop i ws) ≡ whole
    → one_word s at said (slice_index_or ws i d) ≡ Err f
    → whole ≡ Err f
refused_at s at said ws i d whole f some before is =
    sym before ∙ (at_word s at said ws i d some ∙ ap (λ r. after r (λ x y. words_from y at x (drop (i + 1) ws))) is)

pub no_more : (s : State) (at : Place) (said : WordsView) (ws : List TypeNameWord) (i : ℕ) (whole : Ruled (WordsView × State)) → length ws ≤ i
    → words_from s at said (drop i ws) ≡ whole
    → whole ≡ Ok (said, s)
unfolding words_from
no_more s at said ws i whole all before = sym before ∙ ap (words_from s at said) (drop_all i ws all)

-- the refusal of a word is one of the words, also behind the conversion of a `?`
refused_stop : (s s2 : State) (at : Place) (said : WordsView) (ws : List TypeNameWord) (i : ℕ) (w : TypeNameWord) (whole : Ruled (WordsView × State)) (e : Stop) → i < length ws
    → words_from s at said (drop i ws) ≡ whole
    → w ≡ slice_index_or ws i w
    → Leads said_view (one_word s at said w) (Err e) s2
    → Leads said_view whole (Err e) s2
refused_stop s s2 at said ws i w whole (stop.Refused f) some before found told = refused_at s at said ws i w whole f some before (ap (one_word s at said) (sym found) ∙ told)
refused_stop s s2 at said ws i w whole stop.Memory some before found told = tt
refused_stop s s2 at said ws i w whole stop.NotHeld some before found told = told
refused_stop s s2 at said ws i w whole stop.ReadFault some before found told = told

pub refused_word : (s s2 : State) (at : Place) (said : WordsView) (ws : List TypeNameWord) (i : ℕ) (w : TypeNameWord) (whole : Ruled (WordsView × State)) (e : Stop) (out : Result Said Stop) → i < length ws
    → words_from s at said (drop i ws) ≡ whole
    → w ≡ slice_index_or ws i w
    → Leads said_view (one_word s at said w) (Err e) s2
    → IsErrAnd out (λ x. x ≡ e)
    → Leads said_view whole out s2
refused_word s s2 at said ws i w whole e (Ok a) some before found told is = absurd is
refused_word s s2 at said ws i w whole e (Err x) some before found told is = subst (λ y. Leads said_view whole (Err y) s2) (sym is) (refused_stop s s2 at said ws i w whole e some before found told)
