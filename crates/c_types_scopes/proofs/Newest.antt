-- The newest declaration of each name where one is added or taken away.
use Rattle.std.proofs.Common.{◌≡◌, ◌≢◌, ◌<◌, ◌≤◌, ◌+◌, ◌-◌, ◌==◌, ℕ, zero, suc, true, false, cond, List, [], ◌∷◌, ◌++◌, map, length, take, set, get_or, Option, Some, None, refl, sym, ◌∙◌, ap, subst, inl, inr, ◌⊎◌, append_assoc, append-nil, arith, rules, length-append, option_to_list}
use Rattle.std.proofs.lemmas.List.{map-append, length-map, get_or-set_same, get_or-set_other, get_or_append_left, get_or-append_right, take-append-le, take_all}
use Rattle.std.proofs.lemmas.Bool.{cases_lt}
use Rattle.std.proofs.lemmas.Bool.Decides.{eqb_tells}
use Rattle.std.proofs.Math.ListN.{get_or-eq_default}
use Rattle.c_types_scopes.specs.declared.scope_table.NameDeclaration.{NameDeclaration}
use Rattle.c_types_scopes.specs.declared.scope_table.ScopeEntry.{ScopeEntry}
use Rattle.c_types_scopes.specs.ScopeTables.{newest_from, newest}
use Rattle.c_types_scopes.specs.NewestNames.{declaration, declarations, HidesRight, IsIndexed}

from-snoc : (at name : ℕ) (ds : List NameDeclaration) (d : NameDeclaration) (found : Option ℕ) → newest_from at name (ds ++ d ∷ []) found ≡ cond (d.name == name) (Some (at + length ds)) (newest_from at name ds found)
unfolding newest_from
from-snoc at name [] d found = let none : at ≡ at + 0 = omega arith in ap (λ n. cond (d.name == name) (Some n) found) none
from-snoc at name (x ∷ ds) d found =
    let more : at + 1 + length ds ≡ at + suc (length ds) = omega arith in
    from-snoc (at + 1) name ds d (cond (x.name == name) (Some at) found)
    ∙ ap (λ n. cond (d.name == name) (Some n) (newest_from (at + 1) name ds (cond (x.name == name) (Some at) found))) more

pub newest-snoc : (ds : List NameDeclaration) (d : NameDeclaration) (name : ℕ) → newest (ds ++ d ∷ []) name ≡ cond (d.name == name) (Some (length ds)) (newest ds name)
newest-snoc ds d name =
    let all : 0 + length ds ≡ length ds = omega arith in
    from-snoc 0 name ds d None ∙ ap (λ n. cond (d.name == name) (Some n) (newest ds name)) all

pub declarations-snoc : (es : List ScopeEntry) (e : ScopeEntry) → declarations (es ++ e ∷ []) ≡ declarations es ++ e.declared ∷ []
declarations-snoc es e = map-append declaration es (e ∷ [])

pub newest-more : (es : List ScopeEntry) (e : ScopeEntry) (name : ℕ) → newest (declarations (es ++ e ∷ [])) name ≡ cond (e.declared.name == name) (Some (length es)) (newest (declarations es) name)
newest-more es e name =
    ap (λ ds. newest ds name) (declarations-snoc es e)
    ∙ newest-snoc (declarations es) e.declared name
    ∙ ap (λ n. cond (e.declared.name == name) (Some n) (newest (declarations es) name)) (length-map es declaration)

hides-snoc : (before es : List ScopeEntry) (e : ScopeEntry) → HidesRight before es → e.hidden ≡ newest (declarations (before ++ es)) e.declared.name → HidesRight before (es ++ e ∷ [])
hides-snoc before [] e hides here = (subst (λ l. e.hidden ≡ newest (declarations l) e.declared.name) (append-nil before) here, tt)
hides-snoc before (x ∷ es) e hides here =
    (hides.0, hides-snoc (before ++ x ∷ []) es e hides.1 (subst (λ l. e.hidden ≡ newest (declarations l) e.declared.name) (sym (append_assoc before (x ∷ []) es)) here))

hides-front : (before es : List ScopeEntry) (e : ScopeEntry) → HidesRight before (es ++ e ∷ []) → HidesRight before es × (e.hidden ≡ newest (declarations (before ++ es)) e.declared.name)
hides-front before [] e hides = (tt, subst (λ l. e.hidden ≡ newest (declarations l) e.declared.name) (sym (append-nil before)) hides.0)
hides-front before (x ∷ es) e hides =
    let more : HidesRight (before ++ x ∷ []) es × (e.hidden ≡ newest (declarations ((before ++ x ∷ []) ++ es)) e.declared.name) = hides-front (before ++ x ∷ []) es e hides.1 in
    ((hides.0, more.0), subst (λ l. e.hidden ≡ newest (declarations l) e.declared.name) (append_assoc before (x ∷ []) es) more.1)

-- a declaration more
pub indexed_more : (es now : List ScopeEntry) (heads heads_now : List (Option ℕ)) (e : ScopeEntry) (at : ℕ) → IsIndexed es heads → e.declared.name < length heads → e.hidden ≡ get_or heads e.declared.name None → at ≡ length es
    → now ≡ es ++ e ∷ [] → heads_now ≡ set heads e.declared.name (Some at) → IsIndexed now heads_now
indexed_more es now heads heads_now e at indexed room hidden is now_is heads_is =
    let new_heads : (name : ℕ) → get_or (set heads e.declared.name (Some at)) name None ≡ newest (declarations (es ++ e ∷ [])) name = λ name.
    elim (eqb_tells e.declared.name name) [
      | inl same ↦
          ap (λ n. get_or (set heads e.declared.name (Some at)) n None) (sym same.1)
          ∙ get_or-set_same heads e.declared.name (Some at) None room
          ∙ ap Some is
          ∙ sym (newest-more es e name ∙ ap (λ b. cond b (Some (length es)) (newest (declarations es) name)) same.0)
      | inr other ↦
          get_or-set_other heads e.declared.name name (Some at) None (λ h. other.1 (sym h))
          ∙ indexed.heads_are name
          ∙ sym (newest-more es e name ∙ ap (λ b. cond b (Some (length es)) (newest (declarations es) name)) other.0)
    ] in
    let made : IsIndexed (es ++ e ∷ []) (set heads e.declared.name (Some at)) = record {
      heads_are = new_heads;
      hides = hides-snoc [] es e indexed.hides (hidden ∙ indexed.heads_are e.declared.name);
    } in
    subst (λ l. IsIndexed l heads_now) (sym now_is) (subst (λ h. IsIndexed (es ++ e ∷ []) h) (sym heads_is) made)

within : (heads : List (Option ℕ)) (n x : ℕ) → get_or heads n None ≡ Some x → n < length heads
within heads n x h = elim (cases_lt n (length heads)) [
  | inl less ↦ less
  | inr more ↦ let bad : None ≡ Some x = sym (get_or-eq_default heads None more) ∙ h in search rules
]

-- a declaration less
indexed_front : (es : List ScopeEntry) (heads : List (Option ℕ)) (e : ScopeEntry) → IsIndexed (es ++ e ∷ []) heads → IsIndexed es (set heads e.declared.name e.hidden)
indexed_front es heads e indexed =
    let front : HidesRight [] es × (e.hidden ≡ newest (declarations es) e.declared.name) = hides-front [] es e indexed.hides in
    record {
      heads_are = λ name. elim (eqb_tells e.declared.name name) [
        | inl same ↦
            let kept : get_or heads name None ≡ Some (length es) = indexed.heads_are name ∙ newest-more es e name ∙ ap (λ b. cond b (Some (length es)) (newest (declarations es) name)) same.0 in
            let room : e.declared.name < length heads = subst (λ n. n < length heads) (sym same.1) (within heads name (length es) kept) in
            ap (λ n. get_or (set heads e.declared.name e.hidden) n None) (sym same.1)
            ∙ get_or-set_same heads e.declared.name e.hidden None room
            ∙ front.1
            ∙ ap (λ n. newest (declarations es) n) same.1
        | inr other ↦
            get_or-set_other heads e.declared.name name e.hidden None (λ h. other.1 (sym h))
            ∙ indexed.heads_are name
            ∙ newest-more es e name
            ∙ ap (λ b. cond b (Some (length es)) (newest (declarations es) name)) other.0
      ];
      hides = front.0;
    }

pub indexed_less : (old now : List ScopeEntry) (heads heads_now : List (Option ℕ)) (e : ScopeEntry) → IsIndexed old heads → old ≡ now ++ e ∷ [] → heads_now ≡ set heads e.declared.name e.hidden → IsIndexed now heads_now
indexed_less old now heads heads_now e indexed is heads_is =
    subst (λ h. IsIndexed now h) (sym heads_is) (indexed_front now heads e (subst (λ l. IsIndexed l heads) is indexed))

pub indexed_same : (es : List ScopeEntry) (heads heads_now : List (Option ℕ)) → IsIndexed es heads → ((other : ℕ) → get_or heads_now other None ≡ get_or heads other None) → IsIndexed es heads_now
indexed_same es heads heads_now indexed same = record { heads_are = λ name. same name ∙ indexed.heads_are name; hides = indexed.hides }

-- before any declaration
pub indexed_none : (es : List ScopeEntry) (heads : List (Option ℕ)) → es ≡ [] → heads ≡ [] → IsIndexed es heads
unfolding newest_from
indexed_none es heads no_es no_heads =
    let empty : IsIndexed [] [] = record { heads_are = λ name. refl; hides = tt } in
    subst (λ l. IsIndexed l heads) (sym no_es) (subst (λ h. IsIndexed [] h) (sym no_heads) empty)
