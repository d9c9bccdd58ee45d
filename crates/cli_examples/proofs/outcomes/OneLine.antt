-- One pair is told in one line.
use Rattle.std.proofs.Common.{◌≡◌, zero, suc, List, [], ◌∷◌, Contains, refl, sym, ap, subst, arith}
use Rattle.std.specs.List.Sorted.{IsStrictlySortedBy}
use Rattle.std.specs.declared.cmp.Ordering.TheVariants.{Less, Equal, Greater}
use Rattle.cc_base.specs.DiagnosticOrder.{IsOrderedSet, diagnostic_compare}
use Rattle.cc_base.specs.declared.diagnostics.Diag.{Diag}
use Rattle.cli_answers.specs.Verdicts.{report_status}
use Rattle.cli_examples.specs.Units.WorkedPlaces.{division}
use Rattle.cli_examples.specs.Outcomes.OneLine.{OneLine, TwoLines}

-- ---- what is in a list

first_there : (d : Diag) (ds : List Diag) → Contains (d ∷ ds) d
first_there d ds = (0, omega arith, refl)

second_there : (d e : Diag) (ds : List Diag) → Contains (d ∷ (e ∷ ds)) e
second_there d e ds = (1, omega arith, refl)

none_there : (d : Diag) → Contains [] d → ⊥
none_there d (k, lt, at) = omega (arith, lt)

one_there : (d e : Diag) → Contains (d ∷ []) e → e ≡ d
one_there d e (zero, lt, at) = sym at
one_there d e (suc k, lt, at) = absurd (omega (arith, lt))

is_least : (d e : Diag) (ds : List Diag) → IsStrictlySortedBy diagnostic_compare (d ∷ (e ∷ ds)) → diagnostic_compare d e ≡ Less
unfolding IsStrictlySortedBy
is_least d e ds h = h.0.0

-- ---- one pair

not_below : diagnostic_compare (division 24) (division 24) ≡ Less → ⊥
not_below e = let same : Equal ≡ Less = e in absurd (cc same)

one_list : (diags : List Diag) → IsOrderedSet (division 24 ∷ []) diags → diags ≡ division 24 ∷ []
one_list [] is = absurd (none_there (division 24) (is.kept (division 24) (first_there (division 24) [])))
one_list (d ∷ []) is = ap (λ (e : Diag). e ∷ []) (one_there (division 24) d (is.made d (first_there d [])))
one_list (d ∷ (e ∷ ds)) is =
    let first = one_there (division 24) d (is.made d (first_there d (e ∷ ds))) in
    let second = one_there (division 24) e (is.made e (second_there d e ds)) in
    let below = subst (λ (x : Diag). diagnostic_compare x e ≡ Less) first (is_least d e ds is.ascending) in
    absurd (not_below (subst (λ (x : Diag). diagnostic_compare (division 24) x ≡ Less) second below))

twice : (d e : Diag) → Contains (d ∷ (d ∷ [])) e → Contains (d ∷ []) e
twice d e (zero, lt, at) = (0, omega arith, at)
twice d e (suc zero, lt, at) = (0, omega arith, at)
twice d e (suc (suc k), lt, at) = absurd (omega (arith, lt))

again : (d e : Diag) → Contains (d ∷ []) e → Contains (d ∷ (d ∷ [])) e
again d e (zero, lt, at) = (0, omega arith, at)
again d e (suc k, lt, at) = absurd (omega (arith, lt))

ascends_alone : (d : Diag) → IsStrictlySortedBy diagnostic_compare (d ∷ [])
unfolding IsStrictlySortedBy
ascends_alone d = (tt, tt)

pub one_line : OneLine
one_line = record {
  once = record { ascending = ascends_alone (division 24); kept = λ d h. h; made = λ d h. h };
  of_two = record { ascending = ascends_alone (division 24); kept = λ d h. twice (division 24) d h; made = λ d h. again (division 24) d h };
  no_other = one_list;
}

-- ---- two pairs

exchanged : (d e x : Diag) → Contains (d ∷ (e ∷ [])) x → Contains (e ∷ (d ∷ [])) x
exchanged d e x (zero, lt, at) = (1, omega arith, at)
exchanged d e x (suc zero, lt, at) = (0, omega arith, at)
exchanged d e x (suc (suc k), lt, at) = absurd (omega (arith, lt))

both_ascend : IsStrictlySortedBy diagnostic_compare (division 24 ∷ (division 30 ∷ []))
unfolding IsStrictlySortedBy
both_ascend = ((refl, tt), (tt, tt))

not_in_order : diagnostic_compare (division 30) (division 24) ≡ Less → ⊥
not_in_order e = let same : Greater ≡ Less = e in absurd (cc same)

other_column : division 30 ≡ division 24 → ⊥
other_column e = let same : 30 ≡ 24 = ap (λ (d : Diag). d.place.col) e in omega (arith, same)

neither : (x : Diag) → Contains (division 30 ∷ (division 24 ∷ [])) x → x.place.col ≡ 27 → ⊥
neither x (zero, lt, at) e = let same : 30 ≡ x.place.col = ap (λ (d : Diag). d.place.col) at in omega (arith, same, e)
neither x (suc zero, lt, at) e = let same : 24 ≡ x.place.col = ap (λ (d : Diag). d.place.col) at in omega (arith, same, e)
neither x (suc (suc k), lt, at) e = omega (arith, lt)

pub two_lines : TwoLines
two_lines = record {
  ordered = record {
    ascending = both_ascend;
    kept = λ d h. exchanged (division 30) (division 24) d h;
    made = λ d h. exchanged (division 24) (division 30) d h;
  };
  other_order = λ is. not_in_order (is_least (division 30) (division 24) [] is.ascending);
  shorter = λ is. other_column (one_there (division 24) (division 30) (is.kept (division 30) (first_there (division 30) (division 24 ∷ []))));
  longer = λ is. neither (division 27) (is.made (division 27) (second_there (division 24) (division 27) (division 30 ∷ []))) refl;
}

-- ---- the status

pub found_is_told : (d : Diag) (pairs diags : List Diag) → IsOrderedSet (d ∷ pairs) diags → report_status diags ≡ 1
found_is_told d pairs [] is = absurd (none_there d (is.kept d (first_there d pairs)))
found_is_told d pairs (e ∷ es) is = refl

pub nothing_is_told : (diags : List Diag) → IsOrderedSet [] diags → diags ≡ []
nothing_is_told [] is = refl
nothing_is_told (d ∷ ds) is = absurd (none_there d (is.made d (first_there d ds)))
