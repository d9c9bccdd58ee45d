-- Seeking a subobject, from the aggregates that were open at first.
use Rattle.std.proofs.Common.{◌≡◌, ◌<◌, ◌+◌, ◌-◌, ℕ, suc, Bool, true, false, cond, List, ◌∷◌, Option, Some, None, option_map, sym, ◌∙◌, ap, arith}
use Rattle.c_layout.specs.Types.{Ty, view}
use Rattle.c_types_scopes.specs.Known.{Known}
use Rattle.c_types_initializers.specs.Subobjects.{SubobjectView, OpenView, subobject_view, entered, next}
use Rattle.c_types_initializers.specs.ListStores.{found_or, sought_within}
use Rattle.c_types_initializers.specs.declared.subobjects.Subobject.{Subobject}

next_is : (k : Known) (had after : List OpenView) (n m : Option Subobject) → (option_map subobject_view n, after) ≡ next k had → n ≡ m → next k had ≡ (option_map subobject_view m, after)
next_is k had after n m h is = sym h ∙ ap (λ o. (option_map subobject_view o, after)) is

-- the search inside, after one aggregate more is entered
abbrev further : ℕ → ℕ → Known → (Ty → Bool) → List OpenView → Option SubobjectView × List OpenView
further most i k wanted l = sought_within (most - (i + 1)) k wanted l

one_level : (k : Known) (wanted : Ty → Bool) (most i : ℕ) (had : List OpenView) → i < most → sought_within (most - i) k wanted had ≡ found_or wanted (further most i k wanted) (next k had).0 (next k had).1
unfolding sought_within
one_level k wanted most i had some =
    let one : suc (most - (i + 1)) ≡ most - i = omega (arith, some) in
    sym (ap (λ m. sought_within m k wanted had) one)

-- the same, where the next subobject is known
level_is : (k : Known) (wanted : Ty → Bool) (most i : ℕ) (had after : List OpenView) (s : Option SubobjectView) → i < most → next k had ≡ (s, after) → sought_within (most - i) k wanted had ≡ found_or wanted (further most i k wanted) s after
level_is k wanted most i had after s some h = one_level k wanted most i had some ∙ ap (λ p. found_or wanted (further most i k wanted) p.0 p.1) h

pub nowhere : (k : Known) (wanted : Ty → Bool) (most i : ℕ) (start had after : List OpenView) (n : Option Subobject) → i < most → sought_within (most - i) k wanted had ≡ sought_within most k wanted start → (option_map subobject_view n, after) ≡ next k had → n ≡ None → (None, after) ≡ sought_within most k wanted start
nowhere k wanted most i start had after n some before h is = sym (level_is k wanted most i had after None some (next_is k had after n None h is)) ∙ before

pub here : (k : Known) (wanted : Ty → Bool) (most i : ℕ) (start had after : List OpenView) (n : Option Subobject) (s : Subobject) → i < most → sought_within (most - i) k wanted had ≡ sought_within most k wanted start → (option_map subobject_view n, after) ≡ next k had → n ≡ Some s → wanted (view s.ctype) ≡ true → (Some (subobject_view s), after) ≡ sought_within most k wanted start
here k wanted most i start had after n s some before h is always =
    sym (level_is k wanted most i had after (Some (subobject_view s)) some (next_is k had after n (Some s) h is)
    ∙ ap (λ b. cond b (Some (subobject_view s), after) (further most i k wanted (entered (subobject_view s) ∷ after))) always)
    ∙ before

pub inside : (k : Known) (wanted : Ty → Bool) (most i : ℕ) (start had after new : List OpenView) (n : Option Subobject) (s : Subobject) → i < most → sought_within (most - i) k wanted had ≡ sought_within most k wanted start → (option_map subobject_view n, after) ≡ next k had → n ≡ Some s → wanted (view s.ctype) ≡ false → new ≡ entered (subobject_view s) ∷ after → sought_within (most - (i + 1)) k wanted new ≡ sought_within most k wanted start
inside k wanted most i start had after new n s some before h is never goes =
    ap (further most i k wanted) goes
    ∙ sym (level_is k wanted most i had after (Some (subobject_view s)) some (next_is k had after n (Some s) h is)
    ∙ ap (λ b. cond b (Some (subobject_view s), after) (further most i k wanted (entered (subobject_view s) ∷ after))) never)
    ∙ before
