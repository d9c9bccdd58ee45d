-- Local objects that are noted, each once, and what their bases weigh.
use Rattle.std.proofs.Common.{◌≡◌, ◌≤◌, ℕ, zero, suc, ◌+◌, Bool, true, false, cond, List, [], ◌∷◌, ◌++◌, Option, Some, refl, arith, ap, subst}
use Rattle.std.specs.List.{slice_get, slice_set}
use Rattle.c_layout.specs.Types.{Ty}
use Rattle.lower_templates.specs.Worklist.Pieces.{NameView, Local, Outcome, Static, Literal, Allocation}
use Rattle.lower_objects.specs.Counts.BaseCounts.{is_new}
use Rattle.lower.specs.TemplateLaws.NamedBases.{site_weight, all_sites}

-- what is noted in one list is so in the other
abbrev pub Within : List Bool → List Bool → Type 0
Within [] [] = Unit {0}
Within [] (b ∷ bs) = ⊥
Within (a ∷ as_) [] = ⊥
Within (false ∷ as_) (b ∷ bs) = Within as_ bs
Within (true ∷ as_) (true ∷ bs) = Within as_ bs
Within (true ∷ as_) (false ∷ bs) = ⊥

pub within_same : (a : List Bool) → Within a a
within_same [] = tt
within_same (false ∷ as_) = within_same as_
within_same (true ∷ as_) = within_same as_

pub within_twice : (a b c : List Bool) → Within a b → Within b c → Within a c
within_twice [] [] [] x y = tt
within_twice [] [] (c ∷ cs) x y = absurd y
within_twice [] (b ∷ bs) c x y = absurd x
within_twice (a ∷ as_) [] c x y = absurd x
within_twice (false ∷ as_) (false ∷ bs) [] x y = absurd y
within_twice (false ∷ as_) (true ∷ bs) [] x y = absurd y
within_twice (true ∷ as_) (false ∷ bs) c x y = absurd x
within_twice (true ∷ as_) (true ∷ bs) [] x y = absurd y
within_twice (false ∷ as_) (false ∷ bs) (c ∷ cs) x y = within_twice as_ bs cs x y
within_twice (false ∷ as_) (true ∷ bs) (false ∷ cs) x y = absurd y
within_twice (false ∷ as_) (true ∷ bs) (true ∷ cs) x y = within_twice as_ bs cs x y
within_twice (true ∷ as_) (true ∷ bs) (false ∷ cs) x y = absurd y
within_twice (true ∷ as_) (true ∷ bs) (true ∷ cs) x y = within_twice as_ bs cs x y

abbrev pub after_slot : ℕ → List Bool → List Bool
after_slot n noted = cond (is_new noted n) (slice_set noted n true) noted

-- one more is noted
pub within_set : (a : List Bool) (n : ℕ) → Within a (slice_set a n true)
within_set [] n = tt
within_set (false ∷ as_) zero = within_same as_
within_set (true ∷ as_) zero = within_same as_
within_set (false ∷ as_) (suc n) = within_set as_ n
within_set (true ∷ as_) (suc n) = within_set as_ n

pub within_after : (n : ℕ) (a : List Bool) → Within a (after_slot n a)
within_after n a = by_new (is_new a n)
  where
    by_new : (b : Bool) → Within a (cond b (slice_set a n true) a)
    by_new true = within_set a n
    by_new false = within_same a

-- what is noted is not new
pub not_new : (a b : List Bool) (n : ℕ) → Within a b → is_new a n ≡ false → is_new b n ≡ false
not_new [] [] n w is = is
not_new [] (b ∷ bs) n w is = absurd w
not_new (a ∷ as_) [] n w is = absurd w
not_new (false ∷ as_) (b ∷ bs) zero w is = cc
not_new (true ∷ as_) (false ∷ bs) n w is = absurd w
not_new (true ∷ as_) (true ∷ bs) zero w is = refl
not_new (false ∷ as_) (b ∷ bs) (suc n) w is = not_new as_ bs n w is
not_new (true ∷ as_) (true ∷ bs) (suc n) w is = not_new as_ bs n w is

pub set_noted : (a : List Bool) (n : ℕ) → is_new (slice_set a n true) n ≡ false
set_noted [] n = refl
set_noted (b ∷ bs) zero = refl
set_noted (b ∷ bs) (suc n) = set_noted bs n

pub after_noted : (n : ℕ) (a : List Bool) → is_new (after_slot n a) n ≡ false
after_noted n a = by_new (is_new a n) refl
  where
    by_new : (b : Bool) → is_new a n ≡ b → is_new (cond b (slice_set a n true) a) n ≡ false
    by_new true is = set_noted a n
    by_new false is = is

-- a slot that is noted in the greater list may be noted in the smaller one
pub set_within : (a b : List Bool) (n : ℕ) → Within a b → is_new b n ≡ false → Within (slice_set a n true) b
set_within [] [] n w is = tt
set_within [] (b ∷ bs) n w is = absurd w
set_within (a ∷ as_) [] n w is = absurd w
set_within (true ∷ as_) (false ∷ bs) n w is = absurd w
set_within (false ∷ as_) (false ∷ bs) zero w is = cc
set_within (false ∷ as_) (true ∷ bs) zero w is = w
set_within (true ∷ as_) (true ∷ bs) zero w is = w
set_within (false ∷ as_) (b ∷ bs) (suc n) w is = set_within as_ bs n w is
set_within (true ∷ as_) (true ∷ bs) (suc n) w is = set_within as_ bs n w is

pub after_within : (n : ℕ) (a b : List Bool) → Within a b → is_new b n ≡ false → Within (after_slot n a) b
after_within n a b w is = by_new (is_new a n)
  where
    by_new : (k : Bool) → Within (cond k (slice_set a n true) a) b
    by_new true = set_within a b n w is
    by_new false = w

-- what the bases of noted objects weigh
abbrev pub slots_weight : (ℕ → ℕ) → ℕ → List Bool → ℕ
slots_weight object k [] = 0
slots_weight object k (b ∷ bs) = cond b (object k) 0 + slots_weight object (suc k) bs

pub within_weight : (object : ℕ → ℕ) (k : ℕ) (a b : List Bool) → Within a b → slots_weight object k a ≤ slots_weight object k b
within_weight object k [] [] w = omega arith
within_weight object k [] (b ∷ bs) w = absurd w
within_weight object k (a ∷ as_) [] w = absurd w
within_weight object k (false ∷ as_) (b ∷ bs) w = let le = within_weight object (suc k) as_ bs w in omega (arith, le)
within_weight object k (true ∷ as_) (true ∷ bs) w = let le = within_weight object (suc k) as_ bs w in omega (arith, le)
within_weight object k (true ∷ as_) (false ∷ bs) w = absurd w

pub new_weight : (object : ℕ → ℕ) (k : ℕ) (a : List Bool) (n : ℕ) → is_new a n ≡ true → slots_weight object k (slice_set a n true) ≡ slots_weight object k a + object (k + n)
new_weight object k [] n is = cc
new_weight object k (true ∷ bs) zero is = cc
new_weight object k (false ∷ bs) zero is = let here : k + 0 ≡ k = omega arith in let same = ap object here in omega (arith, same)
new_weight object k (b ∷ bs) (suc n) is =
    let there : suc k + n ≡ k + suc n = omega arith in
    let same = ap object there in
    let more = new_weight object (suc k) bs n is in
    omega (arith, same, more)

abbrev pub adds_slot : (ℕ → ℕ) → ℕ → List Bool → ℕ
adds_slot object n noted = cond (is_new noted n) (object n) 0

slot_sum : (object : ℕ → ℕ) (n : ℕ) (a : List Bool) → adds_slot object n a + slots_weight object 0 a ≡ slots_weight object 0 (after_slot n a)
slot_sum object n a = by_new (is_new a n) refl
  where
    by_new : (b : Bool) → is_new a n ≡ b → cond b (object n) 0 + slots_weight object 0 a ≡ slots_weight object 0 (cond b (slice_set a n true) a)
    by_new true is =
        let here : 0 + n ≡ n = omega arith in
        let same = ap object here in
        let more = new_weight object 0 a n is in
        omega (arith, same, more)
    by_new false is = omega arith

-- a name: what it adds where these are noted, and what is noted then; the result stands behind so many
-- objects
abbrev pub adds : (ℕ → ℕ) → (Option Ty → ℕ) → ℕ → NameView → List Bool → ℕ
adds object site locals (Local n) noted = adds_slot object n noted
adds object site locals Outcome noted = adds_slot object locals noted
adds object site locals (Static n) noted = 0
adds object site locals (Literal n) noted = 0
adds object site locals (Allocation target) noted = site target

abbrev pub after : ℕ → NameView → List Bool → List Bool
after locals (Local n) noted = after_slot n noted
after locals Outcome noted = after_slot locals noted
after locals (Static n) noted = noted
after locals (Literal n) noted = noted
after locals (Allocation target) noted = noted

abbrev pub adds_all : (ℕ → ℕ) → (Option Ty → ℕ) → ℕ → List NameView → List Bool → ℕ
adds_all object site locals [] noted = 0
adds_all object site locals (x ∷ xs) noted = adds object site locals x noted + adds_all object site locals xs (after locals x noted)

abbrev pub after_all : ℕ → List NameView → List Bool → List Bool
after_all locals [] noted = noted
after_all locals (x ∷ xs) noted = after_all locals xs (after locals x noted)

pub adds_append : (object : ℕ → ℕ) (site : Option Ty → ℕ) (locals : ℕ) (xs ys : List NameView) (noted : List Bool) → adds_all object site locals (xs ++ ys) noted ≡ adds_all object site locals xs noted + adds_all object site locals ys (after_all locals xs noted)
adds_append object site locals [] ys noted = let e : adds_all object site locals ys noted ≡ 0 + adds_all object site locals ys noted = omega arith in e
adds_append object site locals (x ∷ xs) ys noted = let e = adds_append object site locals xs ys (after locals x noted) in omega (arith, e)

pub after_append : (locals : ℕ) (xs ys : List NameView) (noted : List Bool) → after_all locals (xs ++ ys) noted ≡ after_all locals ys (after_all locals xs noted)
after_append locals [] ys noted = refl
after_append locals (x ∷ xs) ys noted = after_append locals xs ys (after locals x noted)

slot_total : (a b c : ℕ) → a + b ≡ c → a + b ≡ c + 0
slot_total a b c is = omega arith

name_sum : (object : ℕ → ℕ) (site : Option Ty → ℕ) (locals : ℕ) (x : NameView) (noted : List Bool) → adds object site locals x noted + slots_weight object 0 noted ≡ slots_weight object 0 (after locals x noted) + site_weight site x
name_sum object site locals (Local n) noted = slot_total _ _ _ (slot_sum object n noted)
name_sum object site locals Outcome noted = slot_total _ _ _ (slot_sum object locals noted)
name_sum object site locals (Static n) noted = omega arith
name_sum object site locals (Literal n) noted = omega arith
name_sum object site locals (Allocation target) noted = omega arith

-- all that is added is the weight of what is noted, and of the sites
all_sum : (object : ℕ → ℕ) (site : Option Ty → ℕ) (locals : ℕ) (xs : List NameView) (noted : List Bool) → adds_all object site locals xs noted + slots_weight object 0 noted ≡ slots_weight object 0 (after_all locals xs noted) + all_sites site xs
all_sum object site locals [] noted = omega arith
all_sum object site locals (x ∷ xs) noted =
    let one = name_sum object site locals x noted in
    let more = all_sum object site locals xs (after locals x noted) in
    chain _ _ _ _ _ _ _ one more
  where
    chain : (a s b t f w v : ℕ) → a + s ≡ t + w → b + t ≡ f + v → (a + b) + s ≡ f + (w + v)
    chain a s b t f w v p q = omega arith

-- whether the slot of a name is noted
abbrev IsNoted : ℕ → NameView → List Bool → Type 0
IsNoted locals (Local n) noted = is_new noted n ≡ false
IsNoted locals Outcome noted = is_new noted locals ≡ false
IsNoted locals (Static n) noted = Unit {0}
IsNoted locals (Literal n) noted = Unit {0}
IsNoted locals (Allocation target) noted = Unit {0}

name_after : (locals : ℕ) (x : NameView) (a : List Bool) → Within a (after locals x a)
name_after locals (Local n) a = within_after n a
name_after locals Outcome a = within_after locals a
name_after locals (Static n) a = within_same a
name_after locals (Literal n) a = within_same a
name_after locals (Allocation target) a = within_same a

names_after : (locals : ℕ) (xs : List NameView) (a : List Bool) → Within a (after_all locals xs a)
names_after locals [] a = within_same a
names_after locals (x ∷ xs) a = within_twice a (after locals x a) (after_all locals xs (after locals x a)) (name_after locals x a) (names_after locals xs (after locals x a))

noted_after : (locals : ℕ) (x : NameView) (a : List Bool) → IsNoted locals x (after locals x a)
noted_after locals (Local n) a = after_noted n a
noted_after locals Outcome a = after_noted locals a
noted_after locals (Static n) a = tt
noted_after locals (Literal n) a = tt
noted_after locals (Allocation target) a = tt

still_noted : (locals : ℕ) (x : NameView) (a b : List Bool) → Within a b → IsNoted locals x a → IsNoted locals x b
still_noted locals (Local n) a b w is = not_new a b n w is
still_noted locals Outcome a b w is = not_new a b locals w is
still_noted locals (Static n) a b w is = tt
still_noted locals (Literal n) a b w is = tt
still_noted locals (Allocation target) a b w is = tt

name_within : (locals : ℕ) (x : NameView) (a b : List Bool) → Within a b → IsNoted locals x b → Within (after locals x a) b
name_within locals (Local n) a b w is = after_within n a b w is
name_within locals Outcome a b w is = after_within locals a b w is
name_within locals (Static n) a b w is = w
name_within locals (Literal n) a b w is = w
name_within locals (Allocation target) a b w is = w

-- where a name stands in a list
abbrev pub Has : List NameView → NameView → Type 0
Has ys x = (at : ℕ) × (slice_get ys at ≡ Some x)

some_same : (x y : NameView) → Some x ≡ Some y → x ≡ y
some_same x y is = cc

all_noted : (locals : ℕ) (ys : List NameView) (x : NameView) (at : ℕ) (a : List Bool) → slice_get ys at ≡ Some x → IsNoted locals x (after_all locals ys a)
all_noted locals [] x at a is = cc
all_noted locals (y ∷ ys) x zero a is =
    let same = some_same y x is in
    still_noted locals x (after locals y a) (after_all locals ys (after locals y a)) (names_after locals ys (after locals y a)) (subst (λ z. IsNoted locals z (after locals y a)) same (noted_after locals y a))
all_noted locals (y ∷ ys) x (suc at) a is = all_noted locals ys x at (after locals y a) is

abbrev pub AllHad : List NameView → List NameView → Type 0
AllHad ys [] = Unit {0}
AllHad ys (x ∷ xs) = Has ys x × AllHad ys xs

names_within : (locals : ℕ) (xs ys : List NameView) (start a : List Bool) → Within a (after_all locals ys start) → AllHad ys xs → Within (after_all locals xs a) (after_all locals ys start)
names_within locals [] ys start a w had = w
names_within locals (x ∷ xs) ys start a w ((at, is), had) =
    names_within locals xs ys start (after locals x a) (name_within locals x a (after_all locals ys start) w (all_noted locals ys x at start is)) had

-- names of a list weigh no more than the list, where their sites do
pub adds_within : (object : ℕ → ℕ) (site : Option Ty → ℕ) (locals : ℕ) (xs ys : List NameView) (start : List Bool) → AllHad ys xs → all_sites site xs ≤ all_sites site ys → adds_all object site locals xs start ≤ adds_all object site locals ys start
adds_within object site locals xs ys start had sites =
    let one = all_sum object site locals xs start in
    let other = all_sum object site locals ys start in
    let less = within_weight object 0 (after_all locals xs start) (after_all locals ys start) (names_within locals xs ys start start (names_after locals ys start) had) in
    chain _ _ _ _ _ _ _ one other less sites
  where
    chain : (a b s f g v w : ℕ) → a + s ≡ f + v → b + s ≡ g + w → f ≤ g → v ≤ w → a ≤ b
    chain a b s f g v w p q le sites = omega arith
