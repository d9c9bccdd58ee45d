-- Turns that rise along each call show that no call closes a cycle; functions of which each is called by another one of
-- them show that one does; and halving comes to the first.
use Rattle.std.proofs.Common.{◌≡◌, ◌<◌, ◌≤◌, ◌+◌, ◌==◌, ℕ, zero, suc, Bool, true, false, cond, List, [], ◌∷◌, Option, Some, None, is_some, refl, sym, subst, ap, inl, inr, arith, eqb-true, ltb-true, slice_get, take, length, unwrap_or, ◌∙◌, rules}
use Rattle.std.proofs.lemmas.Bool.{cases_Bool}
use Rattle.cc_base.specs.declared.diagnostics.Place.{Place}
use Rattle.c_types_rules.specs.declared.call_cycles.call_graph.Call.{Call}
use Rattle.c_types_rules.specs.CallCycles.CallCycles.{leads, closes, first_closing, first_cycle, is_cyclic}
use Rattle.c_types_rules.specs.CallCycles.Certificates.{turn_of, is_in_turn, are_in_turn, kept_for, is_kept_in, is_kept_at, is_held, are_held, any_kept}
use Rattle.c_types_rules.proofs.call_cycles.Leading.{Ranked, rises, at_itself, gone_on, without, through}

-- ---- turns

no_closing : (r : ℕ → ℕ) (before calls : List Call) → Ranked r before → Ranked r calls → is_some (first_closing before calls) ≡ false
unfolding first_closing
no_closing r before [] old new = refl
no_closing r before (c ∷ calls) old new =
    elim (cases_Bool (closes before c)) [
      | inl h ↦ absurd (let up : r c.callee ≤ r c.caller = rises r before c.callee c.caller old h in let here : r c.caller < r c.callee = new.0 in omega (arith, up, here))
      | inr h ↦ subst (λ b. is_some (cond b (Some c.place) (first_closing (c ∷ before) calls)) ≡ false) (sym h) (no_closing r (c ∷ before) calls (new.0, old) new.1)
    ]

ranked_by : (turns : List ℕ) (calls : List Call) → are_in_turn turns calls ≡ true → Ranked (turn_of turns) calls
unfolding are_in_turn
ranked_by turns [] h = tt
ranked_by turns (c ∷ calls) h =
    elim (cases_Bool (is_in_turn turns c)) [
      | inl e ↦ (ltb-true _ _ e, ranked_by turns calls (subst (λ b. cond b (are_in_turn turns calls) false ≡ true) e h))
      | inr e ↦ let bad : false ≡ true = subst (λ b. cond b (are_in_turn turns calls) false ≡ true) e h in search rules
    ]

pub in_turn_no_cycle : (turns : List ℕ) (calls : List Call) → are_in_turn turns calls ≡ true → false ≡ is_cyclic calls
in_turn_no_cycle turns calls h = sym (no_closing (turn_of turns) [] calls tt (ranked_by turns calls h))

-- ---- ranks where no call closes a cycle

-- each call's way on is open to its caller where it is to its callee
abbrev Opens : (ℕ → Bool) → List Call → Type 0
Opens p [] = Unit {0}
Opens p (d ∷ calls) = (p d.callee ≡ true → p d.caller ≡ true) × Opens p calls

abbrev raised : (ℕ → Bool) → (ℕ → ℕ) → ℕ → ℕ → ℕ
raised p r by f = cond (p f) (r f) (r f + (by + 1))

raised_one : (a b : Bool) (m n by : ℕ) → (b ≡ true → a ≡ true) → m < n → cond a m (m + (by + 1)) < cond b n (n + (by + 1))
raised_one true true m n by opens lt = lt
raised_one true false m n by opens lt = omega (arith, lt)
raised_one false true m n by opens lt = let bad : false ≡ true = opens refl in search rules
raised_one false false m n by opens lt = omega (arith, lt)

all_raised : (p : ℕ → Bool) (r : ℕ → ℕ) (by : ℕ) (calls : List Call) → Opens p calls → Ranked r calls → Ranked (raised p r by) calls
all_raised p r by [] opens ranked = tt
all_raised p r by (d ∷ calls) opens ranked = (raised_one (p d.caller) (p d.callee) (r d.caller) (r d.callee) by opens.0 ranked.0, all_raised p r by calls opens.1 ranked.1)

abbrev Joins : List Call → List Call → Type 0
Joins whole [] = Unit {0}
Joins whole (d ∷ calls) = (leads whole d.caller d.callee ≡ true) × Joins whole calls

joins_more : (c : Call) (whole calls : List Call) → Joins whole calls → Joins (c ∷ whole) calls
joins_more c whole [] h = tt
joins_more c whole (d ∷ calls) h = (without whole c d.caller d.callee h.0, joins_more c whole calls h.1)

joins : (calls : List Call) → Joins calls calls
joins [] = tt
joins (c ∷ calls) = (through calls c c.caller c.callee (at_itself calls c.caller) (at_itself calls c.callee), joins_more c calls calls (joins calls))

opens_by : (whole calls : List Call) (to : ℕ) → Joins whole calls → Opens (λ f. leads whole f to) calls
opens_by whole [] to h = tt
opens_by whole (d ∷ calls) to h = ((λ on. gone_on whole d.caller d.callee to h.0 on), opens_by whole calls to h.1)

-- a call that closes no cycle leaves ranks
ranked_more : (before : List Call) (c : Call) (r : ℕ → ℕ) → Ranked r before → leads before c.callee c.caller ≡ false → Ranked (raised (λ f. leads before f c.caller) r (r c.caller)) (c ∷ before)
ranked_more before c r ranked apart =
    let p : ℕ → Bool = λ f. leads before f c.caller in
    let here : p c.caller ≡ true = at_itself before c.caller in
    let low : raised p r (r c.caller) c.caller ≡ r c.caller = ap (λ b. cond b (r c.caller) (r c.caller + (r c.caller + 1))) here in
    let high : raised p r (r c.caller) c.callee ≡ r c.callee + (r c.caller + 1) = ap (λ b. cond b (r c.callee) (r c.callee + (r c.caller + 1))) apart in
    (omega (arith, low, high), all_raised p r (r c.caller) before (opens_by before before c.caller (joins before)) ranked)

record Ranks (before calls : List Call) : Type 0 where
  rank : ℕ → ℕ
  old : Ranked rank before
  new : Ranked rank calls

closed_none : (b : Bool) (p : Place) (o : Option Place) → is_some (cond b (Some p) o) ≡ false → (b ≡ false) × (is_some o ≡ false)
closed_none true p o h = search rules
closed_none false p o h = (refl, h)

ranks : (before calls : List Call) (r : ℕ → ℕ) → Ranked r before → is_some (first_closing before calls) ≡ false → Ranks before calls
unfolding first_closing
ranks before [] r ranked h = record { rank = r; old = ranked; new = tt }
ranks before (c ∷ calls) r ranked h =
    let parts : (closes before c ≡ false) × (is_some (first_closing (c ∷ before) calls) ≡ false) = closed_none (closes before c) c.place (first_closing (c ∷ before) calls) h in
    let more : Ranks (c ∷ before) calls = ranks (c ∷ before) calls (raised (λ f. leads before f c.caller) r (r c.caller)) (ranked_more before c r ranked parts.0) parts.1 in
    record { rank = more.rank; old = more.old.1; new = (more.old.0, more.new) }

-- ---- functions of which each is called by another one of them

ranked_at : (r : ℕ → ℕ) (calls : List Call) (at : ℕ) (c : Call) → Ranked r calls → slice_get calls at ≡ Some c → r c.caller < r c.callee
ranked_at r [] at c ranked h = search rules
ranked_at r (d ∷ calls) zero c ranked h = let same : d ≡ c = ap (λ o. unwrap_or o d) h in subst (λ e. r e.caller < r e.callee) same ranked.0
ranked_at r (d ∷ calls) (suc at) c ranked h = ranked_at r calls at c ranked.1 h

-- what is kept for a function is a call of it
pub record Kept (calls : List Call) (callers : List (Option ℕ)) (f : ℕ) : Type 0 where
  pub call : Call
  pub at : ℕ
  pub stands : slice_get calls at ≡ Some call
  pub of : call.callee ≡ f
  pub by : is_some (kept_for callers call.caller) ≡ true

no_ranks : (calls : List Call) (callers : List (Option ℕ)) (r : ℕ → ℕ) → Ranked r calls → ((f : ℕ) → is_some (kept_for callers f) ≡ true → Kept calls callers f)
    → (n f : ℕ) → r f < n → is_some (kept_for callers f) ≡ true → ⊥
no_ranks calls callers r ranked kept zero f lt h = omega (arith, lt)
no_ranks calls callers r ranked kept (suc n) f lt h =
    let k : Kept calls callers f = kept f h in
    let down : r k.call.caller < r k.call.callee = ranked_at r calls k.at k.call ranked k.stands in
    let here : r k.call.callee ≡ r f = ap r k.of in
    no_ranks calls callers r ranked kept n k.call.caller (omega (arith, down, here, lt)) k.by

cond_true : (a b : Bool) → cond a b false ≡ true → (a ≡ true) × (b ≡ true)
cond_true true b h = (refl, h)
cond_true false b h = search rules

kept_in : (calls : List Call) (callers : List (Option ℕ)) (f at : ℕ) (o : Option Call) → slice_get calls at ≡ o → is_kept_in callers f o ≡ true → Kept calls callers f
kept_in calls callers f at None stands h = search rules
kept_in calls callers f at (Some c) stands h =
    let parts : ((c.callee == f) ≡ true) × (is_some (kept_for callers c.caller) ≡ true) = cond_true (c.callee == f) (is_some (kept_for callers c.caller)) h in
    record { call = c; at = at; stands = stands; of = eqb-true c.callee f parts.0; by = parts.1 }

held_at : (calls : List Call) (callers : List (Option ℕ)) (n : ℕ) (part : List (Option ℕ)) → are_held calls callers n part ≡ true → (k f : ℕ) → f ≡ n + k → is_some (kept_for part k) ≡ true → (at : ℕ) × (is_kept_at calls callers f at ≡ true)
unfolding are_held
held_at calls callers n [] held k f is h = search rules
held_at calls callers n (Some at ∷ part) held zero f is h =
    let here : is_kept_at calls callers n at ≡ true = (cond_true (is_held calls callers n (Some at)) (are_held calls callers (n + 1) part) held).0 in
    let same : n ≡ f = omega (arith, is) in
    (at, subst (λ g. is_kept_at calls callers g at ≡ true) same here)
held_at calls callers n (None ∷ part) held zero f is h = search rules
held_at calls callers n (kept ∷ part) held (suc k) f is h =
    let more : are_held calls callers (n + 1) part ≡ true = (cond_true (is_held calls callers n kept) (are_held calls callers (n + 1) part) held).1 in
    let same : f ≡ n + 1 + k = omega (arith, is) in
    held_at calls callers (n + 1) part more k f same h

all_kept : (calls : List Call) (callers : List (Option ℕ)) → are_held calls callers 0 callers ≡ true → (f : ℕ) → is_some (kept_for callers f) ≡ true → Kept calls callers f
all_kept calls callers held f h =
    let found : (at : ℕ) × (is_kept_at calls callers f at ≡ true) = held_at calls callers 0 callers held f f (omega arith) h in
    kept_in calls callers f found.0 (slice_get calls found.0) refl found.1

some_kept : (callers : List (Option ℕ)) → any_kept callers ≡ true → (f : ℕ) × (is_some (kept_for callers f) ≡ true)
unfolding any_kept
some_kept [] h = search rules
some_kept (Some at ∷ more) h = (0, refl)
some_kept (None ∷ more) h = let found : (f : ℕ) × (is_some (kept_for more f) ≡ true) = some_kept more h in (suc found.0, found.1)

pub held_cycle : (calls : List Call) (callers : List (Option ℕ)) → any_kept callers ≡ true → are_held calls callers 0 callers ≡ true → true ≡ is_cyclic calls
held_cycle calls callers some held =
    elim (cases_Bool (is_cyclic calls)) [
      | inl h ↦ sym h
      | inr h ↦ absurd (
          let found : Ranks [] calls = ranks [] calls (λ f. 0) tt h in
          let first : (f : ℕ) × (is_some (kept_for callers f) ≡ true) = some_kept callers some in
          no_ranks calls callers found.rank found.new (all_kept calls callers held) (suc (found.rank first.0)) first.0 (omega arith) first.1)
    ]

-- ---- halving

closed_some : (b : Bool) (p : Place) → is_some (cond b (Some p) None) ≡ true → b ≡ true
closed_some true p h = refl
closed_some false p h = search rules

one_more : (before calls : List Call) (low : ℕ) (c : Call) → is_some (first_closing before (take low calls)) ≡ false → is_some (first_closing before (take (suc low) calls)) ≡ true → slice_get calls low ≡ Some c → first_closing before calls ≡ Some c.place
unfolding first_closing
one_more before [] low c h j at = search rules
one_more before (d ∷ calls) zero c h j at =
    let closing : closes before d ≡ true = closed_some (closes before d) d.place j in
    let same : d ≡ c = ap (λ o. unwrap_or o d) at in
    ap (λ b. cond b (Some d.place) (first_closing (d ∷ before) calls)) closing ∙ ap (λ e. Some e.place) same
one_more before (d ∷ calls) (suc low) c h j at =
    let parts : (closes before d ≡ false) × (is_some (first_closing (d ∷ before) (take low calls)) ≡ false) = closed_none (closes before d) d.place (first_closing (d ∷ before) (take low calls)) h in
    let behind : is_some (first_closing (d ∷ before) (take (suc low) calls)) ≡ true = subst (λ b. is_some (cond b (Some d.place) (first_closing (d ∷ before) (take (suc low) calls))) ≡ true) parts.0 j in
    ap (λ b. cond b (Some d.place) (first_closing (d ∷ before) calls)) parts.0 ∙ one_more (d ∷ before) calls low c parts.1 behind at

-- where the calls before one make no cycle, and with it they do, it is the first that closes one
pub found_at : (calls : List Call) (low high : ℕ) (c : Call) → is_cyclic (take low calls) ≡ false → is_cyclic (take high calls) ≡ true → low < high → high ≤ low + 1 → slice_get calls low ≡ Some c → Some c.place ≡ first_cycle calls
found_at calls low high c h j lt le at =
    let next : high ≡ suc low = omega (arith, lt, le) in
    sym (one_more [] calls low c h (subst (λ n. is_cyclic (take n calls) ≡ true) next j) at)

-- no call closes no cycle
pub none_before : (calls : List Call) → is_cyclic (take 0 calls) ≡ false
unfolding first_closing
none_before calls = refl

pub some_calls : (calls : List Call) → is_cyclic calls ≡ true → 0 < length calls
unfolding first_closing
some_calls [] h = search rules
some_calls (c ∷ calls) h = omega arith
