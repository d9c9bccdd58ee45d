-- Two walks side by side: what each pair of steps keeps, the walks keep.
use Rattle.std.specs.Prelude.{ℕ, zero, suc, ◌+◌, ◌<◌, ◌≤◌, List, [], ◌∷◌, length, Bool, true, false, cond, ◌≡◌, refl}
use Rattle.std.proofs.Common.{arith, inl, inr, ◌⊎◌}
use Rattle.store_cells.specs.Walks.{walk, turns}
use Rattle.store_monotone.specs.Operations.Placements.{EachFrom}

pub walk_pair : {K S T : Type 0} (P : K → ℕ → Type 0) (R : S → T → Type 0) (f : K → ℕ → S → S) (g : K → ℕ → T → T) → ((k : K) (at : ℕ) (s : S) (t : T) → P k at → R s t → R (f k at s) (g k at t)) → (at : ℕ) (ks : List K) (s : S) (t : T) → EachFrom P at ks → R s t → R (walk f at ks s) (walk g at ks t)
walk_pair P R f g step at [] s t e r = r
walk_pair P R f g step at (k ∷ ks) s t e r = walk_pair P R f g step (at + 1) ks (f k at s) (g k at t) e.1 (step k at s t e.0 r)

pub turns_pair : {S T : Type 0} (R : S → T → Type 0) (f : ℕ → S → S) (g : ℕ → T → T) (most : ℕ) → ((at : ℕ) (s : S) (t : T) → at < most → R s t → R (f at s) (g at t)) → (count : ℕ) (s : S) (t : T) → count ≤ most → R s t → R (turns f count s) (turns g count t)
turns_pair R f g most step zero s t e r = r
turns_pair R f g most step (suc count) s t e r = step count (turns f count s) (turns g count t) (omega arith) (turns_pair R f g most step count s t (omega arith) r)

-- the numbers of the items lie below the number of the items
pub numbers_below : {K : Type 0} (most at : ℕ) (ks : List K) → at + length ks ≤ most → EachFrom (λ k i. i < most) at ks
numbers_below most at [] h = tt
numbers_below most at (k ∷ ks) h = (omega arith, numbers_below most (at + 1) ks (omega arith))

-- one state is taken or the other
pub cond_pair : {S T : Type 0} (R : S → T → Type 0) (a b : Bool) (s x : S) (t y : T) → (a ≡ true → b ≡ true) → R s t → R s y → R x y → R (cond a x s) (cond b y t)
cond_pair R false false s x t y h r q p = r
cond_pair R false true s x t y h r q p = q
cond_pair R true false s x t y h r q p = absurd (let k : false ≡ true = h refl in cc)
cond_pair R true true s x t y h r q p = p

-- the same, where the tests are known
pub cond_pair_if : {S T : Type 0} (R : S → T → Type 0) (a b : Bool) (s x : S) (t y : T) → (a ≡ true → b ≡ true) → R s t → (b ≡ true → R s y) → (b ≡ true → R x y) → R (cond a x s) (cond b y t)
cond_pair_if R false false s x t y h r q p = r
cond_pair_if R false true s x t y h r q p = q refl
cond_pair_if R true false s x t y h r q p = absurd (let k : false ≡ true = h refl in cc)
cond_pair_if R true true s x t y h r q p = p refl

-- both take the same way
pub same_pair : {S T : Type 0} (R : S → T → Type 0) (a : Bool) (s x : S) (t y : T) → (a ≡ true → R x y) → (a ≡ false → R s t) → R (cond a x s) (cond a y t)
same_pair R true s x t y p r = p refl
same_pair R false s x t y p r = r refl

-- ---- steps of which the first may be left out: it is taken where `on` is set

abbrev pub Step : {S : Type 0} → (S → S → Type 0) → Bool → (S → S) → (S → S) → Type 0
Step {S} R on f g = (s t : S) → R s t → R (cond on (f s) s) (g t)

pub walk_step : {K S : Type 0} (P : K → ℕ → Type 0) (R : S → S → Type 0) (on : Bool) (f g : K → ℕ → S → S) → ((k : K) (at : ℕ) → P k at → Step R on (f k at) (g k at)) → (at : ℕ) (ks : List K) → EachFrom P at ks → Step R on (walk f at ks) (walk g at ks)
walk_step P R true f g step at ks e s t r = walk_pair P R f g (λ k at s t p q. step k at p s t q) at ks s t e r
walk_step P R false f g step at [] e s t r = r
walk_step P R false f g step at (k ∷ ks) e s t r = walk_step P R false f g step (at + 1) ks e.1 s (g k at t) (step k at e.0 s t r)

pub turns_step : {S : Type 0} (R : S → S → Type 0) (on : Bool) (f g : ℕ → S → S) (most : ℕ) → ((at : ℕ) → at < most → Step R on (f at) (g at)) → (count : ℕ) → count ≤ most → Step R on (turns f count) (turns g count)
turns_step R true f g most step count e s t r = turns_pair R f g most (λ at s t p q. step at p s t q) count s t e r
turns_step R false f g most step zero e s t r = r
turns_step R false f g most step (suc count) e s t r = step count (omega arith) s (turns g count t) (turns_step R false f g most step count (omega arith) s t r)

-- one step behind another
pub then_step : {S : Type 0} (R : S → S → Type 0) (on : Bool) (f g d e : S → S) → Step R on f g → Step R on d e → Step R on (λ s. d (f s)) (λ t. e (g t))
then_step R true f g d e p q s t r = q (f s) (g t) (p s t r)
then_step R false f g d e p q s t r = q s (g t) (p s t r)

-- a step on a condition
pub if_step : {S : Type 0} (R : S → S → Type 0) (on a b : Bool) (f g : S → S) → (a ≡ true → b ≡ true) → (b ≡ true → (now : Bool) → (now ≡ true → (on ≡ true) × (a ≡ true)) → (now ≡ false → (on ≡ false) ⊎ (a ≡ false)) → Step R now f g) → Step R on (λ s. cond a (f s) s) (λ t. cond b (g t) t)
if_step R true false false f g h p s t r = r
if_step R false a false f g h p s t r = r
if_step R on true false f g h p s t r = absurd (let k : false ≡ true = h refl in cc)
if_step R true true true f g h p s t r = p refl true (λ e. (refl, refl)) (λ e. absurd (cc)) s t r
if_step R true false true f g h p s t r = p refl false (λ e. absurd (cc)) (λ e. inr refl) s t r
if_step R false a true f g h p s t r = p refl false (λ e. absurd (cc)) (λ e. inl refl) s t r

-- the same way for both
pub same_step : {S : Type 0} (R : S → S → Type 0) (on a : Bool) (f g d e : S → S) → (a ≡ true → Step R on f g) → (a ≡ false → Step R on d e) → Step R on (λ s. cond a (f s) (d s)) (λ t. cond a (g t) (e t))
same_step R on true f g d e p q s t r = p refl s t r
same_step R on false f g d e p q s t r = q refl s t r

-- nothing is asked of the items
pub any_each : {K : Type 0} (at : ℕ) (ks : List K) → EachFrom (λ k i. Unit {0}) at ks
any_each at [] = tt
any_each at (k ∷ ks) = (tt, any_each (at + 1) ks)
