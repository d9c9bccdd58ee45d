-- What holds where parts of a look hold.
use Rattle.std.proofs.Common.{◌≡◌, ◌⊎◌, inl, inr, ℕ, zero, suc, Bool, true, false, not, ◌&&◌, ◌||◌, cond, List, [], ◌∷◌, Option, Some, None, slice_get, is_some, refl, subst}
use Rattle.std.specs.List.{list_all}
use Rattle.source_items.specs.StackKinds.KindedTerms.{IsThere}

pub never : {P : Type 0} → false ≡ true → P
never e = absurd (let d : ⊥ = cc in d)

pub both_true : (a b : Bool) → (a && b) ≡ true → (a ≡ true) × (b ≡ true)
both_true true b e = (refl, e)
both_true false b e = never e

pub either_true : (a b : Bool) → (a || b) ≡ true → (a ≡ true) ⊎ (b ≡ true)
either_true true b e = inl refl
either_true false b e = inr e

pub is_false : (a : Bool) → not a ≡ true → a ≡ false
is_false true e = never e
is_false false e = refl

pub implied : (a b : Bool) → (not a || b) ≡ true → a ≡ true → b ≡ true
implied true b e is = e
implied false b e is = never is

-- ---- what is said of two parts and more

pub both : {A B : Type 0} (a b : Bool) → (a ≡ true → A) → (b ≡ true → B) → (a && b) ≡ true → A × B
both a b f g e = let x = both_true a b e in (f x.0, g x.1)

pub three : {A B C : Type 0} (a b c : Bool) → (a ≡ true → A) → (b ≡ true → B) → (c ≡ true → C) → (a && (b && c)) ≡ true → A × B × C
three a b c f g h e = let x = both_true a (b && c) e in let y = both_true b c x.1 in (f x.0, g y.0, h y.1)

pub four : {A B C D : Type 0} (a b c d : Bool) → (a ≡ true → A) → (b ≡ true → B) → (c ≡ true → C) → (d ≡ true → D) → (a && (b && (c && d))) ≡ true → A × B × C × D
four a b c d f g h k e = let x = both_true a (b && (c && d)) e in let y = three b c d g h k x.1 in (f x.0, y.0, y.1, y.2)

pub five : {A B C D E : Type 0} (a b c d e : Bool) → (a ≡ true → A) → (b ≡ true → B) → (c ≡ true → C) → (d ≡ true → D) → (e ≡ true → E) → (a && (b && (c && (d && e)))) ≡ true → A × B × C × D × E
five a b c d e f g h k l is = let x = both_true a (b && (c && (d && e))) is in let y = four b c d e g h k l x.1 in (f x.0, y.0, y.1, y.2, y.3)

pub six : {A B C D E F : Type 0} (a b c d e f : Bool) → (a ≡ true → A) → (b ≡ true → B) → (c ≡ true → C) → (d ≡ true → D) → (e ≡ true → E) → (f ≡ true → F) → (a && (b && (c && (d && (e && f))))) ≡ true → A × B × C × D × E × F
six a b c d e f p q r s t v is = let x = both_true a (b && (c && (d && (e && f)))) is in let y = five b c d e f q r s t v x.1 in (p x.0, y.0, y.1, y.2, y.3, y.4)

pub one_of : {A B : Type 0} (a b : Bool) → (a ≡ true → A) → (b ≡ true → B) → (a || b) ≡ true → A ⊎ B
one_of true b f g e = inl (f refl)
one_of false b f g e = inr (g e)

-- ---- options and lists

pub some_is : {A : Type 0} (x y : A) → Some x ≡ Some y → x ≡ y
some_is x y e = cc

pub no_some : {A P : Type 0} (x : A) → None ≡ Some x → P
no_some x e = absurd (no e)
  where
    no : None ≡ Some x → ⊥
    no e = cc

pub there : {A : Type 0} (o : Option A) → is_some o ≡ true → IsThere o
there None e = never e
there (Some x) e = (x, refl)

pub all_at : {A : Type 0} (look : A → Bool) (xs : List A) (n : ℕ) (x : A) → list_all look xs ≡ true → slice_get xs n ≡ Some x → look x ≡ true
all_at look [] n x all is = no_some x is
all_at look (y ∷ ys) zero x all is = subst (λ z. look z ≡ true) (some_is y x is) (both_true (look y) (list_all look ys) all).0
all_at look (y ∷ ys) (suc n) x all is = all_at look ys n x (both_true (look y) (list_all look ys) all).1 is

-- an option that is there only where a look holds
pub if_true : {A P : Type 0} (b : Bool) (o : Option A) (x : A) → (b ≡ true → o ≡ Some x → P) → cond b o None ≡ Some x → P
if_true true o x f e = f refl e
if_true false o x f e = no_some x e
