-- Flags that stay set, and truth values of two flags.
use Rattle.std.specs.Prelude.{◌≡◌, Bool, true, false, not, ◌&&◌, ◌||◌, refl}
use Rattle.std.proofs.Common.{sym, ◌∙◌, inl, inr}
use Rattle.std.proofs.lemmas.Bool.{and_parts, and_from, or_cases}
use Rattle.cc_base.specs.LatticeParts.{flag_leq}
use Rattle.cc_base.specs.Truths.{tri_of, can_hold, can_fail}
use Rattle.cc_base.specs.IntegerLaws.{tri_leq}
use Rattle.cc_base.specs.declared.integer_operators.Tri.{Tri}

-- a flag that is set sets another
abbrev pub Sets : Bool → Bool → Type 0
Sets a b = a ≡ true → b ≡ true

pub flag_sets : (a b : Bool) → flag_leq a b ≡ true → Sets a b
flag_sets true b h e = h
flag_sets false b h e = cc

pub sets_flag : (a b : Bool) → Sets a b → flag_leq a b ≡ true
sets_flag true b h = h refl
sets_flag false b h = refl

pub same_flag : (a : Bool) → flag_leq a a ≡ true
same_flag true = refl
same_flag false = refl

pub or_left : (a b : Bool) → a ≡ true → (a || b) ≡ true
or_left true b h = refl
or_left false b h = cc

pub or_right : (a b : Bool) → b ≡ true → (a || b) ≡ true
or_right true b h = refl
or_right false b h = h

pub or_sets : (a b c d : Bool) → Sets a c → Sets b d → Sets (a || b) (c || d)
or_sets a b c d h k e = elim (or_cases a b e) [ inl f ↦ or_left c d (h f) | inr f ↦ or_right c d (k f) ]

pub and_sets : (a b c d : Bool) → Sets a c → Sets b d → Sets (a && b) (c && d)
and_sets a b c d h k e = let p = and_parts a b e in and_from c d (h p.0) (k p.1)

pub not_sets : (a b : Bool) → Sets b a → Sets (not a) (not b)
not_sets a false h e = refl
not_sets true true h e = e
not_sets false true h e = absurd (let k : false ≡ true = h refl in cc)

-- ---- truth values

tri_holds : (a b : Bool) → can_hold (tri_of a b) ≡ a
tri_holds true true = refl
tri_holds true false = refl
tri_holds false true = refl
tri_holds false false = refl

tri_fails : (a b : Bool) → can_fail (tri_of a b) ≡ b
tri_fails true true = refl
tri_fails true false = refl
tri_fails false true = refl
tri_fails false false = refl

pub tri_sets : (a b c d : Bool) → Sets a c → Sets b d → tri_leq (tri_of a b) (tri_of c d) ≡ true
tri_sets a b c d f g = and_from _ _
    (sets_flag _ _ (λ e. tri_holds c d ∙ f (sym (tri_holds a b) ∙ e)))
    (sets_flag _ _ (λ e. tri_fails c d ∙ g (sym (tri_fails a b) ∙ e)))

pub holds_of : (a b : Bool) → a ≡ true → can_hold (tri_of a b) ≡ true
holds_of a b h = tri_holds a b ∙ h

pub fails_of : (a b : Bool) → b ≡ true → can_fail (tri_of a b) ≡ true
fails_of a b h = tri_fails a b ∙ h

pub holds_sets : (s t : Tri) → tri_leq s t ≡ true → Sets (can_hold s) (can_hold t)
holds_sets s t h = let p = and_parts (flag_leq (can_hold s) (can_hold t)) (flag_leq (can_fail s) (can_fail t)) h in flag_sets _ _ p.0

pub fails_sets : (s t : Tri) → tri_leq s t ≡ true → Sets (can_fail s) (can_fail t)
fails_sets s t h = let p = and_parts (flag_leq (can_hold s) (can_hold t)) (flag_leq (can_fail s) (can_fail t)) h in flag_sets _ _ p.1
