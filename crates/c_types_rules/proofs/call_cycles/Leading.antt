-- Where calls lead: each function leads to itself, a way may be gone on, and ranks rise along it.
use Rattle.std.proofs.Common.{◌≡◌, ◌<◌, ◌≤◌, ◌==◌, ◌||◌, ◌&&◌, ℕ, Bool, true, false, List, [], ◌∷◌, refl, subst, inl, inr, ◌⊎◌, arith, eqb-true, eq-eqb, le_refl, rules}
use Rattle.std.proofs.lemmas.Bool.{or_left, or_right}
use Rattle.c_types_rules.specs.declared.call_cycles.call_graph.Call.{Call}
use Rattle.c_types_rules.specs.CallCycles.CallCycles.{leads}

both_parts : (a b : Bool) → (a && b) ≡ true → (a ≡ true) × (b ≡ true)
both_parts true b h = (refl, h)
both_parts false b h = search rules

both_true : (a b : Bool) → a ≡ true → b ≡ true → (a && b) ≡ true
both_true true b h j = j
both_true false b h j = h

-- a way with one call more
pub data Way (calls : List Call) (c : Call) (from to : ℕ) : Type 0 where
  Without : leads calls from to ≡ true → Way calls c from to
  Through : leads calls from c.caller ≡ true → leads calls c.callee to ≡ true → Way calls c from to

way_of : (a b c : Bool) → (a || (b && c)) ≡ true → (a ≡ true) ⊎ ((b ≡ true) × (c ≡ true))
way_of true b c h = inl refl
way_of false b c h = inr (both_parts b c h)

pub way : (calls : List Call) (c : Call) (from to : ℕ) → leads (c ∷ calls) from to ≡ true → Way calls c from to
unfolding leads
way calls c from to h = elim (way_of (leads calls from to) (leads calls from c.caller) (leads calls c.callee to) h) [ inl a ↦ Without a | inr b ↦ Through b.0 b.1 ]

pub without : (calls : List Call) (c : Call) (from to : ℕ) → leads calls from to ≡ true → leads (c ∷ calls) from to ≡ true
unfolding leads
without calls c from to h = or_left _ _ h

pub through : (calls : List Call) (c : Call) (from to : ℕ) → leads calls from c.caller ≡ true → leads calls c.callee to ≡ true → leads (c ∷ calls) from to ≡ true
unfolding leads
through calls c from to h j = or_right _ _ (both_true _ _ h j)

pub at_itself : (calls : List Call) (f : ℕ) → leads calls f f ≡ true
unfolding leads
at_itself [] f = eq-eqb f f refl
at_itself (c ∷ calls) f = or_left _ _ (at_itself calls f)

pub gone_on : (calls : List Call) (f g h : ℕ) → leads calls f g ≡ true → leads calls g h ≡ true → leads calls f h ≡ true
unfolding leads
gone_on [] f g h a b = subst (λ k. (f == k) ≡ true) (eqb-true g h b) a
gone_on (c ∷ calls) f g h a b =
    elim (way calls c f g a) [
      | Without a1 ↦ elim (way calls c g h b) [
        | Without b1 ↦ without calls c f h (gone_on calls f g h a1 b1)
        | Through b1 b2 ↦ through calls c f h (gone_on calls f g c.caller a1 b1) b2
      ]
      | Through a1 a2 ↦ elim (way calls c g h b) [
        | Without b1 ↦ through calls c f h a1 (gone_on calls c.callee g h a2 b1)
        | Through b1 b2 ↦ through calls c f h a1 b2
      ]
    ]

-- ranks that rise along each call
abbrev pub Ranked : (ℕ → ℕ) → List Call → Type 0
Ranked r [] = Unit {0}
Ranked r (c ∷ calls) = (r c.caller < r c.callee) × Ranked r calls

pub rises : (r : ℕ → ℕ) (calls : List Call) (f g : ℕ) → Ranked r calls → leads calls f g ≡ true → r f ≤ r g
unfolding leads
rises r [] f g ranked h = subst (λ k. r f ≤ r k) (eqb-true f g h) (le_refl (r f))
rises r (c ∷ calls) f g ranked h =
    elim (way calls c f g h) [
      | Without a ↦ rises r calls f g ranked.1 a
      | Through a b ↦
          let up : r f ≤ r c.caller = rises r calls f c.caller ranked.1 a in
          let on : r c.callee ≤ r g = rises r calls c.callee g ranked.1 b in
          let here : r c.caller < r c.callee = ranked.0 in
          omega (arith, up, on, here)
    ]
