-- What is known in a copy: of its temporaries what its template says, and of those before them what its caller knows.
use Rattle.std.proofs.Common.{◌≡◌, ◌≤◌, ◌<◌, inl, inr, ℕ, ◌+◌, ◌-◌, ◌^◌, ℤ, min, Bool, true, false, cond, nat_lt, Option, Some, None, refl, arith, ap, sym, subst, ◌∙◌}
use Rattle.std.proofs.lemmas.Bool.{cases_lt, cases_eq, lt-ltb, le-ltb, ltb-true}
use Rattle.c_layout.specs.CheckedUnits.{FunctionView}
use Rattle.memory_model.specs.Effects.NumberedTables.{set_at}
use Rattle.lower.specs.Inlining.MovedActs.{temp, put_moved}
use Rattle.lower_functions.specs.Functions.Functions.{local_type}
use Rattle.lower_templates.specs.Worklist.Works.{behind}
use Rattle.typed_programs.specs.Types.PointedTypes.{Known, IsLess, IsStorable}
use Rattle.typed_programs.specs.Types.TypedPrograms.{IsKept, Gives, PutsKnown}
use Rattle.typed_programs.specs.Types.TypedStates.{Temporaries}
use Rattle.simulation_layout.specs.Copies.LowTemporaries.{IsLow}
use Rattle.typed_lowering.specs.Conversions.KnownValues.{type_known, nothing, below, with_value, if_used}
use Rattle.typed_lowering.specs.Conversions.TypedPieces.{parameters_known, result_known, ArePassed}
use Rattle.typed_lowering.proofs.conversions.KeptKnowledge.{less_same}

-- nothing is known from the last temporary on, at which numbers stop
pub lifted : ℕ → Temporaries → Temporaries → Temporaries
lifted d outer inner t = cond (nat_lt t (2 ^ 32 - 1)) (cond (nat_lt t d) (outer t) (inner (t - d))) None

module _ (d : ℕ) (outer inner : Temporaries) (t : ℕ) where
  by_both : (low less : Bool) → nat_lt t (2 ^ 32 - 1) ≡ low → nat_lt t d ≡ less → lifted d outer inner t ≡ cond low (cond less (outer t) (inner (t - d))) None
  unfolding lifted
  by_both low less is also = ap (λ b. cond b (cond (nat_lt t d) (outer t) (inner (t - d))) None) is ∙ ap (λ b. cond low (cond b (outer t) (inner (t - d))) None) also

  pub lifted_before : t < 2 ^ 32 - 1 → t < d → lifted d outer inner t ≡ outer t
  lifted_before low less = by_both true true (lt-ltb t (2 ^ 32 - 1) low) (lt-ltb t d less)

  pub lifted_from : t < 2 ^ 32 - 1 → d ≤ t → lifted d outer inner t ≡ inner (t - d)
  lifted_from low more = by_both true false (lt-ltb t (2 ^ 32 - 1) low) (le-ltb t d more)

  lifted_beyond : 2 ^ 32 - 1 ≤ t → lifted d outer inner t ≡ None
  lifted_beyond high = by_both false (nat_lt t d) (le-ltb t (2 ^ 32 - 1) high) refl

-- no more is known at a temporary than before
abbrev pub IsOld : Temporaries → ℕ → Known → Type 0
IsOld before t k = (old : Known) × (before t ≡ Some old) × IsLess old k

known_same : (before : Temporaries) (t : ℕ) (k : Known) → before t ≡ Some k → IsOld before t k
known_same before t k is = (k, is, less_same k)

moved_old : (before inner : Temporaries) (t s : ℕ) (k : Known) → before t ≡ inner s → IsOld inner s k → IsOld before t k
moved_old before inner t s k same (old, there, less) = (old, same ∙ there, less)

none_known : {A : Type 0} (k : Known) → None ≡ Some k → A
none_known k e = absurd (cc)

-- what keeps both parts keeps what is lifted
pub into_lifted : (before : Temporaries) (d : ℕ) (outer inner : Temporaries) → ((t : ℕ) (k : Known) → t < 2 ^ 32 - 1 → t < d → outer t ≡ Some k → IsOld before t k) → ((t : ℕ) (k : Known) → t < 2 ^ 32 - 1 → d ≤ t → inner (t - d) ≡ Some k → IsOld before t k) → IsKept before (lifted d outer inner)
into_lifted before d outer inner first last t k is = elim (cases_lt t (2 ^ 32 - 1)) [
  | inl low ↦ elim (cases_lt t d) [
    | inl less ↦ first t k low less (sym (lifted_before d outer inner t low less) ∙ is)
    | inr more ↦ last t k low more (sym (lifted_from d outer inner t low more) ∙ is)
  ]
  | inr high ↦ none_known k (sym (lifted_beyond d outer inner t high) ∙ is)
]

pub kept_lifted : (d : ℕ) (outer before after : Temporaries) → IsKept before after → IsKept (lifted d outer before) (lifted d outer after)
kept_lifted d outer before after kept = into_lifted (lifted d outer before) d outer after first last
  where
    first : (t : ℕ) (k : Known) → t < 2 ^ 32 - 1 → t < d → outer t ≡ Some k → IsOld (lifted d outer before) t k
    first t k low less is = known_same (lifted d outer before) t k (lifted_before d outer before t low less ∙ is)

    last : (t : ℕ) (k : Known) → t < 2 ^ 32 - 1 → d ≤ t → after (t - d) ≡ Some k → IsOld (lifted d outer before) t k
    last t k low more is = moved_old (lifted d outer before) before t (t - d) k (lifted_from d outer before t low more) (kept (t - d) k is)

-- a copy that stands at the first temporary, under nothing
pub kept_entry : (inner : Temporaries) → ((t : ℕ) → inner t ≡ None) → IsKept nothing (lifted 0 nothing inner)
kept_entry inner none = into_lifted nothing 0 nothing inner (λ t k low less is. none_known k is) (λ t k low more is. none_known k (sym (none (t - 0)) ∙ is))

-- ---- one temporary

set_here : {A : Type 0} (f : ℕ → Option A) (n : ℕ) (x : Option A) (m : ℕ) → m ≡ n → set_at f n x m ≡ x
set_here f n x m same = grind arith

set_else : {A : Type 0} (f : ℕ → Option A) (n : ℕ) (x : Option A) (m : ℕ) → (m ≡ n → ⊥) → set_at f n x m ≡ f m
set_else f n x m other = grind arith

temp_low : (d t last : ℕ) → min (t + d) last < last → min (t + d) last ≡ t + d
temp_low d t last less = omega (arith, less)

not_before : (d s t last : ℕ) → s < last → s < d → s ≡ min (t + d) last → ⊥
not_before d s t last low less is = omega (arith, low, less, is)

there_only : (d s t last : ℕ) → s < last → d ≤ s → s ≡ min (t + d) last → s - d ≡ t
there_only d s t last low more is = omega (arith, low, more, is)

there_too : (d s t last : ℕ) → s < last → d ≤ s → s - d ≡ t → s ≡ min (t + d) last
there_too d s t last low more is = omega (arith, low, more, is)

back : (d t : ℕ) → (t + d) - d ≡ t
back d t = omega arith

no_less : (d t : ℕ) → d ≤ t + d
no_less d t = omega arith

-- a low temporary of a copy is that of its template
pub lifted_at : (d : ℕ) (outer inner : Temporaries) (t : ℕ) → IsLow (temp d t) → lifted d outer inner (temp d t) ≡ inner t
lifted_at d outer inner t low =
    let is = temp_low d t (2 ^ 32 - 1) low in
    let less : t + d < 2 ^ 32 - 1 = subst (λ s. s < 2 ^ 32 - 1) is low in
    ap (lifted d outer inner) is ∙ lifted_from d outer inner (t + d) less (no_less d t) ∙ ap inner (back d t)

pub gives_lifted : (d : ℕ) (outer before after : Temporaries) (to : ℕ) (v : Option Known) → Gives to v before after → Gives (temp d to) v (lifted d outer before) (lifted d outer after)
gives_lifted d outer before after to v gives = into_lifted (set_at (lifted d outer before) (temp d to) v) d outer after first last
  where
    first : (t : ℕ) (k : Known) → t < 2 ^ 32 - 1 → t < d → outer t ≡ Some k → IsOld (set_at (lifted d outer before) (temp d to) v) t k
    first t k low less is = known_same (set_at (lifted d outer before) (temp d to) v) t k (set_else (lifted d outer before) (temp d to) v t (not_before d t to (2 ^ 32 - 1) low less) ∙ lifted_before d outer before t low less ∙ is)

    last : (t : ℕ) (k : Known) → t < 2 ^ 32 - 1 → d ≤ t → after (t - d) ≡ Some k → IsOld (set_at (lifted d outer before) (temp d to) v) t k
    last t k low more is = moved_old (set_at (lifted d outer before) (temp d to) v) (set_at before to v) t (t - d) k (elim (cases_eq (t - d) to) [
      | inl same ↦ set_here (lifted d outer before) (temp d to) v t (there_too d t to (2 ^ 32 - 1) low more same) ∙ sym (set_here before to v (t - d) same)
      | inr other ↦ set_else (lifted d outer before) (temp d to) v t (λ e. other (there_only d t to (2 ^ 32 - 1) low more e)) ∙ lifted_from d outer before t low more ∙ sym (set_else before to v (t - d) other)
    ]) (gives (t - d) k is)

pub puts_lifted : (d : ℕ) (outer before after : Temporaries) (puts : Option (ℕ × ℤ)) → PutsKnown puts before after → PutsKnown (put_moved d puts) (lifted d outer before) (lifted d outer after)
puts_lifted d outer before after None kept = kept_lifted d outer before after kept
puts_lifted d outer before after (Some p) gives = gives_lifted d outer before after p.0 None gives

-- ---- calls

below_known : (depth : ℕ) (before : Temporaries) (t : ℕ) (k : Known) → below depth before t ≡ Some k → (t < depth) × (before t ≡ Some k)
below_known depth before t k is = by (nat_lt t depth) refl is
  where
    by : (b : Bool) → nat_lt t depth ≡ b → cond b (before t) None ≡ Some k → (t < depth) × (before t ≡ Some k)
    by true less is = (ltb-true t depth less, is)
    by false less is = none_known k is

-- arguments become parameters
pub passed_lifted : (g : FunctionView) (depth d : ℕ) (outer before : Temporaries) → ArePassed g depth before → IsKept (lifted d outer before) (lifted (behind depth d) (lifted d outer before) (parameters_known g))
passed_lifted g depth d outer before passed = into_lifted (lifted d outer before) (behind depth d) (lifted d outer before) (parameters_known g) (λ t k low less is. known_same (lifted d outer before) t k is) last
  where
    place : (t last : ℕ) → t < last → min (depth + d) last ≤ t → t - d ≡ depth + (t - min (depth + d) last)
    place t last low more = omega (arith, low, more)

    still : (t last : ℕ) → t < last → min (depth + d) last ≤ t → d ≤ t
    still t last low more = omega (arith, low, more)

    fits : (t last : ℕ) → t < last → min (depth + d) last ≤ t → depth + (t - min (depth + d) last) < last
    fits t last low more = omega (arith, low, more)

    stored : (type value : Option Known) (k : Known) → type ≡ Some k → IsStorable type value → (old : Known) × (value ≡ Some old) × IsLess old k
    stored None value k is storable = none_known k is
    stored (Some x) value k is (old, there, less) = (old, there, subst (IsLess old) (same is) less)
      where
        same : Some x ≡ Some k → x ≡ k
        same e = cc

    last : (t : ℕ) (k : Known) → t < 2 ^ 32 - 1 → behind depth d ≤ t → parameters_known g (t - behind depth d) ≡ Some k → IsOld (lifted d outer before) t k
    last t k low more is =
        let one = below_known g.parameters (λ n. type_known (local_type g n)) (t - behind depth d) k is in
        let value = stored (type_known (local_type g (t - behind depth d))) (before (depth + (t - behind depth d))) k one.1 (passed (t - behind depth d) one.0 (fits t (2 ^ 32 - 1) low more)) in
        moved_old (lifted d outer before) before t (depth + (t - behind depth d)) k (lifted_from d outer before t low (still t (2 ^ 32 - 1) low more) ∙ ap before (place t (2 ^ 32 - 1) low more)) value

module _ (g : FunctionView) (used : Bool) (depth d : ℕ) (outer before : Temporaries) where
  abbrev value : Option Known
  value = if_used used (type_known g.returns)

  -- behind a call
  abbrev all : Temporaries
  all = lifted (behind depth d) (lifted d outer before) (result_known used g)

  outside : (t last : ℕ) → t < last → t < d → t < min (depth + d) last
  outside t last low less = omega (arith, low, less)

  starts : (t last : ℕ) → t < last → d ≤ t → t - d ≡ depth → min (depth + d) last ≤ t
  starts t last low more same = omega (arith, low, more, same)

  none_further : (t last : ℕ) → t < last → d ≤ t → t - d ≡ depth → t - min (depth + d) last ≡ 0
  none_further t last low more same = omega (arith, low, more, same)

  pending : (t last : ℕ) → t < last → d ≤ t → t - d < depth → t < min (depth + d) last
  pending t last low more less = omega (arith, low, more, less)

  -- a result that is used stands where the call says
  at_result : (t : ℕ) → t < 2 ^ 32 - 1 → d ≤ t → t - d ≡ depth → all t ≡ with_value depth value before (t - d)
  at_result t low more same =
      lifted_from (behind depth d) (lifted d outer before) (result_known used g) t low (starts t (2 ^ 32 - 1) low more same)
      ∙ ap (result_known used g) (none_further t (2 ^ 32 - 1) low more same)
      ∙ sym (set_here (below depth before) depth value (t - d) same)

  at_pending : (t : ℕ) (k : Known) → t < 2 ^ 32 - 1 → d ≤ t → (t - d ≡ depth → ⊥) → with_value depth value before (t - d) ≡ Some k → all t ≡ Some k
  at_pending t k low more other is =
      let under = below_known depth before (t - d) k (sym (set_else (below depth before) depth value (t - d) other) ∙ is) in
      lifted_before (behind depth d) (lifted d outer before) (result_known used g) t low (pending t (2 ^ 32 - 1) low more under.0) ∙ lifted_from d outer before t low more ∙ under.1

  pub returned_lifted : (after : Temporaries) → IsKept (with_value depth value before) after → IsKept all (lifted d outer after)
  returned_lifted after kept = into_lifted all d outer after first last
    where
      first : (t : ℕ) (k : Known) → t < 2 ^ 32 - 1 → t < d → outer t ≡ Some k → IsOld all t k
      first t k low less is = known_same all t k (lifted_before (behind depth d) (lifted d outer before) (result_known used g) t low (outside t (2 ^ 32 - 1) low less) ∙ lifted_before d outer before t low less ∙ is)

      last : (t : ℕ) (k : Known) → t < 2 ^ 32 - 1 → d ≤ t → after (t - d) ≡ Some k → IsOld all t k
      last t k low more is =
          let old = kept (t - d) k is in
          elim (cases_eq (t - d) depth) [
            | inl same ↦ moved_old all (with_value depth value before) t (t - d) k (at_result t low more same) old
            | inr other ↦ (old.0, at_pending t old.0 low more other old.1, old.2)
          ]
