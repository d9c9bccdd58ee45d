-- Labels in statements are those of their function, and case labels those of the switch around them.
use Rattle.std.proofs.Common.{◌≡◌, ◌≤◌, ◌<◌, ℕ, ◌+◌, ◌==◌, Bool, true, false, cond, nat_lt, length, refl, arith}
use Rattle.std.proofs.lemmas.Bool.{eq-eqb, ltb-true}
use Rattle.c_layout.specs.CheckedTrees as tree
use Rattle.c_layout.specs.CheckedTrees.{StatementTree, StatementTrees}
use Rattle.lower_template_theorems.specs.PendingLabels.Marks.{one, below, labels_in, all_labels_in, cases_in, all_cases_in, defaults_in, all_defaults_in, AreSelected, AllSelected}

-- in a function with so many labels, in a switch of so many cases or in none
abbrev mutual
  pub IsNumbered : ℕ → ℕ → Bool → StatementTree → Type 0
  IsNumbered labels count chosen (tree.Block objects items) = AreNumbered labels count chosen items
  IsNumbered labels count chosen (tree.If e body) = IsNumbered labels count chosen body
  IsNumbered labels count chosen (tree.IfElse e first second) = IsNumbered labels count chosen first × IsNumbered labels count chosen second
  IsNumbered labels count chosen (tree.While e body) = IsNumbered labels count chosen body
  IsNumbered labels count chosen (tree.Do body e) = IsNumbered labels count chosen body
  IsNumbered labels count chosen (tree.For objects first e step body) = AreNumbered labels count chosen first × IsNumbered labels count chosen body
  IsNumbered labels count chosen (tree.Switch at e cases has_default values body) = IsNumbered labels (length cases) true body
  IsNumbered labels count chosen (tree.Case n body) = (n < count) × (chosen ≡ true) × IsNumbered labels count chosen body
  IsNumbered labels count chosen (tree.Default body) = (chosen ≡ true) × IsNumbered labels count chosen body
  IsNumbered labels count chosen (tree.Label n body) = (n < labels) × IsNumbered labels count chosen body
  IsNumbered labels count chosen other = Unit {0}

  pub AreNumbered : ℕ → ℕ → Bool → StatementTrees → Type 0
  AreNumbered labels count chosen tree.NoMore = Unit {0}
  AreNumbered labels count chosen (tree.And first rest) = IsNumbered labels count chosen first × AreNumbered labels count chosen rest

first_some : (a b : ℕ) → 1 ≤ a → 1 ≤ a + b
first_some a b some = omega (arith, some)

second_some : (a b : ℕ) → 1 ≤ b → 1 ≤ a + b
second_some a b some = omega (arith, some)

this_one : (n a : ℕ) → 1 ≤ one n n + a
this_one n a = by (n == n) (eq-eqb n n refl)
  where
    more : (a : ℕ) → 1 ≤ 1 + a
    more a = omega arith

    by : (b : Bool) → b ≡ true → 1 ≤ cond b 1 0 + a
    by true e = more a
    by false e = absurd (cc)

below_some : (n count a : ℕ) → a ≤ below n count → 1 ≤ a → n < count
below_some n count a few some = by (nat_lt n count) refl few
  where
    no : (a : ℕ) → a ≤ 0 → 1 ≤ a → ⊥
    no a few some = omega (arith, few, some)

    by : (b : Bool) → nat_lt n count ≡ b → a ≤ cond b 1 0 → n < count
    by true e few = ltb-true n count e
    by false e few = absurd (no a few some)

module _ (labels : ℕ) where
  mutual
    pub numbered : (count : ℕ) (chosen : Bool) (i : StatementTree) → ((n : ℕ) → 1 ≤ labels_in n i → n < labels) → ((n : ℕ) → 1 ≤ cases_in n i → (n < count) × (chosen ≡ true)) → (1 ≤ defaults_in i → chosen ≡ true) → AreSelected i → IsNumbered labels count chosen i
    numbered count chosen (tree.Value e) l c d x = tt
    numbered count chosen tree.Nothing l c d x = tt
    numbered count chosen (tree.Forget at local) l c d x = tt
    numbered count chosen (tree.Start at local e) l c d x = tt
    numbered count chosen (tree.StartCopy at local v) l c d x = tt
    numbered count chosen (tree.StartList at local stores) l c d x = tt
    numbered count chosen (tree.Block objects items) l c d x = all_numbered count chosen items l c d x
    numbered count chosen (tree.If e body) l c d x = numbered count chosen body l c d x
    numbered count chosen (tree.IfElse e first second) l c d x = (
      numbered count chosen first (λ n some. l n (first_some (labels_in n first) (labels_in n second) some)) (λ n some. c n (first_some (cases_in n first) (cases_in n second) some)) (λ some. d (first_some (defaults_in first) (defaults_in second) some)) x.0,
      numbered count chosen second (λ n some. l n (second_some (labels_in n first) (labels_in n second) some)) (λ n some. c n (second_some (cases_in n first) (cases_in n second) some)) (λ some. d (second_some (defaults_in first) (defaults_in second) some)) x.1,
    )
    numbered count chosen (tree.While e body) l c d x = numbered count chosen body l c d x
    numbered count chosen (tree.Do body e) l c d x = numbered count chosen body l c d x
    numbered count chosen (tree.For objects first e step body) l c d x = (
      all_numbered count chosen first (λ n some. l n (first_some (all_labels_in n first) (labels_in n body) some)) (λ n some. c n (first_some (all_cases_in n first) (cases_in n body) some)) (λ some. d (first_some (all_defaults_in first) (defaults_in body) some)) x.0,
      numbered count chosen body (λ n some. l n (second_some (all_labels_in n first) (labels_in n body) some)) (λ n some. c n (second_some (all_cases_in n first) (cases_in n body) some)) (λ some. d (second_some (all_defaults_in first) (defaults_in body) some)) x.1,
    )
    numbered count chosen (tree.Switch at e cases has_default values body) l c d x = numbered (length cases) true body l (λ n some. (below_some n (length cases) (cases_in n body) (x.0.cases n) some, refl)) (λ some. refl) x.1
    numbered count chosen (tree.Case n body) l c d x =
        let this = c n (this_one n (cases_in n body)) in
        (this.0, this.1, numbered count chosen body l (λ m some. c m (second_some (one m n) (cases_in m body) some)) d x)
    numbered count chosen (tree.Default body) l c d x = (d (first_some 1 (defaults_in body) at_least_one), numbered count chosen body l c (λ some. d (second_some 1 (defaults_in body) some)) x)
      where
        at_least_one : 1 ≤ 1
        at_least_one = omega arith
    numbered count chosen (tree.Label n body) l c d x = (l n (this_one n (labels_in n body)), numbered count chosen body (λ m some. l m (second_some (one m n) (labels_in m body) some)) c d x)
    numbered count chosen (tree.Goto n) l c d x = tt
    numbered count chosen tree.Break l c d x = tt
    numbered count chosen tree.Continue l c d x = tt
    numbered count chosen (tree.Return at e) l c d x = tt

    pub all_numbered : (count : ℕ) (chosen : Bool) (items : StatementTrees) → ((n : ℕ) → 1 ≤ all_labels_in n items → n < labels) → ((n : ℕ) → 1 ≤ all_cases_in n items → (n < count) × (chosen ≡ true)) → (1 ≤ all_defaults_in items → chosen ≡ true) → AllSelected items → AreNumbered labels count chosen items
    all_numbered count chosen tree.NoMore l c d x = tt
    all_numbered count chosen (tree.And first rest) l c d x = (
      numbered count chosen first (λ n some. l n (first_some (labels_in n first) (all_labels_in n rest) some)) (λ n some. c n (first_some (cases_in n first) (all_cases_in n rest) some)) (λ some. d (first_some (defaults_in first) (all_defaults_in rest) some)) x.0,
      all_numbered count chosen rest (λ n some. l n (second_some (labels_in n first) (all_labels_in n rest) some)) (λ n some. c n (second_some (cases_in n first) (all_cases_in n rest) some)) (λ some. d (second_some (defaults_in first) (all_defaults_in rest) some)) x.1,
    )
