-- One step towards the numbers of least absolute value.
use Rattle.std.proofs.Common.{◌≡◌, ◌<◌, ◌+◌, ◌-◌, ◌++◌, ◌∙◌, ℕ, ℤ, suc, List, sym, ap, subst, arith, true, Contains}
use Rattle.cc_base.specs.Ascending.{is_ascending}
use Rattle.cfg.specs.Nearest.{left_after, without_farther, nearest_of, not_among, AreThresholds}

gap : (e a : ℕ) → a < e → e - a ≡ suc (e - (a + 1))
gap e a lt = omega arith

pub left_step : (e a : ℕ) (kept next goal : List ℤ) → a < e → next ≡ without_farther kept → left_after (e - a) kept ≡ goal → left_after (e - (a + 1)) next ≡ goal
left_step e a kept next goal lt is was =
    subst (λ l. left_after (e - (a + 1)) l ≡ goal) (sym is) (subst (λ n. left_after n kept ≡ goal) (gap e a lt) was)

-- what the choice makes of the limits and the numbers
pub chosen_are : (limits numbers found others kept all result : List ℤ)
    → found ≡ not_among limits numbers
    → is_ascending others ≡ true
    → ((n : ℤ) → Contains found n → Contains others n)
    → ((n : ℤ) → Contains others n → Contains found n)
    → kept ≡ nearest_of others
    → all ≡ limits ++ kept
    → ((n : ℤ) → Contains all n → Contains result n)
    → ((n : ℤ) → Contains result n → Contains all n)
    → AreThresholds limits numbers result
chosen_are limits numbers found others kept all result f a up down k s there back = record {
  others = others;
  ascending = a;
  all = λ n c. up n (subst (λ l. Contains l n) (sym f) c);
  no_more = λ n c. subst (λ l. Contains l n) f (down n c);
  kept = λ n c. there n (subst (λ l. Contains l n) (sym (s ∙ ap (λ l. limits ++ l) k)) c);
  made = λ n c. subst (λ l. Contains l n) (s ∙ ap (λ l. limits ++ l) k) (back n c);
}

-- the same of lists that are equal
pub same_thresholds : (l l2 n n2 v t : List ℤ) → l ≡ l2 → n ≡ n2 → t ≡ v → AreThresholds l n v → AreThresholds l2 n2 t
same_thresholds l l2 n n2 v t p q r a =
    subst (λ x. AreThresholds x n2 t) p (subst (λ x. AreThresholds l x t) q (subst (λ x. AreThresholds l n x) (sym r) a))
