-- Where temporaries have low numbers, they are counted from the copy's first one.
use Rattle.std.proofs.Common.{◌≡◌, ◌<◌, ℕ, ◌+◌, ◌-◌, ◌^◌, min, ℤ, List, [], ◌∷◌, map, Option, Some, None, refl, arith, ap, ap₂, sym, subst, ◌∙◌}
use Rattle.std.specs.Option.{option_map}
use Rattle.cfg.specs.declared.machine_instructions.Amount.{Amount}
use Rattle.cfg.specs.declared.machine_instructions.Amount.TheVariants as amount
use Rattle.lower_templates.specs.Worklist.Acts as acts
use Rattle.lower_templates.specs.Worklist.Acts.{Act}
use Rattle.lower.specs.Inlining.MovedActs.{temp, amount_moved, kept_moved, put_moved, named, own_base, moved}
use Rattle.simulation_layout.specs.InlinedLayout.Shifts.{shift, amount_shifted, kept_shifted, put_shifted, base_shifted, named_base, shifted}
use Rattle.simulation_layout.specs.Copies.LowTemporaries.{IsLow, AreLow, IsAmountLow, IsKeptLow, IsResultLow, IsActLow, IsPutLow}

-- the base that an instruction names
pub same_base : (a : Act) → named_base a ≡ own_base a
same_base (acts.Address to base offset) = refl
same_base (acts.Library to function arguments newest size) = refl
same_base (acts.Enter base) = refl
same_base (acts.Leave base) = refl
same_base (acts.Forget base) = refl
same_base (acts.Clear base) = refl
same_base (acts.Spell base offset room text) = refl
same_base a = refl

-- the first temporary is told up to the last number
module _ (d far : ℕ) (is : d ≡ min far (2 ^ 32 - 1)) where
  low : (t : ℕ) → IsLow (temp d t) → temp d t ≡ shift far t
  low t less = by d far is less
    where
      by : (d far : ℕ) → d ≡ min far (2 ^ 32 - 1) → min (t + d) (2 ^ 32 - 1) < 2 ^ 32 - 1 → min (t + d) (2 ^ 32 - 1) ≡ t + far
      by d far is less = omega (arith, is, less)

  low_all : (ts : List ℕ) → AreLow (map (temp d) ts) → map (temp d) ts ≡ map (shift far) ts
  low_all [] all = refl
  low_all (t ∷ ts) (one, all) = ap₂ (λ x xs. x ∷ xs) (low t one) (low_all ts all)

  low_amount : (n : Amount) → IsAmountLow (amount_moved d n) → amount_moved d n ≡ amount_shifted far n
  low_amount (amount.Temp t) less = ap amount.Temp (low t less)
  low_amount amount.One less = refl

  low_kept : (kept : Option (ℕ × ℕ)) → IsKeptLow (kept_moved d kept) → kept_moved d kept ≡ kept_shifted far kept
  low_kept None less = refl
  low_kept (Some p) less = ap₂ (λ x y. Some (x, y)) (low p.0 less.0) (low p.1 less.1)

  low_result : (to : Option ℕ) → IsResultLow (option_map (temp d) to) → option_map (temp d) to ≡ option_map (shift far) to
  low_result None less = refl
  low_result (Some t) less = ap Some (low t less)

  pub low_put : (puts : Option (ℕ × ℤ)) → IsPutLow (put_moved d puts) → put_moved d puts ≡ put_shifted far puts
  low_put None less = refl
  low_put (Some p) less = ap (λ x. Some (x, p.1)) (low p.0 less)

  low_base : (b : ℕ) (own : Option ℕ) → named b own ≡ base_shifted b own
  low_base b None = refl
  low_base b (Some n) = refl

  pub moved_is_shifted : (b : ℕ) (a : Act) → IsActLow (moved d b a) → moved d b a ≡ shifted far b a
  moved_is_shifted b (acts.Constant to value kind) less = ap (λ x. acts.Constant x value kind) (low to less)
  moved_is_shifted b (acts.Address to base offset) less = ap (λ x. acts.Address x b offset) (low to less)
  moved_is_shifted b (acts.Load to from kind) less = ap₂ (λ x y. acts.Load x y kind) (low to less.0) (low from less.1)
  moved_is_shifted b (acts.Store to from kind kept) less = ap₂ (λ x y. acts.Store x y kind (kept_moved d kept)) (low to less.0) (low from less.1) ∙ ap (λ x. acts.Store (shift far to) (shift far from) kind x) (low_kept kept less.2)
  moved_is_shifted b (acts.Copy to from index) less = ap₂ (λ x y. acts.Copy x y index) (low to less.0) (low from less.1)
  moved_is_shifted b (acts.Narrow to from offset size) less = ap₂ (λ x y. acts.Narrow x y offset size) (low to less.0) (low from less.1)
  moved_is_shifted b (acts.Shift to from by size backward) less = ap₂ (λ x y. acts.Shift x y (amount_moved d by) size backward) (low to less.0) (low from less.1) ∙ ap (λ x. acts.Shift (shift far to) (shift far from) x size backward) (low_amount by less.2)
  moved_is_shifted b (acts.Binary to sign left right kind) less = ap₂ (λ x y. acts.Binary x sign y (amount_moved d right) kind) (low to less.0) (low left less.1) ∙ ap (λ x. acts.Binary (shift far to) sign (shift far left) x kind) (low_amount right less.2)
  moved_is_shifted b (acts.Unary to sign from kind) less = ap₂ (λ x y. acts.Unary x sign y kind) (low to less.0) (low from less.1)
  moved_is_shifted b (acts.Compare to sign left right) less = ap₂ (λ x y. acts.Compare x sign y (temp d right)) (low to less.0) (low left less.1) ∙ ap (λ x. acts.Compare (shift far to) sign (shift far left) x) (low right less.2)
  moved_is_shifted b (acts.Not to from kind) less = ap₂ (λ x y. acts.Not x y kind) (low to less.0) (low from less.1)
  moved_is_shifted b (acts.Difference to left right size) less = ap₂ (λ x y. acts.Difference x y (temp d right) size) (low to less.0) (low left less.1) ∙ ap (λ x. acts.Difference (shift far to) (shift far left) x size) (low right less.2)
  moved_is_shifted b (acts.ComparePointers to sign left right) less = ap₂ (λ x y. acts.ComparePointers x sign y (temp d right)) (low to less.0) (low left less.1) ∙ ap (λ x. acts.ComparePointers (shift far to) sign (shift far left) x) (low right less.2)
  moved_is_shifted b (acts.Convert to from old new) less = ap₂ (λ x y. acts.Convert x y old new) (low to less.0) (low from less.1)
  moved_is_shifted b (acts.Library to function arguments newest size) less =
      ap₂ (λ x y. acts.Library x function y (named b newest) size) (low_result to less.0) (low_all arguments less.1) ∙ ap (λ x. acts.Library (option_map (shift far) to) function (map (shift far) arguments) x size) (low_base b newest)
  moved_is_shifted b (acts.Branch from kind) less = ap (λ x. acts.Branch x kind) (low from less)
  moved_is_shifted b (acts.Switch from kind) less = ap (λ x. acts.Switch x kind) (low from less)
  moved_is_shifted b (acts.ReadLine to text count stream) less =
      ap₂ (λ x y. acts.ReadLine x y (temp d count) (temp d stream)) (low_result to less.0) (low text less.1) ∙ ap₂ (λ x y. acts.ReadLine (option_map (shift far) to) (shift far text) x y) (low count less.2) (low stream less.3)
  moved_is_shifted b other less = refl
