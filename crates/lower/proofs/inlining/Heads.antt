-- A block becomes a head.
use Rattle.std.proofs.Common.{◌≡◌, ℕ, zero, suc, ◌≤◌, true, List, [], ◌∷◌, Some, length, map, refl, arith, ap}
use Rattle.std.specs.List.{slice_get, slice_set}
use Rattle.cfg.specs.declared.basic_blocks.BasicBlock.{BasicBlock}
use Rattle.lower.specs.Inlining.Inlinings.{head_set}
use Rattle.lower_templates.specs.Views.ProgramViews.{block}

abbrev pub noted : BasicBlock → BasicBlock
noted b = record b { is_head = true }

pub head_at : (bs : List BasicBlock) (n : ℕ) (b : BasicBlock) → slice_get bs n ≡ Some b → map block (slice_set bs n (noted b)) ≡ head_set (map block bs) n
head_at [] n b is = cc
head_at (c ∷ cs) zero b is = cc
head_at (c ∷ cs) (suc n) b is = ap (λ t. block c ∷ t) (head_at cs n b is)

pub no_head : (bs : List BasicBlock) (n : ℕ) → length bs ≤ n → head_set (map block bs) n ≡ map block bs
no_head [] n past = refl
no_head (c ∷ cs) zero past = absurd (omega arith)
no_head (c ∷ cs) (suc n) past = ap (λ t. block c ∷ t) (no_head cs n (omega arith))
