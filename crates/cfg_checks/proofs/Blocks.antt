-- Blocks are well formed by marks that agree with the edges.
use Rattle.std.proofs.Common.{◌≡◌, ℕ, ◌+◌, ◌==◌, ◌&&◌, List, [], ◌∷◌, length, take, drop, refl, arith, ap, ◌∙◌}
use Rattle.cfg.specs.declared.basic_blocks.BasicBlock.{BasicBlock}
use Rattle.cfg.specs.declared.flow_edges.Edge.{Edge}
use Rattle.cfg.specs.WellFormed.{Names, is_block, are_blocks}
use Rattle.cfg_checks.specs.EnteredBlocks.{entered_blocks}
use Rattle.cfg_checks.specs.NumberedBlocks.{is_marked_block, are_marked_blocks}
use Rattle.cfg_checks.proofs.Heads.{entered_at}

module _ (n : Names) (blocks : ℕ) (edges : List Edge) where
  by_marks : (bs : List BasicBlock) (at first : ℕ) (rest : List Edge) → at + length bs ≡ blocks → are_marked_blocks n blocks (entered_blocks blocks edges) at first bs rest ≡ are_blocks n blocks edges at first bs rest
  by_marks [] at first rest all = refl
  by_marks (b ∷ bs) at first rest all =
      ap (λ e. ((b.first_edge == first) && is_marked_block n blocks e at b (take b.edges rest)) && are_marked_blocks n blocks (entered_blocks blocks edges) (at + 1) (first + b.edges) bs (drop b.edges rest)) (entered_at blocks edges at (omega arith))
      ∙ ap (λ t. ((b.first_edge == first) && is_block n blocks edges at b (take b.edges rest)) && t) (by_marks bs (at + 1) (first + b.edges) (drop b.edges rest) (omega arith))

pub marked_blocks : (n : Names) (bs : List BasicBlock) (edges : List Edge) → are_marked_blocks n (length bs) (entered_blocks (length bs) edges) 0 0 bs edges ≡ are_blocks n (length bs) edges 0 0 bs edges
marked_blocks n bs edges = by_marks n (length bs) edges bs 0 0 edges (omega arith)
