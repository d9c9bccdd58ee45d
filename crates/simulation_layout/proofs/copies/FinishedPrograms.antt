-- What stands in a program as far as it is made stands in the finished one.
use Rattle.std.proofs.Common.{◌≡◌, ◌⊎◌, inl, inr, ℕ, zero, suc, ◌+◌, Bool, true, false, cond, nat_le, List, [], ◌∷◌, ◌++◌, length, map, take, drop, get_or, Option, Some, None, refl, ap, sym, subst, ◌∙◌}
use Rattle.std.specs.List.{slice_get}
use Rattle.c_layout.specs.CheckedUnits.{FunctionView, UnitView}
use Rattle.lower_templates.specs.Worklist.Acts.{Step}
use Rattle.lower_templates.specs.Views.ProgramViews.{BlockView, EdgeView, FlowView}
use Rattle.semantics.specs.CfgMachine.FlowEdges.{edges_of}
use Rattle.semantics.specs.CfgMachine.FlowSteps.{block_of, block_or}
use Rattle.lower.specs.Inlining.Lowerings.{lowered}
use Rattle.lower.specs.Inlining.Inlinings.{Made, as_head, head_set, head_if, with_heads, resolved_edge, resolved, finished}
use Rattle.simulation_layout.proofs.inlining.ListPlaces.{some_same, none_is_not, at_more}
use Rattle.simulation_layout.proofs.inlining.MadeParts.{lines, At, EdgesAt}

-- a block with another mark
pub record SameBlock (b : BlockView) (bs : List BlockView) (n : ℕ) : Type 0 where
  pub it : BlockView
  pub there : slice_get bs n ≡ Some it
  pub steps : it.steps ≡ b.steps
  pub first : it.first_edge ≡ b.first_edge
  pub edges : it.edges ≡ b.edges

set_block : (bs : List BlockView) (k n : ℕ) (b : BlockView) → slice_get bs n ≡ Some b → SameBlock b (head_set bs k) n
set_block [] k n b is = cc
set_block (x ∷ xs) zero zero b is = record { it = as_head x; there = refl; steps = ap (λ (y : BlockView). y.steps) (some_same x b is); first = ap (λ (y : BlockView). y.first_edge) (some_same x b is); edges = ap (λ (y : BlockView). y.edges) (some_same x b is) }
set_block (x ∷ xs) zero (suc n) b is = record { it = b; there = is; steps = refl; first = refl; edges = refl }
set_block (x ∷ xs) (suc k) zero b is = record { it = b; there = is; steps = refl; first = refl; edges = refl }
set_block (x ∷ xs) (suc k) (suc n) b is = let s = set_block xs k n b is in record { it = s.it; there = s.there; steps = s.steps; first = s.first; edges = s.edges }

if_block : (e : EdgeView) (bs : List BlockView) (n : ℕ) (b : BlockView) → slice_get bs n ≡ Some b → SameBlock b (head_if e bs) n
if_block e bs n b is = by (nat_le e.to e.from)
  where
    by : (t : Bool) → SameBlock b (cond t (head_set bs e.to) bs) n
    by true = set_block bs e.to n b is
    by false = record { it = b; there = is; steps = refl; first = refl; edges = refl }

headed : (es : List EdgeView) (bs : List BlockView) (n : ℕ) (b : BlockView) → slice_get bs n ≡ Some b → SameBlock b (with_heads es bs) n
headed [] bs n b is = record { it = b; there = is; steps = refl; first = refl; edges = refl }
headed (e ∷ es) bs n b is =
    let x = if_block e bs n b is in
    let y = headed es (head_if e bs) n x.it x.there in
    record { it = y.it; there = y.there; steps = y.steps ∙ x.steps; first = y.first ∙ x.first; edges = y.edges ∙ x.edges }

line_of : (bs : List BlockView) (n : ℕ) (line : List Step) → slice_get (map (λ (b : BlockView). b.steps) bs) n ≡ Some line → (b : BlockView) × (slice_get bs n ≡ Some b) × (b.steps ≡ line)
line_of [] n line is = absurd (none_is_not line is)
line_of (b ∷ bs) zero line is = (b, refl, some_same b.steps line is)
line_of (b ∷ bs) (suc n) line is = line_of bs n line is

take_map : {A B : Type 0} (g : A → B) (count : ℕ) (xs : List A) → take count (map g xs) ≡ map g (take count xs)
take_map g zero xs = refl
take_map g (suc n) [] = refl
take_map g (suc n) (x ∷ xs) = ap (λ ys. g x ∷ ys) (take_map g n xs)

drop_map : {A B : Type 0} (g : A → B) (first : ℕ) (xs : List A) → drop first (map g xs) ≡ map g (drop first xs)
drop_map g zero xs = refl
drop_map g (suc n) [] = refl
drop_map g (suc n) (x ∷ xs) = drop_map g n xs

get_map : {A B : Type 0} (g : A → B) (xs : List A) (n : ℕ) (x : A) → slice_get xs n ≡ Some x → slice_get (map g xs) n ≡ Some (g x)
get_map g [] n x is = cc
get_map g (y ∷ ys) zero x is = ap (λ z. Some (g z)) (some_same y x is)
get_map g (y ∷ ys) (suc n) x is = get_map g ys n x is

module _ (u : UnitView) (entry : FunctionView) (m : Made) (temps : ℕ) (none_ready : m.ready ≡ []) where
  abbrev pub final : FlowView
  final = lowered u entry (finished m) temps

  -- an instruction, in its block
  pub record StepIn (block at : ℕ) (s : Step) : Type 0 where
    pub it : BlockView
    pub there : slice_get final.blocks block ≡ Some it
    pub stands : slice_get it.steps at ≡ Some s

  pub in_block : (block at : ℕ) (s : Step) → At m block at s → StepIn block at s
  in_block block at s is = by (at_more (map (λ (b : BlockView). b.steps) m.blocks) m.ready is.line block is.there)
    where
      from_line : (b : BlockView) × (slice_get m.blocks block ≡ Some b) × (b.steps ≡ is.line) → StepIn block at s
      from_line (b, there, same) =
          let h = headed (resolved m.labels m.edges) m.blocks block b there in
          record { it = h.it; there = h.there; stands = ap (λ l. slice_get l at) (h.steps ∙ same) ∙ is.stands }

      by : ((block ≡ length (map (λ (b : BlockView). b.steps) m.blocks)) × (is.line ≡ m.ready)) ⊎ (slice_get (map (λ (b : BlockView). b.steps) m.blocks) block ≡ Some is.line) → StepIn block at s
      by (inl p) = absurd (none_is_not s (sym (ap (λ l. slice_get l at) (p.1 ∙ none_ready)) ∙ is.stands))
      by (inr old) = from_line (line_of m.blocks block is.line old)

  pub stands_in : (block at : ℕ) (s : Step) → At m block at s → slice_get (block_of final block).steps at ≡ Some s
  stands_in block at s is = let x = in_block block at s is in ap (λ o. slice_get (block_or o).steps at) x.there ∙ x.stands

  -- the edges of a block lead to the blocks of labels
  pub edges_in : (block : ℕ) (es : List EdgeView) → EdgesAt m block es → edges_of final (block_of final block) ≡ resolved m.labels es
  edges_in block es e =
      let h = headed (resolved m.labels m.edges) m.blocks block e.it e.there in
      ap (λ o. take (block_or o).edges (drop (block_or o).first_edge (resolved m.labels m.edges))) h.there
      ∙ ap (λ k. take k (drop h.it.first_edge (resolved m.labels m.edges))) h.edges
      ∙ ap (λ k. take e.it.edges (drop k (resolved m.labels m.edges))) h.first
      ∙ ap (λ xs. take e.it.edges xs) (drop_map (resolved_edge m.labels) e.it.first_edge m.edges)
      ∙ take_map (resolved_edge m.labels) e.it.edges (drop e.it.first_edge m.edges)
      ∙ ap (λ xs. resolved m.labels xs) e.are

  pub edge_in : (n : ℕ) (e : EdgeView) → slice_get m.edges n ≡ Some e → slice_get final.edges n ≡ Some (resolved_edge m.labels e)
  edge_in n e is = get_map (resolved_edge m.labels) m.edges n e is
