-- The blocks and edges of a program with turns unrolled are copies of those of the program.
use Rattle.std.specs.Prelude.{◌≡◌, ℕ, ◌+◌, ◌-◌, ◌*◌, ◌<◌, ◌==◌, nat_lt, Bool, true, false, cond, Option, Some, None, List, [], map, option_map, length, slice_get, refl}
use Rattle.std.proofs.Common.{arith, sym, ap, ◌∙◌}
use Rattle.std.proofs.lemmas.Bool.{cond_both, ltb-true}
use Rattle.std.proofs.lemmas.List.{length-map}
use Rattle.std.proofs.lemmas.Option.{slice_get-map, slice_get-get_or, get_or_from_slice_get}
use Rattle.cfg.specs.declared.programs.Flow.{Flow}
use Rattle.cfg.specs.declared.basic_blocks.BasicBlock.{BasicBlock}
use Rattle.cfg.specs.declared.flow_edges.Edge.{Edge}
use Rattle.lower_templates.specs.Worklist.Acts.{Step, step}
use Rattle.lower_templates.specs.Views.ProgramViews.{BlockView, EdgeView, FlowView, block, edge, flow_view}
use Rattle.transfer_system.specs.Edges.{last_of}
use Rattle.transfer_system.specs.System.BlockPasses.{instructions_in}
use Rattle.transfer_system.specs.System.FlowMachines.{head_in, edge_at, no_edge}
use Rattle.loop_unrolling.specs.Turns.{copies, last_copy, number_in, copy_behind, edge_copy, block_copy, split}
use Rattle.analysis_determined.specs.UnrolledDiagnostics.SameParts.{SameParts}
use Rattle.analysis_determined.proofs.unrolled_runs.CopiedLists.{copies_length, copy_at}

-- ---- blocks by their views

abbrev steps_of : Option BlockView → List Step
steps_of None = []
steps_of (Some b) = b.steps

abbrev head_of : Option BlockView → Bool
head_of None = false
head_of (Some b) = b.is_head

steps_is : (b : Option BasicBlock) → steps_of (option_map block b) ≡ map step (instructions_in b)
steps_is None = refl
steps_is (Some b) = refl

head_is : (b : Option BasicBlock) → head_of (option_map block b) ≡ head_in b
head_is None = refl
head_is (Some b) = refl

copied_steps : (first : ℕ) (is : Bool) (v : Option BlockView) → steps_of (option_map (block_copy first is) v) ≡ steps_of v
copied_steps first is None = refl
copied_steps first is (Some v) = refl

copied_head : (first : ℕ) (is : Bool) (v : Option BlockView) → head_of (option_map (block_copy first is) v) ≡ true → head_of v ≡ true
copied_head first is None h = h
copied_head first true (Some v) h = h
copied_head first false (Some v) h = absurd (cc)

pub last_is : (b : Option BasicBlock) → option_map step (last_of b) ≡ slice_get (map step (instructions_in b)) (length (map step (instructions_in b)) - 1)
last_is None = refl
last_is (Some b) =
    let e : length (map step b.instructions.items) ≡ length b.instructions.items = length-map b.instructions.items step in
    sym (slice_get-map step b.instructions.items (length b.instructions.items - 1)) ∙ ap (λ z. slice_get (map step b.instructions.items) (z - 1)) (sym e)

-- an edge of a view
record Viewed (o : Option Edge) (v : EdgeView) : Type 0 where
  one : Edge
  there : o ≡ Some one
  alike : edge one ≡ v

viewed : (o : Option Edge) (v : EdgeView) → option_map edge o ≡ Some v → Viewed o v
viewed None v e = absurd (cc)
viewed (Some x) v e = record { one = x; there = refl; alike = same (edge x) v e }
  where
    same : (a b : EdgeView) → Some a ≡ Some b → a ≡ b
    same a b e = cc

module _ (turns : ℕ) (f g : Flow) (h : flow_view g ≡ split turns (flow_view f)) where
  pub same_parts : SameParts f g
  same_parts = record {
    model = sym (ap (λ (v : FlowView). v.model) h);
    bases = sym (ap (λ (v : FlowView). v.bases) h);
    temps = sym (ap (λ (v : FlowView). v.temps) h);
    width = sym (ap (λ (v : FlowView). v.width) h);
    structs = sym (ap (λ (v : FlowView). v.structs) h);
    initial = sym (ap (λ (v : FlowView). v.initial) h);
    parameters = sym (ap (λ (v : FlowView). v.parameters) h);
  }

  -- how many blocks and edges a copy has
  abbrev pub size : ℕ
  size = length (map block f.blocks.items)

  abbrev pub edge_size : ℕ
  edge_size = length (map edge f.edges.items)

  -- ---- blocks

  abbrev blocks_of : ℕ → List BlockView
  blocks_of k = map (block_copy (k * edge_size) (k == last_copy turns)) (map block f.blocks.items)

  blocks_long : (k : ℕ) → length (blocks_of k) ≡ size
  blocks_long k = length-map (map block f.blocks.items) (block_copy (k * edge_size) (k == last_copy turns))

  pub block_count : length g.blocks.items ≡ copies turns * size
  block_count = sym (length-map g.blocks.items block) ∙ (ap (λ (v : FlowView). length v.blocks) h ∙ copies_length blocks_of size blocks_long (copies turns))

  -- a block of a copy is that of the program
  block_of : (k j : ℕ) → k < copies turns → j < size → option_map block (slice_get g.blocks.items (number_in size k j)) ≡ option_map (block_copy (k * edge_size) (k == last_copy turns)) (option_map block (slice_get f.blocks.items j))
  block_of k j p q =
      sym (slice_get-map block g.blocks.items (number_in size k j))
      ∙ (ap (λ (v : FlowView). slice_get v.blocks (number_in size k j)) h
      ∙ (copy_at blocks_of size blocks_long (copies turns) k j p q
      ∙ (slice_get-map (block_copy (k * edge_size) (k == last_copy turns)) (map block f.blocks.items) j
      ∙ ap (option_map (block_copy (k * edge_size) (k == last_copy turns))) (slice_get-map block f.blocks.items j))))

  pub steps_same : (k j : ℕ) → k < copies turns → j < size → map step (instructions_in (slice_get f.blocks.items j)) ≡ map step (instructions_in (slice_get g.blocks.items (number_in size k j)))
  steps_same k j p q =
      sym (steps_is (slice_get f.blocks.items j))
      ∙ (sym (copied_steps (k * edge_size) (k == last_copy turns) (option_map block (slice_get f.blocks.items j)))
      ∙ (ap steps_of (sym (block_of k j p q)) ∙ steps_is (slice_get g.blocks.items (number_in size k j))))

  pub last_same : (k j : ℕ) → k < copies turns → j < size → option_map step (last_of (slice_get f.blocks.items j)) ≡ option_map step (last_of (slice_get g.blocks.items (number_in size k j)))
  last_same k j p q =
      last_is (slice_get f.blocks.items j)
      ∙ (ap (λ ss. slice_get ss (length ss - 1)) (steps_same k j p q) ∙ sym (last_is (slice_get g.blocks.items (number_in size k j))))

  -- a head of a copy is one of the program
  pub head_there : (k j : ℕ) → k < copies turns → j < size → head_in (slice_get g.blocks.items (number_in size k j)) ≡ true → head_in (slice_get f.blocks.items j) ≡ true
  head_there k j p q e =
      sym (head_is (slice_get f.blocks.items j))
      ∙ copied_head (k * edge_size) (k == last_copy turns) (option_map block (slice_get f.blocks.items j))
      (ap head_of (sym (block_of k j p q)) ∙ (head_is (slice_get g.blocks.items (number_in size k j)) ∙ e))

  -- ---- edges

  abbrev edges_of : ℕ → List EdgeView
  edges_of k = map (edge_copy size (last_copy turns) k) (map edge f.edges.items)

  edges_long : (k : ℕ) → length (edges_of k) ≡ edge_size
  edges_long k = length-map (map edge f.edges.items) (edge_copy size (last_copy turns) k)

  pub edge_count : length g.edges.items ≡ copies turns * edge_size
  edge_count = sym (length-map g.edges.items edge) ∙ (ap (λ (v : FlowView). length v.edges) h ∙ copies_length edges_of edge_size edges_long (copies turns))

  -- the edge of a copy, and that of the program
  pub record EdgeCopy (k j : ℕ) : Type 0 where
    pub there : slice_get g.edges.items (number_in edge_size k j) ≡ Some (edge_at g.edges.items (number_in edge_size k j))
    pub here : slice_get f.edges.items j ≡ Some (edge_at f.edges.items j)
    pub alike : edge (edge_at g.edges.items (number_in edge_size k j)) ≡ edge_copy size (last_copy turns) k (edge (edge_at f.edges.items j))

  pub edge_of : (k j : ℕ) → k < copies turns → j < edge_size → EdgeCopy k j
  edge_of k j p q =
      let e : length (map edge f.edges.items) ≡ length f.edges.items = length-map f.edges.items edge in
      let here : slice_get f.edges.items j ≡ Some (edge_at f.edges.items j) = slice_get-get_or f.edges.items j no_edge (omega arith) in
      let v = viewed (slice_get g.edges.items (number_in edge_size k j)) (edge_copy size (last_copy turns) k (edge (edge_at f.edges.items j)))
      (sym (slice_get-map edge g.edges.items (number_in edge_size k j))
      ∙ (ap (λ (w : FlowView). slice_get w.edges (number_in edge_size k j)) h
      ∙ (copy_at edges_of edge_size edges_long (copies turns) k j p q
      ∙ (slice_get-map (edge_copy size (last_copy turns) k) (map edge f.edges.items) j
      ∙ ap (option_map (edge_copy size (last_copy turns) k)) (slice_get-map edge f.edges.items j ∙ ap (option_map edge) here))))) in
      let s : edge_at g.edges.items (number_in edge_size k j) ≡ v.one = get_or_from_slice_get g.edges.items (number_in edge_size k j) v.one no_edge v.there in
      record {
        there = v.there ∙ ap Some (sym s);
        here = here;
        alike = ap edge s ∙ v.alike;
      }

  -- an edge leads to a copy that is there
  pub behind_below : (k from to : ℕ) → k < copies turns → copy_behind (last_copy turns) k from to < copies turns
  behind_below k from to p = cond_both (nat_lt from to) k (cond (nat_lt k (last_copy turns)) (k + 1) (last_copy turns)) (λ z. z < copies turns) (λ e. p)
      (λ e. cond_both (nat_lt k (last_copy turns)) (k + 1) (last_copy turns) (λ z. z < copies turns) (λ d. let m = ltb-true k (last_copy turns) d in omega arith) (λ d. omega arith))
