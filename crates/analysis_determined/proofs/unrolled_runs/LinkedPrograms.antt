-- The blocks of a well-formed program have their edges, and these lead to blocks.
use Rattle.std.specs.Prelude.{◌≡◌, ℕ, zero, suc, ◌+◌, ◌<◌, ◌≤◌, ◌==◌, Bool, true, ◌&&◌, nat_lt, Option, Some, None, List, [], ◌∷◌, map, option_map, length, take, drop, slice_get, refl}
use Rattle.std.specs.List.{list_all}
use Rattle.std.proofs.Common.{arith, sym, subst, ap, ◌∙◌}
use Rattle.std.proofs.lemmas.Bool.{and_parts, ltb-true, eqb-true}
use Rattle.std.proofs.lemmas.List.{length-map, take-append-drop, length-append}
use Rattle.std.proofs.lemmas.Option.{slice_get-map}
use Rattle.cc_base.specs.declared.limit_table.Limits.{Limits}
use Rattle.cfg.specs.FlowSystems.{is_sound_edge, is_in_order, well_formed_system}
use Rattle.cfg.specs.WellFormed.{Names, names_of, fits_operation, On, is_body, is_block, are_blocks, is_few, is_well_formed}
use Rattle.cfg.specs.declared.basic_blocks.BasicBlock.{BasicBlock}
use Rattle.cfg.specs.declared.flow_edges.Edge.{Edge}
use Rattle.cfg.specs.declared.programs.Flow.{Flow}
use Rattle.lower_templates.specs.Views.ProgramViews.{BlockView, EdgeView, block, edge, flow_view}
use Rattle.analysis_determined.specs.UnrolledRuns.SameRuns.{IsLinked}

-- what a view is of
record Viewed {X Y : Type 0} (view : X → Y) (o : Option X) (v : Y) : Type 0 where
  one : X
  there : o ≡ Some one
  alike : v ≡ view one

viewed : {X Y : Type 0} (view : X → Y) (o : Option X) (v : Y) → option_map view o ≡ Some v → Viewed view o v
viewed view None v e = absurd (cc)
viewed view (Some x) v e = record { one = x; there = refl; alike = same v (view x) e }
  where
    same : {Y : Type 0} (a b : Y) → Some b ≡ Some a → a ≡ b
    same a b e = cc

all_at : {X : Type 0} (f : X → Bool) (xs : List X) → list_all f xs ≡ true → (i : ℕ) (x : X) → slice_get xs i ≡ Some x → f x ≡ true
all_at f [] h i x e = absurd (cc)
all_at f (y ∷ xs) h zero x e = subst (λ z. f z ≡ true) (same y x e) (and_parts (f y) (list_all f xs) h).0
  where
    same : {X : Type 0} (y x : X) → Some y ≡ Some x → y ≡ x
    same y x e = cc
all_at f (y ∷ xs) h (suc i) x e = all_at f xs (and_parts (f y) (list_all f xs) h).1 i x e

-- ---- the edges of a block

module _ (n : Names) (blocks : ℕ) (edges : List Edge) where
  count_own : (at : ℕ) (b : BasicBlock) (own : List Edge) → is_block n blocks edges at b own ≡ true → length own ≡ b.edges
  count_own at b own h =
      let body = and_parts (list_all (λ i. fits_operation n i.operation) b.instructions.items) _ h in
      let count = and_parts (is_body On b.instructions.items own) _ body.1 in
      eqb-true (length own) b.edges (and_parts (length own == b.edges) _ count.1).0

  edges_there : (at first : ℕ) (bs : List BasicBlock) (rest : List Edge) → are_blocks n blocks edges at first bs rest ≡ true → (i : ℕ) (b : BasicBlock) → slice_get bs i ≡ Some b → b.first_edge + b.edges ≤ first + length rest
  edges_there at first [] rest h i b e = absurd (cc)
  edges_there at first (x ∷ bs) rest h i b e = at_place i e (λ k q. edges_there (at + 1) (first + x.edges) bs (drop x.edges rest) behind k b q)
    where
      here : ((x.first_edge == first) && is_block n blocks edges at x (take x.edges rest)) ≡ true
      here = (and_parts ((x.first_edge == first) && is_block n blocks edges at x (take x.edges rest)) _ h).0

      behind : are_blocks n blocks edges (at + 1) (first + x.edges) bs (drop x.edges rest) ≡ true
      behind = (and_parts ((x.first_edge == first) && is_block n blocks edges at x (take x.edges rest)) _ h).1

      begins : x.first_edge ≡ first
      begins = eqb-true x.first_edge first (and_parts (x.first_edge == first) _ here).0

      own : length (take x.edges rest) ≡ x.edges
      own = count_own at x (take x.edges rest) (and_parts (x.first_edge == first) _ here).1

      both : length (take x.edges rest) + length (drop x.edges rest) ≡ length rest
      both = sym (length-append (take x.edges rest) (drop x.edges rest)) ∙ ap length (take-append-drop x.edges rest)

      same : (y z : BasicBlock) → Some y ≡ Some z → y ≡ z
      same y z e = cc

      at_place : (k : ℕ) → slice_get (x ∷ bs) k ≡ Some b → ((k : ℕ) → slice_get bs k ≡ Some b → b.first_edge + b.edges ≤ (first + x.edges) + length (drop x.edges rest)) → b.first_edge + b.edges ≤ first + length rest
      at_place zero q more = subst (λ z. z.first_edge + z.edges ≤ first + length rest) (same x b q) (let o = own in let w = both in let g = begins in omega arith)
      at_place (suc k) q more = let m = more k q in let o = own in let w = both in omega arith

module _ (limits : Limits) (flow : Flow) (good : is_well_formed limits flow ≡ true) where
  blocks_good : are_blocks (names_of flow) (length flow.blocks.items) flow.edges.items 0 0 flow.blocks.items flow.edges.items ≡ true
  blocks_good =
      let rest = and_parts (nat_lt 0 (length flow.blocks.items)) _ good in
      (and_parts (are_blocks (names_of flow) (length flow.blocks.items) flow.edges.items 0 0 flow.blocks.items flow.edges.items) _ rest.1).0

  sound : list_all (is_sound_edge flow.blocks.items) flow.edges.items ≡ true
  sound =
      let a = and_parts (nat_lt 0 (length flow.blocks.items)) _ (well_formed_system limits flow good) in
      let b = and_parts (is_few (length flow.blocks.items)) _ a.1 in
      let c = and_parts (is_few (length flow.edges.items)) _ b.1 in
      (and_parts (list_all (is_sound_edge flow.blocks.items) flow.edges.items) (is_in_order 0 flow.edges.items) c.1).0

  block_size : length (map block flow.blocks.items) ≡ length flow.blocks.items
  block_size = length-map flow.blocks.items block

  edge_size : length (map edge flow.edges.items) ≡ length flow.edges.items
  edge_size = length-map flow.edges.items edge

  edges_fit : (b : ℕ) (v : BlockView) → slice_get (map block flow.blocks.items) b ≡ Some v → v.first_edge + v.edges ≤ length (map edge flow.edges.items)
  edges_fit b v e =
      let w = viewed block (slice_get flow.blocks.items b) v (sym (slice_get-map block flow.blocks.items b) ∙ e) in
      let t = edges_there (names_of flow) (length flow.blocks.items) flow.edges.items 0 0 flow.blocks.items flow.edges.items blocks_good b w.one w.there in
      let s = edge_size in
      subst (λ (z : BlockView). z.first_edge + z.edges ≤ length (map edge flow.edges.items)) (sym w.alike) (omega arith)

  to_below : (j : ℕ) (v : EdgeView) → slice_get (map edge flow.edges.items) j ≡ Some v → v.to < length (map block flow.blocks.items)
  to_below j v e =
      let w = viewed edge (slice_get flow.edges.items j) v (sym (slice_get-map edge flow.edges.items j) ∙ e) in
      let a = and_parts (nat_lt w.one.from (length flow.blocks.items)) _ (all_at (is_sound_edge flow.blocks.items) flow.edges.items sound j w.one w.there) in
      let b = ltb-true w.one.to (length flow.blocks.items) (and_parts (nat_lt w.one.to (length flow.blocks.items)) _ a.1).0 in
      let s = block_size in
      subst (λ (z : EdgeView). z.to < length (map block flow.blocks.items)) (sym w.alike) (omega arith)

  pub linked : IsLinked (flow_view flow)
  linked = record {
    some =
        let a = ltb-true 0 (length flow.blocks.items) (and_parts (nat_lt 0 (length flow.blocks.items)) _ good).0 in
        let s = block_size in
        omega arith;
    edges = edges_fit;
    targets = to_below;
  }
