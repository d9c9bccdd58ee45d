-- Each edge of a well-formed program is one of the block that it leaves, and fits the instruction that ends that block.
use Rattle.std.proofs.Common.{◌≡◌, ℕ, zero, suc, ◌+◌, ◌-◌, ◌<◌, ◌≤◌, true, ◌&&◌, Option, Some, None, List, [], ◌∷◌, length, take, drop, arith, subst, sym, refl, ap, ◌∙◌, inl, inr}
use Rattle.std.specs.Prelude.{slice_get, nat_lt, ◌==◌}
use Rattle.std.specs.List.{list_all, list_any}
use Rattle.std.proofs.lemmas.Bool.{and_parts, cases_lt, eqb-true, true≢false}
use Rattle.cc_base.specs.declared.limit_table.Limits.{Limits}
use Rattle.cfg.specs.BaseShapes.{same_truth}
use Rattle.cfg.specs.WellFormed.{names_of, Leads, On, Away, Once, TwoWays, ByCases, ByLine, leads, are_led, is_body, fits_operation, all_leave, goes_back, is_block, are_blocks, is_well_formed}
use Rattle.cfg.specs.declared.basic_blocks.BasicBlock.{BasicBlock}
use Rattle.cfg.specs.declared.flow_edges.Edge.{Edge}
use Rattle.cfg.specs.declared.machine_instructions.Instruction.{Instruction}
use Rattle.cfg.specs.declared.programs.Flow.{Flow}
use Rattle.diagnose.specs.Diagnostics.AdmittedRules.{instructions_in, instructions_of}
use Rattle.store_sound.proofs.operations.Slices.{get_drop}
use Rattle.store_sound.proofs.programs.ShapedBases.{all_at}
use Rattle.transfer_sound.proofs.induction.Blocks.{block_facts, drop_more}
use Rattle.transfer_sound.proofs.edges.TakenEdges.{FitsLead, body_led, led_fit}

take_get : {X : Type 0} (n : ℕ) (xs : List X) (k : ℕ) (x : X) → k < n → slice_get xs k ≡ Some x → slice_get (take n xs) k ≡ Some x
take_get zero xs k x h e = absurd (omega (arith, h))
take_get (suc n) [] k x h e = cc
take_get (suc n) (y ∷ ys) zero x h e = e
take_get (suc n) (y ∷ ys) (suc k) x h e = take_get n ys k x (omega (arith, h)) e

none_there : {X : Type 0} (xs : List X) (k : ℕ) (x : X) → length xs ≡ 0 → slice_get xs k ≡ Some x → ⊥
none_there [] k x h e = cc
none_there (y ∷ ys) k x h e = absurd (omega (arith, h))

module _ (flow : Flow) where
  abbrev edges : List Edge
  edges = flow.edges.items

  -- an edge is one of the edges of a block among those that are numbered from `at` on
  record IsOfBlock (at number : ℕ) (bs : List BasicBlock) (e : Edge) : Type 0 where
    index : ℕ
    holder : BasicBlock
    among : slice_get bs index ≡ Some holder
    from : e.from ≡ at + index
    place : ℕ
    counted : number ≡ holder.first_edge + place
    own : slice_get (take holder.edges (drop holder.first_edge edges)) place ≡ Some e

  of_block : (at first : ℕ) (bs : List BasicBlock) (rest : List Edge) → rest ≡ drop first edges → are_blocks (names_of flow) (length flow.blocks.items) edges at first bs rest ≡ true → (j : ℕ) (e : Edge) → slice_get rest j ≡ Some e → IsOfBlock at (first + j) bs e
  of_block at first [] rest r h j e g = absurd (none_there rest j e (eqb-true (length rest) 0 h) g)
  of_block at first (x ∷ xs) rest r h j e g =
      let p = and_parts ((x.first_edge == first) && is_block (names_of flow) (length flow.blocks.items) edges at x (take x.edges rest)) (are_blocks (names_of flow) (length flow.blocks.items) edges (at + 1) (first + x.edges) xs (drop x.edges rest)) h in
      let q = and_parts (x.first_edge == first) (is_block (names_of flow) (length flow.blocks.items) edges at x (take x.edges rest)) p.0 in
      let t = and_parts (list_all (λ i. fits_operation (names_of flow) i.operation) x.instructions.items) _ q.1 in
      let u = and_parts (is_body On x.instructions.items (take x.edges rest)) _ t.1 in
      let v = and_parts (length (take x.edges rest) == x.edges) (all_leave (length flow.blocks.items) at (take x.edges rest) && same_truth x.is_head (list_any (goes_back at) edges)) u.1 in
      let w = and_parts (all_leave (length flow.blocks.items) at (take x.edges rest)) (same_truth x.is_head (list_any (goes_back at) edges)) v.1 in
      let starts = eqb-true x.first_edge first q.0 in
      let mine : take x.edges rest ≡ take x.edges (drop x.first_edge edges) = ap (take x.edges) (r ∙ ap (λ z. drop z edges) (sym (eqb-true x.first_edge first q.0))) in
      elim (cases_lt j x.edges) [
        | inl a ↦
            (let there = take_get x.edges rest j e a g in
            let leave = all_at (λ (z : Edge). (z.from == at) && nat_lt z.to (length flow.blocks.items)) (take x.edges rest) j e w.0 there in
            let from = eqb-true e.from at (and_parts (e.from == at) (nat_lt e.to (length flow.blocks.items)) leave).0 in
            record { index = 0; holder = x; among = refl; from = omega (arith, from); place = j; counted = omega (arith, starts); own = subst (λ z. slice_get z j ≡ Some e) mine there })
        | inr a ↦
            (let k : ℕ = j - x.edges in
            let there : j ≡ x.edges + k = omega (arith, a) in
            let s = of_block (at + 1) (first + x.edges) xs (drop x.edges rest) (ap (drop x.edges) r ∙ drop_more first x.edges (first + x.edges) edges refl) p.1 k e (get_drop x.edges rest k j there ∙ g) in
            let from = s.from in
            let counted = s.counted in
            record { index = suc s.index; holder = s.holder; among = s.among; from = omega (arith, from); place = s.place; counted = omega (arith, counted, there); own = s.own })
      ]

  pub edge_leads : (limits : Limits) → is_well_formed limits flow ≡ true → (number b at : ℕ) (e : Edge) (i : Instruction) → slice_get edges number ≡ Some e → e.from ≡ b → slice_get (instructions_of flow b) at ≡ Some i → (leads i.operation ≡ On → ⊥) → FitsLead (leads i.operation) e.kind
  edge_leads limits good number b at e i g from is off =
      let p = and_parts (nat_lt 0 (length flow.blocks.items)) _ good in
      let q = and_parts (are_blocks (names_of flow) (length flow.blocks.items) edges 0 0 flow.blocks.items edges) _ p.1 in
      let o = of_block 0 0 flow.blocks.items edges refl q.0 number e g in
      let leaves = o.from in
      let same : o.index ≡ b = omega (arith, leaves, from) in
      let block_is : slice_get flow.blocks.items b ≡ Some o.holder = subst (λ z. slice_get flow.blocks.items z ≡ Some o.holder) same o.among in
      let there : slice_get o.holder.instructions.items at ≡ Some i = ap (λ z. slice_get (instructions_in z) at) (sym block_is) ∙ is in
      let led = body_led o.holder.instructions.items (take o.holder.edges (drop o.holder.first_edge edges)) at i (block_facts flow limits good b o.holder block_is).body there off in
      led_fit (leads i.operation) (take o.holder.edges (drop o.holder.first_edge edges)) o.place e led o.own

  -- ---- the block of an edge

  ends_led : (x : Leads) (is : List Instruction) (es : List Edge) → is_body x is es ≡ true → (y : Leads) × (are_led y es ≡ true)
  ends_led On [] es h = absurd (true≢false (sym h))
  ends_led On (i ∷ is) es h = ends_led (leads i.operation) is es h
  ends_led Away [] es h = (Away, h)
  ends_led Away (i ∷ is) es h = absurd (true≢false (sym h))
  ends_led Once [] es h = (Once, h)
  ends_led Once (i ∷ is) es h = absurd (true≢false (sym h))
  ends_led TwoWays [] es h = (TwoWays, h)
  ends_led TwoWays (i ∷ is) es h = absurd (true≢false (sym h))
  ends_led ByCases [] es h = (ByCases, h)
  ends_led ByCases (i ∷ is) es h = absurd (true≢false (sym h))
  ends_led ByLine [] es h = (ByLine, h)
  ends_led ByLine (i ∷ is) es h = absurd (true≢false (sym h))

  pub record IsInBlock (number : ℕ) (e : Edge) : Type 0 where
    pub holder : BasicBlock
    pub block_is : slice_get flow.blocks.items e.from ≡ Some holder
    pub place : ℕ
    pub counted : number ≡ holder.first_edge + place
    pub own : slice_get (take holder.edges (drop holder.first_edge edges)) place ≡ Some e
    pub lead : Leads
    pub led : are_led lead (take holder.edges (drop holder.first_edge edges)) ≡ true

  pub in_block : (limits : Limits) → is_well_formed limits flow ≡ true → (number : ℕ) (e : Edge) → slice_get edges number ≡ Some e → IsInBlock number e
  in_block limits good number e g =
      let p = and_parts (nat_lt 0 (length flow.blocks.items)) _ good in
      let q = and_parts (are_blocks (names_of flow) (length flow.blocks.items) edges 0 0 flow.blocks.items edges) _ p.1 in
      let o = of_block 0 0 flow.blocks.items edges refl q.0 number e g in
      let leaves = o.from in
      let same : o.index ≡ e.from = omega (arith, leaves) in
      let block_is : slice_get flow.blocks.items e.from ≡ Some o.holder = subst (λ z. slice_get flow.blocks.items z ≡ Some o.holder) same o.among in
      let led = ends_led On o.holder.instructions.items (take o.holder.edges (drop o.holder.first_edge edges)) (block_facts flow limits good e.from o.holder block_is).body in
      let counted = o.counted in
      record { holder = o.holder; block_is = block_is; place = o.place; counted = omega (arith, counted); own = o.own; lead = led.0; led = led.1 }
