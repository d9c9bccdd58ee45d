-- The blocks of a well-formed program, and the instructions at which its runs stand.
use Rattle.std.proofs.Common.{◌≡◌, ℕ, zero, suc, ◌+◌, ◌-◌, true, ◌&&◌, Option, Some, None, List, [], ◌∷◌, length, take, drop, arith, subst, sym, refl, ap, ◌∙◌, inl, inr, ◌⊎◌}
use Rattle.std.specs.Prelude.{slice_get, map, ◌==◌, nat_lt}
use Rattle.std.specs.List.{list_all, list_any}
use Rattle.std.proofs.lemmas.Bool.{and_parts, eqb-true, true≢false}
use Rattle.cc_base.specs.declared.limit_table.Limits.{Limits}
use Rattle.cfg.specs.BaseShapes.{same_truth}
use Rattle.cfg.specs.WellFormed.{names_of, Leads, On, Away, Once, TwoWays, ByCases, ByLine, leads, is_body, fits_operation, all_leave, goes_back, is_block, are_blocks, is_well_formed}
use Rattle.cfg.specs.declared.basic_blocks.BasicBlock.{BasicBlock}
use Rattle.cfg.specs.declared.flow_edges.Edge.{Edge}
use Rattle.cfg.specs.declared.machine_instructions.Instruction.{Instruction}
use Rattle.cfg.specs.declared.programs.Flow.{Flow}
use Rattle.lower_templates.specs.Worklist.Acts.{Step, step}
use Rattle.lower_templates.specs.Views.ProgramViews.{BlockView, block, flow_view}
use Rattle.semantics.specs.CfgMachine.FlowSteps.{block_or, block_of}
use Rattle.store_sound.proofs.operations.Slices.{get_map}

-- ---- the blocks

-- what is known of a block and of its edges
pub record IsBlock (flow : Flow) (b : ℕ) (bb : BasicBlock) : Type 0 where
  pub fits : list_all (λ i. fits_operation (names_of flow) i.operation) bb.instructions.items ≡ true
  pub body : is_body On bb.instructions.items (take bb.edges (drop bb.first_edge flow.edges.items)) ≡ true
  pub leave : all_leave (length flow.blocks.items) b (take bb.edges (drop bb.first_edge flow.edges.items)) ≡ true

pub drop_more : {X : Type 0} (a b c : ℕ) (xs : List X) → c ≡ a + b → drop b (drop a xs) ≡ drop c xs
drop_more zero b c xs e = let f : b ≡ c = omega (arith, e) in ap (λ z. drop z xs) f
drop_more (suc a) b zero xs e = absurd (omega (arith, e))
drop_more (suc a) zero (suc c) [] e = refl
drop_more (suc a) (suc b) (suc c) [] e = refl
drop_more (suc a) b (suc c) (x ∷ xs) e = drop_more a b c xs (omega (arith, e))

module _ (flow : Flow) where
  abbrev edges : List Edge
  edges = flow.edges.items

  blocks_at : (at first : ℕ) (bs : List BasicBlock) (rest : List Edge) → rest ≡ drop first edges → are_blocks (names_of flow) (length flow.blocks.items) edges at first bs rest ≡ true → (k b : ℕ) (bb : BasicBlock) → slice_get bs k ≡ Some bb → b ≡ at + k → IsBlock flow b bb
  blocks_at at first [] rest r h k b bb e d = cc
  blocks_at at first (x ∷ xs) rest r h zero b bb e d =
      let p = and_parts ((x.first_edge == first) && is_block (names_of flow) (length flow.blocks.items) edges at x (take x.edges rest)) (are_blocks (names_of flow) (length flow.blocks.items) edges (at + 1) (first + x.edges) xs (drop x.edges rest)) h in
      let q = and_parts (x.first_edge == first) (is_block (names_of flow) (length flow.blocks.items) edges at x (take x.edges rest)) p.0 in
      let own : take x.edges rest ≡ take x.edges (drop x.first_edge edges) = ap (take x.edges) (r ∙ ap (λ z. drop z edges) (sym (eqb-true x.first_edge first q.0))) in
      let t = and_parts (list_all (λ i. fits_operation (names_of flow) i.operation) x.instructions.items) _ q.1 in
      let u = and_parts (is_body On x.instructions.items (take x.edges rest)) _ t.1 in
      let v = and_parts (length (take x.edges rest) == x.edges) (all_leave (length flow.blocks.items) at (take x.edges rest) && same_truth x.is_head (list_any (goes_back at) edges)) u.1 in
      let w = and_parts (all_leave (length flow.blocks.items) at (take x.edges rest)) (same_truth x.is_head (list_any (goes_back at) edges)) v.1 in
      let here : at ≡ b = omega (arith, d) in
      let same : x ≡ bb = cc in
      subst (IsBlock flow b) same (record {
        fits = t.0;
        body = subst (λ z. is_body On x.instructions.items z ≡ true) own u.0;
        leave = subst (λ z. all_leave (length flow.blocks.items) b z ≡ true) own (subst (λ z. all_leave (length flow.blocks.items) z (take x.edges rest) ≡ true) here w.0);
      })
  blocks_at at first (x ∷ xs) rest r h (suc k) b bb e d =
      let p = and_parts ((x.first_edge == first) && is_block (names_of flow) (length flow.blocks.items) edges at x (take x.edges rest)) (are_blocks (names_of flow) (length flow.blocks.items) edges (at + 1) (first + x.edges) xs (drop x.edges rest)) h in
      blocks_at (at + 1) (first + x.edges) xs (drop x.edges rest) (ap (drop x.edges) r ∙ drop_more first x.edges (first + x.edges) edges refl) p.1 k b bb e (omega (arith, d))

  pub block_facts : (limits : Limits) → is_well_formed limits flow ≡ true → (b : ℕ) (bb : BasicBlock) → slice_get flow.blocks.items b ≡ Some bb → IsBlock flow b bb
  block_facts limits h b bb e =
      let p = and_parts (nat_lt 0 (length flow.blocks.items)) _ h in
      let q = and_parts (are_blocks (names_of flow) (length flow.blocks.items) edges 0 0 flow.blocks.items edges) _ p.1 in
      blocks_at 0 0 flow.blocks.items edges refl q.0 b b bb e (omega arith)

  -- ---- the instruction at which a run stands

  pub record IsAt (b at : ℕ) (s : Step) : Type 0 where
    pub holder : BasicBlock
    pub instruction : Instruction
    pub block_is : slice_get flow.blocks.items b ≡ Some holder
    pub is : slice_get holder.instructions.items at ≡ Some instruction
    pub same : step instruction ≡ s

  in_block : (o : Option BlockView) (b at : ℕ) (s : Step) → slice_get (flow_view flow).blocks b ≡ o → slice_get (block_or o).steps at ≡ Some s → IsAt b at s
  in_block None b at s e h = cc
  in_block (Some v) b at s e h =
      let x = get_map block flow.blocks.items b v e in
      let k : slice_get (map step x.0.instructions.items) at ≡ Some s = ap (λ z. slice_get z.steps at) x.2 ∙ h in
      let y = get_map step x.0.instructions.items at s k in
      record { holder = x.0; instruction = y.0; block_is = x.1; is = y.1; same = y.2 }

  pub is_at : (b at : ℕ) (s : Step) → slice_get (block_of (flow_view flow) b).steps at ≡ Some s → IsAt b at s
  is_at b at s h = in_block (slice_get (flow_view flow).blocks b) b at s refl h

-- ---- the last instruction

body_ends : (x : Leads) (is : List Instruction) (es : List Edge) → (x ≡ On → ⊥) → is_body x is es ≡ true → is ≡ []
body_ends x [] es n h = refl
body_ends On (i ∷ is) es n h = absurd (n refl)
body_ends Away (i ∷ is) es n h = absurd (true≢false (sym h))
body_ends Once (i ∷ is) es n h = absurd (true≢false (sym h))
body_ends TwoWays (i ∷ is) es n h = absurd (true≢false (sym h))
body_ends ByCases (i ∷ is) es n h = absurd (true≢false (sym h))
body_ends ByLine (i ∷ is) es n h = absurd (true≢false (sym h))

pub leads_cases : (x : Leads) → (x ≡ On) ⊎ (x ≡ On → ⊥)
leads_cases On = inl refl
leads_cases Away = inr (λ e. cc)
leads_cases Once = inr (λ e. cc)
leads_cases TwoWays = inr (λ e. cc)
leads_cases ByCases = inr (λ e. cc)
leads_cases ByLine = inr (λ e. cc)

pub goes_or_ends : (i : Instruction) → (leads i.operation ≡ On) ⊎ (leads i.operation ≡ On → ⊥)
goes_or_ends i = leads_cases (leads i.operation)

pub last_is : (is : List Instruction) (es : List Edge) (k : ℕ) (i : Instruction) → is_body On is es ≡ true → slice_get is k ≡ Some i → (leads i.operation ≡ On → ⊥) → k + 1 ≡ length is
last_is [] es k i h e n = cc
last_is (x ∷ xs) es zero i h e n =
    let d : x ≡ i = cc in
    let m : leads x.operation ≡ On → ⊥ = λ f. n (sym (ap (λ z. leads z.operation) d) ∙ f) in
    let r : xs ≡ [] = body_ends (leads x.operation) xs es m h in
    let t : length xs ≡ 0 = ap length r in
    omega (arith, t)
last_is (x ∷ xs) es (suc k) i h e n = elim (leads_cases (leads x.operation)) [
  | inl f ↦ (let g : is_body On xs es ≡ true = subst (λ z. is_body z xs es ≡ true) f h in let r = last_is xs es k i g e n in omega (arith, r))
  | inr f ↦ (let r : xs ≡ [] = body_ends (leads x.operation) xs es f h in let z : slice_get xs k ≡ None = ap (λ y. slice_get y k) r in let w : None ≡ Some i = sym z ∙ e in cc)
]

-- the last of so many
pub get_last : (is : List Instruction) (k : ℕ) (i : Instruction) → slice_get is k ≡ Some i → k + 1 ≡ length is → slice_get is (length is - 1) ≡ Some i
get_last is k i e h = let d : length is - 1 ≡ k = omega (arith, h) in ap (slice_get is) d ∙ e
