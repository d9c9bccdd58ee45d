-- Each instruction and each edge of a program with turns unrolled is a copy of one of the program.
use Rattle.std.specs.Prelude.{◌≡◌, ℕ, zero, suc, ◌*◌, ◌<◌, ◌≤◌, ◌==◌, Bool, true, false, cond, Option, Some, None, List, [], ◌∷◌, map, option_map, length, slice_get, refl}
use Rattle.std.proofs.Common.{arith, sym, subst, ap, ◌∙◌, inl, inr}
use Rattle.std.proofs.lemmas.Bool.{cases_lt, eqb-true}
use Rattle.std.proofs.lemmas.List.{length-map}
use Rattle.std.proofs.lemmas.Option.{slice_get-map, same_Some}
use Rattle.cc_base.specs.declared.limit_table.Limits.{Limits}
use Rattle.cfg.specs.WellFormed.{is_well_formed}
use Rattle.cfg.specs.declared.basic_blocks.BasicBlock.{BasicBlock}
use Rattle.cfg.specs.declared.flow_edges.Edge.{Edge}
use Rattle.cfg.specs.declared.machine_instructions.Instruction.{Instruction}
use Rattle.cfg.specs.declared.programs.Flow.{Flow}
use Rattle.lower_templates.specs.Worklist.Acts.{step}
use Rattle.lower_templates.specs.Worklist.Pieces.{way}
use Rattle.lower_templates.specs.Views.ProgramViews.{BlockView, EdgeView, FlowView, block, flow_view}
use Rattle.transfer_system.specs.System.BlockPasses.{instructions_in}
use Rattle.transfer_system.specs.System.FlowMachines.{head_in, is_head_at, edge_at}
use Rattle.diagnose.specs.Diagnostics.AdmittedRules.{instructions_of}
use Rattle.run_exact.proofs.runs.BlockEdges.{in_block}
use Rattle.loop_unrolling.specs.Turns.{copies, last_copy, number_in, block_copy, split}
use Rattle.analysis_determined.proofs.unrolled_runs.CopiedLists.{number_below, placed, copy_at}
use Rattle.analysis_determined.proofs.unrolled_diagnostics.UnrolledPrograms.{size, edge_size, block_count, steps_same, edge_count, edge_of}

-- ---- lists

pub within : {X : Type 0} (xs : List X) (k : ℕ) (x : X) → slice_get xs k ≡ Some x → k < length xs
within [] k x e = absurd (cc)
within (y ∷ ys) zero x e = omega arith
within (y ∷ ys) (suc k) x e = let r = within ys k x e in omega arith

pub past : {X : Type 0} (xs : List X) (k : ℕ) → length xs ≤ k → slice_get xs k ≡ None
past [] k h = refl
past (y ∷ ys) zero h = absurd (omega arith)
past (y ∷ ys) (suc k) h = past ys k (omega arith)

-- a number is that of one place in one copy
pub one_copy : (size j k a b : ℕ) → a < size → b < size → number_in size j a ≡ number_in size k b → j ≡ k
one_copy size j k a b p q e = elim (cases_lt j k) [
  | inl less ↦ (let m = number_below size k j a less p in absurd (omega arith))
  | inr more ↦ elim (cases_lt k j) [
    | inl less ↦ (let m = number_below size j k b less q in absurd (omega arith))
    | inr other ↦ omega arith
  ]
]

pub one_place : (size j k a b : ℕ) → a < size → b < size → number_in size j a ≡ number_in size k b → a ≡ b
one_place size j k a b p q e =
    let c : j ≡ k = one_copy size j k a b p q e in
    let m : number_in size j a ≡ number_in size k a = ap (λ z. number_in size z a) c in
    omega arith

-- ---- instructions

record OfStep (is : Option Instruction) (i : Instruction) : Type 0 where
  own : Instruction
  there : is ≡ Some own
  alike : step own ≡ step i

of_step : (is : Option Instruction) (i : Instruction) → option_map step is ≡ Some (step i) → OfStep is i
of_step None i e = absurd (cc)
of_step (Some x) i e = record { own = x; there = refl; alike = same_Some (step x) (step i) e }

module _ (turns : ℕ) (f g : Flow) (h : flow_view g ≡ split turns (flow_view f)) where
  abbrev pub many : ℕ
  many = size turns f g h

  -- the instruction of the program
  pub record OwnInstruction (j at : ℕ) (i : Instruction) : Type 0 where
    pub own : Instruction
    pub there : slice_get (instructions_of f j) at ≡ Some own
    pub alike : step own ≡ step i

  pub own_instruction : (k j at : ℕ) (i : Instruction) → k < copies turns → j < many → slice_get (instructions_of g (number_in many k j)) at ≡ Some i → OwnInstruction j at i
  own_instruction k j at i p q e =
      let o = of_step (slice_get (instructions_of f j) at) i
      (sym (slice_get-map step (instructions_of f j) at)
      ∙ (ap (λ ss. slice_get ss at) (steps_same turns f g h k j p q)
      ∙ (slice_get-map step (instructions_of g (number_in many k j)) at ∙ ap (option_map step) e))) in
      record { own = o.own; there = o.there; alike = o.alike }

  -- in some block
  pub record AnInstruction (i : Instruction) : Type 0 where
    pub block : ℕ
    pub at : ℕ
    pub here : OwnInstruction block at i

  pub an_instruction : (b at : ℕ) (i : Instruction) → slice_get (instructions_of g b) at ≡ Some i → AnInstruction i
  an_instruction b at i e = elim (cases_lt b (copies turns * many)) [
    | inl less ↦ (let p = placed many (copies turns) b less in
        record { block = p.place; at = at; here = own_instruction p.copy p.place at i p.in_copies p.in_copy (subst (λ z. slice_get (instructions_of g z) at ≡ Some i) p.is e) })
    | inr more ↦ (let c = block_count turns f g h in let n : slice_get g.blocks.items b ≡ None = past g.blocks.items b (omega arith) in
        absurd (none_there i (ap (λ z. slice_get (instructions_in z) at) (sym n) ∙ e)))
  ]
    where
      none_there : (x : Instruction) → ◌≡◌ {A = Option Instruction} (slice_get [] at) (Some x) → ⊥
      none_there x q = cc

  -- ---- heads

  abbrev head_of : Option BlockView → Bool
  head_of None = false
  head_of (Some b) = b.is_head

  head_is : (b : Option BasicBlock) → head_in b ≡ head_of (option_map block b)
  head_is None = refl
  head_is (Some b) = refl

  no_head : (first : ℕ) (is : Bool) (b : Option BlockView) → is ≡ false → head_of (option_map (block_copy first is) b) ≡ false
  no_head first is None e = refl
  no_head first is (Some b) e = ap (λ z. cond z b.is_head false) e

  not_last : (k last : ℕ) → k < last → (k == last) ≡ false
  not_last k last p = by (k == last) refl
    where
      by : (c : Bool) → (k == last) ≡ c → c ≡ false
      by true e = let same = eqb-true k last e in absurd (omega arith)
      by false e = refl

  -- copies before the last one have none
  pub headless_before : (k j : ℕ) → k < last_copy turns → j < many → is_head_at g.blocks.items (number_in many k j) ≡ false
  headless_before k j p q =
      head_is (slice_get g.blocks.items (number_in many k j))
      ∙ (ap head_of
      (sym (slice_get-map block g.blocks.items (number_in many k j))
      ∙ (ap (λ (v : FlowView). slice_get v.blocks (number_in many k j)) h
      ∙ (copy_at (λ c. map (block_copy (c * edge_size turns f g h) (c == last_copy turns)) (map block f.blocks.items)) many (λ c. length-map (map block f.blocks.items) (block_copy (c * edge_size turns f g h) (c == last_copy turns))) (copies turns) k j (omega arith) q
      ∙ slice_get-map (block_copy (k * edge_size turns f g h) (k == last_copy turns)) (map block f.blocks.items) j)))
      ∙ no_head (k * edge_size turns f g h) (k == last_copy turns) (slice_get (map block f.blocks.items) j) (not_last k (last_copy turns) p))

  -- ---- edges

  pub record OwnEdge (j : ℕ) (d : Edge) : Type 0 where
    pub copy : ℕ
    pub place : ℕ
    pub number : j ≡ number_in (edge_size turns f g h) copy place
    pub own : Edge
    pub there : slice_get f.edges.items place ≡ Some own
    pub below : own.from < many
    pub from : d.from ≡ number_in many copy own.from
    pub taken : way d.kind ≡ way own.kind

  pub own_edge : (limits : Limits) → is_well_formed limits f ≡ true → (j : ℕ) (d : Edge) → slice_get g.edges.items j ≡ Some d → OwnEdge j d
  own_edge limits good j d e =
      let c = edge_count turns f g h in
      let less = within g.edges.items j d e in
      let p = placed (edge_size turns f g h) (copies turns) j (omega arith) in
      let o = edge_of turns f g h p.copy p.place p.in_copies p.in_copy in
      let own : Edge = edge_at f.edges.items p.place in
      let s : edge_at g.edges.items (number_in (edge_size turns f g h) p.copy p.place) ≡ d = same_Some _ d (sym o.there ∙ (ap (slice_get g.edges.items) (sym p.is) ∙ e)) in
      let b = in_block f limits good p.place own o.here in
      let m = within f.blocks.items own.from b.holder b.block_is in
      let l : many ≡ length f.blocks.items = length-map f.blocks.items block in
      record {
        copy = p.copy;
        place = p.place;
        number = p.is;
        own = own;
        there = o.here;
        below = omega arith;
        from = ap (λ (x : Edge). x.from) (sym s) ∙ ap (λ (v : EdgeView). v.from) o.alike;
        taken = ap (λ (x : Edge). way x.kind) (sym s) ∙ ap (λ (v : EdgeView). v.taken) o.alike;
      }
