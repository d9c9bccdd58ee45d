-- The edge that a run takes is one of its block's, and of a kind that fits the instruction that ends the block.
use Rattle.std.proofs.Common.{◌≡◌, ℕ, zero, suc, ◌+◌, ◌-◌, ◌<◌, Bool, true, false, ◌&&◌, Option, Some, None, List, [], ◌∷◌, length, take, drop, arith, subst, sym, refl, ap, ◌∙◌, inl, inr}
use Rattle.std.specs.Prelude.{slice_get, map, ◌==◌, nat_lt}
use Rattle.std.proofs.lemmas.Bool.{cases_Bool, and_parts, eqb-true, true≢false}
use Rattle.cfg.specs.WellFormed.{Leads, On, Away, Once, TwoWays, ByCases, ByLine, leads, are_led, are_cases, is_case, is_other, is_jump, is_when, is_no_line, is_line, is_body}
use Rattle.cfg.specs.declared.basic_blocks.BasicBlock.{BasicBlock}
use Rattle.cfg.specs.declared.flow_edges.Edge.{Edge}
use Rattle.cfg.specs.declared.flow_edges.EdgeKind.{EdgeKind}
use Rattle.cfg.specs.declared.flow_edges.EdgeKind.TheVariants as kind
use Rattle.cfg.specs.declared.machine_instructions.Instruction.{Instruction}
use Rattle.cfg.specs.declared.programs.Flow.{Flow}
use Rattle.transfer_system.specs.Edges.{last_of}
use Rattle.lower_templates.specs.Views.ProgramViews.{EdgeView, edge, block, flow_view}
use Rattle.semantics.specs.CfgMachine.FlowEdges.{is_taken, edge_taken, edges_of}
use Rattle.semantics.specs.CfgMachine.FlowSteps.{block_or, block_of}
use Rattle.memory_model.specs.Memory.Scalars.{Scalar}
use Rattle.store_sound.proofs.operations.Slices.{get_map, get_take, get_drop}
use Rattle.store_sound.proofs.programs.ShapedBases.{all_at}
use Rattle.transfer_sound.proofs.induction.Blocks.{IsBlock, leads_cases}

-- ---- kinds

abbrev pub FitsLead : Leads → EdgeKind → Type 0
FitsLead Once kind.Jump = Unit {0}
FitsLead TwoWays (kind.When truth test kept) = Unit {0}
FitsLead ByCases (kind.Case test) = Unit {0}
FitsLead ByCases (kind.Other values) = Unit {0}
FitsLead ByLine kind.NoLine = Unit {0}
FitsLead ByLine kind.Line = Unit {0}
FitsLead _ _ = ⊥

jump_fits : (k : EdgeKind) → is_jump k ≡ true → FitsLead Once k
jump_fits kind.Jump h = tt
jump_fits (kind.When truth test kept) h = absurd (true≢false (sym h))
jump_fits (kind.Case test) h = absurd (true≢false (sym h))
jump_fits (kind.Other values) h = absurd (true≢false (sym h))
jump_fits kind.NoLine h = absurd (true≢false (sym h))
jump_fits kind.Line h = absurd (true≢false (sym h))

when_fits : (truth : Bool) (k : EdgeKind) → is_when truth k ≡ true → FitsLead TwoWays k
when_fits truth kind.Jump h = absurd (true≢false (sym h))
when_fits truth (kind.When on test kept) h = tt
when_fits truth (kind.Case test) h = absurd (true≢false (sym h))
when_fits truth (kind.Other values) h = absurd (true≢false (sym h))
when_fits truth kind.NoLine h = absurd (true≢false (sym h))
when_fits truth kind.Line h = absurd (true≢false (sym h))

case_fits : (k : EdgeKind) → is_case k ≡ true → FitsLead ByCases k
case_fits kind.Jump h = absurd (true≢false (sym h))
case_fits (kind.When truth test kept) h = absurd (true≢false (sym h))
case_fits (kind.Case test) h = tt
case_fits (kind.Other values) h = tt
case_fits kind.NoLine h = absurd (true≢false (sym h))
case_fits kind.Line h = absurd (true≢false (sym h))

other_fits : (k : EdgeKind) → is_other k ≡ true → FitsLead ByCases k
other_fits kind.Jump h = absurd (true≢false (sym h))
other_fits (kind.When truth test kept) h = absurd (true≢false (sym h))
other_fits (kind.Case test) h = tt
other_fits (kind.Other values) h = tt
other_fits kind.NoLine h = absurd (true≢false (sym h))
other_fits kind.Line h = absurd (true≢false (sym h))

none_fits : (k : EdgeKind) → is_no_line k ≡ true → FitsLead ByLine k
none_fits kind.Jump h = absurd (true≢false (sym h))
none_fits (kind.When truth test kept) h = absurd (true≢false (sym h))
none_fits (kind.Case test) h = absurd (true≢false (sym h))
none_fits (kind.Other values) h = absurd (true≢false (sym h))
none_fits kind.NoLine h = tt
none_fits kind.Line h = tt

line_fits : (k : EdgeKind) → is_line k ≡ true → FitsLead ByLine k
line_fits kind.Jump h = absurd (true≢false (sym h))
line_fits (kind.When truth test kept) h = absurd (true≢false (sym h))
line_fits (kind.Case test) h = absurd (true≢false (sym h))
line_fits (kind.Other values) h = absurd (true≢false (sym h))
line_fits kind.NoLine h = tt
line_fits kind.Line h = tt

cases_fit : (es : List Edge) (j : ℕ) (e : Edge) → are_cases es ≡ true → slice_get es j ≡ Some e → FitsLead ByCases e.kind
cases_fit [] j e h g = cc
cases_fit (x ∷ []) zero e h g = let d : x ≡ e = cc in subst (λ z. FitsLead ByCases z.kind) d (other_fits x.kind h)
cases_fit (x ∷ []) (suc j) e h g = cc
cases_fit (x ∷ (y ∷ ys)) zero e h g = let d : x ≡ e = cc in subst (λ z. FitsLead ByCases z.kind) d (case_fits x.kind (and_parts (is_case x.kind) (are_cases (y ∷ ys)) h).0)
cases_fit (x ∷ (y ∷ ys)) (suc j) e h g = cases_fit (y ∷ ys) j e (and_parts (is_case x.kind) (are_cases (y ∷ ys)) h).1 g

-- edges are of the kinds with which their block is ended
pub led_fit : (x : Leads) (es : List Edge) (j : ℕ) (e : Edge) → are_led x es ≡ true → slice_get es j ≡ Some e → FitsLead x e.kind
led_fit On [] j e h g = cc
led_fit On (a ∷ more) j e h g = absurd (true≢false (sym h))
led_fit Away [] j e h g = cc
led_fit Away (a ∷ more) j e h g = absurd (true≢false (sym h))
led_fit Once [] j e h g = cc
led_fit Once (a ∷ []) zero e h g = let d : a ≡ e = cc in subst (λ z. FitsLead Once z.kind) d (jump_fits a.kind h)
led_fit Once (a ∷ []) (suc j) e h g = cc
led_fit Once (a ∷ (b ∷ bs)) j e h g = absurd (true≢false (sym h))
led_fit TwoWays [] j e h g = cc
led_fit TwoWays (a ∷ []) j e h g = absurd (true≢false (sym h))
led_fit TwoWays (a ∷ (b ∷ [])) zero e h g = let d : a ≡ e = cc in subst (λ z. FitsLead TwoWays z.kind) d (when_fits true a.kind (and_parts (is_when true a.kind) (is_when false b.kind) h).0)
led_fit TwoWays (a ∷ (b ∷ [])) (suc zero) e h g = let d : b ≡ e = cc in subst (λ z. FitsLead TwoWays z.kind) d (when_fits false b.kind (and_parts (is_when true a.kind) (is_when false b.kind) h).1)
led_fit TwoWays (a ∷ (b ∷ [])) (suc (suc j)) e h g = cc
led_fit TwoWays (a ∷ (b ∷ (c ∷ cs))) j e h g = absurd (true≢false (sym h))
led_fit ByCases es j e h g = cases_fit es j e h g
led_fit ByLine [] j e h g = cc
led_fit ByLine (a ∷ []) j e h g = absurd (true≢false (sym h))
led_fit ByLine (a ∷ (b ∷ [])) zero e h g = let d : a ≡ e = cc in subst (λ z. FitsLead ByLine z.kind) d (none_fits a.kind (and_parts (is_no_line a.kind) (is_line b.kind) h).0)
led_fit ByLine (a ∷ (b ∷ [])) (suc zero) e h g = let d : b ≡ e = cc in subst (λ z. FitsLead ByLine z.kind) d (line_fits b.kind (and_parts (is_no_line a.kind) (is_line b.kind) h).1)
led_fit ByLine (a ∷ (b ∷ [])) (suc (suc j)) e h g = cc
led_fit ByLine (a ∷ (b ∷ (c ∷ cs))) j e h g = absurd (true≢false (sym h))

-- ---- the last instruction of a block

body_off : (x : Leads) (is : List Instruction) (es : List Edge) → (x ≡ On → ⊥) → is_body x is es ≡ true → are_led x es ≡ true
body_off On is es n h = absurd (n refl)
body_off Away [] es n h = h
body_off Away (i ∷ is) es n h = absurd (true≢false (sym h))
body_off Once [] es n h = h
body_off Once (i ∷ is) es n h = absurd (true≢false (sym h))
body_off TwoWays [] es n h = h
body_off TwoWays (i ∷ is) es n h = absurd (true≢false (sym h))
body_off ByCases [] es n h = h
body_off ByCases (i ∷ is) es n h = absurd (true≢false (sym h))
body_off ByLine [] es n h = h
body_off ByLine (i ∷ is) es n h = absurd (true≢false (sym h))

off_is_last : (x : Leads) (is : List Instruction) (es : List Edge) (k : ℕ) (i : Instruction) → (x ≡ On → ⊥) → is_body x is es ≡ true → slice_get is k ≡ Some i → ⊥
off_is_last On is es k i n h e = n refl
off_is_last Away [] es k i n h e = cc
off_is_last Away (x ∷ xs) es k i n h e = true≢false (sym h)
off_is_last Once [] es k i n h e = cc
off_is_last Once (x ∷ xs) es k i n h e = true≢false (sym h)
off_is_last TwoWays [] es k i n h e = cc
off_is_last TwoWays (x ∷ xs) es k i n h e = true≢false (sym h)
off_is_last ByCases [] es k i n h e = cc
off_is_last ByCases (x ∷ xs) es k i n h e = true≢false (sym h)
off_is_last ByLine [] es k i n h e = cc
off_is_last ByLine (x ∷ xs) es k i n h e = true≢false (sym h)

pub body_led : (is : List Instruction) (es : List Edge) (k : ℕ) (i : Instruction) → is_body On is es ≡ true → slice_get is k ≡ Some i → (leads i.operation ≡ On → ⊥) → are_led (leads i.operation) es ≡ true
body_led [] es k i h e n = cc
body_led (x ∷ xs) es zero i h e n =
    let d : x ≡ i = cc in
    let m : leads x.operation ≡ On → ⊥ = λ f. n (sym (ap (λ z. leads z.operation) d) ∙ f) in
    subst (λ z. are_led (leads z.operation) es ≡ true) d (body_off (leads x.operation) xs es m h)
body_led (x ∷ xs) es (suc k) i h e n = elim (leads_cases (leads x.operation)) [
  | inl f ↦ body_led xs es k i (subst (λ z. is_body z xs es ≡ true) f h) e n
  | inr f ↦ absurd (off_is_last (leads x.operation) xs es k i f h e)
]

-- ---- the block at which a run stands

pub record HasLast (flow : Flow) (b : ℕ) (i : Instruction) : Type 0 where
  pub holder : BasicBlock
  pub block_is : slice_get flow.blocks.items b ≡ Some holder
  pub at : ℕ
  pub is : slice_get holder.instructions.items at ≡ Some i

pub has_last : (flow : Flow) (b : ℕ) (i : Instruction) (o : Option BasicBlock) → slice_get flow.blocks.items b ≡ o → last_of o ≡ Some i → HasLast flow b i
has_last flow b i None e h = cc
has_last flow b i (Some bb) e h = record { holder = bb; block_is = e; at = length bb.instructions.items - 1; is = h }

map_get : {X Y : Type 0} (f : X → Y) (xs : List X) (k : ℕ) (x : X) → slice_get xs k ≡ Some x → slice_get (map f xs) k ≡ Some (f x)
map_get f [] k x e = cc
map_get f (y ∷ ys) zero x e = let d : y ≡ x = cc in ap (λ z. Some (f z)) d
map_get f (y ∷ ys) (suc k) x e = map_get f ys k x e

-- ---- the edge that is taken

record IsChosen (v : Scalar) (es : List EdgeView) (e : EdgeView) : Type 0 where
  at : ℕ
  is : slice_get es at ≡ Some e
  taken : is_taken v e.taken ≡ true

chosen : (v : Scalar) (es : List EdgeView) (e : EdgeView) → edge_taken v es ≡ Some e → IsChosen v es e
chosen v [] e h = cc
chosen v (x ∷ xs) e h = elim (cases_Bool (is_taken v x.taken)) [
  | inl t ↦ (let g : Some x ≡ Some e = rw t at h in let d : x ≡ e = cc in record { at = 0; is = ap Some d; taken = subst (λ z. is_taken v z.taken ≡ true) d t })
  | inr t ↦ (let g : edge_taken v xs ≡ Some e = rw t at h in let r = chosen v xs e g in record { at = suc r.at; is = r.is; taken = r.taken })
]

-- an edge of the program that leaves a block, which is taken
pub record IsTakenEdge (flow : Flow) (b : ℕ) (v : Scalar) (e : EdgeView) (x : Leads) : Type 0 where
  pub number : ℕ
  pub it : Edge
  pub is : slice_get flow.edges.items number ≡ Some it
  pub same : edge it ≡ e
  pub leaves : it.from ≡ b
  pub taken : is_taken v e.taken ≡ true
  pub fits : FitsLead x it.kind

pub taken_edge : (flow : Flow) (b : ℕ) (bb : BasicBlock) (v : Scalar) (e : EdgeView) (x : Leads) → slice_get flow.blocks.items b ≡ Some bb → IsBlock flow b bb → are_led x (take bb.edges (drop bb.first_edge flow.edges.items)) ≡ true → edge_taken v (edges_of (flow_view flow) (block_of (flow_view flow) b)) ≡ Some e → IsTakenEdge flow b v e x
taken_edge flow b bb v e x at facts led h =
    let view : block_of (flow_view flow) b ≡ block bb = ap block_or (map_get block flow.blocks.items b bb at) in
    let k : edge_taken v (take bb.edges (drop bb.first_edge (map edge flow.edges.items))) ≡ Some e = sym (ap (λ z. edge_taken v (edges_of (flow_view flow) z)) view) ∙ h in
    let c = chosen v (take bb.edges (drop bb.first_edge (map edge flow.edges.items))) e k in
    let t = get_take bb.edges (drop bb.first_edge (map edge flow.edges.items)) c.at e c.is in
    let number : ℕ = bb.first_edge + c.at in
    let d = sym (get_drop bb.first_edge (map edge flow.edges.items) c.at number refl) ∙ t.1 in
    let m = get_map edge flow.edges.items number e d in
    let small = t.0 in
    let own : slice_get (take bb.edges (drop bb.first_edge flow.edges.items)) c.at ≡ Some m.0 =
    take_get bb.edges (drop bb.first_edge flow.edges.items) c.at m.0 small (get_drop bb.first_edge flow.edges.items c.at number refl ∙ m.1) in
    let leave = all_at (λ (z : Edge). (z.from == b) && nat_lt z.to (length flow.blocks.items)) (take bb.edges (drop bb.first_edge flow.edges.items)) c.at m.0 facts.leave own in
    record {
      number = number;
      it = m.0;
      is = m.1;
      same = m.2;
      leaves = eqb-true m.0.from b (and_parts (m.0.from == b) (nat_lt m.0.to (length flow.blocks.items)) leave).0;
      taken = c.taken;
      fits = led_fit x (take bb.edges (drop bb.first_edge flow.edges.items)) c.at m.0 led own;
    }
  where
    take_get : {X : Type 0} (n : ℕ) (xs : List X) (k : ℕ) (x : X) → k < n → slice_get xs k ≡ Some x → slice_get (take n xs) k ≡ Some x
    take_get zero xs k x h e = absurd (omega (arith, h))
    take_get (suc n) [] k x h e = cc
    take_get (suc n) (y ∷ ys) zero x h e = e
    take_get (suc n) (y ∷ ys) (suc k) x h e = take_get n ys k x (omega (arith, h)) e
