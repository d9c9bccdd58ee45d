-- What a well-formed program names is there, so that its temporaries have numbers below their count.
use Rattle.std.proofs.Common.{◌≡◌, ◌≤◌, ℕ, zero, suc, ◌+◌, ◌-◌, ◌^◌, ◌==◌, ℤ, ◌&&◌, Bool, true, List, [], ◌∷◌, map, length, take, drop, Option, Some, None, nat_le, nat_lt, slice_get, arith, sym, subst}
use Rattle.std.specs.List.{list_all}
use Rattle.std.proofs.lemmas.Bool.{and_parts, leb-true, ltb-true}
use Rattle.cc_base.specs.declared.limit_table.Limits.{Limits}
use Rattle.cfg.specs.WellFormed.{Names, names_of, has_temp, has_amount, has_result, has_kept, fits_operation, fits_test, fits_taken, fits_edge, is_block, are_blocks, are_placed, all_values, is_initial_object, is_parameter, is_within, is_well_formed}
use Rattle.cfg.specs.declared.basic_blocks.BasicBlock.{BasicBlock}
use Rattle.cfg.specs.declared.flow_edges.Edge.{Edge}
use Rattle.cfg.specs.declared.flow_edges.EdgeKind.{EdgeKind}
use Rattle.cfg.specs.declared.flow_edges.EdgeKind.TheVariants as kind
use Rattle.cfg.specs.declared.machine_instructions.Amount.{Amount}
use Rattle.cfg.specs.declared.machine_instructions.Amount.TheVariants as amount
use Rattle.cfg.specs.declared.machine_instructions.Instruction.{Instruction}
use Rattle.cfg.specs.declared.machine_instructions.Operation.{Operation}
use Rattle.cfg.specs.declared.machine_instructions.Operation.TheVariants as op
use Rattle.cfg.specs.declared.programs.Flow.{Flow}
use Rattle.lower_templates.specs.Worklist.Acts.{Step, act, step}
use Rattle.lower_templates.specs.Worklist.Pieces.{way}
use Rattle.lower_templates.specs.Views.ProgramViews.{BlockView, block, EdgeView, edge, flow_view}
use Rattle.simulation_layout.specs.Copies.LowTemporaries.{IsLow, AreLow, IsAmountLow, IsKeptLow, IsResultLow, IsActLow, IsPutLow, IsWayLow, HasLowTemps}
use Rattle.simulation_layout.proofs.inlining.ListPlaces.{some_same}

module _ (n : Names) (room : n.temps ≤ 2 ^ 32 - 1) where
  low : (t : ℕ) → has_temp n t ≡ true → IsLow t
  low t e = let less = ltb-true t n.temps e in omega (arith, less, room)

  low_all : (ts : List ℕ) → list_all (has_temp n) ts ≡ true → AreLow ts
  low_all [] e = tt
  low_all (t ∷ ts) e = let p = and_parts (has_temp n t) (list_all (has_temp n) ts) e in (low t p.0, low_all ts p.1)

  low_amount : (a : Amount) → has_amount n a ≡ true → IsAmountLow a
  low_amount (amount.Temp t) e = low t e
  low_amount amount.One e = tt

  low_result : (o : Option ℕ) → has_result n o ≡ true → IsResultLow o
  low_result None e = tt
  low_result (Some t) e = low t e

  low_kept : (o : Option (ℕ × ℕ)) → has_kept n o ≡ true → IsKeptLow o
  low_kept None e = tt
  low_kept (Some x) e = let p = and_parts (has_temp n x.0) (has_temp n x.1) e in (low x.0 p.0, low x.1 p.1)

  low_put : (o : Option (ℕ × ℤ)) → fits_taken n o ≡ true → IsPutLow o
  low_put None e = tt
  low_put (Some x) e = low x.0 (and_parts (has_temp n x.0) _ e).0

  -- two temporaries and what comes behind them
  record Two (to from : ℕ) (rest : Bool) : Type 0 where
    first : IsLow to
    second : IsLow from
    more : rest ≡ true

  two : (to from : ℕ) (rest : Bool) → (has_temp n to && (has_temp n from && rest)) ≡ true → Two to from rest
  two to from rest e =
      let p = and_parts (has_temp n to) (has_temp n from && rest) e in
      let q = and_parts (has_temp n from) rest p.1 in
      record { first = low to p.0; second = low from q.0; more = q.1 }

  low_operation : (o : Operation) → fits_operation n o ≡ true → IsActLow (act o)
  low_operation (op.Constant to value kind) e = low to (and_parts (has_temp n to) _ e).0
  low_operation (op.Address to b offset) e = low to (and_parts (has_temp n to) _ e).0
  low_operation (op.Load to from kind) e = let p = two to from _ e in (p.first, p.second)
  low_operation (op.Store to from kind kept) e = let p = two to from _ e in (p.first, p.second, low_kept kept (and_parts _ (has_kept n kept) p.more).1)
  low_operation (op.Copy to from index) e = let p = two to from _ e in (p.first, p.second)
  low_operation (op.Narrow to from offset size) e = let p = two to from _ e in (p.first, p.second)
  low_operation (op.Shift to from by size back) e = let p = two to from _ e in (p.first, p.second, low_amount by (and_parts (has_amount n by) _ p.more).0)
  low_operation (op.Binary to o left right kind) e = let p = two to left _ e in (p.first, p.second, low_amount right (and_parts (has_amount n right) _ p.more).0)
  low_operation (op.Unary to o from kind) e = let p = two to from _ e in (p.first, p.second)
  low_operation (op.Compare to rel left right) e = let p = two to left _ e in (p.first, p.second, low right p.more)
  low_operation (op.Not to from kind) e = let p = two to from _ e in (p.first, p.second)
  low_operation (op.Difference to left right size) e = let p = two to left _ e in (p.first, p.second, low right (and_parts (has_temp n right) _ p.more).0)
  low_operation (op.ComparePointers to rel left right) e = let p = two to left _ e in (p.first, p.second, low right p.more)
  low_operation (op.Convert to from old new) e = let p = two to from _ e in (p.first, p.second)
  low_operation (op.Library to function arguments site size) e =
      let p = and_parts (has_result n to) _ e in
      (low_result to p.0, low_all arguments.items (and_parts (list_all (has_temp n) arguments.items) _ p.1).0)
  low_operation (op.Branch t kind) e = low t (and_parts (has_temp n t) _ e).0
  low_operation (op.Switch t kind) e = low t (and_parts (has_temp n t) _ e).0
  low_operation (op.ReadLine to text count stream) e =
      let p = and_parts (has_result n to) _ e in
      let q = two text count _ p.1 in
      (low_result to p.0, q.first, q.second, low stream q.more)
  low_operation other e = tt

  low_steps : (is : List Instruction) → list_all (λ i. fits_operation n i.operation) is ≡ true → (at : ℕ) (s : Step) → slice_get (map step is) at ≡ Some s → IsActLow s.does
  low_steps [] e at s h = absurd (cc)
  low_steps (i ∷ is) e zero s h = subst (λ (x : Step). IsActLow x.does) (some_same (step i) s h) (low_operation i.operation (and_parts (fits_operation n i.operation) _ e).0)
  low_steps (i ∷ is) e (suc at) s h = low_steps is (and_parts (fits_operation n i.operation) _ e).1 at s h

  low_blocks : (blocks : ℕ) (edges : List Edge) (from first : ℕ) (bs : List BasicBlock) (rest : List Edge) → are_blocks n blocks edges from first bs rest ≡ true → (number at : ℕ) (b : BlockView) (s : Step) → slice_get (map block bs) number ≡ Some b → slice_get b.steps at ≡ Some s → IsActLow s.does
  low_blocks blocks edges from first [] rest e number at b s h k = absurd (cc)
  low_blocks blocks edges from first (x ∷ bs) rest e zero at b s h k =
      let p = and_parts ((x.first_edge == first) && is_block n blocks edges from x (take x.edges rest)) _ e in
      let q = and_parts (x.first_edge == first) _ p.0 in
      let r = and_parts (list_all (λ i. fits_operation n i.operation) x.instructions.items) _ q.1 in
      low_steps x.instructions.items r.0 at s (subst (λ (y : BlockView). slice_get y.steps at ≡ Some s) (sym (some_same (block x) b h)) k)
  low_blocks blocks edges from first (x ∷ bs) rest e (suc number) at b s h k =
      let p = and_parts ((x.first_edge == first) && is_block n blocks edges from x (take x.edges rest)) _ e in
      low_blocks blocks edges (from + 1) (first + x.edges) bs (drop x.edges rest) p.1 number at b s h k

  low_way : (k : EdgeKind) → fits_edge n k ≡ true → IsWayLow (way k)
  low_way (kind.When truth test kept) e = low_put kept (and_parts (fits_test n test) _ e).1
  low_way other e = tt

  low_edges : (es : List Edge) → list_all (λ e. fits_edge n e.kind) es ≡ true → (number : ℕ) (e : EdgeView) → slice_get (map edge es) number ≡ Some e → IsWayLow e.taken
  low_edges [] all number e h = absurd (cc)
  low_edges (x ∷ es) all zero e h = subst (λ (y : EdgeView). IsWayLow y.taken) (some_same (edge x) e h) (low_way x.kind (and_parts (fits_edge n x.kind) _ all).0)
  low_edges (x ∷ es) all (suc number) e h = low_edges es (and_parts (fits_edge n x.kind) _ all).1 number e h

pub low_programs : (limits : Limits) (flow : Flow) → is_well_formed limits flow ≡ true → limits.temps ≤ 2 ^ 32 - 1 → HasLowTemps (flow_view flow)
low_programs limits flow h room =
    let a = and_parts (nat_lt 0 (length flow.blocks.items)) _ h in
    let b = and_parts (are_blocks (names_of flow) (length flow.blocks.items) flow.edges.items 0 0 flow.blocks.items flow.edges.items) _ a.1 in
    let c = and_parts (list_all (λ e. fits_edge (names_of flow) e.kind) flow.edges.items) _ b.1 in
    let d = and_parts (are_placed 0 flow.bases.items) _ c.1 in
    let e = and_parts (flow.width == all_values flow.bases.items + flow.temps) _ d.1 in
    let f = and_parts (list_all (is_initial_object flow.bases.items) flow.initial.items) _ e.1 in
    let g = and_parts (list_all (is_parameter flow.model flow.bases.items) flow.parameters.items) _ f.1 in
    let w = and_parts (is_within limits flow) _ g.1 in
    let t = and_parts (nat_le flow.temps limits.temps) _ w.0 in
    let counted = leb-true flow.temps limits.temps t.0 in
    let all : flow.temps ≤ 2 ^ 32 - 1 = omega (arith, counted, room) in
    record {
      steps = λ number at x s is there. low_blocks (names_of flow) all (length flow.blocks.items) flow.edges.items 0 0 flow.blocks.items flow.edges.items b.0 number at x s is there;
      edges = λ number x is. low_edges (names_of flow) all flow.edges.items c.0 number x is;
    }
