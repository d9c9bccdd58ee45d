-- Every turn of an opening adds what was counted of its piece.
use Rattle.std.proofs.Common.{◌≡◌, ◌≤◌, ℕ, zero, suc, ◌+◌, ◌-◌, ◌^◌, Bool, true, false, cond, min, List, [], ◌∷◌, ◌++◌, length, Option, refl, arith, ap, sym, subst, ◌∙◌, length-append}
use Rattle.cc_base.specs.declared.diagnostics.Place.{Place}
use Rattle.c_layout.specs.CheckedUnits.{UnitView}
use Rattle.lower_templates.specs.Worklist.Acts.{Act, Jump, Step}
use Rattle.lower_templates.specs.Worklist.Pieces.{Way, Always, ExitView, PieceView, Do, DoIfUsed, End, Mark, Call, TemplateView}
use Rattle.lower_templates.specs.declared.worklist.template_pieces.OwnCall.{OwnCall}
use Rattle.lower_objects.specs.declared.counts.function_counts.BlockExtent.{BlockExtent}
use Rattle.lower_objects.specs.declared.counts.function_counts.FunctionCounts.{FunctionCounts}
use Rattle.lower_objects.specs.Counts.Extents.{capped, with_instruction, with_end, with_mark, with_call}
use Rattle.lower_objects.specs.Counts.PieceCounts.{counts_of, counted}
use Rattle.lower_tables.specs.Counts.Preparations.{Reaches, IsPrepared}
use Rattle.lower_templates.specs.Views.ProgramViews.{BlockView}
use Rattle.lower.specs.Inlining.MovedActs.{own_base}
use Rattle.lower.specs.Inlining.Inlinings as o
use Rattle.lower.specs.Inlining.Inlinings.{Made, CopyView, Placed, Inlined, placed, inlined, is_none}
use Rattle.lower.proofs.inlining.NamedAside.{along_own, along_way}
use Rattle.lower.specs.Inlining.AsCounted.{all_instructions}
use Rattle.lower.proofs.inlining.PieceExtents.{same_extent, capped_left, IsCapped, at_cond, done_piece, done_pieces, done_call}
use Rattle.lower.proofs.inlining.CountedCalls.{CalledIs, AllCalled, IsKnown, known}

-- what is counted of the program as far as it is made
abbrev pub extent_of : Made → BlockExtent
extent_of m = record { blocks = capped (length m.blocks); instructions = capped (all_instructions m.blocks + length m.ready); is_empty = is_none m.ready }

at_most : (n : ℕ) → capped n ≤ 10 ^ 18
at_most n = least n (10 ^ 18)
  where
    least : (n m : ℕ) → min n m ≤ m
    least n m = omega arith

pub extent_capped : (m : Made) → IsCapped (extent_of m)
extent_capped m = record { blocks = at_most (length m.blocks); instructions = at_most (all_instructions m.blocks + length m.ready) }

-- bases and edges are not counted here, and the rest of the copy stays
pub record Same (p q : Placed) : Type 0 where
  pub extent : extent_of q.program ≡ extent_of p.program
  pub rest : q.within.rest ≡ p.within.rest
  pub used : q.within.used ≡ p.within.used

stays : (p : Placed) → Same p p
stays p = record { extent = refl; rest = refl; used = refl }

both : (p q r : Placed) → Same p q → Same q r → Same p r
both p q r a b = record { extent = b.extent ∙ a.extent; rest = b.rest ∙ a.rest; used = b.used ∙ a.used }

same_base : (u : UnitView) (n : ℕ) (p : Placed) → Same p (o.with_base u n p)
same_base u n p = record { extent = refl; rest = refl; used = refl }

same_own : (u : UnitView) (n : Option ℕ) (p : Placed) → Same p (o.with_own u n p)
same_own u n p = along_own u Same stays both (same_base u) n p

same_way : (u : UnitView) (w : Way) (p : Placed) → Same p (o.with_way u w p)
same_way u w p = along_way u Same stays both (same_base u) w p

same_exit : (u : UnitView) (from : ℕ) (e : ExitView) (p : Placed) → Same p (o.with_exit u from e p)
same_exit u from e p = let w = same_way u e.taken p in record { extent = w.extent; rest = w.rest; used = w.used }

same_exits : (u : UnitView) (from : ℕ) (es : List ExitView) (p : Placed) → Same p (o.with_exits u from es p)
same_exits u from [] p = stays p
same_exits u from (e ∷ es) p = both p (o.with_exit u from e p) (o.with_exits u from es (o.with_exit u from e p)) (same_exit u from e p) (same_exits u from es (o.with_exit u from e p))

some_ready : (ss : List Step) (s : Step) → is_none (ss ++ s ∷ []) ≡ false
some_ready [] s = refl
some_ready (x ∷ xs) s = refl

one_ready : (a : ℕ) (ss : List Step) (s : Step) → a + length (ss ++ s ∷ []) ≡ a + length ss + 1
one_ready a ss s = let e = length-append ss (s ∷ []) in omega (arith, e)

extent_ready : (s : Step) (m : Made) → extent_of (o.with_ready s m) ≡ with_instruction (extent_of m)
extent_ready s m =
    same_extent (extent_of (o.with_ready s m)) (with_instruction (extent_of m)) refl
    (ap capped (one_ready (all_instructions m.blocks) m.ready s) ∙ sym (capped_left (all_instructions m.blocks + length m.ready) 1))
    (some_ready m.ready s)

all_more : (bs : List BlockView) (b : BlockView) → all_instructions (bs ++ b ∷ []) ≡ all_instructions bs + length b.steps
all_more [] b = let e : length b.steps + 0 ≡ 0 + length b.steps = omega arith in e
all_more (c ∷ bs) b = let e = all_more bs b in omega (arith, e)

-- a block ends
abbrev closed_extent : BlockExtent → BlockExtent
closed_extent e = record { blocks = capped (e.blocks + 1); instructions = e.instructions; is_empty = true }

extent_ended : (first : ℕ) (m : Made) → extent_of (o.ended first m) ≡ closed_extent (extent_of m)
extent_ended first m =
    let b = o.ended_block m.ready first (length m.edges - first) in
    same_extent (extent_of (o.ended first m)) (closed_extent (extent_of m))
    (ap capped (length-append m.blocks (b ∷ [])) ∙ sym (capped_left (length m.blocks) 1))
    (ap capped (none_left (all_instructions m.blocks) (length m.ready) (all_instructions (m.blocks ++ b ∷ [])) (all_more m.blocks b)))
    refl
  where
    none_left : (a n k : ℕ) → k ≡ a + n → k + 0 ≡ a + n
    none_left a n k is = omega arith

extent_jumped : (at : Place) (label : ℕ) (m : Made) → extent_of (o.jumped at label m) ≡ with_end (extent_of m)
extent_jumped at label m =
    let e = o.edge_to (length m.blocks) label Always in
    extent_ended (length m.edges) (o.with_edge e (o.with_ready (o.instruction at Jump) m)) ∙ ap closed_extent (extent_ready (o.instruction at Jump) m)

extent_marked : (at : Place) (label : ℕ) (m : Made) → extent_of (o.marked at label m) ≡ with_mark (extent_of m)
extent_marked at label m = at_cond extent_of (is_none m.ready) m (o.jumped at label m) ∙ ap (λ e. cond (is_none m.ready) (extent_of m) e) (extent_jumped at label m)

-- what a piece that is no call makes of the program and of its copy
record Adds (table : List (Option FunctionCounts)) (q : PieceView) (p r : Placed) : Type 0 where
  extent : extent_of r.program ≡ done_piece table p.within.used q (extent_of p.program)
  rest : r.within.rest ≡ p.within.rest
  used : r.within.used ≡ p.within.used

record Acts (p r : Placed) : Type 0 where
  extent : extent_of r.program ≡ with_instruction (extent_of p.program)
  rest : r.within.rest ≡ p.within.rest
  used : r.within.used ≡ p.within.used

acts : (u : UnitView) (at : Place) (a : Act) (p : Placed) → Acts p (o.with_act u at a p)
acts u at a p =
    let own = same_own u (own_base a) p in
    record {
      extent = extent_ready _ (o.with_own u (own_base a) p).program ∙ ap with_instruction own.extent;
      rest = own.rest;
      used = own.used;
    }

adds_closed : (u : UnitView) (table : List (Option FunctionCounts)) (s : Step) (exits : List ExitView) (p : Placed) → Adds table (End s exits) p (o.closed u s exits p)
adds_closed u table s exits p =
    let acted = o.with_act u s.at s.does p in
    let a = acts u s.at s.does p in
    let x = same_exits u (length p.program.blocks) exits acted in
    record {
      extent = extent_ended (length p.program.edges) (o.with_exits u (length p.program.blocks) exits acted).program ∙ ap closed_extent (x.extent ∙ a.extent);
      rest = x.rest ∙ a.rest;
      used = x.used ∙ a.used;
    }

adds_if_used : (u : UnitView) (table : List (Option FunctionCounts)) (s : Step) (p : Placed) → Adds table (DoIfUsed s) p (o.with_act_if_used u s.does p)
adds_if_used u table s p =
    let a = acts u p.within.at s.does p in
    let done = o.with_act u p.within.at s.does p in
    record {
      extent = at_cond (λ (q : Placed). extent_of q.program) p.within.used done p ∙ ap (λ e. cond p.within.used e (extent_of p.program)) a.extent;
      rest = at_cond (λ (q : Placed). q.within.rest) p.within.used done p ∙ ap (λ e. cond p.within.used e p.within.rest) a.rest ∙ either p.within.used p.within.rest;
      used = at_cond (λ (q : Placed). q.within.used) p.within.used done p ∙ ap (λ e. cond p.within.used e p.within.used) a.used ∙ either p.within.used p.within.used;
    }
  where
    either : {A : Type 0} (b : Bool) (x : A) → cond b x x ≡ x
    either true x = refl
    either false x = refl

-- what will have been counted when the copies are finished, the innermost first
abbrev pub at_end : List (Option FunctionCounts) → List CopyView → BlockExtent → BlockExtent
at_end table [] e = e
at_end table (c ∷ cs) e = at_end table cs (done_pieces table c.used c.rest e)

abbrev pub all_at_end : List (Option FunctionCounts) → Inlined → BlockExtent
all_at_end table x = at_end table x.stack (extent_of x.program)

back : (table : List (Option FunctionCounts)) (q : PieceView) (stack : List CopyView) (p r : Placed) → Adds table q p r → all_at_end table (o.back_in stack r) ≡ at_end table stack (done_pieces table p.within.used p.within.rest (done_piece table p.within.used q (extent_of p.program)))
back table q stack p r a = λ i. at_end table stack (done_pieces table (a.used i) (a.rest i) (a.extent i))

-- each copy's rest calls functions that the entry reaches
abbrev pub AllReached : UnitView → List CopyView → Type 0
AllReached u [] = Unit {0}
AllReached u (c ∷ cs) = AllCalled (Reaches u) c.rest × AllReached u cs

pub record Turned (u : UnitView) (table : List (Option FunctionCounts)) (e : BlockExtent) (x : Inlined) : Type 0 where
  pub counted : all_at_end table x ≡ e
  pub reached : AllReached u x.stack

turned_back : (u : UnitView) (table : List (Option FunctionCounts)) (q : PieceView) (stack : List CopyView) (p r : Placed) → Adds table q p r → AllCalled (Reaches u) p.within.rest → AllReached u stack → Turned u table (at_end table stack (done_pieces table p.within.used p.within.rest (done_piece table p.within.used q (extent_of p.program)))) (o.back_in stack r)
turned_back u table q stack p r a calls reached = record {
  counted = back table q stack p r a;
  reached = (subst (AllCalled (Reaches u)) (sym a.rest) calls, reached);
}

-- a call of a function that is known
entered : (u : UnitView) (ts : List (Option TemplateView)) (table : List (Option FunctionCounts)) (c : OwnCall) (stack : List CopyView) (m : Made) (k : IsKnown u ts table c.function) → o.with_call u ts c stack m ≡ inlined (o.copied c (length m.labels) k.function k.template ∷ stack) (o.with_labels k.template.labels m)
entered u ts table c stack m k = λ i. o.entered c stack m (k.is_template.stands i) (k.is_there i)

turned_call : (u : UnitView) (ts : List (Option TemplateView)) (table : List (Option FunctionCounts)) (c : OwnCall) (stack : List CopyView) (m : Made) → IsKnown u ts table c.function → AllReached u stack → Turned u table (at_end table stack (with_call (extent_of m) (counted table c.function) c.used)) (o.with_call u ts c stack m)
turned_call u ts table c stack m k reached =
    subst (Turned u table (at_end table stack (with_call (extent_of m) (counted table c.function) c.used))) (sym (entered u ts table c stack m k)) (record {
      counted = ap (at_end table stack) (done_call table k.template.pieces k.counts c.used (extent_of m) k.counted k.followed (extent_capped m) ∙ ap (λ j. with_call (extent_of m) j c.used) (sym (ap counts_of k.is_counted)));
      reached = (k.calls, reached);
    })

turned : (u : UnitView) (ts : List (Option TemplateView)) (table : List (Option FunctionCounts)) (q : PieceView) (c : CopyView) (stack : List CopyView) (m : Made) → IsPrepared u ts table → CalledIs (Reaches u) q → AllCalled (Reaches u) c.rest → AllReached u stack
    → Turned u table (at_end table stack (done_pieces table c.used c.rest (done_piece table c.used q (extent_of m)))) (o.turn u ts q c stack m)
turned u ts table (Do s) c stack m prepared one calls reached =
    let a = acts u s.at s.does (placed m c) in
    turned_back u table (Do s) stack (placed m c) (o.with_act u s.at s.does (placed m c)) (record { extent = a.extent; rest = a.rest; used = a.used }) calls reached
turned u ts table (DoIfUsed s) c stack m prepared one calls reached = turned_back u table (DoIfUsed s) stack (placed m c) (o.with_act_if_used u s.does (placed m c)) (adds_if_used u table s (placed m c)) calls reached
turned u ts table (End s exits) c stack m prepared one calls reached = turned_back u table (End s exits) stack (placed m c) (o.closed u s exits (placed m c)) (adds_closed u table s exits (placed m c)) calls reached
turned u ts table (Mark label) c stack m prepared one calls reached =
    turned_back u table (Mark label) stack (placed m c) (o.with_mark label (placed m c)) (record { extent = extent_marked c.at (label + c.labels) m; rest = refl; used = refl }) calls reached
turned u ts table (Call call) c stack m prepared one calls reached = turned_call u ts table (o.inner call c) (c ∷ stack) m (known u ts table call.function prepared one) (calls, reached)

pub turned_next : (u : UnitView) (ts : List (Option TemplateView)) (table : List (Option FunctionCounts)) (qs : List PieceView) (c : CopyView) (stack : List CopyView) (m : Made) → IsPrepared u ts table → AllCalled (Reaches u) qs → AllReached u stack
    → Turned u table (at_end table stack (done_pieces table c.used qs (extent_of m))) (o.next_piece u ts qs c stack m)
turned_next u ts table [] c stack m prepared calls reached = record { counted = refl; reached = reached }
turned_next u ts table (q ∷ qs) c stack m prepared (one, calls) reached = turned u ts table q (o.with_rest qs c) stack m prepared one calls reached

-- so many turns leave what will have been counted
counted_run : (u : UnitView) (ts : List (Option TemplateView)) (table : List (Option FunctionCounts)) (n : ℕ) (stack : List CopyView) (m : Made) → IsPrepared u ts table → AllReached u stack → all_at_end table (o.run u ts n stack m) ≡ at_end table stack (extent_of m)
counted_run u ts table zero stack m prepared reached = refl
counted_run u ts table (suc n) [] m prepared reached = refl
counted_run u ts table (suc n) (c ∷ stack) m prepared reached =
    let t = turned_next u ts table c.rest c stack m prepared reached.0 reached.1 in
    counted_run u ts table n (o.next u ts c stack m).stack (o.next u ts c stack m).program prepared t.reached ∙ t.counted

same_parameters : (u : UnitView) (n : ℕ) (p : Placed) → Same p (o.with_parameters u n p)
same_parameters u zero p = stays p
same_parameters u (suc n) p = let before = same_parameters u n p in record { extent = before.extent; rest = before.rest; used = before.used }

counted_entry : (u : UnitView) (ts : List (Option TemplateView)) (table : List (Option FunctionCounts)) (stack : List CopyView) (m : Made) → IsPrepared u ts table → AllReached u stack → all_at_end table (o.entry_run u ts stack m) ≡ at_end table stack (extent_of m)
counted_entry u ts table [] m prepared reached = refl
counted_entry u ts table (c ∷ stack) m prepared (calls, reached) =
    let p = o.with_parameters u c.function.parameters (placed m c) in
    let same = same_parameters u c.function.parameters (placed m c) in
    counted_run u ts table (2 ^ 64 - 1) (p.within ∷ stack) p.program prepared (subst (AllCalled (Reaches u)) (sym same.rest) calls, reached)
    ∙ (λ i. at_end table stack (done_pieces table (same.used i) (same.rest i) (same.extent i)))

-- the whole opening
pub counted_whole : (u : UnitView) (ts : List (Option TemplateView)) (table : List (Option FunctionCounts)) (at : Place) → IsPrepared u ts table → Reaches u u.entry → all_at_end table (o.whole u ts at) ≡ with_call (extent_of (o.nothing_made u)) (counted table u.entry) false
counted_whole u ts table at prepared reached =
    let call = o.entry_call at u.entry in
    let t = turned_call u ts table call [] (o.nothing_made u) (known u ts table u.entry prepared reached) tt in
    counted_entry u ts table (o.with_call u ts call [] (o.nothing_made u)).stack (o.with_call u ts call [] (o.nothing_made u)).program prepared t.reached ∙ t.counted
