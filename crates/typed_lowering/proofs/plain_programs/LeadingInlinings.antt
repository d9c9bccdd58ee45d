-- The program of a plain unit leads on while it is opened: each of its edges leads to a later block, or to a label
-- that a copy is still to mark.
use Rattle.std.proofs.Common.{◌≡◌, ◌≤◌, ◌<◌, ◌⊎◌, inl, inr, ℕ, zero, suc, ◌+◌, ◌-◌, ◌^◌, ◌==◌, Bool, true, false, cond, List, [], ◌∷◌, ◌++◌, length, replicate, get_or, Option, Some, None, slice_get, refl, arith, ap, sym, subst, ◌∙◌, length-append}
use Rattle.std.specs.List.{slice_set}
use Rattle.std.proofs.lemmas.Bool.{eqb-true, eq-eqb}
use Rattle.std.proofs.lemmas.List.{get_or-set_same, get_or-set_other, length-set}
use Rattle.cc_base.specs.declared.diagnostics.Place.{Place}
use Rattle.c_layout.specs.CheckedUnits.{FunctionView, UnitView}
use Rattle.cfg.specs.declared.flow_edges.Side.{Side}
use Rattle.cfg.specs.declared.flow_edges.Side.TheVariants as side
use Rattle.cfg.specs.declared.flow_edges.Test.{Test}
use Rattle.lower_templates.specs.Worklist.Acts as acts
use Rattle.lower_templates.specs.Worklist.Acts.{Act, Step}
use Rattle.lower_templates.specs.Worklist.Pieces.{NameView, Local, Way, Always, When, Case, Other, NoLine, Line, ExitView, PieceView, Do, DoIfUsed, End, Mark, Call, TemplateView}
use Rattle.lower_templates.specs.declared.worklist.template_pieces.OwnCall.{OwnCall}
use Rattle.lower_templates.specs.Views.ProgramViews.{BlockView, EdgeView}
use Rattle.lower_tables.specs.Bases.BaseTables.{base}
use Rattle.lower.specs.Inlining.MovedActs.{own_base, moved}
use Rattle.lower.specs.Inlining.Inlinings as o
use Rattle.lower.specs.Inlining.Inlinings.{Made, CopyView, Placed, Inlined, placed, is_none}
use Rattle.typed_programs.specs.PlainUnits.ShortArrays.{has_short_objects}
use Rattle.typed_programs.specs.PlainUnits.PlainUnits.{is_plain_function, is_plain_if_there, is_plain_from}
use Rattle.typed_programs.specs.PlainWorklists.LeadingPieces.{is_plain_act, AreOfObjects, AllTo, Marks, Marked, LeadOn, NoLabel, LeadsOn}
use Rattle.typed_programs.proofs.plain_worklists.LeadingWorks.{both}
use Rattle.typed_lowering.specs.PlainPrograms.PlainBases.{ArePlainBases}
use Rattle.typed_lowering.proofs.plain_programs.NamedBases.{HasSmall, plain_named, name_at_object}

-- ---- instructions

pub moved_plain : (d b : ℕ) (a : Act) → is_plain_act a ≡ true → is_plain_act (moved d b a) ≡ true
moved_plain d b (acts.Constant to value kind) is = refl
moved_plain d b (acts.Address to base offset) is = refl
moved_plain d b (acts.Load to from kind) is = refl
moved_plain d b (acts.Store to from kind kept) is = refl
moved_plain d b (acts.Copy to from index) is = refl
moved_plain d b (acts.Narrow to from offset size) is = refl
moved_plain d b (acts.Shift to from by size backward) is = refl
moved_plain d b (acts.Binary to sign left right kind) is = refl
moved_plain d b (acts.Unary to sign from kind) is = refl
moved_plain d b (acts.Compare to sign left right) is = refl
moved_plain d b (acts.Not to from kind) is = refl
moved_plain d b (acts.Difference to left right size) is = refl
moved_plain d b (acts.ComparePointers to sign left right) is = refl
moved_plain d b (acts.Convert to from old new) is = refl
moved_plain d b (acts.Library to function arguments newest size) is = is
moved_plain d b (acts.Enter base) is = refl
moved_plain d b (acts.Leave base) is = refl
moved_plain d b (acts.Forget base) is = refl
moved_plain d b (acts.Clear base) is = refl
moved_plain d b (acts.Spell base offset room text) is = refl
moved_plain d b acts.Jump is = refl
moved_plain d b (acts.Branch from kind) is = refl
moved_plain d b (acts.Switch from kind) is = refl
moved_plain d b (acts.ReadLine to text count stream) is = is
moved_plain d b acts.Stop is = refl

abbrev pub ArePlainSteps : List Step → Type 0
ArePlainSteps [] = Unit {0}
ArePlainSteps (s ∷ ss) = (is_plain_act s.does ≡ true) × ArePlainSteps ss

-- a block of plain instructions that is no head
pub record IsPlainBlock (b : BlockView) : Type 0 where
  pub steps : ArePlainSteps b.steps
  pub head : b.is_head ≡ false

abbrev pub ArePlainBlocks : List BlockView → Type 0
ArePlainBlocks [] = Unit {0}
ArePlainBlocks (b ∷ bs) = IsPlainBlock b × ArePlainBlocks bs

steps_append : (xs : List Step) (x : Step) → ArePlainSteps xs → is_plain_act x.does ≡ true → ArePlainSteps (xs ++ x ∷ [])
steps_append [] x all one = (one, tt)
steps_append (y ∷ xs) x (first, all) one = (first, steps_append xs x all one)

blocks_append : (xs : List BlockView) (x : BlockView) → ArePlainBlocks xs → IsPlainBlock x → ArePlainBlocks (xs ++ x ∷ [])
blocks_append [] x all one = (one, tt)
blocks_append (y ∷ xs) x (first, all) one = (first, blocks_append xs x all one)

abbrev pub AllEdges : (EdgeView → Type 0) → List EdgeView → Type 0
AllEdges P [] = Unit {0}
AllEdges P (e ∷ es) = P e × AllEdges P es

edges_more : (P Q : EdgeView → Type 0) → ((e : EdgeView) → P e → Q e) → (es : List EdgeView) → AllEdges P es → AllEdges Q es
edges_more P Q more [] all = tt
edges_more P Q more (e ∷ es) (one, all) = (more e one, edges_more P Q more es all)

edges_append : (P : EdgeView → Type 0) (xs : List EdgeView) (x : EdgeView) → AllEdges P xs → P x → AllEdges P (xs ++ x ∷ [])
edges_append P [] x all one = (one, tt)
edges_append P (y ∷ xs) x (first, all) one = (first, edges_append P xs x all one)

-- ---- copies

-- a copy is still to mark a label of the program
abbrev pub Awaited : List CopyView → ℕ → Type 0
Awaited [] l = ⊥
Awaited (c ∷ cs) l = ((k : ℕ) × (l ≡ k + c.labels) × Marked c.rest NoLabel k) ⊎ Awaited cs l

-- an edge from one of so many blocks leads to a later one, or to a label that is awaited
pub record IsAhead (blocks : ℕ) (labels : List ℕ) (A : ℕ → Type 0) (e : EdgeView) : Type 0 where
  pub there : e.from < blocks
  pub leads : (e.from < get_or labels e.to 0) ⊎ A e.to

module _ (u : UnitView) where
  -- a copy of a plain function, whose labels have their places among so many
  pub record IsPlainCopy (labels : ℕ) (c : CopyView) : Type 0 where
    pub depth : ℕ
    pub pieces : LeadOn (is_plain_from u depth) NoLabel c.rest
    pub names : AreOfObjects c.names
    pub small : HasSmall u c.function
    pub room : (k : ℕ) → Marked c.rest NoLabel k → k + c.labels < labels

  abbrev pub ArePlainCopies : ℕ → List CopyView → Type 0
  ArePlainCopies labels [] = Unit {0}
  ArePlainCopies labels (c ∷ cs) = IsPlainCopy labels c × ArePlainCopies labels cs

  -- what every turn leaves
  pub record Leads (x : Inlined) : Type 0 where
    pub copies : ArePlainCopies (length x.program.labels) x.stack
    pub edges : AllEdges (IsAhead (length x.program.blocks) x.program.labels (Awaited x.stack)) x.program.edges
    pub blocks : ArePlainBlocks x.program.blocks
    pub ready : ArePlainSteps x.program.ready
    pub bases : ArePlainBases x.program.bases.bases

  -- the same but for bases, which are plain
  record Same (p q : Placed) : Type 0 where
    blocks : q.program.blocks ≡ p.program.blocks
    edges : q.program.edges ≡ p.program.edges
    labels : q.program.labels ≡ p.program.labels
    ready : q.program.ready ≡ p.program.ready
    rest : q.within.rest ≡ p.within.rest
    first : q.within.labels ≡ p.within.labels
    names : q.within.names ≡ p.within.names
    function : q.within.function ≡ p.within.function
    bases : ArePlainBases q.program.bases.bases

  -- a copy whose bases are named is plain
  record Fit (p : Placed) : Type 0 where
    names : AreOfObjects p.within.names
    small : HasSmall u p.within.function
    bases : ArePlainBases p.program.bases.bases

  fit_same : (p q : Placed) → Fit p → Same p q → Fit q
  fit_same p q f s = record { names = subst AreOfObjects (sym s.names) f.names; small = subst (HasSmall u) (sym s.function) f.small; bases = s.bases }

  stays : (p : Placed) → Fit p → Same p p
  stays p f = record { blocks = refl; edges = refl; labels = refl; ready = refl; rest = refl; first = refl; names = refl; function = refl; bases = f.bases }

  twice : (p q r : Placed) → Same p q → Same q r → Same p r
  twice p q r a b = record { blocks = b.blocks ∙ a.blocks; edges = b.edges ∙ a.edges; labels = b.labels ∙ a.labels; ready = b.ready ∙ a.ready; rest = b.rest ∙ a.rest; first = b.first ∙ a.first; names = b.names ∙ a.names; function = b.function ∙ a.function; bases = b.bases }

  module _ (small : has_short_objects u ≡ true) where
    same_base : (n : ℕ) (p : Placed) → Fit p → Same p (o.with_base u n p)
    same_base n p f = record { blocks = refl; edges = refl; labels = refl; ready = refl; rest = refl; first = refl; names = refl; function = refl; bases = plain_named u small p.within.function f.small (o.name_at p.within.names n) (name_at_object p.within.names n f.names) p.within.locals p.program.bases f.bases }

    same_local : (n : ℕ) (p : Placed) → Fit p → Same p (o.with_local u n p)
    same_local n p f = record { blocks = refl; edges = refl; labels = refl; ready = refl; rest = refl; first = refl; names = refl; function = refl; bases = plain_named u small p.within.function f.small (Local n) refl p.within.locals p.program.bases f.bases }

    same_own : (n : Option ℕ) (p : Placed) → Fit p → Same p (o.with_own u n p)
    same_own None p f = stays p f
    same_own (Some n) p f = same_base n p f

    same_side : (s : Side) (p : Placed) → Fit p → Same p (o.with_side u s p)
    same_side (side.Object n kind) p f = same_base n p f
    same_side (side.Number n) p f = stays p f
    same_side side.Null p f = stays p f

    same_test : (t : Option Test) (p : Placed) → Fit p → Same p (o.with_test u t p)
    same_test None p f = stays p f
    same_test (Some t) p f =
        let a = same_side t.left p f in
        twice p (o.with_side u t.left p) (o.with_side u t.right (o.with_side u t.left p)) a (same_side t.right (o.with_side u t.left p) (fit_same p (o.with_side u t.left p) f a))

    same_way : (x : Way) (p : Placed) → Fit p → Same p (o.with_way u x p)
    same_way Always p f = stays p f
    same_way (When truth test puts) p f = same_test test p f
    same_way (Case c) p f = same_own c.object p f
    same_way (Other values) p f = stays p f
    same_way NoLine p f = stays p f
    same_way Line p f = stays p f

    same_parameters : (n : ℕ) (p : Placed) → Fit p → Same p (o.with_parameters u n p)
    same_parameters zero p f = stays p f
    same_parameters (suc n) p f =
        let a = same_parameters n p f in
        twice p (o.with_parameters u n p) (o.with_local u n (o.with_parameters u n p)) a (same_local n (o.with_parameters u n p) (fit_same p (o.with_parameters u n p) f a))

    -- ---- edges

    module _ (from first : ℕ) (P : EdgeView → Type 0) where
      -- what is the same but for edges, which are such
      record Edged (p q : Placed) : Type 0 where
        blocks : q.program.blocks ≡ p.program.blocks
        edges : AllEdges P q.program.edges
        labels : q.program.labels ≡ p.program.labels
        ready : q.program.ready ≡ p.program.ready
        rest : q.within.rest ≡ p.within.rest
        first_label : q.within.labels ≡ p.within.labels
        names : q.within.names ≡ p.within.names
        function : q.within.function ≡ p.within.function
        bases : ArePlainBases q.program.bases.bases

      edged : (es : List ExitView) (p : Placed) → Fit p → p.within.labels ≡ first → AllEdges P p.program.edges → AllTo (λ l. (w : Way) → P (o.edge_to from (l + first) w)) es → Edged p (o.with_exits u from es p)
      edged [] p f is all to = record { blocks = refl; edges = all; labels = refl; ready = refl; rest = refl; first_label = refl; names = refl; function = refl; bases = f.bases }
      edged (e ∷ es) p f is all (one, to) =
          let q = o.with_way u e.taken p in
          let r = o.with_exit u from e p in
          let s = same_way e.taken p f in
          let g = fit_same p q f s in
          let new : P (o.edge_to from (e.to + p.within.labels) (o.way_moved u e.taken p)) = subst (λ k. P (o.edge_to from (e.to + k) (o.way_moved u e.taken p))) (sym is) (one (o.way_moved u e.taken p)) in
          let x = edged es r (record { names = g.names; small = g.small; bases = g.bases }) (s.first ∙ is) (edges_append P q.program.edges _ (subst (AllEdges P) (sym s.edges) all) new) to in
          record { blocks = x.blocks ∙ s.blocks; edges = x.edges; labels = x.labels ∙ s.labels; ready = x.ready ∙ s.ready; rest = x.rest ∙ s.rest; first_label = x.first_label ∙ s.first; names = x.names ∙ s.names; function = x.function ∙ s.function; bases = x.bases }

  -- ---- what a turn leaves

  -- all but the bases, by its parts
  record Parts (stack : List CopyView) (blocks : List BlockView) (edges : List EdgeView) (labels : List ℕ) (ready : List Step) (rest : List PieceView) (first : ℕ) (names : List NameView) (function : FunctionView) : Type 0 where
    depth : ℕ
    pieces : LeadOn (is_plain_from u depth) NoLabel rest
    of_objects : AreOfObjects names
    small : HasSmall u function
    room : (k : ℕ) → Marked rest NoLabel k → k + first < length labels
    others : ArePlainCopies (length labels) stack
    ahead : AllEdges (IsAhead (length blocks) labels (λ l. ((k : ℕ) × (l ≡ k + first) × Marked rest NoLabel k) ⊎ Awaited stack l)) edges
    plain : ArePlainBlocks blocks
    steps : ArePlainSteps ready

  abbrev PartsOf : List CopyView → Placed → Type 0
  PartsOf stack p = Parts stack p.program.blocks p.program.edges p.program.labels p.program.ready p.within.rest p.within.labels p.within.names p.within.function

  parts_of : (stack : List CopyView) (p : Placed) → Leads (o.back_in stack p) → PartsOf stack p
  parts_of stack p k = record { depth = k.copies.0.depth; pieces = k.copies.0.pieces; of_objects = k.copies.0.names; small = k.copies.0.small; room = k.copies.0.room; others = k.copies.1; ahead = k.edges; plain = k.blocks; steps = k.ready }

  of_parts : (stack : List CopyView) (p : Placed) → PartsOf stack p → ArePlainBases p.program.bases.bases → Leads (o.back_in stack p)
  of_parts stack p k bases = record { copies = (record { depth = k.depth; pieces = k.pieces; names = k.of_objects; small = k.small; room = k.room }, k.others); edges = k.ahead; blocks = k.plain; ready = k.steps; bases = bases }

  fit_of : (stack : List CopyView) (p : Placed) → Leads (o.back_in stack p) → Fit p
  fit_of stack p k = record { names = k.copies.0.names; small = k.copies.0.small; bases = k.bases }

  lead_same : (stack : List CopyView) (p q : Placed) → Same p q → Leads (o.back_in stack p) → Leads (o.back_in stack q)
  lead_same stack p q s k =
      let m = p.program in
      let n = q.program in
      let a = subst (λ x. Parts stack x m.edges m.labels m.ready p.within.rest p.within.labels p.within.names p.within.function) (sym s.blocks) (parts_of stack p k) in
      let b = subst (λ x. Parts stack n.blocks x m.labels m.ready p.within.rest p.within.labels p.within.names p.within.function) (sym s.edges) a in
      let c = subst (λ x. Parts stack n.blocks n.edges x m.ready p.within.rest p.within.labels p.within.names p.within.function) (sym s.labels) b in
      let d = subst (λ x. Parts stack n.blocks n.edges n.labels x p.within.rest p.within.labels p.within.names p.within.function) (sym s.ready) c in
      let e = subst (λ x. Parts stack n.blocks n.edges n.labels n.ready x p.within.labels p.within.names p.within.function) (sym s.rest) d in
      let f = subst (λ x. Parts stack n.blocks n.edges n.labels n.ready q.within.rest x p.within.names p.within.function) (sym s.first) e in
      let g = subst (λ x. Parts stack n.blocks n.edges n.labels n.ready q.within.rest q.within.labels x p.within.function) (sym s.names) f in
      of_parts stack q (subst (λ x. Parts stack n.blocks n.edges n.labels n.ready q.within.rest q.within.labels q.within.names x) (sym s.function) g) s.bases

  lead_step : (stack : List CopyView) (s : Step) (p : Placed) → is_plain_act s.does ≡ true → Leads (o.back_in stack p) → Leads (o.back_in stack (o.with_step s p))
  lead_step stack s p plain k = record { copies = k.copies; edges = k.edges; blocks = k.blocks; ready = steps_append p.program.ready s k.ready plain; bases = k.bases }

  -- a copy whose next piece is no label goes on behind it
  behind_piece : (q : PieceView) (qs : List PieceView) (c : CopyView) (stack : List CopyView) (m : Made) → ((k : ℕ) → Marks q k → ⊥) → Leads (o.inlined (o.with_rest (q ∷ qs) c ∷ stack) m) → Leads (o.inlined (o.with_rest qs c ∷ stack) m)
  behind_piece q qs c stack m none k = record {
    copies = (record { depth = k.copies.0.depth; pieces = k.copies.0.pieces.1; names = k.copies.0.names; small = k.copies.0.small; room = λ l is. k.copies.0.room l (inr is) }, k.copies.1);
    edges = edges_more _ _ (λ e x. record { there = x.there; leads = by e.to e.from x.leads }) m.edges k.edges;
    blocks = k.blocks;
    ready = k.ready;
    bases = k.bases;
  }
    where
      by : (l from : ℕ) → (from < get_or m.labels l 0) ⊎ Awaited (o.with_rest (q ∷ qs) c ∷ stack) l → (from < get_or m.labels l 0) ⊎ Awaited (o.with_rest qs c ∷ stack) l
      by l from (inl less) = inl less
      by l from (inr (inr x)) = inr (inr x)
      by l from (inr (inl x)) = here x.2
        where
          here : Marks q x.0 ⊎ Marked qs NoLabel x.0 → (from < get_or m.labels l 0) ⊎ Awaited (o.with_rest qs c ∷ stack) l
          here (inl is) = absurd (none x.0 is)
          here (inr is) = inr (inl (x.0, x.1, is))

  -- a copy is finished
  finished : (c : CopyView) (stack : List CopyView) (m : Made) → Leads (o.inlined (o.with_rest [] c ∷ stack) m) → Leads (o.inlined stack m)
  finished c stack m k = record {
    copies = k.copies.1;
    edges = edges_more _ _ (λ e x. record { there = x.there; leads = by e.to e.from x.leads }) m.edges k.edges;
    blocks = k.blocks;
    ready = k.ready;
    bases = k.bases;
  }
    where
      by : (l from : ℕ) → (from < get_or m.labels l 0) ⊎ Awaited (o.with_rest [] c ∷ stack) l → (from < get_or m.labels l 0) ⊎ Awaited stack l
      by l from (inl less) = inl less
      by l from (inr (inl x)) = absurd x.2
      by l from (inr (inr x)) = inr x

  -- ---- labels

  set_there : (blocks from label l : ℕ) (labels : List ℕ) → label < length labels → from < blocks → l ≡ label → from < get_or (slice_set labels label blocks) l 0
  set_there blocks from label l labels room less e = subst (λ k. from < get_or (slice_set labels label blocks) k 0) (sym e) (subst (λ k. from < k) (sym (get_or-set_same labels label blocks 0 room)) less)

  set_other : (blocks from label l : ℕ) (labels : List ℕ) → (l ≡ label → ⊥) → from < get_or labels l 0 → from < get_or (slice_set labels label blocks) l 0
  set_other blocks from label l labels other less = subst (λ k. from < k) (sym (get_or-set_other labels label l blocks 0 other)) less

  apart : (l label : ℕ) → (l == label) ≡ false → l ≡ label → ⊥
  apart l label e same = no (sym (eq-eqb l label same) ∙ e)
    where
      no : true ≡ false → ⊥
      no e = cc

  -- a block begins at a label
  lead_labelled : (label : ℕ) (qs : List PieceView) (c : CopyView) (stack : List CopyView) (m : Made) → label + c.labels < length m.labels → AllEdges (λ e. (e.from < length m.blocks) × ((e.from < get_or m.labels e.to 0) ⊎ Awaited (o.with_rest (Mark label ∷ qs) c ∷ stack) e.to)) m.edges
      → AllEdges (IsAhead (length m.blocks) (slice_set m.labels (label + c.labels) (length m.blocks)) (Awaited (o.with_rest qs c ∷ stack))) m.edges
  lead_labelled label qs c stack m room all = edges_more _ _ (λ e x. record { there = x.0; leads = by e.from e.to x.0 (e.to == (label + c.labels)) refl x.1 }) m.edges all
    where
      by : (from l : ℕ) → from < length m.blocks → (b : Bool) → (l == (label + c.labels)) ≡ b → (from < get_or m.labels l 0) ⊎ Awaited (o.with_rest (Mark label ∷ qs) c ∷ stack) l → (from < get_or (slice_set m.labels (label + c.labels) (length m.blocks)) l 0) ⊎ Awaited (o.with_rest qs c ∷ stack) l
      by from l less true e x = inl (set_there (length m.blocks) from (label + c.labels) l m.labels room less (eqb-true l (label + c.labels) e))
      by from l less false e (inl x) = inl (set_other (length m.blocks) from (label + c.labels) l m.labels (apart l (label + c.labels) e) x)
      by from l less false e (inr (inr x)) = inr (inr x)
      by from l less false e (inr (inl x)) = here x.2
        where
          here : (x.0 ≡ label) ⊎ Marked qs NoLabel x.0 → (from < get_or (slice_set m.labels (label + c.labels) (length m.blocks)) l 0) ⊎ Awaited (o.with_rest qs c ∷ stack) l
          here (inl same) = absurd (apart l (label + c.labels) e (x.1 ∙ ap (λ k. k + c.labels) same))
          here (inr is) = inr (inl (x.0, x.1, is))

  one_longer : (bs : List BlockView) (b : BlockView) → length (bs ++ b ∷ []) ≡ suc (length bs)
  one_longer bs b = length-append bs (b ∷ []) ∙ plus_one (length bs)
    where
      plus_one : (a : ℕ) → a + 1 ≡ suc a
      plus_one a = omega arith

  just_less : (n m : ℕ) → m ≡ suc n → n < m
  just_less n m e = omega (arith, e)

  still_less : (a n m : ℕ) → m ≡ suc n → a < n → a < m
  still_less a n m e less = omega (arith, e, less)

  lead_mark : (label : ℕ) (qs : List PieceView) (c : CopyView) (stack : List CopyView) (m : Made) → Leads (o.inlined (o.with_rest (Mark label ∷ qs) c ∷ stack) m) → Leads (o.back_in stack (o.with_mark label (placed m (o.with_rest qs c))))
  lead_mark label qs c stack m k = by (is_none m.ready)
    where
      target : ℕ
      target = label + c.labels

      room : label + c.labels < length m.labels
      room = k.copies.0.room label (inl refl)

      longer : (n : ℕ) → length (slice_set m.labels (label + c.labels) n) ≡ length m.labels
      longer n = length-set m.labels (label + c.labels) n

      copies : (n : ℕ) → ArePlainCopies (length (slice_set m.labels (label + c.labels) n)) (o.with_rest qs c ∷ stack)
      copies n = subst (λ k. ArePlainCopies k (o.with_rest qs c ∷ stack)) (sym (longer n)) (record { depth = k.copies.0.depth; pieces = k.copies.0.pieces.1; names = k.copies.0.names; small = k.copies.0.small; room = λ l is. k.copies.0.room l (inr is) }, k.copies.1)

      by : (b : Bool) → Leads (o.inlined (o.with_rest qs c ∷ stack) (o.labelled (label + c.labels) (cond b m (o.jumped c.at (label + c.labels) m))))
      by true = record { copies = copies (length m.blocks); edges = lead_labelled label qs c stack m room (edges_more _ _ (λ e x. (x.there, x.leads)) m.edges k.edges); blocks = k.blocks; ready = k.ready; bases = k.bases }
      by false =
          let n = o.jumped c.at (label + c.labels) m in
          let b = o.ended_block (m.ready ++ o.instruction c.at acts.Jump ∷ []) (length m.edges) (length n.edges - length m.edges) in
          let count = one_longer m.blocks b in
          let new = o.edge_to (length m.blocks) (label + c.labels) Always in
          let last : (new.from < length n.blocks) × ((new.from < get_or m.labels new.to 0) ⊎ Awaited (o.with_rest (Mark label ∷ qs) c ∷ stack) new.to) = (just_less (length m.blocks) (length n.blocks) count, inr (inl (label, refl, inl refl))) in
          let old = edges_more _ (λ e. (e.from < length n.blocks) × ((e.from < get_or m.labels e.to 0) ⊎ Awaited (o.with_rest (Mark label ∷ qs) c ∷ stack) e.to)) (λ e x. (still_less e.from (length m.blocks) (length n.blocks) count x.there, x.leads)) m.edges k.edges in
          record {
            copies = copies (length n.blocks);
            edges = lead_labelled label qs c stack n room (edges_append _ m.edges new old last);
            blocks = blocks_append m.blocks b k.blocks (record { steps = steps_append m.ready _ k.ready refl; head = refl });
            ready = tt;
            bases = k.bases;
          }

  -- ---- calls

  get_longer : (xs ys : List ℕ) (l n : ℕ) → n < get_or xs l 0 → n < get_or (xs ++ ys) l 0
  get_longer [] ys l n less = absurd (no n less)
    where
      no : (n : ℕ) → n < 0 → ⊥
      no n less = omega (arith, less)
  get_longer (x ∷ xs) ys zero n less = less
  get_longer (x ∷ xs) ys (suc l) n less = get_longer xs ys l n less

  copies_longer : (a b : ℕ) → a ≤ b → (stack : List CopyView) → ArePlainCopies a stack → ArePlainCopies b stack
  copies_longer a b le [] all = tt
  copies_longer a b le (c ∷ stack) (one, all) = (record { depth = one.depth; pieces = one.pieces; names = one.names; small = one.small; room = λ k is. further (k + c.labels) (one.room k is) }, copies_longer a b le stack all)
    where
      further : (k : ℕ) → k < a → k < b
      further k less = omega (arith, less, le)

  -- what templates of plain functions are
  pub record IsPlainTemplate (depth : ℕ) (t : TemplateView) : Type 0 where
    pub leads : LeadsOn (is_plain_from u depth) t
    pub room : (k : ℕ) → Marked t.pieces NoLabel k → k < t.labels

  abbrev pub ArePlainTemplates : List (Option TemplateView) → Type 0
  ArePlainTemplates ts = (g depth : ℕ) (f : FunctionView) (t : TemplateView) → slice_get u.functions g ≡ Some f → o.template_at ts g ≡ Some t → is_plain_function u (is_plain_from u depth) f ≡ true → IsPlainTemplate depth t

  module _ (ts : List (Option TemplateView)) (templates : ArePlainTemplates ts) where
    small_of : (depth : ℕ) (f : FunctionView) → is_plain_function u (is_plain_from u depth) f ≡ true → HasSmall u f
    small_of depth f is = record { locals = (both _ _ (both _ _ is).0).0; result = (both _ _ (both _ _ is).0).1 }

    lead_entered : (call : OwnCall) (depth : ℕ) (stack : List CopyView) (m : Made) (of : Option FunctionView) (ot : Option TemplateView) → slice_get u.functions call.function ≡ of → o.template_at ts call.function ≡ ot → is_plain_if_there u (is_plain_from u depth) of ≡ true → Leads (o.inlined stack m) → Leads (o.entered call stack m of ot)
    lead_entered call depth stack m None ot is_f is_t plain k = k
    lead_entered call depth stack m (Some f) None is_f is_t plain k = k
    lead_entered call depth stack m (Some f) (Some t) is_f is_t plain k =
        let x = templates call.function depth f t is_f is_t plain in
        let zeros = replicate t.labels 0 in
        let count = length-append m.labels zeros in
        let many = length_zeros t.labels in
        record {
          copies = (record { depth = depth; pieces = x.leads.pieces; names = x.leads.names; small = small_of depth f plain; room = λ l is. in_room l (length m.labels) t.labels (length (m.labels ++ zeros)) (length zeros) count many (x.room l is) }, copies_longer (length m.labels) (length (m.labels ++ zeros)) (no_less (length m.labels) (length zeros) (length (m.labels ++ zeros)) count) stack k.copies);
          edges = edges_more _ _ (λ e y. record { there = y.there; leads = by zeros e.from e.to y.leads }) m.edges k.edges;
          blocks = k.blocks;
          ready = k.ready;
          bases = k.bases;
        }
      where
        length_zeros : (n : ℕ) → length {A = ℕ} (replicate n 0) ≡ n
        length_zeros zero = refl
        length_zeros (suc n) = ap suc (length_zeros n)

        in_room : (l a b c d : ℕ) → c ≡ a + d → d ≡ b → l < b → l + a < c
        in_room l a b c d e f less = omega (arith, e, f, less)

        no_less : (a d c : ℕ) → c ≡ a + d → a ≤ c
        no_less a d c e = omega (arith, e)

        by : (zeros : List ℕ) (from l : ℕ) → (from < get_or m.labels l 0) ⊎ Awaited stack l → (from < get_or (m.labels ++ zeros) l 0) ⊎ Awaited (o.copied call (length m.labels) f t ∷ stack) l
        by zeros from l (inl less) = inl (get_longer m.labels zeros l from less)
        by zeros from l (inr x) = inr (inr x)

    lead_call : (call : OwnCall) (depth : ℕ) (stack : List CopyView) (m : Made) → is_plain_from u depth call.function ≡ true → Leads (o.inlined stack m) → Leads (o.with_call u ts call stack m)
    lead_call call zero stack m plain k = absurd (cc)
    lead_call call (suc depth) stack m plain k = lead_entered call depth stack m (slice_get u.functions call.function) (o.template_at ts call.function) refl refl plain k

    -- ---- turns

    module _ (small : has_short_objects u ≡ true) where
      lead_act : (stack : List CopyView) (at : Place) (a : Act) (p : Placed) → is_plain_act a ≡ true → Leads (o.back_in stack p) → Leads (o.back_in stack (o.with_act u at a p))
      lead_act stack at a p plain k =
          let q = o.with_own u (own_base a) p in
          lead_step stack _ q (moved_plain p.within.depth (o.own_number u (own_base a) p) a plain) (lead_same stack p q (same_own small (own_base a) p (fit_of stack p k)) k)

      lead_if_used : (stack : List CopyView) (a : Act) (p : Placed) → is_plain_act a ≡ true → Leads (o.back_in stack p) → Leads (o.back_in stack (o.with_act_if_used u a p))
      lead_if_used stack a p plain k = by p.within.used
        where
          by : (b : Bool) → Leads (o.back_in stack (cond b (o.with_act u p.within.at a p) p))
          by true = lead_act stack p.within.at a p plain k
          by false = k

      -- the edges of a block that ends
      same_place : (k n : ℕ) → k ≡ n → k < suc n
      same_place k n e = omega (arith, e)

      lead_closed : (stack : List CopyView) (x : Step) (exits : List ExitView) (p : Placed) → is_plain_act x.does ≡ true → AllTo (Marked p.within.rest NoLabel) exits → Leads (o.back_in stack p) → Leads (o.back_in stack (o.closed u x exits p))
      lead_closed stack x exits p plain to k =
          let from = length p.program.blocks in
          let own = same_own small (own_base x.does) p (fit_of stack p k) in
          let a = o.with_act u x.at x.does p in
          let acted = lead_act stack x.at x.does p plain k in
          let A = Awaited (a.within ∷ stack) in
          let P = IsAhead (suc from) a.program.labels A in
          let old : AllEdges P a.program.edges = edges_more _ P (λ e y. record { there = below e.from (length a.program.blocks) from (ap length own.blocks) y.there; leads = y.leads }) a.program.edges acted.edges in
          let new : AllTo (λ l. (w : Way) → P (o.edge_to from (l + a.within.labels) w)) exits = ways from a exits (subst (λ rest. AllTo (Marked rest NoLabel) exits) (sym own.rest) to) in
          let q = o.with_exits u from exits a in
          let y = edged small from a.within.labels P exits a (fit_of stack a acted) refl old new in
          let b = o.ended_block q.program.ready (length p.program.edges) (length q.program.edges - length p.program.edges) in
          let blocks = q.program.blocks in
          let count : length (blocks ++ b ∷ []) ≡ suc from = one_longer blocks b ∙ ap suc (ap length y.blocks ∙ ap length own.blocks) in
          let parts = subst (λ z. ArePlainCopies (length z) (a.within ∷ stack)) (sym y.labels) acted.copies in
          record {
            copies = (
              record {
                depth = parts.0.depth;
                pieces = subst (λ z. LeadOn (is_plain_from u parts.0.depth) NoLabel z) (sym y.rest) parts.0.pieces;
                names = subst AreOfObjects (sym y.names) parts.0.names;
                small = subst (HasSmall u) (sym y.function) parts.0.small;
                room = λ l is. subst (λ first. l + first < length q.program.labels) (sym y.first_label) (parts.0.room l (subst (λ z. Marked z NoLabel l) y.rest is));
              },
              parts.1,
            );
            edges = edges_more P _ (λ e z. ahead stack (length (blocks ++ b ∷ [])) (suc from) count a.program.labels q.program.labels y.labels a.within q.within y.rest y.first_label e z) q.program.edges y.edges;
            blocks = blocks_append blocks b (subst ArePlainBlocks (sym y.blocks) acted.blocks) (record { steps = subst ArePlainSteps (sym y.ready) acted.ready; head = refl });
            ready = tt;
            bases = y.bases;
          }
        where
          below : (k a n : ℕ) → a ≡ n → k < a → k < suc n
          below k a n e less = omega (arith, e, less)

          ways : (from : ℕ) (a : Placed) (es : List ExitView) → AllTo (Marked a.within.rest NoLabel) es → AllTo (λ l. (w : Way) → IsAhead (suc from) a.program.labels (Awaited (a.within ∷ stack)) (o.edge_to from (l + a.within.labels) w)) es
          ways from a [] all = tt
          ways from a (e ∷ es) (one, all) = ((λ w. record { there = same_place from from refl; leads = inr (inl (e.to, refl, one)) }), ways from a es all)

          ahead : (stack : List CopyView) (count n : ℕ) → count ≡ n → (labels more : List ℕ) → more ≡ labels → (c d : CopyView) → d.rest ≡ c.rest → d.labels ≡ c.labels → (e : EdgeView) → IsAhead n labels (Awaited (c ∷ stack)) e → IsAhead count more (Awaited (d ∷ stack)) e
          ahead stack count n same labels more also c d rest first e z = record { there = subst (λ k. e.from < k) (sym same) z.there; leads = by z.leads }
            where
              by : (e.from < get_or labels e.to 0) ⊎ Awaited (c ∷ stack) e.to → (e.from < get_or more e.to 0) ⊎ Awaited (d ∷ stack) e.to
              by (inl less) = inl (subst (λ ls. e.from < get_or ls e.to 0) (sym also) less)
              by (inr (inr w)) = inr (inr w)
              by (inr (inl w)) = inr (inl (w.0, subst (λ k. e.to ≡ w.0 + k) (sym first) w.1, subst (λ z. Marked z NoLabel w.0) (sym rest) w.2))

      lead_turn : (q : PieceView) (qs : List PieceView) (c : CopyView) (stack : List CopyView) (m : Made) → Leads (o.inlined (o.with_rest (q ∷ qs) c ∷ stack) m) → Leads (o.turn u ts q (o.with_rest qs c) stack m)
      lead_turn (Do x) qs c stack m k = lead_act stack x.at x.does (placed m (o.with_rest qs c)) k.copies.0.pieces.0 (behind_piece (Do x) qs c stack m (λ l is. is) k)
      lead_turn (DoIfUsed x) qs c stack m k = lead_if_used stack x.does (placed m (o.with_rest qs c)) k.copies.0.pieces.0 (behind_piece (DoIfUsed x) qs c stack m (λ l is. is) k)
      lead_turn (End x exits) qs c stack m k = lead_closed stack x exits (placed m (o.with_rest qs c)) k.copies.0.pieces.0.0 k.copies.0.pieces.0.1 (behind_piece (End x exits) qs c stack m (λ l is. is) k)
      lead_turn (Mark label) qs c stack m k = lead_mark label qs c stack m k
      lead_turn (Call call) qs c stack m k = lead_call (o.inner call (o.with_rest qs c)) k.copies.0.depth (o.with_rest qs c ∷ stack) m k.copies.0.pieces.0 (behind_piece (Call call) qs c stack m (λ l is. is) k)

      lead_next : (qs : List PieceView) (c : CopyView) (stack : List CopyView) (m : Made) → Leads (o.inlined (o.with_rest qs c ∷ stack) m) → Leads (o.next_piece u ts qs c stack m)
      lead_next [] c stack m k = finished c stack m k
      lead_next (q ∷ qs) c stack m k = lead_turn q qs c stack m k

      lead_run : (n : ℕ) (stack : List CopyView) (m : Made) → Leads (o.inlined stack m) → Leads (o.run u ts n stack m)
      lead_run zero stack m k = k
      lead_run (suc n) [] m k = k
      lead_run (suc n) (c ∷ stack) m k = lead_run n (o.next u ts c stack m).stack (o.next u ts c stack m).program (lead_next c.rest c stack m k)

      lead_entry_run : (stack : List CopyView) (m : Made) → Leads (o.inlined stack m) → Leads (o.entry_run u ts stack m)
      lead_entry_run [] m k = k
      lead_entry_run (c ∷ stack) m k =
          let p = o.with_parameters u c.function.parameters (placed m c) in
          lead_run (2 ^ 64 - 1) (p.within ∷ stack) p.program (lead_same stack (placed m c) p (same_parameters small c.function.parameters (placed m c) (fit_of stack (placed m c) k)) k)

      pub lead_whole : (depth : ℕ) (at : Place) → is_plain_from u depth u.entry ≡ true → Leads (o.whole u ts at)
      lead_whole depth at plain =
          let call = o.entry_call at u.entry in
          let x = o.with_call u ts call [] (o.nothing_made u) in
          lead_entry_run x.stack x.program (lead_call call depth [] (o.nothing_made u) plain (record { copies = tt; edges = tt; blocks = tt; ready = tt; bases = tt }))
