-- What a piece adds to a program.
use Rattle.std.proofs.Common.{◌≡◌, ℕ, ◌+◌, ◌==◌, Bool, true, false, cond, List, [], ◌∷◌, length, get_or, refl, ap, sym, subst, ◌∙◌}
use Rattle.std.proofs.lemmas.Bool.{eq-eqb}
use Rattle.std.proofs.lemmas.List.{get_or-set_other}
use Rattle.cc_base.specs.declared.diagnostics.Place.{Place}
use Rattle.c_layout.specs.CheckedUnits.{UnitView}
use Rattle.lower_templates.specs.Worklist.Acts.{Act, Step}
use Rattle.lower_templates.specs.Worklist.Pieces.{ExitView, PieceView, Do, DoIfUsed, End, Mark, Call}
use Rattle.lower_tables.specs.Bases.BaseTables.{TableView}
use Rattle.lower.specs.Inlining.MovedActs.{own_base}
use Rattle.lower.specs.Inlining.Inlinings.{Made, Placed, placed, with_locals, with_own, with_act, ended, with_way, with_exit, with_exits, closed, with_act_if_used, is_none, jumped, jumped_if, marked, with_mark, with_piece}
use Rattle.simulation_layout.proofs.inlining.NamedTables.{GoodTable, GoodLocals, MoreLocals, locals_same, locals_twice, bases_longer}
use Rattle.simulation_layout.proofs.inlining.MadeParts.{Extends, extends_same, extends_twice, extends_ready, extends_edge, extends_ended, extends_bases, extends_marked}
use Rattle.simulation_layout.proofs.inlining.NamedPlaces.{Good, Only, only_own, only_way}

-- whether a piece is a label with this number
abbrev pub marks : ℕ → PieceView → Bool
marks l (Mark m) = l == m
marks l other = false

-- a label is none that pieces mark
abbrev pub Unmarked : ℕ → List PieceView → Type 0
Unmarked l [] = Unit {0}
Unmarked l (p ∷ ps) = (marks l p ≡ false) × Unmarked l ps

module _ (u : UnitView) where
  -- the program is made further, and the copy names no fewer bases
  pub record Steps (p q : Placed) : Type 0 where
    pub good : Good u q
    pub extends : Extends p.program q.program
    pub locals : MoreLocals p.program.bases p.within.locals q.within.locals
    pub within : q.within ≡ with_locals q.within.locals p.within

  pub steps_none : (p : Placed) → Good u p → Steps p p
  steps_none p g = record { good = g; extends = extends_same p.program; locals = locals_same p.program.bases p.within.locals; within = refl }

  pub steps_twice : (p q r : Placed) → Steps p q → Steps q r → Steps p r
  steps_twice p q r a b = record {
    good = b.good;
    extends = extends_twice p.program q.program r.program a.extends b.extends;
    locals = locals_twice p.program.bases q.program.bases p.within.locals q.within.locals r.within.locals (bases_longer p.program.bases q.program.bases a.extends.bases) a.locals b.locals;
    within = b.within ∙ ap (λ c. with_locals r.within.locals c) a.within;
  }

  pub steps_only : (p q : Placed) → Only u p q → Steps p q
  steps_only p q o = record { good = o.good; extends = subst (λ m. Extends p.program m) (sym o.program) (extends_bases q.program.bases p.program o.more); locals = o.locals; within = o.within }

  -- the program alone changes, and not its bases
  pub steps_program : (p : Placed) (m : Made) → Good u p → Extends p.program m → m.bases ≡ p.program.bases → Steps p (placed m p.within)
  steps_program p m g e same = record {
    good = record { table = subst (λ b. GoodTable u b) (sym same) g.table; locals = subst (λ (b : TableView). GoodLocals u p.within.function b.bases p.within.locals) (sym same) g.locals };
    extends = e;
    locals = locals_same p.program.bases p.within.locals;
    within = refl;
  }

  pub steps_act : (at : Place) (a : Act) (p : Placed) → Good u p → Steps p (with_act u at a p)
  steps_act at a p g =
      let q = with_own u (own_base a) p in
      let o = only_own u (own_base a) p g in
      steps_twice p q (with_act u at a p) (steps_only p q o) (steps_program q (with_act u at a p).program o.good (extends_ready _ q.program) refl)

  pub steps_exit : (from : ℕ) (e : ExitView) (p : Placed) → Good u p → Steps p (with_exit u from e p)
  steps_exit from e p g =
      let q = with_way u e.taken p in
      let o = only_way u e.taken p g in
      steps_twice p q (with_exit u from e p) (steps_only p q o) (steps_program q (with_exit u from e p).program o.good (extends_edge _ q.program) refl)

  pub steps_exits : (from : ℕ) (es : List ExitView) (p : Placed) → Good u p → Steps p (with_exits u from es p)
  steps_exits from [] p g = steps_none p g
  steps_exits from (e ∷ es) p g =
      let one = steps_exit from e p g in
      steps_twice p (with_exit u from e p) (with_exits u from es (with_exit u from e p)) one (steps_exits from es (with_exit u from e p) one.good)

  pub steps_closed : (s : Step) (exits : List ExitView) (p : Placed) → Good u p → Steps p (closed u s exits p)
  steps_closed s exits p g =
      let acted = with_act u s.at s.does p in
      let left = with_exits u (length p.program.blocks) exits acted in
      let a = steps_act s.at s.does p g in
      let b = steps_exits (length p.program.blocks) exits acted a.good in
      steps_twice p acted (closed u s exits p) a (steps_twice acted left (closed u s exits p) b (steps_program left (ended (length p.program.edges) left.program) b.good (extends_ended (length p.program.edges) left.program) refl))

  pub steps_if_used : (a : Act) (p : Placed) → Good u p → Steps p (with_act_if_used u a p)
  steps_if_used a p g = by p.within.used
    where
      by : (b : Bool) → Steps p (cond b (with_act u p.within.at a p) p)
      by true = steps_act p.within.at a p g
      by false = steps_none p g

  jumped_bases : (at : Place) (label : ℕ) (m : Made) → (jumped_if at label m).bases ≡ m.bases
  jumped_bases at label m = by (is_none m.ready)
    where
      by : (b : Bool) → (cond b m (jumped at label m)).bases ≡ m.bases
      by true = refl
      by false = refl

  pub steps_mark : (label : ℕ) (p : Placed) → Good u p → Steps p (with_mark label p)
  steps_mark label p g = steps_program p (marked p.within.at (label + p.within.labels) p.program) g (extends_marked p.within.at (label + p.within.labels) p.program) (jumped_bases p.within.at (label + p.within.labels) p.program)

  pub steps_piece : (q : PieceView) (p : Placed) → Good u p → Steps p (with_piece u q p)
  steps_piece (Do s) p g = steps_act s.at s.does p g
  steps_piece (DoIfUsed s) p g = steps_if_used s.does p g
  steps_piece (End s exits) p g = steps_closed s exits p g
  steps_piece (Mark label) p g = steps_mark label p g
  steps_piece (Call c) p g = steps_none p g

  -- ---- labels

  labels_only : (p q : Placed) → Only u p q → q.program.labels ≡ p.program.labels
  labels_only p q o = ap (λ (m : Made). m.labels) o.program

  labels_act : (at : Place) (a : Act) (p : Placed) → Good u p → (with_act u at a p).program.labels ≡ p.program.labels
  labels_act at a p g = labels_only p (with_own u (own_base a) p) (only_own u (own_base a) p g)

  labels_exits : (from : ℕ) (es : List ExitView) (p : Placed) → Good u p → (with_exits u from es p).program.labels ≡ p.program.labels
  labels_exits from [] p g = refl
  labels_exits from (e ∷ es) p g =
      let one = steps_exit from e p g in
      labels_exits from es (with_exit u from e p) one.good ∙ labels_only p (with_way u e.taken p) (only_way u e.taken p g)

  labels_if_used : (a : Act) (p : Placed) → Good u p → (with_act_if_used u a p).program.labels ≡ p.program.labels
  labels_if_used a p g = by p.within.used
    where
      by : (b : Bool) → (cond b (with_act u p.within.at a p) p).program.labels ≡ p.program.labels
      by true = labels_act p.within.at a p g
      by false = refl

  pub jumped_labels : (at : Place) (label : ℕ) (m : Made) → (jumped_if at label m).labels ≡ m.labels
  jumped_labels at label m = by (is_none m.ready)
    where
      by : (b : Bool) → (cond b m (jumped at label m)).labels ≡ m.labels
      by true = refl
      by false = refl

  -- edges come into no block
  pub blocks_exits : (from : ℕ) (es : List ExitView) (p : Placed) → Good u p → length (with_exits u from es p).program.blocks ≡ length p.program.blocks
  blocks_exits from [] p g = refl
  blocks_exits from (e ∷ es) p g =
      let one = steps_exit from e p g in
      blocks_exits from es (with_exit u from e p) one.good ∙ ap (λ (m : Made). length m.blocks) (only_way u e.taken p g).program

  -- a label that is not marked keeps its block
  pub labels_kept : (l : ℕ) (q : PieceView) (p : Placed) → Good u p → ((j : ℕ) → l ≡ j + p.within.labels → marks j q ≡ false) → get_or (with_piece u q p).program.labels l 0 ≡ get_or p.program.labels l 0
  labels_kept l (Do s) p g other = ap (λ ls. get_or ls l 0) (labels_act s.at s.does p g)
  labels_kept l (DoIfUsed s) p g other = ap (λ ls. get_or ls l 0) (labels_if_used s.does p g)
  labels_kept l (End s exits) p g other =
      let acted = with_act u s.at s.does p in
      ap (λ ls. get_or ls l 0) (labels_exits (length p.program.blocks) exits acted (steps_act s.at s.does p g).good ∙ labels_act s.at s.does p g)
  labels_kept l (Mark label) p g other =
      let m = jumped_if p.within.at (label + p.within.labels) p.program in
      get_or-set_other m.labels (label + p.within.labels) l (length m.blocks) 0 (λ e. same (other label e)) ∙ ap (λ ls. get_or ls l 0) (jumped_labels p.within.at (label + p.within.labels) p.program)
    where
      same : (label == label) ≡ false → ⊥
      same e = absurd (differ (sym (eq-eqb label label refl) ∙ e))
        where
          differ : true ≡ false → ⊥
          differ e = cc
  labels_kept l (Call c) p g other = refl
