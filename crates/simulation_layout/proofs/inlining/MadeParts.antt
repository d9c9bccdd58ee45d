-- A program that is made further keeps its instructions, its blocks and its edges.
use Rattle.std.proofs.Common.{◌≡◌, ◌≤◌, ◌⊎◌, inl, inr, ℕ, suc, ◌+◌, ◌-◌, Bool, true, false, cond, List, [], ◌∷◌, ◌++◌, length, map, replicate, take, drop, Some, refl, arith, ap, sym, subst, ◌∙◌, append_assoc}
use Rattle.std.specs.List.{slice_get}
use Rattle.std.proofs.lemmas.List.{append-nil, map-append}
use Rattle.cc_base.specs.declared.diagnostics.Place.{Place}
use Rattle.lower_templates.specs.Worklist.Acts.{Jump, Step}
use Rattle.lower_templates.specs.Worklist.Pieces.{Always}
use Rattle.lower_templates.specs.Views.ProgramViews.{BlockView, EdgeView}
use Rattle.lower_tables.specs.Bases.BaseTables.{TableView}
use Rattle.lower.specs.Inlining.Inlinings.{Made, with_bases, with_ready, with_edge, edge_to, ended_block, ended, instruction, jumped, jumped_if, is_none, labelled, marked, with_labels}
use Rattle.simulation_layout.proofs.inlining.ListPlaces.{left_of, at_end, at_more, no_shorter, part_kept, part_at_end, set_length}
use Rattle.simulation_layout.proofs.inlining.NamedTables.{More, more_same, more_twice}

-- the instructions of the blocks, and those of the current one
abbrev pub lines : Made → List (List Step)
lines m = map (λ (b : BlockView). b.steps) m.blocks ++ m.ready ∷ []

-- an instruction stands in a block, or in the current one
pub record At (m : Made) (block at : ℕ) (s : Step) : Type 0 where
  pub line : List Step
  pub there : slice_get (lines m) block ≡ Some line
  pub stands : slice_get line at ≡ Some s

-- a block that ended has these edges
pub record EdgesAt (m : Made) (block : ℕ) (es : List EdgeView) : Type 0 where
  pub it : BlockView
  pub there : slice_get m.blocks block ≡ Some it
  pub fits : it.first_edge + it.edges ≤ length m.edges
  pub are : take it.edges (drop it.first_edge m.edges) ≡ es

pub record Extends (m n : Made) : Type 0 where
  pub steps : (block at : ℕ) (s : Step) → At m block at s → At n block at s
  pub more_blocks : List BlockView
  pub blocks : n.blocks ≡ m.blocks ++ more_blocks
  pub more_edges : List EdgeView
  pub edges : n.edges ≡ m.edges ++ more_edges
  pub bases : More m.bases n.bases
  pub labels : length m.labels ≤ length n.labels

pub extends_same : (m : Made) → Extends m m
extends_same m = record { steps = λ b k s x. x; more_blocks = []; blocks = sym (append-nil m.blocks); more_edges = []; edges = sym (append-nil m.edges); bases = more_same m.bases; labels = omega arith }

pub extends_twice : (m n o : Made) → Extends m n → Extends n o → Extends m o
extends_twice m n o x y =
    let p = x.labels in
    let q = y.labels in
    record {
      steps = λ b k s is. y.steps b k s (x.steps b k s is);
      more_blocks = x.more_blocks ++ y.more_blocks;
      blocks = y.blocks ∙ ap (λ bs. bs ++ y.more_blocks) x.blocks ∙ append_assoc m.blocks x.more_blocks y.more_blocks;
      more_edges = x.more_edges ++ y.more_edges;
      edges = y.edges ∙ ap (λ es. es ++ y.more_edges) x.edges ∙ append_assoc m.edges x.more_edges y.more_edges;
      bases = more_twice m.bases n.bases o.bases x.bases y.bases;
      labels = omega (arith, p, q);
    }

-- edges of a block stay
pub edges_kept : (m n : Made) (block : ℕ) (es : List EdgeView) → Extends m n → EdgesAt m block es → EdgesAt n block es
edges_kept m n block es x e =
    let longer = no_shorter m.edges x.more_edges in
    let fits = e.fits in
    let all : it_end ≤ length (m.edges ++ x.more_edges) = far _ _ _ fits longer in
    record {
      it = e.it;
      there = ap (λ bs. slice_get bs block) x.blocks ∙ left_of m.blocks x.more_blocks block e.it e.there;
      fits = subst (λ (xs : List EdgeView). it_end ≤ length xs) (sym x.edges) all;
      are = ap (λ xs. take e.it.edges (drop e.it.first_edge xs)) x.edges ∙ part_kept m.edges x.more_edges e.it.first_edge e.it.edges e.fits ∙ e.are;
    }
  where
    it_end : ℕ
    it_end = e.it.first_edge + e.it.edges

    far : (a b c : ℕ) → a ≤ b → b ≤ c → a ≤ c
    far a b c p q = omega (arith, p, q)

-- ---- one part more

count_lines : (bs : List BlockView) → length (map (λ (b : BlockView). b.steps) bs) ≡ length bs
count_lines [] = refl
count_lines (b ∷ bs) = ap suc (count_lines bs)

pub extends_ready : (s : Step) (m : Made) → Extends m (with_ready s m)
extends_ready s m = record { steps = λ b k x is. on b k x is; more_blocks = []; blocks = sym (append-nil m.blocks); more_edges = []; edges = sym (append-nil m.edges); bases = more_same m.bases; labels = omega arith }
  where
    before : List (List Step)
    before = map (λ (b : BlockView). b.steps) m.blocks

    on : (b k : ℕ) (x : Step) → At m b k x → At (with_ready s m) b k x
    on b k x is = by (at_more (map (λ (b : BlockView). b.steps) m.blocks) m.ready is.line b is.there)
      where
        by : ((b ≡ length (map (λ (b : BlockView). b.steps) m.blocks)) × (is.line ≡ m.ready)) ⊎ (slice_get (map (λ (b : BlockView). b.steps) m.blocks) b ≡ Some is.line) → At (with_ready s m) b k x
        by (inl p) =
            record {
              line = m.ready ++ s ∷ [];
              there = ap (λ j. slice_get (lines (with_ready s m)) j) p.0 ∙ at_end (map (λ (b : BlockView). b.steps) m.blocks) (m.ready ++ s ∷ []) [];
              stands = left_of m.ready (s ∷ []) k x (ap (λ l. slice_get l k) (sym p.1) ∙ is.stands);
            }
        by (inr old) = record { line = is.line; there = left_of (map (λ (b : BlockView). b.steps) m.blocks) ((m.ready ++ s ∷ []) ∷ []) b is.line old; stands = is.stands }

-- the instruction that comes into the current block
pub at_ready : (s : Step) (m : Made) → At (with_ready s m) (length m.blocks) (length m.ready) s
at_ready s m = record {
  line = m.ready ++ s ∷ [];
  there = ap (λ j. slice_get (lines (with_ready s m)) j) (sym (count_lines m.blocks)) ∙ at_end (map (λ (b : BlockView). b.steps) m.blocks) (m.ready ++ s ∷ []) [];
  stands = at_end m.ready s [];
}

pub extends_edge : (e : EdgeView) (m : Made) → Extends m (with_edge e m)
extends_edge e m = record { steps = λ b k s x. record { line = x.line; there = x.there; stands = x.stands }; more_blocks = []; blocks = sym (append-nil m.blocks); more_edges = e ∷ []; edges = refl; bases = more_same m.bases; labels = omega arith }

pub extends_ended : (first : ℕ) (m : Made) → Extends m (ended first m)
extends_ended first m =
    let b = ended_block m.ready first (length m.edges - first) in
    record { steps = λ j k s x. record { line = x.line; there = same j x.line x.there; stands = x.stands }; more_blocks = b ∷ []; blocks = refl; more_edges = []; edges = sym (append-nil m.edges); bases = more_same m.bases; labels = omega arith }
  where
    same : (j : ℕ) (line : List Step) → slice_get (lines m) j ≡ Some line → slice_get (lines (ended first m)) j ≡ Some line
    same j line is =
        let b = ended_block m.ready first (length m.edges - first) in
        ap (λ ls. slice_get (ls ++ [] ∷ []) j) (map-append (λ (b : BlockView). b.steps) m.blocks (b ∷ [])) ∙ left_of (lines m) ([] ∷ []) j line is

pub extends_label : (label : ℕ) (m : Made) → Extends m (labelled label m)
extends_label label m = let e = set_length m.labels label (length m.blocks) in record { steps = λ b k s x. record { line = x.line; there = x.there; stands = x.stands }; more_blocks = []; blocks = sym (append-nil m.blocks); more_edges = []; edges = sym (append-nil m.edges); bases = more_same m.bases; labels = omega (arith, e) }

pub extends_labels : (count : ℕ) (m : Made) → Extends m (with_labels count m)
extends_labels count m = record { steps = λ b k s x. record { line = x.line; there = x.there; stands = x.stands }; more_blocks = []; blocks = sym (append-nil m.blocks); more_edges = []; edges = sym (append-nil m.edges); bases = more_same m.bases; labels = no_shorter m.labels (replicate count 0) }

pub extends_bases : (b : TableView) (m : Made) → More m.bases b → Extends m (with_bases b m)
extends_bases b m more = record { steps = λ b k s x. record { line = x.line; there = x.there; stands = x.stands }; more_blocks = []; blocks = sym (append-nil m.blocks); more_edges = []; edges = sym (append-nil m.edges); bases = more; labels = omega arith }

-- ---- a block that ends

-- its edges are those that came since
pub edges_ended : (first : ℕ) (m : Made) (before own : List EdgeView) → m.edges ≡ before ++ own → first ≡ length before → EdgesAt (ended first m) (length m.blocks) own
edges_ended first m before own is e = record {
  it = ended_block m.ready first (length m.edges - first);
  there = at_end m.blocks (ended_block m.ready first (length m.edges - first)) [];
  fits = fits (length m.edges) (subst (λ (xs : List EdgeView). first ≤ length xs) (sym is) (from_first first (length before) (length (before ++ own)) e (no_shorter before own)));
  are = ap (λ xs. take (length m.edges - first) (drop first xs)) is ∙ part_at_end before own first (length m.edges - first) e (own_count (length m.edges) (length before) (length own) first (ap length is ∙ both before own) e);
}
  where
    from_first : (f n k : ℕ) → f ≡ n → n ≤ k → f ≤ k
    from_first f n k e le = omega (arith, e, le)

    fits : (n : ℕ) → first ≤ n → first + (n - first) ≤ n
    fits n le = omega (arith, le)

    both : (xs ys : List EdgeView) → length (xs ++ ys) ≡ length xs + length ys
    both [] ys = let e : length ys ≡ 0 + length ys = omega arith in e
    both (x ∷ xs) ys = let e = both xs ys in omega (arith, e)

    own_count : (n a b f : ℕ) → n ≡ a + b → f ≡ a → n - f ≡ b
    own_count n a b f p q = omega (arith, p, q)

pub extends_jumped : (at : Place) (label : ℕ) (m : Made) → Extends m (jumped at label m)
extends_jumped at label m =
    let readied = with_ready (instruction at Jump) m in
    let e = edge_to (length m.blocks) label Always in
    extends_twice m readied (jumped at label m) (extends_ready (instruction at Jump) m) (extends_twice readied (with_edge e readied) (jumped at label m) (extends_edge e readied) (extends_ended (length m.edges) (with_edge e readied)))

pub extends_jumped_if : (at : Place) (label : ℕ) (m : Made) → Extends m (jumped_if at label m)
extends_jumped_if at label m = by (is_none m.ready)
  where
    by : (b : Bool) → Extends m (cond b m (jumped at label m))
    by true = extends_same m
    by false = extends_jumped at label m

pub extends_marked : (at : Place) (label : ℕ) (m : Made) → Extends m (marked at label m)
extends_marked at label m = extends_twice m (jumped_if at label m) (marked at label m) (extends_jumped_if at label m) (extends_label label (jumped_if at label m))
