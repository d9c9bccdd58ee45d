-- Well-formed programs are laid out, and their instructions and edges name what is there.
use Rattle.std.specs.Prelude.{◌≡◌, ℕ, zero, suc, ◌+◌, ◌*◌, ◌/◌, ◌%◌, ◌^◌, ◌≤◌, ◌<◌, ◌==◌, Bool, true, false, ◌&&◌, nat_lt, nat_le, min, Some, List, [], ◌∷◌, length, take, drop, slice_get}
use Rattle.std.specs.List.{list_all}
use Rattle.std.proofs.Common.{arith, subst, inl, inr}
use Rattle.std.proofs.lemmas.Bool.{cases_lt, cond_both, and_parts, leb-true, ltb-true, eqb-true}
use Rattle.std.proofs.lemmas.Nat.{mul-le}
use Rattle.cc_base.specs.declared.limit_table.Limits.{Limits}
use Rattle.c_layout.specs.Models.{is_model}
use Rattle.c_layout.specs.declared.data_model.Model.{Model}
use Rattle.c_layout.specs.declared.shapes.BaseInfo.{BaseInfo}
use Rattle.cfg.specs.BaseShapes.{is_shaped, are_sites, are_shaped}
use Rattle.cfg.specs.WellFormed.{Names, names_of, fits_operation, fits_edge, is_block, are_blocks, are_placed, all_values, is_initial_object, is_parameter, is_within, are_few, is_laid_out, all_cells, all_instructions, is_well_formed}
use Rattle.cfg.specs.declared.programs.Flow.{Flow}
use Rattle.cfg.specs.declared.basic_blocks.BasicBlock.{BasicBlock}
use Rattle.cfg.specs.declared.flow_edges.Edge.{Edge}
use Rattle.pointer_domain.specs.declared.base_sets.Bases.{Bases}
use Rattle.pointer_domain.specs.BaseSets.{no_base, word_of, bases_with, bases_within}
use Rattle.pointer_domain.specs.BaseLattice.{bases_lattice, bases_order, word_order}
use Rattle.domain_theorems.specs.Values.Consistency.{AreWords}
use Rattle.domain_theorems.proofs.values.Renames.{with_within, with_rises, own_word}
use Rattle.store_objects.specs.LiveBases.{only_base}
use Rattle.store_monotone.specs.Operations.Placements.{EachFrom, IsRegular}
use Rattle.store_monotone.proofs.shapes.ShapedBases.{shaped_regular}
use Rattle.transfer_system.specs.BoundedRows.OwnRows.{bases_below, program_bases}
use Rattle.transfer_system.specs.BoundedRows.ProgramBases.{below_within}
use Rattle.transfer_monotone.specs.Values.LaidOut.{IsLaidOut}
use Rattle.transfer_monotone.specs.Edges.ProgramLaws.{IsNamed}
use Rattle.system_monotone.specs.Systems.Texts.{HasScalars}

-- ---- the set of a program's bases

words_all : (s : Bases) → bases_lattice.within [] s ≡ true → AreWords s
words_all s h i =
    let a = and_parts (nat_lt s.word0 (2 ^ 128)) _ h in
    let b = and_parts (nat_lt s.word1 (2 ^ 128)) _ a.1 in
    let c = and_parts (nat_lt s.word2 (2 ^ 128)) _ b.1 in
    let d = and_parts (nat_lt s.word3 (2 ^ 128)) _ c.1 in
    let e = and_parts (nat_lt s.word4 (2 ^ 128)) _ d.1 in
    let f = and_parts (nat_lt s.word5 (2 ^ 128)) _ e.1 in
    let g = and_parts (nat_lt s.word6 (2 ^ 128)) (nat_lt s.word7 (2 ^ 128)) f.1 in
    cond_both (i == 0) s.word0 _ (λ w. w < 2 ^ 128) (λ t. ltb-true s.word0 (2 ^ 128) a.0) (λ t.
    cond_both (i == 1) s.word1 _ (λ w. w < 2 ^ 128) (λ t. ltb-true s.word1 (2 ^ 128) b.0) (λ t.
    cond_both (i == 2) s.word2 _ (λ w. w < 2 ^ 128) (λ t. ltb-true s.word2 (2 ^ 128) c.0) (λ t.
    cond_both (i == 3) s.word3 _ (λ w. w < 2 ^ 128) (λ t. ltb-true s.word3 (2 ^ 128) d.0) (λ t.
    cond_both (i == 4) s.word4 _ (λ w. w < 2 ^ 128) (λ t. ltb-true s.word4 (2 ^ 128) e.0) (λ t.
    cond_both (i == 5) s.word5 _ (λ w. w < 2 ^ 128) (λ t. ltb-true s.word5 (2 ^ 128) f.0) (λ t.
    cond_both (i == 6) s.word6 s.word7 (λ w. w < 2 ^ 128) (λ t. ltb-true s.word6 (2 ^ 128) g.0) (λ t. ltb-true s.word7 (2 ^ 128) g.1)))))))

under_with : (s : Bases) (n : ℕ) → bases_within s (bases_with s n) ≡ true
under_with s n = subst (λ r. bases_within r (bases_with s n) ≡ true) (own_word s (n / 128)) (with_within s s (bases_order.reflexive s) (n / 128) (word_of s (n / 128)) _ (word_order.join_left (word_of s (n / 128)) (2 ^ (n % 128))))

pub one_below : (number count : ℕ) → number < count → bases_within (bases_with no_base number) (bases_below count) ≡ true
unfolding bases_below
one_below number zero h = absurd (omega arith)
one_below number (suc count) h = elim (cases_lt number count) [
  | inl k ↦ bases_order.transitive (bases_with no_base number) (bases_below count) (bases_with (bases_below count) count) (one_below number count k) (under_with (bases_below count) count)
  | inr k ↦ subst (λ z. bases_within (bases_with no_base z) (bases_with (bases_below count) count) ≡ true) (same number count h k) (with_rises no_base (bases_below count) (bases_order.least_below (bases_below count)) count)
]
  where
    same : (number count : ℕ) → number < suc count → count ≤ number → count ≡ number
    same number count h k = omega arith

named_all : (number count : ℕ) → number < count → bases_within (only_base number) (program_bases count) ≡ true
named_all number count h = cond_both (nat_lt number 1016) (bases_with no_base number) no_base (λ s. bases_within s (program_bases count) ≡ true)
    (λ e. let k = ltb-true number 1016 e in one_below number (min count 1016) (omega arith)) (λ e. bases_order.least_below (program_bases count))

-- ---- the parts of well-formedness

pub record WellMade (limits : Limits) (flow : Flow) : Type 0 where
  pub some : nat_lt 0 (length flow.blocks.items) ≡ true
  pub blocks : are_blocks (names_of flow) (length flow.blocks.items) flow.edges.items 0 0 flow.blocks.items flow.edges.items ≡ true
  pub edges : list_all (λ e. fits_edge (names_of flow) e.kind) flow.edges.items ≡ true
  pub placed : are_placed 0 flow.bases.items ≡ true
  pub width : (flow.width == all_values flow.bases.items + flow.temps) ≡ true
  pub within : is_within limits flow ≡ true
  pub laid : is_laid_out flow ≡ true

pub well_made : (limits : Limits) (flow : Flow) → is_well_formed limits flow ≡ true → WellMade limits flow
well_made limits flow h =
    let a = and_parts (nat_lt 0 (length flow.blocks.items)) _ h in
    let b = and_parts (are_blocks (names_of flow) (length flow.blocks.items) flow.edges.items 0 0 flow.blocks.items flow.edges.items) _ a.1 in
    let c = and_parts (list_all (λ e. fits_edge (names_of flow) e.kind) flow.edges.items) _ b.1 in
    let d = and_parts (are_placed 0 flow.bases.items) _ c.1 in
    let e = and_parts (flow.width == all_values flow.bases.items + flow.temps) _ d.1 in
    let f = and_parts (list_all (is_initial_object flow.bases.items) flow.initial.items) _ e.1 in
    let g = and_parts (list_all (is_parameter flow.model flow.bases.items) flow.parameters.items) _ f.1 in
    let i = and_parts (is_within limits flow) _ g.1 in
    let j = and_parts (are_few flow) (is_laid_out flow) i.1 in
    record { some = a.0; blocks = b.0; edges = c.0; placed = d.0; width = e.0; within = i.0; laid = j.1 }

width_small : (limits : Limits) (flow : Flow) → is_within limits flow ≡ true → flow.width ≤ limits.pool
width_small limits flow h =
    let a = and_parts (nat_le flow.temps limits.temps) _ h in
    let b = and_parts (nat_le (length flow.bases.items) limits.bases) _ a.1 in
    let c = and_parts (nat_le (all_cells flow.bases.items) limits.cells) _ b.1 in
    let d = and_parts (nat_le (length flow.blocks.items) limits.blocks) _ c.1 in
    let e = and_parts (nat_le (all_instructions flow.blocks.items) limits.instructions) _ d.1 in
    let f = leb-true ((length flow.blocks.items + 2) * flow.width) limits.pool e.1 in
    let g : 1 * flow.width ≤ (length flow.blocks.items + 2) * flow.width = mul-le 1 flow.width (length flow.blocks.items + 2) flow.width (omega arith) (omega arith) in
    omega arith

pub all_at : {K : Type 0} (f : K → Bool) (ks : List K) → list_all f ks ≡ true → (i : ℕ) (k : K) → slice_get ks i ≡ Some k → f k ≡ true
all_at f [] h i k e = absurd (cc)
all_at f (x ∷ ks) h zero k e = subst (λ z. f z ≡ true) (same x k e) (and_parts (f x) (list_all f ks) h).0
  where
    same : {K : Type 0} (x k : K) → Some x ≡ Some k → x ≡ k
    same x k e = cc
all_at f (x ∷ ks) h (suc i) k e = all_at f ks (and_parts (f x) (list_all f ks) h).1 i k e

each_regular : (m : Model) → is_model m ≡ true → (at : ℕ) (bases : List BaseInfo) → list_all (is_shaped m) bases ≡ true → EachFrom (λ base number. IsRegular m base) at bases
each_regular m model at [] h = tt
each_regular m model at (base ∷ bases) h = let a = and_parts (is_shaped m base) (list_all (is_shaped m) bases) h in (shaped_regular m model base a.0, each_regular m model (at + 1) bases a.1)

pub has_model : (limits : Limits) (flow : Flow) → is_well_formed limits flow ≡ true → is_model flow.model ≡ true
has_model limits flow h = (and_parts (is_model flow.model) _ (well_made limits flow h).laid).0

-- a well-formed program is laid out
pub laid_out : (limits : Limits) (flow : Flow) → is_well_formed limits flow ≡ true → limits.pool < 2 ^ 64 → IsLaidOut (program_bases (length flow.bases.items)) flow
laid_out limits flow h few =
    let w = well_made limits flow h in
    let a = and_parts (is_model flow.model) _ w.laid in
    let b = and_parts (are_shaped flow.model flow.bases.items) _ a.1 in
    let c = and_parts (list_all (is_shaped flow.model) flow.bases.items) (are_sites false flow.bases.items) b.0 in
    let s = width_small limits flow w.within in
    record {
      layout = record { placed = w.placed; regular = each_regular flow.model a.0 0 flow.bases.items c.0 };
      width = eqb-true flow.width (all_values flow.bases.items + flow.temps) w.width;
      near = omega arith;
      words = words_all (program_bases (length flow.bases.items)) (below_within [] (min (length flow.bases.items) 1016));
      named = λ number k. named_all number (length flow.bases.items) k;
    }

-- ---- instructions and edges

pub blocks_fit : (names : Names) (blocks : ℕ) (edges : List Edge) (at first : ℕ) (bs : List BasicBlock) (rest : List Edge) → are_blocks names blocks edges at first bs rest ≡ true → (number : ℕ) (b : BasicBlock) → slice_get bs number ≡ Some b → list_all (λ i. fits_operation names i.operation) b.instructions.items ≡ true
blocks_fit names blocks edges at first [] rest h number b e = absurd (cc)
blocks_fit names blocks edges at first (x ∷ bs) rest h zero b e =
    let a = and_parts ((x.first_edge == first) && is_block names blocks edges at x (take x.edges rest)) _ h in
    let c = and_parts (x.first_edge == first) (is_block names blocks edges at x (take x.edges rest)) a.0 in
    let d = and_parts (list_all (λ i. fits_operation names i.operation) x.instructions.items) _ c.1 in
    subst (λ (z : BasicBlock). list_all (λ i. fits_operation names i.operation) z.instructions.items ≡ true) (same x b e) d.0
  where
    same : (x k : BasicBlock) → Some x ≡ Some k → x ≡ k
    same x k e = cc
blocks_fit names blocks edges at first (x ∷ bs) rest h (suc number) b e =
    let a = and_parts ((x.first_edge == first) && is_block names blocks edges at x (take x.edges rest)) (are_blocks names blocks edges (at + 1) (first + x.edges) bs (drop x.edges rest)) h in
    blocks_fit names blocks edges (at + 1) (first + x.edges) bs (drop x.edges rest) a.1 number b e

pub all_named : (limits : Limits) (flow : Flow) → is_well_formed limits flow ≡ true → HasScalars flow → IsNamed flow
all_named limits flow h t =
    let w = well_made limits flow h in
    record {
      instructions = λ block at b i p q. (all_at (λ i. fits_operation (names_of flow) i.operation) b.instructions.items (blocks_fit (names_of flow) (length flow.blocks.items) flow.edges.items 0 0 flow.blocks.items flow.edges.items w.blocks block b p) at i q, t.texts block at b i p q);
      edges = λ number e p. (all_at (λ e. fits_edge (names_of flow) e.kind) flow.edges.items w.edges number e p, t.tests number e p);
    }
