-- Control-flow programs meet the laws of systems.
use Rattle.std.proofs.Common.{◌≡◌, ◌&&◌, ◌||◌, ◌<◌, ◌≤◌, ℕ, zero, suc, ℤ, Bool, true, false, List, [], ◌∷◌, length, leb, ltb, slice_index_or, Option, Some, None, subst, arith}
use Rattle.std.proofs.lemmas.Bool.{leb-true, ltb-true}
use Rattle.std.specs.List.{list_all}
use Rattle.cc_base.specs.Lattices.{LatticeOf, OrderLaws, RoundLaws, HeightLaws}
use Rattle.cc_base.specs.IntegerDomains.{IntegersOf, BoundLaws}
use Rattle.cc_base.specs.RowLaws.{by_test, and_left, and_right}
use Rattle.cc_base.specs.Machine.{MachineLaws}
use Rattle.cfg.specs.declared.programs.Flow.{Flow}
use Rattle.cfg.specs.declared.flow_edges.Edge.{Edge}
use Rattle.value_domain.specs.declared.values.row_cells.Cell.{Cell}
use Rattle.value_domain.specs.Values.Cells.{cell_lattice}
use Rattle.transfer_system.specs.BoundedRows.CellKinds.{all_kinds}
use Rattle.transfer_system.specs.BoundedRows.EndLaws.{EndLaws}
use Rattle.transfer_system.specs.BoundedRows.OwnRows.{is_own_row}
use Rattle.transfer_system.specs.BoundedRows.FittedRows.{row_fit, reached_fit}
use Rattle.transfer_system.specs.BoundedRows.OwnLaws.{own_length, own_cells, fit_own, join_own, round_own}
use Rattle.transfer_system.specs.BoundedRows.BaseRooms.{spare_bases}
use Rattle.transfer_system.specs.BoundedRows.RoomLaws.{room-bounded, room-falls}
use Rattle.transfer_system.specs.System.BlockPasses.{edge_end}
use Rattle.transfer_system.specs.System.FlowMachines.{no_edge, edge_at, is_head_at, start_of, through, flow_machine}
use Rattle.transfer_system.specs.System.SystemChecks.{is_sound_edge, is_in_order, is_few, is_system}

-- ---- blocks and edges

list_all-at : {X : Type 0} (f : X → Bool) (xs : List X) (d : X) → list_all f xs ≡ true → (e : ℕ) → e < length xs → f (slice_index_or xs e d) ≡ true
list_all-at f [] d h e lt = absurd (omega arith)
list_all-at f (x ∷ xs) d h zero lt = and_left (f x) (list_all f xs) h
list_all-at f (x ∷ xs) d h (suc e) lt = list_all-at f xs d (and_right (f x) (list_all f xs) h) e (omega arith)

from-least : (least : ℕ) (es : List Edge) → is_in_order least es ≡ true → (e : ℕ) → e < length es → least ≤ (edge_at es e).from
from-least least [] h e lt = absurd (omega arith)
from-least least (x ∷ xs) h zero lt = leb-true least x.from (and_left _ _ h)
from-least least (x ∷ xs) h (suc e) lt =
    let a : least ≤ x.from = leb-true least x.from (and_left _ _ h) in
    let b : x.from ≤ (edge_at xs e).from = from-least x.from xs (and_right (leb least x.from) _ h) e (omega arith) in
    omega arith

by-source : (least : ℕ) (es : List Edge) → is_in_order least es ≡ true → (d e : ℕ) → d ≤ e → e < length es → (edge_at es d).from ≤ (edge_at es e).from
by-source least [] h d e le lt = absurd (omega arith)
by-source least (x ∷ xs) h zero zero le lt = omega arith
by-source least (x ∷ xs) h zero (suc e) le lt = from-least x.from xs (and_right (leb least x.from) _ h) e (omega arith)
by-source least (x ∷ xs) h (suc d) zero le lt = absurd (omega arith)
by-source least (x ∷ xs) h (suc d) (suc e) le lt = by-source x.from xs (and_right (leb least x.from) _ h) d e (omega arith) (omega arith)

head-or : (a b : Bool) → (a || b) ≡ true → a ≡ false → b ≡ true
head-or true b h e = cc
head-or false b h e = h

record Structure (flow : Flow) : Type 0 where
  some : ltb 0 (length flow.blocks.items) ≡ true
  few_blocks : is_few (length flow.blocks.items) ≡ true
  few_edges : is_few (length flow.edges.items) ≡ true
  sound : list_all (is_sound_edge flow.blocks.items) flow.edges.items ≡ true
  ordered : is_in_order 0 flow.edges.items ≡ true

structure : (flow : Flow) → is_system flow ≡ true → Structure flow
structure flow h =
    let a = and_right (ltb 0 (length flow.blocks.items)) _ h in
    let b = and_right (is_few (length flow.blocks.items)) _ a in
    let c = and_right (is_few (length flow.edges.items)) _ b in
    record {
      some = and_left _ _ h;
      few_blocks = and_left _ _ a;
      few_edges = and_left _ _ b;
      sound = and_left _ _ c;
      ordered = and_right (list_all (is_sound_edge flow.blocks.items) flow.edges.items) _ c;
    }

-- ---- the system

module _ {I : Type 0} {l : LatticeOf I} {n : IntegersOf I} {stands : I → ℤ → Type 0} (o : OrderLaws l) (k : RoundLaws l) (g : HeightLaws l) (b : BoundLaws l n stands) (ends : EndLaws l n) (flow : Flow) (list : List ℤ) where
  abbrev IsOwn : List (Cell I) → Type 0
  IsOwn row = is_own_row l n list flow.bases.items flow.width row ≡ true

  start-own : IsOwn (start_of l n flow list)
  unfolding start_of
  start-own = fit_own o k g b ends list flow.bases.items flow.width _

  reached-own : (row : Option (List (Cell I))) (s : List (Cell I)) → reached_fit l n list flow.bases.items flow.width row ≡ Some s → IsOwn s
  reached-own None s e = absurd (cc)
  reached-own (Some row) s e =
      let same : row_fit l n list flow.bases.items flow.width row ≡ s = cc in
      subst IsOwn same (fit_own o k g b ends list flow.bases.items flow.width row)

  through-own : (e : ℕ) (r s : List (Cell I)) → through l n flow list e r ≡ Some s → IsOwn s
  unfolding through
  through-own e r s h = reached-own (edge_end l n flow (edge_at flow.edges.items e).from e r) s h

  sound-at : is_system flow ≡ true → (e : ℕ) → e < length flow.edges.items → is_sound_edge flow.blocks.items (edge_at flow.edges.items e) ≡ true
  sound-at valid e lt = list_all-at (is_sound_edge flow.blocks.items) flow.edges.items no_edge (structure flow valid).sound e lt

  target-at : is_system flow ≡ true → (e : ℕ) → e < length flow.edges.items → (ltb (edge_at flow.edges.items e).to (length flow.blocks.items) && (ltb (edge_at flow.edges.items e).from (edge_at flow.edges.items e).to || is_head_at flow.blocks.items (edge_at flow.edges.items e).to)) ≡ true
  target-at valid e lt = and_right (ltb (edge_at flow.edges.items e).from (length flow.blocks.items)) _ (sound-at valid e lt)

  not-below : (a b : ℕ) → b ≤ a → ltb a b ≡ false
  not-below a b le = by_test (ltb a b) (λ (h : ltb a b ≡ true). let lt : a < b = ltb-true a b h in absurd (omega arith)) (λ (h : ltb a b ≡ false). h)

  pub flow-laws : is_system flow ≡ true → MachineLaws (cell_lattice l) (flow_machine l n flow list)
  flow-laws valid = record {
    some_block = ltb-true 0 (length flow.blocks.items) (structure flow valid).some;
    source_below = λ e lt. ltb-true _ _ (and_left _ _ (sound-at valid e lt));
    target_below = λ e lt. ltb-true _ _ (and_left _ _ (target-at valid e lt));
    by_source = by-source 0 flow.edges.items (structure flow valid).ordered;
    back_to_head = λ e lt le. head-or (ltb (edge_at flow.edges.items e).from (edge_at flow.edges.items e).to) _ (and_right (ltb (edge_at flow.edges.items e).to (length flow.blocks.items)) _ (target-at valid e lt)) (not-below _ _ le);
    own_width = own_length o k g b ends list flow.bases.items flow.width;
    attained_own = λ r h. h;
    start_attained = start-own;
    through_attained = λ e r s lt h same. through-own e r s same;
    join_attained = join_own o k g b ends list flow.bases.items flow.width;
    round_attained = round_own o k g b ends list flow.bases.items flow.width;
    room_bounded = room-bounded l o g list (spare_bases (length flow.bases.items)) (all_kinds flow.bases.items) flow.width;
    room_falls = λ r s h j. room-falls l o g n list (length flow.bases.items) (all_kinds flow.bases.items) flow.width r s (own_length o k g b ends list flow.bases.items flow.width r h) (own_cells o k g b ends list flow.bases.items flow.width r h) (own_cells o k g b ends list flow.bases.items flow.width s j);
  }
