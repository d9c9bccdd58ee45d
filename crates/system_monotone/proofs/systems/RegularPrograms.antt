-- Regular programs and lists meet the premises of the laws of steps.
use Rattle.std.specs.Prelude.{◌≡◌, ℕ, zero, suc, ◌-◌, ◌^◌, ◌<◌, ℤ, pos, negsuc, ◌≤ℤ◌, true, ◌&&◌, nat_lt, int_le, Option, Some, None, List, [], ◌∷◌, length, slice_get, slice_index_or, refl}
use Rattle.std.specs.Ordering.{int_eq}
use Rattle.std.specs.List.{list_all}
use Rattle.std.proofs.Common.{arith, subst, inl, inr}
use Rattle.std.proofs.lemmas.Int.{ints}
use Rattle.std.proofs.lemmas.Bool.{and_parts, cond-true, ltb-true, or_cases}
use Rattle.std.proofs.lemmas.List.Folds.{list_any_at}
use Rattle.cc_base.specs.Standard.{standard_limits}
use Rattle.cfg.specs.Nearest.{is_among}
use Rattle.cfg.specs.WellFormed.{is_well_formed}
use Rattle.cfg.specs.declared.programs.Flow.{Flow}
use Rattle.cfg.specs.declared.flow_edges.EdgeKind.{EdgeKind}
use Rattle.cfg.specs.declared.flow_edges.EdgeKind.TheVariants as edge
use Rattle.cfg.specs.declared.flow_edges.Side.{Side}
use Rattle.cfg.specs.declared.flow_edges.Side.TheVariants as side
use Rattle.cfg.specs.declared.flow_edges.Test.{Test}
use Rattle.cfg.specs.declared.machine_instructions.Operation.{Operation}
use Rattle.cfg.specs.declared.machine_instructions.Operation.TheVariants as op
use Rattle.interval_domain.specs.Numbers.Nearest.{Has}
use Rattle.interval_domain.specs.Intervals.Spans.{between_or_empty}
use Rattle.interval_domain.specs.Intervals.IntervalLattice.{interval_lattice}
use Rattle.interval_domain.specs.Intervals.IntervalNumbers.{interval_numbers}
use Rattle.value_domain.specs.Strings.FirstZeros.{the_end}
use Rattle.store_monotone.specs.Operations.StoreLaws.{AreBytes}
use Rattle.transfer_system.specs.BoundedRows.FittedRows.{list_ends}
use Rattle.transfer_monotone.specs.Edges.ProgramLaws.{HasBytes, HasLeaf, NamesLeaf, TestsLeaves, MatchesLeaf, FollowsLeaves}
use Rattle.transfer_system.specs.BoundedRows.NearLists.{is_near_number, IsNearList}
use Rattle.system_monotone.specs.Systems.Texts.{HasScalars}
use Rattle.transfer_system.specs.System.RegularPrograms.{is_byte, has_bytes, has_leaf, names_leaf, tests_leaves, matches_leaf, follows_leaves, has_scalars, has_initial_bytes, has_apart_members, first_number, last_number, is_near_list, is_regular}
use Rattle.system_monotone.proofs.systems.NearLists.{round_stays}
use Rattle.system_monotone.proofs.systems.WellFormed.{all_at}

-- ---- texts and tested objects

are_bytes : (text : List ℕ) → list_all is_byte text ≡ true → AreBytes text
are_bytes [] h = tt
are_bytes (c ∷ text) h = let p = and_parts (is_byte c) (list_all is_byte text) h in (ltb-true c 256 p.0, are_bytes text p.1)

bytes_of : (p : Operation) → has_bytes p ≡ true → HasBytes p
bytes_of (op.Spell base offset room text) h = are_bytes text h
bytes_of _ h = tt

leaf_of : (flow : Flow) (base : ℕ) → has_leaf (slice_get flow.bases.items base) ≡ true → HasLeaf flow base
leaf_of flow base h info e = ltb-true 0 (length info.shape.cells) (subst (λ o. has_leaf o ≡ true) e h)

named_leaf : (flow : Flow) (s : Side) → names_leaf flow.bases.items s ≡ true → NamesLeaf flow s
named_leaf flow (side.Object base kind) h = leaf_of flow base h
named_leaf flow (side.Number number) h = tt
named_leaf flow side.Null h = tt

tested_leaves : (flow : Flow) (test : Option Test) → tests_leaves flow.bases.items test ≡ true → TestsLeaves flow test
tested_leaves flow None h = tt
tested_leaves flow (Some test) h =
    let p = and_parts (names_leaf flow.bases.items test.left) (names_leaf flow.bases.items test.right) h in
    (named_leaf flow test.left p.0, named_leaf flow test.right p.1)

matched_leaf : (flow : Flow) (object : Option ℕ) → matches_leaf flow.bases.items object ≡ true → MatchesLeaf flow object
matched_leaf flow None h = tt
matched_leaf flow (Some base) h = leaf_of flow base h

followed_leaves : (flow : Flow) (kind : EdgeKind) → follows_leaves flow.bases.items kind ≡ true → FollowsLeaves flow kind
followed_leaves flow (edge.When truth test kept) h = tested_leaves flow test h
followed_leaves flow (edge.Case test) h = matched_leaf flow test.object h
followed_leaves flow _ h = tt

scalars_of : (flow : Flow) → has_scalars flow ≡ true → HasScalars flow
scalars_of flow h =
    let p = and_parts (list_all (λ b. list_all (λ i. has_bytes i.operation) b.instructions.items) flow.blocks.items) (list_all (λ e. follows_leaves flow.bases.items e.kind) flow.edges.items) h in
    record {
      texts = λ block at b i q t. bytes_of i.operation (all_at (λ i. has_bytes i.operation) b.instructions.items (all_at (λ b. list_all (λ i. has_bytes i.operation) b.instructions.items) flow.blocks.items p.0 block b q) at i t);
      tests = λ number e q. followed_leaves flow e.kind (all_at (λ e. follows_leaves flow.bases.items e.kind) flow.edges.items p.1 number e q);
    }

-- ---- lists

le_true : (a c : ℤ) → int_le a c ≡ true → a ≤ℤ c
le_true a c h = grind (arith, ints)

le_same : (a c : ℤ) → a ≡ c → int_le c a ≡ true
le_same a c h = grind (arith, ints)

eq_true : (a c : ℤ) → int_eq a c ≡ true → a ≡ c
eq_true a c h = grind (arith, ints)

has_among : (list : List ℤ) (z : ℤ) → is_among list z ≡ true → Has list z
has_among [] z h = absurd (cc)
has_among (y ∷ list) z h = elim (or_cases (int_eq y z) (is_among list z) h) [ inl e ↦ inl (eq_true y z e) | inr e ↦ inr (has_among list z e) ]

has_index : (list : List ℤ) (k : ℕ) (d : ℤ) → k < length list → Has list (slice_index_or list k d)
has_index [] k d h = absurd (omega arith)
has_index (y ∷ list) zero d h = inl refl
has_index (y ∷ list) (suc k) d h = inr (has_index list k d (omega arith))

pub near_of : (list : List ℤ) → is_near_list list ≡ true → IsNearList interval_lattice interval_numbers list
near_of list h =
    let a = and_parts (nat_lt 0 (length list)) _ h in
    let c = and_parts (is_near_number (negsuc (2 ^ 64 - 1)) (first_number list)) _ a.1 in
    let d = and_parts (int_le (first_number list) (pos 0)) _ c.1 in
    let e = and_parts (int_eq (last_number list) (pos (2 ^ 64))) _ d.1 in
    let f = and_parts (list_all (is_near_number (first_number list)) list) (is_among list (pos 0)) e.1 in
    let some : 0 < length list = ltb-true 0 (length list) a.0 in
    let last : last_number list ≡ pos (2 ^ 64) = eq_true (last_number list) (pos (2 ^ 64)) e.0 in
    let end : Has list (pos (2 ^ 64)) = subst (Has list) last (has_index list (length list - 1) (pos 0) (omega arith)) in
    record {
      least = first_number list;
      near = le_true (negsuc (2 ^ 64 - 1)) (first_number list) (and_parts (int_le (negsuc (2 ^ 64 - 1)) (first_number list)) (int_le (first_number list) (pos (2 ^ 64))) c.0).0;
      zero = le_true (first_number list) (pos 0) d.0;
      range = subst (λ z. list_ends list ≡ Some (first_number list, z)) last (cond-true (nat_lt 0 (length list)) (Some (first_number list, last_number list)) None a.0);
      ends = record {
        lower = list_any_at (λ m. int_le m (first_number list)) list 0 (pos 0) some (le_same (first_number list) (first_number list) refl);
        upper = list_any_at (λ m. int_le (pos (2 ^ 64)) m) list (length list - 1) (pos 0) (omega arith) (le_same (last_number list) (pos (2 ^ 64)) last);
      };
      numbers = f.0;
      counts = round_stays list (has_among list (pos 0) f.1) end (between_or_empty (pos 0) the_end) refl;
    }

-- ---- both

pub record Regular (flow : Flow) (list : List ℤ) : Type 0 where
  pub well_formed : is_well_formed standard_limits flow ≡ true
  pub scalars : HasScalars flow
  pub initial : has_initial_bytes flow ≡ true
  pub apart : has_apart_members flow ≡ true
  pub near : IsNearList interval_lattice interval_numbers list

pub regular_of : (flow : Flow) (list : List ℤ) → is_regular flow list ≡ true → Regular flow list
regular_of flow list h =
    let a = and_parts (is_well_formed standard_limits flow) (has_scalars flow && (has_initial_bytes flow && (has_apart_members flow && is_near_list list))) h in
    let c = and_parts (has_scalars flow) (has_initial_bytes flow && (has_apart_members flow && is_near_list list)) a.1 in
    let d = and_parts (has_initial_bytes flow) (has_apart_members flow && is_near_list list) c.1 in
    let e = and_parts (has_apart_members flow) (is_near_list list) d.1 in
    record { well_formed = a.0; scalars = scalars_of flow c.0; initial = d.0; apart = e.0; near = near_of list e.1 }
