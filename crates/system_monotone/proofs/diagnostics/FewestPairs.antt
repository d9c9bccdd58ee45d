-- Larger maps admit more.
use Rattle.std.specs.Prelude.{◌≡◌, ℕ, zero, suc, ◌+◌, ◌<◌, ℤ, Bool, true, false, cond, Option, Some, None, List, [], ◌∷◌, ◌++◌, length, slice_get, slice_index_or, Contains, refl, ◌⊎◌}
use Rattle.std.proofs.Common.{arith, inl, inr}
use Rattle.cc_base.specs.InductiveMap.{IsOwn, row_at}
use Rattle.cc_base.specs.Lattices.{LatticeOf, OrderLaws, RoundLaws, HeightLaws}
use Rattle.cc_base.specs.Rows.{reached_leq}
use Rattle.cc_base.specs.IntegerDomains.{IntegersOf, BoundLaws, RangeLaws}
use Rattle.cc_base.specs.IntegerLaws.{MonotoneLaws}
use Rattle.cc_base.specs.declared.diagnostics.Diag.{Diag}
use Rattle.cc_base.specs.declared.diagnostics.Place.{Place}
use Rattle.cc_base.specs.declared.diagnostics.Rule.{Rule}
use Rattle.cfg.specs.declared.programs.Flow.{Flow}
use Rattle.cfg.specs.declared.basic_blocks.BasicBlock.{BasicBlock}
use Rattle.cfg.specs.declared.machine_instructions.Instruction.{Instruction}
use Rattle.cfg.specs.WellFormed.{names_of, fits_operation}
use Rattle.value_domain.specs.declared.values.row_cells.Cell.{Cell}
use Rattle.value_domain.specs.Values.Cells.{cell_lattice}
use Rattle.domain_theorems.proofs.values.Flags.{Sets}
use Rattle.store_monotone.specs.Operations.TopRows.{top_row}
use Rattle.transfer_checks.specs.declared.violation_sets.Violations.{Violations}
use Rattle.transfer_checks.specs.ViolationSets.{violates}
use Rattle.transfer_system.specs.StepViolations.{operation_violations}
use Rattle.transfer_system.specs.BoundedRows.EndLaws.{EndLaws}
use Rattle.transfer_system.specs.BoundedRows.OwnRows.{program_bases}
use Rattle.transfer_system.specs.System.FlowMachines.{flow_machine}
use Rattle.diagnose.specs.Diagnostics.AdmittedRules.{run_rules, pairs_among, pairs_of, instructions_in, instructions_of, pairs_at, row_behind, pairs_from, instruction_pairs, block_pairs, entry_pairs, rows_pairs, map_pairs}
use Rattle.transfer_monotone.specs.Values.RisingRows.{LeftRise}
use Rattle.transfer_monotone.specs.Values.LaidOut.{IsLaidOut}
use Rattle.transfer_monotone.specs.Values.ViolationsBelow.{ViolationsBelow}
use Rattle.transfer_monotone.specs.Edges.ProgramLaws.{HasBytes, IsNamed, IsRising, AreRising}
use Rattle.transfer_system.specs.BoundedRows.NearLists.{IsNearList}
use Rattle.transfer_monotone.proofs.edges.Operations.{operate_rises, operation_more}
use Rattle.transfer_monotone.proofs.edges.Systems.{own_rise}

-- ---- lists of diagnostics

abbrev pub In : List Diag → Diag → Type 0
In [] d = ⊥
In (x ∷ xs) d = (x ≡ d) ⊎ In xs d

-- each of the first is one of the second
abbrev pub AreIn : List Diag → List Diag → Type 0
AreIn xs ys = (d : Diag) → In xs d → In ys d

pub in_left : (xs ys : List Diag) (d : Diag) → In xs d → In (xs ++ ys) d
in_left [] ys d h = absurd h
in_left (x ∷ xs) ys d (inl e) = inl e
in_left (x ∷ xs) ys d (inr e) = inr (in_left xs ys d e)

pub in_right : (xs ys : List Diag) (d : Diag) → In ys d → In (xs ++ ys) d
in_right [] ys d h = h
in_right (x ∷ xs) ys d h = inr (in_right xs ys d h)

pub in_either : (xs ys : List Diag) (d : Diag) → In (xs ++ ys) d → In xs d ⊎ In ys d
in_either [] ys d h = inr h
in_either (x ∷ xs) ys d (inl e) = inl (inl e)
in_either (x ∷ xs) ys d (inr e) = elim (in_either xs ys d e) [ inl p ↦ inl (inr p) | inr p ↦ inr p ]

both_in : (xs ys us vs : List Diag) → AreIn xs us → AreIn ys vs → AreIn (xs ++ ys) (us ++ vs)
both_in xs ys us vs h k d e = elim (in_either xs ys d e) [ inl p ↦ in_left us vs d (h d p) | inr p ↦ in_right us vs d (k d p) ]

pub in_from : (xs : List Diag) (d : Diag) → Contains xs d → In xs d
in_from xs d h = at xs h.0 h.1 h.2
  where
    at : (xs : List Diag) (k : ℕ) → k < length xs → slice_index_or xs k d ≡ d → In xs d
    at [] k h e = absurd (omega arith)
    at (x ∷ xs) zero h e = inl e
    at (x ∷ xs) (suc k) h e = inr (at xs k (omega arith) e)

pub contains_in : (xs : List Diag) (d : Diag) → In xs d → Contains xs d
contains_in [] d h = absurd h
contains_in (x ∷ xs) d (inl e) = (0, omega arith, e)
contains_in (x ∷ xs) d (inr e) = let r = contains_in xs d e in (suc r.0, omega arith, r.2)

-- ---- violations

one_more : (a c : Bool) → Sets a c → (x : Diag) (xs ys : List Diag) → AreIn xs ys → AreIn (cond a (x ∷ xs) xs) (cond c (x ∷ ys) ys)
one_more true true s x xs ys h d (inl e) = inl e
one_more true true s x xs ys h d (inr e) = inr (h d e)
one_more true false s x xs ys h d e = absurd (let z : false ≡ true = s refl in cc)
one_more false true s x xs ys h d e = inr (h d e)
one_more false false s x xs ys h d e = h d e

among_more : (place : Place) (v w : Violations) → ViolationsBelow v w → (rules : List Rule) → AreIn (pairs_among place v rules) (pairs_among place w rules)
among_more place v w h [] d e = e
among_more place v w h (rule ∷ rules) d e = one_more (violates v rule) (violates w rule) (h rule) (record { place = place; rule = rule }) (pairs_among place v rules) (pairs_among place w rules) (among_more place v w h rules) d e

pairs_more : (place : Place) (v w : Violations) → ViolationsBelow v w → AreIn (pairs_of place v) (pairs_of place w)
unfolding pairs_of
pairs_more place v w h = among_more place v w h run_rules

module _ {I : Type 0} {l : LatticeOf I} {n : IntegersOf I} {stands : I → ℤ → Type 0} (o : OrderLaws l) (k : RoundLaws l) (h : HeightLaws l) (b : BoundLaws l n stands) (g : MonotoneLaws l n) (f : RangeLaws l n) (ends : EndLaws l n) (flow : Flow) (list : List ℤ) (near : IsNearList l n list) (laid : IsLaidOut (program_bases (length flow.bases.items)) flow) (named : IsNamed flow) (rising : AreRising l n (program_bases (length flow.bases.items)) flow) where
  abbrev Rise : Option (List (Cell I)) → Option (List (Cell I)) → Type 0
  Rise x y = LeftRise l n (top_row n (program_bases (length flow.bases.items)) flow.bases.items flow.temps) x y

  abbrev IsKnown : Instruction → Type 0
  IsKnown i = (fits_operation (names_of flow) i.operation ≡ true) × HasBytes i.operation × IsRising l n (program_bases (length flow.bases.items)) flow i.operation

  at_more : (i : Instruction) → IsKnown i → (x y : Option (List (Cell I))) → Rise x y → AreIn (pairs_at l n flow i x) (pairs_at l n flow i y)
  at_more i c None y j d e = absurd e
  at_more i c (Some x) None j d e = absurd j
  at_more i c (Some x) (Some y) j d e = pairs_more i.place (operation_violations l n flow x i.operation) (operation_violations l n flow y i.operation) (operation_more o b g f (program_bases (length flow.bases.items)) flow laid i.operation c.2 x y j) d e

  behind_rises : (i : Instruction) → IsKnown i → (x y : Option (List (Cell I))) → Rise x y → Rise (row_behind l n flow i x) (row_behind l n flow i y)
  behind_rises i c None y j = tt
  behind_rises i c (Some x) None j = absurd j
  behind_rises i c (Some x) (Some y) j = operate_rises o b g f (program_bases (length flow.bases.items)) flow laid i.operation c.0 c.1 c.2 x y j

  from_more : (is : List Instruction) → ((at : ℕ) (i : Instruction) → slice_get is at ≡ Some i → IsKnown i) → (x y : Option (List (Cell I))) → Rise x y → AreIn (pairs_from l n flow x is) (pairs_from l n flow y is)
  from_more [] c x y j d e = e
  from_more (i ∷ is) c x y j d e = both_in (pairs_at l n flow i x) (pairs_from l n flow (row_behind l n flow i x) is) (pairs_at l n flow i y) (pairs_from l n flow (row_behind l n flow i y) is)
      (at_more i (c 0 i refl) x y j) (from_more is (λ at u q. c (suc at) u q) (row_behind l n flow i x) (row_behind l n flow i y) (behind_rises i (c 0 i refl) x y j)) d e

  block_known : (block : ℕ) (found : Option BasicBlock) → slice_get flow.blocks.items block ≡ found → (at : ℕ) (i : Instruction) → slice_get (instructions_in found) at ≡ Some i → IsKnown i
  block_known block None e at i q = absurd (cc)
  block_known block (Some c) e at i q = let d = named.instructions block at c i e q in (d.0, d.1, rising.instructions block at c i e q)

  entry_more : (block : ℕ) (x y : Option (List (Cell I))) → Rise x y → AreIn (entry_pairs l n flow block x) (entry_pairs l n flow block y)
  unfolding block_pairs instruction_pairs
  entry_more block None y j d e = absurd e
  entry_more block (Some x) None j d e = absurd j
  entry_more block (Some x) (Some y) j d e = from_more (instructions_of flow block) (block_known block (slice_get flow.blocks.items block) refl) (Some x) (Some y) j d e

  rows_more : (block : ℕ) (xs ys : List (Option (List (Cell I)))) → length xs ≡ length ys → ((at : ℕ) → Rise (row_at xs at) (row_at ys at)) → AreIn (rows_pairs l n flow block xs) (rows_pairs l n flow block ys)
  rows_more block [] [] s j d e = e
  rows_more block [] (y ∷ ys) s j d e = absurd e
  rows_more block (x ∷ xs) [] s j d e = absurd (omega arith)
  rows_more block (x ∷ xs) (y ∷ ys) s j d e = both_in (entry_pairs l n flow block x) (rows_pairs l n flow (block + 1) xs) (entry_pairs l n flow block y) (rows_pairs l n flow (block + 1) ys)
      (entry_more block x y (j 0)) (rows_more (block + 1) xs ys (omega arith) (λ at. j (suc at))) d e

  abbrev IsOwnRow : Option (List (Cell I)) → Type 0
  IsOwnRow x = IsOwn (flow_machine l n flow list) x

  reached_rises : (x y : Option (List (Cell I))) → IsOwnRow x → IsOwnRow y → reached_leq (cell_lattice l) x y ≡ true → Rise x y
  reached_rises None y p q e = tt
  reached_rises (Some x) None p q e = absurd (cc)
  reached_rises (Some x) (Some y) p q e = own_rise o k h b g f ends flow list near laid x y p q e

  -- what a map of own rows admits, each larger one admits
  pub map_more : (xs ys : List (Option (List (Cell I)))) → length xs ≡ length ys → ((at : ℕ) → IsOwnRow (row_at xs at)) → ((at : ℕ) → IsOwnRow (row_at ys at)) → ((at : ℕ) → reached_leq (cell_lattice l) (row_at xs at) (row_at ys at) ≡ true)
      → AreIn (map_pairs l n flow xs) (map_pairs l n flow ys)
  unfolding map_pairs
  map_more xs ys s p q e = rows_more 0 xs ys s (λ at. reached_rises (row_at xs at) (row_at ys at) (p at) (q at) (e at))
