-- A map is carried along edges where each edge's row stands for no more than the row of the block that the edge enters.
use Rattle.std.specs.Prelude.{◌≡◌, ◌<◌, ℕ, zero, suc, ℤ, true, Option, Some, None, List, [], ◌∷◌, length, take, slice_get, refl}
use Rattle.std.proofs.Common.{arith, sym, subst, ap, ◌∙◌}
use Rattle.cc_base.specs.Lattices.{LatticeOf, OrderLaws}
use Rattle.cc_base.specs.Rows.{reached_leq}
use Rattle.cc_base.specs.RowLaws.{row_leq-length}
use Rattle.cc_base.specs.InductiveMap.{row_at}
use Rattle.cc_base.specs.IntegerDomains.{IntegersOf, BoundLaws}
use Rattle.cfg.specs.declared.flow_edges.Edge.{Edge}
use Rattle.cfg.specs.declared.machine_instructions.Instruction.{Instruction}
use Rattle.cfg.specs.declared.programs.Flow.{Flow}
use Rattle.value_domain.specs.declared.values.row_cells.Cell.{Cell}
use Rattle.value_domain.specs.Values.Cells.{cell_lattice}
use Rattle.store_sound.specs.Concretization.Coverage.{state_of}
use Rattle.store_sound.specs.Concretization.RowMeaning.{InGamma}
use Rattle.semantics.specs.CfgMachine.FlowStates.{ProgramState}
use Rattle.transfer_system.specs.Edges.{edge}
use Rattle.transfer_system.specs.System.BlockPasses.{block_end, edge_behind, edge_end}
use Rattle.transfer_system.specs.System.BlockPasses as passes
use Rattle.transfer_system.specs.System.FlowMachines.{edge_at}
use Rattle.row_bounds.specs.AdmittedRules as rules
use Rattle.transfer_sound.specs.Values.SoundSteps.{InGammaAfter}
use Rattle.transfer_sound.specs.Induction.Covering.{rows_behind, Carries}
use Rattle.transfer_sound.specs.InvariantMaps.CarriedMaps.{AreUnmixed}
use Rattle.transfer_sound.proofs.invariant_maps.LargerRows.{row_larger}

take_all : {X : Type 0} (xs : List X) → take (length xs) xs ≡ xs
take_all [] = refl
take_all (x ∷ xs) = ap (λ ys. x ∷ ys) (take_all xs)

pub edge_there : (es : List Edge) (number : ℕ) (e : Edge) → slice_get es number ≡ Some e → (number < length es) × (edge_at es number ≡ e)
edge_there [] number e h = absurd (cc)
edge_there (x ∷ es) zero e h = (omega arith, cc)
edge_there (x ∷ es) (suc number) e h = let p = edge_there es number e h in (let q = p.0 in omega arith, p.1)

module _ {I : Type 0} (l : LatticeOf I) (n : IntegersOf I) (flow : Flow) where
  -- ---- the row at the end of a block

  none_behind : (is : List Instruction) → rows_behind l n flow None is ≡ None
  none_behind [] = refl
  none_behind (i ∷ is) = none_behind is

  same_behind : (is : List Instruction) (x : Option (List (Cell I))) → rows_behind l n flow x is ≡ passes.rows_behind l n flow x is
  same_behind [] x = refl
  same_behind (i ∷ is) None = same_behind is None
  same_behind (i ∷ is) (Some row) = same_behind is (passes.row_behind l n flow i (Some row))

  ended : (block : ℕ) (r : List (Cell I)) → rows_behind l n flow (Some r) (take (length (rules.instructions_of flow block)) (rules.instructions_of flow block)) ≡ block_end l n flow block r
  unfolding block_end
  ended block r = ap (rows_behind l n flow (Some r)) (take_all (rules.instructions_of flow block)) ∙ same_behind (rules.instructions_of flow block) (Some r)

  -- ---- edges

  module _ (gamma : I → ℤ → Type 0) (rows : List (Option (List (Cell I)))) where
    abbrev pub EdgesCarry : Type 0
    EdgesCarry = (number : ℕ) (e : Edge) (r x : List (Cell I)) (s : ProgramState) → slice_get flow.edges.items number ≡ Some e → row_at rows e.from ≡ Some r → edge_end l n flow e.from number r ≡ Some x
        → InGammaAfter l n gamma flow (Some x) s → InGammaAfter l n gamma flow (row_at rows e.to) s

    by_row : EdgesCarry → (number : ℕ) (e : Edge) (z : Option (List (Cell I))) (row x : List (Cell I)) (s : ProgramState) → slice_get flow.edges.items number ≡ Some e → row_at rows e.from ≡ z → rows_behind l n flow z (take (length (rules.instructions_of flow e.from)) (rules.instructions_of flow e.from)) ≡ Some row → edge l n flow row number ≡ Some x
        → InGammaAfter l n gamma flow (Some x) s → InGammaAfter l n gamma flow (row_at rows e.to) s
    unfolding edge_end
    by_row carry number e None row x s there at before along behind = let c = sym (none_behind (take (length (rules.instructions_of flow e.from)) (rules.instructions_of flow e.from))) ∙ before in absurd (cc)
    by_row carry number e (Some r) row x s there at before along behind = carry number e r x s there at (ap (edge_behind l n flow number) (sym (ended e.from r) ∙ before) ∙ along) behind

    pub carried_by : EdgesCarry → Carries l n gamma flow rows
    carried_by carry number e row s there before behind =
        by_row carry number e (row_at rows e.from) row behind.row s there refl before behind.is (record { row = behind.row; is = refl; long = behind.long; naming = behind.naming; stands_for = behind.stands_for; short = behind.short })

-- a row of which no cell is mixed, or none
abbrev pub IsLeftUnmixed : {I : Type 0} → Option (List (Cell I)) → Type 0
IsLeftUnmixed None = Unit {0}
IsLeftUnmixed (Some row) = AreUnmixed row

module _ {I : Type 0} {l : LatticeOf I} {n : IntegersOf I} {gamma : I → ℤ → Type 0} (o : OrderLaws l) (q : BoundLaws l n gamma) (flow : Flow) where
  -- a larger row of which no cell is mixed stands for the state for which the row that came does
  pub larger_behind : (s : ProgramState) (x : List (Cell I)) (y : Option (List (Cell I))) → InGammaAfter l n gamma flow (Some x) s → reached_leq (cell_lattice l) (Some x) y ≡ true → IsLeftUnmixed y → InGammaAfter l n gamma flow y s
  larger_behind s x None behind e u = absurd (cc)
  larger_behind s x (Some y) behind e u =
      let same : behind.row ≡ x = (let i = behind.is in cc) in
      let long = row_leq-length (cell_lattice l) x y e in
      let w = behind.long in
      let v = ap length same in
      record {
        row = y;
        is = refl;
        long = omega (arith, long, w, v);
        naming = behind.naming;
        stands_for = row_larger o q flow x y e u behind.naming (state_of s) (subst (λ z. InGamma l n gamma flow behind.naming z (state_of s)) same behind.stands_for);
        short = behind.short;
      }
