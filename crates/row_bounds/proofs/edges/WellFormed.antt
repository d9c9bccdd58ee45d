-- The edges of well-formed programs leave own rows, where the leaves of the structs that they copy share no bytes.
use Rattle.std.specs.Prelude.{◌≡◌, ◌↔◌, ◌^◌, ◌≤◌, ◌<◌, ℕ, ℤ, true, Option, Some, List, length}
use Rattle.cc_base.specs.Lattices.{LatticeOf, OrderLaws, RoundLaws, HeightLaws}
use Rattle.cc_base.specs.IntegerDomains.{IntegersOf, BoundLaws, RangeLaws}
use Rattle.cc_base.specs.IntegerLaws.{MonotoneLaws}
use Rattle.cc_base.specs.InductiveMap.{IsInductive}
use Rattle.cc_base.specs.declared.limit_table.Limits.{Limits}
use Rattle.cfg.specs.WellFormed.{is_well_formed}
use Rattle.cfg.specs.declared.programs.Flow.{Flow}
use Rattle.value_domain.specs.declared.values.row_cells.Cell.{Cell}
use Rattle.value_domain.specs.Values.Cells.{cell_lattice}
use Rattle.transfer_system.specs.BoundedRows.EndLaws.{EndLaws}
use Rattle.transfer_system.specs.BoundedRows.OwnRows.{program_bases, is_own_row}
use Rattle.transfer_system.specs.System.BlockPasses.{edge_end}
use Rattle.transfer_system.specs.System.FlowMachines.{edge_at, through, flow_machine}
use Rattle.system_monotone.specs.ProgramLaws.{AreRising}
use Rattle.transfer_system.specs.BoundedRows.NearLists.{IsNearList}
use Rattle.system_monotone.specs.Systems.Texts.{HasScalars}
use Rattle.system_monotone.specs.Systems.CopiedStructs.{CopiesSpread}
use Rattle.system_monotone.proofs.systems.WellFormed.{well_made, laid_out, all_named}
use Rattle.system_monotone.proofs.systems.Sites.{all_sites}
use Rattle.system_monotone.proofs.systems.AllCalls.{all_rise}
use Rattle.row_bounds.specs.Edges.OwnLists.{ReachesTypes}
use Rattle.row_bounds.specs.Edges.PlainSystems.{plain_machine}
use Rattle.row_bounds.proofs.edges.OwnEdges.{leaves_own, fit_nothing, plain_inductive}

module _ {I : Type 0} {l : LatticeOf I} {n : IntegersOf I} {stands : I → ℤ → Type 0} (o : OrderLaws l) (k : RoundLaws l) (h : HeightLaws l) (b : BoundLaws l n stands) (g : MonotoneLaws l n) (f : RangeLaws l n) (ends : EndLaws l n) (limits : Limits) (flow : Flow) (list : List ℤ) (w : is_well_formed limits flow ≡ true) (few : limits.pool < 2 ^ 64) (bases : length flow.bases.items ≤ 1016) (scalars : HasScalars flow) (near : IsNearList l n list) (reaches : ReachesTypes list) (spread : CopiesSpread flow) where
  rising : AreRising l n (program_bases (length flow.bases.items)) flow
  rising = all_rise o b g f (program_bases (length flow.bases.items)) flow (laid_out limits flow w few) (all_sites limits flow w bases) (well_made limits flow w).laid spread

  pub formed_leaves_own : (block number : ℕ) (row s : List (Cell I)) → is_own_row l n list flow.bases.items flow.width row ≡ true → edge_end l n flow block number row ≡ Some s → is_own_row l n list flow.bases.items flow.width s ≡ true
  formed_leaves_own block number row s own e = leaves_own o k h b g f ends flow list near reaches (laid_out limits flow w few) (all_named limits flow w scalars) rising block number row s own e

  pub formed_fit_nothing : (number : ℕ) (row : List (Cell I)) → is_own_row l n list flow.bases.items flow.width row ≡ true → through l n flow list number row ≡ edge_end l n flow (edge_at flow.edges.items number).from number row
  formed_fit_nothing number row own = fit_nothing o k h b g f ends flow list near reaches (laid_out limits flow w few) (all_named limits flow w scalars) rising number row own

  pub formed_inductive : (rows : List (Option (List (Cell I)))) → IsInductive (cell_lattice l) (flow_machine l n flow list) rows ↔ IsInductive (cell_lattice l) (plain_machine l n flow list) rows
  formed_inductive rows = plain_inductive o k h b g f ends flow list near reaches (laid_out limits flow w few) (all_named limits flow w scalars) rising rows
