-- What the least inductive maps of well-formed programs admit.
use Rattle.std.specs.Prelude.{◌≡◌, ◌^◌, ◌<◌, ℤ, true, List, length}
use Rattle.std.proofs.Common.{arith, sym, ◌∙◌}
use Rattle.cc_base.specs.Standard.{standard_limits}
use Rattle.cc_base.specs.declared.limit_table.Limits.{Limits}
use Rattle.cfg.specs.WellFormed.{is_well_formed}
use Rattle.cfg.specs.declared.programs.Flow.{Flow}
use Rattle.interval_domain.specs.Intervals.IntervalLattice.{interval_lattice, interval_order, interval_rounding, interval_heights}
use Rattle.interval_domain.specs.Intervals.IntervalNumbers.{interval_numbers, interval_bounding, interval_ranges}
use Rattle.domain_theorems.specs.Intervals.Operations.{interval_monotone}
use Rattle.transfer_system.specs.BoundedRows.IntervalEnds.{interval_ends}
use Rattle.transfer_system.specs.BoundedRows.OwnRows.{program_bases}
use Rattle.diagnose.specs.Diagnostics.AdmittedRules.{map_pairs}
use Rattle.transfer_monotone.specs.Edges.ProgramLaws.{AreRising}
use Rattle.transfer_system.specs.BoundedRows.NearLists.{IsNearList}
use Rattle.system_monotone.specs.Systems.Texts.{HasScalars}
use Rattle.transfer_system.specs.System.RegularPrograms.{is_regular}
use Rattle.system_monotone.proofs.systems.WellFormed.{laid_out, all_named}
use Rattle.system_monotone.proofs.systems.RegularSystems.{regular_rising}
use Rattle.system_monotone.proofs.systems.RegularPrograms.{regular_of}
use Rattle.system_monotone.specs.Diagnostics.LeastMaps.{AdmitsLeast}
use Rattle.system_monotone.proofs.diagnostics.FewestPairs.{in_from, contains_in, map_more}

module _ (limits : Limits) (flow : Flow) (list : List ℤ) (h : is_well_formed limits flow ≡ true) (few : limits.pool < 2 ^ 64) (scalars : HasScalars flow) (near : IsNearList interval_lattice interval_numbers list) where
  pub admits_least : AreRising interval_lattice interval_numbers (program_bases (length flow.bases.items)) flow → AdmitsLeast flow list
  admits_least rising rows other p least q d e = contains_in (map_pairs interval_lattice interval_numbers flow other) d
      (map_more interval_order interval_rounding interval_heights interval_bounding interval_monotone interval_ranges interval_ends flow list near (laid_out limits flow h few) (all_named limits flow h scalars) rising
      rows other (p.size ∙ sym q.size) (λ at. p.own at) (λ at. q.own at) (λ at. least other q at) d
      (in_from (map_pairs interval_lattice interval_numbers flow rows) d e))

pub regular_admits_least : (flow : Flow) (list : List ℤ) → is_regular flow list ≡ true → AdmitsLeast flow list
regular_admits_least flow list h =
    let p = regular_of flow list h in
    admits_least standard_limits flow list p.well_formed (omega arith) p.scalars p.near (regular_rising flow list h)
