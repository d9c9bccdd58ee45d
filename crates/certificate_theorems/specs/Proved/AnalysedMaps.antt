-- The maps that an analysis may find are closed maps of the system by which certificates are judged.
use Rattle.std.specs.Prelude.{ℤ, List, Option}
use Rattle.cc_base.specs.ClosedMap.{IsClosed}
use Rattle.cc_base.specs.InductiveMap.{IsInductive}
use Rattle.cfg.specs.declared.programs.Flow.{Flow}
use Rattle.interval_domain.specs.declared.intervals.intervals.Interval.{Interval}
use Rattle.value_domain.specs.declared.values.row_cells.Cell.{Cell}
use Rattle.analysis_determined.specs.Analyses.{row_lattice, machine_of}
use Rattle.certificate_check.specs.Verdicts.Verdicts.{cert_cells, cert_machine}

abbrev pub InductiveMapsAreClosed : Flow → List ℤ → Type 0
InductiveMapsAreClosed flow list = (rows : List (Option (List (Cell Interval)))) → IsInductive row_lattice (machine_of flow list) rows → IsClosed cert_cells (cert_machine flow) rows
