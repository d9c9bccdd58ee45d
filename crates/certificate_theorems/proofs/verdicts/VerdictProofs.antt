-- An accepted text is that of a closed map, and a text has one verdict.
use Rattle.std.proofs.Common.{◌≡◌, ◌∙◌, ◌+◌, ◌<◌, ◌≤◌, ℕ, zero, suc, Bool, true, false, List, length, Option, Some, None, refl, sym, ap, arith, ⊎_elim}
use Rattle.std.proofs.lemmas.Bool.{cases_lt, false≢true}
use Rattle.interval_domain.specs.declared.intervals.intervals.Interval.{Interval}
use Rattle.value_domain.specs.declared.values.row_cells.Cell.{Cell}
use Rattle.cfg.specs.declared.programs.Flow.{Flow}
use Rattle.certificate_text.specs.Lines.LineWords.{Bytes}
use Rattle.certificate_check.specs.declared.closed_maps.closed_maps.MapFault.TheVariants as map_fault
use Rattle.certificate_check.specs.ClosedMaps.MapFaults.{starts_below, edge_closed, EdgesClosed}
use Rattle.certificate_check.specs.declared.reading.cell_reading.Reading.{Reading}
use Rattle.certificate_check.specs.Reading.GreatestRows.{greatest_row}
use Rattle.certificate_check.specs.Reading.BlockReading.{block_read}
use Rattle.certificate_check.specs.Reading.MapReading.{head_read, rows_read, map_rows, map_reading, is_whole}
use Rattle.certificate_check.specs.declared.verdicts.verdicts.Verdict.{Verdict}
use Rattle.certificate_check.specs.declared.verdicts.verdicts.Verdict.TheVariants.{Yes, No}
use Rattle.certificate_check.specs.declared.verdicts.verdicts.CertFault.{CertFault}
use Rattle.certificate_check.specs.declared.verdicts.verdicts.CertFault.TheVariants.{Form, Start, Edge}
use Rattle.certificate_check.specs.Verdicts.Verdicts.{cert_cells, cert_machine, IsRefusedFor, IsVerdictOn}
use Rattle.certificate_check.proofs.verdicts.KeptMaps.{read_own}
use Rattle.certificate_theorems.specs.Verdicts.VerdictLaws.{AcceptsClosedMaps, HasOneVerdict}

length-rows_read : (greatest : List (Cell Interval)) (text : Bytes) (r : Reading) (n : ℕ) → length (rows_read greatest text r n) ≡ n
length-rows_read greatest text r zero = refl
length-rows_read greatest text r (suc n) = let e = length-rows_read greatest text (block_read greatest text r).reading n in omega arith

length-map_rows : (flow : Flow) (text : Bytes) → length (map_rows flow text) ≡ length flow.blocks.items
unfolding map_rows
length-map_rows flow text = length-rows_read (greatest_row flow) text (head_read flow text) (length flow.blocks.items)

pub closed_if_accepted : AcceptsClosedMaps
closed_if_accepted flow text h = record {
  size = length-map_rows flow text;
  own = read_own flow text (map_rows flow text) refl;
  entry = h.1.0;
  edge = h.1.1;
}

no_both : {P : Type 0} (b : Bool) → b ≡ true → b ≡ false → P
no_both b t f = absurd (false≢true (sym f ∙ t))

module _ (flow : Flow) (text : Bytes) where
  abbrev rows : List (Option (List (Cell Interval)))
  rows = map_rows flow text

  -- of two first edges that are not closed neither is below the other
  not_before : (e d : ℕ) → edge_closed cert_cells (cert_machine flow) rows e ≡ false → EdgesClosed cert_cells (cert_machine flow) rows d → d ≤ e
  not_before e d fails closed = ⊎_elim (λ (lt : e < d). no_both (edge_closed cert_cells (cert_machine flow) rows e) (closed e lt) fails) (λ (le : d ≤ e). le) (cases_lt e d)

  one_fault : (f g : CertFault) → IsRefusedFor flow text f → IsRefusedFor flow text g → f ≡ g
  one_fault (Form n) (Form m) h k = ap Form (h.1 ∙ sym k.1)
  one_fault (Form n) Start h k = no_both (is_whole text (map_reading flow text)) k.0 h.0
  one_fault (Form n) (Edge e) h k = no_both (is_whole text (map_reading flow text)) k.0 h.0
  one_fault Start (Form m) h k = no_both (is_whole text (map_reading flow text)) h.0 k.0
  one_fault Start Start h k = refl
  one_fault Start (Edge e) h k = no_both (starts_below cert_cells (cert_machine flow) rows) k.1.0 h.1
  one_fault (Edge e) (Form m) h k = no_both (is_whole text (map_reading flow text)) h.0 k.0
  one_fault (Edge e) Start h k = no_both (starts_below cert_cells (cert_machine flow) rows) h.1.0 k.1
  one_fault (Edge e) (Edge d) h k =
      let a : d ≤ e = not_before e d h.1.2 k.1.3 in
      let b : e ≤ d = not_before d e k.1.2 h.1.3 in
      let same : e ≡ d = omega arith in
      ap Edge same

  -- what is accepted is not refused
  not_refused : {P : Type 0} (f : CertFault) → IsVerdictOn flow text Yes → IsRefusedFor flow text f → P
  not_refused (Form n) h k = no_both (is_whole text (map_reading flow text)) h.0 k.0
  not_refused Start h k = no_both (starts_below cert_cells (cert_machine flow) rows) h.1.0 k.1
  not_refused (Edge e) h k = no_both (edge_closed cert_cells (cert_machine flow) rows e) (h.1.1 e k.1.1) k.1.2

pub one_verdict_alone : HasOneVerdict
one_verdict_alone flow text Yes Yes h k = refl
one_verdict_alone flow text Yes (No g) h k = not_refused flow text g h k
one_verdict_alone flow text (No f) Yes h k = not_refused flow text f k h
one_verdict_alone flow text (No f) (No g) h k = ap No (one_fault flow text f g h k)
