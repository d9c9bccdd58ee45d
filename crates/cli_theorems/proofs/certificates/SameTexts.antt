-- How the text of a map is read, and the verdict on it, hang on the view of the program alone.
use Rattle.std.specs.Prelude.{◌≡◌, ◌&&◌, ℕ, nat_lt, Bool, true, cond, List, Option, None, length, replicate}
use Rattle.std.proofs.Common.{sym, ap, ap₂, subst, ◌∙◌}
use Rattle.std.proofs.lemmas.List.{length-map}
use Rattle.cc_base.specs.Machine.{Machine}
use Rattle.interval_domain.specs.declared.intervals.intervals.Interval.{Interval}
use Rattle.interval_domain.specs.Intervals.IntervalLattice.{interval_lattice}
use Rattle.interval_domain.specs.Intervals.IntervalNumbers.{interval_numbers}
use Rattle.value_domain.specs.declared.values.row_cells.Cell.{Cell}
use Rattle.value_domain.specs.declared.values.row_cells.Cell.TheVariants.{Nothing}
use Rattle.c_layout.specs.declared.shapes.BaseInfo.{BaseInfo}
use Rattle.cfg.specs.declared.programs.Flow.{Flow}
use Rattle.lower_templates.specs.Views.ProgramViews.{FlowView, block, flow_view}
use Rattle.transfer_system.specs.BoundedRows.FittedRows.{row_fit}
use Rattle.analysis_determined.proofs.analysis_views.OneAnalysis.{one_system}
use Rattle.certificate_text.specs.Lines.LineWords.{Bytes, until, same_bytes}
use Rattle.certificate_text.specs.Maps.MapTexts.{head_text}
use Rattle.certificate_check.specs.ClosedMaps.MapFaults.{IsFirstFault}
use Rattle.certificate_check.specs.declared.reading.cell_reading.Reading.{Reading}
use Rattle.certificate_check.specs.Reading.TextPlaces.{next_place}
use Rattle.certificate_check.specs.Reading.GreatestRows.{cert_numbers, greatest_row}
use Rattle.certificate_check.specs.Reading.MapReading.{has_head, head_read, rows_read, blocks_behind, map_rows, map_reading, is_whole}
use Rattle.certificate_check.specs.declared.verdicts.verdicts.Verdict.TheVariants.{Yes}
use Rattle.certificate_check.specs.Verdicts.Verdicts.{cert_cells, cert_machine, IsVerdictOn}

-- behind the first line, as far as it is there
abbrev read_behind : Bytes → Bool → Reading
read_behind text there = record { at = cond there (next_place text 0) 0; from = 0; good = there }

module _ (f g : Flow) (h : flow_view f ≡ flow_view g) where
  bases_same : f.bases.items ≡ g.bases.items
  bases_same = ap (λ (v : FlowView). v.bases) h

  width_same : f.width ≡ g.width
  width_same = ap (λ (v : FlowView). v.width) h

  count_same : length f.blocks.items ≡ length g.blocks.items
  count_same = sym (length-map f.blocks.items block) ∙ (ap (λ (v : FlowView). length v.blocks) h ∙ length-map g.blocks.items block)

  greatest_same : greatest_row f ≡ greatest_row g
  unfolding greatest_row
  greatest_same = ap₂ (λ (bs : List BaseInfo) (w : ℕ). row_fit interval_lattice interval_numbers cert_numbers bs w (replicate w Nothing)) bases_same width_same

  module _ (text : Bytes) where
    head_same : head_read f text ≡ head_read g text
    unfolding head_read has_head
    head_same = ap₂ (λ (n w : ℕ). read_behind text (nat_lt (length (until 10 text)) (length text) && same_bytes (until 10 text) (head_text n w))) count_same width_same

    pub rows_same : map_rows f text ≡ map_rows g text
    unfolding map_rows
    rows_same = λ i. rows_read (greatest_same i) text (head_same i) (count_same i)

    reading_same : map_reading f text ≡ map_reading g text
    unfolding map_reading
    reading_same = λ i. blocks_behind (greatest_same i) text (head_same i) (count_same i)

    pub accepted_same : IsVerdictOn f text Yes → IsVerdictOn g text Yes
    accepted_same (whole, fault) =
        let machine : cert_machine f ≡ cert_machine g = one_system f g h cert_numbers in
        let there : IsFirstFault cert_cells (cert_machine g) (map_rows f text) None = subst (λ (m : Machine (Cell Interval)). IsFirstFault cert_cells m (map_rows f text) None) machine fault in (
          subst (λ (r : Reading). is_whole text r ≡ true) reading_same whole,
          subst (λ (rs : List (Option (List (Cell Interval)))). IsFirstFault cert_cells (cert_machine g) rs None) rows_same there,
        )
