-- What is written of the least inductive map is read as that map, and accepted.
use Rattle.std.proofs.Common.{◌≡◌, ◌&&◌, ◌+◌, ◌*◌, ◌^◌, ◌<◌, ◌≤◌, ℕ, true, List, Option, Some, None, length, arith, subst, sym, ap, ◌∙◌}
use Rattle.std.specs.Prelude.{ℤ, nat_lt, ◌==◌}
use Rattle.std.specs.List.{list_all}
use Rattle.std.proofs.lemmas.Bool.{and_parts, ltb-true}
use Rattle.std.proofs.Math.Nat.{mul-le-mul_left}
use Rattle.cc_base.specs.Standard.{standard_limits}
use Rattle.cc_base.specs.ClosedMap.{IsClosed}
use Rattle.cc_base.specs.InductiveMap.{IsOwn, row_at}
use Rattle.cfg.specs.WellFormed.{names_of, are_blocks, fits_edge, are_placed, all_values, is_initial_object, is_parameter, is_within, is_few, are_few, is_laid_out, is_well_formed}
use Rattle.cfg.specs.declared.programs.Flow.{Flow}
use Rattle.interval_domain.specs.declared.intervals.intervals.Interval.{Interval}
use Rattle.value_domain.specs.declared.values.row_cells.Cell.{Cell}
use Rattle.store_sound.proofs.programs.WellFormedPremises.{well_formed_good}
use Rattle.analysis_determined.proofs.RegularPrograms.{regular_of}
use Rattle.certificate_text.specs.Lines.LineWords.{Bytes}
use Rattle.certificate_check.specs.ClosedMaps.MapFaults.{IsFirstFault}
use Rattle.certificate_check.specs.Reading.MapReading.{map_rows}
use Rattle.certificate_check.specs.Reading.OwnReading.{IsOwnRow}
use Rattle.certificate_check.specs.declared.verdicts.verdicts.Verdict.TheVariants.{Yes}
use Rattle.certificate_check.specs.Verdicts.Verdicts.{cert_cells, cert_machine, IsVerdictOn}
use Rattle.certificate_theorems.specs.RoundTrip.ReadMaps.{IsSmall, IsReadBack}
use Rattle.certificate_theorems.proofs.round_trip.MapWords.{read_back}
use Rattle.certificate_programs.specs.Programs.Certificates.{IsCertificate}
use Rattle.certificate_theorems.proofs.proved.AnalysedMaps.{inductive_closed}

-- a row is no longer than a pool of two of them
row_below : (blocks width pool : ℕ) → (blocks + 2) * width ≤ pool → width ≤ pool
row_below blocks width pool h =
    let a : width * 1 ≤ width * (blocks + 2) = mul-le-mul_left width (omega arith) in
    let b : width * (blocks + 2) ≡ (blocks + 2) * width = grind arith in
    omega (arith, a, b, h)

few_blocks : (f : Flow) → is_well_formed standard_limits f ≡ true → length f.blocks.items < 2 ^ 31
few_blocks f h =
    let a = and_parts (nat_lt 0 (length f.blocks.items)) _ h in
    let b = and_parts (are_blocks (names_of f) (length f.blocks.items) f.edges.items 0 0 f.blocks.items f.edges.items) _ a.1 in
    let c = and_parts (list_all (λ e. fits_edge (names_of f) e.kind) f.edges.items) _ b.1 in
    let d = and_parts (are_placed 0 f.bases.items) _ c.1 in
    let e = and_parts (f.width == all_values f.bases.items + f.temps) _ d.1 in
    let g = and_parts (list_all (is_initial_object f.bases.items) f.initial.items) _ e.1 in
    let i = and_parts (list_all (is_parameter f.model f.bases.items) f.parameters.items) _ g.1 in
    let j = and_parts (is_within standard_limits f) (are_few f && is_laid_out f) i.1 in
    let k = and_parts (are_few f) (is_laid_out f) j.1 in
    let l = and_parts (is_few (length f.blocks.items)) (is_few (length f.edges.items)) k.0 in
    ltb-true (length f.blocks.items) (2 ^ 31) l.0

module _ (flow : Flow) (list : List ℤ) (text : Bytes) (c : IsCertificate flow list text) where
  small : IsSmall flow
  small =
      let good = (regular_of flow list c.regular).well_formed in
      let few = few_blocks flow good in
      let width = row_below (length flow.blocks.items) flow.width standard_limits.pool (well_formed_good standard_limits flow good).pool in
      record { blocks = omega (arith, few); width = omega (arith, width) }

  closed : IsClosed cert_cells (cert_machine flow) c.rows
  closed = inductive_closed flow list c.regular c.checked.reaches c.started c.rows c.inductive

  own_row : (row : Option (List (Cell Interval))) → IsOwn (cert_machine flow) row → IsOwnRow flow row
  own_row None own = tt
  own_row (Some row) own = own

  back : IsReadBack flow c.rows
  back = read_back flow small c.rows closed.size (λ b. own_row (row_at c.rows b) (closed.own b))

  -- the rows of the text are those of the map
  pub rows_are : map_rows flow text ≡ c.rows
  rows_are = ap (map_rows flow) c.is_text ∙ back.rows_are

  pub proved_accepted : IsVerdictOn flow text Yes
  proved_accepted = subst (λ t. IsVerdictOn flow t Yes) (sym c.is_text) (back.whole, subst (λ rs. IsFirstFault cert_cells (cert_machine flow) rs None) (sym back.rows_are) (closed.entry, closed.edge))
