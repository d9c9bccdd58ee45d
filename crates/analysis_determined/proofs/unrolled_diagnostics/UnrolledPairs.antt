-- What the copies of a map admit of a program with turns unrolled, the map admits of the program.
use Rattle.std.specs.Prelude.{◌≡◌, ℕ, zero, suc, ◌+◌, ◌<◌, Option, Some, None, List, [], ◌∷◌, length, Contains, refl}
use Rattle.std.proofs.Common.{arith, subst, ap, ◌∙◌, inl, inr}
use Rattle.cc_base.specs.Lattices.{LatticeOf}
use Rattle.cc_base.specs.IntegerDomains.{IntegersOf}
use Rattle.cc_base.specs.InductiveMap.{row_at}
use Rattle.cc_base.specs.declared.diagnostics.Diag.{Diag}
use Rattle.cfg.specs.declared.programs.Flow.{Flow}
use Rattle.lower_templates.specs.Views.ProgramViews.{flow_view}
use Rattle.value_domain.specs.declared.values.row_cells.Cell.{Cell}
use Rattle.system_monotone.specs.AdmittedRules.{instructions_of, instruction_pairs, block_pairs, entry_pairs, rows_pairs, map_pairs}
use Rattle.system_monotone.proofs.diagnostics.FewestPairs.{In, AreIn, in_left, in_right, in_either, in_from, contains_in}
use Rattle.loop_unrolling.specs.Turns.{copies, number_in, split}
use Rattle.analysis_determined.specs.UnrolledDiagnostics.SameParts.{SameParts}
use Rattle.analysis_determined.specs.UnrolledDiagnostics.CopiedMaps.{copied_map}
use Rattle.analysis_determined.proofs.unrolled_runs.CopiedLists.{placed, copies_length}
use Rattle.analysis_determined.proofs.unrolled_diagnostics.SameInstructions.{pairs_same}
use Rattle.analysis_determined.proofs.unrolled_diagnostics.UnrolledPrograms.{same_parts, size, steps_same}
use Rattle.analysis_determined.proofs.unrolled_diagnostics.UnrolledMaps.{row_of}

module _ {I : Type 0} (l : LatticeOf I) (n : IntegersOf I) where
  -- a pair of a map is one of a block
  record OfBlock (flow : Flow) (number : ℕ) (rows : List (Option (List (Cell I)))) (d : Diag) : Type 0 where
    at : ℕ
    there : at < length rows
    admits : In (entry_pairs l n flow (number + at) (row_at rows at)) d

  of_block : (flow : Flow) (number : ℕ) (rows : List (Option (List (Cell I)))) (d : Diag) → In (rows_pairs l n flow number rows) d → OfBlock flow number rows d
  of_block flow number [] d h = absurd h
  of_block flow number (x ∷ xs) d h = elim (in_either (entry_pairs l n flow number x) (rows_pairs l n flow (number + 1) xs) d h) [
    | inl p ↦ (let e : number ≡ number + 0 = omega arith in record { at = 0; there = omega arith; admits = subst (λ z. In (entry_pairs l n flow z x) d) e p })
    | inr p ↦ (let r = of_block flow (number + 1) xs d p in let s = r.there in let e : (number + 1) + r.at ≡ number + suc r.at = omega arith in
        record { at = suc r.at; there = omega arith; admits = subst (λ z. In (entry_pairs l n flow z (row_at xs r.at)) d) e r.admits })
  ]

  block_in : (flow : Flow) (number : ℕ) (rows : List (Option (List (Cell I)))) (d : Diag) (at : ℕ) → at < length rows → In (entry_pairs l n flow (number + at) (row_at rows at)) d → In (rows_pairs l n flow number rows) d
  block_in flow number [] d at h p = absurd (omega arith)
  block_in flow number (x ∷ xs) d zero h p = let e : number + 0 ≡ number = omega arith in in_left (entry_pairs l n flow number x) (rows_pairs l n flow (number + 1) xs) d (subst (λ z. In (entry_pairs l n flow z x) d) e p)
  block_in flow number (x ∷ xs) d (suc at) h p = let e : number + suc at ≡ (number + 1) + at = omega arith in
      in_right (entry_pairs l n flow number x) (rows_pairs l n flow (number + 1) xs) d (block_in flow (number + 1) xs d at (omega arith) (subst (λ z. In (entry_pairs l n flow z (row_at xs at)) d) e p))

  module _ (turns : ℕ) (f g : Flow) (h : flow_view g ≡ split turns (flow_view f)) where
    abbrev same : SameParts f g
    same = same_parts turns f g h

    abbrev many : ℕ
    many = size turns f g h

    entry_same : (k j : ℕ) → k < copies turns → j < many → (x : Option (List (Cell I))) → entry_pairs l n g (number_in many k j) x ≡ entry_pairs l n f j x
    unfolding block_pairs instruction_pairs
    entry_same k j p q None = refl
    entry_same k j p q (Some row) = pairs_same l n f g same (instructions_of f j) (instructions_of g (number_in many k j)) (steps_same turns f g h k j p q) (Some row)

    module _ (rows : List (Option (List (Cell I)))) (long : length rows ≡ many) where
      map_same : AreIn (map_pairs l n g (copied_map turns rows)) (map_pairs l n f rows)
      unfolding map_pairs
      map_same d e =
          let r = of_block g 0 (copied_map turns rows) d e in
          let s = copies_length (λ k. rows) many (λ k. long) (copies turns) in
          let t = r.there in
          let z = placed many (copies turns) r.at (omega arith) in
          let zero_is : 0 + r.at ≡ number_in many z.copy z.place = let m = z.is in omega arith in
          let row_is : row_at (copied_map turns rows) r.at ≡ row_at rows z.place = ap (row_at (copied_map turns rows)) z.is ∙ row_of l n [] turns f g h rows long z.copy z.place z.in_copies z.in_copy in
          let moved : In (entry_pairs l n g (number_in many z.copy z.place) (row_at rows z.place)) d = subst (λ x. In (entry_pairs l n g (number_in many z.copy z.place) x) d) row_is (subst (λ b. In (entry_pairs l n g b (row_at (copied_map turns rows) r.at)) d) zero_is r.admits) in
          let here : In (entry_pairs l n f z.place (row_at rows z.place)) d = subst (λ ps. In ps d) (entry_same z.copy z.place z.in_copies z.in_copy (row_at rows z.place)) moved in
          let place_is : z.place ≡ 0 + z.place = omega arith in
          let c = z.in_copy in
          block_in f 0 rows d z.place (omega arith) (subst (λ b. In (entry_pairs l n f b (row_at rows z.place)) d) place_is here)

      pub copies_admit : (d : Diag) → Contains (map_pairs l n g (copied_map turns rows)) d → Contains (map_pairs l n f rows) d
      copies_admit d e = contains_in (map_pairs l n f rows) d (map_same d (in_from (map_pairs l n g (copied_map turns rows)) d e))
