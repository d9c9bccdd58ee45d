-- Instructions with the same views do the same, and admit the same pairs, in programs with the same parts.
use Rattle.std.specs.Prelude.{◌≡◌, Option, Some, None, List, [], ◌∷◌, ◌++◌, map, refl}
use Rattle.std.proofs.Common.{sym, ap, ap₂, ◌∙◌}
use Rattle.cc_base.specs.Lattices.{LatticeOf}
use Rattle.cc_base.specs.IntegerDomains.{IntegersOf}
use Rattle.cc_base.specs.declared.diagnostics.Diag.{Diag}
use Rattle.cfg.specs.declared.programs.Flow.{Flow}
use Rattle.cfg.specs.declared.machine_instructions.Instruction.{Instruction}
use Rattle.lower_templates.specs.Worklist.Acts.{Step, step}
use Rattle.value_domain.specs.declared.values.row_cells.Cell.{Cell}
use Rattle.transfer_system.specs.System.BlockPasses.{row_behind, rows_behind}
use Rattle.system_monotone.specs.AdmittedRules.{pairs_of, pairs_at, pairs_from}
use Rattle.system_monotone.specs.AdmittedRules as admitted
use Rattle.analysis_determined.specs.UnrolledDiagnostics.SameParts.{SameParts}
use Rattle.analysis_determined.proofs.unrolled_diagnostics.SameOperations.{operate_same, violations_same}

first_same : (s t : Step) (ss ts : List Step) → ◌≡◌ {A = List Step} (s ∷ ss) (t ∷ ts) → s ≡ t
first_same s t ss ts e = cc

others_same : (s t : Step) (ss ts : List Step) → ◌≡◌ {A = List Step} (s ∷ ss) (t ∷ ts) → ss ≡ ts
others_same s t ss ts e = cc

module _ {I : Type 0} (l : LatticeOf I) (n : IntegersOf I) (f g : Flow) (same : SameParts f g) where
  behind_same : (i j : Instruction) → step i ≡ step j → (x : Option (List (Cell I))) → row_behind l n g j x ≡ row_behind l n f i x
  behind_same i j e None = refl
  behind_same i j e (Some row) = operate_same l n f g same row i.operation j.operation (ap (λ (s : Step). s.does) e)

  -- the row behind a list of instructions
  pub rows_same : (is js : List Instruction) → map step is ≡ map step js → (x : Option (List (Cell I))) → rows_behind l n g x js ≡ rows_behind l n f x is
  rows_same [] [] e x = refl
  rows_same [] (j ∷ js) e x = absurd (cc)
  rows_same (i ∷ is) [] e x = absurd (cc)
  rows_same (i ∷ is) (j ∷ js) e x =
      rows_same is js (others_same (step i) (step j) (map step is) (map step js) e) (row_behind l n g j x)
      ∙ ap (λ z. rows_behind l n f z is) (behind_same i j (first_same (step i) (step j) (map step is) (map step js) e) x)

  one_pairs : (i j : Instruction) → step i ≡ step j → (x : Option (List (Cell I))) → pairs_at l n g j x ≡ pairs_at l n f i x
  one_pairs i j e None = refl
  one_pairs i j e (Some row) = ap₂ (λ (s : Step) v. pairs_of s.at v) (sym e) (violations_same l n f g same row i.operation j.operation (ap (λ (s : Step). s.does) e))

  one_behind : (i j : Instruction) → step i ≡ step j → (x : Option (List (Cell I))) → admitted.row_behind l n g j x ≡ admitted.row_behind l n f i x
  one_behind i j e None = refl
  one_behind i j e (Some row) = operate_same l n f g same row i.operation j.operation (ap (λ (s : Step). s.does) e)

  -- the pairs that a list of instructions admits
  pub pairs_same : (is js : List Instruction) → map step is ≡ map step js → (x : Option (List (Cell I))) → pairs_from l n g x js ≡ pairs_from l n f x is
  pairs_same [] [] e x = refl
  pairs_same [] (j ∷ js) e x = absurd (cc)
  pairs_same (i ∷ is) [] e x = absurd (cc)
  pairs_same (i ∷ is) (j ∷ js) e x =
      let s = first_same (step i) (step j) (map step is) (map step js) e in
      ap₂ (λ (a c : List Diag). a ++ c) (one_pairs i j s x)
      (pairs_same is js (others_same (step i) (step j) (map step is) (map step js) e) (admitted.row_behind l n g j x) ∙ ap (λ z. pairs_from l n f z is) (one_behind i j s x))
