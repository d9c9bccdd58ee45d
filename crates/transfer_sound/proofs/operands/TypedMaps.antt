-- In a map whose rows tell the types of operands each row before an instruction does.
use Rattle.std.proofs.Common.{◌≡◌, ℕ, zero, suc, ◌+◌, true, Option, Some, None, List, [], ◌∷◌, take, arith, subst, sym, ◌∙◌}
use Rattle.std.specs.Prelude.{slice_get, ℤ}
use Rattle.std.proofs.lemmas.Bool.{and_parts}
use Rattle.cc_base.specs.InductiveMap.{row_at}
use Rattle.cc_base.specs.Lattices.{LatticeOf}
use Rattle.cc_base.specs.IntegerDomains.{IntegersOf, BoundLaws}
use Rattle.cfg.specs.declared.machine_instructions.Instruction.{Instruction}
use Rattle.cfg.specs.declared.programs.Flow.{Flow}
use Rattle.value_domain.specs.declared.values.row_cells.Cell.{Cell}
use Rattle.row_bounds.specs.AdmittedRules.{instructions_of, row_behind}
use Rattle.row_bounds.specs.TypedRows.{has_operands, is_typed_at, are_typed_from, are_typed, is_typed_block, is_typed_entry, are_typed_rows, is_typed_map}
use Rattle.store_sound.specs.Concretization.Coverage.{state_of}
use Rattle.transfer_sound.specs.Induction.Covering.{rows_behind, row_before, TypesOperands}
use Rattle.transfer_sound.proofs.induction.AdmittedPairs.{none_behind}
use Rattle.transfer_sound.proofs.operands.TypedOperands.{operands_have}

module _ {I : Type 0} (l : LatticeOf I) (n : IntegersOf I) (flow : Flow) where
  typed_from : (reached : Option (List (Cell I))) (is : List Instruction) (k : ℕ) (i : Instruction) (row : List (Cell I)) → slice_get is k ≡ Some i → rows_behind l n flow reached (take k is) ≡ Some row → are_typed_from l n flow reached is ≡ true → has_operands l n flow row i.operation ≡ true
  typed_from reached [] k i row e b h = cc
  typed_from reached (x ∷ xs) zero i row e b h =
      let p = and_parts (is_typed_at l n flow x reached) (are_typed_from l n flow (row_behind l n flow x reached) xs) h in
      let d : x ≡ i = cc in
      let there : is_typed_at l n flow x (Some row) ≡ true = subst (λ z. is_typed_at l n flow x z ≡ true) b p.0 in
      subst (λ z. has_operands l n flow row z.operation ≡ true) d there
  typed_from reached (x ∷ xs) (suc k) i row e b h =
      let p = and_parts (is_typed_at l n flow x reached) (are_typed_from l n flow (row_behind l n flow x reached) xs) h in
      typed_from (row_behind l n flow x reached) xs k i row e b p.1

  typed_entry : (number : ℕ) (entry : Option (List (Cell I))) (k : ℕ) (i : Instruction) (row : List (Cell I)) → slice_get (instructions_of flow number) k ≡ Some i → rows_behind l n flow entry (take k (instructions_of flow number)) ≡ Some row → is_typed_entry l n flow number entry ≡ true → has_operands l n flow row i.operation ≡ true
  unfolding is_typed_block are_typed
  typed_entry number None k i row e b h = let c = sym (none_behind l n flow (take k (instructions_of flow number))) ∙ b in cc
  typed_entry number (Some start) k i row e b h = typed_from (Some start) (instructions_of flow number) k i row e b h

  typed_rows : (number : ℕ) (rows : List (Option (List (Cell I)))) (b block k : ℕ) (i : Instruction) (row : List (Cell I)) → block ≡ number + b → slice_get (instructions_of flow block) k ≡ Some i → rows_behind l n flow (row_at rows b) (take k (instructions_of flow block)) ≡ Some row → are_typed_rows l n flow number rows ≡ true → has_operands l n flow row i.operation ≡ true
  typed_rows number [] b block k i row d e h t = let c = sym (none_behind l n flow (take k (instructions_of flow block))) ∙ h in cc
  typed_rows number (x ∷ xs) zero block k i row d e h t =
      let p = and_parts (is_typed_entry l n flow number x) (are_typed_rows l n flow (number + 1) xs) t in
      let same : number ≡ block = omega (arith, d) in
      typed_entry block x k i row e h (subst (λ z. is_typed_entry l n flow z x ≡ true) same p.0)
  typed_rows number (x ∷ xs) (suc b) block k i row d e h t =
      let p = and_parts (is_typed_entry l n flow number x) (are_typed_rows l n flow (number + 1) xs) t in
      typed_rows (number + 1) xs b block k i row (omega (arith, d)) e h p.1

  pub typed_before : (rows : List (Option (List (Cell I)))) (block k : ℕ) (i : Instruction) (row : List (Cell I)) → is_typed_map l n flow rows ≡ true → slice_get (instructions_of flow block) k ≡ Some i → row_before l n flow rows block k ≡ Some row → has_operands l n flow row i.operation ≡ true
  unfolding is_typed_map
  typed_before rows block k i row t e h = typed_rows 0 rows block block k i row (omega arith) e h t

module _ {I : Type 0} {l : LatticeOf I} {n : IntegersOf I} {gamma : I → ℤ → Type 0} (q : BoundLaws l n gamma) (flow : Flow) where
  pub map_types : (rows : List (Option (List (Cell I)))) → is_typed_map l n flow rows ≡ true → TypesOperands l n gamma flow rows
  map_types rows t naming row s i e before there = operands_have q flow naming row (state_of s) there i.operation (typed_before l n flow rows s.block s.at i row t e before)
