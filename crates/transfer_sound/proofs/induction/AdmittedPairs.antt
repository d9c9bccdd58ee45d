-- What an instruction may break in the row before it is among what the map admits.
use Rattle.std.proofs.Common.{◌≡◌, ℕ, zero, suc, ◌+◌, true, Option, Some, None, List, [], ◌∷◌, take, arith, subst, sym, refl, ◌∙◌, inl, inr, ◌⊎◌}
use Rattle.std.specs.Prelude.{slice_get}
use Rattle.std.specs.List.{Contains}
use Rattle.std.proofs.lemmas.Bool.{cond_both, true≢false}
use Rattle.std.proofs.lemmas.List.Elements.{Contains-push, Contains-push_cases, Contains-append_left, Contains-append_right, Contains-append_cases, at_from_Contains}
use Rattle.cc_base.specs.InductiveMap.{row_at}
use Rattle.cc_base.specs.Lattices.{LatticeOf}
use Rattle.cc_base.specs.IntegerDomains.{IntegersOf}
use Rattle.cc_base.specs.declared.diagnostics.Diag.{Diag}
use Rattle.cc_base.specs.declared.diagnostics.Place.{Place}
use Rattle.cc_base.specs.declared.diagnostics.Rule.{Rule}
use Rattle.cc_base.specs.declared.diagnostics.Rule.TheVariants.{Accfree, Boolasgn, Chrsgnext, Dblfree, Diverr, Insufmem, Intoflow, Invptr, Libptr, Nonnullcs, Nullref, Ptrobj, Sizeofptr, Strmod, Swtchdflt, Taintsink, Uninitref, Xfree}
use Rattle.cfg.specs.declared.machine_instructions.Instruction.{Instruction}
use Rattle.cfg.specs.declared.programs.Flow.{Flow}
use Rattle.value_domain.specs.declared.values.row_cells.Cell.{Cell}
use Rattle.transfer_checks.specs.ViolationSets.{violates}
use Rattle.transfer_checks.specs.declared.violation_sets.Violations.{Violations}
use Rattle.transfer_system.specs.StepViolations.{operation_violations}
use Rattle.row_bounds.specs.AdmittedRules.{run_rules, with_pair, pairs_among, pairs_of, instructions_of, pairs_at, row_behind, pairs_from, instruction_pairs, block_pairs, entry_pairs, rows_pairs, map_pairs}
use Rattle.transfer_sound.specs.Induction.Covering.{rows_behind, row_before, Admits}

-- ---- lists

pub cons_cases : {X : Type 0} (x y : X) (xs : List X) → Contains (x ∷ xs) y → (x ≡ y) ⊎ Contains xs y
cons_cases x y xs h = elim (Contains-append_cases (x ∷ []) xs y h) [
  | inr k ↦ inr k
  | inl k ↦ elim (Contains-push_cases [] x y k) [ inr e ↦ inl e | inl e ↦ (let a = at_from_Contains [] y e in let b = a.1 in absurd (omega (arith, b))) ]
]

first_there : {X : Type 0} (x : X) (xs : List X) → Contains (x ∷ xs) x
first_there x xs = Contains-append_left (x ∷ []) xs x (Contains-push [] x)

later_there : {X : Type 0} (x y : X) (xs : List X) → Contains xs y → Contains (x ∷ xs) y
later_there x y xs h = Contains-append_right (x ∷ []) xs y h

-- ---- rules

run_rule : (v : Violations) (r : Rule) → violates v r ≡ true → Contains run_rules r
run_rule v Accfree h = (0, omega arith, refl)
run_rule v Boolasgn h = absurd (true≢false (sym h))
run_rule v Chrsgnext h = (1, omega arith, refl)
run_rule v Dblfree h = (2, omega arith, refl)
run_rule v Diverr h = (3, omega arith, refl)
run_rule v Insufmem h = (4, omega arith, refl)
run_rule v Intoflow h = (5, omega arith, refl)
run_rule v Invptr h = (6, omega arith, refl)
run_rule v Libptr h = (7, omega arith, refl)
run_rule v Nonnullcs h = (8, omega arith, refl)
run_rule v Nullref h = (9, omega arith, refl)
run_rule v Ptrobj h = (10, omega arith, refl)
run_rule v Sizeofptr h = absurd (true≢false (sym h))
run_rule v Strmod h = (11, omega arith, refl)
run_rule v Swtchdflt h = absurd (true≢false (sym h))
run_rule v Taintsink h = (12, omega arith, refl)
run_rule v Uninitref h = (13, omega arith, refl)
run_rule v Xfree h = (14, omega arith, refl)

abbrev pair : Place → Rule → Diag
pair place r = record { place = place; rule = r }

own_pair : (place : Place) (v : Violations) (r : Rule) (rest : List Diag) → violates v r ≡ true → Contains (with_pair place v r rest) (pair place r)
own_pair place v r rest h = rw h (first_there (pair place r) rest)

rest_pair : (place : Place) (v : Violations) (rule r : Rule) (rest : List Diag) → Contains rest (pair place r) → Contains (with_pair place v rule rest) (pair place r)
rest_pair place v rule r rest h = cond_both (violates v rule) (pair place rule ∷ rest) rest (λ z. Contains z (pair place r)) (λ e. later_there (pair place rule) (pair place r) rest h) (λ e. h)

among_pairs : (place : Place) (v : Violations) (rules : List Rule) (r : Rule) → Contains rules r → violates v r ≡ true → Contains (pairs_among place v rules) (pair place r)
among_pairs place v [] r c h = let a = at_from_Contains [] r c in let b = a.1 in absurd (omega (arith, b))
among_pairs place v (rule ∷ rules) r c h = elim (cons_cases rule r rules c) [
  | inl e ↦ subst (λ z. Contains (with_pair place v z (pairs_among place v rules)) (pair place r)) (sym e) (own_pair place v r (pairs_among place v rules) h)
  | inr k ↦ rest_pair place v rule r (pairs_among place v rules) (among_pairs place v rules r k h)
]

of_pairs : (place : Place) (v : Violations) (r : Rule) → violates v r ≡ true → Contains (pairs_of place v) (pair place r)
unfolding pairs_of
of_pairs place v r h = among_pairs place v run_rules r (run_rule v r h) h

-- ---- rows

module _ {I : Type 0} (l : LatticeOf I) (n : IntegersOf I) (flow : Flow) where
  pub none_behind : (is : List Instruction) → rows_behind l n flow None is ≡ None
  none_behind [] = refl
  none_behind (i ∷ is) = none_behind is

  from_pairs : (reached : Option (List (Cell I))) (is : List Instruction) (k : ℕ) (i : Instruction) (row : List (Cell I)) (r : Rule) → slice_get is k ≡ Some i → rows_behind l n flow reached (take k is) ≡ Some row → violates (operation_violations l n flow row i.operation) r ≡ true → Contains (pairs_from l n flow reached is) (pair i.place r)
  from_pairs reached [] k i row r e b h = cc
  from_pairs reached (x ∷ xs) zero i row r e b h =
      let d : x ≡ i = cc in
      let here : Contains (pairs_at l n flow x reached) (pair i.place r) =
      subst (λ z. Contains (pairs_at l n flow z reached) (pair i.place r)) (sym d) (subst (λ z. Contains (pairs_at l n flow i z) (pair i.place r)) (sym b) (of_pairs i.place (operation_violations l n flow row i.operation) r h)) in
      Contains-append_left (pairs_at l n flow x reached) (pairs_from l n flow (row_behind l n flow x reached) xs) (pair i.place r) here
  from_pairs reached (x ∷ xs) (suc k) i row r e b h =
      Contains-append_right (pairs_at l n flow x reached) (pairs_from l n flow (row_behind l n flow x reached) xs) (pair i.place r) (from_pairs (row_behind l n flow x reached) xs k i row r e b h)

  entry_has : (number : ℕ) (entry : Option (List (Cell I))) (k : ℕ) (i : Instruction) (row : List (Cell I)) (r : Rule) → slice_get (instructions_of flow number) k ≡ Some i → rows_behind l n flow entry (take k (instructions_of flow number)) ≡ Some row → violates (operation_violations l n flow row i.operation) r ≡ true → Contains (entry_pairs l n flow number entry) (pair i.place r)
  unfolding block_pairs instruction_pairs
  entry_has number None k i row r e b h = let c = sym (none_behind (take k (instructions_of flow number))) ∙ b in cc
  entry_has number (Some start) k i row r e b h = from_pairs (Some start) (instructions_of flow number) k i row r e b h

  rows_have : (number : ℕ) (rows : List (Option (List (Cell I)))) (b block k : ℕ) (i : Instruction) (row : List (Cell I)) (r : Rule) → block ≡ number + b → slice_get (instructions_of flow block) k ≡ Some i → rows_behind l n flow (row_at rows b) (take k (instructions_of flow block)) ≡ Some row → violates (operation_violations l n flow row i.operation) r ≡ true → Contains (rows_pairs l n flow number rows) (pair i.place r)
  rows_have number [] b block k i row r d e h v = let c = sym (none_behind (take k (instructions_of flow block))) ∙ h in cc
  rows_have number (x ∷ xs) zero block k i row r d e h v =
      let f : block ≡ number = omega (arith, d) in
      Contains-append_left (entry_pairs l n flow number x) (rows_pairs l n flow (number + 1) xs) (pair i.place r)
      (subst (λ z. Contains (entry_pairs l n flow z x) (pair i.place r)) f (entry_has block x k i row r e h v))
  rows_have number (x ∷ xs) (suc b) block k i row r d e h v =
      Contains-append_right (entry_pairs l n flow number x) (rows_pairs l n flow (number + 1) xs) (pair i.place r) (rows_have (number + 1) xs b block k i row r (omega (arith, d)) e h v)

  pub map_admits : (rows : List (Option (List (Cell I)))) (block k : ℕ) (i : Instruction) (row : List (Cell I)) (r : Rule) → slice_get (instructions_of flow block) k ≡ Some i → row_before l n flow rows block k ≡ Some row → violates (operation_violations l n flow row i.operation) r ≡ true → Admits l n flow rows i.place r
  unfolding map_pairs
  map_admits rows block k i row r e h v = rows_have 0 rows block block k i row r (omega arith) e h v
