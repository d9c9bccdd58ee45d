-- What a map admits is what one of its instructions may break in the row before it.
use Rattle.std.proofs.Common.{◌≡◌, ℕ, zero, suc, ◌+◌, true, Option, Some, None, List, [], ◌∷◌, take, arith, subst, sym, refl, ap, ◌∙◌, inl, inr, ◌⊎◌}
use Rattle.std.specs.Prelude.{slice_get}
use Rattle.std.specs.List.{Contains}
use Rattle.std.proofs.lemmas.Bool.{cases_Bool}
use Rattle.std.proofs.lemmas.List.Elements.{Contains-append_cases, at_from_Contains}
use Rattle.cc_base.specs.InductiveMap.{row_at}
use Rattle.cc_base.specs.Lattices.{LatticeOf}
use Rattle.cc_base.specs.IntegerDomains.{IntegersOf}
use Rattle.cc_base.specs.declared.diagnostics.Diag.{Diag}
use Rattle.cc_base.specs.declared.diagnostics.Place.{Place}
use Rattle.cc_base.specs.declared.diagnostics.Rule.{Rule}
use Rattle.cfg.specs.declared.machine_instructions.Instruction.{Instruction}
use Rattle.cfg.specs.declared.programs.Flow.{Flow}
use Rattle.value_domain.specs.declared.values.row_cells.Cell.{Cell}
use Rattle.transfer_checks.specs.ViolationSets.{violates}
use Rattle.transfer_checks.specs.declared.violation_sets.Violations.{Violations}
use Rattle.transfer_system.specs.StepViolations.{operation_violations}
use Rattle.row_bounds.specs.AdmittedRules.{run_rules, with_pair, pairs_among, pairs_of, instructions_of, pairs_at, row_behind, pairs_from, instruction_pairs, block_pairs, entry_pairs, rows_pairs, map_pairs}
use Rattle.transfer_sound.specs.Induction.Covering.{rows_behind, Admits}
use Rattle.transfer_sound.proofs.induction.AdmittedPairs.{cons_cases}

none_in : {X : Type 0} (x : X) → Contains [] x → ⊥
none_in x h = let a = at_from_Contains [] x h in let b = a.1 in absurd (omega (arith, b))

abbrev pair : Place → Rule → Diag
pair place r = record { place = place; rule = r }

-- ---- one instruction

record IsOneOf (place : Place) (v : Violations) (p : Place) (r : Rule) : Type 0 where
  same : place ≡ p
  is : violates v r ≡ true

own_or_rest : (place : Place) (v : Violations) (rule : Rule) (rest : List Diag) (p : Place) (r : Rule) → Contains (with_pair place v rule rest) (pair p r) → IsOneOf place v p r ⊎ Contains rest (pair p r)
own_or_rest place v rule rest p r h = elim (cases_Bool (violates v rule)) [
  | inl t ↦ (let k : Contains (pair place rule ∷ rest) (pair p r) = rw t at h in elim (cons_cases (pair place rule) (pair p r) rest k) [
    | inl e ↦ inl (record { same = ap (λ (d : Diag). d.place) e; is = subst (λ z. violates v z ≡ true) (ap (λ (d : Diag). d.rule) e) t })
    | inr more ↦ inr more
  ])
  | inr t ↦ (let k : Contains rest (pair p r) = rw t at h in inr k)
]

one_among : (place : Place) (v : Violations) (rules : List Rule) (p : Place) (r : Rule) → Contains (pairs_among place v rules) (pair p r) → IsOneOf place v p r
one_among place v [] p r h = absurd (none_in (pair p r) h)
one_among place v (rule ∷ rules) p r h = elim (own_or_rest place v rule (pairs_among place v rules) p r h) [
  | inl k ↦ k
  | inr k ↦ one_among place v rules p r k
]

one_of_pairs : (place : Place) (v : Violations) (p : Place) (r : Rule) → Contains (pairs_of place v) (pair p r) → IsOneOf place v p r
unfolding pairs_of
one_of_pairs place v p r h = one_among place v run_rules p r h

-- ---- instructions in order

module _ {I : Type 0} (l : LatticeOf I) (n : IntegersOf I) (flow : Flow) where
  record IsFrom (reached : Option (List (Cell I))) (is : List Instruction) (p : Place) (r : Rule) : Type 0 where
    at : ℕ
    instruction : Instruction
    row : List (Cell I)
    there : slice_get is at ≡ Some instruction
    before : rows_behind l n flow reached (take at is) ≡ Some row
    breaks : violates (operation_violations l n flow row instruction.operation) r ≡ true
    place : instruction.place ≡ p

  first_from : (reached : Option (List (Cell I))) (x : Instruction) (xs : List Instruction) (p : Place) (r : Rule) → Contains (pairs_at l n flow x reached) (pair p r) → IsFrom reached (x ∷ xs) p r
  first_from None x xs p r h = absurd (none_in (pair p r) h)
  first_from (Some row) x xs p r h =
      let k = one_of_pairs x.place (operation_violations l n flow row x.operation) p r h in
      record { at = 0; instruction = x; row = row; there = refl; before = refl; breaks = k.is; place = k.same }

  from_pairs : (reached : Option (List (Cell I))) (is : List Instruction) (p : Place) (r : Rule) → Contains (pairs_from l n flow reached is) (pair p r) → IsFrom reached is p r
  from_pairs reached [] p r h = absurd (none_in (pair p r) h)
  from_pairs reached (x ∷ xs) p r h = elim (Contains-append_cases (pairs_at l n flow x reached) (pairs_from l n flow (row_behind l n flow x reached) xs) (pair p r) h) [
    | inl k ↦ first_from reached x xs p r k
    | inr k ↦ (let a = from_pairs (row_behind l n flow x reached) xs p r k in record { at = suc a.at; instruction = a.instruction; row = a.row; there = a.there; before = a.before; breaks = a.breaks; place = a.place })
  ]

  from_entry : (number : ℕ) (entry : Option (List (Cell I))) (p : Place) (r : Rule) → Contains (entry_pairs l n flow number entry) (pair p r) → IsFrom entry (instructions_of flow number) p r
  unfolding block_pairs instruction_pairs
  from_entry number None p r h = absurd (none_in (pair p r) h)
  from_entry number (Some start) p r h = from_pairs (Some start) (instructions_of flow number) p r h

  -- ---- blocks in order

  record IsFromRow (number : ℕ) (rows : List (Option (List (Cell I)))) (p : Place) (r : Rule) : Type 0 where
    index : ℕ
    block : ℕ
    is : block ≡ number + index
    from : IsFrom (row_at rows index) (instructions_of flow block) p r

  from_rows : (number : ℕ) (rows : List (Option (List (Cell I)))) (p : Place) (r : Rule) → Contains (rows_pairs l n flow number rows) (pair p r) → IsFromRow number rows p r
  from_rows number [] p r h = absurd (none_in (pair p r) h)
  from_rows number (x ∷ xs) p r h = elim (Contains-append_cases (entry_pairs l n flow number x) (rows_pairs l n flow (number + 1) xs) (pair p r) h) [
    | inl k ↦ record { index = 0; block = number; is = omega arith; from = from_entry number x p r k }
    | inr k ↦ (let a = from_rows (number + 1) xs p r k in let e = a.is in record { index = suc a.index; block = a.block; is = omega (arith, e); from = a.from })
  ]

  -- an instruction of a block may break the rule in the row before it
  pub record IsBrokenIn (rows : List (Option (List (Cell I)))) (p : Place) (r : Rule) : Type 0 where
    pub block : ℕ
    pub at : ℕ
    pub instruction : Instruction
    pub row : List (Cell I)
    pub there : slice_get (instructions_of flow block) at ≡ Some instruction
    pub before : rows_behind l n flow (row_at rows block) (take at (instructions_of flow block)) ≡ Some row
    pub breaks : violates (operation_violations l n flow row instruction.operation) r ≡ true
    pub place : instruction.place ≡ p

  pub admitted_in : (rows : List (Option (List (Cell I)))) (p : Place) (r : Rule) → Admits l n flow rows p r → IsBrokenIn rows p r
  unfolding map_pairs
  admitted_in rows p r h =
      let a = from_rows 0 rows p r h in
      let same : a.index ≡ a.block = (let e = a.is in omega (arith, e)) in
      record {
        block = a.block;
        at = a.from.at;
        instruction = a.from.instruction;
        row = a.from.row;
        there = a.from.there;
        before = subst (λ z. rows_behind l n flow (row_at rows z) (take a.from.at (instructions_of flow a.block)) ≡ Some a.from.row) same a.from.before;
        breaks = a.from.breaks;
        place = a.from.place;
      }
