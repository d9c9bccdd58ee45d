-- A label that is counted in a statement is found there, where the first clauses of `for`, which a search passes by, have none.
use Rattle.std.proofs.Common.{◌≡◌, ◌≤◌, ℕ, zero, suc, ◌+◌, Bool, true, false, cond, List, ◌∷◌, ◌++◌, Option, Some, None, refl, arith}
use Rattle.c_layout.specs.CheckedTrees as tree
use Rattle.c_layout.specs.CheckedTrees.{StatementTree, StatementTrees}
use Rattle.c_layout.specs.CheckedUnits.{UnitView}
use Rattle.lower_functions.proofs.LabelCounts.{count_in, all_count_in}
use Rattle.semantics.specs.SourceMachine.Items as item
use Rattle.semantics.specs.SourceMachine.Items.{Item}
use Rattle.semantics.specs.SourceMachine.LabelSearch as sought
use Rattle.semantics.specs.SourceMachine.LabelSearch.{Sought, is_label, is_case, is_other, inside_switch, first, here_or, found, found_in}
use Rattle.semantics.specs.SourceMachine.StatementItems.{statements, do_test, for_step}

-- whether a label is sought in the switches of a statement too
abbrev pub is_deep : Sought → Bool
is_deep (sought.label n) = true
is_deep l = false

abbrev pub counted : Sought → StatementTree → ℕ
counted l i = count_in (is_deep l) (is_label l) (is_case l) (is_other l) i

abbrev pub all_counted : Sought → StatementTrees → ℕ
all_counted l items = all_count_in (is_deep l) (is_label l) (is_case l) (is_other l) items

-- no first clause of a `for` has the label
abbrev mutual
  pub ClausesLack : Sought → StatementTree → Type 0
  ClausesLack l (tree.Block objects items) = AllClausesLack l items
  ClausesLack l (tree.If e body) = ClausesLack l body
  ClausesLack l (tree.IfElse e one two) = ClausesLack l one × ClausesLack l two
  ClausesLack l (tree.While e body) = ClausesLack l body
  ClausesLack l (tree.Do body e) = ClausesLack l body
  ClausesLack l (tree.For objects begin e step body) = (all_counted l begin ≡ 0) × ClausesLack l body
  ClausesLack l (tree.Switch at e labels has_default values body) = ClausesLack l body
  ClausesLack l (tree.Case n body) = ClausesLack l body
  ClausesLack l (tree.Default body) = ClausesLack l body
  ClausesLack l (tree.Label n body) = ClausesLack l body
  ClausesLack l other = Unit {0}

  pub AllClausesLack : Sought → StatementTrees → Type 0
  AllClausesLack l tree.NoMore = Unit {0}
  AllClausesLack l (tree.And one rest) = ClausesLack l one × AllClausesLack l rest

-- ---- in one of two places

abbrev pub Reached : Option (List Item) → Type 0
Reached found = (to : List Item) × (found ≡ Some to)

none : {A : Type 0} → 1 ≤ 0 → A
none some = absurd (no some)
  where
    no : 1 ≤ 0 → ⊥
    no some = omega (arith, some)

second_of : (a b : ℕ) → a ≡ 0 → 1 ≤ a + b → 1 ≤ b
second_of a b e some = omega (arith, e, some)

least : (a : ℕ) → 1 ≤ suc a
least a = omega arith

later_found : (one two : Option (List Item)) → Reached two → Reached (first one two)
later_found None two there = there
later_found (Some to) two there = (to, refl)

first_found : (one two : Option (List Item)) → Reached one → Reached (first one two)
first_found None two there = let no : ⊥ = cc in absurd no
first_found (Some to) two there = (to, refl)

either_found : (a b : ℕ) (one two : Option (List Item)) → 1 ≤ a + b → (1 ≤ a → Reached one) → (1 ≤ b → Reached two) → Reached (first one two)
either_found zero b one two some f g = later_found one two (g (second_of zero b refl some))
either_found (suc a) b one two some f g = first_found one two (f (least a))

found_here : (is : Bool) (a : ℕ) (items : List Item) (later : Option (List Item)) → 1 ≤ cond is 1 0 + a → (1 ≤ a → Reached later) → Reached (here_or is items later)
found_here true a items later some inside = (items, refl)
found_here false a items later some inside = inside (second_of 0 a refl some)

found_inside : (l : Sought) (a : ℕ) (o : Option (List Item)) → 1 ≤ cond (is_deep l) a 0 → (1 ≤ a → Reached o) → Reached (inside_switch l o)
found_inside (sought.label n) a o some inside = inside some
found_inside (sought.case n) a o some inside = none some
found_inside sought.other a o some inside = none some

-- ---- statements

module _ (u : UnitView) (l : Sought) where
  mutual
    unfolding found found_in

    pub found_there : (i : StatementTree) (rest : List Item) → ClausesLack l i → 1 ≤ counted l i → Reached (found u l i rest)
    found_there (tree.Block objects items) rest lack some = all_found_there items (item.Leaves objects ∷ rest) lack some
    found_there (tree.If e body) rest lack some = found_there body rest lack some
    found_there (tree.IfElse e one two) rest lack some = either_found (counted l one) (counted l two) (found u l one (item.Hop ∷ rest)) (found u l two rest) some (λ h. found_there one (item.Hop ∷ rest) lack.0 h) (λ h. found_there two rest lack.1 h)
    found_there (tree.While e body) rest lack some = found_there body (item.Hop ∷ (item.IterationEnd ∷ (item.WhileIteration e body ∷ (item.LoopEnd ∷ rest)))) lack some
    found_there (tree.Do body e) rest lack some = found_there body (do_test u body e ++ item.LoopEnd ∷ rest) lack some
    found_there (tree.For objects begin e step body) rest lack some = found_there body (for_step e step body ++ (item.LoopEnd ∷ (item.Leaves objects ∷ rest))) lack.1 (second_of (all_counted l begin) (counted l body) lack.0 some)
    found_there (tree.Switch at e labels has_default values body) rest lack some = found_inside l (counted l body) (found u l body (item.LoopEnd ∷ rest)) some (λ h. found_there body (item.LoopEnd ∷ rest) lack h)
    found_there (tree.Case n body) rest lack some = found_here (is_case l n) (counted l body) (item.Statement body ∷ rest) (found u l body rest) some (λ h. found_there body rest lack h)
    found_there (tree.Default body) rest lack some = found_here (is_other l) (counted l body) (item.Statement body ∷ rest) (found u l body rest) some (λ h. found_there body rest lack h)
    found_there (tree.Label n body) rest lack some = found_here (is_label l n) (counted l body) (item.Statement body ∷ rest) (found u l body rest) some (λ h. found_there body rest lack h)
    found_there i rest lack some = none some

    pub all_found_there : (items : StatementTrees) (rest : List Item) → AllClausesLack l items → 1 ≤ all_counted l items → Reached (found_in u l items rest)
    all_found_there tree.NoMore rest lack some = none some
    all_found_there (tree.And one more) rest lack some = either_found (counted l one) (all_counted l more) (found u l one (statements more ++ rest)) (found_in u l more rest) some (λ h. found_there one (statements more ++ rest) lack.0 h) (λ h. all_found_there more rest lack.1 h)
