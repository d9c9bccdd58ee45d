-- Worked rows: switches, and whether their cases are of distinct values.
use Rattle.std.specs.Prelude.{◌≡◌, refl, ℤ, pos, negsuc, true, false, List, [], ◌∷◌, map, None}
use Rattle.cc_base.specs.declared.diagnostics.Place.{Place}
use Rattle.c_layout.specs.CheckedTrees.{TermTree, Typed, Number, StatementTree, Block, If, Switch, Case, Break, NoMore, And}
use Rattle.c_layout.specs.Types.{Void}
use Rattle.c_layout.specs.declared.checked_tree.checked_statements.CaseLabel.{CaseLabel}
use Rattle.unit_exact.specs.CaseLabels.DistinctCases.{are_distinct, has_distinct_cases}

abbrev at : Place
at = record { file = 0; line = 1; col = 1 }

abbrev x : TermTree
x = Typed at Void 0 None (Number (pos 7))

abbrev label : ℤ → CaseLabel
label n = record { place = at; value = n }

abbrev switch : List ℤ → StatementTree → StatementTree
switch ns body = Switch at x (map label ns) false None body

-- 1 and -1 are apart
apart : are_distinct (pos 1 ∷ negsuc 0 ∷ []) ≡ true
apart = refl

-- 1, 2 and 1 are not
repeated : are_distinct (pos 1 ∷ pos 2 ∷ pos 1 ∷ []) ≡ false
repeated = refl

-- switch (x) { case 1: case 2: break; }
two_cases : has_distinct_cases (switch (pos 1 ∷ pos 2 ∷ []) (Case 0 (Case 1 Break))) ≡ true
two_cases = refl

-- switch (x) { case 1: case 1: break; }
one_twice : has_distinct_cases (switch (pos 1 ∷ pos 1 ∷ []) (Case 0 (Case 1 Break))) ≡ false
one_twice = refl

-- switch (x) { case 1: switch (x) { case 1: break; } }
inner_of_same : has_distinct_cases (switch (pos 1 ∷ []) (Case 0 (switch (pos 1 ∷ []) (Case 0 Break)))) ≡ true
inner_of_same = refl

-- { if (x) switch (x) { case 3: case 3: break; } }
deep_inside : has_distinct_cases (Block [] (And (If x (switch (pos 3 ∷ pos 3 ∷ []) (Case 0 (Case 1 Break)))) NoMore)) ≡ false
deep_inside = refl
