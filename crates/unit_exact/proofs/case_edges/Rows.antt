-- Worked rows: labels of one switch.
use Rattle.std.specs.Prelude.{◌≡◌, refl, pos, negsuc, true, false, [], ◌∷◌}
use Rattle.unit_exact.specs.CaseEdges.ApartSwitches.{Unlabelled, CaseOf, AllBut, are_apart}

-- case 1, case -1, and the others
both_listed : are_apart (CaseOf (pos 1) ∷ CaseOf (negsuc 0) ∷ AllBut (pos 1 ∷ negsuc 0 ∷ []) ∷ []) ≡ true
both_listed = refl

-- one value twice
one_twice : are_apart (CaseOf (pos 1) ∷ CaseOf (pos 1) ∷ AllBut (pos 1 ∷ []) ∷ []) ≡ false
one_twice = refl

-- the way for the others does not list a case
not_listed : are_apart (CaseOf (pos 1) ∷ CaseOf (pos 2) ∷ AllBut (pos 2 ∷ []) ∷ []) ≡ false
not_listed = refl

-- the two ways on of a branch
branch : are_apart (Unlabelled ∷ Unlabelled ∷ []) ≡ true
branch = refl
