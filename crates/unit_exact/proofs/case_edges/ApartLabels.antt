-- The ways on of a dispatch: cases of distinct values, and the way for all but these.
use Rattle.std.proofs.Common.{◌≡◌, ℕ, ℤ, true, false, not, List, [], ◌∷◌, ◌++◌, map, Option, refl, sym, ap, subst, ◌∙◌}
use Rattle.std.specs.List.{list_all, list_any}
use Rattle.std.specs.Ordering.{int_eq}
use Rattle.std.proofs.lemmas.Bool.{and_parts, and_from, or_left, or_right, or_parts, not-true, not_from_false}
use Rattle.std.proofs.lemmas.Bool.Decides.{Decides-int_eq}
use Rattle.c_layout.specs.declared.checked_tree.checked_statements.CaseLabel.{CaseLabel}
use Rattle.unit_exact.specs.CaseLabels.DistinctCases.{are_distinct, case_values}
use Rattle.unit_exact.proofs.case_labels.DistinctValues.{same_back}
use Rattle.lower_functions.specs.Statements.Switches.{case_arms, case_landing, edge_target, case_exits, dispatch_exits}
use Rattle.lower_functions.specs.declared.statements.switch_statements.CaseArm.{CaseArm}
use Rattle.lower_templates.specs.Worklist.Pieces.{Other}
use Rattle.lower_templates.specs.Worklist.Plans.{Plan}
use Rattle.lower_templates.specs.Worklist.Settings.{SettingView}
use Rattle.lower_templates.specs.Worklist.Works.{behind}
use Rattle.unit_exact.specs.CaseEdges.ApartSwitches.{Label, Unlabelled, CaseOf, AllBut, is_beside, are_apart, exit_labels}

abbrev pub arm_value : CaseArm → ℤ
arm_value a = a.value

abbrev pub arm_values : List CaseArm → List ℤ
arm_values arms = map arm_value arms

-- there is an arm for each case
pub arms_same : (s : SettingView) (from number_label number : ℕ) (cs : List CaseLabel) (p : Plan) → arm_values (case_arms s from number_label number cs p).arms ≡ case_values cs
arms_same s from first number [] p = refl
arms_same s from first number (c ∷ cs) p = ap (λ ns. c.value ∷ ns) (arms_same s from (behind first 1) (behind number 1) cs (edge_target s from (case_landing s first number) p).after)

-- ---- values in a list

abbrev AllIn : List ℤ → List ℤ → Type 0
AllIn [] all = Unit {0}
AllIn (n ∷ ns) all = (list_any (int_eq n) all ≡ true) × AllIn ns all

itself : (n : ℤ) → int_eq n n ≡ true
itself n = (Decides-int_eq n n).1 refl

in_more : (ns all : List ℤ) (n : ℤ) → AllIn ns all → AllIn ns (n ∷ all)
in_more [] all n h = tt
in_more (m ∷ ns) all n h = (or_right (int_eq m n) (list_any (int_eq m) all) h.0, in_more ns all n h.1)

in_itself : (ns : List ℤ) → AllIn ns ns
in_itself [] = tt
in_itself (n ∷ ns) = (or_left (int_eq n n) (list_any (int_eq n) ns) (itself n), in_more ns ns n (in_itself ns))

-- ---- labels

case_beside : (n : ℤ) (arms : List CaseArm) (object : Option ℕ) (other : ℕ) (all : List ℤ) → list_any (int_eq n) (arm_values arms) ≡ false → list_any (int_eq n) all ≡ true
    → list_all (is_beside (CaseOf n)) (exit_labels (case_exits arms object ++ record { to = other; taken = Other all } ∷ [])) ≡ true
case_beside n [] object other all new is = and_from (list_any (int_eq n) all) true is refl
case_beside n (a ∷ arms) object other all new is =
    let p = or_parts (int_eq n a.value) (list_any (int_eq n) (arm_values arms)) new in
    and_from (not (int_eq n a.value)) (list_all (is_beside (CaseOf n)) (exit_labels (case_exits arms object ++ record { to = other; taken = Other all } ∷ []))) (not_from_false (int_eq n a.value) p.0) (case_beside n arms object other all p.1 is)

cases_apart : (arms : List CaseArm) (object : Option ℕ) (other : ℕ) (all : List ℤ) → are_distinct (arm_values arms) ≡ true → AllIn (arm_values arms) all → are_apart (exit_labels (case_exits arms object ++ record { to = other; taken = Other all } ∷ [])) ≡ true
cases_apart [] object other all apart is = refl
cases_apart (a ∷ arms) object other all apart is =
    let p = and_parts (not (list_any (int_eq a.value) (arm_values arms))) (are_distinct (arm_values arms)) apart in
    let rest : List Label = exit_labels (case_exits arms object ++ record { to = other; taken = Other all } ∷ []) in
    and_from (list_all (is_beside (CaseOf a.value)) rest) (are_apart rest) (case_beside a.value arms object other all (not-true (list_any (int_eq a.value) (arm_values arms)) p.0) is.0) (cases_apart arms object other all p.1 is.1)

pub dispatch_apart : (arms : List CaseArm) (cases : List CaseLabel) (object : Option ℕ) (other : ℕ) → arm_values arms ≡ case_values cases → are_distinct (case_values cases) ≡ true → are_apart (exit_labels (dispatch_exits arms cases object other)) ≡ true
dispatch_apart arms cases object other same apart =
    cases_apart arms object other (case_values cases) (subst (λ ns. are_distinct ns ≡ true) (sym same) apart) (subst (λ ns. AllIn ns (case_values cases)) (sym same) (in_itself (case_values cases)))

-- ---- which of two labels is first does not matter

pub beside_back : (x y : Label) → is_beside x y ≡ true → is_beside y x ≡ true
beside_back Unlabelled Unlabelled h = refl
beside_back Unlabelled (CaseOf m) h = refl
beside_back Unlabelled (AllBut ms) h = refl
beside_back (CaseOf n) Unlabelled h = refl
beside_back (CaseOf n) (CaseOf m) h = ap not (same_back m n) ∙ h
beside_back (CaseOf n) (AllBut ms) h = h
beside_back (AllBut ns) Unlabelled h = refl
beside_back (AllBut ns) (CaseOf m) h = h
beside_back (AllBut ns) (AllBut ms) h = refl
