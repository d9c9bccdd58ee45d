-- The ways on of each block of a template are labels apart, where the switches of its function have distinct cases.
use Rattle.std.proofs.Common.{◌≡◌, ℕ, Bool, true, List, [], ◌∷◌, refl, subst}
use Rattle.std.specs.List.{list_all}
use Rattle.std.proofs.lemmas.Bool.{and_parts, and_from}
use Rattle.c_layout.specs.CheckedTrees as tree
use Rattle.c_layout.specs.CheckedTrees.{TermTree, StatementTree, StatementTrees}
use Rattle.c_layout.specs.CheckedUnits.{FunctionView}
use Rattle.c_layout.specs.StructViews.{StructView}
use Rattle.c_layout.specs.declared.checked_tree.checked_statements.CaseLabel.{CaseLabel}
use Rattle.lower_templates.specs.Worklist.Pieces.{NameView, Way, Always, When, Case, Other, NoLine, Line, ExitView, PieceView, Do, DoIfUsed, End, Mark, Call, TemplateView}
use Rattle.lower_functions.specs.Functions.Functions.{IsTemplate}
use Rattle.lower_functions.specs.Statements.Switches.{case_arms}
use Rattle.lower_functions.proofs.PlanClosures.{IsUnswitched, AreUnswitched, IsSilentPiece, OnParts, OnEach, unswitched}
use Rattle.lower_functions.proofs.PlannedWorks.{PieceLaw, such_on_any_base, such_loaded}
use Rattle.lower_template_theorems.proofs.growth.PlannedPieces.{AllSuch, template_such}
use Rattle.unit_exact.specs.CaseLabels.DistinctCases.{are_distinct, case_values, has_distinct_cases, have_distinct_cases, is_distinct_function}
use Rattle.unit_exact.specs.CaseEdges.ApartSwitches.{Label, Unlabelled, CaseOf, AllBut, label, is_beside, are_apart, exit_labels, is_apart_piece, are_apart_pieces}
use Rattle.unit_exact.proofs.case_edges.ApartLabels.{arms_same, dispatch_apart}

-- ---- ways on that are none of a switch

no_label : (w : Way) → IsUnswitched w → Unlabelled ≡ label w
no_label Always is = refl
no_label (When truth test puts) is = refl
no_label (Case test) is = absurd is
no_label (Other values) is = absurd is
no_label NoLine is = refl
no_label Line is = refl

beside_none : (x : Label) → is_beside Unlabelled x ≡ true
beside_none Unlabelled = refl
beside_none (CaseOf n) = refl
beside_none (AllBut ns) = refl

none_beside : (xs : List Label) → list_all (is_beside Unlabelled) xs ≡ true
none_beside [] = refl
none_beside (x ∷ xs) = and_from (is_beside Unlabelled x) (list_all (is_beside Unlabelled) xs) (beside_none x) (none_beside xs)

unswitched_apart : (exits : List ExitView) → AreUnswitched exits → are_apart (exit_labels exits) ≡ true
unswitched_apart [] is = refl
unswitched_apart (e ∷ es) (one, is) =
    let rest = exit_labels es in
    let first = subst (λ x. list_all (is_beside x) rest ≡ true) (no_label e.taken one) (none_beside rest) in
    and_from (list_all (is_beside (label e.taken)) rest) (are_apart rest) first (unswitched_apart es is)

-- ---- pieces

abbrev IsApart : List NameView → PieceView → Type 0
IsApart names q = is_apart_piece q ≡ true

silent_apart : (names : List NameView) (q : PieceView) → IsSilentPiece q → IsApart names q
silent_apart names (Do s) is = refl
silent_apart names (DoIfUsed s) is = refl
silent_apart names (End s exits) is = unswitched_apart exits (unswitched exits is.1)
silent_apart names (Mark label) is = refl
silent_apart names (Call c) is = refl

apart : PieceLaw IsApart
apart = record {
  still = λ names more q is. is;
  silent = silent_apart;
  fresh = λ names x s is. refl;
  branch = λ names s exits is on. unswitched_apart exits on;
}

all_apart : (names : List NameView) (ps : List PieceView) → AllSuch IsApart names ps → are_apart_pieces ps ≡ true
all_apart names [] is = refl
all_apart names (p ∷ ps) (one, is) = and_from (is_apart_piece p) (are_apart_pieces ps) one (all_apart names ps is)

-- ---- statements whose switches have distinct cases

abbrev IsDistinct : StatementTree → Type 0
IsDistinct i = has_distinct_cases i ≡ true

abbrev AreDistinct : StatementTrees → Type 0
AreDistinct items = have_distinct_cases items ≡ true

abbrev HasDistinct : TermTree → List CaseLabel → Type 0
HasDistinct e cases = are_distinct (case_values cases) ≡ true

parts_distinct : (i : StatementTree) → IsDistinct i → OnParts IsDistinct AreDistinct HasDistinct i
parts_distinct (tree.Block objects items) is = is
parts_distinct (tree.If e body) is = is
parts_distinct (tree.IfElse e first second) is = and_parts (has_distinct_cases first) (has_distinct_cases second) is
parts_distinct (tree.While e body) is = is
parts_distinct (tree.Do body e) is = is
parts_distinct (tree.For objects first e step body) is = and_parts (have_distinct_cases first) (has_distinct_cases body) is
parts_distinct (tree.Switch at e labels has_default values body) is = and_parts (are_distinct (case_values labels)) (has_distinct_cases body) is
parts_distinct (tree.Case n body) is = is
parts_distinct (tree.Default body) is = is
parts_distinct (tree.Label n body) is = is
parts_distinct other is = tt

each_distinct : (items : StatementTrees) → AreDistinct items → OnEach IsDistinct AreDistinct items
each_distinct tree.NoMore is = tt
each_distinct (tree.And first rest) is = and_parts (has_distinct_cases first) (have_distinct_cases rest) is

pub template_apart : (structs : List StructView) (pointer int_bytes : ℕ) (f : FunctionView) (is_entry : Bool) (t : TemplateView) → IsTemplate structs pointer int_bytes f is_entry t → is_distinct_function f ≡ true → are_apart_pieces t.pieces ≡ true
template_apart structs pointer int_bytes f is_entry t is distinct =
    let closed = such_on_any_base IsDistinct apart {U = AreDistinct} {S = HasDistinct} parts_distinct each_distinct
    (λ s from label number q at e cases other names base one. dispatch_apart (case_arms s from label number cases q).arms cases base other (arms_same s from label number cases q) one) in
    let loaded = such_loaded IsDistinct apart (λ names at n. refl) (λ names at kind. refl) in
    all_apart t.names t.pieces (template_such apart closed loaded structs pointer int_bytes f is_entry t is distinct)
