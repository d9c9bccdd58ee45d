-- The ways on of a switch: each case has a value of its own, and the way for other values lists each of them.
use Rattle.std.specs.Prelude.{◌≡◌, ℕ, ℤ, Bool, true, not, ◌&&◌, List, [], ◌∷◌, map}
use Rattle.std.specs.List.{list_all, list_any}
use Rattle.std.specs.Ordering.{int_eq}
use Rattle.c_layout.specs.CheckedUnits.{FunctionView}
use Rattle.c_layout.specs.StructViews.{StructView}
use Rattle.unit_exact.specs.CaseLabels.DistinctCases.{is_distinct_function}
use Rattle.lower_templates.specs.Worklist.Pieces.{Way, Always, When, Case, Other, NoLine, Line, ExitView, PieceView, Do, DoIfUsed, End, Mark, Call, TemplateView}
use Rattle.lower_functions.specs.Functions.Functions.{IsTemplate}

-- the label of a switch that a way is: none, a case of a value, or the one for all values but some
pub data Label : Type 0 where
  Unlabelled : Label
  CaseOf : (value : ℤ) → Label
  AllBut : (values : List ℤ) → Label

abbrev pub label : Way → Label
label Always = Unlabelled
label (When truth test puts) = Unlabelled
label (Case test) = CaseOf test.value
label (Other values) = AllBut values
label NoLine = Unlabelled
label Line = Unlabelled

-- two labels of one switch
abbrev pub is_beside : Label → Label → Bool
is_beside (CaseOf n) (CaseOf m) = not (int_eq n m)
is_beside (CaseOf n) (AllBut values) = list_any (int_eq n) values
is_beside (AllBut values) (CaseOf n) = list_any (int_eq n) values
is_beside _ _ = true

abbrev pub are_apart : List Label → Bool
are_apart [] = true
are_apart (x ∷ xs) = list_all (is_beside x) xs && are_apart xs

-- ---- pieces

abbrev pub exit_label : ExitView → Label
exit_label e = label e.taken

abbrev pub exit_labels : List ExitView → List Label
exit_labels es = map exit_label es

abbrev pub is_apart_piece : PieceView → Bool
is_apart_piece (Do s) = true
is_apart_piece (DoIfUsed s) = true
is_apart_piece (End s exits) = are_apart (exit_labels exits)
is_apart_piece (Mark n) = true
is_apart_piece (Call c) = true

abbrev pub are_apart_pieces : List PieceView → Bool
are_apart_pieces [] = true
are_apart_pieces (p ∷ ps) = is_apart_piece p && are_apart_pieces ps

-- the template of a function whose switches have distinct cases
abbrev pub TemplatesSwitchApart : Type 0
TemplatesSwitchApart = (structs : List StructView) (pointer int_bytes : ℕ) (f : FunctionView) (is_entry : Bool) (t : TemplateView) → IsTemplate structs pointer int_bytes f is_entry t → is_distinct_function f ≡ true → are_apart_pieces t.pieces ≡ true
