-- Pieces that are settled have the labels that they had.
use Rattle.std.proofs.Common.{◌≡◌, Bool, true, false, cond, List, [], ◌∷◌, ◌++◌, Option, refl, sym, ap, subst}
use Rattle.std.proofs.lemmas.Bool.{and_parts, and_from}
use Rattle.lower_templates.specs.Worklist.Pieces.{ExitView, PieceView, Do, DoIfUsed, End, Mark, Call, TemplateView}
use Rattle.lower_objects.specs.declared.counts.function_counts.FunctionCounts.{FunctionCounts}
use Rattle.lower_tables.specs.Counts.NormalizedTemplates.{NamesView, SettlingView, adds_nothing, renamed, renamed_exits, renamed_end, is_last, with_renamed, with_if, with_all, nothing_normalized, renaming, normalized}
use Rattle.unit_exact.specs.CaseEdges.ApartSwitches.{are_apart, exit_label, exit_labels, is_apart_piece, are_apart_pieces}

renamed_same : (n : NamesView) (es : List ExitView) → exit_labels (renamed_exits n es) ≡ exit_labels es
renamed_same n [] = refl
renamed_same n (e ∷ es) = ap (λ xs. exit_label e ∷ xs) (renamed_same n es)

one_more : (ps : List PieceView) (p : PieceView) → are_apart_pieces ps ≡ true → is_apart_piece p ≡ true → are_apart_pieces (ps ++ p ∷ []) ≡ true
one_more [] p all one = and_from (is_apart_piece p) true one refl
one_more (q ∷ ps) p all one = let h = and_parts (is_apart_piece q) (are_apart_pieces ps) all in and_from (is_apart_piece q) (are_apart_pieces (ps ++ p ∷ [])) h.0 (one_more ps p h.1 one)

apart_or : (b : Bool) (g h : SettlingView) → are_apart_pieces g.pieces ≡ true → are_apart_pieces h.pieces ≡ true → are_apart_pieces (cond b g h).pieces ≡ true
apart_or true g h x y = x
apart_or false g h x y = y

apart_renamed : (n : NamesView) (p : PieceView) (g : SettlingView) → is_apart_piece p ≡ true → are_apart_pieces g.pieces ≡ true → are_apart_pieces (with_renamed n p g).pieces ≡ true
apart_renamed n (Do s) g one all = one_more g.pieces (Do s) all refl
apart_renamed n (DoIfUsed s) g one all = one_more g.pieces (DoIfUsed s) all refl
apart_renamed n (End s exits) g one all = one_more g.pieces (renamed_end n s exits) all (subst (λ xs. are_apart xs ≡ true) (sym (renamed_same n exits)) one)
apart_renamed n (Mark label) g one all = apart_or (is_last g.last (renamed n label)) g _ all (one_more g.pieces (Mark (renamed n label)) all refl)
apart_renamed n (Call c) g one all = one_more g.pieces (Call c) all refl

apart_if : (table : List (Option FunctionCounts)) (n : NamesView) (p : PieceView) (g : SettlingView) → is_apart_piece p ≡ true → are_apart_pieces g.pieces ≡ true → are_apart_pieces (with_if table n p g).pieces ≡ true
unfolding with_if
apart_if table n p g one all = apart_or (adds_nothing table p) g (with_renamed n p g) all (apart_renamed n p g one all)

apart_all : (table : List (Option FunctionCounts)) (n : NamesView) (ps : List PieceView) (g : SettlingView) → are_apart_pieces ps ≡ true → are_apart_pieces g.pieces ≡ true → are_apart_pieces (with_all table n ps g).pieces ≡ true
apart_all table n [] g each all = all
apart_all table n (p ∷ ps) g each all = let h = and_parts (is_apart_piece p) (are_apart_pieces ps) each in apart_all table n ps (with_if table n p g) h.1 (apart_if table n p g h.0 all)

pub normalized_apart : (table : List (Option FunctionCounts)) (t : TemplateView) → are_apart_pieces t.pieces ≡ true → are_apart_pieces (normalized table t).pieces ≡ true
normalized_apart table t each = apart_all table (renaming table t.pieces t.labels) t.pieces nothing_normalized each refl
