-- Pieces that are settled keep their order.
use Rattle.std.proofs.Common.{◌≡◌, Bool, true, false, cond, List, [], ◌∷◌, ◌++◌, Option, refl, sym, subst, append_assoc}
use Rattle.std.proofs.lemmas.List.{append-nil}
use Rattle.lower_templates.specs.Worklist.Pieces.{PieceView, Do, DoIfUsed, End, Mark, Call, TemplateView}
use Rattle.lower_objects.specs.declared.counts.function_counts.FunctionCounts.{FunctionCounts}
use Rattle.lower_tables.specs.Counts.NormalizedTemplates.{NamesView, SettlingView, adds_nothing, renamed, renamed_end, is_last, with_renamed, with_if, with_all, nothing_normalized, renaming, normalized}
use Rattle.lower.specs.TemplateLaws.PieceOrder.{AreFollowed, is_end, last_ends, ends_block}
use Rattle.lower.proofs.template_laws.PieceLists.{in_place, instead, last_more}

-- what is settled, and what is still to be settled
abbrev Followed : SettlingView → List PieceView → Type 0
Followed g rest = AreFollowed (g.pieces ++ rest)

one_on : (xs rest : List PieceView) (q : PieceView) → AreFollowed (xs ++ q ∷ rest) → AreFollowed ((xs ++ q ∷ []) ++ rest)
one_on xs rest q followed = subst AreFollowed (sym (append_assoc xs (q ∷ []) rest)) followed

followed_or : (b : Bool) (g h : SettlingView) (rest : List PieceView) → Followed g rest → Followed h rest → Followed (cond b g h) rest
followed_or true g h rest x y = x
followed_or false g h rest x y = y

followed_renamed : (n : NamesView) (p : PieceView) (rest : List PieceView) (g : SettlingView) → Followed g (p ∷ rest) → Followed (with_renamed n p g) rest
followed_renamed n (Do s) rest g f = one_on g.pieces rest (Do s) f
followed_renamed n (DoIfUsed s) rest g f = one_on g.pieces rest (DoIfUsed s) f
followed_renamed n (End s exits) rest g f = one_on g.pieces rest (renamed_end n s exits) (instead g.pieces rest (End s exits) (renamed_end n s exits) (λ is. is) (λ is. is) f)
followed_renamed n (Mark label) rest g f =
    let kept = in_place g.pieces [] rest (Mark label) (λ none. none) tt f in
    let changed = one_on g.pieces rest (Mark (renamed n label)) (instead g.pieces rest (Mark label) (Mark (renamed n label)) (λ is. is) (λ is. is) f) in
    followed_or (is_last g.last (renamed n label)) g _ rest kept changed
followed_renamed n (Call c) rest g f = one_on g.pieces rest (Call c) f

-- only a call is left out
followed_left_out : (table : List (Option FunctionCounts)) (p : PieceView) (rest : List PieceView) (g : SettlingView) → adds_nothing table p ≡ true → Followed g (p ∷ rest) → Followed g rest
followed_left_out table (Do s) rest g out f = cc
followed_left_out table (DoIfUsed s) rest g out f = cc
followed_left_out table (End s exits) rest g out f = cc
followed_left_out table (Mark label) rest g out f = cc
followed_left_out table (Call c) rest g out f = in_place g.pieces [] rest (Call c) (λ none. none) tt f

followed_if : (table : List (Option FunctionCounts)) (n : NamesView) (p : PieceView) (rest : List PieceView) (g : SettlingView) → Followed g (p ∷ rest) → Followed (with_if table n p g) rest
unfolding with_if
followed_if table n p rest g f = by_silent (adds_nothing table p) refl
  where
    by_silent : (b : Bool) → adds_nothing table p ≡ b → Followed (cond b g (with_renamed n p g)) rest
    by_silent true out = followed_left_out table p rest g out f
    by_silent false in_ = followed_renamed n p rest g f

followed_all : (table : List (Option FunctionCounts)) (n : NamesView) (ps : List PieceView) (g : SettlingView) → Followed g ps → AreFollowed (with_all table n ps g).pieces
followed_all table n [] g f = subst AreFollowed (append-nil g.pieces) f
followed_all table n (p ∷ ps) g f = followed_all table n ps (with_if table n p g) (followed_if table n p ps g f)

pub normalized_followed : (table : List (Option FunctionCounts)) (t : TemplateView) → AreFollowed t.pieces → AreFollowed (normalized table t).pieces
normalized_followed table t f = followed_all table (renaming table t.pieces t.labels) t.pieces nothing_normalized f

-- the end of a block stays
end_kept : (table : List (Option FunctionCounts)) (n : NamesView) (p : PieceView) (g : SettlingView) → is_end p ≡ true → ends_block (with_if table n p g).pieces ≡ true
unfolding with_if
end_kept table n (Do s) g is = cc
end_kept table n (DoIfUsed s) g is = cc
end_kept table n (End s exits) g is = last_more false g.pieces (renamed_end n s exits)
end_kept table n (Mark label) g is = cc
end_kept table n (Call c) g is = cc

ends_all : (table : List (Option FunctionCounts)) (n : NamesView) (before : Bool) (ps : List PieceView) (g : SettlingView) → (before ≡ true → ends_block g.pieces ≡ true) → last_ends before ps ≡ true → ends_block (with_all table n ps g).pieces ≡ true
ends_all table n before [] g known last = known last
ends_all table n before (p ∷ ps) g known last = ends_all table n (is_end p) ps (with_if table n p g) (λ is. end_kept table n p g is) last

false_is_not : (b : Bool) → false ≡ true → b ≡ true
false_is_not b is = cc

pub normalized_ends : (table : List (Option FunctionCounts)) (t : TemplateView) → ends_block t.pieces ≡ true → ends_block (normalized table t).pieces ≡ true
normalized_ends table t last = ends_all table (renaming table t.pieces t.labels) false t.pieces nothing_normalized (λ is. false_is_not (ends_block []) is) last
