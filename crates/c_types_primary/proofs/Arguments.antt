-- The arguments of a call, one by one.
use Rattle.std.proofs.Common.{◌≡◌, ◌+◌, ℕ, zero, suc, List, [], ◌∷◌, ◌++◌, length, map, Result, Ok, Err, refl, sym, ◌∙◌, ap, arith}
use Rattle.std.proofs.lemmas.List.{append-nil, append_assoc, map-append}
use Rattle.cc_base.specs.declared.diagnostics.Place.{Place}
use Rattle.cc_base.specs.declared.refusals.Fault.{Fault}
use Rattle.cc_base.specs.declared.refusals.Stop.{Stop}
use Rattle.cc_base.specs.declared.refusals.Stop.TheVariants as stop
use Rattle.c_layout.specs.Types.{Ty, view}
use Rattle.c_layout.specs.CheckedTrees.{TermTree, term_tree}
use Rattle.c_layout.specs.declared.checked_tree.checked_terms.CheckedTerm.{CheckedTerm}
use Rattle.c_layout.specs.declared.type_terms.CType.{CType}
use Rattle.c_types_scopes.specs.Answers.{Gives}
use Rattle.c_types_scopes.specs.Known.{Known}
use Rattle.c_types_scopes.specs.Refusals.{Ruled, type_fault, format_fault}
use Rattle.c_types_operands.specs.Operands.{OperandView, operand_view}
use Rattle.c_types_operands.specs.declared.operands.Operand.{Operand}
use Rattle.c_types_primary.specs.Lists.{with_first, if_first, behind}
use Rattle.c_types_primary.specs.Calls.{converted_argument, each_converted, formatted, each_formatted}
use Rattle.c_library.specs.declared.formats.printf_formats.Wanted.{Wanted}

pub behind_first : {V : Type 0} (made : List V) (v : V) (r : Ruled (List V)) → behind made (with_first v r) ≡ behind (made ++ v ∷ []) r
behind_first made v (Ok vs) = ap Ok (sym (append_assoc made (v ∷ []) vs))
behind_first made v (Err f) = refl

pub behind_nothing : {V : Type 0} (r : Ruled (List V)) → behind [] r ≡ r
behind_nothing (Ok vs) = refl
behind_nothing (Err f) = refl

-- ---- for the types of parameters

pub converted_more : (k : Known) (at : Place) (made : List TermTree) (a : OperandView) (rest : List OperandView) (t : Ty) (ts : List Ty) (e : TermTree) (whole : Ruled (List TermTree))
    → behind made (each_converted k at (a ∷ rest) (t ∷ ts)) ≡ whole
    → converted_argument k at a t ≡ Ok e
    → behind (made ++ e ∷ []) (each_converted k at rest ts) ≡ whole
unfolding each_converted
converted_more k at made a rest t ts e whole before is =
    sym (behind_first made e (each_converted k at rest ts))
    ∙ (sym (ap (λ r. behind made (if_first r (each_converted k at rest ts))) is) ∙ before)

pub converted_refused : (k : Known) (at : Place) (made : List TermTree) (a : OperandView) (rest : List OperandView) (t : Ty) (ts : List Ty) (f : Fault) (whole : Ruled (List TermTree))
    → behind made (each_converted k at (a ∷ rest) (t ∷ ts)) ≡ whole
    → converted_argument k at a t ≡ Err f
    → whole ≡ Err f
unfolding each_converted
converted_refused k at made a rest t ts f whole before is = sym before ∙ ap (λ r. behind made (if_first r (each_converted k at rest ts))) is

pub converted_apart : (k : Known) (at : Place) (made : List TermTree) (a : OperandView) (rest : List OperandView) (whole : Ruled (List TermTree))
    → behind made (each_converted k at (a ∷ rest) []) ≡ whole
    → whole ≡ type_fault at
unfolding each_converted
converted_apart k at made a rest whole before = sym before

pub converted_all : (k : Known) (at : Place) (made : List TermTree) (ts : List Ty) (whole : Ruled (List TermTree))
    → behind made (each_converted k at [] ts) ≡ whole
    → whole ≡ Ok made
unfolding each_converted
converted_all k at made ts whole before = sym before ∙ ap Ok (append-nil made)

-- ---- for the conversions of a format

pub formatted_more : (k : Known) (at : Place) (made : List TermTree) (a : OperandView) (rest : List OperandView) (w : Wanted) (ws : List Wanted) (e : TermTree) (whole : Ruled (List TermTree))
    → behind made (each_formatted k at (w ∷ ws) (a ∷ rest)) ≡ whole
    → formatted k at w a ≡ Ok e
    → behind (made ++ e ∷ []) (each_formatted k at ws rest) ≡ whole
unfolding each_formatted
formatted_more k at made a rest w ws e whole before is =
    sym (behind_first made e (each_formatted k at ws rest))
    ∙ (sym (ap (λ r. behind made (if_first r (each_formatted k at ws rest))) is) ∙ before)

pub formatted_refused : (k : Known) (at : Place) (made : List TermTree) (a : OperandView) (rest : List OperandView) (w : Wanted) (ws : List Wanted) (f : Fault) (whole : Ruled (List TermTree))
    → behind made (each_formatted k at (w ∷ ws) (a ∷ rest)) ≡ whole
    → formatted k at w a ≡ Err f
    → whole ≡ Err f
unfolding each_formatted
formatted_refused k at made a rest w ws f whole before is = sym before ∙ ap (λ r. behind made (if_first r (each_formatted k at ws rest))) is

pub formatted_apart : (k : Known) (at : Place) (made : List TermTree) (a : OperandView) (rest : List OperandView) (whole : Ruled (List TermTree))
    → behind made (each_formatted k at [] (a ∷ rest)) ≡ whole
    → whole ≡ format_fault at
unfolding each_formatted
formatted_apart k at made a rest whole before = sym before

pub formatted_all : (k : Known) (at : Place) (made : List TermTree) (ws : List Wanted) (whole : Ruled (List TermTree))
    → behind made (each_formatted k at ws []) ≡ whole
    → whole ≡ Ok made
unfolding each_formatted
formatted_all k at made ws whole before = sym before ∙ ap Ok (append-nil made)

-- ---- a turn of the loops, over the operands as they stand

pub none_left : {X : Type 0} (xs : List X) → length xs ≡ 0 → xs ≡ []
none_left [] h = refl
none_left (x ∷ xs) h = absurd (omega arith)

module _ (k : Known) (at : Place) (items left : List Operand) (x : Operand) (rest more : List CType) (t : CType) (made : List CheckedTerm) (whole : Ruled (List TermTree)) (now : behind (map term_tree made) (each_converted k at (map operand_view items) (map view rest)) ≡ whole) (steps : items ≡ x ∷ left) (cut : rest ≡ t ∷ more) where
  converted_now : behind (map term_tree made) (each_converted k at (operand_view x ∷ map operand_view left) (view t ∷ map view more)) ≡ whole
  converted_now =
      sym (ap (λ l. behind (map term_tree made) (each_converted k at (map operand_view l) (map view rest))) steps
      ∙ ap (λ l. behind (map term_tree made) (each_converted k at (operand_view x ∷ map operand_view left) (map view l))) cut)
      ∙ now

  pub converted_turn : (grown : List CheckedTerm) (e : CheckedTerm) → grown ≡ made ++ e ∷ [] → converted_argument k at (operand_view x) (view t) ≡ Ok (term_tree e) → behind (map term_tree grown) (each_converted k at (map operand_view left) (map view more)) ≡ whole
  converted_turn grown e pushed is =
      ap (λ l. behind l (each_converted k at (map operand_view left) (map view more))) (ap (map term_tree) pushed ∙ map-append term_tree made (e ∷ []))
      ∙ converted_more k at (map term_tree made) (operand_view x) (map operand_view left) (view t) (map view more) (term_tree e) whole converted_now is

  pub converted_stops : {A : Type 0} (of : A → List TermTree) (s : Stop) → Gives {A = CheckedTerm} term_tree (converted_argument k at (operand_view x) (view t)) (Err s) → Gives of whole (Err s)
  converted_stops of (stop.Refused f) is = converted_refused k at (map term_tree made) (operand_view x) (map operand_view left) (view t) (map view more) f whole converted_now is
  converted_stops of stop.Memory is = tt
  converted_stops of stop.NotHeld is = absurd is
  converted_stops of stop.ReadFault is = absurd is

module _ (k : Known) (at : Place) (items left : List Operand) (x : Operand) (rest more : List Wanted) (w : Wanted) (made : List CheckedTerm) (whole : Ruled (List TermTree)) (now : behind (map term_tree made) (each_formatted k at rest (map operand_view items)) ≡ whole) (steps : items ≡ x ∷ left) (cut : rest ≡ w ∷ more) where
  formatted_now : behind (map term_tree made) (each_formatted k at (w ∷ more) (operand_view x ∷ map operand_view left)) ≡ whole
  formatted_now =
      sym (ap (λ l. behind (map term_tree made) (each_formatted k at rest (map operand_view l))) steps
      ∙ ap (λ l. behind (map term_tree made) (each_formatted k at l (operand_view x ∷ map operand_view left))) cut)
      ∙ now

  pub formatted_turn : (grown : List CheckedTerm) (e : CheckedTerm) → grown ≡ made ++ e ∷ [] → formatted k at w (operand_view x) ≡ Ok (term_tree e) → behind (map term_tree grown) (each_formatted k at more (map operand_view left)) ≡ whole
  formatted_turn grown e pushed is =
      ap (λ l. behind l (each_formatted k at more (map operand_view left))) (ap (map term_tree) pushed ∙ map-append term_tree made (e ∷ []))
      ∙ formatted_more k at (map term_tree made) (operand_view x) (map operand_view left) w more (term_tree e) whole formatted_now is

  pub formatted_stops : {A : Type 0} (of : A → List TermTree) (s : Stop) → Gives {A = CheckedTerm} term_tree (formatted k at w (operand_view x)) (Err s) → Gives of whole (Err s)
  formatted_stops of (stop.Refused f) is = formatted_refused k at (map term_tree made) (operand_view x) (map operand_view left) w more f whole formatted_now is
  formatted_stops of stop.Memory is = tt
  formatted_stops of stop.NotHeld is = absurd is
  formatted_stops of stop.ReadFault is = absurd is
