-- The line that is read at a place stands there.
use Rattle.std.proofs.Common.{◌≡◌, ◌∙◌, ◌+◌, ◌-◌, ◌<◌, ◌≤◌, ℕ, zero, suc, Bool, true, false, cond, ◌&&◌, ◌==◌, nat_lt, List, [], ◌∷◌, ◌++◌, length, take, drop, get_or, min, Option, Some, None, refl, sym, ap, subst, arith, append_assoc}
use Rattle.std.proofs.lemmas.Bool.{and_parts, eqb-true, ltb-true}
use Rattle.std.proofs.lemmas.Int.{clamps}
use Rattle.std.proofs.lemmas.List.{drop_more, take-append-drop, drop-drop, length-take, length-drop}
use Rattle.certificate_text.specs.declared.lines.map_lines.MapLine.{MapLine}
use Rattle.certificate_text.specs.Lines.LineWords.{Bytes, word_length, until, behind, same_all, same_bytes}
use Rattle.certificate_text.specs.Lines.MapLines.{line_text, line_given, line_of}
use Rattle.cfg.specs.declared.programs.Flow.{Flow}
use Rattle.certificate_text.specs.Maps.MapTexts.{head_text, ended_text}
use Rattle.certificate_check.specs.Reading.TextPlaces.{line_at, next_place}
use Rattle.certificate_check.specs.Reading.MapReading.{has_head}

-- ---- texts that are the same

same_all_same : (a b : Bytes) → length a ≡ length b → same_all a b ≡ true → a ≡ b
same_all_same [] [] e h = refl
same_all_same [] (d ∷ ds) e h = absurd (omega arith)
same_all_same (c ∷ cs) [] e h = absurd (omega arith)
same_all_same (c ∷ cs) (d ∷ ds) e h =
    let k = and_parts (c == d) (same_all cs ds) h in
    let first : c ≡ d = eqb-true c d k.0 in
    let rest : cs ≡ ds = same_all_same cs ds (omega arith) k.1 in
    cc

pub same_bytes_same : (a b : Bytes) → same_bytes a b ≡ true → a ≡ b
unfolding same_bytes
same_bytes_same a b h =
    let k = and_parts (length a == length b) (same_all a b) h in
    same_all_same a b (eqb-true (length a) (length b) k.0) k.1

same_of : (g : MapLine) (u : Bytes) (line : MapLine) (b : Bool) → same_bytes (line_text g) u ≡ b → cond b (Some g) None ≡ Some line → line_text line ≡ u
same_of g u line true e h = let k : g ≡ line = cc in subst (λ l. line_text l ≡ u) k (same_bytes_same (line_text g) u e)
same_of g u line false e h = absurd (cc)

text_of_line : (u : Bytes) (line : MapLine) → line_of u ≡ Some line → line_text line ≡ u
text_of_line u line h = same_of (line_given u) u line (same_bytes (line_text (line_given u)) u) refl h

-- ---- the first end of a line

end_step : (c : ℕ) (cs : Bytes) (t : Bool) → (c == 10) ≡ t → (word_length 10 cs < length cs → get_or cs (word_length 10 cs) 0 ≡ 10) → cond t 0 (1 + word_length 10 cs) < length (c ∷ cs) → get_or (c ∷ cs) (cond t 0 (1 + word_length 10 cs)) 0 ≡ 10
end_step c cs true e more h = eqb-true c 10 e
end_step c cs false e more h =
    let k : 1 + word_length 10 cs ≡ suc (word_length 10 cs) = omega arith in
    rw k (more (omega arith))

end_here : (s : Bytes) → word_length 10 s < length s → get_or s (word_length 10 s) 0 ≡ 10
end_here [] h = absurd (omega arith)
end_here (c ∷ cs) h = end_step c cs (c == 10) refl (end_here cs) h

line_split : (s : Bytes) → word_length 10 s < length s → s ≡ take (word_length 10 s) s ++ (10 ∷ drop (word_length 10 s + 1) s)
line_split s h =
    let w = word_length 10 s in
    let tail : drop w s ≡ 10 ∷ drop (w + 1) s = drop_more s w 0 h ∙ ap (λ c. c ∷ drop (w + 1) s) (end_here s h) in
    sym (take-append-drop w s) ∙ ap (λ z. take w s ++ z) tail

-- ---- the line at a place

next_is : (text : Bytes) (at : ℕ) → word_length 10 (drop at text) < length (drop at text) → drop (next_place text at) text ≡ drop (word_length 10 (drop at text) + 1) (drop at text)
unfolding next_place behind
next_is text at h =
    let w = word_length 10 (drop at text) in
    let whole : drop (w + 1) (drop at text) ≡ drop (at + (w + 1)) text = drop-drop (w + 1) at text in
    let size : length (drop (w + 1) (drop at text)) ≡ length text - (at + (w + 1)) = ap length whole ∙ length-drop (at + (w + 1)) text in
    let left : length (drop at text) ≡ length text - at = length-drop at text in
    let place : length text - length (drop (w + 1) (drop at text)) ≡ at + (w + 1) = omega arith in
    ap (λ n. drop n text) place ∙ sym whole

read_step : (text : Bytes) (at : ℕ) (line : MapLine) (t : Bool) → nat_lt (length (until 10 (drop at text))) (length (drop at text)) ≡ t → cond t (line_of (until 10 (drop at text))) None ≡ Some line → drop at text ≡ ended_text line ++ drop (next_place text at) text
unfolding until ended_text
read_step text at line true e h =
    let s = drop at text in
    let w = word_length 10 s in
    let size : length (take w s) ≡ min w (length s) = length-take w s in
    let less : length (take w s) < length s = ltb-true (length (take w s)) (length s) e in
    let lt : w < length s = omega (arith, clamps) in
    line_split s lt
    ∙ ap (λ u. u ++ (10 ∷ drop (w + 1) s)) (sym (text_of_line (take w s) line h))
    ∙ ap (λ z. line_text line ++ (10 ∷ z)) (sym (next_is text at lt))
    ∙ sym (append_assoc (line_text line) (10 ∷ []) (drop (next_place text at) text))
read_step text at line false e h = absurd (cc)

-- a line that is read at a place stands there with its end, and what is left behind it follows
pub line_stands : (text : Bytes) (at : ℕ) (line : MapLine) → line_at text at ≡ Some line → drop at text ≡ ended_text line ++ drop (next_place text at) text
unfolding line_at
line_stands text at line h = read_step text at line (nat_lt (length (until 10 (drop at text))) (length (drop at text))) refl h

-- ---- the first line

head_split : (flow : Flow) (text : Bytes) → nat_lt (length (until 10 text)) (length text) ≡ true → until 10 text ≡ head_text (length flow.blocks.items) flow.width → text ≡ (head_text (length flow.blocks.items) flow.width ++ (10 ∷ [])) ++ drop (next_place text 0) text
unfolding until
head_split flow text e same =
    let w = word_length 10 text in
    let head = head_text (length flow.blocks.items) flow.width in
    let size : length (take w text) ≡ min w (length text) = length-take w text in
    let less : length (take w text) < length text = ltb-true (length (take w text)) (length text) e in
    let lt : w < length text = omega (arith, clamps) in
    line_split text lt
    ∙ ap (λ u. u ++ (10 ∷ drop (w + 1) text)) same
    ∙ ap (λ z. head ++ (10 ∷ z)) (sym (next_is text 0 lt))
    ∙ sym (append_assoc head (10 ∷ []) (drop (next_place text 0) text))

pub head_stands : (flow : Flow) (text : Bytes) → has_head flow text ≡ true → text ≡ (head_text (length flow.blocks.items) flow.width ++ (10 ∷ [])) ++ drop (next_place text 0) text
unfolding has_head
head_stands flow text h =
    let k = and_parts (nat_lt (length (until 10 text)) (length text)) (same_bytes (until 10 text) (head_text (length flow.blocks.items) flow.width)) h in
    head_split flow text k.0 (same_bytes_same (until 10 text) (head_text (length flow.blocks.items) flow.width) k.1)
