-- The pieces of a format, turn by turn.
use Rattle.std.proofs.Common.{◌≡◌, ◌<◌, ◌≤◌, ◌-◌, ◌+◌, ℕ, zero, suc, List, [], ◌∷◌, ◌++◌, length, Option, Some, None, option_map, refl, sym, ◌∙◌, ap, arith}
use Rattle.std.proofs.lemmas.List.{append-nil, append_assoc}
use Rattle.c_library.specs.declared.formats.printf_formats.Wanted.{Wanted}
use Rattle.c_library.specs.Formats.PrintfFormats.{PieceView, Ends, Passes, Takes, Faults, first_piece, with_wanted, wanted_from, wanted_within}

-- what is wanted behind this
abbrev pub with_all : List Wanted → Option (List Wanted) → Option (List Wanted)
with_all found None = None
with_all found (Some more) = Some (found ++ more)

one_turn : (n turn : ℕ) → turn < n → n - turn ≡ suc (n - (turn + 1))
one_turn n turn some = omega (arith, some)

no_turn : (n turn : ℕ) → n ≤ turn → n - turn ≡ zero
no_turn n turn all = omega (arith, all)

all_of_none : (o : Option (List Wanted)) → o ≡ with_all [] o
all_of_none None = refl
all_of_none (Some ws) = refl

with_one : (found : List Wanted) (w : Wanted) (o : Option (List Wanted)) → with_all found (option_map (with_wanted w) o) ≡ with_all (found ++ w ∷ []) o
with_one found w None = refl
with_one found w (Some ws) = ap Some (sym (append_assoc found (w ∷ []) ws))

at_piece : (n turn : ℕ) (found : List Wanted) (rest : List ℕ) (p : PieceView) → turn < n → first_piece rest ≡ p → with_all found (wanted_within (n - turn) rest) ≡ with_all found (wanted_from p (wanted_within (n - (turn + 1))))
unfolding wanted_within
at_piece n turn found rest p some is =
    ap (λ m. with_all found (wanted_within m rest)) (one_turn n turn some)
    ∙ ap (λ q. with_all found (wanted_from q (wanted_within (n - (turn + 1))))) is

pub begins : (n : ℕ) (format : List ℕ) → n ≡ length format → with_all [] (wanted_within (n - 0) format) ≡ wanted_within (length format) format
begins n format e =
    let same : n - 0 ≡ length format = omega (arith, e) in
    ap (λ m. with_all [] (wanted_within m format)) same ∙ sym (all_of_none (wanted_within (length format) format))

pub passes : (n turn : ℕ) (found : List Wanted) (rest more : List ℕ) (whole : Option (List Wanted)) → turn < n → with_all found (wanted_within (n - turn) rest) ≡ whole → first_piece rest ≡ Passes more → with_all found (wanted_within (n - (turn + 1)) more) ≡ whole
passes n turn found rest more whole some before is = sym (at_piece n turn found rest _ some is) ∙ before

pub takes : (n turn : ℕ) (found : List Wanted) (w : Wanted) (rest more : List ℕ) (whole : Option (List Wanted)) → turn < n → with_all found (wanted_within (n - turn) rest) ≡ whole → first_piece rest ≡ Takes w more → with_all (found ++ w ∷ []) (wanted_within (n - (turn + 1)) more) ≡ whole
takes n turn found w rest more whole some before is = sym (with_one found w _) ∙ (sym (at_piece n turn found rest _ some is) ∙ before)

pub ends : (n turn : ℕ) (found : List Wanted) (rest : List ℕ) (whole : Option (List Wanted)) → turn < n → with_all found (wanted_within (n - turn) rest) ≡ whole → first_piece rest ≡ Ends → Some found ≡ whole
ends n turn found rest whole some before is = ap Some (sym (append-nil found)) ∙ (sym (at_piece n turn found rest _ some is) ∙ before)

pub faults : (n turn : ℕ) (found : List Wanted) (rest : List ℕ) (whole : Option (List Wanted)) → turn < n → with_all found (wanted_within (n - turn) rest) ≡ whole → first_piece rest ≡ Faults → None ≡ whole
faults n turn found rest whole some before is = sym (at_piece n turn found rest _ some is) ∙ before

pub over : (n turn : ℕ) (found : List Wanted) (rest : List ℕ) (whole : Option (List Wanted)) → n ≤ turn → with_all found (wanted_within (n - turn) rest) ≡ whole → Some found ≡ whole
unfolding wanted_within
over n turn found rest whole all before = ap Some (sym (append-nil found)) ∙ (ap (λ m. with_all found (wanted_within m rest)) (sym (no_turn n turn all)) ∙ before)
