-- A unit that divides by a digit, as the one file that is held, and what the expansion makes of it.
use Rattle.std.specs.Prelude.{ℕ, true, false, List, [], ◌∷◌, ◌++◌, codes}
use Rattle.std.specs.Ordering.{nat_cmp}
use Rattle.std.specs.Cmp.Lexicographic.{slice_cmp}
use Rattle.std.specs.FinMap as map
use Rattle.cc_base.specs.Outside.{Files}
use Rattle.cc_base.specs.declared.lexemes.Kind.{Kind}
use Rattle.cc_base.specs.declared.lexemes.Kind.TheVariants as kind
use Rattle.cc_base.specs.declared.lexemes.Token.{Token}
use Rattle.c_layout.specs.Models.{lp64}
use Rattle.c_layout.specs.declared.unit_tokens.Unit7.{Unit7}
use Rattle.cli_examples.specs.Units.WorkedPlaces.{at}

abbrev pub Bytes : Type 0
Bytes = List ℕ

-- `int main(void){return 1/0;}`, with this digit in place of 0
abbrev pub text_with : Bytes → Bytes
text_with digit = codes "int main(void){return 1/" ++ (digit ++ codes ";}")

abbrev pub unit_text : Bytes
unit_text = text_with (codes "0")

abbrev pub name : Bytes
name = codes "a.c"

-- the files that hold this text alone
abbrev pub held_with : Bytes → Files
held_with text = map.from_sorted {R = slice_cmp nat_cmp} ((name, text) ∷ [])

abbrev pub held : Files
held = held_with unit_text

-- ---- the tokens

abbrev pub token : Kind → Bytes → ℕ → Token
token k text column = record { kind = k; text = text; place = at column; first = false; space = false }

abbrev pub tokens_with : Bytes → List Token
tokens_with digit =
    record { kind = kind.Name; text = codes "int"; place = at 1; first = true; space = false }
    ∷ (record { kind = kind.Name; text = codes "main"; place = at 5; first = false; space = true }
    ∷ (token kind.Punct (codes "(") 9 ∷ (token kind.Name (codes "void") 10 ∷ (token kind.Punct (codes ")") 14 ∷ (token kind.Punct (codes "{") 15 ∷ (token kind.Name (codes "return") 16
    ∷ (record { kind = kind.Number; text = codes "1"; place = at 23; first = false; space = true }
    ∷ (token kind.Punct (codes "/") 24 ∷ (token kind.Number digit 25 ∷ (token kind.Punct (codes ";") 26 ∷ (token kind.Punct (codes "}") 27 ∷ [])))))))))))

abbrev pub expanded_with : Bytes → Unit7
expanded_with digit = record { tokens = tokens_with digit; model = lp64 }

abbrev pub expanded : Unit7
expanded = expanded_with (codes "0")
