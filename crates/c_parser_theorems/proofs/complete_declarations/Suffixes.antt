-- The brackets of declarators are read, with both of their heights.
use Rattle.std.proofs.Common.{◌≡◌, ℕ, zero, suc, ◌+◌, ◌≤◌, ◌<◌, false, max, List, [], ◌∷◌, length, Option, Some, None, refl, arith}
use Rattle.c_layout.specs.SyntaxTrees.{Tree}
use Rattle.c_layout.specs.DeclarationTrees.{SuffixView}
use Rattle.c_parser_tokens.specs.declared.terminals.Terminal.{Terminal}
use Rattle.c_parser_tokens.specs.declared.terminals.Punctuator.TheVariants as p
use Rattle.c_parser_expression_grammar.specs.Expressions.{Derives}
use Rattle.c_parser_expression_grammar.specs.Fronts.{first_symbol, first_place, behind_first, IsSign}
use Rattle.c_parser_expression_grammar.specs.Spans.{Chain}
use Rattle.c_parser_declarations.specs.Grammar.Declarators.{Length, IsSuffix, length_height, flat, climbed}
use Rattle.c_parser_theorems.proofs.unique_expressions.Levels.{ends_at, below}
use Rattle.c_parser_expression_grammar.specs.Readings.{is_left_bracket}
use Rattle.c_parser_expression_grammar.specs.TypeNameReaders.{names_of, readers_inside}
use Rattle.c_parser_theorems.proofs.complete_expressions.Begins.{no_bracket}
use Rattle.c_parser_theorems.proofs.complete_expressions.Lifts.{found_inside}
use Rattle.c_parser_theorems.proofs.complete_expressions.Shrinking.{length_behind, shrinks}
use Rattle.c_parser_theorems.proofs.complete_expressions.TypeNames.{all_expressions_found}
use Rattle.c_parser_declarations.specs.Grammar.Items.{item_of}
use Rattle.c_parser_declarations.specs.Grammar.DeclaratorReaders.{suffix, suffixes}

-- the lengths are below the budget
abbrev pub AllLow : ℕ → List SuffixView → Type 0
AllLow b [] = Unit {0}
AllLow b (s ∷ more) = (length_height s.length < b) × AllLow b more

suffix_is : (s : SuffixView) (ts : List Terminal) (len : Option Tree) → s.at ≡ first_place ts → s.length ≡ len → s ≡ record { at = first_place ts; length = len }
suffix_is s ts len place is = λ i. record { at = place i; length = is i }

suffix_read : (known : List (List ℕ)) (b : ℕ) (len : Option Tree) (s : SuffixView) (ts opened last rest : List Terminal) → s ≡ record { at = first_place ts; length = len } → IsSign p.LeftBracket ts opened → Length known len opened last → IsSign p.RightBracket last rest → length_height len < b →
    suffix (readers_inside known b) ts ≡ Some (item_of s (length_height len) rest)
suffix_read known b None s ts opened last rest is opens same shut small =
    let here : last ≡ opened = same in
    let shut-at : IsSign p.RightBracket (behind_first ts) rest = rw opens.behind at (rw here at shut) in
    rw (shut-at.symbol, shut-at.behind, is) refl
suffix_read known b (Some e) s ts opened last rest is opens d shut small =
    let from : Derives e known 2 (behind_first ts) last = rw opens.behind at d in
    let off = no_bracket e known 2 (behind_first ts) last from in
    let one = (found_inside (names_of known) known e (all_expressions_found known e) b).conditional (behind_first ts) last from (ends_at 2 shut (omega arith)) small in
    rw (off, one, shut.symbol, shut.behind, is) refl

one_suffix : (known : List (List ℕ)) (b : ℕ) (s : SuffixView) (ts rest : List Terminal) → IsSuffix known s ts rest → length_height s.length < b → suffix (readers_inside known b) ts ≡ Some (item_of s (length_height s.length) rest)
one_suffix known b s ts rest is small = suffix_read known b s.length s ts is.inside is.last rest (suffix_is s ts s.length is.place refl) is.opens is.length is.closes small

pub suffixes_read : (known : List (List ℕ)) (b : ℕ) (arrays : List SuffixView) (turns n c : ℕ) (ts rest : List Terminal) → Chain (IsSuffix known) arrays ts rest → is_left_bracket (first_symbol rest) ≡ false → AllLow b arrays → max c b + length arrays < 4294967295 → length arrays ≤ turns →
    suffixes (readers_inside known b) turns n c ts ≡ Some (record { arrays = arrays; flat = flat n arrays; climbed = climbed c arrays; rest = rest })
suffixes_read known b [] zero n c ts rest all stop low room enough = rw all refl
suffixes_read known b [] (suc turns) n c ts rest all stop low room enough = let here : is_left_bracket (first_symbol ts) ≡ false = rw all at stop in rw (here, all) refl
suffixes_read known b (s ∷ more) zero n c ts rest all stop low room enough = absurd (omega arith)
suffixes_read known b (s ∷ more) (suc turns) n c ts rest (a, is, all) stop (one-low, low) room enough =
    let one = one_suffix known b s ts a is one-low in
    let fits = below (max c (length_height s.length)) 4294967295 (omega arith) in
    let tail = suffixes_read known b more turns (max n (length_height s.length)) (max c (length_height s.length) + 1) a rest all stop low (omega arith) (omega arith) in
    rw (is.opens.symbol, one, fits, tail) refl

length_shrinks : (known : List (List ℕ)) (len : Option Tree) (ts rest : List Terminal) → Length known len ts rest → length rest ≤ length ts
length_shrinks known None ts rest same = let here : rest ≡ ts = same in rw here (omega arith)
length_shrinks known (Some e) ts rest d = shrinks e known 2 ts rest d

pub suffixes_few : (known : List (List ℕ)) (arrays : List SuffixView) (ts rest : List Terminal) → Chain (IsSuffix known) arrays ts rest → length arrays + length rest ≤ length ts
suffixes_few known [] ts rest all = let same : rest ≡ ts = all in rw same (omega arith)
suffixes_few known (s ∷ more) ts rest (a, is, all) =
    let one = length_behind ts is.inside is.opens in
    let two = length_shrinks known s.length is.inside is.last is.length in
    let three = length_behind is.last a is.closes in
    let tail = suffixes_few known more a rest all in
    omega arith

-- ---- heights

pub flat_high : (n : ℕ) (arrays : List SuffixView) → n ≤ flat n arrays
flat_high n [] = omega arith
flat_high n (s ∷ more) = let h = flat_high (max n (length_height s.length)) more in omega arith

pub climbed_high : (n : ℕ) (arrays : List SuffixView) → n ≤ climbed n arrays
climbed_high n [] = omega arith
climbed_high n (s ∷ more) = let h = climbed_high (max n (length_height s.length) + 1) more in omega arith

pub low_flat : (n b : ℕ) (arrays : List SuffixView) → flat n arrays < b → AllLow b arrays
low_flat n b [] small = tt
low_flat n b (s ∷ more) small = let h = flat_high (max n (length_height s.length)) more in (omega arith, low_flat (max n (length_height s.length)) b more small)

pub low_climbed : (n b : ℕ) (arrays : List SuffixView) → climbed n arrays ≤ b → AllLow b arrays
low_climbed n b [] small = tt
low_climbed n b (s ∷ more) small = let h = climbed_high (max n (length_height s.length) + 1) more in (omega arith, low_climbed (max n (length_height s.length) + 1) b more small)
