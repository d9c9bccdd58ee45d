-- The punctuators of 6.4.6, without digraphs.
use Rattle.std.specs.Prelude.{ℕ, Bool, ◌||◌, ◌&&◌, ◌==◌, if◌then◌else◌, List, [], ◌∷◌, codes, nat_eq}
use Rattle.std.specs.Cmp.Lexicographic.{pointwise}
use Rattle.std.specs.List.{list_any}

abbrev pub punctuators : List (List ℕ)
punctuators =
    codes "[" ∷ (codes "]" ∷ (codes "(" ∷ (codes ")" ∷ (codes "{" ∷ (codes "}" ∷ (codes "." ∷ (codes "->"
    ∷ (codes "++" ∷ (codes "--" ∷ (codes "&" ∷ (codes "*" ∷ (codes "+" ∷ (codes "-" ∷ (codes "~" ∷ (codes "!"
    ∷ (codes "/" ∷ (codes "%" ∷ (codes "<<" ∷ (codes ">>" ∷ (codes "<" ∷ (codes ">" ∷ (codes "<=" ∷ (codes ">="
    ∷ (codes "==" ∷ (codes "!=" ∷ (codes "^" ∷ (codes "|" ∷ (codes "&&" ∷ (codes "||"
    ∷ (codes "?" ∷ (codes ":" ∷ (codes ";" ∷ (codes "..."
    ∷ (codes "=" ∷ (codes "*=" ∷ (codes "/=" ∷ (codes "%=" ∷ (codes "+=" ∷ (codes "-=" ∷ (codes "<<=" ∷ (codes ">>="
    ∷ (codes "&=" ∷ (codes "^=" ∷ (codes "|="
    ∷ (codes "," ∷ (codes "#" ∷ (codes "##" ∷ [])))))))))))))))))))))))))))))))))))))))))))))))

abbrev pub same_bytes : List ℕ → List ℕ → Bool
same_bytes s t = pointwise nat_eq s t

unfoldable pub is_punctuator : List ℕ → Bool
is_punctuator t = list_any (same_bytes t) punctuators

-- the punctuators of one byte that no other one begins with
abbrev pub is_single : ℕ → Bool
is_single b = b == 91 || b == 93 || b == 40 || b == 41 || b == 123 || b == 125 || b == 126 || b == 63 || b == 58 || b == 59 || b == 44

-- those that stand alone, doubled, or before `=`
abbrev pub is_doubled : ℕ → Bool
is_doubled b = b == 43 || b == 38 || b == 124

-- those that stand alone or before `=`
abbrev pub is_assigned : ℕ → Bool
is_assigned b = b == 42 || b == 47 || b == 37 || b == 94 || b == 33 || b == 61

-- `<` and `>`, doubled and before `=`
abbrev pub shifted_length : ℕ → ℕ → ℕ → ℕ
shifted_length b n m = if n == b then (if m == 61 then 3 else 2) else if n == 61 then 2 else 1

-- how many bytes of `b n m` are the longest punctuator that begins there; 0 for none
unfoldable pub punctuator_length : ℕ → ℕ → ℕ → ℕ
punctuator_length b n m =
    if is_single b then 1
    else if b == 46 then (if n == 46 && m == 46 then 3 else 1)
    else if b == 45 then (if n == 62 || n == 45 || n == 61 then 2 else 1)
    else if is_doubled b then (if n == b || n == 61 then 2 else 1)
    else if is_assigned b then (if n == 61 then 2 else 1)
    else if b == 35 then (if n == 35 then 2 else 1)
    else if b == 60 || b == 62 then shifted_length b n m
    else 0
