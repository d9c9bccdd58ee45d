-- What a `#define` line defines behind its name (6.10.3).
use Rattle.std.specs.Prelude.{◌≡◌, ℕ, Bool, true, false, not, ◌&&◌, ◌||◌, cond, codes, nat_eq, List, [], ◌∷◌, ◌++◌, map, position, Option, Some, None, option_map}
use Rattle.std.specs.List.{list_any}
use Rattle.std.specs.Cmp.Lexicographic.{pointwise}
use Rattle.c_preproc_macros.specs.declared.lexeme.Lexeme.{Lexeme}
use Rattle.c_preproc_macros.specs.declared.lexeme.Lexeme.TheVariants.{Name, Painted, Open, Close, Comma, Other}
use Rattle.cc_base.specs.declared.lexemes.Kind.{Kind}
use Rattle.cc_base.specs.declared.lexemes.Kind.TheVariants as kind
use Rattle.c_preproc_macros.specs.declared.macro_table.Part.{Part}
use Rattle.c_preproc_macros.specs.declared.macro_table.Part.TheVariants.{Parameter, Word}
use Rattle.c_preproc_macros.specs.Lexemes.{mark_of}
use Rattle.c_preproc_macros.specs.Numbering.{text_at}
use Rattle.c_preproc_macros.specs.Rules.{Defined}
use Rattle.c_preproc_directives.specs.declared.macro_definitions.DefinitionFault.{DefinitionFault}
use Rattle.c_preproc_directives.specs.declared.macro_definitions.DefinitionFault.TheVariants.{Malformed, Memory}

abbrev pub is_spelled : List (List ℕ) → ℕ → List ℕ → Bool
is_spelled texts n text = pointwise nat_eq (text_at texts n) text

-- a name that may be no parameter
abbrev pub is_barred : List (List ℕ) → ℕ → Bool
is_barred texts n = is_spelled texts n (codes "__VA_ARGS__")

-- a name that `#define` and `#undef` may have
abbrev pub may_be_defined : List (List ℕ) → ℕ → Bool
may_be_defined texts n = not (is_spelled texts n (codes "defined")) && not (is_spelled texts n (codes "__STDC__"))

-- the parameters, and what stands behind their `)`
pub record Heading : Type 0 where
  pub names : List ℕ
  pub list : List Lexeme

-- the names with one more
abbrev pub fresh_name : (ℕ → Bool) → List ℕ → ℕ → Option (List ℕ)
fresh_name barred names n = cond (barred n) None (cond (list_any (nat_eq n) names) None (Some (names ++ n ∷ [])))

abbrev pub fresh : (ℕ → Bool) → List ℕ → Lexeme → Option (List ℕ)
fresh barred names (Name n m) = fresh_name barred names n
fresh barred names x = None

-- whether a token ends the parameters; None where it does not part them either
abbrev pub ends : Lexeme → Option Bool
ends (Close m) = Some true
ends (Comma m) = Some false
ends x = None

abbrev pub parted : Option Bool → List ℕ → List Lexeme → (List ℕ → Option Heading) → Option Heading
parted None names more go = None
parted (Some true) names more go = Some (record { names = names; list = more })
parted (Some false) names more go = go names

abbrev pub with_names : Option (List ℕ) → Lexeme → List Lexeme → (List ℕ → Option Heading) → Option Heading
with_names None y more go = None
with_names (Some names) y more go = parted (ends y) names more go

-- one or more parameters behind those that were read
abbrev pub heading : (ℕ → Bool) → List ℕ → List Lexeme → Option Heading
heading barred names [] = None
heading barred names (x ∷ []) = None
heading barred names (x ∷ y ∷ more) = with_names (fresh barred names x) y more (λ names1. heading barred names1 more)

abbrev pub closes : Lexeme → Bool
closes (Close m) = true
closes x = false

-- the parameters behind a `(`
abbrev pub headed : (ℕ → Bool) → List Lexeme → Option Heading
headed barred [] = None
headed barred (x ∷ ts) = cond (closes x) (Some (record { names = []; list = ts })) (heading barred [] (x ∷ ts))

-- a part of a replacement list
abbrev pub part_at : Option ℕ → Lexeme → Part
part_at None x = Word x
part_at (Some k) x = Parameter k (mark_of x).space

abbrev pub part_in : List ℕ → Lexeme → Part
part_in names (Name n m) = part_at (position (nat_eq n) names) (Name n m)
part_in names x = Word x

abbrev pub function_like : Heading → Defined
function_like h = record { parameters = Some h.names; body = map (part_in h.names) h.list }

abbrev pub object_like : List Lexeme → Defined
object_like list = record { parameters = None; body = map (part_in []) list }

-- behind a name without white space: a `(` begins the parameters
abbrev pub close_by : (ℕ → Bool) → Lexeme → List Lexeme → Option Defined
close_by barred (Open m) more = option_map function_like (headed barred more)
close_by barred x more = None

-- the macro that the rest of a line behind its name defines
abbrev pub definition : (ℕ → Bool) → List Lexeme → Option Defined
definition barred [] = Some (object_like [])
definition barred (x ∷ more) = cond (mark_of x).space (Some (object_like (x ∷ more))) (close_by barred x more)

-- there is none, unless memory ran out
abbrev pub Refuses : {A : Type 0} → Option A → DefinitionFault → Type 0
Refuses found Malformed = found ≡ None
Refuses found Memory = Unit {0}

-- the kinds by number
abbrev pub kind_rank : Kind → ℕ
kind_rank kind.Name = 0
kind_rank kind.Number = 1
kind_rank kind.Char = 2
kind_rank kind.Str = 3
kind_rank kind.Punct = 4
kind_rank kind.HeaderName = 5

abbrev pub is_name : ℕ → Lexeme → Bool
is_name n (Name k m) = nat_eq n k
is_name n x = false

abbrev pub is_open : Lexeme → Bool
is_open (Open m) = true
is_open x = false

abbrev pub is_comma : Lexeme → Bool
is_comma (Comma m) = true
is_comma x = false

abbrev pub is_other : Kind → ℕ → Lexeme → Bool
is_other k n (Other l i m) = nat_eq (kind_rank k) (kind_rank l) && nat_eq n i
is_other k n x = false

-- two tokens of a replacement list are spelled alike
abbrev pub same_spelling : Lexeme → Lexeme → Bool
same_spelling (Name n m) y = is_name n y
same_spelling (Open m) y = is_open y
same_spelling (Close m) y = closes y
same_spelling (Comma m) y = is_comma y
same_spelling (Other k n m) y = is_other k n y
same_spelling (Painted n m) y = false

-- both have white space before them, or neither; the first of a list may have it or not (6.10.3p7)
abbrev pub same_space : Bool → Bool → Bool → Bool
same_space is_first s t = is_first || cond s t (not t)

abbrev pub is_parameter : Bool → ℕ → Bool → Part → Bool
is_parameter is_first i s (Parameter j t) = nat_eq i j && same_space is_first s t
is_parameter is_first i s (Word y) = false

abbrev pub is_word : Bool → Lexeme → Part → Bool
is_word is_first x (Parameter j t) = false
is_word is_first x (Word y) = same_spelling x y && same_space is_first (mark_of x).space (mark_of y).space

abbrev pub same_part : Bool → Part → Part → Bool
same_part is_first (Parameter i s) y = is_parameter is_first i s y
same_part is_first (Word x) y = is_word is_first x y

abbrev pub same_rest : List Part → List Part → Bool
same_rest [] [] = true
same_rest [] (b ∷ y) = false
same_rest (a ∷ x) [] = false
same_rest (a ∷ x) (b ∷ y) = same_part false a b && same_rest x y

abbrev pub same_body : List Part → List Part → Bool
same_body [] [] = true
same_body [] (b ∷ y) = false
same_body (a ∷ x) [] = false
same_body (a ∷ x) (b ∷ y) = same_part true a b && same_rest x y

abbrev pub same_parameters : Option (List ℕ) → Option (List ℕ) → Bool
same_parameters None None = true
same_parameters None (Some y) = false
same_parameters (Some x) None = false
same_parameters (Some x) (Some y) = pointwise nat_eq x y

-- two definitions are the same: their parameters, and their lists with the white space in them (6.10.3p1 and p2)
abbrev pub same_definition : Defined → Defined → Bool
same_definition d e = same_parameters d.parameters e.parameters && same_body d.body e.body
