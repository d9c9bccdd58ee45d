-- Which directive a line is (6.10), and the name of a header (6.4.7).
use Rattle.std.specs.Prelude.{true, false, ℕ, ◌-◌, ◌==◌, Bool, cond, codes, nat_eq, List, [], ◌∷◌, take, length, Option, Some, None, unwrap_or}
use Rattle.std.specs.Cmp.Lexicographic.{pointwise}
use Rattle.std.specs.Str.Lossy.{utf8_valid_len}
use Rattle.c_preproc_directives.specs.declared.directive_names.Directive.{Directive}
use Rattle.c_preproc_directives.specs.declared.directive_names.Directive.TheVariants.{If, Ifdef, Ifndef, Elif, Else, Endif, Include, Define, Undef, Error, Pragma, Unknown}
use Rattle.c_preproc_directives.specs.declared.directive_names.HeaderName.{HeaderName}

abbrev pub is_conditional : Directive → Bool
is_conditional If = true
is_conditional Ifdef = true
is_conditional Ifndef = true
is_conditional Elif = true
is_conditional Else = true
is_conditional Endif = true
is_conditional d = false

abbrev pub is_include : Directive → Bool
is_include Include = true
is_include d = false

-- the conditional directives (6.10.1)
abbrev pub conditional_named : List ℕ → Option Directive
conditional_named name =
    cond (pointwise nat_eq name (codes "if")) (Some If) (cond (pointwise nat_eq name (codes "ifdef")) (Some Ifdef) (cond (pointwise nat_eq name (codes "ifndef")) (Some Ifndef)
    (cond (pointwise nat_eq name (codes "elif")) (Some Elif) (cond (pointwise nat_eq name (codes "else")) (Some Else) (cond (pointwise nat_eq name (codes "endif")) (Some Endif) None)))))

-- all others
abbrev pub other_named : List ℕ → Directive
other_named name =
    cond (pointwise nat_eq name (codes "include")) Include (cond (pointwise nat_eq name (codes "define")) Define (cond (pointwise nat_eq name (codes "undef")) Undef
    (cond (pointwise nat_eq name (codes "error")) Error (cond (pointwise nat_eq name (codes "pragma")) Pragma Unknown))))

-- the directive with a name
abbrev pub directive_named : List ℕ → Directive
directive_named name = unwrap_or (conditional_named name) (other_named name)

-- a header: its name, and whether it stands in `"`
pub record Header : Type 0 where
  pub name : List ℕ
  pub quoted : Bool

abbrev pub header_of : HeaderName → Header
header_of h = record { name = h.name.now; quoted = h.quoted }

abbrev pub is_utf8 : List ℕ → Bool
is_utf8 bytes = nat_eq (utf8_valid_len bytes) (length bytes)

abbrev pub header_between : ℕ → List ℕ → Option Header
header_between quote name = cond (is_utf8 name) (Some (record { name = name; quoted = quote == 34 })) None

-- the name between the quotes or angle brackets of a header name
abbrev pub header_name : List ℕ → Option Header
header_name [] = None
header_name (quote ∷ more) = cond (nat_eq (length more) 0) None (header_between quote (take (length more - 1) more))
