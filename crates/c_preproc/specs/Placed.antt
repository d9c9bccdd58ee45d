-- The places of a unit's tokens, and of its refusal, name files that were met.
use Rattle.std.specs.Prelude.{◌≡◌, ℕ, Bool, true, nat_lt, List, [], ◌∷◌, Result, Ok, Err}
use Rattle.std.specs.List.{list_all, All}
use Rattle.cc_base.specs.declared.diagnostics.Place.{Place}
use Rattle.cc_base.specs.declared.lexemes.Token.{Token}
use Rattle.cc_base.specs.declared.refusals.Stop.{Stop}
use Rattle.cc_base.specs.declared.refusals.Stop.TheVariants as stop
use Rattle.c_layout.specs.declared.unit_tokens.Unit7.{Unit7}
use Rattle.c_preproc_macros.specs.declared.lexeme.Lexeme.{Lexeme}
use Rattle.c_preproc_macros.specs.Places.{StandsBy}
use Rattle.c_preproc_directives.specs.declared.conditional_groups.Section.{Section}
use Rattle.c_preproc_directives.specs.OpenFiles.{Opened}
use Rattle.c_preproc.specs.Known.{Known}

-- a place in one of so many files
abbrev pub is_in : ℕ → Place → Bool
is_in files at = nat_lt at.file files

abbrev pub all_in : ℕ → List Token → Bool
all_in files tokens = list_all (λ t. is_in files t.place) tokens

-- the tokens of a unit, or its refusal, stand in one of so many files
abbrev pub StandsIn : ℕ → Result Unit7 Stop → Type 0
StandsIn files (Ok u) = all_in files u.tokens ≡ true
StandsIn files (Err (stop.Refused f)) = is_in files f.place ≡ true
StandsIn files (Err stop.NotHeld) = Unit {0}
StandsIn files (Err stop.ReadFault) = Unit {0}
StandsIn files (Err stop.Memory) = Unit {0}

-- tokens that stand in one of so many files
abbrev pub Stand : ℕ → List Lexeme → Type 0
Stand files xs = All (StandsBy (λ at. is_in files at ≡ true)) xs

abbrev pub SectionsIn : ℕ → List Section → Type 0
SectionsIn files [] = Unit {0}
SectionsIn files (s ∷ sections) = (is_in files s.place ≡ true) × SectionsIn files sections

-- an open file whose tokens and sections stand in one of so many files
pub record OpenIn (files : ℕ) (f : Opened) : Type 0 where
  pub unread : Stand files f.unread
  pub sections : SectionsIn files f.sections

abbrev pub AllOpenIn : ℕ → List Opened → Type 0
AllOpenIn files [] = Unit {0}
AllOpenIn files (f ∷ fs) = OpenIn files f × AllOpenIn files fs

abbrev pub KnownIn : ℕ → Known → Type 0
KnownIn files k = all_in files k.out ≡ true

-- a refusal stands in one of so many files
abbrev pub StopIn : ℕ → Stop → Type 0
StopIn files (stop.Refused f) = is_in files f.place ≡ true
StopIn files stop.NotHeld = Unit {0}
StopIn files stop.ReadFault = Unit {0}
StopIn files stop.Memory = Unit {0}

-- what is known behind a reading, or its refusal, stands in one of so many files
abbrev pub ReadIn : {A : Type 0} → ℕ → Known → Result A Stop → Type 0
ReadIn files k (Ok a) = KnownIn files k
ReadIn files k (Err s) = StopIn files s
