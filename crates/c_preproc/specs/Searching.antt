-- Where an included file is searched (6.10.2), and what is found.
use Rattle.std.specs.Prelude.{◌≡◌, ℕ, suc, ◌==◌, if◌then◌else◌, List, [], ◌∷◌, ◌++◌, take, map, Option, Some, None, ◌⊎◌, codes, option_map}
use Rattle.cc_base.specs.Outside.{Files, file_at, Rose}
use Rattle.c_layout.specs.declared.data_model.Model.{Model}
use Rattle.c_library.specs.Headers.Headers.{header_text}

-- the place behind the last `/` of the rest of a name, or the last one before that
abbrev pub slash_end : ℕ → ℕ → List ℕ → ℕ
slash_end at last [] = last
slash_end at last (b ∷ s) = slash_end (suc at) (if b == 47 then suc at else last) s

-- a name up to its last `/`, with it
unfoldable pub directory_of : List ℕ → List ℕ
directory_of name = take (slash_end 0 0 name) name

abbrev pub in_directory : List ℕ → List ℕ → List ℕ
in_directory name directory = directory ++ (47 ∷ name)

abbrev pub beside : Option (List ℕ) → List ℕ → List (List ℕ)
beside None name = []
beside (Some includer) name = (directory_of includer ++ name) ∷ []

-- the names that are tried in turn: in the directory of the including file where the name stands in quotes, then in
-- each of the directories
abbrev pub searched_names : Option (List ℕ) → List (List ℕ) → List ℕ → List (List ℕ)
searched_names includer dirs name = beside includer name ++ map (in_directory name) dirs

-- a file by its name as it is printed, and its bytes
pub record Found : Type 0 where
  pub name : List ℕ
  pub bytes : List ℕ

abbrev pub found_of : List ℕ → List ℕ → Found
found_of name bytes = record { name = name; bytes = bytes }

-- files hold none of the names; where they are not told, there is no name or a fault was counted
abbrev pub LackAll : Option Files → ℕ → ℕ → List (List ℕ) → Type 0
LackAll files before now [] = Unit {0}
LackAll None before now (n ∷ ns) = Rose before now
LackAll (Some files) before now (n ∷ ns) = (file_at files n ≡ None) × LackAll (Some files) before now ns

-- the first of the names that is held is this file
abbrev pub FirstHeld : Option Files → ℕ → ℕ → List (List ℕ) → Found → Type 0
FirstHeld files before now [] f = ⊥
FirstHeld None before now (n ∷ ns) f = Unit {0}
FirstHeld (Some files) before now (n ∷ ns) f = ((n ≡ f.name) × (file_at files n ≡ Some f.bytes)) ⊎ ((file_at files n ≡ None) × FirstHeld (Some files) before now ns f)

abbrev pub built_in : List ℕ → Model → Option Found
built_in name model = option_map (λ t. found_of (codes "<" ++ (name ++ codes ">")) t) (header_text name model)

-- what a search gives: the first file that is held, or else the built-in header, if there is one
abbrev pub Searches : Option Files → ℕ → ℕ → List (List ℕ) → List ℕ → Model → Option Found → Type 0
Searches files before now names name model (Some f) = FirstHeld files before now names f ⊎ (LackAll files before now names × (built_in name model ≡ Some f))
Searches files before now names name model None = LackAll files before now names × (built_in name model ≡ None)
