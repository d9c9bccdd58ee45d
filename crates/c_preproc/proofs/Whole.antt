-- A unit, from its main file on.
use Rattle.std.proofs.Common.{◌≡◌, ◌≤◌, ◌<◌, ◌+◌, ℕ, Bool, true, cond, nat_le, nat_lt, List, [], length, Option, Some, Result, Ok, Err, IfOk, refl, sym, ◌∙◌, ap, subst, arith}
use Rattle.std.proofs.lemmas.Bool.Decides.{nat_tests}
use Rattle.cc_base.specs.Outside.{Files, file_at, Holds}
use Rattle.cc_base.specs.declared.refusals.Stop.{Stop}
use Rattle.cc_base.specs.declared.refusals.Stop.TheVariants as stop
use Rattle.c_layout.specs.declared.data_model.Model.{Model}
use Rattle.c_layout.specs.declared.unit_tokens.Unit7.{Unit7}
use Rattle.c_lexer.specs.FileTokens.{file_tokens}
use Rattle.c_preproc_macros.specs.Numbering.{number_in, with_text}
use Rattle.c_preproc_directives.specs.OpenFiles.{Opened}
use Rattle.c_preproc.specs.Searching.{found_of}
use Rattle.c_preproc.specs.Known.{Known, Gives, start}
use Rattle.c_preproc.specs.Units.{world_of, Refused, refused, sought, Opening, opening, opened_by, entered, long_refused, Preprocessed, unit, main_read, unit_from}
use Rattle.c_preproc.specs.Told.{UnitGives, IsLongStop, unit_as, UnitFrom}
use Rattle.c_preproc.specs.Placed.{is_in, all_in, StandsIn, KnownIn, OpenIn, StopIn, ReadIn}
use Rattle.c_preproc.proofs.FilesMet.{Named, named, OpeningIn, opened_in}

-- ---- from the name of the main file on

within : (n most : ℕ) → n ≤ most → nat_le n most ≡ true
within n most h = grind (arith, nat_tests)

from_result : (wanted : Option (Result Preprocessed Refused)) (x : Result Preprocessed Refused) (names : List (List ℕ)) (r : Result Unit7 Stop) → wanted ≡ Some x → UnitGives x (unit_as names) names r → UnitFrom wanted names r
from_result wanted x names (Ok u) e g = e ∙ ap Some g
from_result wanted x names (Err (stop.Refused f)) e g = e ∙ ap Some g
from_result wanted x names (Err stop.NotHeld) e g = absurd g
from_result wanted x names (Err stop.ReadFault) e g = tt
from_result wanted x names (Err stop.Memory) e g = tt

pub from_held : (t : Option Files) (files : Files) (dirs : List (List ℕ)) (model : Model) (main bytes : List ℕ) (names : List (List ℕ)) (r : Result Unit7 Stop) → t ≡ Some files → Holds t main bytes → length bytes ≤ 1048576
    → UnitGives (unit (world_of (sought files) dirs model) main bytes) (unit_as names) names r → UnitFrom (unit_from files dirs model main) names r
from_held t files dirs model main bytes names r e h k g =
    let held : file_at files main ≡ Some bytes = subst (λ v. Holds v main bytes) e h in
    from_result (unit_from files dirs model main) (unit (world_of (sought files) dirs model) main bytes) names r
    (ap (main_read (world_of (sought files) dirs model) main) held ∙ ap (λ b. Some (cond b (unit (world_of (sought files) dirs model) main bytes) (Err (long_refused main [])))) (within (length bytes) 1048576 k)) g

-- ---- places

pub main_in : (main : List ℕ) (file : ℕ) (names now : List (List ℕ)) → file ≡ number_in names main → now ≡ with_text names main → file < length now
main_in main file names now e h = let w : Named names (with_text names main) (number_in names main) = named main names in subst (λ v. v < length now) (sym e) (subst (λ v. number_in names main < length v) (sym h) w.below)

pub opening_in : (n file : ℕ) (bytes : List ℕ) (k after : Known) (top : Opened) → file < n → k ≡ start → opened_by file k (file_tokens file bytes) ≡ Ok (opening after top) → KnownIn n after × OpenIn n top
opening_in n file bytes k after top h e g = subst (OpeningIn n) g (opened_in n file bytes k h (subst (KnownIn n) (sym e) refl))

pub not_opened_in : {A : Type 0} (n file : ℕ) (bytes : List ℕ) (k : Known) (view : A → Opening) (s : Stop) → file < n → k ≡ start → Gives (opened_by file k (file_tokens file bytes)) view (Err s) → StopIn n s
not_opened_in n file bytes k view (stop.Refused f) h e g = subst (OpeningIn n) g (opened_in n file bytes k h (subst (KnownIn n) (sym e) refl))
not_opened_in n file bytes k view stop.NotHeld h e g = tt
not_opened_in n file bytes k view stop.ReadFault h e g = tt
not_opened_in n file bytes k view stop.Memory h e g = tt

pub long_in : (main : List ℕ) (names now : List (List ℕ)) (s : Stop) → IsLongStop main names now s → StopIn (length now) s
long_in main names now (stop.Refused f) l =
    let w : Named names (with_text names main) (number_in names main) = named main names in
    let there : is_in (length (with_text names main)) (long_refused main names).fault.place ≡ true = less (number_in names main) (length (with_text names main)) w.below in
    subst (λ (v : Refused). is_in (length v.names) v.fault.place ≡ true) (sym l) there
  where
    less : (m n : ℕ) → m < n → nat_lt m n ≡ true
    less m n h = grind (arith, nat_tests)
long_in main names now stop.NotHeld l = tt
long_in main names now stop.ReadFault l = tt
long_in main names now stop.Memory l = tt

pub stands_stop : (n : ℕ) (s : Stop) → StopIn n s → StandsIn n (Err s)
stands_stop n (stop.Refused f) h = h
stands_stop n stop.NotHeld h = tt
stands_stop n stop.ReadFault h = tt
stands_stop n stop.Memory h = tt
