-- What is asked for, where the command line takes the words and where it finds a fault.
use Rattle.std.proofs.Common.{◌≡◌, ◌∙◌, ℕ, true, false, List, [], ◌∷◌, refl, sym, ap, inl, inr, true≢false}
use Rattle.clap.specs.Faults.{fault_of, is_simple_and_free}
use Rattle.clap.specs.Kinds.{Kinds, IsAmong, HasKind}
use Rattle.clap.specs.Simple.{App, is_simple, matches_of}
use Rattle.clap.specs.Values.{kind_of}
use Rattle.clap.specs.Walk.{Row}
use Rattle.clap.specs.declared.error.Error.{Error}
use Rattle.clap.specs.declared.error.kind.ErrorKind.{ErrorKind}
use Rattle.clap.proofs.OnLiterals.{clap_on_literals}
use Rattle.clap.proofs.WalkLemmas.{both}
use Rattle.cli_words.specs.Words.CommandLine.{command_app}
use Rattle.cli_words.specs.Words.Requests.{Asked, asked, asked_by_kind, asked_by_kinds, asked_in, is_memory_kind}
use Rattle.cli_words.proofs.words.OneFault.{AtMostOne, at_most_one}

command_is_simple : is_simple_and_free command_app ≡ true
unfolding command_app clap_on_literals
command_is_simple = refl

pub asked_when_taken : {X : Type 0} (a : App) (words : List (List ℕ)) (rows : List Row) (r : Asked) → a ≡ command_app → (is_simple_and_free a ≡ true → fault_of a words ≡ []) → (is_simple a ≡ true → (rows ≡ matches_of a words) × X) → r ≡ asked_in rows → r ≡ asked words
asked_when_taken a words rows r e faults matches q =
    let free : is_simple_and_free a ≡ true = ap is_simple_and_free e ∙ command_is_simple in
    let none : fault_of command_app words ≡ [] = sym (ap (λ x. fault_of x words) e) ∙ faults free in
    let found : rows ≡ matches_of command_app words = (matches (both _ _ free).0).0 ∙ ap (λ x. matches_of x words) e in
    q ∙ ap asked_in found ∙ sym (ap (λ kinds. asked_by_kinds kinds (matches_of command_app words)) none)

-- a kind that is among at most one
by_kind : (kinds : Kinds) (kind : ErrorKind) (rows : List Row) → AtMostOne kinds → IsAmong kind kinds → asked_by_kind kind ≡ asked_by_kinds kinds rows
by_kind [] kind rows one h = absurd h
by_kind (k ∷ []) kind rows one (inl e) = ap asked_by_kind e
by_kind (k ∷ []) kind rows one (inr none) = absurd none
by_kind (k ∷ (l ∷ ks)) kind rows one h = absurd one

pub asked_when_not : (a : App) (words : List (List ℕ)) (error : Error) (r : Asked) → a ≡ command_app → (is_simple_and_free a ≡ true → HasKind (fault_of a words) error) → is_memory_kind (kind_of error) ≡ false → r ≡ asked_by_kind (kind_of error) → r ≡ asked words
asked_when_not a words error r e faults other q =
    elim (faults (ap is_simple_and_free e ∙ command_is_simple)) [
      | inl h ↦ absurd (true≢false (sym (ap is_memory_kind h) ∙ other))
      | inr h ↦ q ∙ by_kind (fault_of command_app words) (kind_of error) (matches_of command_app words) (at_most_one words) (rw (← ap (λ x. fault_of x words) e) h)
    ]
