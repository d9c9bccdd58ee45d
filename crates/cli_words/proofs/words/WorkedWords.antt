-- Worked rows: what words ask for.
use Rattle.std.proofs.Common.{◌≡◌, [], ◌∷◌, Some, None, refl, codes}
use Rattle.clap.proofs.OnLiterals.{clap_on_literals}
use Rattle.cli_words.specs.declared.words.commands.Format.TheVariants as format
use Rattle.cli_words.specs.Words.CommandLine.{command_app}
use Rattle.cli_words.specs.Words.Requests.{CommandView, Help, Version, Check, Refused, asked}

-- `check a.c` alone
plain : CommandView
plain = record { unit = codes "a.c"; dirs = []; model = codes "lp64"; format = format.Text; entry = codes "main"; turns = None; seed = 1; count = 10; steps = 100000 }

taken : asked (codes "check" ∷ codes "a.c" ∷ []) ≡ Check plain
unfolding command_app clap_on_literals plain
taken = refl

-- the help and the version, alone and among other words
help_alone : asked (codes "--help" ∷ []) ≡ Help
unfolding command_app clap_on_literals
help_alone = refl

short_help_alone : asked (codes "-h" ∷ []) ≡ Help
unfolding command_app clap_on_literals
short_help_alone = refl

version_alone : asked (codes "--version" ∷ []) ≡ Version
unfolding command_app clap_on_literals
version_alone = refl

short_version_alone : asked (codes "-V" ∷ []) ≡ Version
unfolding command_app clap_on_literals
short_version_alone = refl

help_after_verb : asked (codes "check" ∷ codes "--help" ∷ []) ≡ Help
unfolding command_app clap_on_literals
help_after_verb = refl

help_after_unit : asked (codes "check" ∷ codes "a.c" ∷ codes "--help" ∷ []) ≡ Help
unfolding command_app clap_on_literals
help_after_unit = refl

help_after_option : asked (codes "check" ∷ codes "a.c" ∷ codes "--turns" ∷ codes "3" ∷ codes "-h" ∷ []) ≡ Help
unfolding command_app clap_on_literals
help_after_option = refl

version_before_verb : asked (codes "-V" ∷ codes "check" ∷ []) ≡ Version
unfolding command_app clap_on_literals
version_before_verb = refl

-- of two, the first
version_before_help : asked (codes "--version" ∷ codes "--help" ∷ []) ≡ Version
unfolding command_app clap_on_literals
version_before_help = refl

-- before a fault, and after one
help_before_fault : asked (codes "check" ∷ codes "--help" ∷ codes "--turn" ∷ codes "3" ∷ []) ≡ Help
unfolding command_app clap_on_literals
help_before_fault = refl

help_after_fault : asked (codes "check" ∷ codes "--turn" ∷ codes "3" ∷ codes "--help" ∷ []) ≡ Refused
unfolding command_app clap_on_literals
help_after_fault = refl

-- an option that lacks its value is a fault
help_for_value : asked (codes "check" ∷ codes "a.c" ∷ codes "--entry" ∷ codes "--help" ∷ []) ≡ Refused
unfolding command_app clap_on_literals
help_for_value = refl

-- after `--` it is a word, and after `=` it is a value
help_as_unit : asked (codes "check" ∷ codes "--" ∷ codes "--help" ∷ []) ≡ Check (record plain { unit = codes "--help" })
unfolding command_app clap_on_literals plain
help_as_unit = refl

help_as_value : asked (codes "check" ∷ codes "a.c" ∷ codes "--entry=--help" ∷ []) ≡ Check (record plain { entry = codes "--help" })
unfolding command_app clap_on_literals plain
help_as_value = refl

-- numbers of options
turns_taken : asked (codes "check" ∷ codes "a.c" ∷ codes "--turns" ∷ codes "0" ∷ []) ≡ Check (record plain { turns = Some 0 })
unfolding command_app clap_on_literals plain
turns_taken = refl

turns_with_plus : asked (codes "check" ∷ codes "a.c" ∷ codes "--turns" ∷ codes "+5" ∷ []) ≡ Refused
unfolding command_app clap_on_literals
turns_with_plus = refl

turns_with_zeros : asked (codes "check" ∷ codes "a.c" ∷ codes "--turns" ∷ codes "007" ∷ []) ≡ Refused
unfolding command_app clap_on_literals
turns_with_zeros = refl

seed_with_zero : asked (codes "load" ∷ codes "a.c" ∷ codes "--seed" ∷ codes "00" ∷ []) ≡ Refused
unfolding command_app clap_on_literals
seed_with_zero = refl

count_with_zero : asked (codes "load" ∷ codes "a.c" ∷ codes "--count" ∷ codes "010" ∷ []) ≡ Refused
unfolding command_app clap_on_literals
count_with_zero = refl

steps_with_plus : asked (codes "replay" ∷ codes "a.c" ∷ codes "--steps" ∷ codes "+100" ∷ []) ≡ Refused
unfolding command_app clap_on_literals
steps_with_plus = refl
