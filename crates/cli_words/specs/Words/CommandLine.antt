-- The command line, as `clap` sees it: a verb, a unit, directories and options that take a value.
use Rattle.std.specs.Prelude.{ℕ, true, List, [], ◌∷◌, Some, codes}
use Rattle.clap.specs.Lexer.{usize_max}
use Rattle.clap.specs.Simple.{App, new_rule, new_app, with_rule, on_top}
use Rattle.clap.specs.Walk.{Rule}
use Rattle.clap.specs.declared.builder.action.ArgAction.TheVariants.{Set, Append}

-- an option that takes a value, with its default
abbrev pub option_rule : List ℕ → List ℕ → Rule
option_rule name default = record (new_rule name) { long = Some name; action = Some Set; defaults = default ∷ [] }

-- an option that takes a value and has no default
abbrev pub optional_rule : List ℕ → Rule
optional_rule name = record (new_rule name) { long = Some name; action = Some Set }

-- a word that must stand
abbrev pub word_rule : List ℕ → Rule
word_rule name = record (new_rule name) { required = true; action = Some Set }

-- words that may stand
abbrev pub words_rule : List ℕ → Rule
words_rule name = record (new_rule name) { range = Some (record { start_inclusive = 0; end_inclusive = usize_max }); action = Some Append }

-- the words come without the program's name; `--help` and `--version` are among them
abbrev pub bare_app : App
bare_app = on_top (λ s. record s { no_binary_name = true; has_version = true }) (new_app (codes "ccheck"))

abbrev pub with_words : App → App
with_words a = with_rule (with_rule (with_rule a (word_rule (codes "verb"))) (word_rule (codes "unit"))) (words_rule (codes "dirs"))

abbrev pub with_options : App → App
with_options a = with_rule (with_rule (with_rule a (option_rule (codes "model") (codes "lp64"))) (option_rule (codes "format") (codes "text"))) (option_rule (codes "entry") (codes "main"))

abbrev pub with_numbers : App → App
with_numbers a = with_rule (with_rule (with_rule (with_rule a (option_rule (codes "seed") (codes "1"))) (option_rule (codes "count") (codes "10"))) (option_rule (codes "steps") (codes "100000"))) (optional_rule (codes "turns"))

-- the options that name a further file
abbrev pub with_files : App → App
with_files a = with_rule (with_rule (with_rule a (optional_rule (codes "base"))) (optional_rule (codes "cert"))) (optional_rule (codes "draws"))

unfoldable pub command_app : App
command_app = with_files (with_numbers (with_options (with_words bare_app)))
