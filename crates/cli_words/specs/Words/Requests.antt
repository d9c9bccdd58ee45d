-- What the words of a command line ask for.
use Rattle.std.specs.Prelude.{ℕ, Bool, true, false, ◌&&◌, nat_le, nat_eq, List, [], ◌∷◌, map, Option, Some, None, codes, string_bytes, if◌then◌else◌, unwrap_or}
use Rattle.std.specs.Option.{option_map}
use Rattle.std.specs.Cmp.Lexicographic.{pointwise}
use Rattle.clap.specs.Faults.{fault_of}
use Rattle.clap.specs.Kinds.{Kinds}
use Rattle.clap.specs.Simple.{matches_of}
use Rattle.clap.specs.Walk.{Row, first_of, all_of}
use Rattle.clap.specs.declared.error.kind.ErrorKind.{ErrorKind}
use Rattle.clap.specs.declared.error.kind.ErrorKind.TheVariants as kind
use Rattle.cli_words.specs.declared.words.commands.Command.{Command}
use Rattle.cli_words.specs.declared.words.commands.Format.{Format}
use Rattle.cli_words.specs.declared.words.commands.Format.TheVariants as format
use Rattle.cli_words.specs.declared.words.commands.Request.{Request}
use Rattle.cli_words.specs.declared.words.commands.Request.TheVariants as request
use Rattle.cli_words.specs.declared.words.reading.OptionValues.{OptionValues}
use Rattle.cli_words.specs.Numerals.{Bytes, plain_number}
use Rattle.cli_words.specs.Words.CommandLine.{command_app}

-- a verb's unit, directories and options
pub record CommandView : Type 0 where
  pub unit : Bytes
  pub dirs : List Bytes
  pub model : Bytes
  pub format : Format
  pub entry : Bytes
  pub turns : Option ℕ
  pub seed : ℕ
  pub count : ℕ
  pub steps : ℕ

abbrev pub command_view : Command → CommandView
command_view c = record { unit = string_bytes c.unit; dirs = map string_bytes c.dirs.items; model = string_bytes c.model; format = c.format; entry = string_bytes c.entry; turns = c.turns; seed = c.seed; count = c.count; steps = c.steps }

pub data Asked : Type 0 where
  Help : Asked
  Version : Asked
  Check : (command : CommandView) → Asked
  Load : (command : CommandView) → Asked
  Gate : (command : CommandView) → (base : Bytes) → Asked
  Prove : (command : CommandView) → Asked
  Verify : (command : CommandView) → (cert : Bytes) → Asked
  -- over the draws of a file, where one is named
  Replay : (command : CommandView) → (draws : Option Bytes) → Asked
  Refused : Asked

abbrev pub asked_by : Request → Asked
asked_by request.Help = Help
asked_by request.Version = Version
asked_by (request.Check c) = Check (command_view c)
asked_by (request.Load c) = Load (command_view c)
asked_by (request.Gate g) = Gate (command_view g.command) (string_bytes g.base)
asked_by (request.Prove c) = Prove (command_view c)
asked_by (request.Verify v) = Verify (command_view v.command) (string_bytes v.cert)
asked_by (request.Replay r) = Replay (command_view r.command) (option_map string_bytes r.draws)
asked_by request.Refused = Refused

abbrev pub is_text : Bytes → Bytes → Bool
is_text a b = pointwise nat_eq a b

abbrev pub in_range : ℕ → ℕ → Option ℕ → Option ℕ
in_range least most None = None
in_range least most (Some n) = if nat_le least n && nat_le n most then Some n else None

-- a number without a sign and without leading zeros
abbrev pub number_within : Bytes → ℕ → ℕ → Option ℕ
number_within text least most = in_range least most (plain_number 32 text)

abbrev pub format_named : Bytes → Option Format
format_named text = if is_text text (codes "text") then Some format.Text else (if is_text text (codes "json") then Some format.Json else (if is_text text (codes "sarif") then Some format.Sarif else None))

-- the text of a word or an option
abbrev pub text_in : List Row → Bytes → Bytes
text_in rows id = unwrap_or (first_of id rows) []

abbrev pub texts_in : List Row → Bytes → List Bytes
texts_in rows id = unwrap_or (all_of id rows) []

abbrev pub command_in : List Row → OptionValues → CommandView
command_in rows v = record { unit = text_in rows (codes "unit"); dirs = texts_in rows (codes "dirs"); model = text_in rows (codes "model"); format = v.format; entry = text_in rows (codes "entry"); turns = v.turns; seed = v.seed; count = v.count; steps = v.steps }

-- a gate needs the name of its baseline
abbrev pub gate_in : Option Bytes → CommandView → Asked
gate_in None c = Refused
gate_in (Some base) c = Gate c base

-- a verification needs the name of its certificate
abbrev pub verify_in : Option Bytes → CommandView → Asked
verify_in None c = Refused
verify_in (Some cert) c = Verify c cert

-- a replay takes no draws where no option names a file of them
abbrev pub replay_in : Option Bytes → CommandView → Asked
replay_in draws c = Replay c draws

-- the verbs on certificates
abbrev pub certificate_verb : Bytes → List Row → CommandView → Asked
certificate_verb verb rows c = if is_text verb (codes "prove") then Prove c else (if is_text verb (codes "verify") then verify_in (first_of (codes "cert") rows) c else Refused)

abbrev pub verb_of : Bytes → List Row → CommandView → Asked
verb_of verb rows c = if is_text verb (codes "check") then Check c else (if is_text verb (codes "load") then Load c else (if is_text verb (codes "gate") then gate_in (first_of (codes "base") rows) c else (if is_text verb (codes "replay") then replay_in (first_of (codes "draws") rows) c else certificate_verb verb rows c)))

-- the turns that are asked for, where an option asks for some; none where they are out of range
abbrev pub turns_named : Option Bytes → Option (Option ℕ)
turns_named None = Some None
turns_named (Some text) = option_map Some (number_within text 0 64)

-- the values that are no plain texts, where each is in its form
abbrev pub values_of : Option Format → Option (Option ℕ) → Option ℕ → Option ℕ → Option ℕ → Option OptionValues
values_of (Some form) (Some turns) (Some seed) (Some count) (Some steps) = Some (record { format = form; turns = turns; seed = seed; count = count; steps = steps })
values_of _ _ _ _ _ = None

abbrev pub values_in : List Row → Option OptionValues
values_in rows = values_of (format_named (text_in rows (codes "format"))) (turns_named (first_of (codes "turns") rows)) (number_within (text_in rows (codes "seed")) 0 2147483647) (number_within (text_in rows (codes "count")) 1 300) (number_within (text_in rows (codes "steps")) 0 1000000)

abbrev pub asked_with : List Row → Option OptionValues → Asked
asked_with rows None = Refused
asked_with rows (Some v) = verb_of (text_in rows (codes "verb")) rows (command_in rows v)

-- what the values of the words and options ask for
abbrev pub asked_in : List Row → Asked
asked_in rows = asked_with rows (values_in rows)

abbrev pub is_memory_kind : ErrorKind → Bool
is_memory_kind kind.OutOfMemory = true
is_memory_kind _ = false

-- what a fault asks for: to `clap` the words `--help` and `--version` are faults
abbrev pub asked_by_kind : ErrorKind → Asked
asked_by_kind kind.DisplayHelp = Help
asked_by_kind kind.DisplayVersion = Version
asked_by_kind _ = Refused

-- what the values of the words and options ask for, where there is no fault, and else what the fault asks for
abbrev pub asked_by_kinds : Kinds → List Row → Asked
asked_by_kinds [] rows = asked_in rows
asked_by_kinds (k ∷ []) rows = asked_by_kind k
asked_by_kinds (k ∷ (l ∷ ks)) rows = Refused

-- what words ask for
abbrev pub asked : List Bytes → Asked
asked words = asked_by_kinds (fault_of command_app words) (matches_of command_app words)
