-- The faults of a command line without subcommands: clap's list of their kinds has at most one.
use Rattle.std.proofs.Common.{◌≡◌, ℕ, zero, suc, Bool, true, false, ◌&&◌, ◌||◌, ◌==◌, not, nat_lt, List, [], ◌∷◌, length, drop, Option, Some, None, is_some, if◌then◌else◌, refl, sym, subst}
use Rattle.std.specs.Prelude.{encode_utf8, slice_get}
use Rattle.std.specs.Option.{option_map_or}
use Rattle.std.specs.Str.{bytes_eq, chars}
use Rattle.clap.specs.Lexer.{long_of, short_of}
use Rattle.clap.specs.Facts.{parser_of_value, unwrap_or_range}
use Rattle.clap.specs.Kinds.{Kinds, check_kinds, or_else, range_kinds, request_kinds, value_kinds, values_kinds}
use Rattle.clap.specs.Faults.{action_fault, built_fault, bundle_step_fault, count_fault, default_fault, defaults_fault, entered_fault, fault_of, flag_word_fault, flags_fault, level_fault, long_fault, option_fault, other_fault, positional_fault, react_fault, repeat_fault, set_fault, settle_fault, short_fault, step_fault, stray_fault, turn_fault, use_fault, values_fault, walk_fault, word_fault}
use Rattle.clap.specs.Simple.{Shape, built}
use Rattle.clap.specs.Values.{refused_kind}
use Rattle.clap.specs.ValueTests.{accepts}
use Rattle.clap.specs.Walk.{Held, Row, Rule, Step, Text, Waiting, Walk, action_of, arg_by_id, arg_by_index, arg_by_long, arg_by_short, has_row, idle, is_empty, is_pending, most_values, next, nothing_held, option, positional, reacted, settled, subcommand, subcommand_met, takes_several, takes_values, trailing, value, values_or_missing, walk, walk_from, walked, with_default, word_met}
use Rattle.clap.specs.declared.builder.action.ArgAction.{ArgAction}
use Rattle.clap.specs.declared.builder.action.ArgAction.TheVariants as action
use Rattle.clap.specs.declared.builder.value_parser.ValueParser.{ValueParser}
use Rattle.clap.specs.declared.error.kind.ErrorKind.TheVariants as kind
use Rattle.cli_words.specs.Words.CommandLine.{command_app}

-- a list of at most one kind
abbrev pub AtMostOne : Kinds → Type 0
AtMostOne [] = Unit {0}
AtMostOne (k ∷ []) = Unit {0}
AtMostOne (k ∷ (l ∷ ks)) = ⊥

or_one : (a b : Kinds) → AtMostOne a → AtMostOne b → AtMostOne (or_else a b)
or_one [] b h k = k
or_one (x ∷ xs) b h k = h

if_one : (b : Bool) (x y : Kinds) → AtMostOne x → AtMostOne y → AtMostOne (if b then x else y)
if_one true x y h k = h
if_one false x y h k = k

option_one : {A : Type 0} (f : A → Kinds) (o : Option A) (none : Kinds) → ((x : A) → AtMostOne (f x)) → AtMostOne none → AtMostOne (option_map_or f o none)
option_one f None none h k = k
option_one f (Some x) none h k = h x

-- one use of an argument
value_one : (ignore_case : Bool) (parser : ValueParser) (text : Text) → AtMostOne (value_kinds ignore_case parser text)
value_one ignore_case parser text = if_one (accepts ignore_case parser text) [] (refused_kind parser ∷ []) tt tt

values_one : (ignore_case : Bool) (parser : ValueParser) (texts : List Text) → AtMostOne (values_kinds ignore_case parser texts)
values_one ignore_case parser [] = tt
values_one ignore_case parser (v ∷ vs) = or_one (value_kinds ignore_case parser v) (values_kinds ignore_case parser vs) (value_one ignore_case parser v) (values_one ignore_case parser vs)

range_one : (least most n : ℕ) → AtMostOne (range_kinds least most n)
range_one least most n =
    if_one (nat_lt 0 least && n == 0) _ _ tt
    (if_one (least == most) _ _ (if_one (least == n) _ _ tt tt)
    (if_one (nat_lt n least) _ _ tt (if_one (nat_lt most n) _ _ tt tt)))

repeat_one : (again : Bool) (id : Text) (rows : List Row) → AtMostOne (repeat_fault again id rows)
repeat_one again id rows = if_one (has_row id rows && not again) _ _ tt tt

set_one : (again : Bool) (a : Rule) (values : List Text) (rows : List Row) → AtMostOne (set_fault again a values rows)
set_one again a values rows = or_one (repeat_fault again a.id rows) (values_fault a values) (repeat_one again a.id rows) (values_one a.ignore_case (parser_of_value a.parser) values)

count_one : (a : Rule) (values : List Text) (rows : List Row) → AtMostOne (count_fault a values rows)
count_one a [] rows = value_one a.ignore_case (parser_of_value a.parser) _
count_one a (v ∷ vs) rows = values_one a.ignore_case (parser_of_value a.parser) (v ∷ vs)

request_one : (x : ArgAction) → AtMostOne (request_kinds x)
request_one action.Set = tt
request_one action.Append = tt
request_one action.SetTrue = tt
request_one action.SetFalse = tt
request_one action.Count = tt
request_one action.Help = tt
request_one action.HelpShort = tt
request_one action.HelpLong = tt
request_one action.Version = tt

action_one : (x : ArgAction) (again : Bool) (a : Rule) (values : List Text) (rows : List Row) → AtMostOne (action_fault x again a values rows)
action_one action.Set again a values rows = set_one again a values rows
action_one action.SetTrue again a values rows = set_one again a values rows
action_one action.SetFalse again a values rows = set_one again a values rows
action_one action.Append again a values rows = values_one a.ignore_case (parser_of_value a.parser) values
action_one action.Count again a values rows = count_one a values rows
action_one action.Help again a values rows = tt
action_one action.HelpShort again a values rows = tt
action_one action.HelpLong again a values rows = tt
action_one action.Version again a values rows = tt

use_one : (again : Bool) (a : Rule) (values : List Text) (rows : List Row) → AtMostOne (use_fault again a values rows)
use_one again a values rows =
    or_one (range_kinds (unwrap_or_range a.range).start_inclusive (most_values a) (length values)) (action_fault (action_of a) again a (values_or_missing a values) rows)
    (range_one (unwrap_or_range a.range).start_inclusive (most_values a) (length values))
    (action_one (action_of a) again a (values_or_missing a values) rows)

-- one word
module _ (c : List Rule) (again : Bool) where
  settle_one : (h : Held) → AtMostOne (settle_fault c again h)
  settle_one h = option_one _ h.pending [] (λ p. option_one _ (arg_by_id c p.0) [] (λ a. use_one again a p.1 h.rows) tt) tt

  react_one : (a : Rule) (values : List Text) (h : Held) → AtMostOne (react_fault c again a values h)
  react_one a values h = or_one (settle_fault c again h) (use_fault again a values (settled c h).rows) (settle_one h) (use_one again a values (settled c h).rows)

  valued_one : (a : Rule) (v : Option Text) (h : Held) → AtMostOne (option_fault c again a v h)
  valued_one a (Some v) h = react_one a (v ∷ []) h
  valued_one a None h = settle_one h

  long_one : (a : Option Rule) (v : Option Text) (h : Held) → AtMostOne (long_fault c again a v h)
  long_one None v h = tt
  long_one (Some a) v h = if_one (takes_values a) _ _ (valued_one a v h) (if_one (is_some v) _ _ tt (react_one a [] h))

  short_one : (a : Option Rule) (rest : Text) (h : Held) (after : Held → Kinds) → ((k : Held) → AtMostOne (after k)) → AtMostOne (short_fault c again a rest h after)
  short_one None rest h after ones = tt
  short_one (Some a) rest h after ones =
      if_one (takes_values a) _ _ (valued_one a _ h) (or_one (react_fault c again a [] h) (after (reacted c a [] h)) (react_one a [] h) (ones (reacted c a [] h)))

  step_of_bundle_one : (x : Option ℕ) (flags : Text) (skip : ℕ) (h : Held) (after : Text → ℕ → Held → Kinds) → ((t : Text) (n : ℕ) (k : Held) → AtMostOne (after t n k)) → AtMostOne (bundle_step_fault c again x flags skip h after)
  step_of_bundle_one None flags skip h after ones = tt
  step_of_bundle_one (Some x) flags zero h after ones =
      let rest = drop (length (encode_utf8 x)) flags in
      short_one (arg_by_short c x) rest h (after rest 0) (ones rest 0)
  step_of_bundle_one (Some x) flags (suc skip) h after ones = ones (drop (length (encode_utf8 x)) flags) skip h

  flags_one : (k : ℕ) (flags : Text) (skip : ℕ) (h : Held) → AtMostOne (flags_fault c again k flags skip h)
  unfolding flags_fault
  flags_one zero flags skip h = tt
  flags_one (suc k) flags skip h = step_of_bundle_one (slice_get (chars flags) 0) flags skip h (flags_fault c again k) (flags_one k)

  flag_word_one : (p : Option (Text × Option Text)) (word : Text) (h : Held) → AtMostOne (flag_word_fault c again p word h)
  flag_word_one (Some p) word h = long_one (arg_by_long c p.0) p.1 h
  flag_word_one None word h = option_one _ (short_of word) [] (λ flags. flags_one (length flags) flags h.skip (record h { skip = 0 })) tt

  positional_one : (a : Rule) (h : Held) → AtMostOne (positional_fault c again a h)
  positional_one a h = if_one (is_pending a h.pending && takes_several a) _ _ tt (settle_one h)

no_subcommand : (waiting : Waiting) (word : Text) → None ≡ subcommand_met [] waiting word
no_subcommand idle word = refl
no_subcommand (option id) word = refl
no_subcommand positional word = refl

-- defaults and the last checks
default_one : (rows : List Row) (a : Rule) → AtMostOne (default_fault rows a)
default_one rows a =
    if_one (has_row a.id rows || is_empty a.defaults) _ _ tt
    (or_one (request_kinds (action_of a)) (values_fault a a.defaults) (request_one (action_of a)) (values_one a.ignore_case (parser_of_value a.parser) a.defaults))

defaults_one : (rows : List Row) (rules : List Rule) → AtMostOne (defaults_fault rows rules)
unfolding defaults_fault
defaults_one rows [] = tt
defaults_one rows (a ∷ rest) = or_one (default_fault rows a) (defaults_fault (with_default rows a) rest) (default_one rows a) (defaults_one (with_default rows a) rest)

checks_one : (wants_help wants_subcommand wants_argument : Bool) → AtMostOne (check_kinds wants_help wants_subcommand wants_argument)
checks_one wants_help wants_subcommand wants_argument = if_one wants_help _ _ tt (if_one wants_subcommand _ _ tt (if_one wants_argument _ _ tt tt))

-- without subcommands none is entered
entered_one : (s : Shape) (stop : Option (Text × List Text)) → AtMostOne (entered_fault (record { top = s; subs = [] }) stop)
entered_one s None = tt
entered_one s (Some p) = tt

module _ (s : Shape) (leaf : s.is_leaf ≡ true) where
  other_one : (word : Text) (h : Held) → AtMostOne (other_fault s None word h)
  other_one word h = if_one (bytes_eq word (45 ∷ 45 ∷ [])) _ _ tt (flag_word_one s.rules s.args_override_self (long_of word) word h)

  word_one : (is_trailing : Bool) (waiting : Waiting) (word : Text) (h : Held) → AtMostOne (word_fault s [] is_trailing waiting word h)
  word_one is_trailing waiting word h = if_one is_trailing _ _ tt (subst (λ o. AtMostOne (other_fault s o word h)) (no_subcommand waiting word) (other_one word h))

  stray_one : AtMostOne (stray_fault s)
  stray_one = subst (λ b. AtMostOne (if b then kind.UnknownArgument ∷ [] else kind.UnknownArgument ∷ kind.InvalidSubcommand ∷ [])) (sym leaf) tt

  step_one : (position : ℕ) (h : Held) (x : Step) → AtMostOne (step_fault s position h x)
  step_one position h value = option_one _ (arg_by_index s.rules position) (stray_fault s) (λ a. positional_one s.rules s.args_override_self a h) stray_one
  step_one position h (next waiting) = tt
  step_one position h (trailing at) = tt
  step_one position h (subcommand name) = tt

  turn_one : (w : Walk) (word : Text) → AtMostOne (turn_fault s [] w word)
  turn_one w word =
      let met = word_met s.rules [] w.is_trailing w.waiting w.position word w.held in
      if_one (is_some w.stopped) _ _ tt
      (or_one (word_fault s [] w.is_trailing w.waiting word w.held) (step_fault s w.position met.0 met.1) (word_one w.is_trailing w.waiting word w.held) (step_one w.position met.0 met.1))

  walk_one : (w : Walk) (words : List Text) → AtMostOne (walk_fault s [] w words)
  unfolding walk_fault
  walk_one w [] = tt
  walk_one w (word ∷ rest) = or_one (turn_fault s [] w word) (walk_fault s [] (walked s.rules [] w word) rest) (turn_one w word) (walk_one (walked s.rules [] w word) rest)

  level_one : (h : Held) (words : List Text) (has_subcommand : Bool) (below : Kinds) → AtMostOne below → AtMostOne (level_fault s [] h words has_subcommand below)
  level_one h words has_subcommand below one =
      let end = (walk s.rules [] h words).held in
      or_one (walk_fault s [] (walk_from h) words) _ (walk_one (walk_from h) words)
      (or_one below _ one
      (or_one (settle_fault s.rules s.args_override_self end) _ (settle_one s.rules s.args_override_self end)
      (or_one (defaults_fault (settled s.rules end).rows s.rules) _ (defaults_one (settled s.rules end).rows s.rules) (checks_one _ _ _))))

  -- of a command that is built
  built_one : (h : Held) (words : List Text) → AtMostOne (built_fault (record { top = s; subs = [] }) h words)
  built_one h words = level_one h words _ _ (entered_one s (walk s.rules [] h words).stopped)

command_is_leaf : (built command_app).top.is_leaf ≡ true
unfolding command_app
command_is_leaf = refl

-- of the program's command line
pub at_most_one : (words : List Text) → AtMostOne (fault_of command_app words)
unfolding command_app
at_most_one words = built_one (built command_app).top command_is_leaf nothing_held words
