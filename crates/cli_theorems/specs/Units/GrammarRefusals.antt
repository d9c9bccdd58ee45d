-- Where the grammar refuses a unit: for the form of a token, or at the first piece that has no derivation.
use Rattle.std.specs.Prelude.{◌≡◌, ◌⊎◌, Bool, true, false, List, Ok, Err}
use Rattle.cc_base.specs.declared.refusals.Fault.{Fault}
use Rattle.cc_base.specs.declared.refusals.Refusal.{Refusal}
use Rattle.cc_base.specs.declared.refusals.Refusal.TheVariants as refusal
use Rattle.cc_base.specs.declared.refusals.Stop.TheVariants as stop
use Rattle.c_layout.specs.declared.unit_tokens.Unit7.{Unit7}
use Rattle.c_layout.specs.declared.syntax_tree.declarations.Tree7.{Tree7}
use Rattle.c_parser_tokens.specs.Classes.{classified}
use Rattle.c_parser_tokens.specs.declared.terminals.Terminal.{Terminal}
use Rattle.c_parser.specs.FirstRefusals.{IsFirstRefusal}
use Rattle.cli_units.specs.Judging.{SettingView, IsParsed, RefusesUnit}
use Rattle.cli_theorems.specs.Units.Accepted.{IsShort}

-- the refusals that the grammar has
abbrev pub is_of_grammar : Refusal → Bool
is_of_grammar refusal.NumberForm = true
is_of_grammar (refusal.Unsupported word) = true
is_of_grammar refusal.Syntax = true
is_of_grammar _ = false

-- `Syntax` at the first terminal of the first piece that has no derivation of a height that is in
pub record IsFirstUnderived (unit : Unit7) (why : Fault) : Type 0 where
  pub terminals : List Terminal
  pub classes : classified unit.model unit.tokens ≡ Ok terminals
  pub first : IsFirstRefusal terminals (stop.Refused why)

-- a refusal of the grammar is that of the first bad form or of the first word that is left out; or there is none, and
-- it stands at the first piece that has no derivation
abbrev pub RefusedExactly : Type 0
RefusedExactly =
    (unit : Unit7) (s : SettingView) (why : Fault) → IsShort unit → is_of_grammar why.refusal ≡ true → RefusesUnit unit s why → (classified unit.model unit.tokens ≡ Err why) ⊎ IsFirstUnderived unit why

-- each `Syntax` stands there
abbrev pub SyntaxExactly : Type 0
SyntaxExactly = (unit : Unit7) (s : SettingView) (why : Fault) → IsShort unit → why.refusal ≡ refusal.Syntax → RefusesUnit unit s why → IsFirstUnderived unit why

-- a unit that the grammar refuses has no tree
abbrev pub RefusedHasNoTree : Type 0
RefusedHasNoTree = (unit : Unit7) (s : SettingView) (why : Fault) (tree : Tree7) → IsShort unit → is_of_grammar why.refusal ≡ true → RefusesUnit unit s why → IsParsed unit tree → ⊥
