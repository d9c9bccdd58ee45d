-- The macros of the code as rules.
use Rattle.std.specs.Prelude.{◌≡◌, ℕ, ◌==◌, nat_eq, cond, Option, List, length, map, option_map, vec_items, vec_len}
use Rattle.std.specs.Map.{lookup}
use Rattle.indexmap.specs.IndexMap.{get}
use Rattle.c_preproc_macros.specs.declared.macro_table.Macro.{Macro}
use Rattle.c_preproc_macros.specs.declared.macro_table.Macros.{Macros}
use Rattle.c_preproc_macros.specs.declared.macro_table.Part.{Part}
use Rattle.c_preproc_macros.specs.Expanding.{Rule}

-- a macro as it was defined: the names of its parameters, if it has a list of them, and its replacement list
pub record Defined : Type 0 where
  pub parameters : Option (List ℕ)
  pub body : List Part

abbrev pub defined_of : Macro → Defined
defined_of m = record { parameters = option_map vec_items m.parameters; body = m.body.items }

-- the macros by their names
abbrev pub macros_of : Macros → List (ℕ × Defined)
macros_of macros = map (λ e. (e.0, defined_of e.1)) macros.table.entries

-- what expansion sees of a macro
abbrev pub rule_in : Defined → Rule
rule_in d = record { parameters = option_map length d.parameters; body = d.body }

abbrev pub rules_in : List (ℕ × Defined) → List (ℕ × Rule)
rules_in macros = map (λ e. (e.0, rule_in e.1)) macros

-- the macro with a name in a table
abbrev pub defined_in : List (ℕ × Defined) → ℕ → Option Defined
defined_in macros name = lookup (nat_eq name) macros

abbrev pub rule_of : Macro → Rule
rule_of m = record { parameters = option_map vec_len m.parameters; body = m.body.items }

abbrev pub rules_of : Macros → List (ℕ × Rule)
rules_of macros = map (λ e. (e.0, rule_of e.1)) macros.table.entries

-- the macro with a name
abbrev pub macro_of : Macros → ℕ → Option Macro
macro_of macros name = get nat_eq macros.table name

-- a name means this macro or none, and every other name what it meant
abbrev pub Sets : Macros → ℕ → Option Macro → Macros → Type 0
Sets old name rule new = (other : ℕ) → macro_of new other ≡ cond (name == other) rule (macro_of old other)

-- each name means what it meant
abbrev pub IsSame : Macros → Macros → Type 0
IsSame old new = (other : ℕ) → macro_of new other ≡ macro_of old other
