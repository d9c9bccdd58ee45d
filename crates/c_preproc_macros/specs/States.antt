-- The machine of the code as the pure one, and what an answer says of an expansion.
use Rattle.std.specs.Prelude.{◌≡◌, ℕ, Bool, true, false, List, Result, Ok, Err}
use Rattle.c_preproc_macros.specs.declared.lexeme.Lexeme.{Lexeme}
use Rattle.c_preproc_macros.specs.declared.machine.Machine.{Machine}
use Rattle.c_preproc_macros.specs.declared.machine.Expansion.{Expansion}
use Rattle.c_preproc_macros.specs.declared.macro_table.Macros.{Macros}
use Rattle.c_preproc_macros.specs.declared.trouble.Failure.{Failure}
use Rattle.c_preproc_macros.specs.declared.trouble.Failure.TheVariants.{Refused, Memory}
use Rattle.c_preproc_macros.specs.declared.machine.TheConstants.{LIMIT}
use Rattle.c_preproc_macros.specs.Expanding.{Setting, Outcome}
use Rattle.c_preproc_macros.specs.Expanding.Outcome.{done, refused}
use Rattle.c_preproc_macros.specs.Machine.{State, Next}
use Rattle.c_preproc_macros.specs.Machine.Next.{more, ended}
use Rattle.c_preproc_macros.specs.Frames.{frames_of}
use Rattle.c_preproc_macros.specs.Rules.{Defined, rules_of, rules_in}

abbrev pub state_of : Machine → State
state_of m = record { frames = frames_of m.levels.stack.items; names = m.levels.within.items; pending = m.pending.items.items; place = m.place; out = m.out.items; used = m.used }

abbrev pub setting_of : Macros → Setting
setting_of macros = record { table = rules_of macros; limit = LIMIT }

-- the same, of macros as they were defined
abbrev pub setting_in : List (ℕ × Defined) → Setting
setting_in macros = record { table = rules_in macros; limit = LIMIT }

-- a move of the machine is this one, unless memory ran out
abbrev pub Moves : {A : Type 0} → Next → Machine → Result A Failure → Type 0
Moves next new (Ok a) = next ≡ more (state_of new)
Moves next new (Err (Refused r)) = next ≡ ended (refused r.trouble r.place)
Moves next new (Err Memory) = Unit {0}

-- a turn of the machine is this one, unless memory ran out
abbrev pub Turns : Next → Machine → Result Bool Failure → Type 0
Turns next new (Ok true) = next ≡ more (state_of new)
Turns next new (Ok false) = next ≡ ended (done new.out.items new.used)
Turns next new (Err (Refused r)) = next ≡ ended (refused r.trouble r.place)
Turns next new (Err Memory) = Unit {0}

-- an answer is what the definition gives, unless memory ran out
abbrev pub Expands : Outcome (List Lexeme) → Result Expansion Failure → Type 0
Expands outcome (Ok e) = outcome ≡ done e.words.items e.used
Expands outcome (Err (Refused r)) = outcome ≡ refused r.trouble r.place
Expands outcome (Err Memory) = Unit {0}
