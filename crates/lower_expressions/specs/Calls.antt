-- Calls: the arguments from left to right, and then the call.
use Rattle.std.specs.Prelude.{ℕ, Bool, cond, List, [], ◌∷◌, length, Option, Some, None}
use Rattle.cc_base.specs.declared.diagnostics.Place.{Place}
use Rattle.c_layout.specs.Types.{Ty}
use Rattle.c_layout.specs.Layout.{size_of_type}
use Rattle.c_layout.specs.CheckedTrees as tree
use Rattle.c_layout.specs.CheckedTrees.{TermTrees}
use Rattle.c_layout.specs.LibrarySignatures as signatures
use Rattle.c_layout.specs.LibrarySignatures.{signature_of}
use Rattle.c_layout.specs.declared.library_functions.LibFn.{LibFn}
use Rattle.lower_templates.specs.declared.worklist.template_pieces.Exit.{Exit as ExitOf}
use Rattle.lower_templates.specs.Worklist.Acts.{Library, ReadLine}
use Rattle.lower_templates.specs.Worklist.Pieces.{Allocation, ExitView, exits_view, NoLine, Line, Call}
use Rattle.lower_templates.specs.Worklist.Works.{Value, Ready, behind}
use Rattle.lower_templates.specs.Worklist.Plans.{Plan, with_work, with_name, with_labels, done, ended, begun}
use Rattle.lower_templates.specs.Worklist.Settings.{SettingView}

abbrev pub exits : List ExitOf → List ExitView
exits = exits_view

-- each argument in a temporary of its own
abbrev pub argued : TermTrees → ℕ → Plan → Plan
argued tree.End depth p = p
argued (tree.More e rest) depth p = argued rest (behind depth 1) (with_work (Value e depth) p)

abbrev pub argument_temps : TermTrees → ℕ → List ℕ
argument_temps tree.End depth = []
argument_temps (tree.More e rest) depth = depth ∷ argument_temps rest (behind depth 1)

-- a call of a function of the unit
abbrev pub own_call : Place → ℕ → TermTrees → Bool → ℕ → Plan → Plan
own_call at function args used depth p = with_work (Ready (Call (record { place = at; function = function; depth = depth; used = used }))) (argued args depth p)

abbrev pub gives : LibFn → Bool
gives = signatures.gives

abbrev pub is_allocation : LibFn → Bool
is_allocation function = (signature_of function).allocates

abbrev pub reads_line : LibFn → Bool
reads_line function = (signature_of function).reads_line

abbrev pub result_temp : LibFn → ℕ → Option ℕ
result_temp function depth = cond (gives function) (Some depth) None

-- the newest base of an allocation, and what is planned behind it
pub record Sited : Type 0 where
  pub site : Option ℕ
  pub after : Plan

abbrev pub sited : Option ℕ → Plan → Sited
sited site p = record { site = site; after = p }

abbrev pub allocated : LibFn → Option Ty → Plan → Sited
allocated function target p = cond (is_allocation function) (sited (Some (length p.names)) (with_name (Allocation target) p)) (sited None p)

abbrev pub target_size : SettingView → Option Ty → Option ℕ
target_size s None = None
target_size s (Some t) = Some (size_of_type s.structs s.pointer t)

abbrev pub library_at : Place → LibFn → TermTrees → Option ℕ → ℕ → Sited → Plan
library_at at function args size depth found = done at (Library (result_temp function depth) function (argument_temps args depth) found.site size) found.after

abbrev pub plain_call : SettingView → Place → LibFn → TermTrees → Option Ty → ℕ → Plan → Plan
plain_call s at function args target depth p = library_at at function args (target_size s target) depth (allocated function target (argued args depth p))

-- the edges of fgets: null and then success
abbrev pub line_exits : ℕ → ℕ → List ExitView
line_exits none some = record { to = none; taken = NoLine } ∷ (record { to = some; taken = Line } ∷ [])

abbrev pub read_line : Place → TermTrees → ℕ → Option ℕ → ℕ → ℕ → Plan → Plan
read_line at args depth to none some p = ended at (ReadLine to depth (behind depth 1) (behind depth 2)) (line_exits none some) (argued args depth p)

-- fgets for its value: both edges go to the block behind it
abbrev pub line_value : Place → TermTrees → ℕ → Plan → Plan
line_value at args depth p = begun p.labels (read_line at args depth (Some depth) p.labels p.labels (with_labels 1 p))

abbrev pub library_call : SettingView → Place → LibFn → TermTrees → Option Ty → ℕ → Plan → Plan
library_call s at function args target depth p = cond (reads_line function) (line_value at args depth p) (plain_call s at function args target depth p)
