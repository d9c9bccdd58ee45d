-- The first works of a function.
use Rattle.std.specs.Prelude.{◌≡◌, ℕ, zero, suc, ◌+◌, Bool, cond, List, [], ◌∷◌, length, Option, Some, None, slice_get}
use Rattle.cc_base.specs.declared.diagnostics.Place.{Place}
use Rattle.c_layout.specs.Types.{Ty}
use Rattle.c_layout.specs.CheckedTrees.{statement_trees}
use Rattle.c_layout.specs.CheckedUnits.{FunctionView, LocalView}
use Rattle.c_layout.specs.StructViews.{StructView}
use Rattle.cfg.specs.declared.machine_instructions.Scalar.{Scalar}
use Rattle.lower_templates.specs.Worklist.Acts as acts
use Rattle.lower_templates.specs.Worklist.Acts.{Act}
use Rattle.lower_templates.specs.Worklist.Pieces.{Local, Outcome, DoIfUsed, TemplateView}
use Rattle.lower_templates.specs.Worklist.Scopes.{function_scopes}
use Rattle.lower_templates.specs.Worklist.TermKinds.{scalar_of, is_void}
use Rattle.lower_templates.specs.Worklist.Works.{Ready}
use Rattle.lower_templates.specs.Worklist.Plans.{Plan, with_work, with_name, with_labels, done, begun}
use Rattle.lower_templates.specs.Worklist.Settings.{SettingView}
use Rattle.lower_templates.specs.declared.worklist.pending_works.Surroundings.{Surroundings}
use Rattle.lower_functions.specs.Statements.ScopeJumps.{all_entered, all_left}
use Rattle.lower_functions.specs.Statements.PlainStatements.{all_statements}
use Rattle.lower_functions.specs.Statements.Jumps.{stopped}
use Rattle.lower_functions.specs.Functions.Turns.{Finishes}

abbrev pub type_or : Option LocalView → Ty → Ty
type_or None t = t
type_or (Some l) t = l.ctype

abbrev pub local_type : FunctionView → ℕ → Ty
local_type f n = type_or (slice_get f.locals n) f.returns

-- void functions have no object of the result
abbrev pub result_entered : Place → Ty → Plan → Plan
result_entered at t p = cond (is_void t) p (done at (acts.Enter (length p.names)) (with_name Outcome p))

-- address of the parameter, and the store of the argument
abbrev pub argument : Place → ℕ → ℕ → Scalar → Plan → Plan
argument at spare number kind p = done at (acts.Store spare number kind None) (done at (acts.Address spare (length p.names) 0) (with_name (Local number) p))

abbrev pub arguments : Place → FunctionView → List ℕ → Plan → Plan
arguments at f [] p = p
arguments at f (n ∷ ns) p = arguments at f ns (argument at f.parameters n (scalar_of (local_type f n)) p)

-- all parameters and the result are entered, and then the arguments are stored in order
abbrev pub parameters : SettingView → FunctionView → Plan → Plan
parameters s f p = arguments s.at f s.parameters (result_entered s.at f.returns (all_entered s.at s.parameters p))

abbrev pub if_used : Place → Act → Plan → Plan
if_used at a p = with_work (Ready (DoIfUsed (record { at = at; does = a }))) p

-- the result is loaded only where the call's value is used, and left in any case
abbrev pub result_loaded : Place → Scalar → Plan → Plan
result_loaded at kind p = done at (acts.Leave (length p.names)) (if_used at (acts.Load 0 0 kind) (if_used at (acts.Address 0 (length p.names) 0) (with_name Outcome p)))

abbrev pub outcome : Place → Ty → Plan → Plan
outcome at t p = cond (is_void t) p (result_loaded at (scalar_of t) p)

abbrev pub outermost : ℕ → Surroundings
outermost end = record { scope = 1; on_break = record { label = end; scope = 0 }; on_continue = record { label = end; scope = 0 }; choice = 0 }

abbrev pub body : SettingView → FunctionView → Plan → Plan
body s f p = all_left s.at f.scope (all_statements (statement_trees f.body) (outermost s.end) (all_entered s.at f.scope p))

-- the run of the entry stops behind its body
abbrev pub entry : SettingView → FunctionView → Plan → Plan
entry s f p = stopped s.at (body s f p)

abbrev pub after_body : SettingView → Ty → Plan → Plan
after_body s t p = outcome s.at t (begun s.end (all_left s.at s.parameters p))

-- parameters, body, after
abbrev pub called : SettingView → FunctionView → Plan → Plan
called s f p = after_body s f.returns (body s f (begun (p.labels + 1) (parameters s f (begun p.labels (with_labels 2 p)))))

abbrev pub function : SettingView → FunctionView → Plan → Plan
function s f p = cond s.is_entry (entry s f p) (called s f p)

-- so many numbers from one on
abbrev pub numbers_from : ℕ → ℕ → List ℕ
numbers_from first zero = []
numbers_from first (suc n) = first ∷ numbers_from (first + 1) n

-- what a function's template is made from: the structs of the unit, and the sizes of pointers and int
abbrev pub setting_of : List StructView → ℕ → ℕ → FunctionView → Bool → SettingView
setting_of structs pointer int_bytes f is_entry = record {
  structs = structs;
  pointer = pointer;
  int_bytes = int_bytes;
  at = f.at;
  parameters = numbers_from 0 f.parameters;
  is_entry = is_entry;
  end = f.labels;
  scopes = function_scopes f;
}

-- nothing is planned; the function has its labels and one behind its body, and two scopes
abbrev pub no_plan : ℕ → Plan
no_plan labels = record { jobs = []; names = []; labels = labels + 1; scopes = 2; dispatches = [] }

-- the template of a function
abbrev pub IsTemplate : List StructView → ℕ → ℕ → FunctionView → Bool → TemplateView → Type 0
IsTemplate structs pointer int_bytes f is_entry t = Finishes (setting_of structs pointer int_bytes f is_entry) (function (setting_of structs pointer int_bytes f is_entry) f (no_plan f.labels)) t
