-- A template names only what its function does.
use Rattle.std.proofs.Common.{◌≡◌, ℕ, Bool, true, false, cond, List, [], ◌∷◌, refl, sym, subst}
use Rattle.cc_base.specs.declared.diagnostics.Place.{Place}
use Rattle.c_layout.specs.Types.{Ty}
use Rattle.c_layout.specs.CheckedTrees.{statement_trees}
use Rattle.c_layout.specs.CheckedUnits.{FunctionView}
use Rattle.c_layout.specs.StructViews.{StructView}
use Rattle.lower_templates.specs.Worklist.Pieces.{NameView, Outcome, PieceView, TemplateView}
use Rattle.lower_templates.specs.Worklist.Works as jobs
use Rattle.lower_templates.specs.Worklist.Works.{Job}
use Rattle.lower_templates.specs.Worklist.Plans.{Plan}
use Rattle.lower_templates.specs.Worklist.Settings.{SettingView}
use Rattle.lower_functions.specs.Functions.Functions.{arguments, argument, parameters, result_entered, outcome, body, entry, called, function, setting_of, no_plan, IsTemplate}
use Rattle.lower_functions.specs.Functions.Turns.{planless}
use Rattle.lower_template_theorems.specs.Worklists.Derivations.{parts, Makes, nothing, piece, work}
use Rattle.lower_template_theorems.proofs.worklists.Derivations.{derived}
use Rattle.lower_template_theorems.proofs.growth.GrowingWorks.{jobs_none}
use Rattle.lower_template_theorems.specs.Names.NamedTrees.{NamesLocals, NamesStatements, NamesFunction, AllNames}
use Rattle.lower_template_theorems.proofs.names.NamingWorks.{AreFree, NamesJob, NameJobs, IsNaming, works, names_term, names_pointer}
use Rattle.lower_template_theorems.proofs.names.NamingConditions.{names_condition_works}
use Rattle.lower_template_theorems.proofs.names.NamingStatements.{names_entered, names_left, names_statements, NamesScopes, names_statement_works}
use Rattle.lower_template_theorems.proofs.names.NamingScopes.{scopes_of}

names_none : (Q : NameView → Type 0) (p : Plan) → p.jobs ≡ [] → AllNames Q p.names → IsNaming Q p
names_none Q p none names = record { names = names; works = subst (NameJobs Q) (sym none) tt }

module _ (Q : NameView → Type 0) (free : AreFree Q) (s : SettingView) (scopes : NamesScopes Q s) (own : NamesLocals Q s.parameters) where
  names_parts : (j : Job) (p : Plan) → NamesJob Q j → IsNaming Q p → IsNaming Q (parts s j p)
  names_parts (jobs.Value e depth) p is known = names_term s e depth true p free is known
  names_parts (jobs.Unused e depth) p is known = names_term s e depth false p free is known
  names_parts (jobs.Address l depth) p is known = names_pointer s l depth p is known
  names_parts (jobs.Condition e decision) p is known = names_condition_works s e decision p is known
  names_parts (jobs.Statement i around) p is known = names_statement_works s i around p free scopes own is known
  names_parts (jobs.Ready q) p is known = known

  names_made : (p : Plan) (js : List Job) (ps : List PieceView) (r : Plan) → Makes s p js ps r → p.jobs ≡ [] → AllNames Q p.names → NameJobs Q js → AllNames Q r.names
  names_made p _ _ r (nothing _) none names known = names
  names_made p _ _ r (piece _ q js qs _ m) none names (first, known) = names_made p js qs r m none names known
  names_made p _ _ r (work _ j js ps q qs _ other m k) none names (first, known) =
      let d = parts s j p in
      let now = names_parts j p first (names_none Q p none names) in
      let inner = names_made (planless d) d.jobs ps q m refl now.names now.works in
      names_made q js qs r k (jobs_none s (planless d) d.jobs ps q m refl) inner known

-- ---- the first works of a function

names_arguments : {Q : NameView → Type 0} (at : Place) (f : FunctionView) (ns : List ℕ) (p : Plan) → NamesLocals Q ns → IsNaming Q p → IsNaming Q (arguments at f ns p)
names_arguments at f [] p is known = known
names_arguments at f (n ∷ ns) p (one, is) known = names_arguments at f ns (argument at f.parameters n _ p) is (search works depth 30)

names_result : {Q : NameView → Type 0} (at : Place) (t : Ty) (p : Plan) → Q Outcome → IsNaming Q p → IsNaming Q (result_entered at t p)
names_result at t p result known = search works depth 30

names_outcome : {Q : NameView → Type 0} (at : Place) (t : Ty) (p : Plan) → Q Outcome → IsNaming Q p → IsNaming Q (outcome at t p)
names_outcome at t p result known = search works depth 30

names_body : {Q : NameView → Type 0} (s : SettingView) (f : FunctionView) (p : Plan) → NamesLocals Q f.scope → NamesStatements Q (statement_trees f.body) → IsNaming Q p → IsNaming Q (body s f p)
names_body s f p scope inside known = search (works, names_left, names_statements, names_entered) depth 30

names_parameters : {Q : NameView → Type 0} (s : SettingView) (f : FunctionView) (p : Plan) → Q Outcome → NamesLocals Q s.parameters → IsNaming Q p → IsNaming Q (parameters s f p)
names_parameters s f p result own known = search (works, names_arguments, names_result, names_entered) depth 30

names_entry : {Q : NameView → Type 0} (s : SettingView) (f : FunctionView) (p : Plan) → NamesLocals Q f.scope → NamesStatements Q (statement_trees f.body) → IsNaming Q p → IsNaming Q (entry s f p)
names_entry s f p scope inside known = search (works, names_body) depth 30

names_called : {Q : NameView → Type 0} (s : SettingView) (f : FunctionView) (p : Plan) → Q Outcome → NamesLocals Q s.parameters → NamesLocals Q f.scope → NamesStatements Q (statement_trees f.body) → IsNaming Q p → IsNaming Q (called s f p)
names_called s f p result own scope inside known = search (works, names_outcome, names_left, names_body, names_parameters) depth 30

names_function : {Q : NameView → Type 0} (s : SettingView) (f : FunctionView) (p : Plan) → NamesLocals Q s.parameters → NamesFunction Q f → IsNaming Q p → IsNaming Q (function s f p)
names_function {Q = Q} s f p own named known = by s.is_entry
  where
    by : (b : Bool) → IsNaming Q (cond b (entry s f p) (called s f p))
    by true = names_entry s f p named.scope named.body known
    by false = names_called s f p named.outcome own named.scope named.body known

pub names_of_template : (Q : NameView → Type 0) (structs : List StructView) (pointer int_bytes : ℕ) (f : FunctionView) (is_entry : Bool) (t : TemplateView) → IsTemplate structs pointer int_bytes f is_entry t → NamesFunction Q f → AllNames Q t.names
names_of_template Q structs pointer int_bytes f is_entry t is named =
    let s = setting_of structs pointer int_bytes f is_entry in
    let p = function s f (no_plan f.labels) in
    let d = derived s p t is in
    let free : AreFree Q = record { outcome = named.outcome; sites = named.sites } in
    let first = names_function s f (no_plan f.labels) named.parameters named (names_none Q (no_plan f.labels) refl tt) in
    subst (AllNames Q) (sym d.names) (names_made Q free s (scopes_of Q f named) named.parameters (planless p) p.jobs t.pieces d.last d.pieces refl first.names first.works)
