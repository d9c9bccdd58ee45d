-- What pieces name while a template is made, and when it is made.
use Rattle.std.proofs.Common.{◌≡◌, ◌≤◌, ℕ, zero, suc, ◌+◌, Bool, true, false, List, [], ◌∷◌, ◌++◌, map, length, Option, refl, arith, ap, sym, subst, ◌∙◌, length-append, append_assoc}
use Rattle.std.proofs.lemmas.List.{map-append, append-nil}
use Rattle.cc_base.specs.declared.diagnostics.Place.{Place}
use Rattle.c_layout.specs.Types.{Ty}
use Rattle.c_layout.specs.CheckedUnits.{FunctionView}
use Rattle.c_layout.specs.StructViews.{StructView}
use Rattle.cfg.specs.declared.machine_instructions.Scalar.{Scalar}
use Rattle.lower_templates.specs.Worklist.Acts as acts
use Rattle.lower_templates.specs.Worklist.Pieces.{NameView, Outcome, PieceView, Do, DoIfUsed, TemplateView}
use Rattle.lower_templates.specs.Worklist.Works as jobs
use Rattle.lower_templates.specs.Worklist.Works.{Job}
use Rattle.lower_templates.specs.Worklist.Plans.{Plan, with_work, with_name}
use Rattle.lower_templates.specs.Worklist.Settings.{SettingView}
use Rattle.lower_functions.specs.Functions.Functions.{result_loaded, function, setting_of, no_plan, IsTemplate}
use Rattle.lower_functions.specs.Functions.Turns.{turn, Going, scheduled, going_on, next_of, is_work, after, begun, template_of, Finishes}
use Rattle.lower_functions.proofs.TermPlans.{kept_term, kept_address}
use Rattle.lower_functions.proofs.StatementPlans.{kept_statement}
use Rattle.lower_functions.proofs.FunctionPlans.{kept_function}
use Rattle.lower.specs.TemplateLaws.NamedBases.{named_in, named_in_all, AllBelow, all_sites, sites_named, AreNamed}
use Rattle.lower.proofs.template_laws.PlainWorks.{shadow}
use Rattle.lower.proofs.template_laws.NamedLists.{all_append, below_append, below_left, below_right, below_more, sites_append, named_append, same_sites, named_in_jobs, known_fresh, known_work, Balanced, bal_known, bal_silent, bal_fresh}
use Rattle.lower.proofs.template_laws.NamedWorks.{balanced}
use Rattle.lower.proofs.template_laws.NamedConditions.{bal_condition_works}
use Rattle.lower.proofs.template_laws.NamedStatements.{balanced_statements}

-- the bases that are named so far and by what is still to be done
abbrev to_name : List PieceView → List Job → List ℕ
to_name pieces js = named_in_all (pieces ++ map shadow js)

record Names (w : Option Ty → ℕ) (g : Going) : Type 0 where
  below : AllBelow (length g.planned.names) (to_name g.pieces g.stack)
  sites : sites_named w g.planned.names (to_name g.pieces g.stack) ≡ all_sites w g.planned.names
  none : g.planned.jobs ≡ []

-- nothing is planned
balanced_none : (w : Option Ty → ℕ) (p : Plan) → p.jobs ≡ [] → Balanced w p.names p
balanced_none w p none = record {
  grown = [];
  grows = sym (append-nil p.names);
  below = subst (λ js. AllBelow (length p.names) (named_in_jobs js)) (sym none) tt;
  sites = ap (λ js. sites_named w p.names (named_in_jobs js)) none;
}

-- a work gives way to the works that it consists of
names_on : (w : Option Ty → ℕ) (j : Job) (js : List Job) (pieces : List PieceView) (old : List NameView) (planned : Plan) → named_in (shadow j) ≡ [] → Balanced w old planned
    → AllBelow (length old) (to_name pieces (j ∷ js)) → sites_named w old (to_name pieces (j ∷ js)) ≡ all_sites w old → Names w (scheduled (going_on js (record { pieces = pieces; after = planned })))
names_on w j js pieces old planned silent b below sites =
    let names = planned.names in
    let x = named_in_all pieces in
    let y = named_in_jobs planned.jobs in
    let z = named_in_jobs js in
    let before : to_name pieces (j ∷ js) ≡ x ++ z = all_append pieces (shadow j ∷ map shadow js) ∙ ap (λ ns. x ++ (ns ++ z)) silent in
    let now : to_name pieces (planned.jobs ++ js) ≡ x ++ (y ++ z) = ap (λ ps. named_in_all (pieces ++ ps)) (map-append shadow planned.jobs js) ∙ all_append pieces (map shadow planned.jobs ++ map shadow js) ∙ ap (λ ns. x ++ ns) (all_append (map shadow planned.jobs) (map shadow js)) in
    let longer : length old ≤ length names = let e = ap length b.grows in let f = length-append old b.grown in omega (arith, e, f) in
    let old_below = subst (AllBelow (length old)) before below in
    let x_below = below_left (length old) x z old_below in
    let z_below = below_right (length old) x z old_below in
    let x_same : sites_named w names x ≡ sites_named w old x = ap (λ ns. sites_named w ns x) b.grows ∙ same_sites w old b.grown x x_below in
    let z_same : sites_named w names z ≡ sites_named w old z = ap (λ ns. sites_named w ns z) b.grows ∙ same_sites w old b.grown z z_below in
    let old_sum : sites_named w old x + sites_named w old z ≡ all_sites w old = sym (named_append w old x z) ∙ ap (sites_named w old) (sym before) ∙ sites in
    let all_sum : all_sites w names ≡ all_sites w old + all_sites w b.grown = ap (all_sites w) b.grows ∙ sites_append w old b.grown in
    let one = named_append w names x (y ++ z) in
    let two = named_append w names y z in
    record {
      below = subst (AllBelow (length names)) (sym now) (below_append (length names) x (y ++ z) (below_more (length old) (length names) x longer x_below) (below_append (length names) y z b.below (below_more (length old) (length names) z longer z_below)));
      sites = ap (sites_named w names) now ∙ sum _ _ _ _ _ _ _ _ _ _ one two x_same z_same b.sites old_sum all_sum;
      none = refl;
    }
  where
    sum : (xyz x y z yz ox oz g o a : ℕ) → xyz ≡ x + yz → yz ≡ y + z → x ≡ ox → z ≡ oz → y ≡ g → ox + oz ≡ o → a ≡ o + g → xyz ≡ a
    sum xyz x y z yz ox oz g o a p q r s t u v = omega arith

one_piece : (q : PieceView) (js : List Job) (pieces : List PieceView) (p : Plan) → p.jobs ≡ [] → to_name (pieces ++ q ∷ []) (p.jobs ++ js) ≡ to_name pieces (jobs.Ready q ∷ js)
one_piece q js pieces p none = ap (λ ks. to_name (pieces ++ q ∷ []) (ks ++ js)) none ∙ ap named_in_all (append_assoc pieces (q ∷ []) (map shadow js))

names_turn : (w : Option Ty → ℕ) (s : SettingView) (j : Job) (js : List Job) (pieces : List PieceView) (p : Plan) → p.jobs ≡ [] → AllBelow (length p.names) (to_name pieces (j ∷ js)) → sites_named w p.names (to_name pieces (j ∷ js)) ≡ all_sites w p.names
    → Names w (scheduled (going_on js (turn s j pieces p)))
names_turn w s (jobs.Value e depth) js pieces p none below sites = names_on w (jobs.Value e depth) js pieces p.names _ refl (kept_term (balanced w p.names) s e depth true p (balanced_none w p none)) below sites
names_turn w s (jobs.Unused e depth) js pieces p none below sites = names_on w (jobs.Unused e depth) js pieces p.names _ refl (kept_term (balanced w p.names) s e depth false p (balanced_none w p none)) below sites
names_turn w s (jobs.Address l depth) js pieces p none below sites = names_on w (jobs.Address l depth) js pieces p.names _ refl (kept_address (balanced w p.names) s l depth p (balanced_none w p none)) below sites
names_turn w s (jobs.Condition e decision) js pieces p none below sites = names_on w (jobs.Condition e decision) js pieces p.names _ refl (bal_condition_works s e decision p (balanced_none w p none)) below sites
names_turn w s (jobs.Statement i around) js pieces p none below sites = names_on w (jobs.Statement i around) js pieces p.names _ refl (kept_statement (balanced_statements w p.names) s i around p tt (balanced_none w p none)) below sites
names_turn w s (jobs.Ready q) js pieces p none below sites = record {
  below = subst (AllBelow (length p.names)) (sym (one_piece q js pieces p none)) below;
  sites = ap (sites_named w p.names) (one_piece q js pieces p none) ∙ sites;
  none = refl;
}

names_next : (w : Option Ty → ℕ) (s : SettingView) (js : List Job) (g : Going) → g.stack ≡ js → Names w g → Names w (next_of s js g)
names_next w s [] g is n = n
names_next w s (j ∷ js) g is n =
    names_turn w s j js g.pieces g.planned n.none (subst (λ ks. AllBelow (length g.planned.names) (to_name g.pieces ks)) is n.below) (ap (λ ks. sites_named w g.planned.names (to_name g.pieces ks)) (sym is) ∙ n.sites)

names_after : (w : Option Ty → ℕ) (s : SettingView) (n : ℕ) (g : Going) → Names w g → Names w (after s n g)
names_after w s zero g k = k
names_after w s (suc n) g k = names_next w s (after s n g).stack (after s n g) refl (names_after w s n g k)

names_begun : (w : Option Ty → ℕ) (p : Plan) → Balanced w [] p → Names w (begun p)
names_begun w p b =
    let all : to_name [] (p.jobs ++ []) ≡ named_in_jobs p.jobs = ap named_in_jobs (append-nil p.jobs) in
    record {
      below = subst (AllBelow (length p.names)) (sym all) b.below;
      sites = ap (sites_named w p.names) all ∙ b.sites ∙ ap (all_sites w) (sym b.grows);
      none = refl;
    }

no_work : (js : List Job) → is_work js ≡ false → js ≡ []
no_work [] none = refl
no_work (j ∷ js) none = cc

-- works of a plan that is balanced come to a template that names what is there
record Named (w : Option Ty → ℕ) (t : TemplateView) : Type 0 where
  below : AllBelow (length t.names) (named_in_all t.pieces)
  sites : sites_named w t.names (named_in_all t.pieces) ≡ all_sites w t.names

names_finished : (w : Option Ty → ℕ) (s : SettingView) (p : Plan) (t : TemplateView) → Balanced w [] p → Finishes s p t → Named w t
names_finished w s p t b f =
    let g = after s f.turns (begun p) in
    let k = names_after w s f.turns (begun p) (names_begun w p b) in
    let all : to_name g.pieces g.stack ≡ named_in_all g.pieces = ap (to_name g.pieces) (no_work g.stack f.ended) ∙ ap named_in_all (append-nil g.pieces) in
    let made : Named w (template_of g) = record { below = subst (AllBelow (length g.planned.names)) all k.below; sites = ap (sites_named w g.planned.names) (sym all) ∙ k.sites } in
    subst (Named w) f.comes_to made

-- the result's base is named by its address and when it is left
bal_loaded : {w : Option Ty → ℕ} {start : List NameView} (at : Place) (kind : Scalar) (p : Plan) → Balanced w start p → Balanced w start (result_loaded at kind p)
bal_loaded {w = w} at kind p bal =
    let address = jobs.Ready (DoIfUsed (record { at = at; does = acts.Address 0 (length p.names) 0 })) in
    let load = jobs.Ready (DoIfUsed (record { at = at; does = acts.Load 0 0 kind })) in
    let leave = jobs.Ready (Do (record { at = at; does = acts.Leave (length p.names) })) in
    let named = with_name Outcome p in
    let here = known_work load (length p.names ∷ []) (with_work address named) (known_work address (length p.names ∷ []) named (known_fresh Outcome p refl)) in
    bal_known leave (with_work load (with_work address named)) here (bal_silent load (with_work address named) refl (bal_fresh Outcome address p refl bal))

named_of : (w : Option Ty → ℕ) (structs : List StructView) (pointer int_bytes : ℕ) (f : FunctionView) (is_entry : Bool) (t : TemplateView) → IsTemplate structs pointer int_bytes f is_entry t → Named w t
named_of w structs pointer int_bytes f is_entry t is =
    let s = setting_of structs pointer int_bytes f is_entry in
    names_finished w s (function s f (no_plan f.labels)) t (kept_function (balanced_statements w []) s f (no_plan f.labels) (λ at kind q b. bal_loaded at kind q b) tt (balanced_none w (no_plan f.labels) refl)) is

pub template_named : (structs : List StructView) (pointer int_bytes : ℕ) (f : FunctionView) (is_entry : Bool) (t : TemplateView) → IsTemplate structs pointer int_bytes f is_entry t → AreNamed t
template_named structs pointer int_bytes f is_entry t is = record { below = (named_of (λ target. 0) structs pointer int_bytes f is_entry t is).below; sites = λ w. (named_of w structs pointer int_bytes f is_entry t is).sites }
