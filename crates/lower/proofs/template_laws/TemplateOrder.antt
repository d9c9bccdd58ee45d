-- What the order of pieces is while a template is made, and when it is made.
use Rattle.std.proofs.Common.{◌≡◌, ℕ, zero, suc, ◌+◌, Bool, true, false, cond, List, [], ◌∷◌, ◌++◌, map, refl, ap, sym, subst, ◌∙◌, append_assoc}
use Rattle.std.proofs.lemmas.List.{map-append, append-nil}
use Rattle.cc_base.specs.declared.diagnostics.Place.{Place}
use Rattle.c_layout.specs.Types.{Ty}
use Rattle.c_layout.specs.CheckedUnits.{FunctionView}
use Rattle.c_layout.specs.StructViews.{StructView}
use Rattle.lower_templates.specs.Worklist.Acts as acts
use Rattle.lower_templates.specs.Worklist.Acts.{Step}
use Rattle.lower_templates.specs.Worklist.Pieces.{Outcome, PieceView, Do, DoIfUsed, End, Mark, TemplateView}
use Rattle.lower_templates.specs.Worklist.TermKinds.{is_void, scalar_of}
use Rattle.lower_templates.specs.Worklist.Works as jobs
use Rattle.lower_templates.specs.Worklist.Works.{Job}
use Rattle.lower_templates.specs.Worklist.Plans.{Plan, with_work, with_name}
use Rattle.lower_templates.specs.Worklist.Settings.{SettingView}
use Rattle.lower_functions.specs.Functions.Functions.{result_loaded, outcome, body, entry, called, function, setting_of, no_plan, IsTemplate}
use Rattle.lower_functions.specs.Functions.Turns.{turn, Going, scheduled, going_on, next_of, is_work, has_work, after, begun, Finishes}
use Rattle.lower_functions.proofs.PlanClosures.{AnyStatement}
use Rattle.lower_functions.proofs.TermPlans.{kept_term, kept_address}
use Rattle.lower_functions.proofs.ConditionPlans.{kept_condition}
use Rattle.lower_functions.proofs.StatementPlans.{kept_statement}
use Rattle.lower_functions.proofs.FunctionPlans.{kept_entry, kept_before_result}
use Rattle.lower_functions.proofs.PlannedWorks.{such_none, such_terms, such_conditions, such_name}
use Rattle.lower.specs.TemplateLaws.PieceOrder.{AreFollowed, ends_block}
use Rattle.lower.proofs.template_laws.PieceLists.{ArePlain, plain_before, in_place, last_more, last_in_place}
use Rattle.lower.proofs.template_laws.PlainWorks.{shadow, IsDone, IsPlain, done_anyway, plain_statements, plain_shadows}

-- the pieces so far, and what is still to be done
abbrev to_come : Going → List PieceView
to_come g = g.pieces ++ map shadow g.stack

record InOrder (g : Going) : Type 0 where
  followed : AreFollowed (to_come g)
  none : g.planned.jobs ≡ []

record EndsSo (g : Going) : Type 0 where
  last : ends_block (to_come g) ≡ true
  none : g.planned.jobs ≡ []

nothing_plain : (p : Plan) → p.jobs ≡ [] → IsPlain p
nothing_plain p none = such_none AnyStatement IsDone p none

plain_of : (p : Plan) → IsPlain p → ArePlain (map shadow p.jobs)
plain_of p plain = plain_shadows p.names p.jobs plain.works

replaced : (pieces : List PieceView) (planned : Plan) (js : List Job) → pieces ++ (map shadow planned.jobs ++ map shadow js) ≡ to_come (scheduled (going_on js (record { pieces = pieces; after = planned })))
replaced pieces planned js = ap (λ ps. pieces ++ ps) (sym (map-append shadow planned.jobs js))

-- a work gives way to the works that it consists of
in_order_on : (j : Job) (js : List Job) (pieces : List PieceView) (planned : Plan) → shadow j ≡ Mark 0 → IsPlain planned → AreFollowed (pieces ++ map shadow (j ∷ js)) → InOrder (scheduled (going_on js (record { pieces = pieces; after = planned })))
in_order_on j js pieces planned is plain followed = record {
  followed = subst AreFollowed (replaced pieces planned js) (in_place pieces (map shadow planned.jobs) (map shadow js) (Mark 0) (λ none. none) (plain_of planned plain) (subst (λ q. AreFollowed (pieces ++ q ∷ map shadow js)) is followed));
  none = refl;
}

ends_on : (j : Job) (js : List Job) (pieces : List PieceView) (planned : Plan) → shadow j ≡ Mark 0 → ends_block (pieces ++ map shadow (j ∷ js)) ≡ true → EndsSo (scheduled (going_on js (record { pieces = pieces; after = planned })))
ends_on j js pieces planned is last = record {
  last = ap ends_block (sym (replaced pieces planned js)) ∙ last_in_place false pieces (map shadow planned.jobs) (map shadow js) (Mark 0) refl (subst (λ q. ends_block (pieces ++ q ∷ map shadow js) ≡ true) is last);
  none = refl;
}

-- a piece is added
one_piece : (q : PieceView) (js : List Job) (pieces : List PieceView) (p : Plan) → p.jobs ≡ [] → to_come (scheduled (going_on js (record { pieces = pieces ++ q ∷ []; after = p }))) ≡ pieces ++ map shadow (jobs.Ready q ∷ js)
one_piece q js pieces p none = ap (λ ks. (pieces ++ q ∷ []) ++ map shadow (ks ++ js)) none ∙ append_assoc pieces (q ∷ []) (map shadow js)

order_turn : (s : SettingView) (j : Job) (js : List Job) (pieces : List PieceView) (p : Plan) → p.jobs ≡ [] → AreFollowed (pieces ++ map shadow (j ∷ js)) → InOrder (scheduled (going_on js (turn s j pieces p)))
order_turn s (jobs.Value e depth) js pieces p none followed = in_order_on (jobs.Value e depth) js pieces _ refl (kept_term (such_terms AnyStatement done_anyway) s e depth true p (nothing_plain p none)) followed
order_turn s (jobs.Unused e depth) js pieces p none followed = in_order_on (jobs.Unused e depth) js pieces _ refl (kept_term (such_terms AnyStatement done_anyway) s e depth false p (nothing_plain p none)) followed
order_turn s (jobs.Address l depth) js pieces p none followed = in_order_on (jobs.Address l depth) js pieces _ refl (kept_address (such_terms AnyStatement done_anyway) s l depth p (nothing_plain p none)) followed
order_turn s (jobs.Condition e decision) js pieces p none followed = in_order_on (jobs.Condition e decision) js pieces _ refl (kept_condition (such_conditions AnyStatement done_anyway) s e decision p (nothing_plain p none)) followed
order_turn s (jobs.Statement i around) js pieces p none followed = in_order_on (jobs.Statement i around) js pieces _ refl (kept_statement plain_statements s i around p tt (nothing_plain p none)) followed
order_turn s (jobs.Ready q) js pieces p none followed = record { followed = subst AreFollowed (sym (one_piece q js pieces p none)) followed; none = refl }

ends_turn : (s : SettingView) (j : Job) (js : List Job) (pieces : List PieceView) (p : Plan) → p.jobs ≡ [] → ends_block (pieces ++ map shadow (j ∷ js)) ≡ true → EndsSo (scheduled (going_on js (turn s j pieces p)))
ends_turn s (jobs.Value e depth) js pieces p none last = ends_on (jobs.Value e depth) js pieces _ refl last
ends_turn s (jobs.Unused e depth) js pieces p none last = ends_on (jobs.Unused e depth) js pieces _ refl last
ends_turn s (jobs.Address l depth) js pieces p none last = ends_on (jobs.Address l depth) js pieces _ refl last
ends_turn s (jobs.Condition e decision) js pieces p none last = ends_on (jobs.Condition e decision) js pieces _ refl last
ends_turn s (jobs.Statement i around) js pieces p none last = ends_on (jobs.Statement i around) js pieces _ refl last
ends_turn s (jobs.Ready q) js pieces p none last = record { last = ap ends_block (one_piece q js pieces p none) ∙ last; none = refl }

order_next : (s : SettingView) (js : List Job) (g : Going) → g.stack ≡ js → InOrder g → InOrder (next_of s js g)
order_next s [] g is o = o
order_next s (j ∷ js) g is o = order_turn s j js g.pieces g.planned o.none (subst (λ ks. AreFollowed (g.pieces ++ map shadow ks)) is o.followed)

ends_next : (s : SettingView) (js : List Job) (g : Going) → g.stack ≡ js → EndsSo g → EndsSo (next_of s js g)
ends_next s [] g is o = o
ends_next s (j ∷ js) g is o = ends_turn s j js g.pieces g.planned o.none (subst (λ ks. ends_block (g.pieces ++ map shadow ks) ≡ true) is o.last)

order_after : (s : SettingView) (n : ℕ) (g : Going) → InOrder g → InOrder (after s n g)
order_after s zero g o = o
order_after s (suc n) g o = order_next s (after s n g).stack (after s n g) refl (order_after s n g o)

ends_after : (s : SettingView) (n : ℕ) (g : Going) → EndsSo g → EndsSo (after s n g)
ends_after s zero g o = o
ends_after s (suc n) g o = ends_next s (after s n g).stack (after s n g) refl (ends_after s n g o)

no_work : (js : List Job) → is_work js ≡ false → js ≡ []
no_work [] none = refl
no_work (j ∷ js) none = cc

all_there : (g : Going) → has_work g ≡ false → to_come g ≡ g.pieces
all_there g none = ap (λ js. g.pieces ++ map shadow js) (no_work g.stack none) ∙ append-nil g.pieces

planned_first : (p : Plan) → to_come (begun p) ≡ map shadow p.jobs
planned_first p = ap (map shadow) (append-nil p.jobs)

order_finished : (s : SettingView) (p : Plan) (t : TemplateView) → AreFollowed (map shadow p.jobs) → Finishes s p t → AreFollowed t.pieces
order_finished s p t followed f =
    let o = order_after s f.turns (begun p) (record { followed = subst AreFollowed (sym (planned_first p)) followed; none = refl }) in
    subst (λ r. AreFollowed r.pieces) f.comes_to (subst AreFollowed (all_there (after s f.turns (begun p)) f.ended) o.followed)

ends_finished : (s : SettingView) (p : Plan) (t : TemplateView) → ends_block (map shadow p.jobs) ≡ true → Finishes s p t → ends_block t.pieces ≡ true
ends_finished s p t last f =
    let o = ends_after s f.turns (begun p) (record { last = ap ends_block (planned_first p) ∙ last; none = refl }) in
    ap (λ r. ends_block r.pieces) (sym f.comes_to) ∙ ap ends_block (sym (all_there (after s f.turns (begun p)) f.ended)) ∙ o.last

abbrev Followed : Plan → Type 0
Followed p = AreFollowed (map shadow p.jobs)

followed_if_plain : (p : Plan) → IsPlain p → Followed p
followed_if_plain p plain = subst AreFollowed (append-nil (map shadow p.jobs)) (plain_before (map shadow p.jobs) [] (plain_of p plain) tt)

shadow_more : (p : Plan) (j : Job) → map shadow (with_work j p).jobs ≡ map shadow p.jobs ++ shadow j ∷ []
unfolding with_work
shadow_more p j = map-append shadow p.jobs (j ∷ [])

three_more : (ps : List PieceView) (a b c : PieceView) → ((ps ++ a ∷ []) ++ b ∷ []) ++ c ∷ [] ≡ ps ++ (a ∷ b ∷ c ∷ [])
three_more [] a b c = refl
three_more (p ∷ ps) a b c = ap (λ qs. p ∷ qs) (three_more ps a b c)

-- two instructions where the value is used, and one in any case
used_twice : (p : Plan) (a b c : Step) → IsPlain p → Followed (with_work (jobs.Ready (Do c)) (with_work (jobs.Ready (DoIfUsed b)) (with_work (jobs.Ready (DoIfUsed a)) p)))
used_twice p a b c plain =
    let one = with_work (jobs.Ready (DoIfUsed a)) p in
    let two = with_work (jobs.Ready (DoIfUsed b)) one in
    let is : map shadow (with_work (jobs.Ready (Do c)) two).jobs ≡ map shadow p.jobs ++ (DoIfUsed a ∷ DoIfUsed b ∷ Do c ∷ []) =
    shadow_more two (jobs.Ready (Do c))
    ∙ ap (λ ps. ps ++ Do c ∷ []) (shadow_more one (jobs.Ready (DoIfUsed b)) ∙ ap (λ ps. ps ++ DoIfUsed b ∷ []) (shadow_more p (jobs.Ready (DoIfUsed a))))
    ∙ three_more (map shadow p.jobs) (DoIfUsed a) (DoIfUsed b) (Do c) in
    subst AreFollowed (sym is) (plain_before (map shadow p.jobs) (DoIfUsed a ∷ DoIfUsed b ∷ Do c ∷ []) (plain_of p plain) (tt, (tt, (tt, tt))))

followed_outcome : (at : Place) (t : Ty) (p : Plan) → IsPlain p → Followed (outcome at t p)
followed_outcome at t p plain = by_void (is_void t)
  where
    by_void : (b : Bool) → Followed (cond b p (result_loaded at (scalar_of t) p))
    by_void true = followed_if_plain p plain
    by_void false = used_twice (with_name Outcome p) _ _ _ (such_name AnyStatement done_anyway Outcome p plain)

followed_function : (s : SettingView) (f : FunctionView) (p : Plan) → IsPlain p → Followed (function s f p)
followed_function s f p plain = by_entry s.is_entry
  where
    by_entry : (b : Bool) → Followed (cond b (entry s f p) (called s f p))
    by_entry true = followed_if_plain (entry s f p) (kept_entry plain_statements s f p tt plain)
    by_entry false = followed_outcome s.at f.returns _ (kept_before_result plain_statements s f p tt plain)

pub template_followed : (structs : List StructView) (pointer int_bytes : ℕ) (f : FunctionView) (is_entry : Bool) (t : TemplateView) → IsTemplate structs pointer int_bytes f is_entry t → AreFollowed t.pieces
template_followed structs pointer int_bytes f is_entry t is =
    let s = setting_of structs pointer int_bytes f is_entry in
    order_finished s (function s f (no_plan f.labels)) t (followed_function s f (no_plan f.labels) (nothing_plain (no_plan f.labels) refl)) is

ends_entry : (s : SettingView) (f : FunctionView) (p : Plan) → ends_block (map shadow (entry s f p).jobs) ≡ true
ends_entry s f p =
    let stop = End (record { at = s.at; does = acts.Stop }) [] in
    ap ends_block (shadow_more (body s f p) (jobs.Ready stop)) ∙ last_more false (map shadow (body s f p).jobs) stop

pub entry_ends : (structs : List StructView) (pointer int_bytes : ℕ) (f : FunctionView) (t : TemplateView) → IsTemplate structs pointer int_bytes f true t → ends_block t.pieces ≡ true
entry_ends structs pointer int_bytes f t is =
    let s = setting_of structs pointer int_bytes f true in
    ends_finished s (function s f (no_plan f.labels)) t (ends_entry s f (no_plan f.labels)) is
