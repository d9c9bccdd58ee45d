-- `&&`, `||` and `?:` as terms.
use Rattle.std.proofs.Common.{◌≡◌, ◌≤◌, ◌<◌, ℕ, pos, suc, ◌+◌, ◌-◌, ◌^◌, true, false, List, [], ◌∷◌, ◌++◌, Some, None, arith, ap}
use Rattle.c_layout.specs.CheckedTrees.{TermTree}
use Rattle.c_layout.specs.declared.syntax_tree.expressions.LogicalOp.{LogicalOp}
use Rattle.c_layout.specs.declared.syntax_tree.expressions.LogicalOp.TheVariants.{And, Or}
use Rattle.lower_templates.specs.Worklist.Acts as act
use Rattle.lower_templates.specs.Worklist.Pieces.{PieceView, End, Mark}
use Rattle.lower_templates.specs.Worklist.Plans.{Plan, with_work, with_labels}
use Rattle.lower_templates.specs.Worklist.Settings.{SettingView}
use Rattle.lower_templates.specs.Worklist.TermKinds.{scalar_of, term_at, term_type}
use Rattle.lower_templates.specs.Worklist.Works as jobs
use Rattle.lower_templates.specs.Worklist.Works.{Job}
use Rattle.lower_templates.specs.declared.worklist.pending_works.Targets.{Targets}
use Rattle.lower_expressions.specs.Branches as lowered
use Rattle.lower_expressions.specs.declared.branched_values.Known.{Known}
use Rattle.semantics.specs.SourceMachine.Items as item
use Rattle.semantics.specs.SourceMachine.Items.{Item, Items, items_of, listed}
use Rattle.semantics.specs.SourceMachine.ConditionItems as source
use Rattle.simulation_terms.specs.SimulationRelation.Activations.{Activation}
use Rattle.simulation_terms.specs.SimulationRelation.Simulates as simulates
use Rattle.simulation_terms.specs.SimulationRelation.Simulates.{own, Leads, IsEdge, Simulates}
use Rattle.simulation_terms.proofs.simulation_relation.Constructions.{gives_edges}
use Rattle.simulation_terms.specs.Worklists.TemplateParts.{IsOfUnit, Stands}
use Rattle.simulation_terms.proofs.worklists.Runs.{Runs, stands_behind, stands_after}
use Rattle.simulation_terms.proofs.worklists.About.{Valued}
use Rattle.simulation_terms.proofs.worklists.Laying.{from_piece, from_none, from_work, led, known_between}

-- the piece of a branch
abbrev pub branching : TermTree → ℕ → Targets → Known → PieceView
branching e d targets known = End (record { at = term_at e; does = act.Branch d (scalar_of (term_type e)) }) (lowered.branch_exits targets known)

-- ---- works

abbrev pub logical_jobs : LogicalOp → TermTree → TermTree → ℕ → ℕ → List Job
logical_jobs sign a b d l =
    jobs.Ready (Mark l) ∷ (jobs.Value a d ∷ (jobs.Ready (branching a d (lowered.left_targets sign (lowered.both (l + 2)) (l + 1)) (lowered.left_known sign d))
    ∷ (jobs.Ready (Mark (l + 1)) ∷ (jobs.Value b d ∷ (jobs.Ready (branching b d (lowered.both (l + 2)) (lowered.right_known d)) ∷ (jobs.Ready (Mark (l + 2)) ∷ []))))))

pub logical_planned : (sign : LogicalOp) (a b : TermTree) (d : ℕ) (p : Plan) → p.jobs ≡ [] → (lowered.logical sign a b d p).jobs ≡ logical_jobs sign a b d p.labels
unfolding with_work with_labels
logical_planned sign a b d p none =
    ap (λ js. ((((((js ++ jobs.Ready (Mark p.labels) ∷ []) ++ jobs.Value a d ∷ []) ++ jobs.Ready (branching a d (lowered.left_targets sign (lowered.both (p.labels + 2)) (p.labels + 1)) (lowered.left_known sign d)) ∷ [])
    ++ jobs.Ready (Mark (p.labels + 1)) ∷ []) ++ jobs.Value b d ∷ []) ++ jobs.Ready (branching b d (lowered.both (p.labels + 2)) (lowered.right_known d)) ∷ []) ++ jobs.Ready (Mark (p.labels + 2)) ∷ []) none

one_more : (l : ℕ) → l + 1 < l + 3
one_more l = omega arith

two_more : (l : ℕ) → l + 2 < l + 3
two_more l = omega arith

itself : (l : ℕ) → l ≤ l
itself l = omega arith

module _ (s : SettingView) (t : Activation) (fits : IsOfUnit t s) (n : ℕ) where
  -- ---- the right operand

  right_edges : (e : TermTree) (d l : ℕ) (items : List Item) (w there : List PieceView) → Leads t l there → Simulates t n (suc d) items there
      → Simulates t n (suc d) (item.Choose (term_at e) None (items_of (item.Truth true ∷ [])) (items_of (item.Truth false ∷ [])) ∷ items) (branching e d (lowered.both l) (lowered.right_known d) ∷ w)
  right_edges e d l items w there to f =
      gives_edges n d l l (suc d) (suc d) (term_at e) (scalar_of (term_type e)) None None None (Some (d, pos 1)) (Some (d, pos 0)) (items_of (item.Truth true ∷ [])) (items_of (item.Truth false ∷ [])) items items items w there there simulates.none to to
      (simulates.truth d true items) (simulates.truth d false items) f f

  -- ---- the left operand

  and_edges : (a b : TermTree) (d last right : ℕ) (items : List Item) (w there on_right : List PieceView) → Leads t last there → Leads t right on_right → Simulates t n (suc d) items there
      → Simulates t n d (source.choice_of b (item.Truth true ∷ []) (item.Truth false ∷ []) ++ items) on_right
      → Simulates t n (suc d) (item.Choose (term_at a) None (items_of (source.choice_of b (item.Truth true ∷ []) (item.Truth false ∷ []))) (items_of (item.Truth false ∷ [])) ∷ items) (branching a d (lowered.left_targets And (lowered.both last) right) (lowered.left_known And d) ∷ w)
  and_edges a b d last right items w there on_right to_last to_right f g =
      gives_edges n d right last d (suc d) (term_at a) (scalar_of (term_type a)) None None None None (Some (d, pos 0)) (items_of (source.choice_of b (item.Truth true ∷ []) (item.Truth false ∷ []))) (items_of (item.Truth false ∷ [])) items _ items w on_right there simulates.none to_right to_last
      (simulates.plain d _) (simulates.truth d false items) g f

  or_edges : (a b : TermTree) (d last right : ℕ) (items : List Item) (w there on_right : List PieceView) → Leads t last there → Leads t right on_right → Simulates t n (suc d) items there
      → Simulates t n d (source.choice_of b (item.Truth true ∷ []) (item.Truth false ∷ []) ++ items) on_right
      → Simulates t n (suc d) (item.Choose (term_at a) None (items_of (item.Truth true ∷ [])) (items_of (source.choice_of b (item.Truth true ∷ []) (item.Truth false ∷ []))) ∷ items) (branching a d (lowered.left_targets Or (lowered.both last) right) (lowered.left_known Or d) ∷ w)
  or_edges a b d last right items w there on_right to_last to_right f g =
      gives_edges n d last right (suc d) d (term_at a) (scalar_of (term_type a)) None None None (Some (d, pos 1)) None (items_of (item.Truth true ∷ [])) (items_of (source.choice_of b (item.Truth true ∷ []) (item.Truth false ∷ []))) items items _ w there on_right simulates.none to_last to_right
      (simulates.truth d true items) (simulates.plain d _) f g

  left_of : (sign : LogicalOp) (a b : TermTree) (d last right : ℕ) (items : List Item) (front back there on_right : List PieceView) → Leads t last there → Leads t right on_right → Simulates t n (suc d) items there
      → Simulates t n d (source.choice_of b (item.Truth true ∷ []) (item.Truth false ∷ []) ++ items) on_right
      → ((held failed : Items) → Simulates t n (suc d) (item.Choose (term_at a) None held failed ∷ items) (branching a d (lowered.left_targets sign (lowered.both last) right) (lowered.left_known sign d) ∷ back) → Simulates t n d (item.Value a ∷ (item.Choose (term_at a) None held failed ∷ items)) (front ++ branching a d (lowered.left_targets sign (lowered.both last) right) (lowered.left_known sign d) ∷ back))
      → Simulates t n d (source.logical sign a b ++ items) (front ++ branching a d (lowered.left_targets sign (lowered.both last) right) (lowered.left_known sign d) ∷ back)
  left_of And a b d last right items front back there on_right to_last to_right f g first = first _ _ (and_edges a b d last right items back there on_right to_last to_right f g)
  left_of Or a b d last right items front back there on_right to_last to_right f g first = first _ _ (or_edges a b d last right items back there on_right to_last to_right f g)

  pub logical_runs : (sign : LogicalOp) (a b : TermTree) (d l : ℕ) → Valued s t n a d → Valued s t n b d → l + 3 ≤ 2 ^ 32 - 1 → Runs s t n (logical_jobs sign a b d l) (source.logical sign a b) d (suc d)
  logical_runs sign a b d l first second few = record {
    from = λ p none ps r m known items rest stands f.
        let qa = branching a d (lowered.left_targets sign (lowered.both (l + 2)) (l + 1)) (lowered.left_known sign d) in
        let qb = branching b d (lowered.both (l + 2)) (lowered.right_known d) in
        from_piece s r rest p (Mark l) _ ps (λ w. Stands t w → Simulates t n d (source.logical sign a b ++ items) w) m
        (λ back1 m1. from_work s r rest p (jobs.Value a d) _ back1 (λ w. Stands t (Mark l ∷ w) → Simulates t n d (source.logical sign a b ++ items) (Mark l ∷ w)) none m1
        (λ fa pa back2 ma none_a m2. from_piece s r rest pa qa _ back2 (λ w. Stands t (Mark l ∷ (fa ++ w)) → Simulates t n d (source.logical sign a b ++ items) (Mark l ∷ (fa ++ w))) m2
        (λ back3 m3. from_piece s r rest pa (Mark (l + 1)) _ back3 (λ w. Stands t (Mark l ∷ (fa ++ qa ∷ w)) → Simulates t n d (source.logical sign a b ++ items) (Mark l ∷ (fa ++ qa ∷ w))) m3
        (λ back4 m4. from_work s r rest pa (jobs.Value b d) _ back4 (λ w. Stands t (Mark l ∷ (fa ++ qa ∷ (Mark (l + 1) ∷ w))) → Simulates t n d (source.logical sign a b ++ items) (Mark l ∷ (fa ++ qa ∷ (Mark (l + 1) ∷ w)))) none_a m4
        (λ fb pb back5 mb none_b m5. from_piece s r rest pb qb _ back5 (λ w. Stands t (Mark l ∷ (fa ++ qa ∷ (Mark (l + 1) ∷ (fb ++ w)))) → Simulates t n d (source.logical sign a b ++ items) (Mark l ∷ (fa ++ qa ∷ (Mark (l + 1) ∷ (fb ++ w))))) m5
        (λ back6 m6. from_piece s r rest pb (Mark (l + 2)) [] back6 (λ w. Stands t (Mark l ∷ (fa ++ qa ∷ (Mark (l + 1) ∷ (fb ++ qb ∷ w)))) → Simulates t n d (source.logical sign a b ++ items) (Mark l ∷ (fa ++ qa ∷ (Mark (l + 1) ∷ (fb ++ qb ∷ w))))) m6
        (λ back7 m7. from_none s r rest pb back7 (λ w. Stands t (Mark l ∷ (fa ++ qa ∷ (Mark (l + 1) ∷ (fb ++ qb ∷ (Mark (l + 2) ∷ w))))) → Simulates t n d (source.logical sign a b ++ items) (Mark l ∷ (fa ++ qa ∷ (Mark (l + 1) ∷ (fb ++ qb ∷ (Mark (l + 2) ∷ w)))))) m7
        (λ stands.
        let at_a = stands_after t (Mark l) (fa ++ qa ∷ (Mark (l + 1) ∷ (fb ++ qb ∷ (Mark (l + 2) ∷ rest)))) stands in
        let at_right = stands_after t qa (Mark (l + 1) ∷ (fb ++ qb ∷ (Mark (l + 2) ∷ rest))) (stands_behind t fa (qa ∷ (Mark (l + 1) ∷ (fb ++ qb ∷ (Mark (l + 2) ∷ rest)))) at_a) in
        let at_b = stands_after t (Mark (l + 1)) (fb ++ qb ∷ (Mark (l + 2) ∷ rest)) at_right in
        let at_last = stands_after t qb (Mark (l + 2) ∷ rest) (stands_behind t fb (qb ∷ (Mark (l + 2) ∷ rest)) at_b) in
        let to_last = led s t fits (l + 2) (l + 3) (l + 3) rest (two_more l) (itself (l + 3)) few at_last in
        let to_right = led s t fits (l + 1) (l + 3) (l + 3) (fb ++ qb ∷ (Mark (l + 2) ∷ rest)) (one_more l) (itself (l + 3)) few at_right in
        let right : Simulates t n d (source.choice_of b (item.Truth true ∷ []) (item.Truth false ∷ []) ++ items) (fb ++ qb ∷ (Mark (l + 2) ∷ rest)) =
        second.from pa none_a fb pb mb (known_between s t pb _ _ r m5 known) (item.Choose (term_at b) None (items_of (item.Truth true ∷ [])) (items_of (item.Truth false ∷ [])) ∷ items) (qb ∷ (Mark (l + 2) ∷ rest)) at_b (right_edges b d (l + 2) items (Mark (l + 2) ∷ rest) rest to_last f) in
        simulates.by_mark n d l _ _
        (left_of sign a b d (l + 2) (l + 1) items fa (Mark (l + 1) ∷ (fb ++ qb ∷ (Mark (l + 2) ∷ rest))) rest (fb ++ qb ∷ (Mark (l + 2) ∷ rest)) to_last to_right f right
        (λ held failed edges. first.from p none fa pa ma (known_between s t pa _ _ r m2 known) (item.Choose (term_at a) None held failed ∷ items) (qa ∷ (Mark (l + 1) ∷ (fb ++ qb ∷ (Mark (l + 2) ∷ rest)))) at_a edges)))))))))) stands;
  }
