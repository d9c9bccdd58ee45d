-- Calls that read a line, for their value and for a condition.
use Rattle.std.proofs.Common.{◌≡◌, ◌≤◌, ◌<◌, ℕ, suc, ◌+◌, ◌-◌, ◌^◌, List, [], ◌∷◌, ◌++◌, Option, Some, None, arith, ap, sym, subst, ◌∙◌, append_assoc}
use Rattle.cc_base.specs.declared.diagnostics.Place.{Place}
use Rattle.c_layout.specs.Types.{Ty}
use Rattle.c_layout.specs.CheckedTrees.{TermTrees}
use Rattle.c_layout.specs.declared.library_functions.LibFn.TheVariants.{Fgets}
use Rattle.lower_templates.specs.Worklist.Acts as act
use Rattle.lower_templates.specs.Worklist.Pieces.{PieceView, End, Mark, NoLine, Line}
use Rattle.lower_templates.specs.Worklist.Plans.{Plan, with_work, with_labels}
use Rattle.lower_templates.specs.Worklist.Settings.{SettingView}
use Rattle.lower_templates.specs.Worklist.Works as jobs
use Rattle.lower_templates.specs.Worklist.Works.{Job, behind}
use Rattle.lower_expressions.specs.Calls.{line_value}
use Rattle.lower_template_theorems.specs.Worklists.Derivations.{Makes}
use Rattle.semantics.specs.SourceMachine.Items as item
use Rattle.semantics.specs.SourceMachine.Items.{Item, Items, listed}
use Rattle.semantics.specs.SourceMachine.Operations as op
use Rattle.semantics.specs.SourceMachine.TermItems.{arguments, argument_count}
use Rattle.simulation_terms.specs.SimulationRelation.Activations.{Activation}
use Rattle.simulation_terms.specs.SimulationRelation.Simulates.{Leads, Simulates}
use Rattle.simulation_terms.proofs.simulation_relation.Constructions.{gives_read, gives_line}
use Rattle.simulation_terms.specs.Worklists.Rooms.{room_of_all}
use Rattle.simulation_terms.specs.Worklists.TemplateParts.{IsOfUnit, IsKnown, Stands}
use Rattle.simulation_terms.proofs.worklists.Runs.{Runs, RunsFrom, then_from, then_ends, second_temp, next_temp, stands_after}
use Rattle.simulation_terms.proofs.worklists.About.{Fits, Argued, argument_jobs}
use Rattle.simulation_terms.proofs.worklists.Arguments.{argued_jobs, few_arguments}
use Rattle.simulation_terms.proofs.worklists.Laying.{from_piece, from_none, led}

-- the piece that reads a line
abbrev pub reading : Place → Option ℕ → ℕ → ℕ → ℕ → ℕ → ℕ → PieceView
reading at to d x y none some = End (record { at = at; does = act.ReadLine to d x y }) (record { to = none; taken = NoLine } ∷ (record { to = some; taken = Line } ∷ []))

three_fit : (d k : ℕ) (args : TermTrees) → argument_count args ≡ 3 → argument_count args ≤ room_of_all args → room_of_all args ≤ k → Fits d k → d + 3 ≤ 2 ^ 32 - 1
three_fit d k args e le few enough = omega (arith, e, le, few, enough)

pub second_there : (d k : ℕ) (args : TermTrees) → argument_count args ≡ 3 → room_of_all args ≤ k → Fits d k → suc d ≡ behind d 1
second_there d k args e few enough = next_temp d (less d (three_fit d k args e (few_arguments args) few enough))
  where
    less : (d : ℕ) → d + 3 ≤ 2 ^ 32 - 1 → d + 1 ≤ 2 ^ 32 - 1
    less d le = omega (arith, le)

pub third_there : (d k : ℕ) (args : TermTrees) → argument_count args ≡ 3 → room_of_all args ≤ k → Fits d k → suc (suc d) ≡ behind d 2
third_there d k args e few enough = second_temp d (less d (three_fit d k args e (few_arguments args) few enough))
  where
    less : (d : ℕ) → d + 3 ≤ 2 ^ 32 - 1 → d + 2 ≤ 2 ^ 32 - 1
    less d le = omega (arith, le)

three_more : (d n : ℕ) → n ≡ 3 → d + n ≡ suc (suc (suc d))
three_more d n e = omega (arith, e)

-- the works of a call for its value
pub line_jobs : (at : Place) (args : TermTrees) (d : ℕ) (p : Plan) → p.jobs ≡ [] → (line_value at args d p).jobs ≡ argument_jobs args d ++ (jobs.Ready (reading at (Some d) d (behind d 1) (behind d 2) p.labels p.labels) ∷ (jobs.Ready (Mark p.labels) ∷ []))
unfolding with_work with_labels
line_jobs at args d p none =
    let q = jobs.Ready (reading at (Some d) d (behind d 1) (behind d 2) p.labels p.labels) in
    ap (λ js. (js ++ q ∷ []) ++ jobs.Ready (Mark p.labels) ∷ []) (argued_jobs args d [] (with_labels 1 p) none) ∙ append_assoc (argument_jobs args d) (q ∷ []) (jobs.Ready (Mark p.labels) ∷ [])

module _ (s : SettingView) (t : Activation) (fits : IsOfUnit t s) (n : ℕ) where
  -- the arguments stand, a line is read, and both ways lead to the label behind
  read_and_marked : (at : Place) (target : Option Ty) (d x y l : ℕ) → suc d ≡ x → suc (suc d) ≡ y → l + 1 ≤ 2 ^ 32 - 1
      → Runs s t n (jobs.Ready (reading at (Some d) d x y l l) ∷ (jobs.Ready (Mark l) ∷ [])) (item.Do at (op.Library Fgets 3 target) ∷ []) (suc (suc (suc d))) (suc d)
  read_and_marked at target d x y l is_x is_y few = record {
    from = λ p none ps r m known items rest stands f.
        from_piece s r rest p (reading at (Some d) d x y l l) (jobs.Ready (Mark l) ∷ []) ps (λ w. Stands t w → Simulates t n (suc (suc (suc d))) (item.Do at (op.Library Fgets 3 target) ∷ items) w) m
        (λ back m. from_piece s r rest p (Mark l) [] back (λ w. Stands t (reading at (Some d) d x y l l ∷ w) → Simulates t n (suc (suc (suc d))) (item.Do at (op.Library Fgets 3 target) ∷ items) (reading at (Some d) d x y l l ∷ w)) m
        (λ back m. from_none s r rest p back (λ w. Stands t (reading at (Some d) d x y l l ∷ (Mark l ∷ w)) → Simulates t n (suc (suc (suc d))) (item.Do at (op.Library Fgets 3 target) ∷ items) (reading at (Some d) d x y l l ∷ (Mark l ∷ w))) m
        (λ stands. subst (λ x. Simulates t n (suc (suc (suc d))) (item.Do at (op.Library Fgets 3 target) ∷ items) (reading at (Some d) d x y l l ∷ (Mark l ∷ rest))) is_x
        (subst (λ y. Simulates t n (suc (suc (suc d))) (item.Do at (op.Library Fgets 3 target) ∷ items) (reading at (Some d) d (suc d) y l l ∷ (Mark l ∷ rest))) is_y
        (gives_read n d l at target items (Mark l ∷ rest) rest (led s t fits l (l + 1) (l + 1) rest (one_less l) (itself (l + 1)) few (stands_after t (reading at (Some d) d x y l l) (Mark l ∷ rest) stands)) f))))) stands;
  }
    where
      one_less : (l : ℕ) → l < l + 1
      one_less l = omega arith

      itself : (l : ℕ) → l ≤ l
      itself l = omega arith

  pub value_read : (at : Place) (args : TermTrees) (target : Option Ty) (d l : ℕ) (p : Plan) → p.jobs ≡ [] → argument_count args ≡ 3 → Fits d (room_of_all args) → Argued s t n args d → l + 1 ≤ 2 ^ 32 - 1
      → RunsFrom s t n p (argument_jobs args d ++ (jobs.Ready (reading at (Some d) d (behind d 1) (behind d 2) l l) ∷ (jobs.Ready (Mark l) ∷ []))) (arguments args ++ item.Do at (op.Library Fgets (argument_count args) target) ∷ []) d (suc d)
  value_read at args target d l p none three enough given few =
      subst (λ k. RunsFrom s t n p (argument_jobs args d ++ (jobs.Ready (reading at (Some d) d (behind d 1) (behind d 2) l l) ∷ (jobs.Ready (Mark l) ∷ []))) (arguments args ++ item.Do at (op.Library Fgets k target) ∷ []) d (suc d)) (sym three)
      (then_from s t n (argument_jobs args d) (jobs.Ready (reading at (Some d) d (behind d 1) (behind d 2) l l) ∷ (jobs.Ready (Mark l) ∷ [])) (arguments args) (item.Do at (op.Library Fgets 3 target) ∷ []) d (suc (suc (suc d))) (suc d) p none
      (subst (λ k. RunsFrom s t n p (argument_jobs args d) (arguments args) d k) (three_more d (argument_count args) three) (given.from p none))
      (read_and_marked at target d (behind d 1) (behind d 2) l (second_there d (room_of_all args) args three (itself (room_of_all args)) enough) (third_there d (room_of_all args) args three (itself (room_of_all args)) enough) few))
    where
      itself : (l : ℕ) → l ≤ l
      itself l = omega arith

  -- the arguments stand, and a line is read on one of two ways
  pub condition_read : (at : Place) (args : TermTrees) (d k none_label some_label : ℕ) (p : Plan) → p.jobs ≡ [] → argument_count args ≡ 3 → room_of_all args ≤ k → Fits d k → Argued s t n args d → (unread read : Items)
      → (ps : List PieceView) (r : Plan) → Makes s p (argument_jobs args d ++ jobs.Ready (reading at None d (behind d 1) (behind d 2) none_label some_label) ∷ []) ps r → IsKnown t r → (items : List Item) (rest on_none on_some : List PieceView) → Stands t (ps ++ rest)
      → Leads t none_label on_none → Leads t some_label on_some → Simulates t n d (listed unread ++ items) on_none → Simulates t n d (listed read ++ items) on_some
      → Simulates t n d ((arguments args ++ item.ReadLine at unread read ∷ []) ++ items) (ps ++ rest)
  condition_read at args d k none_label some_label p none three few enough given unread read ps r m known items rest on_none on_some stands to_none to_some f g =
      let q = reading at None d (behind d 1) (behind d 2) none_label some_label in
      subst (λ xs. Simulates t n d xs (ps ++ rest)) (sym (append_assoc (arguments args) (item.ReadLine at unread read ∷ []) items))
      (then_ends s t n (argument_jobs args d) (arguments args) d (suc (suc (suc d))) p none (subst (λ k. RunsFrom s t n p (argument_jobs args d) (arguments args) d k) (three_more d (argument_count args) three) (given.from p none)) q ps r m known (item.ReadLine at unread read ∷ items) rest stands
      (λ w. subst (λ x. Simulates t n (suc (suc (suc d))) (item.ReadLine at unread read ∷ items) (reading at None d x (behind d 2) none_label some_label ∷ w)) (second_there d k args three few enough)
      (subst (λ y. Simulates t n (suc (suc (suc d))) (item.ReadLine at unread read ∷ items) (reading at None d (suc d) y none_label some_label ∷ w)) (third_there d k args three few enough)
      (gives_line n d none_label some_label at unread read items w on_none on_some to_none to_some f g))))
