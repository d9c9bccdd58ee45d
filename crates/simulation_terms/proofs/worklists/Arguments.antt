-- Arguments, and calls of the library.
use Rattle.std.proofs.Common.{◌≡◌, ◌≤◌, ℕ, suc, zero, ◌+◌, ◌-◌, Bool, true, false, cond, List, [], ◌∷◌, ◌++◌, length, Option, Some, None, refl, arith, ap, sym, subst, ◌∙◌, append_assoc}
use Rattle.std.proofs.lemmas.List.{append-nil}
use Rattle.cc_base.specs.declared.diagnostics.Place.{Place}
use Rattle.c_layout.specs.Types.{Ty}
use Rattle.c_layout.specs.CheckedTrees as tree
use Rattle.c_layout.specs.CheckedTrees.{TermTree, TermTrees}
use Rattle.c_layout.specs.declared.library_functions.LibFn.{LibFn}
use Rattle.lower_templates.specs.Worklist.Acts as act
use Rattle.lower_templates.specs.Worklist.Pieces.{Allocation}
use Rattle.lower_templates.specs.Worklist.Plans.{Plan, with_work, with_name}
use Rattle.lower_templates.specs.Worklist.Settings.{SettingView}
use Rattle.lower_templates.specs.Worklist.Works as jobs
use Rattle.lower_templates.specs.Worklist.Works.{Job, behind}
use Rattle.lower_expressions.specs.Calls as calls
use Rattle.lower_expressions.specs.Calls.{argued, argument_temps, gives, is_allocation, sited, allocated, library_at, result_temp}
use Rattle.semantics.specs.SourceMachine.Items as item
use Rattle.semantics.specs.SourceMachine.Items.{Item}
use Rattle.semantics.specs.SourceMachine.Operations as op
use Rattle.semantics.specs.SourceMachine.TermItems.{arguments, argument_count, left_if}
use Rattle.simulation_terms.specs.Instructions.Acts.{temps_from, behind_call}
use Rattle.simulation_terms.specs.SimulationRelation.Activations.{Activation}
use Rattle.simulation_terms.specs.SimulationRelation.Simulates.{at_place}
use Rattle.simulation_terms.proofs.simulation_relation.Constructions.{gives_call}
use Rattle.simulation_terms.specs.Worklists.Rooms.{room, room_of_all}
use Rattle.simulation_terms.specs.Worklists.TemplateParts.{IsOfUnit}
use Rattle.simulation_terms.proofs.worklists.Runs.{Runs, then, piece_first, dropped}
use Rattle.simulation_terms.proofs.worklists.About.{Fits, About, AboutAll, Argued, argument_jobs}
use Rattle.simulation_terms.proofs.worklists.Operators.{first_fits, second_fits, next_fits, sizes_same}
use Rattle.simulation_terms.proofs.worklists.Assignments.{nothing_done, one_more_job}

-- ---- plans

pub argued_jobs : (args : TermTrees) (d : ℕ) (js : List Job) (p : Plan) → p.jobs ≡ js → (argued args d p).jobs ≡ js ++ argument_jobs args d
argued_jobs tree.End d js p e = e ∙ sym (append-nil js)
argued_jobs (tree.More x rest) d js p e = argued_jobs rest (behind d 1) (js ++ jobs.Value x d ∷ []) (with_work (jobs.Value x d) p) (one_more_job js (jobs.Value x d) p e) ∙ append_assoc js (jobs.Value x d ∷ []) (argument_jobs rest (behind d 1))

-- ---- temporaries

plus_zero : (d : ℕ) → d + 0 ≡ d
plus_zero d = omega arith

plus_suc : (d n : ℕ) → d + suc n ≡ suc d + n
plus_suc d n = omega arith

plus_one : (d n : ℕ) → suc d + n ≡ d + (n + 1)
plus_one d n = omega arith

one_more : (n : ℕ) → suc n ≡ n + 1
one_more n = omega arith

from_first : (d n : ℕ) → d ∷ temps_from (suc d) n ≡ temps_from d (suc n)
from_first d zero = ap (λ k. k ∷ []) (sym (plus_zero d))
from_first d (suc n) = ap (λ k. d ∷ (temps_from (suc d) n ++ k ∷ [])) (sym (plus_suc d n)) ∙ ap (λ xs. xs ++ (d + suc n) ∷ []) (from_first d n)

pub temps_are : (args : TermTrees) (d : ℕ) → Fits d (room_of_all args) → argument_temps args d ≡ temps_from d (argument_count args)
temps_are tree.End d room = refl
temps_are (tree.More e rest) d enough =
    ap (λ k. d ∷ argument_temps rest k) (sym (next_fits d (room e) (room_of_all rest) enough))
    ∙ ap (λ xs. d ∷ xs) (temps_are rest (suc d) (second_fits d (room e) (room_of_all rest) enough))
    ∙ from_first d (argument_count rest)
    ∙ ap (temps_from d) (one_more (argument_count rest))

pub few_arguments : (args : TermTrees) → argument_count args ≤ room_of_all args
few_arguments tree.End = omega arith
few_arguments (tree.More e rest) = let le = few_arguments rest in more (room e) (argument_count rest) (room_of_all rest) le
  where
    more : (a m n : ℕ) → m ≤ n → m + 1 ≤ a + (suc n - a)
    more a m n le = omega (arith, le)

module _ (s : SettingView) (t : Activation) (n : ℕ) where
  pub about_none : AboutAll s t n tree.End
  about_none d suits enough = subst (λ k. Runs s t n [] [] d k) (sym (plus_zero d)) (nothing_done s t n d)

  pub about_more : (e : TermTree) (rest : TermTrees) → About s t n e → AboutAll s t n rest → AboutAll s t n (tree.More e rest)
  about_more e rest first others d suits enough =
      let next = next_fits d (room e) (room_of_all rest) enough in
      let more : Runs s t n (argument_jobs rest (suc d)) (arguments rest) (suc d) (suc d + argument_count rest) = others (suc d) suits.1 (second_fits d (room e) (room_of_all rest) enough) in
      subst (λ k. Runs s t n (jobs.Value e d ∷ argument_jobs rest (behind d 1)) (item.Value e ∷ arguments rest) d k) (plus_one d (argument_count rest))
      (then s t n (jobs.Value e d ∷ []) (argument_jobs rest (behind d 1)) (item.Value e ∷ []) (arguments rest) d (suc d) (suc d + argument_count rest) (first.value d suits.0 (first_fits d (room e) (room_of_all rest) enough))
      (subst (λ x. Runs s t n (argument_jobs rest x) (arguments rest) (suc d) (suc d + argument_count rest)) next more))

  -- ---- calls of the library

  -- a result that is not used is dropped
  pub left : (b : Bool) (js : List Job) (is : List Item) (d : ℕ) → Runs s t n js is d (cond b (suc d) d) → Runs s t n js (left_if b false is) d d
  left true js is d runs = dropped s t n js is d runs
  left false js is d runs = runs

  pub calls_of : IsOfUnit t s → (at : Place) (function : LibFn) (args : TermTrees) (target : Option Ty) (site : Option ℕ) (d : ℕ) → Fits d (room_of_all args) → Argued s t n args d
      → Runs s t n (argument_jobs args d ++ jobs.Ready (at_place at (act.Library (result_temp function d) function (argument_temps args d) site (calls.target_size s target))) ∷ []) (arguments args ++ item.Do at (op.Library function (argument_count args) target) ∷ []) d (behind_call function d)
  calls_of fits at function args target site d enough given =
      let q = λ (temps : List ℕ) (size : Option ℕ). at_place at (act.Library (result_temp function d) function temps site size) in
      then s t n (argument_jobs args d) (jobs.Ready (q (argument_temps args d) (calls.target_size s target)) ∷ []) (arguments args) (item.Do at (op.Library function (argument_count args) target) ∷ []) d (d + argument_count args) (behind_call function d) given
      (subst (λ temps. Runs s t n (jobs.Ready (q temps (calls.target_size s target)) ∷ []) (item.Do at (op.Library function (argument_count args) target) ∷ []) (d + argument_count args) (behind_call function d)) (sym (temps_are args d enough))
      (subst (λ size. Runs s t n (jobs.Ready (q (temps_from d (argument_count args)) size) ∷ []) (item.Do at (op.Library function (argument_count args) target) ∷ []) (d + argument_count args) (behind_call function d)) (sym (size target))
      (piece_first s t n (q (temps_from d (argument_count args)) (op.target_size t.unit target)) (item.Do at (op.Library function (argument_count args) target) ∷ []) (d + argument_count args) (behind_call function d)
      (λ items rest f. gives_call n d (argument_count args) at function target site items rest f))))
    where
      size : (target : Option Ty) → calls.target_size s target ≡ op.target_size t.unit target
      size None = refl
      size (Some k) = ap Some (sizes_same t s fits k)

  -- whether a base is named or not
  pub record Sites (at : Place) (function : LibFn) (args : TermTrees) (size : Option ℕ) (d : ℕ) (js : List Job) : Type 0 where
    pub site : Option ℕ
    pub is : js ≡ argument_jobs args d ++ jobs.Ready (at_place at (act.Library (result_temp function d) function (argument_temps args d) site size)) ∷ []

  pub sites : (at : Place) (function : LibFn) (args : TermTrees) (size : Option ℕ) (target : Option Ty) (d : ℕ) (p : Plan) → p.jobs ≡ [] → Sites at function args size d (library_at at function args size d (allocated function target (argued args d p))).jobs
  unfolding with_name with_work
  sites at function args size target d p none = by (is_allocation function)
    where
      by : (b : Bool) → Sites at function args size d (library_at at function args size d (cond b (sited (Some (length (argued args d p).names)) (with_name (Allocation target) (argued args d p))) (sited None (argued args d p)))).jobs
      by true = record { site = Some (length (argued args d p).names); is = ap (λ js. js ++ jobs.Ready (at_place at (act.Library (result_temp function d) function (argument_temps args d) (Some (length (argued args d p).names)) size)) ∷ []) (argued_jobs args d [] p none) }
      by false = record { site = None; is = ap (λ js. js ++ jobs.Ready (at_place at (act.Library (result_temp function d) function (argument_temps args d) None size)) ∷ []) (argued_jobs args d [] p none) }
