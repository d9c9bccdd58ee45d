-- Calls of the library and their instructions do the same.
use Rattle.std.proofs.Common.{◌≡◌, ℕ, zero, suc, ◌+◌, Bool, true, false, cond, List, [], ◌∷◌, ◌++◌, length, take, drop, Option, Some, None, refl, arith, ap, sym, subst, ◌∙◌}
use Rattle.std.proofs.lemmas.List.{reverse-append}
use Rattle.c_layout.specs.Types.{Ty}
use Rattle.c_layout.specs.declared.data_model.Model.{Model}
use Rattle.c_layout.specs.declared.library_functions.LibFn.{LibFn}
use Rattle.c_layout.specs.declared.library_functions.LibFn.TheVariants as f
use Rattle.memory_model.specs.Memory.Scalars.{Scalar}
use Rattle.memory_model.specs.Effects.NumberedTables.{put_at}
use Rattle.memory_model.specs.Effects.Worlds.{World, Why, Reply, goes, stops, behind}
use Rattle.memory_model.specs.Effects.LibraryCalls.{library, with_result}
use Rattle.lower_expressions.specs.Calls.{gives, result_temp}
use Rattle.lower_templates.specs.Worklist.Acts as act
use Rattle.semantics.specs.CfgMachine.FlowStates as flow
use Rattle.semantics.specs.CfgMachine.FlowStates.{and_value, values_of}
use Rattle.semantics.specs.CfgMachine.FlowActs.{calling}
use Rattle.semantics.specs.SourceMachine.Operations as op
use Rattle.semantics.specs.SourceMachine.Operations.{newest, target_size, pushing_result}
use Rattle.semantics.specs.TemplateMachine.TemplateStates.{Templates, TemplateState}
use Rattle.semantics.specs.TemplateMachine.TemplateActs.{in_flow, from_flow, perform}
use Rattle.simulation_terms.specs.Instructions.Acts as acts
use Rattle.simulation_terms.specs.Instructions.Acts.{Holds, SameReply, temps_from, behind_call}
use Rattle.simulation_terms.proofs.instructions.HeldValues.{holds_put}

-- ---- the newest values

-- values that stand in temporaries, one after the other
data Stand (temps : ℕ → Option Scalar) : List ℕ → List Scalar → Type 0 where
  none : Stand temps [] []
  more : (t : ℕ) (v : Scalar) (ts : List ℕ) (vs : List Scalar) → temps t ≡ Some v → Stand temps ts vs → Stand temps (t ∷ ts) (v ∷ vs)

one_more : (temps : ℕ → Option Scalar) (t : ℕ) (v : Scalar) (ts : List ℕ) (vs : List Scalar) → temps t ≡ Some v → Stand temps ts vs → Stand temps (ts ++ t ∷ []) (vs ++ v ∷ [])
one_more temps t v _ _ e none = more t v [] [] e none
one_more temps t v _ _ e (more x y xs ys there rest) = more x y (xs ++ t ∷ []) (ys ++ v ∷ []) there (one_more temps t v xs ys e rest)

read : (temps : ℕ → Option Scalar) (ts : List ℕ) (vs : List Scalar) → Stand temps ts vs → values_of temps ts ≡ Some vs
read temps _ _ none = refl
read temps _ _ (more t v ts vs there rest) = ap (λ o. and_value o (values_of temps ts)) there ∙ ap (and_value (Some v)) (read temps ts vs rest)

no_values : (d n : ℕ) → 0 ≡ d + suc n → ⊥
no_values d n e = omega (arith, e)

one_less : (m d n : ℕ) → suc m ≡ d + suc n → m ≡ d + n
one_less m d n e = omega (arith, e)

stand : (vs : List Scalar) (temps : ℕ → Option Scalar) (d n : ℕ) → Holds vs temps → length vs ≡ d + n → Stand temps (temps_from d n) (newest n vs)
stand vs temps d zero holds e = none
stand [] temps d (suc n) holds e = absurd (no_values d n e)
stand (v ∷ vs) temps d (suc n) holds e =
    let less = one_less (length vs) d n e in
    subst (λ xs. Stand temps (temps_from d n ++ (d + n) ∷ []) xs) (sym (reverse-append (v ∷ []) (take n vs)))
    (one_more temps (d + n) v (temps_from d n) (newest n vs) (subst (λ k. temps k ≡ Some v) less holds.0) (stand vs temps d n holds.1 less))

pub newest_there : (vs : List Scalar) (temps : ℕ → Option Scalar) (d n : ℕ) → Holds vs temps → length vs ≡ d + n → values_of temps (temps_from d n) ≡ Some (newest n vs)
newest_there vs temps d n holds e = read temps (temps_from d n) (newest n vs) (stand vs temps d n holds e)

-- ---- the values below them

record Below (vs : List Scalar) (temps : ℕ → Option Scalar) (d n : ℕ) : Type 0 where
  held : Holds (drop n vs) temps
  many : length (drop n vs) ≡ d

below : (vs : List Scalar) (temps : ℕ → Option Scalar) (d n : ℕ) → Holds vs temps → length vs ≡ d + n → Below vs temps d n
below vs temps d zero holds e = record { held = holds; many = omega (arith, e) }
below [] temps d (suc n) holds e = absurd (no_values d n e)
below (v ∷ vs) temps d (suc n) holds e = let x = below vs temps d n holds.1 (one_less (length vs) d n e) in record { held = x.held; many = x.many }

-- ---- results

-- a function has a result or it has none
data Results : Bool → Reply (Option Scalar) → Type 0 where
  some : (v : Scalar) (w : World) → Results true (goes (Some v) w)
  nothing : (w : World) → Results false (goes None w)
  stopped : (b : Bool) (why : Why) (w : World) → Results b (stops why w)

some_result : (reply : Reply Scalar) → Results true (with_result reply)
some_result (goes v w) = some v w
some_result (stops why w) = stopped true why w

no_result : (reply : Reply (Unit {0})) → Results false (behind reply (λ _ w. goes None w))
no_result (goes v w) = nothing w
no_result (stops why w) = stopped false why w

results : (m : Model) (wanted : Option ℕ) (function : LibFn) (arguments : List Scalar) (w : World) → Results (gives function) (library m wanted function arguments w)
results m wanted f.Free arguments w = no_result _
results m wanted f.Exit arguments w = stopped false _ _
results m wanted f.Abort arguments w = stopped false _ _
results m wanted function arguments w = some_result _

module _ (t : Templates) where
  put_result : (s : TemplateState) (d : ℕ) (vs : List Scalar) (b : Bool) (reply : Reply (Option Scalar)) → Holds vs s.temps → length vs ≡ d → Results b reply
      → SameReply s (cond b (suc d) d) (pushing_result vs reply) (behind (calling (in_flow s) (cond b (Some d) None) reply) (from_flow s))
  put_result s d vs _ _ holds e (some v w) = acts.both_go (v ∷ vs) (put_at s.temps d v) w (subst (λ k. Holds (v ∷ vs) (put_at s.temps k v)) e (holds_put v vs s.temps holds)) (ap (λ k. suc k) e)
  put_result s d vs _ _ holds e (nothing w) = acts.both_go vs s.temps w holds e
  put_result s d vs _ _ holds e (stopped b why w) = acts.both_stop why w

  pub calls_agree : (function : LibFn) (d count : ℕ) (target : Option Ty) (site : Option ℕ) (vs : List Scalar) (s : TemplateState) → Holds vs s.temps → length vs ≡ d + count
      → SameReply s (behind_call function d) (op.perform t.unit (op.Library function count target) vs s.world) (perform t (act.Library (result_temp function d) function (temps_from d count) site (target_size t.unit target)) s)
  calls_agree function d count target site vs s holds e =
      let rest = below vs s.temps d count holds e in
      let reply = library t.unit.model (target_size t.unit target) function (newest count vs) s.world in
      subst (λ o. SameReply s (behind_call function d) (pushing_result (drop count vs) reply) (behind (flow.if_some (in_flow s) o (λ xs. calling (in_flow s) (result_temp function d) (library t.unit.model (target_size t.unit target) function xs s.world))) (from_flow s))) (sym (newest_there vs s.temps d count holds e))
      (put_result s d (drop count vs) (gives function) reply rest.held rest.many (results t.unit.model (target_size t.unit target) function (newest count vs) s.world))
