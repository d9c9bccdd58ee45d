-- An operation takes and gives values of the function that runs; those of the functions that wait stay below them.
use Rattle.std.proofs.Common.{◌≡◌, ◌≤◌, ℕ, suc, ◌+◌, List, [], ◌∷◌, ◌++◌, length, drop, reverse, Option, Some, None, refl, arith, ap, ◌∙◌}
use Rattle.std.proofs.lemmas.List.{take-append-le, drop-append-le}
use Rattle.c_layout.specs.CheckedUnits.{UnitView}
use Rattle.c_layout.specs.Types.{Ty}
use Rattle.c_layout.specs.declared.library_functions.LibFn.{LibFn}
use Rattle.lower_templates.specs.Worklist.Acts.{Act}
use Rattle.cfg.specs.declared.machine_instructions.Scalar as declared
use Rattle.memory_model.specs.Memory.Scalars.{Scalar}
use Rattle.memory_model.specs.Effects.Accesses.{load, store}
use Rattle.memory_model.specs.Effects.LibraryCalls.{library}
use Rattle.memory_model.specs.Effects.Worlds.{World, Reply, goes, stops, behind}
use Rattle.semantics.specs.SourceMachine.Operations as op
use Rattle.semantics.specs.SourceMachine.Operations.{Operation, Order, LeftFirst, RightFirst, perform, pushing, pushing_result, on_one, on_two, newest, target_size}
use Rattle.simulation_terms.specs.Instructions.Acts as acts
use Rattle.simulation_terms.specs.Instructions.Acts.{IsAct, IsActBehind}

-- with the values of the functions that wait below
abbrev pub raised : List Scalar → Reply (List Scalar) → Reply (List Scalar)
raised below reply = behind reply (λ vs w. goes (vs ++ below) w)

module _ (below : List Scalar) where
  pushed_above : (vs : List Scalar) (reply : Reply Scalar) → pushing (vs ++ below) reply ≡ raised below (pushing vs reply)
  pushed_above vs (goes v w) = refl
  pushed_above vs (stops why w) = refl

  kept_above : (vs : List Scalar) (old : Scalar) (reply : Reply Scalar) → behind reply (λ _ w. goes (old ∷ (vs ++ below)) w) ≡ raised below (behind reply (λ _ w. goes (old ∷ vs) w))
  kept_above vs old (goes v w) = refl
  kept_above vs old (stops why w) = refl

  result_above : (vs : List Scalar) (reply : Reply (Option Scalar)) → pushing_result (vs ++ below) reply ≡ raised below (pushing_result vs reply)
  result_above vs (goes None w) = refl
  result_above vs (goes (Some v) w) = refl
  result_above vs (stops why w) = refl

  -- ---- operations by the number of their operands

  no_values : (n : ℕ) → 0 ≡ suc n → ⊥
  no_values n e = omega (arith, e)

  one_less : (m n : ℕ) → suc m ≡ suc n → m ≡ n
  one_less m n e = omega (arith, e)

  one_above : (vs : List Scalar) (d : ℕ) (w : World) (effect : Scalar → World → Reply Scalar) → length vs ≡ suc d → on_one (vs ++ below) w effect ≡ raised below (on_one vs w effect)
  one_above [] d w effect e = absurd (no_values d e)
  one_above (v ∷ vs) d w effect e = pushed_above vs (effect v w)

  two_above : (order : Order) (vs : List Scalar) (d : ℕ) (w : World) (effect : Scalar → Scalar → World → Reply Scalar) → length vs ≡ suc (suc d) → on_two order (vs ++ below) w effect ≡ raised below (on_two order vs w effect)
  two_above order [] d w effect e = absurd (no_values (suc d) e)
  two_above order (v ∷ []) d w effect e = absurd (no_values d (one_less 0 (suc d) e))
  two_above LeftFirst (v ∷ (u ∷ vs)) d w effect e = pushed_above vs (effect u v w)
  two_above RightFirst (v ∷ (u ∷ vs)) d w effect e = pushed_above vs (effect v u w)

  module _ (u : UnitView) where
    over_above : (vs : List Scalar) (d : ℕ) (w : World) (kind : declared.Scalar) → length vs ≡ suc d → op.load_over u kind (vs ++ below) w ≡ raised below (op.load_over u kind vs w)
    over_above [] d w kind e = absurd (no_values d e)
    over_above (p ∷ vs) d w kind e = pushed_above (p ∷ vs) (load u.model kind p w)

    under_above : (vs : List Scalar) (d : ℕ) (w : World) (kind : declared.Scalar) → length vs ≡ suc (suc d) → op.load_under u kind (vs ++ below) w ≡ raised below (op.load_under u kind vs w)
    under_above [] d w kind e = absurd (no_values (suc d) e)
    under_above (r ∷ []) d w kind e = absurd (no_values d (one_less 0 (suc d) e))
    under_above (r ∷ (p ∷ vs)) d w kind e = pushed_above (r ∷ (p ∷ vs)) (load u.model kind p w)

    stored_above : (vs : List Scalar) (d : ℕ) (w : World) (kind : declared.Scalar) → length vs ≡ suc (suc (suc d)) → op.store_over u kind (vs ++ below) w ≡ raised below (op.store_over u kind vs w)
    stored_above [] d w kind e = absurd (no_values (suc (suc d)) e)
    stored_above (v ∷ []) d w kind e = absurd (no_values (suc d) (one_less 0 (suc (suc d)) e))
    stored_above (v ∷ (old ∷ [])) d w kind e = absurd (no_values d (one_less 0 (suc d) (one_less 1 (suc (suc d)) e)))
    stored_above (v ∷ (old ∷ (p ∷ vs))) d w kind e = kept_above vs old (store u.model kind p v w)

    -- ---- operations

    pub performed_above : (operation : Operation) (a : Act) (d next : ℕ) (vs : List Scalar) (w : World) → IsAct operation a d next → length vs ≡ d → perform u operation (vs ++ below) w ≡ raised below (perform u operation vs w)
    performed_above _ _ d _ vs w (acts.constant _ n kind) e = refl
    performed_above _ _ _ _ vs w (acts.load d kind) e = one_above vs d w _ e
    performed_above _ _ _ _ vs w (acts.load_over d kind) e = over_above vs d w kind e
    performed_above _ _ _ _ vs w (acts.load_under d kind) e = under_above vs d w kind e
    performed_above _ _ _ _ vs w (acts.store d kind) e = two_above LeftFirst vs d w _ e
    performed_above _ _ _ _ vs w (acts.store_over d kind) e = stored_above vs d w kind e
    performed_above _ _ _ _ vs w (acts.copy d n) e = two_above LeftFirst vs d w _ e
    performed_above _ _ _ _ vs w (acts.narrow d offset size) e = one_above vs d w _ e
    performed_above _ _ _ _ vs w (acts.shift_left d size back) e = two_above LeftFirst vs d w _ e
    performed_above _ _ _ _ vs w (acts.shift_right d size back) e = two_above RightFirst vs d w _ e
    performed_above _ _ _ _ vs w (acts.shift_one d size back) e = one_above vs d w _ e
    performed_above _ _ _ _ vs w (acts.binary_left d sign kind) e = two_above LeftFirst vs d w _ e
    performed_above _ _ _ _ vs w (acts.binary_right d sign kind) e = two_above RightFirst vs d w _ e
    performed_above _ _ _ _ vs w (acts.binary_one d sign kind) e = one_above vs d w _ e
    performed_above _ _ _ _ vs w (acts.unary d sign kind) e = one_above vs d w _ e
    performed_above _ _ _ _ vs w (acts.compare d rel) e = two_above LeftFirst vs d w _ e
    performed_above _ _ _ _ vs w (acts.negate d kind) e = one_above vs d w _ e
    performed_above _ _ _ _ vs w (acts.difference d size) e = two_above LeftFirst vs d w _ e
    performed_above _ _ _ _ vs w (acts.compare_pointers d rel) e = two_above LeftFirst vs d w _ e
    performed_above _ _ _ _ vs w (acts.convert d old new) e = one_above vs d w _ e

    -- an operation on a copy of the newest value
    pub copied_above : (operation : Operation) (a : Act) (v : Scalar) (vs : List Scalar) (w : World) → IsActBehind operation a (length vs) → perform u operation (v ∷ (v ∷ (vs ++ below))) w ≡ raised below (perform u operation (v ∷ (v ∷ vs)) w)
    copied_above _ _ v vs w (acts.binary_one _ sign kind) = pushed_above (v ∷ vs) _
    copied_above _ _ v vs w (acts.shift_one _ size back) = pushed_above (v ∷ vs) _
    copied_above _ _ v vs w (acts.convert _ old new) = pushed_above (v ∷ vs) _

    -- a call of the library
    pub library_above : (function : LibFn) (d count : ℕ) (target : Option Ty) (vs : List Scalar) (w : World) → length vs ≡ d + count → perform u (op.Library function count target) (vs ++ below) w ≡ raised below (perform u (op.Library function count target) vs w)
    library_above function d count target vs w e =
        ap (λ xs. pushing_result xs (library u.model (target_size u target) function (newest count (vs ++ below)) w)) (drop-append-le count vs below (there d count (length vs) e))
        ∙ ap (λ xs. pushing_result (drop count vs ++ below) (library u.model (target_size u target) function (reverse xs) w)) (take-append-le count vs below (there d count (length vs) e))
        ∙ result_above (drop count vs) (library u.model (target_size u target) function (newest count vs) w)
      where
        there : (d count n : ℕ) → n ≡ d + count → count ≤ n
        there d count n e = omega (arith, e)
