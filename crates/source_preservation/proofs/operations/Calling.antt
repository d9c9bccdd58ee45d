-- Calls of the library, on arguments of their marks.
use Rattle.std.proofs.Common.{◌≡◌, ℕ, suc, Bool, true, false, cond, Option, Some, None, List, [], ◌∷◌, ◌++◌, length, take, drop, reverse, append_assoc, refl, sym, subst, ap, ◌∙◌}
use Rattle.std.proofs.Math.Seq.{take-append_seam, drop-append_seam}
use Rattle.std.proofs.lemmas.List.{append-nil, length-reverse, reverse-append, reverse-reverse}
use Rattle.c_layout.specs.Types.{Ty}
use Rattle.c_layout.specs.CheckedUnits.{UnitView}
use Rattle.c_layout.specs.declared.library_functions.LibFn.{LibFn}
use Rattle.lower_expressions.specs.Calls.{gives}
use Rattle.memory_model.specs.Memory.Instances.{Memory}
use Rattle.memory_model.specs.Memory.Scalars.{Scalar, integer, pointer}
use Rattle.memory_model.specs.Effects.Worlds.{World, Reply, goes, stops}
use Rattle.memory_model.specs.Effects.LibraryCalls.{library}
use Rattle.semantics.specs.SourceMachine.Operations as op
use Rattle.semantics.specs.SourceMachine.Operations.{pushing_result, target_size, perform}
use Rattle.source_items.specs.Operations.GoingReplies.{IfGoes, NotStuck}
use Rattle.source_items.specs.Operations.Kinds.{Kind, Number, Address, IsOf, AreOf}
use Rattle.source_items.specs.Operations.TakenKinds.{Accepts, result_kind, with_result, Calls}
use Rattle.source_items.specs.Operations.OperationLaws.{OperationsHaveSteps, OperationsKeepKinds}
use Rattle.source_preservation.specs.ValueTyping.Marks.{Mark, Ranged, Pointing, AreStable, Has, AreWellTyped}
use Rattle.source_preservation.specs.ValueTyping.ProperMemory.{Evolves}
use Rattle.source_preservation.specs.ValueTyping.MarkOperations.{AreOfKinds, least_given, greatest_given, IsGiven, with_given, MarkCalls}
use Rattle.source_preservation.specs.ValueTyping.MarkLaws.{Comes, Leaves}
use Rattle.source_preservation.specs.Memory.GoingWorlds.{WhenGoing, AreProperScalars, IsProperScalar, IsProperResult}
use Rattle.source_preservation.proofs.memory.Calling.{library_gives, pointing_proper}
use Rattle.source_preservation.proofs.ranges.TypeRanges.{between_ends}
use Rattle.source_preservation.proofs.operations.StableMarks.{are_stable, AreParts, parts_are, reversed_well_typed, as_many}
use Rattle.source_preservation.proofs.operations.GivenNumbers.{IsWithin, library_within}

module _ (u : UnitView) (names : ℕ → Option ℕ) (memory : Memory) where
  -- ---- arguments

  arguments_of : (marks : List Mark) (ks : List Kind) (vs : List Scalar) → AreOfKinds marks ks → AreWellTyped u.model names memory marks vs → AreOf ks vs
  arguments_of [] ks [] of are = subst (λ ks. AreOf ks []) (sym of) tt
  arguments_of [] ks (v ∷ vs) of are = absurd are
  arguments_of (k ∷ marks) ks [] of are = absurd are
  arguments_of (Ranged kind ∷ marks) ks (integer n labels ∷ vs) of are = subst (λ ks. AreOf ks (integer n labels ∷ vs)) (sym of.1) (tt, arguments_of marks of.0 vs of.2 are.1)
  arguments_of (Ranged kind ∷ marks) ks (pointer p ∷ vs) of are = absurd are.0
  arguments_of (Pointing ∷ marks) ks (integer n labels ∷ vs) of are = absurd are.0
  arguments_of (Pointing ∷ marks) ks (pointer p ∷ vs) of are = subst (λ ks. AreOf ks (pointer p ∷ vs)) (sym of.1) (tt, arguments_of marks of.0 vs of.2 are.1)
  arguments_of (k ∷ marks) ks (v ∷ vs) of are = absurd of

  proper_arguments : (marks : List Mark) (ks : List Kind) (vs : List Scalar) → AreOfKinds marks ks → AreWellTyped u.model names memory marks vs → AreProperScalars u.model vs
  proper_arguments [] ks [] of are = tt
  proper_arguments [] ks (v ∷ vs) of are = absurd are
  proper_arguments (k ∷ marks) ks [] of are = absurd are
  proper_arguments (Ranged kind ∷ marks) ks (integer n labels ∷ vs) of are = (tt, proper_arguments marks of.0 vs of.2 are.1)
  proper_arguments (Ranged kind ∷ marks) ks (pointer p ∷ vs) of are = absurd are.0
  proper_arguments (Pointing ∷ marks) ks (integer n labels ∷ vs) of are = absurd are.0
  proper_arguments (Pointing ∷ marks) ks (pointer p ∷ vs) of are = (are.0, proper_arguments marks of.0 vs of.2 are.1)
  proper_arguments (k ∷ marks) ks (v ∷ vs) of are = absurd of

-- ---- kinds of values

as_many_kinds : (marks : List Mark) (ks : List Kind) → AreOfKinds marks ks → length ks ≡ length marks
as_many_kinds [] ks of = ap length of
as_many_kinds (Ranged kind ∷ marks) ks of = ap length of.1 ∙ ap suc (as_many_kinds marks of.0 of.2)
as_many_kinds (Pointing ∷ marks) ks of = ap length of.1 ∙ ap suc (as_many_kinds marks of.0 of.2)
as_many_kinds (k ∷ marks) ks of = absurd of

both_are : (ks others : List Kind) (vs more : List Scalar) → AreOf ks vs → AreOf others more → AreOf (ks ++ others) (vs ++ more)
both_are [] others [] more are other = other
both_are [] others (v ∷ vs) more are other = absurd are
both_are (k ∷ ks) others [] more are other = absurd are
both_are (k ∷ ks) others (v ∷ vs) more are other = (are.0, both_are ks others vs more are.1 other)

are_reversed : (ks : List Kind) (vs : List Scalar) → AreOf ks vs → AreOf (reverse ks) (reverse vs)
are_reversed [] [] are = tt
are_reversed [] (v ∷ vs) are = absurd are
are_reversed (k ∷ ks) [] are = absurd are
are_reversed (k ∷ ks) (v ∷ vs) are = subst (λ xs. AreOf xs (reverse (v ∷ vs))) (sym (reverse-append (k ∷ []) ks)) (subst (λ ys. AreOf (reverse ks ++ k ∷ []) ys) (sym (reverse-append (v ∷ []) vs)) (both_are (reverse ks) (k ∷ []) (reverse vs) (v ∷ []) (are_reversed ks vs are.1) (are.0, tt)))

-- ---- what is given

result_unpushed : (vs : List Scalar) (r : Reply (Option Scalar)) → NotStuck (pushing_result vs r) → NotStuck r
result_unpushed vs (goes None w) defined = tt
result_unpushed vs (goes (Some v) w) defined = tt
result_unpushed vs (stops why w) defined = defined

-- a value of its kind where the function gives one, else none
abbrev IsResult : Bool → Kind → Option Scalar → Type 0
IsResult true k (Some v) = IsOf k v
IsResult false k None = Unit {0}
IsResult given k o = ⊥

result_given : (given : Bool) (k : Kind) (r : Reply (Option Scalar)) → IfGoes (AreOf (cond given (k ∷ []) [] ++ [])) (pushing_result [] r) → WhenGoing (λ o w. IsResult given k o) r
result_given true k (goes None w) are = are
result_given true k (goes (Some v) w) are = are.0
result_given false k (goes None w) are = tt
result_given false k (goes (Some v) w) are = are
result_given given k (stops why w) are = tt

module _ (u : UnitView) (names : ℕ → Option ℕ) (w : World) (function : LibFn) where
  given_has : (k : Kind) (memory : Memory) (result : Mark) (v : Scalar) → result_kind function ≡ k → IsGiven u.model function k result → IsOf k v → IsProperScalar u.model v → IsWithin u.model function (Some v) → Has u.model names memory result v
  given_has Address memory result v is given of proper within = subst (λ result. Has u.model names memory result v) (sym given) (pointing_proper u.model names memory v of proper)
  given_has Number memory (Ranged kind) (integer n labels) is given of proper within = let b = within is in between_ends kind (least_given function) n (greatest_given u.model function) given.0 given.1 b.0 b.1
  given_has Number memory (Ranged kind) (pointer p) is given of proper within = absurd of
  given_has Number memory result v is given of proper within = absurd given

  module _ (below : List Mark) (result : Mark) (others rest : List Scalar) (stable : AreStable below) (are : AreWellTyped u.model names w.memory below others) where
    called : (given : Bool) (r : Reply (Option Scalar)) → (given ≡ true → IsGiven u.model function (result_kind function) result) → NotStuck r → WhenGoing (λ o after. IsResult given (result_kind function) o) r → WhenGoing (λ o after. IsProperResult u.model o × Evolves u.model w.memory after.memory) r → WhenGoing (λ o after. IsWithin u.model function o) r → Comes (Leaves u names w.memory (cond given (result ∷ below) below) rest) (pushing_result (others ++ rest) r)
    called true (goes None after) is defined of proper within = absurd of
    called true (goes (Some v) after) is defined of proper within = record {
      own = v ∷ others;
      is = refl;
      well_typed = (given_has (result_kind function) after.memory result v refl (is refl) of proper.0 within, are_stable u.model names w.memory after.memory proper.1.grows below others stable are);
      evolves = proper.1;
    }
    called false (goes None after) is defined of proper within = record {
      own = others;
      is = refl;
      well_typed = are_stable u.model names w.memory after.memory proper.1.grows below others stable are;
      evolves = proper.1;
    }
    called false (goes (Some v) after) is defined of proper within = absurd of
    called given (stops why after) is defined of proper within = defined

-- ---- calls

module _ (steps : OperationsHaveSteps) (keeps : OperationsKeepKinds) (u : UnitView) (names : ℕ → Option ℕ) (w : World) (function : LibFn) (count : ℕ) (target : Option Ty) where
  -- what the library answers to arguments, the newest one first
  abbrev answer_to : List Scalar → Reply (Option Scalar)
  answer_to vs = library u.model (target_size u target) function (reverse vs) w

  taken_from : (first ys : List Scalar) → length first ≡ count → perform u (op.Library function count target) (first ++ ys) w ≡ pushing_result ys (answer_to first)
  taken_from first ys many =
      ap (λ n. pushing_result (drop n (first ++ ys)) (answer_to (take n (first ++ ys)))) (sym many)
      ∙ (ap (λ vs. pushing_result vs (answer_to (take (length first) (first ++ ys)))) (drop-append_seam first ys)
      ∙ ap (λ vs. pushing_result ys (answer_to vs)) (take-append_seam first ys))

  module _ (marks : List Mark) (ks : List Kind) (of : AreOfKinds marks ks) (accepts : Accepts function ks) (counted : length marks ≡ count) (first : List Scalar) (are : AreWellTyped u.model names w.memory (reverse marks) first) where
    many : length first ≡ count
    many = as_many u.model names w.memory (reverse marks) first are ∙ (length-reverse marks ∙ counted)

    in_order : AreWellTyped u.model names w.memory marks (reverse first)
    in_order = subst (λ marks. AreWellTyped u.model names w.memory marks (reverse first)) (reverse-reverse marks) (reversed_well_typed u.model names w.memory (reverse marks) first are)

    kinds_are : AreOf (reverse ks) first
    kinds_are = subst (AreOf (reverse ks)) (reverse-reverse first) (are_reversed ks (reverse first) (arguments_of u names w.memory marks ks (reverse first) of in_order))

    -- the arguments alone
    alone : AreOf ((reverse ks ++ []) ++ []) (first ++ [])
    alone = subst (λ ks. AreOf ks (first ++ [])) (sym (append-nil (reverse ks ++ []))) (both_are (reverse ks) [] first [] kinds_are tt)

    calls : Calls function count (reverse ks ++ []) (with_result function [])
    calls = record { arguments = ks; below = []; counted = as_many_kinds marks ks of ∙ counted; accepts = accepts; taken = refl; given = refl }

    has_step : NotStuck (answer_to first)
    has_step = result_unpushed [] (answer_to first) (subst NotStuck (taken_from first [] many) (steps u (op.Library function count target) (reverse ks ++ []) (with_result function []) [] (first ++ []) w refl calls alone))

    is_given : WhenGoing (λ o after. IsResult (gives function) (result_kind function) o) (answer_to first)
    is_given = result_given (gives function) (result_kind function) (answer_to first) (subst (IfGoes (AreOf (with_result function [] ++ []))) (taken_from first [] many) (keeps u (op.Library function count target) (reverse ks ++ []) (with_result function []) [] (first ++ []) w calls alone))

    proper : AreProperScalars u.model (reverse first)
    proper = proper_arguments u names w.memory marks ks (reverse first) of in_order

    arguments_called : (below : List Mark) (result : Mark) (others rest : List Scalar) → AreStable below → AreWellTyped u.model names w.memory below others → (gives function ≡ true → IsGiven u.model function (result_kind function) result) → Comes (Leaves u names w.memory (with_given function result below) rest) (perform u (op.Library function count target) ((first ++ others) ++ rest) w)
    arguments_called below result others rest stable others_are is =
        subst (λ vs. Comes (Leaves u names w.memory (with_given function result below) rest) (perform u (op.Library function count target) vs w)) (sym (append_assoc first others rest))
        (subst (Comes (Leaves u names w.memory (with_given function result below) rest)) (sym (taken_from first (others ++ rest) many))
        (called u names w function below result others rest stable others_are (gives function) (answer_to first) is has_step is_given (library_gives u.model (target_size u target) function (reverse first) w proper) (library_within u.model (target_size u target) (reverse first) w function proper)))

  pub library_performed : (before after : List Mark) (own rest : List Scalar) → AreWellTyped u.model names w.memory before own → MarkCalls u.model function count before after → Comes (Leaves u names w.memory after rest) (perform u (op.Library function count target) (own ++ rest) w)
  library_performed before after own rest are calls =
      let parts : AreParts u.model names w.memory (reverse calls.arguments) calls.below own = parts_are u.model names w.memory (reverse calls.arguments) calls.below own (subst (λ marks. AreWellTyped u.model names w.memory marks own) calls.taken are) in
      subst (λ marks. Comes (Leaves u names w.memory marks rest) (perform u (op.Library function count target) (own ++ rest) w)) (sym calls.given)
      (subst (λ vs. Comes (Leaves u names w.memory (with_given function calls.result calls.below) rest) (perform u (op.Library function count target) (vs ++ rest) w)) (sym parts.is)
      (arguments_called calls.arguments calls.kinds calls.are calls.accepts calls.counted parts.first parts.are calls.below calls.result parts.rest rest calls.stable parts.others_are calls.result_is))
