-- Operations on values of the kinds that they take.
use Rattle.std.proofs.Common.{◌≡◌, ℕ, Bool, true, false, cond, List, [], ◌∷◌, ◌++◌, length, take, drop, reverse, Option, Some, None, append_assoc, refl, ap, sym, subst, ◌∙◌}
use Rattle.std.proofs.lemmas.List.{reverse-reverse, length-reverse}
use Rattle.c_layout.specs.Types.{Ty}
use Rattle.c_layout.specs.CheckedUnits.{UnitView}
use Rattle.c_layout.specs.declared.library_functions.LibFn.{LibFn}
use Rattle.cfg.specs.declared.machine_instructions.Scalar as declared
use Rattle.cfg.specs.declared.machine_instructions.Scalar.TheVariants as of
use Rattle.lower_expressions.specs.Calls.{gives}
use Rattle.memory_model.specs.Memory.Scalars.{Scalar}
use Rattle.memory_model.specs.Effects.Worlds.{World, Reply, goes, stops}
use Rattle.memory_model.specs.Effects.Accesses.{load, store}
use Rattle.memory_model.specs.Effects.IntegerEffects.{plain_one, binary, negation, pointer_from, convert}
use Rattle.memory_model.specs.Effects.LibraryCalls.{fgets, library}
use Rattle.semantics.specs.SourceMachine.Operations as op
use Rattle.semantics.specs.SourceMachine.Operations.{Order, LeftFirst, RightFirst, Operation, size_of, leaves, pushing, on_one, on_two, load_over, load_under, store_over, newest, pushing_result, target_size, call_library, perform}
use Rattle.source_items.specs.Operations.Kinds.{Kind, Number, Address, kind_of, IsOf, AreOf}
use Rattle.source_items.specs.Operations.TakenKinds.{Accepts, result_kind, with_result, Calls, Changes, pointer_and_number, Operates, makes_pointer}
use Rattle.source_items.specs.Operations.GoingReplies.{IfGoes}
use Rattle.source_items.specs.Operations.OperationLaws.{OperationsKeepKinds, OperationsHaveSteps, StoresHaveSteps, LinesHaveSteps}
use Rattle.source_items.proofs.operations.Replies.{Answers, answers_behind, gives_if, not_stuck}
use Rattle.source_items.proofs.operations.Values.{are_first, are_behind, are_reversed}
use Rattle.source_items.proofs.operations.Accessing.{load_answers, store_answers, copy_answers}
use Rattle.source_items.proofs.operations.Operating.{narrow_answers, shift_answers, difference_answers, compare_answers, binary_answers, unary_answers, compare_numbers_answers, convert_answers, pointer_goes}
use Rattle.source_items.proofs.operations.CallingAll.{IsResult, library_answers, fgets_answers}

apart : true ≡ false → ⊥
apart e = cc

-- ---- the newest values

pushing_answers : (k : Kind) (ks : List Kind) (vs : List Scalar) (r : Reply Scalar) → AreOf ks vs → Answers (IsOf k) r → Answers (AreOf (k ∷ ks)) (pushing vs r)
pushing_answers k ks vs r are a = answers_behind (AreOf (k ∷ ks)) (IsOf k) r _ a (λ v w is. (is, are))

one_answers : (k given : Kind) (ks : List Kind) (vs : List Scalar) (w : World) (effect : Scalar → World → Reply Scalar) → ((v : Scalar) → IsOf k v → Answers (IsOf given) (effect v w)) → AreOf (k ∷ ks) vs → Answers (AreOf (given ∷ ks)) (on_one vs w effect)
one_answers k given ks [] w effect h are = absurd are
one_answers k given ks (v ∷ vs) w effect h are = pushing_answers given ks vs (effect v w) are.1 (h v are.0)

-- the left operand was computed first
two_answer : (k other given : Kind) (ks : List Kind) (vs : List Scalar) (w : World) (effect : Scalar → Scalar → World → Reply Scalar) → ((a b : Scalar) → IsOf k a → IsOf other b → Answers (IsOf given) (effect a b w)) → AreOf (other ∷ (k ∷ ks)) vs → Answers (AreOf (given ∷ ks)) (on_two LeftFirst vs w effect)
two_answer k other given ks [] w effect h are = absurd are
two_answer k other given ks (b ∷ []) w effect h are = absurd are.1
two_answer k other given ks (b ∷ (a ∷ vs)) w effect h are = pushing_answers given ks vs (effect a b w) are.1.1 (h a b are.1.0 are.0)

-- the right one was
turned_answer : (k other given : Kind) (ks : List Kind) (vs : List Scalar) (w : World) (effect : Scalar → Scalar → World → Reply Scalar) → ((a b : Scalar) → IsOf k a → IsOf other b → Answers (IsOf given) (effect a b w)) → AreOf (k ∷ (other ∷ ks)) vs → Answers (AreOf (given ∷ ks)) (on_two RightFirst vs w effect)
turned_answer k other given ks [] w effect h are = absurd are
turned_answer k other given ks (a ∷ []) w effect h are = absurd are.1
turned_answer k other given ks (a ∷ (b ∷ vs)) w effect h are = pushing_answers given ks vs (effect a b w) are.1.1 (h a b are.0 are.1.0)

module _ (u : UnitView) (w : World) where
  over_answers : (kind : declared.Scalar) (ks : List Kind) (vs : List Scalar) → AreOf (Address ∷ ks) vs → Answers (AreOf (kind_of kind ∷ (Address ∷ ks))) (load_over u kind vs w)
  over_answers kind ks [] are = absurd are
  over_answers kind ks (p ∷ vs) are = pushing_answers (kind_of kind) (Address ∷ ks) (p ∷ vs) (load u.model kind p w) are (load_answers u.model kind p w are.0)

  under_answers : (kind : declared.Scalar) (k : Kind) (ks : List Kind) (vs : List Scalar) → AreOf (k ∷ (Address ∷ ks)) vs → Answers (AreOf (kind_of kind ∷ (k ∷ (Address ∷ ks)))) (load_under u kind vs w)
  under_answers kind k ks [] are = absurd are
  under_answers kind k ks (r ∷ []) are = absurd are.1
  under_answers kind k ks (r ∷ (p ∷ vs)) are = pushing_answers (kind_of kind) (k ∷ (Address ∷ ks)) (r ∷ (p ∷ vs)) (load u.model kind p w) are (load_answers u.model kind p w are.1.0)

  store_over_answers : (kind : declared.Scalar) (k : Kind) (ks : List Kind) (vs : List Scalar) → AreOf (kind_of kind ∷ (k ∷ (Address ∷ ks))) vs → Answers (AreOf (k ∷ ks)) (store_over u kind vs w)
  store_over_answers kind k ks [] are = absurd are
  store_over_answers kind k ks (v ∷ []) are = absurd are.1
  store_over_answers kind k ks (v ∷ (old ∷ [])) are = absurd are.1.1
  store_over_answers kind k ks (v ∷ (old ∷ (p ∷ vs))) are = answers_behind (AreOf (k ∷ ks)) (IsOf (kind_of kind)) (store u.model kind p v w) _ (store_answers u.model kind p v w are.1.1.0 are.0) (λ x w is. (are.1.0, are.1.1.1))

  shifted_answers : (order : Order) (size : ℕ) (back : Bool) (ks : List Kind) (vs : List Scalar) → AreOf (pointer_and_number order ++ ks) vs → Answers (AreOf (Address ∷ ks)) (perform u (op.Shift order size back) vs w)
  shifted_answers LeftFirst size back ks vs are = two_answer Address Number Address ks vs w _ (λ p n to is. shift_answers p n size back w to is) are
  shifted_answers RightFirst size back ks vs are = turned_answer Address Number Address ks vs w _ (λ p n to is. shift_answers p n size back w to is) are

  binary_on_two : (order : Order) (ks : List Kind) (vs : List Scalar) (effect : Scalar → Scalar → World → Reply Scalar) → ((a b : Scalar) → IsOf Number a → IsOf Number b → Answers (IsOf Number) (effect a b w)) → AreOf (Number ∷ (Number ∷ ks)) vs → Answers (AreOf (Number ∷ ks)) (on_two order vs w effect)
  binary_on_two LeftFirst ks vs effect h are = two_answer Number Number Number ks vs w effect h are
  binary_on_two RightFirst ks vs effect h are = turned_answer Number Number Number ks vs w effect h are

-- ---- calls of the library

pushed_results : (k : Kind) (given : Bool) (ks : List Kind) (vs : List Scalar) (r : Reply (Option Scalar)) → AreOf ks vs → Answers (IsResult given k) r → Answers (AreOf (cond given (k ∷ ks) ks)) (pushing_result vs r)
pushed_results k true ks vs (goes (Some v) w) are a = (a, are)
pushed_results k true ks vs (goes None w) are a = absurd a
pushed_results k false ks vs (goes (Some v) w) are a = absurd a
pushed_results k false ks vs (goes None w) are a = are
pushed_results k given ks vs (stops why w) are a = a

module _ (u : UnitView) (w : World) (function : LibFn) (target : Option Ty) where
  -- the arguments lie on the rest, the last one as the newest
  call_answers : (arguments rest : List Kind) (vs : List Scalar) → Accepts function arguments → AreOf (reverse arguments ++ rest) vs → Answers (AreOf (with_result function rest)) (call_library u function (length arguments) target vs w)
  call_answers arguments rest vs accepts are = pushed_results (result_kind function) (gives function) rest (drop (length arguments) vs) _ below called
    where
      same : length (reverse arguments) ≡ length arguments
      same = length-reverse arguments

      below : AreOf rest (drop (length arguments) vs)
      below = subst (λ n. AreOf rest (drop n vs)) same (are_behind (reverse arguments) rest vs are)

      above : AreOf (reverse arguments) (take (length arguments) vs)
      above = subst (λ n. AreOf (reverse arguments) (take n vs)) same (are_first (reverse arguments) rest vs are)

      them : AreOf arguments (newest (length arguments) vs)
      them = subst (λ ks. AreOf ks (newest (length arguments) vs)) (reverse-reverse arguments) (are_reversed (reverse arguments) (take (length arguments) vs) above)

      called : Answers (IsResult (gives function) (result_kind function)) (library u.model (target_size u target) function (newest (length arguments) vs) w)
      called = library_answers u.model (target_size u target) function arguments accepts (newest (length arguments) vs) w them

  result_on : (given : Bool) (k : Kind) (rest below : List Kind) → cond given (k ∷ rest) rest ++ below ≡ cond given (k ∷ (rest ++ below)) (rest ++ below)
  result_on true k rest below = refl
  result_on false k rest below = refl

  pub library_performed : (count : ℕ) (before after below : List Kind) (vs : List Scalar) → Calls function count before after → AreOf (before ++ below) vs → Answers (AreOf (after ++ below)) (call_library u function count target vs w)
  library_performed count before after below vs calls are = subst (λ ks. Answers (AreOf ks) (call_library u function count target vs w)) (sym is) (subst (λ n. Answers (AreOf (with_result function (calls.below ++ below))) (call_library u function n target vs w)) calls.counted (call_answers calls.arguments (calls.below ++ below) vs calls.accepts them))
    where
      is : after ++ below ≡ with_result function (calls.below ++ below)
      is = ap (λ ks. ks ++ below) calls.given ∙ result_on (gives function) (result_kind function) calls.below below

      them : AreOf (reverse calls.arguments ++ (calls.below ++ below)) vs
      them = subst (λ ks. AreOf ks vs) (ap (λ ks. ks ++ below) calls.taken ∙ append_assoc (reverse calls.arguments) calls.below below) are

-- ---- operations

-- some kinds give place to others, whatever lies below
changed : (F : List Kind → Type 0) (taken given before after below : List Kind) (vs : List Scalar) → Changes taken given before after → AreOf (before ++ below) vs → ((ks : List Kind) → AreOf (taken ++ ks) vs → F (given ++ ks)) → F (after ++ below)
changed F taken given before after below vs changes are h = subst F (sym (ap (λ ks. ks ++ below) changes.2 ∙ append_assoc given changes.0 below)) (h (changes.0 ++ below) (subst (λ ks. AreOf ks vs) (ap (λ ks. ks ++ below) changes.1 ∙ append_assoc taken changes.0 below) are))

module _ (u : UnitView) (before after below : List Kind) (vs : List Scalar) (w : World) (are : AreOf (before ++ below) vs) where
  changing : (taken given : List Kind) (r : Reply (List Scalar)) → Changes taken given before after → ((ks : List Kind) → AreOf (taken ++ ks) vs → Answers (AreOf (given ++ ks)) r) → Answers (AreOf (after ++ below)) r
  changing taken given r changes h = changed (λ ks. Answers (AreOf ks) r) taken given before after below vs changes are h

  converted : (k : Kind) → Changes (k ∷ []) (Address ∷ []) before after → IfGoes (AreOf (after ++ below)) (perform u (op.Convert of.Pointer) vs w)
  converted k changes = changed (λ ks. IfGoes (AreOf ks) (perform u (op.Convert of.Pointer) vs w)) (k ∷ []) (Address ∷ []) before after below vs changes are (λ ks. of_newest ks vs)
    where
      gone : (ks : List Kind) (vs : List Scalar) (r : Reply Scalar) → AreOf ks vs → IfGoes (IsOf Address) r → IfGoes (AreOf (Address ∷ ks)) (pushing vs r)
      gone ks vs (goes v w) are is = (is, are)
      gone ks vs (stops why w) are is = tt

      of_newest : (ks : List Kind) (vs : List Scalar) → AreOf (k ∷ ks) vs → IfGoes (AreOf (Address ∷ ks)) (on_one vs w (convert of.Pointer))
      of_newest ks [] are = absurd are
      of_newest ks (v ∷ vs) are = gone ks vs (pointer_from v w) are.1 (pointer_goes v w)

  performed : (operation : Operation) → makes_pointer operation ≡ false → Operates operation before after → Answers (AreOf (after ++ below)) (perform u operation vs w)
  performed (op.Constant n) other o = changing [] (Number ∷ []) (perform u (op.Constant n) vs w) o (λ ks are. (tt, are))
  performed (op.Load kind) other o = changing (Address ∷ []) (kind_of kind ∷ []) _ o (λ ks are. one_answers Address (kind_of kind) ks vs w _ (λ p is. load_answers u.model kind p w is) are)
  performed (op.LoadUnder kind) other o = changing (o.0 ∷ (Address ∷ [])) (kind_of kind ∷ (o.0 ∷ (Address ∷ []))) _ o.1 (λ ks are. under_answers u w kind o.0 ks vs are)
  performed (op.LoadOver kind) other o = changing (Address ∷ []) (kind_of kind ∷ (Address ∷ [])) _ o (λ ks are. over_answers u w kind ks vs are)
  performed (op.Store kind) other o = changing (kind_of kind ∷ (Address ∷ [])) (kind_of kind ∷ []) _ o (λ ks are. two_answer Address (kind_of kind) (kind_of kind) ks vs w _ (λ p v to is. store_answers u.model kind p v w to is) are)
  performed (op.StoreOver kind) other o = changing (kind_of kind ∷ (o.0 ∷ (Address ∷ []))) (o.0 ∷ []) _ o.1 (λ ks are. store_over_answers u w kind o.0 ks vs are)
  performed (op.Copy t) other o = changing (Address ∷ (Address ∷ [])) (Address ∷ []) _ o (λ ks are. two_answer Address Address Address ks vs w _ (λ p q to from. copy_answers u.model (leaves u t) (size_of u t) p q w to from) are)
  performed (op.Narrow offset size) other o = changing (Address ∷ []) (Address ∷ []) _ o (λ ks are. one_answers Address Address ks vs w _ (λ p is. narrow_answers p offset size w is) are)
  performed (op.Shift order size back) other o = changing (pointer_and_number order) (Address ∷ []) _ o (λ ks are. shifted_answers u w order size back ks vs are)
  performed (op.ShiftByOne size back) other o = changing (Address ∷ []) (Address ∷ []) _ o (λ ks are. one_answers Address Address ks vs w _ (λ p is. shift_answers p plain_one size back w is tt) are)
  performed (op.Binary order sign kind) other o = changing (Number ∷ (Number ∷ [])) (Number ∷ []) _ o (λ ks are. binary_on_two u w order ks vs (binary sign kind) (λ a b one two. binary_answers sign kind a b w one two) are)
  performed (op.BinaryByOne sign kind) other o = changing (Number ∷ []) (Number ∷ []) _ o (λ ks are. one_answers Number Number ks vs w _ (λ a is. binary_answers sign kind a plain_one w is tt) are)
  performed (op.Unary sign kind) other o = changing (Number ∷ []) (Number ∷ []) _ o (λ ks are. one_answers Number Number ks vs w _ (λ a is. unary_answers sign kind a w is) are)
  performed (op.Compare rel) other o = changing (Number ∷ (Number ∷ [])) (Number ∷ []) _ o (λ ks are. two_answer Number Number Number ks vs w _ (λ a b one two. compare_numbers_answers rel a b w one two) are)
  performed op.Not other o = changing (o.0 ∷ []) (Number ∷ []) _ o.1 (λ ks are. one_answers o.0 Number ks vs w negation (λ v is. tt) are)
  performed (op.Difference size) other o = changing (Address ∷ (Address ∷ [])) (Number ∷ []) _ o (λ ks are. two_answer Address Address Number ks vs w _ (λ p q one two. difference_answers p q size w one two) are)
  performed (op.ComparePointers rel) other o = changing (Address ∷ (Address ∷ [])) (Number ∷ []) _ o (λ ks are. two_answer Address Address Number ks vs w _ (λ p q one two. compare_answers rel p q w one two) are)
  performed (op.Convert (of.Int kind)) other o = changing (o.0 ∷ []) (Number ∷ []) _ o.2 (λ ks are. one_answers o.0 Number ks vs w _ (λ v is. convert_answers kind v w (subst (λ k. IsOf k v) o.1 is)) are)
  performed (op.Convert of.Pointer) other o = absurd (apart other)
  performed (op.Library function count target) other o = library_performed u w function target count before after below vs o are

  kept : (operation : Operation) → Operates operation before after → IfGoes (AreOf (after ++ below)) (perform u operation vs w)
  kept (op.Convert of.Pointer) o = converted o.0 o.2
  kept (op.Convert (of.Int kind)) o = gives_if (AreOf (after ++ below)) (perform u (op.Convert (of.Int kind)) vs w) (performed (op.Convert (of.Int kind)) refl o)
  kept operation o = gives_if (AreOf (after ++ below)) (perform u operation vs w) (performed operation refl o)

-- ---- the laws

pub keeps_kinds : OperationsKeepKinds
keeps_kinds u operation before after below vs w operates are = kept u before after below vs w are operation operates

pub has_steps : OperationsHaveSteps
has_steps u operation before after below vs w other operates are = not_stuck (AreOf (after ++ below)) (perform u operation vs w) (performed u before after below vs w are operation other operates)

pub store_has_step : StoresHaveSteps
store_has_step m kind at v w to is =
    let answers : Answers (IsOf (kind_of kind)) (store m kind at v w) = store_answers m kind at v w to is in
    (gives_if (IsOf (kind_of kind)) (store m kind at v w) answers, not_stuck (IsOf (kind_of kind)) (store m kind at v w) answers)

pub line_has_step : LinesHaveSteps
line_has_step m text count stream w one two three =
    let vs : List Scalar = text ∷ (count ∷ (stream ∷ [])) in
    let answers : Answers (IsOf Address) (fgets m vs w) = fgets_answers m vs w (one, (two, (three, tt))) in
    (gives_if (IsOf Address) (fgets m vs w) answers, not_stuck (IsOf Address) (fgets m vs w) answers)
