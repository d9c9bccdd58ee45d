-- How what a function has to do changes, so that it takes its values by their kinds still.
use Rattle.std.proofs.Common.{◌≡◌, ℕ, Bool, List, [], ◌∷◌, ◌++◌, drop, Option, Some, refl, sym, subst}
use Rattle.c_layout.specs.CheckedUnits.{UnitView, FunctionView}
use Rattle.memory_model.specs.Memory.Scalars.{Scalar}
use Rattle.semantics.specs.SourceMachine.Items.{Item}
use Rattle.semantics.specs.SourceMachine.Scopes.{entered_between, jump, entering_first, leap_in}
use Rattle.semantics.specs.SourceMachine.SourceStates.{Frame, function_at}
use Rattle.source_items.specs.Operations.Kinds.{Kind, IsOf, AreOf}
use Rattle.source_items.specs.StackKinds.KindedItems.{called_by, left_kinds, AtRest, Does}
use Rattle.source_items.specs.StackKinds.KindedStates.{Runs}
use Rattle.source_items.proofs.stack_kinds.ItemWalks.{Through}
use Rattle.source_items.proofs.stack_kinds.Leading.{kinds}

-- a function goes on from kinds that its values have
pub record Reaches (u : UnitView) (f : FunctionView) (called : Option Bool) (items : List Item) (left below : List Kind) (values : List Scalar) : Type 0 where
  pub kinds : List Kind
  pub does : Does u f called items kinds left
  pub are : AreOf (kinds ++ below) values

-- ---- values

-- the newest value is of the newest kind
pub newest_of : (ks : List Kind) (k : Kind) (others below : List Kind) (v : Scalar) (vs : List Scalar) → ks ≡ k ∷ others → AreOf (ks ++ below) (v ∷ vs) → IsOf k v × AreOf (others ++ below) vs
newest_of ks k others below v vs same are = subst (λ xs. AreOf (xs ++ below) (v ∷ vs)) same are

pub one_less : (ks : List Kind) (k : Kind) (others below : List Kind) (vs : List Scalar) → ks ≡ k ∷ others → AreOf (ks ++ below) vs → AreOf (others ++ below) (drop 1 vs)
one_less ks k others below [] same are = absurd (subst (λ xs. AreOf (xs ++ below) []) same are)
one_less ks k others below (v ∷ vs) same are = (newest_of ks k others below v vs same are).1

module _ (u : UnitView) where
  -- ---- other items in the place of some

  module _ (g : ℕ) (items others : List Item) (frames : List Frame) (values new : List Scalar) where
    pub revalued : ((f : FunctionView) → function_at u g ≡ Some f → (ks left below : List Kind) → left ≡ left_kinds f (called_by frames) → Does u f (called_by frames) items ks left → AreOf (ks ++ below) values → Reaches u f (called_by frames) others left below new) → Runs u g items frames values → Runs u g others frames new
    revalued how r =
        let reached : Reaches u r.goes.function (called_by frames) others r.left r.below new = how r.goes.function r.goes.is r.kinds r.left r.below r.goes.leaves r.goes.does r.are in
        record { kinds = reached.kinds; left = r.left; below = r.below; goes = record { function = r.goes.function; is = r.goes.is; leaves = r.goes.leaves; does = reached.does }; wait = r.wait; are = reached.are }

  pub instead_of : (g : ℕ) (items others : List Item) (frames : List Frame) (values : List Scalar) → ((f : FunctionView) → function_at u g ≡ Some f → (ks left : List Kind) → left ≡ left_kinds f (called_by frames) → Does u f (called_by frames) items ks left → Does u f (called_by frames) others ks left) → Runs u g items frames values → Runs u g others frames values
  instead_of g items others frames values how r = revalued g items others frames values values (λ f is ks left below leaves does are. record { kinds = ks; does = how f is ks left leaves does; are = are }) r

  module _ (f : FunctionView) (called : Option Bool) where
    pub resting : (items rest : List Item) (ks mid : List Kind) → AtRest ks mid → Through (kinds u f called) items rest [] [] → Through (kinds u f called) items rest ks mid
    resting items rest ks mid rests through = subst (λ xs. Through (kinds u f called) items rest xs mid) (sym rests.0) (subst (λ xs. Through (kinds u f called) items rest [] xs) (sym rests.1) through)

    -- ---- jumps

    pub jumped : (from to : List Item) (left : List Kind) → Does u f called to [] left → Does u f called (jump from to) [] left
    jumped from to left does = ([], refl, ([], refl, ([], refl, does)))

    entered_first : (objects : List ℕ) (to : List Item) (left : List Kind) → Does u f called to [] left → Does u f called (entering_first objects to) [] left
    entered_first [] to left does = does
    entered_first (x ∷ objects) to left does = ([], refl, ([], refl, does))

    pub leapt : (from to : List Item) (left : List Kind) → Does u f called to [] left → Does u f called (leap_in from to) [] left
    leapt from to left does = entered_first (entered_between from to) to left does
