-- How what a function has to do changes, so that it takes its values by their marks still.
use Rattle.std.proofs.Common.{◌≡◌, ℕ, Bool, List, [], ◌∷◌, ◌++◌, Option, refl, ap, sym, subst}
use Rattle.c_layout.specs.CheckedUnits.{UnitView, FunctionView}
use Rattle.memory_model.specs.Memory.Instances.{Memory}
use Rattle.memory_model.specs.Memory.Scalars.{Scalar}
use Rattle.memory_model.specs.Effects.Worlds.{World}
use Rattle.semantics.specs.SourceMachine.Items.{Item}
use Rattle.semantics.specs.SourceMachine.Scopes.{entered_between, jump, entering_first, leap_in}
use Rattle.semantics.specs.SourceMachine.SourceStates.{State, with_world, pushed}
use Rattle.source_items.specs.StackKinds.KindedItems.{called_by}
use Rattle.source_preservation.specs.ValueTyping.Marks.{Mark, AreStable, AreFree, Has, AreWellTyped}
use Rattle.source_preservation.specs.ValueTyping.ProperMemory.{Evolves}
use Rattle.source_preservation.specs.WellTyped.WellTypedItems.{AtRest, Does}
use Rattle.source_preservation.specs.WellTyped.WellTypedStates.{HaveRoom, Runs}
use Rattle.source_preservation.proofs.memory.Evolving.{evolves_same}
use Rattle.source_items.proofs.stack_kinds.ItemWalks.{Through, does_from, through_does}
use Rattle.source_preservation.proofs.items.Leading.{marks}
use Rattle.source_preservation.proofs.small_steps.Keeping.{stables_kept, frees_kept, room_kept, statics_kept, wait_kept}

-- the function that runs has such items to do, and one item more before the others
abbrev pub RunsBy : UnitView → List Item → State → Type 0
RunsBy u items s = Runs u (record s { control = items })

abbrev pub RunsAt : UnitView → Item → State → Type 0
RunsAt u i s = RunsBy u (i ∷ s.control) s

-- a function goes on from marks that its values have
pub record Reaches (u : UnitView) (f : FunctionView) (called : Option Bool) (names : ℕ → Option ℕ) (memory : Memory) (items : List Item) (left : List Mark) (rest values : List Scalar) : Type 0 where
  pub marks : List Mark
  pub own : List Scalar
  pub is : values ≡ own ++ rest
  pub are : AreWellTyped u.model names memory marks own
  pub does : Does u f called items marks left

module _ (u : UnitView) where
  -- other items, names, values and memory
  pub renewed : (items : List Item) (s : State) (r : RunsBy u items s) (names : ℕ → Option ℕ) (others : List Item) (values : List Scalar) (w : World) → Evolves u.model s.world.memory w.memory → HaveRoom u w.memory r.goes.function names → Reaches u r.goes.function (called_by s.frames) names w.memory others r.left r.rest values → Runs u (record s { names = names; control = others; values = values; world = w })
  renewed items s r names others values w evolves room reached = record {
    marks = reached.marks;
    left = r.left;
    own = reached.own;
    rest = r.rest;
    values = reached.is;
    are = reached.are;
    goes = record { function = r.goes.function; is = r.goes.is; room = room; leaves = r.goes.leaves; does = reached.does };
    wait = wait_kept u s.world.memory w.memory evolves.grows r.left s.frames r.rest r.wait;
    proper = evolves.proper r.proper;
    statics = statics_kept u s.world.memory w.memory evolves.grows r.statics;
  }

  -- other items and values, in the same memory
  pub revalued : (items : List Item) (s : State) (r : RunsBy u items s) (others : List Item) (values : List Scalar) → Reaches u r.goes.function (called_by s.frames) s.names s.world.memory others r.left r.rest values → Runs u (record s { control = others; values = values })
  revalued items s r others values reached = renewed items s r s.names others values s.world (evolves_same u.model s.world.memory) r.goes.room reached

  -- other items
  pub instead_of : (items : List Item) (s : State) (r : RunsBy u items s) (others : List Item) → Does u r.goes.function (called_by s.frames) others r.marks r.left → RunsBy u others s
  instead_of items s r others does = revalued items s r others s.values (record { marks = r.marks; own = r.own; is = r.values; are = r.are; does = does })

  pub expanded : (i : Item) (s : State) (r : RunsAt u i s) (items : List Item) → Through (marks u r.goes.function (called_by s.frames)) items s.control r.marks r.goes.does.0 → RunsBy u (items ++ s.control) s
  expanded i s r items through = instead_of (i ∷ s.control) s r (items ++ s.control) (through_does (marks u r.goes.function (called_by s.frames)) items s.control r.marks r.goes.does.0 r.left through r.goes.does.2)

  pub passed : (i : Item) (s : State) (r : RunsAt u i s) → r.marks ≡ r.goes.does.0 → Runs u s
  passed i s r same = expanded i s r [] same

  -- one value more
  pub pushing : (i : Item) (s : State) (r : RunsAt u i s) (k : Mark) (v : Scalar) → Has u.model s.names s.world.memory k v → r.goes.does.0 ≡ k ∷ r.marks → Runs u (pushed v s)
  pushing i s r k v has same = revalued (i ∷ s.control) s r s.control (v ∷ s.values) (record {
    marks = k ∷ r.marks;
    own = v ∷ r.own;
    is = ap (λ vs. v ∷ vs) r.values;
    are = (has, r.are);
    does = does_from (marks u r.goes.function (called_by s.frames)) s.control (k ∷ r.marks) r.goes.does.0 r.left (sym same) r.goes.does.2;
  })

  -- another memory, on which no value rests
  pub evolved : (i : Item) (s : State) (r : RunsAt u i s) (w : World) → Evolves u.model s.world.memory w.memory → AreStable r.marks → r.goes.does.0 ≡ r.marks → Runs u (with_world s w)
  evolved i s r w evolves stable same = renewed (i ∷ s.control) s r s.names s.control s.values w evolves (room_kept u s.world.memory w.memory evolves.grows r.goes.function s.names r.goes.room) (record {
    marks = r.marks;
    own = r.own;
    is = r.values;
    are = stables_kept u.model s.names s.world.memory w.memory r.marks r.own evolves.grows stable r.are;
    does = does_from (marks u r.goes.function (called_by s.frames)) s.control r.marks r.goes.does.0 r.left (sym same) r.goes.does.2;
  })

  -- other names, on which no value rests either
  pub renamed : (items : List Item) (s : State) (r : RunsBy u items s) (names : ℕ → Option ℕ) (others : List Item) (w : World) → Evolves u.model s.world.memory w.memory → HaveRoom u w.memory r.goes.function names → AreFree r.marks → Does u r.goes.function (called_by s.frames) others r.marks r.left → Runs u (record s { names = names; control = others; world = w })
  renamed items s r names others w evolves room free does = renewed items s r names others s.values w evolves room (record {
    marks = r.marks;
    own = r.own;
    is = r.values;
    are = frees_kept u.model s.names names s.world.memory w.memory r.marks r.own free r.are;
    does = does;
  })

  module _ (f : FunctionView) (called : Option Bool) where
    pub resting : (items rest : List Item) (ks mid : List Mark) → AtRest ks mid → Through (marks u f called) items rest [] [] → Through (marks u f called) items rest ks mid
    resting items rest ks mid rests through = subst (λ xs. Through (marks u f called) items rest xs mid) (sym rests.0) (subst (λ xs. Through (marks u f called) items rest [] xs) (sym rests.1) through)

    -- ---- jumps

    pub jumped : (from to : List Item) (left : List Mark) → Does u f called to [] left → Does u f called (jump from to) [] left
    jumped from to left does = ([], (tt, refl), ([], (tt, refl), ([], refl, does)))

    entered_first : (objects : List ℕ) (to : List Item) (left : List Mark) → Does u f called to [] left → Does u f called (entering_first objects to) [] left
    entered_first [] to left does = does
    entered_first (x ∷ objects) to left does = ([], (tt, refl), ([], refl, does))

    pub leapt : (from to : List Item) (left : List Mark) → Does u f called to [] left → Does u f called (leap_in from to) [] left
    leapt from to left does = entered_first (entered_between from to) to left does
