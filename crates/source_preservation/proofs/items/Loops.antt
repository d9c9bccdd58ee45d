-- Behind the end of a loop, or of a turn, items lead on from no pending values.
use Rattle.std.proofs.Common.{◌≡◌, Bool, true, List, [], ◌∷◌, Option, subst}
use Rattle.c_layout.specs.CheckedUnits.{UnitView, FunctionView}
use Rattle.semantics.specs.SourceMachine.Items as item
use Rattle.semantics.specs.SourceMachine.Items.{Item}
use Rattle.semantics.specs.SourceMachine.Scopes.{past_loop, past_iteration}
use Rattle.source_items.specs.StackKinds.KindedItems.{ends_loop, ends_turn}
use Rattle.source_items.proofs.stack_kinds.Loops.{apart}
use Rattle.source_preservation.specs.ValueTyping.Marks.{Mark}
use Rattle.source_preservation.specs.WellTyped.WellTypedItems.{Does}

module _ (u : UnitView) (f : FunctionView) (called : Option Bool) where
  pub does_behind_loop : (items : List Item) (before after : List Mark) → ends_loop items ≡ true → Does u f called items before after → Does u f called (past_loop items) [] after
  does_behind_loop [] before after ends does = absurd (apart ends)
  does_behind_loop (item.LoopEnd ∷ items) before after ends does = subst (λ ks. Does u f called items ks after) does.1.1 does.2
  does_behind_loop (i ∷ items) before after ends does = does_behind_loop items does.0 after ends does.2

  pub does_behind_turn : (items : List Item) (before after : List Mark) → ends_turn items ≡ true → Does u f called items before after → Does u f called (past_iteration items) [] after
  does_behind_turn [] before after ends does = absurd (apart ends)
  does_behind_turn (item.IterationEnd ∷ items) before after ends does = subst (λ ks. Does u f called items ks after) does.1.1 does.2
  does_behind_turn (i ∷ items) before after ends does = does_behind_turn items does.0 after ends does.2
