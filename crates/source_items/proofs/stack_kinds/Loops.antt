-- Where loops and turns end.
use Rattle.std.proofs.Common.{◌≡◌, Bool, true, false, List, [], ◌∷◌, ◌++◌, Option, refl, subst}
use Rattle.c_layout.specs.CheckedUnits.{UnitView, FunctionView}
use Rattle.semantics.specs.SourceMachine.Items as item
use Rattle.semantics.specs.SourceMachine.Items.{Item}
use Rattle.semantics.specs.SourceMachine.Scopes.{past_loop, past_iteration}
use Rattle.source_items.specs.Operations.Kinds.{Kind}
use Rattle.source_items.specs.StackKinds.KindedItems.{ends_loop, ends_turn, Encloses, Does}

pub apart : false ≡ true → ⊥
apart e = cc

pub loop_ends_more : (xs items : List Item) → ends_loop items ≡ true → ends_loop (xs ++ items) ≡ true
loop_ends_more [] items ends = ends
loop_ends_more (item.LoopEnd ∷ xs) items ends = refl
loop_ends_more (i ∷ xs) items ends = loop_ends_more xs items ends

pub turn_ends_more : (xs items : List Item) → ends_turn items ≡ true → ends_turn (xs ++ items) ≡ true
turn_ends_more [] items ends = ends
turn_ends_more (item.IterationEnd ∷ xs) items ends = refl
turn_ends_more (i ∷ xs) items ends = turn_ends_more xs items ends

pub encloses_more : (breaks continues : Bool) (xs items : List Item) → Encloses breaks continues items → Encloses breaks continues (xs ++ items)
encloses_more breaks continues xs items e = record { at_break = λ b. loop_ends_more xs items (e.at_break b); at_continue = λ c. turn_ends_more xs items (e.at_continue c) }

pub no_loop : (items : List Item) → Encloses false false items
no_loop items = record { at_break = λ e. absurd (apart e); at_continue = λ e. absurd (apart e) }

pub in_loop : (items : List Item) → ends_loop items ≡ true → ends_turn items ≡ true → Encloses true true items
in_loop items loop turn = record { at_break = λ e. loop; at_continue = λ e. turn }

-- a switch ends behind these items
pub in_switch : (breaks continues : Bool) (items : List Item) → Encloses breaks continues items → Encloses true continues (item.LoopEnd ∷ items)
in_switch breaks continues items e = record { at_break = λ b. refl; at_continue = e.at_continue }

module _ (u : UnitView) (f : FunctionView) (called : Option Bool) where
  pub does_behind_loop : (items : List Item) (before after : List Kind) → ends_loop items ≡ true → Does u f called items before after → Does u f called (past_loop items) [] after
  does_behind_loop [] before after ends does = absurd (apart ends)
  does_behind_loop (item.LoopEnd ∷ items) before after ends does = subst (λ ks. Does u f called items ks after) does.1.1 does.2
  does_behind_loop (i ∷ items) before after ends does = does_behind_loop items does.0 after ends does.2

  pub does_behind_turn : (items : List Item) (before after : List Kind) → ends_turn items ≡ true → Does u f called items before after → Does u f called (past_iteration items) [] after
  does_behind_turn [] before after ends does = absurd (apart ends)
  does_behind_turn (item.IterationEnd ∷ items) before after ends does = subst (λ ks. Does u f called items ks after) does.1.1 does.2
  does_behind_turn (i ∷ items) before after ends does = does_behind_turn items does.0 after ends does.2
