-- An instruction that does not end its block does the same in each copy of it, and leaves the run in that copy.
use Rattle.std.specs.Prelude.{◌≡◌, ℕ, Option, Some, None, slice_get, refl}
use Rattle.std.proofs.Common.{sym, subst, ap₂}
use Rattle.c_layout.specs.declared.shapes.BaseInfo.{BaseInfo}
use Rattle.cfg.specs.declared.machine_instructions.Amount.{Amount}
use Rattle.cfg.specs.declared.machine_instructions.Amount.TheVariants as amount
use Rattle.memory_model.specs.Memory.Scalars.{Scalar}
use Rattle.memory_model.specs.Effects.Worlds.{World, Reply, goes, stops, behind}
use Rattle.memory_model.specs.Effects.Accesses.{load, store}
use Rattle.memory_model.specs.Effects.StructCopies.{copy_struct}
use Rattle.memory_model.specs.Effects.PointerEffects.{narrow, shift, difference, compare}
use Rattle.memory_model.specs.Effects.IntegerEffects.{binary, unary, compare_numbers, negation, convert, plain_one}
use Rattle.memory_model.specs.Effects.LibraryCalls.{library}
use Rattle.lower_templates.specs.Worklist.Acts as act
use Rattle.lower_templates.specs.Worklist.Acts.{Act}
use Rattle.lower_templates.specs.Views.ProgramViews.{FlowView}
use Rattle.semantics.specs.CfgMachine.FlowStates.{ProgramState, if_some, values_of}
use Rattle.semantics.specs.CfgMachine.FlowActs.{giving, keeping, storing, put_result, calling, with_amount, entering, enter, struct_leaves, struct_size, perform}
use Rattle.loop_unrolling.specs.Turns.{split}
use Rattle.analysis_determined.specs.UnrolledRuns.SameRuns.{in_copy}

module _ (blocks copy : ℕ) where
  -- both go on, one in the block and the other in its copy, or both stop
  abbrev pub Moved : ℕ → Reply ProgramState → Reply ProgramState → Type 0
  Moved block (goes s w) (goes t v) = (s.block ≡ block) × ((t ≡ in_copy blocks copy s) × (v ≡ w))
  Moved block (stops why w) (stops reason v) = (reason ≡ why) × (v ≡ w)
  Moved block one other = ⊥

  pub if_moved : {A : Type 0} (s : ProgramState) (block : ℕ) (x : Option A) (f g : A → Reply ProgramState) → ((v : A) → Moved block (f v) (g v)) → Moved block (if_some s x f) (if_some (in_copy blocks copy s) x g)
  if_moved s block None f g h = (refl, refl)
  if_moved s block (Some v) f g h = h v

  pub behind_moved : (block : ℕ) (r q : Reply ProgramState) (f g : ProgramState → World → Reply ProgramState) → Moved block r q → ((s : ProgramState) (w : World) → s.block ≡ block → Moved block (f s w) (g (in_copy blocks copy s) w)) → Moved block (behind r f) (behind q g)
  behind_moved block (goes s w) (goes t v) f g m h = subst (λ z. Moved block (f s w) z) (sym (ap₂ g m.1.0 m.1.1)) (h s w m.0)
  behind_moved block (goes s w) (stops why v) f g m h = absurd m
  behind_moved block (stops why w) (goes t v) f g m h = absurd m
  behind_moved block (stops why w) (stops reason v) f g m h = m

  giving_moved : (s : ProgramState) (to : ℕ) (r : Reply Scalar) → Moved s.block (giving s to r) (giving (in_copy blocks copy s) to r)
  giving_moved s to (goes v w) = (refl, (refl, refl))
  giving_moved s to (stops why w) = (refl, refl)

  keeping_moved : (s : ProgramState) (kept : Option (ℕ × ℕ)) → Moved s.block (keeping s kept) (keeping (in_copy blocks copy s) kept)
  keeping_moved s None = (refl, (refl, refl))
  keeping_moved s (Some kept) = if_moved s s.block (s.temps kept.1) _ _ (λ v. (refl, (refl, refl)))

  storing_moved : (s : ProgramState) (kept : Option (ℕ × ℕ)) (r : Reply Scalar) → Moved s.block (storing s kept r) (storing (in_copy blocks copy s) kept r)
  storing_moved s kept (goes v w) = keeping_moved (record s { world = w }) kept
  storing_moved s kept (stops why w) = (refl, refl)

  result_moved : (s : ProgramState) (to : Option ℕ) (v : Option Scalar) (w : World) → Moved s.block (put_result s to v w) (put_result (in_copy blocks copy s) to v w)
  result_moved s (Some to) (Some v) w = (refl, (refl, refl))
  result_moved s None None w = (refl, (refl, refl))
  result_moved s (Some to) None w = (refl, refl)
  result_moved s None (Some v) w = (refl, refl)

  calling_moved : (s : ProgramState) (to : Option ℕ) (r : Reply (Option Scalar)) → Moved s.block (calling s to r) (calling (in_copy blocks copy s) to r)
  calling_moved s to (goes v w) = result_moved s to v w
  calling_moved s to (stops why w) = (refl, refl)

  amount_moved : (s : ProgramState) (by : Amount) (f g : Scalar → Reply ProgramState) → ((v : Scalar) → Moved s.block (f v) (g v)) → Moved s.block (with_amount s by f) (with_amount (in_copy blocks copy s) by g)
  amount_moved s (amount.Temp t) f g h = if_moved s s.block (s.temps t) f g h
  amount_moved s amount.One f g h = h plain_one

  module _ (turns : ℕ) (f : FlowView) where
    enter_moved : (s : ProgramState) (base : ℕ) (b : Option BaseInfo) → Moved s.block (enter f s base b) (enter (split turns f) (in_copy blocks copy s) base b)
    enter_moved s base None = (refl, refl)
    enter_moved s base (Some b) = (refl, (refl, refl))

    entering_moved : (s : ProgramState) (base : ℕ) (i : Option ℕ) → Moved s.block (entering f s base i) (entering (split turns f) (in_copy blocks copy s) base i)
    entering_moved s base None = enter_moved s base (slice_get f.bases base)
    entering_moved s base (Some i) = (refl, refl)

    pub perform_moved : (a : Act) (s : ProgramState) → Moved s.block (perform f a s) (perform (split turns f) a (in_copy blocks copy s))
    perform_moved (act.Constant to value kind) s = (refl, (refl, refl))
    perform_moved (act.Address to base offset) s = if_moved s s.block (s.bases base) _ _ (λ i. (refl, (refl, refl)))
    perform_moved (act.Load to from kind) s = if_moved s s.block (s.temps from) _ _ (λ v. giving_moved s to (load f.model kind v s.world))
    perform_moved (act.Store to from kind kept) s = if_moved s s.block (s.temps to) _ _ (λ p. if_moved s s.block (s.temps from) _ _ (λ v. storing_moved s kept (store f.model kind p v s.world)))
    perform_moved (act.Copy to from index) s = if_moved s s.block (s.temps to) _ _ (λ p. if_moved s s.block (s.temps from) _ _ (λ q. giving_moved s to (copy_struct f.model (struct_leaves f index) (struct_size f index) p q s.world)))
    perform_moved (act.Narrow to from offset size) s = if_moved s s.block (s.temps from) _ _ (λ v. giving_moved s to (narrow v offset size s.world))
    perform_moved (act.Shift to from by size backward) s = if_moved s s.block (s.temps from) _ _ (λ p. amount_moved s by _ _ (λ n. giving_moved s to (shift p n size backward s.world)))
    perform_moved (act.Binary to sign left right kind) s = if_moved s s.block (s.temps left) _ _ (λ a. amount_moved s right _ _ (λ b. giving_moved s to (binary sign kind a b s.world)))
    perform_moved (act.Unary to sign from kind) s = if_moved s s.block (s.temps from) _ _ (λ v. giving_moved s to (unary sign kind v s.world))
    perform_moved (act.Compare to sign left right) s = if_moved s s.block (s.temps left) _ _ (λ a. if_moved s s.block (s.temps right) _ _ (λ b. giving_moved s to (compare_numbers sign a b s.world)))
    perform_moved (act.Not to from kind) s = if_moved s s.block (s.temps from) _ _ (λ v. giving_moved s to (negation v s.world))
    perform_moved (act.Difference to left right size) s = if_moved s s.block (s.temps left) _ _ (λ a. if_moved s s.block (s.temps right) _ _ (λ b. giving_moved s to (difference a b size s.world)))
    perform_moved (act.ComparePointers to sign left right) s = if_moved s s.block (s.temps left) _ _ (λ a. if_moved s s.block (s.temps right) _ _ (λ b. giving_moved s to (compare sign a b s.world)))
    perform_moved (act.Convert to from old new) s = if_moved s s.block (s.temps from) _ _ (λ v. giving_moved s to (convert new v s.world))
    perform_moved (act.Library to function arguments newest size) s = if_moved s s.block (values_of s.temps arguments) (λ vs. calling s to (library f.model size function vs s.world)) (λ vs. calling (in_copy blocks copy s) to (library f.model size function vs s.world)) (λ vs. calling_moved s to (library f.model size function vs s.world))
    perform_moved (act.Enter base) s = entering_moved s base (s.bases base)
    perform_moved (act.Leave base) s = if_moved s s.block (s.bases base) _ _ (λ i. (refl, (refl, refl)))
    perform_moved (act.Forget base) s = if_moved s s.block (s.bases base) _ _ (λ i. (refl, (refl, refl)))
    perform_moved (act.Clear base) s = if_moved s s.block (s.bases base) _ _ (λ i. (refl, (refl, refl)))
    perform_moved (act.Spell base offset room text) s = if_moved s s.block (s.bases base) _ _ (λ i. (refl, (refl, refl)))
    perform_moved (act.ReadLine to text count stream) s = (refl, refl)
    perform_moved act.Jump s = (refl, refl)
    perform_moved (act.Branch from kind) s = (refl, refl)
    perform_moved (act.Switch from kind) s = (refl, refl)
    perform_moved act.Stop s = (refl, refl)
