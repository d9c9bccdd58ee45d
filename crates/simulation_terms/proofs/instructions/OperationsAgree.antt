-- Operations and their instructions do the same.
use Rattle.std.proofs.Common.{◌≡◌, ℕ, suc, Bool, true, false, cond, List, [], ◌∷◌, length, Some, None, refl, arith, sym, subst}
use Rattle.c_layout.specs.Types.{Struct}
use Rattle.c_layout.specs.declared.data_model.Model.{Model}
use Rattle.c_layout.specs.declared.leaf_lists.Class.{Class}
use Rattle.cfg.specs.declared.machine_instructions.Amount.TheVariants.{Temp, One}
use Rattle.cfg.specs.declared.machine_instructions.Scalar as declared
use Rattle.memory_model.specs.Memory.Labels.{no_labels}
use Rattle.memory_model.specs.Memory.Scalars.{Scalar, integer, pointer}
use Rattle.memory_model.specs.Effects.Worlds.{World, Why, Reply, goes, stops, Stuck, Left, behind}
use Rattle.memory_model.specs.Effects.Operands.{is_of_kind}
use Rattle.memory_model.specs.Memory.ScalarSizes.{class_bytes}
use Rattle.memory_model.specs.Effects.ScalarBytes.{scalar_bytes}
use Rattle.memory_model.specs.Effects.Touches.{Spot, touched}
use Rattle.memory_model.specs.Effects.Accesses as accesses
use Rattle.memory_model.specs.Effects.Accesses.{class_in, store, store_through, store_at, may_store, load}
use Rattle.memory_model.specs.Effects.PointerEffects.{narrow, shift, difference, compare}
use Rattle.memory_model.specs.Effects.StructCopies.{copy_struct}
use Rattle.memory_model.specs.Effects.IntegerEffects.{plain_one, binary, unary, compare_numbers, negation, convert}
use Rattle.lower_templates.specs.Worklist.Acts as act
use Rattle.lower_templates.specs.Worklist.Acts.{Act}
use Rattle.semantics.specs.CfgMachine.FlowStates as flow
use Rattle.semantics.specs.CfgMachine.FlowActs as flow_acts
use Rattle.semantics.specs.CfgMachine.FlowActs.{giving, storing}
use Rattle.semantics.specs.SourceMachine.Operations as op
use Rattle.semantics.specs.SourceMachine.Operations.{Operation, pushing, LeftFirst, RightFirst}
use Rattle.semantics.specs.TemplateMachine.TemplateStates.{Templates, TemplateState}
use Rattle.semantics.specs.TemplateMachine.TemplateActs.{in_flow, from_flow, perform}
use Rattle.simulation_terms.specs.Instructions.Acts as acts
use Rattle.simulation_terms.specs.Instructions.Acts.{Holds, IsAct, IsActBehind, SameReply, SameStore}
use Rattle.simulation_terms.proofs.instructions.HeldValues.{holds_put}

-- ---- one value more

-- what an effect gives is pushed, and put into the next temporary
gives_one : (vs : List Scalar) (s : TemplateState) (reply : Reply Scalar) → Holds vs s.temps → SameReply s (suc (length vs)) (pushing vs reply) (behind (giving (in_flow s) (length vs) reply) (from_flow s))
gives_one vs s (goes v w) holds = acts.both_go (v ∷ vs) _ w (holds_put v vs s.temps holds) refl
gives_one vs s (stops why w) holds = acts.both_stop why w

-- a temporary that holds a value
in_temp : (s : TemplateState) (count n : ℕ) (v : Scalar) (source : Reply (List Scalar)) (use_it : Scalar → Reply flow.ProgramState) → s.temps n ≡ Some v → SameReply s count source (behind (use_it v) (from_flow s)) → SameReply s count source (behind (flow.with_temp (in_flow s) n use_it) (from_flow s))
in_temp s count n v source use_it e same = subst (λ o. SameReply s count source (behind (flow.if_some (in_flow s) o use_it) (from_flow s))) (sym e) same

-- a store gives the value that is stored
data StoredOr (v : Scalar) : Reply Scalar → Type 0 where
  stored : (w : World) → StoredOr v (goes v w)
  stopped : (why : Why) (w : World) → StoredOr v (stops why w)

stored_at : (m : Model) (class : Class) (v : Scalar) (spot : Spot) (w : World) → StoredOr v (store_at m class v spot w)
stored_at m class v spot w = by (may_store m w class spot)
  where
    by : (b : Bool) → StoredOr v (cond b (goes v (accesses.stored w class spot (scalar_bytes (class_bytes m class) v))) (stops Left w))
    by true = stored _
    by false = stopped Left w

stored_behind : (m : Model) (class : Class) (v : Scalar) (reply : Reply Spot) → StoredOr v (behind reply (store_at m class v))
stored_behind m class v (goes spot w) = stored_at m class v spot w
stored_behind m class v (stops why w) = stopped why w

stores : (m : Model) (kind : declared.Scalar) (at v : Scalar) (w : World) → StoredOr v (store m kind at v w)
stores m kind (integer n labels) v w = stopped Stuck w
stores m kind (pointer p) v w = by (is_of_kind kind v)
  where
    by : (b : Bool) → StoredOr v (cond b (store_through m kind v p w) (stops Stuck w))
    by true = stored_behind m (class_in kind) v (touched w p (class_bytes m (class_in kind)) true)
    by false = stopped Stuck w

-- ---- operations by the number of their operands

module _ (t : Templates) where
  -- one operand, whose place the result takes
  on_one : (s : TemplateState) (v : Scalar) (vs : List Scalar) (effect : Scalar → World → Reply Scalar) → Holds (v ∷ vs) s.temps → SameReply s (suc (length vs)) (pushing vs (effect v s.world)) (behind (flow_acts.on_one (in_flow s) (length vs) (length vs) effect) (from_flow s))
  on_one s v vs effect (here, rest) = in_temp s _ (length vs) v _ _ here (gives_one vs s (effect v s.world) rest)

  -- two operands, the left one computed first
  on_two : (s : TemplateState) (b a : Scalar) (vs : List Scalar) (effect : Scalar → Scalar → World → Reply Scalar) → Holds (b ∷ (a ∷ vs)) s.temps → SameReply s (suc (length vs)) (pushing vs (effect a b s.world)) (behind (flow_acts.on_two (in_flow s) (length vs) (length vs) (suc (length vs)) effect) (from_flow s))
  on_two s b a vs effect (newest, (older, rest)) = in_temp s _ (length vs) a _ _ older (in_temp s _ (suc (length vs)) b _ _ newest (gives_one vs s (effect a b s.world) rest))

  -- the right one computed first
  on_two_back : (s : TemplateState) (a b : Scalar) (vs : List Scalar) (effect : Scalar → Scalar → World → Reply Scalar) → Holds (a ∷ (b ∷ vs)) s.temps → SameReply s (suc (length vs)) (pushing vs (effect a b s.world)) (behind (flow_acts.on_two (in_flow s) (length vs) (suc (length vs)) (length vs) effect) (from_flow s))
  on_two_back s a b vs effect (newest, (older, rest)) = in_temp s _ (suc (length vs)) a _ _ newest (in_temp s _ (length vs) b _ _ older (gives_one vs s (effect a b s.world) rest))

  kept_value : (s : TemplateState) (b p : Scalar) (vs : List Scalar) (reply : Reply Scalar) → Holds (b ∷ (p ∷ vs)) s.temps → StoredOr b reply → SameReply s (suc (length vs)) (pushing vs reply) (behind (storing (in_flow s) (Some (length vs, suc (length vs))) reply) (from_flow s))
  kept_value s b p vs _ (newest, (older, rest)) (stored w) =
      subst (λ o. SameReply s (suc (length vs)) (goes (b ∷ vs) w) (behind (flow.if_some (record (in_flow s) { world = w }) o (λ v. flow.next (flow.put (record (in_flow s) { world = w }) (length vs) v w))) (from_flow s))) (sym newest)
      (acts.both_go (b ∷ vs) _ w (holds_put b vs s.temps rest) refl)
  kept_value s b p vs _ holds (stopped why w) = acts.both_stop why w

  -- the value below is kept
  old_kept : (s : TemplateState) (b old p : Scalar) (vs : List Scalar) (reply : Reply Scalar) → Holds (b ∷ (old ∷ (p ∷ vs))) s.temps → SameReply s (suc (length vs)) (behind reply (λ _ w. goes (old ∷ vs) w)) (behind (storing (in_flow s) (Some (length vs, suc (length vs))) reply) (from_flow s))
  old_kept s b old p vs (goes v w) (newest, (middle, (oldest, rest))) =
      subst (λ o. SameReply s (suc (length vs)) (goes (old ∷ vs) w) (behind (flow.if_some (record (in_flow s) { world = w }) o (λ v. flow.next (flow.put (record (in_flow s) { world = w }) (length vs) v w))) (from_flow s))) (sym middle)
      (acts.both_go (old ∷ vs) _ w (holds_put old vs s.temps rest) refl)
  old_kept s b old p vs (stops why w) holds = acts.both_stop why w

  -- ---- operations with their values in place

  abbrev Same : TemplateState → Operation → Act → ℕ → List Scalar → Type 0
  Same s operation a next vs = SameReply s next (op.perform t.unit operation vs s.world) (perform t a s)

  one_less : (m n : ℕ) → suc m ≡ suc n → m ≡ n
  one_less m n e = omega (arith, e)

  no_values : (n : ℕ) → 0 ≡ suc n → ⊥
  no_values n e = omega (arith, e)

  with_one : (a : ℕ → Act) (operation : Operation) (next : ℕ → ℕ) (d : ℕ) (vs : List Scalar) (s : TemplateState) → ((v : Scalar) (vs : List Scalar) → Holds (v ∷ vs) s.temps → Same s operation (a (length vs)) (next (length vs)) (v ∷ vs)) → Holds vs s.temps → length vs ≡ suc d → Same s operation (a d) (next d) vs
  with_one a operation next d [] s use_it holds e = absurd (no_values d e)
  with_one a operation next d (v ∷ vs) s use_it holds e = subst (λ n. Same s operation (a n) (next n) (v ∷ vs)) (one_less (length vs) d e) (use_it v vs holds)

  with_two : (a : ℕ → Act) (operation : Operation) (next : ℕ → ℕ) (d : ℕ) (vs : List Scalar) (s : TemplateState) → ((v u : Scalar) (vs : List Scalar) → Holds (v ∷ (u ∷ vs)) s.temps → Same s operation (a (length vs)) (next (length vs)) (v ∷ (u ∷ vs))) → Holds vs s.temps → length vs ≡ suc (suc d) → Same s operation (a d) (next d) vs
  with_two a operation next d [] s use_it holds e = absurd (no_values (suc d) e)
  with_two a operation next d (v ∷ []) s use_it holds e = absurd (no_values d (one_less 0 (suc d) e))
  with_two a operation next d (v ∷ (u ∷ vs)) s use_it holds e = subst (λ n. Same s operation (a n) (next n) (v ∷ (u ∷ vs))) (one_less (length vs) d (one_less (suc (length vs)) (suc d) e)) (use_it v u vs holds)

  with_three : (a : ℕ → Act) (operation : Operation) (next : ℕ → ℕ) (d : ℕ) (vs : List Scalar) (s : TemplateState) → ((v u x : Scalar) (vs : List Scalar) → Holds (v ∷ (u ∷ (x ∷ vs))) s.temps → Same s operation (a (length vs)) (next (length vs)) (v ∷ (u ∷ (x ∷ vs)))) → Holds vs s.temps → length vs ≡ suc (suc (suc d)) → Same s operation (a d) (next d) vs
  with_three a operation next d [] s use_it holds e = absurd (no_values (suc (suc d)) e)
  with_three a operation next d (v ∷ []) s use_it holds e = absurd (no_values (suc d) (one_less 0 (suc (suc d)) e))
  with_three a operation next d (v ∷ (u ∷ [])) s use_it holds e = absurd (no_values d (one_less 0 (suc d) (one_less 1 (suc (suc d)) e)))
  with_three a operation next d (v ∷ (u ∷ (x ∷ vs))) s use_it holds e = subst (λ n. Same s operation (a n) (next n) (v ∷ (u ∷ (x ∷ vs)))) (one_less (length vs) d (one_less (suc (length vs)) (suc d) (one_less (suc (suc (length vs))) (suc (suc d)) e))) (use_it v u x vs holds)

  pub agree : (operation : Operation) (a : Act) (d next : ℕ) (vs : List Scalar) (s : TemplateState) → IsAct operation a d next → Holds vs s.temps → length vs ≡ d → Same s operation a next vs
  agree _ _ d _ vs s (acts.constant _ n kind) holds e = subst (λ k. Same s (op.Constant n) (act.Constant k n kind) (suc k) vs) e (gives_one vs s (goes (integer n no_labels) s.world) holds)
  agree _ _ _ _ vs s (acts.load d kind) holds e = with_one (λ k. act.Load k k kind) (op.Load kind) (λ k. suc k) d vs s (λ v vs h. on_one s v vs (load t.unit.model kind) h) holds e
  agree _ _ _ _ vs s (acts.load_over d kind) holds e =
      with_one (λ k. act.Load (suc k) k kind) (op.LoadOver kind) (λ k. suc (suc k)) d vs s (λ v vs h. in_temp s _ (length vs) v _ _ h.0 (gives_one (v ∷ vs) s (load t.unit.model kind v s.world) h)) holds e
  agree _ _ _ _ vs s (acts.load_under d kind) holds e =
      with_two (λ k. act.Load (suc (suc k)) k kind) (op.LoadUnder kind) (λ k. suc (suc (suc k))) d vs s (λ r p vs h. in_temp s _ (length vs) p _ _ h.1.0 (gives_one (r ∷ (p ∷ vs)) s (load t.unit.model kind p s.world) h)) holds e
  agree _ _ _ _ vs s (acts.store d kind) holds e =
      with_two (λ k. act.Store k (suc k) kind (Some (k, suc k))) (op.Store kind) (λ k. suc k) d vs s
      (λ b p vs h. in_temp s _ (length vs) p _ _ h.1.0 (in_temp s _ (suc (length vs)) b _ _ h.0 (kept_value s b p vs (store t.unit.model kind p b s.world) h (stores t.unit.model kind p b s.world)))) holds e
  agree _ _ _ _ vs s (acts.store_over d kind) holds e =
      with_three (λ k. act.Store k (suc (suc k)) kind (Some (k, suc k))) (op.StoreOver kind) (λ k. suc k) d vs s
      (λ b old p vs h. in_temp s _ (length vs) p _ _ h.1.1.0 (in_temp s _ (suc (suc (length vs))) b _ _ h.0 (old_kept s b old p vs (store t.unit.model kind p b s.world) h))) holds e
  agree _ _ _ _ vs s (acts.copy d n) holds e = with_two (λ k. act.Copy k (suc k) n) (op.Copy (Struct n)) (λ k. suc k) d vs s (λ b a vs h. on_two s b a vs (copy_struct t.unit.model (op.leaves t.unit (Struct n)) (op.size_of t.unit (Struct n))) h) holds e
  agree _ _ _ _ vs s (acts.narrow d offset size) holds e = with_one (λ k. act.Narrow k k offset size) (op.Narrow offset size) (λ k. suc k) d vs s (λ v vs h. on_one s v vs (λ p w. narrow p offset size w) h) holds e
  agree _ _ _ _ vs s (acts.shift_left d size back) holds e = with_two (λ k. act.Shift k k (Temp (suc k)) size back) (op.Shift LeftFirst size back) (λ k. suc k) d vs s (λ b a vs h. on_two s b a vs (λ p n w. shift p n size back w) h) holds e
  agree _ _ _ _ vs s (acts.shift_right d size back) holds e = with_two (λ k. act.Shift k (suc k) (Temp k) size back) (op.Shift RightFirst size back) (λ k. suc k) d vs s (λ a b vs h. on_two_back s a b vs (λ p n w. shift p n size back w) h) holds e
  agree _ _ _ _ vs s (acts.shift_one d size back) holds e = with_one (λ k. act.Shift k k One size back) (op.ShiftByOne size back) (λ k. suc k) d vs s (λ v vs h. on_one s v vs (λ p w. shift p plain_one size back w) h) holds e
  agree _ _ _ _ vs s (acts.binary_left d sign kind) holds e = with_two (λ k. act.Binary k sign k (Temp (suc k)) kind) (op.Binary LeftFirst sign kind) (λ k. suc k) d vs s (λ b a vs h. on_two s b a vs (binary sign kind) h) holds e
  agree _ _ _ _ vs s (acts.binary_right d sign kind) holds e = with_two (λ k. act.Binary k sign (suc k) (Temp k) kind) (op.Binary RightFirst sign kind) (λ k. suc k) d vs s (λ a b vs h. on_two_back s a b vs (binary sign kind) h) holds e
  agree _ _ _ _ vs s (acts.binary_one d sign kind) holds e = with_one (λ k. act.Binary k sign k One kind) (op.BinaryByOne sign kind) (λ k. suc k) d vs s (λ v vs h. on_one s v vs (λ a w. binary sign kind a plain_one w) h) holds e
  agree _ _ _ _ vs s (acts.unary d sign kind) holds e = with_one (λ k. act.Unary k sign k kind) (op.Unary sign kind) (λ k. suc k) d vs s (λ v vs h. on_one s v vs (unary sign kind) h) holds e
  agree _ _ _ _ vs s (acts.compare d rel) holds e = with_two (λ k. act.Compare k rel k (suc k)) (op.Compare rel) (λ k. suc k) d vs s (λ b a vs h. on_two s b a vs (compare_numbers rel) h) holds e
  agree _ _ _ _ vs s (acts.negate d kind) holds e = with_one (λ k. act.Not k k kind) op.Not (λ k. suc k) d vs s (λ v vs h. on_one s v vs negation h) holds e
  agree _ _ _ _ vs s (acts.difference d size) holds e = with_two (λ k. act.Difference k k (suc k) size) (op.Difference size) (λ k. suc k) d vs s (λ b a vs h. on_two s b a vs (λ p q w. difference p q size w) h) holds e
  agree _ _ _ _ vs s (acts.compare_pointers d rel) holds e = with_two (λ k. act.ComparePointers k rel k (suc k)) (op.ComparePointers rel) (λ k. suc k) d vs s (λ b a vs h. on_two s b a vs (compare rel) h) holds e
  agree _ _ _ _ vs s (acts.convert d old new) holds e = with_one (λ k. act.Convert k k old new) (op.Convert new) (λ k. suc k) d vs s (λ v vs h. on_one s v vs (convert new) h) holds e

  -- ---- stores whose value is dropped

  in_temp_stored : (s : TemplateState) (vs : List Scalar) (n : ℕ) (v : Scalar) (source : Reply (List Scalar)) (use_it : Scalar → Reply flow.ProgramState) → s.temps n ≡ Some v → SameStore s vs source (behind (use_it v) (from_flow s)) → SameStore s vs source (behind (flow.with_temp (in_flow s) n use_it) (from_flow s))
  in_temp_stored s vs n v source use_it e same = subst (λ o. SameStore s vs source (behind (flow.if_some (in_flow s) o use_it) (from_flow s))) (sym e) same

  no_value_kept : (s : TemplateState) (b : Scalar) (vs : List Scalar) (reply : Reply Scalar) → StoredOr b reply → SameStore s vs (pushing vs reply) (behind (storing (in_flow s) None reply) (from_flow s))
  no_value_kept s b vs _ (stored w) = acts.both_go b w
  no_value_kept s b vs _ (stopped why w) = acts.both_stop why w

  pub stores_agree : (kind : declared.Scalar) (v p : Scalar) (vs : List Scalar) (s : TemplateState) → Holds (v ∷ (p ∷ vs)) s.temps → SameStore s vs (op.perform t.unit (op.Store kind) (v ∷ (p ∷ vs)) s.world) (perform t (act.Store (length vs) (suc (length vs)) kind None) s)
  stores_agree kind v p vs s (newest, (older, rest)) = in_temp_stored s vs (length vs) p _ _ older (in_temp_stored s vs (suc (length vs)) v _ _ newest (no_value_kept s v vs (store t.unit.model kind p v s.world) (stores t.unit.model kind p v s.world)))

  -- ---- operations on a copy of the newest value

  pub copies_agree : (operation : Operation) (a : Act) (v : Scalar) (vs : List Scalar) (s : TemplateState) → IsActBehind operation a (length vs) → Holds (v ∷ vs) s.temps → SameReply s (suc (suc (length vs))) (op.perform t.unit operation (v ∷ (v ∷ vs)) s.world) (perform t a s)
  copies_agree _ _ v vs s (acts.binary_one _ sign kind) holds = in_temp s _ (length vs) v _ _ holds.0 (gives_one (v ∷ vs) s (binary sign kind v plain_one s.world) holds)
  copies_agree _ _ v vs s (acts.shift_one _ size back) holds = in_temp s _ (length vs) v _ _ holds.0 (gives_one (v ∷ vs) s (shift v plain_one size back s.world) holds)
  copies_agree _ _ v vs s (acts.convert _ old new) holds = in_temp s _ (length vs) v _ _ holds.0 (gives_one (v ∷ vs) s (convert new v s.world) holds)
