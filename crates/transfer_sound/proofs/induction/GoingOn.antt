-- An instruction that goes on leads to the next one in its block.
use Rattle.std.proofs.Common.{◌≡◌, ℕ, suc, Option, Some, None, sym, refl, ap, ◌∙◌}
use Rattle.memory_model.specs.Memory.Bytes.{into}
use Rattle.memory_model.specs.Memory.Labels.{no_labels}
use Rattle.memory_model.specs.Memory.Scalars.{Scalar, integer, pointer}
use Rattle.memory_model.specs.Effects.IntegerEffects.{negation}
use Rattle.memory_model.specs.Effects.NumberedTables.{put_at, clear_at}
use Rattle.memory_model.specs.Effects.ObjectEffects.{next_instance, entered, left, forgotten, cleared, spelled}
use Rattle.memory_model.specs.Effects.Worlds.{World, Reply, goes, stops}
use Rattle.c_layout.specs.declared.shapes.BaseInfo.{BaseInfo}
use Rattle.std.specs.Prelude.{slice_get}
use Rattle.cfg.specs.WellFormed.{On, leads}
use Rattle.cfg.specs.declared.machine_instructions.Amount.{Amount}
use Rattle.cfg.specs.declared.machine_instructions.Amount.TheVariants as amount
use Rattle.cfg.specs.declared.machine_instructions.Operation.{Operation}
use Rattle.cfg.specs.declared.machine_instructions.Operation.TheVariants as op
use Rattle.lower_templates.specs.Worklist.Acts.{act}
use Rattle.lower_templates.specs.Views.ProgramViews.{FlowView}
use Rattle.semantics.specs.CfgMachine.FlowStates.{ProgramState, if_some, put, next, values_of, base_size}
use Rattle.semantics.specs.CfgMachine.FlowActs.{giving, making, keeping, storing, put_result, calling, with_amount, enter, entering, changing}
use Rattle.semantics.specs.CfgMachine.FlowSteps.{act_step}

pub record IsNext (s t : ProgramState) : Type 0 where
  pub block : t.block ≡ s.block
  pub at : t.at ≡ suc s.at

next_next : (s t : ProgramState) (w : World) → next s ≡ goes t w → IsNext s t
next_next s t w e =
    let now : ProgramState = record s { at = suc s.at } in
    let a : now ≡ t = cc in
    record { block = ap (λ z. z.block) (sym a); at = ap (λ z. z.at) (sym a) }

some_next : {A : Type 0} (s : ProgramState) (o : Option A) (use_it : A → Reply ProgramState) (t : ProgramState) (w : World) → if_some s o use_it ≡ goes t w → ((x : A) → use_it x ≡ goes t w → IsNext s t) → IsNext s t
some_next s None use_it t w e h = cc
some_next s (Some x) use_it t w e h = h x e

giving_next : (s : ProgramState) (to : ℕ) (reply : Reply Scalar) (t : ProgramState) (w : World) → giving s to reply ≡ goes t w → IsNext s t
giving_next s to (goes v u) t w e = let r = next_next (put s to v u) t w e in record { block = r.block; at = r.at }
giving_next s to (stops why u) t w e = cc

making_next : (s now : ProgramState) (u : World) (t : ProgramState) (w : World) → now.block ≡ s.block → now.at ≡ s.at → making now u ≡ goes t w → IsNext s t
making_next s now u t w b a e = let r = next_next (record now { world = u }) t w e in record { block = r.block ∙ b; at = r.at ∙ ap suc a }

keeping_next : (s now : ProgramState) (kept : Option (ℕ × ℕ)) (t : ProgramState) (w : World) → now.block ≡ s.block → now.at ≡ s.at → keeping now kept ≡ goes t w → IsNext s t
keeping_next s now None t w b a e = let r = next_next now t w e in record { block = r.block ∙ b; at = r.at ∙ ap suc a }
keeping_next s now (Some k) t w b a e =
    let r = some_next now (now.temps k.1) _ t w e (λ v h. let q = next_next (put now k.0 v now.world) t w h in record { block = q.block; at = q.at }) in
    record { block = r.block ∙ b; at = r.at ∙ ap suc a }

storing_next : (s : ProgramState) (kept : Option (ℕ × ℕ)) (reply : Reply Scalar) (t : ProgramState) (w : World) → storing s kept reply ≡ goes t w → IsNext s t
storing_next s kept (goes v u) t w e = keeping_next s (record s { world = u }) kept t w refl refl e
storing_next s kept (stops why u) t w e = cc

result_next : (s : ProgramState) (to : Option ℕ) (v : Option Scalar) (u : World) (t : ProgramState) (w : World) → put_result s to v u ≡ goes t w → IsNext s t
result_next s (Some to) (Some v) u t w e = let r = next_next (put s to v u) t w e in record { block = r.block; at = r.at }
result_next s None None u t w e = making_next s s u t w refl refl e
result_next s None (Some v) u t w e = cc
result_next s (Some to) None u t w e = cc

calling_next : (s : ProgramState) (to : Option ℕ) (reply : Reply (Option Scalar)) (t : ProgramState) (w : World) → calling s to reply ≡ goes t w → IsNext s t
calling_next s to (goes v u) t w e = result_next s to v u t w e
calling_next s to (stops why u) t w e = cc

amount_next : (s : ProgramState) (by : Amount) (use_it : Scalar → Reply ProgramState) (t : ProgramState) (w : World) → with_amount s by use_it ≡ goes t w → ((x : Scalar) → use_it x ≡ goes t w → IsNext s t) → IsNext s t
amount_next s (amount.Temp n) use_it t w e h = some_next s (s.temps n) use_it t w e h
amount_next s amount.One use_it t w e h = h _ e

enter_next : (f : FlowView) (s : ProgramState) (b : ℕ) (info : Option BaseInfo) (t : ProgramState) (w : World) → enter f s b info ≡ goes t w → IsNext s t
enter_next f s b None t w e = cc
enter_next f s b (Some info) t w e = making_next s (record s { bases = put_at s.bases b (next_instance s.world) }) (entered f.model info.shape.cells info.size s.world) t w refl refl e

entering_next : (f : FlowView) (s : ProgramState) (b : ℕ) (i : Option ℕ) (t : ProgramState) (w : World) → entering f s b i ≡ goes t w → IsNext s t
entering_next f s b None t w e = enter_next f s b (slice_get f.bases b) t w e
entering_next f s b (Some i) t w e = cc

changing_next : (s : ProgramState) (b : ℕ) (change : ℕ → World → World) (t : ProgramState) (w : World) → changing s b change ≡ goes t w → IsNext s t
changing_next s b change t w e = some_next s (s.bases b) _ t w e (λ i h. making_next s s (change i s.world) t w refl refl h)

pub go_on : (f : FlowView) (o : Operation) (s t : ProgramState) (w : World) → leads o ≡ On → act_step f (act o) s ≡ goes t w → IsNext s t
go_on f (op.Constant to z k) s t w g e = giving_next s to (goes (integer z no_labels) s.world) t w e
go_on f (op.Address to b offset) s t w g e = some_next s (s.bases b) _ t w e (λ i h. giving_next s to (goes (pointer (into i offset 0 (base_size f b))) s.world) t w h)
go_on f (op.Load to from k) s t w g e = some_next s (s.temps from) _ t w e (λ v h. giving_next s to _ t w h)
go_on f (op.Store to from k kept) s t w g e = some_next s (s.temps to) _ t w e (λ p h. some_next s (s.temps from) _ t w h (λ v i. storing_next s kept _ t w i))
go_on f (op.Copy to from index) s t w g e = some_next s (s.temps to) _ t w e (λ v h. some_next s (s.temps from) _ t w h (λ u i. giving_next s to _ t w i))
go_on f (op.Narrow to from offset size) s t w g e = some_next s (s.temps from) _ t w e (λ v h. giving_next s to _ t w h)
go_on f (op.Shift to from by size back) s t w g e = some_next s (s.temps from) _ t w e (λ v h. amount_next s by _ t w h (λ u i. giving_next s to _ t w i))
go_on f (op.Binary to o left right k) s t w g e = some_next s (s.temps left) _ t w e (λ v h. amount_next s right _ t w h (λ u i. giving_next s to _ t w i))
go_on f (op.Unary to o from k) s t w g e = some_next s (s.temps from) _ t w e (λ v h. giving_next s to _ t w h)
go_on f (op.Compare to rel left right) s t w g e = some_next s (s.temps left) _ t w e (λ v h. some_next s (s.temps right) _ t w h (λ u i. giving_next s to _ t w i))
go_on f (op.Not to from k) s t w g e = some_next s (s.temps from) _ t w e (λ v h. giving_next s to (negation v s.world) t w h)
go_on f (op.Difference to left right size) s t w g e = some_next s (s.temps left) _ t w e (λ v h. some_next s (s.temps right) _ t w h (λ u i. giving_next s to _ t w i))
go_on f (op.ComparePointers to rel left right) s t w g e = some_next s (s.temps left) _ t w e (λ v h. some_next s (s.temps right) _ t w h (λ u i. giving_next s to _ t w i))
go_on f (op.Convert to from old new) s t w g e = some_next s (s.temps from) _ t w e (λ v h. giving_next s to _ t w h)
go_on f (op.Library to function arguments newest size) s t w g e = some_next s (values_of s.temps arguments.items) _ t w e (λ vs h. calling_next s to _ t w h)
go_on f (op.Enter b) s t w g e = entering_next f s b (s.bases b) t w e
go_on f (op.Leave b) s t w g e = some_next s (s.bases b) _ t w e (λ i h. making_next s (record s { bases = clear_at s.bases b }) (left i s.world) t w refl refl h)
go_on f (op.Forget b) s t w g e = changing_next s b forgotten t w e
go_on f (op.Clear b) s t w g e = changing_next s b cleared t w e
go_on f (op.Spell b offset room text) s t w g e = changing_next s b (λ i u. spelled i offset room text u) t w e
go_on f op.Jump s t w g e = cc
go_on f (op.Branch n k) s t w g e = cc
go_on f (op.Switch n k) s t w g e = cc
go_on f (op.ReadLine to line count stream) s t w g e = cc
go_on f op.Stop s t w g e = cc
