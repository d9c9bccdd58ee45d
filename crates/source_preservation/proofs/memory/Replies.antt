-- Replies in turn, with what holds of what they give and of the world behind them.
use Rattle.std.proofs.Common.{◌≡◌, ℤ, int_le, Bool, true, false, cond, ◌&&◌, List, [], ◌∷◌, refl, subst}
use Rattle.cc_base.specs.declared.diagnostics.Rule.{Rule}
use Rattle.memory_model.specs.Memory.Labels.{Labels}
use Rattle.memory_model.specs.Memory.Bytes.{MachinePointer}
use Rattle.memory_model.specs.Memory.Instances.{Memory}
use Rattle.memory_model.specs.Memory.Scalars.{Scalar, integer, pointer}
use Rattle.memory_model.specs.Effects.Worlds.{World, Reply, goes, stops, behind, unless, stopped_by, drawn_in, drawn_from, drawn}
use Rattle.memory_model.specs.Effects.Operands.{with_number, with_pointer}
use Rattle.source_items.specs.Operations.GoingReplies.{NotStuck}
use Rattle.source_preservation.specs.ValueTyping.MarkLaws.{Comes}
use Rattle.source_preservation.specs.Memory.GoingWorlds.{WhenGoing, Keeps, Same}

-- where it is not stuck either
pub comes_when : {A : Type 0} (P : A → World → Type 0) (r : Reply A) → NotStuck r → WhenGoing P r → Comes P r
comes_when P (goes x w) defined h = h
comes_when P (stops why w) defined h = defined

pub when_more : {A : Type 0} (P Q : A → World → Type 0) (r : Reply A) → ((x : A) (w : World) → P x w → Q x w) → WhenGoing P r → WhenGoing Q r
when_more P Q (goes x w) more h = more x w h
when_more P Q (stops why w) more h = tt

pub when_behind : {A B : Type 0} (P : A → World → Type 0) (Q : B → World → Type 0) (r : Reply A) (next : A → World → Reply B) → WhenGoing P r → ((x : A) (w : World) → P x w → WhenGoing Q (next x w)) → WhenGoing Q (behind r next)
when_behind P Q (goes x w) next h on = on x w h
when_behind P Q (stops why w) next h on = tt

-- behind what keeps memory
pub when_kept : {A B : Type 0} (Q : Memory → B → World → Type 0) (before : Memory) (r : Reply A) (next : A → World → Reply B) → Keeps before r → ((x : A) (w : World) → WhenGoing (Q w.memory) (next x w)) → WhenGoing (Q before) (behind r next)
when_kept Q before (goes x w) next h on = subst (λ memory. WhenGoing (Q memory) (next x w)) h (on x w)
when_kept Q before (stops why w) next h on = tt

module _ {A : Type 0} (P : A → World → Type 0) where
  pub when_either : (b : Bool) (r s : Reply A) → WhenGoing P r → WhenGoing P s → WhenGoing P (cond b r s)
  when_either true r s one other = one
  when_either false r s one other = other

  pub when_where : (b : Bool) (r s : Reply A) → (b ≡ true → WhenGoing P r) → (b ≡ false → WhenGoing P s) → WhenGoing P (cond b r s)
  when_where true r s one other = one refl
  when_where false r s one other = other refl

  pub when_unless : (w : World) (b : Bool) (rule : Rule) (r : Reply A) → WhenGoing P r → WhenGoing P (unless w b rule r)
  when_unless w b rule r h = when_either b (stopped_by w rule) r tt h

  pub when_number : (v : Scalar) (w : World) (next : ℤ → Labels → World → Reply A) → ((n : ℤ) (l : Labels) → v ≡ integer n l → WhenGoing P (next n l w)) → WhenGoing P (with_number v w next)
  when_number (integer n l) w next h = h n l refl
  when_number (pointer p) w next h = tt

  pub when_pointer : (v : Scalar) (w : World) (next : MachinePointer → World → Reply A) → ((p : MachinePointer) → v ≡ pointer p → WhenGoing P (next p w)) → WhenGoing P (with_pointer v w next)
  when_pointer (integer n l) w next h = tt
  when_pointer (pointer p) w next h = h p refl

-- ---- numbers of the outside

-- a number is within its range
pub record IsDrawn (before : Memory) (least most n : ℤ) (w : World) : Type 0 where
  pub within : int_le least n && int_le n most ≡ true
  pub same : w.memory ≡ before

draw_when : (before : Memory) (least most n : ℤ) (b : Bool) (w : World) → w.memory ≡ before → int_le least n && int_le n most ≡ b → WhenGoing (IsDrawn before least most) (drawn_in b n w)
draw_when before least most n true w same is = record { within = is; same = same }
draw_when before least most n false w same is = tt

draws_when : (w : World) (least most : ℤ) (ns : List ℤ) → WhenGoing (IsDrawn w.memory least most) (drawn_from w least most ns)
draws_when w least most [] = tt
draws_when w least most (n ∷ ns) = draw_when w.memory least most n _ (record w { draws = ns }) refl refl

pub drawn_when : (w : World) (least most : ℤ) → WhenGoing (IsDrawn w.memory least most) (drawn w least most)
drawn_when w least most = draws_when w least most w.draws

pub drawn_keeps : (w : World) (least most : ℤ) → Keeps w.memory (drawn w least most)
drawn_keeps w least most = when_more (IsDrawn w.memory least most) (Same w.memory) (drawn w least most) (λ x after is. is.same) (drawn_when w least most)
