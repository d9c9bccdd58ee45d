-- Replies that give a value of a kind, or stop at a step that is defined.
use Rattle.std.proofs.Common.{ℤ, Bool, true, false, cond, List, [], ◌∷◌}
use Rattle.cc_base.specs.declared.diagnostics.Rule.{Rule}
use Rattle.memory_model.specs.Memory.Bytes.{MachinePointer}
use Rattle.memory_model.specs.Memory.Labels.{Labels}
use Rattle.memory_model.specs.Memory.Scalars.{Scalar, integer, pointer}
use Rattle.memory_model.specs.Effects.Worlds.{World, Reply, goes, stops, behind, unless, stopped_by, drawn_in, drawn_from, drawn}
use Rattle.memory_model.specs.Effects.Operands.{with_number, with_pointer, as_pointer}
use Rattle.source_items.specs.Operations.Kinds.{Number, Address, IsOf}
use Rattle.source_items.specs.Operations.GoingReplies.{IfGoes, IsDefined, NotStuck}

-- both at once: it holds of what a reply gives, and the run does not stop for want of a step
abbrev pub Answers : {A : Type 0} → (A → Type 0) → Reply A → Type 0
Answers P (goes x w) = P x
Answers P (stops why w) = IsDefined why

-- whatever it gives
abbrev pub Any : {A : Type 0} → A → Type 0
Any x = Unit {0}

pub gives_if : {A : Type 0} (P : A → Type 0) (r : Reply A) → Answers P r → IfGoes P r
gives_if P (goes x w) a = a
gives_if P (stops why w) a = tt

pub not_stuck : {A : Type 0} (P : A → Type 0) (r : Reply A) → Answers P r → NotStuck r
not_stuck P (goes x w) a = tt
not_stuck P (stops why w) a = a

module _ {A B : Type 0} (P : B → Type 0) where
  pub answers_behind : (Q : A → Type 0) (r : Reply A) (next : A → World → Reply B) → Answers Q r → ((x : A) (w : World) → Q x → Answers P (next x w)) → Answers P (behind r next)
  answers_behind Q (goes x w) next q h = h x w q
  answers_behind Q (stops why w) next q h = q

  pub then_any : (r : Reply A) (next : A → World → Reply B) → Answers Any r → ((x : A) (w : World) → Answers P (next x w)) → Answers P (behind r next)
  then_any (goes x w) next q h = h x w
  then_any (stops why w) next q h = q

module _ {A : Type 0} (P : A → Type 0) where
  pub either_answers : (b : Bool) (r s : Reply A) → Answers P r → Answers P s → Answers P (cond b r s)
  either_answers true r s one other = one
  either_answers false r s one other = other

  pub unless_answers : (w : World) (b : Bool) (rule : Rule) (r : Reply A) → Answers P r → Answers P (unless w b rule r)
  unless_answers w b rule r a = either_answers b (stopped_by w rule) r tt a

  pub number_answers : (v : Scalar) (w : World) (next : ℤ → Labels → World → Reply A) → IsOf Number v → ((n : ℤ) (l : Labels) → Answers P (next n l w)) → Answers P (with_number v w next)
  number_answers (integer n l) w next is h = h n l
  number_answers (pointer p) w next is h = absurd is

  pub pointer_answers : (v : Scalar) (w : World) (next : MachinePointer → World → Reply A) → IsOf Address v → ((p : MachinePointer) → Answers P (next p w)) → Answers P (with_pointer v w next)
  pointer_answers (integer n l) w next is h = absurd is
  pointer_answers (pointer p) w next is h = h p

pub as_pointer_answers : (r : Reply MachinePointer) → Answers Any r → Answers (IsOf Address) (as_pointer r)
as_pointer_answers (goes p w) a = tt
as_pointer_answers (stops why w) a = a

-- ---- numbers of the outside

draw_answers : (b : Bool) (n : ℤ) (w : World) → Answers Any (drawn_in b n w)
draw_answers true n w = tt
draw_answers false n w = tt

draws_answer : (w : World) (least most : ℤ) (ns : List ℤ) → Answers Any (drawn_from w least most ns)
draws_answer w least most [] = tt
draws_answer w least most (n ∷ ns) = draw_answers _ n _

pub drawn_answers : (w : World) (least most : ℤ) → Answers Any (drawn w least most)
drawn_answers w least most = draws_answer w least most w.draws
