-- The entry's parameters get instances of their sizes.
use Rattle.std.proofs.Common.{◌≡◌, ◌≤◌, ◌+◌, ℕ, zero, suc, ℤ, int_le, Bool, true, false, ◌&&◌, List, [], ◌∷◌, length, Some, ap, ◌∙◌, sym, subst, arith, length-append}
use Rattle.std.specs.Prelude.{slice_get}
use Rattle.std.proofs.lemmas.Option.{same_Some}
use Rattle.cc_base.specs.IntegerTypes.{least_of, greatest_of}
use Rattle.cc_base.specs.declared.int_types.IntType.{IntType}
use Rattle.c_layout.specs.Types.{Ty, Int}
use Rattle.c_layout.specs.CheckedUnits.{LocalView, UnitView}
use Rattle.memory_model.specs.Memory.Labels.{input_labels}
use Rattle.memory_model.specs.Memory.Bytes.{Byte}
use Rattle.memory_model.specs.Memory.Instances.{automatic, Memory, bytes_at}
use Rattle.memory_model.specs.Memory.Scalars.{integer}
use Rattle.memory_model.specs.Effects.ObjectEffects.{fresh}
use Rattle.memory_model.specs.Effects.ScalarBytes.{scalar_bytes, refilled}
use Rattle.memory_model.specs.Effects.UnitStarts.{typed_bytes, input, with_parameter, with_parameters}
use Rattle.memory_model.specs.Effects.Worlds.{World, Reply, goes, stops, behind, done, drawn_in, drawn_from, drawn}
use Rattle.semantics.specs.SourceMachine.Operations.{size_of}
use Rattle.source_items.specs.Operations.GoingReplies.{NotStuck}
use Rattle.source_preservation.specs.ValueTyping.ProperMemory.{Evolves}
use Rattle.source_preservation.specs.ValueTyping.MarkLaws.{Comes}
use Rattle.source_preservation.specs.WellTyped.WellTypedStatements.{AreIntegers}
use Rattle.source_preservation.proofs.memory.Replies.{comes_when, drawn_keeps}
use Rattle.source_preservation.proofs.memory.ProperBytes.{AreProperBytes, refilled_long, refilled_proper, scalar_bytes_proper, blank_proper}
use Rattle.source_preservation.proofs.memory.Evolving.{evolves_same, evolves_further, with_instance_evolves, bytes_of_fresh}
use Rattle.source_preservation.proofs.initial_memory.StaticInstances.{typed_long}

comes_behind : {A B : Type 0} (P : A → World → Type 0) (Q : B → World → Type 0) (r : Reply A) (next : A → World → Reply B) → Comes P r → ((x : A) (w : World) → P x w → Comes Q (next x w)) → Comes Q (behind r next)
comes_behind P Q (goes x w) next h on = on x w h
comes_behind P Q (stops why w) next h on = h

draw_defined : (b : Bool) (n : ℤ) (w : World) → NotStuck (drawn_in b n w)
draw_defined true n w = tt
draw_defined false n w = tt

draws_defined : (w : World) (least most : ℤ) (ns : List ℤ) → NotStuck (drawn_from w least most ns)
draws_defined w least most [] = tt
draws_defined w least most (n ∷ ns) = draw_defined (int_le least n && int_le n most) n (record w { draws = ns })

-- memory behind the instances of parameters
pub record HasParameters (u : UnitView) (ls : List LocalView) (before after : World) : Type 0 where
  pub evolves : Evolves u.model before.memory after.memory
  pub room : (n : ℕ) (l : LocalView) → slice_get ls n ≡ Some l → size_of u l.ctype ≤ length (bytes_at after.memory (length before.memory + n))

module _ (u : UnitView) where
  -- one more instance, of the size of a type
  record HasOne (t : Ty) (before : Memory) (after : World) : Type 0 where
    evolves : Evolves u.model before after.memory
    long : length after.memory ≡ suc (length before)
    room : length (bytes_at after.memory (length before)) ≡ size_of u t

  abbrev made : IntType → ℤ → List Byte
  made kind n = refilled (typed_bytes u (Int kind)) 0 (scalar_bytes kind.bytes (integer n (input_labels kind)))

  input_has : (kind : IntType) (n : ℤ) (w : World) → HasOne (Int kind) w.memory (input u kind n w)
  input_has kind n w = record {
    evolves = with_instance_evolves u.model w (fresh automatic (made kind n)) (λ _. proper);
    long = let e = length-append w.memory (fresh automatic (made kind n) ∷ []) in omega (arith, e);
    room = ap length (bytes_of_fresh w.memory (fresh automatic (made kind n))) ∙ (refilled_long 0 (typed_bytes u (Int kind)) (scalar_bytes kind.bytes (integer n (input_labels kind))) ∙ typed_long u (Int kind));
  }
    where
      proper : AreProperBytes u.model (made kind n)
      proper = refilled_proper u.model (typed_bytes u (Int kind)) 0 (scalar_bytes kind.bytes (integer n (input_labels kind))) (blank_proper u.model _ 0 _) (scalar_bytes_proper u.model kind.bytes (integer n (input_labels kind)) tt)

  integer_comes : (kind : IntType) (w : World) → Comes (λ _ after. HasOne (Int kind) w.memory after) (with_parameter u (Int kind) w)
  integer_comes kind w =
      comes_behind (λ n after. after.memory ≡ w.memory) (λ _ after. HasOne (Int kind) w.memory after) (drawn w (least_of kind) (greatest_of kind)) (λ n w. done (input u kind n w))
      (comes_when (λ n after. after.memory ≡ w.memory) (drawn w (least_of kind) (greatest_of kind)) (draws_defined w (least_of kind) (greatest_of kind) w.draws) (drawn_keeps w (least_of kind) (greatest_of kind)))
      (λ n after same. subst (λ before. HasOne (Int kind) before (input u kind n after)) same (input_has kind n after))

  both_have : (l : LocalView) (ls : List LocalView) (w between after : World) → HasOne l.ctype w.memory between → HasParameters u ls between after → HasParameters u (l ∷ ls) w after
  both_have l ls w between after one more = record { evolves = evolves_further u.model w.memory between.memory after.memory one.evolves more.evolves; room = room }
    where
      room : (n : ℕ) (x : LocalView) → slice_get (l ∷ ls) n ≡ Some x → size_of u x.ctype ≤ length (bytes_at after.memory (length w.memory + n))
      room zero x is =
          let same : length w.memory ≡ length w.memory + 0 = omega arith in
          let here : size_of u l.ctype ≤ length (bytes_at after.memory (length w.memory)) = (let e = one.room in let g = more.evolves.grows (length w.memory) in omega (arith, e, g)) in
          subst (λ i. size_of u x.ctype ≤ length (bytes_at after.memory i)) same (subst (λ z. size_of u z.ctype ≤ length (bytes_at after.memory (length w.memory))) (same_Some l x is) here)
      room (suc n) x is =
          let e = one.long in
          let same : length between.memory + n ≡ length w.memory + suc n = omega (arith, e) in
          subst (λ i. size_of u x.ctype ≤ length (bytes_at after.memory i)) same (more.room n x is)

  none_there : (n : ℕ) (l : LocalView) → slice_get [] n ≡ Some l → ⊥
  none_there n l is = cc

  pub with_parameters_comes : (ls : List LocalView) (w : World) → AreIntegers u ls → Comes (λ _ after. HasParameters u ls w after) (with_parameters u ls w)
  with_parameters_comes [] w are = record { evolves = evolves_same u.model w.memory; room = λ n l is. absurd (none_there n l is) }
  with_parameters_comes (l ∷ ls) w are =
      comes_behind (λ _ after. HasOne l.ctype w.memory after) (λ _ after. HasParameters u (l ∷ ls) w after) (with_parameter u l.ctype w) (λ _ w. with_parameters u ls w)
      (subst (λ t. Comes (λ _ after. HasOne t w.memory after) (with_parameter u t w)) (sym are.0.1) (integer_comes are.0.0 w))
      (λ _ between one. comes_more between one (with_parameters u ls between) (with_parameters_comes ls between are.1))
    where
      comes_more : (between : World) → HasOne l.ctype w.memory between → (r : Reply (Unit {0})) → Comes (λ _ after. HasParameters u ls between after) r → Comes (λ _ after. HasParameters u (l ∷ ls) w after) r
      comes_more between one (goes x after) more = both_have l ls w between after one more
      comes_more between one (stops why after) more = more
