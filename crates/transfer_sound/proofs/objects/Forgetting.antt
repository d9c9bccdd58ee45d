-- Objects that become indeterminate.
use Rattle.std.proofs.Common.{◌≡◌, ℕ, suc, ◌+◌, ◌<◌, ◌≤◌, true, false, Option, Some, None, List, [], ◌∷◌, length, drop, arith, subst, sym, refl, ap, ◌∙◌}
use Rattle.std.specs.Prelude.{slice_get, ℤ}
use Rattle.std.proofs.lemmas.Int.{ints}
use Rattle.std.proofs.lemmas.Option.{slice_get_within}
use Rattle.cc_base.specs.Lattices.{LatticeOf}
use Rattle.cc_base.specs.IntegerDomains.{IntegersOf, BoundLaws}
use Rattle.c_layout.specs.declared.leaf_lists.Leaf.{Leaf}
use Rattle.c_layout.specs.declared.shapes.BaseInfo.{BaseInfo}
use Rattle.c_layout.specs.declared.shapes.BaseKind.TheVariants.{Older}
use Rattle.c_layout.specs.declared.shapes.ZeroPart.{ZeroPart}
use Rattle.cfg.specs.WellFormed.{base_values, names_of, fits_operation}
use Rattle.cfg.specs.declared.machine_instructions.Operation.{Operation}
use Rattle.cfg.specs.declared.machine_instructions.Operation.TheVariants as op
use Rattle.cfg.specs.declared.programs.Flow.{Flow}
use Rattle.value_domain.specs.Strings.FirstZeros.{the_end}
use Rattle.value_domain.specs.Values.ValueTables.{blank_value}
use Rattle.value_domain.specs.declared.values.row_cells.Cell.{Cell}
use Rattle.store_cells.specs.FirstZeroWrites.{no_zero}
use Rattle.store_cells.specs.NearValues.{near_value}
use Rattle.store_objects.specs.ObjectLives.{blank_object, at_base, forget}
use Rattle.store_objects.specs.ObjectLengths.{forget_keeps}
use Rattle.store_cells.specs.RowPositions.{leaf_position, zero_position, cell_at, value_at, zero_at}
use Rattle.transfer_checks.specs.ViolationSets.{no_violations}
use Rattle.transfer_system.specs.Steps.{operate}
use Rattle.transfer_system.specs.StepViolations.{operation_violations}
use Rattle.memory_model.specs.Memory.Bytes.{indeterminate, Byte}
use Rattle.memory_model.specs.Memory.Instances.{Memory, bytes_at, byte_at}
use Rattle.memory_model.specs.Effects.ObjectEffects.{all_of, forgotten}
use Rattle.memory_model.specs.Effects.Touches.{set_bytes}
use Rattle.memory_model.specs.Effects.Worlds.{World}
use Rattle.semantics.specs.CfgMachine.FlowStates.{ProgramState}
use Rattle.store_sound.specs.Concretization.FirstZeroBytes.{first_zero}
use Rattle.store_sound.specs.Concretization.Matching.{number_in}
use Rattle.store_sound.specs.Concretization.ValueMeaning.{Naming, InGammaContent, InGammaZero}
use Rattle.store_sound.specs.Concretization.RowMeaning.{IsLiveOf, InGammaLeaf, InGamma, array_of, array_bytes}
use Rattle.store_sound.specs.Concretization.Coverage.{state_of}
use Rattle.store_sound.proofs.operations.Classes.{class_above}
use Rattle.store_sound.proofs.operations.Slices.{get_take, get_drop, get_there}
use Rattle.store_sound.specs.Programs.Premises.{HasPremises}
use Rattle.transfer_sound.specs.Values.SoundSteps.{IsReached, StepIsSound}
use Rattle.transfer_sound.proofs.values.NearScalars.{near_number_stands}
use Rattle.transfer_sound.proofs.values.PartSteps.{declared_storage}
use Rattle.transfer_sound.proofs.values.Replies.{if_some_good, clean_goes_good}
use Rattle.transfer_sound.specs.Objects.ObjectSteps.{IsForget}
use Rattle.transfer_sound.proofs.objects.Rewrites.{rewrite_sane}
use Rattle.transfer_sound.proofs.objects.ObjectRows.{object_stands}
use Rattle.transfer_sound.proofs.objects.BlankRows as blank
use Rattle.transfer_sound.proofs.objects.WholeObjects.{automatic_declared, automatic_storage, some_kind, named, alive, is_set, one_content, content_at, own_one, still_short}

abbrev pub AreBlank : List Byte → Type 0
AreBlank bytes = (o : ℕ) (b : Byte) → slice_get bytes o ≡ Some b → b.content ≡ indeterminate

pub blank_zero : (bytes : List Byte) → AreBlank bytes → first_zero bytes ≡ None
blank_zero [] h = refl
blank_zero (b ∷ bs) h = let e = h 0 b refl in rw e refl

pub part_blank : (size : Option ℕ) (offset : ℕ) (bytes : List Byte) → AreBlank bytes → AreBlank (array_of size (drop offset bytes))
part_blank None offset bytes h o b e = h (offset + o) b (sym (get_drop offset bytes o (offset + o) refl) ∙ e)
part_blank (Some n) offset bytes h o b e = let x = get_take n (drop offset bytes) o b e in h (offset + o) b (sym (get_drop offset bytes o (offset + o) refl) ∙ x.1)

module _ {I : Type 0} {l : LatticeOf I} {n : IntegersOf I} {gamma : I → ℤ → Type 0} (q : BoundLaws l n gamma) (flow : Flow) (p : HasPremises flow) (naming : Naming) (row : List (Cell I)) (s : ProgramState) (r : IsReached l n gamma flow naming row s)
    (b i : ℕ) (info : BaseInfo) (at : slice_get flow.bases.items b ≡ Some info) (entered : s.bases b ≡ Some i) (declared : info.shape.heap ≡ false) (kind : info.kind ≡ Older → ⊥) where
  abbrev new : Memory
  new = set_bytes s.world.memory i (all_of indeterminate (bytes_at s.world.memory i))

  all_blank : AreBlank (bytes_at new i)
  all_blank o x e = one_content q flow p naming row s r b i info at entered declared kind indeterminate o x e

  blank_at : (o : ℕ) (x : Byte) → byte_at new i o ≡ Some x → x.content ≡ indeterminate
  blank_at o x e = content_at q flow p naming row s r b i info at entered declared kind indeterminate o x e

  own_at : (k : ℕ) → IsLiveOf naming new b k → k ≡ i
  own_at k h = own_one q flow p naming row s r b i info at entered declared kind indeterminate k h

  abbrev after : List (Cell I)
  after = blank_object l n info row

  outside : (x : ℕ) → (info.first ≤ x → x < info.first + base_values info → ⊥) → cell_at after x ≡ cell_at row x
  outside x h = blank.outside flow p b info at declared l n row r.long x h

  -- ---- what the cells stand for

  own_leaves : (j : ℕ) (leaf : Leaf) → slice_get info.shape.cells j ≡ Some leaf → InGammaLeaf gamma flow naming new b leaf (value_at l n after (leaf_position info j))
  unfolding byte_at
  own_leaves j leaf e = subst (InGammaLeaf gamma flow naming new b leaf) (sym (blank.leaf_blank flow p b info at declared l n row r.long j (slice_get_within info.shape.cells j leaf e))) (record {
    whole = λ k o ns h place plain held.
        let own = own_at k h in
        let size = held.size in
        let above = class_above flow.model leaf.class in
        let y = get_there ns 0 (omega (arith, size, above)) in
        let m = held.each 0 y.0 (omega (arith, size, above)) y.1 in
        let one : Byte = record { content = number_in y.0; tag = m.tag } in
        let z : number_in y.0 ≡ indeterminate = blank_at (o + 0) one (subst (λ u. byte_at new u (o + 0) ≡ Some one) own m.here) in
        cc;
    byte = λ k o x content h owns y.
        let own = own_at k h in
        let one : Byte = record { content = content; tag = y.tag } in
        let z : content ≡ indeterminate = blank_at o one (subst (λ u. byte_at new u o ≡ Some one) own y.here) in
        subst (InGammaContent gamma naming new (near_value l n (blank_value l)) leaf.class) (sym z) refl;
  })

  own_zeros : (z : ℕ) (part : ZeroPart) → slice_get info.shape.zeros z ≡ Some part → InGammaZero gamma naming new (zero_at l n after (zero_position info z)) (array_bytes part (bytes_at new i))
  unfolding zero_at
  own_zeros z part e =
      let c = blank.zero_blank flow p b info at declared l n row r.long z (slice_get_within info.shape.zeros z part e) in
      let f = blank_zero (array_bytes part (bytes_at new i)) (part_blank part.size part.offset (bytes_at new i) all_blank) in
      rw (c, f) (near_number_stands q (no_zero n).at the_end (record { from = omega (arith, ints); to = omega (arith, ints) }) (q.one_stands the_end))

  pub forgotten_stands : InGamma l n gamma flow naming after (record { memory = new; temps = s.temps; entered = s.bases })
  forgotten_stands = object_stands flow p naming row (state_of s) r.stands_for b i info at (named q flow p naming row s r b i info at entered declared kind indeterminate) (alive q flow p naming row s r b i info at entered declared kind indeterminate) declared kind (is_set q flow p naming row s r b i info at entered declared kind indeterminate).rewrite
      (rewrite_sane flow.model flow.bases.items naming (is_set q flow p naming row s r b i info at entered declared kind indeterminate).rewrite r.stands_for.sane (λ o x e. let z = blank_at o x e in rw z (tt, tt)))
      after outside own_leaves own_zeros

module _ {I : Type 0} {l : LatticeOf I} {n : IntegersOf I} {gamma : I → ℤ → Type 0} (q : BoundLaws l n gamma) (flow : Flow) (p : HasPremises flow) (naming : Naming) (row : List (Cell I)) (s : ProgramState) (r : IsReached l n gamma flow naming row s) where
  pub forget_sound : (b : ℕ) → fits_operation (names_of flow) (op.Forget b) ≡ true → StepIsSound l n gamma flow row (op.Forget b) s
  unfolding operate forget operation_violations
  forget_sound b fits =
      let k = some_kind flow.bases.items b fits in
      let info : BaseInfo = k.0 in
      let declared : info.shape.heap ≡ false = sym (p.shaped.each b info k.1).kind ∙ declared_storage info.kind (automatic_storage info.kind k.2) in
      if_some_good l n gamma flow _ no_violations s r.begun (s.bases b) _ (λ i e. let w : World = forgotten i s.world in
      let now : ProgramState = record s { at = suc s.at; world = w } in
      clean_goes_good l n gamma flow _ _ now w r.begun (record {
        row = blank_object l n info row;
        is = ap (λ z. Some (at_base (blank_object l n) z row)) k.1;
        long = sym (ap (λ z. length (at_base (blank_object l n) z row)) k.1) ∙ (forget_length b ∙ r.long);
        naming = naming;
        stands_for = forgotten_stands q flow p naming row s r b i info k.1 e declared (automatic_declared info.kind k.2);
        short = still_short q flow p naming row s r b i info k.1 e declared (automatic_declared info.kind k.2) indeterminate;
      }))
    where
      forget_length : (b : ℕ) → length (at_base (blank_object l n) (slice_get flow.bases.items b) row) ≡ length row
      forget_length b = forget_keeps l n flow.bases.items b row

  pub forget_step_sound : (o : Operation) → IsForget o → fits_operation (names_of flow) o ≡ true → StepIsSound l n gamma flow row o s
  forget_step_sound (op.Forget b) is h = forget_sound b h
  forget_step_sound o is h = absurd is
