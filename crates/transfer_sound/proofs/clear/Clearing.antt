-- Objects whose bytes all become 0.
use Rattle.std.proofs.Common.{◌≡◌, ℕ, zero, suc, ◌+◌, ◌-◌, ◌*◌, ◌<◌, ◌≤◌, ◌^◌, Bool, true, false, Option, Some, None, List, [], ◌∷◌, length, drop, arith, subst, sym, refl, ap, ◌∙◌, inl, inr}
use Rattle.std.specs.Prelude.{slice_get, ℤ, pos, nat_lt}
use Rattle.std.specs.Option.{unwrap_or}
use Rattle.std.proofs.lemmas.Int.{ints}
use Rattle.std.proofs.lemmas.Bool.{cases_Bool, true≢false, lt-ltb}
use Rattle.std.proofs.lemmas.Nat.{pow-add}
use Rattle.std.proofs.lemmas.List.{length-take, length-drop, length-set}
use Rattle.std.proofs.lemmas.Option.{slice_get_within}
use Rattle.cc_base.specs.Lattices.{LatticeOf}
use Rattle.cc_base.specs.IntegerDomains.{IntegersOf, BoundLaws}
use Rattle.cc_base.specs.declared.limit_table.Limits.{Limits}
use Rattle.c_layout.specs.declared.leaf_lists.Class.{Class}
use Rattle.c_layout.specs.declared.leaf_lists.Leaf.{Leaf}
use Rattle.c_layout.specs.declared.shapes.BaseInfo.{BaseInfo}
use Rattle.c_layout.specs.declared.shapes.BaseKind.TheVariants.{Older}
use Rattle.c_layout.specs.declared.shapes.ZeroPart.{ZeroPart}
use Rattle.cfg.specs.BaseShapes.{size_or_none, part_size}
use Rattle.cfg.specs.WellFormed.{base_cells, base_values, names_of, fits_operation, is_well_formed}
use Rattle.cfg.specs.declared.machine_instructions.Operation.{Operation}
use Rattle.cfg.specs.declared.machine_instructions.Operation.TheVariants as op
use Rattle.cfg.specs.declared.programs.Flow.{Flow}
use Rattle.value_domain.specs.declared.values.row_cells.Cell.{Cell}
use Rattle.value_domain.specs.declared.values.row_cells.Cell.TheVariants.{Nothing, Value, First}
use Rattle.store_cells.specs.ClassNumbers.{is_pointer}
use Rattle.store_cells.specs.FirstZeroWrites.{zero_first, set_zeros}
use Rattle.store_cells.specs.NearValues.{near_value}
use Rattle.store_objects.specs.ObjectLives.{zero_value, clear_leaf, clear_leaves, clear_object, at_base, clear}
use Rattle.store_objects.specs.ObjectLengths.{clear_keeps}
use Rattle.store_cells.specs.RowPositions.{leaf_position, zero_position, cell_at, value_in, value_at, zero_at}
use Rattle.store_cells.specs.Walks.{walk}
use Rattle.transfer_checks.specs.ViolationSets.{no_violations}
use Rattle.transfer_system.specs.Steps.{operate}
use Rattle.transfer_system.specs.StepViolations.{operation_violations}
use Rattle.memory_model.specs.Memory.Labels.{no_labels}
use Rattle.memory_model.specs.Memory.Bytes.{Content, indeterminate, number, part, Byte}
use Rattle.memory_model.specs.Memory.Instances.{Memory, bytes_of, bytes_at, byte_at}
use Rattle.memory_model.specs.Memory.Numbers.{Labelled, unsigned_of, number_of}
use Rattle.memory_model.specs.Effects.ObjectEffects.{all_of, cleared}
use Rattle.memory_model.specs.Effects.Touches.{set_bytes}
use Rattle.memory_model.specs.Effects.Worlds.{World}
use Rattle.semantics.specs.CfgMachine.FlowStates.{ProgramState}
use Rattle.store_sound.specs.Concretization.FirstZeroBytes.{first_zero}
use Rattle.store_sound.specs.Concretization.Matching.{number_in}
use Rattle.store_sound.specs.Concretization.ValueMeaning.{Naming, InGammaContent, InGammaZero}
use Rattle.store_sound.specs.Concretization.RowMeaning.{IsLiveOf, InGammaLeaf, InGamma, array_of, array_bytes}
use Rattle.store_sound.specs.Concretization.Coverage.{state_of}
use Rattle.store_sound.proofs.operations.LoadSound.{instance_there}
use Rattle.store_sound.proofs.operations.Only.{cell_put}
use Rattle.store_sound.proofs.operations.Slices.{get_take, get_drop, get_set_other}
use Rattle.store_sound.proofs.operations.StoreRows.{leaf_is, zero_is}
use Rattle.store_sound.proofs.operations.Reading.{nil_unsigned}
use Rattle.store_sound.specs.Programs.Premises.{HasPremises}
use Rattle.transfer_sound.specs.Values.SoundSteps.{IsReached, StepIsSound}
use Rattle.transfer_sound.proofs.values.NearScalars.{near_number_stands}
use Rattle.transfer_sound.proofs.values.PartSteps.{declared_storage}
use Rattle.transfer_sound.proofs.values.Replies.{if_some_good, clean_goes_good}
use Rattle.transfer_sound.specs.Clear.ClearSteps.{IsClear}
use Rattle.transfer_sound.proofs.clear.FullParts.{IsFull, parts_full}
use Rattle.transfer_sound.proofs.objects.Rewrites.{rewrite_sane}
use Rattle.transfer_sound.proofs.objects.ObjectRows.{object_stands}
use Rattle.transfer_sound.proofs.objects.SetCells.{set_keeps, set_puts}
use Rattle.transfer_sound.proofs.objects.WholeObjects.{automatic_declared, automatic_storage, some_kind, named, alive, is_set, one_content, content_at, own_one, fits, cells_are, in_row, still_short}

-- ---- bytes that are all 0

abbrev nil : Content
nil = number 0 no_labels

pow_some : (n : ℕ) → 0 < 2 ^ n
pow_some zero = omega arith
pow_some (suc n) = let h = pow_some n in let e = pow-add 2 1 n in let f : 1 + n ≡ suc n = omega arith in subst (λ x. 0 < 2 ^ x) f (omega (arith, h, e))

nil_number : (signed : Bool) (ns : List Labelled) → unsigned_of ns ≡ 0 → number_of signed ns ≡ pos 0
nil_number true ns e = let h : nat_lt 0 (2 ^ (8 * length ns)) ≡ true = lt-ltb 0 (2 ^ (8 * length ns)) (pow_some (8 * length ns)) in rw (e, h) refl
nil_number false ns e = ap pos e

number_or : Content → ℕ
number_or indeterminate = 0
number_or (number k la) = k
number_or (part x k) = 0

number_is_nil : (x : Labelled) → number_in x ≡ nil → x.number ≡ 0
unfolding number_or
number_is_nil x e = ap number_or e

nil_zero : (bytes : List Byte) → 0 < length bytes → ((o : ℕ) (b : Byte) → slice_get bytes o ≡ Some b → b.content ≡ nil) → first_zero bytes ≡ Some 0
nil_zero [] some h = absurd (omega (arith, some))
nil_zero (b ∷ bs) some h = let e = h 0 b refl in rw e refl

array_nil : (size : Option ℕ) (offset : ℕ) (bytes : List Byte) → ((o : ℕ) (b : Byte) → slice_get bytes o ≡ Some b → b.content ≡ nil) → (o : ℕ) (b : Byte) → slice_get (array_of size (drop offset bytes)) o ≡ Some b → b.content ≡ nil
array_nil None offset bytes h o b e = h (offset + o) b (sym (get_drop offset bytes o (offset + o) refl) ∙ e)
array_nil (Some n) offset bytes h o b e = let x = get_take n (drop offset bytes) o b e in h (offset + o) b (sym (get_drop offset bytes o (offset + o) refl) ∙ x.1)

array_some : (zeros : ZeroPart) (bytes : List Byte) → 0 < part_size zeros → zeros.offset + part_size zeros ≤ length bytes → 0 < length (array_bytes zeros bytes)
array_some zeros bytes some inside = by_size zeros.size some inside
  where
    by_size : (size : Option ℕ) → 0 < size_or_none size → zeros.offset + size_or_none size ≤ length bytes → 0 < length (array_of size (drop zeros.offset bytes))
    by_size None f g = absurd (omega (arith, f))
    by_size (Some n) f g = let a = length-take n (drop zeros.offset bytes) in let b = length-drop zeros.offset bytes in omega (arith, a, b, f, g)

-- ---- the cells of leaves

module _ {I : Type 0} (l : LatticeOf I) (n : IntegersOf I) (info : BaseInfo) where
  leaves_long : (at : ℕ) (ks : List Leaf) (row : List (Cell I)) → length (walk (clear_leaf l n info) at ks row) ≡ length row
  leaves_long at [] row = refl
  leaves_long at (k ∷ ks) row = leaves_long (at + 1) ks (clear_leaf l n info k at row) ∙ length-set row (leaf_position info at) (Value (zero_value l n k.class))

  leaves_keep : (at : ℕ) (ks : List Leaf) (row : List (Cell I)) (x : ℕ) → ((j : ℕ) → j < length ks → leaf_position info (at + j) ≡ x → ⊥) → cell_at (walk (clear_leaf l n info) at ks row) x ≡ cell_at row x
  leaves_keep at [] row x h = refl
  leaves_keep at (k ∷ ks) row x h =
      let e : at + 0 ≡ at = omega arith in
      leaves_keep (at + 1) ks (clear_leaf l n info k at row) x (λ j small f. let g : at + 1 + j ≡ at + suc j = omega arith in h (suc j) (omega (arith, small)) (sym (ap (leaf_position info) g) ∙ f))
      ∙ ap (λ z. unwrap_or z Nothing) (get_set_other row (leaf_position info at) x (Value (zero_value l n k.class)) (λ f. h 0 (omega arith) (ap (leaf_position info) e ∙ sym f)))

  leaves_put : (at : ℕ) (ks : List Leaf) (row : List (Cell I)) → ((j : ℕ) → j < at + length ks → leaf_position info j ≡ info.first + j) → (j : ℕ) (leaf : Leaf) → slice_get ks j ≡ Some leaf → info.first + (at + j) < length row → cell_at (walk (clear_leaf l n info) at ks row) (leaf_position info (at + j)) ≡ Value (zero_value l n leaf.class)
  leaves_put at [] row is j leaf e small = cc
  leaves_put at (k ∷ ks) row is zero leaf e small =
      let same : k ≡ leaf = cc in
      let z : at + 0 ≡ at = omega arith in
      let here = is at (omega arith) in
      let keeps = leaves_keep (at + 1) ks (clear_leaf l n info k at row) (leaf_position info at) (λ j less f. let there = is (at + 1 + j) (omega (arith, less)) in omega (arith, there, here, f)) in
      subst (λ x. cell_at (walk (clear_leaf l n info) at (k ∷ ks) row) (leaf_position info x) ≡ Value (zero_value l n leaf.class)) (sym z)
      (keeps ∙ (cell_put row (leaf_position info at) (Value (zero_value l n k.class)) (omega (arith, here, small)) ∙ ap (λ x. Value (zero_value l n x.class)) same))
  leaves_put at (k ∷ ks) row is (suc j) leaf e small =
      let z : at + 1 + j ≡ at + suc j = omega arith in
      let long = length-set row (leaf_position info at) (Value (zero_value l n k.class)) in
      subst (λ x. cell_at (walk (clear_leaf l n info) at (k ∷ ks) row) (leaf_position info x) ≡ Value (zero_value l n leaf.class)) z
      (leaves_put (at + 1) ks (clear_leaf l n info k at row) (λ i less. is i (omega (arith, less))) j leaf e (omega (arith, small, long)))

-- ---- the object

module _ {I : Type 0} {l : LatticeOf I} {n : IntegersOf I} {gamma : I → ℤ → Type 0} (q : BoundLaws l n gamma) (flow : Flow) (p : HasPremises flow) (naming : Naming) (row : List (Cell I)) (s : ProgramState) (r : IsReached l n gamma flow naming row s)
    (b i : ℕ) (info : BaseInfo) (at : slice_get flow.bases.items b ≡ Some info) (entered : s.bases b ≡ Some i) (declared : info.shape.heap ≡ false) (kind : info.kind ≡ Older → ⊥)
    (full : (z : ℕ) (zeros : ZeroPart) → slice_get info.shape.zeros z ≡ Some zeros → IsFull info zeros) where
  abbrev new : Memory
  new = set_bytes s.world.memory i (all_of nil (bytes_at s.world.memory i))

  nil_bytes : (o : ℕ) (x : Byte) → slice_get (bytes_at new i) o ≡ Some x → x.content ≡ nil
  nil_bytes o x e = one_content q flow p naming row s r b i info at entered declared kind nil o x e

  nil_at : (o : ℕ) (x : Byte) → byte_at new i o ≡ Some x → x.content ≡ nil
  nil_at o x e = content_at q flow p naming row s r b i info at entered declared kind nil o x e

  own_at : (k : ℕ) → IsLiveOf naming new b k → k ≡ i
  own_at k h = own_one q flow p naming row s r b i info at entered declared kind nil k h

  size_is : length (bytes_at new i) ≡ info.size
  size_is =
      let x = instance_there s.world.memory i (alive q flow p naming row s r b i info at entered declared kind nil) in
      let k = r.stands_for.sane.instances i b info x.0 (named q flow p naming row s r b i info at entered declared kind nil) at x.1 in
      (is_set q flow p naming row s r b i info at entered declared kind nil).rewrite.alike.lengths i ∙ (ap (λ z. length (bytes_of z)) x.1 ∙ k.size declared)

  -- ---- the row

  abbrev values_row : List (Cell I)
  values_row = clear_leaves l n info row

  abbrev after : List (Cell I)
  after = clear_object l n info row

  fitting : info.first + base_values info ≤ 2 ^ 64 - 1
  fitting = fits q flow p naming row s r b i info at entered declared kind nil

  cells : base_cells info ≡ length info.shape.cells
  cells = cells_are q flow p naming row s r b i info at entered declared kind nil

  within : (x : ℕ) → x < info.first + base_values info → x < length row
  within x h = in_row q flow p naming row s r b i info at entered declared kind nil x h

  leaf_there : (j : ℕ) → j < length info.shape.cells → leaf_position info j ≡ info.first + j
  leaf_there j small = leaf_is info j fitting small

  outside : (x : ℕ) → (info.first ≤ x → x < info.first + base_values info → ⊥) → cell_at after x ≡ cell_at row x
  unfolding clear_object clear_leaves set_zeros
  outside x h =
      let d = cells in
      set_keeps (zero_position info) (First (zero_first n)) (length info.shape.zeros) values_row x (λ k small e. let f = zero_is info k fitting (omega (arith, small)) in h (omega (arith, e, f)) (omega (arith, e, f, small)))
      ∙ leaves_keep l n info 0 info.shape.cells row x (λ k small e. let f = leaf_there k small in h (omega (arith, e, f)) (omega (arith, e, f, small, d)))

  leaf_nil : (j : ℕ) (leaf : Leaf) → slice_get info.shape.cells j ≡ Some leaf → value_at l n after (leaf_position info j) ≡ near_value l n (zero_value l n leaf.class)
  unfolding clear_object clear_leaves set_zeros value_at
  leaf_nil j leaf e =
      let d = cells in
      let small = slice_get_within info.shape.cells j leaf e in
      let x = leaf_there j small in
      let keeps = set_keeps (zero_position info) (First (zero_first n)) (length info.shape.zeros) values_row (leaf_position info j) (λ k less f. let g = zero_is info k fitting (omega (arith, less)) in omega (arith, f, g, x, small, d)) in
      let same : 0 + j ≡ j = omega arith in
      let there = within (info.first + j) (omega (arith, small, d)) in
      let puts = subst (λ k. cell_at (walk (clear_leaf l n info) 0 info.shape.cells row) (leaf_position info k) ≡ Value (zero_value l n leaf.class)) same
      (leaves_put l n info 0 info.shape.cells row (λ k less. leaf_there k (omega (arith, less))) j leaf e (omega (arith, there))) in
      ap (λ z. near_value l n (value_in l z)) (keeps ∙ puts)

  zero_nil : (z : ℕ) → z < length info.shape.zeros → cell_at after (zero_position info z) ≡ First (zero_first n)
  unfolding clear_object clear_leaves set_zeros
  zero_nil z small =
      let x = zero_is info z fitting (omega (arith, small)) in
      let long = leaves_long l n info 0 info.shape.cells row in
      let here = within (zero_position info z) (omega (arith, x, small)) in
      set_puts (zero_position info) (First (zero_first n)) (length info.shape.zeros) values_row z small (omega (arith, long, here))

  -- ---- what the cells stand for

  leaf_whole : (leaf : Leaf) → is_pointer leaf.class ≡ false → gamma (near_value l n (zero_value l n leaf.class)).num (pos 0)
  leaf_whole leaf plain = rw plain (near_number_stands q (n.one (pos 0)) (pos 0) (record { from = omega (arith, ints); to = omega (arith, ints) }) (q.one_stands (pos 0)))

  leaf_byte : (class : Class) → InGammaContent gamma naming new (near_value l n (zero_value l n class)) class nil
  leaf_byte class = elim (cases_Bool (is_pointer class)) [
    | inl e ↦ rw e (refl, λ f. refl)
    | inr e ↦ rw e (refl, λ f. absurd (true≢false (sym f)))
  ]

  own_leaves : (j : ℕ) (leaf : Leaf) → slice_get info.shape.cells j ≡ Some leaf → InGammaLeaf gamma flow naming new b leaf (value_at l n after (leaf_position info j))
  unfolding byte_at
  own_leaves j leaf e = subst (InGammaLeaf gamma flow naming new b leaf) (sym (leaf_nil j leaf e)) (record {
    whole = λ k o ns h place plain held.
        let own = own_at k h in
        let none = nil_unsigned ns (λ x y f.
        let m = held.each x y (slice_get_within ns x y f) f in
        let one : Byte = record { content = number_in y; tag = m.tag } in
        number_is_nil y (nil_at (o + x) one (subst (λ u. byte_at new u (o + x) ≡ Some one) own m.here))) in
        subst (gamma (near_value l n (zero_value l n leaf.class)).num) (sym (nil_number leaf.signed ns none)) (leaf_whole leaf plain);
    byte = λ k o x content h owns y.
        let own = own_at k h in
        let one : Byte = record { content = content; tag = y.tag } in
        let z : content ≡ nil = nil_at o one (subst (λ u. byte_at new u o ≡ Some one) own y.here) in
        subst (InGammaContent gamma naming new (near_value l n (zero_value l n leaf.class)) leaf.class) (sym z) (leaf_byte leaf.class);
  })

  own_zeros : (z : ℕ) (zeros : ZeroPart) → slice_get info.shape.zeros z ≡ Some zeros → InGammaZero gamma naming new (zero_at l n after (zero_position info z)) (array_bytes zeros (bytes_at new i))
  unfolding zero_at
  own_zeros z zeros e =
      let c = zero_nil z (slice_get_within info.shape.zeros z zeros e) in
      let g = full z zeros e in
      let inside = g.inside in
      let total = size_is in
      let f = nil_zero (array_bytes zeros (bytes_at new i)) (array_some zeros (bytes_at new i) g.some (omega (arith, inside, total))) (array_nil zeros.size zeros.offset (bytes_at new i) nil_bytes) in
      rw (c, f) (near_number_stands q (zero_first n).at (pos 0) (record { from = omega (arith, ints); to = omega (arith, ints) }) (q.one_stands (pos 0)))

  pub cleared_stands : InGamma l n gamma flow naming after (record { memory = new; temps = s.temps; entered = s.bases })
  cleared_stands = object_stands flow p naming row (state_of s) r.stands_for b i info at (named q flow p naming row s r b i info at entered declared kind nil) (alive q flow p naming row s r b i info at entered declared kind nil) declared kind (is_set q flow p naming row s r b i info at entered declared kind nil).rewrite
      (rewrite_sane flow.model flow.bases.items naming (is_set q flow p naming row s r b i info at entered declared kind nil).rewrite r.stands_for.sane (λ o x e. let z = nil_at o x e in rw z (omega arith, tt)))
      after outside own_leaves own_zeros

module _ {I : Type 0} {l : LatticeOf I} {n : IntegersOf I} {gamma : I → ℤ → Type 0} (q : BoundLaws l n gamma) (flow : Flow) (p : HasPremises flow) (limits : Limits) (good : is_well_formed limits flow ≡ true) (naming : Naming) (row : List (Cell I)) (s : ProgramState) (r : IsReached l n gamma flow naming row s) where
  pub clear_sound : (b : ℕ) → fits_operation (names_of flow) (op.Clear b) ≡ true → StepIsSound l n gamma flow row (op.Clear b) s
  unfolding operate clear operation_violations
  clear_sound b fitted =
      let k = some_kind flow.bases.items b fitted in
      let info : BaseInfo = k.0 in
      let declared : info.shape.heap ≡ false = sym (p.shaped.each b info k.1).kind ∙ declared_storage info.kind (automatic_storage info.kind k.2) in
      let full = parts_full limits flow good b info k.1 declared in
      if_some_good l n gamma flow _ no_violations s r.begun (s.bases b) _ (λ i e. let w : World = cleared i s.world in
      let now : ProgramState = record s { at = suc s.at; world = w } in
      clean_goes_good l n gamma flow _ _ now w r.begun (record {
        row = clear_object l n info row;
        is = ap (λ z. Some (at_base (clear_object l n) z row)) k.1;
        long = sym (ap (λ z. length (at_base (clear_object l n) z row)) k.1) ∙ (clear_length b ∙ r.long);
        naming = naming;
        stands_for = cleared_stands q flow p naming row s r b i info k.1 e declared (automatic_declared info.kind k.2) full;
        short = still_short q flow p naming row s r b i info k.1 e declared (automatic_declared info.kind k.2) nil;
      }))
    where
      clear_length : (b : ℕ) → length (at_base (clear_object l n) (slice_get flow.bases.items b) row) ≡ length row
      clear_length b = clear_keeps l n flow.bases.items b row

  pub clear_step_sound : (o : Operation) → IsClear o → fits_operation (names_of flow) o ≡ true → StepIsSound l n gamma flow row o s
  clear_step_sound (op.Clear b) is h = clear_sound b h
  clear_step_sound o is h = absurd is
