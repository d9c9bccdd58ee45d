-- A row in which the newest base of a site has become part of the older one stands for the same state under the new names.
use Rattle.std.proofs.Common.{◌≡◌, ℕ, ◌+◌, ◌-◌, ◌^◌, ◌<◌, ◌≤◌, Bool, true, false, cond, Some, List, length, drop, arith, subst, sym, refl, ap, ◌∙◌, inl, inr, ◌⊎◌}
use Rattle.std.specs.Prelude.{slice_get, ℤ, pos}
use Rattle.std.proofs.lemmas.Int.{ints}
use Rattle.std.proofs.lemmas.Bool.{cases_eq, or_left, or_right, true≢false}
use Rattle.std.proofs.lemmas.Option.{same_Some, slice_get_within}
use Rattle.cc_base.specs.Lattices.{LatticeOf, OrderLaws}
use Rattle.cc_base.specs.IntegerDomains.{IntegersOf, BoundLaws}
use Rattle.c_layout.specs.declared.leaf_lists.Class.{Class}
use Rattle.c_layout.specs.declared.leaf_lists.Leaf.{Leaf}
use Rattle.c_layout.specs.declared.shapes.BaseInfo.{BaseInfo}
use Rattle.c_layout.specs.declared.shapes.BaseKind.TheVariants.{Automatic, Newest, Older}
use Rattle.c_layout.specs.declared.shapes.ZeroPart.{ZeroPart}
use Rattle.cfg.specs.WellFormed.{base_values}
use Rattle.cfg.specs.declared.programs.Flow.{Flow}
use Rattle.value_domain.specs.Values.AllocStates.{state_lattice}
use Rattle.value_domain.specs.Values.Values.{value_lattice, value_order}
use Rattle.value_domain.specs.declared.values.alloc_states.AllocState.{AllocState}
use Rattle.value_domain.specs.declared.values.values.Value as values
use Rattle.value_domain.specs.declared.values.row_cells.Cell.{Cell}
use Rattle.store_objects.specs.Allocations.{join_base}
use Rattle.store_cells.specs.ClassNumbers.{class_at}
use Rattle.store_objects.specs.LiveBases.{most_bases}
use Rattle.store_cells.specs.NearValues.{near_number}
use Rattle.store_cells.specs.RowPositions.{leaf_position, class_position, zero_position, state_position, cell_at, value_at, zero_at, state_at, near_state}
use Rattle.transfer_checks.specs.Temporaries.{temp_position, temp_value}
use Rattle.memory_model.specs.Memory.Bytes.{Byte}
use Rattle.memory_model.specs.Memory.Instances.{Memory, Instance, Life, live, ended, freed, bytes_at, life_at}
use Rattle.memory_model.specs.Memory.Numbers.{number_of}
use Rattle.memory_model.specs.Memory.Scalars.{Scalar}
use Rattle.store_sound.specs.Concretization.FirstZeroBytes.{first_zero, zero_offset}
use Rattle.store_sound.specs.Concretization.SoundMemory.{storage_for, IsInstanceOf, IsMemoryOf}
use Rattle.store_sound.specs.Concretization.Places.{OwnedByClass, IsClassPlace}
use Rattle.store_sound.specs.Concretization.ValueMeaning.{Naming, InGammaContent, InGammaZero, InGammaState, InGammaScalar}
use Rattle.store_sound.specs.Concretization.RowMeaning.{MachineState, array_of, array_bytes, IsLiveOf, InGammaCell, InGammaLeaf, InGammaClass, InGamma}
use Rattle.store_sound.proofs.operations.Larger.{value_below, content_larger}
use Rattle.store_sound.proofs.operations.Near.{near_is, value_at_near, join_near}
use Rattle.store_sound.proofs.operations.Slices.{get_there}
use Rattle.store_sound.proofs.operations.StoreRows.{leaf_is, class_is, zero_is}
use Rattle.store_sound.proofs.operations.StoreValues.{same_value, same_zero, same_state, written}
use Rattle.store_sound.proofs.operations.StoreZeros.{zero_small, offset_near}
use Rattle.store_sound.proofs.operations.TouchedRest.{near_stands}
use Rattle.store_sound.specs.Programs.Premises.{HasPremises}
use Rattle.store_sound.proofs.regions.RegionArrays.{array_short}
use Rattle.memory_calls_sound.proofs.allocations.RenamedNames.{renames, name_stays, HadName, was_newest, was_same, had_name, had_some, none_newest, named_renames, content_named_renames, renamed_value, scalar_renames, content_renames}
use Rattle.memory_calls_sound.proofs.allocations.RenamedRows.{all_renamed, value_renames, zero_renames, state_renames, renamed_long, IsSite, same_count, new_at, old_at, old_size, joined_only, joined_value, joined_zero, joined_state}

newest_older : Newest ≡ Older → ⊥
newest_older e = cc

automatic_newest : Automatic ≡ Newest → ⊥
automatic_newest e = cc

automatic_older : Automatic ≡ Older → ⊥
automatic_older e = cc

module _ {I : Type 0} {l : LatticeOf I} {n : IntegersOf I} {gamma : I → ℤ → Type 0} (o : OrderLaws l) (q : BoundLaws l n gamma) (flow : Flow) (p : HasPremises flow) (naming : Naming) (row : List (Cell I)) (state : MachineState) (long : length row ≡ flow.width) (s : InGamma l n gamma flow naming row state)
    (newest older : ℕ) (new old : BaseInfo) (new_there : slice_get flow.bases.items newest ≡ Some new) (old_there : slice_get flow.bases.items older ≡ Some old) (site : IsSite new old) (new_kind : new.kind ≡ Newest) (old_kind : old.kind ≡ Older) where
  abbrev pub too : Naming
  too = renames naming newest older

  abbrev fresh_row : List (Cell I)
  fresh_row = all_renamed l n newest older row

  abbrev pub joined_row : List (Cell I)
  joined_row = join_base l n new old (all_renamed l n newest older row)

  newest_apart : newest ≡ older → ⊥
  newest_apart e = let same : new ≡ old = same_Some new old (sym new_there ∙ (ap (slice_get flow.bases.items) e ∙ old_there)) in newest_older (sym new_kind ∙ (ap (λ z. z.kind) same ∙ old_kind))

  new_small : newest < most_bases
  new_small = let k = slice_get_within flow.bases.items newest new new_there in let few = p.shaped.few in omega (arith, k, few)

  old_small : older < most_bases
  old_small = let k = slice_get_within flow.bases.items older old old_there in let few = p.shaped.few in omega (arith, k, few)

  each_small : (i b : ℕ) → naming i ≡ Some b → b < most_bases
  each_small i b e = let k = s.sane.few i b e in let few = p.shaped.few in omega (arith, k, few)

  abbrev memory : Memory
  memory = state.memory

  -- no instance is named by the newest base now
  pub none_now : (i : ℕ) → too i ≡ Some newest → ⊥
  none_now i e = none_newest naming newest older newest_apart i e

  -- an instance of another base had its name
  other_was : (i b : ℕ) → (b ≡ older → ⊥) → too i ≡ Some b → naming i ≡ Some b
  other_was i b ne e = by_had (had_name naming newest older i b e)
    where
      by_had : HadName naming newest older i b → naming i ≡ Some b
      by_had (was_newest f g) = absurd (ne g)
      by_had (was_same f g) = f

  other_live : (b i : ℕ) → (b ≡ older → ⊥) → IsLiveOf too memory b i → IsLiveOf naming memory b i
  other_live b i ne h = record { named = other_was i b ne h.named; alive = h.alive }

  -- one of the older base had that name or that of the newest one
  older_was : (i : ℕ) → too i ≡ Some older → (naming i ≡ Some older) ⊎ (naming i ≡ Some newest)
  older_was i e = by_had (had_name naming newest older i older e)
    where
      by_had : HadName naming newest older i older → (naming i ≡ Some older) ⊎ (naming i ≡ Some newest)
      by_had (was_newest f g) = inr f
      by_had (was_same f g) = inl f

  -- ---- memory

  same_new : (b : ℕ) (base : BaseInfo) → slice_get flow.bases.items b ≡ Some base → b ≡ newest → base ≡ new
  same_new b base e f = same_Some base new (sym e ∙ (ap (slice_get flow.bases.items) f ∙ new_there))

  same_old : (b : ℕ) (base : BaseInfo) → slice_get flow.bases.items b ≡ Some base → b ≡ older → base ≡ old
  same_old b base e f = same_Some base old (sym e ∙ (ap (slice_get flow.bases.items) f ∙ old_there))

  instance_by : (i b : ℕ) (base : BaseInfo) (it : Instance) → too i ≡ Some b → slice_get flow.bases.items b ≡ Some base → slice_get memory i ≡ Some it → IsInstanceOf flow.model base it
  instance_by i b base it f e g = by_had (had_name naming newest older i b f)
    where
      by_had : HadName naming newest older i b → IsInstanceOf flow.model base it
      by_had (was_same h ne) = s.sane.instances i b base it h e g
      by_had (was_newest h same) =
          let k : IsInstanceOf flow.model new it = s.sane.instances i newest new it h new_there g in
          let is : base ≡ old = same_old b base e same in
          subst (λ z. IsInstanceOf flow.model z it) (sym is) (record {
            storage = k.storage ∙ (ap storage_for new_kind ∙ sym (ap storage_for old_kind));
            size = λ h. absurd (true≢false (sym site.old_heap ∙ h));
            tags = λ h. absurd (true≢false (sym site.old_heap ∙ h));
          })

  one_by : (i j b : ℕ) (base : BaseInfo) → slice_get flow.bases.items b ≡ Some base → (base.kind ≡ Older → ⊥) → too i ≡ Some b → too j ≡ Some b → (life_at memory i ≡ ended → ⊥) → (life_at memory j ≡ ended → ⊥) → i ≡ j
  one_by i j b base e single f g h k =
      let ne : b ≡ older → ⊥ = λ same. single (ap (λ z. z.kind) (same_old b base e same) ∙ old_kind) in
      s.sane.one i j b base e single (other_was i b ne f) (other_was j b ne g) h k

  few_by : (i b : ℕ) → too i ≡ Some b → b < length flow.bases.items
  few_by i b f = by_had (had_name naming newest older i b f)
    where
      by_had : HadName naming newest older i b → b < length flow.bases.items
      by_had (was_newest h same) = subst (λ z. z < length flow.bases.items) (sym same) (slice_get_within flow.bases.items older old old_there)
      by_had (was_same h ne) = s.sane.few i b h

  sane_too : IsMemoryOf flow.model flow.bases.items too memory
  sane_too = record {
    one = one_by;
    few = few_by;
    made = λ i b f. let d = had_some naming newest older i b f in s.sane.made i d.0 d.1;
    instances = instance_by;
    freed_rightly = s.sane.freed_rightly;
    small = s.sane.small;
    bytes = s.sane.bytes;
    named = λ i b x byte f e. let d = had_some naming newest older i b f in content_named_renames naming newest older memory byte.content (s.sane.named i d.0 x byte d.1 e);
    tags = s.sane.tags;
  }

  -- ---- the objects that are entered

  heap_kind : (b : ℕ) (base : BaseInfo) → slice_get flow.bases.items b ≡ Some base → base.kind ≡ Automatic → (b ≡ newest → ⊥) × (b ≡ older → ⊥)
  heap_kind b base e kind = (
    λ f. automatic_newest (sym kind ∙ (ap (λ z. z.kind) (same_new b base e f) ∙ new_kind)),
    λ f. automatic_older (sym kind ∙ (ap (λ z. z.kind) (same_old b base e f) ∙ old_kind)),
  )

  entered_other : (b i : ℕ) → state.entered b ≡ Some i → b ≡ newest → ⊥
  entered_other b i e f = s.lives.objects b i new (ap (slice_get flow.bases.items) f ∙ new_there) e (ap storage_for new_kind)

  -- ---- cells

  module _ (after : List (Cell I)) (outside : (x : ℕ) → (new.first ≤ x → x < new.first + base_values new → ⊥) → cell_at after x ≡ cell_at joined_row x) where
    base_fits : (b : ℕ) (base : BaseInfo) → slice_get flow.bases.items b ≡ Some base → base.first + base_values base ≤ 2 ^ 64 - 1
    base_fits b base e = let c = p.laid.laid.close b base e in let k = p.laid.laid.small in omega (arith, c, k)

    base_long : (b : ℕ) (base : BaseInfo) → slice_get flow.bases.items b ≡ Some base → base.first + base_values base ≤ length fresh_row
    base_long b base e = let c = p.laid.laid.close b base e in let k = p.laid.long in let r = renamed_long l n newest older row in omega (arith, c, k, r, long)

    -- what stands for other bases
    elsewhere : (b x : ℕ) (base : BaseInfo) → slice_get flow.bases.items b ≡ Some base → (b ≡ newest → ⊥) → (b ≡ older → ⊥) → base.first ≤ x → x < base.first + base_values base → cell_at after x ≡ cell_at fresh_row x
    elsewhere b x base e not_new not_old from to =
        outside x (λ f g. elim (p.laid.laid.apart b newest base new e new_there not_new) [ inl h ↦ omega (arith, h, to, f) | inr h ↦ omega (arith, h, from, g) ])
        ∙ (joined_only l n flow.model new old site).keeps fresh_row x (λ f g. elim (p.laid.laid.apart b older base old e old_there not_old) [ inl h ↦ omega (arith, h, to, f) | inr h ↦ omega (arith, h, from, g) ])

    in_older : (x : ℕ) → old.first ≤ x → x < old.first + base_values old → cell_at after x ≡ cell_at joined_row x
    in_older x from to = outside x (λ f g. site.apart x f g from to)

    renamed_there : (x : ℕ) → cell_at after x ≡ cell_at fresh_row x → value_at l n after x ≡ renamed_value newest older (value_at l n row x)
    renamed_there x e = same_value l n fresh_row after x e ∙ value_renames l n newest older row x

    -- no instance has the name
    empty_cell : (class : Class) (signed : Bool) (Place Owns : ℕ → ℕ → Type 0) (v : values.Value I) → InGammaCell gamma flow too memory newest class signed Place Owns v
    empty_cell class signed Place Owns v = record { whole = λ i x ns h place plain held. absurd (none_now i h.named); byte = λ i x k c h owns m. absurd (none_now i h.named) }

    other_cell : (b : ℕ) (class : Class) (signed : Bool) (Place Owns : ℕ → ℕ → Type 0) (v : values.Value I) → (b ≡ older → ⊥) → InGammaCell gamma flow naming memory b class signed Place Owns v → InGammaCell gamma flow too memory b class signed Place Owns (renamed_value newest older v)
    other_cell b class signed Place Owns v ne cell = record {
      whole = λ i x ns h place plain held. cell.whole i x ns (other_live b i ne h) place plain held;
      byte = λ i x k c h owns m. content_renames gamma naming memory newest older new_small old_small each_small v class c (cell.byte i x k c (other_live b i ne h) owns m);
    }

    -- the cells of both bases of the site together
    both_cells : (class : Class) (signed : Bool) (Place Owns : ℕ → ℕ → Type 0) (x y : ℕ) → InGammaCell gamma flow naming memory older class signed Place Owns (value_at l n row x) → InGammaCell gamma flow naming memory newest class signed Place Owns (value_at l n row y)
        → InGammaCell gamma flow too memory older class signed Place Owns (written l n flow.model (value_at l n fresh_row x) (value_at l n fresh_row y) false)
    both_cells class signed Place Owns x y cell more =
        let a : values.Value I = value_at l n fresh_row x in
        let b : values.Value I = value_at l n fresh_row y in
        let left = value_below l a ((value_lattice l).join a b) ((value_order o).join_left a b) in
        let right = value_below l b ((value_lattice l).join a b) ((value_order o).join_right a b) in
        let is_a : a ≡ renamed_value newest older (value_at l n row x) = value_renames l n newest older row x in
        let is_b : b ≡ renamed_value newest older (value_at l n row y) = value_renames l n newest older row y in
        subst (InGammaCell gamma flow too memory older class signed Place Owns) (sym (near_is o q ((value_lattice l).join a b) (join_near o q a b (value_at_near o q fresh_row x) (value_at_near o q fresh_row y))))
        (record {
          whole = λ i z ns h place plain held. elim (older_was i h.named) [
            | inl e ↦ q.larger a.num ((value_lattice l).join a b).num (number_of signed ns) left.num (subst (λ t. gamma t.num (number_of signed ns)) (sym is_a) (cell.whole i z ns (record { named = e; alive = h.alive }) place plain held))
            | inr e ↦ q.larger b.num ((value_lattice l).join a b).num (number_of signed ns) right.num (subst (λ t. gamma t.num (number_of signed ns)) (sym is_b) (more.whole i z ns (record { named = e; alive = h.alive }) place plain held))
          ];
          byte = λ i z k c h owns m. elim (older_was i h.named) [
            | inl e ↦ content_larger q too memory a ((value_lattice l).join a b) class c left (subst (λ t. InGammaContent gamma too memory t class c) (sym is_a)
                (content_renames gamma naming memory newest older new_small old_small each_small (value_at l n row x) class c (cell.byte i z k c (record { named = e; alive = h.alive }) owns m)))
            | inr e ↦ content_larger q too memory b ((value_lattice l).join a b) class c right (subst (λ t. InGammaContent gamma too memory t class c) (sym is_b)
                (content_renames gamma naming memory newest older new_small old_small each_small (value_at l n row y) class c (more.byte i z k c (record { named = e; alive = h.alive }) owns m)))
          ];
        })

    leaf_by : (b j : ℕ) (base : BaseInfo) (leaf : Leaf) → slice_get flow.bases.items b ≡ Some base → slice_get base.shape.cells j ≡ Some leaf → InGammaLeaf gamma flow too memory b leaf (value_at l n after (leaf_position base j))
    leaf_by b j base leaf e f = elim (cases_eq b newest) [
      | inl same ↦ subst (λ z. InGammaLeaf gamma flow too memory z leaf (value_at l n after (leaf_position base j))) (sym same) (empty_cell leaf.class leaf.signed _ _ _)
      | inr not_new ↦ elim (cases_eq b older) [
        | inr not_old ↦ (let t = slice_get_within base.shape.cells j leaf f in
            let x = leaf_is base j (base_fits b base e) t in
            subst (InGammaLeaf gamma flow too memory b leaf) (sym (renamed_there (leaf_position base j) (elsewhere b (leaf_position base j) base e not_new not_old (omega (arith, x)) (omega (arith, x, t)))))
            (other_cell b leaf.class leaf.signed _ _ _ not_old (s.leaves b j base leaf e f)))
        | inl same ↦ (let is = same_old b base e same in
            let g : slice_get old.shape.cells j ≡ Some leaf = ap (λ z. slice_get z.shape.cells j) (sym is) ∙ f in
            subst (λ z. InGammaLeaf gamma flow too memory z leaf (value_at l n after (leaf_position base j))) (sym same)
            (subst (λ z. InGammaLeaf gamma flow too memory older leaf (value_at l n after (leaf_position z j))) (sym is) (own_leaf j leaf g)))
      ]
    ]
      where
        own_leaf : (j : ℕ) (leaf : Leaf) → slice_get old.shape.cells j ≡ Some leaf → InGammaLeaf gamma flow too memory older leaf (value_at l n after (leaf_position old j))
        own_leaf j leaf g =
            let t = slice_get_within old.shape.cells j leaf g in
            let same = same_count l n flow.model new old site in
            let x = old_at l n flow.model new old site j (omega (arith, t, same)) in
            let size = old_size l n flow.model new old site in
            subst (InGammaLeaf gamma flow too memory older leaf) (sym (same_value l n joined_row after (leaf_position old j) (in_older (leaf_position old j) (omega (arith, x)) (omega (arith, x, t, same, size))) ∙ joined_value l n flow.model new old site j (omega (arith, t, same)) fresh_row (base_long older old old_there)))
            (both_cells leaf.class leaf.signed _ _ (leaf_position old j) (leaf_position new j) (s.leaves older j old leaf old_there g) (s.leaves newest j new leaf new_there (ap (λ z. slice_get z j) site.cells ∙ g)))

    class_by : (b c : ℕ) (base : BaseInfo) → slice_get flow.bases.items b ≡ Some base → base.shape.heap ≡ true → c < 6 → InGammaClass gamma flow too memory b base (class_at c) (value_at l n after (class_position base c))
    class_by b c base e heap h = elim (cases_eq b newest) [
      | inl same ↦ subst (λ z. InGammaClass gamma flow too memory z base (class_at c) (value_at l n after (class_position base c))) (sym same) (empty_cell (class_at c) true _ _ _)
      | inr not_new ↦ elim (cases_eq b older) [
        | inr not_old ↦ (let six : cond {A = ℕ} base.shape.heap 6 0 ≡ 6 = rw heap refl in
            let x = class_is base c (base_fits b base e) (omega (arith, six, h)) in
            subst (InGammaClass gamma flow too memory b base (class_at c)) (sym (renamed_there (class_position base c) (elsewhere b (class_position base c) base e not_new not_old (omega (arith, x)) (omega (arith, x, six, h)))))
            (other_cell b (class_at c) true _ _ _ not_old (s.classes b c base e heap h)))
        | inl same ↦ (let is = same_old b base e same in
            subst (λ z. InGammaClass gamma flow too memory z base (class_at c) (value_at l n after (class_position base c))) (sym same)
            (subst (λ z. InGammaClass gamma flow too memory older z (class_at c) (value_at l n after (class_position z c))) (sym is) own_class))
      ]
    ]
      where
        own_class : InGammaClass gamma flow too memory older old (class_at c) (value_at l n after (class_position old c))
        own_class =
            let same = same_count l n flow.model new old site in
            let size = old_size l n flow.model new old site in
            let six : cond {A = ℕ} old.shape.heap 6 0 ≡ 6 = ap (λ z. cond {A = ℕ} z 6 0) site.old_heap in
            let other_six : cond {A = ℕ} new.shape.heap 6 0 ≡ 6 = ap (λ z. cond {A = ℕ} z 6 0) site.new_heap in
            let x = old_at l n flow.model new old site (length new.shape.cells + c) (omega (arith, h)) in
            let y = class_is old c site.old_fits (omega (arith, six, h)) in
            let z = class_is new c site.new_fits (omega (arith, other_six, h)) in
            let w = new_at l n flow.model new old site (length new.shape.cells + c) (omega (arith, h)) in
            let here : class_position old c ≡ leaf_position old (length new.shape.cells + c) = omega (arith, x, y, same) in
            let there : class_position new c ≡ leaf_position new (length new.shape.cells + c) = omega (arith, z, w) in
            subst (InGammaClass gamma flow too memory older old (class_at c)) (sym (ap (value_at l n after) here ∙ (same_value l n joined_row after (leaf_position old (length new.shape.cells + c)) (in_older (leaf_position old (length new.shape.cells + c)) (omega (arith, x)) (omega (arith, x, h, size))) ∙ joined_value l n flow.model new old site (length new.shape.cells + c) (omega (arith, h)) fresh_row (base_long older old old_there))))
            (both_cells (class_at c) true _ _ (leaf_position old (length new.shape.cells + c)) (leaf_position new (length new.shape.cells + c))
            (subst (λ t. InGammaClass gamma flow naming memory older old (class_at c) (value_at l n row t)) here (s.classes older c old old_there site.old_heap h))
            (subst (λ t. InGammaClass gamma flow naming memory newest old (class_at c) (value_at l n row t)) there
            (as_older (value_at l n row (class_position new c)) (s.classes newest c new new_there site.new_heap h))))
          where
            as_older : (v : values.Value I) → InGammaClass gamma flow naming memory newest new (class_at c) v → InGammaClass gamma flow naming memory newest old (class_at c) v
            as_older v h = subst (λ t. InGammaCell gamma flow naming memory newest (class_at c) true (IsClassPlace flow.model t (class_at c)) (OwnedByClass flow.model t (class_at c)) v) site.cells h

    -- ---- first zeros and states

    small_array : (part : ZeroPart) (i : ℕ) → length (array_bytes part (bytes_at memory i)) ≤ 2 ^ 64 - 1
    small_array part i = let a = array_short part (bytes_at memory i) in let c = s.sane.small i in omega (arith, a, c)

    -- one part of a heap base is all of an instance
    whole_part : (b z : ℕ) (base : BaseInfo) (part : ZeroPart) → slice_get flow.bases.items b ≡ Some base → base.shape.heap ≡ true → slice_get base.shape.zeros z ≡ Some part → (bytes : List Byte) → array_bytes part bytes ≡ bytes
    whole_part b z base part e heap f bytes =
        let t = (p.laid.texts b base e).heaps heap z part f in
        ap (λ y. array_of y (drop part.offset bytes)) t.0 ∙ ap (λ y. drop y bytes) t.1

    zero_by : (b z i : ℕ) (base : BaseInfo) (part : ZeroPart) → slice_get flow.bases.items b ≡ Some base → slice_get base.shape.zeros z ≡ Some part → IsLiveOf too memory b i → InGammaZero gamma too memory (zero_at l n after (zero_position base z)) (array_bytes part (bytes_at memory i))
    zero_by b z i base part e f h = elim (cases_eq b newest) [
      | inl same ↦ absurd (none_now i (h.named ∙ ap Some same))
      | inr not_new ↦ elim (cases_eq b older) [
        | inr not_old ↦ (let t = slice_get_within base.shape.zeros z part f in
            let x = zero_is base z (base_fits b base e) (omega (arith, t)) in
            subst (λ y. InGammaZero gamma too memory y (array_bytes part (bytes_at memory i))) (sym (same_zero l n fresh_row after (zero_position base z) (elsewhere b (zero_position base z) base e not_new not_old (omega (arith, x)) (omega (arith, x, t))) ∙ zero_renames l n newest older row (zero_position base z)))
            (s.zeros b z i base part e f (other_live b i not_old h)))
        | inl same ↦ (let is = same_old b base e same in
            let few : z < 1 = subst (λ y. z < y) (ap (λ y. length y.shape.zeros) is ∙ site.old_zeros) (slice_get_within base.shape.zeros z part f) in
            let first : z ≡ 0 = omega (arith, few) in
            subst (λ y. InGammaZero gamma too memory (zero_at l n after (zero_position base y)) (array_bytes part (bytes_at memory i))) (sym first)
            (subst (λ y. InGammaZero gamma too memory (zero_at l n after (zero_position y 0)) (array_bytes part (bytes_at memory i))) (sym is)
            (own_zero (ap (λ y. slice_get y.shape.zeros 0) (sym is) ∙ (ap (slice_get base.shape.zeros) (sym first) ∙ f)) (h.named ∙ ap Some same))))
      ]
    ]
      where
        was_zero : slice_get old.shape.zeros 0 ≡ Some part → too i ≡ Some older → gamma (l.join (zero_at l n row (zero_position old 0)).at (zero_at l n row (zero_position new 0)).at) (zero_offset (first_zero (array_bytes part (bytes_at memory i))))
        was_zero g named = elim (older_was i named) [
          | inl k ↦ q.larger _ _ _ (o.join_left (zero_at l n row (zero_position old 0)).at (zero_at l n row (zero_position new 0)).at) (s.zeros older 0 i old part old_there g (record { named = k; alive = h.alive }))
          | inr k ↦ (let other = get_there new.shape.zeros 0 (let zeros = site.new_zeros in omega (arith, zeros)) in
              let same : array_bytes other.0 (bytes_at memory i) ≡ array_bytes part (bytes_at memory i) = whole_part newest 0 new other.0 new_there site.new_heap other.1 (bytes_at memory i) ∙ sym (whole_part older 0 old part old_there site.old_heap g (bytes_at memory i)) in
              q.larger _ _ _ (o.join_right (zero_at l n row (zero_position old 0)).at (zero_at l n row (zero_position new 0)).at)
              (subst (λ y. gamma (zero_at l n row (zero_position new 0)).at (zero_offset (first_zero y))) same (s.zeros newest 0 i new other.0 new_there other.1 (record { named = k; alive = h.alive }))))
        ]

        own_zero : slice_get old.shape.zeros 0 ≡ Some part → too i ≡ Some older → InGammaZero gamma too memory (zero_at l n after (zero_position old 0)) (array_bytes part (bytes_at memory i))
        own_zero g named =
            let size = old_size l n flow.model new old site in
            let x = zero_is old 0 site.old_fits (omega arith) in
            let zeros = site.old_zeros in
            let small = small_array part i in
            let a = offset_near (first_zero (array_bytes part (bytes_at memory i))) (λ k e. let w = zero_small (array_bytes part (bytes_at memory i)) k e in omega (arith, w, small)) in
            let a0 = a.0 in
            let a1 = a.1 in
            let is = same_zero l n joined_row after (zero_position old 0) (in_older (zero_position old 0) (omega (arith, x)) (omega (arith, x, zeros))) ∙ (joined_zero l n flow.model new old site fresh_row (base_long older old old_there)
            ∙ (ap (λ y. record { at = near_number l n (l.join y.at (zero_at l n fresh_row (zero_position new 0)).at) }) (zero_renames l n newest older row (zero_position old 0)) ∙ ap (λ y. record { at = near_number l n (l.join (zero_at l n row (zero_position old 0)).at y.at) }) (zero_renames l n newest older row (zero_position new 0)))) in
            subst (λ y. InGammaZero gamma too memory y (array_bytes part (bytes_at memory i))) (sym is)
            (near_stands o q _ (zero_offset (first_zero (array_bytes part (bytes_at memory i)))) (omega (arith, ints, a0)) (omega (arith, ints, a1)) (was_zero g named))

    larger_state : (x y : AllocState I) (life : Life) (size : ℕ) → l.leq x.size y.size ≡ true → (x.live ≡ true → y.live ≡ true) → (x.freed ≡ true → y.freed ≡ true) → size ≤ 2 ^ 64 - 1 → InGammaState gamma naming memory x life size → InGammaState gamma too memory (near_state l n y) life size
    larger_state x y live size below f g small h = (near_stands o q y.size (pos size) (omega (arith, ints)) (omega (arith, ints, small)) (q.larger x.size y.size (pos size) below h.0), f h.1)
    larger_state x y ended size below f g small h = near_stands o q y.size (pos size) (omega (arith, ints)) (omega (arith, ints, small)) (q.larger x.size y.size (pos size) below h)
    larger_state x y freed size below f g small h = (near_stands o q y.size (pos size) (omega (arith, ints)) (omega (arith, ints, small)) (q.larger x.size y.size (pos size) below h.0), g h.1)

    same_too : (x : AllocState I) (life : Life) (size : ℕ) → InGammaState gamma naming memory x life size → InGammaState gamma too memory x life size
    same_too x live size h = h
    same_too x ended size h = h
    same_too x freed size h = h

    state_by : (b i : ℕ) (base : BaseInfo) → slice_get flow.bases.items b ≡ Some base → base.shape.heap ≡ true → too i ≡ Some b → InGammaState gamma too memory (state_at l n after (state_position base)) (life_at memory i) (length (bytes_at memory i))
    state_by b i base e heap named = elim (cases_eq b newest) [
      | inl same ↦ absurd (none_now i (named ∙ ap Some same))
      | inr not_new ↦ elim (cases_eq b older) [
        | inr not_old ↦ (let one : cond {A = ℕ} base.shape.heap 1 0 ≡ 1 = rw heap refl in
            let x = zero_is base (length base.shape.zeros) (base_fits b base e) (omega arith) in
            subst (λ y. InGammaState gamma too memory y (life_at memory i) (length (bytes_at memory i))) (sym (same_state l n fresh_row after (state_position base) (elsewhere b (state_position base) base e not_new not_old (omega (arith, x)) (omega (arith, x, one))) ∙ state_renames l n newest older row (state_position base)))
            (same_too (state_at l n row (state_position base)) (life_at memory i) (length (bytes_at memory i)) (s.states b i base e heap (other_was i b not_old named))))
        | inl same ↦ subst (λ y. InGammaState gamma too memory (state_at l n after (state_position y)) (life_at memory i) (length (bytes_at memory i))) (sym (same_old b base e same)) (own_state (named ∙ ap Some same))
      ]
    ]
      where
        own_state : too i ≡ Some older → InGammaState gamma too memory (state_at l n after (state_position old)) (life_at memory i) (length (bytes_at memory i))
        own_state here =
            let x = zero_is old (length old.shape.zeros) site.old_fits (omega arith) in
            let one : cond {A = ℕ} old.shape.heap 1 0 ≡ 1 = ap (λ z. cond {A = ℕ} z 1 0) site.old_heap in
            let small = s.sane.small i in
            let a : AllocState I = state_at l n row (state_position old) in
            let c : AllocState I = state_at l n row (state_position new) in
            let is = same_state l n joined_row after (state_position old) (in_older (state_position old) (omega (arith, x)) (omega (arith, x, one))) ∙ (joined_state l n flow.model new old site fresh_row (base_long older old old_there)
            ∙ (ap (λ y. near_state l n ((state_lattice l).join y (state_at l n fresh_row (state_position new)))) (state_renames l n newest older row (state_position old)) ∙ ap (λ y. near_state l n ((state_lattice l).join a y)) (state_renames l n newest older row (state_position new)))) in
            subst (λ y. InGammaState gamma too memory y (life_at memory i) (length (bytes_at memory i))) (sym is) (elim (older_was i here) [
              | inl k ↦ larger_state a ((state_lattice l).join a c) (life_at memory i) (length (bytes_at memory i)) (o.join_left a.size c.size) (λ e. or_left a.live c.live e) (λ e. or_left a.freed c.freed e) (omega (arith, small)) (s.states older i old old_there site.old_heap k)
              | inr k ↦ larger_state c ((state_lattice l).join a c) (life_at memory i) (length (bytes_at memory i)) (o.join_right a.size c.size) (λ e. or_right a.live c.live e) (λ e. or_right a.freed c.freed e) (omega (arith, small)) (s.states newest i new new_there site.new_heap k)
            ])

    -- ---- temporaries

    temp_by : (t : ℕ) (scalar : Scalar) → state.temps t ≡ Some scalar → InGammaScalar gamma too memory (temp_value l n flow after t) scalar
    temp_by t scalar e =
        let far = p.laid.temporaries in
        let k = p.laid.laid.small in
        let a = p.laid.laid.close newest new new_there in
        let c = p.laid.laid.close older old old_there in
        let same : cell_at after (temp_position flow t) ≡ cell_at fresh_row (temp_position flow t) = outside (temp_position flow t) (λ f g. omega (arith, far, k, a, g)) ∙ (joined_only l n flow.model new old site).keeps fresh_row (temp_position flow t) (λ f g. omega (arith, far, k, c, g)) in
        subst (λ y. InGammaScalar gamma too memory y scalar) (sym (renamed_there (temp_position flow t) same)) (scalar_renames gamma naming memory newest older new_small old_small each_small (temp_value l n flow row t) scalar (s.temps t scalar e))

    pub renamed_stands : InGamma l n gamma flow too after state
    renamed_stands = record {
      sane = sane_too;
      held = record { within = s.held.within; named = λ t x e. named_renames naming newest older memory x (s.held.named t x e) };
      lives = record {
        sole = λ b i base e kind named alive. s.lives.sole b i base e kind (other_was i b (heap_kind b base e kind).1 named) alive;
        alive = s.lives.alive;
        named = λ b i e. name_stays naming newest older i b (s.lives.named b i e) (entered_other b i e);
        objects = s.lives.objects;
      };
      leaves = leaf_by;
      classes = class_by;
      zeros = zero_by;
      states = state_by;
      temps = temp_by;
    }
