-- The row behind an allocation, and the memory for which it stands.
use Rattle.std.proofs.Common.{◌≡◌, ℕ, suc, ◌+◌, ◌-◌, ◌^◌, ◌<◌, ◌≤◌, Bool, true, false, cond, ◌&&◌, Some, None, List, [], ◌∷◌, ◌++◌, length, drop, arith, subst, sym, refl, ap, ◌∙◌}
use Rattle.std.specs.Prelude.{slice_get, ℤ, pos, ◌≤ℤ◌, ◌-ℤ◌, is_some, map}
use Rattle.std.proofs.lemmas.Int.{ints}
use Rattle.std.proofs.lemmas.Bool.{and_from, lt-ltb}
use Rattle.std.proofs.lemmas.Option.{slice_get_within}
use Rattle.cc_base.specs.Lattices.{LatticeOf, OrderLaws}
use Rattle.cc_base.specs.IntegerDomains.{IntegersOf, BoundLaws}
use Rattle.c_layout.specs.declared.shapes.ZeroPart.{ZeroPart}
use Rattle.cfg.specs.WellFormed.{base_values}
use Rattle.cfg.specs.declared.programs.Flow.{Flow}
use Rattle.pointer_domain.specs.BaseFacts.{with_has_same}
use Rattle.pointer_domain.specs.BaseSets.{no_base, bases_with}
use Rattle.pointer_domain.specs.declared.pointer_sets.Pointers.{Pointers}
use Rattle.value_domain.specs.Values.ValueTables.{pointer_value, blank_value}
use Rattle.value_domain.specs.declared.values.values.Value as values
use Rattle.value_domain.specs.declared.values.row_cells.Cell.{Cell}
use Rattle.store_objects.specs.declared.allocation.Fresh.{Fresh}
use Rattle.store_objects.specs.declared.allocation.Fresh.TheVariants as fresh
use Rattle.c_layout.specs.declared.leaf_lists.Class.{Class}
use Rattle.store_cells.specs.AccessWindows.{last_offset}
use Rattle.store_objects.specs.Allocations.{site_of, renamed_cell, renamed_fresh, join_base, fresh_value, fresh_zero, make_fresh, free_old, replaced, renew_site, renew_found, renew, is_fresh, fresh_pointer, renewed_pointer}
use Rattle.store_cells.specs.ByteWrites.{null_pointer}
use Rattle.store_cells.specs.ClassNumbers.{class_at}
use Rattle.store_objects.specs.LiveBases.{most_bases}
use Rattle.store_cells.specs.NearValues.{near_number, near_value}
use Rattle.store_objects.specs.ObjectLives.{zero_value}
use Rattle.store_cells.specs.RowPositions.{zero_position, cell_at, zero_at, near_state}
use Rattle.memory_model.specs.Memory.Labels.{no_labels}
use Rattle.memory_model.specs.Memory.ScalarSizes.{class_bytes}
use Rattle.memory_model.specs.Memory.Bytes.{null, into, Content, indeterminate, number, Tag, Byte}
use Rattle.memory_model.specs.Memory.Instances.{Memory, allocated, live, bytes_at, byte_at, life_at}
use Rattle.memory_model.specs.Memory.Scalars.{pointer}
use Rattle.memory_model.specs.Effects.AllocationCalls.{untyped}
use Rattle.memory_model.specs.Effects.ObjectEffects as objects
use Rattle.store_sound.specs.Concretization.SoundMemory.{storage_for, IsContentIn, IsContentNamed}
use Rattle.store_sound.specs.Concretization.ValueMeaning.{Naming, InGammaInto, InGammaByLife, InGammaPointer, InGammaZero, InGammaState}
use Rattle.store_sound.specs.Concretization.RowMeaning.{MachineState, array_of, array_bytes, IsLiveOf, InGammaCell, InGammaLeaf, InGammaClass, InGamma}
use Rattle.store_sound.proofs.operations.TouchedRest.{near_stands}
use Rattle.store_sound.specs.Programs.Premises.{HasPremises}
use Rattle.library_sound.proofs.PutTemps.{IsResult}
use Rattle.library_sound.proofs.GrownMemory.{grows, naming_too, names_too}
use Rattle.memory_calls_sound.proofs.allocations.FreshCells.{untyped_long, untyped_byte, blank_cell, zero_cell, blank_zero, zeros_zero}
use Rattle.memory_calls_sound.proofs.allocations.FreshRows.{fresh_only, fresh_leaf_is, fresh_class_is, fresh_zero_is, fresh_state_is}
use Rattle.memory_calls_sound.proofs.allocations.GrownStates.{StandsFresh, grown_stands, own_at, own_bytes, own_life}
use Rattle.memory_calls_sound.proofs.allocations.RenamedNames.{renames}
use Rattle.memory_calls_sound.proofs.allocations.RenamedRows.{all_renamed, renamed_long, joined_only}
use Rattle.memory_calls_sound.proofs.allocations.RenamedStates.{none_now, renamed_stands}
use Rattle.memory_calls_sound.proofs.allocations.Sites.{IsSiteOf}

-- the bytes with which an instance begins
abbrev pub kind_of_bytes : {I : Type 0} → Bool → Fresh I
kind_of_bytes zeros = cond zeros fresh.Zero fresh.Blank

abbrev pub content_of_bytes : Bool → Content
content_of_bytes zeros = cond zeros (number 0 no_labels) indeterminate

plain_content : (memory : Memory) (naming : Naming) (zeros : Bool) (x : Byte) → x ≡ record { content = content_of_bytes zeros; tag = None } → IsContentIn memory x.content x.tag × IsContentNamed naming memory x.content
plain_content memory naming true x e = subst (λ z. IsContentIn memory z.content z.tag × IsContentNamed naming memory z.content) (sym e) (omega arith, tt)
plain_content memory naming false x e = subst (λ z. IsContentIn memory z.content z.tag × IsContentNamed naming memory z.content) (sym e) (tt, tt)

module _ {I : Type 0} {l : LatticeOf I} {n : IntegersOf I} {gamma : I → ℤ → Type 0} (o : OrderLaws l) (q : BoundLaws l n gamma) (flow : Flow) (p : HasPremises flow) (naming : Naming) (row : List (Cell I)) (state : MachineState) (long : length row ≡ flow.width) (s : InGamma l n gamma flow naming row state) (newest : ℕ) (t : IsSiteOf flow newest (newest + 1)) (size : I) (zeros : Bool) where
  abbrev start : List (Cell I)
  start = join_base l n t.new t.old (map (renamed_cell (site_of newest (newest + 1))) row)

  abbrev pub after : List (Cell I)
  after = make_fresh l n flow.model flow.bases.items t.new size (kind_of_bytes zeros) (join_base l n t.new t.old (map (renamed_cell (site_of newest (newest + 1))) row))

  none_freed : (z : Bool) (r : List (Cell I)) → free_old l n flow.bases.items (renamed_fresh (site_of newest (newest + 1)) (kind_of_bytes z)) (make_fresh l n flow.model flow.bases.items t.new size (renamed_fresh (site_of newest (newest + 1)) (kind_of_bytes z)) r) ≡ make_fresh l n flow.model flow.bases.items t.new size (kind_of_bytes z) r
  unfolding free_old
  none_freed true r = refl
  none_freed false r = refl

  -- what the analysis makes of the row
  pub renewed_is : renew l n flow.model flow.bases.items newest (newest + 1) size (kind_of_bytes zeros) row ≡ after
  unfolding renew renew_site replaced
  renewed_is =
      ap (λ z. renew_found l n flow.model flow.bases.items (site_of newest (newest + 1)) size (kind_of_bytes zeros) z (slice_get flow.bases.items (newest + 1)) row) t.new_there
      ∙ (ap (λ z. renew_found l n flow.model flow.bases.items (site_of newest (newest + 1)) size (kind_of_bytes zeros) (Some t.new) z row) t.old_there ∙ none_freed zeros start)

  start_long : length start ≡ length row
  start_long = (joined_only l n flow.model t.new t.old t.site).long (all_renamed l n newest (newest + 1) row) ∙ renamed_long l n newest (newest + 1) row

  pub after_long : length after ≡ length row
  after_long = (fresh_only l n flow.model flow.bases.items t.new t.heap (kind_of_bytes zeros) size).long start ∙ start_long

  outside : (x : ℕ) → (t.new.first ≤ x → x < t.new.first + base_values t.new → ⊥) → cell_at after x ≡ cell_at start x
  outside x h = (fresh_only l n flow.model flow.bases.items t.new t.heap (kind_of_bytes zeros) size).keeps start x h

  abbrev pub too : Naming
  too = renames naming newest (newest + 1)

  -- without an instance more
  pub nothing_stands : InGamma l n gamma flow too after state
  nothing_stands = renamed_stands o q flow p naming row state long s newest (newest + 1) t.new t.old t.new_there t.old_there t.site t.new_kind t.old_kind after outside

  none : (i : ℕ) → too i ≡ Some newest → ⊥
  none i e = none_now o q flow p naming row state long s newest (newest + 1) t.new t.old t.new_there t.old_there t.site t.new_kind t.old_kind i e

  new_small : newest < most_bases
  new_small = let k = slice_get_within flow.bases.items newest t.new t.new_there in let few = p.shaped.few in omega (arith, k, few)

  old_small : newest + 1 < most_bases
  old_small = let k = slice_get_within flow.bases.items (newest + 1) t.old t.old_there in let few = p.shaped.few in omega (arith, k, few)

  -- ---- the pointer

  abbrev pub given : Pointers I
  given = renewed_pointer l n flow.bases.items (site_of newest (newest + 1)) size

  given_is : given ≡ fresh_pointer l n (site_of newest (newest + 1)) size
  unfolding renewed_pointer
  given_is = ap (λ z. cond (is_some z && is_some (slice_get flow.bases.items (newest + 1))) (fresh_pointer l n (site_of newest (newest + 1)) size) (null_pointer l)) t.new_there ∙ ap (λ z. cond (is_some (Some t.new) && is_some z) (fresh_pointer l n (site_of newest (newest + 1)) size) (null_pointer l)) t.old_there

  -- null is one of the results
  pub null_stands : (memory : Memory) (names : Naming) → InGammaPointer gamma names memory given null
  unfolding fresh_pointer
  null_stands memory names = ap (λ z. z.null) given_is ∙ by_fresh (is_fresh n (site_of newest (newest + 1)) size)
    where
      by_fresh : (b : Bool) → (cond b (record { bases = bases_with no_base newest; lo = n.one (pos 0); rel = n.one (pos 0); len = size; part = false; null = true; ended = false }) (null_pointer l)).null ≡ true
      by_fresh true = refl
      by_fresh false = refl

  -- ---- with a fresh instance of so many bytes

  module _ (count : ℕ) (sized : gamma size (pos count)) (small : count ≤ last_offset) where
    abbrev bytes : List Byte
    bytes = untyped (content_of_bytes zeros) count

    bytes_long : length bytes ≡ count
    bytes_long = untyped_long (content_of_bytes zeros) count

    contents : (k : ℕ) (x : Byte) → slice_get bytes k ≡ Some x → IsContentIn state.memory x.content x.tag × IsContentNamed too state.memory x.content
    contents k x e = plain_content state.memory too zeros x (untyped_byte (content_of_bytes zeros) count k x e)

    tagged : (k : ℕ) (x : Byte) (tag : Tag) → slice_get bytes k ≡ Some x → x.tag ≡ Some tag → tag.at < class_bytes flow.model tag.class
    tagged k x tag e f = let g : None ≡ Some tag = sym (ap (λ z. z.tag) (untyped_byte (content_of_bytes zeros) count k x e)) ∙ f in cc

    bytes_small : length bytes ≤ last_offset
    bytes_small = let e = bytes_long in omega (arith, e, small)

    abbrev pub grown : Memory
    grown = state.memory ++ objects.fresh allocated (untyped (content_of_bytes zeros) count) ∷ []

    abbrev pub i : ℕ
    i = length state.memory

    abbrev pub named_too : Naming
    named_too = naming_too (renames naming newest (newest + 1)) (length state.memory) newest

    storage : storage_for t.new.kind ≡ allocated
    storage = ap storage_for t.new_kind

    all_bytes : bytes_at grown i ≡ bytes
    all_bytes = own_bytes flow too after state nothing_stands newest t.new t.new_there t.heap.heap storage none bytes bytes_small contents tagged

    each : (x : ℕ) (byte : Byte) → byte_at grown i x ≡ Some byte → byte.content ≡ content_of_bytes zeros
    unfolding byte_at
    each x byte e = ap (λ z. z.content) (untyped_byte (content_of_bytes zeros) count x byte (sym (ap (λ z. slice_get z x) all_bytes) ∙ e))

    sole : (j : ℕ) → IsLiveOf named_too grown newest j → j ≡ i
    sole j h = own_at flow too after state nothing_stands newest t.new t.new_there t.heap.heap storage none bytes bytes_small contents tagged j h

    -- ---- the cells

    abbrev cell_of : Bool → Class → values.Value I
    cell_of z class = cond z (zero_value l n class) (blank_value l)

    plain : (z : Bool) (class : Class) (signed : Bool) (r : List (Cell I)) → fresh_value l n flow.model flow.bases.items (kind_of_bytes z) (record { class = class; signed = signed }) r ≡ cell_of z class
    unfolding fresh_value
    plain true class signed r = refl
    plain false class signed r = refl

    bounded : (x : ℤ × ℤ) × (n.bounds size ≡ Some x) × (x.0 ≤ℤ pos count)
    bounded = let b = q.inside size (pos count) sized in ((b.0, b.1), b.2, b.3)

    long_enough : t.new.first + base_values t.new ≤ length start
    long_enough = let c = p.laid.laid.close newest t.new t.new_there in let k = p.laid.long in let e = start_long in omega (arith, c, k, e, long)

    cell_stands : (z : Bool) → zeros ≡ z → (class : Class) (signed : Bool) (Place Owns : ℕ → ℕ → Type 0) → InGammaCell gamma flow named_too grown newest class signed Place Owns (near_value l n (cell_of z class))
    cell_stands true e class signed Place Owns = zero_cell o q flow named_too grown newest i sole (content_of_bytes zeros) each class signed Place Owns (ap content_of_bytes e)
    cell_stands false e class signed Place Owns = blank_cell o q flow named_too grown newest i sole (content_of_bytes zeros) each class signed Place Owns (ap content_of_bytes e)

    size_word : count ≤ 2 ^ 64 - 1
    size_word = omega (arith, small)

    zero_by : (z : Bool) → InGammaZero gamma named_too grown (record { at = near_number l n (fresh_zero l n (kind_of_bytes z) bounded.0.0).at }) (untyped (content_of_bytes z) count)
    zero_by true = zeros_zero o q named_too grown count size_word bounded.0.0 bounded.2
    zero_by false = blank_zero o q named_too grown count size_word

    whole_part : (z : ℕ) (part : ZeroPart) → slice_get t.new.shape.zeros z ≡ Some part → array_bytes part bytes ≡ bytes
    whole_part z part e =
        let h = (p.laid.texts newest t.new t.new_there).heaps t.heap.heap z part e in
        ap (λ y. array_of y (drop part.offset bytes)) h.0 ∙ ap (λ y. drop y bytes) h.1

    own_cells : StandsFresh flow too after state nothing_stands newest t.new t.new_there t.heap.heap storage none bytes bytes_small contents tagged
    own_cells = record {
      leaves = λ j leaf e. subst (InGammaLeaf gamma flow named_too grown newest leaf) (sym (fresh_leaf_is l n flow.model flow.bases.items t.new t.heap (kind_of_bytes zeros) (cell_of zeros) (plain zeros) size bounded.0 bounded.1 start long_enough j leaf e))
          (cell_stands zeros refl leaf.class leaf.signed _ _);
      classes = λ c h. subst (InGammaClass gamma flow named_too grown newest t.new (class_at c)) (sym (fresh_class_is l n flow.model flow.bases.items t.new t.heap (kind_of_bytes zeros) (cell_of zeros) (plain zeros) size bounded.0 bounded.1 start long_enough c h))
          (cell_stands zeros refl (class_at c) true _ _);
      zeros = λ z part e.
          let few : z < 1 = subst (λ y. z < y) t.heap.zeros (slice_get_within t.new.shape.zeros z part e) in
          let first : z ≡ 0 = omega (arith, few) in
          subst (λ y. InGammaZero gamma named_too grown (zero_at l n after (zero_position t.new y)) (array_bytes part bytes)) (sym first)
          (subst (λ y. InGammaZero gamma named_too grown y (array_bytes part bytes)) (sym (fresh_zero_is l n flow.model flow.bases.items t.new t.heap (kind_of_bytes zeros) (cell_of zeros) (plain zeros) size bounded.0 bounded.1 start long_enough))
          (subst (InGammaZero gamma named_too grown (record { at = near_number l n (fresh_zero l n (kind_of_bytes zeros) bounded.0.0).at })) (sym (whole_part z part e)) (zero_by zeros)));
      state_is = subst (λ y. InGammaState gamma named_too grown y live (length bytes)) (sym (fresh_state_is l n flow.model flow.bases.items t.new t.heap (kind_of_bytes zeros) (cell_of zeros) (plain zeros) size bounded.0 bounded.1 start long_enough))
          (subst (λ y. InGammaState gamma named_too grown (near_state l n (record { size = size; live = true; freed = false })) live y) (sym bytes_long) (near_stands o q size (pos count) (omega (arith, ints)) (let w = size_word in omega (arith, ints, w)) sized, refl));
    }

    pub instance_stands : InGamma l n gamma flow named_too after (record { memory = grown; temps = state.temps; entered = state.entered })
    instance_stands = grown_stands flow too after state nothing_stands newest t.new t.new_there t.heap.heap storage none bytes bytes_small contents tagged own_cells

    -- ---- the pointer to it

    fresh_is : is_fresh n (site_of newest (newest + 1)) size ≡ true
    fresh_is = and_from _ _ (and_from _ _ (lt-ltb newest most_bases new_small) (lt-ltb (newest + 1) most_bases old_small)) (ap is_some bounded.1)

    pub pointer_is : given ≡ record { bases = bases_with no_base newest; lo = n.one (pos 0); rel = n.one (pos 0); len = size; part = false; null = true; ended = false }
    unfolding fresh_pointer
    pointer_is = given_is ∙ ap (λ z. cond z (record { bases = bases_with no_base newest; lo = n.one (pos 0); rel = n.one (pos 0); len = size; part = false; null = true; ended = false }) (null_pointer l)) fresh_is

    own_name : named_too i ≡ Some newest
    own_name = (names_too (renames naming newest (newest + 1)) (length state.memory) newest).own

    alive : life_at grown i ≡ live
    alive = own_life flow too after state nothing_stands newest t.new t.new_there t.heap.heap storage none bytes bytes_small contents tagged

    size_at : length (bytes_at grown i) ≡ count
    size_at = ap length all_bytes ∙ bytes_long

    stands_into : InGammaInto gamma named_too grown (record { bases = bases_with no_base newest; lo = n.one (pos 0); rel = n.one (pos 0); len = size; part = false; null = true; ended = false }) i 0 0 count
    stands_into = record {
      base = newest;
      named = own_name;
      among = with_has_same no_base newest;
      lower = q.one_stands (pos 0);
      relative = q.one_stands (pos 0);
      room = let e : pos count -ℤ pos 0 ≡ pos count = omega (arith, ints) in subst (gamma size) (sym e) sized;
      whole = λ e. (refl, sym size_at);
    }

    pub instance_result : IsResult q flow p named_too grown (pointer_value l given) (pointer (into i 0 0 count))
    instance_result = record {
      stands_for = subst (λ z. InGammaPointer gamma named_too grown z (into i 0 0 count)) (sym pointer_is) (subst (λ z. InGammaByLife gamma named_too grown (record { bases = bases_with no_base newest; lo = n.one (pos 0); rel = n.one (pos 0); len = size; part = false; null = true; ended = false }) z i 0 0 count) (sym alive) stands_into);
      near = tt;
      within = let e = size_at in record { made = let more = longer in omega (arith, more); above = omega arith; below = omega arith; within = omega (arith, e) };
    }
      where
        longer : length grown ≡ suc (length state.memory)
        longer = (grows state.memory (objects.fresh allocated bytes)).made
