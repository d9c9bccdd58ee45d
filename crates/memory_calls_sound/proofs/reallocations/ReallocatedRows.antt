-- The row behind a reallocation, and the memory for which it stands.
use Rattle.std.proofs.Common.{◌≡◌, ℕ, suc, ◌+◌, ◌-◌, ◌^◌, ◌<◌, ◌≤◌, Bool, true, false, cond, ◌&&◌, Option, Some, None, List, [], ◌∷◌, ◌++◌, length, drop, arith, subst, sym, refl, ap, ◌∙◌, inl, inr, ◌⊎◌}
use Rattle.std.specs.Prelude.{slice_get, ℤ, pos, ◌≤ℤ◌, ◌-ℤ◌, is_some, map}
use Rattle.std.proofs.lemmas.Int.{ints}
use Rattle.std.proofs.lemmas.Bool.{and_from, cases_eq, lt-ltb}
use Rattle.std.proofs.lemmas.Option.{same_Some, slice_get_within}
use Rattle.cc_base.specs.Lattices.{LatticeOf, OrderLaws}
use Rattle.cc_base.specs.IntegerDomains.{IntegersOf, BoundLaws, RangeLaws}
use Rattle.cc_base.specs.IntegerLaws.{SoundLaws}
use Rattle.c_layout.specs.declared.leaf_lists.Class.{Class}
use Rattle.c_layout.specs.declared.leaf_lists.Leaf.{Leaf}
use Rattle.c_layout.specs.declared.shapes.BaseInfo.{BaseInfo}
use Rattle.c_layout.specs.declared.shapes.ZeroPart.{ZeroPart}
use Rattle.cfg.specs.WellFormed.{base_values, base_cells}
use Rattle.cfg.specs.declared.programs.Flow.{Flow}
use Rattle.pointer_domain.specs.BaseFacts.{with_has_same}
use Rattle.pointer_domain.specs.BaseSets.{no_base, bases_with}
use Rattle.pointer_domain.specs.declared.base_sets.Bases.{Bases}
use Rattle.pointer_domain.specs.declared.pointer_sets.Pointers.{Pointers}
use Rattle.value_domain.specs.Values.Values.{value_lattice, value_order}
use Rattle.value_domain.specs.Values.ValueTables.{pointer_value, blank_value}
use Rattle.value_domain.specs.declared.values.values.Value as values
use Rattle.value_domain.specs.declared.values.row_cells.Cell.{Cell}
use Rattle.value_domain.specs.declared.values.row_cells.Cell.TheVariants.{State}
use Rattle.store_objects.specs.declared.allocation.Fresh.TheVariants as fresh
use Rattle.store_cells.specs.AccessWindows.{last_offset}
use Rattle.store_objects.specs.Allocations.{site_of, renamed, renamed_cell, join_base, old_value, fresh_value, make_fresh, free_old, replaced, renew_site, renew_found, renew, is_fresh, fresh_pointer, renewed_pointer}
use Rattle.store_cells.specs.ByteWrites.{null_pointer}
use Rattle.store_cells.specs.ClassNumbers.{class_at, is_pointer}
use Rattle.store_cells.specs.FirstZeroWrites.{any_zero}
use Rattle.store_objects.specs.Freeing.{freed_state, is_heap_in, free_bases}
use Rattle.store_objects.specs.LiveBases.{most_bases}
use Rattle.store_cells.specs.NearValues.{near_number, near_value}
use Rattle.store_cells.specs.RowPositions.{leaf_position, class_position, zero_position, state_position, state_in, cell_at, value_at, zero_at, state_at, near_state}
use Rattle.memory_model.specs.Memory.ScalarSizes.{class_bytes}
use Rattle.memory_model.specs.Memory.Bytes.{null, into, Content, indeterminate, Tag, Byte}
use Rattle.memory_model.specs.Memory.Instances.{Memory, allocated, live, bytes_at, byte_at, life_at}
use Rattle.memory_model.specs.Memory.Numbers.{Labelled, number_of}
use Rattle.memory_model.specs.Memory.Scalars.{pointer}
use Rattle.memory_model.specs.Effects.ObjectEffects as objects
use Rattle.semantics.specs.CfgMachine.FlowStates.{ProgramState}
use Rattle.store_sound.specs.Concretization.FirstZeroBytes.{first_zero, zero_offset}
use Rattle.store_sound.specs.Concretization.Matching.{Matched, number_in, Holds}
use Rattle.store_sound.specs.Concretization.SoundMemory.{storage_for, IsContentIn, IsContentNamed}
use Rattle.store_sound.specs.Concretization.ValueMeaning.{Naming, InGammaInto, InGammaByLife, InGammaPointer, InGammaContent, InGammaZero, InGammaState}
use Rattle.store_sound.specs.Concretization.RowMeaning.{array_of, array_bytes, IsLiveOf, InGammaCell, InGammaLeaf, InGammaClass, InGamma}
use Rattle.store_sound.specs.Concretization.Coverage.{state_of}
use Rattle.store_sound.proofs.operations.Classes.{class_above}
use Rattle.store_sound.proofs.operations.Larger.{value_below, content_larger}
use Rattle.store_sound.proofs.operations.Near.{near_is, join_near}
use Rattle.store_sound.proofs.operations.Only.{Only}
use Rattle.store_sound.proofs.operations.Slices.{get_there}
use Rattle.store_sound.proofs.operations.StoreRows.{leaf_is, class_is, zero_is}
use Rattle.store_sound.proofs.operations.StoreValues.{same_value, same_zero}
use Rattle.store_sound.proofs.operations.StoreZeros.{zero_small, offset_near}
use Rattle.store_sound.proofs.operations.TouchedRest.{near_stands}
use Rattle.store_sound.specs.Programs.Premises.{HasPremises}
use Rattle.store_sound.proofs.regions.RegionArrays.{any_zero_stands}
use Rattle.library_sound.specs.SoundSteps.{IsReached}
use Rattle.library_sound.proofs.PutTemps.{IsResult}
use Rattle.library_sound.proofs.GrownMemory.{grows, naming_too, names_too, content_grows}
use Rattle.memory_calls_sound.proofs.frees.FreedCells.{free_keeps_cell, free_frees}
use Rattle.memory_calls_sound.proofs.frees.FreedRows.{IsFreeing, freed_stands}
use Rattle.memory_calls_sound.proofs.frees.ReleasedMemory.{byte_was, content_stays}
use Rattle.memory_calls_sound.proofs.allocations.FreshRows.{fresh_only}
use Rattle.memory_calls_sound.proofs.allocations.GrownStates.{StandsFresh, grown_stands, own_at, own_bytes, own_life}
use Rattle.memory_calls_sound.proofs.allocations.RenamedNames.{renames}
use Rattle.memory_calls_sound.proofs.allocations.RenamedRows.{all_renamed, renamed_long, joined_only}
use Rattle.memory_calls_sound.proofs.allocations.RenamedStates.{none_now, renamed_stands}
use Rattle.memory_calls_sound.proofs.allocations.Sites.{IsSiteOf}
use Rattle.memory_calls_sound.proofs.reallocations.OldInstances.{IsOldInstance, old_number, old_content}
use Rattle.memory_calls_sound.proofs.reallocations.OldRows.{IsGiven, old_leaf_is, old_class_is, old_zero_is, old_state_is}
use Rattle.memory_calls_sound.proofs.reallocations.OldValues.{blank_near, old_near}
use Rattle.memory_calls_sound.proofs.reallocations.Resized.{blank_byte}

-- where the bytes of the fresh instance come from: from nowhere, or from an old instance as far as they reach
pub data Origin (flow : Flow) (naming : Naming) (memory : Memory) (set : Bases) (bytes : List Byte) : Type 0 where
  of_nothing : ((x : ℕ) (y : Byte) → slice_get bytes x ≡ Some y → y ≡ blank_byte) → Origin flow naming memory set bytes
  of_instance : (i b : ℕ) (base : BaseInfo) → IsOldInstance flow naming memory set i b base → ((x : ℕ) (y : Byte) → slice_get bytes x ≡ Some y → (byte_at memory i x ≡ Some y) ⊎ (y ≡ blank_byte)) → Origin flow naming memory set bytes

module _ {I : Type 0} {l : LatticeOf I} {n : IntegersOf I} {gamma : I → ℤ → Type 0} (o : OrderLaws l) (q : BoundLaws l n gamma) (c : SoundLaws l n gamma) (ranges : RangeLaws l n) (flow : Flow) (p : HasPremises flow) (naming : Naming) (row : List (Cell I)) (s : ProgramState) (r : IsReached l n gamma flow naming row s) (newest : ℕ) (t : IsSiteOf flow newest (newest + 1)) (size : I) (old : Pointers I) where
  abbrev pub set : Bases
  set = (renamed (site_of newest (newest + 1)) old).bases

  abbrev start : List (Cell I)
  start = join_base l n t.new t.old (map (renamed_cell (site_of newest (newest + 1))) row)

  abbrev pub made : List (Cell I)
  made = make_fresh l n flow.model flow.bases.items t.new size (fresh.Old (renamed (site_of newest (newest + 1)) old)) start

  abbrev pub after : List (Cell I)
  after = free_bases l n flow.bases.items set false made

  -- what the analysis makes of the row
  pub renewed_is : renew l n flow.model flow.bases.items newest (newest + 1) size (fresh.Old old) row ≡ after
  unfolding renew renew_site replaced free_old
  renewed_is =
      ap (λ z. renew_found l n flow.model flow.bases.items (site_of newest (newest + 1)) size (fresh.Old old) z (slice_get flow.bases.items (newest + 1)) row) t.new_there
      ∙ ap (λ z. renew_found l n flow.model flow.bases.items (site_of newest (newest + 1)) size (fresh.Old old) (Some t.new) z row) t.old_there

  start_long : length start ≡ length row
  start_long = (joined_only l n flow.model t.new t.old t.site).long (all_renamed l n newest (newest + 1) row) ∙ renamed_long l n newest (newest + 1) row

  writes : Only t.new.first (t.new.first + base_values t.new) (make_fresh l n flow.model flow.bases.items t.new size (fresh.Old (renamed (site_of newest (newest + 1)) old)))
  writes = fresh_only l n flow.model flow.bases.items t.new t.heap (fresh.Old (renamed (site_of newest (newest + 1)) old)) size

  made_long : length made ≡ length row
  made_long = writes.long start ∙ start_long

  abbrev pub too : Naming
  too = renames naming newest (newest + 1)

  made_stands : InGamma l n gamma flow too made (state_of s)
  made_stands = renamed_stands o q flow p naming row (state_of s) r.long r.stands_for newest (newest + 1) t.new t.old t.new_there t.old_there t.site t.new_kind t.old_kind made (λ x h. writes.keeps start x h)

  none : (j : ℕ) → too j ≡ Some newest → ⊥
  none j e = none_now o q flow p naming row (state_of s) r.long r.stands_for newest (newest + 1) t.new t.old t.new_there t.old_there t.site t.new_kind t.old_kind j e

  pub reached : IsReached l n gamma flow too made s
  reached = record { long = made_long ∙ r.long; stands_for = made_stands; short = r.short; begun = r.begun }

  new_small : newest < most_bases
  new_small = let k = slice_get_within flow.bases.items newest t.new t.new_there in let few = p.shaped.few in omega (arith, k, few)

  old_small : newest + 1 < most_bases
  old_small = let k = slice_get_within flow.bases.items (newest + 1) t.old t.old_there in let few = p.shaped.few in omega (arith, k, few)

  -- ---- the pointer

  abbrev pub given : Pointers I
  given = renewed_pointer l n flow.bases.items (site_of newest (newest + 1)) size

  given_is : given ≡ fresh_pointer l n (site_of newest (newest + 1)) size
  unfolding renewed_pointer
  given_is = ap (λ z. cond (is_some z && is_some (slice_get flow.bases.items (newest + 1))) (fresh_pointer l n (site_of newest (newest + 1)) size) (null_pointer l)) t.new_there ∙ ap (λ z. cond (is_some (Some t.new) && is_some z) (fresh_pointer l n (site_of newest (newest + 1)) size) (null_pointer l)) t.old_there

  pub null_stands : (memory : Memory) (names : Naming) → InGammaPointer gamma names memory given null
  unfolding fresh_pointer
  null_stands memory names = ap (λ z. z.null) given_is ∙ by_fresh (is_fresh n (site_of newest (newest + 1)) size)
    where
      by_fresh : (b : Bool) → (cond b (record { bases = bases_with no_base newest; lo = n.one (pos 0); rel = n.one (pos 0); len = size; part = false; null = true; ended = false }) (null_pointer l)).null ≡ true
      by_fresh true = refl
      by_fresh false = refl

  -- ---- memory in which the old instance may be freed

  module _ (memory : Memory) (freeing : IsFreeing too s.world.memory memory set false) where
    pub nothing_stands : InGamma l n gamma flow too after (record { memory = memory; temps = s.temps; entered = s.bases })
    nothing_stands = freed_stands q flow p too made s reached memory set false freeing

    -- ---- a fresh instance with bytes of the old one

    module _ (bytes : List Byte) (origin : Origin flow too s.world.memory set bytes) (sized : gamma size (pos (length bytes))) (small : length bytes ≤ last_offset) where
      was_here : (i x : ℕ) (y : Byte) → byte_at s.world.memory i x ≡ Some y → byte_at memory i x ≡ Some y
      was_here i x y e = byte_was freeing.released i x ∙ e

      contents : (k : ℕ) (x : Byte) → slice_get bytes k ≡ Some x → IsContentIn memory x.content x.tag × IsContentNamed too memory x.content
      contents k x e = by_origin origin
        where
          blank : x ≡ blank_byte → IsContentIn memory x.content x.tag × IsContentNamed too memory x.content
          blank f = subst (λ z. IsContentIn memory z.content z.tag × IsContentNamed too memory z.content) (sym f) (tt, tt)

          by_origin : Origin flow too s.world.memory set bytes → IsContentIn memory x.content x.tag × IsContentNamed too memory x.content
          by_origin (of_nothing f) = blank (f k x e)
          by_origin (of_instance i b base inst f) = elim (f k x e) [
            | inr g ↦ blank g
            | inl g ↦ (let h = was_here i k x g in (nothing_stands.sane.bytes i k x h, nothing_stands.sane.named i b k x inst.named h))
          ]

      tagged : (k : ℕ) (x : Byte) (tag : Tag) → slice_get bytes k ≡ Some x → x.tag ≡ Some tag → tag.at < class_bytes flow.model tag.class
      tagged k x tag e h = by_origin origin
        where
          blank : x ≡ blank_byte → tag.at < class_bytes flow.model tag.class
          blank f = let g : None ≡ Some tag = sym (ap (λ z. z.tag) f) ∙ h in cc

          by_origin : Origin flow too s.world.memory set bytes → tag.at < class_bytes flow.model tag.class
          by_origin (of_nothing f) = blank (f k x e)
          by_origin (of_instance i b base inst f) = elim (f k x e) [
            | inr g ↦ blank g
            | inl g ↦ nothing_stands.sane.tags i k x tag (was_here i k x g) h
          ]

      abbrev pub grown : Memory
      grown = memory ++ objects.fresh allocated bytes ∷ []

      abbrev pub i : ℕ
      i = length memory

      abbrev pub named_too : Naming
      named_too = naming_too (renames naming newest (newest + 1)) (length memory) newest

      storage : storage_for t.new.kind ≡ allocated
      storage = ap storage_for t.new_kind

      all_bytes : bytes_at grown i ≡ bytes
      all_bytes = own_bytes flow too after (record { memory = memory; temps = s.temps; entered = s.bases }) nothing_stands newest t.new t.new_there t.heap.heap storage none bytes small contents tagged

      own_byte : (x : ℕ) (y : Byte) → byte_at grown i x ≡ Some y → slice_get bytes x ≡ Some y
      unfolding byte_at
      own_byte x y e = sym (ap (λ z. slice_get z x) all_bytes) ∙ e

      sole : (j : ℕ) → IsLiveOf named_too grown newest j → j ≡ i
      sole j h = own_at flow too after (record { memory = memory; temps = s.temps; entered = s.bases }) nothing_stands newest t.new t.new_there t.heap.heap storage none bytes small contents tagged j h

      -- ---- the cells

      bounded : (x : ℤ × ℤ) × (n.bounds size ≡ Some x) × (x.0 ≤ℤ pos (length bytes))
      bounded = let b = q.inside size (pos (length bytes)) sized in ((b.0, b.1), b.2, b.3)

      long_enough : t.new.first + base_values t.new ≤ length start
      long_enough = let k = p.laid.laid.close newest t.new t.new_there in let far = p.laid.long in let e = start_long in let long = r.long in omega (arith, k, far, e, long)

      -- some row over which the cells were made
      module _ (over : List (Cell I)) (outside : (at : ℕ) → (t.new.first ≤ at → at < t.new.first + base_values t.new → ⊥) → cell_at over at ≡ cell_at start at) (d : Class) (signed : Bool) where
        abbrev found : values.Value I
        found = old_value l n flow.model flow.bases.items over set (record { class = d; signed = signed })

        abbrev total : values.Value I
        total = (value_lattice l).join (blank_value l) found

        below_left : (value_lattice l).leq (blank_value l) total ≡ true
        below_left = (value_order o).join_left (blank_value l) found

        below_right : (value_lattice l).leq found total ≡ true
        below_right = (value_order o).join_right (blank_value l) found

        near_whole : near_value l n total ≡ total
        near_whole = near_is o q total (join_near o q (blank_value l) found (blank_near o q ranges flow.model over d signed) (old_near o q ranges flow.model over d signed flow.bases.items set))

        same_old : (j b : ℕ) (base : BaseInfo) → IsOldInstance flow too s.world.memory set j b base → (at : ℕ) → base.first ≤ at → at < base.first + base_values base → cell_at over at ≡ cell_at made at
        same_old j b base inst at from to =
            let ne : b ≡ newest → ⊥ = λ e. none j (inst.named ∙ ap Some e) in
            let away : t.new.first ≤ at → at < t.new.first + base_values t.new → ⊥ = λ f g. elim (p.laid.laid.apart b newest base t.new inst.there t.new_there ne) [ inl h ↦ omega (arith, h, to, f) | inr h ↦ omega (arith, h, from, g) ] in
            outside at away ∙ sym (writes.keeps start at away)

        -- a byte of the fresh instance
        module _ (x k : ℕ) (content : Content) (m : Matched grown i x d k content) (below : k < class_bytes flow.model d) where
          abbrev one : Byte
          one = record { content = content; tag = m.tag }

          blank_content : one ≡ blank_byte → InGammaContent gamma named_too grown total d content
          blank_content f = subst (InGammaContent gamma named_too grown total d) (sym (ap (λ z. z.content) f)) ((value_below l (blank_value l) total below_left).indeterminate refl)

          moved_content : (j b : ℕ) (base : BaseInfo) → IsOldInstance flow too s.world.memory set j b base → byte_at s.world.memory j x ≡ Some one → InGammaContent gamma named_too grown total d content
          moved_content j b base inst g =
              let old_match : Matched s.world.memory j x d k content = record { tag = m.tag; here = g; fits = m.fits } in
              let was = old_content o q c flow p too made (state_of s) made_stands set j b base inst over (same_old j b base inst) d signed x k content old_match below in
              let now = content_stays freeing.released gamma too found d content was in
              let later = content_grows (grows memory (objects.fresh allocated bytes)) (names_too (renames naming newest (newest + 1)) (length memory) newest) gamma found d content m.tag (nothing_stands.sane.bytes j x one (was_here j x one g)) now in
              content_larger q named_too grown found total d content (value_below l found total below_right) later

          by_origin : Origin flow too s.world.memory set bytes → InGammaContent gamma named_too grown total d content
          by_origin (of_nothing f) = blank_content (f x one (own_byte x one m.here))
          by_origin (of_instance j b base inst f) = elim (f x one (own_byte x one m.here)) [
            | inr g ↦ blank_content g
            | inl g ↦ moved_content j b base inst g
          ]

          byte_stands : InGammaContent gamma named_too grown total d content
          byte_stands = by_origin origin

        -- numbers at a place of it
        module _ (a : ℕ) (ns : List Labelled) (plain : is_pointer d ≡ false) (held : Holds flow.model grown i a d ns) where
          number_not_blank : (y : Labelled) (tag : Option Tag) → record { content = number_in y; tag = tag } ≡ blank_byte → ⊥
          number_not_blank y tag e = let f : number_in y ≡ indeterminate = ap (λ z. z.content) e in cc

          moved_held : (j : ℕ) → ((x : ℕ) (y : Byte) → slice_get bytes x ≡ Some y → (byte_at s.world.memory j x ≡ Some y) ⊎ (y ≡ blank_byte)) → Holds flow.model s.world.memory j a d ns
          moved_held j f = record {
            size = held.size;
            each = λ k y small e.
                let m = held.each k y small e in
                let one : Byte = record { content = number_in y; tag = m.tag } in
                elim (f (a + k) one (own_byte (a + k) one m.here)) [
                  | inl g ↦ record { tag = m.tag; here = g; fits = m.fits }
                  | inr g ↦ absurd (number_not_blank y m.tag g)
                ];
          }

          by_origin_too : Origin flow too s.world.memory set bytes → gamma total.num (number_of signed ns)
          by_origin_too (of_nothing f) =
              let size = held.size in
              let above = class_above flow.model d in
              let y = get_there ns 0 (omega (arith, size, above)) in
              let m = held.each 0 y.0 (omega (arith, size, above)) y.1 in
              absurd (number_not_blank y.0 m.tag (f (a + 0) (record { content = number_in y.0; tag = m.tag }) (own_byte (a + 0) (record { content = number_in y.0; tag = m.tag }) m.here)))
          by_origin_too (of_instance j b base inst f) =
              q.larger found.num total.num (number_of signed ns) (value_below l found total below_right).num
              (old_number o q c flow p too made (state_of s) made_stands set j b base inst over (same_old j b base inst) d signed a ns plain (moved_held j f))

          numbers_stand : gamma total.num (number_of signed ns)
          numbers_stand = by_origin_too origin

        -- a cell whose bytes are of the class
        pub moved_cell : (Place Owns : ℕ → ℕ → Type 0) → ((x k : ℕ) → Owns x k → k < class_bytes flow.model d) → InGammaCell gamma flow named_too grown newest d signed Place Owns (near_value l n total)
        moved_cell Place Owns below = subst (InGammaCell gamma flow named_too grown newest d signed Place Owns) (sym near_whole) (record {
          whole = λ j a ns h place plain held. numbers_stand a ns plain (subst (λ z. Holds flow.model grown z a d ns) (sole j h) held);
          byte = λ j x k content h owns m. byte_stands x k content (subst (λ z. Matched grown z x d k content) (sole j h) m) (below x k owns);
        })

      given_value : (class : Class) (signed : Bool) (v : values.Value I) → IsGiven l n flow.model flow.bases.items t.new t.heap (fresh.Old (renamed (site_of newest (newest + 1)) old)) start class signed v → (Place Owns : ℕ → ℕ → Type 0) → ((x k : ℕ) → Owns x k → k < class_bytes flow.model class) → InGammaCell gamma flow named_too grown newest class signed Place Owns v
      unfolding fresh_value
      given_value class signed v g Place Owns below = subst (InGammaCell gamma flow named_too grown newest class signed Place Owns) (sym g.is_value) (moved_cell g.over g.outside class signed Place Owns below)

      -- ---- what freeing leaves of the newest base

      base_fits : (b : ℕ) (base : BaseInfo) → slice_get flow.bases.items b ≡ Some base → base.first + base_values base ≤ 2 ^ 64 - 1
      base_fits b base e = let k = p.laid.laid.close b base e in let far = p.laid.laid.small in omega (arith, k, far)

      state_of_base : (b : ℕ) (base : BaseInfo) → slice_get flow.bases.items b ≡ Some base → base.shape.heap ≡ true → (state_position base ≡ (base.first + base_cells base) + length base.shape.zeros) × (state_position base < base.first + base_values base)
      state_of_base b base e heap =
          let one : cond {A = ℕ} base.shape.heap 1 0 ≡ 1 = rw heap refl in
          let x = zero_is base (length base.shape.zeros) (base_fits b base e) (omega arith) in
          (omega (arith, x), omega (arith, x, one))

      kept : (x : ℕ) → t.new.first ≤ x → x < (t.new.first + base_cells t.new) + length t.new.shape.zeros → cell_at after x ≡ cell_at made x
      kept x from to = free_keeps_cell l n set false flow.bases.items made x (λ k other f heap g.
          let a = state_of_base k other f heap in
          let a0 = a.0 in
          let a1 = a.1 in
          elim (cases_eq k newest) [
            | inl same ↦ (let is : other ≡ t.new = same_Some other t.new (sym f ∙ (ap (slice_get flow.bases.items) same ∙ t.new_there)) in
                let z : (other.first + base_cells other) + length other.shape.zeros ≡ (t.new.first + base_cells t.new) + length t.new.shape.zeros = ap (λ y. (y.first + base_cells y) + length y.shape.zeros) is in
                omega (arith, to, g, a0, z))
            | inr ne ↦ elim (p.laid.laid.apart k newest other t.new f t.new_there ne) [ inl h ↦ omega (arith, h, from, g, a1) | inr h ↦ omega (arith, h, to, g, a0) ]
          ])

      six : cond {A = ℕ} t.new.shape.heap 6 0 ≡ 6
      six = ap (λ z. cond {A = ℕ} z 6 0) t.heap.heap

      leaf_own : (j : ℕ) (leaf : Leaf) → slice_get t.new.shape.cells j ≡ Some leaf → InGammaLeaf gamma flow named_too grown newest leaf (value_at l n after (leaf_position t.new j))
      leaf_own j leaf e =
          let u = slice_get_within t.new.shape.cells j leaf e in
          let x = leaf_is t.new j t.heap.fits u in
          subst (InGammaLeaf gamma flow named_too grown newest leaf) (sym (same_value l n made after (leaf_position t.new j) (kept (leaf_position t.new j) (omega (arith, x)) (omega (arith, x, u)))))
          (given_value leaf.class leaf.signed (value_at l n made (leaf_position t.new j)) (old_leaf_is l n flow.model flow.bases.items t.new t.heap (fresh.Old (renamed (site_of newest (newest + 1)) old)) start size bounded.0 bounded.1 long_enough j leaf e) _ _ (λ x k owns. owns.small))

      class_own : (k : ℕ) → k < 6 → InGammaClass gamma flow named_too grown newest t.new (class_at k) (value_at l n after (class_position t.new k))
      class_own k h =
          let a = six in
          let x = class_is t.new k t.heap.fits (omega (arith, a, h)) in
          subst (InGammaClass gamma flow named_too grown newest t.new (class_at k)) (sym (same_value l n made after (class_position t.new k) (kept (class_position t.new k) (omega (arith, x)) (omega (arith, x, a, h)))))
          (given_value (class_at k) true (value_at l n made (class_position t.new k)) (old_class_is l n flow.model flow.bases.items t.new t.heap (fresh.Old (renamed (site_of newest (newest + 1)) old)) start size bounded.0 bounded.1 long_enough k h) _ _ (λ x j owns. owns.small))

      whole_part : (z : ℕ) (part : ZeroPart) → slice_get t.new.shape.zeros z ≡ Some part → array_bytes part bytes ≡ bytes
      whole_part z part e =
          let h = (p.laid.texts newest t.new t.new_there).heaps t.heap.heap z part e in
          ap (λ y. array_of y (drop part.offset bytes)) h.0 ∙ ap (λ y. drop y bytes) h.1

      any_first : InGammaZero gamma named_too grown (record { at = near_number l n (any_zero l n).at }) bytes
      any_first =
          let a = offset_near (first_zero bytes) (λ k f. let w = zero_small bytes k f in omega (arith, w, small)) in
          let a0 = a.0 in
          let a1 = a.1 in
          near_stands o q (any_zero l n).at (zero_offset (first_zero bytes)) (omega (arith, ints, a0)) (omega (arith, ints, a1)) (any_zero_stands o q named_too grown bytes (omega (arith, small)))

      zero_own : (z : ℕ) (part : ZeroPart) → slice_get t.new.shape.zeros z ≡ Some part → InGammaZero gamma named_too grown (zero_at l n after (zero_position t.new z)) (array_bytes part bytes)
      zero_own z part e =
          let few : z < 1 = subst (λ y. z < y) t.heap.zeros (slice_get_within t.new.shape.zeros z part e) in
          let first : z ≡ 0 = omega (arith, few) in
          let zeros = t.heap.zeros in
          let x = zero_is t.new 0 t.heap.fits (omega arith) in
          let is = same_zero l n made after (zero_position t.new 0) (kept (zero_position t.new 0) (omega (arith, x)) (omega (arith, x, zeros))) ∙ old_zero_is l n flow.model flow.bases.items t.new t.heap (fresh.Old (renamed (site_of newest (newest + 1)) old)) start size bounded.0 bounded.1 long_enough in
          subst (λ y. InGammaZero gamma named_too grown (zero_at l n after (zero_position t.new y)) (array_bytes part bytes)) (sym first)
          (subst (λ y. InGammaZero gamma named_too grown y (array_bytes part bytes)) (sym is)
          (subst (InGammaZero gamma named_too grown (record { at = near_number l n (any_zero l n).at })) (sym (whole_part z part e)) any_first))

      -- the instance is live, whether its base is one of those that may be freed or not
      state_own : InGammaState gamma named_too grown (state_at l n after (state_position t.new)) live (length bytes)
      unfolding state_at
      state_own =
          let a = state_of_base newest t.new t.new_there t.heap.heap in
          let a0 = a.0 in
          let a1 = a.1 in
          let close = p.laid.laid.close newest t.new t.new_there in
          let far = p.laid.long in
          let long = reached.long in
          let was = old_state_is l n flow.model flow.bases.items t.new t.heap (fresh.Old (renamed (site_of newest (newest + 1)) old)) start size bounded.0 bounded.1 long_enough in
          let is = free_frees l n set false flow.bases.items made newest t.new t.new_there (λ k other f ne hot g.
          let k1 = state_of_base k other f hot in
          let k10 = k1.0 in
          let k11 = k1.1 in
          elim (p.laid.laid.apart k newest other t.new f t.new_there ne) [ inl h ↦ omega (arith, h, g, k11, a0) | inr h ↦ omega (arith, h, g, a1, k10) ])
          (omega (arith, a1, close, far, long)) in
          subst (λ y. InGammaState gamma named_too grown (near_state l n (state_in l y)) live (length bytes)) (sym is) (by_freed (is_heap_in set t.new newest) was)
        where
          twice : (x : I) → gamma x (pos (length bytes)) → gamma (near_number l n x) (pos (length bytes))
          twice x h = near_stands o q x (pos (length bytes)) (omega (arith, ints)) (omega (arith, ints, small)) h

          by_freed : (b : Bool) → near_state l n (state_in l (cell_at made (state_position t.new))) ≡ near_state l n (record { size = size; live = true; freed = false })
              → InGammaState gamma named_too grown (near_state l n (state_in l (cond b (State (freed_state false (near_state l n (state_in l (cell_at made (state_position t.new)))))) (cell_at made (state_position t.new))))) live (length bytes)
          by_freed true was = subst (λ y. InGammaState gamma named_too grown (near_state l n (freed_state false y)) live (length bytes)) (sym was) (twice (near_number l n size) (twice size sized), refl)
          by_freed false was = subst (λ y. InGammaState gamma named_too grown y live (length bytes)) (sym was) (twice size sized, refl)

      own_cells : StandsFresh flow too after (record { memory = memory; temps = s.temps; entered = s.bases }) nothing_stands newest t.new t.new_there t.heap.heap storage none bytes small contents tagged
      own_cells = record { leaves = leaf_own; classes = class_own; zeros = zero_own; state_is = state_own }

      pub instance_stands : InGamma l n gamma flow named_too after (record { memory = grown; temps = s.temps; entered = s.bases })
      instance_stands = grown_stands flow too after (record { memory = memory; temps = s.temps; entered = s.bases }) nothing_stands newest t.new t.new_there t.heap.heap storage none bytes small contents tagged own_cells

      -- ---- the pointer to it

      fresh_is : is_fresh n (site_of newest (newest + 1)) size ≡ true
      fresh_is = and_from _ _ (and_from _ _ (lt-ltb newest most_bases new_small) (lt-ltb (newest + 1) most_bases old_small)) (ap is_some bounded.1)

      pointer_is : given ≡ record { bases = bases_with no_base newest; lo = n.one (pos 0); rel = n.one (pos 0); len = size; part = false; null = true; ended = false }
      unfolding fresh_pointer
      pointer_is = given_is ∙ ap (λ z. cond z (record { bases = bases_with no_base newest; lo = n.one (pos 0); rel = n.one (pos 0); len = size; part = false; null = true; ended = false }) (null_pointer l)) fresh_is

      own_name : named_too i ≡ Some newest
      own_name = (names_too (renames naming newest (newest + 1)) (length memory) newest).own

      alive : life_at grown i ≡ live
      alive = own_life flow too after (record { memory = memory; temps = s.temps; entered = s.bases }) nothing_stands newest t.new t.new_there t.heap.heap storage none bytes small contents tagged

      stands_into : InGammaInto gamma named_too grown (record { bases = bases_with no_base newest; lo = n.one (pos 0); rel = n.one (pos 0); len = size; part = false; null = true; ended = false }) i 0 0 (length bytes)
      stands_into = record {
        base = newest;
        named = own_name;
        among = with_has_same no_base newest;
        lower = q.one_stands (pos 0);
        relative = q.one_stands (pos 0);
        room = let e : pos (length bytes) -ℤ pos 0 ≡ pos (length bytes) = omega (arith, ints) in subst (gamma size) (sym e) sized;
        whole = λ e. (refl, sym (ap length all_bytes));
      }

      pub instance_result : IsResult q flow p named_too grown (pointer_value l given) (pointer (into i 0 0 (length bytes)))
      instance_result = record {
        stands_for = subst (λ z. InGammaPointer gamma named_too grown z (into i 0 0 (length bytes))) (sym pointer_is) (subst (λ z. InGammaByLife gamma named_too grown (record { bases = bases_with no_base newest; lo = n.one (pos 0); rel = n.one (pos 0); len = size; part = false; null = true; ended = false }) z i 0 0 (length bytes)) (sym alive) stands_into);
        near = tt;
        within = let e = ap length all_bytes in let more = longer in record { made = omega (arith, more); above = omega arith; below = omega arith; within = omega (arith, e) };
      }
        where
          longer : length grown ≡ suc (length memory)
          longer = (grows memory (objects.fresh allocated bytes)).made
