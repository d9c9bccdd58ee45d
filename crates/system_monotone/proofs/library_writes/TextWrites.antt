-- Writes of texts into larger rows leave larger rows.
use Rattle.std.specs.Prelude.{◌≡◌, ℕ, ◌+◌, ◌≤◌, ◌<◌, ◌-◌, ◌^◌, ℤ, pos, negsuc, Bool, true, false, cond, is_some, List, [], length, refl}
use Rattle.std.proofs.Common.{arith, sym, subst, ap, inl, inr, ◌⊎◌}
use Rattle.std.proofs.lemmas.Int.{ints}
use Rattle.cc_base.specs.Lattices.{LatticeOf, OrderLaws}
use Rattle.cc_base.specs.IntegerDomains.{IntegersOf, BoundLaws}
use Rattle.c_layout.specs.declared.data_model.Model.{Model}
use Rattle.c_layout.specs.declared.leaf_lists.Class.{Class}
use Rattle.c_layout.specs.declared.leaf_lists.Class.TheVariants.{Char, Short, Int, Long, LongLong, Pointer}
use Rattle.c_layout.specs.declared.shapes.BaseInfo.{BaseInfo}
use Rattle.c_layout.specs.declared.shapes.ZeroPart.{ZeroPart}
use Rattle.cfg.specs.declared.programs.Flow.{Flow}
use Rattle.pointer_domain.specs.declared.base_sets.Bases.{Bases}
use Rattle.pointer_domain.specs.BaseSets.{no_base}
use Rattle.pointer_domain.specs.PointerLattice.{no_pointer, pointer_order}
use Rattle.value_domain.specs.Strings.FirstZeros.{the_end}
use Rattle.value_domain.specs.declared.strings.first_zeros.FirstZero.{FirstZero}
use Rattle.value_domain.specs.Values.Values.{value_lattice}
use Rattle.value_domain.specs.declared.values.row_cells.Cell.{Cell}
use Rattle.domain_theorems.proofs.values.Flags.{Sets}
use Rattle.domain_theorems.proofs.values.Parts.{value_below}
use Rattle.store_cells.specs.declared.first_zero_writes.ZeroTarget.{ZeroTarget}
use Rattle.store_cells.specs.AccessWindows.{last_offset}
use Rattle.store_cells.specs.ByteWrites.{byte_written}
use Rattle.store_cells.specs.ClassNumbers.{class_at}
use Rattle.store_cells.specs.FirstZeroWrites.{zero_target}
use Rattle.store.specs.LeafSelection.{is_overlapped, has_stray}
use Rattle.store_objects.specs.LiveBases.{has_base, is_one_instance}
use Rattle.store_cells.specs.RowPositions.{leaf_position, class_position, zero_position, zero_at}
use Rattle.store_cells.specs.Walks.{turns}
use Rattle.store_monotone.specs.Operations.Placements.{EachFrom, IsPlaced, IsRegular}
use Rattle.store_monotone.specs.Operations.RowsBelow.{RowsBelow}
use Rattle.store_monotone.specs.Operations.TopCells.{top_number, top_value}
use Rattle.store_monotone.proofs.operations.CellReads.{labels_top, written_monotone, written_top}
use Rattle.store_monotone.proofs.operations.Consistent.{IsEven, even_bare}
use Rattle.store_monotone.proofs.operations.FirstZeros.{zero_at_monotone, zero_at_top}
use Rattle.store_monotone.proofs.operations.LiveSets.{has_monotone}
use Rattle.store_monotone.proofs.operations.PairedSteps.{Step, walk_step, turns_step, then_step, if_step, same_step, numbers_below}
use Rattle.store_monotone.proofs.operations.Windows.{overlapped_monotone}
use Rattle.store_monotone.proofs.operations.ZeroTargets.{target_monotone}
use Rattle.transfer_library_writes.specs.declared.source_bytes.Characters.{Characters}
use Rattle.transfer_library_writes.specs.declared.text_writes.TextWrite.{TextWrite}
use Rattle.transfer_library_writes.specs.declared.text_writes.ZeroRule.TheVariants.{Any}
use Rattle.transfer_library_writes.specs.TextWrites.{is_whole, text_lies_in_array, character_value, value_of_class, leaf_value, write_leaf, write_leaf_of, write_leaves, write_stray, write_class, write_class_cells, zero_after, zero_met_at, write_zero, write_zeros, write_heap_part, write_base, write_base_if, rule_in, write_into, write_in, write_text}
use Rattle.transfer_monotone.specs.Values.RisingRows.{RowsRise}
use Rattle.system_monotone.proofs.library_writes.WrittenCells.{join_rises, zero_rises, bytes_even}
use Rattle.system_monotone.specs.LibraryWrites.TextOrder.{CharactersBelow, StartsBelow, TextBelow}
use Rattle.system_monotone.proofs.library_writes.TextEnds.{rule_below_in, length_in, after_monotone, after_top}
use Rattle.system_monotone.proofs.library_writes.AloneWrites.{made_alone}
use Rattle.system_monotone.proofs.library_writes.MetZeros.{Knows, any_step, known_step}
use Rattle.system_monotone.proofs.library_writes.WriteStarts.{target_some, text_lies_too, met_too, target_near, start_near}

module _ {I : Type 0} (l : LatticeOf I) (n : IntegersOf I) (w v : TextWrite I) (on one two : Bool) where
  -- where the larger write is the only one to an array, the smaller one is made and is so too
  record StartsAlone : Type 0 where
    starts : StartsBelow w.bases w.start w.window w.one_byte v.one_byte
    alone : two ≡ true → (on ≡ true) × (one ≡ true)

  abbrev Begins : Type 0
  Begins = (v.zero ≡ Any) ⊎ StartsAlone

module _ {I : Type 0} {l : LatticeOf I} {n : IntegersOf I} {stands : I → ℤ → Type 0} (o : OrderLaws l) (b : BoundLaws l n stands) where
  -- ---- values

  character_monotone : (c d : Characters I) → CharactersBelow l n c d → (signed : Bool) → (value_lattice l).leq (character_value l n c signed) (character_value l n d signed) ≡ true
  character_monotone c d k signed = value_below l (character_value l n c signed) (character_value l n d signed) (record { num = joined signed; pointer = (pointer_order o).reflexive (no_pointer l); indeterminate = refl; labels = k.labels })
    where
      more : (x y : I) → l.leq x y ≡ true → l.leq (l.join x (n.one (pos 0))) (l.join y (n.one (pos 0))) ≡ true
      more x y h = o.join_least x (n.one (pos 0)) (l.join y (n.one (pos 0))) (o.transitive x y (l.join y (n.one (pos 0))) h (o.join_left y (n.one (pos 0)))) (o.join_right y (n.one (pos 0)))

      joined : (s : Bool) → l.leq (l.join (cond s c.signed c.unsigned) (n.one (pos 0))) (l.join (cond s d.signed d.unsigned) (n.one (pos 0))) ≡ true
      joined true = more c.signed d.signed k.signed
      joined false = more c.unsigned d.unsigned k.unsigned

  character_top : (all : Bases) (c d : Characters I) → CharactersBelow l n c d → (signed : Bool) → (value_lattice l).leq (character_value l n d signed) (top_value n all) ≡ true
  character_top all c d k signed = value_below l (character_value l n d signed) (top_value n all) (record { num = joined signed; pointer = (pointer_order o).least_below (top_value n all).pointer; indeterminate = refl; labels = labels_top d.labels })
    where
      zero_top : l.leq (n.one (pos 0)) (top_number n) ≡ true
      zero_top = b.below_between (n.one (pos 0)) (pos 0) (pos 0) (negsuc (2 ^ 64 - 1)) (pos (2 ^ 64)) (b.one_bounds (pos 0)) (omega (arith, ints)) (omega (arith, ints))

      joined : (s : Bool) → l.leq (l.join (cond s d.signed d.unsigned) (n.one (pos 0))) (top_number n) ≡ true
      joined true = o.join_least d.signed (n.one (pos 0)) (top_number n) k.signed_top zero_top
      joined false = o.join_least d.unsigned (n.one (pos 0)) (top_number n) k.unsigned_top zero_top

  class_monotone : (m : Model) (c d : Characters I) → CharactersBelow l n c d → (class : Class) (signed : Bool) → (value_lattice l).leq (value_of_class l n m class signed c) (value_of_class l n m class signed d) ≡ true
  class_monotone m c d k Char signed = character_monotone c d k signed
  class_monotone m c d k Short signed = written_monotone o b m Short signed c.labels d.labels k.labels
  class_monotone m c d k Int signed = written_monotone o b m Int signed c.labels d.labels k.labels
  class_monotone m c d k Long signed = written_monotone o b m Long signed c.labels d.labels k.labels
  class_monotone m c d k LongLong signed = written_monotone o b m LongLong signed c.labels d.labels k.labels
  class_monotone m c d k Pointer signed = written_monotone o b m Pointer signed c.labels d.labels k.labels

  class_top : (all : Bases) (m : Model) (c d : Characters I) → CharactersBelow l n c d → (class : Class) (signed : Bool) → (value_lattice l).leq (value_of_class l n m class signed d) (top_value n all) ≡ true
  class_top all m c d k Char signed = character_top all c d k signed
  class_top all m c d k Short signed = written_top o b all m Short signed d.labels
  class_top all m c d k Int signed = written_top o b all m Int signed d.labels
  class_top all m c d k Long signed = written_top o b all m Long signed d.labels
  class_top all m c d k LongLong signed = written_top o b all m LongLong signed d.labels
  class_top all m c d k Pointer signed = written_top o b all m Pointer signed d.labels

  class_even : (m : Model) (c : Characters I) (class : Class) (signed : Bool) → IsEven n (value_of_class l n m class signed c).pointer
  class_even m c Char signed = even_bare o b false false
  class_even m c Short signed = bytes_even o b no_base [] m Short signed c.labels
  class_even m c Int signed = bytes_even o b no_base [] m Int signed c.labels
  class_even m c Long signed = bytes_even o b no_base [] m Long signed c.labels
  class_even m c LongLong signed = bytes_even o b no_base [] m LongLong signed c.labels
  class_even m c Pointer signed = bytes_even o b no_base [] m Pointer signed c.labels

  -- ---- one base

  module _ (m : Model) (all : Bases) (top : List (Cell I)) (w v : TextWrite I) (k : TextBelow l n w v) (base : BaseInfo) (p : IsPlaced n all top base) (q : IsRegular m base) (on : Bool) where
    text_leaves : Step (RowsRise l n top) on (write_leaves l n m base w) (write_leaves l n m base v)
    unfolding write_leaves write_leaf
    text_leaves = walk_step (λ leaf at. at < length base.shape.cells) (RowsRise l n top) on (write_leaf_of l n m base w) (write_leaf_of l n m base v)
        (λ leaf at e r s j. join_rises o b all top (leaf_position base at) (p.leaf at e) r s j (leaf_value l n m leaf w.characters) (leaf_value l n m leaf v.characters)
        (class_monotone m w.characters v.characters k.characters leaf.class leaf.signed) (class_top all m w.characters v.characters k.characters leaf.class leaf.signed) (class_even m w.characters leaf.class leaf.signed)
        on (is_overlapped m leaf w.window) (is_overlapped m leaf v.window) (overlapped_monotone m leaf w.window v.window k.window))
        0 base.shape.cells (numbers_below (length base.shape.cells) 0 base.shape.cells (omega arith))

    text_classes : base.shape.heap ≡ true → Step (RowsRise l n top) on (write_class_cells l n m base w) (write_class_cells l n m base v)
    unfolding write_class_cells
    text_classes heap = then_step (RowsRise l n top) on (write_stray l n base w) (write_stray l n base v) (turns (write_class l n m base w) 5) (turns (write_class l n m base v) 5)
        (λ r s j. join_rises o b all top (class_position base 0) (p.class 0 heap (omega arith)) r s j (character_value l n w.characters true) (character_value l n v.characters true)
        (character_monotone w.characters v.characters k.characters true) (character_top all w.characters v.characters k.characters true) (even_bare o b false false)
        on (has_stray base.shape.cells Char w.window) (has_stray base.shape.cells Char v.window) (q.stray Char w.window v.window k.window heap))
        (turns_step (RowsRise l n top) on (write_class l n m base w) (write_class l n m base v) 5
        (λ at e r s j. join_rises o b all top (class_position base (at + 1)) (p.class (at + 1) heap (omega arith)) r s j (byte_written l n m (class_at (at + 1)) true w.characters.labels) (byte_written l n m (class_at (at + 1)) true v.characters.labels)
        (written_monotone o b m (class_at (at + 1)) true w.characters.labels v.characters.labels k.characters.labels) (written_top o b all m (class_at (at + 1)) true v.characters.labels) (bytes_even o b all top m (class_at (at + 1)) true w.characters.labels) on true true (λ z. z))
        5 (omega arith))

    text_heap : Step (RowsRise l n top) on (write_heap_part l n m base w) (write_heap_part l n m base v)
    text_heap = same_step (RowsRise l n top) on base.shape.heap (write_class_cells l n m base w) (write_class_cells l n m base v) (λ r. r) (λ r. r) text_classes (λ e r s j. stay on r s j)
      where
        stay : (on : Bool) (r s : List (Cell I)) → RowsRise l n top r s → RowsRise l n top (cond on r r) s
        stay true r s j = j
        stay false r s j = j

    -- ---- first zeros

    module _ (one two : Bool) (part : ZeroPart) (at : ℕ) (there : at < length base.shape.zeros) (r s : List (Cell I)) (j : RowsRise l n top r s) where
      abbrev old : List (Cell I) → FirstZero I
      old row = zero_at l n row (zero_position base at)

      -- the write lies in the array
      abbrev lies : TextWrite I → ZeroTarget → Bool
      lies x t = text_lies_in_array x.zero x.one_byte (is_whole (zero_target part x.window)) t

      abbrev after : List (Cell I) → TextWrite I → ZeroTarget → FirstZero I
      after row x t = zero_after l n (old row) t.local x.zero

      large_top : l.leq (old s).at (n.between (pos 0) the_end) ≡ true
      large_top = zero_at_top o b top r s (zero_position base at) j.below.small j.below.large (p.zero at there)

      rises : l.leq (old r).at (old s).at ≡ true
      rises = zero_at_monotone o b top r s (zero_position base at) j.below.small j.below.large (p.zero at there)

      small_tops : (t : ZeroTarget) → t.local.hi ≤ last_offset → l.leq (after r w t).at (n.between (pos 0) the_end) ≡ true
      small_tops t near = after_top o b (old r) t.local near (o.transitive (old r).at (old s).at (n.between (pos 0) the_end) rises large_top) w.zero k.length

      large_tops : (t : ZeroTarget) → t.local.hi ≤ last_offset → l.leq (after s v t).at (n.between (pos 0) the_end) ≡ true
      large_tops t near = after_top o b (old s) t.local near large_top v.zero k.more

      wanted : Sets (is_some (zero_target part w.window)) (is_some (zero_target part v.window))
      wanted = target_some (zero_target part w.window) (zero_target part v.window) (target_monotone part w.window v.window k.window)

      -- nothing is known behind the larger write
      all_zeros : v.zero ≡ Any → (t : ZeroTarget) → l.leq (n.between (pos 0) the_end) (after s v t).at ≡ true
      all_zeros none t = subst (λ z. l.leq (n.between (pos 0) the_end) (zero_after l n (old s) t.local z).at ≡ true) (sym none) (o.reflexive (n.between (pos 0) the_end))

      knows : StartsAlone l n w v on one two → Knows o b top r s (zero_position base at) j.below (p.zero at there) (lies w) (lies v) (after r w) (after s v) small_tops large_tops on one two
          (is_some (zero_target part w.window)) (is_some (zero_target part v.window)) wanted (zero_target part w.start) (zero_target part v.start) (start_near part w.start v.start k.start) (target_near part w.start v.start k.start) (target_monotone part w.start v.start k.start)
      knows c = record {
        within = λ met t d m. text_lies_too part w.start v.start w.window v.window k.start k.window c.starts.first w.one_byte v.one_byte c.starts.narrow c.starts.single l n met t d w.zero v.zero k.zero m;
        alone = λ z t d whole m. let y = c.alone z in (y.0, met_too part w.start v.start w.window v.window k.start k.window c.starts.first w.one_byte v.one_byte c.starts.narrow c.starts.single t d whole, y.1);
        after = λ x t i near. after_monotone o b (old r) (old s) x.local t.local i rises large_top w.zero v.zero k.zero k.length k.more;
      }

      -- the writes to one first zero
      zero_pair : Begins l n w v on one two → RowsBelow l top (cond on (write_zero l n base w one part at r) r) (write_zero l n base v two part at s)
      unfolding write_zero
      zero_pair begins = elim begins [
        | inl none ↦ any_step o b top r s (zero_position base at) j.below (p.zero at there) (lies w) (lies v) (after r w) (after s v) small_tops large_tops (all_zeros none) on one two
            (is_some (zero_target part w.window)) (is_some (zero_target part v.window)) wanted (zero_target part w.start) (zero_target part v.start) (start_near part w.start v.start k.start) (target_near part w.start v.start k.start)
        | inr c ↦ known_step o b top r s (zero_position base at) j.below (p.zero at there) (lies w) (lies v) (after r w) (after s v) small_tops large_tops on one two
            (is_some (zero_target part w.window)) (is_some (zero_target part v.window)) wanted (zero_target part w.start) (zero_target part v.start) (start_near part w.start v.start k.start) (target_near part w.start v.start k.start) (target_monotone part w.start v.start k.start) (knows c)
      ]

    text_zeros : (one two : Bool) → Begins l n w v on one two → Step (RowsRise l n top) on (write_zeros l n base w one) (write_zeros l n base v two)
    unfolding write_zeros write_zero
    text_zeros one two c = walk_step (λ part at. at < length base.shape.zeros) (RowsRise l n top) on (write_zero l n base w one) (write_zero l n base v two)
        (λ part at e r s j. zero_rises o b all top r s j (zero_position base at) (zero_met_at l n (zero_at l n r (zero_position base at)) w one (is_whole (zero_target part w.window)) (zero_target part w.start)) on (is_some (zero_target part w.window)) _
        (zero_pair one two part at e r s j c))
        0 base.shape.zeros (numbers_below (length base.shape.zeros) 0 base.shape.zeros (omega arith))

    text_base : (one two : Bool) → Begins l n w v on one two → Step (RowsRise l n top) on (write_base l n m base w one) (write_base l n m base v two)
    unfolding write_base
    text_base one two c = then_step (RowsRise l n top) on (λ r. write_heap_part l n m base w (write_leaves l n m base w r)) (λ r. write_heap_part l n m base v (write_leaves l n m base v r)) (write_zeros l n base w one) (write_zeros l n base v two)
        (then_step (RowsRise l n top) on (write_leaves l n m base w) (write_leaves l n m base v) (write_heap_part l n m base w) (write_heap_part l n m base v) text_leaves text_heap)
        (text_zeros one two c)

  -- the rule in one base
  into_below : (w v : TextWrite I) → TextBelow l n w v → (number : ℕ) → TextBelow l n (write_into w number) (write_into v number)
  into_below w v k number = record {
    bases = k.bases;
    start = k.start;
    window = k.window;
    characters = k.characters;
    zero = rule_below_in l n w.zero v.zero k.zero number;
    length = length_in l n w.zero k.length number;
    more = length_in l n v.zero k.more number;
    begins = elim k.begins [ inl z ↦ inl (ap (λ rule. rule_in rule number) z) | inr c ↦ inr c ];
  }

  module _ (flow : Flow) (all : Bases) (top : List (Cell I)) (each : EachFrom (λ base number. IsPlaced n all top base × IsRegular flow.model base) 0 flow.bases.items) (w v : TextWrite I) (k : TextBelow l n w v) where
    abbrev one : Bool
    one = is_one_instance flow.bases.items w.bases

    abbrev two : Bool
    two = is_one_instance flow.bases.items v.bases

    -- in the base of a number, where the smaller write is made now
    begins_in : (on : Bool) → (on ≡ false → v.zero ≡ Any) → (number : ℕ) → has_base v.bases number ≡ true → (now : Bool) → (now ≡ false → (on ≡ false) ⊎ (has_base w.bases number ≡ false)) → Begins l n (write_into w number) (write_into v number) now one two
    begins_in false none number e now d = inl (ap (λ rule. rule_in rule number) (none refl))
    begins_in true none number e now d = elim k.begins [
      | inl z ↦ inl (ap (λ rule. rule_in rule number) z)
      | inr c ↦ inr (record { starts = c; alone = λ z. made_alone flow.bases.items w.bases v.bases k.bases c.some number e now d z })
    ]

    -- a write of a larger text to more bases leaves a larger row; the smaller one may be left out where nothing is
    -- known behind the larger one
    pub text_rises : (on : Bool) → (on ≡ false → v.zero ≡ Any) → Step (RowsRise l n top) on (write_text l n flow w) (write_text l n flow v)
    unfolding write_text write_base_if
    text_rises on none = walk_step (λ base number. IsPlaced n all top base × IsRegular flow.model base) (RowsRise l n top) on (write_in l n flow.model w one) (write_in l n flow.model v two)
        (λ base number p. if_step (RowsRise l n top) on (has_base w.bases number) (has_base v.bases number) (write_base l n flow.model base (write_into w number) one) (write_base l n flow.model base (write_into v number) two)
        (has_monotone w.bases v.bases number k.bases)
        (λ e now c d. text_base flow.model all top (write_into w number) (write_into v number) (into_below w v k number) base p.0 p.1 now one two (begins_in on none number e now d)))
        0 flow.bases.items each
