-- Writing a text and its closing zero.
use Rattle.std.specs.Prelude.{ℕ, ◌+◌, pos, Bool, true, false, cond, ◌&&◌, ◌||◌, Option, Some, None, is_some, List}
use Rattle.std.specs.Int.{int_min}
use Rattle.cc_base.specs.Lattices.{LatticeOf}
use Rattle.cc_base.specs.IntegerDomains.{IntegersOf, of_range}
use Rattle.cc_base.specs.NumberRanges.{Range}
use Rattle.c_layout.specs.declared.data_model.Model.{Model}
use Rattle.c_layout.specs.declared.leaf_lists.Class.{Class}
use Rattle.c_layout.specs.declared.leaf_lists.Class.TheVariants.{Char, Short, Int, Long, LongLong, Pointer}
use Rattle.c_layout.specs.declared.leaf_lists.Leaf.{Leaf}
use Rattle.c_layout.specs.declared.shapes.BaseInfo.{BaseInfo}
use Rattle.c_layout.specs.declared.shapes.ZeroPart.{ZeroPart}
use Rattle.cfg.specs.declared.programs.Flow.{Flow}
use Rattle.value_domain.specs.declared.strings.first_zeros.FirstZero.{FirstZero}
use Rattle.value_domain.specs.Strings.FirstZeros.{the_end, zero_lattice}
use Rattle.value_domain.specs.Strings.ZeroTables.{text_at}
use Rattle.value_domain.specs.declared.values.values.Value.{Value}
use Rattle.value_domain.specs.declared.values.row_cells.Cell.{Cell}
use Rattle.value_domain.specs.Values.ValueTables.{number_value}
use Rattle.store_cells.specs.declared.access_windows.Window.{Window}
use Rattle.store_cells.specs.declared.first_zero_writes.ZeroTarget.{ZeroTarget}
use Rattle.store_cells.specs.AccessWindows.{added_ranges}
use Rattle.store_cells.specs.ByteWrites.{byte_written}
use Rattle.store_cells.specs.ClassNumbers.{class_at}
use Rattle.store_cells.specs.FirstZeroWrites.{zero_target, any_zero, offsets_of}
use Rattle.store.specs.LeafSelection.{is_overlapped, has_stray}
use Rattle.store.specs.LiveBases.{has_base, is_one_instance}
use Rattle.store_cells.specs.NearValues.{near_number}
use Rattle.store_cells.specs.RowPositions.{leaf_position, class_position, zero_position, zero_at, put_zero, join_value}
use Rattle.store_cells.specs.Walks.{walk, turns}
use Rattle.transfer_library_writes.specs.declared.source_bytes.Characters.{Characters}
use Rattle.transfer_library_writes.specs.declared.text_writes.ZeroRule.{ZeroRule}
use Rattle.transfer_library_writes.specs.declared.text_writes.ZeroRule.TheVariants.{Text, Append, Any}
use Rattle.transfer_library_writes.specs.declared.text_writes.TextWrite.{TextWrite}

abbrev pub is_whole : Option ZeroTarget → Bool
is_whole None = false
is_whole (Some target) = target.whole

-- each write that may meet an array lies in it: all of them do, or each is of one byte
abbrev pub lies_in_array : Bool → Bool → ZeroTarget → Bool
lies_in_array one_byte inside start = one_byte || (inside && start.whole)

module _ {I : Type 0} where
  -- a character cell may be 0 or a character of the text; determinate
  abbrev pub character_value : LatticeOf I → IntegersOf I → Characters I → Bool → Value I
  character_value l n c signed = number_value l (l.join (cond signed c.signed c.unsigned) (n.one (pos 0))) c.labels

  abbrev pub value_of_class : LatticeOf I → IntegersOf I → Model → Class → Bool → Characters I → Value I
  value_of_class l n m Char signed c = character_value l n c signed
  value_of_class l n m Short signed c = byte_written l n m Short signed c.labels
  value_of_class l n m Int signed c = byte_written l n m Int signed c.labels
  value_of_class l n m Long signed c = byte_written l n m Long signed c.labels
  value_of_class l n m LongLong signed c = byte_written l n m LongLong signed c.labels
  value_of_class l n m Pointer signed c = byte_written l n m Pointer signed c.labels

  -- what a leaf that is touched is joined with
  abbrev pub leaf_value : LatticeOf I → IntegersOf I → Model → Leaf → Characters I → Value I
  leaf_value l n m leaf c = value_of_class l n m leaf.class leaf.signed c

  unfoldable pub write_leaf : LatticeOf I → IntegersOf I → Model → TextWrite I → Leaf → ℕ → List (Cell I) → List (Cell I)
  write_leaf l n m write leaf position row = cond (is_overlapped m leaf write.window) (join_value l n row position (leaf_value l n m leaf write.characters)) row

  abbrev pub write_leaf_of : LatticeOf I → IntegersOf I → Model → BaseInfo → TextWrite I → Leaf → ℕ → List (Cell I) → List (Cell I)
  write_leaf_of l n m base write leaf number row = write_leaf l n m write leaf (leaf_position base number) row

  unfoldable pub write_leaves : LatticeOf I → IntegersOf I → Model → BaseInfo → TextWrite I → List (Cell I) → List (Cell I)
  write_leaves l n m base write row = walk (write_leaf_of l n m base write) 0 base.shape.cells row

  abbrev pub write_stray : LatticeOf I → IntegersOf I → BaseInfo → TextWrite I → List (Cell I) → List (Cell I)
  write_stray l n base write row = cond (has_stray base.shape.cells Char write.window) (join_value l n row (class_position base 0) (character_value l n write.characters true)) row

  -- the class cells behind that of characters
  abbrev pub write_class : LatticeOf I → IntegersOf I → Model → BaseInfo → TextWrite I → ℕ → List (Cell I) → List (Cell I)
  write_class l n m base write number row = join_value l n row (class_position base (number + 1)) (byte_written l n m (class_at (number + 1)) true write.characters.labels)

  unfoldable pub write_class_cells : LatticeOf I → IntegersOf I → Model → BaseInfo → TextWrite I → List (Cell I) → List (Cell I)
  write_class_cells l n m base write row = turns (write_class l n m base write) 5 (write_stray l n base write row)

  abbrev pub up_to_end_of : LatticeOf I → IntegersOf I → Range → I
  up_to_end_of l n None = l.least
  up_to_end_of l n (Some p) = of_range l n (Some (int_min p.0 the_end, int_min p.1 the_end))

  -- the sums, none above END
  abbrev pub up_to_end : LatticeOf I → IntegersOf I → I → I → I
  up_to_end l n x y = up_to_end_of l n (added_ranges (n.bounds x) (n.bounds y))

  -- the first zero of an array after a write that lies in it
  abbrev pub zero_after : LatticeOf I → IntegersOf I → FirstZero I → Window → ZeroRule I → FirstZero I
  zero_after l n old local (Text length) = text_at l n old (offsets_of l n local) (near_number l n length)
  zero_after l n old local (Append length unknown) = record { at = up_to_end l n old.at (near_number l n length) }
  zero_after l n old local Any = any_zero l n

  abbrev pub sure_zero : LatticeOf I → Bool → FirstZero I → FirstZero I → FirstZero I
  sure_zero l alone old new = cond alone new ((zero_lattice l).join old new)

  -- each write of a text that may meet an array lies in it: of one that may begin behind the array each byte lies there, or
  -- none is written; a text that is appended begins there too
  abbrev pub text_lies_in_array : ZeroRule I → Bool → Bool → ZeroTarget → Bool
  text_lies_in_array (Text length) one_byte inside start = one_byte || inside
  text_lies_in_array (Append length unknown) one_byte inside start = lies_in_array one_byte inside start
  text_lies_in_array Any one_byte inside start = lies_in_array one_byte inside start

  abbrev pub zero_met_at : LatticeOf I → IntegersOf I → FirstZero I → TextWrite I → Bool → Bool → Option ZeroTarget → FirstZero I
  zero_met_at l n old write alone inside None = any_zero l n
  zero_met_at l n old write alone inside (Some start) = cond (text_lies_in_array write.zero write.one_byte inside start)
      (sure_zero l (alone && start.whole) old (zero_after l n old start.local write.zero)) (any_zero l n)

  -- the first zero of an array that the write meets: the old one too where the write may begin elsewhere
  abbrev pub zero_met : LatticeOf I → IntegersOf I → ZeroPart → FirstZero I → TextWrite I → Bool → FirstZero I
  zero_met l n part old write alone = zero_met_at l n old write alone (is_whole (zero_target part write.window)) (zero_target part write.start)

  abbrev pub write_zero_at : LatticeOf I → IntegersOf I → TextWrite I → Bool → ZeroPart → ℕ → List (Cell I) → List (Cell I)
  write_zero_at l n write alone part position row = put_zero row position (zero_met l n part (zero_at l n row position) write alone)

  unfoldable pub write_zero : LatticeOf I → IntegersOf I → BaseInfo → TextWrite I → Bool → ZeroPart → ℕ → List (Cell I) → List (Cell I)
  write_zero l n base write alone part number row = cond (is_some (zero_target part write.window)) (write_zero_at l n write alone part (zero_position base number) row) row

  unfoldable pub write_zeros : LatticeOf I → IntegersOf I → BaseInfo → TextWrite I → Bool → List (Cell I) → List (Cell I)
  write_zeros l n base write alone row = walk (write_zero l n base write alone) 0 base.shape.zeros row

  abbrev pub write_heap_part : LatticeOf I → IntegersOf I → Model → BaseInfo → TextWrite I → List (Cell I) → List (Cell I)
  write_heap_part l n m base write row = cond base.shape.heap (write_class_cells l n m base write row) row

  unfoldable pub write_base : LatticeOf I → IntegersOf I → Model → BaseInfo → TextWrite I → Bool → List (Cell I) → List (Cell I)
  write_base l n m base write alone row = write_zeros l n base write alone (write_heap_part l n m base write (write_leaves l n m base write row))

  unfoldable pub write_base_if : LatticeOf I → IntegersOf I → Model → TextWrite I → Bool → Bool → BaseInfo → List (Cell I) → List (Cell I)
  write_base_if l n m write alone wanted base row = cond wanted (write_base l n m base write alone row) row

  -- nothing is known behind a text that is not known to end in this base
  abbrev pub rule_in : ZeroRule I → ℕ → ZeroRule I
  rule_in (Text length) number = Text length
  rule_in (Append length unknown) number = cond (has_base unknown number) Any (Append length unknown)
  rule_in Any number = Any

  abbrev pub write_into : TextWrite I → ℕ → TextWrite I
  write_into write number = record write { zero = rule_in write.zero number }

  abbrev pub write_in : LatticeOf I → IntegersOf I → Model → TextWrite I → Bool → BaseInfo → ℕ → List (Cell I) → List (Cell I)
  write_in l n m write alone base number row = write_base_if l n m (write_into write number) alone (has_base write.bases number) base row

  -- the text in each base of the set
  unfoldable pub write_text : LatticeOf I → IntegersOf I → Flow → TextWrite I → List (Cell I) → List (Cell I)
  write_text l n flow write row = walk (write_in l n flow.model write (is_one_instance flow.bases.items write.bases)) 0 flow.bases.items row
