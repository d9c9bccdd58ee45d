-- What calls do in rows from a floor on leaves rows from it on.
use Rattle.std.specs.Prelude.{◌≡◌, ℕ, ℤ, pos, negsuc, ◌-ℤ◌, ◌+ℤ◌, ◌≤ℤ◌, int_le, Bool, true, false, cond, not, ◌&&◌, Option, Some, None, is_none, List, length, slice_get}
use Rattle.std.specs.Int.{int_min, int_max, w128, saturate_signed}
use Rattle.std.specs.Ordering.{int_eq}
use Rattle.std.proofs.Common.{arith}
use Rattle.std.proofs.lemmas.Int.{ints, clamps}
use Rattle.std.proofs.lemmas.Bool.{cond_both, and_parts}
use Rattle.cc_base.specs.Lattices.{LatticeOf}
use Rattle.cc_base.specs.NumberRanges.{Range, range_met}
use Rattle.cc_base.specs.IntegerTypes.{greatest_of}
use Rattle.cc_base.specs.IntegerDomains.{IntegersOf, between_or_least, of_range}
use Rattle.c_layout.specs.declared.data_model.Model.{Model}
use Rattle.c_layout.specs.declared.leaf_lists.Class.{Class}
use Rattle.c_layout.specs.declared.leaf_lists.Class.TheVariants.{Char, Int, Pointer}
use Rattle.c_layout.specs.declared.library_functions.LibFn.{LibFn}
use Rattle.c_layout.specs.declared.library_functions.LibFn.TheVariants as f
use Rattle.c_layout.specs.declared.shapes.BaseInfo.{BaseInfo}
use Rattle.cfg.specs.declared.programs.Flow.{Flow}
use Rattle.pointer_domain.specs.declared.base_sets.Bases.{Bases}
use Rattle.pointer_domain.specs.declared.pointer_sets.Pointers.{Pointers}
use Rattle.pointer_domain.specs.BaseSets.{no_base}
use Rattle.pointer_domain.specs.PointerLattice.{pointer_lattice}
use Rattle.pointer_domain.specs.PointerTables.{offsets}
use Rattle.value_domain.specs.declared.values.values.Value.{Value}
use Rattle.value_domain.specs.declared.values.row_cells.Cell.{Cell}
use Rattle.value_domain.specs.declared.values.row_cells.Cell.TheVariants as cell
use Rattle.value_domain.specs.Values.LabelSets.{no_labels, all_labels}
use Rattle.value_domain.specs.Values.Values.{value_lattice}
use Rattle.value_domain.specs.Values.ValueTables.{number_value, pointer_value}
use Rattle.store_cells.specs.declared.access_windows.Window.{Window}
use Rattle.store_objects.specs.declared.allocation.Fresh.{Fresh}
use Rattle.store_cells.specs.declared.cell_reads.Access.{Access}
use Rattle.store_cells.specs.AccessWindows.{window_within}
use Rattle.store_objects.specs.Allocations.{site_of, renewed_pointer}
use Rattle.store_cells.specs.ClassNumbers.{class_at, is_pointer}
use Rattle.store.specs.LeafSelection.{has_stray, is_overlapped, meets_padding}
use Rattle.store.specs.Loads.{load_base}
use Rattle.store_objects.specs.LiveBases.{has_base}
use Rattle.store_cells.specs.NearValues.{near_number}
use Rattle.store_cells.specs.RowPositions.{leaf_position, class_position, value_at}
use Rattle.store_cells.specs.ScalarTypes.{kind_of}
use Rattle.transfer_checks.specs.declared.library_arguments.Argument.{Argument}
use Rattle.transfer_checks.specs.declared.string_scans.Scanned.{Scanned}
use Rattle.transfer_checks.specs.LibraryArguments.{after_write, within_bases, check_argument, touched_window, cut_by_room}
use Rattle.transfer_checks.specs.Temporaries.{temp_position}
use Rattle.transfer_library_plans.specs.declared.call_plans.Effect.{Effect}
use Rattle.transfer_library_plans.specs.declared.call_plans.Effect.TheVariants.{Unreached, Result, Text, Fill, Copy, Allocate, Reallocate, Free}
use Rattle.transfer_library_writes.specs.declared.copied_bytes.CopiedBytes.{CopiedBytes}
use Rattle.transfer_library.specs.declared.memory_calls.Target.{Target}
use Rattle.transfer_library_writes.specs.declared.source_bytes.Characters.{Characters}
use Rattle.transfer_library_plans.specs.declared.call_plans.Trail.{Trail}
use Rattle.transfer_library_writes.specs.declared.text_writes.ZeroRule.{ZeroRule}
use Rattle.transfer_library_writes.specs.declared.text_writes.ZeroRule.TheVariants as zero
use Rattle.transfer_library_plans.specs.Allocations.{products, instance_size, plan_malloc, plan_calloc, plan_realloc, plan_free}
use Rattle.transfer_library_plans.specs.Arguments.{value_of_argument, argument_value}
use Rattle.transfer_library_plans.specs.Calls.{Call}
use Rattle.c_layout.specs.CharacterClasses.{is_lower, is_upper, has_class}
use Rattle.transfer_library_plans.specs.Characters.{meets, sum_of, difference_of, tested_number, raised, lowered, answer, plan_in, plan_character}
use Rattle.transfer_library_writes.specs.CopyWrites.{is_read_class, no_bytes, with_cell, with_padding, with_leaf, with_leaves, with_class, with_class_cells, with_base, with_base_if, with_base_of, bytes_of_source}
use Rattle.transfer_library.specs.Effects.{older_of, put_result, allocated, apply}
use Rattle.transfer_library.specs.MemoryCalls.{lower_of, is_one_byte, room_trail, target_of, nothing_written, copy_in_window, both_given, copy_both, plan_copy, fill_in_window, fill_trail, fill_given, plan_fill}
use Rattle.transfer_library_plans.specs.Outputs.{has_place, argument_at, scan_at, scanned_trail, length_of, plan_putchar, plan_puts, plan_printf, strlen_scanned, plan_strlen, plan_strcmp}
use Rattle.transfer_library.specs.Planning.{plan_call}
use Rattle.transfer_library_plans.specs.Plans.{harmless}
use Rattle.transfer_library_writes.specs.Sources.{read_characters_if, read_characters, characters_read, number_of, character_access, characters_of}
use Rattle.transfer_library.specs.StringCalls.{one_more, one_less, text_effect, text_from_start, two_given, source_characters, strcpy_scanned, plan_strcpy, append_start, append_window, appended, append_effect, strcat_of, strcat_need, strcat_scanned, plan_strcat, strncpy_trail, strncpy_scanned, plan_strncpy, input_characters, line_count, line_trail, line_rule, fgets_given, plan_fgets}
use Rattle.row_bounds.specs.Stores.Floors.{IsFrom, IsPointerFrom, IsValueFrom, IsReadFrom, AreFrom, KeepsFrom, LeavesFrom}
use Rattle.row_bounds.proofs.stores.Ranges.{FloorLaws, met_from, least_from, between_from, range_from, near_from, convert_from, whole_from, low_from, count_low}
use Rattle.row_bounds.proofs.stores.Values.{class_size, no_pointer_from, pointers_join_from, least_value_from, near_value_from, number_from, pointer_from, joined_from, at_from, zero_from}
use Rattle.row_bounds.proofs.stores.Rows.{walk_keeps, turns_keep, set_from}
use Rattle.row_bounds.proofs.stores.Loads.{load_base_from}
use Rattle.row_bounds.proofs.stores.Objects.{free_keeps}
use Rattle.row_bounds.proofs.stores.Allocations.{renew_keeps, renewed_from}
use Rattle.row_bounds.proofs.steps.Pointers.{within_from, argument_from}
use Rattle.row_bounds.proofs.steps.Writes.{AreCharactersFrom, text_keeps, fill_keeps, copy_keeps}

-- ---- letters

le_true : (a c : ℤ) → int_le a c ≡ true → a ≤ℤ c
le_true a c h = grind (arith, ints)

-- small numbers are not cut to 128 bits
sat_high : (z : ℤ) → pos 0 ≤ℤ z → z ≤ℤ pos 300 → pos 0 ≤ℤ saturate_signed w128 z
sat_high (pos a) h j = omega (arith, ints)
sat_high (negsuc a) h j = absurd (omega (arith, ints))

lower_low : (lo : ℤ) → is_lower lo ≡ true → pos 0 ≤ℤ difference_of lo (pos 32)
lower_low lo h =
    let p = and_parts (int_le (pos 97) lo) (int_le lo (pos 122)) h in
    let a = le_true (pos 97) lo p.0 in
    let c = le_true lo (pos 122) p.1 in
    sat_high (lo -ℤ pos 32) (omega (arith, ints)) (omega (arith, ints))

upper_low : (lo : ℤ) → is_upper lo ≡ true → pos 0 ≤ℤ sum_of lo (pos 32)
upper_low lo h =
    let p = and_parts (int_le (pos 65) lo) (int_le lo (pos 90)) h in
    let a = le_true (pos 65) lo p.0 in
    let c = le_true lo (pos 90) p.1 in
    sat_high (lo +ℤ pos 32) (omega (arith, ints)) (omega (arith, ints))

module _ {I : Type 0} {l : LatticeOf I} {n : IntegersOf I} {stands : I → ℤ → Type 0} {floor : ℤ} (k : FloorLaws l n stands floor) where
  -- ---- effects

  abbrev pub IsEffectFrom : Effect I → Type 0
  IsEffectFrom Unreached = Unit {0}
  IsEffectFrom (Result v) = IsValueFrom n floor v
  IsEffectFrom (Text write v) = AreCharactersFrom k write.characters × IsValueFrom n floor v
  IsEffectFrom (Fill write v) = IsValueFrom n floor v
  IsEffectFrom (Copy write v) = IsPointerFrom n floor write.bytes.pointers × IsValueFrom n floor v
  IsEffectFrom (Allocate size zero) = IsFrom (pos 0) (n.bounds size)
  IsEffectFrom (Reallocate size old) = IsFrom (pos 0) (n.bounds size)
  IsEffectFrom (Free p) = Unit {0}

  abbrev NumberFrom : I → Type 0
  NumberFrom x = IsFrom floor (n.bounds x)

  -- the floor lies below what is at least -1000
  low_number : (c : ℤ) → negsuc 999 ≤ℤ c → floor ≤ℤ c
  low_number c h = let v = k.low in omega (arith, ints)

  result_kept : (flow : Flow) (to : Option ℕ) (v : Value I) → IsValueFrom n floor v → KeepsFrom n floor (put_result flow to v)
  result_kept flow None v h row j = j
  result_kept flow (Some temp) v h row j = set_from n floor row (temp_position flow temp) (cell.Value v) h j

  allocated_kept : (flow : Flow) (to newest : Option ℕ) (size : I) (fresh : Fresh I) → IsFrom (pos 0) (n.bounds size) → LeavesFrom n floor (allocated l n flow to newest size fresh)
  allocated_kept flow to None size fresh h row j = tt
  allocated_kept flow to (Some newest) size fresh h row j =
      let near = near_number l n size in
      let pointer = renewed_pointer l n flow.bases.items (site_of newest (older_of newest)) near in
      result_kept flow to (pointer_value l pointer) (pointer_from k pointer (renewed_from k flow.bases.items newest (older_of newest) near (near_from k (pos 0) size h))) _ (renew_keeps k flow.model flow.bases.items newest (older_of newest) near fresh row j)

  pub apply_keeps : (flow : Flow) (to newest : Option ℕ) (e : Effect I) → IsEffectFrom e → LeavesFrom n floor (apply l n flow to newest e)
  unfolding apply
  apply_keeps flow to newest Unreached h row j = tt
  apply_keeps flow to newest (Result v) h row j = result_kept flow to v h row j
  apply_keeps flow to newest (Text write v) h row j = result_kept flow to v h.1 _ (text_keeps k flow write h.0 row j)
  apply_keeps flow to newest (Fill write v) h row j = result_kept flow to v h _ (fill_keeps k flow write row j)
  apply_keeps flow to newest (Copy write v) h row j = result_kept flow to v h.1 _ (copy_keeps k flow write h.0 row j)
  apply_keeps flow to newest (Allocate size zero) h row j = allocated_kept flow to newest size _ h row j
  apply_keeps flow to newest (Reallocate size old) h row j = allocated_kept flow to newest size _ h row j
  apply_keeps flow to newest (Free p) h row j = free_keeps k flow.bases.items p row j

  -- behind checks
  planned_from : (c : Bool) (e : Effect I) → IsEffectFrom e → IsEffectFrom (cond c e Unreached)
  planned_from true e h = h
  planned_from false e h = tt

  -- ---- functions on characters

  between_low : (c d : ℤ) → negsuc 999 ≤ℤ c → IsFrom floor (n.bounds (between_or_least l n c d))
  between_low c d h = between_from k floor c d (low_number c h)

  raised_from : (lo hi : ℤ) → negsuc 0 ≤ℤ lo → IsFrom floor (n.bounds (raised l n lo hi))
  raised_from lo hi h = cond_both (int_eq lo hi && is_lower lo) (between_or_least l n (difference_of lo (pos 32)) (difference_of lo (pos 32))) (cond (not (int_eq lo hi) && meets lo hi (pos 97) (pos 122)) (between_or_least l n (int_min lo (pos 65)) hi) (between_or_least l n lo hi)) NumberFrom
      (λ e. let p = and_parts (int_eq lo hi) (is_lower lo) e in let q = lower_low lo p.1 in between_low (difference_of lo (pos 32)) (difference_of lo (pos 32)) (omega (arith, ints)))
      (λ e. cond_both (not (int_eq lo hi) && meets lo hi (pos 97) (pos 122)) (between_or_least l n (int_min lo (pos 65)) hi) (between_or_least l n lo hi) NumberFrom (λ g. between_low (int_min lo (pos 65)) hi (omega (arith, ints, clamps))) (λ g. between_low lo hi (omega (arith, ints))))

  lowered_from : (lo hi : ℤ) → negsuc 0 ≤ℤ lo → IsFrom floor (n.bounds (lowered l n lo hi))
  lowered_from lo hi h = cond_both (int_eq lo hi && is_upper lo) (between_or_least l n (sum_of lo (pos 32)) (sum_of lo (pos 32))) (cond (not (int_eq lo hi) && meets lo hi (pos 65) (pos 90)) (between_or_least l n lo (int_max hi (pos 122))) (between_or_least l n lo hi)) NumberFrom
      (λ e. let p = and_parts (int_eq lo hi) (is_upper lo) e in let q = upper_low lo p.1 in between_low (sum_of lo (pos 32)) (sum_of lo (pos 32)) (omega (arith, ints)))
      (λ e. cond_both (not (int_eq lo hi) && meets lo hi (pos 65) (pos 90)) (between_or_least l n lo (int_max hi (pos 122))) (between_or_least l n lo hi) NumberFrom (λ g. between_low lo (int_max hi (pos 122)) (omega (arith, ints))) (λ g. between_low lo hi (omega (arith, ints))))

  tested_from : (function : LibFn) (lo hi : ℤ) → IsFrom floor (n.bounds (tested_number l n function lo hi))
  tested_from function lo hi = cond_both (int_eq lo hi) (cond (has_class function lo) (n.one (pos 1)) (n.one (pos 0))) (between_or_least l n (pos 0) (pos 1)) NumberFrom
      (λ e. cond_both (has_class function lo) (n.one (pos 1)) (n.one (pos 0)) NumberFrom (λ g. low_from k (pos 1) (omega (arith, ints))) (λ g. zero_from k))
      (λ e. between_low (pos 0) (pos 1) (omega (arith, ints)))

  answer_from : (function : LibFn) (c : Value I) (lo hi : ℤ) → negsuc 0 ≤ℤ lo → IsValueFrom n floor (answer l n function c lo hi)
  answer_from f.Toupper c lo hi h = number_from k (raised l n lo hi) (raised_from lo hi h)
  answer_from f.Tolower c lo hi h = number_from k (lowered l n lo hi) (lowered_from lo hi h)
  answer_from function c lo hi h = number_from k (tested_number l n function lo hi) (tested_from function lo hi)

  in_from : (function : LibFn) (c : Value I) (r : Range) → IsFrom (negsuc 0) r → IsEffectFrom (plan_in l n function c r).effect
  in_from function c None h = tt
  in_from function c (Some p) h = answer_from function c p.0 p.1 h

  character_plan : (function : LibFn) (c : Value I) → IsEffectFrom (plan_character l n function c).effect
  unfolding plan_character
  character_plan function c = in_from function c (range_met (n.bounds c.num) (negsuc 0) (pos 255)) (met_from (negsuc 0) (n.bounds c.num) (negsuc 0) (pos 255) (omega (arith, ints)))

  -- ---- targets

  abbrev IsTargetFrom : Target I → Type 0
  IsTargetFrom target = IsPointerFrom n floor target.rest

  nothing_from : (target : Target I) → IsTargetFrom target → IsEffectFrom (nothing_written l target)
  nothing_from target h = cond_both (int_le (pos 1) (lower_of target.count)) Unreached (Result (pointer_value l target.rest)) IsEffectFrom (λ e. tt) (λ e. pointer_from k target.rest h)

  text_from : (call : Call) (target : Target I) (start w : Option Window) (one_byte : Bool) (characters : Characters I) (rule : ZeroRule I) → IsTargetFrom target → AreCharactersFrom k characters → IsEffectFrom (text_effect l call target start w one_byte characters rule)
  text_from call target None w one_byte characters rule h j = nothing_from target h
  text_from call target (Some start) None one_byte characters rule h j = nothing_from target h
  text_from call target (Some start) (Some w) one_byte characters rule h j = (j, pointer_from k target.rest h)

  set_from_window : (call : Call) (target : Target I) (c : Value I) (w start : Option Window) → IsTargetFrom target → IsEffectFrom (fill_in_window l n call target c w start)
  set_from_window call target c None start h = nothing_from target h
  set_from_window call target c (Some w) None h = nothing_from target h
  set_from_window call target c (Some w) (Some start) h = pointer_from k target.rest h

  -- ---- a row from the floor on

  module _ (call : Call) (row : List (Cell I)) (j : AreFrom n floor row) where
    of_argument : (found : Option ℕ) → IsValueFrom n floor (value_of_argument l n call.flow row found)
    of_argument None = near_value_from k ((value_lattice l).least) (least_value_from k)
    of_argument (Some temp) = at_from k row (temp_position call.flow temp) j

    value_from : (at : ℕ) → IsValueFrom n floor (argument_value l n call row at)
    unfolding argument_value
    value_from at = of_argument (slice_get call.arguments at)

    given_from : (at : ℕ) → IsPointerFrom n floor (argument_at l n call row at).rest
    given_from at =
        let given = check_argument l n call.flow.bases.items row (argument_value l n call row at).pointer in
        let h = argument_from k call.flow.bases.items row (argument_value l n call row at).pointer (value_from at).1 in
        cond_both (has_place n given.rest) given (record given { rest = within_bases l n given.rest no_base }) (λ a. IsPointerFrom n floor a.rest) (λ e. h) (λ e. within_from k given.rest no_base h)

    -- ---- allocations

    size_from : (m : Model) (r : Range) → IsFrom (pos 0) (n.bounds (instance_size l n m r))
    size_from m r =
        let most = greatest_of (kind_of m Pointer true) in
        near_from k (pos 0) (of_range l n (range_met r (pos 0) most)) (range_from k (pos 0) (range_met r (pos 0) most) (met_from (pos 0) r (pos 0) most (omega (arith, ints))))

    malloc_plan : IsEffectFrom (plan_malloc l n call row).effect
    unfolding plan_malloc
    malloc_plan = planned_from _ (Allocate (instance_size l n call.flow.model (n.bounds (argument_value l n call row 0).num)) false) (size_from call.flow.model (n.bounds (argument_value l n call row 0).num))

    calloc_plan : IsEffectFrom (plan_calloc l n call row).effect
    unfolding plan_calloc
    calloc_plan =
        let r = products (n.bounds (argument_value l n call row 0).num) (n.bounds (argument_value l n call row 1).num) in
        planned_from _ (Allocate (instance_size l n call.flow.model r) true) (size_from call.flow.model r)

    realloc_plan : IsEffectFrom (plan_realloc l n call row).effect
    unfolding plan_realloc
    realloc_plan = planned_from _ (Reallocate (instance_size l n call.flow.model (n.bounds (argument_value l n call row 1).num)) _) (size_from call.flow.model (n.bounds (argument_value l n call row 1).num))

    free_plan : IsEffectFrom (plan_free l n call row).effect
    unfolding plan_free
    free_plan = planned_from _ (Free _) tt

    -- ---- what is read

    characters_if : (wanted : Bool) (access : Access) (base : BaseInfo) (x : Option (Value I)) → IsReadFrom n floor x → IsReadFrom n floor (read_characters_if l n call.flow.model row wanted access base x)
    characters_if true access base x h = joined_from k x (load_base l n call.flow.model base row access) h (load_base_from k call.flow.model row j base access)
    characters_if false access base x h = h

    read_from : (set : Bases) (w : Window) (signed : Bool) → IsReadFrom n floor (characters_read l n call.flow.model call.flow.bases.items row set w signed)
    unfolding characters_read
    read_from set w signed = walk_keeps (λ x. IsReadFrom n floor x) (read_characters l n call.flow.model row set (character_access signed w)) (λ base number x h. characters_if (has_base set number) (character_access signed w) base x h) 0 call.flow.bases.items None tt

    number_read : (x : Option (Value I)) → IsReadFrom n floor x → IsFrom floor (n.bounds (number_of l x))
    number_read None h = least_from k floor
    number_read (Some v) h = h.0

    characters_from : (set : Bases) (w : Option Window) → AreCharactersFrom k (characters_of l n call.flow.model call.flow.bases.items row set w)
    characters_from set None = (least_from k floor, least_from k floor)
    characters_from set (Some w) = (number_read (characters_read l n call.flow.model call.flow.bases.items row set w true) (read_from set w true), number_read (characters_read l n call.flow.model call.flow.bases.items row set w false) (read_from set w false))

    source_from : (source : Pointers I) (need : Range) → AreCharactersFrom k (source_characters l n call row source need)
    source_from source need = characters_from source.bases (touched_window n source need)

    abbrev AreBytesFrom : CopiedBytes I → Type 0
    AreBytesFrom found = IsPointerFrom n floor found.pointers

    cell_read : (found : CopiedBytes I) (v : Value I) (class : Class) → AreBytesFrom found → IsValueFrom n floor v → AreBytesFrom (with_cell l found v class)
    cell_read found v class h q = cond_both (is_pointer class) ((pointer_lattice l).join found.pointers v.pointer) found.pointers (λ p. IsPointerFrom n floor p) (λ e. pointers_join_from k found.pointers v.pointer h q.1) (λ e. h)

    bytes_if : (c : Bool) (x y : CopiedBytes I) → AreBytesFrom x → AreBytesFrom y → AreBytesFrom (cond c x y)
    bytes_if true x y h q = h
    bytes_if false x y h q = q

    base_read : (base : BaseInfo) (w : Window) (found : CopiedBytes I) → AreBytesFrom found → AreBytesFrom (with_base l n call.flow.model base row w found)
    unfolding with_base with_leaves with_leaf with_class_cells
    base_read base w found h =
        let leaves = walk_keeps AreBytesFrom (with_leaf l n call.flow.model base row w)
        (λ leaf at x q. bytes_if (is_overlapped call.flow.model leaf w) (with_cell l x (value_at l n row (leaf_position base at)) leaf.class) x (cell_read x (value_at l n row (leaf_position base at)) leaf.class q (at_from k row (leaf_position base at) j)) q)
        0 base.shape.cells found h in
        let read = with_leaves l n call.flow.model base row w found in
        bytes_if base.shape.heap (with_class_cells l n base row w read) (with_padding read (meets_padding call.flow.model base.shape.cells w base.size))
        (turns_keep AreBytesFrom (with_class l n base row (has_stray base.shape.cells Char w))
        (λ at x q. bytes_if (is_read_class (has_stray base.shape.cells Char w) at) (with_cell l x (value_at l n row (class_position base at)) (class_at at)) x (cell_read x (value_at l n row (class_position base at)) (class_at at) q (at_from k row (class_position base at) j)) q)
        6 read leaves)
        (bytes_if (meets_padding call.flow.model base.shape.cells w base.size) (record { indeterminate = true; labels = all_labels; pointers = read.pointers; numbers = true }) read leaves leaves)

    bytes_from : (set : Bases) (w : Option Window) → AreBytesFrom (bytes_of_source l n call.flow row set w)
    unfolding with_base_if
    bytes_from set None = no_pointer_from k
    bytes_from set (Some w) = walk_keeps AreBytesFrom (with_base_of l n call.flow.model row set w) (λ base number x q. bytes_if (has_base set number) (with_base l n call.flow.model base row w x) x (base_read base w x q) q) 0 call.flow.bases.items (no_bytes l) (no_pointer_from k)

    -- ---- calls on memory

    copy_window : (from : Argument I) (target : Target I) (w : Option Window) → IsTargetFrom target → IsEffectFrom (copy_in_window l n call row from target w)
    copy_window from target None h = nothing_from target h
    copy_window from target (Some w) h = (bytes_from from.rest.bases (touched_window n from.rest target.count), pointer_from k target.rest h)

    -- the target of a pointer from the floor on
    target_from : (trail : Trail) (p : Pointers I) (need : Range) → IsPointerFrom n floor p → IsTargetFrom (target_of l n call trail p need)
    target_from trail p need h = within_from k p (after_write call.flow.bases.items p.bases need) h

    copied_plan : (v : Value I) (to from : Argument I) → IsPointerFrom n floor to.rest → IsEffectFrom (copy_both l n call row v to from).effect
    copied_plan v to from h =
        let trail = room_trail n (room_trail n (both_given v to from) to.rest (n.bounds v.num)) from.rest (cut_by_room n (n.bounds v.num) to.rest) in
        let need = cut_by_room n (cut_by_room n (n.bounds v.num) to.rest) from.rest in
        let target = target_of l n call trail to.rest need in
        planned_from target.trail.goes_on (copy_in_window l n call row from target (touched_window n target.rest target.count)) (copy_window from target (touched_window n target.rest target.count) (target_from trail to.rest need h))

    copy_plan : IsEffectFrom (plan_copy l n call row).effect
    unfolding plan_copy
    copy_plan = copied_plan (argument_value l n call row 2) (argument_at l n call row 0) (argument_at l n call row 1) (given_from 0)

    filled_plan : (c v : Value I) (to : Argument I) → IsPointerFrom n floor to.rest → IsEffectFrom (fill_given l n call c v to).effect
    filled_plan c v to h =
        let trail = room_trail n (fill_trail n c v to) to.rest (n.bounds v.num) in
        let need = cut_by_room n (n.bounds v.num) to.rest in
        let target = target_of l n call trail to.rest need in
        planned_from target.trail.goes_on (fill_in_window l n call target c (touched_window n target.rest target.count) (window_within (offsets n target.rest)))
        (set_from_window call target c (touched_window n target.rest target.count) (window_within (offsets n target.rest)) (target_from trail to.rest need h))

    fill_plan : IsEffectFrom (plan_fill l n call row).effect
    unfolding plan_fill
    fill_plan = filled_plan (argument_value l n call row 1) (argument_value l n call row 2) (argument_at l n call row 0) (given_from 0)

    -- ---- calls on strings

    start_plan : (target : Target I) (characters : Characters I) (rule : ZeroRule I) → IsTargetFrom target → AreCharactersFrom k characters → IsEffectFrom (text_from_start l n call target characters rule).effect
    start_plan target characters rule h q =
        planned_from target.trail.goes_on (text_effect l call target (window_within (offsets n target.rest)) (touched_window n target.rest target.count) (is_one_byte target.count) characters rule)
        (text_from call target (window_within (offsets n target.rest)) (touched_window n target.rest target.count) (is_one_byte target.count) characters rule h q)

    strcpy_scan : (to from : Argument I) (found : Scanned I) → IsPointerFrom n floor to.rest → IsEffectFrom (strcpy_scanned l n call row to from found).effect
    strcpy_scan to from found h =
        let trail = room_trail n (scanned_trail (two_given to from) found) to.rest (one_more n found.length) in
        let need = cut_by_room n (one_more n found.length) to.rest in
        start_plan (target_of l n call trail to.rest need) (source_characters l n call row (within_bases l n from.rest found.bases) need) (zero.Text (one_less l n need)) (target_from trail to.rest need h) (source_from (within_bases l n from.rest found.bases) need)

    strcpy_plan : IsEffectFrom (plan_strcpy l n call row).effect
    unfolding plan_strcpy
    strcpy_plan = strcpy_scan (argument_at l n call row 0) (argument_at l n call row 1) (scan_at l n call row (argument_at l n call row 1)) (given_from 0)

    strncpy_scan : (v : Value I) (to from : Argument I) (found : Scanned I) → IsPointerFrom n floor to.rest → IsEffectFrom (strncpy_scanned l n call row v to from found).effect
    strncpy_scan v to from found h =
        let trail = room_trail n (strncpy_trail l n call row v to from found) to.rest (n.bounds v.num) in
        let need = cut_by_room n (n.bounds v.num) to.rest in
        start_plan (target_of l n call trail to.rest need) (source_characters l n call row from.rest need) zero.Any (target_from trail to.rest need h) (source_from from.rest need)

    strncpy_plan : IsEffectFrom (plan_strncpy l n call row).effect
    unfolding plan_strncpy
    strncpy_plan = strncpy_scan (argument_value l n call row 2) (argument_at l n call row 0) (argument_at l n call row 1) (scan_at l n call row (argument_at l n call row 1)) (given_from 0)

    append_plan : (source : Pointers I) (there : Scanned I) (target : Target I) (length : I) → IsTargetFrom target → IsEffectFrom (strcat_of l n call row source there target length).effect
    append_plan source there target length h =
        let characters = source_characters l n call row source (one_more n length) in
        planned_from target.trail.goes_on (append_effect l n call target there characters length)
        (text_from call target (window_within (append_start n target.rest there.length)) (append_window n target.rest there.length target.count) false characters (zero.Append length there.unknown) h (source_from source (one_more n length)))

    strcat_scan : (to from : Argument I) (there added : Scanned I) → IsPointerFrom n floor to.rest → IsEffectFrom (strcat_scanned l n call row to from there added).effect
    strcat_scan to from there added h =
        let place = within_bases l n to.rest there.bases in
        let trail = room_trail n (scanned_trail (scanned_trail (two_given to from) there) added) place (strcat_need n there added) in
        let need = cut_by_room n (strcat_need n there added) place in
        append_plan (within_bases l n from.rest added.bases) there (target_of l n call trail place need) (appended l n there.length added.length need) (target_from trail place need (within_from k to.rest there.bases h))

    strcat_plan : IsEffectFrom (plan_strcat l n call row).effect
    unfolding plan_strcat
    strcat_plan = strcat_scan (argument_at l n call row 0) (argument_at l n call row 1) (scan_at l n call row (argument_at l n call row 0)) (scan_at l n call row (argument_at l n call row 1)) (given_from 0)

    input_from : AreCharactersFrom k (input_characters l n call.flow.model)
    input_from = (whole_from k (kind_of call.flow.model Char true) (class_size call.flow.model Char), whole_from k (kind_of call.flow.model Char false) (class_size call.flow.model Char))

    line_plan : (v : Value I) (to : Argument I) → IsPointerFrom n floor to.rest → IsEffectFrom (fgets_given l n call v to).effect
    line_plan v to h =
        let trail = room_trail n (line_trail n v to) to.rest (line_count n v) in
        let need = cut_by_room n (line_count n v) to.rest in
        start_plan (target_of l n call trail to.rest need) (input_characters l n call.flow.model) (line_rule l n need) (target_from trail to.rest need h) input_from

    pub fgets_plan : IsEffectFrom (plan_fgets l n call row).effect
    unfolding plan_fgets
    fgets_plan = line_plan (argument_value l n call row 1) (argument_at l n call row 0) (given_from 0)

    -- ---- calls that give a number

    length_from : (found : Scanned I) → IsFrom floor (n.bounds (length_of l n call.flow.model found))
    length_from found =
        let most = greatest_of (kind_of call.flow.model Pointer false) in
        range_from k floor (range_met (n.bounds found.length) (pos 0) most) (count_low k (range_met (n.bounds found.length) (pos 0) most) (met_from (pos 0) (n.bounds found.length) (pos 0) most (omega (arith, ints))))

    length_plan : (given : Argument I) (found : Scanned I) → IsEffectFrom (strlen_scanned l n call.flow.model given found).effect
    length_plan given found = planned_from _ (Result (number_value l (length_of l n call.flow.model found) no_labels)) (number_from k (length_of l n call.flow.model found) (length_from found))

    strlen_plan : IsEffectFrom (plan_strlen l n call row).effect
    unfolding plan_strlen
    strlen_plan = length_plan (argument_at l n call row 0) (scan_at l n call row (argument_at l n call row 0))

    strcmp_plan : IsEffectFrom (plan_strcmp l n call row).effect
    unfolding plan_strcmp
    strcmp_plan = planned_from _ (Result (number_value l (between_or_least l n (negsuc 0) (pos 1)) no_labels)) (number_from k (between_or_least l n (negsuc 0) (pos 1)) (between_low (negsuc 0) (pos 1) (omega (arith, ints))))

    puts_plan : IsEffectFrom (plan_puts l n call row).effect
    unfolding plan_puts
    puts_plan = planned_from _ (Result (number_value l (n.one (pos 0)) no_labels)) (number_from k (n.one (pos 0)) (zero_from k))

    printf_plan : IsEffectFrom (plan_printf l n call row).effect
    unfolding plan_printf
    printf_plan =
        let most = greatest_of (kind_of call.flow.model Int true) in
        planned_from _ (Result (number_value l (between_or_least l n (pos 0) most) no_labels)) (number_from k (between_or_least l n (pos 0) most) (between_low (pos 0) most (omega (arith, ints))))

    put_plan : (t : Bool) (c : Value I) (x : I) → IsFrom floor (n.bounds x) → IsEffectFrom (cond t (harmless Unreached) (harmless (Result (number_value l x c.labels)))).effect
    put_plan true c x h = tt
    put_plan false c x h = number_from k x h

    putchar_plan : (c : Value I) → IsEffectFrom (plan_putchar l n call.flow.model c).effect
    putchar_plan c =
        let x = n.convert c.num (kind_of call.flow.model Char false) in
        put_plan (is_none (n.bounds x)) c x (convert_from k c.num (kind_of call.flow.model Char false) (class_size call.flow.model Char))

    -- ---- all calls

    pub plan_from : (function : LibFn) → IsEffectFrom (plan_call l n function call row).effect
    unfolding plan_call
    plan_from f.Malloc = malloc_plan
    plan_from f.Calloc = calloc_plan
    plan_from f.Realloc = realloc_plan
    plan_from f.Free = free_plan
    plan_from f.Memcpy = copy_plan
    plan_from f.Memmove = copy_plan
    plan_from f.Memset = fill_plan
    plan_from f.Strlen = strlen_plan
    plan_from f.Strcpy = strcpy_plan
    plan_from f.Strncpy = strncpy_plan
    plan_from f.Strcat = strcat_plan
    plan_from f.Strcmp = strcmp_plan
    plan_from f.Getchar = number_from k (between_or_least l n (negsuc 0) (pos 255)) (between_low (negsuc 0) (pos 255) (omega (arith, ints)))
    plan_from f.Putchar = putchar_plan (argument_value l n call row 0)
    plan_from f.Puts = puts_plan
    plan_from f.Printf = printf_plan
    plan_from f.Fgets = tt
    plan_from f.Exit = tt
    plan_from f.Abort = tt
    plan_from f.Isalpha = character_plan f.Isalpha (argument_value l n call row 0)
    plan_from f.Isdigit = character_plan f.Isdigit (argument_value l n call row 0)
    plan_from f.Isspace = character_plan f.Isspace (argument_value l n call row 0)
    plan_from f.Isupper = character_plan f.Isupper (argument_value l n call row 0)
    plan_from f.Islower = character_plan f.Islower (argument_value l n call row 0)
    plan_from f.Isalnum = character_plan f.Isalnum (argument_value l n call row 0)
    plan_from f.Toupper = character_plan f.Toupper (argument_value l n call row 0)
    plan_from f.Tolower = character_plan f.Tolower (argument_value l n call row 0)
