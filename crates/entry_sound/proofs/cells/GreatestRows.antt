-- A row of greatest cells stands for each state without temporaries.
use Rattle.std.proofs.Common.{◌≡◌, ℕ, ◌+◌, ◌-◌, ◌≤◌, ◌^◌, Bool, true, Option, Some, None, List, length, arith, subst, sym, refl, ap, ◌∙◌}
use Rattle.std.specs.Prelude.{drop, ℤ, pos, negsuc, ◌≤ℤ◌, ◌-ℤ◌}
use Rattle.std.proofs.lemmas.Int.{ints}
use Rattle.std.proofs.lemmas.List.{length-take, length-drop}
use Rattle.std.proofs.lemmas.Option.{slice_get_within}
use Rattle.cc_base.specs.Lattices.{LatticeOf, OrderLaws}
use Rattle.cc_base.specs.IntegerDomains.{IntegersOf, BoundLaws}
use Rattle.c_layout.specs.declared.leaf_lists.Class.{Class}
use Rattle.c_layout.specs.declared.shapes.ZeroPart.{ZeroPart}
use Rattle.cfg.specs.declared.programs.Flow.{Flow}
use Rattle.pointer_domain.specs.PointerTables.{the_end}
use Rattle.pointer_domain.specs.declared.base_sets.Bases.{Bases}
use Rattle.value_domain.specs.Strings.FirstZeros.{zero_of}
use Rattle.value_domain.specs.Values.LabelSets.{labels_leq, all_labels}
use Rattle.value_domain.specs.Values.Values.{value_order}
use Rattle.value_domain.specs.declared.values.values.Value as values
use Rattle.value_domain.specs.declared.values.row_cells.Cell.{Cell}
use Rattle.value_domain.specs.declared.values.row_cells.Cell.TheVariants.{Value, First, State}
use Rattle.store_cells.specs.ClassNumbers.{class_at}
use Rattle.store_cells.specs.NearValues.{near_number, near_value}
use Rattle.store_cells.specs.RowPositions.{leaf_position, class_position, zero_position, state_position, cell_at, value_in, value_at, zero_in, zero_at, state_in, state_at}
use Rattle.store_cells.specs.ScalarTypes.{kind_of}
use Rattle.store_monotone.specs.Operations.TopCells.{top_number, top_value, top_zero, top_state}
use Rattle.store_monotone.proofs.operations.NearCells.{near_value_is}
use Rattle.memory_model.specs.Memory.Labels.{Labels}
use Rattle.memory_model.specs.Memory.Bytes.{MachinePointer, null, into, Content, indeterminate, number, part, Byte}
use Rattle.memory_model.specs.Memory.Instances.{Memory, Life, live, ended, freed, byte_at, bytes_at, life_at}
use Rattle.memory_model.specs.Memory.Numbers.{number_of}
use Rattle.memory_model.specs.Effects.NumberedTables.{empty_table}
use Rattle.store_sound.specs.Concretization.Matching.{number_in}
use Rattle.store_sound.specs.Concretization.SeenLabels.{as_set}
use Rattle.store_sound.specs.Concretization.SoundMemory.{IsWithin, IsPointerIn, IsNamed, IsContentIn, IsContentNamed, IsMemoryOf, AreEntered}
use Rattle.store_sound.specs.Concretization.ValueMeaning.{Naming, InGammaInto, InGammaByLife, InGammaPointer, InGammaContent, InGammaState}
use Rattle.store_sound.specs.Concretization.RowMeaning.{InGammaCell, InGamma, array_of, array_bytes}
use Rattle.store_sound.proofs.operations.Classes.{class_size}
use Rattle.store_sound.proofs.operations.FreshValues.{type_near}
use Rattle.store_sound.proofs.operations.Near.{near_number_from}
use Rattle.store_sound.proofs.operations.StoreZeros.{between_stands, any_stands}
use Rattle.store_sound.proofs.chars.ByteValues.{number_within}
use Rattle.entry_sound.specs.Cells.Greatest.{IsGreatest}

all_above : (labels : Labels) → labels_leq (as_set labels) all_labels ≡ true
all_above labels = grind arith

array_small : (zeros : ZeroPart) (bytes : List Byte) → length bytes ≤ 2 ^ 64 - 1 → length (array_bytes zeros bytes) ≤ 2 ^ 64 - 1
array_small zeros bytes h = by_size zeros.size
  where
    by_size : (size : Option ℕ) → length (array_of size (drop zeros.offset bytes)) ≤ 2 ^ 64 - 1
    by_size None = let e = length-drop zeros.offset bytes in omega (arith, e, h)
    by_size (Some size) = let e = length-drop zeros.offset bytes in let f = length-take size (drop zeros.offset bytes) in omega (arith, e, f, h)

named_by : (b : Option ℕ) → (b ≡ None → ⊥) → (c : ℕ) × (b ≡ Some c)
named_by None h = absurd (h refl)
named_by (Some c) h = (c, refl)

module _ {I : Type 0} {l : LatticeOf I} {n : IntegersOf I} {gamma : I → ℤ → Type 0} (o : OrderLaws l) (q : BoundLaws l n gamma) (flow : Flow) (all : Bases) (row : List (Cell I)) (g : IsGreatest l n gamma flow all row) (naming : Naming) (memory : Memory) (sane : IsMemoryOf flow.model flow.bases.items naming memory) where
  abbrev top : values.Value I
  top = top_value n all

  near_top : near_value l n top ≡ top
  near_top = near_value_is o q top all ((value_order o).reflexive top)

  value_top : (p : ℕ) → cell_at row p ≡ Value top → value_at l n row p ≡ top
  unfolding value_at
  value_top p e = ap (λ z. near_value l n (value_in l z)) e ∙ near_top

  counts_near : near_number l n (n.between (pos 0) the_end) ≡ n.between (pos 0) the_end
  counts_near = near_number_from o q (n.between (pos 0) the_end) (pos 0) the_end (q.between_bounds (pos 0) the_end (omega (arith, ints))) (omega (arith, ints)) (omega (arith, ints))

  zero_top : (p : ℕ) → cell_at row p ≡ First (top_zero n) → zero_at l n row p ≡ zero_of (n.between (pos 0) the_end)
  unfolding zero_at
  zero_top p e = ap (λ z. zero_of (near_number l n (zero_in l z).at)) e ∙ ap zero_of counts_near

  -- ---- what the greatest value stands for

  any_number : (z : ℤ) → negsuc (2 ^ 64 - 1) ≤ℤ z → z ≤ℤ pos (2 ^ 64) → gamma (top_number n) z
  any_number z h k = between_stands o q (negsuc (2 ^ 64 - 1)) (pos (2 ^ 64)) z h k

  into_top : (i offset lo hi : ℕ) → IsWithin memory i offset lo hi → (c : ℕ) → naming i ≡ Some c → InGammaInto gamma naming memory top.pointer i offset lo hi
  into_top i offset lo hi w c named =
      let small = sane.small i in
      let above = w.above in
      let below = w.below in
      let within = w.within in
      record {
        base = c;
        named = named;
        among = g.every c (sane.few i c named);
        lower = any_number (pos lo) (omega (arith, ints)) (omega (arith, ints, above, below, within, small));
        relative = any_number (pos offset -ℤ pos lo) (omega (arith, ints, above, below, within, small)) (omega (arith, ints, above, below, within, small));
        room = any_number (pos hi -ℤ pos lo) (omega (arith, ints, above, below, within, small)) (omega (arith, ints, above, below, within, small));
        whole = λ e. absurd (cc);
      }

  life_top : (life : Life) (i offset lo hi : ℕ) → IsWithin memory i offset lo hi → ((life ≡ ended → ⊥) → naming i ≡ None → ⊥) → InGammaByLife gamma naming memory top.pointer life i offset lo hi
  life_top live i offset lo hi w named = let c = named_by (naming i) (named (λ e. cc)) in into_top i offset lo hi w c.0 c.1
  life_top ended i offset lo hi w named = refl
  life_top freed i offset lo hi w named = let c = named_by (naming i) (named (λ e. cc)) in into_top i offset lo hi w c.0 c.1

  pointer_top : (p : MachinePointer) → IsPointerIn memory p → IsNamed naming memory p → InGammaPointer gamma naming memory top.pointer p
  pointer_top null w named = refl
  pointer_top (into i offset lo hi) w named = life_top (life_at memory i) i offset lo hi w named

  content_top : (b i a : ℕ) (class : Class) (byte : Byte) → naming i ≡ Some b → byte_at memory i a ≡ Some byte → InGammaContent gamma naming memory top class byte.content
  content_top b i a class byte named e = by_content byte.content (sane.bytes i a byte e) (sane.named i b a byte named e)
    where
      by_content : (c : Content) → IsContentIn memory c byte.tag → IsContentNamed naming memory c → InGammaContent gamma naming memory top class c
      by_content indeterminate w m = refl
      by_content (number k labels) w m = (all_above labels, λ f. refl)
      by_content (part p k) w m = pointer_top p w.0 m

  -- ---- the cells

  cell_top : (b : ℕ) (class : Class) (signed : Bool) (Place Owns : ℕ → ℕ → Type 0) → InGammaCell gamma flow naming memory b class signed Place Owns top
  cell_top b class signed Place Owns = record {
    whole = λ i offset ns alive place plain holds.
        let w = number_within flow.model class signed ns holds.size (λ k y e.
        let m = holds.each k y (slice_get_within ns k y e) e in
        sane.bytes i (offset + k) (record { content = number_in y; tag = m.tag }) m.here) in
        let near = type_near (kind_of flow.model class signed) (number_of signed ns) (number_of signed ns) (class_size flow.model class) w.0 w.1 in
        any_number (number_of signed ns) near.0 near.1;
    byte = λ i offset k content alive owns m. content_top b i offset class (record { content = content; tag = m.tag }) alive.named m.here;
  }

  state_top : (life : Life) (size : ℕ) → size ≤ 2 ^ 64 - 1 → InGammaState gamma naming memory (record { size = n.between (pos 0) the_end; live = true; freed = true }) life size
  state_top live size h = (between_stands o q (pos 0) the_end (pos size) (omega (arith, ints)) (omega (arith, ints, h)), refl)
  state_top ended size h = between_stands o q (pos 0) the_end (pos size) (omega (arith, ints)) (omega (arith, ints, h))
  state_top freed size h = (between_stands o q (pos 0) the_end (pos size) (omega (arith, ints)) (omega (arith, ints, h)), refl)

  state_is : (p : ℕ) → cell_at row p ≡ State (top_state n) → state_at l n row p ≡ record { size = n.between (pos 0) the_end; live = true; freed = true }
  unfolding state_at
  state_is p e = ap (λ z. record (state_in l z) { size = near_number l n (state_in l z).size }) e ∙ ap (λ x. record { size = x; live = true; freed = true }) counts_near

  pub greatest_stands : (entered : ℕ → Option ℕ) → AreEntered flow.bases.items naming memory entered → InGamma l n gamma flow naming row (record { memory = memory; temps = empty_table; entered = entered })
  greatest_stands entered lives = record {
    sane = sane;
    held = record { within = λ t scalar e. absurd (cc); named = λ t p e. absurd (cc) };
    lives = lives;
    leaves = λ b j base leaf e f. subst (InGammaCell gamma flow naming memory b leaf.class leaf.signed _ _) (sym (value_top (leaf_position base j) ((g.cells b base e).leaf j (slice_get_within base.shape.cells j leaf f)))) (cell_top b leaf.class leaf.signed _ _);
    classes = λ b c base e heap h. subst (InGammaCell gamma flow naming memory b (class_at c) true _ _) (sym (value_top (class_position base c) ((g.cells b base e).class c heap h))) (cell_top b (class_at c) true _ _);
    zeros = λ b z i base array e f alive. any_stands o q naming memory _ (array_bytes array (bytes_at memory i)) (array_small array (bytes_at memory i) (sane.small i)) (zero_top (zero_position base z) ((g.cells b base e).zero z (slice_get_within base.shape.zeros z array f)));
    states = λ b i base e heap named. subst (λ y. InGammaState gamma naming memory y (life_at memory i) (length (bytes_at memory i))) (sym (state_is (state_position base) ((g.cells b base e).state heap))) (state_top (life_at memory i) (length (bytes_at memory i)) (sane.small i));
    temps = λ t scalar e. absurd (cc);
  }
