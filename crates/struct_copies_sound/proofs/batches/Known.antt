-- What a row tells behind the copies of all leaves: what no leaf replaces is kept, and what a leaf makes comes.
use Rattle.std.proofs.Common.{◌≡◌, ℕ, suc, ◌+◌, ◌-◌, ◌<◌, ◌≤◌, ◌^◌, true, cond, Some, None, List, length, arith, subst, sym, refl, ap, ◌∙◌, inl, inr}
use Rattle.std.specs.Prelude.{slice_get, ℤ}
use Rattle.std.proofs.lemmas.Bool.{cases_eq, cases_lt}
use Rattle.std.proofs.lemmas.Option.{same_Some}
use Rattle.cc_base.specs.Lattices.{LatticeOf, OrderLaws}
use Rattle.cc_base.specs.IntegerDomains.{IntegersOf, BoundLaws, RangeLaws}
use Rattle.cc_base.specs.IntegerLaws.{SoundLaws}
use Rattle.c_layout.specs.declared.leaf_lists.Leaf.{Leaf}
use Rattle.c_layout.specs.declared.shapes.BaseInfo.{BaseInfo}
use Rattle.cfg.specs.declared.programs.Flow.{Flow}
use Rattle.value_domain.specs.declared.values.values.Value as values
use Rattle.value_domain.specs.declared.values.row_cells.Cell.{Cell}
use Rattle.store_cells.specs.NearValues.{near_value}
use Rattle.store_cells.specs.RowPositions.{cell_at, value_at}
use Rattle.memory_model.specs.Memory.Instances.{Memory, bytes_at, byte_at}
use Rattle.memory_model.specs.Memory.Numbers.{number_of}
use Rattle.memory_model.specs.Memory.Tags.{tag_at}
use Rattle.memory_model.specs.Effects.StructCopies.{fits_leaf, may_be_copied}
use Rattle.memory_model.specs.Effects.Touches.{is_allocated, storage_at}
use Rattle.store_sound.specs.Concretization.Places.{OwnedByLeaf}
use Rattle.store_sound.specs.Concretization.ValueMeaning.{Naming}
use Rattle.store_sound.specs.Concretization.RowMeaning.{IsLiveOf}
use Rattle.store_sound.specs.Operations.Gives.{Gives}
use Rattle.store_sound.proofs.operations.Classes.{class_above}
use Rattle.store_sound.proofs.operations.Near.{near_is}
use Rattle.store_sound.proofs.operations.Slices.{get_there}
use Rattle.store_sound.specs.Regions.RegionWrites.{InGammaBase}
use Rattle.store_struct_leaves.specs.LeafCopies.{write_all, write_leaf}
use Rattle.store_structs.specs.StructCopies.{leaf_access, read_source, write_target, copy_read, copy_leaves, copy_all}
use Rattle.store_structs.specs.CopyLengths.{write_leaf_keeps}
use Rattle.struct_copies_sound.specs.Cells.LeafWrites.{IsReplacedAt, LeafWrites, Fact, of_number, of_content, IsTold}
use Rattle.struct_copies_sound.proofs.cells.LeafWrites.{leaf_writes_stand}
use Rattle.struct_copies_sound.proofs.leaves.Cells.{CellName, IsThere, position, class_of, signed_of, Owns, place_owns, StandsName, name_stands}
use Rattle.struct_copies_sound.proofs.leaves.Copies.{Copied, route, alone, position_in, spared, one_leaf}
use Rattle.struct_copies_sound.proofs.leaves.LeafReads.{Tells, reads_content}
use Rattle.struct_copies_sound.proofs.batches.NearReads.{leaf_near}
use Rattle.struct_copies_sound.proofs.leaves.ReadValues.{Near, NearFound, stored_near}
use Rattle.struct_copies_sound.proofs.batches.AwayCells.{IsAway, all_beside}
use Rattle.struct_copies_sound.proofs.batches.Batches.{batch_gives, done, batches_give}
use Rattle.struct_copies_sound.proofs.batches.TargetPlaces.{place_there}

module _ {flow : Flow} {naming : Naming} {old new : Memory} (k : Copied flow naming old new) (few : length k.leaves ≤ 2 ^ 62) {I : Type 0} {l : LatticeOf I} {n : IntegersOf I} {gamma : I → ℤ → Type 0} (o : OrderLaws l) (q : BoundLaws l n gamma) (c : SoundLaws l n gamma) (r : RangeLaws l n)
    (row : List (Cell I)) (wide : k.laid.behind ≤ length row) (stand : (b : ℕ) (base : BaseInfo) → slice_get flow.bases.items b ≡ Some base → InGammaBase l n gamma flow naming old b base row) where
  abbrev pub Told : Fact → ℕ → List (Cell I) → Type 0
  Told f p s = IsTold l n gamma f (value_at l n s p)

  -- the write of a leaf replaces no cell at a position
  abbrev pub Spares : Leaf → ℕ → Type 0
  Spares leaf p = (d z : ℕ) (base : BaseInfo) (own : Leaf) → IsReplacedAt flow.bases.items k.target (leaf_access leaf k.to) (alone k) p d z base own → ⊥

  -- the write of a value to a leaf
  abbrev pub behind : Leaf → values.Value I → List (Cell I) → List (Cell I)
  behind leaf v s = write_all l n flow.model flow.bases.items k.target (leaf_access leaf k.to) v (alone k) s

  -- what the write of a leaf makes of a position, where it is read from a row that tells of its bytes
  abbrev pub Makes : Leaf → ℕ → Fact → Type 0
  Makes leaf p f = (start : List (Cell I)) → Tells k o q c leaf start → Gives (λ v. (s : List (Cell I)) → length s ≡ length row → Told f p (behind leaf v s)) (read_source l n (route k) leaf start)

  -- what is known of a position where the leaves from one number to below another are copied
  pub data Known (P : Type 0) (from to p : ℕ) (f : Fact) : Type 0 where
    kept : P → ((number : ℕ) (leaf : Leaf) → from ≤ number → number < to → slice_get k.leaves number ≡ Some leaf → Spares leaf p) → Known P from to p f
    made : (number : ℕ) (leaf : Leaf) → from ≤ number → number < to → slice_get k.leaves number ≡ Some leaf → Makes leaf p f
        → ((other : ℕ) (leaf : Leaf) → from ≤ other → other < to → (other ≡ number → ⊥) → slice_get k.leaves other ≡ Some leaf → Spares leaf p) → Known P from to p f

  -- a row behind the copies of the leaves from one number to below another, which began with a row
  pub record Behind (start : List (Cell I)) (from to : ℕ) (s : List (Cell I)) : Type 0 where
    pub long : length s ≡ length row
    pub told : (p : ℕ) (f : Fact) → p < length row → Known (Told f p start) from to p f → Told f p s
    pub away : (pos : ℕ) → IsAway flow.bases.items pos → cell_at s pos ≡ cell_at row pos

  -- ---- one leaf

  module _ (number : ℕ) (leaf : Leaf) (e : slice_get k.leaves number ≡ Some leaf) (start : List (Cell I)) where
    pub near_of : (v : values.Value I) → read_source l n (route k) leaf start ≡ Some v → Near o q v
    unfolding read_source
    near_of v is = subst (λ z. NearFound o q z) is (leaf_near o q r flow.model start (leaf_access leaf k.from) flow.bases.items k.source)

    pub writes : (v : values.Value I) → Near o q v → (f : Fact) (p : ℕ) → p < length row → LeafWrites l n flow.model flow.bases.items k.target (leaf_access leaf k.to) v (alone k) (IsTold l n gamma f) p (length row)
    writes v near f p there = leaf_writes_stand o q flow.model flow.bases.items k.target (leaf_access leaf k.to) v (alone k) (λ signed. near_is o q _ (stored_near o q r flow.model v leaf.class signed near)) f p (length row) there

    -- the write is that of the value itself
    written_is : (v : values.Value I) → Near o q v → (s : List (Cell I)) → write_target l n (route k) leaf v s ≡ Some (behind leaf v s)
    unfolding write_target write_leaf
    written_is v near s =
        (λ i. cond (place_there k number leaf e i) (Some (write_all l n flow.model flow.bases.items k.target (leaf_access leaf k.to) (near_value l n v) (alone k) s)) None)
        ∙ ap (λ z. Some (write_all l n flow.model flow.bases.items k.target (leaf_access leaf k.to) z (alone k) s)) (near_is o q v near)

    -- something is read
    some_read : Tells k o q c leaf start → (v : values.Value I) × (read_source l n (route k) leaf start ≡ Some v)
    unfolding byte_at
    some_read tells =
        let plain = k.struct.plain number leaf e in
        let own : OwnedByLeaf flow.model leaf leaf.offset 0 = record { start = leaf.offset; place = record { turn = 0; few = plain.some; there = omega arith }; there = omega arith; small = class_above flow.model leaf.class } in
        let inside = k.struct.inside number leaf.offset 0 leaf e own in
        let len = k.region.lengths k.i in
        let fits = k.target_side.fits in
        let y = get_there (bytes_at new k.i) (k.offset + leaf.offset) (omega (arith, inside, len, fits)) in
        let x = k.came (k.offset + leaf.offset) y.0 (omega arith) (omega (arith, inside)) y.1 in
        let back : (k.offset + leaf.offset) - k.offset ≡ leaf.offset = omega arith in
        let g = reads_content k o q c number leaf e start tells leaf.offset 0 x.source own
        (subst (λ z. byte_at old k.j (k.at + z) ≡ Some x.source) back x.from)
        (subst (λ z. fits_leaf (is_allocated (storage_at old k.j)) (tag_at flow.model k.leaves z) x.source ≡ true) back x.seen)
        (subst (λ z. may_be_copied x.source.content (tag_at flow.model k.leaves z) ≡ true) back x.may) in
        (g.value, g.is)

    step : (to : ℕ) → Tells k o q c leaf start → (s : List (Cell I)) → Behind start (suc number) to s → number < to → Gives (Behind start number to) (copy_read l n (route k) leaf (read_source l n (route k) leaf start) (Some s))
    unfolding write_target
    step to tells s h below =
        let v = some_read tells in
        let near = near_of v.0 v.1 in
        let w = written_is v.0 near s in
        record {
          value = behind leaf v.0 s;
          is = ap (λ z. copy_read l n (route k) leaf z (Some s)) v.1 ∙ w;
          good = record {
            long = write_leaf_keeps l n flow.model flow.bases.items k.target (leaf_access leaf k.to) v.0 (alone k) s (behind leaf v.0 s) (target_is v.0 s w) ∙ h.long;
            told = λ p f there known. told_behind v.0 v.1 near p f there known;
            away = λ pos far. all_beside l n flow.model flow.bases.items k.target (leaf_access leaf k.to) v.0 (alone k) pos (cell_at row pos) far s (h.away pos far);
          };
        }
      where
        target_is : (v : values.Value I) (s : List (Cell I)) → write_target l n (route k) leaf v s ≡ Some (behind leaf v s) → write_leaf l n flow.model flow.bases.items k.target (leaf_access leaf k.to) v (alone k) s ≡ Some (behind leaf v s)
        target_is v s w = w

        told_behind : (v : values.Value I) → read_source l n (route k) leaf start ≡ Some v → Near o q v → (p : ℕ) (f : Fact) → p < length row → Known (Told f p start) number to p f → Told f p (behind leaf v s)
        told_behind v is near p f there (kept told spares) =
            (writes v near f p there).keeps (spares number leaf (omega arith) below e) s h.long (h.told p f there (kept told (λ other x a b g. spares other x (omega (arith, a)) b g)))
        told_behind v is near p f there (made at x from less g makes spares) = elim (cases_eq at number) [
          | inr ne ↦ (writes v near f p there).keeps (spares number leaf (omega arith) below (λ z. ne (sym z)) e) s h.long
              (h.told p f there (made at x (omega (arith, from, ne)) less g makes (λ other y a b d t. spares other y (omega (arith, a)) b d t)))
          | inl same ↦ (let own : x ≡ leaf = same_Some x leaf (sym g ∙ (ap (slice_get k.leaves) same ∙ e)) in
              let y = subst (λ z. Makes z p f) own makes start tells in
              let value : y.value ≡ v = same_Some y.value v (sym y.is ∙ is) in
              subst (λ z. Told f p (behind leaf z s)) value (y.good s h.long))
        ]

  -- ---- a batch

  -- a row behind some leaves tells of the bytes of those that are still to be copied
  tells_later : (t : ℕ) (s : List (Cell I)) → Behind row 0 t s → (number : ℕ) (leaf : Leaf) → t ≤ number → slice_get k.leaves number ≡ Some leaf → Tells k o q c leaf s
  tells_later t s h number leaf later e = record {
    number = λ x there st ns place at same pointer held.
        let own : OwnedByLeaf flow.model leaf st 0 = record { start = st; place = place; there = omega arith; small = class_above flow.model leaf.class } in
        let owns = place_owns flow.model k.source_side.base x (k.at + st) (length (bytes_at old k.j)) at in
        h.told (position flow.model k.source_side.base x) (of_number (number_of (signed_of flow.model k.source_side.base x) ns)) (in_row x there)
        (kept ((cell x there).whole k.j (k.at + st) ns live_source at pointer held) (spare st 0 x there own 0 owns));
    content = λ x there d y m content own owns matched.
        h.told (position flow.model k.source_side.base x) (of_content naming old (class_of flow.model k.source_side.base x) content) (in_row x there)
        (kept ((cell x there).byte k.j (k.at + d) m content live_source owns matched) (spare d y x there own m owns));
  }
    where
      live_source : IsLiveOf naming old k.source_side.b k.j
      live_source = record { named = k.source_side.named; alive = k.source_side.alive }

      cell : (x : CellName) → IsThere flow.model k.source_side.base x → StandsName l n gamma flow naming old k.source_side.b k.source_side.base x (value_at l n row (position flow.model k.source_side.base x))
      cell x there = name_stands l n gamma flow naming old k.source_side.b k.source_side.base row (stand k.source_side.b k.source_side.base k.source_side.at) x there

      in_row : (x : CellName) → IsThere flow.model k.source_side.base x → position flow.model k.source_side.base x < length row
      in_row x there = (let a = position_in k k.source_side.b k.source_side.base k.source_side.at x there in let b = a.1 in let d = k.laid.laid.close k.source_side.b k.source_side.base k.source_side.at in omega (arith, b, d, wide))

      -- no leaf that is copied replaces the cell: no byte is of two leaves, and both sides are one spot or apart
      spare : (d y : ℕ) (x : CellName) → IsThere flow.model k.source_side.base x → OwnedByLeaf flow.model leaf d y → (m : ℕ) → Owns flow.model k.source_side.base x (k.at + d) m → (other : ℕ) (before : Leaf) → 0 ≤ other → other < t → slice_get k.leaves other ≡ Some before → Spares before (position flow.model k.source_side.base x)
      spare d y x there own m owns other before low less g = spared k other k.source_side.b k.source_side.base before g k.source_side.at x there k.j (k.at + d) m live_source owns
          (λ same from owned.
          let in_struct = k.struct.inside number d y leaf e own in
          let in_target = k.struct.inside other ((k.at + d) - k.offset) m before g owned in
          let spot = k.apart (k.at + d) same from (omega (arith, from, in_target)) (omega arith) (omega (arith, in_struct)) in
          let back : (k.at + d) - k.offset ≡ d = omega (arith, spot) in
          one_leaf k other number d m y before leaf g e (λ z. omega (arith, z, less, later)) (subst (λ z. OwnedByLeaf flow.model before z m) back owned) own)

  batch : (t : ℕ) (s : List (Cell I)) (more : ℕ) → t + more ≤ length k.leaves → Behind row 0 t s → Gives (Behind row 0 (t + more)) (copy_leaves l n (route k) more t s)
  batch t s more room h =
      let g = batch_gives l n (route k) k.leaves k.numbered few s (λ number z. Behind s number (t + more) z) more t room
      (λ number leaf from to e z y. step number leaf e s (t + more) (tells_later t s h number leaf from e) z y to)
      (record { long = h.long; told = λ p f there known. none p f known; away = h.away }) in
      record { value = g.value; is = g.is; good = record { long = g.good.long; told = λ p f there known. g.good.told p f there (later p f there known); away = g.good.away } }
    where
      none : (p : ℕ) (f : Fact) → Known (Told f p s) (t + more) (t + more) p f → Told f p s
      none p f (kept told spares) = told
      none p f (made number leaf from to e makes spares) = absurd (omega (arith, from, to))

      later : (p : ℕ) (f : Fact) → p < length row → Known (Told f p row) 0 (t + more) p f → Known (Told f p s) t (t + more) p f
      later p f there (kept told spares) = kept (h.told p f there (kept told (λ number leaf a b e. spares number leaf a (omega (arith, b)) e))) (λ number leaf a b e. spares number leaf (omega arith) b e)
      later p f there (made number leaf from to e makes spares) = elim (cases_lt number t) [
        | inl less ↦ kept (h.told p f there (made number leaf from less e makes (λ other x a b d g. spares other x a (omega (arith, b)) d g)))
            (λ other x a b g. spares other x (omega arith) b (λ z. omega (arith, z, a, less)) g)
        | inr more_than ↦ made number leaf more_than to e makes (λ other x a b d g. spares other x (omega arith) b d g)
      ]

  pub all_known : Gives (Behind row 0 (length k.leaves)) (copy_all l n (route k) (length k.leaves) row)
  all_known = batches_give l n (route k) k.leaves k.numbered few (λ t s. Behind row 0 t s)
      (λ t s up h.
      let room : done l n (route k) k.leaves k.numbered few t + (done l n (route k) k.leaves k.numbered few (suc t) - done l n (route k) k.leaves k.numbered few t) ≡ done l n (route k) k.leaves k.numbered few (suc t) = omega (arith, up) in
      subst (λ z. Gives (Behind row 0 z) (copy_leaves l n (route k) (done l n (route k) k.leaves k.numbered few (suc t) - done l n (route k) k.leaves k.numbered few t) (done l n (route k) k.leaves k.numbered few t) s)) room
      (batch (done l n (route k) k.leaves k.numbered few t) s (done l n (route k) k.leaves k.numbered few (suc t) - done l n (route k) k.leaves k.numbered few t) (omega (arith, room)) h))
      row (record { long = refl; told = λ p f there known. none_yet p f known; away = λ pos far. refl })
    where
      none_yet : (p : ℕ) (f : Fact) → Known (Told f p row) 0 0 p f → Told f p row
      none_yet p f (kept told spares) = told
      none_yet p f (made number leaf from to e makes spares) = absurd (omega (arith, to))
