-- The first zeros of a base behind a copy of bytes.
use Rattle.std.proofs.Common.{◌≡◌, ℕ, zero, suc, ◌+◌, ◌-◌, ◌<◌, ◌≤◌, ◌^◌, Bool, true, false, cond, Option, Some, None, List, [], ◌∷◌, length, take, drop, arith, subst, sym, refl, ap, ◌∙◌, inl, inr, ◌⊎◌}
use Rattle.std.specs.Prelude.{slice_get, ℤ, max, min, is_some, ◌==◌, nat_lt, nat_le}
use Rattle.std.proofs.lemmas.Bool.{cases_eq, and_parts, eqb-true, eqb-false, leb-true}
use Rattle.std.proofs.lemmas.List.{length-set, length-take, length-drop}
use Rattle.cc_base.specs.Lattices.{LatticeOf, OrderLaws}
use Rattle.cc_base.specs.IntegerDomains.{IntegersOf, BoundLaws}
use Rattle.c_layout.specs.declared.shapes.BaseInfo.{BaseInfo}
use Rattle.cfg.specs.WellFormed.{base_values, base_cells}
use Rattle.value_domain.specs.declared.strings.first_zeros.FirstZero.{FirstZero}
use Rattle.value_domain.specs.declared.values.row_cells.Cell.{Cell}
use Rattle.value_domain.specs.declared.values.row_cells.Cell.TheVariants.{First}
use Rattle.store_cells.specs.declared.access_windows.Window.{Window}
use Rattle.store_cells.specs.declared.first_zero_writes.ZeroTarget.{ZeroTarget}
use Rattle.store_cells.specs.FirstZeroWrites.{last_of, has_no_bytes, zero_target, any_zero}
use Rattle.store_cells.specs.RowPositions.{capped, zero_position, zero_at, put_zero}
use Rattle.memory_model.specs.Memory.Instances.{Memory, bytes_at, byte_at}
use Rattle.store_sound.specs.Concretization.RowMeaning.{array_of, array_bytes, IsLiveOf}
use Rattle.store_sound.specs.Concretization.ValueMeaning.{Naming, InGammaZero}
use Rattle.store_sound.specs.Operations.Shapes.{AreLaid}
use Rattle.store_sound.proofs.operations.Only.{only_put}
use Rattle.store_sound.proofs.operations.StoreRows.{Fits, zero_is}
use Rattle.store_sound.proofs.operations.StoreValues.{same_zero}
use Rattle.store_sound.proofs.chars.ByteArrays.{target_is, target_there}
use Rattle.store_sound.proofs.regions.RegionArrays.{array_get, array_short, array_apart, put_zero_stands, any_zero_stands}
use Rattle.store_structs.specs.CopyZeros.{Exact, source_offset, source_part, lies_within, lies_inside, zero_from, zero_copied, copy_part_at, copy_part, copy_zeros}
use Rattle.struct_copies_sound.specs.Memory.CopiedZeros.{ComesFrom, ZeroStands, IsExactly, CopiedZerosStand}
use Rattle.struct_copies_sound.proofs.cells.KeptValues.{each_keeps, one_makes}
use Rattle.std.proofs.lemmas.Option.{same_Some, slice_get_within}
use Rattle.memory_model.specs.Memory.Bytes.{Byte}
use Rattle.store_sound.specs.Concretization.FirstZeroBytes.{seen_as, zero_by, first_zero, zero_offset}
use Rattle.store_structs.specs.CopyZeros.{same_size, is_array_at, array_at}
use Rattle.c_layout.specs.declared.shapes.ZeroPart.{ZeroPart}

-- ---- arrays of the same contents

pub same_zeros : (xs ys : List Byte) → length xs ≡ length ys → ((k : ℕ) (a b : Byte) → slice_get xs k ≡ Some a → slice_get ys k ≡ Some b → a.content ≡ b.content) → first_zero xs ≡ first_zero ys
same_zeros [] [] h same = refl
same_zeros [] (y ∷ ys) h same = absurd (omega (arith, h))
same_zeros (x ∷ xs) [] h same = absurd (omega (arith, h))
same_zeros (x ∷ xs) (y ∷ ys) h same =
    let r = same_zeros xs ys (omega (arith, h)) (λ k a b e f. same (suc k) a b e f) in
    ap (λ z. zero_by (seen_as z) (first_zero xs)) (same 0 x y refl refl) ∙ ap (zero_by (seen_as y.content)) r

-- ---- the array at an offset

pub record IsArrayAt (offset : ℕ) (size : Option ℕ) (at : ℕ) (parts : List ZeroPart) (found : ℕ) : Type 0 where
  pub index : ℕ
  pub number : found ≡ at + index
  pub part : ZeroPart
  pub among : slice_get parts index ≡ Some part
  pub offset_is : part.offset ≡ offset
  pub size_is : part.size ≡ size

sizes_same : (a b : Option ℕ) → same_size a b ≡ true → a ≡ b
sizes_same None None h = refl
sizes_same None (Some b) h = cc
sizes_same (Some a) None h = cc
sizes_same (Some a) (Some b) h = ap Some (eqb-true a b h)

pub array_found : (offset : ℕ) (size : Option ℕ) (at : ℕ) (parts : List ZeroPart) (found : ℕ) → array_at offset size at parts ≡ Some found → IsArrayAt offset size at parts found
array_found offset size at [] found h = cc
array_found offset size at (part ∷ parts) found h = by_test (is_array_at offset size part) refl h (array_found offset size (at + 1) parts found)
  where
    by_test : (c : Bool) → is_array_at offset size part ≡ c → cond c (Some at) (array_at offset size (at + 1) parts) ≡ Some found → (array_at offset size (at + 1) parts ≡ Some found → IsArrayAt offset size (at + 1) parts found) → IsArrayAt offset size at (part ∷ parts) found
    by_test true e g next =
        let p = and_parts (part.offset == offset) (same_size part.size size) e in
        record { index = 0; number = let d : at ≡ found = same_Some at found g in omega (arith, d); part = part; among = refl; offset_is = eqb-true part.offset offset p.0; size_is = sizes_same part.size size p.1 }
    by_test false e g next =
        let r = next g in
        let d = r.number in
        record { index = suc r.index; number = omega (arith, d); part = r.part; among = r.among; offset_is = r.offset_is; size_is = r.size_is }

-- ---- exact copies

not_zero : (k : ℕ) → (k ≡ 0 → ⊥) → 0 < k
not_zero zero h = absurd (h refl)
not_zero (suc k) h = omega arith

some_length : (size : Option ℕ) → (offset to count : ℕ) → lies_within offset size to count ≡ true → (length : ℕ) × (size ≡ Some length) × (to ≤ offset) × (capped (offset + length) ≤ capped (to + count))
some_length None offset to count h = cc
some_length (Some length) offset to count h = let p = and_parts (nat_le to offset) (nat_le (capped (offset + length)) (capped (to + count))) h in (length, refl, leb-true to offset p.0, leb-true (capped (offset + length)) (capped (to + count)) p.1)

not_before : (b : Bool) (r : Option ℕ) (k : ℕ) → cond b None r ≡ Some k → r ≡ Some k
not_before true r k h = cc
not_before false r k h = h

module _ {I : Type 0} {l : LatticeOf I} {n : IntegersOf I} {gamma : I → ℤ → Type 0} (o : OrderLaws l) (q : BoundLaws l n gamma) (naming : Naming) (bases : List BaseInfo) (behind : ℕ) (laid : AreLaid bases behind) {old new : Memory} {i to j from size : ℕ} (c : ComesFrom old new i to j from size) (small : (h : ℕ) → length (bytes_at old h) ≤ 2 ^ 63)
    (b : ℕ) (base : BaseInfo) (at : slice_get bases b ≡ Some base) (w : Window) (window : (x : ℕ) → to ≤ x → x < to + size → (w.lo ≤ x) × (x ≤ w.hi)) (row : List (Cell I)) (long : base.first + base_values base ≤ length row) where
  fits : Fits base
  fits = let d = laid.close b base at in let s = laid.small in omega (arith, d, s)

  new_small : (part : ZeroPart) (h : ℕ) → length (array_bytes part (bytes_at new h)) ≤ 2 ^ 64 - 1
  new_small part h = let a = array_short part (bytes_at new h) in let d = c.region.lengths h in let s = small h in omega (arith, a, d, s)

  old_small : (part : ZeroPart) (h : ℕ) → length (array_bytes part (bytes_at old h)) ≤ 2 ^ 64 - 1
  old_small part h = let a = array_short part (bytes_at old h) in let s = small h in omega (arith, a, s)

  put_long : (r : List (Cell I)) (p : ℕ) (f : FirstZero I) → length (put_zero r p f) ≡ length r
  put_long r p f = length-set r p (First f)

  put_apart : (r : List (Cell I)) (p x : ℕ) (f : FirstZero I) → (x ≡ p → ⊥) → zero_at l n (put_zero r p f) x ≡ zero_at l n r x
  put_apart r p x f other = same_zero l n r (put_zero r p f) x ((only_put p (p + 1) p (λ z. First f) (omega arith) (omega arith)).keeps r x (λ u v. other (omega (arith, u, v))))

  -- the positions of two parts of the base
  parts_apart : (z y : ℕ) (part other : ZeroPart) → slice_get base.shape.zeros z ≡ Some part → slice_get base.shape.zeros y ≡ Some other → zero_position base z ≡ zero_position base y → z ≡ y
  parts_apart z y part other e f same =
      let u = slice_get_within base.shape.zeros z part e in
      let v = slice_get_within base.shape.zeros y other f in
      let x = zero_is base z fits (omega (arith, u)) in
      let d = zero_is base y fits (omega (arith, v)) in
      omega (arith, x, d, same)

  part_in : (z : ℕ) (part : ZeroPart) → slice_get base.shape.zeros z ≡ Some part → zero_position base z < length row
  part_in z part e =
      let u = slice_get_within base.shape.zeros z part e in
      let x = zero_is base z fits (omega (arith, u)) in
      omega (arith, x, u, long)

  module _ (exact : Option Exact) (z : ℕ) (part : ZeroPart) (among : slice_get base.shape.zeros z ≡ Some part) where
    abbrev turn : ZeroPart → ℕ → List (Cell I) → List (Cell I)
    turn = copy_part l n base w exact

    abbrev p : ℕ
    p = zero_position base z

    -- an array that the window does not meet
    record IsSame (r : List (Cell I)) : Type 0 where
      sized : length r ≡ length row
      zero : zero_at l n r (zero_position base z) ≡ zero_at l n row (zero_position base z)

    module _ (none : zero_target part w ≡ None) where
      missed : (y : ℕ) (other : ZeroPart) → slice_get base.shape.zeros y ≡ Some other → (r : List (Cell I)) → IsSame r → IsSame (turn other y r)
      unfolding copy_part_at
      missed y other e r h = by_place (cases_eq (zero_position base z) (zero_position base y))
        where
          by_target : (d : Bool) → (zero_position base z ≡ zero_position base y → ⊥) → IsSame (cond d (put_zero r (zero_position base y) (zero_copied l n exact other r)) r)
          by_target false apart = h
          by_target true apart = record { sized = put_long r (zero_position base y) (zero_copied l n exact other r) ∙ h.sized; zero = put_apart r (zero_position base y) (zero_position base z) (zero_copied l n exact other r) apart ∙ h.zero }

          by_place : (zero_position base z ≡ zero_position base y) ⊎ (zero_position base z ≡ zero_position base y → ⊥) → IsSame (cond (is_some (zero_target other w)) (put_zero r (zero_position base y) (zero_copied l n exact other r)) r)
          by_place (inr apart) = by_target (is_some (zero_target other w)) apart
          by_place (inl same) =
              let d : z ≡ y = parts_apart z y part other among e same in
              let g : part ≡ other = same_Some part other (sym among ∙ (ap (slice_get base.shape.zeros) d ∙ e)) in
              let t : is_some (zero_target other w) ≡ false = ap (λ x. is_some (zero_target x w)) (sym g) ∙ ap is_some none in
              subst (λ x. IsSame (cond x (put_zero r (zero_position base y) (zero_copied l n exact other r)) r)) (sym t) h

      all_missed : IsSame (copy_zeros l n base w exact row)
      unfolding copy_zeros
      all_missed = each_keeps IsSame turn 0 base.shape.zeros (λ y a other e d r h. let same : a ≡ y = omega (arith, d) in subst (λ x. IsSame (turn other x r)) (sym same) (missed y other e r h)) row (record { sized = refl; zero = refl })

      pub apart_stands : ((h : ℕ) → IsLiveOf naming old b h → ZeroStands l n gamma naming old base row z part h) → (h : ℕ) → IsLiveOf naming old b h → ZeroStands l n gamma naming new base (copy_zeros l n base w exact row) z part h
      apart_stands zeros h alive =
          subst (λ x. InGammaZero gamma naming new x (array_bytes part (bytes_at new h))) (sym all_missed.zero)
          (subst (InGammaZero gamma naming new (zero_at l n row (zero_position base z)))
          (sym (array_apart c.region part h (λ d x inside above below.
          let y = window x above below in
          let f = c.region.fits in
          let s = small i in
          target_there part w x inside y.0 y.1 (omega (arith, below, f, s)) none)))
          (zeros h alive))

    -- ---- an array that the window meets

    module _ (target : ZeroTarget) (met : zero_target part w ≡ Some target) where
      -- where the copy is exact, the array of the source has its first zero yet
      abbrev Source : List (Cell I) → Type 0
      Source r = (e : Exact) → exact ≡ Some e → (k : ℕ) (other : ZeroPart) → lies_inside e part ≡ true → source_part e part ≡ Some k → slice_get e.source.shape.zeros k ≡ Some other → InGammaZero gamma naming old (zero_at l n r (zero_position e.source k)) (array_bytes other (bytes_at old j))

      record Before (r : List (Cell I)) : Type 0 where
        sized : length r ≡ length row
        source : Source r

      pub record After (r : List (Cell I)) : Type 0 where
        pub sized : length r ≡ length row
        pub stands_for : (h : ℕ) → IsLiveOf naming old b h → InGammaZero gamma naming new (zero_at l n r (zero_position base z)) (array_bytes part (bytes_at new h))

      module _ (exactly : (e : Exact) → exact ≡ Some e → IsExactly l n gamma naming old bases b base row i to j from size e) (inside : (e : Exact) → exact ≡ Some e → 0 < size → (x : ℕ) → w.lo ≤ x → x ≤ w.hi → (to ≤ x) × (x < to + size)) where
        -- ---- the array of the source

        record IsSource (e : Exact) (k : ℕ) (other : ZeroPart) : Type 0 where
          bytes : ℕ
          own_size : part.size ≡ Some bytes
          other_size : other.size ≡ Some bytes
          after : to ≤ part.offset
          before : part.offset + bytes ≤ to + size
          there : other.offset ≡ from + (part.offset - to)

        array_found_in : (e : Exact) (k : ℕ) → source_part e part ≡ Some k → (other : ZeroPart) × (slice_get e.source.shape.zeros k ≡ Some other)
        unfolding source_part
        array_found_in e k found =
            let f = array_found (source_offset e part) part.size 0 e.source.shape.zeros k (not_before (nat_lt part.offset e.to) (array_at (source_offset e part) part.size 0 e.source.shape.zeros) k found) in
            let d = f.number in
            let y : f.index ≡ k = omega (arith, d) in
            (f.part, subst (λ z. slice_get e.source.shape.zeros z ≡ Some f.part) y f.among)

        target_small : to + size ≤ 2 ^ 63
        target_small = let f = c.region.fits in let s = small i in omega (arith, f, s)

        source_small : from + size ≤ 2 ^ 63
        source_small = let f = c.fits in let s = small j in omega (arith, f, s)

        is_source : (e : Exact) (is : exact ≡ Some e) (k : ℕ) (other : ZeroPart) → lies_inside e part ≡ true → source_part e part ≡ Some k → slice_get e.source.shape.zeros k ≡ Some other → IsSource e k other
        unfolding source_part
        is_source e is k other within found there =
            let x = exactly e is in
            let s = some_length part.size part.offset e.to e.size within in
            let f = array_found (source_offset e part) part.size 0 e.source.shape.zeros k (not_before (nat_lt part.offset e.to) (array_at (source_offset e part) part.size 0 e.source.shape.zeros) k found) in
            let d = f.number in
            let g : f.part ≡ other = same_Some f.part other (sym f.among ∙ (ap (slice_get e.source.shape.zeros) (let y : f.index ≡ k = omega (arith, d) in y) ∙ there)) in
            let a : to ≤ part.offset = subst (λ y. y ≤ part.offset) x.to_is s.2 in
            let r : capped (part.offset + s.0) ≤ capped (to + size) = subst (λ y. capped (part.offset + s.0) ≤ capped (y + size)) x.to_is (subst (λ y. capped (part.offset + s.0) ≤ capped (e.to + y)) x.size_is s.3) in
            let u = target_small in
            let v = source_small in
            let end_in : part.offset + s.0 ≤ to + size = omega (arith, r, u) in
            let place : other.offset ≡ capped (from + (part.offset - to)) = sym (ap (λ y. y.offset) g) ∙ (f.offset_is ∙ (ap (λ y. capped (y + (part.offset - e.to))) x.from_is ∙ ap (λ y. capped (from + (part.offset - y))) x.to_is)) in
            record {
              bytes = s.0;
              own_size = s.1;
              other_size = sym (ap (λ y. y.size) g) ∙ (f.size_is ∙ s.1);
              after = a;
              before = end_in;
              there = omega (arith, place, a, end_in, v);
            }

        -- the arrays have the same contents
        same_array : (e : Exact) (k : ℕ) (other : ZeroPart) → IsSource e k other → first_zero (array_bytes part (bytes_at new i)) ≡ first_zero (array_bytes other (bytes_at old j))
        unfolding byte_at
        same_array e k other s =
            let d : array_bytes part (bytes_at new i) ≡ take s.bytes (drop part.offset (bytes_at new i)) = ap (λ y. array_of y (drop part.offset (bytes_at new i))) s.own_size in
            let f : array_bytes other (bytes_at old j) ≡ take s.bytes (drop other.offset (bytes_at old j)) = ap (λ y. array_of y (drop other.offset (bytes_at old j))) s.other_size in
            let a = s.after in
            let end_in = s.before in
            let there = s.there in
            let lengths = c.region.lengths i in
            let room = c.region.fits in
            let source_room = c.fits in
            let x = length-drop part.offset (bytes_at new i) in
            let y = length-take s.bytes (drop part.offset (bytes_at new i)) in
            let u = length-drop other.offset (bytes_at old j) in
            let v = length-take s.bytes (drop other.offset (bytes_at old j)) in
            ap first_zero d
            ∙ (same_zeros (take s.bytes (drop part.offset (bytes_at new i))) (take s.bytes (drop other.offset (bytes_at old j))) (omega (arith, x, y, u, v, a, end_in, there, lengths, room, source_room))
            (λ g left right h t.
            let few = slice_get_within (take s.bytes (drop part.offset (bytes_at new i))) g left h in
            let here : slice_get (bytes_at new i) (part.offset + g) ≡ Some left = sym ((array_get (Some s.bytes) part.offset (bytes_at new i) g).0 (omega arith, omega (arith, few, y))) ∙ h in
            let from_there : slice_get (bytes_at old j) (other.offset + g) ≡ Some right = sym ((array_get (Some s.bytes) other.offset (bytes_at old j) g).0 (omega arith, omega (arith, few, y))) ∙ t in
            let m : part.offset + g ≡ to + ((part.offset - to) + g) = omega (arith, a) in
            let w : other.offset + g ≡ from + ((part.offset - to) + g) = omega (arith, there) in
            c.same ((part.offset - to) + g) left right (omega (arith, a, end_in, few, y)) (sym (ap (λ z. slice_get (bytes_at new i) z) m) ∙ here) (sym (ap (λ z. slice_get (bytes_at old j) z) w) ∙ from_there))
            ∙ sym (ap first_zero f))

        any_new : (h : ℕ) → InGammaZero gamma naming new (any_zero l n) (array_bytes part (bytes_at new h))
        any_new h = any_zero_stands o q naming new (array_bytes part (bytes_at new h)) (new_small part h)

        -- what the turn of the array puts there
        put_is : (r : List (Cell I)) → Source r → (h : ℕ) → IsLiveOf naming old b h → InGammaZero gamma naming new (zero_copied l n exact part r) (array_bytes part (bytes_at new h))
        put_is r source h alive = by_exact exact refl
          where
            by_part : (e : Exact) → exact ≡ Some e → lies_inside e part ≡ true → (k : Option ℕ) → source_part e part ≡ k → InGammaZero gamma naming new (zero_from l n e.source r k) (array_bytes part (bytes_at new h))
            by_part e is within None found = any_new h
            by_part e is within (Some k) found =
                let f = array_found_in e k found in
                let s = is_source e is k f.0 within found f.1 in
                let sole : h ≡ i = (exactly e is).sole h alive in
                subst (λ y. InGammaZero gamma naming new (zero_at l n r (zero_position e.source k)) (array_bytes part (bytes_at new y))) (sym sole)
                (subst (λ y. gamma (zero_at l n r (zero_position e.source k)).at (zero_offset y)) (sym (same_array e k f.0 s)) (source e is k f.0 within found f.1))

            by_inside : (e : Exact) → exact ≡ Some e → (d : Bool) → lies_inside e part ≡ d → InGammaZero gamma naming new (cond d (zero_from l n e.source r (source_part e part)) (any_zero l n)) (array_bytes part (bytes_at new h))
            by_inside e is true within = by_part e is within (source_part e part) refl
            by_inside e is false within = any_new h

            by_exact : (x : Option Exact) → exact ≡ x → InGammaZero gamma naming new (zero_copied l n x part r) (array_bytes part (bytes_at new h))
            by_exact None is = any_new h
            by_exact (Some e) is = by_inside e is (lies_inside e part) refl

        here_too : (y : ℕ) (other : ZeroPart) (r : List (Cell I)) → slice_get base.shape.zeros y ≡ Some other → length r ≡ length row → zero_position base y < length r
        here_too y other r e h = let x = part_in y other e in omega (arith, h, x)

        -- the turn of the array itself
        makes : (r : List (Cell I)) → Before r → After (turn part z r)
        unfolding copy_part_at
        makes r h = subst (λ d. After (cond d (put_zero r (zero_position base z) (zero_copied l n exact part r)) r)) (sym (ap is_some met)) (record {
          sized = put_long r (zero_position base z) (zero_copied l n exact part r) ∙ h.sized;
          stands_for = λ g alive. put_zero_stands o q naming new r (zero_position base z) (zero_copied l n exact part r) (array_bytes part (bytes_at new g)) (here_too z part r among h.sized) (new_small part g) (put_is r h.source g alive);
        })

        -- the turns behind it
        after_keeps : (y : ℕ) (other : ZeroPart) → slice_get base.shape.zeros y ≡ Some other → (y ≡ z → ⊥) → (r : List (Cell I)) → After r → After (turn other y r)
        unfolding copy_part_at
        after_keeps y other e ne r h = by_target (is_some (zero_target other w))
          where
            apart : zero_position base z ≡ zero_position base y → ⊥
            apart same = ne (sym (parts_apart z y part other among e same))

            by_target : (d : Bool) → After (cond d (put_zero r (zero_position base y) (zero_copied l n exact other r)) r)
            by_target false = h
            by_target true = record {
              sized = put_long r (zero_position base y) (zero_copied l n exact other r) ∙ h.sized;
              stands_for = λ g alive. subst (λ x. InGammaZero gamma naming new x (array_bytes part (bytes_at new g))) (sym (put_apart r (zero_position base y) (zero_position base z) (zero_copied l n exact other r) apart)) (h.stands_for g alive);
            }

        -- ---- the turns before it: what is put at the array of the source is what was there

        -- the parts of the base and of the source at one position
        same_part : (e : Exact) (is : exact ≡ Some e) (k y : ℕ) (own other : ZeroPart) → slice_get e.source.shape.zeros k ≡ Some own → slice_get base.shape.zeros y ≡ Some other → zero_position e.source k ≡ zero_position base y → (own ≡ other) × (k ≡ y) × (j ≡ i)
        same_part e is k y own other f g same = by_base (cases_eq x.number b)
          where
            x : IsExactly l n gamma naming old bases b base row i to j from size e
            x = exactly e is

            k_is : zero_position e.source k ≡ (e.source.first + base_cells e.source) + k
            k_is =
                let u = slice_get_within e.source.shape.zeros k own f in
                let d = laid.close x.number e.source x.among in
                let s = laid.small in
                zero_is e.source k (omega (arith, d, s)) (omega (arith, u))

            by_base : (x.number ≡ b) ⊎ (x.number ≡ b → ⊥) → (own ≡ other) × (k ≡ y) × (j ≡ i)
            by_base (inr ne) =
                let u = slice_get_within e.source.shape.zeros k own f in
                let v = slice_get_within base.shape.zeros y other g in
                let d = zero_is base y fits (omega (arith, v)) in
                let m = k_is in
                elim (laid.apart x.number b e.source base x.among at ne) [ inl t ↦ absurd (omega (arith, t, u, v, d, m, same)) | inr t ↦ absurd (omega (arith, t, u, v, d, m, same)) ]
            by_base (inl same_base) =
                let t : e.source ≡ base = same_Some e.source base (sym x.among ∙ (ap (slice_get bases) same_base ∙ at)) in
                let f2 : slice_get base.shape.zeros k ≡ Some own = subst (λ y. slice_get y.shape.zeros k ≡ Some own) t f in
                let p2 : zero_position base k ≡ zero_position base y = subst (λ u. zero_position u k ≡ zero_position base y) t same in
                let d = parts_apart k y own other f2 g p2 in
                (same_Some own other (sym f2 ∙ (ap (slice_get base.shape.zeros) d ∙ g)), d, x.named same_base)

        -- an array of the base that stands at the place of the source's is the array itself, where the window meets it
        same_as_own : (e : Exact) (is : exact ≡ Some e) (k y : ℕ) (own other : ZeroPart) → IsSource e k own → own ≡ other → j ≡ i → (found : ZeroTarget) → zero_target other w ≡ Some found → other ≡ part
        same_as_own e is k y own other s same one found hit =
            let t = target_is other w found hit in
            let size_is : other.size ≡ Some s.bytes = sym (ap (λ u. u.size) same) ∙ s.other_size in
            let there : other.offset ≡ from + (part.offset - to) = sym (ap (λ u. u.offset) same) ∙ s.there in
            let some : (s.bytes == 0) ≡ false = sym (ap has_no_bytes size_is) ∙ t.some in
            let few = eqb-false s.bytes 0 some in
            let after = s.after in
            let before = s.before in
            let meets : max w.lo other.offset ≤ min w.hi (capped (other.offset + (s.bytes - 1))) = subst (λ u. max w.lo other.offset ≤ min w.hi (last_of other.offset u)) size_is t.meets in
            let positive : 0 < s.bytes = not_zero s.bytes few in
            let x : ℕ = max w.lo other.offset in
            let within = inside e is (omega (arith, after, before, positive)) x (omega arith) (omega (arith, meets)) in
            let in_to = within.0 in
            let in_end = within.1 in
            let spot : to ≡ from = c.apart x one in_to in_end (omega (arith, there)) (omega (arith, there, meets, positive, before, after)) in
            let d : other.offset ≡ part.offset = omega (arith, there, spot, after) in
            let g : other.size ≡ part.size = size_is ∙ sym s.own_size in
            λ u. record { offset = d u; size = g u }

        before_keeps : (y : ℕ) (other : ZeroPart) → slice_get base.shape.zeros y ≡ Some other → (r : List (Cell I)) → Before r → Before (turn other y r)
        unfolding copy_part_at
        before_keeps y other among_y r h = by_target (zero_target other w) refl
          where
            put_there : (e : Exact) → exact ≡ Some e → (k : ℕ) (own : ZeroPart) → lies_inside e part ≡ true → source_part e part ≡ Some k → slice_get e.source.shape.zeros k ≡ Some own → other ≡ part → InGammaZero gamma naming old (zero_copied l n exact other r) (array_bytes own (bytes_at old j))
            put_there e is k own within found there same =
                subst (λ u. InGammaZero gamma naming old (zero_copied l n exact u r) (array_bytes own (bytes_at old j))) (sym same)
                (subst (λ u. InGammaZero gamma naming old (zero_copied l n u part r) (array_bytes own (bytes_at old j))) (sym is)
                (subst (λ u. InGammaZero gamma naming old (cond u (zero_from l n e.source r (source_part e part)) (any_zero l n)) (array_bytes own (bytes_at old j))) (sym within)
                (subst (λ u. InGammaZero gamma naming old (zero_from l n e.source r u) (array_bytes own (bytes_at old j))) (sym found)
                (h.source e is k own within found there))))

            put_source : (found : ZeroTarget) → zero_target other w ≡ Some found → Source (put_zero r (zero_position base y) (zero_copied l n exact other r))
            put_source hit_at hit e is k own within found there = by_place (cases_eq (zero_position e.source k) (zero_position base y))
              where
                by_place : (zero_position e.source k ≡ zero_position base y) ⊎ (zero_position e.source k ≡ zero_position base y → ⊥) → InGammaZero gamma naming old (zero_at l n (put_zero r (zero_position base y) (zero_copied l n exact other r)) (zero_position e.source k)) (array_bytes own (bytes_at old j))
                by_place (inr apart) = subst (λ x. InGammaZero gamma naming old x (array_bytes own (bytes_at old j))) (sym (put_apart r (zero_position base y) (zero_position e.source k) (zero_copied l n exact other r) apart)) (h.source e is k own within found there)
                by_place (inl same) =
                    let t = same_part e is k y own other there among_y same in
                    let s = is_source e is k own within found there in
                    let own_is = same_as_own e is k y own other s t.0 t.2 hit_at hit in
                    subst (λ x. InGammaZero gamma naming old (zero_at l n (put_zero r (zero_position base y) (zero_copied l n exact other r)) x) (array_bytes own (bytes_at old j))) (sym same)
                    (put_zero_stands o q naming old r (zero_position base y) (zero_copied l n exact other r) (array_bytes own (bytes_at old j)) (here_too y other r among_y h.sized) (old_small own j) (put_there e is k own within found there own_is))

            by_target : (found : Option ZeroTarget) → zero_target other w ≡ found → Before (cond (is_some (zero_target other w)) (put_zero r (zero_position base y) (zero_copied l n exact other r)) r)
            by_target None hit = subst (λ d. Before (cond (is_some d) (put_zero r (zero_position base y) (zero_copied l n exact other r)) r)) (sym hit) h
            by_target (Some found) hit = subst (λ d. Before (cond (is_some d) (put_zero r (zero_position base y) (zero_copied l n exact other r)) r)) (sym hit) (record {
              sized = put_long r (zero_position base y) (zero_copied l n exact other r) ∙ h.sized;
              source = put_source found hit;
            })

        pub met_stands : After (copy_zeros l n base w exact row)
        unfolding copy_zeros
        met_stands = one_makes Before After turn 0 base.shape.zeros z part among
            (λ y a other e d r h. let same : a ≡ y = omega (arith, d) in subst (λ x. Before (turn other x r)) (sym same) (before_keeps y other e r h))
            (λ y a other e d ne r h. let same : a ≡ y = omega (arith, d) in subst (λ x. After (turn other x r)) (sym same) (after_keeps y other e ne r h))
            (λ a d r h. let same : a ≡ z = omega (arith, d) in subst (λ x. After (turn part x r)) (sym same) (makes r h))
            row (record { sized = refl; source = λ e is k own within found there. (exactly e is).zeros k own there })

pub copied_zeros_stand : {I : Type 0} {l : LatticeOf I} {n : IntegersOf I} {gamma : I → ℤ → Type 0} (o : OrderLaws l) (q : BoundLaws l n gamma) → CopiedZerosStand l n gamma
copied_zeros_stand {I} {l} {n} {gamma} o q naming bases behind laid old new i to j from size c small b base at w window row long exact exactly z part among zeros h alive = by_target (zero_target part w) refl
  where
    by_target : (target : Option ZeroTarget) → zero_target part w ≡ target → ZeroStands l n gamma naming new base (copy_zeros l n base w exact row) z part h
    by_target None none = apart_stands o q naming bases behind laid c small b base at w window row long exact z part among none zeros h alive
    by_target (Some target) met = (met_stands o q naming bases behind laid c small b base at w window row long exact z part among target met (λ e is. (exactly e is).0) (λ e is. (exactly e is).1)).stands_for h alive
