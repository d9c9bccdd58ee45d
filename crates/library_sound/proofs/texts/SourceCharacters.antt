-- The characters that a call reads stand for those of the machine.
use Rattle.std.proofs.Common.{◌≡◌, ℕ, zero, suc, ◌+◌, ◌<◌, ◌≤◌, Bool, true, false, cond, Option, Some, None, List, [], ◌∷◌, length, arith, subst, sym, refl, ap, ◌∙◌}
use Rattle.std.specs.Prelude.{slice_get, ℤ}
use Rattle.std.proofs.lemmas.Bool.{and_parts}
use Rattle.std.proofs.lemmas.Option.{same_Some, slice_get_within}
use Rattle.cc_base.specs.Lattices.{LatticeOf, OrderLaws}
use Rattle.cc_base.specs.IntegerDomains.{IntegersOf, BoundLaws}
use Rattle.cc_base.specs.IntegerLaws.{SoundLaws}
use Rattle.cc_base.specs.declared.int_types.IntType.{IntType}
use Rattle.c_layout.specs.declared.data_model.Model.{Model}
use Rattle.c_layout.specs.declared.leaf_lists.Class.TheVariants.{Char}
use Rattle.c_layout.specs.declared.shapes.BaseInfo.{BaseInfo}
use Rattle.cfg.specs.declared.machine_instructions.Scalar.TheVariants as of
use Rattle.cfg.specs.declared.programs.Flow.{Flow}
use Rattle.pointer_domain.specs.BaseSets.{bases_has}
use Rattle.pointer_domain.specs.declared.base_sets.Bases.{Bases}
use Rattle.value_domain.specs.Values.LabelSets.{labels_leq, labels_order}
use Rattle.value_domain.specs.Values.Values.{value_lattice, value_order}
use Rattle.value_domain.specs.declared.values.values.Value.{Value}
use Rattle.value_domain.specs.declared.values.row_cells.Cell.{Cell}
use Rattle.store_cells.specs.declared.access_windows.Window.{Window}
use Rattle.store_cells.specs.declared.cell_reads.Access.{Access}
use Rattle.store_cells.specs.CellReads.{joined_with, joined}
use Rattle.store_objects.specs.LiveBases.{has_base, is_live_in, may_be_live}
use Rattle.store.specs.Loads.{load_base, read_base, load_bases}
use Rattle.store_cells.specs.Walks.{walk}
use Rattle.transfer_library_writes.specs.Sources.{character_access, read_characters, characters_read, number_of, labels_of, characters_of}
use Rattle.memory_model.specs.Memory.Labels.{Labels, no_labels}
use Rattle.memory_model.specs.Memory.ScalarSizes.{class_bytes}
use Rattle.memory_model.specs.Memory.Bytes.{Content, Byte}
use Rattle.memory_model.specs.Memory.Instances.{live, bytes_at, byte_at, life_at}
use Rattle.memory_model.specs.Memory.Numbers.{Labelled}
use Rattle.memory_model.specs.Memory.Numbers as numbers
use Rattle.memory_model.specs.Memory.Scalars.{Scalar, integer}
use Rattle.memory_model.specs.Effects.Accesses.{joined_labels}
use Rattle.store_sound.specs.Concretization.Matching.{Fits, Matched, number_in}
use Rattle.store_sound.specs.Concretization.SeenLabels.{as_set}
use Rattle.store_sound.specs.Concretization.SoundMemory.{IsContentIn}
use Rattle.store_sound.specs.Concretization.ValueMeaning.{Naming, InGammaScalar, InGammaContent}
use Rattle.store_sound.specs.Concretization.RowMeaning.{MachineState, InGamma}
use Rattle.store_sound.specs.Operations.Gives.{Gives}
use Rattle.store_sound.specs.Operations.Shapes.{AreShaped, SeesPadding}
use Rattle.store_sound.proofs.operations.CellReads.{Sees, scalar_stands}
use Rattle.store_sound.proofs.operations.CharSound.{char_reaches}
use Rattle.store_sound.proofs.operations.CharValues.{byte_stands, padding_stands}
use Rattle.store_sound.proofs.operations.Larger.{value_below, scalar_larger}

-- ---- what is read is more than what is loaded

module _ {I : Type 0} {l : LatticeOf I} (o : OrderLaws l) (n : IntegersOf I) where
  -- where the first gives something, the second gives something larger
  Below : Option (Value I) → Option (Value I) → Type 0
  Below a b = (x : Value I) → a ≡ Some x → Gives (λ y. (value_lattice l).leq x y ≡ true) b

  below_self : (a : Option (Value I)) → Below a a
  unfolding Below
  below_self a x e = record { value = x; is = e; good = (value_order o).reflexive x }

  below_more : (a b v : Option (Value I)) → Below a b → Below a (joined l b v)
  unfolding Below
  below_more a None v h x e = let g = (h x e).is in cc
  below_more a (Some z) None h x e = h x e
  below_more a (Some z) (Some y) h x e =
      let g = h x e in
      let same : z ≡ g.value = same_Some z g.value g.is in
      record { value = (value_lattice l).join z y; is = refl; good = (value_order o).transitive x z _ (subst (λ t. (value_lattice l).leq x t ≡ true) (sym same) g.good) ((value_order o).join_left z y) }

  below_both : (a b v : Option (Value I)) → Below a b → Below (joined l a v) (joined l b v)
  unfolding Below
  below_both None b None h x e = cc
  below_both None None (Some y) h x e = record { value = x; is = e; good = (value_order o).reflexive x }
  below_both None (Some z) (Some y) h x e =
      let same : y ≡ x = same_Some y x e in
      record { value = (value_lattice l).join z y; is = refl; good = subst (λ t. (value_lattice l).leq t ((value_lattice l).join z y) ≡ true) same ((value_order o).join_right z y) }
  below_both (Some w) b v h x e = by_second b v (h w refl) x e
    where
      by_second : (b v : Option (Value I)) → Gives (λ y. (value_lattice l).leq w y ≡ true) b → (x : Value I) → Some (joined_with l w v) ≡ Some x → Gives (λ y. (value_lattice l).leq x y ≡ true) (joined l b v)
      by_second None v g x e = let f = g.is in cc
      by_second (Some z) None g x e = let same : w ≡ x = same_Some w x e in subst (λ t. Gives (λ y. (value_lattice l).leq t y ≡ true) (Some z)) same g
      by_second (Some z) (Some y) g x e =
          let same : (value_lattice l).join w y ≡ x = same_Some ((value_lattice l).join w y) x e in
          let equal : z ≡ g.value = same_Some z g.value g.is in
          let less : (value_lattice l).leq w z ≡ true = subst (λ t. (value_lattice l).leq w t ≡ true) (sym equal) g.good in
          record {
            value = (value_lattice l).join z y;
            is = refl;
            good = subst (λ t. (value_lattice l).leq t ((value_lattice l).join z y) ≡ true) same
                ((value_order o).join_least w y ((value_lattice l).join z y) ((value_order o).transitive w z _ less ((value_order o).join_left z y)) ((value_order o).join_right z y));
          }

  module _ (m : Model) (row : List (Cell I)) (set : Bases) (access : Access) where
    turn_below : (base : BaseInfo) (number : ℕ) (a b : Option (Value I)) → Below a b → Below (read_base l n m row set access base number a) (read_characters l n m row set access base number b)
    turn_below base number a b h = by_flags (is_live_in l n row set base number) (has_base set number) (λ e. (and_parts (has_base set number) (may_be_live l n base row) e).0)
      where
        by_flags : (alive wanted : Bool) → (alive ≡ true → wanted ≡ true) → Below (cond alive (joined l a (load_base l n m base row access)) a) (cond wanted (joined l b (load_base l n m base row access)) b)
        by_flags true true f = below_both a b (load_base l n m base row access) h
        by_flags true false f = let e : false ≡ true = f refl in cc
        by_flags false true f = below_more a b (load_base l n m base row access) h
        by_flags false false f = h

    walk_below : (at : ℕ) (bases : List BaseInfo) (a b : Option (Value I)) → Below a b → Below (walk (read_base l n m row set access) at bases a) (walk (read_characters l n m row set access) at bases b)
    walk_below at [] a b h = h
    walk_below at (x ∷ xs) a b h = walk_below (at + 1) xs (read_base l n m row set access x at a) (read_characters l n m row set access x at b) (turn_below x at a b h)

    -- what is loaded from some base is read
    reads_more : (bases : List BaseInfo) (P : Value I → Type 0) → ((x y : Value I) → (value_lattice l).leq x y ≡ true → P x → P y) → Gives P (load_bases l n m bases row set access) → Gives P (walk (read_characters l n m row set access) 0 bases None)
    unfolding load_bases Below
    reads_more bases P up g =
        let h = walk_below 0 bases None None (below_self None) g.value g.is in
        record { value = h.value; is = h.is; good = up g.value h.value h.good g.good }

-- ---- one character

one_size : (m : Model) → class_bytes m Char ≡ 1
one_size m = refl

module _ {I : Type 0} {l : LatticeOf I} {n : IntegersOf I} {gamma : I → ℤ → Type 0} (o : OrderLaws l) (q : BoundLaws l n gamma) (c : SoundLaws l n gamma) (flow : Flow) (shaped : AreShaped flow.bases.items) (padding : SeesPadding flow.model flow.bases.items) (naming : Naming) (row : List (Cell I)) (state : MachineState) (s : InGamma l n gamma flow naming row state)
    (set : Bases) (window : Window) (i x b : ℕ) (base : BaseInfo) (at : slice_get flow.bases.items b ≡ Some base) (named : naming i ≡ Some b) (alive : life_at state.memory i ≡ live) (has : bases_has set b ≡ true) (from : window.lo ≤ x) (to : x ≤ window.hi) (byte : Byte) (here : byte_at state.memory i x ≡ Some byte) (y : Labelled) (is : byte.content ≡ number_in y) where
  low : y.number < 256
  low = subst (λ z. IsContentIn state.memory z byte.tag) is (s.sane.bytes i x byte here)

  sees : Fits Char 0 byte.tag → Sees flow.model state.memory i x Char (number_in y ∷ [])
  sees fits = record { long = refl; each = each }
    where
      each : (k : ℕ) (d : Content) → slice_get (number_in y ∷ []) k ≡ Some d → (k < class_bytes flow.model Char) × Matched state.memory i (x + k) Char k d
      each zero d e =
          let same : number_in y ≡ d = same_Some (number_in y) d e in
          let there : x ≡ x + 0 = omega arith in
          (omega arith, subst (λ z. Matched state.memory i z Char 0 d) there (record { tag = byte.tag; here = here ∙ ap (λ z. Some (record { content = z; tag = byte.tag })) (is ∙ same); fits = fits }))
      each (suc k) d e = cc

  abbrev kind : Bool → IntType
  kind signed = record { bytes = 1; signed = signed; rank = 1 }

  abbrev scalar : Bool → Scalar
  scalar signed = integer (numbers.number_of signed (y ∷ [])) (joined_labels (y ∷ []))

  inside : x + class_bytes flow.model Char ≤ length (bytes_at state.memory i)
  unfolding byte_at
  inside = let w = slice_get_within (bytes_at state.memory i) x byte here in omega (arith, w)

  read : (signed : Bool) → Gives (λ v. InGammaScalar gamma naming state.memory v (scalar signed)) (characters_read l n flow.model flow.bases.items row set window signed)
  unfolding characters_read
  read signed = reads_more o n flow.model row set (character_access signed window) flow.bases.items (λ v. InGammaScalar gamma naming state.memory v (scalar signed))
      (λ u v h. scalar_larger q naming state.memory u v (scalar signed) (value_below l u v h))
      (char_reaches o q flow shaped padding naming row state s (character_access signed window) refl i x from to alive inside b base at named byte here {P = λ v. InGammaScalar gamma naming state.memory v (scalar signed)}
      (λ u v h. scalar_larger q naming state.memory u v (scalar signed) (value_below l u v h))
      (λ v d h. byte_stands o q flow.model naming state.memory v d signed y low (subst (InGammaContent gamma naming state.memory v d) is h))
      (padding_stands o q flow.model naming state.memory signed y low)
      (λ t v h. h)
      (λ fits t Place Owns v cell place owns. scalar_stands c flow naming state.memory s.sane b Char t Place Owns v cell i x (record { named = named; alive = alive }) place owns (number_in y ∷ []) (sees fits) (of.Int (kind signed)) (scalar signed) refl refl)
      set has)

  given_number : (v : Option (Value I)) (z : ℤ) (la : Labels) → Gives (λ u. InGammaScalar gamma naming state.memory u (integer z la)) v → gamma (number_of l v) z
  given_number None z la g = let e = g.is in cc
  given_number (Some u) z la g = let same : u ≡ g.value = same_Some u g.value g.is in subst (λ t. gamma t.num z) (sym same) g.good.0

  given_labels : (v : Option (Value I)) (z : ℤ) (la : Labels) → Gives (λ u. InGammaScalar gamma naming state.memory u (integer z la)) v → labels_leq (as_set la) (labels_of v) ≡ true
  given_labels None z la g = let e = g.is in cc
  given_labels (Some u) z la g = let same : u ≡ g.value = same_Some u g.value g.is in subst (λ t. labels_leq (as_set la) t.labels ≡ true) (sym same) g.good.1

  pub source_number : (signed : Bool) → gamma (cond signed (characters_of l n flow.model flow.bases.items row set (Some window)).signed (characters_of l n flow.model flow.bases.items row set (Some window)).unsigned) (numbers.number_of signed (y ∷ []))
  source_number true = given_number (characters_read l n flow.model flow.bases.items row set window true) (numbers.number_of true (y ∷ [])) (joined_labels (y ∷ [])) (read true)
  source_number false = given_number (characters_read l n flow.model flow.bases.items row set window false) (numbers.number_of false (y ∷ [])) (joined_labels (y ∷ [])) (read false)

  pub source_labels : labels_leq (as_set y.labels) (characters_of l n flow.model flow.bases.items row set (Some window)).labels ≡ true
  source_labels = labels_order.transitive (as_set y.labels) (as_set (joined_labels (y ∷ []))) _ (labels_order.join_left (as_set y.labels) (as_set no_labels)) (given_labels (characters_read l n flow.model flow.bases.items row set window true) (numbers.number_of true (y ∷ [])) (joined_labels (y ∷ [])) (read true))
