-- Where a window has an indeterminate byte of one of the bases, it is said that it may have one.
use Rattle.std.proofs.Common.{◌≡◌, ℕ, zero, suc, ◌+◌, ◌<◌, ◌≤◌, Bool, true, false, cond, not, ◌&&◌, ◌||◌, Option, Some, None, List, [], ◌∷◌, length, arith, subst, refl, ap, ◌∙◌, inl, inr}
use Rattle.std.specs.Prelude.{slice_get, ℤ}
use Rattle.std.proofs.lemmas.Bool.{and_parts, and_from, or_left, or_right, or_cases}
use Rattle.std.proofs.lemmas.Option.{same_Some, slice_get_within}
use Rattle.cc_base.specs.Lattices.{LatticeOf, OrderLaws}
use Rattle.cc_base.specs.IntegerDomains.{IntegersOf, BoundLaws}
use Rattle.cc_base.specs.IntegerLaws.{SoundLaws}
use Rattle.c_layout.specs.declared.data_model.Model.{Model}
use Rattle.c_layout.specs.declared.leaf_lists.Class.TheVariants.{Char}
use Rattle.c_layout.specs.declared.shapes.BaseInfo.{BaseInfo}
use Rattle.cfg.specs.declared.programs.Flow.{Flow}
use Rattle.pointer_domain.specs.BaseSets.{bases_has}
use Rattle.pointer_domain.specs.declared.base_sets.Bases.{Bases}
use Rattle.value_domain.specs.declared.values.values.Value.{Value}
use Rattle.value_domain.specs.declared.values.row_cells.Cell.{Cell}
use Rattle.store_cells.specs.declared.access_windows.Window.{Window}
use Rattle.store_cells.specs.CellReads.{joined}
use Rattle.store_objects.specs.LiveBases.{has_base, is_live_in, may_be_live}
use Rattle.store.specs.Loads.{is_text, load_character, determinate_if, load_base, read_base, load_bases}
use Rattle.store_cells.specs.Walks.{walk}
use Rattle.transfer_library_writes.specs.Sources.{character_access, is_blank, is_blank_in, is_blank_or, reads_blank}
use Rattle.memory_model.specs.Memory.ScalarSizes.{class_bytes}
use Rattle.memory_model.specs.Memory.Bytes.{Content, indeterminate, Byte}
use Rattle.memory_model.specs.Memory.Instances.{live, bytes_at, byte_at, life_at}
use Rattle.store_sound.specs.Concretization.Matching.{Fits, Matched}
use Rattle.store_sound.specs.Concretization.ValueMeaning.{Naming, InGammaContent}
use Rattle.store_sound.specs.Concretization.RowMeaning.{MachineState, InGamma}
use Rattle.store_sound.specs.Operations.Gives.{Gives}
use Rattle.store_sound.specs.Operations.Shapes.{AreShaped, SeesPadding}
use Rattle.store_sound.proofs.operations.CellReads.{Sees, blank_stands}
use Rattle.store_sound.proofs.operations.CharSound.{char_reaches}
use Rattle.store_sound.proofs.operations.Larger.{value_below}
use Rattle.store_sound.proofs.operations.Texts.{byte_flag, read_flag, no_text}

-- ---- what is joined

module _ {I : Type 0} (l : LatticeOf I) (n : IntegersOf I) where
  blank_joined : (a b : Option (Value I)) → is_blank (joined l a b) ≡ true → (is_blank a || is_blank b) ≡ true
  blank_joined None b e = e
  blank_joined (Some x) None e = or_left x.indeterminate false e
  blank_joined (Some x) (Some y) e = e

  blank_determinate : (text : Bool) (x : Option (Value I)) → is_blank (determinate_if text x) ≡ true → is_blank x ≡ true
  blank_determinate text None e = e
  blank_determinate text (Some v) e = (and_parts v.indeterminate (not text) e).0

  given_blank : (x : Option (Value I)) → Gives (λ v. v.indeterminate ≡ true) x → is_blank x ≡ true
  given_blank None g = let e = g.is in cc
  given_blank (Some v) g = let same : v ≡ g.value = same_Some v g.value g.is in ap (λ z. z.indeterminate) same ∙ g.good

  module _ (m : Model) (row : List (Cell I)) (set : Bases) (window : Window) where
    blank_loaded : (base : BaseInfo) → is_blank (load_base l n m base row (character_access true window)) ≡ true → is_blank_in l n m row window base ≡ true
    unfolding load_base
    blank_loaded base e = blank_determinate (is_text l n base row window) (load_character l n m base row (character_access true window)) e

    by_alive : (base : BaseInfo) (number : ℕ) (a : Option (Value I)) (b : Bool) → (is_blank a ≡ true → b ≡ true) → (alive : Bool) → is_live_in l n row set base number ≡ alive → is_blank (cond alive (joined l a (load_base l n m base row (character_access true window))) a) ≡ true → is_blank_or l n m row set window base number b ≡ true
    by_alive base number a b h false e g = or_left b (has_base set number && is_blank_in l n m row window base) (h g)
    by_alive base number a b h true e g = elim (or_cases (is_blank a) (is_blank (load_base l n m base row (character_access true window))) (blank_joined a (load_base l n m base row (character_access true window)) g)) [
      | inl k ↦ or_left b (has_base set number && is_blank_in l n m row window base) (h k)
      | inr k ↦ or_right b (has_base set number && is_blank_in l n m row window base) (and_from (has_base set number) (is_blank_in l n m row window base) (and_parts (has_base set number) (may_be_live l n base row) e).0 (blank_loaded base k))
    ]

    blank_walk : (at : ℕ) (bases : List BaseInfo) (a : Option (Value I)) (b : Bool) → (is_blank a ≡ true → b ≡ true) → is_blank (walk (read_base l n m row set (character_access true window)) at bases a) ≡ true → walk (is_blank_or l n m row set window) at bases b ≡ true
    blank_walk at [] a b h g = h g
    blank_walk at (x ∷ xs) a b h g = blank_walk (at + 1) xs (read_base l n m row set (character_access true window) x at a) (is_blank_or l n m row set window x at b) (λ k. by_alive x at a b h (is_live_in l n row set x at) refl k) g

    -- what is loaded from some base may be indeterminate in one of them
    blank_read : (bases : List BaseInfo) → Gives (λ v. v.indeterminate ≡ true) (load_bases l n m bases row set (character_access true window)) → reads_blank l n m bases row set window ≡ true
    unfolding load_bases reads_blank
    blank_read bases g = blank_walk 0 bases None false (λ e. e) (given_blank (walk (read_base l n m row set (character_access true window)) 0 bases None) g)

-- ---- a byte

module _ {I : Type 0} {l : LatticeOf I} {n : IntegersOf I} {gamma : I → ℤ → Type 0} (o : OrderLaws l) (q : BoundLaws l n gamma) (c : SoundLaws l n gamma) (flow : Flow) (shaped : AreShaped flow.bases.items) (padding : SeesPadding flow.model flow.bases.items) (naming : Naming) (row : List (Cell I)) (state : MachineState) (s : InGamma l n gamma flow naming row state)
    (set : Bases) (window : Window) (i x b : ℕ) (base : BaseInfo) (at : slice_get flow.bases.items b ≡ Some base) (named : naming i ≡ Some b) (alive : life_at state.memory i ≡ live) (has : bases_has set b ≡ true) (from : window.lo ≤ x) (to : x ≤ window.hi) (byte : Byte) (here : byte_at state.memory i x ≡ Some byte) (is : byte.content ≡ indeterminate) where
  sees : Fits Char 0 byte.tag → Sees flow.model state.memory i x Char (indeterminate ∷ [])
  sees fits = record { long = refl; each = each }
    where
      each : (k : ℕ) (d : Content) → slice_get (indeterminate ∷ []) k ≡ Some d → (k < class_bytes flow.model Char) × Matched state.memory i (x + k) Char k d
      each zero d e =
          let same : indeterminate ≡ d = same_Some indeterminate d e in
          let there : x ≡ x + 0 = omega arith in
          (omega arith, subst (λ z. Matched state.memory i z Char 0 d) there (record { tag = byte.tag; here = here ∙ ap (λ z. Some (record { content = z; tag = byte.tag })) (is ∙ same); fits = fits }))
      each (suc k) d e = cc

  inside : x + class_bytes flow.model Char ≤ length (bytes_at state.memory i)
  unfolding byte_at
  inside = let w = slice_get_within (bytes_at state.memory i) x byte here in omega (arith, w)

  pub blank_told : reads_blank l n flow.model flow.bases.items row set window ≡ true
  blank_told = blank_read l n flow.model row set window flow.bases.items
      (char_reaches o q flow shaped padding naming row state s (character_access true window) refl i x from to alive inside b base at named byte here {P = λ v. v.indeterminate ≡ true}
      (λ u v h. (value_below l u v h).indeterminate)
      (λ v d h. byte_flag l n flow.model v d true (subst (InGammaContent gamma naming state.memory v d) is h))
      refl
      (λ t v h. absurd (no_text q flow naming row state s i x b base at (record { named = named; alive = alive }) window from to byte here is t))
      (λ fits signed Place Owns v cell place owns. read_flag n flow.model v Char signed true (blank_stands c flow naming state.memory s.sane b Char signed Place Owns v cell i x (record { named = named; alive = alive }) place owns (indeterminate ∷ []) (sees fits) refl))
      set has)
