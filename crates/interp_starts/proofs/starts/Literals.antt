-- The bytes of literals.
use Rattle.std.proofs.Common.{◌≡◌, ℕ, suc, ◌+◌, ◌-◌, ◌/◌, ◌%◌, ◌<◌, ◌&&◌, Bool, true, false, cond, List, [], ◌∷◌, ◌++◌, length, map, take, nat_lt, nat_le, Option, None, refl, sym, ap, ◌∙◌, arith}
use Rattle.std.proofs.lemmas.List.{length-append, length-map}
use Rattle.std.proofs.Math.Seq.{take-length}
use Rattle.std.proofs.lemmas.Bool.Decides.{nat_tests}
use Rattle.c_layout.specs.declared.data_model.Model.{Model}
use Rattle.c_layout.specs.declared.leaf_lists.Leaf.{Leaf}
use Rattle.c_layout.specs.declared.leaf_lists.Class.TheVariants.{Char}
use Rattle.memory_model.specs.Memory.Bytes.{Content, number, Tag, Byte}
use Rattle.memory_model.specs.Memory.Labels.{no_labels}
use Rattle.memory_model.specs.Memory.Instances.{literal, Memory, bytes_at}
use Rattle.memory_model.specs.Memory.Tags.{tag_of, stride_tag, distance_tag, or_tag, tag_at}
use Rattle.memory_model.specs.Effects.ObjectEffects.{blank_bytes, fresh, next_instance, with_instance, characters}
use Rattle.memory_model.specs.Effects.Touches.{set_bytes}
use Rattle.memory_model.specs.Effects.Worlds.{World, goes, with_memory}
use Rattle.memory_model.specs.Effects.ScalarBytes.{filled, refilled}
use Rattle.memory_model.specs.Effects.UnitStarts.{character_byte}
use Rattle.interp_starts.proofs.starts.LastInstances.{made_refilled}

-- characters one behind the other
abbrev pub character_leaf : ℕ → Leaf
character_leaf count = record { offset = 0; class = Char; signed = false; stride = 1; count = count }

by_one : (n : ℕ) → n / 1 ≡ n
by_one n = omega arith

no_rest : (n : ℕ) → n % 1 ≡ 0
no_rest n = omega arith

below : (k count : ℕ) → k < count → nat_lt k count ≡ true
below k count h = grind (arith, nat_tests)

-- each of them has the tag of a character
tag_within : (m : Model) (count k : ℕ) → k < count → tag_at m (character_leaf count ∷ []) k ≡ tag_of Char 0
tag_within m count k h =
    let leaf = character_leaf count in
    let from : nat_le 0 k ≡ true = grind (arith, nat_tests) in
    let far : k - 0 ≡ k = omega arith in
    ap (λ (b : Bool). or_tag (cond b (distance_tag m leaf 1 (k - 0)) None) None) from
    ∙ ap (λ d. or_tag (distance_tag m leaf 1 d) None) far
    ∙ ap (λ t. or_tag (stride_tag m leaf t (k % 1)) None) (by_one k)
    ∙ ap (λ r. or_tag (stride_tag m leaf k r) None) (no_rest k)
    ∙ ap (λ (b : Bool). or_tag (cond (b && nat_lt 0 1) (tag_of Char 0) None) None) (below k count h)

abbrev byte_under : Content → Option Tag → Byte
byte_under c t = record { content = c; tag = t }

filled_from : (m : Model) (count at : ℕ) (cs : List Content) → at + length cs ≡ count → filled (blank_bytes m (character_leaf count ∷ []) at (length cs)) cs ≡ map character_byte cs
filled_from m count at [] e = refl
filled_from m count at (c ∷ cs) e =
    ap (λ t. byte_under c t ∷ filled (blank_bytes m (character_leaf count ∷ []) (suc at) (length cs)) cs) (tag_within m count at (omega arith))
    ∙ ap (λ bs. character_byte c ∷ bs) (filled_from m count (suc at) cs (omega arith))

refilled_characters : (m : Model) (cs : List Content) → refilled (blank_bytes m (character_leaf (length cs) ∷ []) 0 (length cs)) 0 cs ≡ map character_byte cs
refilled_characters m cs = filled_from m (length cs) 0 cs (omega arith)

-- a text and its closing zero
abbrev pub spelled : List ℕ → List Content
spelled text = characters text ++ number 0 no_labels ∷ []

spelled_length : (text : List ℕ) → length (spelled text) ≡ length text + 1
spelled_length text = simp (length-append, length-map) (omega arith)

-- a literal that is spelled as soon as it is made
pub literal_put : (m : Model) (text : List ℕ) (size inst : ℕ) (w v : World) (after : Memory) → size ≡ length text + 1 → goes (next_instance w) (with_instance w (fresh literal (blank_bytes m (character_leaf size ∷ []) 0 size))) ≡ goes inst v → after ≡ set_bytes v.memory inst (refilled (bytes_at v.memory inst) 0 (take size (spelled text))) → with_instance w (fresh literal (map character_byte (spelled text))) ≡ with_memory v after
literal_put m text size inst w v after long made put =
    let all : length (spelled text) ≡ size = spelled_length text ∙ sym long in
    let whole : take size (spelled text) ≡ spelled text = ap (λ n. take n (spelled text)) (sym all) ∙ take-length (spelled text) in
    let bytes : refilled (blank_bytes m (character_leaf size ∷ []) 0 size) 0 (take size (spelled text)) ≡ map character_byte (spelled text) =
    ap (refilled (blank_bytes m (character_leaf size ∷ []) 0 size) 0) whole
    ∙ ap (λ n. refilled (blank_bytes m (character_leaf n ∷ []) 0 n) 0 (spelled text)) (sym all)
    ∙ refilled_characters m (spelled text) in
    ap (λ bs. with_instance w (fresh literal bs)) (sym bytes)
    ∙ made_refilled literal (blank_bytes m (character_leaf size ∷ []) 0 size) (take size (spelled text)) inst w v after made put
