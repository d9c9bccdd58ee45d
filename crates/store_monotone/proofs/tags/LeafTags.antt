-- Lists of leaves with known tags from an offset on.
use Rattle.std.proofs.Common.{◌≡◌, ℕ, zero, suc, ◌+◌, ◌-◌, ◌*◌, ◌<◌, ◌≤◌, Bool, true, false, cond, nat_le, List, [], ◌∷◌, ◌++◌, Option, Some, None, arith, ap, sym, subst, refl, ◌∙◌}
use Rattle.std.proofs.lemmas.Bool.{leb-true, leb-false}
use Rattle.c_layout.specs.declared.data_model.Model.{Model}
use Rattle.c_layout.specs.declared.leaf_lists.Leaf.{Leaf}
use Rattle.c_layout.specs.Leaves.{repeated}
use Rattle.memory_model.specs.Memory.Bytes.{Tag}
use Rattle.memory_model.specs.Memory.Tags.{leaf_tag, or_tag, tag_at}
use Rattle.store_monotone.specs.Tags.TypeTags.{shifted, repeated_tags}
use Rattle.store_monotone.proofs.tags.RepeatedTags.{or_or, shifted_before}

module _ (m : Model) where
  pub tag_append : (xs ys : List Leaf) (x : ℕ) → tag_at m (xs ++ ys) x ≡ or_tag (tag_at m xs x) (tag_at m ys x)
  tag_append [] ys x = refl
  tag_append (l ∷ xs) ys x = ap (or_tag (leaf_tag m l x)) (tag_append xs ys x) ∙ sym (or_or (leaf_tag m l x) (tag_at m xs x) (tag_at m ys x))

  -- the tags from an offset on, and none before it
  pub record AreTags (at : ℕ) (tags : ℕ → Option Tag) (leaves : List Leaf) : Type 0 where
    pub on : (x : ℕ) → tag_at m leaves (at + x) ≡ tags x
    pub before : (x : ℕ) → x < at → tag_at m leaves x ≡ None

  pub tags_as : (at : ℕ) (f g : ℕ → Option Tag) (xs : List Leaf) → ((x : ℕ) → f x ≡ g x) → AreTags at f xs → AreTags at g xs
  tags_as at f g xs e h = record { on = λ x. h.on x ∙ e x; before = h.before }

  pub tags_behind : (at o : ℕ) (f : ℕ → Option Tag) (xs : List Leaf) → AreTags (at + o) f xs → AreTags at (shifted o f) xs
  tags_behind at o f xs h = record {
    on = λ x. by_test x (nat_le o x) refl;
    before = λ x less. h.before x (omega (arith, less));
  }
    where
      by_test : (x : ℕ) (c : Bool) → nat_le o x ≡ c → tag_at m xs (at + x) ≡ cond c (f (x - o)) None
      by_test x true e =
          let k = leb-true o x e in
          let s : at + x ≡ (at + o) + (x - o) = omega (arith, k) in
          ap (tag_at m xs) s ∙ h.on (x - o)
      by_test x false e = h.before (at + x) (let k = leb-false o x e in omega (arith, k))

  pub tags_joined : (at : ℕ) (f g : ℕ → Option Tag) (xs ys : List Leaf) → AreTags at f xs → AreTags at g ys → AreTags at (λ x. or_tag (f x) (g x)) (xs ++ ys)
  tags_joined at f g xs ys h k = record {
    on = λ x. tag_append xs ys (at + x) ∙ (ap (λ o. or_tag o (tag_at m ys (at + x))) (h.on x) ∙ ap (or_tag (f x)) (k.on x));
    before = λ x less. tag_append xs ys x ∙ (ap (λ o. or_tag o (tag_at m ys x)) (h.before x less) ∙ k.before x less);
  }

  pub tags_repeated : (step : ℕ) (f : ℕ → Option Tag) (element : ℕ → List Leaf) → ((at : ℕ) → AreTags at f (element at)) → (n at : ℕ) → AreTags at (repeated_tags n step f) (repeated n at step element)
  tags_repeated step f element each zero at = record { on = λ x. refl; before = λ x less. refl }
  tags_repeated step f element each (suc n) at =
      let a = tags_joined at f (shifted step (repeated_tags n step f)) (element at) (repeated n (at + step) step element) (each at)
      (tags_behind at step (repeated_tags n step f) (repeated n (at + step) step element) (tags_repeated step f element each n (at + step))) in
      record { on = a.on; before = a.before }
