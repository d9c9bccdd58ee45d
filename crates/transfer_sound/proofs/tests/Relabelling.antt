-- Memory in which an object's bytes got other labels, or none.
use Rattle.std.proofs.Common.{◌≡◌, ℕ, zero, suc, ◌<◌, ◌≤◌, Bool, true, false, not, ◌&&◌, ◌||◌, Option, Some, List, [], ◌∷◌, ◌++◌, length, take, drop, arith, subst, sym, refl, ap, ◌∙◌, inl, inr}
use Rattle.std.specs.Prelude.{slice_get}
use Rattle.std.proofs.lemmas.Bool.{cases_Bool, and_from}
use Rattle.std.proofs.lemmas.Option.{slice_get_within}
use Rattle.cc_base.specs.LatticeParts.{flag_leq}
use Rattle.cc_base.specs.declared.int_types.IntType.{IntType}
use Rattle.cc_base.specs.declared.integer_operators.Rel.{Rel}
use Rattle.cc_base.specs.declared.integer_operators.Rel.TheVariants.{Lt, Le, Gt, Ge, Eq, Ne}
use Rattle.c_layout.specs.declared.data_model.Model.{Model}
use Rattle.value_domain.specs.Values.LabelSets.{labels_leq, labels_order}
use Rattle.value_domain.specs.Values.LabelSets as set
use Rattle.value_domain.specs.declared.values.label_sets.Labels as sets
use Rattle.domain_theorems.proofs.values.Flags.{same_flag}
use Rattle.domain_theorems.proofs.values.LabelRules.{dropped_monotone}
use Rattle.transfer_system.specs.Refinements.{refined_labels}
use Rattle.memory_model.specs.Memory.Labels.{Labels, is_unlabelled, dropped_labels}
use Rattle.memory_model.specs.Memory.Bytes.{Content, indeterminate, number, part, Byte}
use Rattle.memory_model.specs.Memory.Instances.{Memory, Instance, bytes_at, bytes_of, byte_at}
use Rattle.memory_model.specs.Effects.Tests.{scalar_size, labels_of, joined, relabelled, byte_relabelled, all_relabelled, object_relabelled, bounded, object}
use Rattle.store_sound.specs.Concretization.SeenLabels.{as_set}
use Rattle.transfer_sound.proofs.objects.Rewrites.{IsRewrite, HaveTags, set_rewrites}

-- ---- labels

same_dropped : (rel : Rel) (s : Labels) (k : IntType) → as_set (dropped_labels rel s k) ≡ set.dropped_labels rel (as_set s) k
same_dropped Lt s k = refl
same_dropped Le s k = refl
same_dropped Gt s k = refl
same_dropped Ge s k = refl
same_dropped Eq s k = refl
same_dropped Ne s k = refl

and_below : (a b : Bool) → flag_leq (a && b) b ≡ true
and_below true true = refl
and_below true false = refl
and_below false b = refl

-- dropping labels leaves no others
dropped_below : (rel : Rel) (s : sets.Labels) (k : IntType) → labels_leq (set.dropped_labels rel s k) s ≡ true
dropped_below Lt s k = and_from _ _ (and_below k.signed s.lo) refl
dropped_below Le s k = and_from _ _ (and_below k.signed s.lo) refl
dropped_below Gt s k = and_from _ _ (and_below (not k.signed) s.lo) (and_from _ _ (same_flag s.hi) (same_flag s.mutated))
dropped_below Ge s k = and_from _ _ (and_below (not k.signed) s.lo) (and_from _ _ (same_flag s.hi) (same_flag s.mutated))
dropped_below Eq s k = refl
dropped_below Ne s k = labels_order.reflexive s

-- what a test does to the labels of a side
abbrev pub side_change : Bool → Rel → IntType → Labels → Labels
side_change true rel k s = dropped_labels rel s k
side_change false rel k s = s

plain_below : (a b c d e f : Bool) → (flag_leq a d && (flag_leq b e && flag_leq c f)) ≡ true → not (d || (e || f)) ≡ true → not (a || (b || c)) ≡ true
plain_below a b c d e f h k = grind arith

unlabelled_below : (s : Labels) (t : sets.Labels) → labels_leq (as_set s) t ≡ true → set.is_unlabelled t ≡ true → is_unlabelled s ≡ true
unlabelled_below s t h k = plain_below s.low s.high s.changed t.lo t.hi t.mutated h k

-- the labels of a byte behind a test are among those that the analysis leaves
pub change_below : (rel : Rel) (k : IntType) (x y : sets.Labels) (other : Labels) → labels_leq (as_set other) y ≡ true → (b : Bool) → is_unlabelled other ≡ b → (s : Labels) → labels_leq (as_set s) x ≡ true → labels_leq (as_set (side_change b rel k s)) (refined_labels x rel y k) ≡ true
change_below rel k x y other h b e s f = elim (cases_Bool (set.is_unlabelled y)) [
  | inl g ↦ (let u : is_unlabelled other ≡ true = unlabelled_below other y h g in
      let c : b ≡ true = sym e ∙ u in
      rw (g, c) (subst (λ z. labels_leq z (set.dropped_labels rel x k) ≡ true) (sym (same_dropped rel s k)) (dropped_monotone rel k (as_set s) x f)))
  | inr g ↦ rw g (by_change b)
]
  where
    by_change : (c : Bool) → labels_leq (as_set (side_change c rel k s)) x ≡ true
    by_change true = subst (λ z. labels_leq z x ≡ true) (sym (same_dropped rel s k)) (labels_order.transitive (set.dropped_labels rel (as_set s) k) (as_set s) x (dropped_below rel (as_set s) k) f)
    by_change false = f

-- ---- the labels of all bytes

join_below : (a b c d e f g h i : Bool) → (flag_leq a g && (flag_leq b h && flag_leq c i)) ≡ true → (flag_leq d g && (flag_leq e h && flag_leq f i)) ≡ true → (flag_leq (a || d) g && (flag_leq (b || e) h && flag_leq (c || f) i)) ≡ true
join_below a b c d e f g h i x y = grind arith

pub joined_below : (bytes : List Byte) (bound : sets.Labels) → ((k : ℕ) (b : Byte) → slice_get bytes k ≡ Some b → labels_leq (as_set (labels_of b.content)) bound ≡ true) → labels_leq (as_set (joined bytes)) bound ≡ true
joined_below [] bound h = refl
joined_below (b ∷ bs) bound h =
    join_below (labels_of b.content).low (labels_of b.content).high (labels_of b.content).changed (joined bs).low (joined bs).high (joined bs).changed bound.lo bound.hi bound.mutated
    (h 0 b refl) (joined_below bs bound (λ k x e. h (suc k) x e))

-- ---- bytes

pub record IsChanged (g : Labels → Labels) (was : Option Byte) (b : Byte) : Type 0 where
  pub old : Byte
  pub there : was ≡ Some old
  pub content : b.content ≡ relabelled g old.content
  pub tag : b.tag ≡ old.tag

front_changed : (g : Labels → Labels) (n : ℕ) (bytes : List Byte) (o : ℕ) (b : Byte) → o < n → slice_get (all_relabelled g (take n bytes) ++ drop n bytes) o ≡ Some b → IsChanged g (slice_get bytes o) b
front_changed g zero bytes o b h e = absurd (omega (arith, h))
front_changed g (suc n) [] o b h e = cc
front_changed g (suc n) (x ∷ xs) zero b h e = let d : byte_relabelled g x ≡ b = cc in record { old = x; there = refl; content = ap (λ z. z.content) (sym d); tag = ap (λ z. z.tag) (sym d) }
front_changed g (suc n) (x ∷ xs) (suc o) b h e = front_changed g n xs o b (omega (arith, h)) e

changed_long : (g : Labels → Labels) (n : ℕ) (bytes : List Byte) → length (all_relabelled g (take n bytes) ++ drop n bytes) ≡ length bytes
changed_long g zero bytes = refl
changed_long g (suc n) [] = refl
changed_long g (suc n) (x ∷ xs) = ap suc (changed_long g n xs)

id_relabelled : (c : Content) → c ≡ relabelled (λ s. s) c
id_relabelled indeterminate = refl
id_relabelled (number n la) = refl
id_relabelled (part p k) = refl

-- memory in which each byte of an instance has changed labels
pub record IsRelabelling (old new : Memory) (i : ℕ) (g : Labels → Labels) : Type 0 where
  pub rewrite : IsRewrite old new i
  pub each : (o : ℕ) (b : Byte) → byte_at new i o ≡ Some b → (x : Byte) × (byte_at old i o ≡ Some x) × (b.content ≡ relabelled g x.content)

pub stays_rewrite : (memory : Memory) (i : ℕ) → IsRewrite memory memory i
stays_rewrite memory i = record {
  alike = record { lives = λ j. refl; lengths = λ j. refl; made = refl };
  storages = λ j. refl;
  others = λ j o ne. refl;
  own = λ o b e. record { old = b; there = e; tag = refl };
}

pub set_relabels : (m : Model) (g : Labels → Labels) (i : ℕ) (kind : _) (memory : Memory) (it : Instance) → slice_get memory i ≡ Some it → length it.bytes ≤ scalar_size m kind → IsRelabelling memory (object_relabelled m g i kind memory) i g
unfolding byte_at
set_relabels m g i kind memory it at short =
    let n : ℕ = scalar_size m kind in
    let same : bytes_at memory i ≡ it.bytes = ap bytes_of at in
    let tags : HaveTags it.bytes (all_relabelled g (take n (bytes_at memory i)) ++ drop n (bytes_at memory i)) =
    subst (λ z. HaveTags it.bytes (all_relabelled g (take n z) ++ drop n z)) (sym same) (record {
      long = changed_long g n it.bytes;
      each = λ o b e.
          let long = changed_long g n it.bytes in
          let small = slice_get_within (all_relabelled g (take n it.bytes) ++ drop n it.bytes) o b e in
          let c = front_changed g n it.bytes o b (omega (arith, long, small, short)) e in
          record { old = c.old; there = c.there; tag = c.tag };
    }) in
    let s = set_rewrites memory i it at (all_relabelled g (take n (bytes_at memory i)) ++ drop n (bytes_at memory i)) tags in
    record {
      rewrite = s.rewrite;
      each = λ o b e.
          let f : slice_get (all_relabelled g (take n (bytes_at memory i)) ++ drop n (bytes_at memory i)) o ≡ Some b = sym (ap (λ z. slice_get z o) s.are) ∙ e in
          let long = changed_long g n (bytes_at memory i) in
          let small = slice_get_within (all_relabelled g (take n (bytes_at memory i)) ++ drop n (bytes_at memory i)) o b f in
          let total = ap length same in
          let c = front_changed g n (bytes_at memory i) o b (omega (arith, long, small, short, total)) f in
          (c.old, c.there, c.content);
    }

-- what a test makes of the memory of an object
pub bounded_relabels : (m : Model) (rel : Rel) (k : IntType) (i : ℕ) (kind : _) (other : Labels) (memory : Memory) (it : Instance) → slice_get memory i ≡ Some it → length it.bytes ≤ scalar_size m kind → (b : Bool) → is_unlabelled other ≡ b → IsRelabelling memory (bounded m rel k (object i kind) other memory) i (side_change b rel k)
bounded_relabels m rel k i kind other memory it at short true e = rw e (set_relabels m (λ s. dropped_labels rel s k) i kind memory it at short)
bounded_relabels m rel k i kind other memory it at short false e = rw e (record { rewrite = stays_rewrite memory i; each = λ o b f. (b, f, id_relabelled b.content) })

-- ---- one change behind the other

pub change_drops : (b : Bool) (rel : Rel) (k : IntType) (s : Labels) → labels_leq (as_set (side_change b rel k s)) (as_set s) ≡ true
change_drops true rel k s = subst (λ z. labels_leq z (as_set s) ≡ true) (sym (same_dropped rel s k)) (dropped_below rel (as_set s) k)
change_drops false rel k s = labels_order.reflexive (as_set s)

relabelled_twice : (f g : Labels → Labels) (c : Content) → relabelled g (relabelled f c) ≡ relabelled (λ s. g (f s)) c
relabelled_twice f g indeterminate = refl
relabelled_twice f g (number n la) = refl
relabelled_twice f g (part p k) = refl

rewrites_follow : {old middle new : Memory} (i : ℕ) → IsRewrite old middle i → IsRewrite middle new i → IsRewrite old new i
rewrites_follow i x y = record {
  alike = record {
    lives = λ j. y.alike.lives j ∙ x.alike.lives j;
    lengths = λ j. y.alike.lengths j ∙ x.alike.lengths j;
    made = y.alike.made ∙ x.alike.made;
  };
  storages = λ j. y.storages j ∙ x.storages j;
  others = λ j o ne. y.others j o ne ∙ x.others j o ne;
  own = λ o b e. let m = y.own o b e in let w = x.own o m.old m.there in record { old = w.old; there = w.there; tag = m.tag ∙ w.tag };
}

pub relabellings_follow : {old middle new : Memory} (i : ℕ) (f g : Labels → Labels) → IsRelabelling old middle i f → IsRelabelling middle new i g → IsRelabelling old new i (λ s. g (f s))
relabellings_follow i f g x y = record {
  rewrite = rewrites_follow i x.rewrite y.rewrite;
  each = λ o b e.
      let m = y.each o b e in
      let w = x.each o m.0 m.1 in
      (w.0, w.1, m.2 ∙ (ap (relabelled g) w.2 ∙ relabelled_twice f g w.0.content));
}
