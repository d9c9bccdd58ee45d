-- Tables that are made step by step are ordered: a struct nests at most as deep as there are complete ones.
use Rattle.std.specs.Prelude.{◌≡◌, ℕ, zero, suc, ◌+◌, ◌*◌, ◌≤◌, ◌<◌, Bool, true, false, not, cond, ◌&&◌, nat_le, nat_lt, Option, Some, None, List, [], ◌∷◌, ◌++◌, length, set, sum_by, refl}
use Rattle.std.proofs.Common.{arith, sym, subst, ap, ◌∙◌, inl, inr}
use Rattle.std.proofs.lemmas.Bool.{and_parts, and_from, cases_Bool, cases_lt, ltb-true}
use Rattle.std.proofs.lemmas.List.{length_push, length-set, get_or-set_same, get_or-set_other}
use Rattle.std.proofs.lemmas.List.Sums.{sum_by-cons, sum_by-set}
use Rattle.c_layout.specs.declared.data_model.Model.{Model}
use Rattle.c_layout.specs.Layout.{most_bytes, round_up, size_of_type, align_of_type, is_complete}
use Rattle.c_layout.specs.StructLayouts.{Partial, no_members, added, finished}
use Rattle.c_layout.specs.StructViews.{FieldView, StructView, no_struct, struct_at}
use Rattle.c_layout.specs.Types.{Ty, Int, Pointer, Array, Struct, Void}
use Rattle.store_structs.specs.LaidApart.{has_class_bytes}
use Rattle.store_monotone.specs.Layouts.MadeLayouts.{Declared, all_added, layout_of, is_declarable, are_declarable}
use Rattle.store_monotone.proofs.layouts.Extents.{some_same, none_some}
use Rattle.analysis_preconditions.specs.StructNesting.OrderedStructs.{is_made_of, are_made_of, nests_within, are_ordered}
use Rattle.analysis_preconditions.proofs.struct_nesting.Nesting.{all_more, as_deep, below_from}
use Rattle.struct_copies_sound.specs.OrderedStructs.MadeTables.{Step, Declare, Complete, is_open, with_struct, stepped, and_then, all_stepped, MakesOrdered}

-- ---- depths

abbrev is_complete_at : List StructView → ℕ → Bool
is_complete_at structs i = (struct_at structs i).complete

abbrev undone : StructView → ℕ
undone s = cond s.complete 0 1

record IsNested (structs : List StructView) (depth : ℕ) : Type 0 where
  few : depth + sum_by undone structs ≤ length structs
  nested : (j : ℕ) → is_complete_at structs j ≡ true → nests_within structs depth j ≡ true
  parts : (j : ℕ) → are_made_of (is_complete_at structs) (struct_at structs j).fields ≡ true

-- complete structs stay as deep in a table that keeps them
carried : (structs other : List StructView) → ((j : ℕ) → is_complete_at structs j ≡ true → struct_at other j ≡ struct_at structs j) → ((j : ℕ) → are_made_of (is_complete_at structs) (struct_at structs j).fields ≡ true)
    → (depth j : ℕ) → is_complete_at structs j ≡ true → nests_within structs depth j ≡ true → nests_within other depth j ≡ true
carried structs other keeps parts zero j c h = absurd (cc)
carried structs other keeps parts (suc depth) j c h =
    subst (λ (s : StructView). are_made_of (nests_within other depth) s.fields ≡ true) (sym (keeps j c))
    (all_more (is_complete_at structs) (nests_within structs depth) (nests_within other depth) (λ k a b. carried structs other keeps parts depth k a b) (struct_at structs j).fields (parts j) h)

-- ---- an ordered table

open_some : (structs : List StructView) (i : ℕ) → i < length structs → is_complete_at structs i ≡ false → 0 < sum_by undone structs
open_some [] i less e = absurd (omega (arith, less))
open_some (s ∷ structs) zero less e =
    let a = sum_by-cons undone s structs in
    let b : undone s ≡ 1 = ap (λ (c : Bool). cond {A = ℕ} c 0 1) e in
    omega (arith, a, b)
open_some (s ∷ structs) (suc i) less e =
    let a = sum_by-cons undone s structs in
    let b = open_some structs i (omega (arith, less)) e in
    omega (arith, a, b)

-- what has complete members nests one deeper
one_deeper : (structs : List StructView) (depth j : ℕ) → IsNested structs depth → nests_within structs (suc depth) j ≡ true
one_deeper structs depth j h = all_more (is_complete_at structs) (is_complete_at structs) (nests_within structs depth) (λ k a b. h.nested k a) (struct_at structs j).fields (h.parts j) (h.parts j)

ordered_of : (structs : List StructView) (depth : ℕ) → IsNested structs depth → are_ordered structs ≡ true
ordered_of structs depth h = below_from (nests_within structs (length structs)) (length structs) each
  where
    each : (i : ℕ) → i < length structs → nests_within structs (length structs) i ≡ true
    each i less = elim (cases_Bool (is_complete_at structs i)) [
      | inl c ↦ (let few = h.few in as_deep structs depth (length structs) i (h.nested i c) (omega (arith, few)))
      | inr c ↦ (let few = h.few in let some = open_some structs i less c in as_deep structs (suc depth) (length structs) i (one_deeper structs depth i h) (omega (arith, few, some)))
    ]

-- ---- a struct that is declared

declared_at : (structs : List StructView) (j : ℕ) → struct_at (structs ++ (no_struct ∷ [])) j ≡ struct_at structs j
declared_at [] zero = refl
declared_at [] (suc j) = refl
declared_at (s ∷ structs) zero = refl
declared_at (s ∷ structs) (suc j) = declared_at structs j

declared_open : (structs : List StructView) → sum_by undone (structs ++ (no_struct ∷ [])) ≡ sum_by undone structs + 1
declared_open [] = refl
declared_open (s ∷ structs) =
    let a = sum_by-cons undone s (structs ++ (no_struct ∷ [])) in
    let b = sum_by-cons undone s structs in
    let c = declared_open structs in
    omega (arith, a, b, c)

declared : (structs : List StructView) (depth : ℕ) → IsNested structs depth → IsNested (structs ++ (no_struct ∷ [])) depth
declared structs depth h = record {
  few = let a = h.few in let b = declared_open structs in let c = length_push structs no_struct in omega (arith, a, b, c);
  nested = λ j c.
      let d : is_complete_at structs j ≡ true = sym (ap (λ (s : StructView). s.complete) (declared_at structs j)) ∙ c in
      carried structs (structs ++ (no_struct ∷ [])) (λ k e. declared_at structs k) h.parts depth j d (h.nested j d);
  parts = λ j. subst (λ (s : StructView). are_made_of (is_complete_at (structs ++ (no_struct ∷ []))) s.fields ≡ true) (sym (declared_at structs j))
      (all_more (is_complete_at structs) (is_complete_at structs) (is_complete_at (structs ++ (no_struct ∷ []))) (λ k a b. ap (λ (s : StructView). s.complete) (declared_at structs k) ∙ a) (struct_at structs j).fields (h.parts j) (h.parts j));
}

-- ---- a struct that gets members

complete_made : (structs : List StructView) (pointer : ℕ) (t : Ty) → is_complete structs pointer t ≡ true → is_made_of (is_complete_at structs) t ≡ true
complete_made structs pointer (Int k) h = refl
complete_made structs pointer (Pointer t) h = refl
complete_made structs pointer (Array t n) h = complete_made structs pointer t (and_parts (is_complete structs pointer t) (nat_le (n * size_of_type structs pointer t) most_bytes) h).0
complete_made structs pointer (Struct i) h =
    let a = and_parts (nat_lt i (length structs)) (((struct_at structs i).complete && nat_lt 0 (struct_at structs i).align) && nat_le (struct_at structs i).size most_bytes) h in
    let b = and_parts ((struct_at structs i).complete && nat_lt 0 (struct_at structs i).align) (nat_le (struct_at structs i).size most_bytes) a.1 in
    (and_parts (struct_at structs i).complete (nat_lt 0 (struct_at structs i).align) b.0).0
complete_made structs pointer Void h = h

with_last : (p : ℕ → Bool) (fs : List FieldView) (f : FieldView) → are_made_of p fs ≡ true → is_made_of p f.ctype ≡ true → are_made_of p (fs ++ (f ∷ [])) ≡ true
with_last p [] f h k = and_from (is_made_of p f.ctype) true k refl
with_last p (g ∷ fs) f h k =
    let a = and_parts (is_made_of p g.ctype) (are_made_of p fs) h in
    and_from (is_made_of p g.ctype) (are_made_of p (fs ++ (f ∷ []))) a.0 (with_last p fs f a.1 k)

all_members : (m : Model) (structs : List StructView) (p : Partial) (members : List Declared) → are_declarable m structs members ≡ true → are_made_of (is_complete_at structs) p.fields ≡ true → are_made_of (is_complete_at structs) (all_added structs m.pointer p members).fields ≡ true
all_members m structs p [] h k = k
all_members m structs p (d ∷ ds) h k =
    let a = and_parts (is_declarable m structs d) (are_declarable m structs ds) h in
    let b = and_parts (is_complete structs m.pointer d.1) (has_class_bytes m d.1) a.0 in
    all_members m structs (added structs m.pointer p d.0 d.1) ds a.1
    (with_last (is_complete_at structs) p.fields (record { name = d.0; ctype = d.1; offset = round_up p.end (align_of_type structs m.pointer d.1) }) k (complete_made structs m.pointer d.1 b.0))

record IsMade (structs : List StructView) (s : StructView) : Type 0 where
  complete : s.complete ≡ true
  parts : are_made_of (is_complete_at structs) s.fields ≡ true

finished_made : (structs : List StructView) (p : Partial) (s : StructView) → are_made_of (is_complete_at structs) p.fields ≡ true → finished p ≡ Some s → IsMade structs s
finished_made structs p s parts = by_size (nat_le (round_up p.end p.align) most_bytes)
  where
    made : StructView
    made = record { fields = p.fields; complete = true; size = round_up p.end p.align; align = p.align; leaves = p.leaves; plain_leaves = p.plain_leaves }

    by_size : (c : Bool) → cond c (Some made) None ≡ Some s → IsMade structs s
    by_size true e = subst (λ z. IsMade structs z) (some_same made s e) (record { complete = refl; parts = parts })
    by_size false e = absurd (none_some s e)

module _ (structs : List StructView) (depth index : ℕ) (h : IsNested structs depth) (there : index < length structs) (unknown : is_complete_at structs index ≡ false) (s : StructView) (made : IsMade structs s) where
  abbrev next : List StructView
  next = set structs index s

  here : struct_at next index ≡ s
  here = get_or-set_same structs index s no_struct there

  other_at : (j : ℕ) → (j ≡ index → ⊥) → struct_at next j ≡ struct_at structs j
  other_at j k = get_or-set_other structs index j s no_struct k

  keeps : (j : ℕ) → is_complete_at structs j ≡ true → struct_at next j ≡ struct_at structs j
  keeps j c = other_at j (λ e. let d : is_complete_at structs index ≡ true = subst (λ z. is_complete_at structs z ≡ true) e c in let f : true ≡ false = sym d ∙ unknown in absurd (cc))

  still : (j : ℕ) → is_complete_at structs j ≡ true → is_complete_at next j ≡ true
  still j c = ap (λ (z : StructView). z.complete) (keeps j c) ∙ c

  -- the struct itself, or another
  by_index : (X : StructView → Type 0) (j : ℕ) → (j ≡ index → X s) → ((j ≡ index → ⊥) → X (struct_at structs j)) → X (struct_at next j)
  by_index X j itself another = elim (cases_lt j index) [
    | inl a ↦ other (λ e. omega (arith, a, e))
    | inr a ↦ elim (cases_lt index j) [
      | inl b ↦ other (λ e. omega (arith, b, e))
      | inr b ↦ (let e : j ≡ index = omega (arith, a, b) in subst X (sym (ap (struct_at next) e ∙ here)) (itself e))
    ]
  ]
    where
      other : (j ≡ index → ⊥) → X (struct_at next j)
      other k = subst X (sym (other_at j k)) (another k)

  completed : IsNested next (suc depth)
  completed = record {
    few =
        let a = h.few in
        let b = sum_by-set undone structs index s no_struct there in
        let c : undone (struct_at structs index) ≡ 1 = ap (λ (c : Bool). cond {A = ℕ} c 0 1) unknown in
        let d : undone s ≡ 0 = ap (λ (c : Bool). cond {A = ℕ} c 0 1) made.complete in
        let e = length-set structs index s in
        omega (arith, a, b, c, d, e);
    nested = λ j c. by_index (λ (z : StructView). z.complete ≡ true → are_made_of (nests_within next depth) z.fields ≡ true) j
        (λ e d. all_more (is_complete_at structs) (is_complete_at structs) (nests_within next depth) (λ k a b. carry k a) s.fields made.parts made.parts)
        (λ e d. all_more (is_complete_at structs) (is_complete_at structs) (nests_within next depth) (λ k a b. carry k a) (struct_at structs j).fields (h.parts j) (h.parts j)) c;
    parts = λ j. by_index (λ (z : StructView). are_made_of (is_complete_at next) z.fields ≡ true) j
        (λ e. all_more (is_complete_at structs) (is_complete_at structs) (is_complete_at next) (λ k a b. still k a) s.fields made.parts made.parts)
        (λ e. all_more (is_complete_at structs) (is_complete_at structs) (is_complete_at next) (λ k a b. still k a) (struct_at structs j).fields (h.parts j) (h.parts j));
  }
    where
      carry : (k : ℕ) → is_complete_at structs k ≡ true → nests_within next depth k ≡ true
      carry k a = carried structs next keeps h.parts depth k a (h.nested k a)

-- ---- all steps

record IsSomewhere (structs : List StructView) : Type 0 where
  depth : ℕ
  nested : IsNested structs depth

one_step : (m : Model) (structs after : List StructView) (x : Step) → IsSomewhere structs → stepped m structs x ≡ Some after → IsSomewhere after
one_step m structs after Declare h e = subst IsSomewhere (some_same (structs ++ (no_struct ∷ [])) after e) (record { depth = h.depth; nested = declared structs h.depth h.nested })
one_step m structs after (Complete index members) h e = by_test (is_open structs index && are_declarable m structs members) refl e
  where
    by_layout : is_open structs index ≡ true → are_declarable m structs members ≡ true → (found : Option StructView) → layout_of structs m.pointer members ≡ found → with_struct structs index found ≡ Some after → IsSomewhere after
    by_layout o d None f g = absurd (none_some after g)
    by_layout o d (Some s) f g =
        let a = and_parts (nat_lt index (length structs)) (not (struct_at structs index).complete) o in
        let made = finished_made structs (all_added structs m.pointer no_members members) s (all_members m structs no_members members d refl) f in
        subst IsSomewhere (some_same (set structs index s) after g)
        (record { depth = suc h.depth; nested = completed structs h.depth index h.nested (ltb-true index (length structs) a.0) (is_not (struct_at structs index).complete a.1) s made })
      where
        is_not : (c : Bool) → not c ≡ true → c ≡ false
        is_not true k = sym k
        is_not false k = refl

    by_test : (c : Bool) → (is_open structs index && are_declarable m structs members) ≡ c → cond c (with_struct structs index (layout_of structs m.pointer members)) None ≡ Some after → IsSomewhere after
    by_test true f g = let a = and_parts (is_open structs index) (are_declarable m structs members) f in by_layout a.0 a.1 (layout_of structs m.pointer members) refl g
    by_test false f g = absurd (none_some after g)

all_steps : (m : Model) (steps : List Step) (structs last : List StructView) → IsSomewhere structs → all_stepped m steps structs ≡ Some last → IsSomewhere last
all_steps m [] structs last h e = subst IsSomewhere (some_same structs last e) h
all_steps m (x ∷ xs) structs last h e = by_table (stepped m structs x) refl e (λ table g f. all_steps m xs table last g f)
  where
    by_table : (found : Option (List StructView)) → stepped m structs x ≡ found → and_then (all_stepped m xs) found ≡ Some last
        → ((table : List StructView) → IsSomewhere table → all_stepped m xs table ≡ Some last → IsSomewhere last) → IsSomewhere last
    by_table None f g more = absurd (none_some last g)
    by_table (Some table) f g more = more table (one_step m structs table x h f) g

no_nested : (j : ℕ) → are_made_of (is_complete_at []) (struct_at [] j).fields ≡ true
no_nested j = refl

not_there : (j : ℕ) → is_complete_at [] j ≡ true → nests_within [] 0 j ≡ true
not_there j c = c

pub makes_ordered : MakesOrdered
makes_ordered m steps structs e =
    let s = all_steps m steps [] structs (record { depth = 0; nested = record { few = omega arith; nested = not_there; parts = no_nested } }) e in
    ordered_of structs s.depth s.nested
