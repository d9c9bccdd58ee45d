-- What the bases weigh that a name makes: those of a copy's own objects and of allocations, and those
-- that copies share.
use Rattle.std.proofs.Common.{◌≡◌, ℕ, zero, suc, ◌+◌, ◌-◌, ◌^◌, Bool, true, false, cond, List, [], ◌∷◌, ◌++◌, length, map, Option, Some, None, refl, arith, ap, sym, ◌∙◌}
use Rattle.std.specs.List.{slice_get, slice_set}
use Rattle.c_layout.specs.Types.{Ty}
use Rattle.c_layout.specs.Layout.{size_of_type}
use Rattle.c_layout.specs.CheckedUnits.{FunctionView, StaticView, LiteralView, UnitView}
use Rattle.c_layout.specs.declared.checked_tree.checked_units.StaticBase.{StaticBase}
use Rattle.c_layout.specs.declared.checked_tree.checked_units.StaticBase.TheVariants as shared
use Rattle.c_layout.specs.declared.shapes.BaseInfo.{BaseInfo}
use Rattle.c_layout.specs.declared.shapes.BaseKind.{BaseKind}
use Rattle.c_layout.specs.declared.shapes.BaseKind.TheVariants as kind
use Rattle.lower_objects.specs.Shapes.HeapBases.{heap_shape}
use Rattle.lower_objects.specs.Shapes.FirstZeros.{object_shape}
use Rattle.lower_templates.specs.Worklist.Pieces.{NameView, Local, Outcome, Static, Literal, Allocation}
use Rattle.lower_functions.specs.Functions.Functions.{local_type}
use Rattle.lower_objects.specs.declared.counts.object_counts.BaseCount.{BaseCount}
use Rattle.lower_objects.specs.Counts.Extents.{capped}
use Rattle.lower_objects.specs.Counts.BaseCounts.{is_new, no_bases, both, object_base, allocation_bases}
use Rattle.lower_tables.specs.Bases.BaseTables.{TableView, info, added, Named, local_or, known, literal_made, literal_or, object_made, object_or, with_shared, brought, with_all, base}
use Rattle.lower.proofs.inlining.NotedSlots.{after_slot, adds_slot, adds, after}

-- how bases are weighed: each as one, or by its cells; and how their counts are
pub record Weights (u : UnitView) : Type 0 where
  pub info : BaseInfo → ℕ
  pub object : Ty → ℕ
  pub site : Option Ty → ℕ
  pub pick : BaseCount → ℕ
  pub weighs_object : (what : BaseKind) (size first : ℕ) (t : Ty) → info (record { kind = what; size = size; first = first; shape = object_shape u.structs u.model.pointer t }) ≡ object t
  pub weighs_site : (first second : ℕ) (target : Option Ty)
      → info (record { kind = kind.Newest; size = 0; first = first; shape = heap_shape u.structs u.model.pointer target }) + info (record { kind = kind.Older; size = 0; first = second; shape = heap_shape u.structs u.model.pointer target }) ≡ site target
  pub picks : (a b : BaseCount) → pick (both a b) ≡ capped (pick a + pick b)
  pub picks_none : pick no_bases ≡ 0
  pub picks_object : (t : Ty) → pick (object_base u.structs t) ≡ object t
  pub picks_site : (target : Option Ty) → pick (allocation_bases u.structs u.model.pointer target) ≡ capped (site target)

-- a base of one copy alone
abbrev pub is_own : BaseKind → Bool
is_own kind.Static = false
is_own kind.Automatic = true
is_own kind.Literal = false
is_own kind.Newest = true
is_own kind.Older = true

abbrev pub own_weight : (BaseInfo → ℕ) → List BaseInfo → ℕ
own_weight weight [] = 0
own_weight weight (b ∷ bs) = cond (is_own b.kind) (weight b) 0 + own_weight weight bs

abbrev pub shared_weight : (BaseInfo → ℕ) → List BaseInfo → ℕ
shared_weight weight [] = 0
shared_weight weight (b ∷ bs) = cond (is_own b.kind) 0 (weight b) + shared_weight weight bs

own_more : (weight : BaseInfo → ℕ) (bs : List BaseInfo) (b : BaseInfo) → own_weight weight (bs ++ b ∷ []) ≡ own_weight weight bs + cond (is_own b.kind) (weight b) 0
own_more weight [] b = let e : cond (is_own b.kind) (weight b) 0 + 0 ≡ 0 + cond (is_own b.kind) (weight b) 0 = omega arith in e
own_more weight (c ∷ bs) b = let e = own_more weight bs b in omega (arith, e)

pub shared_more : (weight : BaseInfo → ℕ) (bs : List BaseInfo) (b : BaseInfo) → shared_weight weight (bs ++ b ∷ []) ≡ shared_weight weight bs + cond (is_own b.kind) 0 (weight b)
shared_more weight [] b = let e : cond (is_own b.kind) 0 (weight b) + 0 ≡ 0 + cond (is_own b.kind) 0 (weight b) = omega arith in e
shared_more weight (c ∷ bs) b = let e = shared_more weight bs b in omega (arith, e)

abbrev pub has_base : Option ℕ → Bool
has_base None = false
has_base (Some n) = true

-- which have a base
abbrev pub noted : List (Option ℕ) → List Bool
noted list = map has_base list

abbrev pub first_of : Option (Option ℕ) → Bool
first_of None = false
first_of (Some None) = true
first_of (Some (Some n)) = false

pub new_at : (list : List (Option ℕ)) (n : ℕ) → is_new (noted list) n ≡ first_of (slice_get list n)
new_at [] n = refl
new_at (None ∷ xs) zero = refl
new_at (Some k ∷ xs) zero = refl
new_at (x ∷ xs) (suc n) = new_at xs n

pub noted_set : (list : List (Option ℕ)) (n k : ℕ) → noted (slice_set list n (Some k)) ≡ slice_set (noted list) n true
noted_set [] n k = refl
noted_set (x ∷ xs) zero k = refl
noted_set (x ∷ xs) (suc n) k = ap (λ bs. has_base x ∷ bs) (noted_set xs n k)

module _ (u : UnitView) (w : Weights u) where
  -- what a name of a function adds
  abbrev pub object_of : FunctionView → ℕ → ℕ
  object_of f n = w.object (local_type f n)

  pub record Names (f : FunctionView) (x : NameView) (locals : List (Option ℕ)) (b : TableView) (n : Named) : Type 0 where
    pub own : own_weight w.info n.after.bases ≡ own_weight w.info b.bases + adds (object_of f) w.site (length f.locals) x (noted locals)
    pub notes : noted n.locals ≡ after (length f.locals) x (noted locals)

  nothing_more : (a b : ℕ) → b ≡ 0 → a ≡ a + b
  nothing_more a b is = omega arith

  names_slot : (f : FunctionView) (slot : ℕ) (locals : List (Option ℕ)) (b : TableView) (o : Option (Option ℕ)) → slice_get locals slot ≡ o
      → (own_weight w.info (local_or u f slot locals b o).after.bases ≡ own_weight w.info b.bases + adds_slot (object_of f) slot (noted locals)) × (noted (local_or u f slot locals b o).locals ≡ after_slot slot (noted locals))
  names_slot f slot locals b None is =
      let old = new_at locals slot ∙ ap first_of is in
      (nothing_more _ _ (ap (λ k. cond k (object_of f slot) 0) old), sym (ap (λ k. cond k (slice_set (noted locals) slot true) (noted locals)) old))
  names_slot f slot locals b (Some (Some n)) is =
      let old = new_at locals slot ∙ ap first_of is in
      (nothing_more _ _ (ap (λ k. cond k (object_of f slot) 0) old), sym (ap (λ k. cond k (slice_set (noted locals) slot true) (noted locals)) old))
  names_slot f slot locals b (Some None) is =
      let new = new_at locals slot ∙ ap first_of is in
      let t = local_type f slot in (
        own_more w.info b.bases _ ∙ ap (λ k. own_weight w.info b.bases + k) (w.weighs_object kind.Automatic (size_of_type u.structs u.model.pointer t) b.width t ∙ sym (ap (λ k. cond k (object_of f slot) 0) new)),
        noted_set locals slot (length b.bases) ∙ sym (ap (λ k. cond k (slice_set (noted locals) slot true) (noted locals)) new),
      )

  no_own : (bs : List BaseInfo) (b : BaseInfo) → is_own b.kind ≡ false → own_weight w.info (bs ++ b ∷ []) ≡ own_weight w.info bs
  no_own bs b is = own_more w.info bs b ∙ none _ _ (ap (λ k. cond k (w.info b) 0) is)
    where
      none : (a b : ℕ) → b ≡ 0 → a + b ≡ a
      none a b is = omega arith

  own_literal_made : (n : ℕ) (b : TableView) (l : Option LiteralView) → own_weight w.info (literal_made u n b l).bases ≡ own_weight w.info b.bases
  own_literal_made n b None = refl
  own_literal_made n b (Some l) = no_own b.bases _ refl

  own_literal : (n : ℕ) (b : TableView) (o : Option ℕ) → own_weight w.info (literal_or u n b o).bases ≡ own_weight w.info b.bases
  own_literal n b (Some k) = refl
  own_literal n b None = own_literal_made n b (slice_get u.literals n)

  own_object_made : (n : ℕ) (b : TableView) (o : Option StaticView) → own_weight w.info (object_made u n b o).bases ≡ own_weight w.info b.bases
  own_object_made n b None = refl
  own_object_made n b (Some o) = no_own b.bases _ refl

  own_object : (n : ℕ) (b : TableView) (o : Option ℕ) → own_weight w.info (object_or u n b o).bases ≡ own_weight w.info b.bases
  own_object n b (Some k) = refl
  own_object n b None = own_object_made n b (slice_get u.objects n)

  own_shared : (x : StaticBase) (b : TableView) → own_weight w.info (with_shared u x b).bases ≡ own_weight w.info b.bases
  own_shared (shared.Object n) b = own_object n b (known b.objects n)
  own_shared (shared.Literal n) b = own_literal n b (known b.literals n)

  own_all : (n : ℕ) (stack : List StaticBase) (b : TableView) → own_weight w.info (with_all u n stack b).bases ≡ own_weight w.info b.bases
  own_all zero stack b = refl
  own_all (suc n) [] b = refl
  own_all (suc n) (x ∷ xs) b = own_all n (brought u x b ++ xs) (with_shared u x b) ∙ own_shared x b

  own_allocated : (target : Option Ty) (b : TableView) → own_weight w.info (added kind.Older 0 (heap_shape u.structs u.model.pointer target) (added kind.Newest 0 (heap_shape u.structs u.model.pointer target) b)).bases ≡ own_weight w.info b.bases + w.site target
  own_allocated target b =
      let shape = heap_shape u.structs u.model.pointer target in
      let newest = added kind.Newest 0 shape b in
      two _ _ _ _ _ _ (own_more w.info b.bases (info kind.Newest 0 b.width shape)) (own_more w.info newest.bases (info kind.Older 0 newest.width shape)) (w.weighs_site b.width newest.width target)
    where
      two : (a x y b c s : ℕ) → b ≡ a + x → c ≡ b + y → x + y ≡ s → c ≡ a + s
      two a x y b c s p q r = omega arith

  zero_more : (a b : ℕ) → a ≡ b → a ≡ b + 0
  zero_more a b is = omega arith

  pub names_base : (f : FunctionView) (x : NameView) (locals : List (Option ℕ)) (b : TableView) → Names f x locals b (base u f x locals b)
  names_base f (Local n) locals b = let s = names_slot f n locals b (slice_get locals n) refl in record { own = s.0; notes = s.1 }
  names_base f Outcome locals b = let s = names_slot f (length f.locals) locals b (slice_get locals (length f.locals)) refl in record { own = s.0; notes = s.1 }
  names_base f (Static n) locals b = record { own = zero_more _ _ (own_all (2 ^ 64 - 1) (shared.Object n ∷ []) b); notes = refl }
  names_base f (Literal n) locals b = record { own = zero_more _ _ (own_all (2 ^ 64 - 1) (shared.Literal n ∷ []) b); notes = refl }
  names_base f (Allocation target) locals b = record { own = own_allocated target b; notes = refl }
