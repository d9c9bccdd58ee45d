-- The bases that name objects and literals when a run begins have their types.
use Rattle.std.proofs.Common.{◌≡◌, ◌⊎◌, inl, inr, ℕ, suc, ◌+◌, Bool, true, false, ◌==◌, List, [], ◌∷◌, ◌++◌, map, Option, Some, None, refl, arith, ap, sym, subst, ◌∙◌}
use Rattle.std.specs.List.{slice_get}
use Rattle.std.proofs.lemmas.Bool.{eqb-true}
use Rattle.std.proofs.lemmas.List.{length-map}
use Rattle.c_layout.specs.CheckedUnits.{StaticView, LiteralView, UnitView}
use Rattle.c_layout.specs.Types.{Ty}
use Rattle.lower.specs.Inlining.Inlinings.{program}
use Rattle.lower_tables.specs.Bases.BaseTables.{TableView}
use Rattle.lower_tables.specs.Bases.InitialBytes.{initial_object, initial_literal, objects_from, literals_from, initial_objects}
use Rattle.lower_tables.proofs.counts.Tables.{seen_at}
use Rattle.semantics.specs.CfgMachine.FlowStarts.{Names, name_object, name_objects, name_parameters}
use Rattle.typed_programs.specs.Types.TypedPrograms.{object_type, text_type, first_types}
use Rattle.lower_templates.specs.Views.ProgramViews.{InitialView, flow_view}
use Rattle.memory_model.specs.Effects.NumberedTables.{set_at, put_at, empty_table}
use Rattle.memory_model.specs.Effects.UnitStarts.{base_instance, literal_instance}
use Rattle.store_sound.proofs.operations.Slices.{get_right}
use Rattle.simulation_layout.proofs.inlining.ListPlaces.{some_same, left_of}
use Rattle.typed_lowering.specs.Conversions.TypedBases.{HasTypes}
use Rattle.typed_lowering.specs.Bases.FirstObjects.{FirstObjectsAreTyped}

-- what a table has at a number was put there, or stood there before
put_cases : (f : Names) (n x m y : ℕ) → put_at f n x m ≡ Some y → ((m ≡ n) × (x ≡ y)) ⊎ (f m ≡ Some y)
put_cases f n x m y e = by (m == n) refl e
  where
    by : (same : Bool) → (m == n) ≡ same → put_at f n x m ≡ Some y → ((m ≡ n) × (x ≡ y)) ⊎ (f m ≡ Some y)
    by true is e = inl (eqb-true m n is, some_same x y (rw (set_at, is) at e))
    by false is e = inr (rw (set_at, is) at e)

module _ {A : Type 0} where
  -- the list is what stands behind so many
  abbrev Behind : ℕ → List A → List A → Type 0
  Behind n all xs = (k : ℕ) (x : A) → slice_get xs k ≡ Some x → slice_get all (n + k) ≡ Some x

  next : (n : ℕ) (all : List A) (x : A) (xs : List A) → Behind n all (x ∷ xs) → Behind (n + 1) all xs
  next n all x xs behind k y is = let e : (n + 1) + k ≡ n + suc k = omega arith in ap (slice_get all) e ∙ behind (suc k) y is

  here : (n : ℕ) (all : List A) (x : A) (xs : List A) → Behind n all (x ∷ xs) → slice_get all n ≡ Some x
  here n all x xs behind = let e : n ≡ n + 0 = omega arith in ap (slice_get all) e ∙ behind 0 x refl

  all_behind : (xs : List A) → Behind 0 xs xs
  all_behind xs k x is = let e : 0 + k ≡ k = omega arith in ap (slice_get xs) e ∙ is

module _ (u : UnitView) (types : List Ty) where
  -- a base is of the type of the object that it names
  abbrev IsOfFirst : ℕ → ℕ → Type 0
  IsOfFirst b i = (t : Ty) × (slice_get types b ≡ Some t) × (first_types u i ≡ Some t)

  abbrev AreOfFirst : Names → Type 0
  AreOfFirst names = (b i : ℕ) → names b ≡ Some i → IsOfFirst b i

  abbrev IsTypedInitial : InitialView → Type 0
  IsTypedInitial o = (b : ℕ) → o.base ≡ Some b → IsOfFirst b (base_instance u o.object)

  abbrev AreTypedInitials : List InitialView → Type 0
  AreTypedInitials [] = Unit {0}
  AreTypedInitials (o ∷ os) = IsTypedInitial o × AreTypedInitials os

  both_typed : (xs ys : List InitialView) → AreTypedInitials xs → AreTypedInitials ys → AreTypedInitials (xs ++ ys)
  both_typed [] ys all rest = rest
  both_typed (x ∷ xs) ys (one, all) rest = (one, both_typed xs ys all rest)

  one_named : (o : InitialView) (base : Option ℕ) → ((b : ℕ) → base ≡ Some b → IsOfFirst b (base_instance u o.object)) → (names : Names) → AreOfFirst names → AreOfFirst (name_object u o base names)
  one_named o None one names are b i is = are b i is
  one_named o (Some k) one names are b i is = by (put_cases names k (base_instance u o.object) b i is)
    where
      by : ((b ≡ k) × (base_instance u o.object ≡ i)) ⊎ (names b ≡ Some i) → IsOfFirst b i
      by (inl p) = subst (λ j. IsOfFirst b j) p.1 (one b (ap Some (sym p.0)))
      by (inr old) = are b i old

  all_named : (os : List InitialView) → AreTypedInitials os → (names : Names) → AreOfFirst names → AreOfFirst (name_objects u os names)
  all_named [] all names are = are
  all_named (o ∷ os) (one, all) names are = all_named os all (name_object u o o.base names) (one_named o o.base one names are)

  none_named : AreOfFirst empty_table
  none_named b i is = absurd (cc)

  -- ---- the objects of a unit

  object_first : (n : ℕ) (o : StaticView) → slice_get u.objects n ≡ Some o → first_types u n ≡ Some o.ctype
  object_first n o is = left_of (map object_type u.objects) (map (text_type u) u.literals) n o.ctype (seen_at object_type u.objects n o is)

  literal_first : (n : ℕ) (l : LiteralView) → slice_get u.literals n ≡ Some l → first_types u (literal_instance u n) ≡ Some (text_type u l)
  literal_first n l is = get_right (map object_type u.objects) (map (text_type u) u.literals) (literal_instance u n) n (ap (λ k. k + n) (sym (length-map u.objects object_type))) ∙ seen_at (text_type u) u.literals n l is

  module _ (b : TableView) (has : HasTypes u types b) where
    object_initial : (n : ℕ) (o : StaticView) → slice_get u.objects n ≡ Some o → IsTypedInitial (initial_object u b n o)
    object_initial n o stands k is = (o.ctype, has.objects n k o is stands, object_first n o stands)

    literal_initial : (n : ℕ) (l : LiteralView) → slice_get u.literals n ≡ Some l → IsTypedInitial (initial_literal b n l)
    literal_initial n l stands k is = (text_type u l, has.literals n k l is stands, literal_first n l stands)

    objects_initial : (n : ℕ) (os : List StaticView) → Behind n u.objects os → AreTypedInitials (objects_from u b n os)
    objects_initial n [] behind = tt
    objects_initial n (o ∷ os) behind = (object_initial n o (here n u.objects o os behind), objects_initial (n + 1) os (next n u.objects o os behind))

    literals_initial : (n : ℕ) (ls : List LiteralView) → Behind n u.literals ls → AreTypedInitials (literals_from b n ls)
    literals_initial n [] behind = tt
    literals_initial n (l ∷ ls) behind = (literal_initial n l (here n u.literals l ls behind), literals_initial (n + 1) ls (next n u.literals l ls behind))

    initials_typed : AreTypedInitials (initial_objects u b)
    initials_typed = both_typed (objects_from u b 0 u.objects) (literals_from b 0 u.literals) (objects_initial 0 u.objects (all_behind u.objects)) (literals_initial 0 u.literals (all_behind u.literals))

pub objects_typed : FirstObjectsAreTyped
objects_typed u limits flow o none types has b i is =
    let bases = (program u o.is.templates o.is.entry.at).bases in
    let first : (flow_view flow).initial ≡ initial_objects u bases = ap (λ v. v.initial) o.is.opens in
    let named = ap (λ ps. name_parameters u 0 ps (name_objects u (flow_view flow).initial empty_table) b) none in
    let now = ap (λ os. name_objects u os empty_table b) first in
    all_named u types (initial_objects u bases) (initials_typed u types bases has) empty_table (none_named u types) b i (sym now ∙ sym named ∙ is)
