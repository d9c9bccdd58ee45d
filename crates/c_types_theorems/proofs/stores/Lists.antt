-- The stores of a list in braces stand at parts of its object.
use Rattle.std.proofs.Common.{◌≡◌, ℕ, Bool, true, false, List, [], ◌∷◌, ◌++◌, Option, Some, None, Ok, Err, refl, sym, ◌∙◌, inl, inr}
use Rattle.std.specs.Prelude.{◌⊎◌, cond}
use Rattle.cc_base.specs.declared.diagnostics.Place.{Place}
use Rattle.c_layout.specs.SyntaxTrees.{Tree}
use Rattle.c_layout.specs.DeclarationTrees.{InitializerTrees}
use Rattle.c_layout.specs.CheckedTrees.{TermTree, LvalueTree, StoreTree, StoreValue, StoreCopy, StoreText}
use Rattle.c_types_scopes.specs.Answers.{after}
use Rattle.c_types_scopes.specs.Known.{Known}
use Rattle.c_types_scopes.specs.Refusals.{Ruled}
use Rattle.c_types_scopes.specs.States.{State}
use Rattle.c_types_operands.specs.Operands.{OperandView, is_scalar, term_of}
use Rattle.c_types_operands.specs.Conversions.{assigned}
use Rattle.c_types_operators.specs.Assignments.{struct_source}
use Rattle.c_types_expressions.specs.Expressions.Expressions.{typed}
use Rattle.c_types_initializers.specs.Subobjects.{SubobjectView}
use Rattle.c_types_initializers.specs.Literals.{character_room, only_literal}
use Rattle.c_types_initializers.specs.ListStores.{FillingView, scalar_of, copy_of, with_found}
use Rattle.c_types_expressions.specs.BracedLists.BracedLists as lists
use Rattle.c_types_theorems.proofs.entries.Leading.{Leads}
use Rattle.c_types_theorems.proofs.entries.Expressing.{typed_leads}
use Rattle.c_types_theorems.proofs.entries.Initializing.{items_lead}
use Rattle.c_types_theorems.specs.Stores.PlacedStores.{IsPlaced, ArePlaced, IsSettled}
use Rattle.c_types_theorems.proofs.stores.Growing.{Extends, extends_same, Grows, steps_grow}
use Rattle.c_types_theorems.proofs.stores.Types.{IsOfType, assigned_typed}

-- ---- stores

pub placed_with : (P : SubobjectView → Type 0) (xs : List StoreTree) (x : StoreTree) → ArePlaced P xs → IsPlaced P x → ArePlaced P (xs ++ x ∷ [])
placed_with P [] x all one = (one, tt)
placed_with P (y ∷ xs) x all one = (all.0, placed_with P xs x all.1 one)

one_placed : (P Q : SubobjectView → Type 0) → ((s : SubobjectView) → P s → Q s) → (x : StoreTree) → IsPlaced P x → IsPlaced Q x
one_placed P Q f (StoreValue offset e) h = (h.0, f h.0 h.1, h.2, h.3, h.4)
one_placed P Q f (StoreCopy offset l) h = (h.0, f h.0 h.1, h.2)
one_placed P Q f (StoreText offset room text) h = (h.0, f h.0 h.1, h.2, h.3)

pub all_placed : (P Q : SubobjectView → Type 0) → ((s : SubobjectView) → P s → Q s) → (xs : List StoreTree) → ArePlaced P xs → ArePlaced Q xs
all_placed P Q f [] h = tt
all_placed P Q f (x ∷ xs) h = (one_placed P Q f x h.0, all_placed P Q f xs h.1)

pub scalar_placed : (P : SubobjectView → Type 0) (v : FillingView) (s : SubobjectView) (r : Ruled TermTree) → P s → IsOfType s.ctype r → ArePlaced P v.stores → ArePlaced P (scalar_of v s.offset r).stores
scalar_placed P v s (Ok e) part h all = placed_with P v.stores (StoreValue s.offset e) all (s, part, refl, h.0, h.1)
scalar_placed P v s (Err f) part h all = all

copy_placed : (P : SubobjectView → Type 0) (v : FillingView) (at : Place) (s : SubobjectView) (l : Option LvalueTree) → P s → ArePlaced P v.stores → ArePlaced P (copy_of v at s.offset l).stores
copy_placed P v at s None part all = all
copy_placed P v at s (Some l) part all = placed_with P v.stores (StoreCopy s.offset l) all (s, part, refl)

value_placed : (P : SubobjectView → Type 0) (k : Known) (at : Place) (s : SubobjectView) (o : OperandView) (v : FillingView) (b : Bool) → P s → ArePlaced P v.stores
    → ArePlaced P (cond b (scalar_of v s.offset (assigned k at (term_of o) s.ctype)) (copy_of v at s.offset (struct_source o s.ctype))).stores
value_placed P k at s o v true part all = scalar_placed P v s (assigned k at (term_of o) s.ctype) part (assigned_typed k at (term_of o) s.ctype) all
value_placed P k at s o v false part all = copy_placed P v at s (struct_source o s.ctype) part all

pub found_placed : (P : SubobjectView → Type 0) (k : Known) (at : Place) (o : OperandView) (v : FillingView) (found : Option SubobjectView) → ((s : SubobjectView) → found ≡ Some s → P s) → ArePlaced P v.stores → ArePlaced P (with_found k at o v found).stores
found_placed P k at o v None part all = all
found_placed P k at o v (Some s) part all = value_placed P k at s o v (is_scalar s.ctype) (part s refl) all

-- ---- steps that fill

-- what is filled stands at parts, by what is known then
abbrev pub Fills : (Known → SubobjectView → Type 0) → State → Ruled (FillingView × State) → Type 0
Fills P s (Ok p) = IsSettled p.1 × Extends s.known p.1.known × ArePlaced (P p.1.known) p.0.stores
Fills P s (Err f) = Unit {0}

module _ (P : Known → SubobjectView → Type 0) (grown : (k later : Known) (x : SubobjectView) → Extends k later → P k x → P later x) where
  pub stores_grown : (k later : Known) → Extends k later → (xs : List StoreTree) → ArePlaced (P k) xs → ArePlaced (P later) xs
  stores_grown k later g xs h = all_placed (P k) (P later) (λ x. grown k later x g) xs h

  pub scalar_fills : (s : State) (equals : Place) (sub : SubobjectView) (v : FillingView) (e : Tree) → IsSettled s → P s.known sub → ArePlaced (P s.known) v.stores → Fills P s (lists.fill_scalar s equals sub v e)
  scalar_fills s equals sub v e is part all = of_typed (typed s e) (typed_leads Grows steps_grow s e)
    where
      of_typed : (r : Ruled (OperandView × State)) → Leads Grows s r → Fills P s (after r (lists.scalar_in equals sub v))
      of_typed (Ok p) g =
          let a = g is in
          (a.0, a.1, scalar_placed (P p.1.known) v sub (assigned p.1.known equals (term_of p.0) sub.ctype) (grown s.known p.1.known sub a.1 part) (assigned_typed p.1.known equals (term_of p.0) sub.ctype) (stores_grown s.known p.1.known a.1 v.stores all))
      of_typed (Err f) g = tt

  pub refused_fills : (s : State) (equals : Place) (v : FillingView) (items : InitializerTrees) → IsSettled s → ArePlaced (P s.known) v.stores → Fills P s (lists.refuse_list s equals v items)
  refused_fills s equals v items is all = of_items (lists.typed_items s items) (items_lead Grows steps_grow s items)
    where
      of_items : (r : Ruled (Unit {0} × State)) → Leads Grows s r → Fills P s (after r (lists.with_refusal equals v))
      of_items (Ok p) g = let a = g is in (a.0, a.1, stores_grown s.known p.1.known a.1 v.stores all)
      of_items (Err f) g = tt

  pub text_fills : (s : State) (equals : Place) (sub : SubobjectView) (v : FillingView) (e : Tree) (bytes : List ℕ) (room : Option ℕ) → character_room sub.ctype ≡ room → IsSettled s → P s.known sub → ArePlaced (P s.known) v.stores → Fills P s (lists.text_in s equals sub v e bytes room)
  text_fills s equals sub v e bytes (Some room) has is part all = (is, extends_same s.known, placed_with (P s.known) v.stores (StoreText sub.offset room bytes) all (sub, part, refl, has))
  text_fills s equals sub v e bytes None has is part all = scalar_fills s equals sub v e is part all

  pub found_fills : (s : State) (equals : Place) (v : FillingView) (e : Tree) (bytes : List ℕ) (found : Option SubobjectView) → IsSettled s → ((x : SubobjectView) → found ≡ Some x → P s.known x) → ArePlaced (P s.known) v.stores → Fills P s (lists.fill_found s equals v e bytes found)
  found_fills s equals v e bytes None is part all = (is, extends_same s.known, all)
  found_fills s equals v e bytes (Some sub) is part all = text_fills s equals sub v e bytes (character_room sub.ctype) refl is (part sub refl) all

  pub only_fills : (s : State) (equals : Place) (sub : SubobjectView) (v : FillingView) (items : InitializerTrees) (e : Option Tree) → IsSettled s → P s.known sub → ArePlaced (P s.known) v.stores → Fills P s (lists.by_only s equals sub v items e)
  only_fills s equals sub v items (Some e) is part all = scalar_fills s equals sub v e is part all
  only_fills s equals sub v items None is part all = refused_fills s equals v items is all

  -- ---- one object, of which so many subobjects are passed

  abbrev pub Counts : State → Ruled ((ℕ × FillingView) × State) → Type 0
  Counts s (Ok p) = IsSettled p.1 × Extends s.known p.1.known × ArePlaced (P p.1.known) p.0.1.stores
  Counts s (Err f) = Unit {0}

  characters_count : (s : State) (sub : SubobjectView) (v : FillingView) (room : ℕ) (text : Option (List ℕ)) (r : Ruled ((ℕ × FillingView) × State)) → character_room sub.ctype ≡ Some room → IsSettled s → (text ≡ None ⊎ P s.known sub) → ArePlaced (P s.known) v.stores → Counts s r → Counts s (lists.characters_or s sub v room text r)
  characters_count s sub v room (Some bytes) r has is (inl none) all h = absurd (cc)
  characters_count s sub v room (Some bytes) r has is (inr part) all h = (is, extends_same s.known, placed_with (P s.known) v.stores (StoreText sub.offset room bytes) all (sub, part, refl, has))
  characters_count s sub v room None r has is part all h = h

  -- a whole object is a part, or no literal is all of its list
  abbrev pub IsWhole : Known → SubobjectView → InitializerTrees → Type 0
  IsWhole k sub list = P k sub ⊎ ((is_scalar sub.ctype ≡ false) × (only_literal list ≡ None ⊎ character_room sub.ctype ≡ None))

  whole_count : (s : State) (sub : SubobjectView) (v : FillingView) (list : InitializerTrees) (room : Option ℕ) (r : Ruled ((ℕ × FillingView) × State)) → character_room sub.ctype ≡ room → IsSettled s → IsWhole s.known sub list → ArePlaced (P s.known) v.stores → Counts s r → Counts s (lists.whole_or s sub v list room r)
  whole_count s sub v list (Some room) r has is (inl part) all h = characters_count s sub v room (only_literal list) r has is (inr part) all h
  whole_count s sub v list (Some room) r has is (inr (other, inl none)) all h = characters_count s sub v room (only_literal list) r has is (inl none) all h
  whole_count s sub v list (Some room) r has is (inr (other, inr none)) all h = absurd (let e : Some room ≡ None = sym has ∙ none in cc)
  whole_count s sub v list None r has is part all h = h

  one_count : (s : State) (r : Ruled (FillingView × State)) → Fills P s r → Counts s (after r lists.one_passed)
  one_count s (Ok p) h = h
  one_count s (Err f) h = tt

  by_scalar : (b : Bool) (s : State) (equals : Place) (sub : SubobjectView) (v : FillingView) (list : InitializerTrees) (r : Ruled ((ℕ × FillingView) × State)) → is_scalar sub.ctype ≡ b → IsSettled s → IsWhole s.known sub list → ArePlaced (P s.known) v.stores → Counts s r
      → Counts s (cond b (after (lists.fill_from_list s equals sub v list) lists.one_passed) (lists.whole_or s sub v list (character_room sub.ctype) r))
  by_scalar true s equals sub v list r scalar is (inl part) all h = one_count s (lists.fill_from_list s equals sub v list) (only_fills s equals sub v list (lists.only_value list) is part all)
  by_scalar true s equals sub v list r scalar is (inr (other, more)) all h = absurd (let e : true ≡ false = sym scalar ∙ other in cc)
  by_scalar false s equals sub v list r scalar is whole all h = whole_count s sub v list (character_room sub.ctype) r refl is whole all h

  pub fill_by_counts : (s : State) (equals : Place) (sub : SubobjectView) (v : FillingView) (list : InitializerTrees) (r : Ruled ((ℕ × FillingView) × State)) → IsSettled s → IsWhole s.known sub list → ArePlaced (P s.known) v.stores → Counts s r → Counts s (lists.fill_by s equals sub v list r)
  fill_by_counts s equals sub v list r is whole all h = by_scalar (is_scalar sub.ctype) s equals sub v list r refl is whole all h
