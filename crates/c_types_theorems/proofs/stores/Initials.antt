-- The stores of an initializer stand at parts of its object.
use Rattle.std.proofs.Common.{◌≡◌, ◌<◌, ◌≤◌, ◌-◌, ◌^◌, ℕ, Bool, true, false, List, [], ◌∷◌, Option, Some, None, Ok, Err, arith, refl, ap, subst, ◌∙◌, inl, inr}
use Rattle.std.specs.Prelude.{◌⊎◌, ◌&&◌, ◌==◌, not, cond, nat_le}
use Rattle.std.proofs.lemmas.Bool.{lt-leb}
use Rattle.std.proofs.lemmas.Option.{same_Some}
use Rattle.cc_base.specs.declared.diagnostics.Place.{Place}
use Rattle.cc_base.specs.declared.refusals.Fault.{Fault}
use Rattle.c_layout.specs.Types.{Ty, Int, Pointer, Array, Struct, Void}
use Rattle.c_layout.specs.SyntaxTrees.{Tree}
use Rattle.c_layout.specs.DeclarationTrees as tree
use Rattle.c_layout.specs.DeclarationTrees.{InitializerTree, InitializerTrees}
use Rattle.c_layout.specs.CheckedTrees.{TermTree, LvalueTree}
use Rattle.c_types_scopes.specs.Answers.{after, kept}
use Rattle.c_types_scopes.specs.Known.{Known, size_of}
use Rattle.c_types_scopes.specs.Refusals.{Ruled, type_fault}
use Rattle.c_types_scopes.specs.States.{State}
use Rattle.c_types_operands.specs.Operands.{OperandView, is_scalar, is_struct, term_of}
use Rattle.c_types_operands.specs.Conversions.{assigned}
use Rattle.c_types_operators.specs.Assignments.{struct_source}
use Rattle.c_types_expressions.specs.Expressions.Expressions.{typed}
use Rattle.c_types_initializers.specs.Subobjects.{SubobjectView, OpenView, subobject, entered, is_behind, element_of_size, following_of, one_more}
use Rattle.c_types_initializers.specs.Literals.{bare_literal, character_room, room_of, only_literal, length_or, with_length, literal_length}
use Rattle.c_types_initializers.specs.ListStores.{FillingView, nothing}
use Rattle.c_types_initializers.specs.Initialized.{InitializedView, scalar_by, struct_by, by_operand, spelled, filled_by}
use Rattle.c_types_expressions.specs.BracedLists.BracedLists as lists
use Rattle.c_types_expressions.specs.BracedLists.Initializers as spec
use Rattle.c_types_theorems.specs.Stores.PlacedStores.{ArePlaced, IsPartFrom, IsInitialized, IsSettled, StoresArePlaced}
use Rattle.c_types_theorems.proofs.stores.Growing.{Extends, extends_same, part_stays, part_within}
use Rattle.c_types_theorems.proofs.stores.Types.{IsOfType, assigned_typed}
use Rattle.c_types_theorems.proofs.stores.Cursors.{HasParts, counted}
use Rattle.c_types_theorems.proofs.stores.Lists.{Fills, only_fills}
use Rattle.c_types_theorems.proofs.stores.Filling.{Reads, items_read}

-- ---- the object itself

not_behind : (m n : ℕ) → n < m → (b : Bool) → (b && nat_le m n) ≡ false
not_behind m n less true = lt-leb m n less
not_behind m n less false = refl

unbehind : {A : Type 0} (b : Bool) (o : Option A) (x : A) → cond b None o ≡ Some x → o ≡ Some x
unbehind true o x h = absurd (cc)
unbehind false o x h = h

element_first : (m n had : ℕ) (o : Option SubobjectView) (x : SubobjectView) (b : Bool) → (had == 0) ≡ b → n < m → cond (is_behind had n) None o ≡ Some x → cond (is_behind (cond b m had) n) None o ≡ Some x
element_first m n had o x true is less h = ap (λ c. cond c None o) (not_behind m n less (not (m == 0))) ∙ unbehind (is_behind had n) o x h
element_first m n had o x false is less h = h

following_first : (k : Known) (t : Ty) (m n : ℕ) (x : SubobjectView) → n < m → following_of k t 0 n ≡ Some x → following_of k (with_length t m) 0 n ≡ Some x
following_first k (Array e had) m n x less h = element_first m n had (element_of_size e 0 n (size_of k e)) x (had == 0) refl less h
following_first k (Int kind) m n x less h = h
following_first k (Pointer t) m n x less h = h
following_first k (Struct i) m n x less h = h
following_first k Void m n x less h = h

passed_less : (n m : ℕ) → n ≤ 2 ^ 64 - 1 → one_more n ≤ m → (one_more n < m) ⊎ (one_more n < 2 ^ 64 - 1) → n < m
passed_less n m few least (inl less) = let c = counted n in omega (arith, c, few, least, less)
passed_less n m few least (inr less) = let c = counted n in omega (arith, c, few, least, less)

enough : (b c n : ℕ) → b ≤ c → (c < n) ⊎ (c < 2 ^ 64 - 1) → (b < n) ⊎ (b < 2 ^ 64 - 1)
enough b c n more (inl less) = inl (omega (arith, more, less))
enough b c n more (inr less) = inr (omega (arith, more, less))

abbrev Part : Ty → ℕ → Known → SubobjectView → Type 0
Part t b k s = IsPartFrom k t b s

object_parts : (k : Known) (t : Ty) → HasParts k (subobject t 0) (Part t)
object_parts from t = record {
  raised = λ b c k s more h n least less. h n (omega (arith, more, least)) (enough b c n more less);
  grown = λ b k later s g h n least less. part_stays k later g (with_length t n) s (h n least less);
  inner = λ b k s x n h is m least less. part_within k (with_length t m) s x n (h m least less) is;
  first = λ k n x few later is m least less. record { path = n ∷ []; is = following_first k t m n x (passed_less n m few least less) is };
}

scalar_root : (k : Known) (t : Ty) (b : ℕ) → is_scalar t ≡ true → IsPartFrom k t b (subobject t 0)
scalar_root k (Int kind) b h n least less = record { path = []; is = refl }
scalar_root k (Pointer t) b h n least less = record { path = []; is = refl }
scalar_root k (Array t m) b h n least less = absurd (cc)
scalar_root k (Struct i) b h n least less = absurd (cc)
scalar_root k Void b h n least less = absurd (cc)

part_grown : (t : Ty) (b : ℕ) (k later : Known) (x : SubobjectView) → Extends k later → Part t b k x → Part t b later x
part_grown t b k later x g h n least less = part_stays k later g (with_length t n) x (h n least less)

-- ---- lists

-- the stores of a list that passes so many subobjects
abbrev Passes : Ty → State → Ruled ((ℕ × FillingView) × State) → Type 0
Passes t s (Ok p) = ArePlaced (Part t p.0.0 p.1.known) p.0.1.stores
Passes t s (Err f) = Unit {0}

one_passes : (t : Ty) (s : State) (r : Ruled (FillingView × State)) → Fills (Part t 1) s r → Passes t s (after r lists.one_passed)
one_passes t s (Ok p) h = h.2
one_passes t s (Err f) h = tt

all_pass : (t : Ty) (s : State) (r : Ruled ((List OpenView × FillingView) × State)) → Reads s.known (subobject t 0) (Part t) (object_parts s.known t) s r → Passes t s (after r lists.all_passed)
all_pass t s (Ok p) h = h.3
all_pass t s (Err f) h = tt

-- no literal is all of the list, or the object is no array of characters
abbrev NoText : Ty → InitializerTrees → Type 0
NoText t list = (only_literal list ≡ None) ⊎ (character_room t ≡ None)

characters_pass : (t : Ty) (s : State) (v : FillingView) (room : ℕ) (text : Option (List ℕ)) (r : Ruled ((ℕ × FillingView) × State)) → text ≡ None → Passes t s r → Passes t s (lists.characters_or s (subobject t 0) v room text r)
characters_pass t s v room (Some bytes) r none h = absurd (cc)
characters_pass t s v room None r none h = h

whole_passes : (t : Ty) (s : State) (v : FillingView) (list : InitializerTrees) (room : Option ℕ) (r : Ruled ((ℕ × FillingView) × State)) → (only_literal list ≡ None) ⊎ (room ≡ None) → Passes t s r → Passes t s (lists.whole_or s (subobject t 0) v list room r)
whole_passes t s v list (Some room) r (inl none) h = characters_pass t s v room (only_literal list) r none h
whole_passes t s v list (Some room) r (inr none) h = absurd (cc)
whole_passes t s v list None r none h = h

by_scalar : (b : Bool) (s : State) (equals : Place) (t : Ty) (list : InitializerTrees) (r : Ruled ((ℕ × FillingView) × State)) → is_scalar t ≡ b → IsSettled s → NoText t list → Passes t s r
    → Passes t s (cond b (after (lists.fill_from_list s equals (subobject t 0) nothing list) lists.one_passed) (lists.whole_or s (subobject t 0) nothing list (character_room t) r))
by_scalar true s equals t list r scalar is none h = one_passes t s (lists.fill_from_list s equals (subobject t 0) nothing list) (only_fills (Part t 1) (part_grown t 1) s equals (subobject t 0) nothing list (lists.only_value list) is (scalar_root s.known t 1 scalar) tt)
by_scalar false s equals t list r scalar is none h = whole_passes t s nothing list (character_room t) r none h

list_passes : (s : State) (equals : Place) (t : Ty) (list : InitializerTrees) → IsSettled s → NoText t list → Passes t s (lists.fill s equals (subobject t 0) nothing list)
list_passes s equals t list is none =
    by_scalar (is_scalar t) s equals t list (lists.fill_aggregate s equals (subobject t 0) nothing list) refl is none
    (all_pass t s (lists.fill_items s equals (entered (subobject t 0) ∷ []) nothing list)
    (items_read list s.known (subobject t 0) (Part t) (object_parts s.known t) s equals (entered (subobject t 0) ∷ []) nothing is (extends_same s.known) (refl, refl, omega arith) tt))

-- ---- initializers

abbrev Makes : Ty → Ruled ((InitializedView × Ty) × State) → Type 0
Makes t (Ok p) = IsInitialized p.1.known t p.0.0 p.0.1
Makes t (Err f) = Unit {0}

filled_makes : (t : Ty) (count : ℕ) (v : FillingView) (s : State) (fault : Option Fault) → ArePlaced (Part t count s.known) v.stores → Makes t (kept s (filled_by v t count fault))
filled_makes t count v s (Some f) h = tt
filled_makes t count v s None h = inl (record { count = count; is = refl; placed = h })

items_make : (s : State) (equals : Place) (t : Ty) (list : InitializerTrees) → IsSettled s → NoText t list → Makes t (spec.by_items s equals t list)
items_make s equals t list is none = of_filled (lists.fill s equals (subobject t 0) nothing list) (list_passes s equals t list is none)
  where
    of_filled : (r : Ruled ((ℕ × FillingView) × State)) → Passes t s r → Makes t (after r (spec.filled_in t))
    of_filled (Ok p) h = filled_makes t p.0.0 p.0.1 p.1 p.0.1.fault h
    of_filled (Err f) h = tt

-- what a value does to an object
abbrev Sets : Ty → Ruled InitializedView → Type 0
Sets t (Ok made) = (k : Known) → IsInitialized k t made t
Sets t (Err f) = Unit {0}

scalar_sets : (t : Ty) (r : Ruled TermTree) → IsOfType t r → Sets t (scalar_by r)
scalar_sets t (Ok e) h = λ k. (refl, h.0, h.1)
scalar_sets t (Err f) h = tt

struct_sets : (t : Ty) (at : Place) (l : Option LvalueTree) → Sets t (struct_by at l)
struct_sets t at None = tt
struct_sets t at (Some l) = λ k. refl

or_struct_sets : (t : Ty) (at : Place) (x : OperandView) (b : Bool) → Sets t (cond b (struct_by at (struct_source x t)) (type_fault at))
or_struct_sets t at x true = struct_sets t at (struct_source x t)
or_struct_sets t at x false = tt

operand_sets : (k : Known) (at : Place) (t : Ty) (x : OperandView) (b : Bool) → Sets t (cond b (scalar_by (assigned k at (term_of x) t)) (cond (is_struct t) (struct_by at (struct_source x t)) (type_fault at)))
operand_sets k at t x true = scalar_sets t (assigned k at (term_of x) t) (assigned_typed k at (term_of x) t)
operand_sets k at t x false = or_struct_sets t at x (is_struct t)

term_makes : (s : State) (equals : Place) (t : Ty) (e : Tree) → Makes t (spec.by_term s equals t e)
term_makes s equals t e = of_typed (typed s e)
  where
    of_made : (u : State) (r : Ruled InitializedView) → Sets t r → Makes t (after (kept u r) (spec.of_type t))
    of_made u (Ok made) h = h u.known
    of_made u (Err f) h = tt

    of_typed : (r : Ruled (OperandView × State)) → Makes t (after (after r (spec.by_operand_in equals t)) (spec.of_type t))
    of_typed (Ok p) = of_made p.1 (by_operand p.1.known equals t p.0) (operand_sets p.1.known equals t p.0 (is_scalar t))
    of_typed (Err f) = tt

room_is : (b : Bool) (count room n : ℕ) → cond b (Some count) None ≡ Some room → cond b (Some (length_or count n)) None ≡ Some (length_or room n)
room_is true count room n h = ap (λ c. Some (length_or c n)) (same_Some count room h)
room_is false count room n h = absurd (cc)

element_room : (e : Ty) (count room n : ℕ) → room_of e count ≡ Some room → room_of e (length_or count n) ≡ Some (length_or room n)
element_room (Int kind) count room n h = room_is (kind.bytes == 1) count room n h
element_room (Pointer t) count room n h = absurd (cc)
element_room (Array t m) count room n h = absurd (cc)
element_room (Struct i) count room n h = absurd (cc)
element_room Void count room n h = absurd (cc)

length_room : (t : Ty) (room n : ℕ) → character_room t ≡ Some room → character_room (with_length t n) ≡ Some (length_or room n)
length_room (Array e count) room n h = element_room e count room n h
length_room (Int kind) room n h = absurd (cc)
length_room (Pointer t) room n h = absurd (cc)
length_room (Struct i) room n h = absurd (cc)
length_room Void room n h = absurd (cc)

text_makes : (s : State) (t : Ty) (room : ℕ) (bytes : List ℕ) → character_room t ≡ Some room → Makes t (Ok (spelled t room bytes, s))
text_makes s t room bytes is = inr ((subobject (with_length t (literal_length bytes)) 0, record { path = []; is = refl }, refl, length_room t room (literal_length bytes) is), tt)

by_text_makes : (s : State) (equals : Place) (t : Ty) (room : ℕ) (e : Tree) (text : Option (List ℕ)) → character_room t ≡ Some room → Makes t (spec.by_text s equals t room e text)
by_text_makes s equals t room e (Some bytes) is = text_makes s t room bytes is
by_text_makes s equals t room e None is = term_makes s equals t e

expression_makes : (s : State) (equals : Place) (t : Ty) (e : Tree) (room : Option ℕ) → character_room t ≡ room → Makes t (spec.by_expression_in s equals t e room)
expression_makes s equals t e (Some room) is = by_text_makes s equals t room e (bare_literal e) is
expression_makes s equals t e None is = term_makes s equals t e

braced_makes : (s : State) (equals : Place) (t : Ty) (room : ℕ) (list : InitializerTrees) (text : Option (List ℕ)) → character_room t ≡ Some room → only_literal list ≡ text → IsSettled s → Makes t (spec.by_braced_text s equals t room list text)
braced_makes s equals t room list (Some bytes) has only is = text_makes s t room bytes has
braced_makes s equals t room list None has only is = items_make s equals t list is (inl only)

list_makes : (s : State) (equals : Place) (t : Ty) (list : InitializerTrees) (room : Option ℕ) → character_room t ≡ room → IsSettled s → Makes t (spec.by_list_in s equals t list room)
list_makes s equals t list (Some room) has is = braced_makes s equals t room list (only_literal list) has refl is
list_makes s equals t list None has is = items_make s equals t list is (inr has)

initializer_makes : (s : State) (equals : Place) (t : Ty) (i : InitializerTree) → IsSettled s → Makes t (spec.initializer_of s equals t i)
initializer_makes s equals t (tree.Single e) is = expression_makes s equals t e (character_room t) refl
initializer_makes s equals t (tree.Braces at list) is = list_makes s equals t list (character_room t) refl is

pub stores_placed : StoresArePlaced
stores_placed s later equals t made i v settled is = subst (Makes t) is (initializer_makes s equals t i settled)
