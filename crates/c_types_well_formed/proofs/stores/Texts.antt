-- The texts that initializers store are of bytes, as the literals of their trees are.
use Rattle.std.proofs.Common.{◌≡◌, ℕ, List, [], ◌∷◌, ◌++◌, Option, Some, None, Ok, Err, subst}
use Rattle.std.specs.Prelude.{Bool, true, false, cond}
use Rattle.cc_base.specs.declared.diagnostics.Place.{Place}
use Rattle.cc_base.specs.declared.refusals.Fault.{Fault}
use Rattle.c_layout.specs.Types.{Ty}
use Rattle.c_layout.specs.SyntaxTrees as syntax
use Rattle.c_layout.specs.SyntaxTrees.{Tree}
use Rattle.c_layout.specs.DeclarationTrees as tree
use Rattle.c_layout.specs.DeclarationTrees.{InitializerTree, InitializerTrees}
use Rattle.c_layout.specs.CheckedTrees.{TermTree, LvalueTree, StoreTree, StoreValue, StoreCopy, StoreText}
use Rattle.c_layout.specs.declared.data_model.Model.{Model}
use Rattle.c_types_scopes.specs.Refusals.{Ruled, type_fault}
use Rattle.c_types_scopes.specs.Answers.{after, kept}
use Rattle.c_types_scopes.specs.Known.{Known}
use Rattle.c_types_scopes.specs.States.{State}
use Rattle.c_types_operands.specs.Operands.{OperandView, term_of, is_scalar, is_struct}
use Rattle.c_types_operands.specs.Conversions.{assigned}
use Rattle.c_types_operators.specs.Assignments.{struct_source}
use Rattle.c_types_expressions.specs.Expressions.Expressions.{typed}
use Rattle.c_types_initializers.specs.Subobjects.{SubobjectView, OpenView, entered, next, subobject}
use Rattle.c_types_initializers.specs.Literals.{bare_literal, character_room, only_literal}
use Rattle.c_types_initializers.specs.ListStores.{FillingView, nothing, scalar_of, copy_of, with_found, takes_value, takes_text, sought}
use Rattle.c_types_initializers.specs.Initialized.{InitializedView, scalar_by, struct_by, filled_by}
use Rattle.c_types_expressions.specs.BracedLists.BracedLists as lists
use Rattle.c_types_expressions.specs.BracedLists.Initializers as spec
use Rattle.c_layout.specs.ByteTexts.{are_bytes}
use Rattle.c_types_well_formed.specs.WellFormed.ProperStatements.{IsProperInitializer, AreProperInitializers}
use Rattle.c_types_well_formed.specs.WellFormed.ProperTrees.{IsProperTree}
use Rattle.c_types_well_formed.specs.Stores.StaticStores.{IsByteStore, AreByteStores, IsByteInitial}

-- ---- literals

abbrev pub IsText : Option (List ℕ) → Type 0
IsText None = Unit {0}
IsText (Some bytes) = are_bytes bytes ≡ true

pub bare_text : (m : Model) (e : Tree) → IsProperTree m e → IsText (bare_literal e)
bare_text m (syntax.Literal at bytes) h = h
bare_text m (syntax.Name at text) h = tt
bare_text m (syntax.Number at c) h = tt
bare_text m (syntax.Paren at e) h = tt
bare_text m (syntax.Subscript at a b) h = tt
bare_text m (syntax.Call at name es) h = tt
bare_text m (syntax.Member at e name) h = tt
bare_text m (syntax.Arrow at e name) h = tt
bare_text m (syntax.Postfix at op e) h = tt
bare_text m (syntax.Prefix at op e) h = tt
bare_text m (syntax.Unary at op e) h = tt
bare_text m (syntax.SizeofExpr at e) h = tt
bare_text m (syntax.SizeofType at n es) h = tt
bare_text m (syntax.Cast at n es e) h = tt
bare_text m (syntax.Binary at op a b) h = tt
bare_text m (syntax.Logical at op a b) h = tt
bare_text m (syntax.Conditional at a b c) h = tt
bare_text m (syntax.Assign at op a b) h = tt
bare_text m (syntax.Comma at a b) h = tt

pub only_text : (m : Model) (list : InitializerTrees) → AreProperInitializers m list → IsText (only_literal list)
only_text m tree.NoInitializer h = tt
only_text m (tree.MoreInitializers (tree.Single e) tree.NoInitializer) h = bare_text m e h.0
only_text m (tree.MoreInitializers (tree.Braces at items) tree.NoInitializer) h = tt
only_text m (tree.MoreInitializers i (tree.MoreInitializers j items)) h = tt

-- ---- stores

store_more : (xs : List StoreTree) (x : StoreTree) → AreByteStores xs → IsByteStore x → AreByteStores (xs ++ x ∷ [])
store_more [] x all one = (one, tt)
store_more (y ∷ xs) x all one = (all.0, store_more xs x all.1 one)

-- ---- what a value stores

scalar_texts : (v : FillingView) (offset : ℕ) (r : Ruled TermTree) → AreByteStores v.stores → AreByteStores (scalar_of v offset r).stores
scalar_texts v offset (Ok e) all = store_more v.stores (StoreValue offset e) all tt
scalar_texts v offset (Err f) all = all

copy_texts : (v : FillingView) (at : Place) (offset : ℕ) (l : Option LvalueTree) → AreByteStores v.stores → AreByteStores (copy_of v at offset l).stores
copy_texts v at offset None all = all
copy_texts v at offset (Some l) all = store_more v.stores (StoreCopy offset l) all tt

value_texts : (k : Known) (at : Place) (s : SubobjectView) (o : OperandView) (v : FillingView) (b : Bool) → AreByteStores v.stores
    → AreByteStores (cond b (scalar_of v s.offset (assigned k at (term_of o) s.ctype)) (copy_of v at s.offset (struct_source o s.ctype))).stores
value_texts k at s o v true all = scalar_texts v s.offset (assigned k at (term_of o) s.ctype) all
value_texts k at s o v false all = copy_texts v at s.offset (struct_source o s.ctype) all

found_texts : (k : Known) (at : Place) (o : OperandView) (v : FillingView) (found : Option SubobjectView) → AreByteStores v.stores → AreByteStores (with_found k at o v found).stores
found_texts k at o v None all = all
found_texts k at o v (Some s) all = value_texts k at s o v (is_scalar s.ctype) all

-- ---- steps that fill

-- what a step gives, where it does not refuse
abbrev Gives : {V : Type 0} → (V → Type 0) → Ruled (V × State) → Type 0
Gives P (Ok p) = P p.0
Gives P (Err f) = Unit {0}

gives_after : {U V : Type 0} (P : V → Type 0) (r : Ruled (U × State)) (go : U → State → Ruled (V × State)) → ((x : U) (t : State) → Gives P (go x t)) → Gives P (after r go)
gives_after P (Ok p) go h = h p.0 p.1
gives_after P (Err f) go h = tt

gives_then : {U V : Type 0} (Q : U → Type 0) (P : V → Type 0) (r : Ruled (U × State)) (go : U → State → Ruled (V × State)) → Gives Q r → ((x : U) (t : State) → Q x → Gives P (go x t)) → Gives P (after r go)
gives_then Q P (Ok p) go g h = h p.0 p.1 g
gives_then Q P (Err f) go g h = tt

abbrev Filled : FillingView → Type 0
Filled w = AreByteStores w.stores

abbrev Counted : ℕ × FillingView → Type 0
Counted p = AreByteStores p.1.stores

abbrev Read : List OpenView × FillingView → Type 0
Read p = AreByteStores p.1.stores

scalar_fills : (s : State) (equals : Place) (sub : SubobjectView) (v : FillingView) (e : Tree) → Filled v → Gives Filled (lists.fill_scalar s equals sub v e)
scalar_fills s equals sub v e all = gives_after Filled (typed s e) (lists.scalar_in equals sub v) (λ x t. scalar_texts v sub.offset (assigned t.known equals (term_of x) sub.ctype) all)

text_fills : (s : State) (equals : Place) (sub : SubobjectView) (v : FillingView) (e : Tree) (bytes : List ℕ) (room : Option ℕ) → are_bytes bytes ≡ true → Filled v → Gives Filled (lists.text_in s equals sub v e bytes room)
text_fills s equals sub v e bytes (Some room) plain all = store_more v.stores (StoreText sub.offset room bytes) all plain
text_fills s equals sub v e bytes None plain all = scalar_fills s equals sub v e all

literal_fills : (s : State) (equals : Place) (v : FillingView) (e : Tree) (bytes : List ℕ) (found : Option SubobjectView) → are_bytes bytes ≡ true → Filled v → Gives Filled (lists.fill_found s equals v e bytes found)
literal_fills s equals v e bytes None plain all = all
literal_fills s equals v e bytes (Some sub) plain all = text_fills s equals sub v e bytes (character_room sub.ctype) plain all

beside_reads : (left : List OpenView) (r : Ruled (FillingView × State)) → Gives Filled r → Gives Read (lists.beside left r)
beside_reads left (Ok p) h = h
beside_reads left (Err f) h = tt

single_reads : (s : State) (equals : Place) (had : List OpenView) (v : FillingView) (e : Tree) (bytes : Option (List ℕ)) → IsText bytes → Filled v → Gives Read (lists.single_by s equals had v e bytes)
single_reads s equals had v e (Some bytes) plain all =
    let found = sought s.known takes_text had in
    beside_reads found.1 (lists.fill_found s equals v e bytes found.0) (literal_fills s equals v e bytes found.0 plain all)
single_reads s equals had v e None plain all = gives_after Read (typed s e) (lists.value_in equals had v) (λ x t. found_texts t.known equals x v (sought t.known (takes_value x) had).0 all)

refused_fills : (s : State) (equals : Place) (v : FillingView) (items : InitializerTrees) → Filled v → Gives Filled (lists.refuse_list s equals v items)
refused_fills s equals v items all = gives_after Filled (lists.typed_items s items) (lists.with_refusal equals v) (λ x t. all)

only_fills : (s : State) (equals : Place) (sub : SubobjectView) (v : FillingView) (items : InitializerTrees) (e : Option Tree) → Filled v → Gives Filled (lists.by_only s equals sub v items e)
only_fills s equals sub v items (Some e) all = scalar_fills s equals sub v e all
only_fills s equals sub v items None all = refused_fills s equals v items all

characters_count : (s : State) (sub : SubobjectView) (v : FillingView) (room : ℕ) (text : Option (List ℕ)) (r : Ruled ((ℕ × FillingView) × State)) → IsText text → Filled v → Gives Counted r → Gives Counted (lists.characters_or s sub v room text r)
characters_count s sub v room (Some bytes) r plain all g = store_more v.stores (StoreText sub.offset room bytes) all plain
characters_count s sub v room None r plain all g = g

module _ (m : Model) where
  whole_count : (s : State) (sub : SubobjectView) (v : FillingView) (list : InitializerTrees) (room : Option ℕ) (r : Ruled ((ℕ × FillingView) × State)) → AreProperInitializers m list → Filled v → Gives Counted r → Gives Counted (lists.whole_or s sub v list room r)
  whole_count s sub v list (Some room) r proper all g = characters_count s sub v room (only_literal list) r (only_text m list proper) all g
  whole_count s sub v list None r proper all g = g

  fill_by_counts : (s : State) (equals : Place) (sub : SubobjectView) (v : FillingView) (list : InitializerTrees) (r : Ruled ((ℕ × FillingView) × State)) → AreProperInitializers m list → Filled v → Gives Counted r → Gives Counted (lists.fill_by s equals sub v list r)
  fill_by_counts s equals sub v list r proper all g = by (is_scalar sub.ctype)
    where
      by : (b : Bool) → Gives Counted (cond b (after (lists.fill_from_list s equals sub v list) lists.one_passed) (lists.whole_or s sub v list (character_room sub.ctype) r))
      by true = gives_then Filled Counted (lists.fill_from_list s equals sub v list) lists.one_passed (only_fills s equals sub v list (lists.only_value list) all) (λ w t h. h)
      by false = whole_count s sub v list (character_room sub.ctype) r proper all g

  braces_read : (s : State) (equals : Place) (left : List OpenView) (v : FillingView) (list : InitializerTrees) (filling : SubobjectView → Ruled ((ℕ × FillingView) × State)) (found : Option SubobjectView) → Filled v → ((x : SubobjectView) → Gives Counted (filling x)) → Gives Read (lists.braces_in s equals left v list filling found)
  braces_read s equals left v list filling None all g = beside_reads left (lists.refuse_list s equals v list) (refused_fills s equals v list all)
  braces_read s equals left v list filling (Some sub) all g = beside_reads left (after (filling sub) lists.uncounted) (gives_then Counted Filled (filling sub) lists.uncounted (g sub) (λ p t h. h))

  mutual
    item_reads : (i : InitializerTree) (s : State) (equals : Place) (had : List OpenView) (v : FillingView) → IsProperInitializer m i → Filled v → Gives Read (lists.fill_item s equals had v i)
    item_reads (tree.Single e) s equals had v proper all = single_reads s equals had v e (bare_literal e) (bare_text m e proper) all
    item_reads (tree.Braces at list) s equals had v proper all =
        braces_read s equals (next s.known had).1 v list (λ sub. lists.fill_by s equals sub v list (lists.fill_aggregate s equals sub v list)) (next s.known had).0 all
        (λ sub. fill_by_counts s equals sub v list (lists.fill_aggregate s equals sub v list) proper all (gives_then Read Counted (lists.fill_items s equals (entered sub ∷ []) v list) lists.all_passed (items_read list s equals (entered sub ∷ []) v proper all) (λ p t h. h)))

    items_read : (items : InitializerTrees) (s : State) (equals : Place) (had : List OpenView) (v : FillingView) → AreProperInitializers m items → Filled v → Gives Read (lists.fill_items s equals had v items)
    items_read tree.NoInitializer s equals had v proper all = all
    items_read (tree.MoreInitializers i list) s equals had v proper all =
        gives_then Read Read (lists.fill_item s equals had v i) (λ p t. lists.fill_items t equals p.0 p.1 list) (item_reads i s equals had v proper.0 all) (λ p t h. items_read list t equals p.0 p.1 proper.1 h)

  -- ---- initializers

  abbrev Initial : InitializedView × Ty → Type 0
  Initial p = IsByteInitial p.0

  scalar_gives : (r : Ruled TermTree) (s : State) → Gives IsByteInitial (kept s (scalar_by r))
  scalar_gives (Ok e) s = tt
  scalar_gives (Err f) s = tt

  struct_gives : (at : Place) (l : Option LvalueTree) (s : State) → Gives IsByteInitial (kept s (struct_by at l))
  struct_gives at None s = tt
  struct_gives at (Some l) s = tt

  operand_gives : (k : Known) (at : Place) (t : Ty) (x : OperandView) (s : State) (b c : Bool) → Gives IsByteInitial (kept s (cond b (scalar_by (assigned k at (term_of x) t)) (cond c (struct_by at (struct_source x t)) (type_fault at))))
  operand_gives k at t x s true c = scalar_gives (assigned k at (term_of x) t) s
  operand_gives k at t x s false true = struct_gives at (struct_source x t) s
  operand_gives k at t x s false false = tt

  term_gives : (s : State) (equals : Place) (t : Ty) (e : Tree) → Gives Initial (spec.by_term s equals t e)
  term_gives s equals t e =
      gives_then IsByteInitial Initial (spec.by_value s equals t e) (spec.of_type t) (gives_after IsByteInitial (typed s e) (spec.by_operand_in equals t) (λ x u. operand_gives u.known equals t x u (is_scalar t) (is_struct t))) (λ v u h. h)

  spelled_gives : (s : State) (equals : Place) (t : Ty) (room : ℕ) (e : Tree) (text : Option (List ℕ)) → IsText text → Gives Initial (spec.by_text s equals t room e text)
  spelled_gives s equals t room e (Some bytes) plain = (plain, tt)
  spelled_gives s equals t room e None plain = term_gives s equals t e

  expression_gives : (s : State) (equals : Place) (t : Ty) (e : Tree) (room : Option ℕ) → IsText (bare_literal e) → Gives Initial (spec.by_expression_in s equals t e room)
  expression_gives s equals t e (Some room) plain = spelled_gives s equals t room e (bare_literal e) plain
  expression_gives s equals t e None plain = term_gives s equals t e

  items_give : (s : State) (equals : Place) (t : Ty) (list : InitializerTrees) → AreProperInitializers m list → Gives Initial (spec.by_items s equals t list)
  items_give s equals t list proper =
      gives_then Counted Initial (lists.fill s equals (subobject t 0) nothing list) (spec.filled_in t)
      (fill_by_counts s equals (subobject t 0) nothing list (lists.fill_aggregate s equals (subobject t 0) nothing list) proper tt (gives_then Read Counted (lists.fill_items s equals (entered (subobject t 0) ∷ []) nothing list) lists.all_passed (items_read list s equals (entered (subobject t 0) ∷ []) nothing proper tt) (λ p u h. h)))
      (λ p u h. of_fault p u h p.1.fault)
    where
      of_fault : (p : ℕ × FillingView) (u : State) → Counted p → (fault : Option Fault) → Gives Initial (kept u (filled_by p.1 t p.0 fault))
      of_fault p u h (Some f) = tt
      of_fault p u h None = h

  braced_gives : (s : State) (equals : Place) (t : Ty) (room : ℕ) (list : InitializerTrees) (text : Option (List ℕ)) → AreProperInitializers m list → IsText text → Gives Initial (spec.by_braced_text s equals t room list text)
  braced_gives s equals t room list (Some bytes) proper plain = (plain, tt)
  braced_gives s equals t room list None proper plain = items_give s equals t list proper

  list_gives : (s : State) (equals : Place) (t : Ty) (list : InitializerTrees) (room : Option ℕ) → AreProperInitializers m list → Gives Initial (spec.by_list_in s equals t list room)
  list_gives s equals t list (Some room) proper = braced_gives s equals t room list (only_literal list) proper (only_text m list proper)
  list_gives s equals t list None proper = items_give s equals t list proper

  initializer_gives : (s : State) (equals : Place) (t : Ty) (i : InitializerTree) → IsProperInitializer m i → Gives Initial (spec.initializer_of s equals t i)
  initializer_gives s equals t (tree.Single e) proper = expression_gives s equals t e (character_room t) (bare_text m e proper)
  initializer_gives s equals t (tree.Braces at list) proper = list_gives s equals t list (character_room t) proper

  pub initializer_texts : (s u : State) (equals : Place) (t made : Ty) (i : InitializerTree) (v : InitializedView) → IsProperInitializer m i → spec.initializer_of s equals t i ≡ Ok ((v, made), u) → IsByteInitial v
  initializer_texts s u equals t made i v proper is = subst (Gives Initial) is (initializer_gives s equals t i proper)
