-- What the rules find in an expression, they find in its tree.
use Rattle.std.specs.Prelude.{◌≡◌, ℕ, Bool, List, [], ◌∷◌, ◌++◌, map, Option, Some, None, refl}
use Rattle.std.specs.List.{flat_map}
use Rattle.std.specs.Option.{option_map}
use Rattle.std.specs.Global.{Box}
use Rattle.std.proofs.Common.{sym, ap, ap₂, subst, ◌∙◌}
use Rattle.cc_base.specs.declared.diagnostics.Diag.{Diag}
use Rattle.cc_base.specs.declared.diagnostics.Place.{Place}
use Rattle.c_layout.specs.Types.{view}
use Rattle.c_layout.specs.CheckedTrees.{LvalueTree, LvalueFormTree, TermTree, FormTree, term_trees, term_tree, lvalue_tree}
use Rattle.c_layout.specs.CheckedTrees as tree
use Rattle.c_layout.specs.declared.checked_tree.checked_terms.LvalueForm.{LvalueForm, LvalueForm-F, fold-LvalueForm, fold-roll-LvalueForm, roll-LvalueForm, map-LvalueForm}
use Rattle.c_layout.specs.declared.checked_tree.checked_terms.TermForm.{TermForm, TermForm-F, fold-TermForm, fold-roll-TermForm, roll-TermForm, map-TermForm}
use Rattle.c_layout.specs.declared.checked_tree.checked_terms.Lvalue.{Lvalue, Lvalue-F, fold-roll-Lvalue, roll-Lvalue, map-Lvalue, ind-Lvalue}
use Rattle.c_layout.specs.declared.checked_tree.checked_terms.CheckedTerm.{CheckedTerm, CheckedTerm-F, fold-roll-CheckedTerm, roll-CheckedTerm, map-CheckedTerm, ind-CheckedTerm}
use Rattle.syntactic_rules.specs.declared.term_places.Slot.{Slot}
use Rattle.syntactic_rules.specs.declared.term_places.Slot.TheVariants as slot
use Rattle.syntactic_rules.specs.TermPlaces.{InSlot, OfForm, term_places, lvalue_places}
use Rattle.syntactic_rules.specs.TermPlaces as places
use Rattle.syntactic_rules.specs.Slots.{inner_slot, converted_slot, assigned, sized}
use Rattle.analysis_determined.proofs.syntactic_pairs.TreePlaces.{places_of_lvalue, places_of_lvalue_form, places_of_term, places_of_form, places_of_terms}

-- ---- the tree of an expression, by its steps

abbrev sizeof_tree : ℕ → Option (Box TermTree) → Bool → FormTree
sizeof_tree value None is_pointer = tree.SizeofType value is_pointer
sizeof_tree value (Some e) is_pointer = tree.Sizeof value e.value is_pointer

abbrev lvalue_form_step : LvalueForm-F LvalueFormTree FormTree TermTree LvalueTree → LvalueFormTree
lvalue_form_step (LvalueForm-F.Object object) = tree.Object object
lvalue_form_step (LvalueForm-F.Literal index) = tree.Literal index
lvalue_form_step (LvalueForm-F.Target pointer) = tree.Target pointer.value
lvalue_form_step (LvalueForm-F.Member whole offset) = tree.Member whole.value offset
lvalue_form_step (LvalueForm-F.Copied target source) = tree.Copied target.value source.value
lvalue_form_step (LvalueForm-F.Then first last) = tree.Then first.value last.value

abbrev form_step : TermForm-F LvalueFormTree FormTree TermTree LvalueTree → FormTree
form_step (TermForm-F.Number n) = tree.Number n
form_step (TermForm-F.Sizeof value operand is_pointer) = sizeof_tree value operand is_pointer
form_step (TermForm-F.Load l) = tree.Load l.value
form_step (TermForm-F.AddressOf l) = tree.AddressOf l.value
form_step (TermForm-F.Decay l) = tree.Decay l.value
form_step (TermForm-F.Convert kind e) = tree.Convert kind e.value
form_step (TermForm-F.Discard e) = tree.Discard e.value
form_step (TermForm-F.Plus e) = tree.Plus e.value
form_step (TermForm-F.Minus e) = tree.Minus e.value
form_step (TermForm-F.Complement e) = tree.Complement e.value
form_step (TermForm-F.Not e) = tree.Not e.value
form_step (TermForm-F.Integer op a b) = tree.Integer op a.value b.value
form_step (TermForm-F.Shift down size a b) = tree.Shift down size a.value b.value
form_step (TermForm-F.Difference size a b) = tree.Difference size a.value b.value
form_step (TermForm-F.Compare op a b) = tree.Compare op a.value b.value
form_step (TermForm-F.Logical op a b) = tree.Logical op a.value b.value
form_step (TermForm-F.Conditional c a b) = tree.Conditional c.value a.value b.value
form_step (TermForm-F.Comma a b) = tree.Comma a.value b.value
form_step (TermForm-F.Assign target e) = tree.Assign target.value e.value
form_step (TermForm-F.Compound op ctype target e) = tree.Compound op (view ctype) target.value e.value
form_step (TermForm-F.CompoundShift down size target e) = tree.CompoundShift down size target.value e.value
form_step (TermForm-F.Step op time ctype l) = tree.Step op time (view ctype) l.value
form_step (TermForm-F.StepPointer op time size l) = tree.StepPointer op time size l.value
form_step (TermForm-F.Struct l) = tree.Struct l.value
form_step (TermForm-F.Call function arguments used) = tree.Call function (term_trees arguments.items) used
form_step (TermForm-F.Library function arguments allocated) = tree.Library function (term_trees arguments.items) (option_map view allocated)

abbrev term_step : CheckedTerm-F LvalueFormTree FormTree TermTree LvalueTree → TermTree
term_step e = tree.Typed e.place (view e.ctype) e.parens e.constant e.form

abbrev lvalue_step : Lvalue-F LvalueFormTree FormTree TermTree LvalueTree → LvalueTree
lvalue_step l = tree.Designates l.place (view l.ctype) l.parens l.form

abbrev lvalue_form_tree : LvalueForm → LvalueFormTree
lvalue_form_tree = fold-LvalueForm LvalueFormTree FormTree TermTree LvalueTree lvalue_form_step form_step term_step lvalue_step

abbrev form_tree : TermForm → FormTree
form_tree = fold-TermForm LvalueFormTree FormTree TermTree LvalueTree lvalue_form_step form_step term_step lvalue_step

abbrev lvalue_form_places : LvalueForm → List Diag
lvalue_form_places = fold-LvalueForm (List Diag) OfForm InSlot (List Diag) places.lvalue_form_step places.form_step places.term_step places.lvalue_step

abbrev form_places : TermForm → OfForm
form_places = fold-TermForm (List Diag) OfForm InSlot (List Diag) places.lvalue_form_step places.form_step places.term_step places.lvalue_step

-- ---- what is to be shown of each part

abbrev SameLvalueForm : LvalueForm → Type 0
SameLvalueForm f = lvalue_form_places f ≡ places_of_lvalue_form (lvalue_form_tree f)

abbrev SameForm : TermForm → Type 0
SameForm k = (at : Place) (parens : ℕ) (s : Slot) → form_places k at parens s ≡ places_of_form (form_tree k) at parens s

abbrev SameTerm : CheckedTerm → Type 0
SameTerm e = (s : Slot) → term_places e s ≡ places_of_term (term_tree e) s

abbrev SameLvalue : Lvalue → Type 0
SameLvalue l = lvalue_places l ≡ places_of_lvalue (lvalue_tree l)

-- ---- one layer

abbrev placed_lvalue_form : LvalueForm-F LvalueForm TermForm CheckedTerm Lvalue → LvalueForm-F (List Diag) OfForm InSlot (List Diag)
placed_lvalue_form = map-LvalueForm LvalueForm TermForm CheckedTerm Lvalue (List Diag) OfForm InSlot (List Diag) lvalue_form_places form_places term_places lvalue_places

abbrev treed_lvalue_form : LvalueForm-F LvalueForm TermForm CheckedTerm Lvalue → LvalueForm-F LvalueFormTree FormTree TermTree LvalueTree
treed_lvalue_form = map-LvalueForm LvalueForm TermForm CheckedTerm Lvalue LvalueFormTree FormTree TermTree LvalueTree lvalue_form_tree form_tree term_tree lvalue_tree

abbrev placed_form : TermForm-F LvalueForm TermForm CheckedTerm Lvalue → TermForm-F (List Diag) OfForm InSlot (List Diag)
placed_form = map-TermForm LvalueForm TermForm CheckedTerm Lvalue (List Diag) OfForm InSlot (List Diag) lvalue_form_places form_places term_places lvalue_places

abbrev treed_form : TermForm-F LvalueForm TermForm CheckedTerm Lvalue → TermForm-F LvalueFormTree FormTree TermTree LvalueTree
treed_form = map-TermForm LvalueForm TermForm CheckedTerm Lvalue LvalueFormTree FormTree TermTree LvalueTree lvalue_form_tree form_tree term_tree lvalue_tree

lvalue_form_rolled : (z : LvalueForm-F LvalueForm TermForm CheckedTerm Lvalue) → places.lvalue_form_step (placed_lvalue_form z) ≡ places_of_lvalue_form (lvalue_form_step (treed_lvalue_form z)) → SameLvalueForm (roll-LvalueForm z)
lvalue_form_rolled z h =
    fold-roll-LvalueForm (List Diag) OfForm InSlot (List Diag) places.lvalue_form_step places.form_step places.term_step places.lvalue_step z
    ∙ (h ∙ ap places_of_lvalue_form (sym (fold-roll-LvalueForm LvalueFormTree FormTree TermTree LvalueTree lvalue_form_step form_step term_step lvalue_step z)))

form_rolled : (z : TermForm-F LvalueForm TermForm CheckedTerm Lvalue) → ((at : Place) (parens : ℕ) (s : Slot) → places.form_step (placed_form z) at parens s ≡ places_of_form (form_step (treed_form z)) at parens s) → SameForm (roll-TermForm z)
form_rolled z h at parens s =
    ap (λ (f : OfForm). f at parens s) (fold-roll-TermForm (List Diag) OfForm InSlot (List Diag) places.lvalue_form_step places.form_step places.term_step places.lvalue_step z)
    ∙ (h at parens s ∙ ap (λ (t : FormTree). places_of_form t at parens s) (sym (fold-roll-TermForm LvalueFormTree FormTree TermTree LvalueTree lvalue_form_step form_step term_step lvalue_step z)))

term_rolled : (z : CheckedTerm-F LvalueForm TermForm CheckedTerm Lvalue) → ((s : Slot) → form_places z.form z.place z.parens s ≡ places_of_form (form_tree z.form) z.place z.parens s) → SameTerm (roll-CheckedTerm z)
term_rolled z h s =
    ap (λ (f : InSlot). f s) (fold-roll-CheckedTerm (List Diag) OfForm InSlot (List Diag) places.lvalue_form_step places.form_step places.term_step places.lvalue_step z)
    ∙ (h s ∙ ap (λ (t : TermTree). places_of_term t s) (sym (fold-roll-CheckedTerm LvalueFormTree FormTree TermTree LvalueTree lvalue_form_step form_step term_step lvalue_step z)))

lvalue_rolled : (z : Lvalue-F LvalueForm TermForm CheckedTerm Lvalue) → lvalue_form_places z.form ≡ places_of_lvalue_form (lvalue_form_tree z.form) → SameLvalue (roll-Lvalue z)
lvalue_rolled z h =
    fold-roll-Lvalue (List Diag) OfForm InSlot (List Diag) places.lvalue_form_step places.form_step places.term_step places.lvalue_step z
    ∙ (h ∙ ap places_of_lvalue (sym (fold-roll-Lvalue LvalueFormTree FormTree TermTree LvalueTree lvalue_form_step form_step term_step lvalue_step z)))

-- ---- a part is alike where the parts in it are

module _ {S S' S'' S3 : Type 0} (p : S → LvalueForm) (p' : S' → TermForm) (p'' : S'' → CheckedTerm) (p3 : S3 → Lvalue)
    (h : (e : S) → SameLvalueForm (p e)) (h' : (e : S') → SameForm (p' e)) (h'' : (e : S'') → SameTerm (p'' e)) (h3 : (e : S3) → SameLvalue (p3 e)) where
  abbrev lvalue_form_of : LvalueForm-F S S' S'' S3 → LvalueForm-F LvalueForm TermForm CheckedTerm Lvalue
  lvalue_form_of = map-LvalueForm S S' S'' S3 LvalueForm TermForm CheckedTerm Lvalue p p' p'' p3

  abbrev form_of : TermForm-F S S' S'' S3 → TermForm-F LvalueForm TermForm CheckedTerm Lvalue
  form_of = map-TermForm S S' S'' S3 LvalueForm TermForm CheckedTerm Lvalue p p' p'' p3

  abbrev term_of : CheckedTerm-F S S' S'' S3 → CheckedTerm-F LvalueForm TermForm CheckedTerm Lvalue
  term_of = map-CheckedTerm S S' S'' S3 LvalueForm TermForm CheckedTerm Lvalue p p' p'' p3

  abbrev lvalue_of : Lvalue-F S S' S'' S3 → Lvalue-F LvalueForm TermForm CheckedTerm Lvalue
  lvalue_of = map-Lvalue S S' S'' S3 LvalueForm TermForm CheckedTerm Lvalue p p' p'' p3

  terms_alike : (xs : List S'') → flat_map places.outside (map term_places (map p'' xs)) ≡ places_of_terms (term_trees (map term_tree (map p'' xs)))
  terms_alike [] = refl
  terms_alike (x ∷ xs) = ap₂ (λ (a b : List Diag). a ++ b) (h'' x slot.Outside) (terms_alike xs)

  lvalue_form_alike : (y : LvalueForm-F S S' S'' S3) → places.lvalue_form_step (placed_lvalue_form (lvalue_form_of y)) ≡ places_of_lvalue_form (lvalue_form_step (treed_lvalue_form (lvalue_form_of y)))
  lvalue_form_alike (LvalueForm-F.Object object) = refl
  lvalue_form_alike (LvalueForm-F.Literal index) = refl
  lvalue_form_alike (LvalueForm-F.Target pointer) = h'' pointer.value slot.Outside
  lvalue_form_alike (LvalueForm-F.Member whole offset) = h3 whole.value
  lvalue_form_alike (LvalueForm-F.Copied target source) = ap₂ (λ (a b : List Diag). a ++ b) (h3 target.value) (h3 source.value)
  lvalue_form_alike (LvalueForm-F.Then first last) = ap₂ (λ (a b : List Diag). a ++ b) (h'' first.value slot.Outside) (h3 last.value)

  form_alike : (y : TermForm-F S S' S'' S3) (at : Place) (parens : ℕ) (s : Slot) → places.form_step (placed_form (form_of y)) at parens s ≡ places_of_form (form_step (treed_form (form_of y))) at parens s
  form_alike (TermForm-F.Number n) at parens s = refl
  form_alike (TermForm-F.Sizeof value None is_pointer) at parens s = refl
  form_alike (TermForm-F.Sizeof value (Some e) is_pointer) at parens s = ap (λ (d : List Diag). sized at is_pointer ++ d) (h'' e.value slot.Outside)
  form_alike (TermForm-F.Load l) at parens s = h3 l.value
  form_alike (TermForm-F.AddressOf l) at parens s = h3 l.value
  form_alike (TermForm-F.Decay l) at parens s = h3 l.value
  form_alike (TermForm-F.Convert kind e) at parens s = h'' e.value (converted_slot kind s)
  form_alike (TermForm-F.Discard e) at parens s = h'' e.value slot.Outside
  form_alike (TermForm-F.Plus e) at parens s = h'' e.value slot.Outside
  form_alike (TermForm-F.Minus e) at parens s = h'' e.value slot.Outside
  form_alike (TermForm-F.Complement e) at parens s = h'' e.value slot.Outside
  form_alike (TermForm-F.Not e) at parens s = h'' e.value slot.Outside
  form_alike (TermForm-F.Integer op a b) at parens s = ap₂ (λ (c d : List Diag). c ++ d) (h'' a.value slot.Outside) (h'' b.value slot.Outside)
  form_alike (TermForm-F.Shift down size a b) at parens s = ap₂ (λ (c d : List Diag). c ++ d) (h'' a.value slot.Outside) (h'' b.value slot.Outside)
  form_alike (TermForm-F.Difference size a b) at parens s = ap₂ (λ (c d : List Diag). c ++ d) (h'' a.value slot.Outside) (h'' b.value slot.Outside)
  form_alike (TermForm-F.Compare op a b) at parens s = ap₂ (λ (c d : List Diag). c ++ d) (h'' a.value slot.Outside) (h'' b.value slot.Outside)
  form_alike (TermForm-F.Logical op a b) at parens s = ap₂ (λ (c d : List Diag). c ++ d) (h'' a.value (slot.Needs 1)) (h'' b.value (slot.Needs 1))
  form_alike (TermForm-F.Conditional c a b) at parens s =
      ap₂ (λ (d e : List Diag). d ++ e) (h'' c.value (slot.Needs 1)) (ap₂ (λ (d e : List Diag). d ++ e) (h'' a.value (inner_slot s 0)) (h'' b.value (inner_slot s 1)))
  form_alike (TermForm-F.Comma a b) at parens s = ap₂ (λ (c d : List Diag). c ++ d) (h'' a.value slot.Outside) (h'' b.value (inner_slot s 0))
  form_alike (TermForm-F.Assign target e) at parens s = ap₂ (λ (c d : List Diag). assigned at parens s ++ (c ++ d)) (h3 target.value) (h'' e.value slot.Outside)
  form_alike (TermForm-F.Compound op ctype target e) at parens s = ap₂ (λ (c d : List Diag). c ++ d) (h3 target.value) (h'' e.value slot.Outside)
  form_alike (TermForm-F.CompoundShift down size target e) at parens s = ap₂ (λ (c d : List Diag). c ++ d) (h3 target.value) (h'' e.value slot.Outside)
  form_alike (TermForm-F.Step op time ctype l) at parens s = h3 l.value
  form_alike (TermForm-F.StepPointer op time size l) at parens s = h3 l.value
  form_alike (TermForm-F.Struct l) at parens s = h3 l.value
  form_alike (TermForm-F.Call function arguments used) at parens s = terms_alike arguments.items
  form_alike (TermForm-F.Library function arguments allocated) at parens s = terms_alike arguments.items

  lvalue_form_case : (y : LvalueForm-F S S' S'' S3) → SameLvalueForm (roll-LvalueForm (lvalue_form_of y))
  lvalue_form_case y = lvalue_form_rolled (lvalue_form_of y) (lvalue_form_alike y)

  form_case : (y : TermForm-F S S' S'' S3) → SameForm (roll-TermForm (form_of y))
  form_case y = form_rolled (form_of y) (form_alike y)

  term_case : (y : CheckedTerm-F S S' S'' S3) → SameTerm (roll-CheckedTerm (term_of y))
  term_case y = term_rolled (term_of y) (λ s. h' y.form y.place y.parens s)

  lvalue_case : (y : Lvalue-F S S' S'' S3) → SameLvalue (roll-Lvalue (lvalue_of y))
  lvalue_case y = lvalue_rolled (lvalue_of y) (h y.form)

pub same_term : (e : CheckedTerm) → SameTerm e
same_term = ind-CheckedTerm SameLvalueForm SameForm SameTerm SameLvalue
    (λ x y is. subst (λ z. SameLvalueForm (roll-LvalueForm z)) is (lvalue_form_case (λ e. e.0) (λ e. e.0) (λ e. e.0) (λ e. e.0) (λ e. e.1) (λ e. e.1) (λ e. e.1) (λ e. e.1) y))
    (λ x y is. subst (λ z. SameForm (roll-TermForm z)) is (form_case (λ e. e.0) (λ e. e.0) (λ e. e.0) (λ e. e.0) (λ e. e.1) (λ e. e.1) (λ e. e.1) (λ e. e.1) y))
    (λ x y is. subst (λ z. SameTerm (roll-CheckedTerm z)) is (term_case (λ e. e.0) (λ e. e.0) (λ e. e.0) (λ e. e.0) (λ e. e.1) (λ e. e.1) (λ e. e.1) (λ e. e.1) y))
    (λ x y is. subst (λ z. SameLvalue (roll-Lvalue z)) is (lvalue_case (λ e. e.0) (λ e. e.0) (λ e. e.0) (λ e. e.0) (λ e. e.1) (λ e. e.1) (λ e. e.1) (λ e. e.1) y))

pub same_lvalue : (l : Lvalue) → SameLvalue l
same_lvalue = ind-Lvalue SameLvalueForm SameForm SameTerm SameLvalue
    (λ x y is. subst (λ z. SameLvalueForm (roll-LvalueForm z)) is (lvalue_form_case (λ e. e.0) (λ e. e.0) (λ e. e.0) (λ e. e.0) (λ e. e.1) (λ e. e.1) (λ e. e.1) (λ e. e.1) y))
    (λ x y is. subst (λ z. SameForm (roll-TermForm z)) is (form_case (λ e. e.0) (λ e. e.0) (λ e. e.0) (λ e. e.0) (λ e. e.1) (λ e. e.1) (λ e. e.1) (λ e. e.1) y))
    (λ x y is. subst (λ z. SameTerm (roll-CheckedTerm z)) is (term_case (λ e. e.0) (λ e. e.0) (λ e. e.0) (λ e. e.0) (λ e. e.1) (λ e. e.1) (λ e. e.1) (λ e. e.1) y))
    (λ x y is. subst (λ z. SameLvalue (roll-Lvalue z)) is (lvalue_case (λ e. e.0) (λ e. e.0) (λ e. e.0) (λ e. e.0) (λ e. e.1) (λ e. e.1) (λ e. e.1) (λ e. e.1) y))

pub same_terms : (xs : List CheckedTerm) → places.terms_places xs ≡ places_of_terms (term_trees (map term_tree xs))
same_terms [] = refl
same_terms (x ∷ xs) = ap₂ (λ (a b : List Diag). a ++ b) (same_term x slot.Outside) (same_terms xs)
