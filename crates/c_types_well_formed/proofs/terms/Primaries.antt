-- Names, constants, literals and members are made.
use Rattle.std.proofs.Common.{◌≡◌, ◌<◌, ◌≤◌, ◌+◌, ◌*◌, ◌^◌, ℕ, List, [], ◌∷◌, ◌++◌, Option, Some, None, Ok, Err, slice_get, length, refl, ap, subst, sym, arith, mul-le-mul_left}
use Rattle.std.specs.Prelude.{ℤ, Bool, true, false, cond, ◌&&◌, is_none, is_some, nat_le, nat_lt, unwrap_or, option_map, option_and_then}
use Rattle.std.proofs.lemmas.Bool.{and_parts, leb-true, le-leb, ltb-true}
use Rattle.std.proofs.lemmas.List.{length-append}
use Rattle.std.proofs.lemmas.Option.{same_Some, slice_get-get_or}
use Rattle.cc_base.specs.IntegerTypes.{in_type}
use Rattle.cc_base.specs.declared.diagnostics.Place.{Place}
use Rattle.cc_base.specs.declared.int_types.IntType.{IntType}
use Rattle.c_layout.specs.Layout.{most_bytes}
use Rattle.c_layout.specs.Types.{Ty, Int, Array}
use Rattle.c_layout.specs.CheckedTrees as tree
use Rattle.c_layout.specs.CheckedTrees.{LvalueTree}
use Rattle.c_layout.specs.CheckedUnits.{UnitView, LocalView, LiteralView}
use Rattle.c_layout.specs.StructViews.{FieldView, StructView}
use Rattle.c_layout.specs.declared.checked_tree.checked_terms.ObjectRef.TheVariants as object
use Rattle.c_layout.specs.declared.data_model.Model.{Model}
use Rattle.c_layout.specs.declared.library_functions.LibFn.{LibFn}
use Rattle.c_layout.specs.declared.syntax_tree.expressions.Constant.{Constant}
use Rattle.c_types_rules.specs.Rules.TypeSizes.{array_size}
use Rattle.c_types_rules.specs.declared.rules.integer_kinds.Rank.TheVariants as rank
use Rattle.c_types_scopes.specs.Known.{Known, size_of}
use Rattle.c_types_scopes.specs.Refusals.{Ruled, undeclared}
use Rattle.c_types_scopes.specs.DeclaredTypes.{ObjectView}
use Rattle.c_types_scopes.specs.Names as scopes
use Rattle.c_types_scopes.specs.Names.{known_in}
use Rattle.c_types_scopes.specs.ScopeTables as table
use Rattle.c_types_scopes.specs.StructTables as structs
use Rattle.c_types_scopes.specs.StructTables.{MemberView}
use Rattle.c_types_scopes.specs.States.{State, is_evaluated, with_literal}
use Rattle.c_types_scopes.specs.declared.meanings.Meaning.{Meaning}
use Rattle.c_types_scopes.specs.declared.meanings.Meaning.TheVariants as meaning
use Rattle.c_types_operands.specs.Arithmetic.{int_kind}
use Rattle.c_types_operands.specs.Operands.{OperandForm, AsValue, AsLvalue, OperandView, lvalue_type}
use Rattle.c_types_primary.specs.Members as members
use Rattle.c_types_primary.specs.Primaries as primaries
use Rattle.c_types_primary.specs.Primaries.{designated, fixed_number, meaning_of, no_number}
use Rattle.source_preservation.specs.Checks.LookedTerms.{has_tests}
use Rattle.c_types_well_formed.specs.WellFormed.KnownTypes.{HasTypes, IsMeaning}
use Rattle.c_types_well_formed.specs.WellFormed.MadeTerms.{IsMadePlace, IsMadeForm, IsMadeOperand, Makes}
use Rattle.c_types_well_formed.specs.WellFormed.ModelTypes.{IsKindOf, IsTypeOf, Each}
use Rattle.c_types_well_formed.specs.WellFormed.ProperStores.{IsShortLiteral}
use Rattle.c_types_well_formed.specs.WellFormed.ProperTrees.{IsProperConstant, IsProperLiteral}
use Rattle.c_types_well_formed.specs.WellFormed.TypingLaws.{Keeps}
use Rattle.c_types_well_formed.specs.WellFormed.UnitParts.{IsPartOf}
use Rattle.c_types_well_formed.proofs.terms.Parts.{HoldsIf, there_if, kind_is, in_model, each_more}

-- a type of the model of typing is one of the unit's
pub in_unit : (s : State) (u : UnitView) (t : Ty) → IsPartOf s u → IsTypeOf s.known.numbers t → IsTypeOf u.model t
in_unit s u t p h = in_model s.known.numbers u.model t (sym p.model) h

-- ---- numbers

no_tests : (u : UnitView) (at : Place) (t : Ty) (c : Option ℤ) (n : ℤ) (is_test : Bool) → has_tests u is_test (tree.Typed at t 0 c (tree.Number n)) ≡ true
no_tests u at t c n true = refl
no_tests u at t c n false = refl

pub number_made : (u : UnitView) (at : Place) (kind : IntType) (n : ℤ) → IsKindOf u.model kind → in_type kind n ≡ true → IsMadeOperand u (fixed_number at (Int kind) n)
number_made u at kind n is fits = record {
  well_typed = fits;
  typed = is;
  bare = refl;
  constant = λ k e. record { integer = kind; typed = refl; number = e; fits = subst (λ x. in_type kind x ≡ true) (same_Some n k e) fits };
  null = λ h. absurd (cc);
  tests = λ h is_test. no_tests u at (Int kind) (Some n) n is_test;
}

pub constant_made : (s : State) (u : UnitView) (at : Place) (c : Constant) → IsPartOf s u → IsProperConstant s.known.numbers c → IsMadeOperand u (primaries.constant at c)
constant_made s u at c p h = number_made u at c.kind (primaries.constant_value c) (in_unit s u (Int c.kind) p h.kind) h.fits

-- ---- names

static_made : (u : UnitView) (at : Place) (t : Ty) (e : Option ℕ) (number : Option ℕ) (b : Bool) → ((n : ℕ) → number ≡ Some n → is_some (slice_get u.objects n) ≡ true) → IsTypeOf u.model t → b ≡ true
    → Makes u (cond (is_none number && b) (undeclared at) (Ok (designated at t (tree.Object (object.Static (unwrap_or number no_number))) e)))
static_made u at t e (Some n) b there typed h = record { well_typed = there n refl; typed = typed }
static_made u at t e None true there typed h = tt
static_made u at t e None false there typed h = absurd (cc)

static_by_made : (s : State) (u : UnitView) (at : Place) (declared : ℕ) (o : Option ObjectView) → HasTypes s → is_evaluated s ≡ true → IsPartOf s u → slice_get s.objects declared ≡ o → Makes u (primaries.static_by s at o)
static_by_made s u at declared None h ev p is = tt
static_by_made s u at declared (Some o) h ev p is = static_made u at o.declared.ctype o.declared.enumeration o.number (is_evaluated s) (λ n e. p.objects declared o n is e) (in_unit s u o.declared.ctype p (h.objects declared o is)) ev

local_by_made : (s : State) (u : UnitView) (at : Place) (number : ℕ) (o : Option LocalView) → HasTypes s → IsPartOf s u → slice_get s.body.locals number ≡ o → Makes u (primaries.local_by s at number o)
local_by_made s u at number None h p is = tt
local_by_made s u at number (Some o) h p is = record { well_typed = refl; typed = in_unit s u o.ctype p (h.locals number o is) }

not_declared_made : (u : UnitView) (at : Place) (f : Option LibFn) → Makes u (primaries.not_declared at f)
not_declared_made u at (Some f) = tt
not_declared_made u at None = tt

named_made : (s : State) (u : UnitView) (at : Place) (text : List ℕ) (o : Option Meaning) → HasTypes s → is_evaluated s ≡ true → IsPartOf s u → HoldsIf (IsMeaning s.known) o → Makes u (primaries.named s at text o)
named_made s u at text (Some (meaning.Static declared)) h ev p m = static_by_made s u at declared (slice_get s.objects declared) h ev p refl
named_made s u at text (Some (meaning.Local number)) h ev p m = local_by_made s u at number (slice_get s.body.locals number) h p refl
named_made s u at text (Some (meaning.Enumerator n)) h ev p m = number_made u at (int_kind s.known) n (in_unit s u (Int (int_kind s.known)) p (kind_is s.known.numbers rank.Int _)) (m n refl)
named_made s u at text (Some (meaning.Function declared)) h ev p m = tt
named_made s u at text (Some (meaning.Typedef declared)) h ev p m = tt
named_made s u at text None h ev p m = not_declared_made u at (primaries.library_named text)

numbered_meaning : (P : Meaning → Type 0) (ms : List Meaning) (o : Option ℕ) → Each P ms → HoldsIf P (scopes.meaning_of ms o)
numbered_meaning P ms None h = tt
numbered_meaning P ms (Some n) h = there_if P ms n h

meaning_holds : (s : State) (o : Option ℕ) → HasTypes s → HoldsIf (IsMeaning s.known) (primaries.meaning_by s o)
meaning_holds s None h = tt
meaning_holds s (Some n) h = numbered_meaning (IsMeaning s.known) s.scopes.meanings (table.found s.scopes.ordinary n) h.meanings

pub name_made : (s : State) (u : UnitView) (at : Place) (text : List ℕ) → HasTypes s → is_evaluated s ≡ true → IsPartOf s u → Makes u (primaries.name s at text)
name_made s u at text h ev p = named_made s u at text (meaning_of s text) h ev p (meaning_holds s (known_in s.scopes.names text) h)

-- ---- literals

more_parts : (s : State) (x : LiteralView) (u : UnitView) → IsPartOf (record s { literals = s.literals ++ x ∷ [] }) u → IsPartOf s u
more_parts s x u p = record {
  model = p.model;
  objects = p.objects;
  literals = let few = leb-true _ _ p.literals in let long = length-append s.literals (x ∷ []) in le-leb _ _ (omega (arith, few, long));
  functions = p.functions;
}

literal_parts : (s : State) (x : LiteralView) (b : Bool) (u : UnitView) → IsPartOf (cond b (record s { literals = s.literals ++ x ∷ [] }) s) u → IsPartOf s u
literal_parts s x true u p = more_parts s x u p
literal_parts s x false u p = p

more_literals : (s : State) (x : LiteralView) → HasTypes s → IsShortLiteral x → Keeps s (record s { literals = s.literals ++ x ∷ [] })
more_literals s x h short = record {
  model = refl;
  unevaluated = refl;
  types = record { proper = h.proper; objects = h.objects; locals = h.locals; statics = h.statics; typedefs = h.typedefs; literals = each_more (λ (l : LiteralView). IsShortLiteral l) s.literals x h.literals short; stores = h.stores; results = h.results; parameters = h.parameters; fields = h.fields; meanings = h.meanings };
  parts = more_parts s x;
}

literal_keeps : (s : State) (x : LiteralView) (b : Bool) → HasTypes s → IsShortLiteral x → Keeps s (cond b (record s { literals = s.literals ++ x ∷ [] }) s)
literal_keeps s x true h short = more_literals s x h short
literal_keeps s x false h short = record { model = refl; unevaluated = refl; types = h; parts = λ u p. p }

there_from : (xs : List LiteralView) (n : ℕ) (x : LiteralView) → n < length xs → is_some (slice_get xs n) ≡ true
there_from xs n x h = ap is_some (slice_get-get_or xs n x h)

literal_there : (s : State) (x : LiteralView) (u : UnitView) (b : Bool) → b ≡ true → IsPartOf (cond b (record s { literals = s.literals ++ x ∷ [] }) s) u → is_some (slice_get u.literals (cond b (length s.literals) 4294967295)) ≡ true
literal_there s x u true h p =
    let few = leb-true _ _ p.literals in let long = length-append s.literals (x ∷ []) in
    there_from u.literals (length s.literals) x (omega (arith, few, long))
literal_there s x u false h p = absurd (cc)

pub literal_made : (s : State) (at : Place) (bytes : List ℕ) (u : UnitView) → HasTypes s → is_evaluated s ≡ true → IsPartOf (with_literal s at bytes) u → IsMadeOperand u (primaries.literal_operand s at bytes)
literal_made s at bytes u h ev p = record {
  well_typed = literal_there s (record { at = at; bytes = bytes }) u (is_evaluated s) ev p;
  typed = in_unit s u (Int (primaries.char_kind s.known)) (literal_parts s (record { at = at; bytes = bytes }) (is_evaluated s) u p) (kind_is s.known.numbers rank.Char _);
}

-- an array with a size has few elements
few_elements : (k : Known) (kind : IntType) (n : ℕ) → is_some (size_of k (Array (Int kind) n)) ≡ true → n ≤ 2 ^ 30
few_elements k kind n h = by_kind (nat_lt 0 kind.bytes && nat_le kind.bytes 8) refl h
  where
    times : (b : ℕ) → 0 < b → n * 1 ≤ n * b
    times b some = mul-le-mul_left n some

    by_room : (c : Bool) → (nat_lt 0 n && nat_le (n * kind.bytes) most_bytes) ≡ c → 0 < kind.bytes → is_some (cond c (Some (n * kind.bytes)) None) ≡ true → n ≤ 2 ^ 30
    by_room true is some e =
        let least = leb-true (n * kind.bytes) most_bytes (and_parts (nat_lt 0 n) (nat_le (n * kind.bytes) most_bytes) is).1 in
        let more = times kind.bytes some in
        omega (arith, least, more)
    by_room false is some e = absurd (cc)

    by_kind : (c : Bool) → (nat_lt 0 kind.bytes && nat_le kind.bytes 8) ≡ c → is_some (option_and_then (array_size n) (cond c (Some kind.bytes) None)) ≡ true → n ≤ 2 ^ 30
    by_kind true is e = by_room (nat_lt 0 n && nat_le (n * kind.bytes) most_bytes) refl (ltb-true 0 kind.bytes (and_parts (nat_lt 0 kind.bytes) (nat_le kind.bytes 8) is).0) e
    by_kind false is e = absurd (cc)

pub literal_step : (s : State) (at : Place) (bytes : List ℕ) → HasTypes s → IsProperLiteral bytes → is_some (size_of s.known (primaries.literal_type s.known bytes)) ≡ true → Keeps s (with_literal s at bytes)
literal_step s at bytes h plain sized =
    literal_keeps s (record { at = at; bytes = bytes }) (is_evaluated s) h (record { bytes = plain; short = few_elements s.known (primaries.char_kind s.known) (length bytes + 1) sized })

-- ---- members

abbrev IsMemberOf : Model → MemberView → Type 0
IsMemberOf m x = IsTypeOf m x.field.ctype

field_holds : (m : Model) (enumeration : Option ℕ) (o : Option FieldView) → HoldsIf (λ (f : FieldView). IsTypeOf m f.ctype) o → HoldsIf (IsMemberOf m) (option_map (structs.with_enumeration enumeration) o)
field_holds m enumeration None h = tt
field_holds m enumeration (Some f) h = h

in_struct_holds : (m : Model) (e : _) (o : Option StructView) → HoldsIf (λ (v : StructView). Each (λ (f : FieldView). IsTypeOf m f.ctype) v.fields) o → HoldsIf (IsMemberOf m) (structs.field_of e o)
in_struct_holds m e None h = tt
in_struct_holds m e (Some v) h = field_holds m e.enumeration (slice_get v.fields e.field) (there_if (λ (f : FieldView). IsTypeOf m f.ctype) v.fields e.field h)

entry_holds : (s : State) (owner : ℕ) (e : _) → HasTypes s → HoldsIf (IsMemberOf s.known.numbers) (structs.member_by s.types owner e)
entry_holds s owner None h = tt
entry_holds s owner (Some e) h = in_struct_holds s.known.numbers e (slice_get s.types.structs owner) (there_if (λ (v : StructView). Each (λ (f : FieldView). IsTypeOf s.known.numbers f.ctype) v.fields) s.types.structs owner h.fields)

module _ (s : State) (u : UnitView) (h : HasTypes s) (p : IsPartOf s u) where
  member_found_made : (at : Place) (whole : LvalueTree) (o : Option MemberView) → IsMadePlace u whole → HoldsIf (IsMemberOf s.known.numbers) o → Makes u (members.member_found at whole o)
  member_found_made at whole None made g = tt
  member_found_made at whole (Some m) made g = record { well_typed = made.well_typed; typed = in_unit s u m.field.ctype p g }

  member_known_made : (at : Place) (whole : LvalueTree) (owner : ℕ) (o : Option ℕ) → IsMadePlace u whole → Makes u (members.member_known s at whole owner o)
  member_known_made at whole owner None made = tt
  member_known_made at whole owner (Some name) made = member_found_made at whole (structs.member s.types owner name) made (entry_holds s owner (structs.entry_of s.types owner name) h)

  selected_made : (at : Place) (whole : LvalueTree) (text : List ℕ) (o : Option ℕ) → IsMadePlace u whole → Makes u (members.selected_of s at whole text o)
  selected_made at whole text None made = tt
  selected_made at whole text (Some owner) made = member_known_made at whole owner (known_in s.scopes.names text) made

  member_by_made : (at : Place) (f : OperandForm) (text : List ℕ) → IsMadeForm u f → Makes u (members.member_by s at f text)
  member_by_made at (AsLvalue whole) text made = selected_made at whole text (members.complete_struct s.types (lvalue_type whole)) made
  member_by_made at (AsValue e) text made = tt

  pub member_made : (at : Place) (x : OperandView) (text : List ℕ) → IsMadeOperand u x → Makes u (members.member s at x text)
  member_made at x text made = member_by_made at x.form text made

  pub arrow_made : (at : Place) (r : Ruled OperandView) (text : List ℕ) → Makes u r → Makes u (members.at_target s at r text)
  arrow_made at (Ok x) text made = member_made at x text made
  arrow_made at (Err f) text made = tt
