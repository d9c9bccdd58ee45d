-- Constants have types of the data model, which have their values.
use Rattle.std.proofs.Common.{◌≡◌, ◌⊎◌, inl, inr, ℕ, ◌+◌, ◌-◌, ◌^◌, ◌≤◌, ◌<◌, ◌==◌, ℤ, pos, negsuc, neg_ℤ, Bool, true, false, not, ◌&&◌, ◌||◌, cond, nat_le, nat_lt, List, Option, Some, None, refl, sym, subst, arith, ap, ◌∙◌}
use Rattle.std.specs.Option.{option_and_then, option_or}
use Rattle.std.proofs.lemmas.Bool.{ltb-true, leb-true, eqb-true}
use Rattle.std.proofs.lemmas.Int.{ints}
use Rattle.std.proofs.lemmas.Option.{option_and_then_some, same_Some}
use Rattle.cc_base.specs.IntegerTypes.{in_type}
use Rattle.cc_base.specs.declared.int_types.IntType.{IntType}
use Rattle.c_layout.specs.Models.{is_model, short_fits, int_fits, long_fits, long_long_fits}
use Rattle.c_layout.specs.declared.data_model.Model.{Model}
use Rattle.c_layout.specs.declared.syntax_tree.expressions.Constant.{Constant}
use Rattle.c_parser_tokens.specs.declared.integer_forms.Spelled.{Spelled}
use Rattle.c_parser_tokens.specs.CharacterCodes.{CharacterAt, first_character, inside, is_empty, code_constant, lone_constant, character_constant}
use Rattle.c_parser_tokens.specs.ConstantTypes.{bytes_of, greatest, fitting, is_listed, of_rank, type_of, with_type, integer_constant}
use Rattle.c_parser_tokens.specs.IntegerForms.{read_integer}
use Rattle.c_types_primary.specs.Primaries.{constant_value}
use Rattle.c_types_rules.specs.declared.rules.integer_kinds.Rank.{Rank}
use Rattle.c_types_rules.specs.declared.rules.integer_kinds.Rank.TheVariants as rank
use Rattle.domain_theorems.specs.Intervals.Kit.{in_type_between}
use Rattle.source_preservation.proofs.checks.Truths.{both_true, either_true, no_some}
use Rattle.c_layout.specs.ByteTexts.{is_byte, are_bytes}
use Rattle.c_types_well_formed.specs.WellFormed.ModelTypes.{IsKindOf}
use Rattle.c_types_well_formed.specs.WellFormed.ProperTrees.{IsProperConstant}
use Rattle.c_types_well_formed_units.proofs.trees.Characters.{character_byte, bytes_inside}

-- ---- the sizes of int, long and long long

pub data IsLarge : ℕ → Type 0 where
  two : IsLarge 2
  four : IsLarge 4
  eight : IsLarge 8

large_of : (n a b : ℕ) → IsLarge a → IsLarge b → (n == a || n == b) ≡ true → IsLarge n
large_of n a b h g is = elim (either_true (n == a) (n == b) is) [ inl e ↦ subst IsLarge (sym (eqb-true n a e)) h | inr e ↦ subst IsLarge (sym (eqb-true n b e)) g ]

pub record HasSizes (m : Model) : Type 0 where
  pub int : IsLarge m.int
  pub long : IsLarge m.long
  pub long_long : IsLarge m.long_long

pub sizes_of : (m : Model) → is_model m ≡ true → HasSizes m
sizes_of m h =
    let a = both_true (short_fits m.short) _ h in
    let b = both_true (int_fits m.int) _ a.1 in
    let c = both_true (long_fits m.long) _ b.1 in
    let d = both_true (long_long_fits m.long_long) _ c.1 in
    record { int = large_of m.int 2 4 two four b.0; long = large_of m.long 4 8 four eight c.0; long_long = subst IsLarge (sym (eqb-true m.long_long 8 d.0)) eight }

-- ---- integer constants

number_fits : (bytes : ℕ) (signed : Bool) (r n : ℕ) → IsLarge bytes → n ≤ greatest bytes signed → in_type (record { bytes = bytes; signed = signed; rank = r }) (pos n) ≡ true
number_fits _ true r n two h = in_type_between (record { bytes = 2; signed = true; rank = r }) (pos n) (omega (arith, ints)) (omega (arith, ints, h))
number_fits _ false r n two h = in_type_between (record { bytes = 2; signed = false; rank = r }) (pos n) (omega (arith, ints)) (omega (arith, ints, h))
number_fits _ true r n four h = in_type_between (record { bytes = 4; signed = true; rank = r }) (pos n) (omega (arith, ints)) (omega (arith, ints, h))
number_fits _ false r n four h = in_type_between (record { bytes = 4; signed = false; rank = r }) (pos n) (omega (arith, ints)) (omega (arith, ints, h))
number_fits _ true r n eight h = in_type_between (record { bytes = 8; signed = true; rank = r }) (pos n) (omega (arith, ints)) (omega (arith, ints, h))
number_fits _ false r n eight h = in_type_between (record { bytes = 8; signed = false; rank = r }) (pos n) (omega (arith, ints)) (omega (arith, ints, h))

-- a type of int, long or long long that has a number
pub record IsKindWith (m : Model) (n : ℕ) (kind : IntType) : Type 0 where
  pub known : IsKindOf m kind
  pub fits : in_type kind (pos n) ≡ true

fitted : (m : Model) (r n : ℕ) (signed : Bool) (kind : IntType) → IsLarge (bytes_of m r) → ((s : Bool) → IsKindOf m (record { bytes = bytes_of m r; signed = s; rank = r })) → fitting m r signed n ≡ Some kind → IsKindWith m n kind
fitted m r n signed kind large known is = by (nat_le n (greatest (bytes_of m r) signed)) refl is
  where
    own : IntType
    own = record { bytes = bytes_of m r; signed = signed; rank = r }

    by : (b : Bool) → nat_le n (greatest (bytes_of m r) signed) ≡ b → cond b (Some own) None ≡ Some kind → IsKindWith m n kind
    by true h e = subst (IsKindWith m n) (same_Some own kind e) (record { known = known signed; fits = number_fits (bytes_of m r) signed r n large (leb-true n (greatest (bytes_of m r) signed) h) })
    by false h e = no_some kind e

either_option : {A P : Type 0} (x y : Option A) (a : A) → (x ≡ Some a → P) → (y ≡ Some a → P) → option_or x y ≡ Some a → P
either_option None y a f g e = g e
either_option (Some x) y a f g e = f e

if_some : {A P : Type 0} (b : Bool) (x : Option A) (a : A) → (x ≡ Some a → P) → cond b x None ≡ Some a → P
if_some true x a f e = f e
if_some false x a f e = no_some a e

ranked : (m : Model) (c : Spelled) (r : ℕ) (kind : IntType) → IsLarge (bytes_of m r) → ((s : Bool) → IsKindOf m (record { bytes = bytes_of m r; signed = s; rank = r })) → of_rank m c r ≡ Some kind → IsKindWith m c.value kind
ranked m c r kind large known is =
    if_some (is_listed c.suffix.longs r) _ kind
    (either_option _ _ kind
    (if_some (not c.suffix.is_unsigned) (fitting m r true c.value) kind (fitted m r c.value true kind large known))
    (if_some (c.suffix.is_unsigned || not (c.base == 10)) (fitting m r false c.value) kind (fitted m r c.value false kind large known))) is

typed : (m : Model) (c : Spelled) (kind : IntType) → HasSizes m → type_of m c ≡ Some kind → IsKindWith m c.value kind
typed m c kind sizes is =
    either_option (of_rank m c 3) (option_or (of_rank m c 4) (of_rank m c 5)) kind (ranked m c 3 kind sizes.int (λ s. (rank.Int, refl)))
    (either_option (of_rank m c 4) (of_rank m c 5) kind (ranked m c 4 kind sizes.long (λ s. (rank.Long, refl))) (ranked m c 5 kind sizes.long_long (λ s. (rank.LongLong, refl)))) is

pub integer_proper : (m : Model) (s : List ℕ) (c : Constant) → is_model m ≡ true → integer_constant m s ≡ Some c → IsProperConstant m c
integer_proper m s c h is =
    option_and_then_some (λ x. option_and_then (λ kind. Some (with_type x kind)) (type_of m x)) (read_integer s) c is (λ x read e.
    option_and_then_some (λ kind. Some (with_type x kind)) (type_of m x) c e (λ kind found e1.
    let k = typed m x kind (sizes_of m h) found in
    subst (IsProperConstant m) (same_Some (with_type x kind) c e1) (record { kind = k.known; fits = k.fits })))

-- ---- character constants

code_fits : (bytes code : ℕ) (below : Bool) → IsLarge bytes → code < 256 → in_type (record { bytes = bytes; signed = true; rank = 3 }) (cond below (neg_ℤ (pos (cond below (256 - code) code))) (pos (cond below (256 - code) code))) ≡ true
code_fits _ code true two h = in_type_between (record { bytes = 2; signed = true; rank = 3 }) (neg_ℤ (pos (256 - code))) (omega (arith, ints)) (omega (arith, ints))
code_fits _ code false two h = in_type_between (record { bytes = 2; signed = true; rank = 3 }) (pos code) (omega (arith, ints)) (omega (arith, ints, h))
code_fits _ code true four h = in_type_between (record { bytes = 4; signed = true; rank = 3 }) (neg_ℤ (pos (256 - code))) (omega (arith, ints)) (omega (arith, ints))
code_fits _ code false four h = in_type_between (record { bytes = 4; signed = true; rank = 3 }) (pos code) (omega (arith, ints)) (omega (arith, ints, h))
code_fits _ code true eight h = in_type_between (record { bytes = 8; signed = true; rank = 3 }) (neg_ℤ (pos (256 - code))) (omega (arith, ints)) (omega (arith, ints))
code_fits _ code false eight h = in_type_between (record { bytes = 8; signed = true; rank = 3 }) (pos code) (omega (arith, ints)) (omega (arith, ints, h))

code_proper : (m : Model) (code : ℕ) → HasSizes m → is_byte code ≡ true → IsProperConstant m (code_constant m code)
code_proper m code sizes h = record { kind = (rank.Int, refl); fits = code_fits m.int code (m.char_signed && nat_lt 127 code) sizes.int (ltb-true code 256 h) }

pub character_proper : (m : Model) (s : List ℕ) (c : Constant) → is_model m ≡ true → are_bytes s ≡ true → character_constant m s ≡ Some c → IsProperConstant m c
character_proper m s c h g is =
    option_and_then_some (lone_constant m) (first_character (inside s)) c is (λ x found e.
    let b = character_byte (inside s) x (bytes_inside s g) found in
    if_some (is_empty x.rest) (Some (code_constant m x.code)) c (λ e1. subst (IsProperConstant m) (same_Some (code_constant m x.code) c e1) (code_proper m x.code (sizes_of m h) b.code)) e)
