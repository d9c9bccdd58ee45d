-- Terms that have room behind a temporary more have it without that one too.
use Rattle.std.proofs.Common.{◌≡◌, ◌≤◌, ℕ, ◌+◌, ◌-◌, ◌^◌, Bool, true, false, ◌&&◌, not, refl, arith}
use Rattle.std.proofs.lemmas.Bool.{leb-true, le-leb}
use Rattle.c_layout.specs.CheckedTrees as tree
use Rattle.c_layout.specs.CheckedTrees.{TermTree, TermTrees, Typed, LvalueTree, Designates}
use Rattle.c_layout.specs.CheckedUnits.{FunctionView, UnitView}
use Rattle.lower_templates.specs.Worklist.TermKinds.{lvalue_type}
use Rattle.lower_preconditions.specs.Units.RegularTerms.{has_room, are_behind, is_struct, is_regular_term, is_regular_place, are_regular_terms}
use Rattle.simulation_layout.proofs.function_checks.CountedLabels.{both_true}

and_true : (a b : Bool) → a ≡ true → b ≡ true → (a && b) ≡ true
and_true true true x y = refl
and_true true false x y = absurd (cc)
and_true false b x y = absurd (cc)

and_map : (a b c e : Bool) → (a ≡ true → c ≡ true) → (b ≡ true → e ≡ true) → (a && b) ≡ true → (c && e) ≡ true
and_map a b c e f g is = let x = both_true a b is in and_true c e (f x.0) (g x.1)

le_less : (d n k : ℕ) → (d + 1) + n ≤ k → d + n ≤ k
le_less d n k le = omega (arith, le)

room_less : (d n : ℕ) → has_room ((d + 1) + n) ≡ true → has_room (d + n) ≡ true
room_less d n is = le-leb (d + n) (2 ^ 32 - 1) (le_less d n (2 ^ 32 - 1) (leb-true ((d + 1) + n) (2 ^ 32 - 1) is))

behind_map : (d : ℕ) (a b c e : Bool) → (a ≡ true → c ≡ true) → (b ≡ true → e ≡ true) → are_behind (d + 1) a b ≡ true → are_behind d c e ≡ true
behind_map d a b c e f g is = and_map a (has_room ((d + 1) + 1) && b) c (has_room (d + 1) && e) f (and_map (has_room ((d + 1) + 1)) b (has_room (d + 1)) e (room_less d 1) g) is

module _ (u : UnitView) (f : FunctionView) where
  -- of each of two operands
  two : (d : ℕ) (a b : TermTree) → (is_regular_term u f true (d + 1) a ≡ true → is_regular_term u f true d a ≡ true) → (is_regular_term u f true ((d + 1) + 1) b ≡ true → is_regular_term u f true (d + 1) b ≡ true)
      → are_behind (d + 1) (is_regular_term u f true (d + 1) a) (is_regular_term u f true ((d + 1) + 1) b) ≡ true → are_behind d (is_regular_term u f true d a) (is_regular_term u f true (d + 1) b) ≡ true
  two d a b first second is = behind_map d (is_regular_term u f true (d + 1) a) (is_regular_term u f true ((d + 1) + 1) b) (is_regular_term u f true d a) (is_regular_term u f true (d + 1) b) first second is

  place_and_term : (d : ℕ) (l : LvalueTree) (a : TermTree) → (is_regular_place u f (d + 1) l ≡ true → is_regular_place u f d l ≡ true) → (is_regular_term u f true ((d + 1) + 1) a ≡ true → is_regular_term u f true (d + 1) a ≡ true)
      → are_behind (d + 1) (is_regular_place u f (d + 1) l) (is_regular_term u f true ((d + 1) + 1) a) ≡ true → are_behind d (is_regular_place u f d l) (is_regular_term u f true (d + 1) a) ≡ true
  place_and_term d l a first second is = behind_map d (is_regular_place u f (d + 1) l) (is_regular_term u f true ((d + 1) + 1) a) (is_regular_place u f d l) (is_regular_term u f true (d + 1) a) first second is

  mutual
    pub shallow_term : (used : Bool) (d : ℕ) (e : TermTree) → is_regular_term u f used (d + 1) e ≡ true → is_regular_term u f used d e ≡ true
    shallow_term used d (Typed at t parens constant (tree.Number n)) is = refl
    shallow_term used d (Typed at t parens constant (tree.SizeofType n is_pointer)) is = refl
    shallow_term used d (Typed at t parens constant (tree.Sizeof n operand is_pointer)) is = refl
    shallow_term used d (Typed at t parens constant (tree.Load l)) is = shallow_place d l is
    shallow_term used d (Typed at t parens constant (tree.AddressOf l)) is = shallow_place d l is
    shallow_term used d (Typed at t parens constant (tree.Decay l)) is = shallow_place d l is
    shallow_term used d (Typed at t parens constant (tree.Convert kind a)) is = shallow_term true d a is
    shallow_term used d (Typed at t parens constant (tree.Discard a)) is = and_map (not used) (is_regular_term u f false (d + 1) a) (not used) (is_regular_term u f false d a) (λ x. x) (λ x. shallow_term false d a x) is
    shallow_term used d (Typed at t parens constant (tree.Plus a)) is = shallow_term true d a is
    shallow_term used d (Typed at t parens constant (tree.Minus a)) is = shallow_term true d a is
    shallow_term used d (Typed at t parens constant (tree.Complement a)) is = shallow_term true d a is
    shallow_term used d (Typed at t parens constant (tree.Not a)) is = shallow_term true d a is
    shallow_term used d (Typed at t parens constant (tree.Integer sign a b)) is = two d a b (λ x. shallow_term true d a x) (λ x. shallow_term true (d + 1) b x) is
    shallow_term used d (Typed at t parens constant (tree.Shift back size a b)) is = two d a b (λ x. shallow_term true d a x) (λ x. shallow_term true (d + 1) b x) is
    shallow_term used d (Typed at t parens constant (tree.Difference size a b)) is = two d a b (λ x. shallow_term true d a x) (λ x. shallow_term true (d + 1) b x) is
    shallow_term used d (Typed at t parens constant (tree.Compare sign a b)) is = two d a b (λ x. shallow_term true d a x) (λ x. shallow_term true (d + 1) b x) is
    shallow_term used d (Typed at t parens constant (tree.Logical sign a b)) is = and_map (is_regular_term u f true (d + 1) a) (is_regular_term u f true (d + 1) b) (is_regular_term u f true d a) (is_regular_term u f true d b) (λ x. shallow_term true d a x) (λ x. shallow_term true d b x) is
    shallow_term used d (Typed at t parens constant (tree.Conditional c a b)) is =
        and_map (is_regular_term u f true (d + 1) c) (is_regular_term u f used (d + 1) a && is_regular_term u f used (d + 1) b) (is_regular_term u f true d c) (is_regular_term u f used d a && is_regular_term u f used d b) (λ x. shallow_term true d c x)
        (λ y. and_map (is_regular_term u f used (d + 1) a) (is_regular_term u f used (d + 1) b) (is_regular_term u f used d a) (is_regular_term u f used d b) (λ x. shallow_term used d a x) (λ x. shallow_term used d b x) y) is
    shallow_term used d (Typed at t parens constant (tree.Comma a b)) is = and_map (is_regular_term u f false (d + 1) a) (is_regular_term u f used (d + 1) b) (is_regular_term u f false d a) (is_regular_term u f used d b) (λ x. shallow_term false d a x) (λ x. shallow_term used d b x) is
    shallow_term used d (Typed at t parens constant (tree.Assign l a)) is = place_and_term d l a (λ x. shallow_place d l x) (λ x. shallow_term true (d + 1) a x) is
    shallow_term used d (Typed at t parens constant (tree.Compound sign kind l a)) is =
        and_map (has_room ((d + 1) + 2)) (are_behind (d + 1) (is_regular_place u f (d + 1) l) (is_regular_term u f true ((d + 1) + 1) a)) (has_room (d + 2)) (are_behind d (is_regular_place u f d l) (is_regular_term u f true (d + 1) a)) (room_less d 2) (λ x. place_and_term d l a (λ y. shallow_place d l y) (λ y. shallow_term true (d + 1) a y) x) is
    shallow_term used d (Typed at t parens constant (tree.CompoundShift back size l a)) is =
        and_map (has_room ((d + 1) + 2)) (are_behind (d + 1) (is_regular_place u f (d + 1) l) (is_regular_term u f true ((d + 1) + 1) a)) (has_room (d + 2)) (are_behind d (is_regular_place u f d l) (is_regular_term u f true (d + 1) a)) (room_less d 2) (λ x. place_and_term d l a (λ y. shallow_place d l y) (λ y. shallow_term true (d + 1) a y) x) is
    shallow_term used d (Typed at t parens constant (tree.Step sign time kind l)) is = and_map (has_room ((d + 1) + 2)) (is_regular_place u f (d + 1) l) (has_room (d + 2)) (is_regular_place u f d l) (room_less d 2) (λ x. shallow_place d l x) is
    shallow_term used d (Typed at t parens constant (tree.StepPointer sign time size l)) is = and_map (has_room ((d + 1) + 2)) (is_regular_place u f (d + 1) l) (has_room (d + 2)) (is_regular_place u f d l) (room_less d 2) (λ x. shallow_place d l x) is
    shallow_term used d (Typed at t parens constant (tree.Struct l)) is = shallow_place d l is
    shallow_term used d (Typed at t parens constant (tree.Call function args is_used)) is = and_map (are_regular_terms u f (d + 1) args) _ (are_regular_terms u f d args) _ (λ x. shallow_terms d args x) (λ x. x) is
    shallow_term used d (Typed at t parens constant (tree.Library function args target)) is = and_map (are_regular_terms u f (d + 1) args) _ (are_regular_terms u f d args) _ (λ x. shallow_terms d args x) (λ x. x) is

    shallow_place : (d : ℕ) (l : LvalueTree) → is_regular_place u f (d + 1) l ≡ true → is_regular_place u f d l ≡ true
    shallow_place d (Designates at t parens (tree.Object o)) is = is
    shallow_place d (Designates at t parens (tree.Literal n)) is = is
    shallow_place d (Designates at t parens (tree.Target e)) is = shallow_term true d e is
    shallow_place d (Designates at t parens (tree.Member outer offset)) is = shallow_place d outer is
    shallow_place d (Designates at t parens (tree.Copied target source)) is =
        and_map (is_struct (lvalue_type target)) (are_behind (d + 1) (is_regular_place u f (d + 1) target) (is_regular_place u f ((d + 1) + 1) source)) (is_struct (lvalue_type target)) (are_behind d (is_regular_place u f d target) (is_regular_place u f (d + 1) source)) (λ x. x)
        (λ y. behind_map d (is_regular_place u f (d + 1) target) (is_regular_place u f ((d + 1) + 1) source) (is_regular_place u f d target) (is_regular_place u f (d + 1) source) (λ x. shallow_place d target x) (λ x. shallow_place (d + 1) source x) y) is
    shallow_place d (Designates at t parens (tree.Then left right)) is = and_map (is_regular_term u f false (d + 1) left) (is_regular_place u f (d + 1) right) (is_regular_term u f false d left) (is_regular_place u f d right) (λ x. shallow_term false d left x) (λ x. shallow_place d right x) is

    shallow_terms : (d : ℕ) (es : TermTrees) → are_regular_terms u f (d + 1) es ≡ true → are_regular_terms u f d es ≡ true
    shallow_terms d tree.End is = refl
    shallow_terms d (tree.More e rest) is = behind_map d (is_regular_term u f true (d + 1) e) (are_regular_terms u f ((d + 1) + 1) rest) (is_regular_term u f true d e) (are_regular_terms u f (d + 1) rest) (λ x. shallow_term true d e x) (λ x. shallow_terms (d + 1) rest x) is
