-- Regular terms have room for what they take.
use Rattle.std.proofs.Common.{◌≡◌, ◌≤◌, ◌⊎◌, inl, inr, ℕ, suc, ◌+◌, ◌-◌, ◌^◌, Bool, true, false, ◌&&◌, nat_le, refl, arith}
use Rattle.std.proofs.lemmas.Bool.{leb-true}
use Rattle.c_layout.specs.CheckedTrees as tree
use Rattle.c_layout.specs.CheckedTrees.{TermTree, TermTrees, Typed, LvalueTree, Designates}
use Rattle.c_layout.specs.CheckedUnits.{FunctionView, UnitView}
use Rattle.lower_templates.specs.Worklist.TermKinds.{lvalue_type}
use Rattle.lower_preconditions.specs.Units.RegularTerms.{has_room, is_struct, is_regular_term, is_regular_place, are_regular_terms}
use Rattle.simulation_terms.specs.Worklists.Rooms.{larger, both_rooms, room, room_of_place, room_of_all}
use Rattle.simulation_layout.proofs.function_checks.CountedLabels.{both_true}
use Rattle.simulation_layout.proofs.function_checks.NamesThere.{Behind, behind}

-- so many temporaries have numbers
abbrev Fits : ℕ → Type 0
Fits n = n ≤ 2 ^ 32 - 1

fits : (n : ℕ) → has_room n ≡ true → Fits n
fits n e = leb-true n (2 ^ 32 - 1) e

alone : (d : ℕ) → Fits d → Fits (d + 0)
alone d le = omega (arith, le)

greater : (d m n k : ℕ) → d + m ≤ k → d + n ≤ k → d + (m + (n - m)) ≤ k
greater d m n k a b = omega (arith, a, b)

second : (d n k : ℕ) → (d + 1) + n ≤ k → d + suc n ≤ k
second d n k a = omega (arith, a)

both : (d m n : ℕ) → Fits (d + m) → Fits ((d + 1) + n) → Fits (d + both_rooms m n)
both d m n a b = greater d m (suc n) (2 ^ 32 - 1) a (second d n (2 ^ 32 - 1) b)

module _ (u : UnitView) (f : FunctionView) where
  mutual
    pub room_term : (used : Bool) (d : ℕ) (e : TermTree) → Fits d → is_regular_term u f used d e ≡ true → Fits (d + room e)
    room_term used d (Typed at t parens constant (tree.Number n)) le is = alone d le
    room_term used d (Typed at t parens constant (tree.SizeofType n is_pointer)) le is = alone d le
    room_term used d (Typed at t parens constant (tree.Sizeof n operand is_pointer)) le is = alone d le
    room_term used d (Typed at t parens constant (tree.Load l)) le is = room_place d l le is
    room_term used d (Typed at t parens constant (tree.AddressOf l)) le is = room_place d l le is
    room_term used d (Typed at t parens constant (tree.Decay l)) le is = room_place d l le is
    room_term used d (Typed at t parens constant (tree.Convert kind a)) le is = room_term true d a le is
    room_term used d (Typed at t parens constant (tree.Discard a)) le is = room_term false d a le (both_true _ (is_regular_term u f false d a) is).1
    room_term used d (Typed at t parens constant (tree.Plus a)) le is = room_term true d a le is
    room_term used d (Typed at t parens constant (tree.Minus a)) le is = room_term true d a le is
    room_term used d (Typed at t parens constant (tree.Complement a)) le is = room_term true d a le is
    room_term used d (Typed at t parens constant (tree.Not a)) le is = room_term true d a le is
    room_term used d (Typed at t parens constant (tree.Integer sign a b)) le is = let x = behind d (is_regular_term u f true d a) (is_regular_term u f true (d + 1) b) is in both d (room a) (room b) (room_term true d a le x.first) (room_term true (d + 1) b (fits (d + 1) x.room) x.second)
    room_term used d (Typed at t parens constant (tree.Shift back size a b)) le is = let x = behind d (is_regular_term u f true d a) (is_regular_term u f true (d + 1) b) is in both d (room a) (room b) (room_term true d a le x.first) (room_term true (d + 1) b (fits (d + 1) x.room) x.second)
    room_term used d (Typed at t parens constant (tree.Difference size a b)) le is = let x = behind d (is_regular_term u f true d a) (is_regular_term u f true (d + 1) b) is in both d (room a) (room b) (room_term true d a le x.first) (room_term true (d + 1) b (fits (d + 1) x.room) x.second)
    room_term used d (Typed at t parens constant (tree.Compare sign a b)) le is = let x = behind d (is_regular_term u f true d a) (is_regular_term u f true (d + 1) b) is in both d (room a) (room b) (room_term true d a le x.first) (room_term true (d + 1) b (fits (d + 1) x.room) x.second)
    room_term used d (Typed at t parens constant (tree.Logical sign a b)) le is = let x = both_true _ _ is in greater d (room a) (room b) (2 ^ 32 - 1) (room_term true d a le x.0) (room_term true d b le x.1)
    room_term used d (Typed at t parens constant (tree.Conditional c a b)) le is =
        let x = both_true (is_regular_term u f true d c) (is_regular_term u f used d a && is_regular_term u f used d b) is in
        let y = both_true (is_regular_term u f used d a) (is_regular_term u f used d b) x.1 in
        greater d (room c) (larger (room a) (room b)) (2 ^ 32 - 1) (room_term true d c le x.0) (greater d (room a) (room b) (2 ^ 32 - 1) (room_term used d a le y.0) (room_term used d b le y.1))
    room_term used d (Typed at t parens constant (tree.Comma a b)) le is = let x = both_true _ _ is in greater d (room a) (room b) (2 ^ 32 - 1) (room_term false d a le x.0) (room_term used d b le x.1)
    room_term used d (Typed at t parens constant (tree.Assign l a)) le is = let x = behind d (is_regular_place u f d l) (is_regular_term u f true (d + 1) a) is in both d (room_of_place l) (room a) (room_place d l le x.first) (room_term true (d + 1) a (fits (d + 1) x.room) x.second)
    room_term used d (Typed at t parens constant (tree.Compound sign kind l a)) le is =
        let x = both_true (has_room (d + 2)) _ is in
        let y = behind d (is_regular_place u f d l) (is_regular_term u f true (d + 1) a) x.1 in
        greater d 2 (both_rooms (room_of_place l) (room a)) (2 ^ 32 - 1) (fits (d + 2) x.0) (both d (room_of_place l) (room a) (room_place d l le y.first) (room_term true (d + 1) a (fits (d + 1) y.room) y.second))
    room_term used d (Typed at t parens constant (tree.CompoundShift back size l a)) le is =
        let x = both_true (has_room (d + 2)) _ is in
        let y = behind d (is_regular_place u f d l) (is_regular_term u f true (d + 1) a) x.1 in
        greater d 2 (both_rooms (room_of_place l) (room a)) (2 ^ 32 - 1) (fits (d + 2) x.0) (both d (room_of_place l) (room a) (room_place d l le y.first) (room_term true (d + 1) a (fits (d + 1) y.room) y.second))
    room_term used d (Typed at t parens constant (tree.Step sign time kind l)) le is = let x = both_true (has_room (d + 2)) _ is in greater d 2 (room_of_place l) (2 ^ 32 - 1) (fits (d + 2) x.0) (room_place d l le x.1)
    room_term used d (Typed at t parens constant (tree.StepPointer sign time size l)) le is = let x = both_true (has_room (d + 2)) _ is in greater d 2 (room_of_place l) (2 ^ 32 - 1) (fits (d + 2) x.0) (room_place d l le x.1)
    room_term used d (Typed at t parens constant (tree.Struct l)) le is = room_place d l le is
    room_term used d (Typed at t parens constant (tree.Call function args is_used)) le is = room_terms d args le (both_true (are_regular_terms u f d args) _ is).0
    room_term used d (Typed at t parens constant (tree.Library function args target)) le is = room_terms d args le (both_true (are_regular_terms u f d args) _ is).0

    pub room_place : (d : ℕ) (l : LvalueTree) → Fits d → is_regular_place u f d l ≡ true → Fits (d + room_of_place l)
    room_place d (Designates at t parens (tree.Object o)) le is = alone d le
    room_place d (Designates at t parens (tree.Literal n)) le is = alone d le
    room_place d (Designates at t parens (tree.Target e)) le is = room_term true d e le is
    room_place d (Designates at t parens (tree.Member outer offset)) le is = room_place d outer le is
    room_place d (Designates at t parens (tree.Copied target source)) le is =
        let x = behind d (is_regular_place u f d target) (is_regular_place u f (d + 1) source) (both_true (is_struct (lvalue_type target)) _ is).1 in
        both d (room_of_place target) (room_of_place source) (room_place d target le x.first) (room_place (d + 1) source (fits (d + 1) x.room) x.second)
    room_place d (Designates at t parens (tree.Then left right)) le is = let x = both_true _ _ is in greater d (room left) (room_of_place right) (2 ^ 32 - 1) (room_term false d left le x.0) (room_place d right le x.1)

    room_terms : (d : ℕ) (es : TermTrees) → Fits d → are_regular_terms u f d es ≡ true → Fits (d + room_of_all es)
    room_terms d tree.End le is = alone d le
    room_terms d (tree.More e rest) le is =
        let x = behind d (is_regular_term u f true d e) (are_regular_terms u f (d + 1) rest) is in
        both d (room e) (room_of_all rest) (room_term true d e le x.first) (room_terms (d + 1) rest (fits (d + 1) x.room) x.second)
