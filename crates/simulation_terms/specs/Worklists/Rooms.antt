-- How many temporaries terms take, from the one of their value on.
use Rattle.std.specs.Prelude.{ℕ, suc, ◌+◌, ◌-◌}
use Rattle.c_layout.specs.CheckedTrees as tree
use Rattle.c_layout.specs.CheckedTrees.{TermTree, TermTrees, Typed, LvalueTree, Designates}

-- the greater one of two numbers
abbrev pub larger : ℕ → ℕ → ℕ
larger m n = m + (n - m)

-- a second operand stands one temporary behind the first one
abbrev pub both_rooms : ℕ → ℕ → ℕ
both_rooms m n = larger m (suc n)

abbrev mutual
  pub room : TermTree → ℕ
  room (Typed at t parens constant (tree.Load l)) = room_of_place l
  room (Typed at t parens constant (tree.AddressOf l)) = room_of_place l
  room (Typed at t parens constant (tree.Decay l)) = room_of_place l
  room (Typed at t parens constant (tree.Convert kind a)) = room a
  room (Typed at t parens constant (tree.Discard a)) = room a
  room (Typed at t parens constant (tree.Plus a)) = room a
  room (Typed at t parens constant (tree.Minus a)) = room a
  room (Typed at t parens constant (tree.Complement a)) = room a
  room (Typed at t parens constant (tree.Not a)) = room a
  room (Typed at t parens constant (tree.Integer sign a b)) = both_rooms (room a) (room b)
  room (Typed at t parens constant (tree.Shift back size a b)) = both_rooms (room a) (room b)
  room (Typed at t parens constant (tree.Difference size a b)) = both_rooms (room a) (room b)
  room (Typed at t parens constant (tree.Compare sign a b)) = both_rooms (room a) (room b)
  room (Typed at t parens constant (tree.Logical sign a b)) = larger (room a) (room b)
  room (Typed at t parens constant (tree.Conditional c a b)) = larger (room c) (larger (room a) (room b))
  room (Typed at t parens constant (tree.Comma a b)) = larger (room a) (room b)
  room (Typed at t parens constant (tree.Assign l a)) = both_rooms (room_of_place l) (room a)
  room (Typed at t parens constant (tree.Compound sign kind l a)) = larger 2 (both_rooms (room_of_place l) (room a))
  room (Typed at t parens constant (tree.CompoundShift back size l a)) = larger 2 (both_rooms (room_of_place l) (room a))
  room (Typed at t parens constant (tree.Step sign time kind l)) = larger 2 (room_of_place l)
  room (Typed at t parens constant (tree.StepPointer sign time size l)) = larger 2 (room_of_place l)
  room (Typed at t parens constant (tree.Struct l)) = room_of_place l
  room (Typed at t parens constant (tree.Call function args used)) = room_of_all args
  room (Typed at t parens constant (tree.Library function args target)) = room_of_all args
  room other = 0

  pub room_of_place : LvalueTree → ℕ
  room_of_place (Designates at t parens (tree.Target e)) = room e
  room_of_place (Designates at t parens (tree.Member outer offset)) = room_of_place outer
  room_of_place (Designates at t parens (tree.Copied target source)) = both_rooms (room_of_place target) (room_of_place source)
  room_of_place (Designates at t parens (tree.Then left right)) = larger (room left) (room_of_place right)
  room_of_place other = 0

  pub room_of_all : TermTrees → ℕ
  room_of_all tree.End = 0
  room_of_all (tree.More e rest) = both_rooms (room e) (room_of_all rest)
