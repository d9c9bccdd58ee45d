-- What holds of the items that a search for a label finds, if it finds some.
use Rattle.std.proofs.Common.{Bool, true, false, List, Option, Some, None}
use Rattle.semantics.specs.SourceMachine.Items.{Item}
use Rattle.semantics.specs.SourceMachine.LabelSearch as sought
use Rattle.semantics.specs.SourceMachine.LabelSearch.{Sought, inside_switch, first, here_or}

-- it holds of what is there, if anything is
abbrev pub IfSome : {A : Type 0} → (A → Type 0) → Option A → Type 0
IfSome P None = Unit {0}
IfSome P (Some x) = P x

pub some_map : {A : Type 0} (P Q : A → Type 0) (o : Option A) → ((x : A) → P x → Q x) → IfSome P o → IfSome Q o
some_map P Q None all h = tt
some_map P Q (Some x) all h = all x h

-- ---- one of two

module _ (P : List Item → Type 0) where
  pub either_found : (a b : Option (List Item)) → IfSome P a → IfSome P b → IfSome P (first a b)
  either_found (Some to) b one other = one
  either_found None b one other = other

  pub found_here : (here : Bool) (items : List Item) (later : Option (List Item)) → P items → IfSome P later → IfSome P (here_or here items later)
  found_here true items later one other = one
  found_here false items later one other = other

  pub found_inside : (l : Sought) (o : Option (List Item)) → IfSome P o → IfSome P (inside_switch l o)
  found_inside (sought.label n) o h = h
  found_inside (sought.case n) o h = tt
  found_inside sought.other o h = tt
