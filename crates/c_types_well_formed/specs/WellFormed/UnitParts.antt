-- What a state of typing has of the unit that comes of it in the end.
use Rattle.std.specs.Prelude.{◌≡◌, ℕ, true, nat_le, length, Option, Some, is_some, slice_get}
use Rattle.c_layout.specs.Types.{Ty}
use Rattle.c_layout.specs.CheckedUnits.{FunctionView, UnitView}
use Rattle.c_types_scopes.specs.DeclaredTypes.{ObjectView, SignatureView}
use Rattle.c_types_scopes.specs.States.{State}
use Rattle.lower_functions.specs.Functions.Functions.{local_type}
use Rattle.semantics.specs.SourceMachine.SourceStates.{function_at}
use Rattle.source_preservation.specs.Checks.LookedTypes.{same_mark}

-- a function that was declared is there with its result and its parameters
pub record IsHeadOf (declared : SignatureView) (f : FunctionView) : Type 0 where
  pub returns : f.returns ≡ declared.result.ctype
  pub counted : f.parameters ≡ length declared.parameters
  pub parameters : (i : ℕ) (t : Ty) → slice_get declared.parameters i ≡ Some t → same_mark t (local_type f i) ≡ true

pub record IsThere (u : UnitView) (declared : SignatureView) (number : ℕ) : Type 0 where
  pub function : FunctionView
  pub found : function_at u number ≡ Some function
  pub head : IsHeadOf declared function

pub record IsPartOf (s : State) (u : UnitView) : Type 0 where
  pub model : u.model ≡ s.known.numbers
  pub objects : (i : ℕ) (o : ObjectView) (n : ℕ) → slice_get s.objects i ≡ Some o → o.number ≡ Some n → is_some (slice_get u.objects n) ≡ true
  pub literals : nat_le (length s.literals) (length u.literals) ≡ true
  pub functions : (i : ℕ) (f : SignatureView) (n : ℕ) → slice_get s.functions i ≡ Some f → f.number ≡ Some n → IsThere u f n
