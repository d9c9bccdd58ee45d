-- The truth values that a relation can have.
use Rattle.std.specs.Prelude.{Bool, true, false}
use Rattle.cc_base.specs.declared.integer_operators.Tri.{Tri}
use Rattle.cc_base.specs.declared.integer_operators.Tri.TheVariants.{No, Yes, Both, Never}

-- from whether true and false can be
abbrev pub tri_of : Bool → Bool → Tri
tri_of true true = Both
tri_of true false = Yes
tri_of false true = No
tri_of false false = Never

abbrev pub can_hold : Tri → Bool
can_hold Yes = true
can_hold Both = true
can_hold No = false
can_hold Never = false

abbrev pub can_fail : Tri → Bool
can_fail No = true
can_fail Both = true
can_fail Yes = false
can_fail Never = false
