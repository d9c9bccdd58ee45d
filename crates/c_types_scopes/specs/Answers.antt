-- What a step of typing answers to its rule, unless memory is short.
use Rattle.std.specs.Prelude.{◌≡◌, Result, Ok, Err}
use Rattle.cc_base.specs.declared.refusals.Stop.{Stop}
use Rattle.cc_base.specs.declared.refusals.Stop.TheVariants as stop
use Rattle.c_types_scopes.specs.Refusals.{Ruled}

-- the value of the rule, or its refusal; want of memory is no part of a rule, and files are not read here
abbrev pub Gives : {A V : Type 0} → (A → V) → Ruled V → Result A Stop → Type 0
Gives view rule (Ok a) = rule ≡ Ok (view a)
Gives view rule (Err (stop.Refused f)) = rule ≡ Err f
Gives view rule (Err stop.Memory) = Unit {0}
Gives view rule (Err stop.NotHeld) = ⊥
Gives view rule (Err stop.ReadFault) = ⊥

-- the same of a step that changes what typing knows
abbrev pub Leads : {A V S : Type 0} → (A → V) → Ruled (V × S) → Result A Stop → S → Type 0
Leads view rule (Ok a) after = rule ≡ Ok (view a, after)
Leads view rule (Err (stop.Refused f)) after = rule ≡ Err f
Leads view rule (Err stop.Memory) after = Unit {0}
Leads view rule (Err stop.NotHeld) after = ⊥
Leads view rule (Err stop.ReadFault) after = ⊥

-- a step that changes nothing
abbrev pub kept : {V S : Type 0} → S → Ruled V → Ruled (V × S)
kept s (Ok v) = Ok (v, s)
kept s (Err f) = Err f

-- a step after another one
abbrev pub after : {U V S : Type 0} → Ruled (U × S) → (U → S → Ruled (V × S)) → Ruled (V × S)
after (Ok p) next = next p.0 p.1
after (Err f) next = Err f
