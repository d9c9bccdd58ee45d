-- Enumerations (6.7.2.2).
use Rattle.std.specs.Prelude.{ℕ, ℤ, pos, negsuc, length, ◌+ℤ◌, int_lt, Bool, true, false, not, cond, List, [], ◌∷◌, ◌++◌, slice_set, is_none, Option, Some, None, Ok}
use Rattle.cc_base.specs.declared.diagnostics.Place.{Place}
use Rattle.c_layout.specs.CheckedTrees.{TermTree}
use Rattle.c_layout.specs.SyntaxTrees.{Tree}
use Rattle.c_layout.specs.DeclarationTrees.{NameView, EnumeratorView}
use Rattle.c_types_rules.specs.Rules.IntegerKinds.{kind_of}
use Rattle.c_types_rules.specs.Rules.ConstantFolding.{has_number}
use Rattle.c_types_rules.specs.declared.rules.integer_kinds.Rank.TheVariants as rank
use Rattle.c_types_scopes.specs.Answers.{after}
use Rattle.c_types_scopes.specs.Names.{number_in, found_here, found_tag_here}
use Rattle.c_types_scopes.specs.Refusals.{Ruled, constant_needed, redeclared}
use Rattle.c_types_scopes.specs.States.{State, with_name, with_constant}
use Rattle.c_types_scopes.specs.declared.meanings.Tag.{Tag}
use Rattle.c_types_scopes.specs.declared.meanings.Tag.TheVariants as tag
use Rattle.c_types_scopes.specs.declared.meanings.Meaning.TheVariants as meaning
use Rattle.c_types_operands.specs.Operands.{OperandView, term_of, term_type, term_constant, is_integer}
use Rattle.c_types_expressions.specs.Expressions.Expressions.{typed, before}
use Rattle.c_types_declarations.specs.Specifiers.{is_library_name}
use Rattle.c_types_declarations.specs.ContextSteps.{with_tag, with_meaning}

abbrev pub tag_of : Place → ℕ → ℕ → State → Option Tag → Ruled (Unit {0} × State)
tag_of at number name s (Some t) = redeclared at
tag_of at number name s None = Ok (tt, with_tag s name (tag.Enumeration number))

abbrev pub tag_by : Place → ℕ → ℕ → State → Ruled (Unit {0} × State)
tag_by at number name s = tag_of at number name s (found_tag_here s.scopes name)

-- the tag of an enumeration that has a body
abbrev pub declare_tag : NameView → ℕ → State → Ruled (Unit {0} × State)
declare_tag t number s = tag_by t.at number (number_in s.scopes.names t.text) (with_name s t.text)

abbrev pub integer_constant : TermTree → Option ℤ
integer_constant e = cond (is_integer (term_type e)) (term_constant e) None

-- the value of an integer constant expression, which is kept
abbrev pub constant_value : OperandView → State → Option ℤ × State
constant_value o s = (integer_constant (term_of o), with_constant s (term_of o))

-- the value behind another one, in 128 bits
abbrev pub next_value : ℤ → Option ℤ
next_value last = cond (int_lt last (pos 170141183460469231731687303715884105727)) (Some (last +ℤ pos 1)) None

abbrev pub value_if : Place → ℕ → ℤ → State → Bool → Ruled (ℤ × State)
value_if at name value s true = Ok (value, with_meaning s name (meaning.Enumerator value))
value_if at name value s false = constant_needed at

-- an enumeration constant is an int
abbrev pub value_of : Place → ℕ → State → Option ℤ → Ruled (ℤ × State)
value_of at name s None = constant_needed at
value_of at name s (Some value) = value_if at name value s (has_number (kind_of s.known.numbers rank.Int true) value)

-- whether an identifier may be declared in the innermost scope
abbrev pub is_free : State → ℕ → List ℕ → Bool
is_free s name text = cond (is_none (found_here s.scopes name)) (not (is_library_name text)) false

abbrev pub value_by : ℕ → NameView → Option ℤ → State → Ruled (ℤ × State)
value_by name n value s = cond (is_free s name n.text) (value_of n.at name s value) (redeclared n.at)

-- an enumeration constant of a value, or of none
abbrev pub declare_value : NameView → Option ℤ → State → Ruled (ℤ × State)
declare_value n value s = value_by (number_in s.scopes.names n.text) n value (with_name s n.text)

abbrev pub with_enumeration : State → State
with_enumeration s = record s { enumerations = s.enumerations ++ [] ∷ [] }

-- the values of an enumeration
abbrev pub with_values : State → ℕ → List ℤ → State
with_values s number values = record s { enumerations = slice_set s.enumerations number values }

-- ---- the way down an enumeration

abbrev pub kept_value : OperandView → State → Ruled (Option ℤ × State)
kept_value o s = Ok (constant_value o s)

-- the value that an expression gives
abbrev pub given : State → Tree → Ruled (Option ℤ × State)
given s e = after (typed s e) kept_value

-- the value of an enumeration constant behind another one
abbrev pub enumerator_value : State → Option Tree → ℤ → Ruled (Option ℤ × State)
enumerator_value s None last = Ok (next_value last, s)
enumerator_value s (Some e) last = given s e

-- an enumeration constant behind one of a value; its value
abbrev pub declare_enumerator : State → EnumeratorView → ℤ → Ruled (ℤ × State)
declare_enumerator s e last = after (enumerator_value s e.value last) (declare_value e.name)

-- enumeration constants in order; their values
abbrev pub enumerator_values : State → List EnumeratorView → ℤ → Ruled (List ℤ × State)
enumerator_values s [] last = Ok ([], s)
enumerator_values s (e ∷ es) last = after (declare_enumerator s e last) (λ n t. after (enumerator_values t es n) (before n))

abbrev pub tagged : Option NameView → ℕ → State → Ruled (Unit {0} × State)
tagged None number s = Ok (tt, s)
tagged (Some t) number s = declare_tag t number s

abbrev pub valued : ℕ → List ℤ → Unit {0} → State → Ruled (ℕ × State)
valued number values u s = Ok (number, with_values s number values)

abbrev pub enumerated_by : Option NameView → ℕ → List ℤ → State → Ruled (ℕ × State)
enumerated_by tag number values s = after (tagged tag number s) (valued number values)

-- an enumeration with a body: its constants are declared before its tag, and the first one without a value is 0; its number
abbrev pub enumeration : State → Option NameView → List EnumeratorView → Ruled (ℕ × State)
enumeration s tag es = after (enumerator_values (with_enumeration s) es (negsuc 0)) (enumerated_by tag (length s.enumerations))
