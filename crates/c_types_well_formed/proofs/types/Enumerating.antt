-- Enumerations keep what typing knows.
use Rattle.std.proofs.Common.{◌≡◌, ℕ, List, [], ◌∷◌, Option, Some, None, length, refl, subst, sym}
use Rattle.std.specs.Prelude.{ℤ, Bool, true, false}
use Rattle.cc_base.specs.IntegerTypes.{in_type}
use Rattle.cc_base.specs.declared.diagnostics.Place.{Place}
use Rattle.c_layout.specs.SyntaxTrees.{Tree}
use Rattle.c_layout.specs.DeclarationTrees.{NameView, EnumeratorView}
use Rattle.c_layout.specs.declared.data_model.Model.{Model}
use Rattle.c_types_rules.specs.Rules.ConstantFolding.{has_number}
use Rattle.c_types_rules.specs.Rules.IntegerKinds.{kind_of}
use Rattle.c_types_rules.specs.declared.rules.integer_kinds.Rank.TheVariants as rank
use Rattle.c_types_scopes.specs.Names.{number_in, found_tag_here}
use Rattle.c_types_scopes.specs.Answers.{after}
use Rattle.c_types_scopes.specs.Refusals.{redeclared}
use Rattle.c_types_scopes.specs.States.{State, with_name}
use Rattle.c_types_scopes.specs.declared.meanings.Meaning.TheVariants as meaning
use Rattle.c_types_scopes.specs.declared.meanings.Tag.{Tag}
use Rattle.c_types_scopes.specs.declared.meanings.Tag.TheVariants as tag
use Rattle.c_types_operands.specs.Operands.{term_of}
use Rattle.c_types_expressions.specs.Expressions.Expressions as expressions
use Rattle.c_types_expressions.specs.Expressions.Expressions.{typed}
use Rattle.c_types_declarations.specs.Enumerations as enumerations
use Rattle.c_types_well_formed.specs.WellFormed.KnownTypes.{HasTypes, IsMeaning}
use Rattle.c_types_well_formed.specs.WellFormed.ProperStatements.{IsProperIf, AreProperEnumerators}
use Rattle.c_types_well_formed.specs.WellFormed.ProperTrees.{IsProperTree}
use Rattle.c_types_well_formed.specs.WellFormed.TypingLaws.{LeadsOn}
use Rattle.c_types_well_formed.proofs.terms.Expressions.{expressions_keep}
use Rattle.c_types_well_formed.proofs.terms.Steps.{IsAt, keeps_same, at_later, onward, then, cond_on, named_keeps, constant_keeps}
use Rattle.c_types_well_formed.proofs.terms.TypeNames.{Anything}
use Rattle.c_types_well_formed.proofs.types.Changes.{tag_keeps, meaning_keeps, enumerations_keep}
use Rattle.c_types_well_formed.proofs.types.EnumeratorNumbers.{int_number}

given_on : (m : Model) (s : State) (e : Tree) → IsAt m s → IsProperTree m e → LeadsOn s Anything (enumerations.given s e)
given_on m s e a proper = then s Anything Anything (typed s e) enumerations.kept_value (expressions_keep s e a.types (subst (λ x. IsProperTree x e) (sym a.same) proper)) (λ x t k any. (constant_keeps t (term_of x) k.types, tt))

enumerator_on : (m : Model) (s : State) (e : Option Tree) (last : ℤ) → IsAt m s → IsProperIf m e → LeadsOn s Anything (enumerations.enumerator_value s e last)
enumerator_on m s None last a proper = (keeps_same s a.types, tt)
enumerator_on m s (Some e) last a proper = given_on m s e a proper

enumerator_is : (s : State) (value : ℤ) → HasTypes s → has_number (kind_of s.known.numbers rank.Int true) value ≡ true → IsMeaning s.known (meaning.Enumerator value)
enumerator_is s value h is = λ n e. let same : value ≡ n = cc in subst (λ z. in_type (kind_of s.known.numbers rank.Int true) z ≡ true) same (int_number s.known.numbers value h.proper is)

value_if_on : (at : Place) (name : ℕ) (value : ℤ) (s : State) (b : Bool) → HasTypes s → has_number (kind_of s.known.numbers rank.Int true) value ≡ b → LeadsOn s Anything (enumerations.value_if at name value s b)
value_if_on at name value s true h is = (meaning_keeps s name (meaning.Enumerator value) h (enumerator_is s value h is), tt)
value_if_on at name value s false h is = tt

value_of_on : (at : Place) (name : ℕ) (s : State) (v : Option ℤ) → HasTypes s → LeadsOn s Anything (enumerations.value_of at name s v)
value_of_on at name s None h = tt
value_of_on at name s (Some value) h = value_if_on at name value s (has_number (kind_of s.known.numbers rank.Int true) value) h refl

value_by_on : (name : ℕ) (n : NameView) (value : Option ℤ) (s : State) → HasTypes s → LeadsOn s Anything (enumerations.value_by name n value s)
value_by_on name n value s h = cond_on s Anything (enumerations.is_free s name n.text) (enumerations.value_of n.at name s value) (redeclared n.at) (value_of_on n.at name s value h) tt

value_on : (n : NameView) (value : Option ℤ) (s : State) → HasTypes s → LeadsOn s Anything (enumerations.declare_value n value s)
value_on n value s h = onward s (with_name s n.text) Anything (enumerations.declare_value n value s) (named_keeps s n.text h) (value_by_on (number_in s.scopes.names n.text) n value (with_name s n.text) (named_keeps s n.text h).types)

declare_on : (m : Model) (s : State) (e : EnumeratorView) (last : ℤ) → IsAt m s → IsProperIf m e.value → LeadsOn s Anything (enumerations.declare_enumerator s e last)
declare_on m s e last a proper = then s Anything Anything (enumerations.enumerator_value s e.value last) (enumerations.declare_value e.name) (enumerator_on m s e.value last a proper) (λ v t k any. value_on e.name v t k.types)

enumerators_on : (m : Model) (es : List EnumeratorView) (s : State) (last : ℤ) → IsAt m s → AreProperEnumerators m es → LeadsOn s Anything (enumerations.enumerator_values s es last)
enumerators_on m [] s last a proper = (keeps_same s a.types, tt)
enumerators_on m (e ∷ es) s last a proper =
    then s Anything Anything (enumerations.declare_enumerator s e last) (λ n t. after (enumerations.enumerator_values t es n) (expressions.before n)) (declare_on m s e last a proper.0) (λ n t k any.
    then t Anything Anything (enumerations.enumerator_values t es n) (expressions.before n) (enumerators_on m es t n (at_later m s t a k) proper.1) (λ ns v k1 any1. (keeps_same v k1.types, tt)))

tag_of_on : (at : Place) (number name : ℕ) (s : State) (t : Option Tag) → HasTypes s → LeadsOn s Anything (enumerations.tag_of at number name s t)
tag_of_on at number name s (Some t) h = tt
tag_of_on at number name s None h = (tag_keeps s name (tag.Enumeration number) h, tt)

tagged_on : (t : Option NameView) (number : ℕ) (s : State) → HasTypes s → LeadsOn s Anything (enumerations.tagged t number s)
tagged_on None number s h = (keeps_same s h, tt)
tagged_on (Some t) number s h =
    onward s (with_name s t.text) Anything (enumerations.declare_tag t number s) (named_keeps s t.text h)
    (tag_of_on t.at number (number_in s.scopes.names t.text) (with_name s t.text) (found_tag_here s.scopes (number_in s.scopes.names t.text)) (named_keeps s t.text h).types)

pub enumeration_on : (m : Model) (s : State) (t : Option NameView) (es : List EnumeratorView) → IsAt m s → AreProperEnumerators m es → LeadsOn s Anything (enumerations.enumeration s t es)
enumeration_on m s t es a proper =
    let open_keeps = enumerations_keep s (enumerations.with_enumeration s).enumerations a.types in
    onward s (enumerations.with_enumeration s) Anything (enumerations.enumeration s t es) open_keeps
    (then (enumerations.with_enumeration s) Anything Anything (enumerations.enumerator_values (enumerations.with_enumeration s) es _) (enumerations.enumerated_by t (length s.enumerations)) (enumerators_on m es (enumerations.with_enumeration s) _ (at_later m s (enumerations.with_enumeration s) a open_keeps) proper)
    (λ values u k any. then u Anything Anything (enumerations.tagged t (length s.enumerations) u) (enumerations.valued (length s.enumerations) values) (tagged_on t (length s.enumerations) u k.types)
    (λ v w k1 any1. (enumerations_keep w _ k1.types, tt))))
