-- Specifiers keep what typing knows, and say types of the data model.
use Rattle.std.proofs.Common.{◌≡◌, ℕ, Option, Some, None, Ok, Err, refl, subst, sym, ◌∙◌}
use Rattle.std.specs.Prelude.{Bool, true, false, is_some}
use Rattle.cc_base.specs.declared.diagnostics.Place.{Place}
use Rattle.c_layout.specs.StructViews.{FieldView}
use Rattle.c_layout.specs.StructLayouts.{Partial, no_members}
use Rattle.c_layout.specs.DeclarationTrees as tree
use Rattle.c_layout.specs.DeclarationTrees.{NameView, SpecTree, SpecTrees, MemberTree, MemberTrees}
use Rattle.c_layout.specs.declared.data_model.Model.{Model}
use Rattle.c_types_rules.specs.Rules.TypeWords as words
use Rattle.c_types_rules.specs.declared.rules.integer_kinds.Rank.TheVariants as rank
use Rattle.c_types_rules.specs.declared.rules.type_words.NamedKind.{NamedKind}
use Rattle.c_types_rules.specs.declared.rules.type_words.NamedKind.TheVariants as kind
use Rattle.c_types_rules.specs.declared.rules.type_words.WordCounts.{WordCounts}
use Rattle.c_types_scopes.specs.Answers.{after}
use Rattle.c_types_scopes.specs.DeclaredTypes.{DeclaredView}
use Rattle.c_types_scopes.specs.Known.{Known}
use Rattle.c_types_scopes.specs.Refusals.{Ruled}
use Rattle.c_types_scopes.specs.States.{State}
use Rattle.c_types_primary.specs.TypeNames as names
use Rattle.c_types_declarations.specs.Enumerations as enumerations
use Rattle.c_types_declarations.specs.Specifiers as said
use Rattle.c_types_declarations.specs.Specifiers.{SpecifiedView, ReadingView, nothing_read}
use Rattle.c_types_declarations.specs.SpecifierTrees as spec
use Rattle.c_types_declarations.specs.StructBodies as bodies
use Rattle.c_types_well_formed.specs.WellFormed.ModelTypes.{IsTypeOf}
use Rattle.c_types_well_formed.specs.WellFormed.ProperStatements.{IsProperSpec, AreProperSpecs, IsProperMember, AreProperMembers}
use Rattle.c_types_well_formed.specs.WellFormed.TypingLaws.{Keeps, LeadsOn}
use Rattle.c_types_well_formed.proofs.terms.Parts.{HoldsIf, IsNamedOf, words_hold, kind_is, in_model, each_none}
use Rattle.c_types_well_formed.proofs.terms.Steps.{IsAt, keeps_same, at_later, then, weaker, stays, cond_on, Holds}
use Rattle.c_types_well_formed.proofs.terms.TypeNames.{IsDeclaredOf, Anything, struct_tag_on, enumeration_tag_on, typedef_holds}
use Rattle.c_types_well_formed.specs.Types.TypeLaws.{SpecifiersKeep, HasSpecified}
use Rattle.c_types_well_formed.proofs.types.Enumerating.{enumeration_on}
use Rattle.c_types_well_formed.proofs.types.StructBodies.{HasLaid, alone_on, members_on, body_on}

-- ---- what is said

counted_holds : (m : Model) (at : Place) (o : Option NamedKind) → HoldsIf (IsNamedOf m) o → Holds (IsDeclaredOf m) (said.counted_as at o)
counted_holds m at None h = tt
counted_holds m at (Some kind.Void) h = tt
counted_holds m at (Some (kind.Integer k)) h = h

declared_holds : (m : Model) (k : Known) (at : Place) (o : Option DeclaredView) (counts : WordCounts) → k.numbers ≡ m → HoldsIf (IsDeclaredOf m) o → Holds (IsDeclaredOf m) (said.declared_of k at o counts)
declared_holds m k at (Some d) counts e h = h
declared_holds m k at None counts e h = counted_holds m at (words.named k.numbers counts) (subst (λ x. HoldsIf (IsNamedOf x) (words.named k.numbers counts)) e (words_hold k.numbers counts))

abbrev IsSpecifiedOf : Model → SpecifiedView → Type 0
IsSpecifiedOf m b = IsDeclaredOf m b.declared

said_holds : (m : Model) (r : ReadingView) (d : Ruled DeclaredView) → Holds (IsDeclaredOf m) d → Holds (IsSpecifiedOf m) (said.said_with r d)
said_holds m r (Ok d) h = h
said_holds m r (Err f) h = tt

abbrev HasRead : Model → ReadingView → State → Type 0
HasRead m r t = HoldsIf (IsDeclaredOf m) r.named

typedef_read : (m : Model) (s : State) (r : ReadingView) (d : Ruled DeclaredView) → Holds (IsDeclaredOf m) d → Holds (λ x. HasRead m x s) (spec.with_typedef r d)
typedef_read m s r (Ok d) h = h
typedef_read m s r (Err f) h = tt

-- ---- tags without bodies

struct_alone_on : (s : State) (alone : Bool) (at : Place) (t : Option NameView) (m : Model) → IsAt m s → LeadsOn s Anything (spec.struct_alone s alone at t)
struct_alone_on s alone at None m a = tt
struct_alone_on s alone at (Some t) m a = cond_on s Anything alone (bodies.alone_tag t s) (names.struct_tag s (spec.name_of t)) (alone_on t s a.types) (struct_tag_on s (spec.name_of t) a.types)

enumeration_alone_on : (s : State) (at : Place) (t : Option NameView) (m : Model) → IsAt m s → LeadsOn s Anything (spec.enumeration_alone s at t)
enumeration_alone_on s at None m a = tt
enumeration_alone_on s at (Some t) m a = enumeration_tag_on s at (spec.name_of t) a.types

-- ---- the way down

module _ (m : Model) where
  struct_read : (s : State) (r : ReadingView) (declares : Bool) (x : Ruled (ℕ × State)) → LeadsOn s Anything x → LeadsOn s (HasRead m) (after x (spec.struct_said r declares))
  struct_read s r declares x h = then s Anything (HasRead m) x (spec.struct_said r declares) h (λ n t k any. (keeps_same t k.types, tt))

  enumeration_read : (s : State) (r : ReadingView) (x : Ruled (ℕ × State)) → IsAt m s → LeadsOn s Anything x → LeadsOn s (HasRead m) (after x (spec.enumeration_said r))
  enumeration_read s r x a h = then s Anything (HasRead m) x (spec.enumeration_said r) h (λ n t k any. (keeps_same t k.types, in_model t.known.numbers m (said.enumerated t.known.numbers n).ctype (k.model ∙ a.same) (kind_is t.known.numbers rank.Int true)))

  said_on : (s : State) (at : Place) (r : ReadingView) (t : State) → IsAt m s → Keeps s t → HasRead m r t → LeadsOn t (λ b v. IsSpecifiedOf m b) (spec.said_in at r t)
  said_on s at r t a k h = stays t (λ b v. IsSpecifiedOf m b) (said.said t.known at r) k.types (said_holds m r (said.declared_of t.known at r.named r.counts) (declared_holds m t.known at r.named r.counts (k.model ∙ a.same) h))

  mutual
    read_on : (s : State) (alone : Bool) (r : ReadingView) (w : SpecTree) → IsAt m s → HasRead m r s → IsProperSpec m w → LeadsOn s (HasRead m) (spec.read s alone r w)
    read_on s alone r (tree.StorageWord at word) a h proper = (keeps_same s a.types, h)
    read_on s alone r (tree.Qualifier at) a h proper = (keeps_same s a.types, h)
    read_on s alone r (tree.TypeOf at word) a h proper = (keeps_same s a.types, h)
    read_on s alone r (tree.StructTag at t) a h proper = struct_read s r (is_some t) (spec.struct_alone s alone at t) (struct_alone_on s alone at t m a)
    read_on s alone r (tree.StructBody at t members) a h proper = struct_read s r (is_some t) (spec.struct_body s at t members) (body_on m s at t (λ s1 n. spec.laid_out s1 n at 0 no_members members) a (λ s1 n a1. laid_out_on s1 n at 0 no_members members a1 (each_none (λ (f : FieldView). IsTypeOf m f.ctype)) proper))
    read_on s alone r (tree.EnumTag at t) a h proper = enumeration_read s r (spec.enumeration_alone s at t) a (enumeration_alone_on s at t m a)
    read_on s alone r (tree.EnumBody at t es) a h proper = enumeration_read s r (enumerations.enumeration s t es) a (enumeration_on m s t es a proper)
    read_on s alone r (tree.TypedefName name) a h proper = stays s (HasRead m) (spec.with_typedef r (names.typedef_named s (spec.name_of name))) a.types (typedef_read m s r (names.typedef_named s (spec.name_of name)) (typedef_holds m s (spec.name_of name) a))

    read_all_on : (s : State) (alone : Bool) (r : ReadingView) (ws : SpecTrees) → IsAt m s → HasRead m r s → AreProperSpecs m ws → LeadsOn s (HasRead m) (spec.read_all s alone r ws)
    read_all_on s alone r tree.NoWord a h proper = (keeps_same s a.types, h)
    read_all_on s alone r (tree.MoreWords w ws) a h proper = then s (HasRead m) (HasRead m) (spec.read s alone r w) (λ r1 s1. spec.read_all s1 alone r1 ws) (read_on s alone r w a h proper.0) (λ r1 s1 k h1. read_all_on s1 alone r1 ws (at_later m s s1 a k) h1 proper.1)

    add_members_on : (s : State) (owner : ℕ) (at : Place) (count : ℕ) (p : Partial) (x : MemberTree) → IsAt m s → HasLaid m p → IsProperMember m x → LeadsOn s (λ (q : ℕ × Partial) t. HasLaid m q.1) (spec.add_members s owner at count p x)
    add_members_on s owner at count p (tree.Members ws ds) a laid proper =
        then s (λ b t. IsSpecifiedOf m b) (λ (q : ℕ × Partial) t. HasLaid m q.1) (spec.specifiers s at false ws) (λ base t. bodies.declared_members owner base ds count p t)
        (then s (HasRead m) (λ b t. IsSpecifiedOf m b) (spec.read_all s false nothing_read ws) (spec.said_in at) (read_all_on s false nothing_read ws a tt proper.0) (λ r t k h. said_on s at r t a k h))
        (λ base t k typed. members_on m ds owner base count p t (at_later m s t a k) typed proper.1 laid)

    laid_out_on : (s : State) (owner : ℕ) (at : Place) (count : ℕ) (p : Partial) (xs : MemberTrees) → IsAt m s → HasLaid m p → AreProperMembers m xs → LeadsOn s (λ q t. HasLaid m q) (spec.laid_out s owner at count p xs)
    laid_out_on s owner at count p tree.NoMember a laid proper = (keeps_same s a.types, laid)
    laid_out_on s owner at count p (tree.MoreMembers x xs) a laid proper =
        then s (λ (q : ℕ × Partial) t. HasLaid m q.1) (λ q t. HasLaid m q) (spec.add_members s owner at count p x) (λ q s1. spec.laid_out s1 owner at q.0 q.1 xs) (add_members_on s owner at count p x a laid proper.0)
        (λ q s1 k laid1. laid_out_on s1 owner at q.0 q.1 xs (at_later m s s1 a k) laid1 proper.1)

  pub specifiers_on : (s : State) (at : Place) (alone : Bool) (ws : SpecTrees) → IsAt m s → AreProperSpecs m ws → LeadsOn s (λ b t. IsSpecifiedOf m b) (spec.specifiers s at alone ws)
  specifiers_on s at alone ws a proper = then s (HasRead m) (λ b t. IsSpecifiedOf m b) (spec.read_all s (spec.is_alone alone ws) nothing_read ws) (spec.said_in at) (read_all_on s (spec.is_alone alone ws) nothing_read ws a tt proper) (λ r t k h. said_on s at r t a k h)

pub specifiers_keep : SpecifiersKeep
specifiers_keep s at alone ws h proper =
    weaker s (λ b t. IsSpecifiedOf s.known.numbers b) HasSpecified (spec.specifiers s at alone ws) (λ b t k g. in_model s.known.numbers t.known.numbers b.declared.ctype (sym k.model) g)
    (specifiers_on s.known.numbers s at alone ws (record { same = refl; types = h }) proper)
