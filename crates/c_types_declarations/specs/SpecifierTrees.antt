-- Declaration specifiers (6.7): each is read in the state that the one before it leaves. The members of a struct are
-- declarations with specifiers of their own; the first part that is refused refuses the whole.
use Rattle.std.specs.Prelude.{ℕ, Bool, true, false, cond, is_some, Option, Some, None, Ok, Err}
use Rattle.cc_base.specs.declared.diagnostics.Place.{Place}
use Rattle.c_layout.specs.StructLayouts.{Partial, no_members}
use Rattle.c_layout.specs.DeclarationTrees as tree
use Rattle.c_layout.specs.DeclarationTrees.{NameView, SpecTree, SpecTrees, MemberTree, MemberTrees}
use Rattle.c_layout.specs.declared.syntax_tree.expressions.Name.{Name}
use Rattle.c_layout.specs.declared.syntax_tree.declarations.TypeWord.{TypeWord}
use Rattle.c_layout.specs.declared.syntax_tree.declarations.Storage.{Storage}
use Rattle.c_types_rules.specs.Rules.TypeWords.{with_word}
use Rattle.c_types_scopes.specs.Answers.{after, kept}
use Rattle.c_types_scopes.specs.DeclaredTypes.{DeclaredView}
use Rattle.c_types_scopes.specs.Refusals.{Ruled, type_fault}
use Rattle.c_types_scopes.specs.States.{State}
use Rattle.c_types_primary.specs.TypeNames as names
use Rattle.c_types_declarations.specs.Enumerations.{enumeration}
use Rattle.c_types_declarations.specs.Specifiers.{SpecifiedView, ReadingView, nothing_read, with_struct, with_enumeration, said}
use Rattle.c_types_declarations.specs.StructBodies.{alone_tag, declared_members, begun_body, ended}

abbrev pub name_of : NameView → Name
name_of n = record { place = n.at; text = n.text }

-- ---- specifiers that hold no others

abbrev pub with_storage : ReadingView → Storage → ReadingView
with_storage r word = record r { storage = Some word }

abbrev pub with_type_word : ReadingView → TypeWord → ReadingView
with_type_word r word = record r { counts = with_word r.counts word }

abbrev pub with_typedef : ReadingView → Ruled DeclaredView → Ruled ReadingView
with_typedef r (Ok d) = Ok (record r { named = Some d })
with_typedef r (Err f) = Err f

abbrev pub struct_said : ReadingView → Bool → ℕ → State → Ruled (ReadingView × State)
struct_said r declares number t = Ok (with_struct r number declares, t)

abbrev pub enumeration_said : ReadingView → ℕ → State → Ruled (ReadingView × State)
enumeration_said r number t = Ok (with_enumeration t.known.numbers r number, t)

-- a `struct` without a body; where nothing else is declared, its tag is one of the innermost scope
abbrev pub struct_alone : State → Bool → Place → Option NameView → Ruled (ℕ × State)
struct_alone s alone at None = type_fault at
struct_alone s alone at (Some tag) = cond alone (alone_tag tag s) (names.struct_tag s (name_of tag))

-- an `enum` without a body
abbrev pub enumeration_alone : State → Place → Option NameView → Ruled (ℕ × State)
enumeration_alone s at None = type_fault at
enumeration_alone s at (Some tag) = names.enumeration_tag s at (name_of tag)

abbrev pub said_in : Place → ReadingView → State → Ruled (SpecifiedView × State)
said_in at r t = kept t (said t.known at r)

-- ---- the way down

abbrev mutual
  -- one specifier more; `alone` says that nothing is declared but its tag
  pub read : State → Bool → ReadingView → SpecTree → Ruled (ReadingView × State)
  read s alone r (tree.StorageWord at word) = Ok (with_storage r word, s)
  read s alone r (tree.Qualifier at) = Ok (r, s)
  read s alone r (tree.TypeOf at word) = Ok (with_type_word r word, s)
  read s alone r (tree.StructTag at tag) = after (struct_alone s alone at tag) (struct_said r (is_some tag))
  read s alone r (tree.StructBody at tag members) = after (after (begun_body s at tag) (λ b s1. after (laid_out s1 b.number at 0 no_members members) (ended b))) (struct_said r (is_some tag))
  read s alone r (tree.EnumTag at tag) = after (enumeration_alone s at tag) (enumeration_said r)
  read s alone r (tree.EnumBody at tag enumerators) = after (enumeration s tag enumerators) (enumeration_said r)
  read s alone r (tree.TypedefName name) = kept s (with_typedef r (names.typedef_named s (name_of name)))

  -- specifiers in order
  pub read_all : State → Bool → ReadingView → SpecTrees → Ruled (ReadingView × State)
  read_all s alone r tree.NoWord = Ok (r, s)
  read_all s alone r (tree.MoreWords word words) = after (read s alone r word) (λ r1 s1. read_all s1 alone r1 words)

  -- the members of one declaration; how many members there are then
  pub add_members : State → ℕ → Place → ℕ → Partial → MemberTree → Ruled ((ℕ × Partial) × State)
  add_members s owner at count p (tree.Members words declarators) = after (after (read_all s false nothing_read words) (said_in at)) (λ base t. declared_members owner base declarators count p t)

  -- the members of a body, laid out behind those before
  pub laid_out : State → ℕ → Place → ℕ → Partial → MemberTrees → Ruled (Partial × State)
  laid_out s owner at count p tree.NoMember = Ok (p, s)
  laid_out s owner at count p (tree.MoreMembers member members) = after (add_members s owner at count p member) (λ q s1. laid_out s1 owner at q.0 q.1 members)

-- a struct with a body, at its word; its number. A second body is typed as that of another struct before it is refused
abbrev pub struct_body : State → Place → Option NameView → MemberTrees → Ruled (ℕ × State)
struct_body s at tag members = after (begun_body s at tag) (λ b s1. after (laid_out s1 b.number at 0 no_members members) (ended b))

abbrev pub is_single : SpecTrees → Bool
is_single tree.NoWord = false
is_single (tree.MoreWords word tree.NoWord) = true
is_single (tree.MoreWords word (tree.MoreWords other words)) = false

-- whether one specifier stands alone
abbrev pub is_alone : Bool → SpecTrees → Bool
is_alone alone words = cond alone (is_single words) false

-- what specifiers say; they are refused as a whole at the place of the first one, and `alone` says that no declarator follows
abbrev pub specifiers : State → Place → Bool → SpecTrees → Ruled (SpecifiedView × State)
specifiers s at alone words = after (read_all s (is_alone alone words) nothing_read words) (said_in at)
