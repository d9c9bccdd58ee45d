-- What is proved of all terms, lvalues and arguments.
use Rattle.std.specs.Prelude.{ℕ}
use Rattle.c_layout.specs.CheckedTrees as tree
use Rattle.c_layout.specs.CheckedTrees.{TermTree, TermTrees, Typed, LvalueTree, Designates}
use Rattle.c_layout.specs.declared.checked_tree.checked_terms.ConversionKind.TheVariants.{Implicit, Cast}
use Rattle.lower_templates.specs.Worklist.Settings.{SettingView}
use Rattle.simulation_terms.specs.SimulationRelation.Activations.{Activation}
use Rattle.simulation_terms.specs.Worklists.TemplateParts.{IsOfUnit}
use Rattle.simulation_terms.proofs.worklists.About.{About, AboutPlace, AboutAll}
use Rattle.simulation_terms.proofs.worklists.Arguments.{about_none, about_more}
use Rattle.simulation_terms.proofs.terms.PlainForms as plain
use Rattle.simulation_terms.proofs.terms.OtherForms as other

module _ (s : SettingView) (t : Activation) (fits : IsOfUnit t s) (n : ℕ) where
  mutual
    pub terms : (e : TermTree) → About s t n e
    terms (Typed at ctype parens constant (tree.Number m)) = plain.of_number s t fits n at ctype parens constant m
    terms (Typed at ctype parens constant (tree.SizeofType k is_pointer)) = plain.of_sizeof_type s t fits n at ctype parens constant k is_pointer
    terms (Typed at ctype parens constant (tree.Sizeof k operand is_pointer)) = plain.of_sizeof s t fits n at ctype parens constant k operand is_pointer
    terms (Typed at ctype parens constant (tree.Load l)) = plain.of_load s t fits n at ctype parens constant l (places l)
    terms (Typed at ctype parens constant (tree.AddressOf l)) = plain.of_address s t fits n at ctype parens constant l (places l)
    terms (Typed at ctype parens constant (tree.Decay l)) = plain.of_decay s t fits n at ctype parens constant l (places l)
    terms (Typed at ctype parens constant (tree.Convert Implicit a)) = plain.of_conversion s t fits n at ctype parens constant a (terms a)
    terms (Typed at ctype parens constant (tree.Convert Cast a)) = plain.of_cast s t fits n at ctype parens constant a (terms a)
    terms (Typed at ctype parens constant (tree.Discard a)) = plain.of_discard s t fits n at ctype parens constant a (terms a)
    terms (Typed at ctype parens constant (tree.Plus a)) = plain.of_plus s t fits n at ctype parens constant a (terms a)
    terms (Typed at ctype parens constant (tree.Minus a)) = plain.of_minus s t fits n at ctype parens constant a (terms a)
    terms (Typed at ctype parens constant (tree.Complement a)) = plain.of_complement s t fits n at ctype parens constant a (terms a)
    terms (Typed at ctype parens constant (tree.Not a)) = other.of_not s t fits n at ctype parens constant a (terms a)
    terms (Typed at ctype parens constant (tree.Integer sign a b)) = plain.of_integers s t fits n at ctype parens constant sign a b (terms a) (terms b)
    terms (Typed at ctype parens constant (tree.Shift back size a b)) = plain.of_shift s t fits n at ctype parens constant back size a b (terms a) (terms b)
    terms (Typed at ctype parens constant (tree.Difference size a b)) = plain.of_difference s t fits n at ctype parens constant size a b (terms a) (terms b)
    terms (Typed at ctype parens constant (tree.Compare sign a b)) = plain.of_compare s t fits n at ctype parens constant sign a b (terms a) (terms b)
    terms (Typed at ctype parens constant (tree.Logical sign a b)) = other.of_logical s t fits n at ctype parens constant sign a b (terms a) (terms b)
    terms (Typed at ctype parens constant (tree.Conditional c a b)) = other.of_conditional s t fits n at ctype parens constant c a b (terms c) (terms a) (terms b)
    terms (Typed at ctype parens constant (tree.Comma a b)) = plain.of_comma s t fits n at ctype parens constant a b (terms a) (terms b)
    terms (Typed at ctype parens constant (tree.Assign l a)) = other.of_assign s t fits n at ctype parens constant l a (places l) (terms a)
    terms (Typed at ctype parens constant (tree.Compound sign kind l a)) = other.of_compound s t fits n at ctype parens constant sign kind l a (places l) (terms a)
    terms (Typed at ctype parens constant (tree.CompoundShift back size l a)) = other.of_compound_shift s t fits n at ctype parens constant back size l a (places l) (terms a)
    terms (Typed at ctype parens constant (tree.Step sign time kind l)) = other.of_step s t fits n at ctype parens constant sign time kind l (places l)
    terms (Typed at ctype parens constant (tree.StepPointer sign time size l)) = other.of_pointer_step s t fits n at ctype parens constant sign time size l (places l)
    terms (Typed at ctype parens constant (tree.Struct l)) = plain.of_struct s t fits n at ctype parens constant l (places l)
    terms (Typed at ctype parens constant (tree.Call function args is_used)) = other.of_call s t fits n at ctype parens constant function args is_used (lists args)
    terms (Typed at ctype parens constant (tree.Library function args target)) = other.of_library s t fits n at ctype parens constant function args target (lists args)

    pub places : (l : LvalueTree) → AboutPlace s t n l
    places (Designates at ctype parens (tree.Object o)) = plain.of_object s t fits n at ctype parens o
    places (Designates at ctype parens (tree.Literal i)) = plain.of_literal s t fits n at ctype parens i
    places (Designates at ctype parens (tree.Target e)) = plain.of_target s t fits n at ctype parens e (terms e)
    places (Designates at ctype parens (tree.Member outer offset)) = plain.of_member s t fits n at ctype parens outer offset (places outer)
    places (Designates at ctype parens (tree.Copied target source)) = plain.of_copied s t fits n at ctype parens target source (places target) (places source)
    places (Designates at ctype parens (tree.Then left right)) = plain.of_then s t fits n at ctype parens left right (terms left) (places right)

    pub lists : (args : TermTrees) → AboutAll s t n args
    lists tree.End = about_none s t n
    lists (tree.More e rest) = about_more s t n e rest (terms e) (lists rest)
