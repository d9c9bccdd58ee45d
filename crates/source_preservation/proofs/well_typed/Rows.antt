-- Worked rows: conditions, switches and declarations that are marked, and some that are not.
use Rattle.std.proofs.Common.{◌≡◌, ◌<◌, ℕ, pos, true, false, [], Some, None, inl, inr, refl, sym, subst, arith}
use Rattle.cc_base.specs.declared.diagnostics.Place.{Place}
use Rattle.cc_base.specs.declared.int_types.IntType.{IntType}
use Rattle.cc_base.specs.declared.integer_operators.Rel.TheVariants.{Lt, Ne}
use Rattle.c_layout.specs.Models.{lp64}
use Rattle.c_layout.specs.Types.{Ty, Int, Pointer}
use Rattle.c_layout.specs.CheckedTrees as tree
use Rattle.c_layout.specs.CheckedTrees.{TermTree, Typed, LvalueTree, Designates, FormTree, StatementTree}
use Rattle.c_layout.specs.CheckedUnits.{FunctionView, UnitView}
use Rattle.c_layout.specs.declared.checked_tree.checked_terms.ConversionKind.TheVariants.{Implicit}
use Rattle.c_layout.specs.declared.checked_tree.checked_terms.ObjectRef.TheVariants.{Local}
use Rattle.c_layout.specs.declared.syntax_tree.expressions.BinaryOp.TheVariants.{Less}
use Rattle.lower_conditions.specs.declared.branch_tests.NamedObject.{NamedObject}
use Rattle.lower_conditions.specs.Tests.{named}
use Rattle.cfg.specs.declared.machine_instructions.Scalar.TheVariants as of
use Rattle.semantics.specs.SourceMachine.Items as side
use Rattle.semantics.specs.SourceMachine.Items.{NamedTest}
use Rattle.semantics.specs.SourceMachine.TermTests.{test_if}
use Rattle.source_preservation.specs.ValueTyping.Marks.{Exactly, Loaded, Converted}
use Rattle.source_preservation.specs.ValueTyping.MarkOperations.{IsKind, IsWider, HasTruths, ConvertsTo}
use Rattle.source_preservation.specs.WellTyped.WellTypedTerms.{WellTypedTerm, WellTypedCondition, ComparisonTerm, TestTerm}
use Rattle.source_preservation.specs.WellTyped.WellTypedStatements.{Matches, SelectsBy, WellTypedStatement}

-- ---- the parts of small units, all at one place

abbrev here : Place
here = record { file = 0; line = 1; col = 1 }

abbrev int_kind : IntType
int_kind = record { bytes = 4; signed = true; rank = 3 }

abbrev char_kind : IntType
char_kind = record { bytes = 1; signed = true; rank = 1 }

abbrev int : Ty
int = Int int_kind

abbrev char : Ty
char = Int char_kind

abbrev term : Ty → FormTree → TermTree
term t form = Typed here t 0 None form

abbrev number : ℕ → TermTree
number n = Typed here int 0 (Some (pos n)) (tree.Number (pos n))

-- `int x;` and `char c;`
abbrev x : LvalueTree
x = Designates here int 0 (tree.Object (Local 0))

abbrev c : LvalueTree
c = Designates here char 0 (tree.Object (Local 1))

abbrev x_named : NamedObject
x_named = record { object = Local 0; kind = of.Int int_kind }

abbrev c_named : NamedObject
c_named = record { object = Local 1; kind = of.Int char_kind }

abbrev value : TermTree
value = term int (tree.Load x)

abbrev converted : Ty → TermTree → TermTree
converted t e = term t (tree.Convert Implicit e)

abbrev unit : UnitView
unit = record { functions = []; constants = []; objects = []; structs = []; literals = []; entry = 0; model = lp64 }

int_is : IsKind lp64 int_kind
int_is = record { size = refl; bytes = refl }

char_is : IsKind lp64 char_kind
char_is = record { size = refl; bytes = refl }

wider : IsWider char_kind int_kind
wider = record { least = refl; greatest = refl }

truths : HasTruths int_kind
truths = record { zero = refl; one = refl }

-- ---- `x < 5`

abbrev less : TermTree → TermTree
less a = term int (tree.Integer Less a (number 5))

less_is : WellTypedCondition unit true (less value)
less_is = (
  ((tt, int_is, refl), (int_kind, refl, refl), (int_kind, int_kind, refl, refl, (int_kind, refl, truths))),
  (Lt, Loaded x_named, Exactly (pos 5), refl, inl (inl (tt, int_is, refl)), inr (inl (pos 5, refl, refl)), record { common = int_kind; kind = int_is; is = refl; sides = inl ((refl, refl), refl, refl) }),
)

-- ---- `x` alone is a test and no comparison

abbrev not_zero : NamedTest
not_zero = record { left = side.named x_named; rel = Ne; right = side.number (pos 0); common = Some int_kind }

alone_tested : test_if unit true value ≡ Some not_zero
alone_tested = refl

alone_is : TestTerm unit value not_zero
alone_is = (Loaded x_named, inl (inl (tt, int_is, refl)), (int_kind, int_is, int_is, record { least = refl; greatest = refl }, refl))

alone_is_not : ComparisonTerm unit value not_zero → ⊥
alone_is_not compares = compares

-- ---- `(c = 300) < 5`: what is assigned is converted to char, and what is compared back to int

abbrev assigned : TermTree
assigned = term char (tree.Assign c (converted char (number 300)))

assigned_is : WellTypedTerm unit true assigned
assigned_is = (tt, (char_is, inl ((int_kind, refl, refl), refl)), char_is, refl, refl)

assigned_less_is : WellTypedCondition unit true (less (converted int assigned))
assigned_less_is = (
  ((int_is, inl (assigned_is, refl)), (int_kind, refl, refl), (int_kind, int_kind, refl, refl, (int_kind, refl, truths))),
  (Lt, Converted c_named int_kind, Exactly (pos 5), refl, inr (int_is, (Loaded c_named, refl, (char_kind, refl, refl))), inr (inl (pos 5, refl, refl)), record { common = int_kind; kind = int_is; is = refl; sides = inl ((refl, refl), refl, refl) }),
)

-- ---- `switch (c);` and `int *p = 0;`

module _ (f : FunctionView) where
  abbrev switch : TermTree → StatementTree
  switch e = tree.Switch here e [] false None tree.Nothing

  switch_is : WellTypedStatement unit f (switch (converted int (term char (tree.Load c))))
  switch_is = ((Converted c_named int_kind, (int_is, (Loaded c_named, (tt, char_is, refl), (char_kind, refl, refl))), (refl, (char_kind, refl, char_is, int_is, wider))), (λ n below rest. absurd (none n below)), tt)
    where
      none : (n : ℕ) → n < 0 → ⊥
      none n below = omega (arith, below)

  null_is : WellTypedStatement unit f (tree.Start here 0 (converted (Pointer int) (number 0)))
  null_is = ((tt, inr (refl, refl)), tt)

-- ---- a switch on an int object, converted to char, which has not all its numbers

apart : false ≡ true → ⊥
apart e = cc

same_kind : (a b : IntType) → of.Int a ≡ of.Int b → a ≡ b
same_kind a b e = cc

not_wider : IsWider int_kind char_kind → ⊥
not_wider w = apart w.least

narrow_is_not : SelectsBy unit (converted char value) (named (converted char value)) → ⊥
narrow_is_not by =
    let as_loaded : (old : IntType) × (of.Int int_kind ≡ of.Int old) × (by.0 ≡ Converted x_named char_kind) = subst (λ k. ConvertsTo lp64 (of.Int char_kind) k by.0) by.1.1.1.2 by.1.1.2 in
    let matches : Matches unit x_named (Converted x_named char_kind) = subst (Matches unit x_named) as_loaded.2 by.2 in
    not_wider (subst (λ k. IsWider k char_kind) (sym (same_kind int_kind matches.1.0 matches.1.1)) matches.1.4)
