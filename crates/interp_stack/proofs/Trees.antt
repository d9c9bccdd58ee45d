-- What the trees of terms and of lvalues say at once.
use Rattle.std.proofs.Common.{◌≡◌, rules}
use Rattle.c_layout.specs.Types.{view}
use Rattle.c_layout.specs.CheckedTrees.{term_tree, lvalue_tree}
use Rattle.c_layout.specs.declared.checked_tree.checked_terms.CheckedTerm.{CheckedTerm}
use Rattle.c_layout.specs.declared.checked_tree.checked_terms.CheckedTerm as of_term
use Rattle.c_layout.specs.declared.checked_tree.checked_terms.Lvalue.{Lvalue}
use Rattle.c_layout.specs.declared.checked_tree.checked_terms.Lvalue as of_lvalue
use Rattle.lower_templates.specs.Worklist.TermKinds.{term_type, lvalue_at, lvalue_type}

pub type_of_term : (e : CheckedTerm) → term_type (term_tree e) ≡ view e.ctype
type_of_term e = search (rules, of_term.the_lemmas)

pub type_of_lvalue : (l : Lvalue) → lvalue_type (lvalue_tree l) ≡ view l.ctype
type_of_lvalue l = search (rules, of_lvalue.the_lemmas)

pub place_of_lvalue : (l : Lvalue) → lvalue_at (lvalue_tree l) ≡ l.place
place_of_lvalue l = search (rules, of_lvalue.the_lemmas)
