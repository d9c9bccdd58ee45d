-- What stands behind the front of proper terminals is proper.
use Rattle.std.proofs.Common.{◌≡◌, ℕ, zero, suc, List, [], ◌∷◌, refl, sym, subst}
use Rattle.cc_base.specs.declared.diagnostics.Place.{Place}
use Rattle.c_layout.specs.declared.data_model.Model.{Model}
use Rattle.c_parser_tokens.specs.declared.terminals.Terminal.{Terminal}
use Rattle.c_parser_tokens.specs.declared.terminals.Keyword.{Keyword}
use Rattle.c_parser_tokens.specs.declared.terminals.Punctuator.{Punctuator}
use Rattle.c_parser_expression_grammar.specs.Fronts.{behind_first, IsSign, IsWord, IsName, IsTypedefName}
use Rattle.c_parser_expression_grammar.specs.TypeNames.{Qualifiers, IsStar, Stars}
use Rattle.c_types_well_formed_units.specs.Trees.ByteTokens.{AreProperTerminals}

module _ (m : Model) where
  pub behind : (ts rest : List Terminal) → rest ≡ behind_first ts → AreProperTerminals m ts → AreProperTerminals m rest
  behind [] rest is h = subst (AreProperTerminals m) (sym is) h
  behind (t ∷ ts) rest is h = subst (AreProperTerminals m) (sym is) h.1

  pub same : (ts rest : List Terminal) → rest ≡ ts → AreProperTerminals m ts → AreProperTerminals m rest
  same ts rest is h = subst (AreProperTerminals m) (sym is) h

  pub sign : (s : Punctuator) (ts rest : List Terminal) → IsSign s ts rest → AreProperTerminals m ts → AreProperTerminals m rest
  sign s ts rest is h = behind ts rest is.behind h

  pub word : (w : Keyword) (ts rest : List Terminal) → IsWord w ts rest → AreProperTerminals m ts → AreProperTerminals m rest
  word w ts rest is h = behind ts rest is.behind h

  pub name : (known : List (List ℕ)) (at : Place) (text : List ℕ) (ts rest : List Terminal) → IsName known at text ts rest → AreProperTerminals m ts → AreProperTerminals m rest
  name known at text ts rest is h = behind ts rest is.behind h

  pub typedef_name : (known : List (List ℕ)) (at : Place) (text : List ℕ) (ts rest : List Terminal) → IsTypedefName known at text ts rest → AreProperTerminals m ts → AreProperTerminals m rest
  typedef_name known at text ts rest is h = behind ts rest is.behind h

  -- ---- stars

  qualified : (n : ℕ) (ts rest : List Terminal) → Qualifiers n ts rest → AreProperTerminals m ts → AreProperTerminals m rest
  qualified zero ts rest is h = same ts rest is h
  qualified (suc n) ts rest is h = qualified n (behind_first ts) rest is.1 (behind ts (behind_first ts) refl h)

  star : (n : ℕ) (ts rest : List Terminal) → IsStar n ts rest → AreProperTerminals m ts → AreProperTerminals m rest
  star n ts rest is h = qualified n is.behind rest is.qualified (behind ts is.behind is.star.behind h)

  pub stars : (ns : List ℕ) (ts rest : List Terminal) → Stars ns ts rest → AreProperTerminals m ts → AreProperTerminals m rest
  stars [] ts rest is h = same ts rest is h
  stars (n ∷ ns) ts rest is h = stars ns is.0 rest is.2 (star n ts is.0 is.1 h)
