-- The edges of a program are numbered by the blocks that they leave.
use Rattle.std.proofs.Common.{◌≡◌, ℕ, zero, suc, ◌+◌, ◌-◌, Bool, true, false, cond, List, [], ◌∷◌, ◌++◌, length, refl, arith, ap, sym, subst, ◌∙◌, append_assoc, length-append}
use Rattle.std.proofs.lemmas.List.{map-append, length-map}
use Rattle.lower_templates.specs.Worklist.Acts.{Step}
use Rattle.lower_templates.specs.Views.ProgramViews.{BlockView, EdgeView}
use Rattle.lower.specs.Inlining.Inlinings.{ended_block, resolved_edge, resolved, head_set, head_if, with_heads}
use Rattle.lower.specs.Inlining.WellMade.{AllFrom, Leave, head_at}

append_none : {A : Type 0} (xs : List A) → xs ++ [] ≡ xs
append_none [] = refl
append_none (x ∷ xs) = ap (λ ys. x ∷ ys) (append_none xs)

-- blocks with all their edges, of which none is a head yet
pub record Whole (blocks : List BlockView) (edges : List EdgeView) : Type 0 where
  pub leave : Leave 0 0 blocks edges
  pub plain : (n : ℕ) → head_at blocks n ≡ false

-- the same, and behind them some edges of the next block
pub record Edging (first at : ℕ) (blocks : List BlockView) (edges : List EdgeView) : Type 0 where
  pub before : List EdgeView
  pub own : List EdgeView
  pub leave : Leave 0 0 blocks before
  pub plain : (n : ℕ) → head_at blocks n ≡ false
  pub all : edges ≡ before ++ own
  pub from : AllFrom at own
  pub is_first : first ≡ length before
  pub is_at : at ≡ length blocks

pub begun : (blocks : List BlockView) (edges : List EdgeView) → Whole blocks edges → Edging (length edges) (length blocks) blocks edges
begun blocks edges w = record { before = edges; own = []; leave = w.leave; plain = w.plain; all = sym (append_none edges); from = tt; is_first = refl; is_at = refl }

from_more : (at : ℕ) (es : List EdgeView) (e : EdgeView) → AllFrom at es → e.from ≡ at → AllFrom at (es ++ e ∷ [])
from_more at [] e from is = (is, tt)
from_more at (d ∷ es) e (one, from) is = (one, from_more at es e from is)

pub one_edge : (first at : ℕ) (blocks : List BlockView) (edges : List EdgeView) (e : EdgeView) → e.from ≡ at → Edging first at blocks edges → Edging first at blocks (edges ++ e ∷ [])
one_edge first at blocks edges e is g = record {
  before = g.before;
  own = g.own ++ e ∷ [];
  leave = g.leave;
  plain = g.plain;
  all = ap (λ es. es ++ e ∷ []) g.all ∙ append_assoc g.before g.own (e ∷ []);
  from = from_more at g.own e g.from is;
  is_first = g.is_first;
  is_at = g.is_at;
}

plain_more : (bs : List BlockView) (b : BlockView) → ((n : ℕ) → head_at bs n ≡ false) → b.is_head ≡ false → (n : ℕ) → head_at (bs ++ b ∷ []) n ≡ false
plain_more [] b plain is zero = is
plain_more [] b plain is (suc n) = refl
plain_more (c ∷ bs) b plain is zero = plain 0
plain_more (c ∷ bs) b plain is (suc n) = plain_more bs b (λ k. plain (suc k)) is n

leave_more : (at first : ℕ) (bs : List BlockView) (b : BlockView) (before own : List EdgeView) → Leave at first bs before → AllFrom (at + length bs) own → b.first_edge ≡ first + length before → b.edges ≡ length own → Leave at first (bs ++ b ∷ []) (before ++ own)
leave_more at first [] b before own none from is_first count =
    let here : at + 0 ≡ at = omega arith in
    let start : first + 0 ≡ first = omega arith in
    (own, [], ap (λ es. es ++ own) none ∙ sym (append_none own), is_first ∙ ap (λ es. first + length es) none ∙ start, count, subst (λ k. AllFrom k own) here from, refl)
leave_more at first (c ∷ bs) b before own (mine, rest, all, begins, has, from_c, more) from is_first count =
    let next : at + suc (length bs) ≡ at + 1 + length bs = omega arith in
    let far : first + (length mine + length rest) ≡ first + length mine + length rest = omega arith in (
      mine,
      rest ++ own,
      ap (λ es. es ++ own) all ∙ append_assoc mine rest own,
      begins,
      has,
      from_c,
      leave_more (at + 1) (first + length mine) bs b rest own more (subst (λ k. AllFrom k own) next from) (is_first ∙ ap (λ es. first + length es) all ∙ ap (λ n. first + n) (length-append mine rest) ∙ far) count,
    )

counted : (first total before own : ℕ) → first ≡ before → total ≡ before + own → total - first ≡ own
counted first total before own a b = omega arith

pub ended : (first at : ℕ) (blocks : List BlockView) (edges : List EdgeView) (steps : List Step) → Edging first at blocks edges → Whole (blocks ++ ended_block steps first (length edges - first) ∷ []) edges
ended first at blocks edges steps g =
    let here : 0 + length blocks ≡ length blocks = omega arith in
    let start : 0 + length g.before ≡ length g.before = omega arith in
    let count = counted first (length edges) (length g.before) (length g.own) g.is_first (ap length g.all ∙ length-append g.before g.own) in
    record {
      leave = subst (λ es. Leave 0 0 (blocks ++ ended_block steps first (length edges - first) ∷ []) es) (sym g.all)
          (leave_more 0 0 blocks (ended_block steps first (length edges - first)) g.before g.own g.leave (subst (λ k. AllFrom k g.own) (g.is_at ∙ sym here) g.from) (g.is_first ∙ sym start) count);
      plain = plain_more blocks (ended_block steps first (length edges - first)) g.plain refl;
    }

from_resolved : (labels : List ℕ) (at : ℕ) (es : List EdgeView) → AllFrom at es → AllFrom at (resolved labels es)
from_resolved labels at [] from = tt
from_resolved labels at (e ∷ es) (one, from) = (one, from_resolved labels at es from)

-- edges that lead to blocks in place of labels leave the same blocks
pub leave_resolved : (labels : List ℕ) (at first : ℕ) (bs : List BlockView) (es : List EdgeView) → Leave at first bs es → Leave at first bs (resolved labels es)
leave_resolved labels at first [] es none = ap (resolved labels) none
leave_resolved labels at first (b ∷ bs) es (own, rest, all, begins, has, from, more) =
    let same = length-map own (resolved_edge labels) in (
      resolved labels own,
      resolved labels rest,
      ap (resolved labels) all ∙ map-append (resolved_edge labels) own rest,
      begins,
      has ∙ sym same,
      from_resolved labels at own from,
      subst (λ n. Leave (at + 1) (first + n) bs (resolved labels rest)) (sym same) (leave_resolved labels (at + 1) (first + length own) bs rest more),
    )

leave_head : (at first : ℕ) (bs : List BlockView) (n : ℕ) (es : List EdgeView) → Leave at first bs es → Leave at first (head_set bs n) es
leave_head at first [] n es none = none
leave_head at first (b ∷ bs) zero es l = l
leave_head at first (b ∷ bs) (suc n) es (own, rest, all, begins, has, from, more) = (own, rest, all, begins, has, from, leave_head (at + 1) (first + length own) bs n rest more)

pub cond_keeps : {A : Type 0} (P : A → Type 0) (b : Bool) (x y : A) → P x → P y → P (cond b x y)
cond_keeps P true x y p q = p
cond_keeps P false x y p q = q

pub leave_heads : (hs : List EdgeView) (bs : List BlockView) (es : List EdgeView) → Leave 0 0 bs es → Leave 0 0 (with_heads hs bs) es
leave_heads [] bs es l = l
leave_heads (h ∷ hs) bs es l = leave_heads hs (head_if h bs) es (cond_keeps (λ cs. Leave 0 0 cs es) _ (head_set bs h.to) bs (leave_head 0 0 bs h.to es l) l)
