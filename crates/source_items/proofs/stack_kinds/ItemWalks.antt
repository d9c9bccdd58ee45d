-- Items one after the other, from tags of the pending values to others, by what each item does.
use Rattle.std.proofs.Common.{◌≡◌, Bool, true, false, List, [], ◌∷◌, ◌++◌, append_assoc, refl, ap, sym, subst}
use Rattle.semantics.specs.SourceMachine.Items as item
use Rattle.semantics.specs.SourceMachine.Items.{Item, Items, items_of, listed}
use Rattle.semantics.specs.SourceMachine.TermItems.{if_used}

-- what an item does to the tags of values, where others follow it, what items do, and what those of a choice do
pub record Walk : Type 1 where
  pub Tag : Type 0
  pub Effect : Item → List Item → List Tag → List Tag → Type 0
  pub Does : List Item → List Tag → List Tag → Type 0
  pub AllDo : Items → List Item → List Tag → List Tag → Type 0
  pub next : (i : Item) (items : List Item) (before mid after : List Tag) → Effect i items before mid → Does items mid after → Does (i ∷ items) before after
  pub none : (rest : List Item) (before after : List Tag) → before ≡ after → AllDo item.Nothing rest before after
  pub none_is : (rest : List Item) (before after : List Tag) → AllDo item.Nothing rest before after → before ≡ after
  pub more : (i : Item) (items : Items) (rest : List Item) (before mid after : List Tag) → Effect i (listed items ++ rest) before mid → AllDo items rest mid after → AllDo (item.First i items) rest before after
  pub more_is : (i : Item) (items : Items) (rest : List Item) (before after : List Tag) → AllDo (item.First i items) rest before after → (mid : List Tag) × Effect i (listed items ++ rest) before mid × AllDo items rest mid after

-- the tags of the values where one more was to be used or not
abbrev pub with_value : {A : Type 0} → Bool → A → List A → List A
with_value true k ks = k ∷ ks
with_value false k ks = ks

listed_of : (items : List Item) → listed (items_of items) ≡ items
listed_of [] = refl
listed_of (i ∷ items) = ap (λ rest. i ∷ rest) (listed_of items)

module _ (w : Walk) where
  -- from tags to others, where such items follow
  abbrev pub Through : List Item → List Item → List w.Tag → List w.Tag → Type 0
  Through [] rest before after = before ≡ after
  Through (i ∷ items) rest before after = (mid : List w.Tag) × w.Effect i (items ++ rest) before mid × Through items rest mid after

  -- whatever follows
  abbrev pub Leads : List Item → List w.Tag → List w.Tag → Type 0
  Leads items before after = (rest : List Item) → Through items rest before after

  -- ---- parts of lists

  pub does_from : (items : List Item) (before other after : List w.Tag) → before ≡ other → w.Does items other after → w.Does items before after
  does_from items before other after same does = subst (λ ks. w.Does items ks after) (sym same) does

  pub through_does : (items rest : List Item) (before mid after : List w.Tag) → Through items rest before mid → w.Does rest mid after → w.Does (items ++ rest) before after
  through_does [] rest before mid after same does = does_from rest before mid after same does
  through_does (i ∷ items) rest before mid after through does = w.next i (items ++ rest) before through.0 after through.1 (through_does items rest through.0 mid after through.2 does)

  pub listed_does : (items : Items) (rest : List Item) (before mid after : List w.Tag) → w.AllDo items rest before mid → w.Does rest mid after → w.Does (listed items ++ rest) before after
  listed_does item.Nothing rest before mid after all does = does_from rest before mid after (w.none_is rest before mid all) does
  listed_does (item.First i items) rest before mid after all does =
      let x = w.more_is i items rest before mid all in
      w.next i (listed items ++ rest) before x.0 after x.1 (listed_does items rest x.0 mid after x.2 does)

  pub all_through : (items rest : List Item) (before after : List w.Tag) → Through items rest before after → w.AllDo (items_of items) rest before after
  all_through [] rest before after same = w.none rest before after same
  all_through (i ∷ items) rest before after through =
      w.more i (items_of items) rest before through.0 after (subst (λ xs. w.Effect i (xs ++ rest) before through.0) (sym (listed_of items)) through.1) (all_through items rest through.0 after through.2)

  pub through_both : (items others rest : List Item) (before mid after : List w.Tag) → Through items (others ++ rest) before mid → Through others rest mid after → Through (items ++ others) rest before after
  through_both [] others rest before mid after same other = subst (λ ks. Through others rest ks after) (sym same) other
  through_both (i ∷ items) others rest before mid after one other = (one.0, subst (λ xs. w.Effect i xs before one.0) (sym (append_assoc items others rest)) one.1, through_both items others rest one.0 mid after one.2 other)

  -- ---- items before others

  pub leads_both : (items others : List Item) (before mid after : List w.Tag) → Leads items before mid → Leads others mid after → Leads (items ++ others) before after
  leads_both items others before mid after one other rest = through_both items others rest before mid after (one (others ++ rest)) (other rest)

  pub leads_to : (items : List Item) (before after others : List w.Tag) → after ≡ others → Leads items before after → Leads items before others
  leads_to items before after others same leads rest = subst (λ ks. Through items rest before ks) same (leads rest)

  pub leads_if_used : (used : Bool) (k : w.Tag) (ks : List w.Tag) (items : List Item) → ((rest : List Item) → w.Effect item.Drop rest (k ∷ ks) ks) → Leads items ks (k ∷ ks) → Leads (if_used used items) ks (with_value used k ks)
  leads_if_used true k ks items drop leads = leads
  leads_if_used false k ks items drop leads = leads_both items (item.Drop ∷ []) ks (k ∷ ks) ks leads (λ rest. (ks, drop rest, refl))
