use Rattle.std.proofs.lemmas.Result.{IfOk-weaker}
use Rattle.std.proofs.Common.{◌∙◌, ap, map, vec_items}
use Rattle.c_types_scopes.proofs.NameTexts.{place-in_texts, key-in_texts}
use Rattle.c_types_scopes.proofs.name_numbers.NameNumbers.number.Goals as goal

pub returns-clause-number : goal.returns-clause-number
returns-clause-number c =
    IfOk-weaker c.short.result _ _ (λ n h. h ∙ c.in_ok-number.ensures.index ∙ place-in_texts c.in_ok-key.key.items c.args.text.now c.args.self.now.texts.keys c.in_ok-key.ensures.items) c.short.ensures

pub returns-clause-texts : goal.returns-clause-texts
returns-clause-texts c =
    IfOk-weaker c.short.result _ _ (λ n h. ap (map vec_items) c.in_ok-number.ensures.keys ∙ key-in_texts c.in_ok-key.key c.args.text.now c.args.self.now.texts.keys c.in_ok-key.ensures.items) c.short.ensures
