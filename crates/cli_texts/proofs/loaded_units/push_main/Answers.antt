use Rattle.std.proofs.Common.{codes}
use Rattle.std.proofs.lemmas.Result.{IfOk-weaker}
use Rattle.cli_texts.specs.LoadUnits.{calls_from}
use Rattle.cli_texts.proofs.Lines.{three_pieces}
use Rattle.cli_texts.proofs.loaded_units.push_main.Goals as goal

pub returns : goal.returns
returns c = IfOk-weaker c.push_text-2.result _ _ (λ x g. three_pieces c.args.text.now.items (codes "int main(void){") (calls_from 0 c.args.count) (codes "return 0;}\n") c.push_text.new.text.items c.push_calls.new.text.items c.push_text-2.new.text.items c.in_ok-push_text.ensures c.in_ok-push_calls.ensures g) c.push_text-2.ensures
