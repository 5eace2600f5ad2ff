use Rattle.std.proofs.Common.{◌≡◌, ℕ, List, refl, sym}
use Rattle.std.specs.Fmt.{digits}
use Rattle.wit_digraph.specs.PostOrder.{post_order, post_order_within}
use Rattle.wit_values.specs.facts.Lists.{differ}
use Rattle.wit_json_commands.specs.declared.replies.answers.Answer.TheVariants as answer
use Rattle.examples_json.proofs.runs.examples_of_questions.Goals as goal

text_inside : {a b : List ℕ} → answer.Text a ≡ answer.Text b → a ≡ b
text_inside same = cc

pub returns : goal.returns
unfolding digits post_order post_order_within
returns c = record {
  both = refl;
  not_one = λ same. cc;
  not_all = refl;
  no_name = refl;
  of_interface = refl;
  of_none = refl;
  no_interface = refl;
  no_home = refl;
  of_package = refl;
  no_package = refl;
  order = refl;
  not_by_id = λ same. cc;
  canonical = refl;
  not_whole = λ same. differ _ _ refl (sym (text_inside same));
  nowhere = refl;
  future = refl;
  no_future = refl;
  of_export = refl;
  not_imported = refl;
  not_of_interface = refl;
}
