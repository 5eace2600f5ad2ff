use Rattle.std.proofs.Common.{ℕ, List, [], ap, codes, inl, inr, refl}
use Rattle.std.specs.Fmt.{digits}
use Rattle.wit_digraph.specs.PostOrder.{post_order, post_order_within}
use Rattle.wit_values.specs.facts.Lists.{differ}
use Rattle.wit_graph_data.specs.declared.error_kind.ResolveErrorKind.TheVariants.{OutOfMemory}
use Rattle.wit_json_commands.specs.declared.commands.questions.Question.TheVariants as question
use Rattle.wit_json_commands.specs.Tells.{AnswersQuestion}
use Rattle.wit_json_commands.specs.Refusals.{rendered}
use Rattle.wit_json_commands.specs.declared.replies.answers.Answer.{Answer}
use Rattle.wit_json_commands.specs.declared.replies.answers.Answer.TheVariants as answer
use Rattle.examples_json.specs.runs.Questions.{asked_graph, no_files, refused_28}
use Rattle.examples_json.proofs.runs.examples_of_refused_questions.Goals as goal

-- what a refusal shows, nothing of another answer
abbrev shown : Answer → List ℕ
shown (answer.Refused refusal) = refusal.rendered
shown _ = []

no_other : AnswersQuestion asked_graph no_files question.PackageOrder (refused_28 (codes "select")) → ⊥
unfolding digits post_order post_order_within
no_other (inl same) = cc
no_other (inr same) =
    differ (rendered asked_graph no_files (codes "select") [] OutOfMemory)
    (rendered asked_graph no_files (codes "package-order") [] OutOfMemory) refl (ap shown same)

nothing : AnswersQuestion asked_graph no_files question.PackageOrder answer.NotFound → ⊥
nothing (inl same) = cc
nothing (inr same) = cc

pub returns : goal.returns
unfolding digits post_order post_order_within
returns c = record {
  told = inl refl;
  refused_ = inr refl;
  no_other_word = no_other;
  not_nothing = nothing;
  rendered_ = refl;
}
