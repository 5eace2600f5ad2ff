-- Questions in words, as a refusal tells what was asked.
use Rattle.std.specs.Prelude.{ℕ, List, codes}
use Rattle.wit_json_commands.specs.declared.commands.questions.Question.{Question}
use Rattle.wit_json_commands.specs.declared.commands.questions.Question.TheVariants as question

-- the word of a question
abbrev pub question_word : Question → List ℕ
question_word (question.Select packages world) = codes "select"
question_word (question.PackageDependencies home) = codes "package-dependencies"
question_word (question.InterfaceDependencies home interface) = codes "interface-dependencies"
question_word question.PackageOrder = codes "package-order"
question_word (question.CanonicalId home name) = codes "canonical-id"
question_word (question.CoreNames home world mangling) = codes "core-names"
question_word (question.FuturesAndStreams place) = codes "futures-and-streams"
