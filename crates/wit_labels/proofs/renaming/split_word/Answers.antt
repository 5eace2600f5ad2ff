use Rattle.std.proofs.Common.{None, Some, lit<}
use Rattle.std.proofs.lemmas.Str.Pattern.{split_once_first}
use Rattle.wit_labels.proofs.NewLabels.{none_after, whole_word}
use Rattle.wit_labels.proofs.renaming.split_word.Goals as goal

pub returns-in-Some-clause-word : goal.returns-in-Some-clause-word
returns-in-Some-clause-word c = (split_once_first 46 c.args.rest.now (Some (c.in-Some.word, c.in-Some.field-0-1)) c.in-Some.ensures.cases (lit< tt)).1

pub returns-in-None-clause-word : goal.returns-in-None-clause-word
returns-in-None-clause-word c = whole_word c.args.rest.now (split_once_first 46 c.args.rest.now None c.in-None.ensures.cases (lit< tt))

pub returns-in-None-clause-after : goal.returns-in-None-clause-after
returns-in-None-clause-after c = none_after c.args.rest.now
