use Rattle.std.proofs.Common.{◌≡◌, Some, rules}
use Rattle.wit_data.specs.declared.world.WorldKey.TheVariants as key
use Rattle.wit_link_include.specs.steps.Included.{word_of}
use Rattle.wit_link_include.proofs.Words.{words-label}
use Rattle.wit_link_include.proofs.renaming.add_word.Goals as goal

pub returns-in_ok-insert : goal.returns-in_ok-insert
returns-in_ok-insert c =
    let called : c.args.key.now ≡ key.Name c.in-Name.label = search rules in
    let is : word_of c.in-Name.label ≡ Some c.in-Some.word.now = search rules in
    words-label c.args.words.now c.insert.new.self c.args.key.now c.in-Name.label c.in-Some.word.now called is c.in_ok-insert.ensures.ok
