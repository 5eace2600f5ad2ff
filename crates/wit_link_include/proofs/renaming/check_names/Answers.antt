use Rattle.std.proofs.Common.{rules, ◌≡◌, true, false, inr, length, ap, arith}
use Rattle.std.specs.List.{list_any}
use Rattle.std.specs.Str.{bytes_eq}
use Rattle.wit_graph_data.specs.declared.cause.Cause.TheVariants as cause
use Rattle.wit_graph_data.specs.declared.error_kind.ResolveErrorKind.TheVariants.{Semantic}
use Rattle.wit_link_include.proofs.Steps.{lent_at}
use Rattle.wit_link_include.proofs.Words.{first-unmatched, is-renamed, not-renamed, renamed-all, renamed-next}
use Rattle.wit_link_include.proofs.renaming.check_names.Goals as goal
use Rattle.wit_link_spec.specs.steps.Parts.{rename_text}

pub returns-then-not-contains-clause-cause : goal.returns-then-not-contains-clause-cause
returns-then-not-contains-clause-cause c =
    let absent : list_any (bytes_eq c.renaming-item.result.name) c.in_ok-words.words ≡ false = search rules in
    let is : c.in_ok-unmatched.field-0 ≡ Semantic c.args.span (rename_text c.renaming-item.result.name) cause.RenameUnmatched = search rules in
    inr (
      c.renaming-item.result,
      first-unmatched c.args.world.now c.args.names.now c.loop-renaming.renaming-index c.renaming-item.result c.loop-renaming.invariant (lent_at c.args.names.now c.as_slice-renaming-items.result.now c.loop-renaming.renaming-index c.as_slice-renaming-items.ensures c.loop-renaming-test.true c.renaming-item.result c.renaming-item.is)
          (not-renamed c.args.world.now c.in_ok-words.words c.renaming-item.result c.in_ok-words.ensures absent),
      is,
    )

pub loop-renaming-preserved : goal.loop-renaming-preserved
loop-renaming-preserved c =
    let there : list_any (bytes_eq c.renaming-item.result.name) c.in_ok-words.words ≡ true = search rules in
    renamed-next c.args.world.now c.args.names.now c.loop-renaming.renaming-index c.renaming-item.result c.loop-renaming.invariant (lent_at c.args.names.now c.as_slice-renaming-items.result.now c.loop-renaming.renaming-index c.as_slice-renaming-items.ensures c.loop-renaming-test.true c.renaming-item.result c.renaming-item.is)
    (is-renamed c.args.world.now c.in_ok-words.words c.renaming-item.result c.in_ok-words.ensures there)

pub returns-clause-fine : goal.returns-clause-fine
returns-clause-fine c = renamed-all c.args.world.now c.args.names.now c.loop-renaming.renaming-index c.loop-renaming.invariant (let past = c.loop-renaming-test.false in let long = ap length c.as_slice-renaming-items.ensures in omega arith)

pub loop-renaming-init : goal.loop-renaming-init
loop-renaming-init c = search rules
