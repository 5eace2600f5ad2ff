use Rattle.std.proofs.Common.{Ok, subst}
use Rattle.wit_sources.specs.SourceMap.{Sources}
use Rattle.wit_resolve_graph.specs.Sources.{MayParse}
use Rattle.wit_resolve_graph.proofs.resolve.Resolve.push_source.Goals as goal

pub returns-in_ok-push_group-in-Ok-clause-ok : goal.returns-in_ok-push_group-in-Ok-clause-ok
returns-in_ok-push_group-in-Ok-clause-ok g c = record {
  group = c.in-Ok.group;
  fits = c.in_ok-source_map.ensures.fits;
  given = subst (λ (s : Sources). g.F.FnOnce.post c.args.parse (s, tt) (Ok c.in-Ok.group)) c.in_ok-source_map.ensures.ok c.in-Ok.ensures;
  pushes = record { pushes = c.in_ok-push_group-in-Ok.ensures.ok; accepted = c.in_ok-push_group-in-Ok.ensures.refuses };
}

pub returns-in_ok-push_group-in-Ok-clause-refuses : goal.returns-in_ok-push_group-in-Ok-clause-refuses
returns-in_ok-push_group-in-Ok-clause-refuses g c = λ all.
    let given : MayParse g.F.FnOnce c.args.parse c.args.path.now c.args.contents.now (Ok c.in-Ok.group) =
    subst (λ (s : Sources). g.F.FnOnce.post c.args.parse (s, tt) (Ok c.in-Ok.group)) c.in_ok-source_map.ensures.ok c.in-Ok.ensures in
    let cause = all c.in-Ok.group given in
    c.in_ok-push_group-in-Ok.ensures.refuses cause.0 cause.1
