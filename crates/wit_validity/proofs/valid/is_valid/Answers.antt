use Rattle.wit_elaboration.specs.facts.SoundFacts.{HasSoundEntries-of_world}
use Rattle.wit_graph_data.specs.declared.graph.Graph.{Graph}
use Rattle.wit_validity.specs.steps.Parts.{HasNamesInTables, IsOwned}
use Rattle.wit_validity.proofs.Refusals.{IfOk-weaker}
use Rattle.wit_validity.proofs.valid.is_valid.Goals as goal

pub are_canonical-requires-clause-listed : goal.are_canonical-requires-clause-listed
are_canonical-requires-clause-listed c =
    let owned : IsOwned c.args.graph.now = c.in_ok-is_owned.ensures.0 c.if-not-branch-3.false in
    λ w world at. HasSoundEntries-of_world c.args.graph.now.types c.args.graph.now.interfaces owned.references.aliases w world (owned.worlds.imports w world at) (owned.worlds.exports w world at)

pub returns-clause-holds : goal.returns-clause-holds
returns-clause-holds c =
    let g : Graph = c.args.graph.now in
    let named : HasNamesInTables g = c.in_ok-is_named.ensures.0 c.if-not-branch.false in
    let owned : IsOwned g = c.in_ok-is_owned.ensures.0 c.if-not-branch-3.false in
    IfOk-weaker c.are_canonical.result (λ b test. (
      λ passed. record {
        well_formed = record { package_names = named.package_names; tables = named.tables; owners = owned.owners; references = owned.references; worlds = owned.worlds };
        names = named.names;
        known = c.are_known.ensures.0 c.if-not-are_known.false;
        no_cycles = c.in_ok-has_no_cycles.ensures.0 c.if-not-branch-2.false;
        canonical = test.0 passed;
      },
      λ valid. test.1 valid.canonical,
    )) c.are_canonical.ensures.holds
