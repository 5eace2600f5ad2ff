use Rattle.std.proofs.Common.{◌≡◌, ◌∙◌, ℕ, List, Option, Some, IfOk, slice_get, sym, ap, subst}
use Rattle.std.specs.Option.{option_map_or}
use Rattle.wit_names.specs.declared.track.TrackRule.{TrackRule}
use Rattle.wit_data.specs.declared.world.World.{World}
use Rattle.wit_elaboration.specs.Entries.{Entry}
use Rattle.wit_graph_data.specs.declared.graph.Graph.{Graph}
use Rattle.wit_semver.specs.SemverMerged.{SemverMerge, semver_merge, with_new_entries, with_new_entries_at}
use Rattle.wit_semver.specs.declared.merging.NewEntries.{NewEntries}
use Rattle.wit_semver.specs.steps.Replacing.{HasNewEntries, semver_merge_of, with_lists}
use Rattle.wit_semver.proofs.NewEntries.{relisted_is}
use Rattle.wit_semver.proofs.merging.graph_with_new_entries.Goals as goal

module _ (rule : TrackRule) (g : Graph) (w : ℕ) (world : World) (there : slice_get g.worlds w ≡ Some world) (v : SemverMerge) (of : v ≡ semver_merge rule g world) (entries : NewEntries) (told : HasNewEntries v entries) where
  abbrev u : SemverMerge
  u = semver_merge rule g world

  pub has : HasNewEntries u entries
  has = subst (λ (x : SemverMerge). HasNewEntries x entries) of told

  pub made_is : with_lists g w entries.imports entries.targets ≡ with_new_entries rule g w
  made_is =
      ap (λ (es : List Entry). with_lists g w es entries.targets) has.imports_are
      ∙ relisted_is u entries.targets has.targets_are w there
      ∙ sym (ap (λ (o : Option World). option_map_or (λ (x : World). with_new_entries_at (semver_merge rule g x) w) o g) there)

pub returns : goal.returns
returns c =
    let g = c.args.graph.now in
    let there = ap (slice_get g.worlds) (sym c.index.ensures) ∙ c.at-current.ensures in
    subst (λ (is : Graph). IfOk c.with_new_entries.result (λ (made : Graph). made ≡ is))
    (made_is c.args.rule g c.args.world c.at-current.result.now there (semver_merge_of c.in_ok-plan.plan) c.in_ok-plan.ensures.of c.in_ok-entries.entries c.in_ok-entries.ensures)
    c.with_new_entries.ensures
