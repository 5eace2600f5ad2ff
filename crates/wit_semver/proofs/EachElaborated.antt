-- Each world after the merge is the elaboration of its list.
use Rattle.std.proofs.Common.{◌≡◌, ◌∙◌, ℕ, Option, Some, slice_get, sym, subst}
use Rattle.std.specs.Option.{option_map_or}
use Rattle.wit_names.specs.declared.track.TrackRule.{TrackRule}
use Rattle.wit_data.specs.declared.world.World.{World}
use Rattle.wit_elaboration.specs.Elaborated.{Elaborated}
use Rattle.wit_elaboration.specs.Elaboration.{graph_uses}
use Rattle.wit_elaboration.specs.laws.ElaborationLaws.{ConflictsAreRefused}
use Rattle.wit_elaboration.specs.Valid.{IsValid}
use Rattle.wit_graph_data.specs.declared.graph.Graph.{Graph}
use Rattle.wit_graph_theory.specs.facts.ListFacts.{at_map}
use Rattle.wit_elaboration.specs.AllElaborated.{all_elaborated, elaborated_world}
use Rattle.wit_semver.specs.SemverMerged.{semver_merged, with_new_entries, with_new_entries_at, SemverMerge, SemverMergeIsAccepted}
use Rattle.wit_semver.specs.facts.Accepting.{elaborates, semver_merged_is}

some_same : (x y : World) → Some x ≡ Some y → x ≡ y
some_same x y same = cc

pub worlds_are_elaborated : ConflictsAreRefused → (rule : TrackRule) (g : Graph) (w : ℕ) (old : World) (v : ℕ) (listed new : World) → IsValid g → slice_get g.worlds w ≡ Some old → SemverMergeIsAccepted rule g w
    → slice_get (with_new_entries rule g w).worlds v ≡ Some listed → slice_get (semver_merged rule g w).worlds v ≡ Some new → Elaborated (semver_merged rule g w).types (graph_uses (semver_merged rule g w)) listed new
worlds_are_elaborated refused rule g w old v listed new valid there accepted at is =
    let u : SemverMerge = record { rule = rule; graph = g; world = old } in
    let now = semver_merged_is rule g w old there in
    let here : slice_get (with_new_entries_at u w).worlds v ≡ Some listed =
    subst (λ (o : Option World). slice_get (option_map_or (λ (world : World). with_new_entries_at (record { rule = rule; graph = g; world = world }) w) o g).worlds v ≡ Some listed) there at in
    let made : slice_get (all_elaborated (with_new_entries_at u w)).worlds v ≡ Some new = subst (λ (x : Graph). slice_get x.worlds v ≡ Some new) now is in
    let same : new ≡ elaborated_world (with_new_entries_at u w) listed = some_same new (elaborated_world (with_new_entries_at u w) listed) (sym made ∙ at_map (elaborated_world (with_new_entries_at u w)) (with_new_entries_at u w).worlds v listed here) in
    subst (λ (x : Graph). Elaborated x.types (graph_uses x) listed new) (sym now)
    (subst (λ (x : World). Elaborated (with_new_entries_at u w).types (graph_uses (with_new_entries_at u w)) listed x) (sym same) (elaborates u valid w there accepted refused v listed here))
