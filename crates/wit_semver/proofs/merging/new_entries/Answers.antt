use Rattle.std.proofs.Common.{◌≡◌, ◌∙◌, ◌++◌, ℕ, List, ap, subst}
use Rattle.std.specs.List.{flat_map}
use Rattle.wit_elaboration.specs.Entries.{Entry}
use Rattle.wit_semver.specs.SemverMerged.{SemverMerge, entry_types, kept_imports, newest_type, types_of_new_entries}
use Rattle.wit_semver.specs.steps.Replacing.{IsFilled, semver_merge_of}
use Rattle.wit_semver.proofs.NewEntries.{following_is}
use Rattle.wit_semver.proofs.merging.new_entries.Goals as goal

-- the types of the imports that stay and of the exports are all that may name others
module _ (u : SemverMerge) (imports : List Entry) (stay : imports ≡ kept_imports u) (ids : List ℕ) (are : ids ≡ flat_map (entry_types u.graph.interfaces) imports ++ flat_map (entry_types u.graph.interfaces) u.world.exports) where
  ids_are : ids ≡ types_of_new_entries u
  ids_are = following_is u ids (are ∙ ap (λ (es : List Entry). flat_map (entry_types u.graph.interfaces) es ++ flat_map (entry_types u.graph.interfaces) u.world.exports) stay)

pub returns : goal.returns
returns c =
    let u = semver_merge_of c.args.plan.now in
    let are = ids_are u c.in_ok-imports.imports c.in_ok-imports.ensures c.in_ok-types.types c.in_ok-types.ensures in
    record {
      imports_are = c.in_ok-imports.ensures;
      types_are = are;
      targets_are = subst (λ (xs : List ℕ). IsFilled (newest_type u) xs c.in_ok-targets.targets) are c.in_ok-targets.ensures;
    }
