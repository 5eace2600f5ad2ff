-- The names that a merge brings.
use Rattle.std.proofs.Common.{ℕ, List, map, filter}
use Rattle.wit_names.specs.declared.package_name.PackageName.{PackageName}
use Rattle.wit_merge_spec.specs.Matches.{GraphMerge}
use Rattle.wit_merge_spec.specs.Merged.{merged_package}
use Rattle.wit_merge_spec.specs.steps.Parts.{moves_package}

-- the names of packages that move, with what these are remapped to
abbrev pub brought_names : GraphMerge → List (PackageName × ℕ) → List (PackageName × ℕ)
brought_names m names = map (λ (e : PackageName × ℕ). (e.0, merged_package m e.1)) (filter (λ (e : PackageName × ℕ). moves_package m e.1) names)
