use Rattle.std.proofs.Common.{◌≡◌, ◌<◌, ℕ, List, Some, slice_get}
use Rattle.wit_data.specs.Foreign.{ForeignItem}
use Rattle.wit_names.specs.declared.package_name.PackageName.{PackageName}
use Rattle.wit_link.proofs.refusal.dependency_span.Given as goal

-- none so far has this name
abbrev pub invariant-loop-place : goal.invariant-loop-place
invariant-loop-place l = (k : ℕ) (e : PackageName × List ForeignItem) → k < l.place → slice_get l.«package».foreign_deps k ≡ Some e → e.0 ≡ l.name → ⊥
