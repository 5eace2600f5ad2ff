-- Parts of the definitions under names of their own, for contracts of inner functions and for proofs. Each is what stands
-- in a definition in its place, so none has to be believed.
use Rattle.std.specs.Prelude.{ℕ, List, position, filter_map, ◌⊎◌}
use Rattle.wit_data.specs.Foreign.{ForeignItem}
use Rattle.wit_names.specs.PackageName.{same_package}
use Rattle.wit_names.specs.declared.package_name.PackageName.{PackageName}
use Rattle.wit_data.specs.declared.unresolved.UnresolvedPackage.{UnresolvedPackage}
use Rattle.wit_sources.specs.Span.{OptionalSpan}
use Rattle.wit_link.specs.GroupOrder.{Unresolved, IsOnPackageCycle, PassesLastPosition, IsDefinedTwice}

-- the unresolved packages that a package names things of, in the order in which it does; one that isn't handed
-- in is passed over
abbrev pub group_deps : List PackageName → UnresolvedPackage → List ℕ
group_deps names u =
    filter_map (λ (e : PackageName × List ForeignItem). position (same_package e.0) names)
    u.foreign_deps

-- 27: a place that would be told is too far
abbrev pub HasSpanOverflow : List Unresolved → Type 0
HasSpanOverflow unresolved =
    ((name : PackageName) × (span1 : OptionalSpan) × (span2 : OptionalSpan)
    × IsDefinedTwice unresolved name span1 span2
    × (PassesLastPosition span1 ⊎ PassesLastPosition span2))
    ⊎ ((span : OptionalSpan) × (home : PackageName) × IsOnPackageCycle unresolved span home
    × PassesLastPosition span)
