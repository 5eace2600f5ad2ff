-- The files of what is read.
use Rattle.std.specs.Prelude.{◌≡◌, ⊤}
use Rattle.wit_data.specs.declared.unresolved.UnresolvedPackageGroup.{UnresolvedPackageGroup}
use Rattle.wit_groups.specs.declared.fault.GroupFault.{GroupFault}
use Rattle.wit_groups.specs.declared.fault.GroupFault.TheVariants as fault
use Rattle.wit_sources.specs.SourceMap.{Sources}

-- the files of a group
abbrev pub source_map_of : UnresolvedPackageGroup → Sources
source_map_of group = group.source_map

-- a fault of files has these files; want of memory has none
abbrev pub HasFiles : Sources → GroupFault → Type 0
HasFiles files (fault.Text source_map _ _) = source_map ≡ files
HasFiles files fault.OutOfMemory = ⊤
