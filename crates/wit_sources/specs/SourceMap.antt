-- Source maps: files that stand one after another in one row of positions.
use Rattle.std.specs.Prelude.{◌≤◌, ◌+◌, ℕ, List, [], ◌∷◌, ◌++◌, length, map, codes}
use Rattle.wit_sources.specs.declared.source_map.SourceFile.{SourceFile}
use Rattle.wit_sources.specs.declared.source_map.MapFault.{MapFault}
use Rattle.wit_sources.specs.declared.source_map.MapFault.TheVariants as fault

-- the files in order, and the position at which the next one would begin
pub record Sources : Type 0 where
  pub files : List SourceFile
  pub end : ℕ

-- the position after a file that begins at a position: it takes its length plus one
abbrev pub end_after : ℕ → List ℕ → ℕ
end_after start contents = start + length contents + 1

-- the sources with one more file at their end
abbrev pub with_file : Sources → List ℕ → List ℕ → Sources
with_file sources path contents = record {
  files = sources.files ++ record { path = path; contents = contents; start = sources.end } ∷ [];
  end = end_after sources.end contents;
}

-- the file that begins so many positions further on
abbrev pub moved_file : ℕ → SourceFile → SourceFile
moved_file offset file = record file { start = file.start + offset }

-- the sources with others after them, which move to their end
abbrev pub with_sources : Sources → Sources → Sources
with_sources sources others = record {
  files = sources.files ++ map (moved_file sources.end) others.files;
  end = sources.end + others.end;
}

-- the paths of the files, in order
abbrev pub paths_of : List SourceFile → List (List ℕ)
paths_of files = map (λ file. file.path) files

-- the path and the contents of each file, in order
abbrev pub files_of : List SourceFile → List (List ℕ × List ℕ)
files_of files = map (λ file. (file.path, file.contents)) files

-- the files stand one after another between two positions, so that no two of them have a position in common
abbrev pub AreLaidOut : ℕ → List SourceFile → ℕ → Type 0
AreLaidOut from [] end = from ≤ end
AreLaidOut from (file ∷ files) end =
    (from ≤ file.start) × AreLaidOut (end_after file.start file.contents) files end

-- what a fault says
abbrev pub map_fault_text : MapFault → List ℕ
map_fault_text fault.OffsetOverflow = codes "source positions would pass 4294967295"
map_fault_text fault.OutOfMemory = codes "out of memory"
