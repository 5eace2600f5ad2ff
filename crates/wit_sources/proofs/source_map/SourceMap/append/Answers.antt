use Rattle.std.proofs.Common.{◌≡◌, ◌+◌, ◌^◌, ◌<◌, ◌++◌, map, add_comm, sym, subst, arith, rules}
use Rattle.wit_sources.specs.SourceMap.{AreLaidOut, moved_file}
use Rattle.wit_sources.proofs.SourceMapLemmas.{AreLaidOut-append, AreLaidOut-moved, AreLaidOut-from, moved_files_fit}
use Rattle.wit_sources.proofs.source_map.SourceMap.append.Goals as goal

pub moved_files-files-requires : goal.moved_files-files-requires
moved_files-files-requires c =
    let fits : c.self.inside.end + c.other.inside.end < 2 ^ 32 = search rules in
    moved_files_fit c.self.inside.end 0 c.other.inside.files.items c.other.inside.end c.other.invariant fits

pub invariant_of-self-2 : goal.invariant_of-self-2
invariant_of-self-2 c =
    let offset = c.self.inside.end in
    let moved = map (moved_file offset) c.other.inside.files.items in
    let files : c.append.new.self.items ≡ c.self.inside.files.items ++ moved = search rules in
    let end : c.in-Some.end ≡ c.self.inside.end + c.other.inside.end = search rules in
    let later : AreLaidOut offset moved c.in-Some.end =
    rw (end, add_comm c.self.inside.end c.other.inside.end) (AreLaidOut-from offset (0 + offset) moved (c.other.inside.end + offset) (omega arith) (AreLaidOut-moved offset 0 c.other.inside.files.items c.other.inside.end c.other.invariant)) in
    subst (λ xs. AreLaidOut 0 xs c.in-Some.end) (sym files) (AreLaidOut-append 0 offset c.self.inside.files.items moved c.in-Some.end c.self.invariant later)
