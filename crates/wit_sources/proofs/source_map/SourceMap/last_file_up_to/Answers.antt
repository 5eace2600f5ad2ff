use Rattle.std.proofs.Common.{◌∙◌, leb, ap, sym, subst, arith, rules, leb-true, leb-false, option_and_then, find}
use Rattle.std.proofs.lemmas.List.Sorted.{IsPartitionPoint-from_clause, IsPartitionedBy-leb}
use Rattle.wit_sources.specs.Locations.{has_position}
use Rattle.wit_sources.specs.SourceMap.{AreLaidOut, Sources}
use Rattle.wit_sources.specs.declared.source_map.SourceFile.{SourceFile}
use Rattle.wit_sources.specs.steps.Locations.{if_it_has}
use Rattle.wit_sources.proofs.FileSearch.{found_last, last_taken, starts_rise}
use Rattle.wit_sources.proofs.source_map.SourceMap.last_file_up_to.Goals as goal

pub returns : goal.returns
returns c =
    let files = c.as_slice-files.result.now in
    let position = c.args.position in
    let count = c.partition_point-count.result in
    let laid : AreLaidOut 0 files c.self.inside.end = subst (λ xs. AreLaidOut 0 xs c.self.inside.end) (sym c.as_slice-files.ensures.value) c.self.invariant in
    let parted = IsPartitionedBy-leb (λ (file : SourceFile). file.start) files position (starts_rise 0 c.self.inside.end files laid) in
    let point = IsPartitionPoint-from_clause (λ (file : SourceFile). leb file.start position) files count c.partition_point-count.ensures.partitioned parted (λ a r q k. search rules) in
    ap (λ (s : Sources). find (has_position position) s.files) (sym c.self.view_is)
    ∙ ap (find (has_position position)) (sym c.as_slice-files.ensures.value)
    ∙ found_last position 0 c.self.inside.end files count laid c.partition_point-count.ensures.bound
    (λ k d h. leb-true _ _ (point.0 k d (omega arith) h)) (λ k d h within. leb-false _ _ (point.1 k d h within))
    ∙ ap (option_and_then (if_it_has position)) (sym (last_taken count files c.partition_point-count.ensures.bound) ∙ sym c.last.ensures.value)
