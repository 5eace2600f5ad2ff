-- Files, and groups of packages with theirs, read back.
use Rattle.std.proofs.Common.{◌≡◌, ◌∙◌, ℕ, ◌+◌, ◌<◌, ◌≤◌, ◌^◌, Bool, true, List, [], ◌∷◌, ◌++◌, length, map, Some, Ok, refl, sym, ap, codes, nat_lt, if◌then◌else◌, append-nil, append_assoc, arith}
use Rattle.wit_json.specs.Groups.{json_of_group}
use Rattle.json.specs.Value.{items_of}
use Rattle.wit_sources.specs.SourceMap.{Sources, end_after, files_of, with_file}
use Rattle.wit_sources.specs.declared.source_map.SourceFile.{SourceFile}
use Rattle.wit_data.specs.declared.unresolved.UnresolvedPackage.{UnresolvedPackage}
use Rattle.wit_data.specs.declared.unresolved.UnresolvedPackageGroup.{UnresolvedPackageGroup}
use Rattle.wit_json.specs.Unresolved.{json_of_unresolved}
use Rattle.wit_json.specs.Values as written
use Rattle.wit_json.specs.Values.{json_of_text}
use Rattle.wit_json.specs.Whole.{json_of_file, json_of_sources}
use Rattle.wit_json_graphs.specs.Writable.{AreInRow, AreWritableSources, IsWritableGroup}
use Rattle.wit_json_graphs.specs.laws.ReadBack.{GroupsReadBack}
use Rattle.wit_json_reading.specs.Groups.{read_group, read_source, sources_from, read_sources, with_source}
use Rattle.wit_json_reading.specs.Packages.{read_package}
use Rattle.wit_json_reading.specs.Reading.{instead_of, read_list, under, ◌>>=◌, Reading}
use Rattle.wit_json_reading.specs.Values.{read_text}
use Rattle.wit_json_reading.specs.declared.fault.Expected.TheVariants as expected
use Rattle.wit_json_reading.specs.declared.fault.Step.TheVariants as step
use Rattle.wit_json_graphs.proofs.Packages.{packages_read_back}
use Rattle.wit_json_graphs.proofs.Slots.{Slot, get_slot, only_slots, slots}
use Rattle.wit_json_graphs.proofs.Steps.{all_3, all_4, reads_list, reads_required, followed}

reads_source : (path text : List ℕ) → read_source (json_of_file (path, text)) ≡ Ok (path, text)
unfolding read_source
reads_source path text =
    let ss : List Slot = (codes "path", Some (json_of_text path)) ∷ (codes "text", Some (json_of_text text)) ∷ [] in
    let j = slots ss in
    all_3 (λ (_ : Unit {0}) (path text : List ℕ). (path, text))
    (only_slots (codes "path" ∷ codes "text" ∷ []) ss refl)
    (reads_required read_text (codes "path") j (json_of_text path) path (get_slot (codes "path") ss) refl)
    (reads_required read_text (codes "text") j (json_of_text text) text (get_slot (codes "text") ss) refl)

-- files in a row end where the row ends, or before
in_row_within : (from : ℕ) (files : List SourceFile) (end : ℕ) → AreInRow from files end → from ≤ end
in_row_within from [] end row = omega (arith, row)
in_row_within from (file ∷ files) end row = omega (arith, in_row_within (end_after from file.contents) files end row.1)

is_below : (n limit : ℕ) → n < limit → nat_lt n limit ≡ true
is_below n limit small = grind arith

abbrev at_end : List SourceFile → ℕ → Sources
at_end files end = record { files = files; end = end }

one_file : (done : List SourceFile) (from : ℕ) (file : SourceFile) → file.start ≡ from → end_after from file.contents < 2 ^ 32
    → (read_source (json_of_file (file.path, file.contents)) >>= with_source (at_end done from)) ≡ Ok (at_end (done ++ file ∷ []) (end_after from file.contents))
one_file done from file starts fits =
    let below : nat_lt (end_after from file.contents) (2 ^ 32) ≡ true = is_below (end_after from file.contents) (2 ^ 32) fits in
    followed (read_source (json_of_file (file.path, file.contents))) (with_source (at_end done from)) (file.path, file.contents)
    (Ok (at_end (done ++ file ∷ []) (end_after from file.contents))) (reads_source file.path file.contents)
    (ap (λ (b : Bool). if b then Ok (with_file (at_end done from) file.path file.contents) else instead_of expected.Source) below
    ∙ ap (λ (start : ℕ). let it : SourceFile = record file { start = start } in Ok (at_end (done ++ it ∷ []) (end_after from file.contents))) (sym starts))

reads_files : (done : List SourceFile) (from : ℕ) (files : List SourceFile) (end : ℕ) → AreInRow from files end → end < 2 ^ 32
    → sources_from (at_end done from) (items_of (map json_of_file (files_of files))) ≡ Ok (at_end (done ++ files) end)
reads_files done from [] end row fits = ap (λ (e : ℕ). Ok (at_end done e)) (sym row) ∙ ap (λ (fs : List SourceFile). Ok (at_end fs end)) (sym (append-nil done))
reads_files done from (file ∷ files) end row fits =
    let within : end_after from file.contents ≤ end = in_row_within (end_after from file.contents) files end row.1 in
    followed (under (step.Item (length done)) (read_source (json_of_file (file.path, file.contents)) >>= with_source (at_end done from))) _ (at_end (done ++ file ∷ []) (end_after from file.contents))
    (Ok (at_end (done ++ file ∷ files) end))
    (ap (under (step.Item (length done))) (one_file done from file row.0 (omega (arith, within, fits))))
    (reads_files (done ++ file ∷ []) (end_after from file.contents) files end row.1 fits
    ∙ ap (λ (fs : List SourceFile). Ok (at_end fs end)) (append_assoc done (file ∷ []) files))

pub reads_sources : (sources : Sources) → AreWritableSources sources → read_sources (json_of_sources sources) ≡ Ok sources
reads_sources sources fits = reads_files [] 0 sources.files sources.end fits.in_row fits.end

pub groups_read_back : GroupsReadBack
unfolding read_group
groups_read_back g fits =
    let ss : List Slot =
    (codes "main", Some (json_of_unresolved g.main)) ∷ (codes "nested", Some (written.list_of json_of_unresolved g.nested)) ∷ (codes "sources", Some (json_of_sources g.source_map)) ∷ [] in
    let j = slots ss in
    all_4 (λ (_ : Unit {0}) (main : UnresolvedPackage) (nested : List UnresolvedPackage) (sources : Sources).
    let it : UnresolvedPackageGroup = record { main = main; nested = nested; source_map = sources } in it)
    (only_slots (codes "main" ∷ codes "nested" ∷ codes "sources" ∷ []) ss refl)
    (reads_required read_package (codes "main") j (json_of_unresolved g.main) g.main (get_slot (codes "main") ss) (packages_read_back g.main fits.main))
    (reads_required (read_list read_package) (codes "nested") j (written.list_of json_of_unresolved g.nested) g.nested (get_slot (codes "nested") ss)
    (reads_list read_package json_of_unresolved g.nested (λ i p at. packages_read_back p (fits.nested i p at))))
    (reads_required read_sources (codes "sources") j (json_of_sources g.source_map) g.source_map (get_slot (codes "sources") ss) (reads_sources g.source_map fits.sources))
