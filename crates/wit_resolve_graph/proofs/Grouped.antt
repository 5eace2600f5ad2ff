-- From what placing, sorting and adding packages tell to what is told of their groups.
use Rattle.std.proofs.Common.{◌≡◌, ◌∙◌, ◌⊎◌, ◌+◌, ◌<◌, ◌≤◌, ◌^◌, ℕ, zero, suc, List, [], ◌∷◌, ◌++◌, length, take, map, slice_get, get_or, Option, None, Some, Result, Ok, Err, IfOk, IfErr, OnErr, refl, ap, sym, subst, inl, inr, Contains, arith}
use Rattle.std.proofs.lemmas.List.{append-nil, append_assoc, length-map, take_at}
use Rattle.std.proofs.lemmas.List.FromFn.{get_or-range_with_len, length-range_with_len}
use Rattle.std.proofs.lemmas.List.Sorted.{Contains-permutation}
use Rattle.std.specs.List.{AllByRecursion, AllZip, range_with_len}
use Rattle.std.specs.Map.{lookup}
use Rattle.std.specs.Prelude.{is_some, flat_map}
use Rattle.wit_values.specs.facts.Lists.{AllByRecursion-at, lookup-append, lookup-push, slice_get-push}
use Rattle.wit_digraph.specs.facts.FreshFacts.{fresh_all}
use Rattle.wit_digraph.specs.facts.MemberFacts.{Contains-cons_cases, Contains-flat_map, Contains-nil}
use Rattle.wit_digraph.specs.Relation.{direct}
use Rattle.wit_digraph.specs.PostOrder.{post_order, post_order_within}
use Rattle.wit_sources.specs.SourceMap.{AreLaidOut, Sources, moved_file, with_sources}
use Rattle.wit_sources.specs.Span.{moved_by}
use Rattle.wit_data.specs.Each.{Each}
use Rattle.wit_names.specs.facts.PackageNameFacts.{own_name}
use Rattle.wit_names.specs.PackageName.{same_package}
use Rattle.wit_data.specs.Shape.{IsGroupShaped, IsShaped}
use Rattle.wit_names.specs.declared.package_name.PackageName.{PackageName}
use Rattle.wit_data.specs.declared.unresolved.UnresolvedPackage.{UnresolvedPackage}
use Rattle.wit_data.specs.declared.unresolved.UnresolvedPackageGroup.{UnresolvedPackageGroup}
use Rattle.wit_graph_data.specs.declared.features.Features.{Features}
use Rattle.wit_graph_data.specs.declared.graph.Graph.{Graph}
use Rattle.wit_graph_data.specs.declared.error_kind.ResolveErrorKind.{ResolveErrorKind}
use Rattle.wit_graph_data.specs.declared.error_kind.ResolveErrorKind.TheVariants.{DuplicatePackage, OffsetOverflow, OutOfMemory}
use Rattle.wit_graph_theory.specs.facts.ListFacts.{at_map, contained_at, from_map, place_of, some_at}
use Rattle.wit_link.specs.GroupOrder.{AreSorted, IsGroupOrder, IsSortCause, Unresolved, group_uses, names_of}
use Rattle.wit_link_spec.specs.Addition.{own_worlds}
use Rattle.wit_link_spec.specs.Cause.{duplicate_5}
use Rattle.wit_link_spec.specs.Added.{added, with_parts}
use Rattle.wit_link.specs.Appending.{AreAdded, CanAppend, FilesPassTheEnd, IsAdded, IsGroupsCause, IsOneRefused, IsAdditionsCause, addition, files_end, packages_of}
use Rattle.wit_remap.specs.Grown.{Begins}
use Rattle.wit_remap.specs.facts.GrownFacts.{Begins-then}
use Rattle.wit_resolve_graph.specs.steps.Grouping.{AreAddedTogether}
use Rattle.wit_resolve_graph.specs.State.{State}
use Rattle.wit_resolve_graph.specs.Step.{PushesGroups, RefusesGroups, with_files}
use Rattle.wit_resolve_graph.proofs.OneOrder.{Differ, one_place, one_sorted}
use Rattle.wit_resolve_graph.proofs.RunsKeep.{keeps_pushes, keeps_worlds}
use Rattle.wit_resolve_graph.proofs.FilesAfter.{files_after, files_stay}
use Rattle.wit_link.specs.steps.Parts.{group_deps}
use Rattle.wit_link_spec.specs.steps.Parts.{AdditionIsAccepted}

abbrev Group : Type 0
Group = UnresolvedPackageGroup

-- ---- groups one after another

pub with_files-push : (s : Sources) (groups : List Group) (group : Group) → with_files s (groups ++ group ∷ []) ≡ with_sources (with_files s groups) group.source_map
with_files-push s [] group = refl
with_files-push s (g ∷ groups) group = with_files-push (with_sources s g.source_map) groups group

-- their files end where those of the groups do
pub end-with_files : (s : Sources) (groups : List Group) → (with_files s groups).end ≡ files_end s.end groups
end-with_files s [] = refl
end-with_files s (g ∷ groups) = end-with_files (with_sources s g.source_map) groups

pub files_end-append : (at : ℕ) (groups others : List Group) → files_end at (groups ++ others) ≡ files_end (files_end at groups) others
files_end-append at [] others = refl
files_end-append at (g ∷ groups) others = files_end-append (at + g.source_map.end) groups others

files_end-later : (at : ℕ) (groups : List Group) → at ≤ files_end at groups
files_end-later at [] = omega arith
files_end-later at (g ∷ groups) = let rest = files_end-later (at + g.source_map.end) groups in omega (arith, rest)

pub packages-push : (at : ℕ) (groups : List Group) (group : Group) → packages_of at (groups ++ group ∷ []) ≡ packages_of at groups ++ packages_of (files_end at groups) (group ∷ [])
packages-push at [] group = refl
packages-push at (g ∷ groups) group =
    let front = map (λ (u : UnresolvedPackage). (u, at)) (g.nested ++ g.main ∷ []) in
    ap (λ (l : List Unresolved). front ++ l) (packages-push (at + g.source_map.end) groups group)
    ∙ sym (append_assoc front (packages_of (at + g.source_map.end) groups) (packages_of (files_end (at + g.source_map.end) groups) (group ∷ [])))

-- where the files of one group pass the end, so do those of all
pub passes_on : (at : ℕ) (before : List Group) (group : Group) (after : List Group) (kind : ResolveErrorKind) → FilesPassTheEnd (files_end at before) (group ∷ []) kind → FilesPassTheEnd at (before ++ group ∷ after) kind
passes_on at before group after OffsetOverflow far =
    let same = files_end-append at before (group ∷ after) in
    let later = files_end-later (files_end at before + group.source_map.end) after in
    omega (arith, far, same, later)
passes_on at before group after _ far = absurd far

-- what was there comes first
pub begins_with_files : (old : Sources) (groups : List Group) → Begins old.files (with_files old groups).files
begins_with_files old groups = let more = grown old groups in ap (λ l. take (length old.files) l) more.1 ∙ take_at old.files more.0 (length old.files) refl
  where
    grown : (s : Sources) (gs : List Group) → (more : _) × ((with_files s gs).files ≡ s.files ++ more)
    grown s [] = ([], sym (append-nil s.files))
    grown s (g ∷ gs) =
        let rest = grown (with_sources s g.source_map) gs in
        (map (moved_file s.end) g.source_map.files ++ rest.0, rest.1 ∙ append_assoc s.files (map (moved_file s.end) g.source_map.files) rest.0)

-- one group more is placed
module _ (old now : Sources) (groups : List Group) (group : Group) (placed : now ≡ with_files old groups) where
  ends_there : now.end ≡ files_end old.end groups
  ends_there = ap (λ (s : Sources). s.end) placed ∙ end-with_files old groups

  pub more_files : (new : Sources) → new ≡ with_sources now group.source_map → new ≡ with_files old (groups ++ group ∷ [])
  more_files new is = is ∙ ap (λ (s : Sources). with_sources s group.source_map) placed ∙ sym (with_files-push old groups group)

  pub more_taken : (packages taken : List Unresolved) → packages ≡ packages_of old.end groups → taken ≡ packages ++ packages_of now.end (group ∷ []) → taken ≡ packages_of old.end (groups ++ group ∷ [])
  more_taken packages taken before is =
      is ∙ ap (λ (l : List Unresolved). l ++ packages_of now.end (group ∷ [])) before ∙ ap (λ (e : ℕ). packages_of old.end groups ++ packages_of e (group ∷ [])) ends_there ∙ sym (packages-push old.end groups group)

  pub more_fits : now.end + group.source_map.end < 2 ^ 32 → files_end old.end (groups ++ group ∷ []) < 2 ^ 32
  more_fits fits =
      let same : files_end old.end (groups ++ group ∷ []) ≡ files_end old.end groups + group.source_map.end = files_end-append old.end groups (group ∷ []) in
      omega (arith, fits, same, ends_there)

  pub passes_there : (after : List Group) (all : List Group) → groups ++ group ∷ after ≡ all → (kind : ResolveErrorKind) → (kind ≡ OutOfMemory) ⊎ FilesPassTheEnd now.end (group ∷ []) kind → (kind ≡ OutOfMemory) ⊎ FilesPassTheEnd old.end all kind
  passes_there after all are kind (inl memory) = inl memory
  passes_there after all are kind (inr far) =
      inr (subst (λ (l : List Group). FilesPassTheEnd old.end l kind) are (passes_on old.end groups group after kind (subst (λ (e : ℕ). FilesPassTheEnd e (group ∷ []) kind) ends_there far)))

  pub begins_still : (new : Sources) → Begins now.files new.files → Begins old.files new.files
  begins_still new begins =
      Begins-then old.files now.files new.files (subst (λ (s : Sources). Begins old.files s.files) (sym placed) (begins_with_files old groups)) begins

-- ---- what can be added

group_can : (at : ℕ) (main : UnresolvedPackage) (nested : List UnresolvedPackage) → IsShaped main → Each IsShaped nested → (rest : List Unresolved) → AllByRecursion CanAppend rest
    → AllByRecursion CanAppend (map (λ (u : UnresolvedPackage). (u, at)) (nested ++ main ∷ []) ++ rest)
group_can at main [] shaped all_shaped rest can = (shaped, can)
group_can at main (u ∷ nested) shaped all_shaped rest can = (all_shaped 0 u refl, group_can at main nested shaped (λ i x there. all_shaped (suc i) x there) rest can)

pub packages_can : (at : ℕ) (groups : List Group) → AllByRecursion IsGroupShaped groups → AllByRecursion CanAppend (packages_of at groups)
packages_can at [] shaped = tt
packages_can at (g ∷ groups) shaped = group_can at g.main g.nested shaped.0.main shaped.0.nested (packages_of (at + g.source_map.end) groups) (packages_can (at + g.source_map.end) groups shaped.1)

sorted_are : (unresolved : List Unresolved) (order : List ℕ) (sorted : List Unresolved) → AllByRecursion CanAppend unresolved → AllZip (λ i (p : Unresolved). slice_get unresolved i ≡ Some p) order sorted → AllByRecursion CanAppend sorted
sorted_are unresolved [] [] can are = tt
sorted_are unresolved [] (p ∷ sorted) can are = absurd are
sorted_are unresolved (i ∷ order) [] can are = absurd are
sorted_are unresolved (i ∷ order) (p ∷ sorted) can are = (AllByRecursion-at CanAppend unresolved i p can are.0, sorted_are unresolved order sorted can are.1)

pub sorted_can : (unresolved sorted : List Unresolved) → AllByRecursion CanAppend unresolved → (order : List ℕ) × AreSorted unresolved order sorted → AllByRecursion CanAppend sorted
sorted_can unresolved sorted can is = sorted_are unresolved is.0 sorted can is.1.are

-- ---- the main package among those of the groups

nested_before : (at : ℕ) (main : UnresolvedPackage) (nested : List UnresolvedPackage) (rest : List Unresolved) → slice_get (map (λ (u : UnresolvedPackage). (u, at)) (nested ++ main ∷ []) ++ rest) (length nested) ≡ Some (main, at)
nested_before at main [] rest = refl
nested_before at main (u ∷ nested) rest = nested_before at main nested rest

pub main_at : (at : ℕ) (main : Group) (deps : List Group) → slice_get (packages_of at (main ∷ deps)) (length main.nested) ≡ Some (main.main, at)
main_at at main deps = nested_before at main.main main.nested (packages_of (at + main.source_map.end) deps)

abbrev name_in : Unresolved → PackageName
name_in p = p.0.name

main_name : (at : ℕ) (main : Group) (deps : List Group) → slice_get (names_of (packages_of at (main ∷ deps))) (length main.nested) ≡ Some main.main.name
main_name at main deps = at_map name_in (packages_of at (main ∷ deps)) (length main.nested) (main.main, at) (main_at at main deps)

pub main_named : (at : ℕ) (main : Group) (deps : List Group) → Contains (names_of (packages_of at (main ∷ deps))) main.main.name
main_named at main deps = contained_at (names_of (packages_of at (main ∷ deps))) (length main.nested) main.main.name (main_name at main deps)

-- ---- packages that can be sorted

pub differ : (unresolved : List Unresolved) → ((error : ResolveErrorKind) → IsSortCause unresolved error → ⊥) → Differ unresolved
differ unresolved sortable i j name before first second =
    let p = from_map name_in unresolved i name first in
    let q = from_map name_in unresolved j name second in
    sortable (DuplicatePackage name (moved_by q.0.1 q.0.0.package_name_span) (moved_by p.0.1 p.0.0.package_name_span)) (record {
      earlier = i;
      later = j;
      before = before;
      first = some_at _ unresolved i p.0 p.1 (p.2, refl);
      second = some_at _ unresolved j q.0 q.1 (q.2, refl);
    })

-- each place is in an order
walks_to_itself : (uses : List (List ℕ)) (members i : ℕ) → 0 < members → Contains (post_order_within uses members i) i
unfolding post_order_within
walks_to_itself uses zero i some = absurd (omega (arith, some))
walks_to_itself uses (suc members) i some =
    contained_at (flat_map (post_order_within uses members) (direct uses i) ++ i ∷ []) (length (flat_map (post_order_within uses members) (direct uses i))) i (slice_get-push (flat_map (post_order_within uses members) (direct uses i)) i)

order_has : (unresolved : List Unresolved) (order : List ℕ) (i : ℕ) → IsGroupOrder unresolved order → i < length unresolved → Contains order i
unfolding post_order
order_has unresolved order i is within =
    let n = length unresolved in
    let long : length (range_with_len 0 n) ≡ n = length-range_with_len 0 n in
    let rows : length (group_uses unresolved) ≡ n = length-map unresolved (λ (p : Unresolved). group_deps (names_of unresolved) p.0) in
    let here : get_or (range_with_len 0 n) i i ≡ 0 + i = get_or-range_with_len 0 n i i within in
    let ranged : Contains (range_with_len 0 n) i = (i, omega (arith, long, within), omega (arith, here)) in
    let rooted : Contains is.roots i = Contains-permutation (range_with_len 0 n) is.roots i is.all ranged in
    let walked : Contains (post_order (group_uses unresolved) i) i = walks_to_itself (group_uses unresolved) (length (group_uses unresolved)) i (omega (arith, rows, within)) in
    subst (λ (l : List ℕ). Contains l i) (sym is.is)
    (fresh_all [] (flat_map (post_order (group_uses unresolved)) is.roots) i (Contains-flat_map (post_order (group_uses unresolved)) is.roots i i rooted walked))

-- what stands at a place of the order stands there among the sorted ones
sorted_at : (unresolved : List Unresolved) (order : List ℕ) (sorted : List Unresolved) (place i : ℕ) (p : Unresolved) → AllZip (λ i (p : Unresolved). slice_get unresolved i ≡ Some p) order sorted → slice_get order place ≡ Some i → slice_get unresolved i ≡ Some p
    → slice_get sorted place ≡ Some p
sorted_at unresolved [] sorted place i p are at there = cc
sorted_at unresolved (j ∷ order) [] place i p are at there = absurd are
sorted_at unresolved (j ∷ order) (q ∷ sorted) zero i p are at there =
    let same : j ≡ i = cc in
    sym are.0 ∙ ap (slice_get unresolved) same ∙ there
sorted_at unresolved (j ∷ order) (q ∷ sorted) (suc place) i p are at there = sorted_at unresolved order sorted place i p are.1 at there

below_length : {X : Type 0} (xs : List X) (i : ℕ) (x : X) → slice_get xs i ≡ Some x → i < length xs
below_length [] i x at = cc
below_length (y ∷ ys) zero x at = omega arith
below_length (y ∷ ys) (suc i) x at = let rest = below_length ys i x at in omega (arith, rest)

-- a name among unresolved packages is one among the sorted ones
named_sorted : (unresolved : List Unresolved) (order : List ℕ) (sorted : List Unresolved) (name : PackageName) → AreSorted unresolved order sorted → Contains (names_of unresolved) name → Contains (names_of sorted) name
named_sorted unresolved order sorted name is has =
    let there = place_of (names_of unresolved) name has in
    let p = from_map name_in unresolved there.0 name there.1 in
    let listed = place_of order there.0 (order_has unresolved order there.0 is.is_order (below_length unresolved there.0 p.0 p.1)) in
    let at = sorted_at unresolved order sorted listed.0 there.0 p.0 is.are listed.1 p.1 in
    contained_at (names_of sorted) listed.0 name (at_map name_in sorted listed.0 p.0 at ∙ ap (λ (x : PackageName). Some x) p.2)

-- ---- packages that are added

-- the graph has a package of this name
abbrev IsListed : Graph → PackageName → Type 0
IsListed g name = (id : ℕ) × (lookup (same_package name) g.package_names ≡ Some id)

absent : (features : Features) (g : Graph) (p : Unresolved) → AdditionIsAccepted (addition features g p.0 p.1) → lookup (same_package p.0.name) g.package_names ≡ None
absent features g p accepted = by (lookup (same_package p.0.name) g.package_names) refl
  where
    by : (o : Option ℕ) → lookup (same_package p.0.name) g.package_names ≡ o → o ≡ None
    by None is = refl
    by (Some id) is = absurd (accepted (DuplicatePackage p.0.name (moved_by p.1 p.0.package_name_span) None) (duplicate_5 p.0.name (moved_by p.1 p.0.package_name_span) None (record { there = ap is_some is; name_is = refl; span1_is = refl; span2_is = refl })))

listed_here : (features : Features) (g mid new : Graph) (p : Unresolved) (ps : List Unresolved) (id : ℕ) (ids : List ℕ) → IsAdded (addition features g p.0 p.1) mid id → AreAdded features mid ps new ids
    → lookup (same_package p.0.name) new.package_names ≡ Some id
listed_here features g mid new p ps id ids comes later =
    let a = addition features g p.0 p.1 in
    let same = same_package p.0.name in
    let names = g.package_names ++ (p.0.name, length g.packages) ∷ [] in
    let own = keeps_worlds a (own_worlds a) (with_parts a) in
    let others = keeps_pushes features mid ps new ids later in
    let first : lookup same names ≡ Some (length g.packages) = lookup-push same g.package_names p.0.name (length g.packages) (absent features g p comes.accepted) (own_name p.0.name) in
    let second : lookup same (added a).package_names ≡ Some (length g.packages) =
    ap (lookup same) own.names.1 ∙ lookup-append same names own.names.0 (length g.packages) first in
    let third : lookup same mid.package_names ≡ Some (length g.packages) = ap (λ (x : Graph). lookup same x.package_names) comes.graph_is ∙ second in
    ap (lookup same) others.names.1 ∙ lookup-append same mid.package_names others.names.0 (length g.packages) third ∙ ap (λ (i : ℕ). Some i) (sym comes.id_is)

found : (features : Features) (g : Graph) (ps : List Unresolved) (new : Graph) (ids : List ℕ) (name : PackageName) → AreAdded features g ps new ids → Contains (names_of ps) name → IsListed new name
found features g [] new ids name pushed has = absurd (Contains-nil has)
found features g (p ∷ ps) new [] name pushed has = absurd pushed
found features g (p ∷ ps) new (id ∷ ids) name pushed has = elim (Contains-cons_cases p.0.name name (names_of ps) has) [
  | inl same ↦ (id, subst (λ (x : PackageName). lookup (same_package x) new.package_names ≡ Some id) same (listed_here features g pushed.0 new p ps id ids pushed.1 pushed.2))
  | inr there ↦ found features pushed.0 ps new ids name pushed.2 there
]

module _ (features : Features) (g : Graph) (unresolved sorted : List Unresolved) (name : PackageName) (named : Contains (names_of unresolved) name) (is : (order : List ℕ) × AreSorted unresolved order sorted) (new : Graph) (ids : List ℕ) (pushed : AreAdded features g sorted new ids) where
  in_table : IsListed new name
  in_table = found features g sorted new ids name pushed (named_sorted unresolved is.0 sorted name is.1 named)

  -- the one of the name is in the table
  pub never_none : lookup (same_package name) new.package_names ≡ None → ⊥
  never_none none = let both : Some in_table.0 ≡ None = sym in_table.1 ∙ none in cc

  pub are_added : ((error : ResolveErrorKind) → IsSortCause unresolved error → ⊥) → (id : ℕ) → lookup (same_package name) new.package_names ≡ Some id → AreAddedTogether features g unresolved name id new
  are_added sortable id listed = record {
    order = is.0;
    sorted = sorted;
    ids = ids;
    sortable = sortable;
    are_sorted = is.1;
    are_pushed = pushed;
    id_is = listed;
  }

-- what holds against adding packages holds against adding the sorted ones one after another
pub one_refused : (features : Features) (g : Graph) (unresolved sorted : List Unresolved) → ((error : ResolveErrorKind) → IsSortCause unresolved error → ⊥) → (order : List ℕ) × AreSorted unresolved order sorted → (kind : ResolveErrorKind)
    → IsSortCause unresolved kind ⊎ IsAdditionsCause features g unresolved kind → IsOneRefused features g sorted kind
one_refused features g unresolved sorted sortable is kind (inl cause) = absurd (sortable kind cause)
one_refused features g unresolved sorted sortable is kind (inr cause) =
    subst (λ (l : List Unresolved). IsOneRefused features g l kind) (one_sorted unresolved (differ unresolved sortable) cause.order is.0 cause.sorted sorted cause.are_sorted is.1) cause.refused

-- ---- files that pass the end

passing_is : (at : ℕ) (groups : List Group) (error : ResolveErrorKind) → FilesPassTheEnd at groups error → (error ≡ OffsetOverflow) × (2 ^ 32 ≤ files_end at groups)
passing_is at groups OffsetOverflow far = (refl, far)
passing_is at groups _ far = absurd far

-- the files that were there are laid out as they were, and are there again where the others are cut off
module _ (old now : Sources) (groups : List Group) (placed : now ≡ with_files old groups) (n end : ℕ) (long : n ≡ length old.files) (ends : end ≡ old.end) where
  first_files : take n now.files ≡ old.files
  first_files = ap (λ (m : ℕ). take m now.files) long ∙ ap (λ (s : Sources). take (length old.files) s.files) placed ∙ begins_with_files old groups

  pub laid_out_before : AreLaidOut 0 old.files old.end → AreLaidOut 0 (take n now.files) end
  laid_out_before laid_out = rw (first_files, ends) laid_out

  pub files_before : record { files = take n now.files; end = end } ≡ old
  files_before = rw (first_files, ends) refl

-- ---- the steps of adding groups

-- what is told of a graph is told of the same graph elsewhere
pub added_to : {new now : Graph} (r : Result ℕ ResolveErrorKind) (features : Features) (g : Graph) (packages : List Unresolved) (name : PackageName) → new ≡ now → IfOk r (λ id. AreAddedTogether features g packages name id new) → IfOk r (λ id. AreAddedTogether features g packages name id now)
added_to (Ok id) features g packages name same comes = subst (λ (x : Graph). AreAddedTogether features g packages name id x) same comes
added_to (Err kind) features g packages name same comes = tt

pub same_after : {T : Type 0} (old new now : Graph) (r : Result T ResolveErrorKind) → now ≡ new → OnErr r (new ≡ old) → OnErr r (now ≡ old)
same_after old new now (Ok id) is same = tt
same_after old new now (Err kind) is same = is ∙ same

-- the packages and the name are those of the groups
module _ (old : State) (main : Group) (deps : List Group) (packages : List Unresolved) (taken : packages ≡ packages_of old.source_map.end (main ∷ deps)) (name : PackageName) (named : name ≡ main.main.name) where
  abbrev unresolved : List Unresolved
  unresolved = packages_of old.source_map.end (main ∷ deps)

  abbrev IsCauseOf : List Unresolved → ResolveErrorKind → Type 0
  IsCauseOf l kind = IsSortCause l kind ⊎ IsAdditionsCause old.features old.graph l kind

  groups_cause : (kind : ResolveErrorKind) → (kind ≡ OutOfMemory) ⊎ IsCauseOf packages kind → (kind ≡ OutOfMemory) ⊎ IsGroupsCause old.features old.graph old.source_map.end (main ∷ deps) kind
  groups_cause kind (inl memory) = inl memory
  groups_cause kind (inr cause) = inr (elim (subst (λ (l : List Unresolved). IsCauseOf l kind) taken cause) [
    | inl sorting ↦ inl sorting
    | inr pushing ↦ inr (inl pushing)
  ])

  -- the packages are added
  pub pushes : (new : State) (r : Result ℕ ResolveErrorKind) → files_end old.source_map.end (main ∷ deps) < 2 ^ 32 → new.features ≡ old.features → new.track_rule ≡ old.track_rule → new.source_map ≡ with_files old.source_map (main ∷ deps)
      → IfOk r (λ id. AreAddedTogether old.features old.graph packages name id new.graph) → IfOk r (λ id. PushesGroups old main deps id new)
  pushes new (Err kind) fits features rule files are = tt
  pushes new (Ok id) fits features rule files are =
      let comes : AreAddedTogether old.features old.graph unresolved main.main.name id new.graph =
      subst (λ (l : List Unresolved). AreAddedTogether old.features old.graph l main.main.name id new.graph) taken (subst (λ (n : PackageName). AreAddedTogether old.features old.graph packages n id new.graph) named are) in
      record {
        order = comes.order;
        sorted = comes.sorted;
        ids = comes.ids;
        sortable = comes.sortable;
        fits = fits;
        are_sorted = comes.are_sorted;
        are_pushed = comes.are_pushed;
        id_is = comes.id_is;
        features = features;
        rule = rule;
        files = files;
      }

  pub never_pushed : (new : State) (r : Result ℕ ResolveErrorKind) → r ≡ Err OffsetOverflow → IfOk r (λ id. PushesGroups old main deps id new)
  never_pushed new (Ok id) far = cc
  never_pushed new (Err kind) far = tt

  -- they are refused, and the files stay
  pub refuses : (new : State) (r : Result ℕ ResolveErrorKind) → files_end old.source_map.end (main ∷ deps) < 2 ^ 32 → (r ≡ Err OffsetOverflow → ⊥) → OnErr r (new.graph ≡ old.graph) → new.features ≡ old.features → new.track_rule ≡ old.track_rule → new.source_map ≡ with_files old.source_map (main ∷ deps)
      → IfErr r (λ kind. (kind ≡ OutOfMemory) ⊎ IsCauseOf packages kind) → IfErr r (λ kind. RefusesGroups old main deps kind new)
  refuses new (Ok id) fits other graph features rule files cause = tt
  refuses new (Err kind) fits other graph features rule files cause = record {
    cause = groups_cause kind cause;
    past_end = λ past. absurd (omega (arith, fits, past));
    graph = graph;
    features = features;
    rule = rule;
    files = files_after kind old.source_map (with_files old.source_map (main ∷ deps)) new.source_map (λ e. other (ap Err e)) files;
  }

  -- or they are taken back
  pub takes_back : (new : State) (r : Result ℕ ResolveErrorKind) → r ≡ Err OffsetOverflow → OnErr r (new.graph ≡ old.graph) → new.features ≡ old.features → new.track_rule ≡ old.track_rule → new.source_map ≡ old.source_map
      → IfErr r (λ kind. (kind ≡ OutOfMemory) ⊎ IsCauseOf packages kind) → IfErr r (λ kind. RefusesGroups old main deps kind new)
  takes_back new (Ok id) far graph features rule files cause = tt
  takes_back new (Err kind) far graph features rule files cause =
      let overflow : kind ≡ OffsetOverflow = cc in
      record { cause = groups_cause kind cause; past_end = λ past. inr overflow; graph = graph; features = features; rule = rule; files = files_stay kind old.source_map (with_files old.source_map (main ∷ deps)) new.source_map (inr overflow) files }

  -- what holds against the groups refuses them
  pub must_refuse : (P : Type 0) → files_end old.source_map.end (main ∷ deps) < 2 ^ 32 → ((kind : ResolveErrorKind) → IsCauseOf packages kind → P)
      → (kind : ResolveErrorKind) → IsGroupsCause old.features old.graph old.source_map.end (main ∷ deps) kind → P
  must_refuse P fits all kind (inl cause) = all kind (subst (λ (l : List Unresolved). IsCauseOf l kind) (sym taken) (inl cause))
  must_refuse P fits all kind (inr (inl cause)) = all kind (subst (λ (l : List Unresolved). IsCauseOf l kind) (sym taken) (inr cause))
  must_refuse P fits all kind (inr (inr far)) = let past = (passing_is old.source_map.end (main ∷ deps) kind far).1 in absurd (omega (arith, fits, past))
