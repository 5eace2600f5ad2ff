-- What comes of sources.
use Rattle.std.proofs.Common.{◌≡◌, ◌∙◌, ◌⊎◌, ◌≤◌, ◌<◌, ◌+◌, ◌++◌, ◌^◌, ℕ, false, List, [], ◌∷◌, None, Some, length, refl, sym, ap, subst, inl, inr, lit<, lit≤, arith}
use Rattle.std.specs.Map.{lookup}
use Rattle.std.specs.Prelude.{Result, Ok, Err, is_some}
use Rattle.wit_sources.specs.SourceMap.{Sources}
use Rattle.wit_sources.specs.Span.{OptionalSpan, start_of}
use Rattle.wit_values.specs.facts.Lists.{lookup-push}
use Rattle.wit_names.specs.PackageName.{same_package}
use Rattle.wit_names.specs.facts.PackageNameFacts.{own_name}
use Rattle.wit_data.specs.declared.unresolved.UnresolvedPackageGroup.{UnresolvedPackageGroup}
use Rattle.wit_graph_data.specs.examples.Samples.{foo_bar}
use Rattle.wit_graph_data.specs.declared.graph.Graph.{Graph}
use Rattle.wit_graph_data.specs.declared.error_kind.ResolveErrorKind.{ResolveErrorKind}
use Rattle.wit_graph_data.specs.declared.error_kind.ResolveErrorKind.TheVariants.{DuplicatePackage, OffsetOverflow, OutOfMemory}
use Rattle.wit_link.specs.GroupOrder.{Unresolved}
use Rattle.wit_link_spec.specs.Added.{added}
use Rattle.wit_link.specs.Appending.{AreAdded, IsGroupsCause, files_end}
use Rattle.wit_resolve_graph.specs.examples.Examples.{first_package}
use Rattle.wit_resolve_graph.specs.examples.FilesExamples.{ending}
use Rattle.wit_resolve_graph.specs.Merging.{HasSourcesAfter}
use Rattle.wit_resolve_graph.specs.Sources.{FaultOverflows, IsNoSource, IsNotPlaced, PushesAnswer, RefusesAnswer, RefusesParse}
use Rattle.wit_resolve_graph.specs.examples.SourcesExamples.{bad_at, once, source, twice}
use Rattle.wit_resolve_graph.specs.State.{State}
use Rattle.wit_resolve_graph.specs.Step.{PushesGroups}
use Rattle.wit_resolve_graph.specs.declared.sources.ParseFault.{ParseFault}
use Rattle.wit_resolve_graph.specs.declared.sources.ParseFault.TheVariants as parse
use Rattle.wit_resolve_graph.specs.declared.sources.SourceFault.{SourceFault}
use Rattle.wit_resolve_graph.specs.declared.sources.SourceFault.TheVariants as fault
use Rattle.examples_resolve.proofs.OfScripts.FirstPackage.{absent_before, accepted, alone, duplicate, no_cause, of_first, pushed_alone, sortable, sorted, sorted_alone}
use Rattle.examples_resolve.specs.script.SmallGraphs.{nothing, one}
use Rattle.examples_resolve.specs.script.SourceExamples.{ExamplesOfNoSources, ExamplesOfParsed, ExamplesOfPushedSources, ExamplesOfRefusedSources, Parse, Pushes, Refuses, bad, before, behind, failing, file, is_there, made_of, making, text, wanting}

-- ---- before a parse

too_long : (contents : List ℕ) → length contents ≡ 4294967295 → IsNoSource contents (fault.Resolve OffsetOverflow)
too_long contents long = inr (refl, omega (arith, long))

just_fits : (contents : List ℕ) → length contents ≡ 4294967294 → IsNoSource contents (fault.Resolve OffsetOverflow) → ⊥
just_fits contents long (inl memory) = cc
just_fits contents long (inr (told, far)) = absurd (omega (arith, long, far))

not_read : (contents : List ℕ) (span : OptionalSpan) (message : List ℕ) → IsNoSource contents (fault.Parse span message) → ⊥
not_read contents span message (inl memory) = cc
not_read contents span message (inr (told, far)) = cc

not_there : (contents : List ℕ) → IsNoSource contents is_there → ⊥
not_there contents (inl memory) = cc
not_there contents (inr (told, far)) = cc

pub no_sources : ExamplesOfNoSources
no_sources = record { too_long = too_long; just_fits = just_fits; memory = λ contents. inl refl; not_read = not_read; not_there = not_there }

-- ---- what tells states apart

end_is : (old new : State) → new ≡ old → new.source_map.end ≡ old.source_map.end
end_is old new same = ap (λ (s : State). s.source_map.end) same

abbrev starts : SourceFault → ℕ
starts (fault.Parse span message) = start_of span
starts (fault.Resolve kind) = 0

-- ---- texts that can't be read

-- no place is told of what isn't placed
no_place : (old : State) (files : Sources) (span at : OptionalSpan) (message : List ℕ) (new : State) → IsNotPlaced old files span (fault.Parse at message) new → ⊥
no_place old files span at message new p = elim p.cause [ inl memory ↦ cc | inr far ↦ let told = far.0 in cc ]

room : FaultOverflows once source (Some (13, 18)) → ⊥
room (inl far) = absurd (omega (arith, far))
room (inr far) = absurd (omega (arith, far))

file_room : FaultOverflows once file (Some (0, 7)) → ⊥
file_room (inl far) = absurd (omega (arith, far))
file_room (inr far) = absurd (omega (arith, far))

-- nor is it told at its place without its file, or where it was
not_left_out : RefusesParse once (Err bad) (bad_at 38 43) once → ⊥
not_left_out (inl p) = let ends : 25 ≡ 50 = end_is twice once p.placed in absurd (omega (arith, ends))
not_left_out (inr p) = no_place once source (Some (13, 18)) _ _ once p

not_moved : RefusesParse once (Err bad) (bad_at 13 18) twice → ⊥
not_moved (inl p) = let start : 13 ≡ 38 = ap starts p.told_is in absurd (omega (arith, start))
not_moved (inr p) = no_place once source (Some (13, 18)) _ _ twice p

memory_not_added : RefusesParse once (Err bad) (fault.Resolve OutOfMemory) twice → ⊥
memory_not_added (inl p) = let told = p.told_is in cc
memory_not_added (inr p) = let ends : 50 ≡ 25 = end_is once twice p.same in absurd (omega (arith, ends))

-- ---- groups that are refused

there_cause : IsGroupsCause once.features (one foo_bar) 25 (made_of file ∷ []) (DuplicatePackage foo_bar None None)
there_cause = inr (inl (record {
  sortable = sortable once.features (one foo_bar) 25;
  order = 0 ∷ [];
  sorted = alone once.features (one foo_bar) 25;
  are_sorted = sorted once.features (one foo_bar) 25;
  refused = record {
    before = [];
    p = (first_package, 25);
    after = [];
    packages_are = refl;
    mid = one foo_bar;
    ids = [];
    pushed = refl;
    cause = duplicate once.features (one foo_bar) 25 refl;
  };
}))

there : RefusesAnswer (before (one foo_bar)) (made_of file) is_there (behind (one foo_bar))
there = record { kind = DuplicatePackage foo_bar None None; told_is = refl; refuses = record { cause = inr there_cause; past_end = λ past. absurd (omega (arith, past)); graph = refl; features = refl; rule = refl; files = refl } }

there_not_left_out : RefusesAnswer (before (one foo_bar)) (made_of file) is_there (before (one foo_bar)) → ⊥
there_not_left_out r =
    let told = r.told_is in
    let kind : DuplicatePackage foo_bar None None ≡ r.kind = cc in
    let files : (before (one foo_bar)).source_map ≡ (behind (one foo_bar)).source_map =
    subst (λ (k : ResolveErrorKind). HasSourcesAfter k once.source_map (behind (one foo_bar)).source_map once.source_map) (sym kind) r.refuses.files in
    let ends : 25 ≡ 43 = ap (λ (m : Sources). m.end) files in
    absurd (omega (arith, ends))

-- of a package that isn't there, with a file that fits, nothing but want of memory is told
free_told : (old : State) → is_some (lookup (same_package foo_bar) old.graph.package_names) ≡ false → files_end old.source_map.end (made_of file ∷ []) < 2 ^ 32
    → (told : SourceFault) (new : State) → RefusesAnswer old (made_of file) told new → told ≡ fault.Resolve OutOfMemory
free_told old absent fits told new r =
    elim r.refuses.cause [
      | inl memory ↦ r.told_is ∙ ap (λ (k : ResolveErrorKind). fault.Resolve k) memory
      | inr c ↦ absurd (no_cause old.features old.graph old.source_map.end absent file r.kind fits c)
    ]

-- ---- groups that are added

pushed_first : PushesAnswer once (made_of file) 0 (behind (one foo_bar))
pushed_first = record {
  pushes = record {
    order = 0 ∷ [];
    sorted = alone once.features nothing 25;
    ids = 0 ∷ [];
    sortable = sortable once.features nothing 25;
    fits = lit< tt;
    are_sorted = sorted once.features nothing 25;
    are_pushed = (one foo_bar, record { accepted = accepted once.features nothing 25 refl; graph_is = refl; id_is = refl }, refl);
    id_is = refl;
    features = refl;
    rule = refl;
    files = refl;
  };
  accepted = λ kind c. no_cause once.features nothing 25 refl file kind (lit< tt) c;
}

pushes_are : (old : State) (id : ℕ) (new : State) → PushesGroups old (made_of file) [] id new → (id ≡ length old.graph.packages) × (new.graph ≡ added (of_first old.features old.graph old.source_map.end))
pushes_are old id new p =
    let g = old.graph in
    let same = sorted_alone old.features g old.source_map.end p.order p.sorted p.are_sorted in
    let alone_added = subst (λ (s : List Unresolved). AreAdded old.features g s new.graph p.ids) (sym same) p.are_pushed in
    let are = pushed_alone old.features g old.source_map.end new.graph p.ids alone_added in
    let listed : lookup (same_package foo_bar) (g.package_names ++ (foo_bar, length g.packages) ∷ []) ≡ Some id =
    sym (ap (λ (x : Graph). lookup (same_package foo_bar) x.package_names) are.1) ∙ p.id_is in
    let own : Some (length g.packages) ≡ Some id =
    sym (lookup-push (same_package foo_bar) g.package_names foo_bar (length g.packages) (absent_before old.features g old.source_map.end new.graph p.ids alone_added) (own_name foo_bar)) ∙ listed in
    let is : length g.packages ≡ id = cc in
    (sym is, are.1)

pub parsed : ExamplesOfParsed
parsed = record {
  memory = (refl, refl);
  memory_not_added = λ t. let ends : 50 ≡ 25 = end_is once twice t.1 in absurd (omega (arith, ends));
  memory_alone = λ told new t. t.0;
  placed = inl (record { told_is = refl; placed = refl; fits = room });
  not_left_out = not_left_out;
  not_moved = not_moved;
  no_memory = inr (record { cause = inl refl; same = refl });
  no_memory_not_added = memory_not_added;
  no_room = inr (record { cause = inr (refl, inl (lit≤ tt)); same = refl });
  there = there;
  there_told = there;
  there_not_left_out = there_not_left_out;
  not_there = λ new r. let told = free_told once refl (lit< tt) is_there new r in cc;
  too_far = record { kind = OffsetOverflow; told_is = refl; refuses = record { cause = inr (inr (inr (lit≤ tt))); past_end = λ past. inr refl; graph = refl; features = refl; rule = refl; files = refl } };
  just_fits = free_told (ending 4294967277) refl (lit< tt);
  pushed = pushed_first;
  not_its_id = λ new p. let id : 1 ≡ 0 = (pushes_are once 1 new p.pushes).0 in absurd (omega (arith, id));
  not_as_it_was = λ p. let count : 0 ≡ 1 = ap (λ (g : Graph). length g.packages) (pushes_are once 0 (behind nothing) p.pushes).1 in absurd (omega (arith, count));
  file_not_left_out = λ p. let ends : 25 ≡ 43 = ap (λ (m : Sources). m.end) p.pushes.files in absurd (omega (arith, ends));
  file_not_alone = λ p. let ends : 18 ≡ 43 = ap (λ (m : Sources). m.end) p.pushes.files in absurd (omega (arith, ends));
  not_again = λ id new p. p.accepted (DuplicatePackage foo_bar None None) there_cause;
}

-- ---- with the parse

no_file_left_out : Pushes making nothing 0 (before (one foo_bar)) → ⊥
no_file_left_out p =
    let given = p.given in
    let group : made_of file ≡ p.group = cc in
    let ends : 25 ≡ 25 + p.group.source_map.end = ap (λ (m : Sources). m.end) p.pushes.pushes.files in
    let of_file : 18 ≡ p.group.source_map.end = ap (λ (g : UnresolvedPackageGroup). g.source_map.end) group in
    absurd (omega (arith, ends, of_file))

pub pushed_sources : ExamplesOfPushedSources
pushed_sources = record {
  pushed = record { group = made_of file; fits = lit< tt; given = refl; pushes = pushed_first };
  may_push = record { group = made_of file; fits = lit< tt; given = inl refl; pushes = pushed_first };
  not_left_out = no_file_left_out;
  not_failing = λ id new p. let given = p.given in cc;
  not_wanting = λ id new p. let given = p.given in cc;
  not_too_long = λ f contents id new long p. let fits = p.fits in absurd (omega (arith, long, fits));
}

-- of a text that fits nothing but memory is told before the parse
fitting : (told : SourceFault) → IsNoSource text told → told ≡ fault.Resolve OutOfMemory
fitting told (inl memory) = memory
fitting told (inr (is, far)) = let past : 4294967296 ≤ 18 = far in absurd (omega (arith, past))

-- what is told of a source that is refused: before the parse, or of its answer
told_of : (f : Parse) (g : Graph) (told : SourceFault) (new : State) → Refuses f g told new → (IsNoSource text told × (new ≡ before g)) ⊎ RefusesParse (before g) (f file) told new
told_of f g told new (inl none) = inl none
told_of f g told new (inr r) = inr (subst (λ (answer : Result UnresolvedPackageGroup ParseFault). RefusesParse (before g) answer told new) r.given r.tells)

wants_memory : (told : SourceFault) (new : State) → Refuses wanting nothing told new → (told ≡ fault.Resolve OutOfMemory) × (new ≡ before nothing)
wants_memory told new refused = elim (told_of wanting nothing told new refused) [ inl none ↦ (fitting told none.0, none.1) | inr tells ↦ tells ]

failing_is : (at : OptionalSpan) (message : List ℕ) (new : State) → Refuses failing nothing (fault.Parse at message) new → (fault.Parse at message ≡ bad_at 25 32) × (new ≡ behind nothing)
failing_is at message new refused =
    elim (told_of failing nothing (fault.Parse at message) new refused) [
      | inl none ↦ absurd (not_read text at message none.0)
      | inr tells ↦ elim tells [ inl p ↦ (p.told_is, p.placed) | inr p ↦ absurd (no_place once file (Some (0, 7)) at message new p) ]
    ]

makes : (told : SourceFault) (new : State) → Refuses making nothing told new → told ≡ fault.Resolve OutOfMemory
makes told new refused = elim (told_of making nothing told new refused) [ inl none ↦ fitting told none.0 | inr tells ↦ free_told once refl (lit< tt) told new tells ]

pub refused_sources : ExamplesOfRefusedSources
refused_sources = record {
  too_long = λ f contents long. inl (too_long contents long, refl);
  not_too_long = λ new refused. let told = (wants_memory (fault.Resolve OffsetOverflow) new refused).0 in cc;
  memory = inr (record { answer = Err parse.OutOfMemory; given = refl; tells = (refl, refl) });
  memory_not_added = λ refused. let ends : 43 ≡ 25 = end_is (before nothing) (behind nothing) (wants_memory _ (behind nothing) refused).1 in absurd (omega (arith, ends));
  failed = inr (record { answer = failing file; given = refl; tells = inl (record { told_is = refl; placed = refl; fits = file_room }) });
  may_fail = inr (record { answer = failing file; given = inr refl; tells = inl (record { told_is = refl; placed = refl; fits = file_room }) });
  not_left_out = λ refused. let ends : 25 ≡ 43 = end_is (behind nothing) (before nothing) (failing_is _ _ (before nothing) refused).1 in absurd (omega (arith, ends));
  not_moved = λ refused. let start : 0 ≡ 25 = ap starts (failing_is _ _ (behind nothing) refused).0 in absurd (omega (arith, start));
  not_failed = λ new refused. let told = makes (bad_at 25 32) new refused in cc;
  there = inr (record { answer = Ok (made_of file); given = refl; tells = there });
  memory_alone = makes;
}
