-- The names of packages stay in the order of the packages.
use Rattle.std.proofs.Common.{◌≡◌, ◌∙◌, ◌+◌, ℕ, zero, suc, Bool, true, false, cond, not, List, [], ◌∷◌, ◌++◌, Option, None, Some, filter, fold, length, map, slice_get, slice_set, refl, ap, subst, sym, arith, if◌then◌else◌}
use Rattle.std.specs.List.{enumerate_from}
use Rattle.std.specs.Option.{option_map_or}
use Rattle.std.specs.Prelude.{is_some, unwrap_or}
use Rattle.wit_data.specs.declared.world.World.{World}
use Rattle.wit_data.specs.declared.world.WorldInclude.{WorldInclude}
use Rattle.wit_names.specs.declared.package_name.PackageName.{PackageName}
use Rattle.wit_graph_data.specs.declared.features.Features.{Features}
use Rattle.wit_graph_data.specs.declared.graph.Graph.{Graph}
use Rattle.wit_graph_data.specs.declared.graph.Package.{Package}
use Rattle.wit_link.specs.Appending.{AreAdded, addition}
use Rattle.wit_link.specs.GroupOrder.{Unresolved}
use Rattle.wit_link_spec.specs.Added.{added, new_package, with_parts, with_world}
use Rattle.wit_link_spec.specs.Addition.{Addition, own_worlds, updated_includes}
use Rattle.wit_link_spec.specs.Include.{PartiallyLinked, with_world_included}
use Rattle.wit_link_spec.specs.steps.Parts.{before_includes, home_of, image_at, with_one}
use Rattle.wit_merge_spec.specs.Matches.{GraphMerge, counterpart_of, counterpart_package}
use Rattle.wit_merge_spec.specs.Merged.{joined_each, merged, merged_package, moves, package_image, with_package}
use Rattle.wit_remap_spec.specs.Selected.{rank, selected}
use Rattle.wit_semver.specs.SemverMerged.{semver_merged}
use Rattle.wit_semver.specs.laws.TrackLaws.{KeepsThings, SemverMergedKeep}
use Rattle.wit_transform.specs.Transformed.{WorldLists, exportized, importized, transformed, transformed_at, with_renamed}
use Rattle.wit_transform.specs.steps.Parts.{put_last}
use Rattle.wit_resolve_graph.specs.Merging.{merge_of}
use Rattle.wit_resolve_graph.specs.State.{State}
use Rattle.wit_resolve_graph.specs.Step.{Step, answers_at}
use Rattle.wit_resolve_graph.specs.declared.command.Command.{Command}
use Rattle.wit_resolve_graph.specs.declared.command.Command.TheVariants.{AddFeature, PushGroups, Merge, Importize, Exportize, Semver}
use Rattle.wit_resolve_graph.specs.declared.command.Reply.{Reply}
use Rattle.wit_resolve_graph.specs.declared.command.Reply.TheVariants as reply
use Rattle.wit_resolve_graph.specs.laws.RunLaws.{BringsOrder, HasNamesInOrder, RunsStayInOrder, StaysInOrder, numbered}

-- ---- packages by their names

abbrev names : List Package → List PackageName
names homes = map (λ (home : Package). home.name) homes

-- packages of the same names are numbered the same
same_numbers : (n : ℕ) (homes others : List Package) → names homes ≡ names others → numbered n homes ≡ numbered n others
same_numbers n [] [] same = refl
same_numbers n [] (other ∷ others) same = cc
same_numbers n (home ∷ homes) [] same = cc
same_numbers n (home ∷ homes) (other ∷ others) same =
    let head : home.name ≡ other.name = cc in
    let tail : names homes ≡ names others = cc in
    ap (λ (name : PackageName). (name, n) ∷ numbered (suc n) homes) head
    ∙ ap (λ (rest : List (PackageName × ℕ)). (other.name, n) ∷ rest) (same_numbers (suc n) homes others tail)

-- those behind others have the numbers behind theirs
numbered_behind : (n : ℕ) (homes more : List Package) → numbered n (homes ++ more) ≡ numbered n homes ++ numbered (n + length homes) more
numbered_behind n [] more =
    let same : n ≡ n + 0 = omega arith in
    ap (λ (k : ℕ). numbered k more) same
numbered_behind n (home ∷ homes) more =
    let next : suc n + length homes ≡ n + length (home ∷ homes) = omega arith in
    ap (λ (rest : List (PackageName × ℕ)). (home.name, n) ∷ rest)
    (numbered_behind (suc n) homes more ∙ ap (λ (k : ℕ). numbered (suc n) homes ++ numbered k more) next)

same_count : (homes others : List Package) → names homes ≡ names others → length homes ≡ length others
same_count [] [] same = refl
same_count [] (other ∷ others) same = cc
same_count (home ∷ homes) [] same = cc
same_count (home ∷ homes) (other ∷ others) same =
    let tail : names homes ≡ names others = cc in
    ap suc (same_count homes others tail)

-- ---- what keeps packages and names

abbrev SameHomes : Graph → Graph → Type 0
SameHomes g h = (h.packages ≡ g.packages) × (h.package_names ≡ g.package_names)

stays : (g h : Graph) → SameHomes g h → StaysInOrder g h
stays g h same order = same.1 ∙ order ∙ ap (numbered 0) (sym same.0)

both_same : (g h k : Graph) → SameHomes g h → SameHomes h k → SameHomes g k
both_same g h k first second = (second.0 ∙ first.0, second.1 ∙ first.1)

-- ---- additions

same_include : (home : ℕ) (b : PartiallyLinked) (include : WorldInclude) → SameHomes b.graph (with_one home b include).graph
same_include home b include = by (slice_get b.graph.worlds include.id)
  where
    by : (o : Option World) → SameHomes b.graph (option_map_or (λ (world : World). with_world_included home (length b.graph.worlds) include.names include.id world b) o b).graph
    by None = (refl, refl)
    by (Some world) = (refl, refl)

same_includes : (home : ℕ) (includes : List WorldInclude) (b : PartiallyLinked) → SameHomes b.graph (fold (with_one home) b includes).graph
same_includes home [] b = (refl, refl)
same_includes home (include ∷ includes) b =
    both_same b.graph (with_one home b include).graph (fold (with_one home) (with_one home b include) includes).graph (same_include home b include)
    (same_includes home includes (with_one home b include))

module _ (a : Addition) where
  same_world : (g : Graph) (e : ℕ × World) → SameHomes g (with_world a g e)
  same_world g e = same_includes (home_of a) (updated_includes a e.1) (before_includes g (image_at a e.0 e.1))

  same_worlds : (es : List (ℕ × World)) (g : Graph) → SameHomes g (fold (with_world a) g es)
  same_worlds [] g = (refl, refl)
  same_worlds (e ∷ es) g = both_same g (with_world a g e) (fold (with_world a) (with_world a g e) es) (same_world g e) (same_worlds es (with_world a g e))

  parts_in_order : StaysInOrder a.graph (with_parts a)
  parts_in_order order =
      let first : length a.graph.packages ≡ 0 + length a.graph.packages = omega arith in
      ap (λ (rest : List (PackageName × ℕ)). rest ++ (a.unresolved.name, length a.graph.packages) ∷ []) order
      ∙ ap (λ (k : ℕ). numbered 0 a.graph.packages ++ (a.unresolved.name, k) ∷ []) first
      ∙ sym (numbered_behind 0 a.graph.packages (new_package a ∷ []))

  pub added_in_order : StaysInOrder a.graph (added a)
  added_in_order order = stays (with_parts a) (added a) (same_worlds (own_worlds a) (with_parts a)) (parts_in_order order)

pub pushed_in_order : (features : Features) (g : Graph) (ps : List Unresolved) (new : Graph) (ids : List ℕ) → AreAdded features g ps new ids → StaysInOrder g new
pushed_in_order features g [] new [] same = subst (λ (h : Graph). StaysInOrder g h) (sym same) (λ order. order)
pushed_in_order features g (p ∷ ps) new (id ∷ ids) pushed =
    λ order. pushed_in_order features pushed.0 ps new ids pushed.2 (subst HasNamesInOrder (sym pushed.1.graph_is) (added_in_order (addition features g p.0 p.1) order))
pushed_in_order features g [] new (id ∷ ids) pushed = absurd pushed
pushed_in_order features g (p ∷ ps) new [] pushed = absurd pushed

-- ---- transformations

same_set : (homes : List Package) (p : ℕ) (old new : Package) → slice_get homes p ≡ Some old → new.name ≡ old.name → names (slice_set homes p new) ≡ names homes
same_set [] p old new there same = cc
same_set (home ∷ homes) zero old new there same =
    let first : home ≡ old = cc in
    ap (λ (name : PackageName). name ∷ names homes) (same ∙ ap (λ (it : Package). it.name) (sym first))
same_set (home ∷ homes) (suc p) old new there same = ap (λ (rest : List PackageName). home.name ∷ rest) (same_set homes p old new there same)

same_renamed : (homes : List Package) (o : Option ℕ) (w : ℕ) (name : List ℕ) → names (with_renamed homes o w name) ≡ names homes
same_renamed homes None w name = refl
same_renamed homes (Some p) w name = by (slice_get homes p) refl
  where
    by : (o : Option Package) → slice_get homes p ≡ o → names (option_map_or (λ (home : Package). slice_set homes p (record home { worlds = put_last home.worlds w name })) o homes) ≡ names homes
    by None none = refl
    by (Some home) there = same_set homes p home (record home { worlds = put_last home.worlds w name }) there refl

pub transformed_in_order : (g : Graph) (w : ℕ) (f : World → WorldLists) → StaysInOrder g (transformed g w f)
transformed_in_order g w f = by (slice_get g.worlds w)
  where
    by : (o : Option World) → StaysInOrder g (option_map_or (λ (world : World). transformed_at g w world (f world)) o g)
    by None = λ order. order
    by (Some old) = λ order. order ∙ same_numbers 0 g.packages (with_renamed g.packages old.package w (f old).name) (sym (same_renamed g.packages old.package w (f old).name))

-- ---- merges

-- what is made of each package keeps its name
same_each : (f : ℕ × Package → Package) → ((e : ℕ × Package) → (f e).name ≡ e.1.name) → (n : ℕ) (homes : List Package) → names (map f (enumerate_from n homes)) ≡ names homes
same_each f keeps n [] = refl
same_each f keeps n (home ∷ homes) =
    ap (λ (name : PackageName). name ∷ names (map f (enumerate_from (n + 1) homes))) (keeps (n, home))
    ∙ ap (λ (rest : List PackageName). home.name ∷ rest) (same_each f keeps (n + 1) homes)

module _ (kept : ℕ → Bool) (image : Package → Package) (place : ℕ → ℕ) (first : ℕ) (goes : (p : ℕ) → kept p ≡ true → place p ≡ first + rank kept p)
    (keeps : (home : Package) → (image home).name ≡ home.name) where
  abbrev placed : PackageName × ℕ → PackageName × ℕ
  placed e = (e.0, place e.1)

  abbrev moved_names : ℕ → List Package → List (PackageName × ℕ)
  moved_names n homes = map placed (filter (λ (e : PackageName × ℕ). kept e.1) (numbered n homes))

  abbrev moved : ℕ → List Package → List Package
  moved n homes = map image (map (λ (e : ℕ × Package). e.1) (filter (λ (e : ℕ × Package). kept e.0) (enumerate_from n homes)))

  abbrev AreInOrder : ℕ → List Package → Type 0
  AreInOrder n homes = moved_names n homes ≡ numbered (first + rank kept n) (moved n homes)

  -- packages that move get the numbers from the first on
  moved_in_order : (n : ℕ) (homes : List Package) → AreInOrder n homes
  moved_in_order n [] = refl
  moved_in_order n (home ∷ homes) = by (kept n) refl (moved_in_order (suc n) homes)
    where
      next : n + 1 ≡ suc n
      next = omega arith

      rest : (k : ℕ) → first + rank kept (suc n) ≡ k → AreInOrder (suc n) homes → moved_names (suc n) homes ≡ numbered k (moved (n + 1) homes)
      rest k same others =
          others ∙ ap (λ (i : ℕ). numbered i (moved (suc n) homes)) same
          ∙ ap (λ (i : ℕ). numbered k (moved i homes)) (sym next)

      by : (b : Bool) → kept n ≡ b → AreInOrder (suc n) homes
          → map placed (cond b ((home.name, n) ∷ filter (λ (e : PackageName × ℕ). kept e.1) (numbered (suc n) homes)) (filter (λ (e : PackageName × ℕ). kept e.1) (numbered (suc n) homes)))
          ≡ numbered (first + rank kept n)
          (map image (map (λ (e : ℕ × Package). e.1)
          (cond b ((n, home) ∷ filter (λ (e : ℕ × Package). kept e.0) (enumerate_from (n + 1) homes)) (filter (λ (e : ℕ × Package). kept e.0) (enumerate_from (n + 1) homes)))))
      by true moves others =
          let ranks : rank kept (suc n) ≡ suc (rank kept n) = ap (λ (b : Bool). if b then suc (rank kept n) else rank kept n) moves in
          let behind : first + rank kept (suc n) ≡ suc (first + rank kept n) = omega (arith, ranks) in
          ap (λ (k : ℕ). (home.name, k) ∷ moved_names (suc n) homes) (goes n moves)
          ∙ ap (λ (l : List (PackageName × ℕ)). (home.name, first + rank kept n) ∷ l) (rest (suc (first + rank kept n)) behind others)
          ∙ ap (λ (name : PackageName). (name, first + rank kept n) ∷ numbered (suc (first + rank kept n)) (moved (n + 1) homes)) (sym (keeps home))
      by false remains others =
          let ranks : rank kept (suc n) ≡ rank kept n = ap (λ (b : Bool). if b then suc (rank kept n) else rank kept n) remains in
          rest (first + rank kept n) (ap (λ (k : ℕ). first + k) ranks) others

module _ (m : GraphMerge) where
  abbrev kept_homes : List Package
  kept_homes = joined_each (counterpart_package m) m.other.packages (λ p into. with_package m p.1 into) m.graph.packages

  abbrev new_homes : List Package
  new_homes = map (package_image m) (selected (moves (counterpart_package m)) m.other.packages)

  joined_name : (o : Option (ℕ × Package)) (home : Package) → (option_map_or (λ (p : ℕ × Package). with_package m p.1 home) o home).name ≡ home.name
  joined_name None home = refl
  joined_name (Some p) home = refl

  same_kept : names kept_homes ≡ names m.graph.packages
  same_kept =
      same_each (λ (e : ℕ × Package). option_map_or (λ (p : ℕ × Package). with_package m p.1 e.1) (counterpart_of (counterpart_package m) m.other.packages e.0) e.1)
      (λ e. joined_name (counterpart_of (counterpart_package m) m.other.packages e.0) e.1) 0 m.graph.packages

  goes : (p : ℕ) → moves (counterpart_package m) p ≡ true → merged_package m p ≡ length m.graph.packages + rank (moves (counterpart_package m)) p
  goes p = by (counterpart_package m p)
    where
      by : (o : Option ℕ) → not (is_some o) ≡ true
          → unwrap_or o (length m.graph.packages + rank (moves (counterpart_package m)) p) ≡ length m.graph.packages + rank (moves (counterpart_package m)) p
      by None moves = refl
      by (Some p') moves = cc

  abbrev brought : List (PackageName × ℕ) → List (PackageName × ℕ)
  brought others = map (λ (e : PackageName × ℕ). (e.0, merged_package m e.1)) (filter (λ (e : PackageName × ℕ). moves (counterpart_package m) e.1) others)

  pub merged_in_order : HasNamesInOrder m.other → StaysInOrder m.graph (merged m)
  merged_in_order other order =
      let none : rank (moves (counterpart_package m)) 0 ≡ 0 = refl in
      let count : length m.graph.packages + rank (moves (counterpart_package m)) 0 ≡ 0 + length kept_homes =
      omega (arith, none, same_count kept_homes m.graph.packages same_kept) in
      ap (λ (own : List (PackageName × ℕ)). own ++ brought m.other.package_names) order
      ∙ ap (λ (others : List (PackageName × ℕ)). numbered 0 m.graph.packages ++ brought others) other
      ∙ ap (λ (own : List (PackageName × ℕ)). own ++ brought (numbered 0 m.other.packages)) (same_numbers 0 m.graph.packages kept_homes (sym same_kept))
      ∙ ap (λ (l : List (PackageName × ℕ)). numbered 0 kept_homes ++ l)
      (moved_in_order (moves (counterpart_package m)) (package_image m) (merged_package m) (length m.graph.packages) goes (λ home. refl) 0 m.other.packages
      ∙ ap (λ (k : ℕ). numbered k new_homes) count)
      ∙ sym (numbered_behind 0 kept_homes new_homes)

-- ---- semver merges

pub replaced_in_order : (g h : Graph) → KeepsThings g h → StaysInOrder g h
replaced_in_order g h kept = stays g h (kept.packages, kept.names)

-- ---- commands

same_graph : (old new : State) → new.graph ≡ old.graph → StaysInOrder old.graph new.graph
same_graph old new same = subst (λ (h : Graph). StaysInOrder old.graph h) (sym same) (λ order. order)

unchanged : (old new : State) → new ≡ old → StaysInOrder old.graph new.graph
unchanged old new same = same_graph old new (ap (λ (s : State). s.graph) same)

-- the last two lines are those of each command that sets something, and leaves the graph as it is
step_in_order : SemverMergedKeep → (old : State) (command : Command) (answer : Reply) (new : State) → BringsOrder command → Step old command answer new → StaysInOrder old.graph new.graph
step_in_order kept old (AddFeature name) (reply.Refused error) new brings step = unchanged old new step.1
step_in_order kept old (PushGroups main deps) (reply.Pushed id) new brings step = pushed_in_order old.features old.graph step.sorted new.graph step.ids step.are_pushed
step_in_order kept old (PushGroups main deps) (reply.Refused error) new brings step = same_graph old new step.graph
step_in_order kept old (PushGroups main deps) _ new brings step = absurd step
step_in_order kept old (Merge other) (reply.Merged remap) new brings step =
    subst (λ (h : Graph). StaysInOrder old.graph h) (sym step.graph) (merged_in_order (merge_of old other) brings)
step_in_order kept old (Merge other) (reply.Refused error) new brings step = same_graph old new step.graph
step_in_order kept old (Merge other) _ new brings step = absurd step
step_in_order kept old (Importize home world out) reply.Done new brings step =
    subst (λ (s : State). StaysInOrder old.graph s.graph) (sym step.is_changed) (transformed_in_order old.graph step.w (importized out))
step_in_order kept old (Importize home world out) reply.NoWorld new brings step = unchanged old new step.1
step_in_order kept old (Importize home world out) (reply.Refused error) new brings step = unchanged old new step.same
step_in_order kept old (Importize home world out) _ new brings step = absurd step
step_in_order kept old (Exportize home world out keys) reply.Done new brings step =
    subst (λ (s : State). StaysInOrder old.graph s.graph) (sym step.is_changed) (transformed_in_order old.graph step.w (exportized (answers_at old keys step.w) out))
step_in_order kept old (Exportize home world out keys) reply.NoWorld new brings step = unchanged old new step.1
step_in_order kept old (Exportize home world out keys) (reply.Refused error) new brings step = unchanged old new step.same
step_in_order kept old (Exportize home world out keys) _ new brings step = absurd step
step_in_order kept old (Semver home world) reply.Done new brings step =
    subst (λ (s : State). StaysInOrder old.graph s.graph) (sym step.is_changed)
    (replaced_in_order old.graph (semver_merged old.track_rule old.graph step.w) (kept old.track_rule old.graph step.w))
step_in_order kept old (Semver home world) reply.NoWorld new brings step = unchanged old new step.1
step_in_order kept old (Semver home world) (reply.Refused error) new brings step = unchanged old new step.same
step_in_order kept old (Semver home world) _ new brings step = absurd step
step_in_order kept old _ reply.Done new brings step = same_graph old new (ap (λ (s : State). s.graph) step)
step_in_order kept old _ _ new brings step = absurd step

pub runs_stay_in_order : SemverMergedKeep → RunsStayInOrder
runs_stay_in_order kept old new [] [] brings run = unchanged old new run
runs_stay_in_order kept old new (command ∷ commands) (answer ∷ answers) brings run =
    λ order. runs_stay_in_order kept run.0 new commands answers (λ i it at. brings (suc i) it at) run.2 (step_in_order kept old command answer run.0 (brings 0 command refl) run.1 order)
runs_stay_in_order kept old new [] (answer ∷ answers) brings run = absurd run
runs_stay_in_order kept old new (command ∷ commands) [] brings run = absurd run
