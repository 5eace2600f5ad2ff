-- A run keeps what was there.
use Rattle.std.proofs.Common.{◌≡◌, ◌∙◌, inl, inr, ℕ, List, [], ◌∷◌, ◌++◌, Option, None, Some, fold, length, slice_get, slice_set, append_assoc, refl, ap, subst, sym}
use Rattle.std.specs.Option.{option_map_or}
use Rattle.std.proofs.lemmas.List.{append-nil}
use Rattle.wit_values.specs.facts.Lists.{kept-cases, slice_get-append, slice_get-set}
use Rattle.wit_data.specs.Each.{EachAt, SomeAt}
use Rattle.wit_graph_data.specs.declared.features.Features.{Features}
use Rattle.wit_graph_data.specs.declared.graph.Graph.{Graph}
use Rattle.wit_graph_data.specs.declared.graph.Package.{Package}
use Rattle.wit_data.specs.declared.interface.Interface.{Interface}
use Rattle.wit_data.specs.declared.stability.Stability.{Stability}
use Rattle.wit_data.specs.declared.types.TypeDef.{TypeDef}
use Rattle.wit_data.specs.declared.types.TypeDefKind.{TypeDefKind}
use Rattle.wit_data.specs.declared.world.World.{World}
use Rattle.wit_data.specs.declared.world.WorldInclude.{WorldInclude}
use Rattle.wit_graph_theory.specs.facts.ListFacts.{found_at, same_at, some_at}
use Rattle.wit_link.specs.GroupOrder.{Unresolved}
use Rattle.wit_link_spec.specs.Addition.{Addition, own_worlds, updated_includes}
use Rattle.wit_link_spec.specs.Include.{PartiallyLinked, with_copies, with_several, with_world_included}
use Rattle.wit_link_spec.specs.Added.{added, new_package, with_parts, with_world}
use Rattle.wit_link_spec.specs.facts.Linked.{linked_world}
use Rattle.wit_remap_spec.specs.Image.{Maps}
use Rattle.wit_link.specs.Appending.{AreAdded, addition}
use Rattle.wit_merge_spec.specs.Matches.{GraphMerge}
use Rattle.wit_merge_spec.specs.facts.Unchanged.{SameHome, SameInterface, SamePackage, SameType}
use Rattle.wit_merge_spec.specs.Merged.{merged}
use Rattle.wit_merge_laws.specs.facts.KeptFacts.{interfaces_stay, names_stay, packages_stay, types_stay, worlds_stay}
use Rattle.wit_semver.specs.SemverMerged.{semver_merged}
use Rattle.wit_semver.specs.laws.Unchanged.{IsAlias, SameButLists, SameButTarget, SameKind}
use Rattle.wit_semver.specs.laws.TrackLaws.{KeepsThings, SemverMergedKeep}
use Rattle.wit_resolve_graph.specs.Merging.{merge_of}
use Rattle.wit_resolve_graph.specs.laws.RunLaws.{Keeps, KeepsType, RunsKeep}
use Rattle.wit_resolve_graph.specs.State.{State}
use Rattle.wit_resolve_graph.specs.Step.{Step, answers_at}
use Rattle.wit_transform.specs.Transformed.{WorldLists, exportized, importized, transformed, transformed_at, with_renamed}
use Rattle.wit_resolve_graph.specs.declared.command.Command.{Command}
use Rattle.wit_resolve_graph.specs.declared.command.Command.TheVariants.{AddFeature, PushGroups, Merge, Importize, Exportize, Semver}
use Rattle.wit_resolve_graph.specs.declared.command.Reply.{Reply}
use Rattle.wit_resolve_graph.specs.declared.command.Reply.TheVariants as reply
use Rattle.wit_link_spec.specs.steps.Parts.{before_includes, home_of, image_at, with_one}
use Rattle.wit_transform.specs.steps.Parts.{put_last, transformed_world}

nothing_more : {X : Type 0} (xs : List X) → (more : List X) × (xs ≡ xs ++ more)
nothing_more xs = ([], sym (append-nil xs))

more_again : {X : Type 0} (xs ys zs : List X) → (more : List X) × (ys ≡ xs ++ more) → (more : List X) × (zs ≡ ys ++ more) → (more : List X) × (zs ≡ xs ++ more)
more_again {X} xs ys zs first second =
    (first.0 ++ second.0, second.1 ∙ ap (λ (l : List X). l ++ second.0) first.1 ∙ append_assoc xs first.0 second.0)

same_interface : (interface : Interface) → SameInterface interface interface
same_interface interface = record { name = refl; home = refl; types = nothing_more interface.types; functions = nothing_more interface.functions }

same_type : (def : TypeDef) → KeepsType def def
same_type def = record { rest = refl; kind = inl refl }

kind_again : (a b c : TypeDefKind) → SameKind a b → SameKind b c → SameKind a c
kind_again a b c (inl first) (inl second) = inl (second ∙ first)
kind_again a b c (inl first) (inr second) = inr (subst IsAlias first second.0, second.1)
kind_again a b c (inr first) (inl second) = inr (first.0, subst IsAlias (sym second) first.1)
kind_again a b c (inr first) (inr second) = inr (first.0, second.1)

type_again : (a b c : TypeDef) → KeepsType a b → KeepsType b c → KeepsType a c
type_again a b c first second = record {
  rest = second.rest ∙ ap (λ (d : TypeDef). record d { kind = c.kind; stability = c.stability }) first.rest;
  kind = kind_again a.kind b.kind c.kind first.kind second.kind;
}

keeps_all : (g : Graph) → Keeps g g
keeps_all g = record {
  types = λ t def at. some_at (KeepsType def) g.types t def at (same_type def);
  interfaces = λ i interface at. some_at (SameInterface interface) g.interfaces i interface at (same_interface interface);
  worlds = λ w world at. some_at (SameHome world) g.worlds w world at refl;
  packages = λ p home at. some_at (SamePackage home) g.packages p home at (refl, nothing_more home.interfaces);
  names = nothing_more g.package_names;
}

keeps_on : (g h k : Graph) → Keeps g h → Keeps h k → Keeps g k
keeps_on g h k first second = record {
  types = λ t def at.
      let mid = found_at (KeepsType def) h.types t (first.types t def at) in
      let last = found_at (KeepsType mid.0) k.types t (second.types t mid.0 mid.1) in
      some_at (KeepsType def) k.types t last.0 last.1 (type_again def mid.0 last.0 mid.2 last.2);
  interfaces = λ i interface at.
      let mid = found_at (SameInterface interface) h.interfaces i (first.interfaces i interface at) in
      let last = found_at (SameInterface mid.0) k.interfaces i (second.interfaces i mid.0 mid.1) in
      some_at (SameInterface interface) k.interfaces i last.0 last.1 (record {
        name = last.2.name ∙ mid.2.name;
        home = last.2.home ∙ mid.2.home;
        types = more_again interface.types mid.0.types last.0.types mid.2.types last.2.types;
        functions = more_again interface.functions mid.0.functions last.0.functions mid.2.functions last.2.functions;
      });
  worlds = λ w world at.
      let mid = found_at (SameHome world) h.worlds w (first.worlds w world at) in
      let last = found_at (SameHome mid.0) k.worlds w (second.worlds w mid.0 mid.1) in
      some_at (SameHome world) k.worlds w last.0 last.1 (last.2 ∙ mid.2);
  packages = λ p home at.
      let mid = found_at (SamePackage home) h.packages p (first.packages p home at) in
      let last = found_at (SamePackage mid.0) k.packages p (second.packages p mid.0 mid.1) in
      some_at (SamePackage home) k.packages p last.0 last.1 (last.2.0 ∙ mid.2.0, more_again home.interfaces mid.0.interfaces last.0.interfaces mid.2.1 last.2.1);
  names = more_again g.package_names h.package_names k.package_names first.names second.names;
}

-- with other worlds behind
keeps_with_worlds : (g : Graph) (worlds : List World) → Keeps g (record g { worlds = g.worlds ++ worlds })
keeps_with_worlds g worlds = record {
  types = (keeps_all g).types;
  interfaces = (keeps_all g).interfaces;
  worlds = λ w world at. some_at (SameHome world) (g.worlds ++ worlds) w world (slice_get-append g.worlds worlds w world at) refl;
  packages = (keeps_all g).packages;
  names = nothing_more g.package_names;
}

-- types and interfaces with others behind them
types_behind : (xs ys : List TypeDef) → EachAt (λ t (def : TypeDef). SomeAt (xs ++ ys) t (KeepsType def)) xs
types_behind xs ys t def at = some_at (KeepsType def) (xs ++ ys) t def (slice_get-append xs ys t def at) (same_type def)

interfaces_behind : (xs ys : List Interface) → EachAt (λ i (interface : Interface). SomeAt (xs ++ ys) i (SameInterface interface)) xs
interfaces_behind xs ys i interface at = some_at (SameInterface interface) (xs ++ ys) i interface (slice_get-append xs ys i interface at) (same_interface interface)

-- the copies of an include keep it
keeps_copies : (g : Graph) (from : ℕ) (world : World) (m : Maps) → Keeps g (with_copies g from world m)
keeps_copies g from world m = record {
  types = types_behind g.types _;
  interfaces = interfaces_behind g.interfaces _;
  worlds = (keeps_all g).worlds;
  packages = (keeps_all g).packages;
  names = nothing_more g.package_names;
}

keeps_include : (home : ℕ) (b : PartiallyLinked) (include : WorldInclude) → Keeps b.graph (with_one home b include).graph
keeps_include home b include = by (slice_get b.graph.worlds include.id)
  where
    by : (o : Option World) → Keeps b.graph (option_map_or (λ (world : World). with_world_included home (length b.graph.worlds) include.names include.id world b) o b).graph
    by None = keeps_all b.graph
    by (Some world) = keeps_copies b.graph include.id world _

keeps_includes : (home : ℕ) (includes : List WorldInclude) (b : PartiallyLinked) → Keeps b.graph (fold (with_one home) b includes).graph
keeps_includes home [] b = keeps_all b.graph
keeps_includes home (include ∷ includes) b =
    keeps_on b.graph (with_one home b include).graph (fold (with_one home) (with_one home b include) includes).graph (keeps_include home b include) (keeps_includes home includes (with_one home b include))

module _ (a : Addition) where
  keeps_world : (g : Graph) (e : ℕ × World) → Keeps g (with_world a g e)
  keeps_world g e =
      let b = with_several (home_of a) g (image_at a e.0 e.1) (updated_includes a e.1) in
      keeps_on g b.graph (with_world a g e) (keeps_includes (home_of a) (updated_includes a e.1) (before_includes g (image_at a e.0 e.1))) (keeps_with_worlds b.graph (linked_world a e.0 e.1 b ∷ []))

  pub keeps_worlds : (es : List (ℕ × World)) (g : Graph) → Keeps g (fold (with_world a) g es)
  keeps_worlds [] g = keeps_all g
  keeps_worlds (e ∷ es) g = keeps_on g (with_world a g e) (fold (with_world a) (with_world a g e) es) (keeps_world g e) (keeps_worlds es (with_world a g e))

  -- an addition keeps it
  pub keeps_pushed : Keeps a.graph (added a)
  keeps_pushed = keeps_on a.graph (with_parts a) (added a) parts (keeps_worlds (own_worlds a) (with_parts a))
    where
      parts : Keeps a.graph (with_parts a)
      parts = record {
        types = types_behind a.graph.types _;
        interfaces = interfaces_behind a.graph.interfaces _;
        worlds = (keeps_all a.graph).worlds;
        packages = λ p home at. some_at (SamePackage home) (a.graph.packages ++ new_package a ∷ []) p home (slice_get-append a.graph.packages (new_package a ∷ []) p home at) (refl, nothing_more home.interfaces);
        names = (_, refl);
      }

pub keeps_pushes : (features : Features) (g : Graph) (ps : List Unresolved) (new : Graph) (ids : List ℕ) → AreAdded features g ps new ids → Keeps g new
keeps_pushes features g [] new [] same = subst (Keeps g) (sym same) (keeps_all g)
keeps_pushes features g (p ∷ ps) new (id ∷ ids) pushed =
    keeps_on g pushed.0 new (subst (Keeps g) (sym pushed.1.graph_is) (keeps_pushed (addition features g p.0 p.1))) (keeps_pushes features pushed.0 ps new ids pushed.2)
keeps_pushes features g [] new (id ∷ ids) pushed = absurd pushed
keeps_pushes features g (p ∷ ps) new [] pushed = absurd pushed

-- a turn keeps it
module _ (g : Graph) (w : ℕ) (old : World) (turn : WorldLists) (there : slice_get g.worlds w ≡ Some old) where
  worlds_transformed : (v : ℕ) (world : World) → slice_get g.worlds v ≡ Some world → SomeAt (slice_set g.worlds w (transformed_world g old turn)) v (SameHome world)
  worlds_transformed v world at =
      elim (kept-cases g.worlds w (transformed_world g old turn) v world at) [
        | inl same ↦
            let one : world ≡ old = same_at g.worlds v w world old same at there in
            subst (λ (u : ℕ). SomeAt (slice_set g.worlds w (transformed_world g old turn)) u (SameHome world)) (sym same)
            (some_at (SameHome world) (slice_set g.worlds w (transformed_world g old turn)) w (transformed_world g old turn) (slice_get-set g.worlds w old (transformed_world g old turn) there) (ap (λ (x : World). x.package) (sym one)))
        | inr stays ↦ some_at (SameHome world) (slice_set g.worlds w (transformed_world g old turn)) v world stays refl
      ]

  packages_renamed : (o : Option ℕ) (i : ℕ) (home : Package) → slice_get g.packages i ≡ Some home → SomeAt (with_renamed g.packages o w turn.name) i (SamePackage home)
  packages_renamed None i home at = some_at (SamePackage home) g.packages i home at (refl, nothing_more home.interfaces)
  packages_renamed (Some p) i home at = by (slice_get g.packages p) refl
    where
      by : (o : Option Package) → slice_get g.packages p ≡ o → SomeAt (option_map_or (λ (x : Package). slice_set g.packages p (record x { worlds = put_last x.worlds w turn.name })) o g.packages) i (SamePackage home)
      by None none = some_at (SamePackage home) g.packages i home at (refl, nothing_more home.interfaces)
      by (Some x) found =
          let renamed : Package = record x { worlds = put_last x.worlds w turn.name } in
          elim (kept-cases g.packages p renamed i home at) [
            | inl same ↦
                let one : home ≡ x = same_at g.packages i p home x same at found in
                subst (λ (u : ℕ). SomeAt (slice_set g.packages p renamed) u (SamePackage home)) (sym same)
                (some_at (SamePackage home) (slice_set g.packages p renamed) p renamed (slice_get-set g.packages p x renamed found) (ap (λ (y : Package). y.name) (sym one), ([], ap (λ (y : Package). y.interfaces) (sym one) ∙ sym (append-nil home.interfaces))))
            | inr stays ↦ some_at (SamePackage home) (slice_set g.packages p renamed) i home stays (refl, nothing_more home.interfaces)
          ]

  keeps_transformed_at : Keeps g (transformed_at g w old turn)
  keeps_transformed_at = record {
    types = (keeps_all g).types;
    interfaces = (keeps_all g).interfaces;
    worlds = worlds_transformed;
    packages = packages_renamed old.package;
    names = nothing_more g.package_names;
  }

pub keeps_transformed : (g : Graph) (w : ℕ) (f : World → WorldLists) → Keeps g (transformed g w f)
keeps_transformed g w f = by (slice_get g.worlds w) refl
  where
    by : (o : Option World) → slice_get g.worlds w ≡ o → Keeps g (option_map_or (λ (world : World). transformed_at g w world (f world)) o g)
    by None none = keeps_all g
    by (Some old) there = keeps_transformed_at g w old (f old) there

-- all but the stability, or all but what an alias names, is kept
but_stability : (old new : TypeDef) → SameType old new → KeepsType old new
but_stability old new same =
    let kinds : new.kind ≡ old.kind = ap (λ (d : TypeDef). d.kind) same in
    record { rest = same ∙ ap (λ (k : TypeDefKind). record old { kind = k; stability = new.stability }) (sym kinds); kind = inl kinds }

but_target : (old new : TypeDef) → SameButTarget old new → KeepsType old new
but_target old new same =
    let stabilities : new.stability ≡ old.stability = ap (λ (d : TypeDef). d.stability) same.0 in
    record { rest = same.0 ∙ ap (λ (s : Stability). record old { kind = new.kind; stability = s }) (sym stabilities); kind = same.1 }

-- a merge keeps it
pub keeps_merged : (m : GraphMerge) → Keeps m.graph (merged m)
keeps_merged m = record {
  types = λ t def at.
      let there = found_at (SameType def) (merged m).types t (types_stay m t def at) in
      some_at (KeepsType def) (merged m).types t there.0 there.1 (but_stability def there.0 there.2);
  interfaces = interfaces_stay m;
  worlds = worlds_stay m;
  packages = packages_stay m;
  names = names_stay m;
}

-- so does what keeps all but the lists of worlds and what aliases name
pub keeps_things : (g h : Graph) → KeepsThings g h → Keeps g h
keeps_things g h kept = record {
  types = λ t def at.
      let there = found_at (SameButTarget def) h.types t (kept.types t def at) in
      some_at (KeepsType def) h.types t there.0 there.1 (but_target def there.0 there.2);
  interfaces = λ i interface at. some_at (SameInterface interface) h.interfaces i interface (ap (λ (l : List Interface). slice_get l i) kept.interfaces ∙ at) (same_interface interface);
  worlds = λ w world at.
      let there = found_at (SameButLists world) h.worlds w (kept.worlds w world at) in
      some_at (SameHome world) h.worlds w there.0 there.1 (ap (λ (x : World). x.package) there.2);
  packages = λ p home at. some_at (SamePackage home) h.packages p home (ap (λ (l : List Package). slice_get l p) kept.packages ∙ at) (refl, nothing_more home.interfaces);
  names = ([], kept.names ∙ sym (append-nil g.package_names));
}

same_graph : (old new : State) → new.graph ≡ old.graph → Keeps old.graph new.graph
same_graph old new same = subst (Keeps old.graph) (sym same) (keeps_all old.graph)

unchanged : (old new : State) → new ≡ old → Keeps old.graph new.graph
unchanged old new same = same_graph old new (ap (λ (s : State). s.graph) same)

-- the last two lines are those of each command that sets something, and leaves the graph as it is
keeps_step : SemverMergedKeep → (old : State) (command : Command) (answer : Reply) (new : State) → Step old command answer new → Keeps old.graph new.graph
keeps_step kept old (AddFeature name) (reply.Refused error) new step = unchanged old new step.1
keeps_step kept old (PushGroups main deps) (reply.Pushed id) new step = keeps_pushes old.features old.graph step.sorted new.graph step.ids step.are_pushed
keeps_step kept old (PushGroups main deps) (reply.Refused error) new step = same_graph old new step.graph
keeps_step kept old (PushGroups main deps) _ new step = absurd step
keeps_step kept old (Merge other) (reply.Merged remap) new step = subst (Keeps old.graph) (sym step.graph) (keeps_merged (merge_of old other))
keeps_step kept old (Merge other) (reply.Refused error) new step = same_graph old new step.graph
keeps_step kept old (Merge other) _ new step = absurd step
keeps_step kept old (Importize home world out) reply.Done new step =
    subst (λ (s : State). Keeps old.graph s.graph) (sym step.is_changed) (keeps_transformed old.graph step.w (importized out))
keeps_step kept old (Importize home world out) reply.NoWorld new step = unchanged old new step.1
keeps_step kept old (Importize home world out) (reply.Refused error) new step = unchanged old new step.same
keeps_step kept old (Importize home world out) _ new step = absurd step
keeps_step kept old (Exportize home world out keys) reply.Done new step =
    subst (λ (s : State). Keeps old.graph s.graph) (sym step.is_changed) (keeps_transformed old.graph step.w (exportized (answers_at old keys step.w) out))
keeps_step kept old (Exportize home world out keys) reply.NoWorld new step = unchanged old new step.1
keeps_step kept old (Exportize home world out keys) (reply.Refused error) new step = unchanged old new step.same
keeps_step kept old (Exportize home world out keys) _ new step = absurd step
keeps_step kept old (Semver home world) reply.Done new step =
    subst (λ (s : State). Keeps old.graph s.graph) (sym step.is_changed) (keeps_things old.graph (semver_merged old.track_rule old.graph step.w) (kept old.track_rule old.graph step.w))
keeps_step kept old (Semver home world) reply.NoWorld new step = unchanged old new step.1
keeps_step kept old (Semver home world) (reply.Refused error) new step = unchanged old new step.same
keeps_step kept old (Semver home world) _ new step = absurd step
keeps_step kept old _ reply.Done new step = same_graph old new (ap (λ (s : State). s.graph) step)
keeps_step kept old _ _ new step = absurd step

pub runs_keep : SemverMergedKeep → RunsKeep
runs_keep kept old new [] [] run = unchanged old new run
runs_keep kept old new (command ∷ commands) (answer ∷ answers) run =
    keeps_on old.graph run.0.graph new.graph (keeps_step kept old command answer run.0 run.1) (runs_keep kept run.0 new commands answers run.2)
runs_keep kept old new [] (answer ∷ answers) run = absurd run
runs_keep kept old new (command ∷ commands) [] run = absurd run
