-- What a push adds stands at the ends of the lists.
use Rattle.std.proofs.Common.{◌≡◌, ◌∙◌, ℕ, zero, suc, ◌≤◌, List, [], ◌∷◌, ◌++◌, fold, length, map, take, append_assoc, refl, ap, subst, sym, arith}
use Rattle.std.proofs.lemmas.List.{append-nil, take_all}
use Rattle.wit_data.specs.declared.interface.Interface.{Interface}
use Rattle.wit_data.specs.declared.types.TypeDef.{TypeDef}
use Rattle.wit_data.specs.declared.unresolved.UnresolvedPackageGroup.{UnresolvedPackageGroup}
use Rattle.wit_data.specs.declared.world.World.{World}
use Rattle.wit_graph_data.specs.declared.features.Features.{Features}
use Rattle.wit_graph_data.specs.declared.graph.Graph.{Graph}
use Rattle.wit_graph_data.specs.declared.graph.Package.{Package}
use Rattle.wit_sources.specs.SourceMap.{Sources, files_of, moved_file, with_sources}
use Rattle.wit_sources.specs.declared.source_map.SourceFile.{SourceFile}
use Rattle.wit_link.specs.GroupOrder.{Unresolved}
use Rattle.wit_link.specs.Appending.{AreAdded, addition}
use Rattle.wit_link_spec.specs.Addition.{Addition, own_worlds}
use Rattle.wit_link_spec.specs.Added.{added, new_package, with_parts, with_world, with_worlds}
use Rattle.wit_link_spec.specs.facts.Grown.{IsGrown, grown, interfaces_behind, more_interfaces, more_types, types_behind}
use Rattle.wit_resolve_graph.specs.Step.{with_files}

-- a list has more behind it
abbrev pub HasMore : {X : Type 0} → List X → List X → Type 0
HasMore {X = X} old new = (more : List X) × (new ≡ old ++ more)

pub no_more : {X : Type 0} (xs : List X) → HasMore xs xs
no_more xs = ([], sym (append-nil xs))

pub more_still : {X : Type 0} (xs ys zs : List X) → HasMore xs ys → HasMore ys zs → HasMore xs zs
more_still {X} xs ys zs first second =
    (first.0 ++ second.0, second.1 ∙ ap (λ (l : List X). l ++ second.0) first.1 ∙ append_assoc xs first.0 second.0)

pub record Grows (old new : Graph) : Type 0 where
  pub worlds : HasMore old.worlds new.worlds
  pub interfaces : HasMore old.interfaces new.interfaces
  pub types : HasMore old.types new.types
  pub packages : HasMore old.packages new.packages

pub grows_not : (g : Graph) → Grows g g
grows_not g = record { worlds = no_more g.worlds; interfaces = no_more g.interfaces; types = no_more g.types; packages = no_more g.packages }

grows_on : (g h k : Graph) → Grows g h → Grows h k → Grows g k
grows_on g h k first second = record {
  worlds = more_still g.worlds h.worlds k.worlds first.worlds second.worlds;
  interfaces = more_still g.interfaces h.interfaces k.interfaces first.interfaces second.interfaces;
  types = more_still g.types h.types k.types first.types second.types;
  packages = more_still g.packages h.packages k.packages first.packages second.packages;
}

-- an addition
grows_added : (a : Addition) → Grows a.graph (added a)
grows_added a =
    let count : ℕ = length (own_worlds a) in
    let whole : with_worlds a count ≡ added a = ap (fold (with_world a) (with_parts a)) (take_all count (own_worlds a) (omega arith)) in
    let are : IsGrown a count (added a) = subst (IsGrown a count) whole (grown a count (omega arith)) in
    record {
      worlds = (are.done, are.worlds_are);
      interfaces = (more_interfaces a count (added a) are, interfaces_behind a count (added a) are);
      types = (more_types a count (added a) are, types_behind a count (added a) are);
      packages = (new_package a ∷ [], are.packages_are);
    }

pub grows_pushed : (features : Features) (g : Graph) (ps : List Unresolved) (new : Graph) (ids : List ℕ) → AreAdded features g ps new ids → Grows g new
grows_pushed features g [] new [] same = subst (Grows g) (sym same) (grows_not g)
grows_pushed features g (p ∷ ps) new (id ∷ ids) pushed =
    grows_on g pushed.0 new (subst (Grows g) (sym pushed.1.graph_is) (grows_added (addition features g p.0 p.1))) (grows_pushed features pushed.0 ps new ids pushed.2)
grows_pushed features g [] new (id ∷ ids) pushed = absurd pushed
grows_pushed features g (p ∷ ps) new [] pushed = absurd pushed

-- ---- files

files_joined : (xs ys : List SourceFile) → files_of (xs ++ ys) ≡ files_of xs ++ files_of ys
files_joined [] ys = refl
files_joined (x ∷ xs) ys = ap (λ (l : List (List ℕ × List ℕ)). (x.path, x.contents) ∷ l) (files_joined xs ys)

pub files_behind : (sources others : Sources) → HasMore (files_of sources.files) (files_of (with_sources sources others).files)
files_behind sources others =
    (files_of (map (moved_file sources.end) others.files), files_joined sources.files (map (moved_file sources.end) others.files))

pub files_of_groups : (sources : Sources) (groups : List UnresolvedPackageGroup) → HasMore (files_of sources.files) (files_of (with_files sources groups).files)
files_of_groups sources [] = no_more (files_of sources.files)
files_of_groups sources (group ∷ groups) =
    more_still (files_of sources.files) (files_of (with_sources sources group.source_map).files) (files_of (with_files (with_sources sources group.source_map) groups).files)
    (files_behind sources group.source_map) (files_of_groups (with_sources sources group.source_map) groups)
