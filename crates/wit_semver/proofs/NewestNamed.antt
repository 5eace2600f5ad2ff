-- What an alias names after semver merging: the newest's type of the name of what it named.
use Rattle.std.proofs.Common.{◌≡◌, ℕ, List, Option, Some, sym, ap, subst}
use Rattle.std.specs.Option.{option_map_or}
use Rattle.wit_digraph.specs.facts.FreshFacts.{any_from_contains}
use Rattle.wit_data.specs.Each.{SomeAt}
use Rattle.wit_data.specs.Uses.{alias_target}
use Rattle.wit_data.specs.declared.types.TypeDef.{TypeDef}
use Rattle.wit_data.specs.declared.world.World.{World}
use Rattle.wit_elaboration.specs.AllElaborated.{all_elaborated}
use Rattle.wit_graph_theory.specs.facts.DependencyFacts.{needs_from}
use Rattle.wit_graph_theory.specs.facts.ListFacts.{some_at}
use Rattle.wit_semver.specs.SemverMerged.{types_of_new_entries, semver_merged, types_with_new_targets, target_name, semver_merge, with_new_entries_at, newest}
use Rattle.wit_semver.specs.facts.Accepting.{complete}
use Rattle.wit_semver.specs.facts.TypesAfter.{newest_has, retargeted_into, type_into}
use Rattle.wit_semver.specs.laws.TrackLaws.{AliasesNameNewest}
use Rattle.wit_semver.specs.steps.Parts.{interface_type, retargeted, new_target}

pub aliases_name_newest : AliasesNameNewest
aliases_name_newest u w t f valid there accepted follows uses replaced =
    let needs = needs_from u.graph.types t f uses in
    let among = any_from_contains t (types_of_new_entries u) follows in
    let has = newest_has u valid (complete u valid w there accepted) t f among uses replaced in
    let target : new_target u t ≡ Some has.1 = retargeted_into u t has.1 (record { f = f; follows = among; uses = uses; replaced = replaced; name = has.0; named = has.2; found = has.3 }) in
    let types_are : (semver_merged u.rule u.graph w).types ≡ types_with_new_targets u =
    ap (λ (o : Option World). (all_elaborated (option_map_or (λ (world : World). with_new_entries_at (semver_merge u.rule u.graph world) w) o u.graph)).types) there in
    subst (λ (types : List TypeDef). SomeAt types t (λ (new : TypeDef). (name : List ℕ) × (s : ℕ) × (target_name u.graph.types t ≡ Some name) × (interface_type u.graph.interfaces (newest u f) name ≡ Some s) × (alias_target new.kind ≡ Some s))) (sym types_are)
    (some_at (λ (new : TypeDef). (name : List ℕ) × (s : ℕ) × (target_name u.graph.types t ≡ Some name) × (interface_type u.graph.interfaces (newest u f) name ≡ Some s) × (alias_target new.kind ≡ Some s)) (types_with_new_targets u) t
    (retargeted needs.alias (new_target u t)) (type_into u t needs.alias needs.there)
    (has.0, has.1, has.2, has.3, ap (λ (o : Option ℕ). alias_target (retargeted needs.alias o).kind) target))
