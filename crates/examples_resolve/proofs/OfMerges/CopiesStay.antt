-- What stays as it is where the one graph is empty, both are the same, or what comes changes nothing.
use Rattle.std.proofs.Common.{◌≡◌, ℕ, zero, suc, List, [], Option, length, nat_eq, slice_get, codes, refl, ap, lit<, arith}
use Rattle.std.proofs.lemmas.Bool.{eqb-true, false≢true}
use Rattle.std.specs.Option.{option_map_or}
use Rattle.wit_digraph.specs.PostOrder.{post_order, post_order_within}
use Rattle.wit_data.specs.declared.interface.Interface.{Interface}
use Rattle.wit_data.specs.declared.types.TypeDef.{TypeDef}
use Rattle.wit_data.specs.declared.world.World.{World}
use Rattle.wit_graph_data.specs.declared.graph.Package.{Package}
use Rattle.wit_graph_theory.specs.examples.TestFacts.{at_are}
use Rattle.wit_merge_spec.specs.Structure.{structure, structure_within}
use Rattle.wit_merge_spec.specs.Cause as merging
use Rattle.wit_merge_spec.specs.Matches.{GraphMerge}
use Rattle.wit_merge_spec.specs.steps.Leaving.{LeavesGraph}
use Rattle.wit_merge_spec.specs.Merged.{merged_interface, merged_package, merged_type, merged_world}
use Rattle.wit_merge_laws.specs.facts.EmptyFacts.{keeps_ids}
use Rattle.wit_merge_laws.specs.laws.CopyLaws.{IsPlaced, KeepsIds, StaysItself}
use Rattle.wit_merge_laws.specs.laws.Names.{at_label, in_package}
use Rattle.examples_resolve.proofs.OfMerges.Passing.{are_one, can_merge}
use Rattle.examples_resolve.specs.merge.Copies.{ExamplesOfCopies}
use Rattle.examples_resolve.specs.merge.Graphs.{b_uses_a, merge_of_graphs, only_c, three, two_numbers}

abbrev copied : GraphMerge
copied = merge_of_graphs three three

behind_others : KeepsIds (merge_of_graphs only_c b_uses_a) → ⊥
behind_others keeps = let apart : 1 ≡ 0 = keeps.types 0 in absurd (omega (arith, apart))

-- an interface behind the three isn't there
no_fourth : (i : ℕ) → IsPlaced three (suc (suc (suc i))) → ⊥
no_fourth i (in_package home name, is) = is.is
no_fourth i (at_label l, is) = false≢true is.unnamed

interface_ids : (i : ℕ) → IsPlaced three i → merged_interface copied i ≡ i
interface_ids zero placed = refl
interface_ids (suc zero) placed = refl
interface_ids (suc (suc zero)) placed = refl
interface_ids (suc (suc (suc i))) placed = absurd (no_fourth i placed)

stays : StaysItself three copied
unfolding post_order post_order_within
stays = record {
  packages = refl;
  package_names = refl;
  worlds = refl;
  interfaces = λ i interface at. at;
  types = λ t def at. at;
  package_ids = λ p home at. eqb-true _ _ (at_are (λ p (home : Package). nat_eq (merged_package copied p) p) three.packages refl p home at);
  world_ids = λ w world at. eqb-true _ _ (at_are (λ w (world : World). nat_eq (merged_world copied w) w) three.worlds refl w world at);
  interface_ids = interface_ids;
  type_ids = λ t def at placed. eqb-true _ _ (at_are (λ t (def : TypeDef). nat_eq (merged_type copied t) t) three.types refl t def at);
}

-- how many types interface 0 has
abbrev type_count : Option Interface → ℕ
type_count interface = option_map_or (λ (it : Interface). length it.types) interface 0

type_comes : StaysItself (two_numbers (codes "u")) (merge_of_graphs (two_numbers (codes "u")) (two_numbers (codes "v"))) → ⊥
type_comes same = let count : 3 ≡ 2 = ap type_count (same.interfaces 0 _ refl) in absurd (omega (arith, count))

brings_type : LeavesGraph (merge_of_graphs (two_numbers (codes "u")) (two_numbers (codes "v"))) → ⊥
brings_type leaves = let count : 3 ≡ 2 = ap (λ (interfaces : List Interface). type_count (slice_get interfaces 0)) leaves.interfaces in absurd (omega (arith, count))

pub copies : ExamplesOfCopies
unfolding post_order post_order_within structure structure_within
copies = record {
  keeps_ids = keeps_ids three 0;
  behind_others = behind_others;
  stays = stays;
  type_comes = type_comes;
  leaves = record { types = refl; interfaces = refl; worlds = refl; packages = refl };
  brings_type = brings_type;
  placed_accepted = can_merge _ (record { interfaces = refl; worlds = refl; types = refl; rank = λ i. i; uses = refl; packages = refl; exports = refl; gates = record { types = refl; interfaces = refl; worlds = refl }; results = refl; spans = refl });
  lost_refused = merging.borrow_in_result_15 _ (are_one _ refl refl refl) (record { f = _; t' = 3; moved = (0, lit< tt, refl); result_is = (0, lit< tt, refl); holds = (3, ([], refl), (2, refl)); message_is = refl });
}
