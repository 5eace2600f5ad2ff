-- Two graphs, each of which goes into the other: which interface of the one merged graph is which of the other, and that what
-- one uses in the one, its like uses in the other. An interface of a graph stays in the one merged graph and is at its place
-- in the other.
use Rattle.std.proofs.Common.{◌≡◌, ◌∙◌, inl, inr, ℕ, ◌<◌, List, [], ◌∷◌, length, Some, refl, sym, ap, subst, arith, Contains}
use Rattle.std.proofs.lemmas.Bool.{cases_Bool}
use Rattle.std.proofs.lemmas.Option.{slice_get_within}
use Rattle.wit_digraph.specs.Relation.{IsPath, Reaches, direct}
use Rattle.wit_data.specs.Uses.{interface_uses}
use Rattle.wit_elaboration.specs.Elaboration.{graph_uses}
use Rattle.wit_elaboration.specs.facts.SoundFacts.{named_within}
use Rattle.wit_elaboration.specs.Valid.{IsValid}
use Rattle.wit_graph_data.specs.declared.graph.Graph.{Graph}
use Rattle.wit_graph_theory.specs.facts.ListFacts.{from_row}
use Rattle.wit_graph_theory.specs.facts.NamedUses.{used_is_named}
use Rattle.wit_merge_spec.specs.Matches.{GraphMerge, counterpart_interface, counterpart_world}
use Rattle.wit_merge_spec.specs.Merged.{merged_interface, joined_graph}
use Rattle.wit_merge_spec.specs.Cause.{HasNoMismatch}
use Rattle.wit_merge_laws.specs.facts.InterfacesStand.{moved_interface_remapped}
use Rattle.wit_merge_laws.specs.facts.ListedStand.{interfaces_apart}
use Rattle.wit_merge_laws.specs.facts.MatchFacts.{goes_to}
use Rattle.wit_merge_laws.specs.laws.MergingLaws.{merge_of_graphs}
use Rattle.wit_merge_laws.specs.facts.TypesStand.{matched_some}
use Rattle.wit_merge_laws.specs.facts.UsesFrom.{use_from}
use Rattle.wit_merge_laws.specs.facts.UsesInto.{AliasesMatched, use_goes, use_stays}
use Rattle.wit_merge_spec.specs.steps.Parts.{moves_interface}

-- two valid graphs that agree, whichever goes into the other
pub record InBothOrders (g h : Graph) (offset back : ℕ) : Type 0 where
  pub valid : IsValid g
  pub valid_other : IsValid h
  pub one : HasNoMismatch (merge_of_graphs g h offset)
  pub one_back : HasNoMismatch (merge_of_graphs h g back)
  pub interface_back : (i i' : ℕ) → counterpart_interface (merge_of_graphs g h offset) i ≡ Some i'
      → counterpart_interface (merge_of_graphs h g back) i' ≡ Some i
  pub interface_there : (i i' : ℕ) → counterpart_interface (merge_of_graphs h g back) i ≡ Some i'
      → counterpart_interface (merge_of_graphs g h offset) i' ≡ Some i
  pub world_back : (w w' : ℕ) → counterpart_world (merge_of_graphs g h offset) w ≡ Some w'
      → counterpart_world (merge_of_graphs h g back) w' ≡ Some w
  pub world_there : (w w' : ℕ) → counterpart_world (merge_of_graphs h g back) w ≡ Some w'
      → counterpart_world (merge_of_graphs g h offset) w' ≡ Some w
  pub aliases : AliasesMatched (merge_of_graphs g h offset)
  pub aliases_back : AliasesMatched (merge_of_graphs h g back)

-- the same, with the two orders the other way round
pub other_way : (g h : Graph) (offset back : ℕ) → InBothOrders g h offset back → InBothOrders h g back offset
other_way g h offset back both = record {
  valid = both.valid_other;
  valid_other = both.valid;
  one = both.one_back;
  one_back = both.one;
  interface_back = both.interface_there;
  interface_there = both.interface_back;
  world_back = both.world_there;
  world_there = both.world_back;
  aliases = both.aliases_back;
  aliases_back = both.aliases;
}

-- ---- which interface is which

-- interface i of g with h, and interface j of h with g: both come of one interface of g, or of one of h
pub data Corresponds (g h : Graph) (offset back i j : ℕ) : Type 0 where
  of_graph : i < length g.interfaces → j ≡ merged_interface (merge_of_graphs h g back) i
      → Corresponds g h offset back i j
  of_other : j < length h.interfaces → i ≡ merged_interface (merge_of_graphs g h offset) j
      → Corresponds g h offset back i j

pub flip : (g h : Graph) (offset back i j : ℕ) → Corresponds g h offset back i j → Corresponds h g back offset j i
flip g h offset back i j (of_graph within place) = of_other within place
flip g h offset back i j (of_other within place) = of_graph within place

-- an interface of the graph that is where one of the other goes is matched with that
matched_there : (m : GraphMerge) (i k : ℕ) → i < length m.graph.interfaces → i ≡ merged_interface m k → counterpart_interface m k ≡ Some i
matched_there m i k within place = elim (cases_Bool (moves_interface m k)) [
  | inl moves ↦ let next = moved_interface_remapped m k moves in absurd (omega (arith, within, place, next))
  | inr stays ↦
      let some = matched_some (counterpart_interface m k) stays in
      let same : some.0 ≡ i = sym (goes_to (counterpart_interface m k) _ some.0 some.1) ∙ sym place in
      some.1 ∙ ap (λ (x : ℕ). Some x) same
]

meets : (g h : Graph) (offset back : ℕ) → InBothOrders g h offset back → (i k : ℕ) → i < length g.interfaces → i ≡ merged_interface (merge_of_graphs g h offset) k → merged_interface (merge_of_graphs h g back) i ≡ k
meets g h offset back both i k within place = goes_to (counterpart_interface (merge_of_graphs h g back) i) _ k (both.interface_back k i (matched_there (merge_of_graphs g h offset) i k within place))

module _ (g h : Graph) (offset back : ℕ) (both : InBothOrders g h offset back) where
  -- each corresponds to one at the most
  pub one_like : (i j k : ℕ) → Corresponds g h offset back i j → Corresponds g h offset back i k → j ≡ k
  one_like i j k (of_graph within place) (of_graph within' place') = place ∙ sym place'
  one_like i j k (of_graph within place) (of_other within' place') = place ∙ meets g h offset back both i k within place'
  one_like i j k (of_other within place) (of_graph within' place') = sym (place' ∙ meets g h offset back both i j within' place)
  one_like i j k (of_other within place) (of_other within' place') = interfaces_apart (merge_of_graphs g h offset) both.valid both.valid_other j k (sym place ∙ place')

pub one_like_back : (g h : Graph) (offset back : ℕ) → InBothOrders g h offset back → (i k j : ℕ) → Corresponds g h offset back i j → Corresponds g h offset back k j → i ≡ k
one_like_back g h offset back both i k j first second =
    one_like h g back offset (other_way g h offset back both) j i k (flip g h offset back i j first) (flip g h offset back k j second)

-- ---- uses

-- what a valid graph has uses of is there
pub user_there : (g : Graph) (i j : ℕ) → Contains (direct (graph_uses g) i) j → i < length g.interfaces
user_there g i j has = let from = from_row (interface_uses g.types) g.interfaces i j has in slice_get_within g.interfaces i from.0 from.1

used_there : (g : Graph) → IsValid g → (i j : ℕ) → Contains (direct (graph_uses g) i) j → j < length g.interfaces
used_there g valid i j has = named_within g.interfaces j (used_is_named g.types g.interfaces valid.well_formed.references.aliases i j has)

module _ (g h : Graph) (offset back : ℕ) (both : InBothOrders g h offset back) where
  abbrev there : List (List ℕ)
  there = graph_uses (joined_graph (merge_of_graphs g h offset))

  abbrev here : List (List ℕ)
  here = graph_uses (joined_graph (merge_of_graphs h g back))

  -- what an interface uses in the one merged graph, in the other
  pub record UsesLike (j x : ℕ) : Type 0 where
    pub y : ℕ
    pub like : Corresponds g h offset back x y
    pub used : Contains (direct here j) y

  pub uses_like : (i j x : ℕ) → Corresponds g h offset back i j → Contains (direct there i) x → UsesLike j x
  uses_like i j x like edge = elim (use_from (merge_of_graphs g h offset) both.valid both.valid_other both.one i x edge) [
    | inl mine ↦
        let goes = use_goes (merge_of_graphs h g back) both.valid_other both.valid both.aliases_back i x mine in
        let place : j ≡ merged_interface (merge_of_graphs h g back) i = one_like g h offset back both i j (merged_interface (merge_of_graphs h g back) i) like (of_graph (user_there g i x mine) refl) in
        record {
          y = merged_interface (merge_of_graphs h g back) x;
          like = of_graph (used_there g both.valid i x mine) refl;
          used = subst (λ (k : ℕ). Contains (direct here k) (merged_interface (merge_of_graphs h g back) x)) (sym place) goes;
        }
    | inr theirs ↦
        let stays = use_stays (merge_of_graphs h g back) theirs.i theirs.j theirs.used in
        let place : j ≡ theirs.i = one_like g h offset back both i j theirs.i like (of_other (user_there h theirs.i theirs.j theirs.used) theirs.place) in
        record {
          y = theirs.j;
          like = of_other (used_there h both.valid_other theirs.i theirs.j theirs.used) theirs.used_place;
          used = subst (λ (k : ℕ). Contains (direct here k) theirs.j) (sym place) stays;
        }
  ]

  -- so is what it reaches
  pub record ReachesLike (j x : ℕ) : Type 0 where
    pub y : ℕ
    pub like : Corresponds g h offset back x y
    pub reached : Reaches here j y

  pub reaches_like : (i j : ℕ) (path : List ℕ) (x : ℕ) → Corresponds g h offset back i j → IsPath there i path x → ReachesLike j x
  reaches_like i j [] x like same = record { y = j; like = subst (λ (k : ℕ). Corresponds g h offset back k j) same like; reached = ([], refl) }
  reaches_like i j (k ∷ path) x like leads =
      let step = uses_like i j k like leads.0 in
      let rest = reaches_like k step.y path x step.like leads.1 in
      record { y = rest.y; like = rest.like; reached = (step.y ∷ rest.reached.0, (step.used, rest.reached.1)) }
