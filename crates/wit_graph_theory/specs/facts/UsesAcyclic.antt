-- Interfaces that grow by ranks stay acyclic: a use of a new interface lies over a use in its source.
use Rattle.std.proofs.Common.{◌≡◌, ◌∙◌, ◌⊎◌, inl, inr, ℕ, ◌<◌, ◌≤◌, ◌==◌, Bool, true, false, List, Option, None, Some, get_or, option_map, slice_get, refl, sym, ap, subst, arith, length, Contains, IsSome, if◌then◌else◌}
use Rattle.std.proofs.lemmas.Bool.{cases_lt}
use Rattle.std.proofs.lemmas.List.{length-map}
use Rattle.std.proofs.lemmas.List.Elements.{All-contains, Contains-get_or}
use Rattle.std.proofs.lemmas.Option.{slice_get_within}
use Rattle.wit_digraph.specs.Relation.{IsAcyclic, direct}
use Rattle.wit_data.specs.Each.{Each}
use Rattle.wit_data.specs.Uses.{alias_target, interface_uses, other_owner, type_interface_dep, uses_of}
use Rattle.wit_data.specs.declared.interface.Interface.{Interface}
use Rattle.wit_data.specs.declared.types.TypeDef.{TypeDef}
use Rattle.wit_data.specs.declared.types.TypeOwner.{TypeOwner}
use Rattle.wit_data.specs.declared.types.TypeOwner.TheVariants as owner
use Rattle.wit_graph_data.specs.declared.graph.Graph.{Graph}
use Rattle.wit_graph_theory.specs.facts.Covered.{IsCovered}
use Rattle.wit_graph_theory.specs.facts.Good.{HasGoodItems}
use Rattle.wit_graph_theory.specs.facts.Growth.{InterfacesGrow}
use Rattle.wit_remap_spec.specs.Image.{Maps, owner_image}
use Rattle.wit_remap_spec.specs.steps.Kept.{everything}
use Rattle.wit_graph_theory.specs.steps.Sources.{Carries, InterfaceStands, IsGoodSource, OwnerIsActive, Source, Stands}
use Rattle.wit_graph_theory.specs.facts.DependencyFacts.{Needs, filter_map_from, filter_map_into, needs_from, needs_into}
use Rattle.wit_graph_theory.specs.facts.GoodTypes.{alias_referred, IsAliased, from_if}
use Rattle.wit_graph_theory.specs.facts.ListFacts.{found_at, from_row, get_at, in_row, place_of, same_at}
use Rattle.wit_graph_theory.specs.facts.RowFacts.{IsAcyclic-grown}

abbrev listed_dep : List TypeDef → List ℕ × ℕ → Option ℕ
listed_dep types e = type_interface_dep types e.1

-- two interfaces that go to different ones are different
differ : (m : Maps) (f j : ℕ) (b : Bool) (j' : ℕ) → (b ≡ true → f ≡ j) → (if m.interfaces f == m.interfaces j then None else Some (m.interfaces j)) ≡ Some j'
    → ((f ≡ j) → (m.interfaces f == m.interfaces j) ≡ true) → (if b then None else Some j) ≡ Some j
differ m f j false j' same is alike = refl
differ m f j true j' same is alike = let eq = alike (same refl) in absurd (none_some (rw eq at is))
  where
    none_some : None ≡ Some j' → ⊥
    none_some h = cc

-- whose image is another interface than f's image is another interface than f
pub other_from : (m : Maps) (f : ℕ) (by : TypeOwner) (j' : ℕ) → other_owner (owner.Interface (m.interfaces f)) (owner_image m by) ≡ Some j'
    → (j : ℕ) × (by ≡ owner.Interface j) × (j' ≡ m.interfaces j) × (other_owner (owner.Interface f) by ≡ Some j)
other_from m f (owner.World w) j' is = cc
other_from m f owner.None j' is = cc
other_from m f (owner.Interface j) j' is =
    (j, refl, goes (m.interfaces f == m.interfaces j) is, differ m f j (f == j) j' (λ same. grind (arith, same)) is (λ same. let eq : m.interfaces f ≡ m.interfaces j = ap m.interfaces same in grind (arith, eq)))
  where
    goes : (b : Bool) → (if b then None else Some (m.interfaces j)) ≡ Some j' → j' ≡ m.interfaces j
    goes true h = cc
    goes false h = cc

module _ {K : Type 0} (at : K → Source) (rank : K → ℕ → ℕ) (old g : Graph) (good_old : HasGoodItems old) (good : (k : K) → IsGoodSource (at k)) (carries : (k : K) → Carries (at k) g)
    (covered : IsCovered everything at g) (grow : InterfacesGrow at rank old g) where
  record Rank (f' r : ℕ) : Type 0 where
    source : K
    f : ℕ
    takes : (at source).interfaces f ≡ true
    place : f' ≡ (at source).maps.interfaces f
    is : r ≡ rank source f

  -- an interface of the source that is used, under a used one
  record Used (k : K) (interface : Interface) (j' : ℕ) : Type 0 where
    j : ℕ
    takes : (at k).interfaces j ≡ true
    place : j' ≡ (at k).maps.interfaces j
    used : Contains (interface_uses (at k).graph.types interface) j

  -- what a type of a new interface needs, it needed
  needed : (k : K) (f : ℕ) (interface : Interface) (e : List ℕ × ℕ) (t j' : ℕ) → slice_get (at k).graph.interfaces f ≡ Some interface → (at k).interfaces f ≡ true
      → length old.interfaces ≤ (at k).maps.interfaces f → Contains interface.types (e.0, t) → (at k).types t ≡ true → e.1 ≡ (at k).maps.types t → Needs g.types e.1 j' → Used k interface j'
  needed k f interface e t j' there takes past listed takes_t is needs =
      let s = at k in
      let closed = (good k).closed in
      let spot = place_of interface.types (e.0, t) listed in
      let own = found_at (λ (def : TypeDef). (def.name ≡ Some e.0) × (def.owner ≡ owner.Interface f)) s.graph.types t (((good k).interfaces f interface there takes).own_types spot.0 (e.0, t) spot.1) in
      let exact = found_at (λ (new : TypeDef). alias_target new.kind ≡ option_map s.maps.types (alias_target own.0.kind)) g.types (s.maps.types t) (grow.aliases k f t own.0 own.1 takes_t own.2.1 past) in
      let stands = found_at (Stands s.maps own.0) g.types (s.maps.types t) ((carries k).types t own.0 own.1 takes_t) in
      let same = same_at g.types (s.maps.types t) e.1 exact.0 needs.alias (sym is) exact.1 needs.there in
      let same_too = same_at g.types (s.maps.types t) e.1 stands.0 needs.alias (sym is) stands.1 needs.there in
      let target = mapped (alias_target own.0.kind) (sym (ap (λ (d : TypeDef). alias_target d.kind) (sym same) ∙ exact.2) ∙ needs.names) in
      let u = target.0 in
      let takes_u : s.types u ≡ true = closed.references t own.0 own.1 takes_t u (alias_referred own.0.kind u target.1) in
      let def = get_at s.graph.types u (closed.in_range u takes_u) in
      let target_stands = found_at (Stands s.maps def.0) g.types (s.maps.types u) ((carries k).types u def.0 def.1 takes_u) in
      let same_target = same_at g.types (s.maps.types u) needs.target target_stands.0 needs.named (sym target.2) target_stands.1 needs.target_there in
      let by : needs.alias.owner ≡ owner.Interface (s.maps.interfaces f) = ap (λ (d : TypeDef). d.owner) (sym same_too) ∙ stands.2.owner ∙ ap (owner_image s.maps) own.2.1 in
      let named_by : needs.named.owner ≡ owner_image s.maps def.0.owner = ap (λ (d : TypeDef). d.owner) (sym same_target) ∙ target_stands.2.owner in
      let other = other_from s.maps f def.0.owner j' ((λ i. other_owner (sym by i) (sym named_by i)) ∙ needs.other) in
      let need : Needs s.graph.types t other.0 = record {
        alias = own.0;
        there = own.1;
        target = u;
        names = target.1;
        named = def.0;
        target_there = def.1;
        other = ap (λ (o : TypeOwner). other_owner o def.0.owner) own.2.1 ∙ other.3;
      } in
      record {
        j = other.0;
        takes = subst (OwnerIsActive s) other.1 (closed.owners u def.0 def.1 takes_u);
        place = other.2;
        used = filter_map_into (listed_dep s.graph.types) interface.types (e.0, t) other.0 listed (needs_into s.graph.types t other.0 need);
      }
    where
      mapped : (o : Option ℕ) → option_map (at k).maps.types o ≡ Some needs.target → (u : ℕ) × (o ≡ Some u) × (needs.target ≡ (at k).maps.types u)
      mapped None h = cc
      mapped (Some u) h = (u, refl, cc)

  used_by : (k : K) (f i j' : ℕ) (interface : Interface) → slice_get (at k).graph.interfaces f ≡ Some interface → (at k).interfaces f ≡ true → i ≡ (at k).maps.interfaces f → length old.interfaces ≤ i
      → Contains (direct (uses_of g.types g.interfaces) i) j' → Used k interface j'
  used_by k f i j' interface there takes place past has =
      let new_place : length old.interfaces ≤ (at k).maps.interfaces f = omega arith in
      let from = from_row (interface_uses g.types) g.interfaces i j' has in
      let found = found_at (λ (new : Interface). Each (λ (e : List ℕ × ℕ). (t : ℕ) × Contains interface.types (e.0, t) × ((at k).types t ≡ true) × (e.1 ≡ (at k).maps.types t)) new.types) g.interfaces ((at k).maps.interfaces f)
      (grow.listed k f interface there takes new_place) in
      let same : from.0 ≡ found.0 = let first = found.1 in let second = from.1 in cc in
      let e = filter_map_from (listed_dep g.types) from.0.types j' from.2 in
      let spot = place_of found.0.types e.0 (subst (λ (x : Interface). Contains x.types e.0) same e.1) in
      let old_one = found.2 spot.0 e.0 spot.1 in
      needed k f interface e.0 old_one.0 j' there takes new_place old_one.1 old_one.2 old_one.3 (needs_from g.types e.0.1 j' e.2)

  down : (i r j : ℕ) → length (uses_of old.types old.interfaces) ≤ i → Rank i r → Contains (direct (uses_of g.types g.interfaces) i) j
      → (j < length (uses_of old.types old.interfaces)) ⊎ ((s : ℕ) × Rank j s × (s < r))
  down i r j past ranked has =
      let long = length-map old.interfaces (interface_uses old.types) in
      let s = at ranked.source in
      let interface = get_at s.graph.interfaces ranked.f (in_source ranked.source ranked.f ranked.takes) in
      let used = used_by ranked.source ranked.f i j interface.0 interface.1 ranked.takes ranked.place (omega arith) has in
      let place = ranked.place in
      let lower = grow.falls ranked.source ranked.f used.j interface.0 interface.1 ranked.takes (omega arith) used.used in
      let is = ranked.is in
      inr (rank ranked.source used.j, record { source = ranked.source; f = used.j; takes = used.takes; place = used.place; is = refl }, omega arith)
    where
      in_source : (k : K) (f : ℕ) → (at k).interfaces f ≡ true → f < length (at k).graph.interfaces
      in_source k f takes = (good k).closed.interfaces_in_range f takes

  has_rank : (i : ℕ) (new : Interface) → slice_get g.interfaces i ≡ Some new → (r : ℕ) × Rank i r
  has_rank i new there =
      let comes = covered.interfaces i new there refl in
      (rank comes.source comes.from.f, record { source = comes.source; f = comes.from.f; takes = comes.from.takes; place = comes.from.place; is = refl })

  -- what an old interface uses, it used
  stays : (i j : ℕ) → i < length (uses_of old.types old.interfaces) → Contains (direct (uses_of g.types g.interfaces) i) j → Contains (direct (uses_of old.types old.interfaces) i) j
  stays i j before has =
      let long = length-map old.interfaces (interface_uses old.types) in
      let from = from_row (interface_uses g.types) g.interfaces i j has in
      let there = grow.kept i from.0 (omega arith) from.1 in
      let e = filter_map_from (listed_dep g.types) from.0.types j from.2 in
      let needs = needs_from g.types e.0.1 j e.2 in
      let spot = place_of from.0.types e.0 e.1 in
      let own = found_at (λ (def : TypeDef). (def.name ≡ Some e.0.0) × (def.owner ≡ owner.Interface i)) old.types e.0.1 ((good_old.interfaces i from.0 there).own_types spot.0 e.0 spot.1) in
      let alias = grow.kept_types e.0.1 needs.alias (slice_get_within old.types e.0.1 own.0 own.1) needs.there in
      let target = from_if (IsAliased old.types old.interfaces needs.alias.owner) (alias_target needs.alias.kind) needs.target (good_old.types e.0.1 needs.alias alias).alias needs.names in
      let found = found_at (λ (named : TypeDef). IsSome named.name × ((named.owner ≡ needs.alias.owner) ⊎ _)) old.types needs.target target in
      let named = grow.kept_types needs.target needs.named (slice_get_within old.types needs.target found.0 found.1) needs.target_there in
      in_row (interface_uses old.types) old.interfaces i from.0 j there
      (filter_map_into (listed_dep old.types) from.0.types e.0 j e.1
      (needs_into old.types e.0.1 j (record { alias = needs.alias; there = alias; target = needs.target; names = needs.names; named = needs.named; target_there = named; other = needs.other })))

  in_range : IsAcyclic (uses_of old.types old.interfaces) → (i j : ℕ) → Contains (direct (uses_of g.types g.interfaces) i) j → j < length (uses_of g.types g.interfaces)
  in_range acyclic i j has =
      let long = length-map g.interfaces (interface_uses g.types) in
      let long_old = length-map old.interfaces (interface_uses old.types) in
      let longer = grow.longer in
      elim (cases_lt i (length old.interfaces)) [
        | inl before ↦
            let within : j < length (uses_of old.types old.interfaces) =
            All-contains (λ x. x < length (uses_of old.types old.interfaces)) (direct (uses_of old.types old.interfaces) i) j (acyclic.in_range i) (stays i j (omega arith) has) in
            omega arith
        | inr past ↦
            let from = from_row (interface_uses g.types) g.interfaces i j has in
            let comes = covered.interfaces i from.0 from.1 refl in
            let k = comes.source in
            let used = used_by k comes.from.f i j comes.from.old comes.from.there comes.from.takes comes.from.place past has in
            let interface = get_at (at k).graph.interfaces used.j ((good k).closed.interfaces_in_range used.j used.takes) in
            let found = found_at (InterfaceStands (at k) interface.0) g.interfaces ((at k).maps.interfaces used.j) ((carries k).interfaces used.j interface.0 interface.1 used.takes) in
            let within = slice_get_within g.interfaces ((at k).maps.interfaces used.j) found.0 found.1 in
            let place = used.place in
            omega arith
      ]

  pub uses_acyclic : IsAcyclic (uses_of old.types old.interfaces) → IsAcyclic (uses_of g.types g.interfaces)
  uses_acyclic acyclic = IsAcyclic-grown Rank (uses_of old.types old.interfaces) (uses_of g.types g.interfaces) acyclic (record {
    in_range = λ i k d below. in_range acyclic i (get_or (direct (uses_of g.types g.interfaces) i) k d) (Contains-get_or (direct (uses_of g.types g.interfaces) i) k d below);
    stays = stays;
    ranked = λ i past j has. let from = from_row (interface_uses g.types) g.interfaces i j has in has_rank i from.0 from.1;
    down = down;
  })
