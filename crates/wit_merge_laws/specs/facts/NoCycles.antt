-- In two graphs as one no type refers to itself; and where no cause holds against the merge no interface uses itself
-- and no world is in conflict.
use Rattle.std.proofs.Common.{◌≡◌, ◌∙◌, ℕ, ◌+◌, ◌<◌, ◌≤◌, zero, suc, true, List, [], ◌∷◌, ◌++◌, inl, inr, map, length, Option, None, Some, IsSome, get_or, option_and_then, option_map, slice_get, refl, sym, ap, subst, arith, Contains}
use Rattle.std.specs.List.{enumerate_from}
use Rattle.std.specs.Option.{IsSomeAnd}
use Rattle.std.proofs.lemmas.Bool.{cases_Bool, ltb-true}
use Rattle.std.proofs.lemmas.List.{length-append, length-map}
use Rattle.std.proofs.lemmas.List.Elements.{Contains-get_or}
use Rattle.std.proofs.lemmas.Option.{slice_get_within}
use Rattle.wit_digraph.specs.Relation.{IsAcyclic, IsPath, direct}
use Rattle.wit_digraph.specs.PostOrder.{post_order}
use Rattle.wit_data.specs.Each.{SomeAt}
use Rattle.wit_data.specs.Ownership.{IsNamed}
use Rattle.wit_data.specs.Kind.{referred, type_references}
use Rattle.wit_data.specs.Uses.{interface_uses}
use Rattle.wit_data.specs.declared.interface.Interface.{Interface}
use Rattle.wit_data.specs.declared.types.TypeDef.{TypeDef}
use Rattle.wit_data.specs.declared.world.World.{World}
use Rattle.wit_elaboration.specs.Elaboration.{graph_uses}
use Rattle.wit_elaboration.specs.laws.ElaborationLaws.{ConflictsAreRefused}
use Rattle.wit_graph_data.specs.IdText.{id_text, interface_id_at, key_text}
use Rattle.wit_elaboration.specs.Imported.{HasTransitiveConflict}
use Rattle.wit_elaboration.specs.facts.SoundFacts.{named_within}
use Rattle.wit_elaboration.specs.Valid.{IsValid}
use Rattle.wit_graph_data.specs.declared.cause.Cause.TheVariants as cause
use Rattle.wit_graph_data.specs.declared.error_kind.ResolveErrorKind.TheVariants.{InvalidTransitiveDependency, Semantic}
use Rattle.wit_graph_data.specs.declared.graph.Graph.{Graph}
use Rattle.wit_elaboration.specs.AllElaborated.{RefersToItself, UsesItself}
use Rattle.wit_graph_theory.specs.facts.Growth.{TypesGrow}
use Rattle.wit_graph_theory.specs.facts.ListFacts.{at_below, found_at, in_row, place_of, some_at}
use Rattle.wit_graph_theory.specs.facts.NamedUses.{used_is_named}
use Rattle.wit_graph_theory.specs.Operations.{merge_sources}
use Rattle.wit_graph_theory.specs.facts.OptionFacts.{some_there}
use Rattle.wit_graph_theory.specs.facts.Referred.{RefersUnder}
use Rattle.wit_graph_theory.specs.facts.ReferredFacts.{kind_refers}
use Rattle.wit_graph_theory.specs.facts.RowFacts.{post_order_shorter}
use Rattle.wit_graph_theory.specs.steps.Sources.{Source}
use Rattle.wit_graph_theory.specs.facts.TypesAcyclic.{types_acyclic}
use Rattle.wit_merge_spec.specs.Cause.{HasNoMismatch, MergeIsAccepted, conflict_4, interface_cycle_22, merge_mismatch_24}
use Rattle.wit_merge_spec.specs.Merged.{joined_graph, merge_maps, merged_type, value_remap}
use Rattle.wit_merge_spec.specs.Matches.{GraphMerge, counterpart_type}
use Rattle.wit_merge_laws.specs.facts.JoinedGood.{MergeCanElaborate, aliases, in_order}
use Rattle.wit_merge_laws.specs.facts.MatchFacts.{goes_to, type_is}
use Rattle.wit_merge_laws.specs.facts.PackagesStand.{interfaces_in_tables}
use Rattle.wit_merge_laws.specs.facts.TypesStand.{images, joined_keeps, long_old, matched_some, new_type_at, old_types}
use Rattle.wit_merge_laws.specs.facts.WorldsStand.{joined_covered, joined_stands, sources_good}
use Rattle.wit_graph_data.specs.steps.Parts.{interface_id_text}
use Rattle.wit_elaboration.specs.steps.Parts.{interface_cycle_text}
use Rattle.wit_remap_spec.specs.steps.Parts.{owns}
use Rattle.wit_merge_spec.specs.steps.Parts.{joined_type, moves_type}

-- ---- no type refers to itself

-- the types of the graph refer to what they referred to
same_rows : (m : GraphMerge) (n : ℕ) (xs : List TypeDef) → type_references (map (joined_type m) (enumerate_from n xs)) ≡ type_references xs
same_rows m n [] = refl
same_rows m n (x ∷ xs) = λ i. referred ((joined_keeps m (n, x)).kind i) ∷ same_rows m (n + 1) xs i

module _ (m : GraphMerge) (valid : IsValid m.graph) (valid_other : IsValid m.other) (one : HasNoMismatch m) where
  abbrev g : Graph
  g = joined_graph m

  abbrev at : ℕ → Source
  at = merge_sources m.graph m.other (merge_maps m)

  -- the rank of a type of the other graph: the length of its walk
  abbrev rank : ℕ → ℕ → ℕ
  rank k t = length (post_order (type_references m.other.types) t)

  -- a matched type goes to one of the graph
  matched_before : (t t' : ℕ) → counterpart_type m t ≡ Some t' → merged_type m t < length m.graph.types
  matched_before t t' found =
      let is = type_is m valid t t' found in
      subst (λ (x : ℕ). x < length m.graph.types) (sym (goes_to (counterpart_type m t) _ t' found)) (slice_get_within m.graph.types t' is.into is.into_is)

  abbrev RefersSo : ℕ → TypeDef → TypeDef → Type 0
  RefersSo k def new = RefersUnder (at k).maps (referred def.kind) (referred new.kind)

  carried : (k t : ℕ) (def : TypeDef) → slice_get (at k).graph.types t ≡ Some def → (at k).types t ≡ true → length (old_types m) ≤ (at k).maps.types t → SomeAt g.types ((at k).maps.types t) (RefersSo k def)
  carried zero t def there takes past =
      let within = ltb-true t (length m.graph.types) takes in
      let long = long_old m in
      absurd (omega (arith, within, past, long))
  carried (suc k) t def there takes past = elim (cases_Bool (moves_type m t)) [
    | inl moves ↦ some_at (RefersSo 1 def) g.types (merged_type m t) _ (new_type_at m t def there moves) (kind_refers (merge_maps m) def.kind)
    | inr stays ↦
        let found = matched_some (counterpart_type m t) stays in
        let before = matched_before t found.0 found.1 in
        let long = long_old m in
        absurd (omega (arith, before, past, long))
  ]

  falls : (k t u : ℕ) (def : TypeDef) → slice_get (at k).graph.types t ≡ Some def → (at k).types t ≡ true → length (old_types m) ≤ (at k).maps.types t → Contains (referred def.kind) u → rank k u < rank k t
  falls zero t u def there takes past has =
      let within = ltb-true t (length m.graph.types) takes in
      let long = long_old m in
      absurd (omega (arith, within, past, long))
  falls (suc k) t u def there takes past has =
      let row = λ (def : TypeDef). referred def.kind in
      let long = length-map m.other.types row in
      let within = slice_get_within m.other.types t def there in
      post_order_shorter (type_references m.other.types) valid_other.no_cycles.types t u (omega (arith, within, long)) (in_row row m.other.types t def u there has)

  types_grow : TypesGrow at rank (old_types m) g
  types_grow = record {
    longer = omega (arith, length-append (old_types m) (images m ++ owns (value_remap m)));
    kept = λ i def before there. at_below (old_types m) (images m ++ owns (value_remap m)) i def before there;
    carried = carried;
    falls = falls;
  }

  pub joined_types_acyclic : IsAcyclic (type_references g.types)
  joined_types_acyclic =
      types_acyclic at rank (old_types m) g (λ k. (sources_good m valid valid_other one k).closed) (joined_stands m valid valid_other one) (joined_covered m valid valid_other one) types_grow
      (subst IsAcyclic (sym (same_rows m 0 m.graph.types)) valid.no_cycles.types)

-- ---- where no cause holds against the merge

pub are_one : (m : GraphMerge) → MergeIsAccepted m → HasNoMismatch m
are_one m can message differs = can (Semantic None message cause.MergeMismatch) (merge_mismatch_24 message differs)

has_home : (P : ℕ → Type 0) (o : Option ℕ) → IsSomeAnd o P → (p : ℕ) × (o ≡ Some p)
has_home P None h = absurd h
has_home P (Some p) h = (p, refl)

module _ (m : GraphMerge) (valid : IsValid m.graph) (valid_other : IsValid m.other) (can : MergeIsAccepted m) where
  abbrev one : HasNoMismatch m
  one = are_one m can

  abbrev joined : Graph
  joined = joined_graph m

  abbrev uses : List (List ℕ)
  uses = graph_uses joined

  named_is_used : (i j : ℕ) → Contains (direct uses i) j → IsNamed joined.interfaces j
  named_is_used i j has = used_is_named joined.types joined.interfaces (aliases m valid valid_other one) i j has

  -- the end of a path along uses has a name
  end_named : (i k : ℕ) (path : List ℕ) (j : ℕ) → IsPath uses i (k ∷ path) j → IsNamed joined.interfaces j
  end_named i k [] j leads = subst (IsNamed joined.interfaces) leads.1 (named_is_used i k leads.0)
  end_named i k (x ∷ path) j leads = end_named k x path j leads.1

  id_of_named : (i : ℕ) → IsNamed joined.interfaces i → (id : List ℕ) × (interface_id_at joined.packages joined.interfaces i ≡ Some id)
  id_of_named i named =
      let found = found_at (λ (interface : Interface). IsSome interface.name) joined.interfaces i named in
      let name = some_there found.0.name found.2 in
      let home = has_home _ found.0.package (interfaces_in_tables m valid valid_other i found.0 found.1) in
      (id_text joined.packages home.0 name.0, whole (slice_get joined.interfaces i) found.0 found.1 name.0 home.0 name.1 home.1)
    where
      whole : (o : Option Interface) (interface : Interface) → o ≡ Some interface → (name : List ℕ) (p : ℕ) → interface.name ≡ Some name → interface.package ≡ Some p
          → option_and_then (interface_id_text joined.packages) o ≡ Some (id_text joined.packages p name)
      whole o interface at name p named of =
          ap (option_and_then (interface_id_text joined.packages)) at ∙ ap (option_and_then (λ (n : List ℕ). option_map (λ (q : ℕ). id_text joined.packages q n) interface.package)) named
          ∙ ap (option_map (λ (q : ℕ). id_text joined.packages q name)) of

  no_interface_cycle : (message : List ℕ) → UsesItself joined message → ⊥
  no_interface_cycle message is = can (Semantic None message cause.InterfaceCycle) (interface_cycle_22 message one is)

  no_type_cycle : (message : List ℕ) → RefersToItself joined message → ⊥
  no_type_cycle message is = (joined_types_acyclic m valid valid_other one).no_cycle is.t is.u is.on_cycle.leads_back.0 (is.on_cycle.is_used, is.on_cycle.leads_back.1)

  -- no interface uses itself
  joined_uses_acyclic : IsAcyclic uses
  joined_uses_acyclic = record {
    in_range = λ i k d inside.
        let has = Contains-get_or (direct uses i) k d inside in
        let within = named_within joined.interfaces (get_or (direct uses i) k d) (named_is_used i (get_or (direct uses i) k d) has) in
        omega (arith, within, length-map joined.interfaces (interface_uses joined.types));
    no_cycle = λ i k path leads.
        let id = id_of_named i (end_named i k path i leads) in
        no_interface_cycle (interface_cycle_text id.0) (record { i = i; j = k; on_cycle = record { is_used = leads.0; leads_back = (path, leads.1) }; id = id.0; id_is = id.1; message_is = refl });
  }

  -- no world is in conflict
  joined_clear : ConflictsAreRefused → (world : World) → Contains joined.worlds world → HasTransitiveConflict uses world.exports → ⊥
  joined_clear refused world there conflict =
      let place = place_of joined.worlds world there in
      let k = (refused joined.types uses world.imports world.exports joined_uses_acyclic (in_order m valid valid_other one place.0 world place.1)).0 conflict in
      let name = key_text joined.packages joined.interfaces k.0 in
      can (InvalidTransitiveDependency world.span name)
      (conflict_4 world.span name one (record { interfaces = no_interface_cycle; types = no_type_cycle; world = world; there = there; conflict = conflict; name_is = (k.0, k.1, refl); span_is = refl }))

  -- so all of it can be elaborated
  pub can_elaborate : ConflictsAreRefused → MergeCanElaborate m
  can_elaborate refused = record { acyclic = joined_uses_acyclic; clear = joined_clear refused }
