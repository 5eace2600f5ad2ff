-- The types and interfaces of a semver-merged graph are good.
use Rattle.std.proofs.Common.{◌≡◌, ◌<◌, ◌≢◌, ◌∙◌, ℕ, List, [], ◌∷◌, Option, None, Some, IsSome, length, slice_get, refl, sym, ap, subst, arith, Contains, ◌⊎◌, inl, inr}
use Rattle.std.specs.List.{enumerate_from}
use Rattle.std.proofs.lemmas.List.{length-map}
use Rattle.std.proofs.lemmas.List.Elements.{All-contains}
use Rattle.std.proofs.lemmas.Option.{slice_get_within}
use Rattle.wit_digraph.specs.facts.MemberFacts.{Contains-cons_cases, Contains-nil}
use Rattle.wit_digraph.specs.Relation.{IsPath, direct, Reaches}
use Rattle.wit_data.specs.Entries.{ItemUsesOwn}
use Rattle.wit_data.specs.Ownership.{IsOwn, IsPlain, NamesThroughUnnamed, RefersToOwn, UsesOwn, through_unnamed}
use Rattle.wit_data.specs.Kind.{referred, type_references}
use Rattle.wit_data.specs.Uses.{alias_target}
use Rattle.wit_data.specs.declared.function.Function.{Function}
use Rattle.wit_data.specs.declared.interface.Interface.{Interface}
use Rattle.wit_data.specs.declared.types.TypeDef.{TypeDef}
use Rattle.wit_data.specs.declared.types.TypeDefKind.{TypeDefKind}
use Rattle.wit_data.specs.declared.types.TypeOwner.{TypeOwner}
use Rattle.wit_data.specs.declared.world.WorldItem.{WorldItem}
use Rattle.wit_data.specs.declared.types.TypeDefKind.TheVariants as kind
use Rattle.wit_data.specs.declared.types.TypeOwner.TheVariants as owner
use Rattle.wit_data.specs.declared.world.WorldItem.TheVariants as item
use Rattle.wit_elaboration.specs.Valid.{IsValid}
use Rattle.wit_graph_theory.specs.facts.Good.{HasGoodThings, IsGoodInterface}
use Rattle.wit_graph_theory.specs.facts.GoodIsValid.{good_things}
use Rattle.wit_graph_theory.specs.facts.ListFacts.{found_at, from_row, in_row, some_at}
use Rattle.wit_graph_theory.specs.facts.OptionFacts.{option_cases}
use Rattle.wit_graph_theory.specs.facts.OwnedFacts.{row, row_from, row_into}
use Rattle.wit_graph_theory.specs.facts.PackagesAcyclic.{length-numbered}
use Rattle.wit_semver.specs.SemverMerged.{types_with_new_targets, SemverMerge, newest}
use Rattle.wit_semver.specs.facts.Accepting.{stays_so}
use Rattle.wit_semver.specs.facts.TypesAfter.{after, needs_as_alias, retargeted_from, retargeted_name, retargeted_owner, retargeted_type, type_after}
use Rattle.wit_semver.specs.steps.Parts.{retargeted, new_target}

-- an alias is not plain
alias_not_plain : (k : TypeDefKind) (t : ℕ) → alias_target k ≡ Some t → IsPlain k → ⊥
alias_not_plain (kind.Type_ ty) t is plain = plain
alias_not_plain other t is plain = cc

module _ (u : SemverMerge) (valid : IsValid u.graph) (w : ℕ) (there : slice_get u.graph.worlds w ≡ Some u.world) where
  abbrev types : List TypeDef
  types = u.graph.types

  abbrev changed : List TypeDef
  changed = types_with_new_targets u

  things : HasGoodThings u.graph
  things = good_things u.graph valid

  -- a type that names nothing as an alias stays
  stays_from_target : (t : ℕ) (def : TypeDef) → slice_get types t ≡ Some def → ((s : ℕ) → alias_target def.kind ≡ Some s → ⊥) → (o : Option ℕ) → new_target u t ≡ o → retargeted def o ≡ def
  stays_from_target t def at no_alias None is = refl
  stays_from_target t def at no_alias (Some t') is =
      let names = needs_as_alias u t (retargeted_from u t t' is).f def at (retargeted_from u t t' is).uses in
      absurd (no_alias names.0 names.1)

  plain_stays : (t : ℕ) (def : TypeDef) → slice_get types t ≡ Some def → IsPlain def.kind → after u t def ≡ def
  plain_stays t def at plain = stays_from_target t def at (λ s alias. alias_not_plain def.kind s alias plain) (new_target u t) refl

  unnamed_stays : (t : ℕ) (def : TypeDef) → slice_get types t ≡ Some def → def.name ≡ None → after u t def ≡ def
  unnamed_stays t def at none = plain_stays t def at ((things.types t def at).unnamed none)

  -- what is seen through unnamed types is what was seen
  edge_before : (i j : ℕ) → Contains (direct (through_unnamed changed) i) j → Contains (direct (through_unnamed types) i) j
  edge_before i j edge =
      let from = from_row row changed i j edge in
      let def = type_after u i from.0 from.1 in
      let parts_of = row_from from.0.name (referred from.0.kind) j from.2 in
      let none : def.0.name ≡ None = sym (retargeted_name def.0 (new_target u i)) ∙ ap (λ (d : TypeDef). d.name) (sym def.2) ∙ parts_of.0 in
      let same : from.0 ≡ def.0 = def.2 ∙ unnamed_stays i def.0 def.1 none in
      in_row row types i def.0 j def.1 (row_into def.0.name (referred def.0.kind) j none (subst (λ (d : TypeDef). Contains (referred d.kind) j) same parts_of.1))

  path_before : (i : ℕ) (path : List ℕ) (j : ℕ) → IsPath (through_unnamed changed) i path j → IsPath (through_unnamed types) i path j
  path_before i [] j same = same
  path_before i (k ∷ path) j leads = (edge_before i k leads.0, path_before k path j leads.1)

  shows_before : (id : ℕ) (by : TypeOwner) → NamesThroughUnnamed changed id by → NamesThroughUnnamed types id by
  shows_before id by (named, reaches, is) =
      let found = found_at (λ (def : TypeDef). IsSome def.name × (def.owner ≡ by)) changed named is in
      let def = type_after u named found.0 found.1 in
      let name : found.0.name ≡ def.0.name = ap (λ (d : TypeDef). d.name) def.2 ∙ retargeted_name def.0 (new_target u named) in
      let of : found.0.owner ≡ def.0.owner = ap (λ (d : TypeDef). d.owner) def.2 ∙ retargeted_owner def.0 (new_target u named) in
      (named, (reaches.0, path_before id reaches.0 named reaches.1), some_at (λ (def : TypeDef). IsSome def.name × (def.owner ≡ by)) types named def.0 def.1 (subst IsSome name found.2.0, sym of ∙ found.2.1))

  many : length changed ≡ length types
  many = length-map (enumerate_from 0 types) (λ (e : ℕ × TypeDef). after u e.0 e.1) ∙ length-numbered 0 types

  pub own_after : (by : TypeOwner) (id : ℕ) → IsOwn types by id → IsOwn changed by id
  own_after by id own = record { there = let before = own.there in omega (arith, before, many); only = λ other shows. own.only other (shows_before id other shows) }

  pub uses_own_after : (by : TypeOwner) (f : Function) → UsesOwn types by f → UsesOwn changed by f
  uses_own_after by f own i id on = own_after by id (own i id on)

  pub item_own_after : (v : ℕ) (held : WorldItem) → ItemUsesOwn types v held → ItemUsesOwn changed v held
  item_own_after v (item.Interface id stability docs span external_id) own = own
  item_own_after v (item.Function f) own = uses_own_after (owner.World v) f own
  item_own_after v (item.Type_ t span) own = own

  -- ---- each type but for where it is listed, and each interface

  -- ---- what types refer to

  refers_before : (i j : ℕ) (new : TypeDef) → slice_get changed i ≡ Some new → new.name ≡ None → Contains (referred new.kind) j → Contains (direct (type_references types) i) j
  refers_before i j new at none has =
      let def = type_after u i new at in
      let before : def.0.name ≡ None = sym (retargeted_name def.0 (new_target u i)) ∙ ap (λ (d : TypeDef). d.name) (sym def.2) ∙ none in
      let same : new ≡ def.0 = def.2 ∙ unnamed_stays i def.0 def.1 before in
      in_row (λ (d : TypeDef). referred d.kind) types i def.0 j def.1 (subst (λ (d : TypeDef). Contains (referred d.kind) j) same has)

  pub refers_in_range : (i j : ℕ) → Contains (direct (type_references changed) i) j → j < length (type_references changed)
  refers_in_range i j edge =
      let from = from_row (λ (d : TypeDef). referred d.kind) changed i j edge in
      let def = type_after u i from.0 from.1 in
      let within : j < length types = by def.0 def.1 (new_target u i) refl (subst (λ (d : TypeDef). Contains (referred d.kind) j) def.2 from.2) in
      omega (arith, within, many, length-map changed (λ (d : TypeDef). referred d.kind))
    where
      by : (def : TypeDef) → slice_get types i ≡ Some def → (o : Option ℕ) → new_target u i ≡ o → Contains (referred (retargeted def o).kind) j → j < length types
      by def at None is has =
          let old = All-contains (λ x. x < length (type_references types)) (direct (type_references types) i) j (valid.no_cycles.types.in_range i) (in_row (λ (d : TypeDef). referred d.kind) types i def j at has) in
          omega (arith, old, length-map types (λ (d : TypeDef). referred d.kind))
      by def at (Some t') is has =
          let now = retargeted_from u i t' is in
          let found = found_at (λ (named : TypeDef). (named.name ≡ Some now.name) × (named.owner ≡ owner.Interface (newest u now.f))) types t' (retargeted_type u valid i t' now) in
          let same : t' ≡ j = elim (Contains-cons_cases t' j [] has) [ inl one ↦ one | inr none ↦ absurd (Contains-nil none) ] in
          let within = slice_get_within types t' found.0 found.1 in
          omega (arith, within, same)

  -- a named type on the way from i to j
  pub record NamedOn (i j : ℕ) : Type 0 where
    pub m : ℕ
    pub def : TypeDef
    pub at : slice_get changed m ≡ Some def
    pub name : List ℕ
    pub named : def.name ≡ Some name
    pub next : ℕ
    pub edge : Contains (direct (type_references changed) m) next
    pub to : Reaches (type_references changed) i m
    pub rest : Reaches (type_references changed) next j

  pub on_the_way : (i : ℕ) (path : List ℕ) (j : ℕ) → IsPath (type_references changed) i path j → IsPath (type_references types) i path j ⊎ NamedOn i j
  on_the_way i [] j same = inl same
  on_the_way i (k ∷ path) j leads =
      let from = from_row (λ (d : TypeDef). referred d.kind) changed i k leads.0 in
      by from.0 from.1 from.2 (option_cases from.0.name) (on_the_way k path j leads.1)
    where
      by : (new : TypeDef) → slice_get changed i ≡ Some new → Contains (referred new.kind) k → (new.name ≡ None) ⊎ ((name : List ℕ) × (new.name ≡ Some name)) → IsPath (type_references types) k path j ⊎ NamedOn k j
          → IsPath (type_references types) i (k ∷ path) j ⊎ NamedOn i j
      by new at has (inr name) rest =
          inr (record { m = i; def = new; at = at; name = name.0; named = name.1; next = k; edge = leads.0; to = ([], refl); rest = (path, leads.1) })
      by new at has (inl none) (inl old) = inl (refers_before i k new at none has, old)
      by new at has (inl none) (inr n) =
          inr (record { m = n.m; def = n.def; at = n.at; name = n.name; named = n.named; next = n.next; edge = n.edge; to = (k ∷ n.to.0, (leads.0, n.to.1)); rest = n.rest })

  pub unnamed_plain : (t : ℕ) (new : TypeDef) → slice_get changed t ≡ Some new → new.name ≡ None → IsPlain new.kind
  unnamed_plain t new at none =
      let def = type_after u t new at in
      let before : def.0.name ≡ None = sym (retargeted_name def.0 (new_target u t)) ∙ ap (λ (d : TypeDef). d.name) (sym def.2) ∙ none in
      let same : new ≡ def.0 = def.2 ∙ unnamed_stays t def.0 def.1 before in
      subst (λ (d : TypeDef). IsPlain d.kind) (sym same) ((things.types t def.0 def.1).unnamed before)

  pub refers_to_own : (t : ℕ) (new : TypeDef) → slice_get changed t ≡ Some new → RefersToOwn changed new
  refers_to_own t new at =
      let def = type_after u t new at in
      subst (RefersToOwn changed) (sym def.2) (by def.0 def.1 (new_target u t))
    where
      by : (def : TypeDef) → slice_get types t ≡ Some def → (o : Option ℕ) → RefersToOwn changed (retargeted def o)
      by def at None named i id on = own_after def.owner id ((things.types t def at).own named i id on)
      by def at (Some t') named i id on = cc

  pub known_after : (t : ℕ) (new : TypeDef) → slice_get changed t ≡ Some new → new.kind ≢ kind.Unknown
  known_after t new at =
      let def = type_after u t new at in
      subst (λ (d : TypeDef). d.kind ≢ kind.Unknown) (sym def.2) (by def.0 def.1 (new_target u t))
    where
      by : (def : TypeDef) → slice_get types t ≡ Some def → (o : Option ℕ) → (retargeted def o).kind ≢ kind.Unknown
      by def at None = valid.known t def at
      by def at (Some t') = λ same. cc

  pub interface_after : (f : ℕ) (interface : Interface) → slice_get u.graph.interfaces f ≡ Some interface → IsGoodInterface changed f interface
  interface_after f interface at =
      let good = things.interfaces f interface at in
      record {
        name = good.name;
        own_types = λ i e on. stays_so u valid w there (λ name by. (name ≡ Some e.0) × (by ≡ owner.Interface f)) e.1 (good.own_types i e on);
        functions = good.functions;
        own_functions = λ i e on. uses_own_after (owner.Interface f) e.1 (good.own_functions i e on);
        distinct_types = good.distinct_types;
        distinct_functions = good.distinct_functions;
      }
