-- The world that an include names is there when its turn comes: one of the graph, or one of the package that is finished.
use Rattle.std.proofs.Common.{◌≡◌, ◌∙◌, inl, inr, ℕ, ◌+◌, ◌<◌, ◌&&◌, Bool, true, false, not, List, take, length, Some, slice_get, refl, sym, ap, subst, arith, Contains}
use Rattle.std.proofs.lemmas.Bool.{cases_Bool}
use Rattle.std.proofs.lemmas.List.{length-append}
use Rattle.std.proofs.lemmas.Option.{slice_get_within}
use Rattle.wit_data.specs.Shape.{IsShaped}
use Rattle.wit_data.specs.declared.world.World.{World}
use Rattle.wit_data.specs.declared.world.WorldInclude.{WorldInclude}
use Rattle.wit_elaboration.specs.facts.Filters.{Contains-filter}
use Rattle.wit_elaboration.specs.Valid.{IsValid}
use Rattle.wit_graph_theory.specs.facts.ListFacts.{contained_at, from_map, get_at, place_of}
use Rattle.wit_link_spec.specs.Addition.{Addition, own_world, own_worlds, remapped_world, updated_includes}
use Rattle.wit_link_spec.specs.facts.ClosedCut.{kept_world}
use Rattle.wit_link_spec.specs.Gates.{is_foreign_world, world_is_active}
use Rattle.wit_link_spec.specs.Added.{with_worlds}
use Rattle.wit_link_spec.specs.facts.RankFacts.{rank-strict}
use Rattle.wit_link_spec.specs.Reasons.{IsResolved, of_include}
use Rattle.wit_link_spec.specs.facts.Standing.{foreign_world_within, own_world_remapped}
use Rattle.wit_link_spec.specs.facts.Grown.{grown}
use Rattle.wit_link_spec.specs.facts.OwnThingFacts.{own_world_from}
use Rattle.wit_link_spec.specs.laws.StageFacts.{IncludedAreThere}
use Rattle.wit_link_spec.specs.facts.StageGrows.{begun_more}
use Rattle.wit_link_spec.specs.steps.Parts.{active_includes, begun, image_at, include_is_active, updated_include}

both : (foreign active : Bool) → foreign ≡ false → active ≡ true → not foreign && active ≡ true
both false true h k = refl
both false false h k = cc
both true active h k = cc

module _ (a : Addition) (valid : IsValid a.graph) (shaped : IsShaped a.unresolved) (image : IsResolved a) where
  -- it goes to one of the graph, or to one of the package before the world that includes it
  included_within : (k : ℕ) (e : ℕ × World) (include : WorldInclude) → slice_get (own_worlds a) k ≡ Some e → Contains (active_includes a e.1) include → remapped_world a include.id < length a.graph.worlds + k
  included_within k e include at has =
      let own = own_world_from a k e at in
      let parts = Contains-filter (include_is_active a.features) e.1.includes include has in
      let listed : Contains own.world.includes include = subst (λ (world : World). Contains world.includes include) (sym own.is) parts.0 in
      let active = kept_world a shaped image include.id include.span (of_include e.0 own.world include own.there own.active listed parts.1) in
      elim (cases_Bool (is_foreign_world a.unresolved include.id)) [
        | inl foreign ↦ let within = foreign_world_within a valid shaped image include.id foreign active in omega arith
        | inr mine ↦
            let place = place_of own.world.includes include listed in
            let earlier : include.id < e.0 = shaped.worlds.includes e.0 own.world own.there place.0 include place.1 in
            let takes = both (is_foreign_world a.unresolved include.id) (world_is_active a.features a.unresolved include.id) mine active in
            let first = rank-strict (own_world a) include.id e.0 takes earlier in
            let here = own_world_remapped a include.id takes in
            let there = own_world_remapped a e.0 own.own in
            let spot = own.place in
            omega arith
      ]

pub included_are_there : IncludedAreThere
included_are_there a k j valid shaped reached at include is =
    let e : ℕ × World = (at.id, at.world) in
    let before = slice_get_within (own_worlds a) k e at.is in
    let are = grown a k (omega arith) in
    let long = ap length are.worlds_are in
    let many = are.many in
    let from = from_map (updated_include a) (active_includes a at.world) j include is in
    let within = included_within a valid shaped reached.has_image k e from.0 at.is (contained_at (active_includes a at.world) j from.0 from.1) in
    let there = get_at (with_worlds a k).worlds (remapped_world a from.0.id) (omega (arith, within, long, many, length-append a.graph.worlds are.done)) in
    let more = begun_more (length a.graph.packages) (with_worlds a k) (image_at a at.id at.world) (take j (updated_includes a at.world)) in (
      there.0,
      subst (λ (x : WorldInclude). slice_get (begun a k j at).graph.worlds x.id ≡ Some there.0) from.2 (ap (λ (worlds : List World). slice_get worlds (remapped_world a from.0.id)) more.worlds_are ∙ there.1),
    )
