use Rattle.std.proofs.Common.{◌≡◌, ◌∙◌, ◌<◌, ◌^◌, List, IfOk, OnOk, length, map, refl, ap, subst, arith}
use Rattle.wit_graph_data.specs.declared.graph.Graph.{Graph}
use Rattle.wit_link_spec.specs.steps.AdditionRefs.{new_ids_of, values_of}
use Rattle.wit_link_spec.specs.Addition.{active, addition_maps}
use Rattle.wit_remap_spec.specs.Selected.{selected_with_index}
use Rattle.wit_link_spec.specs.Added.{with_parts}
use Rattle.wit_link_spec.specs.declared.addition.Values.{Values}
use Rattle.wit_link_spec.specs.steps.NewThings.{is_new}
use Rattle.wit_remap.specs.steps.Fits.{added_worlds, addition, moved_parts, updated_world}
use Rattle.wit_remap.specs.steps.Movers.{maps_with}
use Rattle.wit_remap.specs.steps.Parts.{kept_of, kept_with}
use Rattle.wit_remap.specs.declared.worlds.UpdatedWorld.{UpdatedWorld}
use Rattle.wit_remap.proofs.MapsAre.{kept_is, maps_are}
use Rattle.wit_remap.proofs.Ready.{is_ready, maps_so, moved_are, moved_so, updated_so, ready_so, worlds_are}
use Rattle.wit_remap.proofs.parts.add_parts.Goals as goal

pub move_parts-requires : goal.move_parts-requires
move_parts-requires c =
    let a = addition c.args.part.now c.args.graph.now c.args.unresolved c.args.offset in
    let home : c.from_index-id.result ≡ length c.args.graph.now.packages = c.from_index-id.ensures ∙ c.len.ensures in
    let values : c.args.values.new_ids ≡ (values_of a).new_ids = ap (λ (v : Values). v.new_ids) c.requires.values in
    let maps : maps_with c.args.new_ids.now c.args.values.new_ids c.from_index-id.result c.args.offset ≡ addition_maps a =
    maps_so c.args.new_ids.now (new_ids_of a) c.args.values.new_ids (values_of a).new_ids c.from_index-id.result (length c.args.graph.now.packages) c.args.offset c.requires.new_ids values home ∙ maps_are a c.requires.shaped c.requires.image in
    let kept : kept_of c.args.part.now ≡ active a = ap (kept_with c.args.part.now.features.now) c.requires.activity ∙ kept_is a c.requires.shaped c.requires.image in
    let small : c.args.offset < 2 ^ 32 = omega arith in
    ready_so c.args.new_ids.now (new_ids_of a) (maps_with c.args.new_ids.now c.args.values.new_ids c.from_index-id.result c.args.offset) (addition_maps a) (kept_of c.args.part.now) (active a) c.args.graph.now c.args.unresolved
    c.requires.new_ids maps kept (is_ready a c.requires.valid c.requires.shaped c.requires.image small c.requires.fits c.requires.new)

pub returns-clause-ok : goal.returns-clause-ok
returns-clause-ok c =
    let a = addition c.args.part.now c.args.graph.now c.args.unresolved c.args.offset in
    let home : c.from_index-id.result ≡ length c.args.graph.now.packages = c.from_index-id.ensures ∙ c.len.ensures in
    let values : c.args.values.new_ids ≡ (values_of a).new_ids = ap (λ (v : Values). v.new_ids) c.requires.values in
    let owns : c.args.values.owns ≡ (values_of a).owns = ap (λ (v : Values). v.owns) c.requires.values in
    let maps : maps_with c.args.new_ids.now c.args.values.new_ids c.from_index-id.result c.args.offset ≡ addition_maps a =
    maps_so c.args.new_ids.now (new_ids_of a) c.args.values.new_ids (values_of a).new_ids c.from_index-id.result (length c.args.graph.now.packages) c.args.offset c.requires.new_ids values home ∙ maps_are a c.requires.shaped c.requires.image in
    let kept : kept_of c.args.part.now ≡ active a = ap (kept_with c.args.part.now.features.now) c.requires.activity ∙ kept_is a c.requires.shaped c.requires.image in
    let moved : moved_parts c.args.new_ids.now (maps_with c.args.new_ids.now c.args.values.new_ids c.from_index-id.result c.args.offset) (kept_of c.args.part.now) c.args.values.owns c.args.unresolved c.args.graph.now ≡ with_parts a =
    moved_so c.args.new_ids.now (new_ids_of a) (maps_with c.args.new_ids.now c.args.values.new_ids c.from_index-id.result c.args.offset) (addition_maps a) (kept_of c.args.part.now) (active a) c.args.values.owns (values_of a).owns c.args.unresolved c.args.graph.now c.requires.new_ids maps kept owns ∙ moved_are a c.requires.valid c.requires.shaped c.requires.image in
    subst (λ (g : Graph). OnOk c.move_parts.result (c.move_parts.new.graph ≡ g)) moved c.move_parts.ensures.ok

pub returns-clause-worlds : goal.returns-clause-worlds
returns-clause-worlds c =
    let a = addition c.args.part.now c.args.graph.now c.args.unresolved c.args.offset in
    let home : c.from_index-id.result ≡ length c.args.graph.now.packages = c.from_index-id.ensures ∙ c.len.ensures in
    let values : c.args.values.new_ids ≡ (values_of a).new_ids = ap (λ (v : Values). v.new_ids) c.requires.values in
    let maps : maps_with c.args.new_ids.now c.args.values.new_ids c.from_index-id.result c.args.offset ≡ addition_maps a =
    maps_so c.args.new_ids.now (new_ids_of a) c.args.values.new_ids (values_of a).new_ids c.from_index-id.result (length c.args.graph.now.packages) c.args.offset c.requires.new_ids values home ∙ maps_are a c.requires.shaped c.requires.image in
    let kept : kept_of c.args.part.now ≡ active a = ap (kept_with c.args.part.now.features.now) c.requires.activity ∙ kept_is a c.requires.shaped c.requires.image in
    let updated : map (updated_world (maps_with c.args.new_ids.now c.args.values.new_ids c.from_index-id.result c.args.offset) c.args.part.now) (selected_with_index (is_new (length c.args.graph.now.worlds) c.args.new_ids.now.worlds) c.args.unresolved.worlds) ≡ added_worlds a =
    updated_so c.args.new_ids.now (new_ids_of a) (maps_with c.args.new_ids.now c.args.values.new_ids c.from_index-id.result c.args.offset) (addition_maps a) c.args.part.now (length c.args.graph.now.worlds) c.args.unresolved.worlds c.requires.new_ids maps
    ∙ worlds_are a c.requires.valid c.requires.shaped c.requires.image c.args.part.now refl kept in
    subst (λ (ws : List UpdatedWorld). IfOk c.move_parts.result (λ worlds. worlds ≡ ws)) updated c.move_parts.ensures.worlds
