use Rattle.std.proofs.Common.{refl}
use Rattle.wit_link_spec.specs.steps.AdditionRefs.{addition_of}
use Rattle.wit_link_lookup.proofs.Assembled.{all_found}
use Rattle.wit_link_lookup.proofs.Remapped.{interfaces_agree, interfaces_assigned, worlds_agree, worlds_assigned}
use Rattle.wit_link_lookup.proofs.lookup.new_ids_of.Goals as goal

pub assign_ids-requires : goal.assign_ids-requires
assign_ids-requires c = interfaces_agree (addition_of c.args.addition.now) c.args.activity.now c.in_ok-found.found c.requires.activity c.in_ok-found.ensures.found

pub assign_ids-requires-2 : goal.assign_ids-requires-2
assign_ids-requires-2 c = worlds_agree (addition_of c.args.addition.now) c.args.activity.now c.in_ok-found.found c.requires.activity c.in_ok-found.ensures.found

pub returns-clause-new_ids : goal.returns-clause-new_ids
returns-clause-new_ids c =
    let a = addition_of c.args.addition.now in
    let interfaces =
    interfaces_assigned a c.args.activity.now c.in_ok-found.found c.requires.activity c.in_ok-found.ensures.found c.requires.shaped c.in_ok-found.ensures.there c.len.result c.in_ok-interfaces.interfaces c.len.ensures c.in_ok-interfaces.ensures in
    let worlds = worlds_assigned a c.args.activity.now c.in_ok-found.found c.requires.activity c.in_ok-found.ensures.found c.requires.shaped c.in_ok-found.ensures.there c.len-2.result c.in_ok-worlds.worlds c.len-2.ensures c.in_ok-worlds.ensures in
    rw (c.in_ok-types.ensures.new_ids, interfaces, worlds) refl

pub returns-clause-found : goal.returns-clause-found
returns-clause-found c = all_found (addition_of c.args.addition.now) c.in_ok-found.ensures.there c.in_ok-found.ensures.packages c.in_ok-types.ensures.there
