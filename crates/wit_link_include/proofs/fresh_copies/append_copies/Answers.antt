use Rattle.std.proofs.Common.{◌∙◌, ◌++◌, List, ap}
use Rattle.wit_data.specs.declared.interface.Interface.{Interface}
use Rattle.wit_data.specs.declared.types.TypeDef.{TypeDef}
use Rattle.wit_graph_data.specs.declared.graph.Graph.{Graph}
use Rattle.wit_remap.specs.facts.GrownFacts.{Begins-as, Begins-by, Grown-same, Grown-then, interfaces_grow, types_grow}
use Rattle.wit_link_include.proofs.fresh_copies.append_copies.Goals as goal

pub returns-in_err-types-clause-grown : goal.returns-in_err-types-clause-grown
returns-in_err-types-clause-grown c = Grown-same c.args.graph.now

pub returns-in_err-append-clause-grown : goal.returns-in_err-append-clause-grown
returns-in_err-append-clause-grown c = types_grow c.args.graph.now c.append.new.self (Begins-as c.args.graph.now.types c.append.new.self c.in_err-append.ensures.unchanged)

pub returns-in_err-interfaces-clause-grown : goal.returns-in_err-interfaces-clause-grown
returns-in_err-interfaces-clause-grown c = types_grow c.args.graph.now c.append.new.self (Begins-by c.args.graph.now.types c.append.new.self c.in_ok-types.types c.in_ok-append.ensures.ok)

pub returns-in_err-append-2-clause-grown : goal.returns-in_err-append-2-clause-grown
returns-in_err-append-2-clause-grown c =
    let g = c.args.graph.now in
    let with_types : Graph = record g { types = c.append.new.self } in
    Grown-then g with_types _ (types_grow g c.append.new.self (Begins-by g.types c.append.new.self c.in_ok-types.types c.in_ok-append.ensures.ok))
    (interfaces_grow with_types c.append-2.new.self (Begins-as g.interfaces c.append-2.new.self c.in_err-append-2.ensures.unchanged))

pub returns-clause-grown : goal.returns-clause-grown
returns-clause-grown c =
    let g = c.args.graph.now in
    let with_types : Graph = record g { types = c.append.new.self } in
    Grown-then g with_types _ (types_grow g c.append.new.self (Begins-by g.types c.append.new.self c.in_ok-types.types c.in_ok-append.ensures.ok))
    (interfaces_grow with_types c.append-2.new.self (Begins-by g.interfaces c.append-2.new.self c.in_ok-interfaces.interfaces c.in_ok-append-2.ensures.ok))

pub returns-clause-ok : goal.returns-clause-ok
returns-clause-ok c = λ type interface type_keys interface_keys.
    let g = c.args.graph.now in
    let types = c.in_ok-append.ensures.ok ∙ ap (λ (xs : List TypeDef). g.types ++ xs) (c.in_ok-types.ensures type type_keys) in
    let interfaces = c.in_ok-append-2.ensures.ok ∙ ap (λ (xs : List Interface). g.interfaces ++ xs) (c.in_ok-interfaces.ensures interface interface_keys) in
    λ j. record g { types = types j; interfaces = interfaces j }
