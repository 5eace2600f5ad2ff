use Rattle.std.proofs.Common.{◌≡◌, ◌∙◌, ◌⊎◌, ◌++◌, inl, inr, List, map, ap, subst, sym}
use Rattle.wit_data.specs.declared.types.TypeDef.{TypeDef}
use Rattle.wit_elaboration.specs.Elaboration.{elaborated_world}
use Rattle.wit_elaboration.specs.steps.Elaboration.{IsRefusedWorld}
use Rattle.wit_graph_data.specs.facts.ResultFacts.{residual_error}
use Rattle.wit_graph_data.specs.declared.graph.Graph.{Graph}
use Rattle.wit_graph_data.specs.declared.error_kind.ResolveErrorKind.{ResolveErrorKind}
use Rattle.wit_graph_data.specs.declared.error_kind.ResolveErrorKind.TheVariants.{OutOfMemory}
use Rattle.wit_remap.specs.facts.GrownFacts.{Begins-by, Grown-then, types_grow}
use Rattle.wit_merge.specs.steps.Behind.{AreClear, AreListed, AreReturned, IsAppendCause, ReturnNoBorrow, functions_of, with_coming}
use Rattle.wit_merge.proofs.appending.append_parts.Goals as goal

pub check_returned-requires-clause-returned : goal.check_returned-requires-clause-returned
check_returned-requires-clause-returned c =
    let types : c.as_slice.result.now ≡ c.args.graph.now.types ++ c.args.coming.types = c.as_slice.ensures ∙ c.in_ok-append.ensures.ok in
    subst (λ (ts : List TypeDef). AreReturned ts (functions_of c.args.coming.interfaces c.args.coming.worlds)) (sym types) c.requires.can.returned

pub returns-in_err-append_homes-clause-grown : goal.returns-in_err-append_homes-clause-grown
returns-in_err-append_homes-clause-grown c =
    let g = c.args.graph.now in
    Grown-then g (record g { types = c.append.new.self }) c.append_homes.new.graph (types_grow g c.append.new.self (Begins-by g.types c.append.new.self c.args.coming.types c.in_ok-append.ensures.ok)) c.append_homes.ensures.grown

pub elaborated_worlds-requires-clause-listed : goal.elaborated_worlds-requires-clause-listed
elaborated_worlds-requires-clause-listed c =
    let g = c.args.graph.now in
    let behind = with_coming g c.args.coming in
    let is : c.append_homes.new.graph ≡ record behind { worlds = g.worlds } = c.in_ok-append_homes.ensures.ok ∙ (λ j. record behind { types = c.in_ok-append.ensures.ok j; worlds = g.worlds }) in
    subst (λ (x : Graph). AreListed x c.args.coming.worlds) (sym is) c.requires.can.listed

pub returns-in_err-worlds-clause-cause : goal.returns-in_err-worlds-clause-cause
returns-in_err-worlds-clause-cause c =
    let g = c.args.graph.now in
    let behind = with_coming g c.args.coming in
    let is : c.append_homes.new.graph ≡ record behind { worlds = g.worlds } = c.in_ok-append_homes.ensures.ok ∙ (λ j. record behind { types = c.in_ok-append.ensures.ok j; worlds = g.worlds }) in
    residual_error c.from_residual-in_err-worlds.result c.from_residual-in_err-worlds.ensures.1
    (λ e told.
    let same : e ≡ c.in_err-worlds.field-0.0 = told in
    subst (λ (x : ResolveErrorKind). (x ≡ OutOfMemory) ⊎ IsAppendCause g c.args.coming x) (sym same)
    (elim c.in_err-worlds.ensures.cause [
      | inl memory ↦ inl memory
      | inr refused ↦ inr (inr (subst (λ (x : Graph). IsRefusedWorld (record x { worlds = c.args.coming.worlds }) c.in_err-worlds.field-0.0) is refused))
    ]))

pub returns-clause-ok : goal.returns-clause-ok
returns-clause-ok c =
    let g = c.args.graph.now in
    let behind = with_coming g c.args.coming in
    let is : c.append_homes.new.graph ≡ record behind { worlds = g.worlds } = c.in_ok-append_homes.ensures.ok ∙ (λ j. record behind { types = c.in_ok-append.ensures.ok j; worlds = g.worlds }) in
    let worlds : c.append-2.new.self ≡ g.worlds ++ map (elaborated_world behind) c.args.coming.worlds =
    c.in_ok-append-2.ensures.ok ∙ (λ j. (is j).worlds ++ c.in_ok-worlds.ensures.ok j) ∙ ap (λ (x : Graph). g.worlds ++ map (elaborated_world x) c.args.coming.worlds) is in
    λ j. record (is j) { worlds = worlds j }

pub returns-clause-fine : goal.returns-clause-fine
returns-clause-fine c =
    let g = c.args.graph.now in
    let behind = with_coming g c.args.coming in
    let types : c.as_slice.result.now ≡ g.types ++ c.args.coming.types = c.as_slice.ensures ∙ c.in_ok-append.ensures.ok in
    let is : c.append_homes.new.graph ≡ record behind { worlds = g.worlds } = c.in_ok-append_homes.ensures.ok ∙ (λ j. record behind { types = c.in_ok-append.ensures.ok j; worlds = g.worlds }) in
    record {
      borrows = subst (λ (ts : List TypeDef). ReturnNoBorrow ts (functions_of c.args.coming.interfaces c.args.coming.worlds)) types c.in_ok-check_returned.ensures.none;
      worlds = subst (λ (x : Graph). AreClear x c.args.coming.worlds) is c.in_ok-worlds.ensures.clear;
    }
