use Rattle.std.proofs.Common.{◌≡◌, ◌∙◌, ◌⊎◌, ◌++◌, ◌∷◌, [], List, map, ap, sym, subst, arith, Contains}
use Rattle.std.proofs.lemmas.List.{append_assoc, append-nil, map-append}
use Rattle.std.proofs.lemmas.List.Elements.{Contains-append_right}
use Rattle.std.specs.Vec.Iter.{into_iter_items}
use Rattle.wit_digraph.specs.facts.MemberFacts.{Contains-here, Contains-nil}
use Rattle.wit_data.specs.facts.EachFacts.{nil_from_length}
use Rattle.wit_data.specs.declared.world.World.{World}
use Rattle.wit_elaboration.specs.Elaboration.{elaborated_world}
use Rattle.wit_elaboration.specs.steps.Elaboration.{IsRefusedWorld}
use Rattle.wit_graph_data.specs.facts.ResultFacts.{residual_error}
use Rattle.wit_graph_data.specs.declared.error_kind.ResolveErrorKind.{ResolveErrorKind}
use Rattle.wit_graph_data.specs.declared.error_kind.ResolveErrorKind.TheVariants.{OutOfMemory}
use Rattle.wit_merge.specs.steps.Behind.{AreClear}
use Rattle.wit_merge.proofs.WorldsBehind.{clear_more, refused_one}
use Rattle.wit_merge.proofs.appending.elaborated_worlds.Goals as goal

pub loop-world-init : goal.loop-world-init
loop-world-init c = record {
  made = c.new-elaborated.ensures;
  clear = λ world has. absurd (Contains-nil has);
  left = c.into_iter-world-iterator.ensures.into_iter_gives.0 ∙ c.into_vec-world-items.ensures;
  same = c.requires.uses;
}

pub elaborated_world-requires-clause-listed : goal.elaborated_world-requires-clause-listed
elaborated_world-requires-clause-listed c =
    let are : c.loop-world.yielded ++ c.in-Some.world ∷ into_iter_items c.next.new.self ≡ c.args.worlds = ap (λ (l : List World). c.loop-world.yielded ++ l) (sym c.in-Some.ensures.steps.0) ∙ c.loop-world.invariant.left in
    c.requires.listed c.in-Some.world
    (subst (λ (l : List World). Contains l c.in-Some.world) are (Contains-append_right c.loop-world.yielded (c.in-Some.world ∷ into_iter_items c.next.new.self) c.in-Some.world (Contains-here c.in-Some.world (into_iter_items c.next.new.self))))

pub returns-in_err-elaborated_world-clause-cause : goal.returns-in_err-elaborated_world-clause-cause
returns-in_err-elaborated_world-clause-cause c =
    let are : c.loop-world.yielded ++ c.in-Some.world ∷ into_iter_items c.next.new.self ≡ c.args.worlds = ap (λ (l : List World). c.loop-world.yielded ++ l) (sym c.in-Some.ensures.steps.0) ∙ c.loop-world.invariant.left in
    let has = subst (λ (l : List World). Contains l c.in-Some.world) are (Contains-append_right c.loop-world.yielded (c.in-Some.world ∷ into_iter_items c.next.new.self) c.in-Some.world (Contains-here c.in-Some.world (into_iter_items c.next.new.self))) in
    residual_error c.from_residual.result c.from_residual.ensures.1
    (λ e is.
    let same : e ≡ c.in_err-elaborated_world.field-0.0 = is in
    subst (λ (x : ResolveErrorKind). (x ≡ OutOfMemory) ⊎ IsRefusedWorld (record c.args.graph.now { worlds = c.args.worlds }) x) (sym same)
    (refused_one c.args.graph.now c.args.worlds c.in-Some.world c.in_err-elaborated_world.field-0.0 has c.in_err-elaborated_world.ensures.cause))

pub loop-world-preserved : goal.loop-world-preserved
loop-world-preserved c =
    let are : c.loop-world.yielded ++ c.in-Some.world ∷ into_iter_items c.next.new.self ≡ c.args.worlds = ap (λ (l : List World). c.loop-world.yielded ++ l) (sym c.in-Some.ensures.steps.0) ∙ c.loop-world.invariant.left in
    record {
      made = c.in_ok-push.ensures.ok ∙ (λ j. c.loop-world.invariant.made j ++ c.in_ok-elaborated_world.ensures.ok j ∷ []) ∙ sym (map-append (elaborated_world c.args.graph.now) c.loop-world.yielded (c.in-Some.world ∷ []));
      clear = clear_more c.args.graph.now c.loop-world.yielded c.in-Some.world c.loop-world.invariant.clear c.in_ok-elaborated_world.ensures.no_conflict;
      left = append_assoc c.loop-world.yielded (c.in-Some.world ∷ []) (into_iter_items c.next.new.self) ∙ are;
      same = c.in_ok-elaborated_world.ensures.same ∙ c.loop-world.invariant.same;
    }

pub returns-clause-ok : goal.returns-clause-ok
returns-clause-ok c =
    let over = c.in-None.ensures.steps.0 in
    let long = c.loop-world.world-iterator.rest.ok.0 in
    let none : into_iter_items c.loop-world.world-iterator ≡ [] = nil_from_length (into_iter_items c.loop-world.world-iterator) (omega (arith, over, long)) in
    let are : c.loop-world.yielded ≡ c.args.worlds = sym (append-nil c.loop-world.yielded) ∙ ap (λ (l : List World). c.loop-world.yielded ++ l) (sym none) ∙ c.loop-world.invariant.left in
    c.loop-world.invariant.made ∙ ap (map (elaborated_world c.args.graph.now)) are

pub returns-clause-clear : goal.returns-clause-clear
returns-clause-clear c =
    let over = c.in-None.ensures.steps.0 in
    let long = c.loop-world.world-iterator.rest.ok.0 in
    let none : into_iter_items c.loop-world.world-iterator ≡ [] = nil_from_length (into_iter_items c.loop-world.world-iterator) (omega (arith, over, long)) in
    let are : c.loop-world.yielded ≡ c.args.worlds = sym (append-nil c.loop-world.yielded) ∙ ap (λ (l : List World). c.loop-world.yielded ++ l) (sym none) ∙ c.loop-world.invariant.left in
    subst (AreClear c.args.graph.now) are c.loop-world.invariant.clear
