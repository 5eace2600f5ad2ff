use Rattle.std.proofs.Common.{rules, arith, ◌≡◌, ◌∙◌, ◌⊎◌, ◌++◌, ◌∷◌, [], ℕ, List, length, take, ap, subst, sym}
use Rattle.std.proofs.lemmas.List.{append_assoc, append-nil}
use Rattle.std.specs.Vec.Iter.{into_iter_items}
use Rattle.wit_data.specs.facts.EachFacts.{nil_from_length}
use Rattle.wit_data.specs.Uses.{uses_of}
use Rattle.wit_data.specs.declared.interface.Interface.{Interface}
use Rattle.wit_data.specs.declared.types.TypeDef.{TypeDef}
use Rattle.wit_graph_data.specs.facts.ResultFacts.{residual_error}
use Rattle.wit_elaboration.specs.Valid.{IsValid}
use Rattle.wit_graph_data.specs.Error.{NoCause}
use Rattle.wit_graph_data.specs.declared.error_kind.ResolveErrorKind.{ResolveErrorKind}
use Rattle.wit_graph_data.specs.declared.error_kind.ResolveErrorKind.TheVariants.{OutOfMemory}
use Rattle.wit_link_spec.specs.Cause.{IsAdditionCause}
use Rattle.wit_link_spec.specs.WorldReasons.{IsWorldCause}
use Rattle.wit_link_spec.specs.steps.Parts.{with_including}
use Rattle.wit_link_include.specs.steps.Included as local
use Rattle.wit_link_include.specs.facts.RowsFacts.{rows_of_valid}
use Rattle.wit_remap.specs.facts.GrownFacts.{Begins-same, Begins-then, Grown-then}
use Rattle.wit_remap.specs.declared.worlds.UpdatedWorld.{UpdatedWorld}
use Rattle.wit_link.specs.Appending.{IsAdded, addition}
use Rattle.wit_link.specs.steps.Including.{ready_worlds}
use Rattle.wit_link.proofs.Added.{checked_image, is_added}
use Rattle.wit_link.proofs.WorldStages.{adding-next, adding-none, all_pushed, all_reached, each_fine, is_ready, refused_here}
use Rattle.wit_link.proofs.adding.add_checked.Goals as goal

pub grow-requires : goal.grow-requires
grow-requires c =
    let types : c.as_slice-types.result.now ≡ c.add_updated.new.graph.types = search rules in
    let interfaces : c.as_slice.result.now ≡ c.add_updated.new.graph.interfaces = search rules in
    rows_of_valid c.args.elaborator.now c.args.graph.now c.add_updated.new.graph c.requires.valid c.add_updated.ensures.grown c.requires.uses
    ∙ ap (λ (l : List TypeDef). uses_of l (take (length c.args.elaborator.now) c.add_updated.new.graph.interfaces)) (sym types)
    ∙ ap (λ (l : List Interface). uses_of c.as_slice-types.result.now (take (length c.args.elaborator.now) l)) (sym interfaces)

pub loop-updated-init : goal.loop-updated-init
loop-updated-init c =
    let a = addition c.args.features.now c.args.graph.now c.args.package c.args.span_offset in
    record {
      adding = adding-none a c.add_updated.new.graph c.in_ok-worlds.ensures.ok;
      uses = search rules;
      grown = c.add_updated.ensures.grown;
      rows = c.grow.ensures.begins;
      left = search rules;
    }

pub add_world-requires-clause-can : goal.add_world-requires-clause-can
add_world-requires-clause-can c =
    let a = addition c.args.features.now c.args.graph.now c.args.package c.args.span_offset in
    let are : c.loop-updated.yielded ++ c.in-Some.updated ∷ into_iter_items c.next.new.self ≡ ready_worlds a = search rules in
    let id : c.from_index-id.result ≡ length c.args.graph.now.packages = search rules in
    subst (λ (home : ℕ). local.CanBeAdded home c.loop-updated.graph c.in-Some.updated.world c.in-Some.updated.includes) (sym id)
    (is_ready a c.loop-updated.yielded (into_iter_items c.next.new.self) c.in-Some.updated c.loop-updated.graph c.loop-updated.invariant.adding are
    c.included_are_there.ensures c.includes_can_be.ensures c.worlds_can_be.ensures c.requires.valid c.requires.shaped (checked_image a c.requires.checked))

pub loop-updated-preserved : goal.loop-updated-preserved
loop-updated-preserved c =
    let a = addition c.args.features.now c.args.graph.now c.args.package c.args.span_offset in
    let are : c.loop-updated.yielded ++ c.in-Some.updated ∷ into_iter_items c.next.new.self ≡ ready_worlds a = search rules in
    let id : c.from_index-id.result ≡ length c.args.graph.now.packages = search rules in
    record {
      adding =
          adding-next a c.loop-updated.yielded (into_iter_items c.next.new.self) c.in-Some.updated c.loop-updated.graph c.loop-updated.invariant.adding are c.add_world.new.graph
          (c.in_ok-add_world.ensures.ok ∙ ap (λ (home : ℕ). with_including home c.loop-updated.graph c.in-Some.updated.world c.in-Some.updated.includes) id)
          (subst (λ (home : ℕ). NoCause (IsWorldCause home c.loop-updated.graph c.in-Some.updated.world c.in-Some.updated.includes)) id c.in_ok-add_world.ensures.fine);
      uses = c.in_ok-add_world.ensures.uses;
      grown = Grown-then c.args.graph.now c.loop-updated.graph c.add_world.new.graph c.loop-updated.invariant.grown c.add_world.ensures.grown;
      rows = Begins-then c.args.elaborator.now c.loop-updated.elaborator c.add_world.new.elaborator c.loop-updated.invariant.rows c.add_world.ensures.rows;
      left = append_assoc c.loop-updated.yielded (c.in-Some.updated ∷ []) (into_iter_items c.next.new.self) ∙ are;
    }

pub returns-clause-ok : goal.returns-clause-ok
returns-clause-ok c =
    let a = addition c.args.features.now c.args.graph.now c.args.package c.args.span_offset in
    let over = c.in-None.ensures.steps.0 in
    let long = c.loop-updated.updated-iterator.rest.ok.0 in
    let none : into_iter_items c.loop-updated.updated-iterator ≡ [] = nil_from_length (into_iter_items c.loop-updated.updated-iterator) (omega (arith, over, long)) in
    let are : c.loop-updated.yielded ≡ ready_worlds a = sym (append-nil c.loop-updated.yielded) ∙ ap (λ (l : List UpdatedWorld). c.loop-updated.yielded ++ l) (sym none) ∙ c.loop-updated.invariant.left in
    let id : c.from_index-id.result ≡ length c.args.graph.now.packages = search rules in
    let reached = all_reached a c.loop-updated.yielded c.loop-updated.graph c.loop-updated.invariant.adding are in
    subst (IsAdded a c.loop-updated.graph) (sym id)
    (is_added a c.requires.new c.requires.checked (each_fine a reached) c.loop-updated.graph (all_pushed a c.loop-updated.yielded c.loop-updated.graph c.loop-updated.invariant.adding are))

pub returns-clause-valid : goal.returns-clause-valid
returns-clause-valid c =
    let a = addition c.args.features.now c.args.graph.now c.args.package c.args.span_offset in
    let over = c.in-None.ensures.steps.0 in
    let long = c.loop-updated.updated-iterator.rest.ok.0 in
    let none : into_iter_items c.loop-updated.updated-iterator ≡ [] = nil_from_length (into_iter_items c.loop-updated.updated-iterator) (omega (arith, over, long)) in
    let are : c.loop-updated.yielded ≡ ready_worlds a = sym (append-nil c.loop-updated.yielded) ∙ ap (λ (l : List UpdatedWorld). c.loop-updated.yielded ++ l) (sym none) ∙ c.loop-updated.invariant.left in
    let reached = all_reached a c.loop-updated.yielded c.loop-updated.graph c.loop-updated.invariant.adding are in
    subst IsValid (sym (all_pushed a c.loop-updated.yielded c.loop-updated.graph c.loop-updated.invariant.adding are))
    (c.pushes_stay_valid.ensures a c.requires.valid c.requires.shaped (checked_image a c.requires.checked) c.requires.new.absent reached)

pub returns-in_err-add_world-clause-cause : goal.returns-in_err-add_world-clause-cause
returns-in_err-add_world-clause-cause c =
    let a = addition c.args.features.now c.args.graph.now c.args.package c.args.span_offset in
    let are : c.loop-updated.yielded ++ c.in-Some.updated ∷ into_iter_items c.next.new.self ≡ ready_worlds a = search rules in
    let id : c.from_index-id.result ≡ length c.args.graph.now.packages = search rules in
    residual_error c.from_residual-in_err-add_world.result c.from_residual-in_err-add_world.ensures.1
    (λ e is.
    let same : e ≡ c.in_err-add_world.field-0.0 = is in
    subst (λ (x : ResolveErrorKind). (x ≡ OutOfMemory) ⊎ IsAdditionCause a x) (sym same)
    (refused_here a c.loop-updated.yielded (into_iter_items c.next.new.self) c.in-Some.updated c.loop-updated.graph c.loop-updated.invariant.adding are (checked_image a c.requires.checked) c.in_err-add_world.field-0.0
    (subst (λ (home : ℕ). (c.in_err-add_world.field-0.0 ≡ OutOfMemory) ⊎ IsWorldCause home c.loop-updated.graph c.in-Some.updated.world c.in-Some.updated.includes c.in_err-add_world.field-0.0) id c.in_err-add_world.ensures.cause)))

pub returns-in_err-worlds-clause-rows : goal.returns-in_err-worlds-clause-rows
returns-in_err-worlds-clause-rows c = Begins-same c.args.elaborator.now

pub returns-in_err-add_world-clause-grown : goal.returns-in_err-add_world-clause-grown
returns-in_err-add_world-clause-grown c = Grown-then c.args.graph.now c.loop-updated.graph c.add_world.new.graph c.loop-updated.invariant.grown c.add_world.ensures.grown

pub returns-in_err-add_world-clause-rows : goal.returns-in_err-add_world-clause-rows
returns-in_err-add_world-clause-rows c = Begins-then c.args.elaborator.now c.loop-updated.elaborator c.add_world.new.elaborator c.loop-updated.invariant.rows c.add_world.ensures.rows
