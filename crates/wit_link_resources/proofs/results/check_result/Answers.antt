use Rattle.std.proofs.Common.{◌≡◌, ◌∙◌, ◌∷◌, ◌<◌, [], inr, ℕ, List, Option, Some, length, option_to_list, slice_get, ap, sym, subst, Contains}
use Rattle.std.proofs.lemmas.Option.{slice_get_within}
use Rattle.std.proofs.lemmas.List.Elements.{Contains-append_right}
use Rattle.std.specs.List.{flat_map}
use Rattle.wit_digraph.specs.facts.MemberFacts.{Contains-here}
use Rattle.wit_data.specs.Function.{resource_of}
use Rattle.wit_data.specs.Kind.{function_references, named_option, named_type, signature_types}
use Rattle.wit_data.specs.Shape.{IsShaped}
use Rattle.wit_data.specs.declared.function.Function.{Function}
use Rattle.wit_data.specs.declared.function.Param.{Param}
use Rattle.wit_data.specs.declared.types.TypeDef.{TypeDef}
use Rattle.wit_graph_theory.specs.facts.ListFacts.{place_of}
use Rattle.wit_link_spec.specs.steps.AdditionRefs.{addition_of}
use Rattle.wit_link_spec.specs.Addition.{Addition}
use Rattle.wit_link_spec.specs.facts.ClosedCut.{function_kept, there_where}
use Rattle.wit_link_spec.specs.Gates.{is_active}
use Rattle.wit_link_spec.specs.Reasons.{IsActiveFunction, IsResolved}
use Rattle.wit_link_resources.proofs.Tells.{borrow_cause}
use Rattle.wit_link_resources.proofs.results.check_result.Goals as goal

-- what a function returns is there
returned_there : (a : Addition) → IsShaped a.unresolved → IsResolved a → (f : Function) → IsActiveFunction a f → (t : ℕ) → Contains (named_option f.result_) t → t < length a.unresolved.types
returned_there a shaped image f active t has =
    let values : List ℕ = flat_map (λ (p : Param). named_type p.ty) f.params in
    let place = place_of (function_references f) t (Contains-append_right (option_to_list (resource_of f.kind)) (signature_types f) t (Contains-append_right values (named_option f.result_) t has)) in
    let at = there_where (λ (def : TypeDef). is_active a.features def.stability) (slice_get a.unresolved.types t) (function_kept a shaped image f active place.0 t place.1) in
    slice_get_within a.unresolved.types t at.0 at.1

-- the type that is returned
returned : (ids : List ℕ) (o : Option ℕ) (id : ℕ) → option_to_list o ≡ ids → o ≡ Some id → ids ≡ id ∷ []
returned ids o id is some = sym is ∙ ap (λ (x : Option ℕ). option_to_list x) some

pub may_hold_borrow-requires-clause-there : goal.may_hold_borrow-requires-clause-there
may_hold_borrow-requires-clause-there c =
    let one = returned (named_option c.args.function.now.result_) c.result_type.result c.in-Some.id c.result_type.ensures c.in-Some.is in
    returned_there (addition_of c.args.addition.now) c.requires.shaped c.requires.image c.args.function.now c.requires.active c.in-Some.id (subst (λ (us : List ℕ). Contains us c.in-Some.id) (sym one) (Contains-here c.in-Some.id []))

pub returns-then-branch-clause-cause : goal.returns-then-branch-clause-cause
returns-then-branch-clause-cause c =
    let one = returned (named_option c.args.function.now.result_) c.result_type.result c.in-Some.id c.result_type.ensures c.in-Some.is in
    inr (borrow_cause (addition_of c.args.addition.now) c.args.function.now c.in-Some.id c.in_ok-borrow_in_result.field-0 c.requires.active
    (subst (λ (us : List ℕ). Contains us c.in-Some.id) (sym one) (Contains-here c.in-Some.id [])) (c.in_ok-may_hold_borrow.ensures.holds.0 c.if-branch.true) c.in_ok-borrow_in_result.ensures)
