use Rattle.std.proofs.Common.{◌∙◌, ◌++◌, ◌∷◌, [], List, Option, ℕ, ap, arith, map, sym}
use Rattle.std.specs.List.{range_with_len}
use Rattle.wit_link_spec.specs.steps.AdditionRefs.{addition_of}
use Rattle.wit_link_spec.specs.facts.RangeFacts.{range-next}
use Rattle.wit_link_lookup.proofs.Causes.{types-next}
use Rattle.wit_link_lookup.proofs.types.type_ids.Goals as goal
use Rattle.wit_link_spec.specs.steps.Parts.{active_type_id}

pub loop-t-preserved : goal.loop-t-preserved
loop-t-preserved c =
    let a = addition_of c.args.addition.now in
    record {
      new_ids = c.in_ok-push.ensures.ok ∙ ap (λ (l : List (Option ℕ)). l ++ c.in_ok-new_type_id.field-0 ∷ []) c.loop-t.invariant.new_ids
          ∙ ap (λ (p : Option ℕ). map (active_type_id a) (range_with_len 0 c.loop-t.t) ++ p ∷ []) c.in_ok-new_type_id.ensures.id ∙ sym (range-next (active_type_id a) c.loop-t.t);
      next = c.in_ok-new_type_id.ensures.next;
      there = types-next a c.loop-t.t c.loop-t.invariant.there c.in_ok-new_type_id.ensures.there;
    }

pub returns-clause-there : goal.returns-clause-there
returns-clause-there c = λ span message lacks below. c.loop-t.invariant.there span message lacks (omega (arith, below, c.loop-t-test.false, c.len-t-end.ensures))
