use Rattle.std.proofs.Common.{◌≡◌, ◌∙◌, ap, sym, length, arith, refl}
use Rattle.std.proofs.lemmas.Bool.{lt-leb}
use Rattle.wit_data.specs.Foreign.{foreign_interfaces}
use Rattle.wit_data.specs.declared.interface.Interface.{Interface}
use Rattle.wit_link_spec.specs.facts.RangeFacts.{range-pushed}
use Rattle.wit_link_lookup.specs.steps.FeatureSteps.{own_interface_flag}
use Rattle.wit_link_lookup.proofs.Flags.{own-flag-in, own-flag-out}
use Rattle.wit_link_lookup.proofs.Elements.{element_at}
use Rattle.wit_link_lookup.proofs.active_parts.interface_flags.Goals as goal
use Rattle.wit_link_lookup.proofs.active_parts.interface_flags.Goals.{then-index-foreign, else-index-foreign}

pub loop-index-preserved : goal.loop-index-preserved
loop-index-preserved c =
    let features = c.args.features.now in
    let u = c.args.unresolved.now in
    let stability = λ (x : Interface). x.stability in
    let n = length (foreign_interfaces u.foreign_deps) in
    let count : c.len-foreign.result ≡ n = c.len-foreign.ensures ∙ ap length c.in_ok-foreign_interfaces.ensures in
    range-pushed (own_interface_flag features u) c.loop-index.index c.loop-index.flags c.push.new.self c.if-index-foreign.push c.loop-index.invariant c.in_ok-push.ensures.ok
    (elim c.if-index-foreign.branch [
      | then-index-foreign w ↦ w.push-is ∙ (w.is_active.ensures ∙ sym (own-flag-in stability features u.interfaces c.loop-index.index n c.index-interfaces-index.result (element_at u.interfaces c.as_slice-interfaces.result.now _ c.loop-index.index c.index-interfaces-index.result c.as_slice-interfaces.ensures refl c.loop-index-test.true c.index-interfaces-index.is) (omega (arith, w.if-index-foreign.true))))
      | else-index-foreign w ↦ w.push-is ∙ (lt-leb c.len-foreign.result c.loop-index.index (omega (arith, w.if-index-foreign.false)) ∙ sym (own-flag-out stability features u.interfaces c.loop-index.index n (omega (arith, w.if-index-foreign.false))))
    ])
