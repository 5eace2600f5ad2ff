use Rattle.std.proofs.Common.{◌∙◌, ℕ, false, slice_get, ap, sym}
use Rattle.std.specs.Prelude.{unwrap_or}
use Rattle.wit_link_lookup.specs.steps.FeatureSteps.{seen, thing_is_active, thing_of}
use Rattle.wit_link_lookup.specs.declared.needs.Needed.{Needed}
use Rattle.wit_link_lookup.proofs.Ready.{interface-flag, type-flag, world-flag}
use Rattle.wit_link_lookup.proofs.checker.Checker.thing_is_active.Goals as goal

pub returns-in-Type : goal.returns-in-Type
returns-in-Type c =
    c.flag_at.ensures
    ∙ (ap (λ (i : ℕ). unwrap_or (slice_get c.args.self.now.activity.now.types i) false) c.index.ensures
    ∙ (type-flag c.args.self.now c.requires c.in-Type.id ∙ ap (λ (needed : Needed). thing_is_active (seen c.args.self.now) (thing_of needed)) (sym c.in-Type.is)))

pub returns-in-Interface : goal.returns-in-Interface
returns-in-Interface c =
    c.flag_at-in-Interface.ensures
    ∙ (ap (λ (i : ℕ). unwrap_or (slice_get c.args.self.now.activity.now.interfaces i) false) c.index-in-Interface.ensures
    ∙ (interface-flag c.args.self.now c.requires c.in-Interface.id ∙ ap (λ (needed : Needed). thing_is_active (seen c.args.self.now) (thing_of needed)) (sym c.in-Interface.is)))

pub returns-in-World : goal.returns-in-World
returns-in-World c =
    c.flag_at-in-World.ensures
    ∙ (ap (λ (i : ℕ). unwrap_or (slice_get c.args.self.now.activity.now.worlds i) false) c.index-in-World.ensures
    ∙ (world-flag c.args.self.now c.requires c.in-World.id ∙ ap (λ (needed : Needed). thing_is_active (seen c.args.self.now) (thing_of needed)) (sym c.in-World.is)))
