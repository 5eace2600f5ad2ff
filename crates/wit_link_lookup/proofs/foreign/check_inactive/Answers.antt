use Rattle.std.proofs.Common.{◌≡◌, ◌∙◌, ap, inr, slice_get, subst, sym, true}
use Rattle.wit_data.specs.declared.unresolved.AstItem.{AstItem}
use Rattle.wit_data.specs.declared.interface.Interface.{Interface}
use Rattle.wit_data.specs.declared.world.World.{World}
use Rattle.wit_graph_theory.specs.facts.ListFacts.{some_at}
use Rattle.wit_link_spec.specs.steps.AdditionRefs.{addition_of}
use Rattle.wit_link_spec.specs.facts.FlagFacts.{interface-inside, world-inside}
use Rattle.wit_link_lookup.specs.steps.ForeignItems.{named_is_active}
use Rattle.wit_link_lookup.proofs.PackageItems.{IsItemAt, IsItemOf}
use Rattle.wit_link_lookup.proofs.Causes.{item_missing}
use Rattle.wit_link_lookup.proofs.FoundLists.{interface_flag-is, named-inside, world_flag-is}
use Rattle.wit_link_lookup.proofs.foreign.check_inactive.Goals as goal
use Rattle.wit_link_lookup.proofs.foreign.check_inactive.Goals.{in-Interface, in-Interface-item, in-World, in-World-item}

pub at-requires : goal.at-requires
at-requires c =
    let a = addition_of c.args.addition.now in
    let inside = named-inside a c.requires.shaped _ _ _ _ c.requires.named in
    rw c.index.ensures (interface-inside a c.args.activity.now c.requires.activity c.in-Interface.id (subst (IsItemOf a.unresolved) c.in-Interface.is inside))

pub at-requires-in-World : goal.at-requires-in-World
at-requires-in-World c =
    let a = addition_of c.args.addition.now in
    let inside = named-inside a c.requires.shaped _ _ _ _ c.requires.named in
    rw c.index-in-World.ensures (world-inside a c.args.activity.now c.requires.activity c.in-World.id (subst (IsItemOf a.unresolved) c.in-World.is inside))

pub returns-then-not-active-clause-inactive : goal.returns-then-not-active-clause-inactive
returns-then-not-active-clause-inactive c =
    let a = addition_of c.args.addition.now in
    elim c.match-item.branch [
      | in-Interface w ↦ interface_flag-is a c.args.activity.now c.requires.activity w.in-Interface.is w.index.ensures w.at.ensures ∙ sym w.active-is ∙ c.if-not-active.true
      | in-World w ↦ world_flag-is a c.args.activity.now c.requires.activity w.in-World.is w.index-in-World.ensures w.at-in-World.ensures ∙ sym w.active-is ∙ c.if-not-active.true
    ]

pub at-requires-in-Interface-item : goal.at-requires-in-Interface-item
at-requires-in-Interface-item c =
    let a = addition_of c.args.addition.now in
    let inside = named-inside a c.requires.shaped _ _ _ _ c.requires.named in
    rw c.index-in-Interface-item.ensures (subst (IsItemOf a.unresolved) c.in-Interface-item.is inside)

pub at-requires-in-World-item : goal.at-requires-in-World-item
at-requires-in-World-item c =
    let a = addition_of c.args.addition.now in
    let inside = named-inside a c.requires.shaped _ _ _ _ c.requires.named in
    rw c.index-in-World-item.ensures (subst (IsItemOf a.unresolved) c.in-World-item.is inside)

pub returns-clause-cause : goal.returns-clause-cause
returns-clause-cause c =
    let a = addition_of c.args.addition.now in
    let active : named_is_active a c.args.item.now ≡ true = elim c.match-item.branch [
      | in-Interface w ↦ interface_flag-is a c.args.activity.now c.requires.activity w.in-Interface.is w.index.ensures w.at.ensures ∙ sym w.active-is ∙ c.if-not-active.false
      | in-World w ↦ world_flag-is a c.args.activity.now c.requires.activity w.in-World.is w.index-in-World.ensures w.at-in-World.ensures ∙ sym w.active-is ∙ c.if-not-active.false
    ] in
    let at : IsItemAt a.unresolved c.args.item.now c.match-item-2.span = elim c.match-item-2.branch [
      | in-Interface-item w ↦
          subst (λ (it : AstItem). IsItemAt a.unresolved it c.match-item-2.span) (sym w.in-Interface-item.is)
          (some_at (λ (interface : Interface). c.match-item-2.span ≡ interface.span) a.unresolved.interfaces w.in-Interface-item.id w.at-in-Interface-item.result.now
          (ap (slice_get a.unresolved.interfaces) (sym w.index-in-Interface-item.ensures) ∙ w.at-in-Interface-item.ensures) w.span-is)
      | in-World-item w ↦
          subst (λ (it : AstItem). IsItemAt a.unresolved it c.match-item-2.span) (sym w.in-World-item.is)
          (some_at (λ (world : World). c.match-item-2.span ≡ world.span) a.unresolved.worlds w.in-World-item.id w.at-in-World-item.result.now
          (ap (slice_get a.unresolved.worlds) (sym w.index-in-World-item.ensures) ∙ w.at-in-World-item.ensures) w.span-is)
    ] in
    rw c.in_ok-item_not_found.ensures
    (inr (item_missing a c.args.home.now.name.now c.args.home.now.id c.args.requested.now c.args.item.now c.match-item-2.span c.requires.named active c.requires.absent at))
