use Rattle.std.proofs.Common.{◌≡◌, ◌∙◌, ◌<◌, ℕ, Bool, if◌then◌else◌, List, Option, None, Some, eqb, slice_get, get_or, length, refl, sym, ap}
use Rattle.std.proofs.lemmas.Option.{slice_get_read}
use Rattle.std.specs.Option.{option_and_then}
use Rattle.wit_data.specs.declared.interface.Interface.{Interface}
use Rattle.wit_graph_data.specs.Queries.{other_package}
use Rattle.wit_queries.proofs.next.other_package.Goals as goal

-- the package of an interface that is there and has one
told : (interfaces : List Interface) (p i q : ℕ) (interface : Interface) (b : Bool) → slice_get interfaces i ≡ Some interface → interface.package ≡ Some q → eqb q p ≡ b
    → (if b then None else Some q) ≡ other_package interfaces p i
told interfaces p i q interface b at has same =
    let unless : ℕ → Option ℕ = λ h. if eqb h p then None else Some h in
    sym (ap (option_and_then (λ (x : Interface). option_and_then unless x.package)) at ∙ (ap (option_and_then unless) has ∙ ap (λ (t : Bool). if t then None else Some q) same))

at_index : (interfaces : List Interface) (i j : ℕ) (interface : Interface) → j ≡ i → j < length interfaces → interface ≡ get_or interfaces j interface → slice_get interfaces i ≡ Some interface
at_index interfaces i j interface same within is = ap (slice_get interfaces) (sym same) ∙ slice_get_read interfaces (length interfaces) j interface refl within is

pub returns-then-eq : goal.returns-then-eq
returns-then-eq c =
    told c.args.interfaces.now c.args.package c.args.interface c.in_ok-home.home c.in_ok-get.field-0.now _ (at_index c.args.interfaces.now c.args.interface c.index.result _ c.index.ensures c.in_ok-get.ensures.lookup.3.0 c.in_ok-get.ensures.lookup.1) c.in_ok-home.was
    (sym c.eq.ensures ∙ c.if-eq.true)

pub returns-else-eq : goal.returns-else-eq
returns-else-eq c =
    told c.args.interfaces.now c.args.package c.args.interface c.in_ok-home.home c.in_ok-get.field-0.now _ (at_index c.args.interfaces.now c.args.interface c.index.result _ c.index.ensures c.in_ok-get.ensures.lookup.3.0 c.in_ok-get.ensures.lookup.1) c.in_ok-home.was
    (sym c.eq.ensures ∙ c.if-eq.false)
