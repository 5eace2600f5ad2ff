use Rattle.std.proofs.Common.{◌≡◌, ◌∷◌, [], ◌++◌, ℕ, List, None, ap, sym, ◌∙◌, refl, bytes_eq, string_bytes}
use Rattle.std.specs.Map.{lookup}
use Rattle.indexmap.specs.IndexMap.{set_value_at}
use Rattle.wit_data.specs.Foreign.{ForeignItem}
use Rattle.wit_data.specs.declared.stability.Stability.{Stability}
use Rattle.wit_script_package.specs.steps.Mentioning.{with_gate, with_item_gate, with_value}
use Rattle.wit_script_package.proofs.Changing.{nothing, on-ok, value-at, value-last}
use Rattle.wit_script_package.proofs.foreign.add_item_gate.Goals as goal

pub returns-in-Some : goal.returns-in-Some
returns-in-Some c =
    let m = c.args.mention.now in
    let items = c.args.items.now in
    let text = c.as_str-name.result.now in
    let held = c.value_at_mut.result.now in
    on-ok c.push.result c.push.ensures.ok (λ more.
    ap (λ (l : List Stability). set_value_at items c.in-Some.at (held.0, l)) (more ∙ ap (λ (g : Stability). held.1 ++ g ∷ []) c.in_ok-gate.ensures)
    ∙ sym (value-at (bytes_eq text) m.name (c.args.item, []) (with_gate m.gate) items c.in-Some.at held (sym c.in-Some.ensures.index) c.value_at_mut.ensures.value)
    ∙ ap (λ (name : List ℕ). with_value (bytes_eq name) m.name (c.args.item, []) (with_gate m.gate) items) c.as_str-name.ensures)

pub returns-in_ok-push-in-None : goal.returns-in_ok-push-in-None
returns-in_ok-push-in-None c =
    let m = c.args.mention.now in
    let items = c.args.items.now in
    let text = c.as_str-name.result.now in
    let none : lookup (bytes_eq text) items ≡ None = nothing _ c.in-None.ensures.found in
    let key : string_bytes c.in_ok-key-in-None.key ≡ m.name = c.in_ok-key-in-None.ensures.ok ∙ c.as_str-name.ensures in
    let gates : c.push-in-None.new.self ≡ m.gate ∷ [] = rw (c.in_ok-push-in-None.ensures.ok, c.new-gates.ensures, c.in_ok-gate.ensures) refl in
    let last : items ++ (string_bytes c.in_ok-key-in-None.key, (c.args.item, c.push-in-None.new.self)) ∷ [] ≡ items ++ (m.name, (c.args.item, m.gate ∷ [])) ∷ [] = rw (key, gates) refl in
    on-ok c.push-in-None-2.result c.push-in-None-2.ensures.ok (λ more.
    more ∙ last ∙ sym (value-last (bytes_eq text) m.name (c.args.item, []) (with_gate m.gate) items none)
    ∙ ap (λ (name : List ℕ). with_value (bytes_eq name) m.name (c.args.item, []) (with_gate m.gate) items) c.as_str-name.ensures)
