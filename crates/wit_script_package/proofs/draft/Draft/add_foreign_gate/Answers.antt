use Rattle.std.proofs.Common.{◌≡◌, ◌∷◌, [], ◌++◌, List, None, true, ap, sym, ◌∙◌, refl, is_some}
use Rattle.std.specs.Map.{lookup}
use Rattle.indexmap.specs.IndexMap.{set_value_at}
use Rattle.wit_data.specs.Foreign.{ForeignItem, ForeignItems}
use Rattle.wit_data.specs.declared.unresolved.AstItem.{AstItem}
use Rattle.wit_names.specs.PackageName.{same_package}
use Rattle.wit_script_package.specs.Naming.{OptionalSpan}
use Rattle.wit_script_package.specs.declared.draft.Draft.{Draft}
use Rattle.wit_script_package.specs.declared.mention.Mention.{Mention}
use Rattle.wit_script_package.specs.steps.Mentioning.{with_dep_span, with_foreign_gate, with_item_gate, with_package_gate}
use Rattle.wit_script_package.proofs.Changing.{nothing, on-ok, value-at, value-last}
use Rattle.wit_script_package.proofs.draft.Draft.add_foreign_gate.Goals as goal

-- a package with these tables has the gate
gated : (p : Draft) (m : Mention) (named : AstItem) (deps : ForeignItems) (spans : List OptionalSpan) → deps ≡ with_package_gate m.parent m.name named m.gate p.foreign.deps
    → spans ≡ with_dep_span p.foreign.deps m.parent m.span p.foreign.dep_spans → record p { foreign = record p.foreign { deps = deps; dep_spans = spans } } ≡ with_foreign_gate p m named
gated p m named deps spans deps_are spans_are = rw (deps_are, spans_are) refl

pub returns-in-Some : goal.returns-in-Some
returns-in-Some c =
    let p = c.args.self.now in
    let m = c.args.mention.now in
    let named = c.args.item.now in
    let deps = p.foreign.deps in
    let held = c.value_at_mut.result.now in
    let there : is_some (lookup (same_package m.parent) deps) ≡ true = sym c.in-Some.ensures.found in
    let spans : p.foreign.dep_spans ≡ with_dep_span deps m.parent m.span p.foreign.dep_spans = rw there refl in
    on-ok c.add_item_gate.result c.add_item_gate.ensures (λ more.
    gated p m named (set_value_at deps c.in-Some.at c.add_item_gate.new.items) p.foreign.dep_spans
    (ap (λ (l : List ForeignItem). set_value_at deps c.in-Some.at l) more
    ∙ sym (value-at (same_package m.parent) m.parent [] (with_item_gate m.name named m.gate) deps c.in-Some.at held (sym c.in-Some.ensures.index) c.value_at_mut.ensures.value)) spans)

pub returns-in_ok-push-in-None : goal.returns-in_ok-push-in-None
returns-in_ok-push-in-None c =
    let p = c.args.self.now in
    let m = c.args.mention.now in
    let named = c.args.item.now in
    let deps = p.foreign.deps in
    let none : lookup (same_package m.parent) deps ≡ None = nothing _ c.in-None.ensures.found in
    let items : c.add_item_gate-in-None.new.items ≡ with_item_gate m.name named m.gate [] = rw (c.in_ok-add_item_gate-in-None.ensures, c.new-items.ensures) refl in
    let last : deps ++ (c.in_ok-key-in-None.key, c.add_item_gate-in-None.new.items) ∷ [] ≡ deps ++ (m.parent, with_item_gate m.name named m.gate []) ∷ [] =
    rw (c.in_ok-key-in-None.ensures, items) refl in
    let spans : c.push.new.self ≡ with_dep_span deps m.parent m.span p.foreign.dep_spans = rw none c.in_ok-push-in-None.ensures.ok in
    on-ok c.push-in-None.result c.push-in-None.ensures.ok (λ more.
    gated p m named c.push-in-None.new.self c.push.new.self
    (more ∙ last ∙ sym (value-last (same_package m.parent) m.parent [] (with_item_gate m.name named m.gate) deps none)) spans)
