use Rattle.std.proofs.Common.{◌≡◌, ◌∷◌, ◌∙◌, ◌+◌, ◌<◌, ◌^◌, ℕ, ap, drop, refl, rules}
use Rattle.std.proofs.lemmas.Option.{slice_get_read}
use Rattle.wit_ways.specs.Coming.{coming_packages, joined, placed_packages}
use Rattle.wit_ways.specs.declared.coming.Coming.{Coming}
use Rattle.wit_ways.proofs.Groups.{next_group, packages_at}
use Rattle.wit_ways.proofs.coming.Coming.of_groups.Goals as goal

pub loop-group-preserved : goal.loop-group-preserved
loop-group-preserved c =
    let features = c.args.features.now in
    let deps = c.args.deps.now in
    let i = c.loop-group.group-index in
    let g = c.group-item.result in
    let there = slice_get_read deps _ i g refl c.loop-group-test.true c.group-item.is in
    let all : Coming = coming_packages features (placed_packages c.args.offset (c.args.main.now ∷ deps)) in
    let at : c.in-Ok.offset ≡ c.loop-group.end = search rules in
    let below : c.loop-group.end < 2 ^ 32 = search rules in
    let next : c.add_group-in-loop-group.new.self ≡ joined c.loop-group.coming (coming_packages features (packages_at c.loop-group.end g)) =
    c.in_ok-add_group-2.ensures ∙ ap (λ (o : ℕ). joined c.loop-group.coming (coming_packages features (packages_at o g))) at in
    let end : c.from-in-loop-group.result + c.from-in-loop-group-2.result ≡ c.loop-group.end + g.source_map.end = search rules in
    ap (λ (o : ℕ). joined c.add_group-in-loop-group.new.self (coming_packages features (placed_packages o (drop (i + 1) deps)))) end
    ∙ next_group features c.loop-group.end c.loop-group.coming c.add_group-in-loop-group.new.self deps i g all there below next c.loop-group.invariant
