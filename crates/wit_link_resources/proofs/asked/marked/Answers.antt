use Rattle.std.proofs.Common.{◌≡◌, ◌∙◌, ◌<◌, ℕ, length, get_or, nat_eq, take, ap, sym, subst, refl}
use Rattle.std.specs.List.{list_any}
use Rattle.std.proofs.lemmas.List.FromFn.{length-map-range_with_len}
use Rattle.wit_link_resources.proofs.Flags.{flags-begun, flags-next}
use Rattle.wit_link_resources.proofs.asked.marked.Goals as goal

pub loop-id-init : goal.loop-id-init
loop-id-init c = c.from_vec-marks.ensures ∙ (c.in_ok-vec.ensures.items_if_clones_equal (λ y h. h) ∙ flags-begun (λ (t : ℕ). list_any (nat_eq t) (take 0 c.args.ids.now)) (λ t. refl) c.args.count)

pub set-requires : goal.set-requires
set-requires c =
    let i : ℕ = c.loop-id.id-index in
    let low : get_or c.args.ids.now i c.id-item.result < c.args.count = c.requires i c.id-item.result c.loop-id-test.true in
    let long = ap length c.loop-id.invariant ∙ length-map-range_with_len (λ (t : ℕ). list_any (nat_eq t) (take i c.args.ids.now)) 0 c.args.count in
    let is : c.index.result ≡ get_or c.args.ids.now i c.id-item.result = c.index.ensures ∙ c.id-item.is in
    subst (λ (n : ℕ). c.index.result < n) (sym long) (subst (λ (k : ℕ). k < c.args.count) (sym is) low)

pub loop-id-preserved : goal.loop-id-preserved
loop-id-preserved c =
    let i : ℕ = c.loop-id.id-index in
    let low : get_or c.args.ids.now i c.id-item.result < c.args.count = c.requires i c.id-item.result c.loop-id-test.true in
    let is : c.index.result ≡ get_or c.args.ids.now i c.id-item.result = c.index.ensures ∙ c.id-item.is in
    flags-next c.args.ids.now i c.id-item.result c.args.count c.index.result c.loop-id.marks c.set.new.self c.loop-id-test.true is (subst (λ (k : ℕ). k < c.args.count) (sym is) low) c.loop-id.invariant c.set.ensures
