use Rattle.std.proofs.Common.{◌≡◌, ◌<◌, ◌∙◌, true, false, length, take, map, sym, ap, arith, bytes_eq}
use Rattle.std.specs.List.{list_any}
use Rattle.wit_json_reading.proofs.Members.{is_known, is_second, is_unknown, reads_same}
use Rattle.wit_json_reading.proofs.reader.only.Goals as goal

pub returns-then-is_among : goal.returns-then-is_among
returns-then-is_among c =
    let ms = c.in-Object.members.items in
    let m = c.index.result.now in
    let i = c.loop-index.index in
    let small : i < length ms = omega (arith, c.loop-index-test.true, c.len-index-end.ensures) in
    let second : list_any (λ e. bytes_eq m.0.now e.0.now) (take i ms) ≡ true =
    ap (λ xs. list_any (λ e. bytes_eq m.0.now e.0.now) (take i xs)) (sym c.deref.ensures.value) ∙ sym c.is_among.ensures ∙ c.if-is_among.true in
    reads_same c.in_member.result (c.loop-index.invariant ∙ is_second (map (λ name. name.now) c.args.known.now) ms i m small c.index.ensures second)
    (c.in_member.ensures _ c.instead_of-then-is_among.ensures)

pub returns-then-not-is_one_of : goal.returns-then-not-is_one_of
returns-then-not-is_one_of c =
    let ms = c.in-Object.members.items in
    let m = c.index.result.now in
    let i = c.loop-index.index in
    let small : i < length ms = omega (arith, c.loop-index-test.true, c.len-index-end.ensures) in
    let first : list_any (λ e. bytes_eq m.0.now e.0.now) (take i ms) ≡ false =
    ap (λ xs. list_any (λ e. bytes_eq m.0.now e.0.now) (take i xs)) (sym c.deref.ensures.value) ∙ sym c.is_among.ensures ∙ c.if-is_among.false in
    let unknown : list_any (λ it. bytes_eq m.0.now it.now) c.args.known.now ≡ false = sym c.is_one_of.ensures ∙ c.if-not-is_one_of.true in
    reads_same c.in_member-then-not-is_one_of.result (c.loop-index.invariant ∙ is_unknown c.args.known.now ms i m small c.index.ensures first unknown)
    (c.in_member-then-not-is_one_of.ensures _ c.instead_of-then-not-is_one_of.ensures)

pub loop-index-preserved : goal.loop-index-preserved
loop-index-preserved c =
    let ms = c.in-Object.members.items in
    let m = c.index.result.now in
    let i = c.loop-index.index in
    let small : i < length ms = omega (arith, c.loop-index-test.true, c.len-index-end.ensures) in
    let first : list_any (λ e. bytes_eq m.0.now e.0.now) (take i ms) ≡ false =
    ap (λ xs. list_any (λ e. bytes_eq m.0.now e.0.now) (take i xs)) (sym c.deref.ensures.value) ∙ sym c.is_among.ensures ∙ c.if-is_among.false in
    let there : list_any (λ it. bytes_eq m.0.now it.now) c.args.known.now ≡ true = sym c.is_one_of.ensures ∙ c.if-not-is_one_of.false in
    c.loop-index.invariant ∙ is_known c.args.known.now ms i m small c.index.ensures first there
