use Rattle.std.proofs.Common.{rules, ◌≡◌, ◌∙◌, ◌+◌, ◌<◌, ℕ, Bool, true, false, List, length, map, filter, ap, get_or, sym, arith, if◌then◌else◌}
use Rattle.std.specs.List.{range_with_len}
use Rattle.std.proofs.lemmas.List.{length-append, length-map}
use Rattle.wit_data.specs.declared.types.TypeDef.{TypeDef}
use Rattle.wit_graph_theory.specs.facts.ListFacts.{get_at}
use Rattle.wit_remap_spec.specs.Resources.{own_of}
use Rattle.wit_remap_spec.specs.Selected.{rank}
use Rattle.wit_remap_spec.specs.ValueRemap.{ValueRemap, needs_own}
use Rattle.wit_link_spec.specs.facts.RangeFacts.{range-pushed, range-read}
use Rattle.wit_link_spec.specs.declared.addition.Values.{Values}
use Rattle.wit_link_resources.specs.declared.incoming.Incoming.{Incoming}
use Rattle.wit_link_resources.specs.steps.IncomingTypes.{new_of}
use Rattle.wit_link_resources.proofs.Ranges.{lent_read, passed-next, picked-next}
use Rattle.wit_link_resources.proofs.Ranks.{length-filtered, length-selected}
use Rattle.wit_link_resources.proofs.owning.remapped_values.Goals.{then-needs+in_ok-push+in_ok-push-2, else-needs+in_ok-push-3}
use Rattle.wit_link_resources.proofs.owning.remapped_values.Goals as goal
use Rattle.wit_remap_spec.specs.steps.Parts.{value_id}

-- the `own` of a type where it goes
abbrev own_at : ValueRemap → ℕ → TypeDef
own_at r t = own_of (r.ids.types t)

-- so many `own`s have come
owns_long : (r : ValueRemap) (t : ℕ) (owns : List TypeDef) → owns ≡ map (own_at r) (filter (needs_own r) (range_with_len 0 t)) → length owns ≡ rank (needs_own r) t
owns_long r t owns are = ap length are ∙ (length-map (filter (needs_own r) (range_with_len 0 t)) (own_at r) ∙ length-filtered (needs_own r) t)

-- what a type is remapped to that needs one, and another
goes_own : (r : ValueRemap) (t : ℕ) → needs_own r t ≡ true → value_id r t ≡ length r.graph_types + length r.new_types + rank (needs_own r) t
goes_own r t needs = ap (λ (b : Bool). if b then length r.graph_types + length r.new_types + rank (needs_own r) t else r.ids.types t) needs

goes_plain : (r : ValueRemap) (t : ℕ) → needs_own r t ≡ false → value_id r t ≡ r.ids.types t
goes_plain r t needs = ap (λ (b : Bool). if b then length r.graph_types + length r.new_types + rank (needs_own r) t else r.ids.types t) needs

pub remapped-id-requires : goal.remapped-id-requires
remapped-id-requires c =
    let long = c.in_ok-needed.ensures.long in
    let ids = c.requires.can.long in
    let first = c.loop-index-test.true in
    let lent = ap length c.as_slice-needs-items.ensures in
    omega arith

pub overflow_add-first : goal.overflow_add-first
overflow_add-first c =
    let room = c.first_own-first.ensures.room in
    let long = c.in_ok-needed.ensures.long in
    let ids = c.requires.can.long in
    let few = c.loop-index.invariant.few in
    let small : c.first_own-first.result + c.len.result < 18446744073709551616 = let first = c.loop-index-test.true in let lent = ap length c.as_slice-needs-items.ensures in let len = c.len.ensures in omega arith in
    search rules

pub loop-index-preserved : goal.loop-index-preserved
loop-index-preserved c =
    let s : Incoming = c.args.incoming.now in
    let t : ℕ = c.loop-index.index in
    let long = c.in_ok-needed.ensures.long in
    let ids_long = c.requires.can.long in
    let below : t < length s.ids.now = let first = c.loop-index-test.true in let lent = ap length c.as_slice-needs-items.ensures in omega arith in
    let there = get_at s.ids.now t below in
    record {
      few = elim c.if-needs.branch [
        | then-needs+in_ok-push+in_ok-push-2 w ↦ let more = ap length (w.owns-is ∙ w.in_ok-push-2.ensures.ok) ∙ length-append c.loop-index.owns _ in let few = c.loop-index.invariant.few in omega arith
        | else-needs+in_ok-push-3 w ↦ let same = ap length w.owns-is in let few = c.loop-index.invariant.few in omega arith
      ];
      right = λ r is.
          let now = c.loop-index.invariant.right r is in
          let lent : List Bool = c.as_slice-needs-items.result.now in
          let flag : get_or lent t false ≡ needs_own r t =
          range-read (needs_own r) (length s.types.now) t c.in_ok-needed.needed (get_or lent t false) (c.in_ok-needed.ensures.needed r is)
          (lent_read c.in_ok-needed.needed lent t c.as_slice-needs-items.ensures c.loop-index-test.true false) in
          let id : c.remapped-id.result ≡ r.ids.types t = c.remapped-id.ensures there.0 there.1 ∙ sym (is.ids t there.0 there.1) in
          elim c.if-needs.branch [
            | then-needs+in_ok-push+in_ok-push-2 w ↦
                let needs : needs_own r t ≡ true = sym flag ∙ w.if-needs.true in
                let goes = goes_own r t needs in
                let count = owns_long r t c.loop-index.owns now.1 in
                let old = ap length is.graph_types in
                let new = ap length is.new_types ∙ length-selected (new_of s) s.types.now in
                let all = ap (rank (new_of s)) ids_long in
                let place : w.from_index.result ≡ value_id r t = let is = w.from_index.ensures in let first = c.first_own-first.ensures.first in let len = w.len.ensures in omega arith in (
                  range-pushed (value_id r) t c.loop-index.value_ids c.if-needs.value_ids w.from_index.result now.0 (w.value_ids-is ∙ w.in_ok-push.ensures.ok) place,
                  picked-next (needs_own r) (own_at r) t c.loop-index.owns c.if-needs.owns w.own_of.result now.1 (w.owns-is ∙ w.in_ok-push-2.ensures.ok) (w.own_of.ensures ∙ ap own_of id) needs,
                )
            | else-needs+in_ok-push-3 w ↦
                let plain : needs_own r t ≡ false = sym flag ∙ w.if-needs.false in (
                  range-pushed (value_id r) t c.loop-index.value_ids c.if-needs.value_ids c.remapped-id.result now.0 (w.value_ids-is ∙ w.in_ok-push-3.ensures.ok) (id ∙ sym (goes_plain r t plain)),
                  passed-next (needs_own r) (own_at r) t c.loop-index.owns c.if-needs.owns now.1 w.owns-is plain,
                )
          ];
    }

pub returns-clause-values : goal.returns-clause-values
returns-clause-values c = λ r is.
    let s : Incoming = c.args.incoming.now in
    let long = c.in_ok-needed.ensures.long in
    let count = is.count in
    let now = c.loop-index.invariant.right r is in
    let last : c.loop-index.index ≡ r.count = let past = c.loop-index-test.false in let within = c.loop-index.auto.index-end in let lent = ap length c.as_slice-needs-items.ensures in omega arith in
    let new_ids : c.loop-index.value_ids ≡ map (value_id r) (range_with_len 0 r.count) = now.0 ∙ ap (λ (m : ℕ). map (value_id r) (range_with_len 0 m)) last in
    let owns : c.loop-index.owns ≡ map (own_at r) (filter (needs_own r) (range_with_len 0 r.count)) = now.1 ∙ ap (λ (m : ℕ). map (own_at r) (filter (needs_own r) (range_with_len 0 m))) last in
    ap (λ (ps : List ℕ). let v : Values = record { new_ids = ps; owns = c.loop-index.owns } in v) new_ids
    ∙ ap (λ (os : List TypeDef). let v : Values = record { new_ids = map (value_id r) (range_with_len 0 r.count); owns = os } in v) owns
