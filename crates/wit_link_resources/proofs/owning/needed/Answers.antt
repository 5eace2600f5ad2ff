use Rattle.std.proofs.Common.{rules, ◌≡◌, ◌∙◌, ◌&&◌, ◌+◌, ℕ, Bool, true, false, List, None, length, map, nat_eq, replicate, get_or, take, ap, refl, subst, sym, arith}
use Rattle.std.specs.List.{list_any, range_with_len}
use Rattle.std.proofs.lemmas.List.{length-append}
use Rattle.std.proofs.lemmas.List.Elements.{Contains-get_or}
use Rattle.std.proofs.lemmas.List.FromFn.{length-map-range_with_len}
use Rattle.wit_digraph.specs.facts.FreshFacts.{contains_from_any}
use Rattle.wit_data.specs.declared.function.Function.{Function}
use Rattle.wit_remap_spec.specs.ValueRemap.{ValueRemap, needs_own, positions}
use Rattle.wit_link_spec.specs.facts.RangeFacts.{range-pushed, range-read}
use Rattle.wit_link_resources.specs.declared.incoming.Incoming.{Incoming}
use Rattle.wit_link_resources.specs.steps.Active.{seen}
use Rattle.wit_link_resources.specs.steps.IncomingTypes.{AreTold, IsRemap, leads_in, positions_of}
use Rattle.wit_link_resources.specs.steps.Leading.{AreRight}
use Rattle.wit_link_resources.specs.facts.IncomingLeads.{positions_same, remapped_there}
use Rattle.wit_link_resources.specs.facts.MetTypes.{begins_same, begins_then}
use Rattle.wit_link_resources.proofs.Ranges.{lent_read}
use Rattle.wit_link_resources.proofs.Ways.{nothing_told}
use Rattle.wit_link_resources.proofs.owning.needed.Goals.{then-is_asked+in_ok-needs, else-is_asked}
use Rattle.wit_link_resources.proofs.owning.needed.Goals as goal

conj : (b c : Bool) → b ≡ true → b && c ≡ c
conj true c h = refl
conj false c h = cc

disj : (b c : Bool) → b ≡ false → b && c ≡ false
disj true c h = cc
disj false c h = refl

-- what stands at the value positions of what comes
abbrev asked_of : Incoming → List Function → ℕ → Bool
asked_of s functions t = list_any (nat_eq t) (positions_of s functions)

-- so of the remap
asked_is : (s : Incoming) (functions : List Function) (r : ValueRemap) → IsRemap s functions r → (t : ℕ) → asked_of s functions t ≡ list_any (nat_eq t) (positions r)
asked_is s functions r is t = ap (list_any (nat_eq t)) (positions_same s.graph_types.now s.types.now s.ids.now functions r is)

pub asked-requires : goal.asked-requires
asked-requires c = λ k d below.
    let s : Incoming = c.args.incoming.now in
    let ids : List ℕ = positions_of s (seen c.args.functions.now) in
    remapped_there s.graph_types.now s.types.now s.ids.now c.requires.can (get_or ids k d) (c.requires.there (get_or ids k d) (Contains-get_or ids k d below))

pub leads-requires-clause-remapped : goal.leads-requires-clause-remapped
leads-requires-clause-remapped c =
    let s : Incoming = c.args.incoming.now in
    let t : ℕ = c.loop-index.index in
    let lent : List Bool = c.as_slice-is_asked-items.result.now in
    let flag : get_or lent t false ≡ asked_of s (seen c.args.functions.now) t =
    range-read (asked_of s (seen c.args.functions.now)) (length s.types.now) t c.in_ok-asked.asked (get_or lent t false) c.in_ok-asked.ensures
    (lent_read c.in_ok-asked.asked lent t c.as_slice-is_asked-items.ensures c.loop-index-test.true false) in
    c.requires.there t (contains_from_any t (positions_of s (seen c.args.functions.now)) (sym flag ∙ c.if-is_asked.true))

pub loop-index-init : goal.loop-index-init
loop-index-init c =
    let empty : c.in_ok-vec.field-0.items ≡ replicate c.len.result None = search rules in
    let nothing : c.from_vec-known.result ≡ replicate c.len.result None = c.from_vec-known.ensures ∙ empty in
    record {
      known_long = ap length nothing ∙ search rules;
      long = ap length c.new-needed.ensures;
      right = λ r is. (nothing_told r c.len.result c.from_vec-known.result nothing, c.new-needed.ensures);
      met = c.requires.met;
      begins = begins_same c.args.met.now;
    }

pub loop-index-preserved : goal.loop-index-preserved
loop-index-preserved c =
    let s : Incoming = c.args.incoming.now in
    let functions : List Function = seen c.args.functions.now in
    let t : ℕ = c.loop-index.index in
    let lent : List Bool = c.as_slice-is_asked-items.result.now in
    let flag : get_or lent t false ≡ asked_of s functions t = range-read (asked_of s functions) (length s.types.now) t c.in_ok-asked.asked (get_or lent t false) c.in_ok-asked.ensures
    (lent_read c.in_ok-asked.asked lent t c.as_slice-is_asked-items.ensures c.loop-index-test.true false) in
    record {
      known_long = elim c.if-is_asked.branch [
        | then-is_asked+in_ok-needs w ↦ ap length w.known-is ∙ w.in_ok-needs.ensures.long
        | else-is_asked w ↦ ap length w.known-is ∙ c.loop-index.invariant.known_long
      ];
      long = ap length c.in_ok-push.ensures.ok ∙ (length-append c.loop-index.needed _ ∙ ap (λ (n : ℕ). n + 1) c.loop-index.invariant.long);
      right = λ r is.
          let now = c.loop-index.invariant.right r is in
          let asked : list_any (nat_eq t) (positions r) ≡ get_or lent t false = sym (flag ∙ asked_is s functions r is t) in
          let told : c.if-is_asked.needs ≡ needs_own r t = elim c.if-is_asked.branch [
            | then-is_asked+in_ok-needs w ↦
                w.needs-is ∙ (sym (w.in_ok-needs.ensures.leads functions r is now.0) ∙ sym (conj (list_any (nat_eq t) (positions r)) (leads_in r t) (asked ∙ w.if-is_asked.true)))
            | else-is_asked w ↦ w.needs-is ∙ sym (disj (list_any (nat_eq t) (positions r)) (leads_in r t) (asked ∙ w.if-is_asked.false))
          ] in (
            elim c.if-is_asked.branch [
              | then-is_asked+in_ok-needs w ↦ subst (AreTold r) (sym w.known-is) (w.in_ok-needs.ensures.told functions r is now.0)
              | else-is_asked w ↦ subst (AreTold r) (sym w.known-is) now.0
            ],
            range-pushed (needs_own r) t c.loop-index.needed c.push.new.self c.if-is_asked.needs now.1 c.in_ok-push.ensures.ok told,
          );
      met = elim c.if-is_asked.branch [
        | then-is_asked+in_ok-needs w ↦ subst (AreRight s.graph_types.now) (sym w.met-is) w.in_ok-needs.ensures.met
        | else-is_asked w ↦ subst (AreRight s.graph_types.now) (sym w.met-is) c.loop-index.invariant.met
      ];
      begins = elim c.if-is_asked.branch [
        | then-is_asked+in_ok-needs w ↦ subst (λ (es : List (ℕ × Bool)). take (length c.args.met.now) es ≡ c.args.met.now) (sym w.met-is)
            (begins_then c.args.met.now c.loop-index.met _ c.loop-index.invariant.begins w.in_ok-needs.ensures.begins)
        | else-is_asked w ↦ subst (λ (es : List (ℕ × Bool)). take (length c.args.met.now) es ≡ c.args.met.now) (sym w.met-is) c.loop-index.invariant.begins
      ];
    }

pub returns-in_err-push-clause-met : goal.returns-in_err-push-clause-met
returns-in_err-push-clause-met c =
    let types = c.args.incoming.now.graph_types.now in
    elim c.if-is_asked.branch [
      | then-is_asked+in_ok-needs w ↦ subst (AreRight types) (sym w.met-is) w.in_ok-needs.ensures.met
      | else-is_asked w ↦ subst (AreRight types) (sym w.met-is) c.loop-index.invariant.met
    ]

pub returns-in_err-push-clause-begins : goal.returns-in_err-push-clause-begins
returns-in_err-push-clause-begins c =
    elim c.if-is_asked.branch [
      | then-is_asked+in_ok-needs w ↦ subst (λ (es : List (ℕ × Bool)). take (length c.args.met.now) es ≡ c.args.met.now) (sym w.met-is)
          (begins_then c.args.met.now c.loop-index.met _ c.loop-index.invariant.begins w.in_ok-needs.ensures.begins)
      | else-is_asked w ↦ subst (λ (es : List (ℕ × Bool)). take (length c.args.met.now) es ≡ c.args.met.now) (sym w.met-is) c.loop-index.invariant.begins
    ]

pub returns-clause-long : goal.returns-clause-long
returns-clause-long c =
    let is = c.loop-index.invariant.long in
    let past = c.loop-index-test.false in
    let within = c.loop-index.auto.index-end in
    let lent = ap length c.as_slice-is_asked-items.ensures in
    let long = ap length c.in_ok-asked.ensures ∙ length-map-range_with_len (asked_of c.args.incoming.now (seen c.args.functions.now)) 0 (length c.args.incoming.now.types.now) in
    omega arith

pub returns-clause-needed : goal.returns-clause-needed
returns-clause-needed c = λ r is.
    let last : c.loop-index.index ≡ length c.args.incoming.now.types.now =
    let past = c.loop-index-test.false in
    let within = c.loop-index.auto.index-end in
    let lent = ap length c.as_slice-is_asked-items.ensures in
    let long = ap length c.in_ok-asked.ensures ∙ length-map-range_with_len (asked_of c.args.incoming.now (seen c.args.functions.now)) 0 (length c.args.incoming.now.types.now) in
    omega arith in
    (c.loop-index.invariant.right r is).1 ∙ ap (λ (n : ℕ). map (needs_own r) (range_with_len 0 n)) last
