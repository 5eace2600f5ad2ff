use Rattle.std.proofs.Common.{◌≡◌, ◌∙◌, ◌++◌, [], ℕ, Bool, List, Option, Some, length, slice_get, ap, sym, arith, if◌then◌else◌}
use Rattle.std.specs.List.{flat_map, range_with_len}
use Rattle.std.specs.Option.{option_map_or}
use Rattle.wit_data.specs.declared.types.TypeDef.{TypeDef}
use Rattle.wit_link_resources.specs.declared.incoming.Incoming.{Incoming}
use Rattle.wit_link_resources.specs.steps.IncomingTypes.{new_of}
use Rattle.wit_link_resources.proofs.NewPositions.{positions_at}
use Rattle.wit_link_resources.proofs.Gathered.{gathered}
use Rattle.wit_link_resources.proofs.Ranges.{lent_at, ranged-next, ranged-same}
use Rattle.wit_link_resources.proofs.asked.push_types.Goals.{then-is_new+in_ok-value_positions+in_ok-append, else-is_new}
use Rattle.wit_link_resources.proofs.asked.push_types.Goals as goal
use Rattle.wit_remap_spec.specs.steps.Parts.{value_positions}

-- the value positions of a type by what is told of it
told : (s : Incoming) (t : ℕ) (def : TypeDef) → slice_get s.types.now t ≡ Some def → positions_at s t ≡ (if new_of s t then value_positions def.kind else [])
told s t def at = ap (λ (o : Option TypeDef). if new_of s t then option_map_or (λ (def : TypeDef). value_positions def.kind) o [] else []) at

pub loop-index-preserved : goal.loop-index-preserved
loop-index-preserved c =
    let s : Incoming = c.args.incoming.now in
    let t : ℕ = c.loop-index.index in
    elim c.if-is_new.branch [
      | then-is_new+in_ok-value_positions+in_ok-append w ↦
          let def : TypeDef = c.def-item.result in
          ranged-next (positions_at s) t c.args.ids.now c.loop-index.ids c.if-is_new.ids
          w.in_ok-value_positions.field-0 c.loop-index.invariant (w.ids-is ∙ w.in_ok-append.ensures.ok)
          (w.in_ok-value_positions.ensures ∙ sym (told s t def (lent_at s.types.now c.as_slice-def-items.result.now t c.as_slice-def-items.ensures c.loop-index-test.true def c.def-item.is) ∙ ap (λ (b : Bool). if b then value_positions def.kind else []) (sym c.is_new.ensures ∙ w.if-is_new.true)))
      | else-is_new w ↦
          ranged-same (positions_at s) t c.args.ids.now c.loop-index.ids c.if-is_new.ids c.loop-index.invariant w.ids-is
          (ap (λ (b : Bool). if b then option_map_or (λ (def : TypeDef). value_positions def.kind) (slice_get s.types.now t) [] else []) (sym c.is_new.ensures ∙ w.if-is_new.false))
    ]

pub returns : goal.returns
returns c =
    let s : Incoming = c.args.incoming.now in
    let last : c.loop-index.index ≡ length s.types.now = let past = c.loop-index-test.false in let within = c.loop-index.auto.index-end in let long = ap length c.as_slice-def-items.ensures in omega arith in
    c.loop-index.invariant
    ∙ (ap (λ (n : ℕ). c.args.ids.now ++ flat_map (positions_at s) (range_with_len 0 n)) last
    ∙ ap (λ (l : List ℕ). c.args.ids.now ++ l) (gathered (positions_at s) (new_of s) (λ (def : TypeDef). value_positions def.kind) s.types.now (told s)))
