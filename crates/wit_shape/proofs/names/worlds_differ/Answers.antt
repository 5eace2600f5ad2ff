use Rattle.std.proofs.Common.{◌≡◌, ◌∙◌, ℕ, ◌+◌, ◌≤◌, List, [], ◌∷◌, ◌++◌, length, take, ap, sym, subst, arith}
use Rattle.std.specs.Prelude.{Contains, bytes_eq}
use Rattle.std.specs.List.{IsDistinct}
use Rattle.std.proofs.lemmas.List.{take_all}
use Rattle.std.proofs.lemmas.Slice.Eq.{bytes_eq-Decides}
use Rattle.wit_data.specs.Shape.{world_names}
use Rattle.wit_data.specs.facts.EachFacts.{one_more, one_skip}
use Rattle.wit_data.specs.declared.world.World.{World}
use Rattle.wit_shape.specs.facts.DistinctFacts.{apart_push}
use Rattle.wit_shape.specs.facts.Found.{ended, first_at, read}
use Rattle.wit_shape.proofs.NameLists.{no_worlds, not_there, one_world}
use Rattle.wit_shape.specs.Faults.{foreign_world_count}
use Rattle.wit_shape.specs.declared.place.ShapePlace.TheVariants as place
use Rattle.wit_shape.proofs.names.worlds_differ.Goals as goal

pub loop-index-init : goal.loop-index-init
unfolding IsDistinct
loop-index-init c =
    let p = c.args.unresolved.now in
    record {
      met = c.new-met.ensures ∙ sym (no_worlds (foreign_world_count p) p.worlds 0 (omega arith));
      differ = subst (λ (l : List (List ℕ)). IsDistinct bytes_eq l) (sym c.new-met.ensures) tt;
      new = record { each = λ i x below at. absurd (omega (arith, below)) };
    }

pub loop-index-preserved-then-index-foreign : goal.loop-index-preserved-then-index-foreign
loop-index-preserved-then-index-foreign c =
    let p = c.args.unresolved.now in
    let i = c.loop-index.index in
    let bound : c.len-foreign.result ≡ foreign_world_count p = c.len-foreign.ensures ∙ ap length c.in_ok-foreign_worlds.ensures in
    let first : i ≤ foreign_world_count p = omega (arith, c.if-index-foreign.true, bound) in
    let second : i + 1 ≤ foreign_world_count p = omega (arith, c.if-index-foreign.true, bound) in
    let none : world_names (foreign_world_count p) (take i p.worlds) ≡ [] = no_worlds (foreign_world_count p) p.worlds i first in
    record {
      met = c.loop-index.invariant.met ∙ none ∙ sym (no_worlds (foreign_world_count p) p.worlds (i + 1) second);
      differ = c.loop-index.invariant.differ;
      new = one_skip c.loop-index.invariant.new (λ x at. not_there (world_names (foreign_world_count p) (take i p.worlds)) none x.name);
    }

pub returns-then-not-branch : goal.returns-then-not-branch
returns-then-not-branch c =
    let p = c.args.unresolved.now in
    first_at place.World (λ w (world : World). Contains (world_names (foreign_world_count p) (take w p.worlds)) world.name → ⊥) p.worlds c.loop-index.index _ c.world-item.result _ c.loop-index.invariant.new
    (read p.worlds _ c.as_slice-world-items.ensures c.loop-index.index c.world-item.result c.loop-index-test.true c.world-item.is)
    (rw (c.as_str.ensures, c.loop-index.invariant.met) at c.in_ok-is_new.ensures.new) c.if-not-branch.true c.from_index.ensures

pub loop-index-preserved : goal.loop-index-preserved
loop-index-preserved c =
    let p = c.args.unresolved.now in
    let i = c.loop-index.index in
    let x = c.world-item.result in
    let bound : c.len-foreign.result ≡ foreign_world_count p = c.len-foreign.ensures ∙ ap length c.in_ok-foreign_worlds.ensures in
    let past : foreign_world_count p ≤ i = omega (arith, c.if-index-foreign.false, bound) in
    let at = read p.worlds _ c.as_slice-world-items.ensures i x c.loop-index-test.true c.world-item.is in
    let added = rw c.as_str.ensures at (c.in_ok-is_new.ensures.met c.if-not-branch.false) in
    let new = rw c.as_str.ensures at (c.in_ok-is_new.ensures.new.0 c.if-not-branch.false) in
    record {
      met = added ∙ ap (λ (l : List (List ℕ)). l ++ x.name ∷ []) c.loop-index.invariant.met ∙ sym (one_world (foreign_world_count p) p.worlds i x past at);
      differ = subst (λ (l : List (List ℕ)). IsDistinct bytes_eq l) (sym added) (apart_push bytes_eq-Decides c.loop-index.met x.name c.loop-index.invariant.differ new);
      new = one_more c.loop-index.invariant.new x at (rw c.loop-index.invariant.met at new);
    }

pub returns : goal.returns
returns c =
    let p = c.args.unresolved.now in
    let i = c.loop-index.index in
    let all : take i p.worlds ≡ p.worlds = take_all i p.worlds (ended p.worlds _ i c.as_slice-world-items.ensures c.loop-index-test.false) in
    subst (λ (l : List (List ℕ)). IsDistinct bytes_eq l) (c.loop-index.invariant.met ∙ ap (λ (l : List World). world_names (foreign_world_count p) l) all) c.loop-index.invariant.differ
