use Rattle.std.proofs.Common.{◌≡◌, ◌∙◌, ℕ, ◌+◌, ◌≤◌, List, [], ◌++◌, length, take, ap, sym, subst, arith}
use Rattle.std.specs.Prelude.{Contains, IfSome, bytes_eq, option_to_list}
use Rattle.std.specs.List.{IsDistinct}
use Rattle.std.proofs.lemmas.List.{take_all}
use Rattle.wit_data.specs.Shape.{interface_names}
use Rattle.wit_data.specs.facts.EachFacts.{one_more, one_skip}
use Rattle.wit_data.specs.declared.interface.Interface.{Interface}
use Rattle.wit_shape.specs.facts.Found.{ended, first_at, read}
use Rattle.wit_shape.proofs.NameLists.{differ_more, no_interfaces, none_there, one_interface}
use Rattle.wit_shape.specs.Faults.{foreign_interface_count}
use Rattle.wit_shape.specs.declared.place.ShapePlace.TheVariants as place
use Rattle.wit_shape.proofs.names.interfaces_differ.Goals as goal

pub loop-index-init : goal.loop-index-init
unfolding IsDistinct
loop-index-init c =
    let p = c.args.unresolved.now in
    record {
      met = c.new-met.ensures ∙ sym (no_interfaces (foreign_interface_count p) p.interfaces 0 (omega arith));
      differ = subst (λ (l : List (List ℕ)). IsDistinct bytes_eq l) (sym c.new-met.ensures) tt;
      new = record { each = λ i x below at. absurd (omega (arith, below)) };
    }

pub loop-index-preserved-then-index-foreign : goal.loop-index-preserved-then-index-foreign
loop-index-preserved-then-index-foreign c =
    let p = c.args.unresolved.now in
    let i = c.loop-index.index in
    let bound : c.len-foreign.result ≡ foreign_interface_count p = c.len-foreign.ensures ∙ ap length c.in_ok-foreign_interfaces.ensures in
    let first : i ≤ foreign_interface_count p = omega (arith, c.if-index-foreign.true, bound) in
    let second : i + 1 ≤ foreign_interface_count p = omega (arith, c.if-index-foreign.true, bound) in
    let none : interface_names (foreign_interface_count p) (take i p.interfaces) ≡ [] = no_interfaces (foreign_interface_count p) p.interfaces i first in
    record {
      met = c.loop-index.invariant.met ∙ none ∙ sym (no_interfaces (foreign_interface_count p) p.interfaces (i + 1) second);
      differ = c.loop-index.invariant.differ;
      new = one_skip c.loop-index.invariant.new (λ x at. none_there (interface_names (foreign_interface_count p) (take i p.interfaces)) none x.name);
    }

pub returns-then-not-branch : goal.returns-then-not-branch
returns-then-not-branch c =
    let p = c.args.unresolved.now in
    first_at place.Interface (λ i (interface : Interface). IfSome interface.name (λ name. Contains (interface_names (foreign_interface_count p) (take i p.interfaces)) name → ⊥)) p.interfaces c.loop-index.index _ c.interface-item.result _ c.loop-index.invariant.new
    (read p.interfaces _ c.as_slice-interface-items.ensures c.loop-index.index c.interface-item.result c.loop-index-test.true c.interface-item.is)
    (rw c.loop-index.invariant.met at c.in_ok-has_new_name.ensures.new) c.if-not-branch.true c.from_index.ensures

pub loop-index-preserved : goal.loop-index-preserved
loop-index-preserved c =
    let p = c.args.unresolved.now in
    let i = c.loop-index.index in
    let x = c.interface-item.result in
    let bound : c.len-foreign.result ≡ foreign_interface_count p = c.len-foreign.ensures ∙ ap length c.in_ok-foreign_interfaces.ensures in
    let past : foreign_interface_count p ≤ i = omega (arith, c.if-index-foreign.false, bound) in
    let at = read p.interfaces _ c.as_slice-interface-items.ensures i x c.loop-index-test.true c.interface-item.is in
    let added = c.in_ok-has_new_name.ensures.met c.if-not-branch.false in
    let new = c.in_ok-has_new_name.ensures.new.0 c.if-not-branch.false in
    record {
      met = added ∙ ap (λ (l : List (List ℕ)). l ++ option_to_list x.name) c.loop-index.invariant.met ∙ sym (one_interface (foreign_interface_count p) p.interfaces i x past at);
      differ = subst (λ (l : List (List ℕ)). IsDistinct bytes_eq l) (sym added) (differ_more c.loop-index.met x.name c.loop-index.invariant.differ new);
      new = one_more c.loop-index.invariant.new x at (rw c.loop-index.invariant.met at new);
    }

pub returns : goal.returns
returns c =
    let p = c.args.unresolved.now in
    let i = c.loop-index.index in
    let all : take i p.interfaces ≡ p.interfaces = take_all i p.interfaces (ended p.interfaces _ i c.as_slice-interface-items.ensures c.loop-index-test.false) in
    subst (λ (l : List (List ℕ)). IsDistinct bytes_eq l) (c.loop-index.invariant.met ∙ ap (λ (l : List Interface). interface_names (foreign_interface_count p) l) all) c.loop-index.invariant.differ
