use Rattle.std.proofs.Common.{◌∙◌, ◌++◌, ◌∷◌, [], ℕ, List, ap, sym}
use Rattle.std.proofs.lemmas.List.{append_assoc}
use Rattle.std.specs.Vec.Iter.{into_iter_items}
use Rattle.wit_names.specs.declared.package_name.PackageName.{PackageName}
use Rattle.wit_names.specs.facts.PackageNameFacts.{same_package-Decides}
use Rattle.wit_remap.specs.facts.GrownFacts.{Begins-by, Begins-same, Begins-then}
use Rattle.wit_merge.proofs.Chosen.{key_is_new}
use Rattle.wit_merge.proofs.appending.append_names.Goals as goal

abbrev Listed : Type 0
Listed = PackageName × ℕ

pub loop-name-init : goal.loop-name-init
loop-name-init c = record {
  all = ap (λ (l : List Listed). c.args.names.now ++ l) (c.into_iter-name-iterator.ensures.into_iter_gives.0 ∙ c.into_vec-name-items.ensures);
  begins = Begins-same c.args.names.now;
}

pub push-requires : goal.push-requires
push-requires c =
    let here = ap (λ (l : List Listed). c.loop-name.names ++ l) (sym c.in-Some.ensures.steps.0) ∙ c.loop-name.invariant.all in
    key_is_new (λ a b. (same_package-Decides a b).0) c.loop-name.names (into_iter_items c.next.new.self) (c.args.names.now ++ c.args.coming) c.in-Some.name c.in-Some.id c.requires here

pub loop-name-preserved : goal.loop-name-preserved
loop-name-preserved c =
    let e : Listed = (c.in-Some.name, c.in-Some.id) in
    let here = ap (λ (l : List Listed). c.loop-name.names ++ l) (sym c.in-Some.ensures.steps.0) ∙ c.loop-name.invariant.all in
    record {
      all = ap (λ (l : List Listed). l ++ into_iter_items c.next.new.self) c.in_ok-push.ensures.ok ∙ append_assoc c.loop-name.names (e ∷ []) (into_iter_items c.next.new.self) ∙ here;
      begins = Begins-then c.args.names.now c.loop-name.names c.push.new.self c.loop-name.invariant.begins (Begins-by c.loop-name.names c.push.new.self (e ∷ []) c.in_ok-push.ensures.ok);
    }
