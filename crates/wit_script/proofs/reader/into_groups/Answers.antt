use Rattle.std.proofs.Common.{◌≡◌, ◌∙◌, ◌++◌, ◌∷◌, [], List, ap, sym, rules}
use Rattle.std.proofs.lemmas.List.{append_assoc}
use Rattle.std.specs.Vec.Iter.{into_iter_items}
use Rattle.wit_script_package.specs.Draft.{as_group}
use Rattle.wit_script_package.specs.declared.draft.Draft.{Draft}
use Rattle.wit_script_lines.specs.facts.ReadFacts.{fault-of}
use Rattle.wit_script_lines.specs.PackageLine.{each_of}
use Rattle.wit_script.proofs.BuiltLines.{built-here, shaped-next}
use Rattle.wit_script.proofs.Pushed.{each-fails, each-next}
use Rattle.wit_script.proofs.reader.into_groups.Goals as goal

pub returns-in-Err-clause-read : goal.returns-in-Err-clause-read
returns-in-Err-clause-read c =
    let are : c.loop-package.yielded ++ c.in-Some.package ∷ into_iter_items c.next.new.self ≡ c.args.packages = search rules in
    fault-of c.in-Err.fault c.in-Err.ensures.read (λ fails. ap (λ (l : List Draft). each_of as_group l) (sym are) ∙ each-fails c.loop-package.yielded c.in-Some.package (into_iter_items c.next.new.self) fails)

pub loop-package-preserved : goal.loop-package-preserved
loop-package-preserved c =
    let are : c.loop-package.yielded ++ c.in-Some.package ∷ into_iter_items c.next.new.self ≡ c.args.packages = search rules in
    record {
      read = rw c.in_ok-push-in-Ok.ensures.ok (each-next c.loop-package.yielded c.in-Some.package c.loop-package.groups c.in-Ok.group c.loop-package.invariant.read c.in-Ok.ensures.read);
      all = append_assoc c.loop-package.yielded (c.in-Some.package ∷ []) (into_iter_items c.next.new.self) ∙ are;
      shaped = rw c.in_ok-push-in-Ok.ensures.ok (shaped-next c.loop-package.groups c.in-Ok.group c.loop-package.invariant.shaped
          (c.in-Ok.ensures.shaped (built-here c.loop-package.yielded (into_iter_items c.next.new.self) c.args.packages c.in-Some.package are c.requires)));
    }
