use Rattle.std.proofs.Common.{rules, arith, ◌≡◌, ◌∙◌, inr, ◌++◌, ◌∷◌, [], ap, sym, subst, None, Some, List, slice_get, position, Contains}
use Rattle.std.proofs.lemmas.List.{append-nil, append_assoc}
use Rattle.std.specs.Map.{keys_of, lookup}
use Rattle.std.specs.Vec.Iter.{into_iter_items}
use Rattle.wit_data.specs.Entries.{Entry}
use Rattle.wit_data.specs.facts.EachFacts.{nil_from_length}
use Rattle.wit_graph_data.specs.facts.ResultFacts.{residual_error}
use Rattle.wit_graph_data.specs.declared.error_kind.ResolveErrorKind.TheVariants.{ItemShadowing}
use Rattle.wit_data.specs.facts.WorldKeyFacts.{same_key}
use Rattle.wit_data.specs.declared.world.WorldKey.{WorldKey}
use Rattle.wit_data.specs.declared.world.WorldKey.TheVariants as key
use Rattle.wit_link_include.specs.steps.Included.{IsJoinError, JoinIsAccepted}
use Rattle.wit_link_include.proofs.JoinSteps.{IsJoining, differ-cause, joining-new, joining-none, joining-there, joining_accepted, not-done, shadow-cause}
use Rattle.wit_link_include.proofs.Keys.{found_key, lacks_from}
use Rattle.wit_link_include.proofs.joining.join.Goals as goal

pub loop-key-init : goal.loop-key-init
loop-key-init c = record {
  joining = joining-none c.args.other c.args.current;
  left = search rules;
}

pub loop-key-preserved-in_ok-push_new-in-None-get_index_of : goal.loop-key-preserved-in_ok-push_new-in-None-get_index_of
loop-key-preserved-in_ok-push_new-in-None-get_index_of c =
    let none : lookup (same_key c.in-Some.key) c.loop-key.entries ≡ None = search rules in
    let are : c.loop-key.yielded ++ (c.in-Some.key, c.in-Some.item) ∷ into_iter_items c.next.new.self ≡ c.args.brought = search rules in
    record {
      joining =
          joining-new c.args.other c.args.current c.loop-key.yielded c.loop-key.entries c.push_new.new.entries c.in-Some.key c.in-Some.item c.loop-key.invariant.joining
          (lacks_from c.in-Some.key c.loop-key.entries none) c.in_ok-push_new-in-None-get_index_of.ensures;
      left = append_assoc c.loop-key.yielded ((c.in-Some.key, c.in-Some.item) ∷ []) (into_iter_items c.next.new.self) ∙ are;
    }

pub returns-in-Name-clause-cause : goal.returns-in-Name-clause-cause
returns-in-Name-clause-cause c =
    let are : c.loop-key.yielded ++ (c.in-Some.key, c.in-Some.item) ∷ into_iter_items c.next.new.self ≡ c.args.brought = search rules in
    let called : c.in-Some.key ≡ key.Name c.in-Name.label = search rules in
    let at : position (same_key c.in-Some.key) (keys_of c.loop-key.entries) ≡ Some c.in-Some-get_index_of.place = sym c.in-Some-get_index_of.ensures.index in
    let found = found_key c.in-Some.key c.loop-key.entries c.in-Some-get_index_of.place at in
    let is : c.in_ok-shadowing-in-Name.field-0 ≡ ItemShadowing c.args.span c.args.word.now c.in-Name.label = search rules in
    inr (subst (IsJoinError c.args.other c.args.span c.args.word.now c.args.current c.args.brought) (sym is)
    (shadow-cause c.args.other c.args.span c.args.word.now c.in-Name.label c.args.current c.args.brought c.loop-key.yielded (into_iter_items c.next.new.self) c.loop-key.entries c.in-Some.item found.0 c.in-Some-get_index_of.place
    c.loop-key.invariant.joining (subst (λ (k : WorldKey). c.loop-key.yielded ++ (k, c.in-Some.item) ∷ into_iter_items c.next.new.self ≡ c.args.brought) called are)
    (subst (λ (k : WorldKey). slice_get c.loop-key.entries c.in-Some-get_index_of.place ≡ Some (k, found.0)) called found.1)))

pub loop-key-preserved : goal.loop-key-preserved
loop-key-preserved c =
    let are : c.loop-key.yielded ++ (c.in-Some.key, c.in-Some.item) ∷ into_iter_items c.next.new.self ≡ c.args.brought = search rules in
    let called : c.in-Some.key ≡ key.Interface c.in-Interface.field-0 = search rules in
    let at : position (same_key c.in-Some.key) (keys_of c.loop-key.entries) ≡ Some c.in-Some-get_index_of.place = sym c.in-Some-get_index_of.ensures.index in
    let found = found_key c.in-Some.key c.loop-key.entries c.in-Some-get_index_of.place at in
    let lacks =
    not-done c.args.brought c.loop-key.yielded (into_iter_items c.next.new.self) c.in-Interface.field-0 c.in-Some.item c.requires
    (subst (λ (k : WorldKey). c.loop-key.yielded ++ (k, c.in-Some.item) ∷ into_iter_items c.next.new.self ≡ c.args.brought) called are) in
    record {
      joining =
          joining-there c.args.other c.args.current c.loop-key.yielded c.loop-key.entries c.join_at.new.entries c.in-Some.key c.in-Some.item found.0 c.in-Interface.field-0 c.in-Some-get_index_of.place
          c.loop-key.invariant.joining called (subst (λ (k : WorldKey). Contains (keys_of c.loop-key.yielded) k → ⊥) (sym called) lacks) c.get_index_of.ensures.distinct found.1
          (c.in_ok-join_at-in-Interface.ensures.fine c.in-Some.key found.0 found.1) (c.in_ok-join_at-in-Interface.ensures.ok c.in-Some.key found.0 found.1);
      left = append_assoc c.loop-key.yielded ((c.in-Some.key, c.in-Some.item) ∷ []) (into_iter_items c.next.new.self) ∙ are;
    }

pub returns-in_err-join_at-in-Interface-clause-cause : goal.returns-in_err-join_at-in-Interface-clause-cause
returns-in_err-join_at-in-Interface-clause-cause c =
    let are : c.loop-key.yielded ++ (c.in-Some.key, c.in-Some.item) ∷ into_iter_items c.next.new.self ≡ c.args.brought = search rules in
    let called : c.in-Some.key ≡ key.Interface c.in-Interface.field-0 = search rules in
    let at : position (same_key c.in-Some.key) (keys_of c.loop-key.entries) ≡ Some c.in-Some-get_index_of.place = sym c.in-Some-get_index_of.ensures.index in
    let found = found_key c.in-Some.key c.loop-key.entries c.in-Some-get_index_of.place at in
    residual_error c.from_residual-in_err-join_at-in-Interface.result c.from_residual-in_err-join_at-in-Interface.ensures.1
    (λ e is.
    let same : e ≡ c.in_err-join_at-in-Interface.field-0.0 = is in
    inr (subst (IsJoinError c.args.other c.args.span c.args.word.now c.args.current c.args.brought) (sym same)
    (differ-cause c.args.other c.args.span c.args.word.now c.args.current c.args.brought c.loop-key.yielded (into_iter_items c.next.new.self) c.loop-key.entries c.in-Interface.field-0 c.in-Some.item found.0
    c.in-Some-get_index_of.place c.in_err-join_at-in-Interface.field-0.0 c.loop-key.invariant.joining c.requires
    (subst (λ (k : WorldKey). c.loop-key.yielded ++ (k, c.in-Some.item) ∷ into_iter_items c.next.new.self ≡ c.args.brought) called are)
    (subst (λ (k : WorldKey). slice_get c.loop-key.entries c.in-Some-get_index_of.place ≡ Some (k, found.0)) called found.1)
    (c.in_err-join_at-in-Interface.ensures.cause c.in-Some.key found.0 found.1))))

pub returns-clause-fine : goal.returns-clause-fine
returns-clause-fine c =
    let over = c.in-None.ensures.steps.0 in
    let long = c.loop-key.key-iterator.rest.ok.0 in
    let none : into_iter_items c.loop-key.key-iterator ≡ [] = nil_from_length (into_iter_items c.loop-key.key-iterator) (omega (arith, over, long)) in
    let all : c.loop-key.yielded ≡ c.args.brought = sym (append-nil c.loop-key.yielded) ∙ ap (λ (l : List Entry). c.loop-key.yielded ++ l) (sym none) ∙ c.loop-key.invariant.left in
    subst (λ (l : List Entry). JoinIsAccepted c.args.other c.args.span c.args.word.now c.args.current l) all
    (joining_accepted c.args.other c.args.span c.args.word.now c.args.current c.loop-key.yielded c.loop-key.entries c.loop-key.invariant.joining)
