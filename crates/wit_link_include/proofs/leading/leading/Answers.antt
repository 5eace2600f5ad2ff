use Rattle.std.proofs.Common.{◌≡◌, ◌∙◌, ◌++◌, ◌∷◌, ◌<◌, [], ℕ, Bool, false, List, Option, None, Some, Contains, map, nat_eq, unwrap_or, refl, sym, ap, subst, inl, inr, arith, if◌then◌else◌}
use Rattle.std.specs.List.{flat_map}
use Rattle.std.specs.Map.{keys_of, lookup}
use Rattle.wit_digraph.specs.facts.FreshFacts.{any_from_contains, no_any_from}
use Rattle.wit_digraph.specs.Relation.{IsAcyclic, direct}
use Rattle.wit_digraph.specs.PostOrder.{post_order}
use Rattle.wit_data.specs.Kind.{type_references}
use Rattle.wit_link_include.specs.steps.Included.{known_of, leads, open_rows, said}
use Rattle.wit_link_include.specs.declared.leading.Step.{Step}
use Rattle.wit_link_include.specs.declared.leading.Step.TheVariants as step
use Rattle.wit_link_include.specs.declared.origin.Origin.{Origin}
use Rattle.wit_link_include.proofs.Members.{key_at, put_from, put_kept, put_new, put_value, told_key, value_at}
use Rattle.wit_link_include.proofs.OpenRows.{leads_right, open_acyclic, open_long, there_at}
use Rattle.wit_link_include.proofs.Walking.{IsWalking, done_all, done_within, enter_known, enter_new, fewer_known, fewer_left, fewer_new, leave_step, leave_there, leave_uses, turns, walk_begun}
use Rattle.wit_link_include.proofs.leading.leading.Goals as goal

abbrev Walks : Origin → List ℕ → List ℕ → List Step → Type 0
Walks o roots keys stack = IsWalking (open_rows o) roots keys stack

-- the stack with its last step
with_top : (o : Origin) (roots keys : List ℕ) (stack below : List Step) (top s : Step) → stack ≡ below ++ top ∷ [] → top ≡ s → Walks o roots keys stack → Walks o roots keys (below ++ s ∷ [])
with_top o roots keys stack below top s is same now = subst (λ (r : Step). Walks o roots keys (below ++ r ∷ [])) same (subst (Walks o roots keys) is now)

fewer : (o : Origin) (stack below next : List Step) (top s : Step) → stack ≡ below ++ top ∷ [] → top ≡ s → turns (open_rows o) next < turns (open_rows o) (below ++ s ∷ []) → turns (open_rows o) next < turns (open_rows o) stack
fewer o stack below next top s is same less =
    subst (λ (w : List Step). turns (open_rows o) next < turns (open_rows o) w) (sym is)
    (subst (λ (r : Step). turns (open_rows o) next < turns (open_rows o) (below ++ r ∷ [])) (sym same) less)

-- the stack on which a type is entered
entered_is : (o : Origin) (below pushed next : List Step) (t : ℕ) → pushed ≡ below ++ step.Leave t ∷ [] → next ≡ pushed ++ map step.Enter (direct (open_rows o) t)
    → next ≡ (below ++ step.Leave t ∷ []) ++ map step.Enter (direct (open_rows o) t)
entered_is o below pushed next t one two = two ∙ ap (λ (w : List Step). w ++ map step.Enter (direct (open_rows o) t)) one

pub loop-step-init : goal.loop-step-init
loop-step-init c =
    let o = c.args.origin.now in
    let begun : Walks o c.args.roots.now [] (map step.Enter c.args.roots.now) =
    walk_begun (open_rows o) (open_acyclic o c.requires.acyclic) c.args.roots.now (λ t has. let within = c.requires.there t has in let long = open_long o in omega arith) in
    let stack : c.push_enters.new.stack ≡ map step.Enter c.args.roots.now = c.in_ok-push_enters.ensures ∙ ap (λ (w : List Step). w ++ map step.Enter c.args.roots.now) c.new-stack.ensures in
    record {
      walking = subst (λ (es : List (ℕ × Bool)). Walks o c.args.roots.now (keys_of es) c.push_enters.new.stack) (sym c.new-known.ensures.empty)
          (subst (Walks o c.args.roots.now []) (sym stack) begun);
      right = λ t b at. let none : lookup (nat_eq t) [] ≡ Some b = sym (ap (lookup (nat_eq t)) c.new-known.ensures.empty) ∙ at in cc;
    }

pub loop-step-smaller-in_ok-push_references-in-Enter : goal.loop-step-smaller-in_ok-push_references-in-Enter
loop-step-smaller-in_ok-push_references-in-Enter c =
    let o = c.args.origin.now in
    let keys = keys_of c.loop-step.known.entries in
    let now = with_top o c.args.roots.now keys c.loop-step.stack c.pop.new.self c.in-Some.step (step.Enter c.in-Enter.id) c.in-Some.ensures.last c.in-Enter.is c.loop-step.invariant.walking in
    let next = entered_is o c.pop.new.self c.push.new.self c.push_references.new.stack c.in-Enter.id c.in_ok-push-in-Enter.ensures.ok c.in_ok-push_references-in-Enter.ensures in
    fewer o c.loop-step.stack c.pop.new.self c.push_references.new.stack c.in-Some.step (step.Enter c.in-Enter.id) c.in-Some.ensures.last c.in-Enter.is
    (subst (λ (w : List Step). turns (open_rows o) w < turns (open_rows o) (c.pop.new.self ++ step.Enter c.in-Enter.id ∷ [])) (sym next)
    (fewer_new (open_rows o) (open_acyclic o c.requires.acyclic) c.args.roots.now keys c.pop.new.self c.in-Enter.id now))

pub loop-step-preserved-in_ok-push_references-in-Enter : goal.loop-step-preserved-in_ok-push_references-in-Enter
loop-step-preserved-in_ok-push_references-in-Enter c =
    let o = c.args.origin.now in
    let keys = keys_of c.loop-step.known.entries in
    let now = with_top o c.args.roots.now keys c.loop-step.stack c.pop.new.self c.in-Some.step (step.Enter c.in-Enter.id) c.in-Some.ensures.last c.in-Enter.is c.loop-step.invariant.walking in
    let next = entered_is o c.pop.new.self c.push.new.self c.push_references.new.stack c.in-Enter.id c.in_ok-push-in-Enter.ensures.ok c.in_ok-push_references-in-Enter.ensures in
    record {
      walking = subst (Walks o c.args.roots.now keys) (sym next) (enter_new (open_rows o) (open_acyclic o c.requires.acyclic) c.args.roots.now keys c.pop.new.self c.in-Enter.id now);
      right = c.loop-step.invariant.right;
    }

pub loop-step-smaller-else-not-contains_key : goal.loop-step-smaller-else-not-contains_key
loop-step-smaller-else-not-contains_key c =
    let o = c.args.origin.now in
    let keys = keys_of c.loop-step.known.entries in
    let now = with_top o c.args.roots.now keys c.loop-step.stack c.pop.new.self c.in-Some.step (step.Enter c.in-Enter.id) c.in-Some.ensures.last c.in-Enter.is c.loop-step.invariant.walking in
    fewer o c.loop-step.stack c.pop.new.self c.pop.new.self c.in-Some.step (step.Enter c.in-Enter.id) c.in-Some.ensures.last c.in-Enter.is
    (fewer_known (open_rows o) (open_acyclic o c.requires.acyclic) c.args.roots.now keys c.pop.new.self c.in-Enter.id now)

pub loop-step-preserved-else-not-contains_key : goal.loop-step-preserved-else-not-contains_key
loop-step-preserved-else-not-contains_key c =
    let o = c.args.origin.now in
    let keys = keys_of c.loop-step.known.entries in
    let now = with_top o c.args.roots.now keys c.loop-step.stack c.pop.new.self c.in-Some.step (step.Enter c.in-Enter.id) c.in-Some.ensures.last c.in-Enter.is c.loop-step.invariant.walking in
    let known : Contains keys c.in-Enter.id = told_key c.loop-step.known.entries c.in-Enter.id (sym c.contains_key.ensures ∙ c.if-not-contains_key.false) in
    record {
      walking = enter_known (open_rows o) (open_acyclic o c.requires.acyclic) c.args.roots.now keys c.pop.new.self c.in-Enter.id now known;
      right = c.loop-step.invariant.right;
    }

pub loop-step-smaller : goal.loop-step-smaller
loop-step-smaller c =
    let o = c.args.origin.now in
    let keys = keys_of c.loop-step.known.entries in
    let now = with_top o c.args.roots.now keys c.loop-step.stack c.pop.new.self c.in-Some.step (step.Leave c.in-Leave.id) c.in-Some.ensures.last c.in-Leave.is c.loop-step.invariant.walking in
    fewer o c.loop-step.stack c.pop.new.self c.pop.new.self c.in-Some.step (step.Leave c.in-Leave.id) c.in-Some.ensures.last c.in-Leave.is
    (fewer_left (open_rows o) (open_acyclic o c.requires.acyclic) c.args.roots.now keys c.pop.new.self c.in-Leave.id now)

-- what is said of a type is right where what is known is
said_right : (o : Origin) (known : List (ℕ × Bool)) (right : (t : ℕ) (b : Bool) → lookup (nat_eq t) known ≡ Some b → b ≡ leads o t) (u : ℕ) → Contains (keys_of known) u → said known u ≡ leads o u
said_right o known right u has = let found = value_at known u has in ap (λ (r : Option Bool). unwrap_or r false) found.1 ∙ right u found.0 found.1

pub loop-step-preserved : goal.loop-step-preserved
loop-step-preserved c =
    let o = c.args.origin.now in
    let es = c.loop-step.known.entries in
    let keys = keys_of es in
    let id = c.in-Leave.id in
    let now = with_top o c.args.roots.now keys c.loop-step.stack c.pop.new.self c.in-Some.step (step.Leave id) c.in-Some.ensures.last c.in-Leave.is c.loop-step.invariant.walking in
    let put = c.in_ok-insert-in-Leave.ensures.updates.0 in
    let v = c.in_ok-leads-in-Leave.leads in
    let def = there_at o id (leave_there (open_rows o) (open_acyclic o c.requires.acyclic) c.args.roots.now keys c.pop.new.self id now) in
    let its : v ≡ leads o id =
    c.in_ok-leads-in-Leave.ensures ∙ leads_right o c.requires.acyclic c.requires.apart es id def.0 def.1
    (λ u has. said_right o es c.loop-step.invariant.right u (leave_uses (open_rows o) (open_acyclic o c.requires.acyclic) c.args.roots.now keys c.pop.new.self id now u has)) in
    record {
      walking = leave_step (open_rows o) (open_acyclic o c.requires.acyclic) c.args.roots.now keys c.pop.new.self id now (keys_of c.insert.new.self.entries)
          (put_from es c.insert.new.self.entries id v put) (put_kept es c.insert.new.self.entries id v put) (put_new es c.insert.new.self.entries id v put);
      right = λ t b at. elim (put_value es c.insert.new.self.entries id v put t b at) [
        | inl new ↦ new.1 ∙ (its ∙ ap (leads o) (sym new.0))
        | inr old ↦ c.loop-step.invariant.right t b old
      ];
    }

-- what is known in the end
in_the_end : (o : Origin) (acyclic : IsAcyclic (type_references o.graph.now.types)) (roots : List ℕ) (known : List (ℕ × Bool)) → Walks o roots (keys_of known) []
    → ((t : ℕ) (b : Bool) → lookup (nat_eq t) known ≡ Some b → b ≡ leads o t) → (t : ℕ) → lookup (nat_eq t) known ≡ known_of o roots t
in_the_end o acyclic roots known done right t = by (lookup (nat_eq t) known) refl
  where
    all : List ℕ
    all = flat_map (post_order (open_rows o)) roots

    by : (r : Option Bool) → lookup (nat_eq t) known ≡ r → lookup (nat_eq t) known ≡ known_of o roots t
    by (Some b) at =
        let on = any_from_contains t (flat_map (post_order (open_rows o)) roots) (done_within (open_rows o) (open_acyclic o acyclic) roots (keys_of known) done t (key_at known t b at)) in
        at ∙ (ap Some (right t b at) ∙ sym (ap (λ (x : Bool). if x then Some (leads o t) else None) on))
    by None at =
        let off = no_any_from t (flat_map (post_order (open_rows o)) roots) (λ has.
        let found = value_at known t (done_all (open_rows o) (open_acyclic o acyclic) roots (keys_of known) done t has) in
        let both : None ≡ Some found.0 = sym at ∙ found.1 in cc) in
        at ∙ sym (ap (λ (x : Bool). if x then Some (leads o t) else None) off)

pub returns : goal.returns
returns c = λ t. ap (lookup (nat_eq t)) c.in_ok-from_map.ensures ∙ in_the_end c.args.origin.now c.requires.acyclic c.args.roots.now c.loop-step.known.entries
    (subst (Walks c.args.origin.now c.args.roots.now (keys_of c.loop-step.known.entries)) c.in_default.ensures.empty c.loop-step.invariant.walking) c.loop-step.invariant.right t
