use Rattle.std.proofs.Common.{◌≡◌, ◌∙◌, ◌<◌, ◌≤◌, ◌++◌, [], ◌∷◌, Some, None, Ok, Err, length, rules, sym, ap, subst}
use Rattle.wit_text.specs.Character.{first_refused}
use Rattle.wit_text.specs.Tokens.{IfToken, Next, after_mark, left_of, next_of, tokens_after, tokens_of, tokens_within}
use Rattle.wit_text.proofs.Turns.{after, after-nothing, mark_short, turns_end, turns_fault, turns_more}
use Rattle.wit_text.proofs.tokenizer.tokens.Goals as goal

pub loop-found-init : goal.loop-found-init
loop-found-init c =
    let begun : (first_refused c.args.text.now ≡ None) × (c.in_ok-tokenizer.tokenizer.text.now ≡ c.args.text.now) × (c.in_ok-tokenizer.tokenizer.rest.now ≡ after_mark c.args.text.now) =
    c.in_ok-tokenizer.ensures in (
      length c.args.text.now,
      subst (λ xs. length xs ≤ length c.args.text.now) (sym begun.2) (mark_short c.args.text.now),
      begun.1,
      ap (λ found. after found (tokens_within (length c.args.text.now) c.args.text.now c.in_ok-tokenizer.tokenizer.rest.now)) c.new-found.ensures.items
          ∙ after-nothing (tokens_within (length c.args.text.now) c.args.text.now c.in_ok-tokenizer.tokenizer.rest.now)
          ∙ ap (λ xs. tokens_within (length c.args.text.now) c.args.text.now xs) begun.2 ∙ sym (ap (tokens_after c.args.text.now) begun.0),
    )

pub loop-found-smaller : goal.loop-found-smaller
loop-found-smaller c =
    let next : c.next_token.result ≡ Ok (Some c.in-Some.token) = c.in_ok-token.was ∙ ap Ok c.in-Some.is in
    subst (λ (r : Next). IfToken r (length c.next_token.new.self.rest.now < length c.loop-found.tokenizer.rest.now)) next c.next_token.ensures.shorter

pub loop-found-preserved : goal.loop-found-preserved
loop-found-preserved c =
    let state = c.loop-found.invariant in
    let next : c.next_token.result ≡ Ok (Some c.in-Some.token) = c.in_ok-token.was ∙ ap Ok c.in-Some.is in
    let is : next_of c.loop-found.tokenizer.text.now c.loop-found.tokenizer.rest.now ≡ Ok (Some c.in-Some.token) = sym c.next_token.ensures.value ∙ next in
    let here : next_of c.args.text.now c.loop-found.tokenizer.rest.now ≡ Ok (Some c.in-Some.token) =
    sym (ap (λ t. next_of t c.loop-found.tokenizer.rest.now) state.2) ∙ is in
    let left : c.next_token.new.self.rest.now ≡ left_of c.loop-found.tokenizer.rest.now = c.next_token.ensures.left in
    let less : length c.next_token.new.self.rest.now < length c.loop-found.tokenizer.rest.now =
    subst (λ (r : Next). IfToken r (length c.next_token.new.self.rest.now < length c.loop-found.tokenizer.rest.now)) next c.next_token.ensures.shorter in
    let shorter : length (left_of c.loop-found.tokenizer.rest.now) < length c.loop-found.tokenizer.rest.now =
    subst (λ xs. length xs < length c.loop-found.tokenizer.rest.now) left less in
    let more = turns_more c.args.text.now c.loop-found.tokenizer.rest.now c.loop-found.found.items (tokens_of c.args.text.now) state.0 c.in-Some.token state.1 shorter state.3 here in (
      more.0,
      subst (λ xs. length xs ≤ more.0) (sym left) more.1,
      c.next_token.ensures.text ∙ state.2,
      ap (λ found. after found (tokens_within more.0 c.args.text.now c.next_token.new.self.rest.now)) c.in_ok-push.ensures.items
          ∙ ap (λ xs. after (c.loop-found.found.items ++ c.in-Some.token ∷ []) (tokens_within more.0 c.args.text.now xs)) left ∙ more.2,
    )

pub returns-in_err-token : goal.returns-in_err-token
returns-in_err-token c =
    let state = c.loop-found.invariant in
    let is : next_of c.loop-found.tokenizer.text.now c.loop-found.tokenizer.rest.now ≡ Err c.in_err-token.field-0.0 = sym c.next_token.ensures.value ∙ c.in_err-token.was in
    let here : next_of c.args.text.now c.loop-found.tokenizer.rest.now ≡ Err c.in_err-token.field-0.0 =
    sym (ap (λ t. next_of t c.loop-found.tokenizer.rest.now) state.2) ∙ is in
    let said : tokens_of c.args.text.now ≡ Err c.in_err-token.field-0.0 =
    turns_fault c.args.text.now c.loop-found.tokenizer.rest.now c.loop-found.found.items (tokens_of c.args.text.now) state.0 c.in_err-token.field-0.0 state.1 state.3 here in
    search rules

pub returns : goal.returns
returns c =
    let state = c.loop-found.invariant in
    let none : c.in_ok-token.field-0 ≡ None = cc in
    let is : next_of c.loop-found.tokenizer.text.now c.loop-found.tokenizer.rest.now ≡ Ok None = sym c.next_token.ensures.value ∙ c.in_ok-token.was ∙ ap Ok none in
    let here : next_of c.args.text.now c.loop-found.tokenizer.rest.now ≡ Ok None = sym (ap (λ t. next_of t c.loop-found.tokenizer.rest.now) state.2) ∙ is in
    turns_end c.args.text.now c.loop-found.tokenizer.rest.now c.loop-found.found.items (tokens_of c.args.text.now) state.0 state.3 here
