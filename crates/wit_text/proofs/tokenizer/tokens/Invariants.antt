use Rattle.std.proofs.Common.{◌≡◌, ◌≤◌, ℕ, length}
use Rattle.wit_text.specs.Tokens.{tokens_of, tokens_within}
use Rattle.wit_text.proofs.Turns.{after}
use Rattle.wit_text.proofs.tokenizer.tokens.Given as goal

-- the tokens so far, and those of what is left
abbrev pub invariant-loop-found : goal.invariant-loop-found
invariant-loop-found l =
    (turns : ℕ) × (length l.tokenizer.rest.now ≤ turns) × (l.tokenizer.text.now ≡ l.text)
    × (after l.found.items (tokens_within turns l.text l.tokenizer.rest.now) ≡ tokens_of l.text)

abbrev pub decreases-loop-found : goal.decreases-loop-found
decreases-loop-found l = length l.tokenizer.rest.now
