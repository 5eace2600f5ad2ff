use Rattle.std.proofs.Common.{◌≡◌, ◌∙◌, Bool, List, ap, filter, sym}
use Rattle.indexmap.proofs.CallerLemmas.{filter-RetainsPairs}
use Rattle.std_collections.specs.Map.Calls.{RetainsPairs}
use Rattle.wit_values.proofs.PairsLemmas.{told}
use Rattle.wit_values.proofs.pairs.retain_indexed.Goals as goal

-- `filter-RetainsPairs`, which learns first what the calls are
filtered_by : {K X F : Type 0} (T : F → K → X → Bool → X → F → Type 0) (f : F) (es kept : List (K × X)) → RetainsPairs T f es kept → (test : K × X → Bool)
    → ((k : K) (x : X) (b : Bool) (w : X) (g : F) → T f k x b w g → (b ≡ test (k, x)) × (w ≡ x) × (g ≡ f)) → kept ≡ filter test es
filtered_by T f es kept h test says = filter-RetainsPairs T test f says es kept h

pub returns : goal.returns
returns g c = λ test tells. filtered_by _ _ _ _ c.retain.ensures.filtered (λ e. test e.1) (λ k v b w f call.
    let met = call.called.met in
    (told tells call.value.now v b met.1.0 call.shows.1, sym call.leaves ∙ met.1.1 ∙ call.shows.1, ap (λ held. record { 0 = held }) met.0))
