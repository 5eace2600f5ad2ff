-- Facts on rows that are among those of another relation, for the proofs of the crates above.
use Rattle.std.proofs.Common.{◌≡◌, ℕ, ◌<◌, List, [], ◌∷◌, length, get_or, arith, Contains}
use Rattle.std.proofs.lemmas.List.Elements.{All-contains, Contains-get_or}
use Rattle.wit_digraph.specs.Relation.{IsAcyclic, IsPath, direct}

-- rows that are among acyclic ones are acyclic
module _ (rows whole : List (List ℕ)) (long : length rows ≡ length whole) (among : (i j : ℕ) → Contains (direct rows i) j → Contains (direct whole i) j) where
  path_among : (i : ℕ) (path : List ℕ) (j : ℕ) → IsPath rows i path j → IsPath whole i path j
  path_among i [] j same = same
  path_among i (k ∷ path) j leads = (among i k leads.0, path_among k path j leads.1)

  pub IsAcyclic-among : IsAcyclic whole → IsAcyclic rows
  IsAcyclic-among acyclic = record {
    in_range = λ i k d below.
        let has : Contains (direct rows i) (get_or (direct rows i) k d) = Contains-get_or (direct rows i) k d below in
        let there : get_or (direct rows i) k d < length whole = All-contains (λ j. j < length whole) (direct whole i) (get_or (direct rows i) k d) (acyclic.in_range i) (among i (get_or (direct rows i) k d) has) in
        omega arith;
    no_cycle = λ i k path leads. acyclic.no_cycle i k path (path_among i (k ∷ path) i leads);
  }
