-- Rows and paths, over plain lists of lists: a simulation of rows lifts paths, and rows that grow by later
-- nodes, which use old ones or ones of smaller rank, stay acyclic.
use Rattle.std.proofs.Common.{◌≡◌, ◌⊎◌, inl, inr, ℕ, ◌<◌, ◌≤◌, zero, suc, List, [], ◌∷◌, ◌++◌, length, refl, sym, subst, ap, arith, Contains, All}
use Rattle.std.proofs.lemmas.Bool.{cases_lt}
use Rattle.std.proofs.lemmas.List.{length-append}
use Rattle.std.proofs.lemmas.List.Elements.{All-contains}
use Rattle.std.specs.List.{flat_map}
use Rattle.wit_digraph.specs.facts.MemberFacts.{Contains-nil, Contains-cons_cases}
use Rattle.wit_digraph.specs.Relation.{direct, IsPath, Reaches, IsAcyclic}
use Rattle.wit_digraph.specs.facts.PostOrderFacts.{post_order_is}
use Rattle.wit_digraph.specs.PostOrder.{post_order}

-- ---- paths

IsPath-join : (uses : List (List ℕ)) (i : ℕ) (path : List ℕ) (k : ℕ) (more : List ℕ) (j : ℕ) → IsPath uses i path k → IsPath uses k more j → IsPath uses i (path ++ more) j
IsPath-join uses i [] k more j same leads = subst (λ (x : ℕ). IsPath uses x more j) (sym same) leads
IsPath-join uses i (x ∷ path) k more j first leads = (first.0, IsPath-join uses x path k more j first.1 leads)

pub Reaches-join : (uses : List (List ℕ)) (i k j : ℕ) → Reaches uses i k → Reaches uses k j → Reaches uses i j
Reaches-join uses i k j first then = (first.0 ++ then.0, IsPath-join uses i first.0 k then.0 j first.1 then.1)

pub Reaches-use : (uses : List (List ℕ)) (i j : ℕ) → Contains (direct uses i) j → Reaches uses i j
Reaches-use uses i j edge = (j ∷ [], (edge, refl))

pub Reaches-self : (uses : List (List ℕ)) (i : ℕ) → Reaches uses i i
Reaches-self uses i = ([], refl)

-- ---- simulation

-- where each use by a new node that stands over an old one stands over something that the old one reaches,
-- so does each new node that is reached
module _ (from to : List (List ℕ)) (Over : ℕ → ℕ → Type 0)
    (step : (i i' j' : ℕ) → Over i i' → Contains (direct to i') j' → (j : ℕ) × Over j j' × Reaches from i j) where
  lifted_path : (i i' : ℕ) (path : List ℕ) (j' : ℕ) → Over i i' → IsPath to i' path j' → (j : ℕ) × Over j j' × Reaches from i j
  lifted_path i i' [] j' over same = (i, subst (Over i) same over, Reaches-self from i)
  lifted_path i i' (k' ∷ path) j' over leads =
      let one = step i i' k' over leads.0 in
      let rest = lifted_path one.0 k' path j' one.1 leads.1 in
      (rest.0, rest.1, Reaches-join from i one.0 rest.0 one.2 rest.2)

  pub lifted : (i i' j' : ℕ) → Over i i' → Reaches to i' j' → (j : ℕ) × Over j j' × Reaches from i j
  lifted i i' j' over reaches = lifted_path i i' reaches.0 j' over reaches.1

-- ---- growth

-- every use by one of the old nodes is a use that was there; a later node has a rank, and uses old nodes or
-- later ones of smaller rank
pub record GrowsByRank (Rank : ℕ → ℕ → Type 0) (old rows : List (List ℕ)) : Type 0 where
  pub in_range : (i : ℕ) → All (λ j. j < length rows) (direct rows i)
  pub stays : (i j : ℕ) → i < length old → Contains (direct rows i) j → Contains (direct old i) j
  pub ranked : (i : ℕ) → length old ≤ i → (j : ℕ) → Contains (direct rows i) j → (r : ℕ) × Rank i r
  pub down : (i r j : ℕ) → length old ≤ i → Rank i r → Contains (direct rows i) j
      → (j < length old) ⊎ ((s : ℕ) × Rank j s × (s < r))

module _ (Rank : ℕ → ℕ → Type 0) (old rows : List (List ℕ)) (acyclic : IsAcyclic old) (grows : GrowsByRank Rank old rows) where
  old_path : (i : ℕ) (path : List ℕ) (j : ℕ) → i < length old → IsPath rows i path j → IsPath old i path j × (j < length old)
  old_path i [] j within same = (same, subst (λ (x : ℕ). x < length old) same within)
  old_path i (k ∷ path) j within leads =
      let edge = grows.stays i k within leads.0 in
      let rest = old_path k path j (All-contains (λ x. x < length old) (direct old i) k (acyclic.in_range i) edge) leads.1 in
      ((edge, rest.0), rest.1)

  goes_down : (i r k : ℕ) (path : List ℕ) (j : ℕ) → length old ≤ i → length old ≤ j → Rank i r → IsPath rows i (k ∷ path) j → (s : ℕ) × Rank j s × (s < r)
  goes_down i r k path j new_i new_j rank leads =
      elim (grows.down i r k new_i rank leads.0) [
        | inl before ↦ let end : j < length old = (old_path k path j before leads.1).1 in absurd (omega arith)
        | inr lower ↦ on k lower.0 path lower.1 lower.2 leads.1
      ]
    where
      on : (k s : ℕ) (path : List ℕ) → Rank k s → s < r → IsPath rows k path j → (t : ℕ) × Rank j t × (t < r)
      on k s [] here below same = (s, subst (λ (x : ℕ). Rank x s) same here, below)
      on k s (l ∷ path) here below leads =
          elim (cases_lt k (length old)) [
            | inl before ↦ let end : j < length old = (old_path k (l ∷ path) j before leads).1 in absurd (omega arith)
            | inr past ↦
                elim (grows.down k s l past here leads.0) [
                  | inl before ↦ let end : j < length old = (old_path l path j before leads.1).1 in absurd (omega arith)
                  | inr lower ↦ let less = lower.2 in on l lower.0 path lower.1 (omega arith) leads.1
                ]
          ]

  no_cycle_below : (n i r k : ℕ) (path : List ℕ) → r < n → length old ≤ i → Rank i r → IsPath rows i (k ∷ path) i → ⊥
  no_cycle_below zero i r k path below new rank leads = omega arith
  no_cycle_below (suc n) i r k path below new rank leads =
      let lower = goes_down i r k path i new new rank leads in
      let less = lower.2 in
      no_cycle_below n i lower.0 k path (omega arith) new lower.1 leads

  no_cycle : (i k : ℕ) (path : List ℕ) → IsPath rows i (k ∷ path) i → ⊥
  no_cycle i k path leads =
      elim (cases_lt i (length old)) [
        | inl before ↦ acyclic.no_cycle i k path (old_path i (k ∷ path) i before leads).0
        | inr past ↦ let rank = grows.ranked i past k leads.0 in no_cycle_below (suc rank.0) i rank.0 k path (omega arith) past rank.1 leads
      ]

  -- rows that grow so stay acyclic
  pub IsAcyclic-grown : IsAcyclic rows
  IsAcyclic-grown = record { in_range = grows.in_range; no_cycle = no_cycle }

-- ---- ranks

within_flat_map : (f : ℕ → List ℕ) (xs : List ℕ) (x : ℕ) → Contains xs x → length (f x) ≤ length (flat_map f xs)
within_flat_map f [] x has = absurd (Contains-nil has)
within_flat_map f (z ∷ xs) x has =
    elim (Contains-cons_cases z x xs has) [
      | inl same ↦ subst (λ (y : ℕ). length (f y) ≤ length (flat_map f (z ∷ xs))) same (omega (arith, length-append (f z) (flat_map f xs)))
      | inr there ↦ let rest = within_flat_map f xs x there in omega (arith, length-append (f z) (flat_map f xs), rest)
    ]

-- in an acyclic relation the length of a node's walk is a rank: what it uses has a shorter walk
pub post_order_shorter : (uses : List (List ℕ)) → IsAcyclic uses → (i j : ℕ) → i < length uses → Contains (direct uses i) j → length (post_order uses j) < length (post_order uses i)
post_order_shorter uses acyclic i j here edge =
    let whole : length (post_order uses i) ≡ length (flat_map (post_order uses) (direct uses i) ++ i ∷ []) = ap length (post_order_is uses acyclic i here) in
    let part = within_flat_map (post_order uses) (direct uses i) j edge in
    omega (arith, whole, part, length-append (flat_map (post_order uses) (direct uses i)) (i ∷ []))
