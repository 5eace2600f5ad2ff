-- A search on a stack for something bad that is reached: what was met is no bad one, and all that it uses was met
-- or stands on the stack.
use Rattle.std.proofs.Common.{◌≡◌, ◌∙◌, ℕ, ◌<◌, ◌⊎◌, inl, inr, List, [], ◌∷◌, ◌++◌, length, ap, sym, subst, arith, Contains}
use Rattle.std.specs.List.{flat_map}
use Rattle.std.proofs.lemmas.Grind.{flat_map-append}
use Rattle.std.proofs.lemmas.List.{append-nil, length-append}
use Rattle.std.proofs.lemmas.List.Elements.{All-contains, Contains-append_cases, Contains-append_left, Contains-append_right, Contains-push}
use Rattle.wit_digraph.specs.facts.MemberFacts.{Contains-cons_cases, Contains-here, Contains-nil}
use Rattle.wit_digraph.specs.Relation.{IsAcyclic, IsPath, Reaches, direct}
use Rattle.wit_digraph.specs.facts.PostOrderFacts.{post_order_is}
use Rattle.wit_digraph.specs.PostOrder.{post_order}
use Rattle.wit_graph_theory.specs.facts.RowFacts.{Reaches-join, Reaches-self, Reaches-use}
use Rattle.wit_link_resources.specs.steps.Borrows.{AreFree}

-- something bad is reached
abbrev pub ReachesBad : List (List ℕ) → (ℕ → Type 0) → ℕ → Type 0
ReachesBad rows Bad t = (b : ℕ) × Reaches rows t b × Bad b

pub record IsSearching (rows : List (List ℕ)) (Bad : ℕ → Type 0) (root : ℕ) (met stack : List ℕ) : Type 0 where
  pub in_range : (t : ℕ) → Contains stack t → t < length rows
  pub reached : (t : ℕ) → Contains stack t → Reaches rows root t
  pub good : (t : ℕ) → Contains met t → Bad t → ⊥
  pub closed : (t u : ℕ) → Contains met t → Contains (direct rows t) u → Contains met u ⊎ Contains stack u
  pub begun : Contains met root ⊎ Contains stack root

one_of : (x y : ℕ) → Contains (x ∷ []) y → x ≡ y
one_of x y has = elim (Contains-cons_cases x y [] has) [ inl same ↦ same | inr none ↦ absurd (Contains-nil none) ]

module _ (rows : List (List ℕ)) (Bad : ℕ → Type 0) (acyclic : IsAcyclic rows) where
  -- at the beginning
  pub search-begun : (root : ℕ) (met : List ℕ) → root < length rows → AreFree rows Bad met → IsSearching rows Bad root met (root ∷ [])
  search-begun root met within free = record {
    in_range = λ t has. subst (λ (k : ℕ). k < length rows) (one_of root t has) within;
    reached = λ t has. subst (λ (k : ℕ). Reaches rows root k) (one_of root t has) (Reaches-self rows root);
    good = free.good;
    closed = λ t u has edge. inl (free.closed t u has edge);
    begun = inr (Contains-here root []);
  }

  module _ (root top : ℕ) (met rest : List ℕ) (now : IsSearching rows Bad root met (rest ++ top ∷ [])) where
    pub top_there : top < length rows
    top_there = now.in_range top (Contains-push rest top)

    pub top_reached : Reaches rows root top
    top_reached = now.reached top (Contains-push rest top)

    -- the top was met already
    left_or_met : (u : ℕ) → Contains met top → Contains (rest ++ top ∷ []) u → Contains met u ⊎ Contains rest u
    left_or_met u known has = elim (Contains-append_cases rest (top ∷ []) u has) [
      | inl under ↦ inr under
      | inr last ↦ inl (subst (λ (k : ℕ). Contains met k) (one_of top u last) known)
    ]

    pub search-known : Contains met top → IsSearching rows Bad root met rest
    search-known known = record {
      in_range = λ t has. now.in_range t (Contains-append_left rest (top ∷ []) t has);
      reached = λ t has. now.reached t (Contains-append_left rest (top ∷ []) t has);
      good = now.good;
      closed = λ t u has edge. elim (now.closed t u has edge) [ inl there ↦ inl there | inr on ↦ left_or_met u known on ];
      begun = elim now.begun [ inl there ↦ inl there | inr on ↦ left_or_met root known on ];
    }

    -- the top is bad
    pub search-bad : Bad top → ReachesBad rows Bad root
    search-bad bad = (top, top_reached, bad)

    -- the top is met now, and what it uses goes on the stack
    moved_on : (u : ℕ) → Contains (rest ++ top ∷ []) u → Contains (met ++ top ∷ []) u ⊎ Contains (rest ++ direct rows top) u
    moved_on u has = elim (Contains-append_cases rest (top ∷ []) u has) [
      | inl under ↦ inr (Contains-append_left rest (direct rows top) u under)
      | inr last ↦ inl (Contains-append_right met (top ∷ []) u last)
    ]

    wider : (u : ℕ) → Contains met u ⊎ Contains (rest ++ top ∷ []) u → Contains (met ++ top ∷ []) u ⊎ Contains (rest ++ direct rows top) u
    wider u (inl there) = inl (Contains-append_left met (top ∷ []) u there)
    wider u (inr on) = moved_on u on

    pub search-more : (Bad top → ⊥) → IsSearching rows Bad root (met ++ top ∷ []) (rest ++ direct rows top)
    search-more fine = record {
      in_range = λ t has. elim (Contains-append_cases rest (direct rows top) t has) [
        | inl under ↦ now.in_range t (Contains-append_left rest (top ∷ []) t under)
        | inr used ↦ All-contains (λ k. k < length rows) (direct rows top) t (acyclic.in_range top) used
      ];
      reached = λ t has. elim (Contains-append_cases rest (direct rows top) t has) [
        | inl under ↦ now.reached t (Contains-append_left rest (top ∷ []) t under)
        | inr used ↦ Reaches-join rows root top t top_reached (Reaches-use rows top t used)
      ];
      good = λ t has bad. elim (Contains-append_cases met (top ∷ []) t has) [
        | inl there ↦ now.good t there bad
        | inr last ↦ fine (subst Bad (sym (one_of top t last)) bad)
      ];
      closed = λ t u has edge. elim (Contains-append_cases met (top ∷ []) t has) [
        | inl there ↦ wider u (now.closed t u there edge)
        | inr last ↦ inr (Contains-append_right rest (direct rows top) u (subst (λ (k : ℕ). Contains (direct rows k) u) (sym (one_of top t last)) edge))
      ];
      begun = wider root now.begun;
    }

    -- both make the post-orders of the stack shorter
    whole_length : length (flat_map (post_order rows) (rest ++ top ∷ [])) ≡ length (flat_map (post_order rows) rest ++ post_order rows top)
    whole_length = ap length (flat_map-append (post_order rows) rest (top ∷ [])) ∙ ap (λ (w : List ℕ). length (flat_map (post_order rows) rest ++ w)) (append-nil (post_order rows top))

    top_length : length (post_order rows top) ≡ length (flat_map (post_order rows) (direct rows top) ++ top ∷ [])
    top_length = ap length (post_order_is rows acyclic top top_there)

    pub shorter-known : length (flat_map (post_order rows) rest) < length (flat_map (post_order rows) (rest ++ top ∷ []))
    shorter-known =
        let whole = whole_length in
        let of_top = top_length in
        let one = length-append (flat_map (post_order rows) rest) (post_order rows top) in
        let two = length-append (flat_map (post_order rows) (direct rows top)) (top ∷ []) in
        omega arith

    pub shorter-more : length (flat_map (post_order rows) (rest ++ direct rows top)) < length (flat_map (post_order rows) (rest ++ top ∷ []))
    shorter-more =
        let whole = whole_length in
        let of_top = top_length in
        let one = length-append (flat_map (post_order rows) rest) (post_order rows top) in
        let two = length-append (flat_map (post_order rows) (direct rows top)) (top ∷ []) in
        let three = ap length (flat_map-append (post_order rows) rest (direct rows top)) in
        let four = length-append (flat_map (post_order rows) rest) (flat_map (post_order rows) (direct rows top)) in
        omega arith

  -- at the end
  module _ (root : ℕ) (met : List ℕ) (done : IsSearching rows Bad root met []) where
    pub search-free : AreFree rows Bad met
    search-free = record {
      good = done.good;
      closed = λ t u has edge. elim (done.closed t u has edge) [ inl there ↦ there | inr none ↦ absurd (Contains-nil none) ];
    }

    met_on : (t : ℕ) (path : List ℕ) (u : ℕ) → Contains met t → IsPath rows t path u → Contains met u
    met_on t [] u has same = subst (λ (k : ℕ). Contains met k) same has
    met_on t (k ∷ path) u has leads = met_on k path u (search-free.closed t k has leads.0) leads.1

    pub search-none : ReachesBad rows Bad root → ⊥
    search-none bad =
        let root_met : Contains met root = elim done.begun [ inl there ↦ there | inr none ↦ absurd (Contains-nil none) ] in
        done.good bad.0 (met_on root bad.1.0 bad.0 root_met bad.1.1) bad.2
