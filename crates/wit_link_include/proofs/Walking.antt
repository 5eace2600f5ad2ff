-- A walk by steps into types and out of them: what it has left is walks, and what was left comes after all that it
-- refers to.
use Rattle.std.proofs.Common.{◌≡◌, ◌∙◌, ℕ, ◌+◌, ◌*◌, ◌<◌, List, [], ◌∷◌, ◌++◌, ◌⊎◌, inl, inr, map, length, Contains, get_or, refl, sym, ap, subst, arith, append_assoc, length-append}
use Rattle.std.specs.List.{flat_map}
use Rattle.std.proofs.lemmas.List.{append-nil}
use Rattle.std.proofs.lemmas.List.Elements.{All-contains, Contains-append_left, Contains-append_right, Contains-append_cases, Contains-get_or, Contains-push}
use Rattle.wit_digraph.specs.facts.MemberFacts.{Contains-cons_cases, Contains-flat_map, Contains-flat_map_cases, Contains-here, Contains-nil, Contains-there}
use Rattle.wit_digraph.specs.Relation.{IsAcyclic, IsPath, direct}
use Rattle.wit_digraph.specs.facts.PostOrderFacts.{Contains-post_order_end, Reaches-from_post_order, UsesFirst-append, UsesFirst-post_order, UsesFirst-wider, post_order_is}
use Rattle.wit_digraph.specs.PostOrder.{post_order}
use Rattle.wit_digraph.specs.steps.PostOrder.{UsesFirst}
use Rattle.wit_link_include.specs.declared.leading.Step.{Step}
use Rattle.wit_link_include.specs.declared.leading.Step.TheVariants as step

one_of : {X : Type 0} (x y : X) → Contains (x ∷ []) y → x ≡ y
one_of x y has = elim (Contains-cons_cases x y [] has) [ inl same ↦ same | inr none ↦ absurd (Contains-nil none) ]

UsesFirst-right : (uses : List (List ℕ)) (xs ys seen : List ℕ) → UsesFirst uses seen (xs ++ ys) → UsesFirst uses (seen ++ xs) ys
UsesFirst-right uses [] ys seen first = subst (λ (s : List ℕ). UsesFirst uses s ys) (sym (append-nil seen)) first
UsesFirst-right uses (x ∷ xs) ys seen first =
    subst (λ (s : List ℕ). UsesFirst uses s ys) (append_assoc seen (x ∷ []) xs) (UsesFirst-right uses xs ys (seen ++ x ∷ []) first.1)

-- the type that a step is of
abbrev pub step_type : Step → ℕ
step_type (step.Enter t) = t
step_type (step.Leave t) = t

module _ (rows : List (List ℕ)) where
  -- what a step still has to list
  abbrev pub left_step : Step → List ℕ
  left_step (step.Enter t) = post_order rows t
  left_step (step.Leave t) = t ∷ []

  -- what a stack still has to list, its last step first
  abbrev pub left_of : List Step → List ℕ
  left_of [] = []
  left_of (s ∷ above) = left_of above ++ left_step s

  left_of-append : (below above : List Step) → left_of (below ++ above) ≡ left_of above ++ left_of below
  left_of-append [] above = sym (append-nil (left_of above))
  left_of-append (s ∷ below) above = ap (λ (w : List ℕ). w ++ left_step s) (left_of-append below above) ∙ append_assoc (left_of above) (left_of below) (left_step s)

  left_of-push : (below : List Step) (s : Step) → left_of (below ++ s ∷ []) ≡ left_step s ++ left_of below
  left_of-push below s = left_of-append below (s ∷ [])

  -- ---- how many turns are left at most
  abbrev pub step_turns : Step → ℕ
  step_turns (step.Enter t) = 2 * length (post_order rows t)
  step_turns (step.Leave t) = 1

  abbrev pub turns : List Step → ℕ
  turns [] = 0
  turns (s ∷ above) = step_turns s + turns above

  turns-append : (below above : List Step) → turns (below ++ above) ≡ turns below + turns above
  turns-append [] above = omega arith
  turns-append (s ∷ below) above = let rest = turns-append below above in omega arith

  turns-enters : (us : List ℕ) → turns (map step.Enter us) ≡ 2 * length (flat_map (post_order rows) us)
  turns-enters [] = refl
  turns-enters (u ∷ us) = let rest = turns-enters us in let long = length-append (post_order rows u) (flat_map (post_order rows) us) in omega arith

  -- ---- what steps into types have left
  enters_in : (us : List ℕ) (u x : ℕ) → Contains us u → Contains (post_order rows u) x → Contains (left_of (map step.Enter us)) x
  enters_in [] u x has on = absurd (Contains-nil has)
  enters_in (v ∷ us) u x has on =
      elim (Contains-cons_cases v u us has) [
        | inl same ↦ Contains-append_right (left_of (map step.Enter us)) (post_order rows v) x (subst (λ (w : ℕ). Contains (post_order rows w) x) (sym same) on)
        | inr there ↦ Contains-append_left (left_of (map step.Enter us)) (post_order rows v) x (enters_in us u x there on)
      ]

  pub enters_from : (us : List ℕ) (x : ℕ) → Contains (left_of (map step.Enter us)) x → Contains (flat_map (post_order rows) us) x
  enters_from [] x has = absurd (Contains-nil has)
  enters_from (v ∷ us) x has =
      elim (Contains-append_cases (left_of (map step.Enter us)) (post_order rows v) x has) [
        | inl there ↦ Contains-append_right (post_order rows v) (flat_map (post_order rows) us) x (enters_from us x there)
        | inr here ↦ Contains-append_left (post_order rows v) (flat_map (post_order rows) us) x here
      ]

  pub enters_to : (us : List ℕ) (x : ℕ) → Contains (flat_map (post_order rows) us) x → Contains (left_of (map step.Enter us)) x
  enters_to us x has = let part = Contains-flat_map_cases (post_order rows) us x has in enters_in us part.0 x part.1.0 part.1.1

  pub enters_types : (us : List ℕ) (s : Step) → Contains (map step.Enter us) s → Contains us (step_type s)
  enters_types [] s has = absurd (Contains-nil has)
  enters_types (u ∷ us) s has =
      elim (Contains-cons_cases (step.Enter u) s (map step.Enter us) has) [
        | inl same ↦ subst (λ (x : ℕ). Contains (u ∷ us) x) (ap step_type same) (Contains-here u us)
        | inr there ↦ Contains-there u (step_type s) us (enters_types us s there)
      ]

  module _ (acyclic : IsAcyclic rows) where
    enters_first : (us seen : List ℕ) → ((u : ℕ) → Contains us u → u < length rows) → UsesFirst rows seen (left_of (map step.Enter us))
    enters_first [] seen within = tt
    enters_first (u ∷ us) seen within =
        UsesFirst-append rows (left_of (map step.Enter us)) (post_order rows u) seen
        (enters_first us seen (λ v has. within v (Contains-there u v us has)))
        (UsesFirst-post_order rows acyclic u (within u (Contains-here u us)) (seen ++ left_of (map step.Enter us)))

-- the post-order of some roots while it runs: what it has listed, and the stack
pub record IsWalking (rows : List (List ℕ)) (roots keys : List ℕ) (stack : List Step) : Type 0 where
  pub in_range : (s : Step) → Contains stack s → step_type s < length rows
  pub first : UsesFirst rows keys (left_of rows stack)
  pub closed : (t u : ℕ) → Contains keys t → Contains (direct rows t) u → Contains keys u
  pub within : (t : ℕ) → Contains keys t ⊎ Contains (left_of rows stack) t → Contains (flat_map (post_order rows) roots) t
  pub all : (t : ℕ) → Contains (flat_map (post_order rows) roots) t → Contains keys t ⊎ Contains (left_of rows stack) t

module _ (rows : List (List ℕ)) (acyclic : IsAcyclic rows) (roots : List ℕ) where
  pub walk_begun : ((t : ℕ) → Contains roots t → t < length rows) → IsWalking rows roots [] (map step.Enter roots)
  walk_begun there = record {
    in_range = λ s has. there (step_type s) (enters_types rows roots s has);
    first = enters_first rows acyclic roots [] there;
    closed = λ t u has edge. absurd (Contains-nil has);
    within = λ t has. elim has [ inl none ↦ absurd (Contains-nil none) | inr on ↦ enters_from rows roots t on ];
    all = λ t has. inr (enters_to rows roots t has);
  }

  module _ (keys : List ℕ) (below : List Step) (t : ℕ) where
    module _ (now : IsWalking rows roots keys (below ++ step.Enter t ∷ [])) where
      pub enter_there : t < length rows
      enter_there = now.in_range (step.Enter t) (Contains-push below (step.Enter t))

      left_is : left_of rows (below ++ step.Enter t ∷ []) ≡ post_order rows t ++ left_of rows below
      left_is = left_of-push rows below (step.Enter t)

      first_is : UsesFirst rows keys (post_order rows t ++ left_of rows below)
      first_is = subst (UsesFirst rows keys) left_is now.first

      walk_length : length (post_order rows t) ≡ length (flat_map (post_order rows) (direct rows t)) + 1
      walk_length = ap length (post_order_is rows acyclic t enter_there) ∙ length-append (flat_map (post_order rows) (direct rows t)) (t ∷ [])

      on_path : (i : ℕ) (path : List ℕ) (j : ℕ) → Contains keys i → IsPath rows i path j → Contains keys j
      on_path i [] j has same = subst (λ (k : ℕ). Contains keys k) same has
      on_path i (k ∷ path) j has leads = on_path k path j (now.closed i k has leads.0) leads.1

      -- the type is listed: nothing of its walk is left
      pub enter_known : Contains keys t → IsWalking rows roots keys below
      enter_known known =
          let listed : (x : ℕ) → Contains (post_order rows t) x → Contains keys x = λ x on.
          let leads = Reaches-from_post_order rows acyclic t enter_there x on in on_path t leads.0 x known leads.1 in
          record {
            in_range = λ s has. now.in_range s (Contains-append_left below (step.Enter t ∷ []) s has);
            first = UsesFirst-wider rows (left_of rows below) (keys ++ post_order rows t) keys
                (λ j has. elim (Contains-append_cases keys (post_order rows t) j has) [ inl old ↦ old | inr on ↦ listed j on ])
                (UsesFirst-right rows (post_order rows t) (left_of rows below) keys first_is);
            closed = now.closed;
            within = λ x has. elim has [
              | inl old ↦ now.within x (inl old)
              | inr on ↦ now.within x (inr (subst (λ (w : List ℕ). Contains w x) (sym left_is) (Contains-append_right (post_order rows t) (left_of rows below) x on)))
            ];
            all = λ x has. elim (now.all x has) [
              | inl old ↦ inl old
              | inr on ↦ elim (Contains-append_cases (post_order rows t) (left_of rows below) x (subst (λ (w : List ℕ). Contains w x) left_is on)) [
                | inl here ↦ inl (listed x here)
                | inr later ↦ inr later
              ]
            ];
          }

      pub fewer_known : turns rows below < turns rows (below ++ step.Enter t ∷ [])
      fewer_known = let all = turns-append rows below (step.Enter t ∷ []) in let long = walk_length in omega arith

      -- the type is entered: what it refers to comes before it
      abbrev entered : List Step
      entered = (below ++ step.Leave t ∷ []) ++ map step.Enter (direct rows t)

      entered_left : left_of rows entered ≡ left_of rows (map step.Enter (direct rows t)) ++ (t ∷ left_of rows below)
      entered_left =
          left_of-append rows (below ++ step.Leave t ∷ []) (map step.Enter (direct rows t))
          ∙ ap (λ (w : List ℕ). left_of rows (map step.Enter (direct rows t)) ++ w) (left_of-push rows below (step.Leave t))

      row_within : (u : ℕ) → Contains (direct rows t) u → u < length rows
      row_within u has = All-contains (λ j. j < length rows) (direct rows t) u (acyclic.in_range t) has

      -- what is left stays the same
      same_left : (x : ℕ) → Contains (left_of rows entered) x → Contains (left_of rows (below ++ step.Enter t ∷ [])) x
      same_left x has =
          subst (λ (w : List ℕ). Contains w x) (sym left_is)
          (elim (Contains-append_cases (left_of rows (map step.Enter (direct rows t))) (t ∷ left_of rows below) x (subst (λ (w : List ℕ). Contains w x) entered_left has)) [
            | inl under ↦ Contains-append_left (post_order rows t) (left_of rows below) x
                (subst (λ (w : List ℕ). Contains w x) (sym (post_order_is rows acyclic t enter_there)) (Contains-append_left (flat_map (post_order rows) (direct rows t)) (t ∷ []) x (enters_from rows (direct rows t) x under)))
            | inr more ↦ elim (Contains-cons_cases t x (left_of rows below) more) [
              | inl same ↦ Contains-append_left (post_order rows t) (left_of rows below) x (subst (λ (k : ℕ). Contains (post_order rows t) k) same (Contains-post_order_end rows acyclic t enter_there))
              | inr later ↦ Contains-append_right (post_order rows t) (left_of rows below) x later
            ]
          ])

      still_left : (x : ℕ) → Contains (left_of rows (below ++ step.Enter t ∷ [])) x → Contains (left_of rows entered) x
      still_left x has =
          subst (λ (w : List ℕ). Contains w x) (sym entered_left)
          (elim (Contains-append_cases (post_order rows t) (left_of rows below) x (subst (λ (w : List ℕ). Contains w x) left_is has)) [
            | inl on ↦ elim (Contains-append_cases (flat_map (post_order rows) (direct rows t)) (t ∷ []) x (subst (λ (w : List ℕ). Contains w x) (post_order_is rows acyclic t enter_there) on)) [
              | inl under ↦ Contains-append_left (left_of rows (map step.Enter (direct rows t))) (t ∷ left_of rows below) x (enters_to rows (direct rows t) x under)
              | inr last ↦ Contains-append_right (left_of rows (map step.Enter (direct rows t))) (t ∷ left_of rows below) x
                  (subst (λ (k : ℕ). Contains (t ∷ left_of rows below) k) (one_of t x last) (Contains-here t (left_of rows below)))
            ]
            | inr later ↦ Contains-append_right (left_of rows (map step.Enter (direct rows t))) (t ∷ left_of rows below) x (Contains-there t x (left_of rows below) later)
          ])

      pub enter_new : IsWalking rows roots keys entered
      enter_new =
          let uses : List ℕ = left_of rows (map step.Enter (direct rows t)) in
          record {
            in_range = λ s has. elim (Contains-append_cases (below ++ step.Leave t ∷ []) (map step.Enter (direct rows t)) s has) [
              | inl old ↦ elim (Contains-append_cases below (step.Leave t ∷ []) s old) [
                | inl under ↦ now.in_range s (Contains-append_left below (step.Enter t ∷ []) s under)
                | inr last ↦ subst (λ (r : Step). step_type r < length rows) (one_of (step.Leave t) s last) enter_there
              ]
              | inr new ↦ row_within (step_type s) (enters_types rows (direct rows t) s new)
            ];
            first = subst (UsesFirst rows keys) (sym entered_left)
                (UsesFirst-append rows uses (t ∷ left_of rows below) keys (enters_first rows acyclic (direct rows t) keys row_within) (
                  λ k d under. Contains-append_right keys uses (get_or (direct rows t) k d)
                      (let has : Contains (direct rows t) (get_or (direct rows t) k d) = Contains-get_or (direct rows t) k d under in
                      enters_to rows (direct rows t) (get_or (direct rows t) k d)
                      (Contains-flat_map (post_order rows) (direct rows t) (get_or (direct rows t) k d) (get_or (direct rows t) k d) has (Contains-post_order_end rows acyclic (get_or (direct rows t) k d) (row_within (get_or (direct rows t) k d) has)))),
                  UsesFirst-wider rows (left_of rows below) (keys ++ post_order rows t) ((keys ++ uses) ++ t ∷ [])
                      (λ j has. elim (Contains-append_cases keys (post_order rows t) j has) [
                        | inl old ↦ Contains-append_left (keys ++ uses) (t ∷ []) j (Contains-append_left keys uses j old)
                        | inr on ↦ elim (Contains-append_cases (flat_map (post_order rows) (direct rows t)) (t ∷ []) j (subst (λ (w : List ℕ). Contains w j) (post_order_is rows acyclic t enter_there) on)) [
                          | inl under ↦ Contains-append_left (keys ++ uses) (t ∷ []) j (Contains-append_right keys uses j (enters_to rows (direct rows t) j under))
                          | inr last ↦ Contains-append_right (keys ++ uses) (t ∷ []) j last
                        ]
                      ])
                      (UsesFirst-right rows (post_order rows t) (left_of rows below) keys first_is),
                ));
            closed = now.closed;
            within = λ x has. elim has [ inl old ↦ now.within x (inl old) | inr on ↦ now.within x (inr (same_left x on)) ];
            all = λ x has. elim (now.all x has) [ inl old ↦ inl old | inr on ↦ inr (still_left x on) ];
          }

      pub fewer_new : turns rows entered < turns rows (below ++ step.Enter t ∷ [])
      fewer_new =
          let all = turns-append rows below (step.Enter t ∷ []) in
          let one = turns-append rows (below ++ step.Leave t ∷ []) (map step.Enter (direct rows t)) in
          let two = turns-append rows below (step.Leave t ∷ []) in
          let three = turns-enters rows (direct rows t) in
          let long = walk_length in
          omega arith

    module _ (now : IsWalking rows roots keys (below ++ step.Leave t ∷ [])) where
      pub leave_there : t < length rows
      leave_there = now.in_range (step.Leave t) (Contains-push below (step.Leave t))

      last_is : left_of rows (below ++ step.Leave t ∷ []) ≡ t ∷ left_of rows below
      last_is = left_of-push rows below (step.Leave t)

      last_first : UsesFirst rows keys (t ∷ left_of rows below)
      last_first = subst (UsesFirst rows keys) last_is now.first

      -- all that a type refers to is listed when it is left
      pub leave_uses : (u : ℕ) → Contains (direct rows t) u → Contains keys u
      leave_uses u has = All-contains (Contains keys) (direct rows t) u last_first.0 has

      -- it is listed then
      pub leave_step : (more : List ℕ) → ((x : ℕ) → Contains more x → Contains keys x ⊎ (x ≡ t)) → ((x : ℕ) → Contains keys x → Contains more x) → Contains more t
          → IsWalking rows roots more below
      leave_step more from kept new = record {
        in_range = λ s has. now.in_range s (Contains-append_left below (step.Leave t ∷ []) s has);
        first = UsesFirst-wider rows (left_of rows below) (keys ++ t ∷ []) more
            (λ j has. elim (Contains-append_cases keys (t ∷ []) j has) [ inl old ↦ kept j old | inr last ↦ subst (λ (k : ℕ). Contains more k) (one_of t j last) new ])
            last_first.1;
        closed = λ x u has edge. elim (from x has) [
          | inl old ↦ kept u (now.closed x u old edge)
          | inr same ↦ kept u (leave_uses u (subst (λ (k : ℕ). Contains (direct rows k) u) same edge))
        ];
        within = λ x has. elim has [
          | inl there ↦ elim (from x there) [
            | inl old ↦ now.within x (inl old)
            | inr same ↦ now.within x (inr (subst (λ (w : List ℕ). Contains w x) (sym last_is) (subst (λ (k : ℕ). Contains (t ∷ left_of rows below) k) (sym same) (Contains-here t (left_of rows below)))))
          ]
          | inr later ↦ now.within x (inr (subst (λ (w : List ℕ). Contains w x) (sym last_is) (Contains-there t x (left_of rows below) later)))
        ];
        all = λ x has. elim (now.all x has) [
          | inl old ↦ inl (kept x old)
          | inr on ↦ elim (Contains-cons_cases t x (left_of rows below) (subst (λ (w : List ℕ). Contains w x) last_is on)) [
            | inl same ↦ inl (subst (λ (k : ℕ). Contains more k) same new)
            | inr later ↦ inr later
          ]
        ];
      }

      pub fewer_left : turns rows below < turns rows (below ++ step.Leave t ∷ [])
      fewer_left = let all = turns-append rows below (step.Leave t ∷ []) in omega arith

  -- at the end
  module _ (keys : List ℕ) (done : IsWalking rows roots keys []) where
    pub done_within : (t : ℕ) → Contains keys t → Contains (flat_map (post_order rows) roots) t
    done_within t has = done.within t (inl has)

    pub done_all : (t : ℕ) → Contains (flat_map (post_order rows) roots) t → Contains keys t
    done_all t has = elim (done.all t has) [ inl old ↦ old | inr none ↦ absurd (Contains-nil none) ]
