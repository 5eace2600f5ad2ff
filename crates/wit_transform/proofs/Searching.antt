-- The turns of a search for the nodes of a cycle: it goes from a node along uses until it comes back to it.
use Rattle.std.proofs.Common.{◌≡◌, ◌∙◌, ◌⊎◌, inl, inr, ℕ, zero, suc, ◌<◌, ◌≤◌, ◌+◌, ◌-◌, Bool, true, false, Some, List, [], ◌∷◌, ◌++◌, length, map, replicate, refl, sym, ap, subst, get_or, set, arith, All, Contains, Result, Ok, Err}
use Rattle.std.specs.Prelude.{IfOk}
use Rattle.std.proofs.lemmas.Bool.{cases_eq, cases_lt}
use Rattle.std.proofs.lemmas.List.{get_or-set_same, get_or-set_other, get_or_default, length-set}
use Rattle.std.proofs.lemmas.List.Elements.{All-nil, All-pop, All-push, Contains-append_cases, Contains-append_left, Contains-get_or, Contains-push}
use Rattle.wit_digraph.specs.Cycles.{IsOnCycle}
use Rattle.wit_digraph.specs.facts.MemberFacts.{Contains-nil, Contains-here, Contains-cons_cases}
use Rattle.wit_digraph.specs.Relation.{direct, IsInRange, IsPath}
use Rattle.wit_transform.specs.steps.Reasons.{IsRound}
use Rattle.wit_transform.specs.declared.round.Frame.{Frame}

abbrev node_of : Frame → ℕ
node_of f = f.node

-- ---- the way

module _ (uses : List (List ℕ)) where
  -- the nodes of the frames lead on from i, each a use of the one before
  abbrev pub LeadsOn : ℕ → List Frame → Type 0
  LeadsOn i [] = Unit {0}
  LeadsOn i (f ∷ above) = Contains (direct uses i) f.node × LeadsOn f.node above

  -- the first frame is of this node, and the others lead on from it
  abbrev pub IsWay : ℕ → List Frame → Type 0
  IsWay node [] = Unit {0}
  IsWay node (f ∷ above) = (f.node ≡ node) × LeadsOn f.node above

  leads_popped : (i : ℕ) (s : List Frame) (f : Frame) → LeadsOn i (s ++ f ∷ []) → LeadsOn i s
  leads_popped i [] f leads = tt
  leads_popped i (h ∷ s) f leads = (leads.0, leads_popped h.node s f leads.1)

  way_popped : (node : ℕ) (s : List Frame) (f : Frame) → IsWay node (s ++ f ∷ []) → IsWay node s
  way_popped node [] f way = tt
  way_popped node (h ∷ s) f way = (way.0, leads_popped h.node s f way.1)

  leads_next : (i : ℕ) (s : List Frame) (f g : Frame) → g.node ≡ f.node → LeadsOn i (s ++ f ∷ []) → LeadsOn i (s ++ g ∷ [])
  leads_next i [] f g same leads = (subst (λ (x : ℕ). Contains (direct uses i) x) (sym same) leads.0, tt)
  leads_next i (h ∷ s) f g same leads = (leads.0, leads_next h.node s f g same leads.1)

  -- the last frame goes on
  way_next : (node : ℕ) (s : List Frame) (f g : Frame) → g.node ≡ f.node → IsWay node (s ++ f ∷ []) → IsWay node (s ++ g ∷ [])
  way_next node [] f g same way = (same ∙ way.0, tt)
  way_next node (h ∷ s) f g same way = (way.0, leads_next h.node s f g same way.1)

  leads_further : (i : ℕ) (s : List Frame) (g h : Frame) → Contains (direct uses g.node) h.node → LeadsOn i (s ++ g ∷ []) → LeadsOn i ((s ++ g ∷ []) ++ h ∷ [])
  leads_further i [] g h edge leads = (leads.0, (edge, tt))
  leads_further i (e ∷ s) g h edge leads = (leads.0, leads_further e.node s g h edge leads.1)

  -- one more stands on it
  way_further : (node : ℕ) (s : List Frame) (g h : Frame) → Contains (direct uses g.node) h.node → IsWay node (s ++ g ∷ []) → IsWay node ((s ++ g ∷ []) ++ h ∷ [])
  way_further node [] g h edge way = (way.0, (edge, tt))
  way_further node (e ∷ s) g h edge way = (way.0, leads_further e.node s g h edge way.1)

  leads_to : (i : ℕ) (s : List Frame) (g : Frame) (j : ℕ) → Contains (direct uses g.node) j → LeadsOn i (s ++ g ∷ []) → IsPath uses i (map node_of (s ++ g ∷ []) ++ j ∷ []) j
  leads_to i [] g j edge leads = (leads.0, (edge, refl))
  leads_to i (h ∷ s) g j edge leads = (leads.0, leads_to h.node s g j edge leads.1)

  -- where the last one uses the node, the way is a round
  pub way_round : (node : ℕ) (s : List Frame) (g : Frame) → Contains (direct uses g.node) node → IsWay node (s ++ g ∷ []) → IsRound uses (map node_of (s ++ g ∷ []))
  way_round node [] g edge way =
      let back : Contains (direct uses g.node) g.node = subst (λ (x : ℕ). Contains (direct uses g.node) x) (sym way.0) edge in
      record { first = g.node; others = []; nodes_are = refl; leads_back = (back, refl) }
  way_round node (h ∷ s) g edge way =
      let back : Contains (direct uses g.node) h.node = subst (λ (x : ℕ). Contains (direct uses g.node) x) (sym way.0) edge in
      record { first = h.node; others = map node_of (s ++ g ∷ []); nodes_are = refl; leads_back = leads_to h.node s g h.node back way.1 }

-- ---- what was seen

abbrev pub was_seen : List Bool → ℕ → Bool
was_seen seen i = get_or seen i false

-- the use at place k of node i is still to come
abbrev pub IsToCome : List Frame → ℕ → ℕ → Type 0
IsToCome stack i k = (f : Frame) × Contains stack f × (f.node ≡ i) × (f.next ≤ k)

-- a running search from a node: each use of what was seen was seen and isn't the node, or is still to come
pub record IsSearching (uses : List (List ℕ)) (node : ℕ) (seen : List Bool) (stack : List Frame) : Type 0 where
  pub way : IsWay uses node stack
  pub passed : (i k : ℕ) → was_seen seen i ≡ true → k < length (direct uses i)
      → ((was_seen seen (get_or (direct uses i) k 0) ≡ true) × (get_or (direct uses i) k 0 ≡ node → ⊥)) ⊎ IsToCome stack i k
  pub from : was_seen seen node ≡ true
  pub frames : All (λ f. f.node < length uses) stack
  pub long : length seen ≡ length uses

seen_stays : (seen : List Bool) (x i : ℕ) → x < length seen → was_seen seen i ≡ true → was_seen (set seen x true) i ≡ true
seen_stays seen x i inside was =
    elim (cases_eq i x) [
      | inl same ↦ rw same (get_or-set_same seen x true false inside)
      | inr apart ↦ get_or-set_other seen x i true false apart ∙ was
    ]

-- what is to come comes after the frame has gone on, but for the use that it came to
to_come_next : (s : List Frame) (f g : Frame) (i k : ℕ) → g.node ≡ f.node → g.next ≡ f.next + 1 → IsToCome (s ++ f ∷ []) i k → ((f.node ≡ i) × (f.next ≡ k)) ⊎ IsToCome (s ++ g ∷ []) i k
to_come_next s f g i k same next come =
    elim (Contains-append_cases s (f ∷ []) come.0 come.1) [
      | inl before ↦ inr (come.0, Contains-append_left s (g ∷ []) come.0 before, come.2, come.3)
      | inr last ↦ elim (Contains-cons_cases f come.0 [] last) [
        | inl is ↦
            let node : f.node ≡ i = ap node_of is ∙ come.2 in
            let place : f.next ≡ come.0.next = ap (λ (h : Frame). h.next) is in
            elim (cases_lt f.next k) [
              | inl below ↦ inr (g, Contains-push s g, same ∙ node, omega (arith, next, below))
              | inr reached ↦ let low = come.3 in inl (node, omega (arith, place, reached, low))
            ]
        | inr none ↦ absurd (Contains-nil none)
      ]
    ]

-- the frames of a stack, and its last
parted : (uses : List (List ℕ)) (s : List Frame) (f : Frame) → All (λ (g : Frame). g.node < length uses) (s ++ f ∷ []) → All (λ (g : Frame). g.node < length uses) s × (f.node < length uses)
parted uses s f frames = All-pop (λ (g : Frame). g.node < length uses) (s ++ f ∷ []) s (Some f) refl frames

module _ (uses : List (List ℕ)) (in_range : IsInRange uses) (node : ℕ) where
  -- the next use is the node
  pub found_round : (seen : List Bool) (s : List Frame) (f : Frame) (j : ℕ) → IsSearching uses node seen (s ++ f ∷ []) → f.next < length (direct uses f.node) → j ≡ get_or (direct uses f.node) f.next 0 → j ≡ node
      → IsRound uses (map node_of (s ++ record { node = f.node; next = f.next + 1 } ∷ []))
  found_round seen s f j is more at back =
      let g : Frame = record { node = f.node; next = f.next + 1 } in
      way_round uses node s g (subst (λ (x : ℕ). Contains (direct uses f.node) x) (sym at ∙ back) (Contains-get_or (direct uses f.node) f.next 0 more)) (way_next uses node s f g refl is.way)

  -- it was seen
  pub step_past : (seen : List Bool) (s : List Frame) (f : Frame) (j : ℕ) → IsSearching uses node seen (s ++ f ∷ []) → j ≡ get_or (direct uses f.node) f.next 0 → (j ≡ node → ⊥) → was_seen seen j ≡ true
      → IsSearching uses node seen (s ++ record { node = f.node; next = f.next + 1 } ∷ [])
  step_past seen s f j is at other was =
      let g : Frame = record { node = f.node; next = f.next + 1 } in
      let parts = parted uses s f is.frames in
      record {
        way = way_next uses node s f g refl is.way;
        passed = λ i k saw inside. elim (is.passed i k saw inside) [
          | inl done ↦ inl done
          | inr come ↦ elim (to_come_next s f g i k refl refl come) [
            | inl here ↦
                let one : j ≡ get_or (direct uses i) k 0 = at ∙ ap (λ (x : ℕ). get_or (direct uses x) f.next 0) here.0 ∙ ap (λ (x : ℕ). get_or (direct uses i) x 0) here.1 in
                inl (subst (λ (x : ℕ). was_seen seen x ≡ true) one was, λ back. other (one ∙ back))
            | inr later ↦ inr later
          ]
        ];
        from = is.from;
        frames = All-push (λ (h : Frame). h.node < length uses) s g parts.0 parts.1;
        long = is.long;
      }

  -- it was not seen: the search goes on from it
  pub step_into : (seen : List Bool) (s : List Frame) (f : Frame) (j : ℕ) → IsSearching uses node seen (s ++ f ∷ []) → f.next < length (direct uses f.node) → j ≡ get_or (direct uses f.node) f.next 0 → (j ≡ node → ⊥)
      → IsSearching uses node (set seen j true) ((s ++ record { node = f.node; next = f.next + 1 } ∷ []) ++ record { node = j; next = 0 } ∷ [])
  step_into seen s f j is more at other =
      let g : Frame = record { node = f.node; next = f.next + 1 } in
      let h : Frame = record { node = j; next = 0 } in
      let parts = parted uses s f is.frames in
      let there : j < length uses = rw at (in_range f.node f.next 0 more) in
      let inside : j < length seen = let long = is.long in omega (arith, there, long) in
      record {
        way = way_further uses node s g h (subst (λ (x : ℕ). Contains (direct uses f.node) x) (sym at) (Contains-get_or (direct uses f.node) f.next 0 more)) (way_next uses node s f g refl is.way);
        passed = λ i k saw within. elim (cases_eq i j) [
          | inl same ↦ inr (h, Contains-push (s ++ g ∷ []) h, sym same, omega arith)
          | inr apart ↦ elim (is.passed i k (sym (get_or-set_other seen j i true false apart) ∙ saw) within) [
            | inl done ↦ inl (seen_stays seen j (get_or (direct uses i) k 0) inside done.0, done.1)
            | inr come ↦ elim (to_come_next s f g i k refl refl come) [
              | inl here ↦
                  let one : j ≡ get_or (direct uses i) k 0 = at ∙ ap (λ (x : ℕ). get_or (direct uses x) f.next 0) here.0 ∙ ap (λ (x : ℕ). get_or (direct uses i) x 0) here.1 in
                  inl (subst (λ (x : ℕ). was_seen (set seen j true) x ≡ true) one (get_or-set_same seen j true false inside), λ back. other (one ∙ back))
              | inr later ↦ inr (later.0, Contains-append_left (s ++ g ∷ []) (h ∷ []) later.0 later.1, later.2, later.3)
            ]
          ]
        ];
        from = seen_stays seen j node inside is.from;
        frames = All-push (λ (e : Frame). e.node < length uses) (s ++ g ∷ []) h (All-push (λ (e : Frame). e.node < length uses) s g parts.0 parts.1) there;
        long = length-set seen j true ∙ is.long;
      }

  -- the node has no use more
  pub step_left : (seen : List Bool) (s : List Frame) (f : Frame) → IsSearching uses node seen (s ++ f ∷ []) → length (direct uses f.node) ≤ f.next → IsSearching uses node seen s
  step_left seen s f is all =
      let parts = parted uses s f is.frames in
      record {
        way = way_popped uses node s f is.way;
        passed = λ i k saw inside. elim (is.passed i k saw inside) [
          | inl done ↦ inl done
          | inr come ↦ elim (Contains-append_cases s (f ∷ []) come.0 come.1) [
            | inl before ↦ inr (come.0, before, come.2, come.3)
            | inr last ↦ elim (Contains-cons_cases f come.0 [] last) [
              | inl is' ↦
                  let same : f.node ≡ i = ap node_of is' ∙ come.2 in
                  let place : f.next ≡ come.0.next = ap (λ (h : Frame). h.next) is' in
                  let short : length (direct uses i) ≤ f.next = subst (λ (x : ℕ). length (direct uses x) ≤ f.next) same all in
                  let low = come.3 in
                  absurd (omega (arith, inside, place, short, low))
              | inr none ↦ absurd (Contains-nil none)
            ]
          ]
        ];
        from = is.from;
        frames = parts.0;
        long = is.long;
      }

  -- with no frame left each use of what was seen was seen and isn't the node
  all_passed : (seen : List Bool) → IsSearching uses node seen [] → (i k : ℕ) → was_seen seen i ≡ true → Contains (direct uses i) k → (was_seen seen k ≡ true) × (k ≡ node → ⊥)
  all_passed seen is i k saw edge =
      let one : get_or (direct uses i) edge.0 0 ≡ k = get_or_default (direct uses i) edge.0 0 k edge.1 ∙ edge.2 in
      elim (is.passed i edge.0 saw edge.1) [
        | inl done ↦ (subst (λ (x : ℕ). was_seen seen x ≡ true) one done.0, λ back. done.1 (one ∙ back))
        | inr come ↦ absurd (Contains-nil come.1)
      ]

  -- so no way leads back to the node
  never_back : (seen : List Bool) → IsSearching uses node seen [] → (i k : ℕ) (path : List ℕ) → was_seen seen i ≡ true → IsPath uses i (k ∷ path) node → ⊥
  never_back seen is i k [] saw leads = (all_passed seen is i k saw leads.0).1 leads.1
  never_back seen is i k (l ∷ more) saw leads = never_back seen is k l more (all_passed seen is i k saw leads.0).0 leads.1

  pub end_search : (seen : List Bool) (stack : List Frame) (used : ℕ) → IsSearching uses node seen stack → stack ≡ [] → IsOnCycle uses node used → ⊥
  end_search seen stack used is none on =
      let last : IsSearching uses node seen [] = subst (λ (s : List Frame). IsSearching uses node seen s) none is in
      never_back seen last node used on.leads_back.0 last.from (on.is_used, on.leads_back.1)

  -- the search begins with the node
  pub start_search : (seen : List Bool) → length seen ≡ length uses → node < length uses → ((i : ℕ) → was_seen seen i ≡ false)
      → IsSearching uses node (set seen node true) (record { node = node; next = 0 } ∷ [])
  start_search seen long there none =
      let f : Frame = record { node = node; next = 0 } in
      let inside : node < length seen = omega (arith, there, long) in
      record {
        way = (refl, tt);
        passed = λ i k saw within. elim (cases_eq i node) [
          | inl same ↦ inr (f, Contains-here f [], sym same, omega arith)
          | inr apart ↦
              let old : was_seen seen i ≡ true = sym (get_or-set_other seen node i true false apart) ∙ saw in
              let not : was_seen seen i ≡ false = none i in
              absurd (cc)
        ];
        from = get_or-set_same seen node true false inside;
        frames = All-push (λ (e : Frame). e.node < length uses) [] f (All-nil (λ (e : Frame). e.node < length uses)) there;
        long = length-set seen node true ∙ long;
      }

-- ---- the measure

-- the turns that a node takes from now on, without its frame, which was seen or not and has so many uses
abbrev pub turns_of : Bool → ℕ → ℕ
turns_of true uses = 0
turns_of false uses = uses + 1

-- the turns of the nodes that were not seen
unfoldable pub unseen_turns : List (List ℕ) → List Bool → ℕ
unseen_turns [] seen = 0
unseen_turns (row ∷ rows) [] = 0
unseen_turns (row ∷ rows) (b ∷ seen) = turns_of b (length row) + unseen_turns rows seen

-- the turns of the frames: one for each use that is left, and one to leave the node
unfoldable pub frame_turns : List (List ℕ) → List Frame → ℕ
frame_turns uses [] = 0
frame_turns uses (f ∷ above) = 1 + (length (direct uses f.node) - f.next) + frame_turns uses above

abbrev pub search_turns : List (List ℕ) → List Bool → List Frame → ℕ
search_turns uses seen stack = unseen_turns uses seen + frame_turns uses stack

frame_turns-push : (uses : List (List ℕ)) (s : List Frame) (f : Frame) → frame_turns uses (s ++ f ∷ []) ≡ frame_turns uses s + 1 + (length (direct uses f.node) - f.next)
unfolding frame_turns
frame_turns-push uses [] f = omega arith
frame_turns-push uses (g ∷ s) f = omega (arith, frame_turns-push uses s f)

unseen_turns-set : (rows : List (List ℕ)) (seen : List Bool) (i : ℕ) → length seen ≡ length rows → i < length rows → was_seen seen i ≡ false → unseen_turns rows (set seen i true) + length (direct rows i) + 1 ≡ unseen_turns rows seen
unfolding unseen_turns
unseen_turns-set [] seen i long inside unseen = absurd (omega (arith, inside))
unseen_turns-set (row ∷ rows) [] i long inside unseen = absurd (omega (arith, long))
unseen_turns-set (row ∷ rows) (b ∷ seen) zero long inside unseen = omega (arith, ap (λ n. turns_of n (length row)) unseen)
unseen_turns-set (row ∷ rows) (b ∷ seen) (suc i) long inside unseen = omega (arith, unseen_turns-set rows seen i (omega (arith, long)) (omega (arith, inside)) unseen)

pub turns_past : (uses : List (List ℕ)) (seen : List Bool) (s : List Frame) (f : Frame) → f.next < length (direct uses f.node) →
    search_turns uses seen (s ++ record { node = f.node; next = f.next + 1 } ∷ []) < search_turns uses seen (s ++ f ∷ [])
turns_past uses seen s f more = omega (arith, frame_turns-push uses s f, frame_turns-push uses s (record { node = f.node; next = f.next + 1 }))

pub turns_into : (uses : List (List ℕ)) → IsInRange uses → (seen : List Bool) → length seen ≡ length uses → (s : List Frame) (f : Frame) (j : ℕ) → f.next < length (direct uses f.node) → j ≡ get_or (direct uses f.node) f.next 0 → was_seen seen j ≡ false →
    search_turns uses (set seen j true) ((s ++ record { node = f.node; next = f.next + 1 } ∷ []) ++ record { node = j; next = 0 } ∷ []) < search_turns uses seen (s ++ f ∷ [])
turns_into uses in_range seen long s f j more at unseen =
    let there : j < length uses = rw at (in_range f.node f.next 0 more) in
    omega (
      arith,
      unseen_turns-set uses seen j long there unseen,
      frame_turns-push uses s f,
      frame_turns-push uses s (record { node = f.node; next = f.next + 1 }),
      frame_turns-push uses (s ++ record { node = f.node; next = f.next + 1 } ∷ []) (record { node = j; next = 0 }),
    )

pub turns_left : (uses : List (List ℕ)) (seen : List Bool) (s : List Frame) (f : Frame) → search_turns uses seen s < search_turns uses seen (s ++ f ∷ [])
turns_left uses seen s f = omega (arith, frame_turns-push uses s f)

-- ---- what is made

pub none_seen : (seen : List Bool) (n : ℕ) → seen ≡ replicate n false → (i : ℕ) → was_seen seen i ≡ false
none_seen seen n made i = ap (λ (s : List Bool). was_seen s i) made ∙ none n i
  where
    none : (n i : ℕ) → was_seen (replicate n false) i ≡ false
    none zero i = refl
    none (suc n) zero = refl
    none (suc n) (suc i) = none n i

pub round_of_nodes : (uses : List (List ℕ)) (s : List Frame) → IsRound uses (map node_of s) → {E : Type 0} (r : Result (List ℕ) E) → IfOk r (λ nodes. nodes ≡ map node_of s) → IfOk r (IsRound uses)
round_of_nodes uses s is (Ok nodes) made = subst (IsRound uses) (sym made) is
round_of_nodes uses s is (Err e) made = tt

-- a mark that is read
pub seen_read : (uses : List (List ℕ)) → IsInRange uses → (node : ℕ) (seen : List Bool) (s : List Frame) (f : Frame) (j : ℕ) (b : Bool) → IsSearching uses node seen (s ++ f ∷ []) → f.next < length (direct uses f.node) → j ≡ get_or (direct uses f.node) f.next 0
    → get_or seen j b ≡ b → b ≡ true → was_seen seen j ≡ true
seen_read uses in_range node seen s f j b is more at read on =
    let there : j < length uses = rw at (in_range f.node f.next 0 more) in
    let inside : j < length seen = let long = is.long in omega (arith, there, long) in
    get_or_default seen j false b inside ∙ read ∙ on
