-- What a stack of frames still has to walk, and the steps of the walk.
use Rattle.std.proofs.Common.{◌≡◌, ℕ, ◌<◌, ◌≤◌, ◌+◌, ◌-◌, ◌*◌, Some, List, [], ◌∷◌, ◌++◌, length, refl, sym, ◌∙◌, ap, get_or, take, drop, append_assoc, arith, Contains, All, length-append}
use Rattle.std.specs.List.{flat_map}
use Rattle.std.proofs.lemmas.List.{append-nil, length_push, take_more, drop_more, drop_all}
use Rattle.std.proofs.lemmas.List.Elements.{All-push, All-pop, All-nil}
use Rattle.std.proofs.lemmas.List.Concat.{flat_map-append}
use Rattle.wit_digraph.specs.facts.PostOrderFacts.{post_order_is, UsesFirst-append, UsesFirst-left, UsesFirst-post_order, UsesFirst-IsPath, Reaches-from_post_order, Contains-post_order_end}
use Rattle.wit_digraph.specs.facts.FreshFacts.{fresh-there, fresh-absent, fresh-append, fresh-all_seen, UsesFirst-fresh}
use Rattle.wit_digraph.specs.Relation.{direct, IsAcyclic}
use Rattle.wit_digraph.specs.PostOrder.{post_order, fresh, first_of_each}
use Rattle.wit_digraph.specs.steps.PostOrder.{UsesFirst}
use Rattle.wit_digraph.specs.declared.frame.Frame.{Frame}

-- what a frame still has to walk: the post-orders of its node's uses from the next one on, then the node
abbrev pub rest_of : List (List ℕ) → Frame → List ℕ
rest_of uses f = flat_map (post_order uses) (drop f.next (direct uses f.node)) ++ f.node ∷ []

-- what a stack still has to walk, its last frame first
abbrev pub left_of : List (List ℕ) → List Frame → List ℕ
left_of uses [] = []
left_of uses (f ∷ above) = left_of uses above ++ rest_of uses f

pub left_of-push : (uses : List (List ℕ)) (s : List Frame) (f : Frame) → left_of uses (s ++ f ∷ []) ≡ rest_of uses f ++ left_of uses s
left_of-push uses [] f = sym (append-nil (rest_of uses f))
left_of-push uses (g ∷ s) f = ap (λ xs. xs ++ rest_of uses g) (left_of-push uses s f) ∙ append_assoc (rest_of uses f) (left_of uses s) (rest_of uses g)

pub left_of-nil : (uses : List (List ℕ)) → left_of uses [] ≡ []
left_of-nil uses = refl

pub length-left_of : (uses : List (List ℕ)) (s : List Frame) → length s ≤ length (left_of uses s)
length-left_of uses [] = omega arith
length-left_of uses (f ∷ s) =
    omega (arith, length-left_of uses s, length-append (left_of uses s) (rest_of uses f), length-append (flat_map (post_order uses) (drop f.next (direct uses f.node))) (f.node ∷ []))

pub rest_of-next : (uses : List (List ℕ)) (i next j : ℕ) → next < length (direct uses i) → j ≡ get_or (direct uses i) next 0 →
    rest_of uses (record { node = i; next = next }) ≡ post_order uses j ++ rest_of uses (record { node = i; next = next + 1 })
rest_of-next uses i next j more is =
    rw (drop_more (direct uses i) next 0 more, ← is)
    (append_assoc (post_order uses j) (flat_map (post_order uses) (drop (next + 1) (direct uses i))) (i ∷ []))

pub rest_of-done : (uses : List (List ℕ)) (i next : ℕ) → length (direct uses i) ≤ next → rest_of uses (record { node = i; next = next }) ≡ i ∷ []
rest_of-done uses i next done = rw (drop_all next (direct uses i) done) refl

pub rest_of-enter : (uses : List (List ℕ)) → IsAcyclic uses → (i : ℕ) → i < length uses → rest_of uses (record { node = i; next = 0 }) ≡ post_order uses i
rest_of-enter uses acyclic i here = sym (post_order_is uses acyclic i here)

-- the order so far and what is left of the walk make the whole, where each member's uses stand before it
pub record IsWalking (uses : List (List ℕ)) (whole : List ℕ) (order : List ℕ) (stack : List Frame) : Type 0 where
  pub whole_is : order ++ fresh order (left_of uses stack) ≡ whole
  pub uses_first : UsesFirst uses [] whole
  pub frames : All (λ f. f.node < length uses) stack

-- a listed node adds nothing where each member's uses stand before it
pub listed_adds_nothing : (uses : List (List ℕ)) → IsAcyclic uses → (order : List ℕ) → UsesFirst uses [] order →
    (j : ℕ) → j < length uses → Contains order j → (ys : List ℕ) → fresh order (post_order uses j ++ ys) ≡ fresh order ys
listed_adds_nothing uses acyclic order first j here listed ys =
    fresh-all_seen order (post_order uses j) ys (λ m has.
    let on = Reaches-from_post_order uses acyclic j here m has in
    UsesFirst-IsPath uses order j on.0 m first listed on.1)

-- the post-order of a listed node is there
pub walk_is_listed : (uses : List (List ℕ)) → IsAcyclic uses → (order : List ℕ) → UsesFirst uses [] order →
    (root : ℕ) → root < length uses → Contains order root → order ≡ order ++ fresh order (post_order uses root)
walk_is_listed uses acyclic order first root here listed =
    let nothing : fresh order (post_order uses root) ≡ [] = rw append-nil at (listed_adds_nothing uses acyclic order first root here listed []) in
    rw (nothing, append-nil) refl

-- what is listed so far has each member's uses before it
pub IsWalking-uses_first : (uses : List (List ℕ)) (whole order : List ℕ) (stack : List Frame) → IsWalking uses whole order stack → UsesFirst uses [] order
IsWalking-uses_first uses whole order stack is = UsesFirst-left uses order (fresh order (left_of uses stack)) [] (rw is.whole_is is.uses_first)

-- the frames of a stack, without the last
below : (uses : List (List ℕ)) (s : List Frame) (f : Frame) → All (λ (g : Frame). g.node < length uses) (s ++ f ∷ []) → All (λ (g : Frame). g.node < length uses) s × (f.node < length uses)
below uses s f frames = All-pop (λ (g : Frame). g.node < length uses) (s ++ f ∷ []) s (Some f) refl frames

module _ (uses : List (List ℕ)) (acyclic : IsAcyclic uses) (whole : List ℕ) where
  -- the next use is not listed: its walk comes first
  pub step_enter : (order : List ℕ) (s : List Frame) (i next j : ℕ) →
      IsWalking uses whole order (s ++ record { node = i; next = next } ∷ []) → next < length (direct uses i) → j ≡ get_or (direct uses i) next 0 →
      IsWalking uses whole order ((s ++ record { node = i; next = next + 1 } ∷ []) ++ record { node = j; next = 0 } ∷ [])
  step_enter order s i next j is more at =
      let parts = below uses s (record { node = i; next = next }) is.frames in
      let there : j < length uses = rw at (acyclic.in_range i next 0 more) in
      record {
        whole_is = rw (left_of-push uses (s ++ record { node = i; next = next + 1 } ∷ []) (record { node = j; next = 0 }), left_of-push uses s (record { node = i; next = next + 1 }), rest_of-enter uses acyclic j there)
            (rw (left_of-push uses s (record { node = i; next = next }), rest_of-next uses i next j more at, append_assoc (post_order uses j) (rest_of uses (record { node = i; next = next + 1 })) (left_of uses s)) at is.whole_is);
        uses_first = is.uses_first;
        frames = All-push (λ (f : Frame). f.node < length uses) (s ++ record { node = i; next = next + 1 } ∷ []) (record { node = j; next = 0 })
            (All-push (λ (f : Frame). f.node < length uses) s (record { node = i; next = next + 1 }) parts.0 parts.1) there;
      }

  -- the next use is listed
  pub step_skip : (order : List ℕ) (s : List Frame) (i next j : ℕ) →
      IsWalking uses whole order (s ++ record { node = i; next = next } ∷ []) → next < length (direct uses i) → j ≡ get_or (direct uses i) next 0 → Contains order j →
      IsWalking uses whole order (s ++ record { node = i; next = next + 1 } ∷ [])
  step_skip order s i next j is more at listed =
      let parts = below uses s (record { node = i; next = next }) is.frames in
      let there : j < length uses = rw at (acyclic.in_range i next 0 more) in
      let first = IsWalking-uses_first uses whole order (s ++ record { node = i; next = next } ∷ []) is in
      let now = rw (left_of-push uses s (record { node = i; next = next }), rest_of-next uses i next j more at, append_assoc (post_order uses j) (rest_of uses (record { node = i; next = next + 1 })) (left_of uses s)) at is.whole_is in
      record {
        whole_is = rw (left_of-push uses s (record { node = i; next = next + 1 }))
            (rw (listed_adds_nothing uses acyclic order first j there listed (rest_of uses (record { node = i; next = next + 1 }) ++ left_of uses s)) at now);
        uses_first = is.uses_first;
        frames = All-push (λ (f : Frame). f.node < length uses) s (record { node = i; next = next + 1 }) parts.0 parts.1;
      }

  -- all uses are listed: the node is next
  pub step_list : (order : List ℕ) (s : List Frame) (i next : ℕ) →
      IsWalking uses whole order (s ++ record { node = i; next = next } ∷ []) → length (direct uses i) ≤ next → (Contains order i → ⊥) →
      IsWalking uses whole (order ++ i ∷ []) s
  step_list order s i next is done absent =
      let parts = below uses s (record { node = i; next = next }) is.frames in
      let now = rw (left_of-push uses s (record { node = i; next = next }), rest_of-done uses i next done, fresh-absent order i (left_of uses s) absent) at is.whole_is in
      record {
        whole_is = append_assoc order (i ∷ []) (fresh (order ++ i ∷ []) (left_of uses s)) ∙ now;
        uses_first = is.uses_first;
        frames = parts.0;
      }

  -- or it is listed already
  pub step_drop : (order : List ℕ) (s : List Frame) (i next : ℕ) →
      IsWalking uses whole order (s ++ record { node = i; next = next } ∷ []) → length (direct uses i) ≤ next → Contains order i →
      IsWalking uses whole order s
  step_drop order s i next is done listed =
      let parts = below uses s (record { node = i; next = next }) is.frames in
      record {
        whole_is = rw (left_of-push uses s (record { node = i; next = next }), rest_of-done uses i next done, fresh-there order i (left_of uses s) listed) at is.whole_is;
        uses_first = is.uses_first;
        frames = parts.0;
      }

-- the walk begins with the root's frame
pub start_walk : (uses : List (List ℕ)) → IsAcyclic uses → (order : List ℕ) (root : ℕ) → root < length uses → UsesFirst uses [] order →
    IsWalking uses (order ++ fresh order (post_order uses root)) order (record { node = root; next = 0 } ∷ [])
start_walk uses acyclic order root here first = record {
  whole_is = rw (left_of-push uses [] (record { node = root; next = 0 }), rest_of-enter uses acyclic root here, left_of-nil uses, append-nil) refl;
  uses_first = UsesFirst-append uses order (fresh order (post_order uses root)) [] first
      (UsesFirst-fresh uses (post_order uses root) order order (λ j has. has) (UsesFirst-post_order uses acyclic root here order));
  frames = All-push (λ (g : Frame). g.node < length uses) [] (record { node = root; next = 0 }) (All-nil (λ (g : Frame). g.node < length uses)) here;
}

-- ---- the measure
unfoldable pub turns : List (List ℕ) → List Frame → ℕ
turns uses stack = 2 * length (left_of uses stack) - length stack

pushed_sizes : (uses : List (List ℕ)) (s : List Frame) (f : Frame) → (length (left_of uses (s ++ f ∷ [])) ≡ length (rest_of uses f) + length (left_of uses s)) × (length (s ++ f ∷ []) ≡ length s + 1)
pushed_sizes uses s f = (ap length (left_of-push uses s f) ∙ length-append (rest_of uses f) (left_of uses s), length_push s f)

next_size : (uses : List (List ℕ)) (i next j : ℕ) → next < length (direct uses i) → j ≡ get_or (direct uses i) next 0 →
    length (rest_of uses (record { node = i; next = next })) ≡ length (post_order uses j) + length (rest_of uses (record { node = i; next = next + 1 }))
next_size uses i next j more at = ap length (rest_of-next uses i next j more at) ∙ length-append (post_order uses j) (rest_of uses (record { node = i; next = next + 1 }))

walk_size : (uses : List (List ℕ)) → IsAcyclic uses → (j : ℕ) → j < length uses → 0 < length (post_order uses j)
walk_size uses acyclic j there = let last = Contains-post_order_end uses acyclic j there in omega (arith, last.1)

pub turns_enter : (uses : List (List ℕ)) → IsAcyclic uses → (s : List Frame) (i next j : ℕ) → next < length (direct uses i) → j ≡ get_or (direct uses i) next 0 →
    turns uses ((s ++ record { node = i; next = next + 1 } ∷ []) ++ record { node = j; next = 0 } ∷ []) < turns uses (s ++ record { node = i; next = next } ∷ [])
unfolding turns
turns_enter uses acyclic s i next j more at =
    let there : j < length uses = rw at (acyclic.in_range i next 0 more) in
    let above = pushed_sizes uses (s ++ record { node = i; next = next + 1 } ∷ []) (record { node = j; next = 0 }) in
    let after = pushed_sizes uses s (record { node = i; next = next + 1 }) in
    let before = pushed_sizes uses s (record { node = i; next = next }) in
    omega (
      arith,
      above.0,
      above.1,
      after.0,
      after.1,
      before.0,
      before.1,
      next_size uses i next j more at,
      ap length (rest_of-enter uses acyclic j there),
      walk_size uses acyclic j there,
      length-left_of uses s,
      length-left_of uses (s ++ record { node = i; next = next + 1 } ∷ []),
    )

pub turns_skip : (uses : List (List ℕ)) → IsAcyclic uses → (s : List Frame) (i next j : ℕ) → next < length (direct uses i) → j ≡ get_or (direct uses i) next 0 →
    turns uses (s ++ record { node = i; next = next + 1 } ∷ []) < turns uses (s ++ record { node = i; next = next } ∷ [])
unfolding turns
turns_skip uses acyclic s i next j more at =
    let there : j < length uses = rw at (acyclic.in_range i next 0 more) in
    let after = pushed_sizes uses s (record { node = i; next = next + 1 }) in
    let before = pushed_sizes uses s (record { node = i; next = next }) in
    omega (
      arith,
      after.0,
      after.1,
      before.0,
      before.1,
      next_size uses i next j more at,
      walk_size uses acyclic j there,
      length-left_of uses s,
      length-left_of uses (s ++ record { node = i; next = next + 1 } ∷ []),
    )

pub turns_pop : (uses : List (List ℕ)) (s : List Frame) (i next : ℕ) → turns uses s < turns uses (s ++ record { node = i; next = next } ∷ [])
unfolding turns
turns_pop uses s i next =
    let before = pushed_sizes uses s (record { node = i; next = next }) in
    omega (arith, before.0, before.1, length-append (flat_map (post_order uses) (drop next (direct uses i))) (i ∷ []), length-left_of uses s)

-- ---- the roots
pub first-root : (uses : List (List ℕ)) (roots : List ℕ) (i : ℕ) → i < length roots →
    first_of_each (flat_map (post_order uses) (take (i + 1) roots)) ≡ first_of_each (flat_map (post_order uses) (take i roots)) ++ fresh (first_of_each (flat_map (post_order uses) (take i roots))) (post_order uses (get_or roots i 0))
first-root uses roots i below =
    rw (take_more roots i 0 below, flat_map-append (post_order uses) (take i roots) (get_or roots i 0 ∷ []), append-nil (post_order uses (get_or roots i 0)))
    (fresh-append [] (flat_map (post_order uses) (take i roots)) (post_order uses (get_or roots i 0)))
