-- The turns of a search for a cycle.
use Rattle.std.proofs.Common.{◌≡◌, ℕ, ◌<◌, ◌≤◌, ◌+◌, ◌-◌, zero, suc, Some, List, [], ◌∷◌, ◌++◌, inl, inr, length, refl, sym, ◌∙◌, ap, subst, get_or, set, append_assoc, arith, Contains, All}
use Rattle.std.proofs.lemmas.Bool.{cases_eq, cases_lt}
use Rattle.std.proofs.lemmas.List.{get_or-set_same, get_or-set_other, length-set, get_or_default}
use Rattle.std.proofs.lemmas.List.Elements.{All-nil, All-pop, All-push, Contains-append_cases, Contains-append_left, Contains-get_or, Contains-push}
use Rattle.wit_digraph.specs.facts.MemberFacts.{Contains-nil, Contains-here, Contains-cons_cases}
use Rattle.wit_digraph.proofs.Searching.{KeepsDone, set_done, set_open, DoneAreClear-open, DoneAreClear-done, IsWay, IsWay-keeps, last_done, IsWay-replaced, IsWay-popped, IsWay-reaches}
use Rattle.wit_digraph.specs.Relation.{direct, Reaches, IsInRange}
use Rattle.wit_digraph.specs.Cycles.{IsOnCycle}
use Rattle.wit_digraph.specs.steps.Cycles.{mark_of, DoneAreClear, IsFinished}
use Rattle.wit_digraph.specs.declared.cycle.Mark.{Mark}
use Rattle.wit_digraph.specs.declared.cycle.Mark.TheVariants.{Unseen, Open, Done}
use Rattle.wit_digraph.specs.declared.frame.Frame.{Frame}

-- some frame of a stack is of node i
abbrev pub IsOnStack : List Frame → ℕ → Type 0
IsOnStack stack i = (f : Frame) × Contains stack f × (f.node ≡ i)

-- a search that runs from a root
pub record IsSearching (uses : List (List ℕ)) (old marks : List Mark) (root : ℕ) (stack : List Frame) : Type 0 where
  pub clear : DoneAreClear uses marks
  pub way : IsWay uses marks stack
  pub open_on : (i : ℕ) → mark_of marks i ≡ Open → IsOnStack stack i
  pub frames : All (λ f. f.node < length uses) stack
  pub long : length marks ≡ length uses
  pub root_met : mark_of marks root ≡ Unseen → ⊥
  pub kept : KeepsDone old marks

-- the frames of a stack, and its last
parted : (uses : List (List ℕ)) (s : List Frame) (f : Frame) → All (λ (g : Frame). g.node < length uses) (s ++ f ∷ []) → All (λ (g : Frame). g.node < length uses) s × (f.node < length uses)
parted uses s f frames = All-pop (λ (g : Frame). g.node < length uses) (s ++ f ∷ []) s (Some f) refl frames

-- a frame that goes on is of the same node
on_stack_next : (s : List Frame) (f g : Frame) (i : ℕ) → g.node ≡ f.node → IsOnStack (s ++ f ∷ []) i → IsOnStack (s ++ g ∷ []) i
on_stack_next s f g i same on =
    elim (Contains-append_cases s (f ∷ []) on.0 on.1) [
      | inl before ↦ (on.0, Contains-append_left s (g ∷ []) on.0 before, on.2)
      | inr last ↦ elim (Contains-cons_cases f on.0 [] last) [
        | inl is ↦ (g, Contains-push s g, same ∙ ap (λ (h : Frame). h.node) is ∙ on.2)
        | inr none ↦ absurd (Contains-nil none)
      ]
    ]

-- the next use is open: it is on the way, so it reaches its user
pub use_on_cycle : (uses : List (List ℕ)) (old marks : List Mark) (root : ℕ) (s : List Frame) (f : Frame) (j : ℕ) →
    IsSearching uses old marks root (s ++ f ∷ []) → f.next < length (direct uses f.node) → j ≡ get_or (direct uses f.node) f.next 0 → mark_of marks j ≡ Open → IsOnCycle uses f.node j
use_on_cycle uses old marks root s f j is more at opened =
    let on = is.open_on j opened in
    record {
      is_used = subst (λ k. Contains (direct uses f.node) k) (sym at) (Contains-get_or (direct uses f.node) f.next 0 more);
      leads_back = subst (λ k. Reaches uses k f.node) on.2 (IsWay-reaches uses marks s f on.0 is.way on.1);
    }

-- the next use is done
pub step_past : (uses : List (List ℕ)) (old marks : List Mark) (root : ℕ) (s : List Frame) (f : Frame) (j : ℕ) →
    IsSearching uses old marks root (s ++ f ∷ []) → j ≡ get_or (direct uses f.node) f.next 0 → mark_of marks j ≡ Done →
    IsSearching uses old marks root (s ++ record { node = f.node; next = f.next + 1 } ∷ [])
step_past uses old marks root s f j is at done =
    let parts = parted uses s f is.frames in
    let g : Frame = record { node = f.node; next = f.next + 1 } in
    record {
      clear = is.clear;
      way = IsWay-replaced uses marks s f (g ∷ []) refl (
        (λ k before. elim (cases_lt k f.next) [
          | inl below ↦ inl (last_done uses marks s f is.way k below)
          | inr above ↦
              let here : k ≡ f.next = omega (arith, before, above) in
              inl (subst (λ m. mark_of marks (get_or (direct uses f.node) m 0) ≡ Done) (sym here) (subst (λ m. mark_of marks m ≡ Done) at done))
        ]),
        tt,
        tt,
      ) is.way;
      open_on = λ i opened. on_stack_next s f g i refl (is.open_on i opened);
      frames = All-push (λ (h : Frame). h.node < length uses) s g parts.0 parts.1;
      long = is.long;
      root_met = is.root_met;
      kept = is.kept;
    }

-- the next use was not met: the search goes on from it
pub step_into : (uses : List (List ℕ)) → IsInRange uses → (old marks : List Mark) (root : ℕ) (s : List Frame) (f : Frame) (j : ℕ) →
    IsSearching uses old marks root (s ++ f ∷ []) → f.next < length (direct uses f.node) → j ≡ get_or (direct uses f.node) f.next 0 → mark_of marks j ≡ Unseen →
    IsSearching uses old (set marks j Open) root ((s ++ record { node = f.node; next = f.next + 1 } ∷ []) ++ record { node = j; next = 0 } ∷ [])
step_into uses in_range old marks root s f j is more at unseen =
    let parts = parted uses s f is.frames in
    let there : j < length uses = rw at (in_range f.node f.next 0 more) in
    let inside : j < length marks = omega (arith, there, is.long) in
    let not_done : mark_of marks j ≡ Done → ⊥ = λ done. (cc) in
    let keeps = set_open marks j not_done in
    let g : Frame = record { node = f.node; next = f.next + 1 } in
    let h : Frame = record { node = j; next = 0 } in
    let way' = IsWay-keeps uses marks (set marks j Open) (s ++ f ∷ []) keeps is.way in
    record {
      clear = DoneAreClear-open uses marks j inside not_done is.clear;
      way = rw (append_assoc s (g ∷ []) (h ∷ [])) (IsWay-replaced uses (set marks j Open) s f (g ∷ h ∷ []) refl (
        (λ k before. elim (cases_lt k f.next) [
          | inl below ↦ inl (last_done uses (set marks j Open) s f way' k below)
          | inr above ↦
              let here : k ≡ f.next = omega (arith, before, above) in
              inr (subst (λ m. j ≡ get_or (direct uses f.node) m 0) (sym here) at)
        ]),
        subst (λ k. Contains (direct uses f.node) k) (sym at) (Contains-get_or (direct uses f.node) f.next 0 more),
        ((λ k before. absurd (omega (arith, before))), tt, tt),
      ) way');
      open_on = λ i opened. elim (cases_eq i j) [
        | inl same ↦ (h, Contains-push (s ++ g ∷ []) h, sym same)
        | inr apart ↦
            let on = on_stack_next s f g i refl (is.open_on i (sym (get_or-set_other marks j i Open Unseen apart) ∙ opened)) in
            (on.0, Contains-append_left (s ++ g ∷ []) (h ∷ []) on.0 on.1, on.2)
      ];
      frames = All-push (λ (e : Frame). e.node < length uses) (s ++ g ∷ []) h (All-push (λ (e : Frame). e.node < length uses) s g parts.0 parts.1) there;
      long = length-set marks j Open ∙ is.long;
      root_met = λ unmet. elim (cases_eq root j) [
        | inl same ↦
            let opened : mark_of (set marks j Open) j ≡ Open = get_or-set_same marks j Open Unseen inside in
            let unmet' : mark_of (set marks j Open) j ≡ Unseen = subst (λ k. mark_of (set marks j Open) k ≡ Unseen) same unmet in
            cc
        | inr apart ↦ is.root_met (sym (get_or-set_other marks j root Open Unseen apart) ∙ unmet)
      ];
      kept = λ i done. keeps i (is.kept i done);
    }

-- all uses are done, so the node is
pub step_done : (uses : List (List ℕ)) (old marks : List Mark) (root : ℕ) (s : List Frame) (f : Frame) →
    IsSearching uses old marks root (s ++ f ∷ []) → length (direct uses f.node) ≤ f.next →
    IsSearching uses old (set marks f.node Done) root s
step_done uses old marks root s f is all =
    let parts = parted uses s f is.frames in
    let inside : f.node < length marks = omega (arith, parts.1, is.long) in
    let keeps = set_done marks f.node inside in
    let now : mark_of (set marks f.node Done) f.node ≡ Done = get_or-set_same marks f.node Done Unseen inside in
    record {
      clear = DoneAreClear-done uses marks f.node inside (λ j edge.
          subst (λ k. mark_of marks k ≡ Done) edge.2 (last_done_at uses marks s f is.way j edge.0 (omega (arith, edge.1, all)) edge.1)) is.clear;
      way = IsWay-popped uses (set marks f.node Done) s f now (IsWay-keeps uses marks (set marks f.node Done) (s ++ f ∷ []) keeps is.way);
      open_on = λ i opened. elim (cases_eq i f.node) [
        | inl same ↦
            let opened' : mark_of (set marks f.node Done) f.node ≡ Open = subst (λ k. mark_of (set marks f.node Done) k ≡ Open) same opened in
            absurd (cc)
        | inr apart ↦
            let on = is.open_on i (sym (get_or-set_other marks f.node i Done Unseen apart) ∙ opened) in
            elim (Contains-append_cases s (f ∷ []) on.0 on.1) [
              | inl before ↦ (on.0, before, on.2)
              | inr last ↦ elim (Contains-cons_cases f on.0 [] last) [
                | inl is' ↦ absurd (apart (sym on.2 ∙ sym (ap (λ (h : Frame). h.node) is')))
                | inr none ↦ absurd (Contains-nil none)
              ]
            ]
      ];
      frames = parts.0;
      long = length-set marks f.node Done ∙ is.long;
      root_met = λ unmet. elim (cases_eq root f.node) [
        | inl same ↦
            let unmet' : mark_of (set marks f.node Done) f.node ≡ Unseen = subst (λ k. mark_of (set marks f.node Done) k ≡ Unseen) same unmet in
            cc
        | inr apart ↦ is.root_met (sym (get_or-set_other marks f.node root Done Unseen apart) ∙ unmet)
      ];
      kept = λ i done. keeps i (is.kept i done);
    }
  where
    last_done_at : (uses : List (List ℕ)) (marks : List Mark) (s : List Frame) (f : Frame) → IsWay uses marks (s ++ f ∷ []) → (j k : ℕ) → k < f.next → k < length (direct uses f.node) → mark_of marks (get_or (direct uses f.node) k j) ≡ Done
    last_done_at uses marks s f way j k before inside = subst (λ m. mark_of marks m ≡ Done) (get_or_default (direct uses f.node) k 0 j inside) (last_done uses marks s f way k before)

-- a search begins where none is running
pub start_search : (uses : List (List ℕ)) (marks : List Mark) → length marks ≡ length uses → (root : ℕ) → root < length uses → IsFinished uses marks → (mark_of marks root ≡ Done → ⊥) →
    IsSearching uses marks (set marks root Open) root (record { node = root; next = 0 } ∷ [])
start_search uses marks long root here is not_done =
    let inside : root < length marks = omega (arith, here, long) in
    let f : Frame = record { node = root; next = 0 } in
    let now : mark_of (set marks root Open) root ≡ Open = get_or-set_same marks root Open Unseen inside in
    record {
      clear = DoneAreClear-open uses marks root inside not_done is.clear;
      way = ((λ k before. absurd (omega (arith, before))), tt, tt);
      open_on = λ i opened. elim (cases_eq i root) [
        | inl same ↦ (f, Contains-here f [], sym same)
        | inr apart ↦ absurd (is.none_open i (sym (get_or-set_other marks root i Open Unseen apart) ∙ opened))
      ];
      frames = All-push (λ (e : Frame). e.node < length uses) [] f (All-nil (λ (e : Frame). e.node < length uses)) here;
      long = length-set marks root Open ∙ long;
      root_met = λ unmet. (cc);
      kept = set_open marks root not_done;
    }

-- ---- the measure

-- the turns that a node takes from now on which bears this mark, without its frame, and has so many uses
abbrev pub turns_of : Mark → ℕ → ℕ
turns_of Unseen uses = uses + 1
turns_of Open uses = 0
turns_of Done uses = 0

-- the turns of the nodes that were not met
unfoldable pub unseen_turns : List (List ℕ) → List Mark → ℕ
unseen_turns [] marks = 0
unseen_turns (row ∷ rows) [] = 0
unseen_turns (row ∷ rows) (m ∷ marks) = turns_of m (length row) + unseen_turns rows marks

-- the turns of the frames: one for each use that is left, and one to leave the node
unfoldable pub frame_turns : List (List ℕ) → List Frame → ℕ
frame_turns uses [] = 0
frame_turns uses (f ∷ above) = 1 + (length (direct uses f.node) - f.next) + frame_turns uses above

abbrev pub search_turns : List (List ℕ) → List Mark → List Frame → ℕ
search_turns uses marks stack = unseen_turns uses marks + frame_turns uses stack

frame_turns-push : (uses : List (List ℕ)) (s : List Frame) (f : Frame) → frame_turns uses (s ++ f ∷ []) ≡ frame_turns uses s + 1 + (length (direct uses f.node) - f.next)
unfolding frame_turns
frame_turns-push uses [] f = omega arith
frame_turns-push uses (g ∷ s) f = omega (arith, frame_turns-push uses s f)

unseen_turns-open : (rows : List (List ℕ)) (marks : List Mark) (i : ℕ) → length marks ≡ length rows → i < length rows → mark_of marks i ≡ Unseen → unseen_turns rows (set marks i Open) + length (direct rows i) + 1 ≡ unseen_turns rows marks
unfolding unseen_turns
unseen_turns-open [] marks i long inside unseen = absurd (omega (arith, inside))
unseen_turns-open (row ∷ rows) [] i long inside unseen = absurd (omega (arith, long))
unseen_turns-open (row ∷ rows) (m ∷ marks) zero long inside unseen = omega (arith, ap (λ n. turns_of n (length row)) unseen)
unseen_turns-open (row ∷ rows) (m ∷ marks) (suc i) long inside unseen = omega (arith, unseen_turns-open rows marks i (omega (arith, long)) (omega (arith, inside)) unseen)

unseen_turns-done : (rows : List (List ℕ)) (marks : List Mark) (i : ℕ) → unseen_turns rows (set marks i Done) ≤ unseen_turns rows marks
unfolding unseen_turns
unseen_turns-done [] marks i = omega arith
unseen_turns-done (row ∷ rows) [] i = omega arith
unseen_turns-done (row ∷ rows) (m ∷ marks) zero = omega arith
unseen_turns-done (row ∷ rows) (m ∷ marks) (suc i) = omega (arith, unseen_turns-done rows marks i)

pub turns_past : (uses : List (List ℕ)) (marks : List Mark) (s : List Frame) (f : Frame) → f.next < length (direct uses f.node) →
    search_turns uses marks (s ++ record { node = f.node; next = f.next + 1 } ∷ []) < search_turns uses marks (s ++ f ∷ [])
turns_past uses marks s f more = omega (arith, frame_turns-push uses s f, frame_turns-push uses s (record { node = f.node; next = f.next + 1 }))

pub turns_into : (uses : List (List ℕ)) → IsInRange uses → (marks : List Mark) → length marks ≡ length uses → (s : List Frame) (f : Frame) (j : ℕ) → f.next < length (direct uses f.node) → j ≡ get_or (direct uses f.node) f.next 0 → mark_of marks j ≡ Unseen →
    search_turns uses (set marks j Open) ((s ++ record { node = f.node; next = f.next + 1 } ∷ []) ++ record { node = j; next = 0 } ∷ []) < search_turns uses marks (s ++ f ∷ [])
turns_into uses in_range marks long s f j more at unseen =
    let there : j < length uses = rw at (in_range f.node f.next 0 more) in
    omega (
      arith,
      unseen_turns-open uses marks j long there unseen,
      frame_turns-push uses s f,
      frame_turns-push uses s (record { node = f.node; next = f.next + 1 }),
      frame_turns-push uses (s ++ record { node = f.node; next = f.next + 1 } ∷ []) (record { node = j; next = 0 }),
    )

pub turns_done : (uses : List (List ℕ)) (marks : List Mark) (s : List Frame) (f : Frame) → search_turns uses (set marks f.node Done) s < search_turns uses marks (s ++ f ∷ [])
turns_done uses marks s f = omega (arith, unseen_turns-done uses marks f.node, frame_turns-push uses s f)
