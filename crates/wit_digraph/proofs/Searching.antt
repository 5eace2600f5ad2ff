-- The way of a search for a cycle: what its stack and its marks tell.
use Rattle.std.proofs.Common.{◌≡◌, ℕ, ◌<◌, List, [], ◌∷◌, ◌++◌, ◌⊎◌, inl, inr, length, sym, ◌∙◌, ap, subst, get_or, set, Contains}
use Rattle.std.proofs.lemmas.Bool.{cases_eq}
use Rattle.std.proofs.lemmas.List.{get_or-set_same, get_or-set_other}
use Rattle.wit_digraph.specs.facts.MemberFacts.{Contains-nil, Contains-here, Contains-cons_cases}
use Rattle.wit_digraph.specs.Relation.{direct, IsPath, Reaches}
use Rattle.wit_digraph.specs.steps.Cycles.{mark_of, DoneAreClear}
use Rattle.wit_digraph.specs.declared.cycle.Mark.{Mark}
use Rattle.wit_digraph.specs.declared.cycle.Mark.TheVariants.{Unseen, Open, Done}
use Rattle.wit_digraph.specs.declared.frame.Frame.{Frame}

-- ---- marks

-- setting a mark at a node that is not done, or as done, leaves what is done
abbrev pub KeepsDone : List Mark → List Mark → Type 0
KeepsDone old new = (i : ℕ) → mark_of old i ≡ Done → mark_of new i ≡ Done

pub set_done : (marks : List Mark) (x : ℕ) → x < length marks → KeepsDone marks (set marks x Done)
set_done marks x inside i done =
    elim (cases_eq i x) [
      | inl same ↦ rw same (get_or-set_same marks x Done Unseen inside)
      | inr apart ↦ get_or-set_other marks x i Done Unseen apart ∙ done
    ]

pub set_open : (marks : List Mark) (x : ℕ) → (mark_of marks x ≡ Done → ⊥) → KeepsDone marks (set marks x Open)
set_open marks x not_done i done =
    elim (cases_eq i x) [
      | inl same ↦ absurd (not_done (subst (λ j. mark_of marks j ≡ Done) same done))
      | inr apart ↦ get_or-set_other marks x i Open Unseen apart ∙ done
    ]

-- a node that is done after one is opened was done before
opened_was : (marks : List Mark) (x i : ℕ) → x < length marks → mark_of (set marks x Open) i ≡ Done → mark_of marks i ≡ Done
opened_was marks x i inside done =
    elim (cases_eq i x) [
      | inl same ↦
          let opened : mark_of (set marks x Open) x ≡ Open = get_or-set_same marks x Open Unseen inside in
          let now : mark_of (set marks x Open) x ≡ Done = subst (λ j. mark_of (set marks x Open) j ≡ Done) same done in
          cc
      | inr apart ↦ sym (get_or-set_other marks x i Open Unseen apart) ∙ done
    ]

pub DoneAreClear-open : (uses : List (List ℕ)) (marks : List Mark) (x : ℕ) → x < length marks → (mark_of marks x ≡ Done → ⊥) → DoneAreClear uses marks → DoneAreClear uses (set marks x Open)
DoneAreClear-open uses marks x inside not_done is = record {
  closed = λ i j done edge. set_open marks x not_done j (is.closed i j (opened_was marks x i inside done) edge);
  no_cycle = λ i k path done round. is.no_cycle i k path (opened_was marks x i inside done) round;
}

-- from a node that is done a path leads to one that is
stays_done : (uses : List (List ℕ)) (marks : List Mark) → DoneAreClear uses marks → (i : ℕ) (path : List ℕ) (j : ℕ) → mark_of marks i ≡ Done → IsPath uses i path j → mark_of marks j ≡ Done
stays_done uses marks is i [] j done same = subst (λ k. mark_of marks k ≡ Done) same done
stays_done uses marks is i (k ∷ path) j done leads = stays_done uses marks is k path j (is.closed i k done leads.0) leads.1

-- one more is done, whose uses are
pub DoneAreClear-done : (uses : List (List ℕ)) (marks : List Mark) (x : ℕ) → x < length marks → ((j : ℕ) → Contains (direct uses x) j → mark_of marks j ≡ Done) → DoneAreClear uses marks → DoneAreClear uses (set marks x Done)
DoneAreClear-done uses marks x inside uses_done is = record {
  closed = λ i j done edge. elim (cases_eq i x) [
    | inl same ↦ set_done marks x inside j (uses_done j (subst (λ k. Contains (direct uses k) j) same edge))
    | inr apart ↦ set_done marks x inside j (is.closed i j (sym (get_or-set_other marks x i Done Unseen apart) ∙ done) edge)
  ];
  no_cycle = λ i k path done round. elim (cases_eq i x) [
    | inl same ↦
        let start : mark_of marks k ≡ Done = uses_done k (subst (λ j. Contains (direct uses j) k) same round.0) in
        is.no_cycle i k path (stays_done uses marks is k path i start round.1) round
    | inr apart ↦ is.no_cycle i k path (sym (get_or-set_other marks x i Done Unseen apart) ∙ done) round
  ];
}

-- ---- the way

-- the first frame is of node j
abbrev pub BeginsAt : List Frame → ℕ → Type 0
BeginsAt [] j = ⊥
BeginsAt (g ∷ above) j = g.node ≡ j

-- the first frame's node is a use of i
abbrev pub StepsTo : List (List ℕ) → ℕ → List Frame → Type 0
StepsTo uses i [] = Unit {0}
StepsTo uses i (g ∷ above) = Contains (direct uses i) g.node

-- each frame's node is a use of the one below, and of each node's uses before the next all are done
-- but the one whose frame is above
abbrev pub IsWay : List (List ℕ) → List Mark → List Frame → Type 0
IsWay uses marks [] = Unit {0}
IsWay uses marks (f ∷ above) =
    ((k : ℕ) → k < f.next
    → (mark_of marks (get_or (direct uses f.node) k 0) ≡ Done)
    ⊎ BeginsAt above (get_or (direct uses f.node) k 0))
    × StepsTo uses f.node above
    × IsWay uses marks above

pub IsWay-keeps : (uses : List (List ℕ)) (old new : List Mark) (s : List Frame) → KeepsDone old new → IsWay uses old s → IsWay uses new s
IsWay-keeps uses old new [] keeps way = tt
IsWay-keeps uses old new (f ∷ above) keeps way = (
  λ k before. elim (way.0 k before) [ inl done ↦ inl (keeps _ done) | inr next ↦ inr next ],
  way.1,
  IsWay-keeps uses old new above keeps way.2,
)

-- the uses of the last frame before its next are done
pub last_done : (uses : List (List ℕ)) (marks : List Mark) (s : List Frame) (f : Frame) → IsWay uses marks (s ++ f ∷ []) → (k : ℕ) → k < f.next → mark_of marks (get_or (direct uses f.node) k 0) ≡ Done
last_done uses marks [] f way k before = elim (way.0 k before) [ inl done ↦ done | inr none ↦ absurd none ]
last_done uses marks (h ∷ s) f way k before = last_done uses marks s f way.2 k before

begins_replaced : (s : List Frame) (f : Frame) (end : List Frame) (j : ℕ) → BeginsAt end f.node → BeginsAt (s ++ f ∷ []) j → BeginsAt (s ++ end) j
begins_replaced [] f [] j at begins = absurd at
begins_replaced [] f (g ∷ end) j at begins = at ∙ begins
begins_replaced (h ∷ s) f end j at begins = begins

steps_replaced : (uses : List (List ℕ)) (i : ℕ) (s : List Frame) (f : Frame) (end : List Frame) → BeginsAt end f.node → StepsTo uses i (s ++ f ∷ []) → StepsTo uses i (s ++ end)
steps_replaced uses i [] f [] at steps = tt
steps_replaced uses i [] f (g ∷ end) at steps = subst (λ j. Contains (direct uses i) j) (sym at) steps
steps_replaced uses i (h ∷ s) f end at steps = steps

-- the last frame goes on, and another may stand on it
pub IsWay-replaced : (uses : List (List ℕ)) (marks : List Mark) (s : List Frame) (f : Frame) (end : List Frame) → BeginsAt end f.node → IsWay uses marks end → IsWay uses marks (s ++ f ∷ []) → IsWay uses marks (s ++ end)
IsWay-replaced uses marks [] f end at new way = new
IsWay-replaced uses marks (h ∷ s) f end at new way = (
  λ k before. elim (way.0 k before) [ inl done ↦ inl done | inr begins ↦ inr (begins_replaced s f end _ at begins) ],
  steps_replaced uses h.node s f end at way.1,
  IsWay-replaced uses marks s f end at new way.2,
)

-- the last frame is taken off where its node is done
steps_popped : (uses : List (List ℕ)) (i : ℕ) (s : List Frame) (f : Frame) → StepsTo uses i (s ++ f ∷ []) → StepsTo uses i s
steps_popped uses i [] f steps = tt
steps_popped uses i (h ∷ s) f steps = steps

begins_popped : (marks : List Mark) (s : List Frame) (f : Frame) (j : ℕ) → mark_of marks f.node ≡ Done → BeginsAt (s ++ f ∷ []) j → (mark_of marks j ≡ Done) ⊎ BeginsAt s j
begins_popped marks [] f j done begins = inl (subst (λ k. mark_of marks k ≡ Done) begins done)
begins_popped marks (h ∷ s) f j done begins = inr begins

pub IsWay-popped : (uses : List (List ℕ)) (marks : List Mark) (s : List Frame) (f : Frame) → mark_of marks f.node ≡ Done → IsWay uses marks (s ++ f ∷ []) → IsWay uses marks s
IsWay-popped uses marks [] f done way = tt
IsWay-popped uses marks (h ∷ s) f done way = (
  λ k before. elim (way.0 k before) [ inl use_done ↦ inl use_done | inr begins ↦ begins_popped marks s f _ done begins ],
  steps_popped uses h.node s f way.1,
  IsWay-popped uses marks s f done way.2,
)

-- each frame's node reaches the last's
first_step : (uses : List (List ℕ)) (i : ℕ) (s : List Frame) (f : Frame) → StepsTo uses i (s ++ f ∷ []) → (g : Frame) × Contains (s ++ f ∷ []) g × Contains (direct uses i) g.node
first_step uses i [] f steps = (f, Contains-here f [], steps)
first_step uses i (h ∷ s) f steps = (h, Contains-here h (s ++ f ∷ []), steps)

pub IsWay-reaches : (uses : List (List ℕ)) (marks : List Mark) (s : List Frame) (f g : Frame) → IsWay uses marks (s ++ f ∷ []) → Contains (s ++ f ∷ []) g → Reaches uses g.node f.node
IsWay-reaches uses marks [] f g way among =
    elim (Contains-cons_cases f g [] among) [ inl same ↦ ([], ap (λ (h : Frame). h.node) (sym same)) | inr none ↦ absurd (Contains-nil none) ]
IsWay-reaches uses marks (h ∷ s) f g way among =
    elim (Contains-cons_cases h g (s ++ f ∷ []) among) [
      | inl same ↦
          let on = first_step uses h.node s f way.1 in
          let rest = IsWay-reaches uses marks s f on.0 way.2 on.1 in
          subst (λ (e : Frame). Reaches uses e.node f.node) same (on.0.node ∷ rest.0, (on.2, rest.1))
      | inr there ↦ IsWay-reaches uses marks s f g way.2 there
    ]
