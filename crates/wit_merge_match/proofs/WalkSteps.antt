-- The steps of a comparison: what a stack of frames says of the two types with which it began.
use Rattle.std.proofs.Common.{◌≡◌, ◌∙◌, ℕ, ◌<◌, ◌≤◌, ◌+◌, ◌-◌, zero, suc, Bool, true, false, List, [], ◌∷◌, ◌++◌, inl, inr, length, map, take, drop, Option, Some, None, option_map, unwrap_or, slice_get, refl, sym, ap, subst, arith, append_assoc, length-append, add-one, Contains, ◌⊎◌, if◌then◌else◌}
use Rattle.std.specs.List.{flat_map}
use Rattle.std.specs.Option.{option_map_or}
use Rattle.std.proofs.lemmas.List.{length-map, map-append, take_all}
use Rattle.std.proofs.lemmas.List.Concat.{flat_map-append}
use Rattle.std.proofs.lemmas.List.Elements.{All-contains}
use Rattle.std.proofs.lemmas.Option.{get_or_from_slice_get, slice_get-map, slice_get_within}
use Rattle.wit_values.specs.facts.Lists.{push-cases, take-next_at}
use Rattle.wit_digraph.specs.Relation.{IsAcyclic, direct}
use Rattle.wit_data.specs.Kind.{named_option, referred, type_references, kind_parts, KindPart}
use Rattle.wit_data.specs.facts.ReferenceFacts.{length-references, references_at}
use Rattle.wit_data.specs.declared.types.TypeDef.{TypeDef}
use Rattle.wit_data.specs.declared.types.TypeDefKind.{TypeDefKind}
use Rattle.wit_data.specs.declared.types.Type_.{Type_}
use Rattle.wit_data.specs.declared.types.TypeDefKind.TheVariants as kind
use Rattle.wit_data.specs.declared.types.Type_.TheVariants as type
use Rattle.wit_merge_match.specs.steps.ComparisonSteps.{AreAtParts, AreSides, AreThere, IsAtPart, frame_step, from_held, from_structure, into_held, into_structure, kind_at, matched_by, path_of}
use Rattle.wit_merge_spec.specs.facts.DifferenceFacts.{first_behind, first_front, first_within}
use Rattle.wit_merge_match.specs.steps.Kinds.{step_at, steps_of}
use Rattle.wit_merge_spec.specs.Structure.{Content, Feature, FirstDifference, absent, head_features, held_features, here, is_named, kind_features, named, names, structure, within}
use Rattle.wit_merge_spec.specs.facts.StructureFacts.{part_refers, structure_at}
use Rattle.wit_merge_match.specs.declared.comparison.Sides.{Sides}
use Rattle.wit_merge_match.specs.declared.frames.Frame.{Frame}
use Rattle.wit_merge_spec.specs.steps.Parts.{part_features}

-- ---- lists

contained : {X : Type 0} (xs : List X) (i : ℕ) (x : X) → slice_get xs i ≡ Some x → Contains xs x
contained xs i x at = (i, slice_get_within xs i x at, get_or_from_slice_get xs i x x at)

there_is : {X : Type 0} (xs : List X) (i : ℕ) → i < length xs → (x : X) × (slice_get xs i ≡ Some x)
there_is [] i below = absurd (omega (arith, below))
there_is (x ∷ xs) zero below = (x, refl)
there_is (x ∷ xs) (suc i) below = there_is xs i (omega (arith, below))

split_at : {X : Type 0} (xs : List X) (i : ℕ) (x : X) → slice_get xs i ≡ Some x → xs ≡ take i xs ++ (x ∷ drop (suc i) xs)
split_at [] i x at = cc
split_at {X} (z ∷ zs) zero x at = let same : z ≡ x = cc in ap (λ (y : X). y ∷ zs) same
split_at {X} (z ∷ zs) (suc i) x at = ap (λ (l : List X). z ∷ l) (split_at zs i x at)

drop_suc : {X : Type 0} (xs : List X) (i : ℕ) (x : X) → slice_get xs i ≡ Some x → drop i xs ≡ x ∷ drop (suc i) xs
drop_suc [] i x at = cc
drop_suc {X} (z ∷ zs) zero x at = let same : z ≡ x = cc in ap (λ (y : X). y ∷ zs) same
drop_suc (z ∷ zs) (suc i) x at = drop_suc zs i x at

drop_at : {X : Type 0} (xs : List X) (i : ℕ) (x : X) → slice_get xs i ≡ Some x → drop i xs ≡ x ∷ drop (i + 1) xs
drop_at xs i x at = rw add-one (drop_suc xs i x at)

snoc_same : {X : Type 0} (xs ys : List X) (x y : X) → xs ++ x ∷ [] ≡ ys ++ y ∷ [] → (xs ≡ ys) × (x ≡ y)
snoc_same [] [] x y same = (refl, cc)
snoc_same [] (z ∷ []) x y same = cc
snoc_same [] (z ∷ (w ∷ ys)) x y same = cc
snoc_same (z ∷ []) [] x y same = cc
snoc_same (z ∷ (w ∷ xs)) [] x y same = cc
snoc_same {X} (z ∷ xs) (w ∷ ys) x y same =
    let rest : xs ++ x ∷ [] ≡ ys ++ y ∷ [] = cc in
    let both = snoc_same xs ys x y rest in
    let heads : z ≡ w = cc in
    (ap (λ (v : X). v ∷ xs) heads ∙ ap (λ (l : List X). w ∷ l) both.0, both.1)

nil_snoc : {X : Type 0} (xs : List X) (x : X) → xs ++ x ∷ [] ≡ [] → ⊥
nil_snoc [] x same = cc
nil_snoc (z ∷ zs) x same = cc

snoc_cases : {X : Type 0} (xs : List X) → (xs ≡ []) ⊎ ((ys : List X) × (y : X) × (xs ≡ ys ++ y ∷ []))
snoc_cases [] = inl refl
snoc_cases {X} (z ∷ zs) = elim (snoc_cases zs) [
  | inl none ↦ inr ([], z, ap (λ (l : List X). z ∷ l) none)
  | inr some ↦ inr (z ∷ some.0, some.1, ap (λ (l : List X). z ∷ l) some.2)
]

-- ---- types and their parts

pub kind_is : (types : List TypeDef) (t : ℕ) (def : TypeDef) → slice_get types t ≡ Some def → kind_at types t ≡ def.kind
kind_is types t def at = ap (λ (o : Option TypeDef). option_map_or (λ (d : TypeDef). d.kind) o kind.Unknown) at

module _ (types : List TypeDef) (acyclic : IsAcyclic (type_references types)) where
  -- the structure of a type by its kind
  pub structure_is : (matched : ℕ → Option ℕ) (t : ℕ) → t < length types → structure types matched t ≡ kind_features types matched (structure types matched) (kind_at types t)
  structure_is matched t below =
      let def = there_is types t below in
      structure_at types matched acyclic t def.0 below def.1 ∙ ap (kind_features types matched (structure types matched)) (sym (kind_is types t def.0 def.1))

  -- what a part of a type names is there
  pub parts_there : (t i : ℕ) (p : KindPart) → t < length types → slice_get (kind_parts (kind_at types t)) i ≡ Some p → AreThere types p.ty
  parts_there t i p below at u has =
      let def = there_is types t below in
      let refers : Contains (referred (kind_at types t)) u = part_refers (kind_at types t) p u (contained (kind_parts (kind_at types t)) i p at) has in
      let row : Contains (direct (type_references types) t) u =
      subst (λ (ids : List ℕ). Contains ids u) (sym (references_at types t def.0 def.1)) (subst (λ (k : TypeDefKind). Contains (referred k) u) (kind_is types t def.0 def.1) refers) in
      omega (arith, All-contains (λ j. j < length (type_references types)) (direct (type_references types) t) u (acyclic.in_range t) row, length-references types)

  -- a type has features, and so has what a part holds
  pub structure_some : (matched : ℕ → Option ℕ) (t : ℕ) → t < length types → 0 < length (structure types matched t)
  structure_some matched t below = rw (structure_is matched t below) (omega arith)

  pub held_some : (matched : ℕ → Option ℕ) (ty : Option Type_) → AreThere types ty → 0 < length (held_features types matched (structure types matched) ty)
  held_some matched None there = omega arith
  held_some matched (Some (type.Id t)) there = by (is_named types t)
    where
      by : (b : Bool) → 0 < length (if b then here (named (matched t)) ∷ [] else structure types matched t)
      by true = omega arith
      by false = structure_some matched t (there t (0, omega arith, refl))
  held_some matched (Some ty) there = omega arith

-- ---- frames

module _ (s : Sides) where
  -- the parts of the two types of a frame
  abbrev from_parts : Frame → List KindPart
  from_parts f = kind_parts (kind_at s.from.now f.from)

  abbrev into_parts : Frame → List KindPart
  into_parts f = kind_parts (kind_at s.into.now f.into)

  abbrev from_features : KindPart → List Feature
  from_features = part_features s.from.now (matched_by s) (from_structure s)

  abbrev into_features : KindPart → List Feature
  into_features = part_features s.into.now Some (into_structure s)

  -- the frame at its next part
  abbrev pub next_frame : Frame → Frame
  next_frame f = record { from = f.from; into = f.into; next = f.next + 1 }

  -- the parts of a frame up to the next are the same
  pub record AgreeBefore (f : Frame) : Type 0 where
    pub from : f.from < length s.from.now
    pub into : f.into < length s.into.now
    pub heads : head_features (kind_at s.from.now f.from) ≡ head_features (kind_at s.into.now f.into)
    pub within : f.next ≤ length (from_parts f)
    pub before : flat_map from_features (take f.next (from_parts f)) ≡ flat_map into_features (take f.next (into_parts f))

  -- the next part of a frame, on both sides
  pub record NextPart (f : Frame) : Type 0 where
    pub one : KindPart
    pub other : KindPart
    pub one_is : slice_get (from_parts f) f.next ≡ Some one
    pub other_is : slice_get (into_parts f) f.next ≡ Some other
    pub step : one.step ≡ other.step
    pub step_is : step_at (kind_at s.from.now f.from) f.next ≡ one.step

  -- the names in a head
  names_in : List Feature → Content
  names_in [] = absent
  names_in (a ∷ []) = a.content
  names_in (a ∷ (b ∷ fs)) = b.content

  head_steps : (k k' : TypeDefKind) → head_features k ≡ head_features k' → steps_of k ≡ steps_of k'
  unfolding names_in
  head_steps k k' same = let both : names (steps_of k) ≡ names (steps_of k') = ap names_in same in cc

  parts_long : (k k' : TypeDefKind) → head_features k ≡ head_features k' → length (kind_parts k) ≡ length (kind_parts k')
  parts_long k k' same =
      sym (length-map (kind_parts k) (λ (p : KindPart). p.step)) ∙ (ap (λ (steps : List (List ℕ)). length steps) (head_steps k k' same) ∙ length-map (kind_parts k') (λ (p : KindPart). p.step))

  step_of : (k : TypeDefKind) (i : ℕ) (p : KindPart) → slice_get (kind_parts k) i ≡ Some p → slice_get (steps_of k) i ≡ Some p.step
  step_of k i p at = slice_get-map (λ (q : KindPart). q.step) (kind_parts k) i ∙ ap (λ (o : Option KindPart). option_map (λ (q : KindPart). q.step) o) at

  pub next_part : (f : Frame) → AgreeBefore f → f.next < length (from_parts f) → NextPart f
  next_part f agree more =
      let one = there_is (from_parts f) f.next more in
      let other = there_is (into_parts f) f.next (omega (arith, more, parts_long (kind_at s.from.now f.from) (kind_at s.into.now f.into) agree.heads)) in
      let from_step = step_of (kind_at s.from.now f.from) f.next one.0 one.1 in
      let into_step = step_of (kind_at s.into.now f.into) f.next other.0 other.1 in
      let steps = head_steps (kind_at s.from.now f.from) (kind_at s.into.now f.into) agree.heads in
      let both : Some one.0.step ≡ Some other.0.step = sym from_step ∙ (ap (λ (l : List (List ℕ)). slice_get l f.next) steps ∙ into_step) in
      record {
        one = one.0;
        other = other.0;
        one_is = one.1;
        other_is = other.1;
        step = cc;
        step_is = ap (λ (o : Option (List ℕ)). unwrap_or o []) from_step;
      }

  -- the next part is the same
  pub agree_next : (f : Frame) → AgreeBefore f → (p : NextPart f) → from_held s p.one.ty ≡ into_held s p.other.ty → AgreeBefore (next_frame f)
  agree_next f agree p same = record {
    from = agree.from;
    into = agree.into;
    heads = agree.heads;
    within = omega (arith, slice_get_within (from_parts f) f.next p.one p.one_is);
    before =
        rw (take-next_at (from_parts f) f.next p.one p.one_is, take-next_at (into_parts f) f.next p.other p.other_is, flat_map-append from_features (take f.next (from_parts f)) (p.one ∷ []), flat_map-append into_features (take f.next (into_parts f)) (p.other ∷ []))
        (ap (λ (l : List Feature). l ++ (from_features p.one ++ [])) agree.before
        ∙ ap (λ (l : List Feature). flat_map into_features (take f.next (into_parts f)) ++ (l ++ []))
        (ap (λ (step : List ℕ). map (within step) (from_held s p.one.ty)) p.step ∙ ap (λ (l : List Feature). map (within p.other.step) l) same));
  }

  -- what a part holds first differs, so its types do, a step further out
  pub differ_at : AreSides s → (f : Frame) → AgreeBefore f → (p : NextPart f) → (x y : Feature) → FirstDifference (from_held s p.one.ty) (into_held s p.other.ty) x y
      → FirstDifference (from_structure s f.from) (into_structure s f.into) (within (frame_step s (next_frame f)) x) (within (frame_step s (next_frame f)) y)
  differ_at sides f agree p x y d =
      let parts : FirstDifference (from_features p.one ++ flat_map from_features (drop (suc f.next) (from_parts f))) (into_features p.other ++ flat_map into_features (drop (suc f.next) (into_parts f))) (within p.one.step x) (within p.one.step y) =
      first_front (from_features p.one) (into_features p.other) _ _ (within p.one.step x) (within p.one.step y)
      (subst (λ (step : List ℕ). FirstDifference (from_features p.one) (map (within step) (into_held s p.other.ty)) (within p.one.step x) (within p.one.step y)) p.step (first_within p.one.step (from_held s p.one.ty) (into_held s p.other.ty) x y d)) in
      let behind = first_behind (flat_map from_features (take f.next (from_parts f))) (flat_map into_features (take f.next (into_parts f))) _ _ _ _ agree.before parts in
      let whole = first_behind (head_features (kind_at s.from.now f.from)) (head_features (kind_at s.into.now f.into)) _ _ _ _ agree.heads behind in
      let from_is : from_structure s f.from ≡ head_features (kind_at s.from.now f.from) ++ (flat_map from_features (take f.next (from_parts f)) ++ (from_features p.one ++ flat_map from_features (drop (suc f.next) (from_parts f)))) =
      structure_is s.from.now sides.from (matched_by s) f.from agree.from
      ∙ ap (λ (l : List Feature). head_features (kind_at s.from.now f.from) ++ l)
      (ap (flat_map from_features) (split_at (from_parts f) f.next p.one p.one_is) ∙ flat_map-append from_features (take f.next (from_parts f)) (p.one ∷ drop (suc f.next) (from_parts f))) in
      let into_is : into_structure s f.into ≡ head_features (kind_at s.into.now f.into) ++ (flat_map into_features (take f.next (into_parts f)) ++ (into_features p.other ++ flat_map into_features (drop (suc f.next) (into_parts f)))) =
      structure_is s.into.now sides.into Some f.into agree.into
      ∙ ap (λ (l : List Feature). head_features (kind_at s.into.now f.into) ++ l)
      (ap (flat_map into_features) (split_at (into_parts f) f.next p.other p.other_is) ∙ flat_map-append into_features (take f.next (into_parts f)) (p.other ∷ drop (suc f.next) (into_parts f))) in
      let step_is : p.one.step ≡ frame_step s (next_frame f) = sym p.step_is ∙ ap (λ (i : ℕ). step_at (kind_at s.from.now f.from) i) (omega arith) in
      subst (λ (step : List ℕ). FirstDifference (from_structure s f.from) (into_structure s f.into) (within step x) (within step y)) step_is
      (subst (λ (l : List Feature). FirstDifference l (into_structure s f.into) (within p.one.step x) (within p.one.step y)) (sym from_is)
      (subst (λ (l : List Feature). FirstDifference (head_features (kind_at s.from.now f.from) ++ (flat_map from_features (take f.next (from_parts f)) ++ (from_features p.one ++ flat_map from_features (drop (suc f.next) (from_parts f))))) l (within p.one.step x) (within p.one.step y)) (sym into_is) whole))

  -- all parts are the same, so the types are
  pub agree_all : AreSides s → (f : Frame) → AgreeBefore f → length (from_parts f) ≤ f.next → from_structure s f.from ≡ into_structure s f.into
  agree_all sides f agree done =
      let from_all = take_all f.next (from_parts f) done in
      let into_all = take_all f.next (into_parts f) (omega (arith, done, parts_long (kind_at s.from.now f.from) (kind_at s.into.now f.into) agree.heads)) in
      let parts : flat_map from_features (from_parts f) ≡ flat_map into_features (into_parts f) = ap (flat_map from_features) (sym from_all) ∙ (agree.before ∙ ap (flat_map into_features) into_all) in
      structure_is s.from.now sides.from (matched_by s) f.from agree.from
      ∙ (ap (λ (l : List Feature). l ++ flat_map from_features (from_parts f)) agree.heads
      ∙ (ap (λ (l : List Feature). head_features (kind_at s.into.now f.into) ++ l) parts ∙ sym (structure_is s.into.now sides.into Some f.into agree.into)))

  pub agree_none : (t t' : ℕ) → t < length s.from.now → t' < length s.into.now → head_features (kind_at s.from.now t) ≡ head_features (kind_at s.into.now t') → AgreeBefore (record { from = t; into = t'; next = 0 })
  agree_none t t' below below' heads = record { from = below; into = below'; heads = heads; within = omega arith; before = refl }

  -- ---- stacks

  -- a frame is at a part that holds two types without names, and the parts before it are the same
  pub record Enters (f : Frame) (v v' : ℕ) : Type 0 where
    pub at : Frame
    pub agree : AgreeBefore at
    pub part : NextPart at
    pub held : from_held s part.one.ty ≡ from_structure s v
    pub held' : into_held s part.other.ty ≡ into_structure s v'
    pub frame_is : f ≡ next_frame at

  -- frames lead from two types to two others
  abbrev pub Leads : List Frame → ℕ → ℕ → ℕ → ℕ → Type 0
  Leads [] r r' u u' = (r ≡ u) × (r' ≡ u')
  Leads (f ∷ fs) r r' u u' = (f.from ≡ r) × (f.into ≡ r') × (v : ℕ) × (v' : ℕ) × Enters f v v' × Leads fs v v' u u'

  leads_push : (fs : List Frame) (f : Frame) (r r' v v' : ℕ) → Leads fs r r' f.from f.into → Enters f v v' → Leads (fs ++ f ∷ []) r r' v v'
  leads_push [] f r r' v v' leads enters = (sym leads.0, sym leads.1, v, v', enters, (refl, refl))
  leads_push (g ∷ fs) f r r' v v' leads enters = (leads.0, leads.1, leads.2, leads.3, leads.4, leads_push fs f leads.2 leads.3 v v' leads.5 enters)

  leads_pop : (fs : List Frame) (f : Frame) (r r' u u' : ℕ) → Leads (fs ++ f ∷ []) r r' u u' → Leads fs r r' f.from f.into × Enters f u u'
  leads_pop [] f r r' u u' leads =
      ((sym leads.0, sym leads.1), subst (λ (v : ℕ). Enters f v u') leads.5.0 (subst (λ (v' : ℕ). Enters f leads.2 v') leads.5.1 leads.4))
  leads_pop (g ∷ fs) f r r' u u' leads =
      let more = leads_pop fs f leads.2 leads.3 u u' leads.5 in
      ((leads.0, leads.1, leads.2, leads.3, leads.4, more.0), more.1)

  -- a feature behind steps
  abbrev behind_steps : List (List ℕ) → Feature → Feature
  behind_steps [] x = x
  behind_steps (step ∷ steps) x = within step (behind_steps steps x)

  behind_here : (steps : List (List ℕ)) (x : Feature) → x.path ≡ [] → behind_steps steps x ≡ record { path = steps; content = x.content }
  behind_here [] x none = ap (λ (path : List (List ℕ)). record { path = path; content = x.content }) none
  behind_here (step ∷ steps) x none = ap (within step) (behind_here steps x none)

  behind_last : (steps : List (List ℕ)) (step : List ℕ) (x : Feature) → behind_steps (steps ++ step ∷ []) x ≡ behind_steps steps (within step x)
  behind_last [] step x = refl
  behind_last (first ∷ steps) step x = ap (within first) (behind_last steps step x)

  leads_differ : AreSides s → (fs : List Frame) (r r' u u' : ℕ) → Leads fs r r' u u' → (x y : Feature) → FirstDifference (from_structure s u) (into_structure s u') x y
      → FirstDifference (from_structure s r) (into_structure s r') (behind_steps (path_of s fs) x) (behind_steps (path_of s fs) y)
  leads_differ sides [] r r' u u' leads x y d =
      subst (λ (v : ℕ). FirstDifference (from_structure s v) (into_structure s r') x y) (sym leads.0) (subst (λ (v' : ℕ). FirstDifference (from_structure s u) (into_structure s v') x y) (sym leads.1) d)
  leads_differ sides (f ∷ fs) r r' u u' leads x y d =
      let enters = leads.4 in
      let inner = leads_differ sides fs leads.2 leads.3 u u' leads.5 x y d in
      let x' = behind_steps (path_of s fs) x in
      let y' = behind_steps (path_of s fs) y in
      let held : FirstDifference (from_held s enters.part.one.ty) (into_held s enters.part.other.ty) x' y' =
      subst (λ (l : List Feature). FirstDifference l (into_held s enters.part.other.ty) x' y') (sym enters.held) (subst (λ (l : List Feature). FirstDifference (from_structure s leads.2) l x' y') (sym enters.held') inner) in
      let outer = differ_at sides enters.at enters.agree enters.part x' y' held in
      let here_is : FirstDifference (from_structure s f.from) (into_structure s f.into) (within (frame_step s f) x') (within (frame_step s f) y') =
      subst (λ (g : Frame). FirstDifference (from_structure s g.from) (into_structure s g.into) (within (frame_step s g) x') (within (frame_step s g) y')) (sym enters.frame_is) outer in
      subst (λ (v : ℕ). FirstDifference (from_structure s v) (into_structure s r') (within (frame_step s f) x') (within (frame_step s f) y')) leads.0
      (subst (λ (v' : ℕ). FirstDifference (from_structure s f.from) (into_structure s v') (within (frame_step s f) x') (within (frame_step s f) y')) leads.1 here_is)

  -- the frames are at parts
  at_part : (f : Frame) → AgreeBefore f → f.next < length (from_parts f) → IsAtPart s (next_frame f)
  at_part f agree more = record { from = agree.from; into = agree.into; begun = omega arith; within = omega (arith, more) }

  enters_at : (f : Frame) (v v' : ℕ) → Enters f v v' → IsAtPart s f
  enters_at f v v' enters = subst (IsAtPart s) (sym enters.frame_is) (at_part enters.at enters.agree (slice_get_within (from_parts enters.at) enters.at.next enters.part.one enters.part.one_is))

  leads_at : (fs : List Frame) (r r' u u' : ℕ) → Leads fs r r' u u' → AreAtParts s fs
  leads_at [] r r' u u' leads i f at = cc
  leads_at (g ∷ fs) r r' u u' leads zero f at = let same : g ≡ f = cc in subst (IsAtPart s) same (enters_at g leads.2 leads.3 leads.4)
  leads_at (g ∷ fs) r r' u u' leads (suc i) f at = leads_at fs leads.2 leads.3 u u' leads.5 i f at

  -- what a stack says of the two types with which it began
  pub record IsWalking (r r' : ℕ) (stack : List Frame) : Type 0 where
    pub none : stack ≡ [] → from_structure s r ≡ into_structure s r'
    pub some : (fs : List Frame) (f : Frame) → stack ≡ fs ++ f ∷ [] → Leads fs r r' f.from f.into × AgreeBefore f

  walking : (r r' : ℕ) (fs : List Frame) (f : Frame) → Leads fs r r' f.from f.into → AgreeBefore f → IsWalking r r' (fs ++ f ∷ [])
  walking r r' fs f leads agree = record {
    none = λ same. absurd (nil_snoc fs f same);
    some = λ gs g same.
        let both = snoc_same fs gs f g same in (
          subst (λ (l : List Frame). Leads l r r' g.from g.into) both.0 (subst (λ (h : Frame). Leads fs r r' h.from h.into) both.1 leads),
          subst AgreeBefore both.1 agree,
        );
  }

  pub walk_start : (r r' : ℕ) → r < length s.from.now → r' < length s.into.now → head_features (kind_at s.from.now r) ≡ head_features (kind_at s.into.now r')
      → IsWalking r r' (record { from = r; into = r'; next = 0 } ∷ [])
  walk_start r r' below below' heads = walking r r' [] (record { from = r; into = r'; next = 0 }) (refl, refl) (agree_none r r' below below' heads)

  module _ (r r' : ℕ) (fs : List Frame) (f : Frame) (post_order : IsWalking r r' (fs ++ f ∷ [])) where
    abbrev pub led : Leads fs r r' f.from f.into × AgreeBefore f
    led = post_order.some fs f refl

    -- the part is the same
    pub walk_same : (p : NextPart f) → from_held s p.one.ty ≡ into_held s p.other.ty → IsWalking r r' (fs ++ next_frame f ∷ [])
    walk_same p same = walking r r' fs (next_frame f) led.0 (agree_next f led.1 p same)

    -- it holds types without names
    pub walk_enter : (p : NextPart f) (v v' : ℕ) → v < length s.from.now → v' < length s.into.now → from_held s p.one.ty ≡ from_structure s v → into_held s p.other.ty ≡ into_structure s v'
        → head_features (kind_at s.from.now v) ≡ head_features (kind_at s.into.now v') → IsWalking r r' ((fs ++ next_frame f ∷ []) ++ record { from = v; into = v'; next = 0 } ∷ [])
    walk_enter p v v' below below' held held' heads =
        walking r r' (fs ++ next_frame f ∷ []) (record { from = v; into = v'; next = 0 })
        (leads_push fs (next_frame f) r r' v v' led.0 (record { at = f; agree = led.1; part = p; held = held; held' = held'; frame_is = refl })) (agree_none v v' below below' heads)

    -- there is no more part
    pub walk_same_types : AreSides s → length (from_parts f) ≤ f.next → from_structure s f.from ≡ into_structure s f.into
    walk_same_types sides done = agree_all sides f led.1 done

    pub walk_done : AreSides s → length (from_parts f) ≤ f.next → IsWalking r r' fs
    walk_done sides done = elim (snoc_cases fs) [
      | inl none ↦
          let leads : (r ≡ f.from) × (r' ≡ f.into) = subst (λ (l : List Frame). Leads l r r' f.from f.into) none led.0 in
          let same : from_structure s r ≡ into_structure s r' = ap (from_structure s) leads.0 ∙ (walk_same_types sides done ∙ ap (into_structure s) (sym leads.1)) in
          record {
            none = λ is. same;
            some = λ gs g is. absurd (nil_snoc gs g (sym is ∙ none));
          }
      | inr last ↦
          let gs = last.0 in
          let g = last.1 in
          let leads = leads_pop gs g r r' f.from f.into (subst (λ (l : List Frame). Leads l r r' f.from f.into) last.2 led.0) in
          let enters = leads.1 in
          let agree : AgreeBefore (next_frame enters.at) = agree_next enters.at enters.agree enters.part (enters.held ∙ (walk_same_types sides done ∙ sym enters.held')) in
          subst (IsWalking r r') (sym last.2) (walking r r' gs g leads.0 (subst AgreeBefore (sym enters.frame_is) agree))
    ]

    -- it differs
    pub walk_differs : AreSides s → (p : NextPart f) (a b : Content) → FirstDifference (from_held s p.one.ty) (into_held s p.other.ty) (here a) (here b)
        → FirstDifference (from_structure s r) (into_structure s r') (record { path = path_of s (fs ++ next_frame f ∷ []); content = a }) (record { path = path_of s (fs ++ next_frame f ∷ []); content = b })
    walk_differs sides p a b d =
        let step = frame_step s (next_frame f) in
        let d' = leads_differ sides fs r r' f.from f.into led.0 (within step (here a)) (within step (here b)) (differ_at sides f led.1 p (here a) (here b) d) in
        let path_is : path_of s (fs ++ next_frame f ∷ []) ≡ path_of s fs ++ step ∷ [] = map-append (frame_step s) fs (next_frame f ∷ []) in
        let is : (c : Content) → behind_steps (path_of s fs) (within step (here c)) ≡ record { path = path_of s (fs ++ next_frame f ∷ []); content = c } =
        λ c. sym (behind_last (path_of s fs) step (here c)) ∙ (behind_here (path_of s fs ++ step ∷ []) (here c) refl ∙ ap (λ (path : List (List ℕ)). record { path = path; content = c }) (sym path_is)) in
        subst (λ (x : Feature). FirstDifference (from_structure s r) (into_structure s r') x (record { path = path_of s (fs ++ next_frame f ∷ []); content = b })) (is a)
        (subst (λ (y : Feature). FirstDifference (from_structure s r) (into_structure s r') (behind_steps (path_of s fs) (within step (here a))) y) (is b) d')

    pub walk_at_parts : f.next < length (from_parts f) → AreAtParts s (fs ++ next_frame f ∷ [])
    walk_at_parts more i g at = elim (push-cases fs (next_frame f) i g at) [
      | inl old ↦ leads_at fs r r' f.from f.into led.0 i g old
      | inr new ↦ subst (IsAtPart s) (sym new.1) (at_part f led.1 more)
    ]

  -- ---- the measure

  -- the features of the parts that are left, and one for each frame
  unfoldable pub turns : List Frame → ℕ
  turns [] = 0
  turns (f ∷ fs) = 1 + length (flat_map from_features (drop f.next (from_parts f))) + turns fs

  turns_push : (fs : List Frame) (f : Frame) → turns (fs ++ f ∷ []) ≡ turns fs + (1 + length (flat_map from_features (drop f.next (from_parts f))))
  unfolding turns
  turns_push [] f = omega arith
  turns_push (g ∷ fs) f = omega (arith, turns_push fs f)

  part_left : (f : Frame) (p : NextPart f) → length (flat_map from_features (drop f.next (from_parts f))) ≡ length (from_held s p.one.ty) + length (flat_map from_features (drop (f.next + 1) (from_parts f)))
  part_left f p =
      ap (λ (l : List KindPart). length (flat_map from_features l)) (drop_at (from_parts f) f.next p.one p.one_is)
      ∙ (length-append (from_features p.one) (flat_map from_features (drop (f.next + 1) (from_parts f)))
      ∙ ap (λ (n : ℕ). n + length (flat_map from_features (drop (f.next + 1) (from_parts f)))) (length-map (from_held s p.one.ty) (within p.one.step)))

  pub turns_same : AreSides s → (fs : List Frame) (f : Frame) (p : NextPart f) → f.from < length s.from.now → turns (fs ++ next_frame f ∷ []) < turns (fs ++ f ∷ [])
  turns_same sides fs f p below =
      omega (
        arith,
        turns_push fs f,
        turns_push fs (next_frame f),
        part_left f p,
        held_some s.from.now sides.from (matched_by s) p.one.ty (parts_there s.from.now sides.from f.from f.next p.one below p.one_is),
      )

  pub turns_enter : AreSides s → (fs : List Frame) (f : Frame) (p : NextPart f) (v v' : ℕ) → v < length s.from.now → from_held s p.one.ty ≡ from_structure s v
      → turns ((fs ++ next_frame f ∷ []) ++ record { from = v; into = v'; next = 0 } ∷ []) < turns (fs ++ f ∷ [])
  turns_enter sides fs f p v v' below held =
      let child : Frame = record { from = v; into = v'; next = 0 } in
      let whole : length (from_structure s v) ≡ length (head_features (kind_at s.from.now v)) + length (flat_map from_features (from_parts child)) =
      ap (λ (l : List Feature). length l) (structure_is s.from.now sides.from (matched_by s) v below) ∙ length-append (head_features (kind_at s.from.now v)) (flat_map from_features (from_parts child)) in
      let heads : 2 ≤ length (head_features (kind_at s.from.now v)) = omega arith in
      omega (
        arith,
        turns_push fs f,
        turns_push (fs ++ next_frame f ∷ []) child,
        turns_push fs (next_frame f),
        part_left f p,
        ap (λ (l : List Feature). length l) held,
        whole,
        heads,
      )

  pub turns_done : (fs : List Frame) (f : Frame) → turns fs < turns (fs ++ f ∷ [])
  turns_done fs f = omega (arith, turns_push fs f)
