-- The turns of a comparison, by what is read of the two types on top.
use Rattle.std.proofs.Common.{◌≡◌, ◌∙◌, ℕ, ◌<◌, ◌≤◌, ◌+◌, List, [], ◌∷◌, ◌++◌, length, Option, Some, None, option_and_then, slice_get, refl, sym, ap, subst, arith}
use Rattle.wit_data.specs.declared.types.TypeDef.{TypeDef}
use Rattle.wit_data.specs.declared.types.TypeDefKind.{TypeDefKind}
use Rattle.wit_data.specs.declared.types.Type_.{Type_}
use Rattle.wit_merge_match.specs.steps.ComparisonSteps.{AreAtParts, AreSides, AreThere, Compares, DifferHere, from_held, from_structure, into_held, into_structure, kind_at, matched_by, path_of, structure_of}
use Rattle.wit_merge_spec.specs.facts.DifferenceFacts.{first_front}
use Rattle.wit_merge_match.specs.steps.Kinds.{HeadsDiffer, ending_text}
use Rattle.wit_data.specs.Kind.{kind_parts, KindPart}
use Rattle.wit_merge_spec.specs.Structure.{Content, DifferInStructure, Feature, FirstDifference, head_features, here, kind_features, path_text}
use Rattle.wit_merge_match.specs.declared.comparison.Held.TheVariants as held
use Rattle.wit_merge_match.specs.declared.comparison.Sides.{Sides}
use Rattle.wit_merge_match.specs.declared.frames.Frame.{Frame}
use Rattle.wit_merge_match.specs.declared.heads.Ending.{Ending}
use Rattle.wit_merge_match.proofs.CompareSteps.{of_from, of_into}
use Rattle.wit_merge_match.proofs.WalkSteps.{AgreeBefore, IsWalking, NextPart, kind_is, next_frame, next_part, parts_there, structure_is, turns, turns_done, turns_enter, turns_same, walk_at_parts, walk_differs, walk_done, walk_enter, walk_same, walk_same_types}

-- the heads of two types differ
pub heads_told : (s : Sides) → AreSides s → (t t' : ℕ) → t < length s.from.now → t' < length s.into.now → (e : Ending) → HeadsDiffer (kind_at s.from.now t) (kind_at s.into.now t') e → (text : List ℕ) → text ≡ ending_text e
    → DifferInStructure s.from.now s.into.now (matched_by s) t t' text
heads_told s sides t t' below below' e heads text text_is = record {
  x = here heads.a;
  y = here heads.b;
  first =
      subst (λ (l : List Feature). FirstDifference l (into_structure s t') (here heads.a) (here heads.b)) (sym (structure_is s.from.now sides.from (matched_by s) t below))
      (subst (λ (l : List Feature). FirstDifference (kind_features s.from.now (matched_by s) (from_structure s) (kind_at s.from.now t)) l (here heads.a) (here heads.b)) (sym (structure_is s.into.now sides.into Some t' below'))
      (first_front (head_features (kind_at s.from.now t)) (head_features (kind_at s.into.now t')) _ _ (here heads.a) (here heads.b) heads.first));
  text_is = text_is ∙ heads.text_is;
}

module _ (s : Sides) (sides : AreSides s) (r r' : ℕ) (fs : List Frame) (f : Frame) (post_order : IsWalking s r r' (fs ++ f ∷ [])) where
  agree : AgreeBefore s f
  agree = (post_order.some fs f refl).1

  pub turn_from : f.from < length s.from.now
  turn_from = agree.from

  pub turn_into : f.into < length s.into.now
  turn_into = agree.into

  -- ---- there is a next part

  module _ (def def' : TypeDef) (at : slice_get s.from.now f.from ≡ Some def) (at' : slice_get s.into.now f.into ≡ Some def') (more : f.next < length (kind_parts def.kind)) (one other : Option Type_)
      (one_is : one ≡ option_and_then (λ (p : KindPart). p.ty) (slice_get (kind_parts def.kind) f.next))
      (other_is : other ≡ option_and_then (λ (p : KindPart). p.ty) (slice_get (kind_parts def'.kind) f.next)) where
    more_parts : f.next < length (kind_parts (kind_at s.from.now f.from))
    more_parts = subst (λ (k : TypeDefKind). f.next < length (kind_parts k)) (sym (kind_is s.from.now f.from def at)) more

    next : NextPart s f
    next = next_part s f agree more_parts

    one_held : one ≡ next.one.ty
    one_held =
        one_is
        ∙ (ap (λ (k : TypeDefKind). option_and_then (λ (p : KindPart). p.ty) (slice_get (kind_parts k) f.next)) (sym (kind_is s.from.now f.from def at)) ∙ ap (λ (o : Option KindPart). option_and_then (λ (p : KindPart). p.ty) o) next.one_is)

    other_held : other ≡ next.other.ty
    other_held =
        other_is
        ∙ (ap (λ (k : TypeDefKind). option_and_then (λ (p : KindPart). p.ty) (slice_get (kind_parts k) f.next)) (sym (kind_is s.into.now f.into def' at')) ∙ ap (λ (o : Option KindPart). option_and_then (λ (p : KindPart). p.ty) o) next.other_is)

    pub one_there : AreThere s.from.now one
    one_there = subst (λ (o : Option Type_). AreThere s.from.now o) (sym one_held) (parts_there s.from.now sides.from f.from f.next next.one agree.from next.one_is)

    pub other_there : AreThere s.into.now other
    other_there = subst (λ (o : Option Type_). AreThere s.into.now o) (sym other_held) (parts_there s.into.now sides.into f.into f.next next.other agree.into next.other_is)

    pub turn_same : from_held s one ≡ into_held s other → IsWalking s r r' (fs ++ next_frame s f ∷ [])
    turn_same same = walk_same s r r' fs f post_order next (ap (from_held s) (sym one_held) ∙ (same ∙ ap (into_held s) other_held))

    pub smaller_same : turns s (fs ++ next_frame s f ∷ []) < turns s (fs ++ f ∷ [])
    smaller_same = turns_same s sides fs f next agree.from

    pub turn_apart : (e : Ending) → DifferHere (from_held s one) (into_held s other) e → (text : List ℕ) → text ≡ path_text (path_of s (fs ++ next_frame s f ∷ [])) ++ ending_text e
        → DifferInStructure s.from.now s.into.now (matched_by s) r r' text
    turn_apart e d text text_is = record {
      x = record { path = path_of s (fs ++ next_frame s f ∷ []); content = d.a };
      y = record { path = path_of s (fs ++ next_frame s f ∷ []); content = d.b };
      first =
          walk_differs s r r' fs f post_order sides next d.a d.b
          (subst (λ (o : Option Type_). FirstDifference (from_held s o) (into_held s next.other.ty) (here d.a) (here d.b)) one_held
          (subst (λ (o : Option Type_). FirstDifference (from_held s one) (into_held s o) (here d.a) (here d.b)) other_held d.first));
      text_is = text_is ∙ ap (λ (l : List ℕ). path_text (path_of s (fs ++ next_frame s f ∷ [])) ++ l) d.text_is;
    }

    pub turn_enter : (v v' : ℕ) → Compares s one other (held.Unnamed v v') → IsWalking s r r' ((fs ++ next_frame s f ∷ []) ++ record { from = v; into = v'; next = 0 } ∷ [])
    turn_enter v v' enters =
        walk_enter s r r' fs f post_order next v v' enters.0 enters.1 (ap (from_held s) (sym one_held) ∙ enters.2) (ap (into_held s) (sym other_held) ∙ enters.3) enters.4

    pub smaller_enter : (v v' : ℕ) → Compares s one other (held.Unnamed v v') → turns s ((fs ++ next_frame s f ∷ []) ++ record { from = v; into = v'; next = 0 } ∷ []) < turns s (fs ++ f ∷ [])
    smaller_enter v v' enters = turns_enter s sides fs f next v v' enters.0 (ap (from_held s) (sym one_held) ∙ enters.2)

    pub turn_parts : AreAtParts s (fs ++ next_frame s f ∷ [])
    turn_parts = walk_at_parts s r r' fs f post_order more_parts

  -- ---- there is none

  module _ (def : TypeDef) (at : slice_get s.from.now f.from ≡ Some def) (none_left : length (kind_parts def.kind) ≤ f.next) where
    done : length (kind_parts (kind_at s.from.now f.from)) ≤ f.next
    done = subst (λ (k : TypeDefKind). length (kind_parts k) ≤ f.next) (sym (kind_is s.from.now f.from def at)) none_left

    pub turn_done : IsWalking s r r' fs
    turn_done = walk_done s r r' fs f post_order sides done

    -- so the two are of one class
    pub turn_alike : (count : ℕ) → count ≡ length s.from.now → structure_of s f.from ≡ structure_of s (count + f.into)
    turn_alike count count_is =
        of_from s sides f.from f.into agree.from
        ∙ (walk_same_types s r r' fs f post_order sides done ∙ (sym (of_into s sides f.from f.into) ∙ sym (ap (λ (n : ℕ). structure_of s (n + f.into)) count_is)))

    pub smaller_done : turns s fs < turns s (fs ++ f ∷ [])
    smaller_done = turns_done s fs f
