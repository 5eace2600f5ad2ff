-- Facts on what leads to resources, and on places that pass.
use Rattle.std.proofs.Common.{◌≡◌, ◌∙◌, ℕ, zero, suc, ◌+◌, ◌||◌, Bool, true, false, List, [], ◌∷◌, ◌++◌, map, filter, length, cond, Option, None, Some, slice_get, refl, ap}
use Rattle.std.specs.List.{enumerate_from, flat_map, list_any, range_with_len}
use Rattle.std.specs.Option.{option_map_or, option_to_list}
use Rattle.std.proofs.lemmas.Option.{get_or_from_slice_get}
use Rattle.wit_digraph.specs.Relation.{direct}
use Rattle.wit_digraph.specs.PostOrder.{post_order, post_order_within}
use Rattle.wit_data.specs.Ownership.{IsPlain}
use Rattle.wit_data.specs.Uses.{alias_target, alias_rows}
use Rattle.wit_data.specs.declared.types.TypeDef.{TypeDef}
use Rattle.wit_data.specs.declared.types.TypeDefKind.{TypeDefKind}
use Rattle.wit_data.specs.declared.types.TypeDefKind.TheVariants as kind
use Rattle.wit_graph_theory.specs.facts.ListFacts.{at_map}
use Rattle.wit_remap_spec.specs.Resources.{is_resource, is_resource_kind, leads_to_resource}

-- a type that is neither an alias nor a resource leads to none
plain_is : (k : TypeDefKind) → IsPlain k → (alias_target k ≡ None) × (is_resource_kind k ≡ false)
plain_is kind.Resource plain = absurd plain
plain_is (kind.Type_ ty) plain = absurd plain
plain_is other plain = (refl, refl)

pub leads_nowhere : (types : List TypeDef) (t : ℕ) (def : TypeDef) → slice_get types t ≡ Some def → IsPlain def.kind → leads_to_resource types t ≡ false
unfolding post_order post_order_within
leads_nowhere types t def at plain = within (length (alias_rows types))
  where
    none : direct (alias_rows types) t ≡ []
    none =
        get_or_from_slice_get (alias_rows types) t (option_to_list (alias_target def.kind)) [] (at_map (λ (def : TypeDef). option_to_list (alias_target def.kind)) types t def at)
        ∙ ap (λ (o : Option ℕ). option_to_list o) (plain_is def.kind plain).0

    here : is_resource types t ≡ false
    here = ap (λ (o : Option TypeDef). option_map_or (λ (def : TypeDef). is_resource_kind def.kind) o false) at ∙ (plain_is def.kind plain).1

    within : (members : ℕ) → list_any (is_resource types) (post_order_within (alias_rows types) members t) ≡ false
    within zero = refl
    within (suc members) =
        ap (λ (d : List ℕ). list_any (is_resource types) (flat_map (post_order_within (alias_rows types) members) d ++ t ∷ [])) none
        ∙ ap (λ (b : Bool). b || false) here

-- the places of what passes, one after another
pub filtered_range : {X : Type 0} (p : ℕ → Bool) (xs : List X) (n : ℕ) → filter p (range_with_len n (length xs)) ≡ map (λ (e : ℕ × X). e.0) (filter (λ (e : ℕ × X). p e.0) (enumerate_from n xs))
filtered_range p [] n = refl
filtered_range {X} p (x ∷ xs) n = by (p n) (filtered_range p xs (n + 1))
  where
    by : (b : Bool) → filter p (range_with_len (n + 1) (length xs)) ≡ map (λ (e : ℕ × X). e.0) (filter (λ (e : ℕ × X). p e.0) (enumerate_from (n + 1) xs))
        → cond b (n ∷ filter p (range_with_len (n + 1) (length xs))) (filter p (range_with_len (n + 1) (length xs)))
        ≡ map (λ (e : ℕ × X). e.0) (cond b ((n, x) ∷ filter (λ (e : ℕ × X). p e.0) (enumerate_from (n + 1) xs)) (filter (λ (e : ℕ × X). p e.0) (enumerate_from (n + 1) xs)))
    by true old = ap (λ l. n ∷ l) old
    by false old = old
