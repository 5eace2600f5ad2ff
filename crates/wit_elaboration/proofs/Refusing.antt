-- From what a search found to the clauses of an elaboration.
use Rattle.std.proofs.Common.{◌≡◌, ℕ, zero, suc, ◌<◌, List, [], ◌∷◌, ◌++◌, take, drop, length, Ok, Err, Some, None, slice_get, refl, sym, ap, ◌∙◌, subst, arith, All}
use Rattle.std.specs.declared.result.Result.{Result}
use Rattle.std.specs.Result.{OnOk}
use Rattle.std.proofs.lemmas.List.{length-map}
use Rattle.wit_data.specs.Uses.{interface_uses}
use Rattle.wit_data.specs.declared.world.World.{World}
use Rattle.wit_digraph.specs.Relation.{IsAcyclic}
use Rattle.wit_graph_data.specs.declared.graph.Graph.{Graph}
use Rattle.wit_graph_data.specs.declared.error_kind.ResolveErrorKind.{ResolveErrorKind}
use Rattle.wit_elaboration.specs.steps.Elaborating.{IsFirstConflict}
use Rattle.wit_elaboration.specs.Elaboration.{graph_uses, HasConflictAt, IsConflictError}
use Rattle.wit_elaboration.specs.steps.Elaboration.{IsErrorAt}
use Rattle.wit_elaboration.specs.Entries.{Entry}
use Rattle.wit_graph_data.specs.IdText.{key_text}
use Rattle.wit_data.specs.Each.{First}
use Rattle.wit_elaboration.specs.Imported.{HasTransitiveConflict, IsEntryInConflict, IsRefusedKey, IsRefusedName}
use Rattle.wit_elaboration.specs.Sound.{HasSoundEntries}
use Rattle.wit_elaboration.proofs.ConflictIs.{conflict_found, conflict_from}
use Rattle.wit_elaboration.proofs.ElaboratedIs.{interfaces_below, keys_below, own_keys}
use Rattle.wit_elaboration.proofs.Marking.{contains_at}
use Rattle.wit_elaboration.proofs.Roles.{in_order}
use Rattle.wit_elaboration.specs.steps.Parts.{exported_keys, exported_interfaces}

-- what is always so is so of each result that is `Ok`
pub always_ok : {T E : Type 0} (r : Result T E) (P : Type 0) → P → OnOk r P
always_ok (Ok x) P holds = holds
always_ok (Err e) P holds = tt

pub below_from_get : {X : Type 0} (xs : List X) (i : ℕ) (x : X) → slice_get xs i ≡ Some x → i < length xs
below_from_get [] i x at = cc
below_from_get (z ∷ zs) zero x at = omega arith
below_from_get (z ∷ zs) (suc i) x at = omega (arith, below_from_get zs i x at)

-- a list about one of its places
split_at : {X : Type 0} (xs : List X) (i : ℕ) (x : X) → slice_get xs i ≡ Some x → xs ≡ take i xs ++ x ∷ drop (suc i) xs
split_at [] i x at = cc
split_at (z ∷ zs) zero x at = let same : z ≡ x = cc in ap (λ y. y ∷ zs) same
split_at (z ∷ zs) (suc i) x at = ap (λ l. z ∷ l) (split_at zs i x at)

-- the same lists, in order over the rows
pub listed_over : (g : Graph) (uses : List (List ℕ)) (w : World) → uses ≡ graph_uses g → HasSoundEntries g.types (length g.interfaces) w.imports w.exports → HasSoundEntries g.types (length uses) w.imports w.exports
listed_over g uses w uses_are listed =
    subst (λ n. HasSoundEntries g.types n w.imports w.exports) (sym (ap length uses_are ∙ length-map g.interfaces (interface_uses g.types))) listed

module _ (g : Graph) (uses : List (List ℕ)) (w : World) (acyclic : IsAcyclic uses) (listed : HasSoundEntries g.types (length uses) w.imports w.exports) where
  pub interfaces_in_range : All (λ i. i < length uses) (exported_interfaces w.exports)
  interfaces_in_range = interfaces_below g.types uses acyclic w.imports w.exports (in_order g.types (length uses) w.imports w.exports listed)

  pub keys_in_range : All (λ i. i < length uses) (exported_keys w.exports)
  keys_in_range = keys_below g.types uses acyclic w.imports w.exports (in_order g.types (length uses) w.imports w.exports listed)

  -- the refusal that a search found has its cause
  pub conflict_cause : uses ≡ graph_uses g → (at : ℕ) (e : ResolveErrorKind) → IsFirstConflict uses w.exports (Some at) → IsErrorAt g w at e → IsConflictError g w e
  conflict_cause uses_are at e found error =
      let own = own_keys g.types uses acyclic w.imports w.exports (in_order g.types (length uses) w.imports w.exports listed) in
      let same : found.0 ≡ error.0 = one_at w.exports at found.0 error.0 found.1 error.1 in
      let conflict = conflict_from uses w.exports own found.0 (contains_at w.exports at found.0 found.1) found.2 in
      let first : First (IsEntryInConflict uses w.exports) w.exports found.0 = record {
        before = take at w.exports;
        after = drop (suc at) w.exports;
        are = split_at w.exports at found.0 found.1;
        earlier = found.3;
        is = found.2;
      } in
      let refused : IsRefusedKey uses w.exports error.0.0 = (found.0, first, ap (λ (f : Entry). f.0) (sym same)) in
      let named : IsRefusedName g.packages g.interfaces uses w.exports (key_text g.packages g.interfaces error.0.0) = (error.0.0, refused, refl) in (
        key_text g.packages g.interfaces error.0.0,
        error.2,
        subst (λ us. HasTransitiveConflict us w.exports) uses_are conflict,
        subst (λ us. IsRefusedName g.packages g.interfaces us w.exports (key_text g.packages g.interfaces error.0.0)) uses_are named,
      )
    where
      one_at : (es : List Entry) (i : ℕ) (a b : Entry) → slice_get es i ≡ Some a → slice_get es i ≡ Some b → a ≡ b
      one_at es i a b first second = cc

-- where no export is in conflict there is none
pub none_found : (uses : List (List ℕ)) (exports : List Entry) → IsFirstConflict uses exports None → HasTransitiveConflict uses exports → ⊥
none_found uses exports none conflict = let found = conflict_found uses exports conflict in none found.0 found.1 found.2

-- a world without a conflict has none at its place
pub no_conflict_at : (g : Graph) (id : ℕ) (world : World) → slice_get g.worlds id ≡ Some world → (HasTransitiveConflict (graph_uses g) world.exports → ⊥) → HasConflictAt g id → ⊥
no_conflict_at g id world there none conflict = none (subst (λ (w : World). HasTransitiveConflict (graph_uses g) w.exports) (one_world g.worlds id conflict.0 world conflict.1 there) conflict.2)
  where
    one_world : (ws : List World) (i : ℕ) (a b : World) → slice_get ws i ≡ Some a → slice_get ws i ≡ Some b → a ≡ b
    one_world ws i a b first second = cc
