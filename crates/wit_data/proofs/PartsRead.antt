-- The parts of a kind, as they are read of it.
use Rattle.std.proofs.Common.{◌≡◌, ◌∙◌, ℕ, ◌+◌, zero, suc, List, [], ◌∷◌, length, map, Option, Some, None, option_and_then, option_map, slice_get, refl, sym, ap, decimal}
use Rattle.std.specs.List.{enumerate_from}
use Rattle.std.proofs.lemmas.List.{length-map}
use Rattle.std.proofs.lemmas.List.FromFn.{length-enumerate_from}
use Rattle.std.proofs.lemmas.Option.{slice_get-map}
use Rattle.wit_data.specs.Kind.{KindPart, kind_parts, plain_part}
use Rattle.wit_data.specs.declared.kind.PartRole.TheVariants.{Value}
use Rattle.wit_data.specs.declared.types.TypeDefKind.{TypeDefKind}
use Rattle.wit_data.specs.declared.types.Type_.{Type_}
use Rattle.wit_data.specs.declared.types.TypeDefKind.TheVariants as kind

-- what is read of a part that is made of one of some things
pub part_read : {A X : Type 0} (read : KindPart → Option A) (make : X → KindPart) (k : TypeDefKind) (xs : List X) (i : ℕ) (x : X) → kind_parts k ≡ map make xs → slice_get xs i ≡ Some x
    → read (make x) ≡ option_and_then read (slice_get (kind_parts k) i)
part_read {A} {X} read make k xs i x made at =
    sym (ap (λ (ps : List KindPart). option_and_then read (slice_get ps i)) made
    ∙ ap (option_and_then read) (slice_get-map make xs i ∙ ap (λ (o : Option X). option_map make o) at))

-- the type of an element of a tuple
tuple_at : (n : ℕ) (types : List Type_) (i : ℕ)
    → slice_get types i ≡ option_and_then (λ (p : KindPart). p.ty) (slice_get (map (λ (e : ℕ × Type_). plain_part Value (decimal e.0) (Some e.1)) (enumerate_from n types)) i)
tuple_at n [] i = refl
tuple_at n (ty ∷ types) zero = refl
tuple_at n (ty ∷ types) (suc i) = tuple_at (n + 1) types i

pub tuple_type : (k : TypeDefKind) (types : List Type_) (i : ℕ) (o : Option Type_) → k ≡ kind.Tuple types → o ≡ slice_get types i
    → o ≡ option_and_then (λ (p : KindPart). p.ty) (slice_get (kind_parts k) i)
tuple_type k types i o is o_is = o_is ∙ (tuple_at 0 types i ∙ ap (λ (j : TypeDefKind). option_and_then (λ (p : KindPart). p.ty) (slice_get (kind_parts j) i)) (sym is))

-- how many there are
pub tuple_count : (k : TypeDefKind) (types : List Type_) (n : ℕ) → k ≡ kind.Tuple types → n ≡ length types → n ≡ length (kind_parts k)
tuple_count k types n is n_is =
    n_is
    ∙ sym (ap (λ (j : TypeDefKind). length (kind_parts j)) is ∙ (length-map (enumerate_from 0 types) (λ (e : ℕ × Type_). plain_part Value (decimal e.0) (Some e.1)) ∙ length-enumerate_from 0 types))

-- no type is read of parts without one
pub none_typed : {X : Type 0} (make : X → KindPart) → ((x : X) → (make x).ty ≡ None) → (xs : List X) (i : ℕ) → option_and_then (λ (p : KindPart). p.ty) (slice_get (map make xs) i) ≡ None
none_typed make none [] i = refl
none_typed make none (x ∷ xs) zero = none x
none_typed make none (x ∷ xs) (suc i) = none_typed make none xs i
