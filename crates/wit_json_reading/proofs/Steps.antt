-- Readings one after another.
use Rattle.std.proofs.Common.{◌≡◌, List, [], ◌∷◌, ◌++◌, Ok, Err, refl, ap, append_assoc, sym, Bool, map, arith}
use Rattle.std.specs.List.{list_any}
use Rattle.wit_json_reading.specs.Reading.{Reading, Reads, ◌>>=◌}
use Rattle.wit_json_reading.specs.declared.fault.ReadError.{ReadError}
use Rattle.wit_json_reading.specs.declared.fault.ReadError.TheVariants as error

-- where a step fails, so does all
pub stops : {A B : Type 0} (e : ReadError) (r : Reading A) (k : A → Reading B) → Reads {A = A} (Err e) r → Reads {A = B} (Err e) (r >>= k)
stops (error.Fault fault) r k fails = ap (λ it. it >>= k) fails
stops error.OutOfMemory r k fails = tt

-- nothing is read yet
pub nothing_read : {A : Type 0} (r : Reading (List A)) → r ≡ (r >>= λ xs. Ok ([] ++ xs))
nothing_read (Ok xs) = refl
nothing_read (Err fault) = refl

-- one more is read
pub one_more : {A : Type 0} (read : List A) (x : A) (r : Reading (List A)) → ((r >>= λ xs. Ok (x ∷ xs)) >>= λ xs. Ok (read ++ xs)) ≡ (r >>= λ xs. Ok ((read ++ x ∷ []) ++ xs))
one_more read x (Ok xs) = ap Ok (sym (append_assoc read (x ∷ []) xs))
one_more read x (Err fault) = refl

-- whether one of what a function makes passes
pub any_map : {A B : Type 0} (p : B → Bool) (f : A → B) (xs : List A) → list_any p (map f xs) ≡ list_any (λ x. p (f x)) xs
any_map p f [] = refl
any_map p f (x ∷ xs) = grind (arith, any_map p f xs)
