-- A call that completes a thing in place, as a part of another.
use Rattle.std.proofs.Common.{◌≡◌, ◌∙◌, ◌++◌, ◌∷◌, [], ap, sym, Result, Ok, Err, refl}
use Rattle.wit_json_reading.specs.Reading.{Reading, ◌>>=◌, Reads, under}
use Rattle.wit_json_reading.specs.declared.fault.Expected.TheVariants as expected
use Rattle.wit_json_reading.specs.declared.fault.Fault.{Fault}
use Rattle.wit_json_reading.specs.declared.fault.ReadError.{ReadError}
use Rattle.wit_json_reading.specs.declared.fault.ReadError.TheVariants as error
use Rattle.wit_json_reading.specs.declared.fault.Step.{Step}
use Rattle.wit_json_graphs.specs.steps.Completes.{Completes}

abbrev Nothing : Type 0
Nothing = Unit {0}

-- what a step does to what is read of nothing
abbrev Carries : Step → Result Nothing ReadError → Result Nothing ReadError → Type 0
Carries s r result = (reading : Reading Nothing) → Reads r reading → Reads result (under s reading)

abbrev a_value : Nothing → Reading Nothing
a_value x = Ok x

abbrev no_value : Fault → Reading Nothing
no_value fault = Err fault

clash : (x : Nothing) (fault : Fault) → a_value x ≡ no_value fault → ⊥
clash x fault same = cc

one_fault : (f g : Fault) → no_value f ≡ no_value g → f ≡ g
one_fault f g same = cc

abbrev one_further : Step → Fault → Fault
one_further s fault = record fault { path = fault.path ++ s ∷ [] }

abbrev some_fault : Fault
some_fault = record { path = []; expected = expected.Document }

-- one step further on
pub completed : {A : Type 0} (s : Step) (r result : Result Nothing ReadError) (reading : Reading A) (new : A) → Carries s r result → Completes r reading new → Completes result (under s reading) new
completed s (Ok x) (Ok y) reading new carries done = ap (under s) done
completed s (Ok x) (Err (error.Fault fault)) reading new carries done = absurd (clash x fault (carries (Ok x) refl))
completed s (Ok x) (Err error.OutOfMemory) reading new carries done = tt
completed s (Err (error.Fault fault)) (Ok y) reading new carries done = absurd (clash y (one_further s fault) (sym (carries (Err fault) refl)))
completed {A} s (Err (error.Fault fault)) (Err (error.Fault longer)) reading new carries done =
    let same : one_further s fault ≡ longer = one_fault (one_further s fault) longer (carries (Err fault) refl) in
    ap (under s) done ∙ ap (λ (f : Fault). let it : Reading A = Err f in it) same
completed s (Err (error.Fault fault)) (Err error.OutOfMemory) reading new carries done = tt
completed s (Err error.OutOfMemory) (Ok y) reading new carries done = absurd (clash y (one_further s some_fault) (sym (carries (Err some_fault) tt)))
completed s (Err error.OutOfMemory) (Err (error.Fault fault)) reading new carries done = absurd (clash tt fault (carries (Ok tt) tt))
completed s (Err error.OutOfMemory) (Err error.OutOfMemory) reading new carries done = tt

-- where only a fault can come
pub fails : {A : Type 0} (result : Result Nothing ReadError) (fault : Fault) (reading : Reading A) (new : A) → reading ≡ Err fault → Reads result (no_value fault) → Completes result reading new
fails (Ok x) fault reading new is reads = absurd (clash x fault (sym reads))
fails {A} (Err (error.Fault other)) fault reading new is reads = is ∙ ap (λ (f : Fault). let it : Reading A = Err f in it) (one_fault fault other reads)
fails (Err error.OutOfMemory) fault reading new is reads = tt

-- as the part that is put into another
pub then_put : {A B : Type 0} (put : A → B) (r : Result Nothing ReadError) (reading : Reading A) (new : A) → Completes r reading new → Completes r (reading >>= λ x. Ok (put x)) (put new)
then_put put (Ok x) reading new done = ap (λ read. read >>= λ x. Ok (put x)) done
then_put put (Err (error.Fault fault)) reading new done = ap (λ read. read >>= λ x. Ok (put x)) done
then_put put (Err error.OutOfMemory) reading new done = tt
