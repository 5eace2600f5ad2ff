-- What an answer that is there says of the steps that led to it.
use Rattle.std.proofs.Common.{◌≡◌, Option, None, Some, refl}
use Rattle.std.specs.Option.{option_and_then, option_map}

-- a step that may answer nothing was taken from something
pub step-of : {A B : Type 0} (f : A → Option B) (o : Option A) (y : B) → option_and_then f o ≡ Some y → (x : A) × (o ≡ Some x) × (f x ≡ Some y)
step-of f None y h = cc
step-of f (Some x) y h = (x, refl, h)

-- so a step that always answers
pub map-of : {A B : Type 0} (f : A → B) (o : Option A) (y : B) → option_map f o ≡ Some y → (x : A) × (o ≡ Some x) × (f x ≡ y)
map-of f None y h = cc
map-of f (Some x) y h = (x, refl, cc)

-- one answer has one thing
pub same-some : {A : Type 0} (x y : A) → Some x ≡ Some y → x ≡ y
same-some x y h = cc
