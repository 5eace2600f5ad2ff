-- What is known of options: what is there, and what is given of it.
use Rattle.std.proofs.Common.{◌≡◌, ◌∙◌, ◌⊎◌, inl, inr, true, not, Option, None, Some, refl, ap, is_some, IsSome, option_and_then}

module _ {X : Type 0} where
  -- there is one thing at the most
  pub some_same : (x y : X) → Some x ≡ Some y → x ≡ y
  some_same x y same = cc

  pub option_cases : (o : Option X) → (o ≡ None) ⊎ ((x : X) × (o ≡ Some x))
  option_cases None = inl refl
  option_cases (Some x) = inr (x, refl)

  pub some_there : (o : Option X) → IsSome o → (x : X) × (o ≡ Some x)
  some_there None some = cc
  some_there (Some x) some = (x, refl)

  pub none_there : (o : Option X) → not (is_some o) ≡ true → o ≡ None
  none_there None none = refl
  none_there (Some x) none = cc

  pub none_or_some : (o : Option X) → o ≡ None → IsSome o → ⊥
  none_or_some None none some = cc
  none_or_some (Some x) none some = cc

module _ {X Y : Type 0} where
  -- what is given of an option comes of what is there
  pub some_parts : (f : X → Option Y) (o : Option X) (y : Y) → option_and_then f o ≡ Some y → (x : X) × (o ≡ Some x) × (f x ≡ Some y)
  some_parts f None y is = cc
  some_parts f (Some x) y is = (x, refl, is)

  -- and is given where that is there
  pub some_by : (f : X → Option Y) (o : Option X) (x : X) → o ≡ Some x → option_and_then f o ≡ f x
  some_by f o x is = ap (option_and_then f) is

  pub some_whole : (f : X → Option Y) (o : Option X) (x : X) (y : Y) → o ≡ Some x → f x ≡ Some y → option_and_then f o ≡ Some y
  some_whole f o x y is gives = some_by f o x is ∙ gives
