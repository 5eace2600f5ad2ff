-- What of some lists is selected, and things with their lists cut to that.
use Rattle.std.specs.Prelude.{ℕ, Bool, List, filter}
use Rattle.wit_data.specs.Entries.{Entry}
use Rattle.wit_data.specs.declared.function.Function.{Function}
use Rattle.wit_data.specs.declared.interface.Interface.{Interface}
use Rattle.wit_data.specs.declared.world.World.{World}
use Rattle.wit_data.specs.declared.world.WorldItem.{WorldItem}

-- what is selected
pub record KeptIds : Type 0 where
  pub types : ℕ → Bool
  pub interfaces : ℕ → Bool
  pub worlds : ℕ → Bool
  pub functions : Function → Bool
  pub items : WorldItem → Bool

-- an interface and a world with what is kept of them
abbrev pub cut_interface : KeptIds → Interface → Interface
cut_interface kept interface = record interface {
  types = filter (λ (e : List ℕ × ℕ). kept.types e.1) interface.types;
  functions = filter (λ (e : List ℕ × Function). kept.functions e.1) interface.functions;
}

abbrev pub cut_world : KeptIds → World → World
cut_world kept world = record world {
  imports = filter (λ (e : Entry). kept.items e.1) world.imports;
  exports = filter (λ (e : Entry). kept.items e.1) world.exports;
}
