use Rattle.std.proofs.Common.{◌≡◌, map}
use Rattle.wit_json_commands.specs.Places.{first_known, interface_span}
use Rattle.wit_json_commands.proofs.replies.places.span_of_interfaces.Given as goal

-- none so far is known
abbrev pub invariant-loop-id : goal.invariant-loop-id
invariant-loop-id l = first_known (map (λ e. interface_span l.graph e.1) l.id-iterator) ≡ first_known (map (λ e. interface_span l.graph e.1) l.interfaces)
