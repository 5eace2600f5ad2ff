use Rattle.std.proofs.Common.{◌≡◌, drop, map}
use Rattle.std.specs.Map.{lookup}
use Rattle.std.specs.Str.{bytes_eq}
use Rattle.wit_json_layout.proofs.layout.named_part.Given as goal

-- the name isn't among those so far
abbrev pub invariant-loop-member : goal.invariant-loop-member
invariant-loop-member l =
    lookup (bytes_eq l.name) (map (λ member. (member.0.now, member.1)) (drop l.member-index l.parts))
    ≡ lookup (bytes_eq l.name) (map (λ member. (member.0.now, member.1)) l.parts)
