-- Spans: the positions that a piece of text takes in a source map, or unknown ones.
-- A span is seen as the pair of its start and its end, the end not included, or as None.
use Rattle.std.specs.Prelude.{ℕ, ◌+◌, Option, Some, None}

-- a span as contracts see it
abbrev pub OptionalSpan : Type 0
OptionalSpan = Option (ℕ × ℕ)

-- the first position, 0 where the span is unknown
abbrev pub start_of : OptionalSpan → ℕ
start_of None = 0
start_of (Some range) = range.0

-- the position after the last, 0 where the span is unknown
abbrev pub end_of : OptionalSpan → ℕ
end_of None = 0
end_of (Some range) = range.1

-- the span that lies so many positions further on; an unknown one stays unknown
abbrev pub moved_by : ℕ → OptionalSpan → OptionalSpan
moved_by offset None = None
moved_by offset (Some range) = Some (range.0 + offset, range.1 + offset)
