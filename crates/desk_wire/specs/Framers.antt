-- What a framer answers once it has refused its bytes.
use Rattle.std.specs.Prelude.{ℕ, List, Option, Some, None}
use Rattle.desk_wire.specs.Requests.{IsBad, IsTooLarge}
use Rattle.desk_wire.specs.declared.rules.WireEnd.{WireEnd}
use Rattle.desk_wire.specs.declared.rules.WireEnd.TheVariants as why
use Rattle.desk_wire.specs.declared.rules.Next.{Next}
use Rattle.desk_wire.specs.declared.rules.Next.TheVariants as next

-- the answer that gives this reason
abbrev pub next_of : WireEnd → Next
next_of (why.Bad rule) = next.Bad rule
next_of (why.TooLarge limit) = next.TooLarge limit

-- the reason that is given from this answer on, if it is a refusal
abbrev pub end_of : Next → Option WireEnd
end_of (next.Request q) = None
end_of next.More = None
end_of (next.Bad rule) = Some (why.Bad rule)
end_of (next.TooLarge limit) = Some (why.TooLarge limit)

-- the bytes are refused for this reason
abbrev pub IsRefused : List ℕ → WireEnd → Type 0
IsRefused bytes (why.Bad rule) = IsBad bytes rule
IsRefused bytes (why.TooLarge limit) = IsTooLarge bytes limit
