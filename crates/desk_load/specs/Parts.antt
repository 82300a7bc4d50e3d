-- What bookings take of resources, piece by piece.
use Rattle.std.specs.Prelude.{ℕ, ◌<◌, ◌==◌, ◌&&◌, IsSome, if◌then◌else◌, pos}
use Rattle.desk_base.specs.declared.rows.tables.Tables.{Tables}
use Rattle.desk_base.specs.declared.rows.bookings.BookingRow.{BookingRow}
use Rattle.desk_base.specs.meaning.Time.{covers}
use Rattle.desk_base.specs.meaning.Capacity.{resource_of}
use Rattle.desk_member.specs.declared.items.Item.{Item}
use Rattle.desk_spans.specs.declared.piece.Piece.{Piece}
use Rattle.desk_load.specs.declared.parts.Part.{Part}

-- an item as a part
abbrev pub part_of : Item → Part
part_of i = record { resource = i.resource; from = i.from; to = i.to; effort = i.effort }

-- a part as a value over minutes
abbrev pub piece_of : Part → Piece
piece_of p = record { from = p.from; to = p.to; value = pos p.effort }

-- what a part takes of r at m: its effort, where it is of r and covers m
abbrev pub part_at : ℕ → ℕ → Part → ℕ
part_at r m p = if (p.resource == r) && covers p.from p.to m then p.effort else 0

-- a booking of a resource that is there, and not empty
pub record IsAskable (t : Tables) (b : BookingRow) : Type 0 where
  pub there : IsSome (resource_of t b.resource)
  pub not_empty : b.from < b.to
