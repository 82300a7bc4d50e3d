-- The JSON of a refusal: its name, the revision, and the values that show it.
use Rattle.std.specs.Prelude.{ℕ, codes}
use Rattle.serde_json.specs.Data.{Data, null, string, object, no_members, member}
use Rattle.desk_base.specs.declared.rows.tables.Key.{Key}
use Rattle.desk_base.specs.declared.rows.tables.Table.{Table}
use Rattle.desk_base.specs.declared.asked.rules.Field.{Field}
use Rattle.desk_base.specs.declared.asked.rules.LeafRule.{LeafRule}
use Rattle.desk_base.specs.declared.asked.rules.TreeRule.{TreeRule}
use Rattle.desk_base.specs.declared.asked.refusals.Clash.{Clash}
use Rattle.desk_base.specs.declared.asked.refusals.Shown.{Shown}
use Rattle.desk_base.specs.declared.asked.refusals.Shown.TheVariants as shown
use Rattle.desk_base.specs.declared.asked.refusals.Refusal.{Refusal}
use Rattle.desk_base.specs.declared.asked.refusals.Refusal.TheVariants as refusal
use Rattle.desk_json.specs.Words.{table_name, field_name, leaf_rule_name, tree_rule_name}
use Rattle.desk_json.specs.Values.{whole_number, key_data, moment_data}

-- the journal has so many entries, and no more may come
abbrev pub journal_full_data : ℕ → ℕ → Data
journal_full_data revision entries =
    object (member (codes "entries") (whole_number entries)
    (member (codes "refused") (string (codes "journal_full"))
    (member (codes "revision") (whole_number revision) no_members)))

-- the number is below the caller's last
abbrev pub old_number_data : ℕ → ℕ → Data
old_number_data revision last =
    object (member (codes "last") (whole_number last)
    (member (codes "refused") (string (codes "old_number"))
    (member (codes "revision") (whole_number revision) no_members)))

-- the number is above the one after the caller's last
abbrev pub skipped_number_data : ℕ → ℕ → Data
skipped_number_data revision last =
    object (member (codes "last") (whole_number last)
    (member (codes "refused") (string (codes "skipped_number"))
    (member (codes "revision") (whole_number revision) no_members)))

-- no row stands under this key
abbrev pub unknown_data : ℕ → Key → Data
unknown_data revision key =
    object (member (codes "key") (key_data key)
    (member (codes "refused") (string (codes "unknown"))
    (member (codes "revision") (whole_number revision)
    (member (codes "table") (string (table_name key.table)) no_members))))

-- a field of the command is out of its range
abbrev pub bad_field_data : ℕ → Field → Data
bad_field_data revision field =
    object (member (codes "field") (string (field_name field))
    (member (codes "refused") (string (codes "bad_field"))
    (member (codes "revision") (whole_number revision) no_members)))

-- the group's tree breaks this rule at this node
abbrev pub bad_tree_data : ℕ → TreeRule → ℕ → Data
bad_tree_data revision rule node =
    object (member (codes "node") (whole_number node)
    (member (codes "refused") (string (codes "bad_tree"))
    (member (codes "revision") (whole_number revision)
    (member (codes "rule") (string (tree_rule_name rule)) no_members))))

-- the row of the first key is named by that of the second
abbrev pub in_use_data : ℕ → Key → Key → Data
in_use_data revision key by =
    object (member (codes "by_key") (key_data by)
    (member (codes "by_table") (string (table_name by.table))
    (member (codes "key") (key_data key)
    (member (codes "refused") (string (codes "in_use"))
    (member (codes "revision") (whole_number revision)
    (member (codes "table") (string (table_name key.table)) no_members))))))

-- the table has no place for the rows
abbrev pub full_data : ℕ → Table → Data
full_data revision table =
    object (member (codes "refused") (string (codes "full"))
    (member (codes "revision") (whole_number revision)
    (member (codes "table") (string (table_name table)) no_members)))

-- the group is booked
abbrev pub not_open_data : ℕ → ℕ → Data
not_open_data revision group =
    object (member (codes "group") (whole_number group)
    (member (codes "refused") (string (codes "not_open"))
    (member (codes "revision") (whole_number revision) no_members)))

-- the group is not booked
abbrev pub not_booked_data : ℕ → ℕ → Data
not_booked_data revision group =
    object (member (codes "group") (whole_number group)
    (member (codes "refused") (string (codes "not_booked"))
    (member (codes "revision") (whole_number revision) no_members)))

-- the schedule is at another revision than the one that the cursor shows
abbrev pub moved_data : ℕ → ℕ → ℕ → Data
moved_data revision shown now =
    object (member (codes "now") (whole_number now)
    (member (codes "refused") (string (codes "moved"))
    (member (codes "revision") (whole_number revision)
    (member (codes "shown") (whole_number shown) no_members))))

-- the start is not on the group's grid
abbrev pub off_grid_data : ℕ → ℕ → Data
off_grid_data revision start =
    object (member (codes "refused") (string (codes "off_grid"))
    (member (codes "revision") (whole_number revision)
    (member (codes "start") (moment_data start) no_members)))

-- the picks have none of the patterns: the first leaf at which they break
abbrev pub bad_shape_data : ℕ → ℕ → Data
bad_shape_data revision leaf =
    object (member (codes "leaf") (whole_number leaf)
    (member (codes "refused") (string (codes "bad_shape"))
    (member (codes "revision") (whole_number revision) no_members)))

-- the first leaf whose resource breaks a rule, and the first rule that it breaks
abbrev pub not_eligible_data : ℕ → ℕ → ℕ → LeafRule → Data
not_eligible_data revision leaf resource rule =
    object (member (codes "leaf") (whole_number leaf)
    (member (codes "refused") (string (codes "not_eligible"))
    (member (codes "resource") (whole_number resource)
    (member (codes "revision") (whole_number revision)
    (member (codes "rule") (string (leaf_rule_name rule)) no_members)))))

-- the first node whose resources are not of the same
abbrev pub not_same_data : ℕ → ℕ → Data
not_same_data revision node =
    object (member (codes "node") (whole_number node)
    (member (codes "refused") (string (codes "not_same"))
    (member (codes "revision") (whole_number revision) no_members)))

-- the number of the booking that is shown, or null where none stands there
abbrev pub shown_data : Shown → Data
shown_data (shown.Booking id) = whole_number id
shown_data shown.Gap = null

-- the bookings do not fit: where, by how much, and the least booking that counts there or null
abbrev pub conflict_data : ℕ → Clash → Data
conflict_data revision clash =
    object (member (codes "asked") (whole_number clash.asked)
    (member (codes "booking") (shown_data clash.shown)
    (member (codes "capacity") (whole_number clash.capacity)
    (member (codes "minute") (moment_data clash.minute)
    (member (codes "refused") (string (codes "conflict"))
    (member (codes "resource") (whole_number clash.resource)
    (member (codes "revision") (whole_number revision)
    (member (codes "standing") (whole_number clash.standing) no_members))))))))

-- why a command was refused
abbrev pub refusal_data : ℕ → Refusal → Data
refusal_data revision (refusal.JournalFull entries) = journal_full_data revision entries
refusal_data revision (refusal.OldNumber last) = old_number_data revision last
refusal_data revision (refusal.SkippedNumber last) = skipped_number_data revision last
refusal_data revision (refusal.UnknownId key) = unknown_data revision key
refusal_data revision (refusal.BadField field) = bad_field_data revision field
refusal_data revision (refusal.BadTree rule node) = bad_tree_data revision rule node
refusal_data revision (refusal.InUse key by) = in_use_data revision key by
refusal_data revision (refusal.Full table) = full_data revision table
refusal_data revision (refusal.NotOpen group) = not_open_data revision group
refusal_data revision (refusal.NotBooked group) = not_booked_data revision group
refusal_data revision (refusal.Moved shown now) = moved_data revision shown now
refusal_data revision (refusal.OffGrid start) = off_grid_data revision start
refusal_data revision (refusal.BadShape leaf) = bad_shape_data revision leaf
refusal_data revision (refusal.NotEligible leaf resource rule) = not_eligible_data revision leaf resource rule
refusal_data revision (refusal.NotSame node) = not_same_data revision node
refusal_data revision (refusal.Conflict clash) = conflict_data revision clash
