use Rattle.std.proofs.Common.{◌≡◌, ◌+◌, ◌*◌, ◌^◌, ◌≤◌, drop, length}
use Rattle.round_driver.specs.Tables.{counting, counted_all, total}
use Rattle.round_driver.specs.declared.table.TheConstants.{TAGS}
use Rattle.round_driver.proofs.table.Counter.count_all.Given as goal

-- the notes that are left count what all of them do
abbrev pub invariant-loop-note : goal.invariant-loop-note
invariant-loop-note l =
    record {
      counts : counted_all (counting l.initial.self) l.notes ≡ counted_all (counting l.self) (drop l.note-index l.notes);
      total : total l.self.table ≤ total l.initial.self.table + 2 * l.note-index;
      waited : l.self.table.waited ≤ l.initial.self.table.waited + 2 ^ 64 * l.note-index;
      tags : TAGS ≤ length l.self.since.items;
    }
