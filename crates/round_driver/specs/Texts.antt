-- The text of a table.
use Rattle.std.specs.Prelude.{ℕ, ◌*◌, ◌/◌, ◌%◌, ◌++◌, if◌then◌else◌, ◌==◌, List, codes, decimal}
use Rattle.round_driver.specs.declared.table.Table.{Table}
use Rattle.round_driver.specs.declared.table.LostRounds.{LostRounds}

-- a count behind its name
abbrev pub count_text : List ℕ → ℕ → List ℕ
count_text name n = name ++ decimal n

unfoldable pub lost_text : LostRounds → List ℕ
lost_text l =
    count_text (codes " lost 3:") l.tag_in_use ++ count_text (codes " 4:") l.replies_full ++ count_text (codes " 5:") l.targets_full
    ++ count_text (codes " 7:") l.no_register ++ count_text (codes " 8:") l.set_pending ++ count_text (codes " 9:") l.queue_full
    ++ count_text (codes " 10:") l.bank_full

-- so many rounds for so many loads in the mean, whole ones and hundredths
abbrev pub mean_of : ℕ → ℕ → ℕ × ℕ
mean_of rounds loads =
    if loads == 0 then (0, 0) else (rounds / loads, rounds % loads * 100 / loads)

-- the rounds that an answered load waited
abbrev pub mean_wait : Table → ℕ × ℕ
mean_wait t = mean_of t.waited t.values

unfoldable pub requests_text : Table → List ℕ
requests_text t =
    count_text (codes "rounds ") t.rounds ++ count_text (codes " accepted ") t.accepted ++ count_text (codes " denied ") t.denied
    ++ count_text (codes " hits ") t.hits ++ count_text (codes " joins ") t.joins ++ count_text (codes " misses ") t.misses
    ++ count_text (codes " stalled ") t.stalled

-- hundredths with both their digits
abbrev pub hundredths_text : ℕ → List ℕ
hundredths_text n = codes "." ++ decimal (n / 10) ++ decimal (n % 10)

unfoldable pub waits_text : Table → List ℕ
waits_text t =
    count_text (codes " values ") t.values ++ count_text (codes " mean ") (mean_wait t).0 ++ hundredths_text (mean_wait t).1
    ++ count_text (codes " longest ") t.longest

unfoldable pub work_text : Table → List ℕ
work_text t = count_text (codes " registers ") t.registers ++ count_text (codes " written ") t.written

-- a table as one line
abbrev pub table_text : Table → List ℕ
table_text t =
    requests_text t ++ lost_text t.lost ++ waits_text t ++ work_text t
