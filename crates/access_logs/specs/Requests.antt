-- The requests of an access.
use Rattle.std.specs.Prelude.{ℕ, ◌+◌, ◌%◌, List, [], ◌∷◌, ◌++◌, map}
use Rattle.std.specs.List.{flat_map, range_with_len}
use Rattle.flat_model.specs.declared.Event.{Event}
use Rattle.flat_model.specs.declared.Event.TheVariants as event
use Rattle.trace_text.specs.Codes.{line_feed}
use Rattle.trace_text.specs.Written.{line_text}
use Rattle.trace_text.specs.declared.lines.Line.TheVariants as line
use Rattle.access_logs.specs.declared.requests.TheConstants.{TAGS}
use Rattle.access_logs.specs.declared.access.Access.{Access}
use Rattle.access_logs.specs.declared.access.AccessKind.{AccessKind}
use Rattle.access_logs.specs.declared.access.AccessKind.TheVariants.{Load, Store, Modify}
use Rattle.access_logs.specs.declared.reading.AccessGroup.{AccessGroup}
use Rattle.access_logs.specs.Accesses.{first_word_of, word_count_of, lanes_at, word_at}
use Rattle.access_logs.specs.Pages.{memory_word}

-- the i-th tag behind this one: behind the last comes 0
abbrev pub tag_behind : ℕ → ℕ → ℕ
tag_behind tag i = (tag + i) % TAGS

-- ---- the request of the i-th word that is touched

abbrev pub load_of : List ℕ → ℕ → Access → ℕ → Event
load_of pages tag a i = event.Load (tag_behind tag i) (memory_word pages (first_word_of a + i))

abbrev pub store_of : List ℕ → ℕ → Access → ℕ → Event
store_of pages number a i =
    event.Store (memory_word pages (first_word_of a + i)) (word_at a number (first_word_of a + i)) (lanes_at a (first_word_of a + i))

-- ---- all of them, ascending

abbrev pub loads_of : List ℕ → ℕ → Access → List Event
loads_of pages tag a = map (load_of pages tag a) (range_with_len 0 (word_count_of a))

abbrev pub stores_of : List ℕ → ℕ → Access → List Event
stores_of pages number a = map (store_of pages number a) (range_with_len 0 (word_count_of a))

abbrev pub requests_by : AccessKind → List ℕ → ℕ → ℕ → Access → List Event
requests_by Load pages tag number a = loads_of pages tag a
requests_by Store pages tag number a = stores_of pages number a
requests_by Modify pages tag number a = loads_of pages tag a ++ stores_of pages number a

-- How many requests an access has: one for each word that it touches, and a modification one to load it and one to store it.
abbrev pub count_by : AccessKind → ℕ → ℕ
count_by Load words = words
count_by Store words = words
count_by Modify words = words + words

abbrev pub request_count_of : Access → ℕ
request_count_of a = count_by a.kind (word_count_of a)

-- the requests of an access as a group
abbrev pub group_of : Access → AccessGroup
group_of a = record { kind = a.kind; requests = request_count_of a }

-- the requests of an access in the line of this number, over these pages, with tags from this one on
abbrev pub requests_of : List ℕ → ℕ → ℕ → Access → List Event
requests_of pages tag number a = requests_by a.kind pages tag number a

abbrev pub tag_by : AccessKind → ℕ → Access → ℕ
tag_by Load tag a = tag_behind tag (word_count_of a)
tag_by Store tag a = tag
tag_by Modify tag a = tag_behind tag (word_count_of a)

-- the tag of the next load
abbrev pub tag_after : ℕ → Access → ℕ
tag_after tag a = tag_by a.kind tag a

-- ---- their lines

-- a request as a line of a trace
abbrev pub request_text : Event → List ℕ
request_text e = line_text (line.Event e) ++ line_feed ∷ []

abbrev pub requests_text : List Event → List ℕ
requests_text events = flat_map request_text events
