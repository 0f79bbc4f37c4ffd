-- The map of pages: the list of a program's pages in the order of their first touch. The page at place p of the list is
-- words 1024 p to 1024 p + 1023 of memory.
use Rattle.std.specs.Prelude.{ℕ, ◌+◌, ◌*◌, ◌/◌, ◌%◌, ◌==◌, Option, None, Some, List, [], ◌∷◌, ◌++◌, length, position}
use Rattle.access_logs.specs.declared.access.Access.{Access}
use Rattle.access_logs.specs.declared.pages.TheConstants.{PAGE_WORDS}
use Rattle.access_logs.specs.Accesses.{first_word_of, last_word_of}

-- the page of a word
abbrev pub page_of : ℕ → ℕ
page_of word = word / PAGE_WORDS

abbrev pub found_in : List ℕ → ℕ → Option ℕ
found_in pages page = position (λ p. p == page) pages

-- a page's place in the list, and behind its end if it isn't there
abbrev pub place_or_end : List ℕ → Option ℕ → ℕ
place_or_end pages (Some place) = place
place_or_end pages None = length pages

-- the word of memory that a word of the program is
abbrev pub memory_word : List ℕ → ℕ → ℕ
memory_word pages word = place_or_end pages (found_in pages (page_of word)) * PAGE_WORDS + word % PAGE_WORDS

abbrev pub with_page_found : List ℕ → ℕ → Option ℕ → List ℕ
with_page_found pages page (Some place) = pages
with_page_found pages page None = pages ++ page ∷ []

-- the pages behind a touch
abbrev pub with_page : List ℕ → ℕ → List ℕ
with_page pages page = with_page_found pages page (found_in pages page)

-- The pages behind an access: it touches no other than those of its first and its last word, since a page has more bytes
-- than it.
abbrev pub pages_after : List ℕ → Access → List ℕ
pages_after pages a = with_page (with_page pages (page_of (first_word_of a))) (page_of (last_word_of a))
