-- One way that a unit may have gone: the word that stands there now, the open stores that have taken effect, and of each open load the
-- words that stood there since its request. Stores take effect only when an answer needs them to.
use Rattle.std.specs.Prelude.{ℕ, Bool, false, ◌&&◌, ◌||◌, not, ◌==◌, ◌+◌, List, [], ◌∷◌, ◌++◌, map, get_or, Option, Some, None}
use Rattle.std.specs.List.{filter, list_all, list_any, range_with_len}
use Rattle.atomic_histories.specs.declared.unit.OpenStore.{OpenStore}
use Rattle.atomic_histories.specs.declared.unit.UnitPlace.{UnitPlace}
use Rattle.atomic_histories.specs.declared.unit.LoadAddress.{LoadAddress}
use Rattle.atomic_histories.specs.Words.{read_byte, written, is_as_it_stood, is_word_of}
use Rattle.atomic_histories.specs.Law.{done_store, is_store, may_answer_store}

-- an open load, and the words that it may have got beside the one of now: those that stood there since its request, the latest first
pub record Watched : Type 0 where
  pub number : ℕ
  pub address : LoadAddress
  pub words : List (List (Option ℕ))

pub record Branch : Type 0 where
  pub word : List (Option ℕ)
  pub stores : List OpenStore
  pub loads : List Watched

-- an open load, once the word of now is overwritten
abbrev pub with_word : List (Option ℕ) → Watched → Watched
with_word word l = record { number = l.number; address = l.address; words = word ∷ l.words }

-- the way goes on: this store takes effect, which stands between those
abbrev pub effect_of : Branch → List OpenStore → OpenStore → List OpenStore → Branch
effect_of e before s after =
    record { word = written s.bytes e.word; stores = before ++ done_store s ∷ after; loads = map (with_word e.word) e.loads }

-- Answers. ----

abbrev pub is_watched : ℕ → Watched → Bool
is_watched number l = l.number == number

-- whether a load may have got a word of which these are the bytes
abbrev pub may_have : UnitPlace → List ℕ → Branch → Watched → Bool
may_have unit bytes e l =
    is_word_of unit.first e.word l.address bytes || list_any (λ w. is_word_of unit.first w l.address bytes) l.words

abbrev pub has_answer : UnitPlace → ℕ → List ℕ → Branch → Bool
has_answer unit number bytes e = list_all (λ l. not (is_watched number l) || may_have unit bytes e l) e.loads

-- whether a store writes an answer's byte in a lane
abbrev pub gives : Option ℕ → Option ℕ → Bool
gives None answer = false
gives (Some b) None = false
gives (Some b) (Some c) = b == c

-- whether an answer's byte stands in a lane, or an open store may still write it there
abbrev pub may_come_in : ℕ → List (Option ℕ) → List OpenStore → Option ℕ → Bool
may_come_in k word stores answer =
    is_as_it_stood (get_or word k None) answer || list_any (λ s. not s.is_done && gives (get_or s.bytes k None) answer) stores

-- whether the word may come to be one of which these are the bytes that a load from there reads
abbrev pub may_come : UnitPlace → LoadAddress → List ℕ → List (Option ℕ) → List OpenStore → Bool
may_come unit address bytes word stores =
    list_all (λ k. may_come_in k word stores (read_byte address bytes (unit.first + k))) (range_with_len 0 8)

abbrev pub has_effect : ℕ → Branch → Bool
has_effect number e = may_answer_store number e.stores

abbrev pub branch_without_load : ℕ → Branch → Branch
branch_without_load number e =
    record { word = e.word; stores = e.stores; loads = filter (λ l. not (is_watched number l)) e.loads }

abbrev pub branch_without_store : ℕ → Branch → Branch
branch_without_store number e =
    record { word = e.word; stores = filter (λ s. not (is_store number s)) e.stores; loads = e.loads }

abbrev pub branch_with_load : ℕ → LoadAddress → Branch → Branch
branch_with_load number address e =
    record { word = e.word; stores = e.stores; loads = e.loads ++ record { number = number; address = address; words = [] } ∷ [] }

abbrev pub branch_with_store : ℕ → List (Option ℕ) → Branch → Branch
branch_with_store number bytes e =
    record { word = e.word; stores = e.stores ++ record { number = number; bytes = bytes; is_done = false } ∷ []; loads = e.loads }
