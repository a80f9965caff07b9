-- Source document 001, 18.7 and 18.8: where a message begins in received bytes, and what the search for it answers.
-- Assumes nothing.
use Rattle.std.specs.Prelude.{ℕ, zero, suc, ◌+◌, ◌-◌, ◌≤◌, ◌<◌, ◌≡◌, List, [], ◌∷◌, Bool, true, false, cond, ◌&&◌, eqb, leb, length, get_or, take, drop, Result, Ok, Err, Option, Some, None}
use Rattle.answer.specs.Answer.{Told}
use Rattle.answer.specs.Answer as answer
use Rattle.answer.specs.Answer.{accepted}
use Rattle.answer.specs.declared.refusals.LoaderRefusal.{LoaderRefusal}
use Rattle.answer.specs.Numbers.{loader_number}
use Rattle.radio.specs.declared.Found as code

-- What a search answers: the place of the pattern's first byte and of the length byte behind it, that there is none, or the number of
-- the refusal.
pub data RadioAnswer : Type 0 where
  Found : (place length_at : ℕ) → RadioAnswer
  Nothing : RadioAnswer
  Refused : (refusal : ℕ) → RadioAnswer

-- What a result of the code answers.
abbrev pub answered : Result (Option code.Found) LoaderRefusal → RadioAnswer
answered (Ok (Some f)) = Found f.place f.length_at
answered (Ok None) = Nothing
answered (Err refusal) = Refused (loader_number refusal)

-- 18.7: "a minimum of two bytes of Logic 0 followed by the synchronous pattern (00)(B2)(4D)"
abbrev pub start : List ℕ
start = 0x00 ∷ 0x00 ∷ 0x00 ∷ 0xB2 ∷ 0x4D ∷ []

-- Two lists of the same bytes.
abbrev pub alike_bytes : List ℕ → List ℕ → Bool
alike_bytes [] [] = true
alike_bytes [] (b ∷ bs) = false
alike_bytes (a ∷ as') [] = false
alike_bytes (a ∷ as') (b ∷ bs) = eqb a b && alike_bytes as' bs

-- A message begins with its pattern's 00 at this place: two bytes stand before it, and behind the pattern the length byte, "one
-- that ends the bytes doesn't count".
unfoldable pub begins_at : (received : List ℕ) (place : ℕ) → Bool
begins_at received place =
    leb 2 place && (leb (place + 4) (length received) && alike_bytes (take 5 (drop (place - 2) received)) start)

-- The first of n places from this one on, and the length byte behind the pattern's three.
unfoldable pub first_from : (received : List ℕ) (place n : ℕ) → RadioAnswer
first_from received place zero = Nothing
first_from received place (suc n) =
    cond (begins_at received place) (Found place (place + 3)) (first_from received (suc place) n)

-- A place has room in four bytes.
abbrev pub longest_received : ℕ
longest_received = 4294967295

-- 60 where a place might not have room, and otherwise the first of all places.
unfoldable pub find_call : List ℕ → RadioAnswer
find_call received =
    cond (leb (length received) longest_received) (first_from received 0 (length received)) (Refused 60)

-- What the firmware is told of each case: outcome 1 with the pattern's place and the length byte's, 0 for none.
abbrev pub told : RadioAnswer → Told
told (Found place length_at) = answer.Accepted 1 place length_at 0
told Nothing = accepted
told (Refused refusal) = answer.RefusedAt refusal 0

-- 18.7, byte by byte: a message begins with its pattern's first byte at this place.
pub record MessageAt (received : List ℕ) (place : ℕ) : Type 0 where
  pub two_before : 2 ≤ place
  pub zero_before_that : get_or received (place - 2) 0 ≡ 0x00
  pub zero_before : get_or received (place - 1) 0 ≡ 0x00
  pub first : get_or received place 0 ≡ 0x00
  pub second : get_or received (place + 1) 0 ≡ 0xB2
  pub third : get_or received (place + 2) 0 ≡ 0x4D
  pub length_byte : place + 3 < length received

-- What an answer says of received bytes: found exactly where some place begins a message, and it is the least.
pub record First (received : List ℕ) (a : RadioAnswer) : Type 0 where
  pub begins : (place at : ℕ) → a ≡ Found place at → MessageAt received place
  pub length_at : (place at : ℕ) → a ≡ Found place at → at ≡ place + 3
  pub least : (place at : ℕ) → a ≡ Found place at → (earlier : ℕ) → earlier < place → MessageAt received earlier → ⊥
  pub found : (place : ℕ) → MessageAt received place → (least : ℕ) × (a ≡ Found least (least + 3))
  pub nowhere : ((place : ℕ) → MessageAt received place → ⊥) → a ≡ Nothing
