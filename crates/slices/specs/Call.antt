-- Document 01, "What the box holds": the one shape of a call from C. First the lengths of its slices; then what it tells, which
-- decides what it returns, what it leaves in each slice that it may write, and the six numbers of the answer slice.
-- Assumes nothing.
use Rattle.std.specs.Prelude.{ℕ, ◌≡◌, List, [], Bool, true, false, cond, not, ◌&&◌, eqb, length, get_or}
use Rattle.numbers.specs.Numbers.{number_at, in_bytes}
use Rattle.answer.specs.Answer.{Told}
use Rattle.answer.specs.Answer.{RefusedAt}
use Rattle.answer.specs.Answer.{numbers_told, refusal_told, if_accepted}

-- What a call leaves: the number that it returns, each slice that it may write, in the order in which they are lent, and the
-- answer slice.
pub record Left : Type 0 where
  pub refusal : ℕ
  pub lent : List (List ℕ)
  pub answer : List ℕ

abbrev pub left : (refusal : ℕ) (lent : List (List ℕ)) (answer : List ℕ) → Left
left refusal lent answer = record { refusal = refusal; lent = lent; answer = answer }

-- The k-th of the slices that a call may write, k from 0.
abbrev pub slice : Left → ℕ → List ℕ
slice o k = get_or o.lent k []

-- The outcome in the answer slice: the third of its six numbers.
abbrev pub outcome_seen : Left → ℕ
outcome_seen o = number_at 4 o.answer 8

-- "an answer is six numbers", "each number four bytes"
abbrev pub answer_length : ℕ
answer_length = 24

-- The answer slice is of its length, and so is a state slice, where the call is lent one, of its own.
abbrev pub answer_kept : List ℕ → Bool
answer_kept answer = eqb (length answer) answer_length

unfoldable pub lengths_kept : (state own answer : ℕ) → Bool
lengths_kept state own answer = eqb state own && eqb answer answer_length

-- "A free / inside / owed or b4 number that has no meaning is 1 as well."
abbrev pub of_meaning : Bool → Told → Told
of_meaning meant told = cond meant told (RefusedAt 1 0)

-- "A state or answer slice of another length is refusal 1, before all others and at start too, with nothing written." "Each call
-- returns the number, 0 if accepted." "Otherwise a refusal writes just the answer slice."
unfoldable pub called : (kept : Bool) (told : Told) (new old : List (List ℕ)) (answer : List ℕ) → Left
called kept told new old answer =
    cond kept (left (refusal_told told) (if_accepted told new old) (in_bytes (numbers_told told))) (left 1 old answer)

-- What a call that tells something returns, and its answer slice.
pub record Tells (told : Told) (refusal : ℕ) (answer : List ℕ) : Type 0 where
  pub returns : refusal ≡ refusal_told told
  pub numbers : answer ≡ in_bytes (numbers_told told)

-- What the tests before a call do: whether they refuse it, and the answer slice, in which a number without meaning is told.
pub record Refuses (kept meant : Bool) (old : List ℕ) (refused : Bool) (answer : List ℕ) : Type 0 where
  pub refuses : refused ≡ not (kept && meant)
  pub numbers : answer ≡ cond (kept && not meant) (in_bytes (numbers_told (RefusedAt 1 0))) old

-- What a call leaves in its answer slice, in place of `old`: "six numbers", "each number four bytes", by what it tells. "with nothing
-- written" where a length refuses it.
pub record Answers (kept : Bool) (told : Told) (old answer : List ℕ) : Type 0 where
  pub tells : kept ≡ true → answer ≡ in_bytes (numbers_told told)
  pub long : kept ≡ true → length answer ≡ answer_length
  pub stays : kept ≡ false → answer ≡ old
