-- Document 01, "Numbers the firmware sees", with change requests 2026-02 and 2026-06: what a read that is refused answers.
-- Assumes nothing.
use Rattle.std.specs.Prelude.{ℕ, ◌≤◌, List, [], ◌∷◌, Bool, true, false, ◌||◌, ◌≡◌, eqb}
use Rattle.reader.specs.declared.Reader.{Reader}

-- Whether a number is one of these.
abbrev pub is_one_of : ℕ → List ℕ → Bool
is_one_of n [] = false
is_one_of n (m ∷ ms) = eqb n m || is_one_of n ms

-- "Read 1, 4, 5, 6, 7, then entry by entry": the numbers before the scan, and those at an entry, in their order. "11 is never given
-- again; in its place in the order come" 19 to 22; 23 comes "after 13".
abbrev pub before_scan : List ℕ
before_scan = 1 ∷ 4 ∷ 5 ∷ 6 ∷ 7 ∷ []

abbrev pub at_entry : List ℕ
at_entry = 8 ∷ 9 ∷ 10 ∷ 19 ∷ 20 ∷ 21 ∷ 22 ∷ 12 ∷ 13 ∷ 23 ∷ []

-- "A refusal answers the number, the place (k for 8 to 13, else 0) and the state as given." Of a read of n entries from a state: the
-- state, the number and the place that it answers.
pub data RefusedRead (s : Reader) (n : ℕ) : Reader → ℕ → ℕ → Type 0 where
  before_the_scan : {refusal : ℕ} → is_one_of refusal before_scan ≡ true → RefusedRead s n s refusal 0
  at_an_entry : {refusal place : ℕ} → is_one_of refusal at_entry ≡ true → 1 ≤ place → place ≤ n → RefusedRead s n s refusal place
