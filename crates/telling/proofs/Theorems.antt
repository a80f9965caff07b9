-- What the texts that are told come to: the bytes that the program writes, the room that never counts, and a repeat.
-- Assumes nothing.
use Rattle.std.specs.Prelude.{Option, Some}
use Prim.Native.Nat.{ℕ, ◌+◌, ◌*◌, ◌≤◌}
use mathlib.Core.Path.{◌≡◌, refl, sym, ap, ◌∙◌}
use mathlib.Core.Bool.{Bool, true, false, cond, not}
use mathlib.Core.List.{List, [], ◌++◌}
use native.Mathlib.Omega.{arith}
use borrow.Author.Tests.{le-leb, leb-true}
use lib.Dec.{eqb, leb}
use lib.ListN.{length}
use Rattle.numbers.proofs.Tests.{both}
use Rattle.group.specs.Sizes.{information_length, entry_length, entries_kept}
use Rattle.reader.specs.declared.Reader.{Reader}
use Rattle.reader.specs.ReadAnswer as answer
use Rattle.reader.specs.Answer.{sound, length_kept, is_repeat, next_is, rows_fit, read_refusal, answered, group_scan, read_call}
use Rattle.sections.specs.Sections.{largest_size}
use Rattle.lines.specs.Text.{repeat_line}
use Rattle.words.specs.Added.{Lent}
use Rattle.telling.specs.Telling.{Step, row_numbers, read_step, Tells}

-- What the program hands to its one write is a text that was empty before the step: it is the step's text.
pub told_first : (step : Step) (old text : Lent) (then : Option Reader) → old.added ≡ [] → Tells step old text then → text.added ≡ step.text
told_first step old text then e t = t.added.0 ∙ ap (λ (l : List ℕ). l ++ step.text) e

-- "4-byte L (64 to 4,096)": for groups of such a size the room for rows is enough, so that what is printed never hangs on it. A
-- read that is lent any room for its 3n numbers answers the same.
enough : (s : Reader) (n room : ℕ) → s.size ≤ largest_size → 3 * n ≤ room → entries_kept s.size n ≡ true → rows_fit n row_numbers ≡ rows_fit n room
enough s n room small fits e =
    let kept = leb-true (information_length + entry_length * n) s.size (both (leb 1 n) (leb (information_length + entry_length * n) s.size) e).1 in
    le-leb (3 * n) row_numbers (omega (arith, kept)) ∙ sym (le-leb (3 * n) room fits)

abbrev six_seven : Bool → Bool → ℕ
six_seven entries rows = cond (not entries) 6 (cond (not rows) 7 0)

last_tests : (b r q : Bool) → (b ≡ true → r ≡ q) → six_seven b r ≡ six_seven b q
last_tests false r q h = refl
last_tests true r q h = rw (h refl)

pub room_enough : (s : Reader) (group : List ℕ) (number n room : ℕ) → s.size ≤ largest_size → 3 * n ≤ room
    → read_call s group number n row_numbers ≡ read_call s group number n room
unfolding read_call read_refusal
room_enough s group number n room small fits =
    ap
    (λ (x : ℕ).
    let r = cond (not (sound s)) 1 (cond (not (length_kept s (length group))) 4 (cond (not (next_is s number)) 5 x)) in
    cond (is_repeat s (length group) number) (answer.Repeated s) (cond (eqb r 0) (answered s (group_scan s group n)) (answer.Refused s r 0)))
    (last_tests (entries_kept s.size n) (rows_fit n row_numbers) (rows_fit n room) (enough s n room small fits))

-- 2026-05: "state and rows stay, the contents aren't examined". Whatever a repeat's image holds and its entry count is, its step is
-- the one line, and the run goes on with the state as given.
pub repeat_told : (s : Reader) (image : List ℕ) (number entries : ℕ) → is_repeat s (length image) number ≡ true
    → read_step s image number entries ≡ record { text = repeat_line number; then = Some s }
unfolding read_step read_call
repeat_told s image number entries e = rw e
