-- The tests before a scan: the first that fails gives its number, whatever the later ones say.
-- Assumes nothing.
use mathlib.Core.Path.{◌≡◌}
use mathlib.Core.Bool.{true, false, not}
use Prim.Native.Nat.{ℕ, ◌+◌, ◌≤◌, ◌<◌}
use borrow.Author.Tests.{eq-eqb, ne_eqb, le-leb, lt-leb}
use Rattle.group.specs.Sizes.{entries_kept}
use Rattle.group.specs.State.{run_sound}
use Rattle.reader.specs.declared.Reader.{Reader}
use Rattle.reader.specs.Answer.{sound, length_kept, repeats, next_is, rows_fit, read_refusal}

-- The tests of a state, one law an exit.
module _ (s : Reader) where
  pub unsound : run_sound s.size s.next s.phase s.sum ≡ false → false ≡ sound s
  unsound h = rw h

  pub sound_later : run_sound s.size s.next s.phase s.sum ≡ true → 2 ≤ s.next → true ≡ sound s
  sound_later h k = rw (h, le-leb 2 s.next k)

  pub sound_at_one : run_sound s.size s.next s.phase s.sum ≡ true → s.next < 2 → not s.accepted ≡ sound s
  sound_at_one h k = rw (h, lt-leb 2 s.next k)

-- The tests of a repeat.
module _ (s : Reader) (number : ℕ) where
  pub another_number : (number + 1 ≡ s.next → ⊥) → false ≡ repeats s number
  another_number h = rw (ne_eqb (number + 1) s.next h)

  pub last_number_lem : number + 1 ≡ s.next → s.accepted ≡ repeats s number
  last_number_lem h = rw (eq-eqb (number + 1) s.next h)

-- "Read 1, 4, 5, 6, 7".
module _ (s : Reader) (length number n room : ℕ) where
  pub one : sound s ≡ false → 1 ≡ read_refusal s length number n room
  unfolding read_refusal
  one a = rw a

  pub four : sound s ≡ true → length_kept s length ≡ false → 4 ≡ read_refusal s length number n room
  unfolding read_refusal
  four a b = rw (a, b)

  pub five : sound s ≡ true → length_kept s length ≡ true → next_is s number ≡ false → 5 ≡ read_refusal s length number n room
  unfolding read_refusal
  five a b c = rw (a, b, c)

  pub six : sound s ≡ true → length_kept s length ≡ true → next_is s number ≡ true → entries_kept s.size n ≡ false → 6 ≡ read_refusal s length number n room
  unfolding read_refusal
  six a b c d = rw (a, b, c, d)

  pub seven : sound s ≡ true → length_kept s length ≡ true → next_is s number ≡ true → entries_kept s.size n ≡ true → rows_fit n room ≡ false → 7 ≡ read_refusal s length number n room
  unfolding read_refusal
  seven a b c d e = rw (a, b, c, d, e)

  pub none : sound s ≡ true → length_kept s length ≡ true → next_is s number ≡ true → entries_kept s.size n ≡ true → rows_fit n room ≡ true → 0 ≡ read_refusal s length number n room
  unfolding read_refusal
  none a b c d e = rw (a, b, c, d, e)
