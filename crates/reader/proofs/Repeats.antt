-- Change request 2026-05 by the calls alone, with no word of what a state holds: which groups are repeats behind an accepted one, and
-- that there is none at first.
-- Assumes nothing.
use Prim.Native.Nat.{ℕ, ◌+◌}
use native.Mathlib.Omega.{arith}
use mathlib.Core.List.{List}
use mathlib.Core.Bool.{true, false≢true}
use mathlib.Core.Path.{◌≡◌, sym, ap, ◌∙◌}
use borrow.Author.Tests.{eq-eqb, eqb-true}
use lib.Dec.{eqb}
use lib.ListN.{length}
use Rattle.numbers.proofs.Tests.{both, and}
use Rattle.reader.specs.declared.Reader.{Reader}
use Rattle.reader.specs.ReadAnswer as answer
use Rattle.reader.specs.Answer.{fresh, read_call}
use Rattle.reader.proofs.Accepted.{accepted, repeat_is, is_repeat_lem, read_repeated, repeated}
use Rattle.reader.proofs.Sound.{sound_again}

-- A repeat bears the number before the next, and a group was accepted.
pub repeat_last : (s u : Reader) (group : List ℕ) (number n room : ℕ) → read_call s group number n room ≡ answer.Repeated u → (number + 1 ≡ s.next) × (s.accepted ≡ true)
repeat_last s u group number n room e =
    let r = (repeat_is s (length group) number (repeated s u group number n room e).0).1.1 in
    let b = both (eqb (number + 1) s.next) s.accepted r in
    (eqb-true (number + 1) s.next b.0, b.1)

-- "A group with the number of the last accepted group of this run is answered repeat .. state and rows stay, the contents aren't
-- examined": behind a group that was accepted every group of its number and length, whatever it holds, whatever its entry count and the
-- rows lent are.
pub again_repeats : (s t : Reader) (group : List ℕ) (number n room : ℕ) → read_call s group number n room ≡ answer.Accepted t →
    (other : List ℕ) (m more : ℕ) → length other ≡ length group → read_call t other number m more ≡ answer.Repeated t
again_repeats s t group number n room e other m more long =
    let p = accepted s t group number n room e in
    let sized : length other ≡ t.size = long ∙ p.ready.long ∙ sym (ap (λ (r : Reader). r.size) p.left) in
    let next : number + 1 ≡ t.next = ap (λ (k : ℕ). k + 1) p.ready.next ∙ sym (ap (λ (r : Reader). r.next) p.left) in
    let said : t.accepted ≡ true = ap (λ (r : Reader). r.accepted) p.left in
    sym
    (read_repeated t other number m more
    (is_repeat_lem t (length other) number (sound_again s t group number n room e) (eq-eqb (length other) t.size sized) (and (eq-eqb (number + 1) t.next next) said)))

-- .. and behind it no other number is.
pub only_again : (s t u : Reader) (group : List ℕ) (number n room : ℕ) → read_call s group number n room ≡ answer.Accepted t →
    (other : List ℕ) (another m more : ℕ) → read_call t other another m more ≡ answer.Repeated u → another ≡ number
only_again s t u group number n room e other another m more f =
    let p = accepted s t group number n room e in
    let next = ap (λ (r : Reader). r.next) p.left in
    omega (arith, (repeat_last t u other another m more f).0, p.ready.next)

-- "Before any group has been accepted in the run there is no repeat."
pub none_at_first : (size first : ℕ) (u : Reader) (group : List ℕ) (number n room : ℕ) → read_call (fresh size first) group number n room ≡ answer.Repeated u → ⊥
none_at_first size first u group number n room e = false≢true (repeat_last (fresh size first) u group number n room e).1
