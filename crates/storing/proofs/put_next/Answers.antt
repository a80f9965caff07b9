-- `put_next` meets its contract: five numbers, one after another, behind the one that stands there. Assumes nothing.
use mathlib.Core.Path.{◌≡◌, sym, ap, ◌∙◌}
use mathlib.Core.Bool.{Bool}
use mathlib.Core.List.{List, [], ◌∷◌}
use Prim.Native.Nat.{ℕ, ◌+◌}
use native.Mathlib.Omega.{arith}
use Rattle.numbers.specs.Numbers.{bytes_of}
use Rattle.numbers.specs.Store.{put}
use Rattle.numbers.proofs.InBytes.{puts, puts_whole, put_standing}
use Rattle.states.specs.States.{phase_number, b4_number, reader_bytes}
use Rattle.storing.proofs.Casts.{phase_cast, b4_cast}
use Rattle.storing.proofs.put_next.Goals.{After-number_at-next}
use Rattle.storing.proofs.put_next.Goals as goal

-- The number that stands there, and one more, is the next number.
next_is_lem : (c : After-number_at-next) → c.number_at-next.result + 1 ≡ c.args.r.next
next_is_lem c = ap (λ (n : ℕ). n + 1) c.number_at-next.ensures ∙ sym c.requires.1.next

pub returns : goal.returns
returns c =
    let a = c.args in
    let stands = put_standing a.slice.now 0 a.r.size (λ i. omega (arith, c.slice_known-1.given i)) (omega arith) (sym c.requires.1.size) in
    let changed : List ℕ = a.r.next ∷ phase_number a.r.phase ∷ a.r.sum ∷ b4_number a.r.warned ∷ 1 ∷ [] in
    rw (c.put_number-2.ensures, c.keep-3.ensures, c.keep-2.ensures, c.keep.ensures, c.put_number.ensures ∙ ap (λ (m : ℕ). put a.slice.now 4 (bytes_of 4 m)) (next_is_lem (goal.at.returns c).After-number_at-next), c.from.ensures, b4_cast a.r.warned, phase_cast a.r.phase)
    (ap (λ (l : List ℕ). puts l 4 changed) stands
    ∙ puts_whole a.slice.now (a.r.size ∷ changed) c.requires.0
    ∙ ap (λ (said : Bool). reader_bytes (record { size = a.r.size; next = a.r.next; phase = a.r.phase; warned = a.r.warned; accepted = said; sum = a.r.sum })) (sym c.requires.1.accepted))

pub overflow_add-next : goal.overflow_add-next
overflow_add-next c = omega (arith, next_is_lem (goal.at.overflow_add-next c).After-number_at-next)
