-- An accepted read leaves a sound state: from entry to entry the sum suits where the scan stands.
-- Assumes nothing.
use mathlib.Core.Path.{◌≡◌, refl}
use mathlib.Core.Bool.{true}
use mathlib.Core.List.{List}
use Prim.Native.Nat.{ℕ, ◌+◌}
use native.Mathlib.Omega.{arith}
use borrow.Author.Tests.{le-leb}
use Rattle.group.specs.declared.Phase.{Phase}
use Rattle.group.specs.declared.Phase.TheVariants as phase
use Rattle.group.proofs.StateLaws.{Run, sound_of_run}
use Rattle.reader.specs.declared.Reader.{Reader}
use Rattle.reader.specs.ReadAnswer as answer
use Rattle.entry.specs.Rules.{stand_at, phase_after}
use Rattle.reader.specs.Answer.{sound, opening, group_scan, read_call}
use Rattle.entry.proofs.Suits.{suits_scan}
use Rattle.reader.proofs.Accepted.{accepted}

phase_again : (p : Phase) → phase_after (stand_at p) ≡ p
phase_again phase.Free = refl
phase_again phase.Inside = refl
phase_again phase.Owed = refl

-- "state not sound" is never met by a state that a read left.
pub sound_again : (s t : Reader) (group : List ℕ) (number n room : ℕ) → read_call s group number n room ≡ answer.Accepted t → sound t ≡ true
unfolding group_scan
sound_again s t group number n room e =
    let p = accepted s t group number n room e in
    let r = p.ready.run in
    let suits = suits_scan _ _ _ 1 (opening s) p.end (rw phase_again r.kept) p.reached in
    let run : Run s.size (s.next + 1) (phase_after p.end.stand) p.end.sum =
    record { least = r.least; most = r.most; some = omega arith; number = omega (arith, p.ready.next, p.ready.numbered); kept = suits } in
    rw (p.left, sound_of_run _ _ _ _ run, le-leb 2 (s.next + 1) (omega (arith, r.some)))
