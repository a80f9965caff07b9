-- What a sound state says as facts on numbers, and back.
-- Assumes nothing.
use mathlib.Core.Path.{◌≡◌, refl, ap}
use mathlib.Core.Bool.{Bool, true, false, cond, not, ◌&&◌}
use Prim.Native.Nat.{ℕ, ◌+◌, ◌*◌, ◌≤◌, ◌<◌}
use native.Mathlib.Omega.{arith}
use lib.Dec.{eqb, ltb}
use borrow.Author.Tests.{leb-true, ltb-true, eqb-true, eq-eqb, le-leb, lt-ltb, not-true}
use Rattle.numbers.proofs.Tests.{both, and}
use Rattle.group.specs.Sizes.{information_length, entry_length, longest_record, last_number}
use Rattle.group.specs.State.{run_sound}
use Rattle.group.proofs.StateLaws.{Run, run_of_sound, sound_of_run}
use Rattle.laying.specs.declared.Writer.{Writer}
use Rattle.sound.specs.State.{is_free, is_inside, is_empty, room_kept, empty_kept, rest_kept, data_kept, spent_kept, writer_sound}

-- What a choice says on each side, and a choice from both sides.
pub chosen : (a b c : Bool) → cond a b c ≡ true → a ≡ true → b ≡ true
chosen true b c e f = e
chosen false b c e f = let z : ◌≡◌ {A = ℕ} 0 1 = cc in absurd (omega arith)

pub other : (a b c : Bool) → cond a b c ≡ true → a ≡ false → c ≡ true
other true b c e f = let z : ◌≡◌ {A = ℕ} 0 1 = cc in absurd (omega arith)
other false b c e f = e

pub choose : (a b c : Bool) → (a ≡ true → b ≡ true) → (a ≡ false → c ≡ true) → cond a b c ≡ true
choose true b c f g = f refl
choose false b c f g = g refl

-- "d = e = 0" as numbers.
abbrev pub Nothing : Writer → Type 0
Nothing s = (s.filled ≡ 0) × (s.entries ≡ 0)

-- What a sound state says of its numbers.
pub record Sound (s : Writer) : Type 0 where
  pub run : Run s.size s.next s.phase s.sum
  pub room : is_free s.phase ≡ true → s.filled + information_length + entry_length * (s.entries + 1) ≤ s.size
  pub empty : is_free s.phase ≡ false → Nothing s
  pub more : is_inside s.phase ≡ true → (1 ≤ s.rest) × (s.sum + s.rest ≤ longest_record)
  pub done : is_inside s.phase ≡ false → s.rest ≡ 0
  pub held : 0 < s.filled → 0 < s.entries
  pub spent : s.next ≡ last_number + 1 → Nothing s

is_nothing : (s : Writer) → is_empty s ≡ true → Nothing s
is_nothing s e =
    let h = both (eqb s.filled 0) (eqb s.entries 0) e in
    (eqb-true s.filled 0 h.0, eqb-true s.entries 0 h.1)

nothing_is : (s : Writer) → Nothing s → is_empty s ≡ true
nothing_is s h = and (eq-eqb s.filled 0 h.0) (eq-eqb s.entries 0 h.1)

pub sound : (s : Writer) → writer_sound s ≡ true → Sound s
unfolding writer_sound room_kept empty_kept rest_kept data_kept spent_kept
sound s e =
    let from4 = data_kept s && spent_kept s in
    let from3 = rest_kept s && from4 in
    let from2 = empty_kept s && from3 in
    let a = both (run_sound s.size s.next s.phase s.sum) (room_kept s && from2) e in
    let b = both (room_kept s) from2 a.1 in
    let c = both (empty_kept s) from3 b.1 in
    let d = both (rest_kept s) from4 c.1 in
    let f = both (data_kept s) (spent_kept s) d.1 in
    record {
      run = run_of_sound _ _ _ _ a.0;
      room = λ h. leb-true _ _ (chosen (is_free s.phase) _ true b.0 h);
      empty = λ h. is_nothing s (chosen (not (is_free s.phase)) _ true c.0 (ap not h));
      more =
          λ h.
          let m = both _ _ (chosen (is_inside s.phase) _ (eqb s.rest 0) d.0 h) in
          (leb-true _ _ m.0, leb-true _ _ m.1);
      done = λ h. eqb-true _ _ (other (is_inside s.phase) _ _ d.0 h);
      held = λ h. ltb-true _ _ (chosen (ltb 0 s.filled) _ true f.0 (lt-ltb _ _ h));
      spent = λ h. is_nothing s (chosen (eqb s.next (last_number + 1)) _ true f.1 (eq-eqb _ _ h));
    }

pub is_sound : (s : Writer) → Sound s → writer_sound s ≡ true
unfolding writer_sound room_kept empty_kept rest_kept data_kept spent_kept
is_sound s t =
    and (sound_of_run _ _ _ _ t.run)
    (and (choose _ _ _ (λ h. le-leb _ _ (t.room h)) (λ h. refl))
    (and (choose _ _ _ (λ h. nothing_is s (t.empty (not-true _ h))) (λ h. refl))
    (and (choose _ _ _ (λ h. and (le-leb _ _ (t.more h).0) (le-leb _ _ (t.more h).1)) (λ h. eq-eqb _ _ (t.done h)))
    (and (choose _ _ _ (λ h. lt-ltb _ _ (t.held (ltb-true _ _ h))) (λ h. refl))
    (choose _ _ _ (λ h. nothing_is s (t.spent (eqb-true _ _ h))) (λ h. refl))))))
