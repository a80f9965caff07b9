-- What every accepted call leaves: an answer that is no refusal, a sound state, and the information table as it was.
-- Assumes nothing.
use mathlib.Core.Path.{◌≡◌, refl, sym, ap, ◌∙◌, subst}
use mathlib.Core.Bool.{Bool, true, false, true≢false}
use mathlib.Core.List.{List}
use Prim.Native.Nat.{ℕ, ◌+◌, ◌-◌, ◌≤◌}
use native.Mathlib.Omega.{arith}
use lib.ListN.{length, drop, take, replicate, length-replicate}
use lib.Seq.{length-take-le}
use Rattle.numbers.specs.Store.{put}
use Rattle.numbers.proofs.Tests.{within, is_within}
use Rattle.numbers.proofs.Stores.{length_put, drop_put}
use Rattle.answer.specs.Answer.{refusal_told, if_accepted}
use Rattle.group.specs.declared.Kind.{Kind}
use Rattle.group.specs.declared.Kind.TheVariants.{Total, Separator, Middle, Start, Last, Entire, Skip}
use Rattle.group.specs.declared.Phase.{Phase}
use Rattle.group.specs.declared.Phase.TheVariants.{Free, Inside, Owed}
use Rattle.group.specs.Sizes.{least_size, standard_size, information_length, longest_record, last_number, entry_offset}
use Rattle.group.specs.Flags.{flag_of}
use Rattle.group.specs.Entries.{entry, entry_bytes}
use Rattle.group.specs.State.{sum_kept}
use Rattle.group.proofs.EntryLaws.{length_entry}
use Rattle.laying.specs.declared.Writer.{Writer}
use Rattle.laying.specs.Laying.{Desk, desk, lay_entry, lay_data, lay_part, moved, lay_skip, zero_gap, shut, warn_state, pay_owed, ready}
use Rattle.laying.specs.Bounds.{span}
use Rattle.sound.specs.State.{is_free, is_inside}
use Rattle.sound.proofs.SoundLaws.{Nothing, Sound}
use Rattle.sound.proofs.Accepted.{Accepted, Offered, Separated, Ended, fits}
use Rattle.writer.specs.Calls.{Done, finished, closed, record_free, record_accepted, separator_accepted, end_accepted, told, state_of}
use Rattle.writer.proofs.CallLaws.{RecordedFree, entire, start, nothing, recorded_free, RecordedInside, part, total, owed, recorded_inside, SeparatorLaid, laid, not_laid, separator_laid, EndLaid, ends_nothing, ends_group, end_laid}

-- A group is as long as another, and its information table the same.
pub record Stays (g h : List ℕ) : Type 0 where
  pub long : length h ≡ length g
  pub table : drop (length g - information_length) h ≡ drop (length g - information_length) g

pub stays_same : (g : List ℕ) → Stays g g
stays_same g = record { long = refl; table = refl }

stays_put : {g h : List ℕ} (at : ℕ) (new : List ℕ) → at + length new + information_length ≤ length g → Stays g h → Stays g (put h at new)
stays_put {g} {h} at new fit s =
    record {
      long = length_put h at new ∙ s.long;
      table = drop_put (length g - information_length) h at new (omega arith) ∙ s.table;
    }

-- What a group's end carries over: the sum of parts and the rest, by the phase.
record Carried (phase : Phase) (sum rest : ℕ) : Type 0 where
  kept : sum_kept phase sum ≡ true
  more : is_inside phase ≡ true → (1 ≤ rest) × (sum + rest ≤ longest_record)
  done : is_inside phase ≡ false → rest ≡ 0

carried_free : Carried Free 0 0
carried_free = record { kept = refl; more = λ h. absurd (true≢false (sym h)); done = λ h. refl }

carried_inside : {sum rest : ℕ} → 1 ≤ sum → 1 ≤ rest → sum + rest ≤ longest_record → Carried Inside sum rest
carried_inside a b c =
    record {
      kept = is_within a (omega arith);
      more = λ h. (b, c);
      done = λ h. absurd (true≢false h);
    }

carried_owed : {sum : ℕ} → 2 ≤ sum → sum ≤ longest_record → Carried Owed sum 0
carried_owed a b = record { kept = is_within a b; more = λ h. absurd (true≢false (sym h)); done = λ h. refl }

carried_sound : {s : Writer} → Sound s → Carried s.phase s.sum s.rest
carried_sound t = record { kept = t.run.kept; more = t.more; done = t.done }

-- A desk in the midst of an accepted call, by its numbers: room for one entry more, and the information table of g.
record Good (g : List ℕ) (size number filled entries : ℕ) (group : List ℕ) : Type 0 where
  low : least_size ≤ size
  high : size ≤ standard_size
  some : 1 ≤ number
  next : number ≤ last_number
  fits : span filled (entries + 1) ≤ size
  long : length g ≡ size
  stays : Stays g group

abbrev On : List ℕ → Desk → Type 0
On g w = Good g w.state.size w.state.next w.state.filled w.state.entries w.group

good_desk : {s : Writer} {g : List ℕ} → Accepted s g → On g (desk s g)
good_desk {s} {g} a =
    record {
      low = a.sound.run.least;
      high = a.sound.run.most;
      some = a.sound.run.some;
      next = a.next;
      fits = fits s a.sound;
      long = a.long;
      stays = stays_same g;
    }

good_data : {g : List ℕ} (w : Desk) (bytes : List ℕ) → span (w.state.filled + length bytes) (w.state.entries + 1) ≤ w.state.size
    → On g w → On g (lay_data bytes w)
unfolding lay_data
good_data w bytes fit t =
    record {
      low = t.low;
      high = t.high;
      some = t.some;
      next = t.next;
      fits = fit;
      long = t.long;
      stays = stays_put w.state.filled bytes (omega arith) t.stays;
    }

good_entry : {g : List ℕ} (w : Desk) (kind : Kind) (count : ℕ) → span w.state.filled (w.state.entries + 2) ≤ w.state.size
    → On g w → On g (lay_entry kind count w)
unfolding lay_entry
good_entry w kind count fit t =
    let e = entry (flag_of kind w.state.warned) count in
    let four = length_entry e in
    record {
      low = t.low;
      high = t.high;
      some = t.some;
      next = t.next;
      fits = omega arith;
      long = t.long;
      stays = stays_put (entry_offset w.state.size (w.state.entries + 1)) (entry_bytes e) (omega arith) t.stays;
    }

good_part : {g : List ℕ} (w : Desk) (kind : Kind) (bytes : List ℕ) → span (w.state.filled + length bytes) (w.state.entries + 2) ≤ w.state.size
    → On g w → On g (lay_part kind bytes w)
unfolding lay_part lay_data
good_part w kind bytes fit t = good_entry (lay_data bytes w) kind (length bytes) fit (good_data w bytes (omega arith) t)

-- b4 as the call says, and an owed total: where it is owed the group is empty, so it has room.
good_ready : {s : Writer} {g : List ℕ} (warn : Bool) → Accepted s g → On g (ready warn (desk s g))
unfolding ready pay_owed warn_state moved
good_ready {s} {g} warn a = by s.phase refl
  where
    on : On g (desk (warn_state warn s) g)
    on = good_desk a

    room : Nothing s → span s.filled (s.entries + 2) ≤ s.size
    room none = omega (arith, a.sound.run)

    by : (p : Phase) → s.phase ≡ p → On g (pay_owed p (desk (warn_state warn s) g))
    by Free e = on
    by Inside e = on
    by Owed e = good_entry (desk (warn_state warn s) g) Total s.sum (room (a.sound.empty (ap is_free e))) on

-- Then the writer is free, where it was not inside a record, and carries nothing.
record Freed (s : Writer) : Type 0 where
  free : is_free s.phase ≡ true
  carried : Carried s.phase s.sum s.rest

freed_ready : {s : Writer} (g : List ℕ) (warn : Bool) → Sound s → is_inside s.phase ≡ false → Freed (ready warn (desk s g)).state
unfolding ready pay_owed warn_state moved
freed_ready {s} g warn t = by s.phase refl
  where
    by : (p : Phase) → s.phase ≡ p → is_inside p ≡ false → Freed (pay_owed p (desk (warn_state warn s) g)).state
    by Free e h = record { free = ap is_free e; carried = carried_sound t }
    by Inside e h = absurd (true≢false h)
    by Owed e h = record { free = refl; carried = carried_free }

-- Inside a record the group is empty, and the sum begun.
record Continued (s : Writer) (n : ℕ) : Type 0 where
  filled : s.filled ≡ 0
  entries : s.entries ≡ 0
  begun : 1 ≤ s.sum
  whole : s.sum + n ≤ longest_record

continued_ready : {s : Writer} {g : List ℕ} {n : ℕ} (warn : Bool) → Offered s g n → s.phase ≡ Inside → Continued (ready warn (desk s g)).state n
unfolding ready pay_owed warn_state
continued_ready {s} {g} {n} warn o e =
    let t = o.accepted.sound in
    let none = t.empty (ap is_free e) in
    let more = t.more (ap is_inside e) in
    let all = o.rest (ap is_inside e) in
    let sum = within 1 s.sum (longest_record - 1) (subst (λ (p : Phase). sum_kept p s.sum ≡ true) e t.run.kept) in
    subst (λ (p : Phase). Continued (pay_owed p (desk (warn_state warn s) g)).state n) (sym e)
    (record { filled = none.0; entries = none.1; begun = sum.0; whole = omega arith })

-- What an accepted call leaves.
pub record Left (g : List ℕ) (d : Done) : Type 0 where
  pub accepted : refusal_told (told d.answer) ≡ 0
  pub given : (new old : List ℕ) → new ≡ if_accepted (told d.answer) new old
  pub sound : Sound (state_of d.answer)
  pub stays : Stays g d.group

left_finished : {g : List ℕ} (w : Desk) → On g w → Freed w.state → 1 ≤ w.state.entries → Left g (finished w)
unfolding finished state_of
left_finished w t c e =
    record {
      accepted = refl;
      given = λ new old. refl;
      sound =
          record {
            run = record { least = t.low; most = t.high; some = t.some; number = omega arith; kept = c.carried.kept };
            room = λ h. t.fits;
            empty = λ h. absurd (true≢false (sym c.free ∙ h));
            more = c.carried.more;
            done = c.carried.done;
            held = λ h. e;
            spent = λ h. absurd (omega arith);
          };
      stays = t.stays;
    }

left_closed : {g : List ℕ} (taken : ℕ) (w : Desk) → On g w → Carried w.state.phase w.state.sum w.state.rest → Left g (closed taken w)
unfolding closed shut zero_gap lay_skip lay_entry state_of
left_closed taken w t c =
    let s = w.state in
    let e = entry (flag_of Skip s.warned) (s.size - s.filled) in
    let four = length_entry e in
    let gap = entry_offset s.size (s.entries + 1) - s.filled in
    let zeros : length (replicate {A = ℕ} gap 0) ≡ gap = length-replicate gap 0 in
    record {
      accepted = refl;
      given = λ new old. refl;
      sound =
          record {
            run = record { least = t.low; most = t.high; some = omega arith; number = omega arith; kept = c.kept };
            room = λ h. omega arith;
            empty = λ h. (refl, refl);
            more = c.more;
            done = c.done;
            held = λ h. h;
            spent = λ h. (refl, refl);
          };
      stays = stays_put s.filled (replicate gap 0) (omega arith) (stays_put (entry_offset s.size (s.entries + 1)) (entry_bytes e) (omega arith) t.stays);
    }

left_free : {bytes g : List ℕ} {w : Desk} {d : Done} → On g w → Freed w.state → length bytes ≤ longest_record → RecordedFree bytes w d → Left g d
unfolding lay_part lay_data lay_entry moved
left_free {bytes} {g} {w} t c most (entire h) =
    left_finished (lay_part Entire bytes w) (good_part w Entire bytes h t) (record { free = c.free; carried = c.carried }) (omega arith)
left_free {bytes} {g} {w} t c most (start r some less h) =
    let long : length (take r bytes) ≡ r = length-take-le r bytes (omega arith) in
    left_closed r (moved Inside r (length bytes - r) (lay_part Start (take r bytes) w)) (good_part w Start (take r bytes) (omega arith) t) (carried_inside some (omega arith) (omega arith))
left_free {bytes} {g} {w} t c most (nothing h) = left_closed 0 w t c.carried

left_inside : {bytes g : List ℕ} {w : Desk} {d : Done} → On g w → Continued w.state (length bytes) → 1 ≤ length bytes → RecordedInside bytes w d → Left g d
unfolding lay_part lay_data lay_entry moved
left_inside {bytes} {g} {w} t c some (part n e less) =
    let long : length (take n bytes) ≡ n = length-take-le n bytes (omega arith) in
    left_closed n (moved Inside (w.state.sum + n) (length bytes - n) (lay_part Middle (take n bytes) w)) (good_part w Middle (take n bytes) (omega (arith, t.low)) t)
    (carried_inside (omega arith) (omega arith) (omega arith))
left_inside {bytes} {g} {w} t c some (total h) =
    left_finished
    (moved Free 0 0 (lay_entry Total (w.state.sum + length bytes) (lay_part Last bytes w)))
    (good_entry (lay_part Last bytes w) Total (w.state.sum + length bytes) (omega arith) (good_part w Last bytes (omega arith) t))
    (record { free = refl; carried = carried_free }) (omega arith)
left_inside {bytes} {g} {w} t c some (owed h k) =
    left_closed (length bytes) (moved Owed (w.state.sum + length bytes) 0 (lay_part Last bytes w)) (good_part w Last bytes (omega arith) t)
    (carried_owed (omega arith) c.whole)

left_separator : {value : ℕ} {g : List ℕ} {w : Desk} {d : Done} → On g w → Freed w.state → SeparatorLaid value w d → Left g d
unfolding lay_entry
left_separator {value} {g} {w} t c (laid h) =
    left_finished (lay_entry Separator value w) (good_entry w Separator value h t) (record { free = c.free; carried = c.carried }) (omega arith)
left_separator {value} {g} {w} t c (not_laid h) = left_closed 0 w t c.carried

left_same : {s : Writer} {g : List ℕ} → Ended s g → Left g (finished (desk s g))
unfolding finished state_of
left_same {s} {g} a = record {
  accepted = refl;
  given = λ new old. refl;
  sound = a.sound;
  stays = stays_same g;
}

-- The three calls.
pub record_left : {s : Writer} {g : List ℕ} (bytes : List ℕ) (warn : Bool) → Offered s g (length bytes)
    → Left g (record_accepted s.phase bytes (ready warn (desk s g)))
unfolding record_accepted
record_left {s} {g} bytes warn o = by s.phase refl
  where
    good : On g (ready warn (desk s g))
    good = good_ready warn o.accepted

    free : is_inside s.phase ≡ false → Left g (record_free bytes (ready warn (desk s g)))
    free e = left_free good (freed_ready g warn o.accepted.sound e) o.most (recorded_free bytes (ready warn (desk s g)))

    by : (p : Phase) → s.phase ≡ p → Left g (record_accepted p bytes (ready warn (desk s g)))
    by Free e = free (ap is_inside e)
    by Inside e = left_inside good (continued_ready warn o e) o.some (recorded_inside bytes (ready warn (desk s g)))
    by Owed e = free (ap is_inside e)

pub separator_left : {s : Writer} {g : List ℕ} (value : ℕ) (warn : Bool) → Separated s g value → Left g (separator_accepted value (ready warn (desk s g)))
separator_left {s} {g} value warn a =
    left_separator (good_ready warn a.accepted) (freed_ready g warn a.accepted.sound a.shut) (separator_laid value (ready warn (desk s g)))

pub end_left : {s : Writer} {g : List ℕ} (warn : Bool) → Ended s g → Left g (end_accepted warn (desk s g))
end_left {s} {g} warn a = by (end_laid warn (desk s g))
  where
    by : {d : Done} → EndLaid warn (desk s g) d → Left g d
    by (ends_nothing e) = left_same a
    by (ends_group e) =
        let k : Accepted s g = record { sound = a.sound; long = a.long; next = a.next e } in
        left_closed 0 (ready warn (desk s g)) (good_ready warn k) (freed_ready g warn a.sound a.shut).carried
