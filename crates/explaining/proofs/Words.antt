-- In a run file a read is never refused with 1, 4 or 7, and every other refusal has words.
-- Assumes nothing.
use Prim.Native.Nat.{ℕ, ◌+◌, ◌*◌, ◌/◌, ◌≤◌}
use mathlib.Core.Path.{◌≡◌, refl, sym, ap, ◌∙◌}
use mathlib.Core.Bool.{true, true≢false}
use mathlib.Core.List.{List}
use native.Mathlib.Omega.{arith}
use borrow.Author.Tests.{le-leb, leb-true}
use lib.Dec.{leb}
use lib.ListN.{length}
use Rattle.numbers.proofs.Tests.{both, and, within, is_within}
use Rattle.group.specs.declared.Entry.{Entry}
use Rattle.group.specs.declared.Phase.TheVariants as phase
use Rattle.group.specs.Sizes.{least_size, standard_size, information_length, entry_length, last_number, entries_kept}
use Rattle.group.proofs.StateLaws.{Run, sound_of_run, started}
use Rattle.entry.specs.declared.Cursor.{Cursor}
use Rattle.reader.specs.declared.Reader.{Reader}
use Rattle.reader.specs.ReaderStart as start
use Rattle.reader.specs.ReadAnswer as answer
use Rattle.reader.specs.Answer.{sound, reader_start_call, read_call}
use Rattle.reader.proofs.Accepted.{none_accepted, begun_at}
use Rattle.reader.proofs.Accepted as acceptance
use Rattle.reader.proofs.Sound.{sound_again}
use Rattle.reasons.specs.Rules.{Rule, rule_number}
use Rattle.reasons.specs.Rules.Rule.{flag_known, b4_stays, kind_follows, part_not_empty, separator_value, record_length, total_sum, data_within, skip_count, total_in_time}
use Rattle.explain.specs.Explanation.{Explanation}
use Rattle.explain.specs.Explanation.{explained}
use Rattle.explain.specs.Truth.{Stops, True}
use Rattle.explain.specs.Truth.Stops.{stops_here, stops_later}
use Rattle.explain.specs.Truth.True.{accepted, a_repeat, unsound, wrong_length, not_next, entries_out, rows_short, stopped}
use Rattle.explain.proofs.Theorems.{explained_true}
use Rattle.sections.specs.Sections.{largest_size}
use Rattle.reason_lines.specs.Lines.{wrong}
use Rattle.telling.specs.Telling.{row_numbers}
use Rattle.explaining.specs.Steps.{row_bytes}
use Rattle.explaining.specs.Said.{Said}
use Rattle.explaining.specs.Said.Said.{nothing, words}

-- Every rule of an entry has words.
rule_said : (rule : Rule) → Said (rule_number rule)
unfolding wrong
rule_said flag_known = words refl
rule_said b4_stays = words refl
rule_said kind_follows = words refl
rule_said part_not_empty = words refl
rule_said separator_value = words refl
rule_said record_length = words refl
rule_said total_sum = words refl
rule_said data_within = words refl
rule_said skip_count = words refl
rule_said total_in_time = words refl

stop_said : {size limit : ℕ} {es : List Entry} {place : ℕ} {c : Cursor} {x : Explanation} → Stops size limit es place c x → Said x.refusal
stop_said (stops_here {rule = rule} b) = rule_said rule
stop_said (stops_later k s) = stop_said s

-- The room for rows is enough where the entry count is in range.
enough : (size n : ℕ) → size ≤ largest_size → entries_kept size n ≡ true → leb (3 * n) (row_bytes / 4) ≡ true
enough size n small e =
    let kept = leb-true (information_length + entry_length * n) size (both (leb 1 n) (leb (information_length + entry_length * n) size) e).1 in
    le-leb (3 * n) (row_bytes / 4) (omega (arith, kept))

module _ (s : Reader) (image : List ℕ) (number n : ℕ) (sound_is : sound s ≡ true) (long : length image ≡ s.size) (small : s.size ≤ largest_size) where
  said : {x : Explanation} → True s image number n row_bytes x → Said x.refusal
  unfolding wrong
  said (accepted e) = nothing
  said (a_repeat e) = nothing
  said (unsound e) = absurd (true≢false (sym sound_is ∙ e))
  said (wrong_length a r out) = absurd (true≢false (sym (rw (r, long) (is_within {low = s.size} {n = s.size} {high = s.size} (omega arith) (omega arith))) ∙ out))
  said (not_next a b c f out exact) = words refl
  said (entries_out a b c f out exact) = words refl
  said (rows_short a b c d f out exact) = absurd (true≢false (sym (exact row_bytes (omega arith) ∙ enough s.size n small d) ∙ out))
  said (stopped a b c d f stops) = stop_said stops

  pub always_words : Said (explained s image number n row_bytes).refusal
  always_words = said (explained_true s image number n row_bytes)

-- So it is in a run: the states that a start and a read of its groups leave are sound and have its L.
pub record InRun (size : ℕ) (s : Reader) : Type 0 where
  pub is_sound : sound s ≡ true
  pub its_size : s.size ≡ size

pub run_begins : (size first : ℕ) (s : Reader) → reader_start_call size first ≡ start.Started s → InRun size s
run_begins size first s e =
    let b = begun_at size first s e in
    let k = started size first b.0 in
    let l = within least_size size standard_size k.0 in
    let m = within 1 first last_number k.1 in
    let run : Run size first phase.Free 0 = record { least = l.0; most = l.1; some = m.0; number = omega (arith, m.1); kept = refl } in
    rw b.1 (record { is_sound = and (sound_of_run size first phase.Free 0 run) (none_accepted first); its_size = refl })

pub run_goes_on : (size : ℕ) (s t : Reader) (image : List ℕ) (number n : ℕ) → InRun size s → read_call s image number n row_numbers ≡ answer.Accepted t → InRun size t
run_goes_on size s t image number n r e =
    let p = acceptance.accepted s t image number n row_numbers e in
    record { is_sound = sound_again s t image number n row_numbers e; its_size = ap (λ (q : Reader). q.size) p.left ∙ r.its_size }
