-- Each call of a writing through its slices is the writer's own call on the state that the state slice holds.
-- Assumes nothing.
use mathlib.Core.Path.{◌≡◌, refl, sym, ap, ◌∙◌, subst}
use mathlib.Core.Logic.{◌⊎◌, inl, inr}
use mathlib.Core.Bool.{Bool, true, false, cond}
use mathlib.Core.List.{List, [], ◌∷◌, ◌++◌}
use Prim.Native.Nat.{ℕ}
use native.Mathlib.Omega.{arith}
use lib.Dec.{eqb}
use lib.ListN.{length, get_or}
use Rattle.laying.proofs.Starts.{begun_at as started_at}
use Rattle.laying.specs.Start.{fresh_state, writer_start_call}
use Rattle.numbers.proofs.InBytes.{length_in_bytes, field_of_bytes}
use Rattle.numbers.specs.Numbers.{in_bytes, field}
use Rattle.group.specs.declared.Phase.{Phase}
use Rattle.group.specs.declared.Phase.TheVariants.{Free}
use Rattle.group.specs.Sizes.{information_length}
use Rattle.laying.specs.declared.Writer.{Writer}
use Rattle.laying.specs.WriterStart.{WriterStart}
use Rattle.laying.specs.WriterStart as start
use Rattle.writer.specs.WriteAnswer.{WriteAnswer}
use Rattle.writer.specs.WriteAnswer.{Finished, Closed, Refused}
use Rattle.sound.specs.State.{writer_sound}
use Rattle.laying.specs.Laying.{Desk, desk}
use Rattle.writer.specs.Calls.{Done, done, start_told, record_call, separator_call, end_call, Call, call, told, state_of}
use Rattle.writer.specs.Calls.Call.{a_record, a_separator, an_end}
use Rattle.writer.proofs.Theorems.{sound_after, end_empties, sound_start}
use Rattle.layout.specs.Layout.{Image}
use Rattle.layout.specs.Writing.{Account, noted, AsAsked, image_of, Wrote}
use Rattle.answer.specs.Answer.{numbers_told, refusal_told, if_accepted}
use Rattle.slices.specs.Call.{Left, left, outcome_seen, answer_length, lengths_kept, of_meaning, called}
use Rattle.slices.proofs.Calls.{let_through, leaves, c_answers, refused_leaves}
use Rattle.states.specs.States.{writer_length, b4_number, writer_of, writer_numbers, writer_bytes, writer_meant}
use Rattle.c_writer.specs.Calls.{dds_writer_start, written, writing, dds_record, dds_separator, dds_end, writer_left, group_left}
use Rattle.c_writer.specs.Accepted.{Accepts, CallAccepted}
use Rattle.c_writer.proofs.Theorems.{record_returns_zero, separator_returns_zero, end_returns_zero}
use Rattle.states.proofs.StateLaws.{writer_of_bytes, meant_writer, sound_writer_fits}
use Rattle.trip.specs.ThroughC.{call_c, CallC, record_c, separator_c, end_c, asked_c, phase_seen, number_seen, entries_seen, finished_seen, closed_seen, WroteC, WasEndedC}
use Rattle.trip.specs.Stated.{Written}
use Rattle.trip.proofs.Told.{Tells, TellsStart, call_tells, start_tells}

-- What the writer's own call leaves, once it is made.
abbrev own : Done → (state group : List ℕ) → Left
own d state group =
    left (refusal_told (told d.answer)) (if_accepted (told d.answer) (writer_bytes (state_of d.answer) ∷ d.group ∷ []) (state ∷ group ∷ []))
    (in_bytes (numbers_told (told d.answer)))

-- A call through its slices: refused by the answer slice's length, with nothing written, or the writer's own.
data Way (d : Done) (state group answer : List ℕ) : Left → Type 0 where
  turned_away : Way d state group answer (left 1 (state ∷ group ∷ []) answer)
  made : Way d state group answer (own d state group)

way_writing : (f : Bool → Desk → Done) (warn : Bool) (state group answer : List ℕ) → length state ≡ writer_length → writer_meant state ≡ true →
    Way (f warn (desk (writer_of state) group)) state group answer (writing f state group (b4_number warn) answer)
unfolding written called lengths_kept
way_writing f warn state group answer long meant = by warn (eqb (length answer) answer_length)
  where
    one : (d : Done) (p : Bool) → Way d state group answer (cond p (own d state group) (left 1 (state ∷ group ∷ []) answer))
    one d true = made
    one d false = turned_away

    by : (warn p : Bool) → Way (f warn (desk (writer_of state) group)) state group answer (writing f state group (b4_number warn) answer)
    by true p = rw (long, meant) (one (f true (desk (writer_of state) group)) (eqb (length answer) answer_length))
    by false p = rw (long, meant) (one (f false (desk (writer_of state) group)) (eqb (length answer) answer_length))

way : (c : Call) (state group answer : List ℕ) → length state ≡ writer_length → writer_meant state ≡ true →
    Way (call c (desk (writer_of state) group)) state group answer (call_c c state group answer)
unfolding call_c call dds_record dds_separator dds_end
way (a_record bytes warn) state group answer long meant = way_writing (record_call bytes) warn state group answer long meant
way (a_separator value warn) state group answer long meant = way_writing (separator_call value) warn state group answer long meant
way (an_end warn) state group answer long meant = way_writing end_call warn state group answer long meant

-- An accepted call as C sees it: its answer, a state slice that holds its state, and its group.
record Step (d : Done) (a : WriteAnswer) (o : Left) : Type 0 where
  answer : d.answer ≡ a
  sound : writer_sound (writer_of (writer_left o)) ≡ true
  bytes : in_bytes (writer_numbers (writer_of (writer_left o))) ≡ writer_left o
  lent : d.group ≡ group_left o

back : (s : Writer) → writer_sound s ≡ true → writer_of (in_bytes (writer_numbers s)) ≡ s
back s h = writer_of_bytes s (sound_writer_fits s h)

sound_back : (s : Writer) → writer_sound s ≡ true → writer_sound (writer_of (in_bytes (writer_numbers s))) ≡ true
sound_back s h = ap writer_sound (back s h) ∙ h

bytes_back : (s : Writer) → writer_sound s ≡ true → in_bytes (writer_numbers (writer_of (in_bytes (writer_numbers s)))) ≡ in_bytes (writer_numbers s)
bytes_back s h = ap (λ (v : Writer). in_bytes (writer_numbers v)) (back s h)

abbrev SoundAfter : WriteAnswer → Type 0
SoundAfter a = refusal_told (told a) ≡ 0 → writer_sound (state_of a) ≡ true

seen_finished : (state group : List ℕ) (a : WriteAnswer) (g : List ℕ) → Tells a → SoundAfter a → refusal_told (told a) ≡ 0 → outcome_seen (own (done a g) state group) ≡ 0 →
    Step (done a g) (finished_seen (own (done a g) state group)) (own (done a g) state group)
unfolding state_of
seen_finished state group (Finished s) g t h e f =
    record { answer = ap Finished (sym (back s (h e))); sound = sound_back s (h e); bytes = bytes_back s (h e); lent = refl }
seen_finished state group (Closed s number entries taken) g t h e f =
    let one = field_of_bytes (0 ∷ 0 ∷ 1 ∷ number ∷ entries ∷ taken ∷ []) 2 (omega arith) (omega arith) in
    let z : ◌≡◌ {A = ℕ} 1 0 = sym one ∙ f in
    absurd (omega arith)
seen_finished state group (Refused s refusal) g t h e f = absurd (t e)

closed_as : {s s' : Writer} {number number' entries entries' taken taken' : ℕ} → s' ≡ s → number' ≡ number → entries' ≡ entries → taken' ≡ taken →
    Closed s number entries taken ≡ Closed s' number' entries' taken'
closed_as e f g h = rw (e, f, g, h)

seen_closed : (state group : List ℕ) (a : WriteAnswer) (g : List ℕ) → Tells a → SoundAfter a → refusal_told (told a) ≡ 0 → outcome_seen (own (done a g) state group) ≡ 1 →
    Step (done a g) (closed_seen (own (done a g) state group)) (own (done a g) state group)
unfolding state_of
seen_closed state group (Finished s) g t h e f =
    let none = field_of_bytes (0 ∷ 0 ∷ 0 ∷ 0 ∷ 0 ∷ 0 ∷ []) 2 (omega arith) (omega arith) in
    let z : ◌≡◌ {A = ℕ} 0 1 = sym none ∙ f in
    absurd (omega arith)
seen_closed state group (Closed s number entries taken) g t h e f =
    let ns : List ℕ = 0 ∷ 0 ∷ 1 ∷ number ∷ entries ∷ taken ∷ [] in
    let a = field_of_bytes ns 3 (omega arith) t.0 in
    let b = field_of_bytes ns 4 (omega arith) t.1.0 in
    let c = field_of_bytes ns 5 (omega arith) t.1.1 in
    record { answer = closed_as (back s (h e)) a b c; sound = sound_back s (h e); bytes = bytes_back s (h e); lent = refl }
seen_closed state group (Refused s refusal) g t h e f = absurd (t e)

step_finished : {d : Done} {state group answer : List ℕ} {o : Left} → Tells d.answer → SoundAfter d.answer → Way d state group answer o →
    o.refusal ≡ 0 → outcome_seen o ≡ 0 → Step d (finished_seen o) o
step_finished t h turned_away e f = absurd (omega arith)
step_finished {d} {state} {group} t h made e f = seen_finished state group d.answer d.group t h e f

step_closed : {d : Done} {state group answer : List ℕ} {o : Left} → Tells d.answer → SoundAfter d.answer → Way d state group answer o →
    o.refusal ≡ 0 → outcome_seen o ≡ 1 → Step d (closed_seen o) o
step_closed t h turned_away e f = absurd (omega arith)
step_closed {d} {state} {group} t h made e f = seen_closed state group d.answer d.group t h e f

-- A start that returned 0 left the bytes of the state that the writer starts with.
record BegunAt (size first : ℕ) (state : List ℕ) : Type 0 where
  starts : writer_start_call size first ≡ start.Started (writer_of state)
  sound : writer_sound (writer_of state) ≡ true
  bytes : in_bytes (writer_numbers (writer_of state)) ≡ state

abbrev Begun : (size first : ℕ) → Left → Type 0
Begun size first o = BegunAt size first (writer_left o)

begun_start : (size first : ℕ) (state : List ℕ) (a : WriterStart) → writer_start_call size first ≡ a → TellsStart a → refusal_told (start_told a) ≡ 0 →
    BegunAt size first (if_accepted (start_told a) (writer_bytes (fresh_state size first)) state)
begun_start size first state (start.Started s) is t e =
    let same = (started_at size first s is).1 in
    let h : writer_sound (fresh_state size first) ≡ true = ap writer_sound (sym same) ∙ sound_start size first s is in
    record {
      starts = is ∙ ap start.Started (same ∙ sym (back (fresh_state size first) h));
      sound = sound_back (fresh_state size first) h;
      bytes = bytes_back (fresh_state size first) h;
    }
begun_start size first state (start.Refused refusal) is t e = absurd (t e)

begun : (size first : ℕ) (state answer : List ℕ) → (dds_writer_start size first state answer).refusal ≡ 0 → Begun size first (dds_writer_start size first state answer)
unfolding dds_writer_start
begun size first state answer zero =
    let l = leaves _ _ _ answer refl (let_through _ _ _ _ answer refl zero) in
    subst (λ (s : List ℕ). BegunAt size first s) (sym (l.slices 0))
    (begun_start size first state (writer_start_call size first) refl (start_tells size first) (sym l.returns ∙ zero))

begun_at : (size first : ℕ) (state answer : List ℕ) {o : Left} → dds_writer_start size first state answer ≡ o → o.refusal ≡ 0 → Begun size first o
begun_at size first state answer e n =
    subst (λ (o : Left). Begun size first o) e (begun size first state answer (ap (λ (o : Left). o.refusal) e ∙ n))

-- The phase that C sees is the phase of the state that the slice holds.
phase_held : (state : List ℕ) → (writer_of state).phase ≡ phase_seen state
unfolding writer_of
phase_held state = refl

-- A slice that holds a sound state is let through.
module _ {size first : ℕ} {state group : List ℕ} {run : List Image} {closed now : Account} (x : Written size first state group run closed now) where
  held_long : length state ≡ writer_length
  held_long = ap length (sym x.bytes) ∙ length_in_bytes (writer_numbers (writer_of state))

  held_meant : writer_meant state ≡ true
  held_meant = ap writer_meant (sym x.bytes) ∙ meant_writer (writer_of state)

  held_way : (c : Call) (answer : List ℕ) {o : Left} → call_c c state group answer ≡ o → Way (call c (desk (writer_of state) group)) state group answer o
  held_way c answer e = subst (λ (o : Left). Way (call c (desk (writer_of state) group)) state group answer o) e (way c state group answer held_long held_meant)

  held_asked : (c : Call) → AsAsked c (phase_seen state) now → AsAsked c (writer_of state).phase now
  held_asked c q = subst (λ (p : Phase). AsAsked c p now) (sym (phase_held state)) q

  written_on : (c : Call) {o : Left} → AsAsked c (phase_seen state) now → Step (call c (desk (writer_of state) group)) (finished_seen o) o →
      Written size first (writer_left o) (group_left o) run closed (noted c (phase_seen state) (finished_seen o) now)
  written_on c {o} q s =
      let y = Wrote.goes_on c x.wrote (held_asked c q) s.answer in
      let z = subst (λ (g : List ℕ). Wrote size first (desk (writer_of (writer_left o)) g) run closed (noted c (writer_of state).phase (finished_seen o) now)) s.lent y in
      record {
        wrote = subst (λ (p : Phase). Wrote size first (desk (writer_of (writer_left o)) (group_left o)) run closed (noted c p (finished_seen o) now)) (phase_held state) z;
        sound = s.sound;
        bytes = s.bytes;
      }

  written_closed : (c : Call) (information buffer : List ℕ) {o : Left} → AsAsked c (phase_seen state) now → Step (call c (desk (writer_of state) group)) (closed_seen o) o →
      length information ≡ information_length → length buffer ≡ size →
      Written size first (writer_left o) buffer (run ++ (image_of (number_seen o) (entries_seen o) (group_left o) information ∷ []))
      (noted c (phase_seen state) (closed_seen o) now) (noted c (phase_seen state) (closed_seen o) now)
  written_closed c information buffer {o} q s i j =
      let y = Wrote.closes c information buffer x.wrote (held_asked c q) s.answer i j in
      let a : Phase → Account = λ p. noted c p (closed_seen o) now in
      let z = subst (λ (g : List ℕ). Wrote size first (desk (writer_of (writer_left o)) buffer) (run ++ (image_of (number_seen o) (entries_seen o) g information ∷ [])) (a (writer_of state).phase) (a (writer_of state).phase)) s.lent y in
      record {
        wrote = subst (λ (p : Phase). Wrote size first (desk (writer_of (writer_left o)) buffer) (run ++ (image_of (number_seen o) (entries_seen o) (group_left o) information ∷ [])) (a p) (a p)) (phase_held state) z;
        sound = s.sound;
        bytes = s.bytes;
      }

-- A call that returned another number than 0 left the state as it was, whatever else it was lent.
abbrev first_slice : List (List ℕ) → List ℕ
first_slice slices = get_or slices 0 []

state_stays : (c : CallC) (state lent answer : List ℕ) {o : Left} → asked_c c state lent answer ≡ o → (o.refusal ≡ 0 → ⊥) → writer_left o ≡ state
unfolding asked_c dds_record dds_separator dds_end written
state_stays (record_c bytes warn) state lent answer e n = ap first_slice (refused_leaves _ _ _ _ answer (sym e) n)
state_stays (separator_c value warn) state lent answer e n = ap first_slice (refused_leaves _ _ _ _ answer (sym e) n)
state_stays (end_c warn) state lent answer e n = ap first_slice (refused_leaves _ _ _ _ answer (sym e) n)

-- The whole of a writing.
pub written_through : {size first : ℕ} {state group : List ℕ} {run : List Image} {closed now : Account} → WroteC size first state group run closed now →
    Written size first state group run closed now
written_through {size} {first} (WroteC.begins state answer group e n l) =
    let b = begun_at size first state answer e n in
    record { wrote = Wrote.begins b.starts l; sound = b.sound; bytes = b.bytes }
written_through (WroteC.goes_on {state} {group} c answer x q e n f) =
    let y = written_through x in
    let w = desk (writer_of state) group in
    written_on y c q (step_finished (call_tells c w) (sound_after c w) (held_way y c answer e) n f)
written_through (WroteC.closes {state} {group} c answer information buffer x q e n f i j) =
    let y = written_through x in
    let w = desk (writer_of state) group in
    written_closed y c information buffer q (step_closed (call_tells c w) (sound_after c w) (held_way y c answer e) n f) i j
written_through {size} {first} {group = group} {run} {closed} {now} (WroteC.refused {state} c lent answer x e n) =
    subst (λ (s : List ℕ). Written size first s group run closed now) (sym (state_stays c state lent answer e n)) (written_through x)
written_through (WroteC.changed information x i) =
    let y = written_through x in
    record { wrote = Wrote.changed information y.wrote i; sound = y.sound; bytes = y.bytes }

-- After an end from C that returned 0 the state slice holds no entry, and the writer is free.
abbrev Rests : Writer → Type 0
Rests s = (s.entries ≡ 0) × (s.phase ≡ Free)

rested : (warn : Bool) (w : Desk) (a : WriteAnswer) → (call (an_end warn) w).answer ≡ a → refusal_told (told a) ≡ 0 → Rests (state_of a)
rested warn w a e = subst (λ (b : WriteAnswer). refusal_told (told b) ≡ 0 → Rests (state_of b)) e (end_empties warn w)

pub ended_rests : {size first : ℕ} {state group : List ℕ} {run : List Image} {closed now : Account} (x : WroteC size first state group run closed now) → WasEndedC x → Rests (writer_of state)
unfolding WasEndedC state_of
ended_rests (WroteC.begins state answer group e n l) h = absurd h
ended_rests (WroteC.goes_on (a_record bytes warn) answer x q e n f) h = absurd h
ended_rests (WroteC.goes_on (a_separator value warn) answer x q e n f) h = absurd h
ended_rests (WroteC.goes_on {state} {group} (an_end warn) answer x q e n f) h =
    let w = desk (writer_of state) group in
    rested warn w _ (step_finished (call_tells (an_end warn) w) (sound_after (an_end warn) w) (held_way (written_through x) (an_end warn) answer e) n f).answer refl
ended_rests (WroteC.closes (a_record bytes warn) answer information buffer x q e n f i j) h = absurd h
ended_rests (WroteC.closes (a_separator value warn) answer information buffer x q e n f i j) h = absurd h
ended_rests (WroteC.closes {state} {group} (an_end warn) answer information buffer x q e n f i j) h =
    let w = desk (writer_of state) group in
    rested warn w _ (step_closed (call_tells (an_end warn) w) (sound_after (an_end warn) w) (held_way (written_through x) (an_end warn) answer e) n f).answer refl
ended_rests (WroteC.refused {state} c lent answer x e n) h = subst (λ (s : List ℕ). Rests (writer_of s)) (sym (state_stays c state lent answer e n)) (ended_rests x h)
ended_rests (WroteC.changed information x i) h = ended_rests x h

-- An accepted call is seen as finished or as closed, whatever is lent: no other outcome is told.
seen : {a : WriteAnswer} (answer : List ℕ) → Accepts a → answer ≡ in_bytes (numbers_told (told a)) → (field answer 2 ≡ 0) ⊎ (field answer 2 ≡ 1)
seen answer Accepts.finishes e = inl (ap (λ (b : List ℕ). field b 2) e ∙ field_of_bytes (0 ∷ 0 ∷ 0 ∷ 0 ∷ 0 ∷ 0 ∷ []) 2 (omega arith) (omega arith))
seen answer (Accepts.closes {s} {number} {entries} {taken}) e =
    inr (ap (λ (b : List ℕ). field b 2) e ∙ field_of_bytes (0 ∷ 0 ∷ 1 ∷ number ∷ entries ∷ taken ∷ []) 2 (omega arith) (omega arith))

seen_written : (d : Done) (state group : List ℕ) (warn : ℕ) (answer : List ℕ) → CallAccepted d state warn answer →
    (outcome_seen (written d state group warn answer) ≡ 0) ⊎ (outcome_seen (written d state group warn answer) ≡ 1)
unfolding written
seen_written d state group warn answer a =
    seen _ a.accepts
    ((c_answers _ _ _ _ answer refl).tells a.kept ∙ ap (λ (meant : Bool). in_bytes (numbers_told (of_meaning meant (told d.answer)))) a.meant)

pub either_seen : (c : Call) (state group answer : List ℕ) → (call_c c state group answer).refusal ≡ 0 →
    (outcome_seen (call_c c state group answer) ≡ 0) ⊎ (outcome_seen (call_c c state group answer) ≡ 1)
unfolding call_c dds_record dds_separator dds_end
either_seen (a_record bytes warn) state group answer e = seen_written _ state group _ answer ((record_returns_zero state group (b4_number warn) answer bytes).0 e)
either_seen (a_separator value warn) state group answer e = seen_written _ state group _ answer ((separator_returns_zero state group (b4_number warn) answer value).0 e)
either_seen (an_end warn) state group answer e = seen_written _ state group _ answer ((end_returns_zero state group (b4_number warn) answer).0 e)
