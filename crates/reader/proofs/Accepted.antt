-- What the tests before a scan tell, what each way of a read answers, and what acceptance implies.
-- Assumes nothing.
use mathlib.Core.Path.{◌≡◌, refl, sym, ap, ◌∙◌}
use mathlib.Core.Bool.{Bool, true, false, cond, not, ◌&&◌, ◌||◌}
use mathlib.Core.List.{List}
use Prim.Native.Nat.{ℕ, ◌+◌, ◌*◌, ◌-◌, ◌≤◌}
use native.Mathlib.Omega.{arith}
use borrow.Author.Tests.{eq-eqb, ne_eqb, eqb-true, le-leb, leb-true, not-false}
use lib.Dec.{eqb, leb}
use lib.ListN.{length}
use Rattle.group.specs.Sizes.{last_number, information_length, entry_length, entries_kept, entry_offset}
use Rattle.group.specs.Entries.{entries_below}
use Rattle.group.specs.State.{run_sound, start_refusal}
use Rattle.numbers.proofs.Tests.{both, and, passed}
use Rattle.group.proofs.StateLaws.{Run, run_of_sound, sound_of_run, sum_small}
use Rattle.reader.specs.declared.Reader.{Reader}
use Rattle.entry.specs.declared.Cursor.{Cursor}
use Rattle.entry.specs.ScanEnd.{ScanEnd}
use Rattle.entry.specs.ScanEnd as scanned
use Rattle.reader.specs.ReaderStart as start
use Rattle.reader.specs.ReadAnswer as answer
use Rattle.reader.specs.Answer.{fresh, reader_start_call, sound, accepted_kept, length_kept, repeats, is_repeat, next_is, rows_fit, read_refusal, opening, closing, group_scan, answered, read_call}
use Rattle.entry.specs.Bounds.{Cut, Bounded, Within}
use Rattle.entry.proofs.Scans.{within}
use Rattle.reader.proofs.Refusals.{none}

-- No refusal before the scan, as facts on numbers.
pub record Ready (s : Reader) (size number n room : ℕ) : Type 0 where
  pub run : Run s.size s.next s.phase s.sum
  pub began : accepted_kept s.next s.accepted ≡ true
  pub long : size ≡ s.size
  pub next : number ≡ s.next
  pub numbered : number ≤ 65535
  pub some : 1 ≤ n
  pub fits : 32 + 4 * n ≤ s.size
  pub rows : 3 * n ≤ room

module _ (s : Reader) (size number n room : ℕ) where
  pub ready : read_refusal s size number n room ≡ 0 → Ready s size number n room
  unfolding read_refusal
  ready e =
      let a = passed (not (sound s)) 0 e in
      let b = passed (not (length_kept s size)) 3 a.1 in
      let c = passed (not (next_is s number)) 4 b.1 in
      let d = passed (not (entries_kept s.size n)) 5 c.1 in
      let f = passed (not (rows_fit n room)) 6 d.1 in
      let sound_is = both (run_sound s.size s.next s.phase s.sum) (accepted_kept s.next s.accepted) (not-false _ a.0) in
      let number_is = both (eqb number s.next) (leb number last_number) (not-false _ c.0) in
      let entries = both (leb 1 n) (leb (information_length + entry_length * n) s.size) (not-false _ d.0) in
      record {
        run = run_of_sound _ _ _ _ sound_is.0;
        began = sound_is.1;
        long = eqb-true size s.size (not-false _ b.0);
        next = eqb-true number s.next number_is.0;
        numbered = leb-true number last_number number_is.1;
        some = leb-true 1 n entries.0;
        fits = leb-true (information_length + entry_length * n) s.size entries.1;
        rows = leb-true (3 * n) room (not-false _ f.0);
      }

  pub not_refused : Ready s size number n room → read_refusal s size number n room ≡ 0
  not_refused r =
      sym
      (none s size number n room
      (and (sound_of_run _ _ _ _ r.run) r.began)
      (eq-eqb size s.size r.long)
      (and (eq-eqb number s.next r.next) (le-leb number last_number r.numbered))
      (and (le-leb 1 n r.some) (le-leb (information_length + entry_length * n) s.size r.fits))
      (le-leb (3 * n) room r.rows))

-- A state that says no group was accepted can be so at every number.
pub none_accepted : (next : ℕ) → accepted_kept next false ≡ true
none_accepted next = by (leb 2 next)
  where
    by : (b : Bool) → b || true ≡ true
    by true = refl
    by false = refl

-- A repeat, as facts; and what would else be refused with 5, and only that, may be one.
module _ (s : Reader) (size number : ℕ) where
  pub repeat_is : is_repeat s size number ≡ true → (sound s ≡ true) × ((length_kept s size ≡ true) × (repeats s number ≡ true))
  unfolding is_repeat
  repeat_is e =
      let a = both (sound s) (length_kept s size && repeats s number) e in
      (a.0, both (length_kept s size) (repeats s number) a.1)

  pub is_repeat_lem : sound s ≡ true → length_kept s size ≡ true → repeats s number ≡ true → is_repeat s size number ≡ true
  unfolding is_repeat
  is_repeat_lem a b c = rw (a, b, c)

  pub not_repeat : repeats s number ≡ false → is_repeat s size number ≡ false
  not_repeat e = by (is_repeat s size number) refl
    where
      by : (b : Bool) → is_repeat s size number ≡ b → b ≡ false
      by true h = sym (repeat_is h).1.1 ∙ e
      by false h = refl

  pub repeat_five : (n room : ℕ) → is_repeat s size number ≡ true → read_refusal s size number n room ≡ 5
  unfolding read_refusal
  repeat_five n room e =
      let (a, (b, c)) = repeat_is e in
      let one = eqb-true (number + 1) s.next (both (eqb (number + 1) s.next) s.accepted c).0 in
      rw (a, b, ne_eqb number s.next (λ x. omega arith))

  pub never_repeat : (n room r : ℕ) → r ≡ read_refusal s size number n room → (r ≡ 5 → ⊥) → is_repeat s size number ≡ false
  never_repeat n room r e h = by (is_repeat s size number) refl
    where
      by : (b : Bool) → is_repeat s size number ≡ b → b ≡ false
      by true x = absurd (h (e ∙ repeat_five n room x))
      by false x = refl

  pub five_means : (n room : ℕ) → read_refusal s size number n room ≡ 5 → (sound s ≡ true) × (length_kept s size ≡ true)
  unfolding read_refusal
  five_means n room e = by (sound s) refl (length_kept s size) refl
    where
      by : (a : Bool) → sound s ≡ a → (b : Bool) → length_kept s size ≡ b → (a ≡ true) × (b ≡ true)
      by true x true y = (refl, refl)
      by true x false y = let z : ◌≡◌ {A = ℕ} 4 5 = rw (x, y) at e in absurd (omega arith)
      by false x b y = let z : ◌≡◌ {A = ℕ} 1 5 = rw x at e in absurd (omega arith)

-- How the table is cut where nothing is refused before the scan, and how small the scan begins.
pub cut : {s : Reader} {group : List ℕ} {number n room : ℕ} → Ready s (length group) number n room → Cut group s.size n
cut r = record { long = r.long; room = r.fits; some = r.some; most = r.run.most }

pub begins : {s : Reader} {size number n room : ℕ} → Ready s size number n room → Bounded (entry_offset s.size n) (opening s)
begins {s} r = record { sum = sum_small s.phase s.sum r.run.kept; reached = omega arith }

-- What a read answers, by its refusal and its scan.
module _ (s : Reader) (group : List ℕ) (number n room : ℕ) where
  pub read_repeated : is_repeat s (length group) number ≡ true → answer.Repeated s ≡ read_call s group number n room
  unfolding read_call
  read_repeated e = rw e

  pub read_refused_lem : (r : ℕ) → r ≡ read_refusal s (length group) number n room → (r ≡ 0 → ⊥) → is_repeat s (length group) number ≡ false
      → answer.Refused s r 0 ≡ read_call s group number n room
  unfolding read_call
  read_refused_lem r e h x = rw (x, ← e, ne_eqb r 0 h)

  pub read_scanned : read_refusal s (length group) number n room ≡ 0 → (end : ScanEnd) → group_scan s group n ≡ end → answered s end ≡ read_call s group number n room
  unfolding read_call
  read_scanned e end f = rw (never_repeat s (length group) number n room 0 (sym e) (λ z. omega arith), e, f)

-- An accepted read: nothing was refused before the scan, the scan reached its end, and the state is what it left.
pub record Passed (s t : Reader) (group : List ℕ) (number n room : ℕ) : Type 0 where
  pub ready : Ready s (length group) number n room
  pub end : Cursor
  pub reached : group_scan s group n ≡ scanned.Reached end
  pub left : t ≡ closing s end

module _ (s t : Reader) (group : List ℕ) (number n room : ℕ) where
  pub accepted : read_call s group number n room ≡ answer.Accepted t → Passed s t group number n room
  unfolding read_call
  accepted e = by (is_repeat s (length group) number) (eqb (read_refusal s (length group) number n room) 0) refl (group_scan s group n) refl e
    where
      by : (a b : Bool) → eqb (read_refusal s (length group) number n room) 0 ≡ b → (o : ScanEnd) → group_scan s group n ≡ o
          → cond a (answer.Repeated s) (cond b (answered s o) (answer.Refused s (read_refusal s (length group) number n room) 0)) ≡ answer.Accepted t
          → Passed s t group number n room
      by true b x o y h = let z : ◌≡◌ {A = ℕ} 0 1 = cc in absurd (omega arith)
      by false false x o y h = let z : ◌≡◌ {A = ℕ} 0 1 = cc in absurd (omega arith)
      by false true x (scanned.Refused fault place c) y h = let z : ◌≡◌ {A = ℕ} 0 1 = cc in absurd (omega arith)
      by false true x (scanned.Reached c) y h =
          record { ready = ready s (length group) number n room (eqb-true _ 0 x); end = c; reached = y; left = cc }

  -- A repeat is one, and leaves the state as given.
  pub repeated : read_call s group number n room ≡ answer.Repeated t → (is_repeat s (length group) number ≡ true) × (t ≡ s)
  unfolding read_call
  repeated e = by (is_repeat s (length group) number) (eqb (read_refusal s (length group) number n room) 0) (group_scan s group n) e
    where
      by : (a b : Bool) (o : ScanEnd) → cond a (answer.Repeated s) (cond b (answered s o) (answer.Refused s (read_refusal s (length group) number n room) 0)) ≡ answer.Repeated t
          → (a ≡ true) × (t ≡ s)
      by true b o h = (refl, cc)
      by false true (scanned.Reached c) h = let z : ◌≡◌ {A = ℕ} 0 1 = cc in absurd (omega arith)
      by false true (scanned.Refused fault place c) h = let z : ◌≡◌ {A = ℕ} 0 1 = cc in absurd (omega arith)
      by false false o h = let z : ◌≡◌ {A = ℕ} 0 1 = cc in absurd (omega arith)

  pub accepts : Passed s t group number n room → read_call s group number n room ≡ answer.Accepted t
  accepts p =
      sym (read_scanned s group number n room (not_refused s (length group) number n room p.ready) (scanned.Reached p.end) p.reached)
      ∙ ap answer.Accepted (sym p.left)

  -- Data within its limit.
  pub data_within_lem : read_call s group number n room ≡ answer.Accepted t → Within (entry_offset s.size n) 0 (entries_below group (s.size - information_length) n)
  unfolding group_scan
  data_within_lem e = let p = accepted e in within _ _ _ 1 (opening s) p.end (begins p.ready) p.reached

-- What a start's own answer tells: L and the first number are in range, and the state is the fresh one.
pub begun_at : (size first : ℕ) (s : Reader) → reader_start_call size first ≡ start.Started s → (start_refusal size first ≡ 0) × (s ≡ fresh size first)
unfolding reader_start_call
begun_at size first s e = by (eqb (start_refusal size first) 0) refl e
  where
    by : (b : Bool) → eqb (start_refusal size first) 0 ≡ b → cond b (start.Started (fresh size first)) (start.Refused (start_refusal size first)) ≡ start.Started s
        → (start_refusal size first ≡ 0) × (s ≡ fresh size first)
    by true x h = (eqb-true (start_refusal size first) 0 x, cc)
    by false x h = let z : ◌≡◌ {A = ℕ} 0 1 = cc in absurd (omega arith)
