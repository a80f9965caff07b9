-- Accepted runs in order: how they split at a group's end, the numbers that they bear, and the one state that they leave.
-- Assumes nothing.
use Prim.Native.Nat.{ℕ, zero, suc, ◌+◌, ◌<◌}
use native.Mathlib.Omega.{arith}
use native.Mathlib.Nat.{add-zero}
use mathlib.Core.List.{List, [], ◌∷◌, ◌++◌, map}
use mathlib.Core.Bool.{false}
use mathlib.Core.Path.{◌≡◌, refl, sym, ap, ◌∙◌, subst}
use lib.ListN.{length, get_or}
use borrow.Author.Tests.{eq-eqb, ne_eqb}
use Rattle.group.proofs.StateLaws.{sound_of_run}
use Rattle.reader.specs.declared.Reader.{Reader}
use Rattle.entry.specs.ScanEnd.{Reached}
use Rattle.reader.specs.ReadAnswer as answer
use Rattle.reader.specs.Answer.{closing, repeats, read_refusal, read_call, group_rows, rows_left}
use Rattle.reader.proofs.Accepted.{Ready, Passed, accepted, not_repeat, read_refused_lem}
use Rattle.layout.specs.Items.{Each}
use Rattle.layout.specs.Items.Each.{each_none, each_more}
use Rattle.layout.specs.Layout.{Image}
use Rattle.layout.specs.Stated.{OutOfOrder}
use Rattle.layout.specs.Accepting.{Accepts}
use Rattle.layout.specs.Accepting.Accepts.{accepts_none, accepts_more}

-- What acceptance of a first group tells.
pub record First (s : Reader) (g : Image) : Type 0 where
  pub room : ℕ
  pub ready : Ready s (length g.bytes) g.number g.entries room

pub first_of : {s u : Reader} {g : Image} {gs : List Image} {rows : List (List ℕ)} → Accepts s (g ∷ gs) rows u → First s g
first_of (accepts_more {s} {t} {g} old e a) = record { room = length old; ready = (accepted s t g.bytes g.number g.entries (length old) e).ready }

-- After groups that are accepted L is as it was, and the number is as many higher as there are groups.
pub size_after : {s t : Reader} {run : List Image} {rows : List (List ℕ)} → Accepts s run rows t → t.size ≡ s.size
size_after accepts_none = refl
size_after (accepts_more {s} {t} {g} old e a) =
    size_after a ∙ ap (λ (r : Reader). r.size) (accepted s t g.bytes g.number g.entries (length old) e).left

pub next_after : {s t : Reader} {run : List Image} {rows : List (List ℕ)} → Accepts s run rows t → t.next ≡ s.next + length run
next_after {s} accepts_none = sym (add-zero s.next)
next_after (accepts_more {s} {t} {g} old e a) =
    let one : t.next ≡ s.next + 1 = ap (λ (r : Reader). r.next) (accepted s t g.bytes g.number g.entries (length old) e).left in
    omega (arith, next_after a)

-- The k-th group bears the number that is k above the first.
pub number_of : {s t : Reader} {run : List Image} {rows : List (List ℕ)} → Accepts s run rows t → (k : ℕ) → k < length run →
    get_or (map (λ (g : Image). g.number) run) k 0 ≡ s.next + k
number_of accepts_none k h = absurd (omega arith)
number_of (accepts_more {s} {t} {g} old e a) zero h = (accepted s t g.bytes g.number g.entries (length old) e).ready.next ∙ sym (add-zero s.next)
number_of (accepts_more {s} {t} {g} old e a) (suc k) h =
    let one : t.next ≡ s.next + 1 = ap (λ (r : Reader). r.next) (accepted s t g.bytes g.number g.entries (length old) e).left in
    number_of a k (omega arith) ∙ omega arith

-- The state that a run leaves is the same whatever row buffers were lent.
read_same : {s t u : Reader} {g : List ℕ} {number n room more : ℕ} → Passed s t g number n room → Passed s u g number n more → t ≡ u
read_same {s} p q =
    let e : Reached p.end ≡ Reached q.end = sym p.reached ∙ q.reached in
    let f : p.end ≡ q.end = cc in
    p.left ∙ ap (closing s) f ∙ sym q.left

pub same_state : {s t u : Reader} {run : List Image} {rows others : List (List ℕ)} → Accepts s run rows t → Accepts s run others u → t ≡ u
same_state accepts_none accepts_none = refl
same_state {s} {t = x} {u = y} (accepts_more {t} {g} {gs} old e a) (accepts_more {t = v} {rows} other f b) =
    let same : v ≡ t = read_same (accepted s v g.bytes g.number g.entries (length other) f) (accepted s t g.bytes g.number g.entries (length old) e) in
    same_state a (subst (λ (r : Reader). Accepts r gs rows y) same b)

-- An accepted run splits at every group's end.
pub record Split (s : Reader) (a b : List Image) (rows : List (List ℕ)) (final : Reader) : Type 0 where
  pub left : Reader
  pub before : List (List ℕ)
  pub behind : List (List ℕ)
  pub parts : before ++ behind ≡ rows
  pub begins : Accepts s a before left
  pub goes_on : Accepts left b behind final

split_more : {s t final : Reader} {g : Image} {a b : List Image} {rows : List (List ℕ)} (old : List ℕ) → read_call s g.bytes g.number g.entries (length old) ≡ answer.Accepted t →
    Split t a b rows final → Split s (g ∷ a) b (rows_left (read_call s g.bytes g.number g.entries (length old)) (group_rows s g.bytes g.entries) old ∷ rows) final
split_more {s} {g} old e r =
    let row : List ℕ = rows_left (read_call s g.bytes g.number g.entries (length old)) (group_rows s g.bytes g.entries) old in
    record {
      left = r.left;
      before = row ∷ r.before;
      behind = r.behind;
      parts = ap {B = List (List ℕ)} (λ l. row ∷ l) r.parts;
      begins = accepts_more old e r.begins;
      goes_on = r.goes_on;
    }

pub split : {final : Reader} (a b : List Image) {s : Reader} {rows : List (List ℕ)} → Accepts s (a ++ b) rows final → Split s a b rows final
split [] b {s} {rows} x = record { left = s; before = []; behind = rows; parts = refl; begins = accepts_none; goes_on = x }
split (g ∷ a) b (accepts_more old e x) = split_more old e (split a b x)

pub each_before : {P : Image → Type 0} (a b : List Image) → Each P (a ++ b) → Each P a
each_before [] b e = each_none
each_before (g ∷ a) b (each_more h e) = each_more h (each_before a b e)

-- A group whose number is neither the next nor the last is refused with 5, whatever it holds and whatever rows are lent, by a
-- state that accepts some other group, if its buffer is L bytes long.
pub other_number : {s : Reader} {g : Image} (h : Image) → First s g → length h.bytes ≡ s.size → (h.number ≡ s.next → ⊥) → (h.number + 1 ≡ s.next → ⊥) → (room : ℕ) →
    read_call s h.bytes h.number h.entries room ≡ answer.Refused s 5 0
unfolding read_refusal
other_number {s} h f long other no_repeat room =
    let five : 5 ≡ read_refusal s (length h.bytes) h.number h.entries room =
    rw (sound_of_run _ _ _ _ f.ready.run, f.ready.began, eq-eqb (length h.bytes) s.size long, ne_eqb h.number s.next other) in
    let never : repeats s h.number ≡ false = rw (ne_eqb (h.number + 1) s.next no_repeat) in
    sym (read_refused_lem s h.bytes h.number h.entries room 5 five (λ z. omega arith) (not_repeat s (length h.bytes) h.number never))

-- .. so a run that goes on with it, after groups that are accepted, is out of order.
pub out_of_order : {s state : Reader} {rows : List (List ℕ)} (beginning : List Image) (g h : Image) (rest : List Image) → Accepts s beginning rows state → First state g →
    length h.bytes ≡ state.size → (h.number ≡ state.next → ⊥) → (h.number + 1 ≡ state.next → ⊥) → OutOfOrder s beginning h rest
out_of_order {s} {state} {rows} beginning g h rest a f long other no_repeat =
    record {
      accepted = (rows, (state, a));
      refused =
          λ others t o old. subst (λ (y : Reader). read_call y h.bytes h.number h.entries (length old) ≡ answer.Refused y 5 0) (same_state a o) (other_number h f long other no_repeat (length old));
      never =
          λ others t o. let r = split beginning (h ∷ rest) o in other ((first_of r.goes_on).ready.next ∙ ap (λ (y : Reader). y.next) (same_state r.begins a));
    }
