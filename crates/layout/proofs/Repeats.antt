-- A run that is accepted to its end is, with its repeats taken out, a run that is accepted; and the other way round.
-- Assumes nothing.
use Prim.Native.Nat.{ℕ, ◌+◌, ◌*◌, ◌≤◌}
use native.Mathlib.Omega.{arith}
use mathlib.Core.List.{List, [], ◌∷◌, ◌++◌, append_assoc}
use mathlib.Core.Bool.{Bool, true, false, cond, false≢true}
use mathlib.Core.Path.{◌≡◌, refl, sym, ap, ◌∙◌, subst}
use mathlib.Core.Logic.{◌⊎◌, inl, inr}
use lib.Dec.{eqb}
use lib.ListN.{length}
use borrow.Author.Tests.{eqb-true, eqb-false, eq-eqb, ne_eqb}
use Rattle.reader.specs.declared.Reader.{Reader}
use Rattle.reader.specs.ReadAnswer as answer
use Rattle.reader.specs.Answer.{sound, repeats, read_call, group_rows, rows_left}
use Rattle.reader.proofs.Accepted.{accepted, accepts, is_repeat_lem, read_repeated}
use Rattle.reader.proofs.Repeats.{repeat_last}
use Rattle.reader.proofs.Sound.{sound_again}
use Rattle.layout.specs.Items.{Each, Piece}
use Rattle.layout.specs.Items.Each.{each_none, each_more}
use Rattle.layout.specs.Layout.{Image, Run}
use Rattle.layout.specs.Layout.Run.{run_none, run_more}
use Rattle.layout.specs.Repeats.{behind, without_repeats, OfSize}
use Rattle.layout.specs.Accepting.{Accepts, ToEnd, Lent, LentBehind, LentAmong}
use Rattle.layout.specs.Accepting.Accepts.{accepts_none, accepts_more}
use Rattle.layout.specs.Accepting.ToEnd.{end_none, end_more, end_repeat}
use Rattle.layout.specs.Accepting.Lent.{lent_none, lent_more}
use Rattle.layout.specs.Accepting.LentBehind.{behind_none, behind_more}
use Rattle.layout.specs.Accepting.LentAmong.{among_none, among_more}

-- Behind a group of the number `last` that was accepted.
pub behind_repeat : {last : ℕ} (g : Image) (gs : List Image) → g.number ≡ last → behind last (g ∷ gs) ≡ behind last gs
unfolding behind
behind_repeat {last} g gs e = ap (λ (b : Bool). cond b (behind last gs) (g ∷ behind g.number gs)) (eq-eqb g.number last e)

pub behind_other : {last : ℕ} (g : Image) (gs : List Image) → (g.number ≡ last → ⊥) → behind last (g ∷ gs) ≡ g ∷ behind g.number gs
unfolding behind
behind_other {last} g gs h = ap (λ (b : Bool). cond b (behind last gs) (g ∷ behind g.number gs)) (ne_eqb g.number last h)

out_behind : {t u : Reader} {run : List Image} {lent rows : List (List ℕ)} (last : ℕ) → t.next ≡ last + 1 → ToEnd t run lent rows u → Accepts t (behind last run) rows u
unfolding behind
out_behind last e end_none = accepts_none
out_behind last e (end_more {s} {t} {g} {gs} old h x) =
    let p = accepted s t g.bytes g.number g.entries (length old) h in
    let n : t.next ≡ g.number + 1 = ap (λ (r : Reader). r.next) p.left ∙ omega (arith, p.ready.next) in
    rw (behind_other {last = last} g gs (λ z. omega (arith, p.ready.next))) (accepts_more old h (out_behind g.number n x))
out_behind last e (end_repeat {s} {g} {gs} old h x) =
    let r = (repeat_last s s g.bytes g.number g.entries (length old) h).0 in
    rw (behind_repeat {last = last} g gs (omega arith)) (out_behind last e x)

-- From a state in which no group was accepted.
pub repeats_out : {s u : Reader} {run : List Image} {lent rows : List (List ℕ)} → s.accepted ≡ false → ToEnd s run lent rows u → Accepts s (without_repeats run) rows u
unfolding without_repeats
repeats_out e end_none = accepts_none
repeats_out e (end_more {s} {t} {g} {gs} old h x) =
    let p = accepted s t g.bytes g.number g.entries (length old) h in
    let n : t.next ≡ g.number + 1 = ap (λ (r : Reader). r.next) p.left ∙ omega (arith, p.ready.next) in
    accepts_more old h (out_behind g.number n x)
repeats_out e (end_repeat {s} {g} old h x) = absurd (false≢true (sym e ∙ (repeat_last s s g.bytes g.number g.entries (length old) h).1))

-- The other way round, with any row buffers that are long enough where a group is no repeat.
pub record Through (s : Reader) (run : List Image) (lent : List (List ℕ)) (u : Reader) : Type 0 where
  pub rows : List (List ℕ)
  pub reads : ToEnd s run lent rows u

any_room : (s t : Reader) (g : Image) (room more : ℕ) → read_call s g.bytes g.number g.entries room ≡ answer.Accepted t → 3 * g.entries ≤ more →
    read_call s g.bytes g.number g.entries more ≡ answer.Accepted t
any_room s t g room more e h =
    let p = accepted s t g.bytes g.number g.entries room e in
    let r = p.ready in
    accepts s t g.bytes g.number g.entries more
    (record {
      ready = record { run = r.run; began = r.began; long = r.long; next = r.next; numbered = r.numbered; some = r.some; fits = r.fits; rows = h };
      end = p.end;
      reached = p.reached;
      left = p.left;
    })

more_through : {s t u : Reader} {g : Image} {gs : List Image} {lent : List (List ℕ)} (old : List ℕ) → read_call s g.bytes g.number g.entries (length old) ≡ answer.Accepted t →
    Through t gs lent u → Through s (g ∷ gs) (old ∷ lent) u
more_through old e x = record { rows = _; reads = end_more old e x.reads }

repeat_through : {s u : Reader} {g : Image} {gs : List Image} {lent : List (List ℕ)} (old : List ℕ) → sound s ≡ true → s.accepted ≡ true → length g.bytes ≡ s.size → g.number + 1 ≡ s.next →
    Through s gs lent u → Through s (g ∷ gs) (old ∷ lent) u
repeat_through {s} {g} old h k long e x =
    let r : repeats s g.number ≡ true = rw (eq-eqb (g.number + 1) s.next e, k) in
    let i = is_repeat_lem s (length g.bytes) g.number h (eq-eqb (length g.bytes) s.size long) r in
    record { rows = x.rows; reads = end_repeat old (sym (read_repeated s g.bytes g.number g.entries (length old) i)) x.reads }

-- What an accepted group leaves.
record Left (s t : Reader) (g : Image) : Type 0 where
  keeps : sound t ≡ true
  said : t.accepted ≡ true
  raised : t.next ≡ g.number + 1
  sized : t.size ≡ s.size

left_by : (s t : Reader) (g : Image) (room : ℕ) → read_call s g.bytes g.number g.entries room ≡ answer.Accepted t → Left s t g
left_by s t g room e =
    let p = accepted s t g.bytes g.number g.entries room e in
    record {
      keeps = sound_again s t g.bytes g.number g.entries room e;
      said = ap (λ (r : Reader). r.accepted) p.left;
      raised = ap (λ (r : Reader). r.next) p.left ∙ omega (arith, p.ready.next);
      sized = ap (λ (r : Reader). r.size) p.left;
    }

in_behind : {size : ℕ} {t u : Reader} {rows : List (List ℕ)} (run : List Image) (lent : List (List ℕ)) (last : ℕ) → sound t ≡ true → t.accepted ≡ true → t.next ≡ last + 1 → t.size ≡ size →
    Each (OfSize size) run → LentBehind last run lent → Accepts t (behind last run) rows u → Through t run lent u
unfolding behind
in_behind [] lent last h k n z each_none behind_none accepts_none = record { rows = []; reads = end_none }
in_behind (g ∷ gs) [] last h k n z _ fits x = elim fits [ ]
in_behind {size} {t} {u} {rows} (g ∷ gs) (old ∷ lent) last h k n z (each_more long sizes) (behind_more fits more) x =
    by (eqb g.number last) refl x
    (λ (e : g.number ≡ last) (y : Accepts t (behind last gs) rows u). in_behind gs lent last h k n z sizes (subst (λ (m : ℕ). LentBehind m gs lent) e more) y)
    (λ (v : Reader) (rest : List (List ℕ)) (l : Left t v g) (y : Accepts v (behind g.number gs) rest u). in_behind gs lent g.number l.keeps l.said l.raised (l.sized ∙ z) sizes more y)
  where
    enough : (g.number ≡ last → ⊥) → (g.number ≡ last) ⊎ (3 * g.entries ≤ length old) → 3 * g.entries ≤ length old
    enough other (inl e) = absurd (other e)
    enough other (inr f) = f

    kept_on : {more_rows : List (List ℕ)} → 3 * g.entries ≤ length old → Accepts t (g ∷ behind g.number gs) more_rows u →
        ((v : Reader) (rest : List (List ℕ)) → Left t v g → Accepts v (behind g.number gs) rest u → Through v gs lent u) → Through t (g ∷ gs) (old ∷ lent) u
    kept_on f (accepts_more {t = v} {rows = rest} other e y) go = more_through old (any_room t v g (length other) (length old) e f) (go v rest (left_by t v g (length other) e) y)

    by : (b : Bool) → eqb g.number last ≡ b → Accepts t (cond b (behind last gs) (g ∷ behind g.number gs)) rows u →
        (g.number ≡ last → Accepts t (behind last gs) rows u → Through t gs lent u) →
        ((v : Reader) (rest : List (List ℕ)) → Left t v g → Accepts v (behind g.number gs) rest u → Through v gs lent u) → Through t (g ∷ gs) (old ∷ lent) u
    by true e y same go =
        let is = eqb-true g.number last e in
        repeat_through old h k (long ∙ sym z) (omega arith) (same is y)
    by false e y same go = kept_on (enough (eqb-false g.number last e) fits) y go

pub repeats_in : {s u : Reader} (run : List Image) (lent : List (List ℕ)) {rows : List (List ℕ)} → Each (OfSize s.size) run → LentAmong run lent → Accepts s (without_repeats run) rows u → Through s run lent u
unfolding without_repeats
repeats_in [] lent each_none among_none accepts_none = record { rows = []; reads = end_none }
repeats_in (g ∷ gs) [] _ fits x = elim fits [ ]
repeats_in {s} (g ∷ gs) (old ∷ lent) (each_more long sizes) (among_more fits more) (accepts_more {t = v} other e y) =
    let l = left_by s v g (length other) e in
    more_through old (any_room s v g (length other) (length old) e fits) (in_behind gs lent g.number l.keeps l.said l.raised l.sized sizes more y)

-- Row buffers that are long enough for every group are so for those that are no repeats.
lent_behind : {run : List Image} {lent : List (List ℕ)} (last : ℕ) → Lent run lent → LentBehind last run lent
lent_behind last lent_none = behind_none
lent_behind last (lent_more {g = g} fits more) = behind_more (inr fits) (lent_behind g.number more)

pub lent_among : {run : List Image} {lent : List (List ℕ)} → Lent run lent → LentAmong run lent
lent_among lent_none = among_none
lent_among (lent_more {g = g} fits more) = among_more fits (lent_behind g.number more)

-- What holds of each group holds of those that are no repeats.
each_behind : {P : Image → Type 0} (last : ℕ) (run : List Image) → Each P run → Each P (behind last run)
unfolding behind
each_behind last [] each_none = each_none
each_behind {P} last (g ∷ gs) (each_more h e) = by (eqb g.number last) (each_behind last gs e) (each_behind g.number gs e)
  where
    by : (b : Bool) → Each P (behind last gs) → Each P (behind g.number gs) → Each P (cond b (behind last gs) (g ∷ behind g.number gs))
    by true x y = x
    by false x y = each_more h y

pub each_without : {P : Image → Type 0} (run : List Image) → Each P run → Each P (without_repeats run)
unfolding without_repeats
each_without [] each_none = each_none
each_without (g ∷ gs) (each_more h e) = each_more h (each_behind g.number gs e)

-- A run that is accepted to its end splits at every group's end.
pub record SplitEnd (s : Reader) (a b : List Image) (lent rows : List (List ℕ)) (final : Reader) : Type 0 where
  pub left : Reader
  pub lent_before : List (List ℕ)
  pub lent_behind : List (List ℕ)
  pub before : List (List ℕ)
  pub after : List (List ℕ)
  pub lent_parts : lent_before ++ lent_behind ≡ lent
  pub parts : before ++ after ≡ rows
  pub begins : ToEnd s a lent_before before left
  pub goes_on : ToEnd left b lent_behind after final

-- .. a group more before that end, with the rows that its read lists.
one_before : {s t final : Reader} {g : Image} {a b : List Image} {lent rows : List (List ℕ)} (old : List ℕ) (listed : List (List ℕ)) →
    ((earlier before : List (List ℕ)) (left : Reader) → ToEnd t a earlier before left → ToEnd s (g ∷ a) (old ∷ earlier) (listed ++ before) left) →
    SplitEnd t a b lent rows final → SplitEnd s (g ∷ a) b (old ∷ lent) (listed ++ rows) final
one_before old listed reads r =
    record {
      left = r.left;
      lent_before = old ∷ r.lent_before;
      lent_behind = r.lent_behind;
      before = listed ++ r.before;
      after = r.after;
      lent_parts = ap {B = List (List ℕ)} (λ l. old ∷ l) r.lent_parts;
      parts = append_assoc listed r.before r.after ∙ ap (λ (l : List (List ℕ)). listed ++ l) r.parts;
      begins = reads r.lent_before r.before r.left r.begins;
      goes_on = r.goes_on;
    }

pub split_end : {final : Reader} (a b : List Image) {s : Reader} {lent rows : List (List ℕ)} → ToEnd s (a ++ b) lent rows final → SplitEnd s a b lent rows final
split_end [] b {s} {lent} {rows} x =
    record { left = s; lent_before = []; lent_behind = lent; before = []; after = rows; lent_parts = refl; parts = refl; begins = end_none; goes_on = x }
split_end (g ∷ a) b (end_more {s} old e x) =
    one_before old (rows_left (read_call s g.bytes g.number g.entries (length old)) (group_rows s g.bytes g.entries) old ∷ []) (λ earlier before left y. end_more old e y) (split_end a b x)
split_end (g ∷ a) b (end_repeat old e x) = one_before old [] (λ earlier before left y. end_repeat old e y) (split_end a b x)

-- Numbers never fall: a later group bears the number of the last accepted one, or a higher one.
pub record Behind (s : Reader) (g : Image) (gs : List Image) : Type 0 where
  pub lent : List (List ℕ)
  pub rows : List (List ℕ)
  pub state : Reader
  pub final : Reader
  pub next : state.next ≡ g.number + 1
  pub low : s.next ≤ g.number + 1
  pub reads : ToEnd state gs lent rows final

pub behind_first : {s u : Reader} {g : Image} {gs : List Image} {lent rows : List (List ℕ)} → ToEnd s (g ∷ gs) lent rows u → Behind s g gs
behind_first (end_more {s} {t} {g} old e x) =
    let p = accepted s t g.bytes g.number g.entries (length old) e in
    record { lent = _; rows = _; state = t; final = _; next = (left_by s t g (length old) e).raised; low = omega (arith, p.ready.next); reads = x }
behind_first (end_repeat {s} {g} old e x) =
    let r = (repeat_last s s g.bytes g.number g.entries (length old) e).0 in
    record { lent = _; rows = _; state = s; final = _; next = sym r; low = omega arith; reads = x }

pub no_lower : (h : Image) (b c : List Image) {s u : Reader} {lent rows : List (List ℕ)} → ToEnd s (b ++ (h ∷ c)) lent rows u → s.next ≤ h.number + 1
no_lower h [] c x = (behind_first x).low
no_lower h (g ∷ b) c x =
    let r = behind_first x in
    omega (arith, r.low, r.next, no_lower h b c r.reads)

-- A run whose numbers rise has no repeats.
none_behind : {size number plain : ℕ} {groups : List (List Piece)} {run : List Image} (last : ℕ) → Run size plain number groups run → number ≡ last + 1 → behind last run ≡ run
unfolding behind
none_behind last run_none e = refl
none_behind last (run_more {g} {gs} a b f r) e =
    behind_other {last = last} g gs (λ z. omega arith) ∙ ap {B = List Image} (λ l. g ∷ l) (none_behind g.number r (omega arith))

pub none_out : {size number plain : ℕ} {groups : List (List Piece)} {run : List Image} → Run size plain number groups run → without_repeats run ≡ run
unfolding without_repeats
none_out run_none = refl
none_out (run_more {g} {gs} a b f r) = ap {B = List Image} (λ l. g ∷ l) (none_behind g.number r (omega arith))
