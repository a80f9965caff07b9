-- What the rows of an accepted run give is what any lawful layout of it finishes and leaves open; so it has one reading.
-- Assumes nothing.
use Prim.Native.Nat.{ℕ, ◌+◌, ◌*◌, ◌-◌, ◌≤◌}
use native.Mathlib.Omega.{arith}
use mathlib.Core.List.{List, [], ◌∷◌}
use mathlib.Core.Path.{◌≡◌, refl, sym, ap, ◌∙◌}
use lib.ListN.{length, take, replicate, length-replicate}
use Rattle.group.specs.Sizes.{information_length, longest_record}
use Rattle.numbers.specs.Store.{put}
use Rattle.group.specs.Entries.{entries_below}
use Rattle.numbers.proofs.Tests.{within}
use Rattle.numbers.proofs.Stores.{put_stands}
use Rattle.group.proofs.EntryLaws.{length_entries}
use Rattle.rows.proofs.Filling.{length_rows}
use Rattle.reader.specs.declared.Reader.{Reader}
use Rattle.entry.specs.declared.Stand.{Stand}
use Rattle.reader.specs.ReadAnswer.{ReadAnswer}
use Rattle.reader.specs.ReadAnswer as answer
use Rattle.rows.specs.Rows.{rows_from}
use Rattle.reader.specs.Answer.{fresh, read_call, group_rows, rows_left}
use Rattle.reader.proofs.Accepted.{accepted}
use Rattle.layout.specs.Items.{Item, Piece, grouped, tokens}
use Rattle.layout.specs.Layout.{Image, Run, Lays}
use Rattle.layout.specs.Layout.Run.{run_none, run_more}
use Rattle.layout.specs.Accepting.{Accepts, Lent}
use Rattle.layout.specs.Accepting.Accepts.{accepts_none, accepts_more}
use Rattle.layout.specs.Accepting.Lent.{lent_none, lent_more}
use Rattle.layout.specs.Reading.{pieces_from, pieces_of, items_read, begun_read}
use Rattle.layout.proofs.Grammar.{Walk}
use Rattle.layout.proofs.Assembled.{pieces_in, flat, in_grouped, items_of_tokens, begun_of_tokens}
use Rattle.layout.proofs.Decode.{pieces_back}
use Rattle.layout.proofs.Complete.{past, walk_of, complete_to}

-- The first 3n numbers of what an accepted read leaves are the group's rows.
rows_given : (s t : Reader) (g : Image) (old : List ℕ) → read_call s g.bytes g.number g.entries (length old) ≡ answer.Accepted t →
    take (3 * g.entries) (rows_left (read_call s g.bytes g.number g.entries (length old)) (group_rows s g.bytes g.entries) old) ≡ group_rows s g.bytes g.entries
unfolding group_rows
rows_given s t g old e =
    let p = accepted s t g.bytes g.number g.entries (length old) e in
    let new : List ℕ = rows_from 0 (entries_below g.bytes (s.size - information_length) g.entries) in
    let n : length new ≡ 3 * g.entries = length_rows 0 (entries_below g.bytes (s.size - information_length) g.entries) ∙ ap (λ (k : ℕ). 3 * k) (length_entries g.bytes (s.size - information_length) g.entries) in
    let left : rows_left (read_call s g.bytes g.number g.entries (length old)) new old ≡ put old 0 new = ap (λ (a : ReadAnswer). rows_left a new old) e in
    ap (λ (r : List ℕ). take (3 * g.entries) r) left ∙ ap (λ (k : ℕ). take k (put old 0 new)) (sym n) ∙ put_stands old 0 new (omega (arith, p.ready.rows))

-- An accepted read keeps L, and raises the number by one.
pub size_kept_lem : (s t : Reader) (g : List ℕ) (number n room : ℕ) → read_call s g number n room ≡ answer.Accepted t → t.size ≡ s.size
size_kept_lem s t g number n room e = ap (λ (r : Reader). r.size) (accepted s t g number n room e).left

pub next_raised : (s t : Reader) (g : List ℕ) (number n room : ℕ) → read_call s g number n room ≡ answer.Accepted t → t.next ≡ s.next + 1
next_raised s t g number n room e = ap (λ (r : Reader). r.next) (accepted s t g number n room e).left

-- The pieces that the rows give are those of the groups.
pub pieces_read : {size plain number n sum reached : ℕ} {to at : Stand} {s u : Reader} {groups : List (List Piece)} {run : List Image} {rows : List (List ℕ)} → size ≤ longest_record → s.size ≡ size →
    Run size plain number groups run → Walk size to n at sum reached (grouped groups) → Accepts s run rows u → pieces_of run rows ≡ flat groups
unfolding pieces_of flat grouped group_rows
pieces_read h e run_none w accepts_none = refl
pieces_read {size} h e (run_more {ps} {pss} {g} a b f r) w (accepts_more {s} {t} {rows} old x more) =
    let q = past ps (grouped pss) w in
    let one : pieces_from g.bytes (group_rows s g.bytes g.entries) ≡ ps = rw e (pieces_back f h q.small) in
    rw (rows_given s t g old x, one, pieces_read h (size_kept_lem s t g.bytes g.number g.entries (length old) x ∙ e) r q.goes more)

-- .. and so those of any lawful layout of the run,
pub pieces_laid : {size first : ℕ} {i : List Item} {b : List ℕ} {run : List Image} {rows : List (List ℕ)} {final : Reader} →
    (l : Lays size first i b run) → Accepts (fresh size first) run rows final → pieces_of run rows ≡ pieces_in (tokens l.laid l.tail)
pieces_laid {size} l a =
    let (least, most) = within 64 size 126632 l.sized in
    pieces_read (omega arith) refl l.images (walk_of l) a ∙ sym (in_grouped l.groups) ∙ ap pieces_in (sym l.groups_of)

-- .. which give its items and bytes so far.
pub reading_is : {size first : ℕ} {i : List Item} {b : List ℕ} {run : List Image} {rows : List (List ℕ)} {final : Reader} →
    Lays size first i b run → Accepts (fresh size first) run rows final → (items_read run rows ≡ i) × (begun_read run rows ≡ b)
reading_is {size} {run} {rows} l a =
    let r = pieces_laid l a in
    (rw r (items_of_tokens l.laid l.tail ∙ l.finishes), rw r (begun_of_tokens l.laid l.tail ∙ l.breaks))

-- Row buffers that are just long enough.
unfoldable pub buffers_for : List Image → List (List ℕ)
buffers_for [] = []
buffers_for (g ∷ gs) = replicate (3 * g.entries) 0 ∷ buffers_for gs

pub enough : (run : List Image) → Lent run (buffers_for run)
unfolding buffers_for
enough [] = lent_none
enough (g ∷ gs) = lent_more {g = g} {old = replicate (3 * g.entries) 0} (omega (arith, length-replicate {A = ℕ} (3 * g.entries) 0)) (enough gs)

pub one_reading : {size first : ℕ} {i j : List Item} {b c : List ℕ} {run : List Image} → Lays size first i b run → Lays size first j c run → (i ≡ j) × (b ≡ c)
one_reading {run} l m =
    let a = complete_to l (enough run) in
    let (p, q) = reading_is l a.accepts in
    let (r, t) = reading_is m a.accepts in
    (sym p ∙ r, sym q ∙ t)
