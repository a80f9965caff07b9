-- A run of groups that picture the pieces of a lawful layout is accepted, whatever row buffers are lent, if they are long enough.
-- Assumes nothing.
use Prim.Native.Nat.{ℕ, suc, ◌+◌, ◌*◌, ◌-◌, ◌≤◌}
use native.Mathlib.Omega.{arith}
use mathlib.Core.List.{List, [], ◌∷◌, ◌++◌, map}
use mathlib.Core.Bool.{true}
use mathlib.Core.Path.{◌≡◌, refl, sym, ap, ◌∙◌}
use mathlib.Core.Logic.{◌↔◌}
use lib.ListN.{length, length-append}
use borrow.Author.Tests.{le-leb}
use Rattle.group.specs.declared.Phase.{Phase}
use Rattle.group.specs.declared.Phase.TheVariants as phase
use Rattle.group.specs.declared.Entry.{Entry}
use Rattle.group.specs.Entries.{entries_below}
use Rattle.group.specs.Sizes.{information_length, longest_record, last_number, size_kept, number_kept, entry_offset}
use Rattle.group.specs.State.{sum_kept, start_refusal}
use Rattle.numbers.proofs.Tests.{within, is_within}
use Rattle.reader.specs.declared.Reader.{Reader}
use Rattle.entry.specs.declared.Stand.{Stand}
use Rattle.entry.specs.declared.Stand.TheVariants.{Free}
use Rattle.reader.specs.ReaderStart as start
use Rattle.reader.specs.ReadAnswer as answer
use Rattle.entry.specs.Rules.{stand_at, b4_kept}
use Rattle.reader.specs.Answer.{fresh, accepted_kept, reader_start_call, opening, closing, group_scan, read_call}
use Rattle.reader.proofs.Accepted.{Ready, accepts, none_accepted}
use Rattle.layout.specs.Items.{Item, Tail, Piece, Token, Each, grouped, joined, so_far, whole_of, SoundTail}
use Rattle.layout.specs.Items.Each.{each_none, each_more}
use Rattle.layout.specs.Items.Tail.{none_open, broken_inside, broken_owed}
use Rattle.layout.specs.Items.SoundTail.{sound_inside, sound_owed}
use Rattle.layout.specs.Items.Token.{piece, group_end}
use Rattle.layout.specs.Layout.{Image, Pictures, Run, Lays, user_data, b4_after, entries_of}
use Rattle.layout.specs.Layout.Run.{run_none, run_more}
use Rattle.layout.specs.Accepting.{Accepts, Lent, lent_to}
use Rattle.layout.specs.Accepting.Accepts.{accepts_none, accepts_more}
use Rattle.layout.specs.Accepting.Lent.{lent_none, lent_more}
use Rattle.layout.proofs.Grammar.{Walk, Open, walk_laid, tail_stand, tail_sum}
use Rattle.layout.proofs.Grammar.Walk.{stop, step, leap}
use Rattle.layout.proofs.Grammar.Open.{o_free, o_inside, o_owed}
use Rattle.layout.proofs.Decode.{SmallPiece, adds_up, entries_back}
use Rattle.layout.proofs.Scanned.{Reaches, scan_pieces}

-- A start whose L and first number are in range begins with the fresh state.
pub begins_at_lem : (size first : ℕ) → size_kept size ≡ true → number_kept first ≡ true → reader_start_call size first ≡ start.Started (fresh size first)
unfolding reader_start_call start_refusal
begins_at_lem size first h k = rw (h, k)

-- A walk to the end of a group: its pieces are small, and the walk goes on behind it.
pub record Past (size : ℕ) (to : Stand) (n : ℕ) (ps : List Piece) (rest : List Token) : Type 0 where
  pub small : Each SmallPiece ps
  pub stand : Stand
  pub sum : ℕ
  pub goes : Walk size to n stand sum 0 rest

pub past : {size : ℕ} {to : Stand} {n : ℕ} (ps : List Piece) (rest : List Token) {at : Stand} {s r : ℕ} → Walk size to n at s r (map piece ps ++ (group_end ∷ rest)) → Past size to n ps rest
past [] rest (leap h w) = record { small = each_none; stand = _; sum = _; goes = w }
past (p ∷ ps) rest (step f w) =
    let q = past ps rest w in
    record { small = each_more f.small q.small; stand = q.stand; sum = q.sum; goes = q.goes }

-- The walk of a lawful layout's groups.
pub walk_of : {size first : ℕ} {i : List Item} {b : List ℕ} {run : List Image} (l : Lays size first i b run) → Walk size (tail_stand l.tail) (tail_sum l.tail) Free 0 0 (grouped l.groups)
walk_of l = rw l.groups_of at (walk_laid l.sound l.sound_tail 0)

-- The sum is kept between groups.
sum_kept_lem : {size r : ℕ} (f : Phase) (s : ℕ) → Open size (stand_at f) s r → sum_kept f s ≡ true
sum_kept_lem phase.Free s o_free = refl
sum_kept_lem phase.Inside s (o_inside p ps a b h e z) = is_within {low = 1} {n = s} {high = longest_record - 1} (omega arith) h
sum_kept_lem phase.Owed s (o_owed p ps q a b c h e m) = is_within {low = 2} {n = s} {high = longest_record} (omega arith) h

-- A reader between groups, its numbers in range.
pub record At (s : Reader) : Type 0 where
  pub least : 64 ≤ s.size
  pub most : s.size ≤ 126632
  pub some : 1 ≤ s.next
  pub began : accepted_kept s.next s.accepted ≡ true
  pub opens : Open s.size (stand_at s.phase) s.sum 0

-- One group that is read: the state that it leaves, and where the tokens behind it lead to.
pub record Read (s : Reader) (g : Image) (room plain : ℕ) (to : Stand) (n : ℕ) (rest : List Token) : Type 0 where
  pub left : Reader
  pub answers : read_call s g.bytes g.number g.entries room ≡ answer.Accepted left
  pub goes : Walk left.size to n (stand_at left.phase) left.sum 0 rest
  pub at : At left
  pub sizes : left.size ≡ s.size
  pub nexts : left.next ≡ suc s.next
  pub warns : b4_kept left.warned (b4_after plain) ≡ true

module _ {s : Reader} {plain room : ℕ} {ps : List Piece} {g : Image} (at : At s) (low : s.next ≤ last_number) (number : g.number ≡ s.next) (f : Pictures s.size plain ps g)
    (fits : 3 * g.entries ≤ room) (warned : b4_kept s.warned (b4_after plain) ≡ true) where
  ready : Ready s (length g.bytes) g.number g.entries room
  ready =
      record {
        run = record { least = at.least; most = at.most; some = at.some; number = omega arith; kept = sum_kept_lem s.phase s.sum at.opens };
        began = at.began;
        long = f.filled;
        next = number;
        numbered = omega arith;
        some = omega (arith, f.counted);
        fits = omega (arith, adds_up f, f.counted);
        rows = fits;
      }

  -- .. where its scan reaches the end.
  read_from : {to : Stand} {n left : ℕ} {rest : List Token} (es : List Entry) → entries_below g.bytes (s.size - information_length) g.entries ≡ es →
      Reaches s.size (entry_offset s.size g.entries) es 1 (opening s) left to n rest → Read s g room left to n rest
  unfolding group_scan
  read_from es back r =
      record {
        left = closing s r.end;
        answers = accepts s (closing s r.end) g.bytes g.number g.entries room (record { ready = ready; end = r.end; reached = rw back r.scans; left = refl });
        goes = r.goes;
        at = record { least = at.least; most = at.most; some = omega arith; began = rw (le-leb 2 (s.next + 1) (omega (arith, at.some))); opens = r.opens };
        sizes = refl;
        nexts = omega arith;
        warns = r.warns;
      }

  read_group : {to : Stand} {n : ℕ} (rest : List Token) → Walk s.size to n (stand_at s.phase) s.sum 0 (map piece ps ++ (group_end ∷ rest)) → Read s g room (plain - g.entries) to n rest
  read_group rest w =
      read_from (entries_of plain (s.size - length (user_data ps)) ps) (entries_back f (omega (arith, at.most)) (past ps rest w).small)
      (scan_pieces s.size (entry_offset s.size g.entries) ps plain (plain - g.entries) (s.size - length (user_data ps)) 1 (opening s) rest warned (ap (λ (n : ℕ). plain - n) f.counted) (omega (arith, adds_up f, f.counted)) (omega arith) at.opens w)

-- A run that is accepted with these row buffers, and how it stands at its end.
pub record AcceptedTo (s : Reader) (run : List Image) (lent : List (List ℕ)) (to : Stand) (n : ℕ) : Type 0 where
  pub rows : List (List ℕ)
  pub final : Reader
  pub accepts : Accepts s run rows final
  pub buffers : lent_to accepts ≡ lent
  pub stand : stand_at final.phase ≡ to
  pub sum : final.sum ≡ n

accepted_on : {s t : Reader} {g : Image} {gs : List Image} {more : List (List ℕ)} {to : Stand} {n : ℕ} (old : List ℕ) →
    read_call s g.bytes g.number g.entries (length old) ≡ answer.Accepted t → AcceptedTo t gs more to n → AcceptedTo s (g ∷ gs) (old ∷ more) to n
unfolding lent_to
accepted_on old e a =
    record {
      rows = _;
      final = a.final;
      accepts = accepts_more old e a.accepts;
      buffers = ap {B = List (List ℕ)} (λ b. old ∷ b) a.buffers;
      stand = a.stand;
      sum = a.sum;
    }

ends : {size : ℕ} {to at : Stand} {n s r : ℕ} → Walk size to n at s r [] → (at ≡ to) × (s ≡ n)
ends stop = (refl, refl)

pub accepts_run : {to : Stand} {n size plain number : ℕ} {groups : List (List Piece)} {run : List Image} {lent : List (List ℕ)} (s : Reader) → At s → s.size ≡ size → s.next ≡ number →
    b4_kept s.warned (b4_after plain) ≡ true → Run size plain number groups run → Lent run lent → Walk s.size to n (stand_at s.phase) s.sum 0 (grouped groups) → AcceptedTo s run lent to n
unfolding grouped lent_to
accepts_run s at e m b run_none lent_none w =
    let (p, q) = ends w in
    record { rows = []; final = s; accepts = accepts_none; buffers = refl; stand = p; sum = q }
accepts_run s at e m b (run_more {plain} {ps} {pss} {g} i j f r) (lent_more {old} fits more) w =
    let q = read_group {plain = plain} {room = length old} {ps = ps} {g = g} at (omega arith) (omega arith) (rw e f) fits b (grouped pss) w in
    accepted_on old q.answers (accepts_run q.left q.at (q.sizes ∙ e) (q.nexts ∙ ap suc m) q.warns r more q.goes)

pub complete_to : {size first : ℕ} {i : List Item} {b : List ℕ} {run : List Image} {lent : List (List ℕ)} (l : Lays size first i b run) → Lent run lent →
    AcceptedTo (fresh size first) run lent (tail_stand l.tail) (tail_sum l.tail)
complete_to {size} {first} l lent =
    let (least, most) = within 64 size 126632 l.sized in
    let (some, last) = within 1 first last_number l.numbered in
    accepts_run (fresh size first) (record { least = least; most = most; some = some; began = none_accepted first; opens = o_free }) refl refl refl l.images lent (walk_of l)

-- The sum at the end is the length of what is open, and the phase is free where nothing is.
pub tail_sum_lem : (t : Tail) → tail_sum t ≡ length (so_far t)
unfolding tail_sum so_far whole_of
tail_sum_lem none_open = refl
tail_sum_lem (broken_inside p ps) = sym (length-append p (joined ps))
tail_sum_lem (broken_owed p ps q) = simp length-append (omega arith)

pub tail_free : {size : ℕ} (f : Phase) (t : Tail) → SoundTail size t → stand_at f ≡ tail_stand t → (f ≡ phase.Free) ↔ (so_far t ≡ [])
unfolding tail_stand so_far whole_of
tail_free phase.Free none_open o e = (λ h. refl, λ h. refl)
tail_free phase.Inside none_open o e = let z : ◌≡◌ {A = ℕ} 0 1 = cc in absurd (omega arith)
tail_free phase.Owed none_open o e = let z : ◌≡◌ {A = ℕ} 0 1 = cc in absurd (omega arith)
tail_free f (broken_inside p ps) (sound_inside a b h) e = (λ x. let y = ap stand_at x in let z : ◌≡◌ {A = ℕ} 0 1 = cc in absurd (omega arith), λ x. absurd (omega (arith, ap length x, length-append p (joined ps))))
tail_free f (broken_owed p ps q) (sound_owed a b c h m) e = (λ x. let y = ap stand_at x in let z : ◌≡◌ {A = ℕ} 0 1 = cc in absurd (omega arith), λ x. absurd (let all = simp length-append at (ap length x) in omega (arith, all)))
