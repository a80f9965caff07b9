-- What an accepted call knows: each test of its chain of refusals was passed.
-- Assumes nothing.
use mathlib.Core.Path.{◌≡◌, refl, sym, ap, ◌∙◌}
use mathlib.Core.Bool.{Bool, true, false, cond, not, true≢false}
use mathlib.Core.List.{List}
use Prim.Native.Nat.{ℕ, ◌+◌, ◌≤◌}
use native.Mathlib.Omega.{arith}
use lib.ListN.{length}
use lib.Dec.{eqb}
use borrow.Author.Tests.{leb-true, eqb-true, not-false, not-true}
use Rattle.numbers.proofs.Tests.{both, within, passed}
use Rattle.group.specs.Sizes.{longest_record, last_number, record_kept}
use Rattle.group.specs.declared.Phase.TheVariants.{Inside}
use Rattle.laying.specs.declared.Writer.{Writer}
use Rattle.laying.specs.Bounds.{Grown, Ready, Opened, span}
use Rattle.sound.specs.State.{is_free, is_inside, is_owed, writer_sound, length_kept, remains_kept, none_open_kept, value_kept, offer_kept, end_remains_kept, ends_empty, record_refusal, separator_refusal, end_refusal}
use Rattle.sound.proofs.Exits.{RemainsMet}
use Rattle.sound.proofs.SoundLaws.{Sound, sound, chosen}

-- One entry more has its place in a sound state, whatever its phase.
pub fits : (s : Writer) → Sound s → span s.filled (s.entries + 1) ≤ s.size
fits s t = by (is_free s.phase) refl
  where
    by : (b : Bool) → is_free s.phase ≡ b → span s.filled (s.entries + 1) ≤ s.size
    by true h = t.room h
    by false h = omega (arith, t.empty h, t.run)

-- What every accepted call that lays an entry knows.
pub record Accepted (s : Writer) (g : List ℕ) : Type 0 where
  pub sound : Sound s
  pub long : length g ≡ s.size
  pub next : s.next ≤ last_number

pub is_ready : {s : Writer} {g : List ℕ} → Accepted s g → Ready s g
is_ready {s} {g} a =
    record {
      roomy = record { high = a.sound.run.most; long = a.long; fits = fits s a.sound };
      low = a.sound.run.least;
      next = a.next;
      owing = λ p. a.sound.empty (ap is_free p);
    }

-- The links "1, 4, 14", with which a record's chain and a separator's begin.
opening : (s : Writer) (g : List ℕ) (more : ℕ)
    → cond (not (writer_sound s)) 1 (cond (not (length_kept s (length g))) 4 (cond (not (remains_kept s)) 14 more)) ≡ 0
    → RemainsMet s (length g) × (more ≡ 0)
opening s g more e =
    let a = passed _ _ e in
    let b = passed _ _ a.1 in
    let c = passed (not (remains_kept s)) 13 b.1 in
    (((not-false _ a.0, eqb-true _ _ (not-false _ b.0)), leb-true _ _ (not-false _ c.0)), c.1)

knows : {s : Writer} {g : List ℕ} → RemainsMet s (length g) → Accepted s g
knows {s} m = record { sound = sound s m.0.0; long = m.0.1; next = m.1 }

-- What an accepted record of n bytes knows besides.
pub record Offered (s : Writer) (g : List ℕ) (n : ℕ) : Type 0 where
  pub accepted : Accepted s g
  pub some : 1 ≤ n
  pub most : n ≤ longest_record
  pub rest : is_inside s.phase ≡ true → n ≡ s.rest

pub record_accepted_lem : (s : Writer) (g : List ℕ) (n : ℕ) → record_refusal s (length g) n ≡ 0 → Offered s g n
unfolding record_refusal
record_accepted_lem s g n e =
    let a = opening s g (cond (not (record_kept n)) 15 (cond (not (offer_kept s n)) 16 0)) e in
    let d = passed _ _ a.1 in
    let f = passed (not (offer_kept s n)) 15 d.1 in
    let m = within 1 n longest_record (not-false _ d.0) in
    record {
      accepted = knows a.0;
      some = m.0;
      most = m.1;
      rest = λ h. eqb-true n s.rest (chosen (is_inside s.phase) _ true (not-false _ f.0) h);
    }

-- .. and where a record is open, of the state that its part is laid from.
pub opened : {s w : Writer} {g : List ℕ} {n : ℕ} → Offered s g n → s.phase ≡ Inside → Grown w s 0 0 → w.sum ≡ s.sum → Opened w n
opened {s} {w} {g} {n} o p grown sum =
    let t = o.accepted.sound in
    let none = t.empty (ap is_free p) in
    let more = t.more (ap is_inside p) in
    let all = o.rest (ap is_inside p) in
    record {
      low = omega (arith, t.run);
      next = omega (arith, o.accepted);
      filled = omega arith;
      entries = omega arith;
      whole = omega arith;
    }

-- An accepted separator.
pub record Separated (s : Writer) (g : List ℕ) (value : ℕ) : Type 0 where
  pub accepted : Accepted s g
  pub shut : is_inside s.phase ≡ false
  pub small : value ≤ 1

pub separator_accepted_lem : (s : Writer) (g : List ℕ) (value : ℕ) → separator_refusal s (length g) value ≡ 0 → Separated s g value
unfolding separator_refusal
separator_accepted_lem s g value e =
    let a = opening s g (cond (not (none_open_kept s)) 17 (cond (not (value_kept value)) 18 0)) e in
    let d = passed _ _ a.1 in
    let f = passed _ _ d.1 in
    record {
      accepted = knows a.0;
      shut = not-true _ (not-false _ d.0);
      small = leb-true _ _ (not-false _ f.0);
    }

-- "End: free with e = 0, and no total owed, closes nothing": where an end closes nothing, no entry stands and no total is owed,
pub ends_empty_lem : (s : Writer) → ends_empty s ≡ true → (is_owed s.phase ≡ false) × (s.entries ≡ 0)
ends_empty_lem s e =
    let h = both (not (is_owed s.phase)) (eqb s.entries 0) e in
    (not-true _ h.0, eqb-true s.entries 0 h.1)

-- .. and where neither is so, it closes nothing.
ends_nothing : (s : Writer) → is_owed s.phase ≡ false → s.entries ≡ 0 → ends_empty s ≡ true
ends_nothing s p q = rw (p, q)

below : {n : ℕ} → n ≤ last_number + 1 → (n ≡ last_number + 1 → ⊥) → n ≤ last_number
below h e = omega arith

-- An accepted end; one that closes has a number left, since a total is owed or the group has an entry.
pub record Ended (s : Writer) (g : List ℕ) : Type 0 where
  pub sound : Sound s
  pub long : length g ≡ s.size
  pub shut : is_inside s.phase ≡ false
  pub next : ends_empty s ≡ false → s.next ≤ last_number

pub end_accepted_lem : (s : Writer) (g : List ℕ) → end_refusal s (length g) ≡ 0 → Ended s g
unfolding end_refusal
end_accepted_lem s g e =
    let a = passed _ _ e in
    let b = passed _ _ a.1 in
    let c = passed _ _ b.1 in
    let d = passed (not (end_remains_kept s)) 13 c.1 in
    let t = sound s (not-false _ a.0) in
    record {
      sound = t;
      long = eqb-true _ _ (not-false _ b.0);
      shut = not-true _ (not-false _ c.0);
      next = by t (is_owed s.phase) refl (λ h. leb-true _ _ (chosen (is_owed s.phase) _ true (not-false _ d.0) h));
    }
  where
    by : Sound s → (o : Bool) → is_owed s.phase ≡ o → (is_owed s.phase ≡ true → s.next ≤ last_number)
        → ends_empty s ≡ false → s.next ≤ last_number
    by t true p h q = h p
    by t false p h q = below t.run.number (λ e. true≢false (sym (ends_nothing s p (t.spent e).1) ∙ q))
