-- Laws of the flags: the eight bytes as one word, each flag as a digit of it, and the count and the lowest by its digits.
-- Assumes nothing.
use mathlib.Core.Path.{◌≡◌, refl, sym, ap, ◌∙◌}
use mathlib.Core.Logic.{◌⊎◌, inl, inr}
use mathlib.Core.Bool.{Bool, true, false, cond}
use mathlib.Core.List.{List, [], ◌∷◌, ◌++◌, append-nil}
use Prim.Native.Nat.{ℕ, zero, suc, ◌+◌, ◌*◌, ◌-◌, ◌/◌, ◌%◌, ◌^◌, ◌≤◌, ◌<◌}
use native.Mathlib.Nat.{zero-add, suc-add, mul_assoc, pow-suc, mod-lt, mod-eq_of_lt, div-eq_of_lt, div-eq_of_lt-le, eq-or-lt_of_le, lt_of_lt_of_le}
use native.Mathlib.Nat.{zero-div, mul-add-div_right, mul-add-mod_self_right}
use native.Mathlib.Omega.{arith}
use borrow.Author.Tests.{eq-eqb, ne_eqb}
use lib.Dec.{eqb}
use lib.Pow.{pow_pos, pow_mono, pow-add, shr-shr, field, mod-mod-pow, mod-pow-add}
use lib.Pow as pow
use lib.Count.{ones, ones_cat, count_leading_zeros, leading_top}
use lib.ListN.{length, get_or, drop, length-drop, length-append, take-append-drop}
use lib.Seq.{take_all}
use Rattle.numbers.specs.Numbers.{number_at, bytes_of, Bytes}
use Rattle.numbers.proofs.NumberLaws.{length_bytes, number_from, number_of_bytes, bytes_of_number}
use Rattle.numbers.specs.Store.{put}
use Rattle.numbers.proofs.Stores.{put_put, put_whole}
use Rattle.alert.specs.Flags.{AlertAnswer}
use Rattle.alert.specs.Flags.{Refused}
use Rattle.alert.specs.Flags.{Makes, make_call, read_call, counted_in, Says, byte_of, bit_of, raised, raised_from, count_from, lowest_from, raised_count, lowest_raised, alert_of}

-- All 64 flags as one number.
abbrev pub word : (high low : ℕ) → ℕ
word high low = high * 4294967296 + low

-- Its bytes above and below the middle.
byte_above : (high low k : ℕ) → low < 4294967296 → high / 2 ^ k % 256 ≡ word high low / 2 ^ (32 + k) % 256
byte_above high low k h = sym (ap (λ (n : ℕ). n % 256) (sym (shr-shr (word high low) 32 k) ∙ ap (λ (n : ℕ). n / 2 ^ k) (pow.high high 32 h)))

byte_below : (high low p q : ℕ) → 0 < p → q * 256 * p ≡ 4294967296 → low / p % 256 ≡ word high low / p % 256
byte_below high low p q some e =
    let apart : word high low ≡ high * q * 256 * p + low =
    ap (λ (n : ℕ). high * n + low) (sym e) ∙ ap (λ (n : ℕ). n + low) (sym (mul_assoc high (q * 256) p) ∙ ap (λ (n : ℕ). n * p) (sym (mul_assoc high q 256))) in
    sym (ap (λ (n : ℕ). n / p % 256) apart ∙ ap (λ (n : ℕ). n % 256) (mul-add-div_right some (high * q * 256) low) ∙ mul-add-mod_self_right (high * q) 256 (low / p))

-- The eight bytes are that number's.
alert_word : (high low : ℕ) → low < 4294967296 → alert_of high low ≡ bytes_of 8 (word high low)
unfolding alert_of bytes_of
alert_word high low h =
    rw (
      byte_above high low 24 h,
      byte_above high low 16 h,
      byte_above high low 8 h,
      byte_above high low 0 h,
      byte_below high low 16777216 1 (omega arith) refl,
      byte_below high low 65536 256 (omega arith) refl,
      byte_below high low 256 65536 (omega arith) refl,
      byte_below high low 1 16777216 (omega arith) refl,
    )

-- A byte of a number, by how many bytes stand behind it.
byte_at : (width n i behind : ℕ) → i + suc behind ≡ width → get_or (bytes_of width n) i 0 ≡ n / 256 ^ behind % 256
unfolding bytes_of
byte_at zero n i behind e = absurd (omega arith)
byte_at (suc more) n zero behind e =
    let same : more ≡ behind = omega arith in
    ap (λ (k : ℕ). n / 256 ^ k % 256) same
byte_at (suc more) n (suc i) behind e = byte_at more n i behind (omega arith)

power : (k : ℕ) → 256 ^ k ≡ 2 ^ (8 * k)
power zero = refl
power (suc k) =
    pow-suc 256 k ∙ ap (λ (n : ℕ). n * 256) (power k) ∙ sym (pow-add 2 (8 * k) 8) ∙ ap (λ (n : ℕ). 2 ^ n) more
  where
    more : 8 * k + 8 ≡ 8 * suc k
    more = omega arith

-- A digit of a byte is a digit of the number.
digit_of_byte : (n above below : ℕ) → above + 1 + below ≡ 8 → n % 256 / 2 ^ below % 2 ≡ n / 2 ^ below % 2
digit_of_byte n above below e =
    ap (λ (k : ℕ). n % 2 ^ k / 2 ^ below % 2) (sym e)
    ∙ ap (λ (k : ℕ). k % 2) (field n (above + 1) below)
    ∙ mod-mod-pow (n / 2 ^ below) above 1

-- Flag f is the digit with 64 - f digits below it.
digit_of_flag : (n flag : ℕ) → 1 ≤ flag → flag ≤ 64 → raised (bytes_of 8 n) flag ≡ eqb (n / 2 ^ (64 - flag) % 2) 1
unfolding raised
digit_of_flag n flag least most =
    let byte = byte_of flag in
    let bit = bit_of flag in
    let places : 8 * (7 - byte) + bit ≡ 64 - flag = omega arith in
    let stands = byte_at 8 n byte (7 - byte) (omega arith) in
    rw (stands, digit_of_byte (n / 256 ^ (7 - byte)) (7 - bit) bit (omega arith), power (7 - byte), shr-shr n (8 * (7 - byte)) bit, places)

-- Digits as flags: flag f of those that are looked at has 64 - f digits below it.
abbrev pub Digits : ℕ → (ℕ → Bool) → Type 0
Digits n up = (flag : ℕ) → 1 ≤ flag → flag ≤ 64 → up flag ≡ eqb (n / 2 ^ (64 - flag) % 2) 1

digits : (high low : ℕ) → low < 4294967296 → Digits (word high low) (raised (alert_of high low))
digits high low h flag least most =
    ap (λ (alert : List ℕ). raised alert flag) (alert_word high low h) ∙ digit_of_flag (word high low) flag least most

digit_here : (n : ℕ) (up : ℕ → Bool) → Digits n up → (flag below : ℕ) → 1 ≤ flag → flag + suc below ≡ 65 → up flag ≡ eqb (n / 2 ^ below % 2) 1
digit_here n up d flag below least e =
    let same : 64 - flag ≡ below = omega arith in
    d flag least (omega arith) ∙ ap (λ (k : ℕ). eqb (n / 2 ^ k % 2) 1) same

ones_digit : (b : ℕ) → b < 2 → cond (eqb b 1) 1 0 ≡ ones b
unfolding ones
ones_digit zero h = refl
ones_digit (suc zero) h = refl
ones_digit (suc (suc b)) h = absurd (omega arith)

-- The count of the flags that are looked at is that of the digits below.
module _ (n : ℕ) (up : ℕ → Bool) (d : Digits n up) where
  count_digits : (flag m : ℕ) → 1 ≤ flag → flag + m ≡ 65 → count_from up flag m ≡ ones (n % 2 ^ m)
  unfolding count_from ones
  count_digits flag zero least e =
      let none : n % 1 ≡ 0 = omega arith in
      sym (ap ones none)
  count_digits flag (suc m) least e =
      let b = n / 2 ^ m % 2 in
      let whole : n % 2 ^ suc m ≡ b * 2 ^ m + n % 2 ^ m = ap (λ (k : ℕ). n % 2 ^ k) (sym (suc-add 0 m ∙ ap suc (zero-add m))) ∙ mod-pow-add n 1 m in
      rw (digit_here n up d flag m least e, whole, ones_cat m b (n % 2 ^ m) (mod-lt n (pow_pos m)), ← ones_digit b (mod-lt (n / 2 ^ m) (omega arith)), count_digits (suc flag) m (omega arith) (omega arith))

  -- The lowest raised flag is the highest set digit.
  lowest_digit : (flag m top : ℕ) → 1 ≤ flag → flag + m ≡ 65 → top < m → 2 ^ top ≤ n → n < 2 ^ suc top → lowest_from up flag m ≡ 64 - top
  unfolding lowest_from
  lowest_digit flag zero top least e less low high = absurd (omega arith)
  lowest_digit flag (suc m) top least e less low high =
      by (λ further. lowest_digit (suc flag) m top (omega arith) (omega arith) further low high) (eq-or-lt_of_le {n = top} {m = m} (omega arith))
    where
      by : (top < m → lowest_from up (suc flag) m ≡ 64 - top) → (top ≡ m) ⊎ (top < m) → cond (up flag) flag (lowest_from up (suc flag) m) ≡ 64 - top
      by rest (inl same) =
          let one : n / 2 ^ top ≡ 1 = div-eq_of_lt-le (2 ^ top) (omega arith) (omega (arith, pow-suc 2 top)) in
          let digit : up flag ≡ eqb (n / 2 ^ top % 2) 1 = digit_here n up d flag top least (omega arith) in
          rw (digit, one) (omega arith)
      by rest (inr further) =
          let none : n / 2 ^ m ≡ 0 = div-eq_of_lt (lt_of_lt_of_le high (pow_mono further)) in
          rw (digit_here n up d flag m least e, none) (rest further)

  no_digit : n ≡ 0 → (flag m : ℕ) → 1 ≤ flag → flag + m ≡ 65 → lowest_from up flag m ≡ 0
  unfolding lowest_from
  no_digit z flag zero least e = refl
  no_digit z flag (suc m) least e =
      rw (digit_here n up d flag m least e, z, zero-div (2 ^ m)) (no_digit z (suc flag) m (omega arith) (omega arith))

-- How many flags are raised, and the lowest of them.
module _ (high low : ℕ) (h : high < 4294967296) (l : low < 4294967296) where
  pub raised_ones : ones (word high low) ≡ raised_count (alert_of high low)
  raised_ones =
      let small : word high low % 2 ^ 64 ≡ word high low = mod-eq_of_lt (omega arith) in
      sym (count_digits (word high low) (raised (alert_of high low)) (digits high low l) 1 64 (omega arith) (omega arith) ∙ ap ones small)

  pub lowest_none : word high low ≡ 0 → 0 ≡ lowest_raised (alert_of high low)
  lowest_none e = sym (no_digit (word high low) (raised (alert_of high low)) (digits high low l) e 1 64 (omega arith) (omega arith))

  pub lowest_leading : (word high low ≡ 0 → ⊥) → count_leading_zeros 64 (word high low) + 1 ≡ lowest_raised (alert_of high low)
  lowest_leading e =
      let some : 0 < word high low = omega arith in
      let t = leading_top 64 (word high low) some (omega arith) in
      let place : count_leading_zeros 64 (word high low) + suc t.0 ≡ 64 = t.1 in
      let to : count_leading_zeros 64 (word high low) + 1 ≡ 64 - t.0 = omega arith in
      to ∙ sym (lowest_digit (word high low) (raised (alert_of high low)) (digits high low l) 1 64 t.0 (omega arith) (omega arith) (omega arith) t.2 t.3)

-- Eight bytes are those of the two numbers that stand in them.
pub alert_again : (alert : List ℕ) → Bytes alert → length alert ≡ 8 → alert_of (number_at 4 alert 0) (number_at 4 alert 4) ≡ alert
unfolding alert_of
alert_again alert b long =
    rw (bytes_of_number 4 alert 0 b (omega arith), bytes_of_number 4 alert 4 b (omega arith), take_all 4 (drop 4 alert) (omega (arith, length-drop 4 alert)))
    (take-append-drop 4 alert)

-- What making leaves and answers, at another length and at eight bytes.
pub alert_refused : (high low : ℕ) (old : List ℕ) → (length old ≡ 8 → ⊥) → Makes high low old (Refused 60) old
unfolding make_call
alert_refused high low old h = record { answer = rw (ne_eqb (length old) 8 h); alert_left = refl }

pub alert_made_lem : (high low : ℕ) (old a₁ a₂ : List ℕ) (r : AlertAnswer) → length old ≡ 8 → a₁ ≡ put old 0 (bytes_of 4 high) → a₂ ≡ put a₁ 4 (bytes_of 4 low)
    → r ≡ counted_in (alert_of high low) high low → Makes high low old r a₂
unfolding make_call alert_of
alert_made_lem high low old a₁ a₂ r long e f g =
    let behind : 4 ≡ 0 + length (bytes_of 4 high) = omega (arith, length_bytes 4 high) in
    let whole : length (bytes_of 4 high ++ bytes_of 4 low) ≡ length old = length-append (bytes_of 4 high) (bytes_of 4 low) ∙ omega (arith, length_bytes 4 high, length_bytes 4 low) in
    let stored : put (put old 0 (bytes_of 4 high)) 4 (bytes_of 4 low) ≡ bytes_of 4 high ++ bytes_of 4 low =
    ap (λ (at : ℕ). put (put old 0 (bytes_of 4 high)) at (bytes_of 4 low)) behind ∙ put_put old 0 (bytes_of 4 high) (bytes_of 4 low) ∙ put_whole old (bytes_of 4 high ++ bytes_of 4 low) whole in
    record { answer = g ∙ rw (eq-eqb (length old) 8 long); alert_left = rw g (f ∙ rw e stored) }

-- What reading answers, at another length and at eight bytes.
pub read_refused_lem : (alert : List ℕ) → (length alert ≡ 8 → ⊥) → Refused 60 ≡ read_call alert
unfolding read_call
read_refused_lem alert h = rw (ne_eqb (length alert) 8 h)

pub read_counted : (alert : List ℕ) (high low : ℕ) (r : AlertAnswer) → Bytes alert → length alert ≡ 8 → high ≡ number_at 4 alert 0 → low ≡ number_at 4 alert 4
    → r ≡ counted_in (alert_of high low) high low → r ≡ read_call alert
unfolding read_call
read_counted alert high low r b long e f g =
    g ∙ rw (e, f, eq-eqb (length alert) 8 long, alert_again alert b long)

-- The count of raised flags is how many there are in their list.
count_listed : (up : ℕ → Bool) (flag n : ℕ) → count_from up flag n ≡ length (raised_from up flag n)
unfolding count_from raised_from
count_listed up flag zero = refl
count_listed up flag (suc n) = by (up flag) (count_listed up (suc flag) n)
  where
    by : (b : Bool) → count_from up (suc flag) n ≡ length (raised_from up (suc flag) n)
        → cond b 1 0 + count_from up (suc flag) n ≡ length (cond b (flag ∷ raised_from up (suc flag) n) (raised_from up (suc flag) n))
    by true e = omega arith
    by false e = omega arith

-- What the lowest of n flags from one on is: none is raised, or it is the first that is.
data Lowest (up : ℕ → Bool) (flag n lowest : ℕ) : Type 0 where
  none : lowest ≡ 0 → ((f : ℕ) → flag ≤ f → f < flag + n → up f ≡ false) → Lowest up flag n lowest
  some : flag ≤ lowest → lowest < flag + n → up lowest ≡ true → ((f : ℕ) → flag ≤ f → f < lowest → up f ≡ false) → Lowest up flag n lowest

lowest_so : (up : ℕ → Bool) (flag n : ℕ) → Lowest up flag n (lowest_from up flag n)
unfolding lowest_from
lowest_so up flag zero = none refl (λ f low high. absurd (omega arith))
lowest_so up flag (suc n) = by (up flag) refl (lowest_from up (suc flag) n) (lowest_so up (suc flag) n)
  where
    first : up flag ≡ false → (f : ℕ) → (flag ≡ f) ⊎ (flag < f) → (suc flag ≤ f → up f ≡ false) → up f ≡ false
    first x f (inl same) h = ap up (sym same) ∙ x
    first x f (inr more) h = h more

    by : (b : Bool) → up flag ≡ b → (rest : ℕ) → Lowest up (suc flag) n rest → Lowest up flag (suc n) (cond b flag rest)
    by true x rest l = some (omega arith) (omega arith) x (λ f low high. absurd (omega arith))
    by false x rest (none z h) = none z (λ f low high. first x f (eq-or-lt_of_le low) (λ more. h f more (omega arith)))
    by false x rest (some low high u h) = some (omega arith) (omega arith) u (λ f least less. first x f (eq-or-lt_of_le least) (λ more. h f more less))

pub counted_so : (alert : List ℕ) → Says alert (raised_count alert) (lowest_raised alert)
counted_so alert = by (lowest_raised alert) (lowest_so (raised alert) 1 64)
  where
    by : (lowest : ℕ) → Lowest (raised alert) 1 64 lowest → Says alert (raised_count alert) lowest
    by lowest (none z h) =
        record {
          how_many = count_listed (raised alert) 1 64;
          none = λ e f low high. h f low (omega arith);
          is_flag = λ e. absurd (e z);
          is_raised = λ e. absurd (e z);
          none_below = λ f low high. absurd (omega arith);
        }
    by lowest (some low high u h) =
        record {
          how_many = count_listed (raised alert) 1 64;
          none = λ e f least most. absurd (omega arith);
          is_flag = λ e. (low, omega arith);
          is_raised = λ e. u;
          none_below = h;
        }

-- Both are at most 64.
count_most : (up : ℕ → Bool) (flag n : ℕ) → count_from up flag n ≤ n
unfolding count_from
count_most up flag zero = omega arith
count_most up flag (suc n) = by (up flag) (count_most up (suc flag) n)
  where
    by : (b : Bool) → count_from up (suc flag) n ≤ n → cond b 1 0 + count_from up (suc flag) n ≤ suc n
    by true h = omega arith
    by false h = omega arith

pub raised_most : (alert : List ℕ) → raised_count alert ≤ 64
raised_most alert = count_most (raised alert) 1 64

pub lowest_most : (alert : List ℕ) → lowest_raised alert ≤ 64
lowest_most alert = by (lowest_raised alert) (lowest_so (raised alert) 1 64)
  where
    by : (lowest : ℕ) → Lowest (raised alert) 1 64 lowest → lowest ≤ 64
    by lowest (none z h) = omega arith
    by lowest (some low high u h) = omega arith

-- The two numbers of eight bytes that were made of them.
module _ (high low : ℕ) (h : high < 256 ^ 4) (l : low < 256 ^ 4) where
  pub high_made : number_at 4 (alert_of high low) 0 ≡ high
  unfolding alert_of
  high_made = number_of_bytes 4 high (bytes_of 4 low) h

  pub low_made : number_at 4 (alert_of high low) 4 ≡ low
  unfolding alert_of
  low_made =
      number_from 4 (bytes_of 4 high) (bytes_of 4 low) 4 (length_bytes 4 high)
      ∙ ap (λ (s : List ℕ). number_at 4 s 0) (sym (append-nil (bytes_of 4 low))) ∙ number_of_bytes 4 low [] l

pub length_alert : (high low : ℕ) → length (alert_of high low) ≡ 8
unfolding alert_of
length_alert high low = length-append (bytes_of 4 high) (bytes_of 4 low) ∙ omega (arith, length_bytes 4 high, length_bytes 4 low)
